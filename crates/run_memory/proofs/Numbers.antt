-- A number tells its name.
use Rattle.std.proofs.Common.{◌≡◌, ℕ, ◌+◌, ◌*◌, ◌/◌, ◌%◌, ◌<◌, ◌≤◌, refl, arith}
use Rattle.step_meaning.specs.declared.value.NameKind.{NameKind}
use Rattle.step_meaning.specs.declared.value.NameKind.TheVariants as names
use Rattle.step_meaning.specs.declared.value.Name.{Name}
use Rattle.run_memory.specs.Numbering.{kind_code, kind_by, name_number, named_by, IsNumbered}

-- the parts of a number
index_part : (c a i : ℕ) → a < 1099511627776 → i < 4194304 → (c * 4611686018427387904 + (a * 4194304 + i)) % 4194304 ≡ i
index_part c a i p q = omega arith

activation_part : (c a i : ℕ) → a < 1099511627776 → i < 4194304 → (c * 4611686018427387904 + (a * 4194304 + i)) / 4194304 % 1099511627776 ≡ a
activation_part c a i p q = omega arith

kind_part : (c a i : ℕ) → a < 1099511627776 → i < 4194304 → (c * 4611686018427387904 + (a * 4194304 + i)) / 4611686018427387904 ≡ c
kind_part c a i p q = omega arith

kind_back : (k : NameKind) → 1 ≤ kind_code k → kind_by (kind_code k) ≡ k
kind_back names.Global h = refl
kind_back names.Local h = refl
kind_back names.Heap h = refl
kind_back names.Register h = absurd (omega arith)
kind_back names.GhostGlobal h = absurd (omega arith)
kind_back names.GhostLocal h = absurd (omega arith)

pub number_back : (n : Name) → IsNumbered n.kind n.activation n.index → named_by (name_number n.kind n.activation n.index) ≡ n
unfolding name_number named_by
number_back n h =
    rw (kind_part (kind_code n.kind) n.activation n.index h.activation_fits h.index_fits, activation_part (kind_code n.kind) n.activation n.index h.activation_fits h.index_fits, index_part (kind_code n.kind) n.activation n.index h.activation_fits h.index_fits, kind_back n.kind h.in_memory)
    refl
