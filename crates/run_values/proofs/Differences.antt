-- The difference of pointers in elements without cells.
use Rattle.std.proofs.Common.{◌≡◌, ℕ, suc, ◌/◌, ◌∙◌, ap, sym, refl, Bool, true, false}
use Rattle.std.specs.Prelude.{ℤ, pos, negsuc, neg_ℤ, int_div, int_rem, ◌-ℤ◌, if◌then◌else◌, Ok, Err}
use Rattle.std.proofs.Math.Nat.{mod-zero, mod-one, div-zero, div-one}
use Rattle.step_meaning.specs.declared.value.Value.{Value}
use Rattle.step_meaning.specs.declared.value.Value.TheVariants.{Int, Null, Pointer}
use Rattle.step_meaning.specs.declared.value.RunFault.TheVariants as fault
use Rattle.step_meaning.specs.Names.{distance, in_units, same_name}
use Rattle.step_meaning.specs.Numbers.{Checked, is_zero}
use Rattle.run_values.specs.Operands.{in_no_units}

units : (d : ℤ) → in_units d 0 ≡ in_no_units (in_units d 1)
units (pos n) =
    let none : ◌≡◌ {A = Checked ℤ} (in_units (pos n) 0) (if is_zero (pos n) then Ok (pos 0) else Err fault.Pointer) =
    ap (λ x. if is_zero (pos x) then Ok (pos (n / 0)) else Err fault.Pointer) (mod-zero n) ∙ ap (λ x. if is_zero (pos n) then Ok (pos x) else Err fault.Pointer) (div-zero n) in
    let single : ◌≡◌ {A = Checked ℤ} (in_units (pos n) 1) (Ok (pos n)) =
    ap (λ x. if is_zero (pos x) then Ok (pos (n / 1)) else Err fault.Pointer) (mod-one n) ∙ ap (λ x. Ok (pos x)) (div-one n) in
    none ∙ sym (ap in_no_units single)
units (negsuc n) =
    let none : ◌≡◌ {A = Checked ℤ} (in_units (negsuc n) 0) (Err fault.Pointer) =
    ap (λ x. if is_zero (neg_ℤ (pos x)) then Ok (neg_ℤ (pos (suc n / 0))) else Err fault.Pointer) (mod-zero (suc n)) in
    let single : ◌≡◌ {A = Checked ℤ} (in_units (negsuc n) 1) (Ok (negsuc n)) =
    ap (λ x. if is_zero (neg_ℤ (pos x)) then Ok (neg_ℤ (pos (suc n / 1))) else Err fault.Pointer) (mod-one (suc n)) ∙ ap (λ x. Ok (neg_ℤ (pos x))) (div-one (suc n)) in
    none ∙ sym (ap in_no_units single)

related : (b : Bool) (d : ℤ) → (if b then in_units d 0 else Err fault.Pointer) ≡ in_no_units (if b then in_units d 1 else Err fault.Pointer)
related true d = units d
related false d = refl

without_size : (p q : Value) → distance p q 0 ≡ in_no_units (distance p q 1)
without_size (Pointer n o) (Pointer m i) = related (same_name n m) (pos o -ℤ pos i)
without_size (Pointer n o) Null = refl
without_size (Pointer n o) (Int z) = refl
without_size Null (Pointer m i) = refl
without_size Null Null = refl
without_size Null (Int z) = refl
without_size (Int z) (Pointer m i) = refl
without_size (Int z) Null = refl
without_size (Int z) (Int y) = refl

pub no_size : (p q : Value) (size : ℕ) → size ≡ 0 → distance p q size ≡ in_no_units (distance p q 1)
no_size p q size h = ap (distance p q) h ∙ without_size p q
