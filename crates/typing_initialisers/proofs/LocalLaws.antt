-- The statements that initialise the cells of a local, one after another.
use Rattle.std.proofs.Common.{◌≡◌, ℕ, suc, List, [], ◌∷◌, ◌++◌, length, Ok, Err, refl, sym, ap, ◌∙◌, append_assoc, arith}
use Rattle.step_meaning.specs.declared.value.CType.{CType}
use Rattle.step_meaning.specs.declared.value.NameKind.TheVariants as names
use Rattle.step_meaning.specs.declared.expr.Variable.{Variable}
use Rattle.step_meaning.specs.declared.stmt.Stmt.{Stmt}
use Rattle.step_meaning.specs.declared.stmt.Stmt.TheVariants as core
use Rattle.typing_rules.specs.declared.fault.TypeFault.{TypeFault}
use Rattle.typing_rules.specs.Checked.{◌>>=◌}
use Rattle.typing_rules.specs.Environment.{Environment}
use Rattle.typing_rules.specs.Syntax.{Initialiser}
use Rattle.typing_rules.specs.Initialisers.{Cell, local_cells}
use Rattle.typing_rules.specs.Statements.{init_statements}
use Rattle.typing_declarators.specs.Adding.{extended}
use Rattle.typing_declarators.proofs.LayerLaws.{same_Ok}
use Rattle.typing_initialisers.specs.Locals.{inits}

pub none_left : {A : Type 0} (xs : List A) → length xs ≡ 0 → xs ≡ []
none_left [] h = refl
none_left (x ∷ xs) h = absurd (omega arith)

one_then : {A : Type 0} (old new xs : List A) (x : A) → extended old (Ok (x ∷ [])) ≡ Ok new → extended old (Ok (x ∷ xs)) ≡ extended new (Ok xs)
unfolding extended
one_then old new xs x e = ap (λ ys. Ok ys) (sym (append_assoc old (x ∷ []) xs) ∙ ap (λ ys. ys ++ xs) (same_Ok (old ++ x ∷ []) new e))

abbrev pub local : ℕ → Variable
local n = record { kind = names.Local; index = n }

-- in a program at this point, and a function with this result
module _ (g : Environment) (r : CType) where
  -- the statement of the first cell, and then those of the others
  pub first_then : (n o : ℕ) (c : Cell) (cs : List Cell) (old new : List Stmt) → extended old (Ok (core.Init (local n) o c.0 c.1 ∷ [])) ≡ Ok new → extended old (Ok (init_statements g r n o (c ∷ cs))) ≡ extended new (Ok (init_statements g r n (suc o) cs))
  unfolding init_statements
  first_then n o c cs old new e = one_then old new (init_statements g r n (suc o) cs) (core.Init (local n) o c.0 c.1) e

  pub no_more : (n o : ℕ) (old : List Stmt) → extended old (Ok (init_statements g r n o [])) ≡ extended old (Ok [])
  unfolding init_statements
  no_more n o old = refl

  pub inits_of : (n : ℕ) (t : CType) (x : Initialiser) (cs : List Cell) → local_cells g t x ≡ Ok cs → inits g r n t x ≡ Ok (init_statements g r n 0 cs)
  unfolding inits
  inits_of n t x cs e = ap (λ c. c >>= (λ cs. Ok (init_statements g r n 0 cs))) e

  pub broken_inits : (n : ℕ) (t : CType) (x : Initialiser) (e : TypeFault) → local_cells g t x ≡ Err e → inits g r n t x ≡ Err e
  unfolding inits
  broken_inits n t x e h = ap (λ c. c >>= (λ cs. Ok (init_statements g r n 0 cs))) h
