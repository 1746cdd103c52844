-- The scope of a function, as its parameters are added.
use Rattle.std.proofs.Common.{◌≡◌, ℕ, suc, ◌+◌, Bool, true, false, ◌||◌, List, [], ◌∷◌, ◌++◌, length, Some, None, refl, sym, ap, subst, ◌∙◌, append_assoc, arith}
use Rattle.std.specs.Prelude.{is_some, if◌then◌else◌}
use Rattle.std.specs.List.{AllByRecursion}
use Rattle.std.specs.Str.{bytes_eq}
use Rattle.step_meaning.specs.declared.value.CType.{CType}
use Rattle.step_meaning.specs.declared.value.NameKind.TheVariants as names
use Rattle.step_meaning.specs.declared.program.Declared.{Declared as Named}
use Rattle.typing_rules.specs.declared.operand.Entry.{Entry}
use Rattle.typing_rules.specs.declared.operand.Entry.TheVariants as entry
use Rattle.typing_rules.specs.Environment.{Scope, found_in}
use Rattle.typing_rules.specs.Declarations.{is_within_limit}
use Rattle.typing_rules.specs.FileScope.{tags as tags_of, seen_now}
use Rattle.typing_rules.specs.Functions.{is_repeated, declared_name, parameter_entries, parameter_scope, with_parameters}
use Rattle.typing_rules.specs.Statements.{innermost}
use Rattle.typing_laws.specs.SmallTypes.{IsSmall}
use Rattle.typing_laws.proofs.EachOf.{each_append}
use Rattle.typing_laws.proofs.SmallPrograms.{body_small, parameter_scope_small}
use Rattle.typing_declarators.specs.Types.{StructsHaveCells}
use Rattle.typing_scopes.specs.declared.known.Known.{Known}
use Rattle.typing_scopes.specs.Known.{program, known, frame, state}
use Rattle.typing_scopes.specs.States.{environment, with_parameter, named}
use Rattle.typing_files.specs.Points.{IsSteady}
use Rattle.typing_files.proofs.Points.{cells_there}
use Rattle.typing_functions.specs.Parameters.{IsInFunction}

-- ---- names

has : Scope → List ℕ → Bool
has s name = is_some (found_in s name)

-- a parameter, and what comes after it
with_entry : (w : List ℕ) (x : Entry) (s : Scope) (name : List ℕ) → is_some (found_in (declared_name w x ++ s) name) ≡ (is_some (found_in (declared_name w x) name) || is_some (found_in s name))
unfolding found_in
with_entry [] x s name = refl
with_entry (c ∷ cs) x s name = by (bytes_eq (c ∷ cs) name)
  where
    by : (b : Bool) → is_some (if b then Some x else found_in s name) ≡ (is_some (if b then Some x else None) || is_some (found_in s name))
    by true = refl
    by false = refl

nameless : (w : List ℕ) (x : Entry) → is_some (found_in (declared_name w x) []) ≡ false
unfolding found_in
nameless [] x = refl
nameless (c ∷ cs) x = refl

entries_nameless : (n : ℕ) (ps : List Named) → is_some (found_in (parameter_entries n ps) []) ≡ false
unfolding found_in
entries_nameless n [] = refl
entries_nameless n (d ∷ ds) =
    with_entry d.name (entry.Variable (record { kind = names.Local; index = n }) d.ctype) (parameter_entries (suc n) ds) []
    ∙ ap (λ b. b || is_some (found_in (parameter_entries (suc n) ds) [])) (nameless d.name (entry.Variable (record { kind = names.Local; index = n }) d.ctype))
    ∙ entries_nameless (suc n) ds

one : (w : List ℕ) (x : Entry) (c : ℕ) (cs : List ℕ) → is_some (found_in (declared_name w x) (c ∷ cs)) ≡ bytes_eq w (c ∷ cs)
unfolding found_in
one [] x c cs = refl
one (d ∷ ds) x c cs = by (bytes_eq (d ∷ ds) (c ∷ cs))
  where
    by : (b : Bool) → is_some (if b then Some x else None) ≡ b
    by true = refl
    by false = refl

entries_named : (n : ℕ) (ps : List Named) (c : ℕ) (cs : List ℕ) → is_some (found_in (parameter_entries n ps) (c ∷ cs)) ≡ is_repeated ps (c ∷ cs)
unfolding found_in
entries_named n [] c cs = refl
entries_named n (d ∷ ds) c cs =
    let x : Entry = entry.Variable (record { kind = names.Local; index = n }) d.ctype in
    with_entry d.name x (parameter_entries (suc n) ds) (c ∷ cs)
    ∙ ap (λ b. b || is_some (found_in (parameter_entries (suc n) ds) (c ∷ cs))) (one d.name x c cs)
    ∙ ap (λ b. bytes_eq d.name (c ∷ cs) || b) (entries_named (suc n) ds c cs)

scope_has : (ps : List Named) (name : List ℕ) → is_some (found_in (parameter_scope ps) name) ≡ is_repeated ps name
scope_has ps [] = entries_nameless 0 ps
scope_has ps (c ∷ cs) = entries_named 0 ps c cs

pub block_has : (k : Known) → IsInFunction k → (name : List ℕ) → is_some (found_in (innermost (frame k).scopes) name) ≡ is_repeated k.locals name
block_has k at name = ap (λ f. is_some (found_in (innermost f.scopes) name)) at.frame ∙ scope_has k.locals name

-- ---- one more parameter

entries_append : (n : ℕ) (ps : List Named) (d : Named) → parameter_entries n (ps ++ (d ∷ [])) ≡ parameter_entries n ps ++ declared_name d.name (entry.Variable (record { kind = names.Local; index = n + length ps }) d.ctype)
entries_append n [] d = right (declared_name d.name (entry.Variable (record { kind = names.Local; index = n }) d.ctype)) ∙ ap (λ m. declared_name d.name (entry.Variable (record { kind = names.Local; index = m }) d.ctype)) (omega arith)
  where
    right : (s : Scope) → s ++ [] ≡ s
    right [] = refl
    right (x ∷ xs) = ap (λ ys. x ∷ ys) (right xs)
entries_append n (p ∷ ps) d =
    let first : Scope = declared_name p.name (entry.Variable (record { kind = names.Local; index = n }) p.ctype) in
    ap (λ s. first ++ s) (entries_append (suc n) ps d)
    ∙ sym (append_assoc first (parameter_entries (suc n) ps) _)
    ∙ ap (λ m. (first ++ parameter_entries (suc n) ps) ++ declared_name d.name (entry.Variable (record { kind = names.Local; index = m }) d.ctype)) (moved n ps)
  where
    moved : (n : ℕ) (ps : List Named) → suc n + length ps ≡ n + suc (length ps)
    moved n ps = omega arith

added : (name : List ℕ) (t : CType) (ps : List Named) → with_parameter name t (record { locals = ps; scopes = parameter_scope ps ∷ [] }) ≡ record { locals = ps ++ (named name t ∷ []); scopes = parameter_scope (ps ++ (named name t ∷ [])) ∷ [] }
added [] t ps = ap (λ s. record { locals = ps ++ (named [] t ∷ []); scopes = s ∷ [] }) (sym (entries_append 0 ps (named [] t) ∙ right (parameter_entries 0 ps)))
  where
    right : (s : Scope) → s ++ [] ≡ s
    right [] = refl
    right (x ∷ xs) = ap (λ ys. x ∷ ys) (right xs)
added (c ∷ cs) t ps = ap (λ s. record { locals = ps ++ (named (c ∷ cs) t ∷ []); scopes = s ∷ [] }) (ap (λ m. parameter_entries 0 ps ++ ((c ∷ cs, entry.Variable (record { kind = names.Local; index = m }) t) ∷ [])) (start ps) ∙ sym (entries_append 0 ps (named (c ∷ cs) t)))
  where
    start : (ps : List Named) → length ps ≡ 0 + length ps
    start ps = omega arith

pub parameter_at : (k k' : Known) (name : List ℕ) (t : CType) → state k' ≡ record (state k) { frame = with_parameter name t (frame k) } → is_within_limit k.layouts t ≡ true → IsInFunction k → IsInFunction k'
parameter_at k k' name t e small at = record {
  tags = ap (λ s. s.tags) e ∙ at.tags ∙ ap tags_of (sym same);
  frame = framed ∙ ap (λ ls. record { locals = ls; scopes = parameter_scope ls ∷ [] }) (sym locals);
  steady = subst IsSteady (sym same) at.steady;
  small = subst (AllByRecursion (λ d. is_within_limit k'.layouts d.ctype ≡ true)) (sym locals) (subst (λ ls. AllByRecursion (λ d. is_within_limit ls d.ctype ≡ true) (k.locals ++ (named name t ∷ []))) (ap (λ p. p.layouts) (sym same)) (each_append (λ d. is_within_limit k.layouts d.ctype ≡ true) k.locals _ at.small (small, tt)));
}
  where
    same : program k' ≡ program k
    same = ap (λ s. s.program) e

    framed : frame k' ≡ record { locals = k.locals ++ (named name t ∷ []); scopes = parameter_scope (k.locals ++ (named name t ∷ [])) ∷ [] }
    framed = ap (λ s. s.frame) e ∙ ap (with_parameter name t) at.frame ∙ added name t k.locals

    locals : k'.locals ≡ k.locals ++ (named name t ∷ [])
    locals = ap (λ f. f.locals) framed

-- ---- what a point between parameters sees

pub sees_parameters : (k : Known) → IsInFunction k → known k ≡ with_parameters (seen_now (program k)) k.locals
sees_parameters k at = ap (λ f. environment (record { program = program k; tags = k.tags; frame = f })) at.frame ∙ ap (λ ts. environment (record { program = program k; tags = ts; frame = record { locals = k.locals; scopes = parameter_scope k.locals ∷ [] } })) at.tags

pub small_parameters : (k : Known) → IsInFunction k → IsSmall (known k)
small_parameters k at =
    subst IsSmall (sym (sees_parameters k at)) (body_small (program k) at.steady.small (record { locals = k.locals; scopes = parameter_scope k.locals ∷ [] }) (parameter_scope_small k.layouts k.locals at.small, tt))

pub cells_parameters : (k : Known) → IsInFunction k → StructsHaveCells (known k).layouts
cells_parameters k at = cells_there (program k) at.steady
