-- Declarations, step by step.
use Rattle.std.proofs.Common.{◌≡◌, ℕ, Bool, true, false, List, [], ◌∷◌, ◌++◌, map, Option, Some, None, Ok, Err, refl, sym, ap, ◌∙◌}
use Rattle.std.specs.Prelude.{not, ◌||◌}
use Rattle.c_lexer.specs.declared.token.Place.{Place}
use Rattle.c_grammar.specs.declared.types.Specifier.{Specifier}
use Rattle.c_grammar.specs.declared.types.Specifier.TheVariants as s
use Rattle.step_meaning.specs.declared.value.CType.{CType}
use Rattle.step_meaning.specs.declared.value.CType.TheVariants as type
use Rattle.step_meaning.specs.declared.stmt.Stmt.{Stmt}
use Rattle.typing_rules.specs.declared.fault.TypeFault.TheVariants as fault
use Rattle.typing_rules.specs.Checked.{Checked, ◌>>=◌, kept}
use Rattle.typing_rules.specs.Environment.{Environment, place_of, bytes_in, is_reserved, found_in, specified, tag_number}
use Rattle.typing_rules.specs.Syntax.{Declared}
use Rattle.typing_rules.specs.Declarations.{Layer, layers, layered, count_of, is_complete_in, declarable}
use Rattle.typing_rules.specs.Statements as rules
use Rattle.typing_rules.specs.Statements.{Frame, seen, declare_one, declare_all, declared_as, initialised}
use Rattle.typing_laws.specs.SmallTypes.{WhereOk, IsSmallType}
use Rattle.typing_laws.proofs.DeclaredNames.{MayBeDeclared, declarable_holds}
use Rattle.typing_declarators.specs.Names.{object_type, declared_type}
use Rattle.typing_declarators.specs.Types.{is_specified}
use Rattle.typing_statements.specs.Locals.{local_name, local_type, local_of, MayBeLocal}
use Rattle.typing_statements.specs.Making.{behind, joined}
use Rattle.typing_statements.proofs.Outcomes.{Made}

struct_specified : (at : Place) (n : Option ℕ) → WhereOk (λ t. is_specified t ≡ true) (kept (fault.Unknown at) n >>= (λ k. Ok (type.Struct k)))
unfolding kept
struct_specified at None = tt
struct_specified at (Some k) = refl

-- what stands before a declarator is no pointer and no array
pub specified_is : (g : Environment) (x : Specifier) → WhereOk (λ t. is_specified t ≡ true) (specified g x)
unfolding specified
specified_is g (s.Integer x) = refl
specified_is g (s.Void t) = refl
specified_is g (s.Struct t tag) = struct_specified (place_of tag) (tag_number g.tags (bytes_in g tag))

module _ (g : Environment) (r : CType) (base : CType) (d : Declared) (f : Frame) where
  abbrev judged : CType → Checked (Unit {0})
  judged t =
      let name = local_name g d.declarator.name f in
      declarable (seen g r f) name.place name.again (name.wrong || not (is_complete_in (seen g r f) t)) name.is_value name.reserved t

  abbrev first_judged : Unit {0} → Checked (Unit {0} × Frame)
  first_judged u = Ok (u, f)

  judged_then : (c : Checked (Unit {0})) (t : CType) → ((c >>= first_judged) >>= (λ p. local_of g r d t p.1)) ≡ ((c >>= (λ u. Ok t)) >>= (λ t. local_of g r d t f))
  judged_then (Ok u) t = refl
  judged_then (Err e) t = refl

  abbrev first_layers : List Layer → Checked (List Layer × Frame)
  first_layers ls = Ok (ls, f)

  layers_then : (c : Checked (List Layer)) → ((c >>= first_layers) >>= (λ p. rules.judged g r d.declarator.name (layered p.0 base) p.1 >>= (λ q. local_of g r d (layered p.0 base) q.1)))
      ≡ ((c >>= (λ ls. object_type (seen g r f) (local_name g d.declarator.name f) ls base)) >>= (λ t. local_of g r d t f))
  unfolding object_type
  layers_then (Ok ls) = judged_then (judged (layered ls base)) (layered ls base)
  layers_then (Err e) = refl

  -- a declaration is its type and then the local
  pub declare_one_is : declare_one g r base d f ≡ (local_type g r base d f >>= (λ t. local_of g r d t f))
  unfolding declare_one local_type local_of declared_type
  declare_one_is = layers_then (layers (seen g r f) (count_of d.initialiser) d.declarator.modifiers)

  abbrev May : CType → Type 0
  May t = MayBeLocal g d.declarator.name t f

  kept_by : (t : CType) (wrong : Bool) (c : Checked (Unit {0})) → WhereOk (λ u. MayBeDeclared (seen g r f) (local_name g d.declarator.name f).again wrong false (local_name g d.declarator.name f).reserved t) c → WhereOk May (c >>= (λ u. Ok t))
  kept_by t wrong (Ok u) m = record { new = m.new; small = m.small }
  kept_by t wrong (Err e) m = tt

  layers_may : (c : Checked (List Layer)) → WhereOk May (c >>= (λ ls. object_type (seen g r f) (local_name g d.declarator.name f) ls base))
  unfolding object_type
  layers_may (Ok ls) =
      let t : CType = layered ls base in
      let name = local_name g d.declarator.name f in
      kept_by t (name.wrong || not (is_complete_in (seen g r f) t)) (judged t) (declarable_holds (seen g r f) name.place name.again (name.wrong || not (is_complete_in (seen g r f) t)) name.is_value name.reserved t)
  layers_may (Err e) = tt

  -- where the type is there, the local may be declared
  pub type_may : WhereOk May (local_type g r base d f)
  unfolding local_type declared_type
  type_may = layers_may (layers (seen g r f) (count_of d.initialiser) d.declarator.modifiers)

module _ (g : Environment) (r : CType) where
  pub declare_all_next : (base : CType) (d : Declared) (ds : List Declared) (f : Frame) → declare_all g r base (d ∷ ds) f ≡ joined (declare_one g r base d f) (declare_all g r base ds)
  unfolding declare_all joined behind
  declare_all_next base d ds f = refl

  pub declare_all_end : (base : CType) (f : Frame) → declare_all g r base [] f ≡ Ok ([], f)
  unfolding declare_all
  declare_all_end base f = refl
