-- The rules on a declared name are the same where the sizes of its type are counted, and where they are kept so is the type.
use Rattle.std.proofs.Common.{◌≡◌, ◌≢◌, Bool, true, false, List, [], ◌∷◌, map, length, Ok, Err, refl, sym, ap, ◌∙◌}
use Rattle.std.specs.Prelude.{not, ◌&&◌, ◌||◌}
use Rattle.std.specs.List.{AllByRecursion}
use Rattle.c_lexer.specs.declared.token.Place.{Place}
use Rattle.step_meaning.specs.declared.value.CType.{CType}
use Rattle.typing_rules.specs.declared.fault.TypeFault.{TypeFault}
use Rattle.typing_rules.specs.declared.fault.TypeFault.TheVariants as fault
use Rattle.typing_rules.specs.Checked.{Checked, ◌>>=◌, Gives, none_of}
use Rattle.typing_rules.specs.Environment.{Environment}
use Rattle.typing_rules.specs.Declarations as rules
use Rattle.typing_rules.specs.Declarations.{layered, is_complete_in, is_within_limit, is_struct, declarable}
use Rattle.typing_declarators.specs.declared.name.DeclaredName.{DeclaredName}
use Rattle.typing_declarators.specs.Adding.{extended}
use Rattle.typing_declarators.specs.Layers.{counted, counted_layers}
use Rattle.typing_declarators.specs.Names.{object_type}
use Rattle.typing_declarators.specs.Types.{is_specified, HasElements, StructsHaveCells}
use Rattle.typing_declarators.proofs.CountedTypes.{counted_complete, counted_limit, counted_same}
use Rattle.typing_declarators.proofs.LayerLaws.{OnLayers, SameOutcome, same_Ok, ok_is_no_error}

-- the rules on a name, by what they see of its type: whether it is complete, a struct, and within the limit
abbrev judged : DeclaredName → Bool → Bool → Bool → Checked (Unit {0})
judged n complete struct limit =
    none_of ((n.again, fault.Redeclared n.place)
    ∷ (n.wrong || not complete, fault.Mismatch n.place)
    ∷ (n.is_value && struct, fault.StructValue n.place)
    ∷ (n.reserved, fault.Reserved n.place)
    ∷ (not limit, fault.TooLarge n.place) ∷ [])

struct_counted : (ls : List rules.Layer) (base : CType) → is_struct (layered (map counted ls) base) ≡ is_struct (layered ls base)
unfolding layered
struct_counted [] base = refl
struct_counted (rules.Pointing ∷ ls) base = refl
struct_counted (rules.Sized n ∷ ls) base = refl

-- of a name that keeps its rules
kept_rules : (a w c v r l : Bool) (at : Place) → SameOutcome (none_of ((a, fault.Redeclared at) ∷ (w || not c, fault.Mismatch at) ∷ (v, fault.StructValue at) ∷ (r, fault.Reserved at) ∷ (not l, fault.TooLarge at) ∷ [])) (Ok tt) → (c ≡ true) × (l ≡ true)
unfolding none_of
kept_rules true w c v r l at e = absurd (ok_is_no_error tt (fault.Redeclared at) (sym e))
kept_rules false true c v r l at e = absurd (ok_is_no_error tt (fault.Mismatch at) (sym e))
kept_rules false false false v r l at e = absurd (ok_is_no_error tt (fault.Mismatch at) (sym e))
kept_rules false false true true r l at e = absurd (ok_is_no_error tt (fault.StructValue at) (sym e))
kept_rules false false true false true l at e = absurd (ok_is_no_error tt (fault.Reserved at) (sym e))
kept_rules false false true false false false at e = absurd (ok_is_no_error tt (fault.TooLarge at) (sym e))
kept_rules false false true false false true at e = (refl, refl)

-- the rules on the name at a type
abbrev pub at_type : Environment → DeclaredName → CType → Checked (Unit {0})
at_type g n t = declarable g n.place n.again (n.wrong || not (is_complete_in g t)) n.is_value n.reserved t

module _ (g : Environment) (n : DeclaredName) (ls : List rules.Layer) (base : CType) where
  same_rules : at_type g n (layered (map counted ls) base) ≡ at_type g n (layered ls base)
  same_rules =
      ap (λ c. judged n c (is_struct (layered (map counted ls) base)) (is_within_limit g.layouts (layered (map counted ls) base))) (counted_complete (length g.layouts) (length g.tags) ls base)
      ∙ ap (λ s. judged n (is_complete_in g (layered ls base)) s (is_within_limit g.layouts (layered (map counted ls) base))) (struct_counted ls base)
      ∙ ap (λ l. judged n (is_complete_in g (layered ls base)) (is_struct (layered ls base)) l) (counted_limit g.layouts ls base)

  pub broken_rule : (cs : List rules.Layer) (e : TypeFault) → map counted ls ≡ cs → at_type g n (layered cs base) ≡ Err e → object_type g n ls base ≡ Err e
  unfolding object_type
  broken_rule cs e is h = ap (λ c. c >>= (λ u. Ok (layered ls base))) (sym same_rules ∙ ap (λ cs. at_type g n (layered cs base)) is ∙ h)

  pub no_broken_rule : StructsHaveCells g.layouts → (cs : List rules.Layer) → map counted ls ≡ cs → AllByRecursion HasElements ls → is_specified base ≡ true → at_type g n (layered cs base) ≡ Ok tt → object_type g n ls base ≡ Ok (layered cs base)
  unfolding object_type
  no_broken_rule some cs is p b h =
      let kept = sym same_rules ∙ ap (λ cs. at_type g n (layered cs base)) is ∙ h in
      let parts = kept_rules n.again n.wrong (is_complete_in g (layered ls base)) (n.is_value && is_struct (layered ls base)) n.reserved (is_within_limit g.layouts (layered ls base)) n.place kept in
      let same = counted_same g.layouts some (length g.tags) ls base p b parts.0 parts.1 in
      ap (λ c. c >>= (λ u. Ok (layered ls base))) kept ∙ ap (λ ls. Ok (layered ls base)) (sym same ∙ is)

-- ---- what follows layers

pub after_layers : (o : Checked (List rules.Layer)) (cs : List rules.Layer) (f : List rules.Layer → Checked CType) (r : Checked CType) → extended [] (counted_layers o) ≡ Ok cs → OnLayers o → ((ls : List rules.Layer) → map counted ls ≡ cs → AllByRecursion HasElements ls → Gives (f ls) r) → Gives (o >>= f) r
unfolding extended counted_layers
after_layers (Ok ls) cs f r e p h = h ls (same_Ok (map counted ls) cs e) p
after_layers (Err g) cs f r e p h = absurd (ok_is_no_error cs g (sym e))

pub broken_layers : (o : Checked (List rules.Layer)) (f : List rules.Layer → Checked CType) (e : TypeFault) → (e ≢ fault.Memory → counted_layers o ≡ Err e) → e ≢ fault.Memory → (o >>= f) ≡ Err e
unfolding counted_layers
broken_layers (Ok ls) f e h p = absurd (ok_is_no_error (map counted ls) e (h p))
broken_layers (Err g) f e h p = error g e (h p)
  where
    error : (g e : TypeFault) → SameOutcome {A = List rules.Layer} (Err g) (Err e) → SameOutcome {A = CType} (Err g) (Err e)
    error g e h = cc
