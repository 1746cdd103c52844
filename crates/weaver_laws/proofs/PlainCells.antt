-- Cells that locations denote, without their types: all that `\separated` looks at.
use Rattle.std.proofs.Common.{◌≡◌, ℕ, zero, suc, not, ◌&&◌, ◌||◌, List, [], ◌∷◌, ◌++◌, map, length, Option, Some, None, refl, sym, ap, ap₂, ◌∙◌, arith}
use Rattle.std.specs.Prelude.{ℤ, pos, ◌*ℤ◌, ◌+ℤ◌, option_map}
use Rattle.step_meaning.specs.declared.value.CType.{CType}
use Rattle.step_meaning.specs.declared.value.CType.TheVariants as type
use Rattle.step_meaning.specs.declared.value.Name.{Name}
use Rattle.step_meaning.specs.Terms.{TermValue, Number, NullPointer, PointerInto}
use Rattle.step_meaning.specs.Predicates.{Denoted, object_at, objects_at, objects_between, count_from_to, same_cell, is_among, are_disjoint, is_disjoint_from_all, are_disjoint_in_pairs, all_defined, when_defined}

-- ---- cells without their types: all that `\separated` looks at

abbrev plain : Denoted → Denoted
plain d = record d { ctype = type.Void }

abbrev pub plains : List Denoted → List Denoted
plains ds = map plain ds

plain_among : (c : Denoted) (ds : List Denoted) → is_among c ds ≡ is_among (plain c) (plains ds)
plain_among c [] = refl
plain_among c (d ∷ ds) = ap (λ b. same_cell c d || b) (plain_among c ds)

plain_disjoint : (cs ds : List Denoted) → are_disjoint cs ds ≡ are_disjoint (plains cs) (plains ds)
plain_disjoint [] ds = refl
plain_disjoint (c ∷ cs) ds = ap₂ (λ a b. not a && b) (plain_among c ds) (plain_disjoint cs ds)

plain_from_all : (cs : List Denoted) (dss : List (List Denoted)) → is_disjoint_from_all cs dss ≡ is_disjoint_from_all (plains cs) (map plains dss)
plain_from_all cs [] = refl
plain_from_all cs (ds ∷ dss) = ap₂ (λ a b. a && b) (plain_disjoint cs ds) (plain_from_all cs dss)

plain_pairs : (dss : List (List Denoted)) → are_disjoint_in_pairs dss ≡ are_disjoint_in_pairs (map plains dss)
plain_pairs [] = refl
plain_pairs (ds ∷ dss) = ap₂ (λ a b. a && b) (plain_from_all ds dss) (plain_pairs dss)

pub plain_defined : (o : Option (List (List Denoted))) → when_defined are_disjoint_in_pairs o ≡ when_defined are_disjoint_in_pairs (option_map (map plains) o)
plain_defined None = refl
plain_defined (Some dss) = plain_pairs dss

plain_append : (xs ys : List Denoted) → plains (xs ++ ys) ≡ plains xs ++ plains ys
plain_append [] ys = refl
plain_append (x ∷ xs) ys = ap (λ zs. plain x ∷ zs) (plain_append xs ys)

abbrev with_first : Option (List Denoted) → Option (List (List Denoted)) → Option (List (List Denoted))
with_first None os = None
with_first (Some d) os = option_map (λ more. d ∷ more) os

with_first_is : (x : Option (List Denoted)) (o : Option (List (List Denoted))) → option_map (map plains) (with_first x o) ≡ with_first (option_map plains x) (option_map (map plains) o)
with_first_is None o = refl
with_first_is (Some d) None = refl
with_first_is (Some d) (Some more) = refl

all_with_first : (x : Option (List Denoted)) (xs : List (Option (List Denoted))) → all_defined (x ∷ xs) ≡ with_first x (all_defined xs)
all_with_first None xs = refl
all_with_first (Some d) xs = refl

pub plain_step : (x y : Option (List Denoted)) (xs ys : List (Option (List Denoted))) → option_map plains x ≡ option_map plains y → option_map (map plains) (all_defined xs) ≡ option_map (map plains) (all_defined ys)
    → option_map (map plains) (all_defined (x ∷ xs)) ≡ option_map (map plains) (all_defined (y ∷ ys))
plain_step x y xs ys e f =
    ap (λ o. option_map (map plains) o) (all_with_first x xs) ∙ (with_first_is x (all_defined xs)
    ∙ (ap₂ (λ a b. with_first a b) e f ∙ (sym (with_first_is y (all_defined ys)) ∙ sym (ap (λ o. option_map (map plains) o) (all_with_first y ys)))))

same_tail : (n m : ℕ) → suc n ≡ suc m → n ≡ m
same_tail n m e = omega arith

plain_object : (n : Name) (o : ℤ) (us ws : List CType) → length us ≡ length ws → plains (object_at n o us) ≡ plains (object_at n o ws)
plain_object n o [] [] e = refl
plain_object n o [] (w ∷ ws) e = absurd (omega arith)
plain_object n o (u ∷ us) [] e = absurd (omega arith)
plain_object n o (u ∷ us) (w ∷ ws) e = ap (λ ds. record { name = n; offset = o; ctype = type.Void } ∷ ds) (plain_object n (o +ℤ pos 1) us ws (same_tail (length us) (length ws) e))

plain_objects : (n : Name) (o : ℤ) (us ws : List CType) (count : ℕ) → length us ≡ length ws → plains (objects_at n o us count) ≡ plains (objects_at n o ws count)
plain_objects n o us ws zero e = refl
plain_objects n o us ws (suc count) e =
    plain_append (object_at n o us) (objects_at n (o +ℤ pos (length us)) us count)
    ∙ (ap₂ (λ xs ys. xs ++ ys) (plain_object n o us ws e) (plain_objects n (o +ℤ pos (length us)) us ws count e ∙ ap (λ k. plains (objects_at n (o +ℤ pos k) ws count)) e)
    ∙ sym (plain_append (object_at n o ws) (objects_at n (o +ℤ pos (length ws)) ws count)))

pub plain_between : (v x y : Option TermValue) (us ws : List CType) → length us ≡ length ws → option_map plains (objects_between v x y us) ≡ option_map plains (objects_between v x y ws)
plain_between None x y us ws e = refl
plain_between (Some v) None y us ws e = refl
plain_between (Some v) (Some NullPointer) y us ws e = refl
plain_between (Some v) (Some (PointerInto n o)) y us ws e = refl
plain_between (Some v) (Some (Number a)) None us ws e = refl
plain_between (Some v) (Some (Number a)) (Some NullPointer) us ws e = refl
plain_between (Some v) (Some (Number a)) (Some (PointerInto n o)) us ws e = refl
plain_between (Some (Number z)) (Some (Number a)) (Some (Number b)) us ws e = refl
plain_between (Some NullPointer) (Some (Number a)) (Some (Number b)) us ws e = refl
plain_between (Some (PointerInto n o)) (Some (Number a)) (Some (Number b)) us ws e =
    ap Some (plain_objects n (o +ℤ (a *ℤ pos (length us))) us ws (count_from_to a b) e ∙ ap (λ k. plains (objects_at n (o +ℤ (a *ℤ pos k)) ws (count_from_to a b))) e)
