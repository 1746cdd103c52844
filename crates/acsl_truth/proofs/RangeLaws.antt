-- Cells that stand one after the other are a range of offsets: what is among them, and when two such ranges have no cell in common.
use Rattle.std.proofs.Common.{◌≡◌, ℕ, zero, suc, ◌+◌, ◌*◌, ◌<◌, ◌≤◌, Bool, true, false, ◌&&◌, ◌||◌, List, [], ◌∷◌, ◌++◌, length, ℤ, pos, ◌+ℤ◌, inl, inr, refl, sym, ap, ap₂, subst, ◌∙◌, arith, length-append}
use Rattle.std.specs.Prelude.{◌-◌, ◌^◌, min, Option, Some, None, option_map, not, int_le, int_lt}
use Rattle.std.proofs.lemmas.Int.{ints}
use Rattle.std.proofs.lemmas.Bool.{cases_lt}
use Rattle.std.proofs.lemmas.Bool.Decides.{nat_tests}
use Rattle.step_meaning.specs.declared.value.CType.{CType}
use Rattle.step_meaning.specs.declared.value.Name.{Name}
use Rattle.step_meaning.specs.Names.{same_name}
use Rattle.step_meaning.specs.Bounded.{IsWithin}
use Rattle.acsl_truth.specs.declared.ranges.Range.{Range}
use Rattle.acsl_truth.specs.Ranges.{do_meet, AreConsecutive, IsCapped, IsRangeOf, Denotes, is_apart_from_all}
use Rattle.step_meaning.specs.Predicates.{Denoted, object_at, objects_at, is_among, are_disjoint, is_disjoint_from_all, are_disjoint_in_pairs, all_defined, when_defined}

one_further : (o : ℤ) (k : ℕ) → ((o +ℤ pos 1) +ℤ pos k) ≡ (o +ℤ pos (suc k))
one_further o k = omega (arith, ints)

pub object_follows : (n : Name) (o : ℤ) (us : List CType) → AreConsecutive n o (object_at n o us)
object_follows n o [] = tt
object_follows n o (u ∷ us) = (refl, refl, object_follows n (o +ℤ pos 1) us)

pub object_length : (n : Name) (o : ℤ) (us : List CType) → length (object_at n o us) ≡ length us
object_length n o [] = refl
object_length n o (u ∷ us) = ap suc (object_length n (o +ℤ pos 1) us)

pub follows_append : (n : Name) (o : ℤ) (cs ds : List Denoted) → AreConsecutive n o cs → AreConsecutive n (o +ℤ pos (length cs)) ds → AreConsecutive n o (cs ++ ds)
follows_append n o [] ds h i = subst (λ z. AreConsecutive n z ds) (omega (arith, ints)) i
follows_append n o (c ∷ cs) ds h i = (h.0, h.1, follows_append n (o +ℤ pos 1) cs ds h.2 (subst (λ z. AreConsecutive n z ds) (sym (one_further o (length cs))) i))

pub objects_follow : (n : Name) (o : ℤ) (us : List CType) (count : ℕ) → AreConsecutive n o (objects_at n o us count)
objects_follow n o us zero = tt
objects_follow n o us (suc count) =
    follows_append n o (object_at n o us) _ (object_follows n o us)
    (subst (λ k. AreConsecutive n (o +ℤ pos k) (objects_at n (o +ℤ pos (length us)) us count)) (sym (object_length n o us)) (objects_follow n (o +ℤ pos (length us)) us count))

-- ---- what is among the cells

-- one of the k offsets from o on
abbrev pub in_range : ℤ → ℕ → ℤ → Bool
in_range o k x = int_le o x && int_lt x (o +ℤ pos k)

in_none : (o x : ℤ) → in_range o 0 x ≡ false
in_none o x = grind (arith, ints, nat_tests)

-- the first of them, or one of those after it
in_first_or_later : (o x : ℤ) (k : ℕ) → ((int_le x o && int_le o x) || in_range (o +ℤ pos 1) k x) ≡ in_range o (suc k) x
in_first_or_later o x k = grind (arith, ints, nat_tests)

both_or : (b x y : Bool) → ((b && x) || (b && y)) ≡ (b && (x || y))
both_or true x y = refl
both_or false x y = refl

and_none : (b : Bool) → (b && false) ≡ false
and_none true = refl
and_none false = refl

pub among_is : (n : Name) (o : ℤ) (ds : List Denoted) → AreConsecutive n o ds → (c : Denoted) → is_among c ds ≡ (same_name c.name n && in_range o (length ds) c.offset)
among_is n o [] h c = sym (ap (λ b. same_name c.name n && b) (in_none o c.offset) ∙ and_none (same_name c.name n))
among_is n o (d ∷ ds) h c =
    ap (λ m. (same_name c.name m && (int_le c.offset d.offset && int_le d.offset c.offset)) || is_among c ds) h.0
    ∙ ap (λ z. (same_name c.name n && (int_le c.offset z && int_le z c.offset)) || is_among c ds) h.1
    ∙ ap (λ b. (same_name c.name n && (int_le c.offset o && int_le o c.offset)) || b) (among_is n (o +ℤ pos 1) ds h.2 c)
    ∙ both_or (same_name c.name n) (int_le c.offset o && int_le o c.offset) (in_range (o +ℤ pos 1) (length ds) c.offset)
    ∙ ap (λ b. same_name c.name n && b) (in_first_or_later o c.offset (length ds))

-- ---- ranges without a common cell

meet_none : (a b : ℤ) (k : ℕ) → do_meet a 0 b k ≡ false
meet_none a b k = grind (arith, ints, nat_tests)

meet_first_or_later : (a b : ℤ) (j k : ℕ) → (in_range b k a || do_meet (a +ℤ pos 1) j b k) ≡ do_meet a (suc j) b k
meet_first_or_later a b j k = grind (arith, ints, nat_tests)

not_either : (b x y : Bool) → (not (b && x) && not (b && y)) ≡ not (b && (x || y))
not_either true true y = refl
not_either true false y = refl
not_either false x y = refl

pub disjoint_is : (n m : Name) (a b : ℤ) (cs ds : List Denoted) → AreConsecutive n a cs → AreConsecutive m b ds
    → are_disjoint cs ds ≡ not (same_name n m && do_meet a (length cs) b (length ds))
disjoint_is n m a b [] ds h i = sym (ap (λ t. not (same_name n m && t)) (meet_none a b (length ds)) ∙ ap not (and_none (same_name n m)))
disjoint_is n m a b (c ∷ cs) ds h i =
    ap (λ t. not t && are_disjoint cs ds) (among_is m b ds i c)
    ∙ ap (λ p. not (same_name p m && in_range b (length ds) c.offset) && are_disjoint cs ds) h.0
    ∙ ap (λ z. not (same_name n m && in_range b (length ds) z) && are_disjoint cs ds) h.1
    ∙ ap (λ t. not (same_name n m && in_range b (length ds) a) && t) (disjoint_is n m (a +ℤ pos 1) b cs ds h.2 i)
    ∙ not_either (same_name n m) (in_range b (length ds) a) (do_meet (a +ℤ pos 1) (length cs) b (length ds))
    ∙ ap (λ t. not (same_name n m && t)) (meet_first_or_later a b (length cs) (length ds))

-- the number of cells of so many objects
pub objects_length : (n : Name) (o : ℤ) (us : List CType) (count : ℕ) → length (objects_at n o us count) ≡ count * length us
objects_length n o us zero = omega arith
objects_length n o us (suc count) =
    length-append (object_at n o us) (objects_at n (o +ℤ pos (length us)) us count)
    ∙ ap₂ (λ x y. x + y) (object_length n o us) (objects_length n (o +ℤ pos (length us)) us count)
    ∙ grind arith

-- ---- ranges that code keeps

-- where a factor has more than 128 bits, so has the product, or the other factor is 0
capped_product : (count m size cells : ℕ) → size ≡ min m (2 ^ 128 - 1) → cells ≡ min (count * size) (2 ^ 128 - 1) → cells ≡ min (count * m) (2 ^ 128 - 1)
capped_product zero m size cells s e = omega arith
capped_product (suc count) m size cells s e = elim (cases_lt (2 ^ 128 - 1) m) [ inl above ↦ beyond above | inr within ↦ exact within ]
  where
    beyond : (2 ^ 128 - 1) < m → cells ≡ min (suc count * m) (2 ^ 128 - 1)
    beyond h = omega arith

    exact : m ≤ (2 ^ 128 - 1) → cells ≡ min (suc count * m) (2 ^ 128 - 1)
    exact h = let i : size ≡ m = omega arith in e ∙ ap (λ k. min (suc count * k) (2 ^ 128 - 1)) i

pub objects_range : (n : Name) (first : ℤ) (us : List CType) (count size cells : ℕ) → IsWithin first → IsCapped (length us) size → cells ≡ min (count * size) (2 ^ 128 - 1)
    → IsRangeOf (record { name = n; first = first; count = cells }) (objects_at n first us count)
objects_range n first us count size cells w s e =
    record { consecutive = objects_follow n first us count; counted = subst (λ k. IsCapped k cells) (sym (objects_length n first us count)) (capped_product count (length us) size cells s e); begins = w }

pub disjoint_ranges : (r q : Range) (cs ds : List Denoted) (b : Bool) → IsRangeOf r cs → IsRangeOf q ds
    → ((j k : ℕ) → IsCapped j r.count → IsCapped k q.count → IsWithin r.first → IsWithin q.first → b ≡ (same_name r.name q.name && do_meet r.first j q.first k))
    → not b ≡ are_disjoint cs ds
disjoint_ranges r q cs ds b h i f =
    ap not (f (length cs) (length ds) h.counted i.counted h.begins i.begins) ∙ sym (disjoint_is r.name q.name r.first q.first cs ds h.consecutive i.consecutive)

pub disjoint_where_known : (r q : Range) (cs : List Denoted) (o : Option (List Denoted)) (b : Bool) → IsRangeOf r cs → Denotes (Some q) o
    → ((j k : ℕ) → IsCapped j r.count → IsCapped k q.count → IsWithin r.first → IsWithin q.first → b ≡ (same_name r.name q.name && do_meet r.first j q.first k))
    → not b ≡ when_defined (are_disjoint cs) o
disjoint_where_known r q cs None b h i f = absurd i
disjoint_where_known r q cs (Some ds) b h i f = disjoint_ranges r q cs ds b h i f

-- ---- pair by pair

apart_is : (cs : List Denoted) (os : List (Option (List Denoted))) → is_apart_from_all (Some cs) os ≡ when_defined (is_disjoint_from_all cs) (all_defined os)
apart_is cs [] = refl
apart_is cs (None ∷ os) = refl
apart_is cs (Some ds ∷ os) = ap (λ b. are_disjoint cs ds && b) (apart_is cs os) ∙ with_first (all_defined os)
  where
    with_first : (o : Option (List (List Denoted))) → (are_disjoint cs ds && when_defined (is_disjoint_from_all cs) o) ≡ when_defined (is_disjoint_from_all cs) (option_map (λ more. ds ∷ more) o)
    with_first None = and_none (are_disjoint cs ds)
    with_first (Some dss) = refl

pub separated_first : (o : Option (List Denoted)) (os : List (Option (List Denoted)))
    → when_defined are_disjoint_in_pairs (all_defined (o ∷ os)) ≡ (is_apart_from_all o os && when_defined are_disjoint_in_pairs (all_defined os))
separated_first None os = refl
separated_first (Some cs) os = with_rest (all_defined os) ∙ ap (λ b. b && when_defined are_disjoint_in_pairs (all_defined os)) (sym (apart_is cs os))
  where
    with_rest : (o : Option (List (List Denoted))) → when_defined are_disjoint_in_pairs (option_map (λ more. cs ∷ more) o) ≡ (when_defined (is_disjoint_from_all cs) o && when_defined are_disjoint_in_pairs o)
    with_rest None = refl
    with_rest (Some dss) = refl
