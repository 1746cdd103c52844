-- How deep a declarator, or the sizes of a parameter, nests, by its parts.
use Rattle.std.proofs.Common.{◌≡◌, ℕ, suc, ◌+◌, max, List, [], ◌∷◌, length, refl, ap, arith}
use Rattle.c_words.specs.declared.word.Leaf.{Leaf}
use Rattle.c_grammar.specs.declared.types.Star.{Star}
use Rattle.c_grammar.specs.declared.expression.Choice.{Choice}
use Rattle.c_grammar.specs.declared.declaration.Declarator.{Declarator}
use Rattle.c_grammar.specs.declared.declaration.Direct.{Direct}
use Rattle.c_grammar.specs.declared.declaration.Direct.TheVariants as d
use Rattle.c_grammar.specs.declared.declaration.Sizes.{Sizes}
use Rattle.c_grammar.specs.declared.declaration.Sizes.TheVariants as z
use Rattle.c_words.specs.Written.{Written, nothing, ◌then◌, one_of, nested, run}
use Rattle.c_grammar.specs.Types.{star, consts, stars_before}
use Rattle.c_grammar.specs.Expressions.{choice}
use Rattle.c_grammar.specs.Declarations.{array_of, direct, declarator, sizes}
use Rattle.c_grammar.proofs.DeclaratorShapes.{direct-Name, direct-Unsized, direct-Paren, direct-Array, declarator-is, sizes-Unsized, sizes-First, sizes-More}

consts_flat : (cs : List Leaf) → (consts cs).nesting ≡ 0
unfolding run nothing ◌then◌ one_of
consts_flat [] = refl
consts_flat (t ∷ cs) = let i = consts_flat cs in omega (arith, i)

star_flat : (x : Star) → (star x).nesting ≡ 0
unfolding star ◌then◌ one_of
star_flat x = let i = consts_flat x.consts in omega (arith, i)

pub stars_deep : (xs : List Star) (a : Written) → (stars_before xs a).nesting ≡ length xs + a.nesting
unfolding stars_before ◌then◌ nested
stars_deep [] a = omega arith
stars_deep (x ∷ xs) a = let i = stars_deep xs a in let f = star_flat x in omega (arith, i, f)

pub name_nesting : (t : Leaf) → (direct (d.Name t)).nesting ≡ 0
unfolding one_of
name_nesting t = rw (direct-Name t) refl

pub unsized_nesting : (t l r : Leaf) → (direct (d.Unsized t l r)).nesting ≡ 1
unfolding one_of ◌then◌ nested
unsized_nesting t l r = rw (direct-Unsized t l r) (let e : max (suc 0) (max 0 0) ≡ 1 = omega arith in e)

pub paren_nesting : (l : Leaf) (x : Declarator) (r : Leaf) → (direct (d.Paren l x r)).nesting ≡ (declarator x).nesting + 1
unfolding one_of ◌then◌ nested
paren_nesting l x r = rw (direct-Paren l x r) (of (declarator x).nesting)
  where
    of : (n : ℕ) → max 0 (max (suc n) 0) ≡ n + 1
    of n = omega arith

around : (m n : ℕ) → max (suc m) (max 0 (max (suc n) 0)) ≡ max m n + 1
around m n = omega arith

pub array_nesting : (x : Direct) (l : Leaf) (s : Choice) (r : Leaf) → (direct (d.Array x l s r)).nesting ≡ max (direct x).nesting (choice s).nesting + 1
unfolding one_of ◌then◌ nested array_of
array_nesting x l s r = rw (direct-Array x l s r) (around (direct x).nesting (choice s).nesting)

pub declarator_nesting : (x : Declarator) → (declarator x).nesting ≡ length x.stars + (direct x.direct).nesting
declarator_nesting x = rw (declarator-is x) (stars_deep x.stars (direct x.direct))

pub empty_size_nesting : (l r : Leaf) → (sizes (z.Unsized l r)).nesting ≡ 0
unfolding one_of ◌then◌
empty_size_nesting l r = rw (sizes-Unsized l r) (let e : max 0 0 ≡ 0 = omega arith in e)

pub first_size_nesting : (l : Leaf) (s : Choice) (r : Leaf) → (sizes (z.First l s r)).nesting ≡ (choice s).nesting + 1
unfolding one_of ◌then◌ nested
first_size_nesting l s r = rw (sizes-First l s r) (of (choice s).nesting)
  where
    of : (n : ℕ) → max 0 (max (suc n) 0) ≡ n + 1
    of n = omega arith

pub next_size_nesting : (x : Sizes) (l : Leaf) (s : Choice) (r : Leaf) → (sizes (z.More x l s r)).nesting ≡ max (sizes x).nesting (choice s).nesting + 1
unfolding one_of ◌then◌ nested array_of
next_size_nesting x l s r = rw (sizes-More x l s r) (around (sizes x).nesting (choice s).nesting)
