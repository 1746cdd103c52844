-- What the first words of an item tell: a function, variables, or a struct's declaration.
use Rattle.std.proofs.Common.{◌≡◌, ℕ, zero, suc, ◌+◌, ◌<◌, ◌≤◌, nat_le, Bool, true, false, ◌||◌, ◌&&◌, not, cond, List, [], ◌∷◌, ◌++◌, length, Option, Some, None, refl, sym, ap, ap₂, subst, ◌∙◌, arith}
use Rattle.std.proofs.lemmas.Bool.Decides.{nat_tests}
use Rattle.c_words.specs.declared.word.Word.{Word}
use Rattle.c_words.specs.declared.word.Word.TheVariants as w
use Rattle.c_words.specs.declared.word.Leaf.{Leaf}
use Rattle.c_words.specs.declared.chain.Chain.{Chain}
use Rattle.c_words.specs.declared.chain.Link.{Link}
use Rattle.c_grammar.specs.declared.types.Specifier.{Specifier}
use Rattle.c_grammar.specs.declared.types.Specifier.TheVariants as s
use Rattle.c_grammar.specs.declared.types.Integer.{Integer}
use Rattle.c_grammar.specs.declared.types.Base.{Base}
use Rattle.c_grammar.specs.declared.types.Star.{Star}
use Rattle.c_grammar.specs.declared.expression.Choice.{Choice}
use Rattle.c_grammar.specs.declared.declaration.Declarator.{Declarator}
use Rattle.c_grammar.specs.declared.declaration.Direct.{Direct}
use Rattle.c_grammar.specs.declared.declaration.Direct.TheVariants as d
use Rattle.c_grammar.specs.declared.declaration.Declared.{Declared}
use Rattle.c_grammar.specs.declared.declaration.Declared.TheVariants as e
use Rattle.c_words.specs.Words.{same}
use Rattle.c_words.specs.Written.{Written, nothing, ◌then◌, one, one_of, nested, only, run, links, chain, Takes}
use Rattle.c_grammar.specs.Types.{integer, specifier, consts, base, star, stars_alone, stars_before}
use Rattle.c_words.specs.OperatorWords.{is_comma}
use Rattle.c_grammar.specs.Expressions.{choice}
use Rattle.c_grammar.specs.Declarations.{array_of, direct, declarator, declared, is_unsized}
use Rattle.c_grammar.specs.Programs.{is_variable_prefix, is_function_prefix}
use Rattle.c_words.specs.Parsing.{Leaves, word_at, after}
use Rattle.c_words.proofs.Taking.{nothing-Takes, Takes-then, then-Takes, one-Takes, both, first_of_both, second_of_both}
use Rattle.c_words.proofs.Reading.{after-one, take_if-word, word_is, Starts}
use Rattle.c_declarations.specs.DeclaratorReading.{begins_direct, begins_declarator}
use Rattle.c_grammar.proofs.DeclaratorShapes.{direct_cases, direct-Name, direct-Unsized, direct-Paren, direct-Array, declarator-is}
use Rattle.c_type_names.specs.TypeReading.{begins_integer, begins_type}
use Rattle.c_type_names.proofs.TypeLaws.{integer-Starts, base-Starts, star-word}
use Rattle.c_parser.specs.ItemReading as read
use Rattle.c_parser.specs.ItemReading.{skip, is_pointer, is_called, leading_stars, all_variable_prefixes, is_struct}
use Rattle.c_declarations.proofs.DeclaratorLaws.{direct-Starts}

-- ---- a run of `*` and `const`

pub skip_none : (ts : Leaves) → is_pointer (word_at ts) ≡ false → skip is_pointer ts ≡ ts
unfolding skip word_at
skip_none [] h = refl
skip_none (t ∷ ts) h = of (is_pointer t.word) h
  where
    of : (b : Bool) → b ≡ false → cond b (skip is_pointer ts) (t ∷ ts) ≡ t ∷ ts
    of true h = cc
    of false h = refl

skip_one : (t : Leaf) (ts mid : Leaves) → ts ≡ t ∷ mid → is_pointer t.word ≡ true → skip is_pointer ts ≡ skip is_pointer mid
unfolding skip
skip_one t ts mid e h = ap (skip is_pointer) e ∙ of (is_pointer t.word) h
  where
    of : (b : Bool) → b ≡ true → cond b (skip is_pointer mid) (t ∷ mid) ≡ skip is_pointer mid
    of true h = refl
    of false h = cc

const_pointer : (x : Word) → same w.Const x ≡ true → is_pointer x ≡ true
const_pointer w.Const h = refl
const_pointer _ h = cc

star_pointer : (x : Word) → same w.Star x ≡ true → is_pointer x ≡ true
star_pointer w.Star h = refl
star_pointer _ h = cc

const_not_star : (x : Word) → same w.Const x ≡ true → same w.Star x ≡ false
const_not_star w.Const h = refl
const_not_star _ h = cc

skip_consts : (cs : List Leaf) {k : ℕ} {ts rest : Leaves} → Takes k ts (consts cs) rest → skip is_pointer ts ≡ skip is_pointer rest
unfolding run
skip_consts [] h = ap (skip is_pointer) (nothing-Takes h)
skip_consts (t ∷ cs) h =
    let s = then-Takes h in
    let e = one-Takes (same w.Const) t s.first in
    skip_one t _ _ e.0 (const_pointer _ e.1) ∙ skip_consts cs s.second

skip_star : {k : ℕ} {ts rest : Leaves} (x : Star) → Takes k ts (star x) rest → skip is_pointer ts ≡ skip is_pointer rest
unfolding star
skip_star x h =
    let t = then-Takes h in
    let e = one-Takes (same w.Star) x.star t.first in
    skip_one x.star _ _ e.0 (star_pointer _ e.1) ∙ skip_consts x.consts t.second

unnested : {k : ℕ} {ts rest : Leaves} {a : Written} → Takes k ts (nested a) rest → Takes k ts a rest
unfolding nested
unnested h = record { spelled = h.spelled; levelled = h.levelled; below = omega (arith, h.below) }

pub skip_alone : (xs : List Star) {k : ℕ} {ts rest : Leaves} → Takes k ts (stars_alone xs) rest → skip is_pointer ts ≡ skip is_pointer rest
unfolding stars_alone
skip_alone [] h = ap (skip is_pointer) (nothing-Takes h)
skip_alone (x ∷ []) h = skip_star x h
skip_alone (x ∷ y ∷ xs) h = let r = then-Takes h in skip_star x r.first ∙ skip_alone (y ∷ xs) (unnested r.second)

-- ---- how many stars stand there

of_const : (t : Leaf) (ts : Leaves) → same w.Const t.word ≡ true → leading_stars (t ∷ ts) ≡ leading_stars ts
unfolding leading_stars
of_const t ts h = rw (const_not_star t.word h, h) refl

of_star : (t : Leaf) (ts : Leaves) → same w.Star t.word ≡ true → leading_stars (t ∷ ts) ≡ suc (leading_stars ts)
unfolding leading_stars
of_star t ts h = rw h refl

count_consts : (cs : List Leaf) {k : ℕ} {ts rest : Leaves} → Takes k ts (consts cs) rest → leading_stars ts ≡ leading_stars rest
unfolding run
count_consts [] h = ap leading_stars (nothing-Takes h)
count_consts (t ∷ cs) h =
    let s = then-Takes h in
    let e = one-Takes (same w.Const) t s.first in
    ap leading_stars e.0 ∙ of_const t s.mid e.1 ∙ count_consts cs s.second

count_star : {k : ℕ} {ts rest : Leaves} (x : Star) → Takes k ts (star x) rest → leading_stars ts ≡ suc (leading_stars rest)
unfolding star
count_star x h =
    let t = then-Takes h in
    let e = one-Takes (same w.Star) x.star t.first in
    ap leading_stars e.0 ∙ of_star x.star t.mid e.1 ∙ ap suc (count_consts x.consts t.second)

count_none : (ts : Leaves) → begins_direct (word_at ts) ≡ true → leading_stars ts ≡ 0
unfolding leading_stars word_at
count_none [] h = refl
count_none (t ∷ ts) h = of t.word h
  where
    of : (x : Word) → begins_direct x ≡ true → cond (same w.Star x) (suc (leading_stars ts)) (cond (same w.Const x) (leading_stars ts) 0) ≡ 0
    of w.Name h = refl
    of w.LeftParen h = refl
    of _ h = cc

-- a declarator's stars nest below k, so there are fewer than k
record AfterStars (k : ℕ) (ts : Leaves) (x : Direct) (rest : Leaves) : Type 0 where
  pub mid : Leaves
  pub below : ℕ
  pub takes : Takes below mid (direct x) rest
  pub skipped : skip is_pointer ts ≡ skip is_pointer mid
  pub few : leading_stars ts < k

after_stars : (xs : List Star) (x : Direct) {k : ℕ} {ts rest : Leaves} → Takes k ts (stars_before xs (direct x)) rest → AfterStars k ts x rest
unfolding stars_before nested
after_stars [] x {k = k} {ts = ts} {rest = rest} h =
    let none = count_none ts (direct-Starts.word k ts x rest h) in
    record { mid = ts; below = k; takes = h; skipped = refl; few = omega (arith, none, h.below) }
after_stars (y ∷ ys) x {k = zero} h = absurd (omega (arith, h.below))
after_stars (y ∷ ys) x {k = suc k} {ts = ts} {rest = rest} h =
    let r = then-Takes h in
    let i = after_stars ys x {k = k} (record { spelled = r.second.spelled; levelled = r.second.levelled; below = omega (arith, r.second.below) }) in
    record { mid = i.mid; below = i.below; takes = i.takes; skipped = skip_star y r.first ∙ i.skipped; few = omega (arith, count_star y r.first, i.few) }

-- ---- a declarator is no name before a parenthesis

direct_not_pointer : (x : Word) → begins_direct x ≡ true → is_pointer x ≡ false
direct_not_pointer w.Star h = cc
direct_not_pointer w.Const h = cc
direct_not_pointer _ h = refl

pub second_false : (a b : Bool) → b ≡ false → (a && b) ≡ false
second_false true b h = h
second_false false b h = refl

pub first_false : (a b : Bool) → a ≡ false → (a && b) ≡ false
first_false true b h = cc
first_false false b h = refl

array_nesting : (a : Written) (l : Leaf) (n : Written) (r : Leaf) → a.nesting < (array_of a l n r).nesting
unfolding array_of ◌then◌ nested
array_nesting a l n r = omega arith

direct_uncalled : (j k : ℕ) (a : Direct) (ts rest : Leaves) → (direct a).nesting < j → Takes k ts (direct a) rest → same w.LeftParen (word_at rest) ≡ false → is_called ts ≡ false
unfolding array_of
direct_uncalled zero k a ts rest deep h end = absurd (omega (arith, deep))
direct_uncalled (suc j) k a ts rest deep h end = direct_cases (λ a. (direct a).nesting < suc j → Takes k ts (direct a) rest → is_called ts ≡ false)
    (λ t deep h. second_false _ _ (ap (λ x. same w.LeftParen (word_at x)) (after-one (same w.Name) t (subst (λ v. Takes k ts v rest) (direct-Name t) h)) ∙ end))
    (λ t l r deep h.
    let a = then-Takes (subst (λ v. Takes k ts v rest) (direct-Unsized t l r) h) in
    let b = then-Takes a.second in
    second_false _ _ (ap (λ x. same w.LeftParen (word_at x)) (after-one (same w.Name) t (unnested a.first)) ∙ ap (same w.LeftParen) (word_is w.LeftBracket l b.first)))
    (λ l x r deep h. ap (λ x. same w.Name x && same w.LeftParen (word_at (after ts))) (word_is w.LeftParen l (then-Takes (subst (λ v. Takes k ts v rest) (direct-Paren l x r) h)).first))
    (λ x l n r deep h.
    let t = then-Takes (subst (λ v. Takes k ts v rest) (direct-Array x l n r) h) in
    let less : (direct x).nesting < (direct (d.Array x l n r)).nesting = subst (λ v. (direct x).nesting < v.nesting) (sym (direct-Array x l n r)) (array_nesting (direct x) l (choice n) r) in
    direct_uncalled j k x ts t.mid (omega (arith, deep, less)) (unnested t.first) (ap (same w.LeftParen) (word_is w.LeftBracket l (then-Takes t.second).first)))
    a deep h

-- the leaves begin no function's name, and few stars stand there
pub record NoFunction (k : ℕ) (ts : Leaves) : Type 0 where
  pub uncalled : is_called (skip is_pointer ts) ≡ false
  pub few : leading_stars ts < k

declarator_no_function : {k : ℕ} {ts rest : Leaves} (a : Declarator) → Takes k ts (declarator a) rest → same w.LeftParen (word_at rest) ≡ false → NoFunction k ts
declarator_no_function {k = k} {ts = ts} {rest = rest} a h end =
    let r = after_stars a.stars a.direct (subst (λ v. Takes k ts v rest) (declarator-is a) h) in
    record {
      uncalled = ap is_called (r.skipped ∙ skip_none r.mid (direct_not_pointer (word_at r.mid) (direct-Starts.word r.below r.mid a.direct rest r.takes)))
          ∙ direct_uncalled (suc (direct a.direct).nesting) r.below a.direct r.mid rest (omega arith) r.takes end;
      few = r.few;
    }

assign_not_paren : (x : Word) → same w.Assign x ≡ true → same w.LeftParen x ≡ false
assign_not_paren w.Assign h = refl
assign_not_paren _ h = cc

only-same : {k : ℕ} {ts rest : Leaves} (a : Written) (b : Bool) → Takes k ts (a then only b) rest → Takes k ts a rest
unfolding only nothing
only-same {k = k} {ts = ts} a b h = let r = then-Takes h in subst (λ x. Takes k ts a x) r.second.spelled r.first

declared_no_function : {k : ℕ} {ts rest : Leaves} (a : Declared) → Takes k ts (declared a) rest → same w.LeftParen (word_at rest) ≡ false → NoFunction k ts
unfolding declared
declared_no_function (e.Plain a) h end = declarator_no_function a (only-same _ _ h) end
declared_no_function (e.Initialised a t x) h end =
    let r = then-Takes h in
    declarator_no_function a r.first (assign_not_paren _ (take_if-word (same w.Assign) t (then-Takes r.second).first))

comma_not_paren : (x : Word) → is_comma x ≡ true → same w.LeftParen x ≡ false
comma_not_paren w.Comma h = refl
comma_not_paren _ h = cc

pub names_no_function : {k : ℕ} {ts rest : Leaves} (c : Chain Declared) → Takes k ts (chain is_comma declared c) rest → same w.LeftParen (word_at rest) ≡ false → NoFunction k ts
unfolding chain links
names_no_function c h end = let r = then-Takes h in declared_no_function c.first r.first (of c.rest r.second end)
  where
    of : {k : ℕ} {ts rest : Leaves} (ls : List (Link Declared)) → Takes k ts (links is_comma declared ls) rest → same w.LeftParen (word_at rest) ≡ false → same w.LeftParen (word_at ts) ≡ false
    of [] h end = ap (λ x. same w.LeftParen (word_at x)) (nothing-Takes h) ∙ end
    of (l ∷ ls) h end = comma_not_paren _ (take_if-word is_comma l.operator (then-Takes h).first)

-- ---- prefixes

variable_prefix : (x : Word) → is_variable_prefix x ≡ true → is_function_prefix x ≡ true
variable_prefix w.Static h = refl
variable_prefix w.Const h = refl
variable_prefix _ h = cc

-- prefixes without `extern`
pub narrow : (xs : List Leaf) {k : ℕ} {ts rest : Leaves} → Takes k ts (run (one_of is_function_prefix) xs) rest → all_variable_prefixes xs ≡ true → Takes k ts (run (one_of is_variable_prefix) xs) rest
unfolding run one_of
narrow [] h all = h
narrow (x ∷ xs) h all =
    let r = then-Takes h in
    Takes-then (record { spelled = r.first.spelled; levelled = first_of_both _ _ all; below = r.first.below }) (narrow xs r.second (second_of_both _ _ all))

pub widen : (xs : List Leaf) {k : ℕ} {ts rest : Leaves} → Takes k ts (run (one_of is_variable_prefix) xs) rest → Takes k ts (run (one_of is_function_prefix) xs) rest × (all_variable_prefixes xs ≡ true)
unfolding run one_of
widen [] h = (h, refl)
widen (x ∷ xs) h =
    let r = then-Takes h in
    let i = widen xs r.second in
    (Takes-then (record { spelled = r.first.spelled; levelled = variable_prefix x.word r.first.levelled; below = r.first.below }) i.0, both _ _ r.first.levelled i.1)

-- ---- a struct's declaration against its use

type_not_struct : (x : Word) (b : Bool) → same w.Struct x ≡ false → (same w.Struct x && b) ≡ false
type_not_struct x b h = first_false (same w.Struct x) b h

integer_no_struct : (x : Word) → begins_integer x ≡ true → same w.Struct x ≡ false
integer_no_struct w.Struct h = cc
integer_no_struct _ h = refl

pub base_no_struct : {k : ℕ} {ts rest : Leaves} (a : Base) → Takes k ts (base a) rest → same w.LeftBrace (word_at rest) ≡ false → is_struct ts ≡ false
unfolding base specifier run
base_no_struct {k = k} {ts = ts} {rest = rest} a h end = let r = then-Takes h in of a.specifier r.first (of_consts a.consts r.second)
  where
    of_consts : {mid : Leaves} (cs : List Leaf) → Takes k mid (consts cs) rest → same w.LeftBrace (word_at mid) ≡ false
    of_consts [] h = ap (λ x. same w.LeftBrace (word_at x)) (nothing-Takes h) ∙ end
    of_consts (c ∷ cs) h = ap (same w.LeftBrace) (word_is w.Const c (then-Takes h).first)

    of : {mid : Leaves} (x : Specifier) → Takes k ts (specifier x) mid → same w.LeftBrace (word_at mid) ≡ false → is_struct ts ≡ false
    of {mid = mid} (s.Integer x) h end = first_false _ _ (integer_no_struct _ (integer-Starts.word k ts x mid h))
    of (s.Void t) h end = ap (λ x. same w.Struct x && same w.LeftBrace (word_at (after (after ts)))) (word_is w.Void t h)
    of (s.Struct t n) h end =
        let r = then-Takes h in
        second_false _ _ (ap (λ x. same w.LeftBrace (word_at (after x))) (after-one (same w.Struct) t r.first) ∙ ap (λ x. same w.LeftBrace (word_at x)) (after-one (same w.Name) n r.second) ∙ end)

prefix_not_struct : (x : Word) → is_function_prefix x ≡ true → same w.Struct x ≡ false
prefix_not_struct w.Struct h = cc
prefix_not_struct _ h = refl

pub prefixed_no_struct : {k : ℕ} {ts mid : Leaves} (xs : List Leaf) → Takes k ts (run (one_of is_function_prefix) xs) mid → is_struct mid ≡ false → is_struct ts ≡ false
unfolding run
prefixed_no_struct [] h end = ap is_struct (nothing-Takes h) ∙ end
prefixed_no_struct {ts = ts} (x ∷ xs) h end = first_false (same w.Struct (word_at ts)) (same w.LeftBrace (word_at (after (after ts)))) (prefix_not_struct (word_at ts) (take_if-word is_function_prefix x (then-Takes h).first))

abbrev pub begins_declaration : Word → Bool
begins_declaration x = is_function_prefix x || begins_type x

pub prefixed_begins : {k : ℕ} {ts mid : Leaves} (xs : List Leaf) → Takes k ts (run (one_of is_function_prefix) xs) mid → begins_type (word_at mid) ≡ true → begins_declaration (word_at ts) ≡ true
unfolding run
prefixed_begins {ts = ts} [] h begins = or_right _ _ (ap (λ x. begins_type (word_at x)) (nothing-Takes h) ∙ begins)
  where
    or_right : (a b : Bool) → b ≡ true → (a || b) ≡ true
    or_right true b h = refl
    or_right false b h = h
prefixed_begins (x ∷ xs) h begins = or_left _ _ (take_if-word is_function_prefix x (then-Takes h).first)
  where
    or_left : (a b : Bool) → a ≡ true → (a || b) ≡ true
    or_left true b h = refl
    or_left false b h = cc

-- ---- one step of the look ahead

pub skip_some : (ts : Leaves) → is_pointer (word_at ts) ≡ true → skip is_pointer ts ≡ skip is_pointer (after ts)
unfolding word_at after
skip_some [] h = refl
skip_some (t ∷ ts) h = skip_one t (t ∷ ts) ts refl h

pub after_shorter : (ts : Leaves) → same w.End (word_at ts) ≡ false → length (after ts) + 1 ≡ length ts
unfolding word_at after
after_shorter [] h = cc
after_shorter (t ∷ ts) h = omega arith

pub skip_nil : (ts : Leaves) → length ts ≤ 0 → skip is_pointer ts ≡ ts
unfolding skip
skip_nil [] h = refl
skip_nil (t ∷ ts) h = absurd (omega (arith, h))

pub stars_nil : (ts : Leaves) → length ts ≤ 0 → leading_stars ts ≡ 0
unfolding leading_stars
stars_nil [] h = refl
stars_nil (t ∷ ts) h = absurd (omega (arith, h))

pub pointer_not_end : (x : Word) → is_pointer x ≡ true → same w.End x ≡ false
pointer_not_end w.End h = cc
pointer_not_end _ h = refl

pub stars_some : (ts : Leaves) → is_pointer (word_at ts) ≡ true → leading_stars ts ≡ cond (same w.Star (word_at ts)) 1 0 + leading_stars (after ts)
unfolding word_at after leading_stars
stars_some [] h = refl
stars_some (t ∷ ts) h = of t.word h
  where
    of : (x : Word) → is_pointer x ≡ true → cond (same w.Star x) (suc (leading_stars ts)) (cond (same w.Const x) (leading_stars ts) 0) ≡ cond (same w.Star x) 1 0 + leading_stars ts
    of w.Star h = omega arith
    of w.Const h = omega arith
    of _ h = cc

pub stars_at_other : (ts : Leaves) → is_pointer (word_at ts) ≡ false → leading_stars ts ≡ 0
unfolding leading_stars word_at
stars_at_other [] h = refl
stars_at_other (t ∷ ts) h = of t.word h
  where
    of : (x : Word) → is_pointer x ≡ false → cond (same w.Star x) (suc (leading_stars ts)) (cond (same w.Const x) (leading_stars ts) 0) ≡ 0
    of w.Star h = cc
    of w.Const h = cc
    of _ h = refl
