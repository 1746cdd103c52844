-- Parameters: the parser gives a tree exactly where one stands.
use Rattle.std.proofs.Common.{◌≡◌, ℕ, zero, suc, ◌-◌, ◌<◌, Bool, true, false, ◌||◌, ◌&&◌, if◌then◌else◌, nat_eq, List, [], ◌∷◌, ◌++◌, length, Option, Some, None, is_none, refl, sym, ap, ap₂, subst, ◌∙◌, ⊎_elim, append-nil, arith}
use Rattle.std.proofs.lemmas.Bool.Decides.{nat_tests}
use Rattle.c_words.specs.declared.word.Word.{Word}
use Rattle.c_words.specs.declared.word.Word.TheVariants as w
use Rattle.c_words.specs.declared.word.Leaf.{Leaf}
use Rattle.c_words.specs.declared.chain.Chain.{Chain}
use Rattle.c_words.specs.declared.chain.Link.{Link}
use Rattle.c_grammar.specs.declared.types.Specifier.{Specifier}
use Rattle.c_grammar.specs.declared.types.Specifier.TheVariants as s
use Rattle.c_grammar.specs.declared.types.Base.{Base}
use Rattle.c_grammar.specs.declared.types.Star.{Star}
use Rattle.c_grammar.specs.declared.declaration.Declarator.{Declarator}
use Rattle.c_grammar.specs.declared.declaration.Sizes.{Sizes}
use Rattle.c_grammar.specs.declared.declaration.Parameter.{Parameter}
use Rattle.c_grammar.specs.declared.declaration.Parameter.TheVariants as p
use Rattle.c_grammar.specs.declared.declaration.Params.{Params}
use Rattle.c_grammar.specs.declared.declaration.Params.TheVariants as ps
use Rattle.c_words.specs.Words.{same}
use Rattle.c_words.specs.Written.{Written, ◌then◌, one, run, links, chain, Takes}
use Rattle.c_grammar.specs.Types.{specifier, base, consts, stars_alone, stars_before}
use Rattle.c_words.specs.OperatorWords.{is_comma}
use Rattle.c_grammar.specs.Declarations.{direct, declarator, sizes, nameless, parameter, void_by, void_of, lone_void, params}
use Rattle.c_words.specs.Parsing.{Leaves, Outcome, and_then, pure, word_at, chain_at}
use Rattle.c_words.proofs.Taking.{Takes-nothing, nothing-Takes, Takes-then, then-Takes, Takes-nested, nested-Takes}
use Rattle.c_words.proofs.Reading.{finish, word_is, bind_ok, gives_bind, chosen, choose, refuse_test, first_of_neither, second_of_neither, Sound, Complete, Ends, Starts}
use Rattle.c_words.proofs.Chains.{chain-Sound, chain-Complete, chain-Starts}
use Rattle.c_type_names.specs.TypeReading as types
use Rattle.c_type_names.specs.TypeReading.{stars_from, begins_type, goes_on_base, goes_on_type}
use Rattle.c_type_names.proofs.TypeLaws.{consts-Sound, consts-Complete, base-Sound, base-Complete, base-Starts, star-word, stars_from-takes, stars-Sound, stars-Complete, stars_reach, before_append, goes_on_stars}
use Rattle.c_declarations.specs.DeclaratorReading.{declarator_from, begins_direct, goes_on_declarator}
use Rattle.c_declarations.specs.ParameterReading as read
use Rattle.c_grammar.proofs.DeclaratorShapes.{declarator-is}
use Rattle.c_declarations.proofs.DeclaratorLaws.{kept_any, declarator_from-takes, declarator_from-gives, direct-Starts}
use Rattle.c_declarations.proofs.DeclaredLaws.{Takes-only, only-Takes}
use Rattle.c_declarations.proofs.SizesLaws.{sizes-Sound, sizes-Complete, sizes-word}

-- ---- words

abbrev pub begins_parameter : Word → Bool
begins_parameter x = same w.Const x || begins_type x

abbrev pub goes_on_parameter : Word → Bool
goes_on_parameter x = same w.LeftBracket x || (begins_direct x || goes_on_type x)

direct_no_type : (x : Word) → begins_direct x ≡ true → goes_on_type x ≡ false
direct_no_type w.Name h = refl
direct_no_type w.LeftParen h = refl
direct_no_type _ h = cc

bracket_no_direct : (x : Word) → same w.LeftBracket x ≡ true → begins_direct x ≡ false
bracket_no_direct w.LeftBracket h = refl
bracket_no_direct _ h = cc

type_no_base : (x : Word) → goes_on_type x ≡ false → goes_on_base x ≡ false
type_no_base w.Star h = refl
type_no_base _ h = h

type_no_stars : (x : Word) → goes_on_type x ≡ false → goes_on_stars x ≡ false
type_no_stars w.Star h = cc
type_no_stars w.Const h = cc
type_no_stars _ h = refl

type_no_const : (x : Word) → begins_type x ≡ true → same w.Const x ≡ false
type_no_const w.Const h = cc
type_no_const _ h = refl

begins_no_close : (x : Word) → begins_parameter x ≡ true → same w.RightParen x ≡ false
begins_no_close w.RightParen h = cc
begins_no_close _ h = refl

comma_ends : (x : Word) → is_comma x ≡ true → goes_on_parameter x ≡ false
comma_ends w.Comma h = refl
comma_ends _ h = cc

-- ---- what stands after the base

-- neither stars nor what stands after them goes on with a type
alone_ends : (xs : List Star) {k : ℕ} {ts rest : Leaves} → Takes k ts (stars_alone xs) rest → Ends goes_on_type rest → Ends goes_on_base ts
unfolding stars_alone
alone_ends [] {rest = rest} h end = rw (nothing-Takes h) (let e : Ends goes_on_base rest = record { ends = type_no_base (word_at rest) end.ends } in e)
alone_ends (x ∷ []) h end = record { ends = ap goes_on_base (star-word x h) }
alone_ends (x ∷ y ∷ xs) h end = record { ends = ap goes_on_base (star-word x (then-Takes h).first) }

before_ends : (a : Written) (rest : Leaves) → ((j : ℕ) (mid : Leaves) → Takes j mid a rest → Ends goes_on_type mid) → (xs : List Star) {k : ℕ} {ts : Leaves} → Takes k ts (stars_before xs a) rest → Ends goes_on_base ts
unfolding stars_before
before_ends a rest starts [] {k = k} {ts = ts} h = record { ends = type_no_base _ (starts k ts h).ends }
before_ends a rest starts (x ∷ xs) h = record { ends = ap goes_on_base (star-word x (then-Takes h).first) }

-- ---- one level

module _ (n : ℕ) where
  named-takes : (cs : List Leaf) (x : Base) (stars : List Star) (ts first second third : Leaves) (a : Parameter) (rest : Leaves) → Takes (suc n) ts (consts cs) first → Takes (suc n) first (base x) second
      → stars_from (suc n) [] second ≡ Some (stars, third) → and_then (declarator_from true (suc n - length stars) stars third) (λ y. pure (p.Named cs x y)) ≡ Some (a, rest) → Takes (suc n) ts (parameter a) rest
  unfolding parameter
  named-takes cs x stars ts first second third a rest one_takes two_takes read_stars h =
      let y = bind_ok (declarator_from true (suc n - length stars) stars third) _ a rest h in
      let i = declarator_from-takes true (suc n - length stars) stars third y.value y.mid y.first in
      let f = stars_from-takes (suc n) [] second stars third read_stars in
      let m = i.more in
      let fits : Takes (suc n - length f.more) third (stars_before m.stars (direct m.direct)) y.mid =
      subst (λ l. Takes (suc n - length l) third (stars_before m.stars (direct m.direct)) y.mid) f.joined (subst (λ v. Takes (suc n - length stars) third v y.mid) (declarator-is m) i.takes) in
      let whole : stars_before f.more (stars_before m.stars (direct m.direct)) ≡ declarator y.value =
      sym (before_append f.more m.stars (direct m.direct)) ∙ ap₂ (λ l d. stars_before l (direct d)) (ap (λ l. l ++ m.stars) (sym f.joined) ∙ sym i.stars) (sym i.rest_is) ∙ sym (declarator-is y.value) in
      finish parameter refl y.second (Takes-then one_takes (Takes-then two_takes (subst (λ v. Takes (suc n) second v y.mid) whole (f.before _ y.mid fits))))

  nameless-takes : (cs : List Leaf) (x : Base) (stars : List Star) (ts first second third : Leaves) (a : Parameter) (rest : Leaves) → Takes (suc n) ts (consts cs) first → Takes (suc n) first (base x) second
      → stars_from (suc n) [] second ≡ Some (stars, third) → and_then (read.sizes_at (suc n - length stars) third) (λ y. pure (p.Nameless cs x stars (Some y))) ≡ Some (a, rest) → Takes (suc n) ts (parameter a) rest
  unfolding parameter
  nameless-takes cs x stars ts first second third a rest one_takes two_takes read_stars h =
      let y = bind_ok (read.sizes_at (suc n - length stars) third) _ a rest h in
      let f = stars_from-takes (suc n) [] second stars third read_stars in
      let fits : Takes (suc n - length f.more) third (sizes y.value) y.mid =
      subst (λ l. Takes (suc n - length l) third (sizes y.value) y.mid) f.joined ((sizes-Sound (suc n - length stars)).takes third y.value y.mid y.first) in
      let whole : stars_before f.more (sizes y.value) ≡ stars_before stars (sizes y.value) = ap (λ l. stars_before l (sizes y.value)) (sym f.joined) in
      finish parameter refl y.second (Takes-then one_takes (Takes-then two_takes (subst (λ v. Takes (suc n) second v y.mid) whole (f.before _ y.mid fits))))

  after_stars-takes : (cs : List Leaf) (x : Base) (stars : List Star) (ts first second third : Leaves) (a : Parameter) (rest : Leaves) → Takes (suc n) ts (consts cs) first → Takes (suc n) first (base x) second
      → stars_from (suc n) [] second ≡ Some (stars, third) → read.after_stars (suc n) cs x stars third ≡ Some (a, rest) → Takes (suc n) ts (parameter a) rest
  unfolding read.after_stars parameter
  after_stars-takes cs x stars ts first second third a rest one_takes two_takes read_stars h = ⊎_elim
      (λ q. named-takes cs x stars ts first second third a rest one_takes two_takes read_stars q.1)
      (λ q. ⊎_elim
      (λ r. nameless-takes cs x stars ts first second third a rest one_takes two_takes read_stars r.1)
      (λ r. finish parameter refl r.1 (Takes-then one_takes (Takes-then two_takes ((stars-Sound (suc n) (omega arith)).takes _ _ _ read_stars))))
      (chosen (same w.LeftBracket (word_at third)) _ _ third _ q.1))
      (chosen (begins_direct (word_at third)) _ _ third _ h)

  parameter-takes : (ts : Leaves) (a : Parameter) (rest : Leaves) → read.parameter (suc n) ts ≡ Some (a, rest) → Takes (suc n) ts (parameter a) rest
  unfolding read.parameter
  parameter-takes ts a rest h =
      let c = bind_ok (types.consts ts) _ a rest h in
      let x = bind_ok (types.base c.mid) _ a rest c.second in
      let f = bind_ok (stars_from (suc n) [] x.mid) _ a rest x.second in
      after_stars-takes c.value x.value f.value ts c.mid x.mid f.mid a rest ((consts-Sound (suc n) (omega arith)).takes _ _ _ c.first) ((base-Sound (suc n) (omega arith)).takes _ _ _ x.first) f.first f.second

  -- what is read before the stars
  front-gives : (cs : List Leaf) (x : Base) (ts first second : Leaves) (r : Outcome Parameter) → Takes (suc n) ts (consts cs) first → Takes (suc n) first (base x) second → Ends goes_on_base second
      → and_then (stars_from (suc n) [] second) (read.after_stars (suc n) cs x) ≡ r → read.parameter (suc n) ts ≡ r
  unfolding read.parameter
  front-gives cs x ts first second r one_takes two_takes end last =
      gives_bind _ ((consts-Complete (suc n)).gives ts cs first one_takes (record { ends = type_no_const (word_at first) (base-Starts.word (suc n) first x second two_takes) }))
      (gives_bind _ ((base-Complete (suc n)).gives first x second two_takes end) last)

  named-gives : (cs : List Leaf) (x : Base) (y : Declarator) (ts rest : Leaves) → Takes (suc n) ts (consts cs then base x then declarator y) rest → Ends goes_on_declarator rest
      → read.parameter (suc n) ts ≡ Some (p.Named cs x y, rest)
  unfolding read.after_stars stars_before
  named-gives cs x y ts rest h end =
      let a = then-Takes h in
      let c = then-Takes a.second in
      let stands : Takes (suc n) c.mid (stars_before y.stars (direct y.direct)) rest = subst (λ v. Takes (suc n) c.mid v rest) (declarator-is y) c.second in
      let starts : (j : ℕ) (mid : Leaves) → Takes j mid (direct y.direct) rest → Ends goes_on_type mid = λ j mid i. record { ends = direct_no_type (word_at mid) (direct-Starts.word j mid y.direct rest i) } in
      let i = stars_reach (direct y.direct) rest (λ j mid i. record { ends = type_no_stars (word_at mid) (starts j mid i).ends }) y.stars (suc n) [] c.mid stands in
      front-gives cs x ts a.mid c.mid _ a.first c.first (before_ends (direct y.direct) rest starts y.stars stands)
      (gives_bind _ i.reads (choose (begins_direct (word_at i.mid)) _ _ i.mid (direct-Starts.word _ i.mid y.direct rest i.takes)
      ∙ gives_bind _ (declarator_from-gives true (suc n - length y.stars) y.stars i.mid [] y.direct rest i.takes (kept_any _) end)
      (ap (λ l. let d : Declarator = record { stars = l; direct = y.direct } in Some (p.Named cs x d, rest)) (append-nil y.stars))))

  nameless-gives : (cs : List Leaf) (x : Base) (stars : List Star) (brackets : Option Sizes) (ts rest : Leaves) → Takes (suc n) ts (consts cs then base x then nameless stars brackets) rest → Ends goes_on_parameter rest
      → read.parameter (suc n) ts ≡ Some (p.Nameless cs x stars brackets, rest)
  unfolding read.after_stars
  nameless-gives cs x stars None ts rest h end =
      let a = then-Takes h in
      let c = then-Takes a.second in
      let tail = second_of_neither (same w.LeftBracket (word_at rest)) _ end.ends in
      let over : Ends goes_on_type rest = record { ends = second_of_neither (begins_direct (word_at rest)) _ tail } in
      front-gives cs x ts a.mid c.mid _ a.first c.first (alone_ends stars c.second over)
      (gives_bind _ ((stars-Complete (suc n)).gives c.mid stars rest c.second (record { ends = type_no_stars (word_at rest) over.ends }))
      (refuse_test (begins_direct (word_at rest)) _ _ rest (first_of_neither (begins_direct (word_at rest)) _ tail)
      ∙ refuse_test (same w.LeftBracket (word_at rest)) _ _ rest (first_of_neither (same w.LeftBracket (word_at rest)) _ end.ends)))
  nameless-gives cs x stars (Some y) ts rest h end =
      let a = then-Takes h in
      let c = then-Takes a.second in
      let starts : (j : ℕ) (mid : Leaves) → Takes j mid (sizes y) rest → Ends goes_on_type mid = λ j mid i. record { ends = ap goes_on_type (sizes-word y i) } in
      let i = stars_reach (sizes y) rest (λ j mid i. record { ends = type_no_stars (word_at mid) (starts j mid i).ends }) stars (suc n) [] c.mid c.second in
      let bracket = ap (same w.LeftBracket) (sizes-word y i.takes) in
      front-gives cs x ts a.mid c.mid _ a.first c.first (before_ends (sizes y) rest starts stars c.second)
      (gives_bind _ i.reads (refuse_test (begins_direct (word_at i.mid)) _ _ i.mid (bracket_no_direct _ bracket)
      ∙ choose (same w.LeftBracket (word_at i.mid)) _ _ i.mid bracket
      ∙ gives_bind _ ((sizes-Complete (suc n - length stars)).gives i.mid y rest i.takes (record { ends = first_of_neither (same w.LeftBracket (word_at rest)) _ end.ends })) refl))

  parameter-gives : (a : Parameter) (ts rest : Leaves) → Takes (suc n) ts (parameter a) rest → Ends goes_on_parameter rest → read.parameter (suc n) ts ≡ Some (a, rest)
  unfolding parameter
  parameter-gives (p.Named cs x y) ts rest h end = named-gives cs x y ts rest h (record { ends = first_of_neither (same w.LeftBracket (word_at rest)) _ end.ends })
  parameter-gives (p.Nameless cs x stars brackets) ts rest h end = nameless-gives cs x stars brackets ts rest h end

-- ---- parameters, at every level

pub deep_parameter : (k : ℕ) (ts : Leaves) → 0 < k → read.parameter k ts ≡ read.some_parameter k ts
unfolding read.parameter
deep_parameter zero ts some = absurd (omega arith)
deep_parameter (suc n) ts some = refl

pub parameter-Sound : (k : ℕ) → Sound k (read.parameter k) parameter
unfolding read.parameter
parameter-Sound zero = record { takes = λ ts a rest h. cc }
parameter-Sound (suc n) = record { takes = parameter-takes n }

pub parameter-Complete : (k : ℕ) → Complete k (read.parameter k) parameter goes_on_parameter
parameter-Complete zero = record { gives = λ ts a rest h end. absurd (omega (arith, h.below)) }
parameter-Complete (suc n) = record { gives = λ ts a rest. parameter-gives n a ts rest }

const_or_type : {k : ℕ} {ts mid rest : Leaves} (cs : List Leaf) (x : Base) → Takes k ts (consts cs) mid → Takes k mid (base x) rest → begins_parameter (word_at ts) ≡ true
unfolding run
const_or_type {k = k} {ts = ts} {mid = mid} {rest = rest} [] x h i = or_right (same w.Const (word_at ts)) (begins_type (word_at ts)) (ap (λ t. begins_type (word_at t)) (nothing-Takes h) ∙ base-Starts.word k mid x rest i)
  where
    or_right : (a b : Bool) → b ≡ true → (a || b) ≡ true
    or_right true b h = refl
    or_right false b h = h
const_or_type (c ∷ cs) x h i = ap begins_parameter (word_is w.Const c (then-Takes h).first)

pub parameter-Starts : Starts parameter begins_parameter
unfolding parameter
parameter-Starts = record { word = λ k ts a rest h. of k ts a rest h }
  where
    of : (k : ℕ) (ts : Leaves) (a : Parameter) (rest : Leaves) → Takes k ts (parameter a) rest → begins_parameter (word_at ts) ≡ true
    of k ts (p.Named cs x y) rest h = let a = then-Takes h in let c = then-Takes a.second in const_or_type cs x a.first c.first
    of k ts (p.Nameless cs x stars brackets) rest h = let a = then-Takes h in let c = then-Takes a.second in const_or_type cs x a.first c.first

-- ---- `void` alone

alone : Leaf → Chain Parameter
alone t = record { first = p.Nameless [] (record { specifier = s.Void t; consts = [] }) [] None; rest = [] }

lone-is : (c : Chain Parameter) (t : Leaf) → lone_void c ≡ Some t → c ≡ alone t
unfolding lone_void alone
lone-is c t h = of c.first c.rest h
  where
    by_kind : (x : Specifier) (bs cs : List Leaf) (stars : List Star) (brackets : Option Sizes) (ls : List (Link Parameter)) → void_by x bs cs stars brackets ls ≡ Some t
        → ◌≡◌ {A = Chain Parameter} (record { first = p.Nameless cs (record { specifier = x; consts = bs }) stars brackets; rest = ls }) (alone t)
    by_kind (s.Void u) [] [] [] None [] h = let e : u ≡ t = cc in ap alone e
    by_kind (s.Void u) (z ∷ bs) cs stars brackets ls h = cc
    by_kind (s.Void u) [] (z ∷ cs) stars brackets ls h = cc
    by_kind (s.Void u) [] [] (z ∷ stars) brackets ls h = cc
    by_kind (s.Void u) [] [] [] (Some z) ls h = cc
    by_kind (s.Void u) [] [] [] None (z ∷ ls) h = cc
    by_kind (s.Integer u) bs cs stars brackets ls h = cc
    by_kind (s.Struct u v) bs cs stars brackets ls h = cc

    of : (a : Parameter) (ls : List (Link Parameter)) → void_of a ls ≡ Some t → ◌≡◌ {A = Chain Parameter} (record { first = a; rest = ls }) (alone t)
    of (p.Nameless cs x stars brackets) ls h = by_kind x.specifier x.consts cs stars brackets ls h
    of (p.Named cs x y) ls h = cc

lone-alone : (t : Leaf) → lone_void (alone t) ≡ Some t
unfolding lone_void alone
lone-alone t = refl

alone-takes : {k : ℕ} (t : Leaf) (ts rest : Leaves) → Takes k ts (chain is_comma parameter (alone t)) rest → Takes k ts (one w.Void t) rest
unfolding chain links alone run parameter base specifier stars_alone
alone-takes {k = k} t ts rest h =
    let c = then-Takes h in
    let a = then-Takes c.first in
    let x = then-Takes a.second in
    let v = then-Takes x.first in
    subst (λ i. Takes k i (one w.Void t) rest) (sym (nothing-Takes a.first))
    (subst (λ r. Takes k a.mid (one w.Void t) r) (nothing-Takes v.second ∙ nothing-Takes x.second ∙ nothing-Takes c.second) v.first)

takes-alone : {k : ℕ} (t : Leaf) (ts rest : Leaves) → Takes k ts (one w.Void t) rest → Takes k ts (chain is_comma parameter (alone t)) rest
unfolding chain links alone run parameter base specifier stars_alone
takes-alone {k = k} t ts rest h =
    let some : 0 < k = omega (arith, h.below) in
    let none = Takes-nothing k rest some in
    Takes-then (Takes-then (Takes-nothing k ts some) (Takes-then (Takes-then h none) none)) none

no_void : (b : Bool) → ◌≡◌ {A = Option Leaf} None (if b then None else None)
no_void true = refl
no_void false = refl

not_empty : (n : ℕ) → nat_eq (suc n) 0 ≡ false
not_empty n = grind (arith, nat_tests)

pub void-bare : (cs : List Leaf) (x : Base) (stars : List Star) (brackets : Option Sizes) (ls : List (Link Parameter))
    → void_of (p.Nameless cs x stars brackets) ls ≡ (if read.is_bare x.consts cs stars brackets && nat_eq (length ls) 0 then void_by x.specifier [] [] [] None [] else None)
void-bare cs x stars brackets ls = of x.specifier x.consts cs stars brackets ls
  where
    of : (x : Specifier) (bs cs : List Leaf) (stars : List Star) (brackets : Option Sizes) (ls : List (Link Parameter))
        → void_by x bs cs stars brackets ls ≡ (if read.is_bare bs cs stars brackets && nat_eq (length ls) 0 then void_by x [] [] [] None [] else None)
    of x [] [] [] None [] = refl
    of (s.Void u) (z ∷ bs) cs stars brackets ls = rw (not_empty (length bs)) refl
    of (s.Void u) [] (z ∷ cs) stars brackets ls = rw (not_empty (length cs)) refl
    of (s.Void u) [] [] (z ∷ stars) brackets ls = rw (not_empty (length stars)) refl
    of (s.Void u) [] [] [] (Some z) ls = refl
    of (s.Void u) [] [] [] None (z ∷ ls) = rw (not_empty (length ls)) refl
    of (s.Integer u) bs cs stars brackets ls = no_void (read.is_bare bs cs stars brackets && nat_eq (length ls) 0)
    of (s.Struct u v) bs cs stars brackets ls = no_void (read.is_bare bs cs stars brackets && nat_eq (length ls) 0)

-- ---- what stands in the parentheses of a function

list-Complete : (k : ℕ) → Complete k (chain_at is_comma (read.parameter k)) (chain is_comma parameter) (λ x. is_comma x || goes_on_parameter x)
list-Complete k = chain-Complete is_comma (read.parameter k) parameter k goes_on_parameter (parameter-Complete k) comma_ends

params-takes : (k : ℕ) (ts : Leaves) (a : Params) (rest : Leaves) → read.params k ts ≡ Some (a, rest) → Takes (suc k) ts (params a) rest
unfolding read.params params
params-takes k ts a rest h = ⊎_elim
    (λ c. finish params refl c.1 (Takes-nothing (suc k) ts (omega arith)))
    (λ c.
    let x = bind_ok (chain_at is_comma (read.parameter k) ts) _ a rest c.1 in
    by_lone x.value x.mid (lone_void x.value) refl ((chain-Sound _ is_comma (read.parameter k) parameter k (parameter-Sound k)).takes _ _ _ x.first) x.second)
    (chosen (same w.RightParen (word_at ts)) _ _ ts _ h)
  where
    by_lone : (all : Chain Parameter) (mid : Leaves) (l : Option Leaf) → lone_void all ≡ l → Takes k ts (chain is_comma parameter all) mid → pure (read.params_of all l) mid ≡ Some (a, rest) → Takes (suc k) ts (params a) rest
    by_lone all mid None is known h = finish params refl h (Takes-then (Takes-nested known) (Takes-only (suc k) mid _ (omega arith) (ap is_none is)))
    by_lone all mid (Some t) is known h = finish params refl h (Takes-nested (alone-takes t ts mid (subst (λ c. Takes k ts (chain is_comma parameter c) mid) (lone-is all t is) known)))

pub params-Sound : (k : ℕ) → Sound (suc k) (read.params k) params
params-Sound k = record { takes = params-takes k }

none_lone : (o : Option Leaf) → is_none o ≡ true → o ≡ None
none_lone None h = refl
none_lone (Some t) h = cc

-- parameters that stand there, before `)`, are what the parser gives
pub params-gives : (k : ℕ) (a : Params) (ts rest : Leaves) → Takes (suc k) ts (params a) rest → word_at rest ≡ w.RightParen → read.params k ts ≡ Some (a, rest)
unfolding read.params params
params-gives k ps.Empty ts rest h end = rw (nothing-Takes h) (choose (same w.RightParen (word_at rest)) _ _ rest (ap (same w.RightParen) end))
params-gives k (ps.Void t) ts rest h end =
    let i = nested-Takes h in
    refuse_test (same w.RightParen (word_at ts)) _ _ ts (ap (same w.RightParen) (word_is w.Void t i))
    ∙ gives_bind _ ((list-Complete k).gives ts (alone t) rest (takes-alone t ts rest i) (record { ends = ap (λ x. is_comma x || goes_on_parameter x) end }))
    (ap (λ l. Some (read.params_of (alone t) l, rest)) (lone-alone t))
params-gives k (ps.List all) ts rest h end =
    let r = then-Takes h in
    let f = only-Takes _ r.second in
    let i : Takes k ts (chain is_comma parameter all) rest = subst (λ x. Takes k ts (chain is_comma parameter all) x) f.0 (nested-Takes r.first) in
    refuse_test (same w.RightParen (word_at ts)) _ _ ts (begins_no_close (word_at ts) ((chain-Starts is_comma parameter _ parameter-Starts).word k ts all rest i))
    ∙ gives_bind _ ((list-Complete k).gives ts all rest i (record { ends = ap (λ x. is_comma x || goes_on_parameter x) end }))
    (ap (λ l. Some (read.params_of all l, rest)) (none_lone _ f.1))
