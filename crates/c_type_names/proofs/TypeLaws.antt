-- Types: a parser gives a tree exactly where one stands.
use Rattle.std.proofs.Common.{◌≡◌, ℕ, zero, suc, ◌-◌, ◌<◌, ◌≤◌, Bool, true, false, ◌||◌, List, [], ◌∷◌, ◌++◌, length, Option, Some, None, refl, sym, ap, subst, ◌∙◌, ⊎_elim, append_assoc, append-nil, arith}
use Rattle.c_words.specs.declared.word.Word.{Word}
use Rattle.c_words.specs.declared.word.Word.TheVariants as w
use Rattle.c_words.specs.declared.word.Leaf.{Leaf}
use Rattle.c_grammar.specs.declared.types.Integer.{Integer}
use Rattle.c_grammar.specs.declared.types.Integer.TheVariants as i
use Rattle.c_grammar.specs.declared.types.Specifier.{Specifier}
use Rattle.c_grammar.specs.declared.types.Specifier.TheVariants as s
use Rattle.c_grammar.specs.declared.types.Star.{Star}
use Rattle.c_words.specs.Words.{same}
use Rattle.c_words.specs.Written.{Written, nothing, ◌then◌, one, one_of, nested, optional, run, Takes}
use Rattle.c_grammar.specs.Types.{integer, specifier, consts, base, star, stars_alone, stars_before, type_name}
use Rattle.c_words.specs.Parsing.{Leaves, Outcome, ◌<$>◌, word_at, take_if, expect, optional_at}
use Rattle.c_words.proofs.Taking.{Takes-nothing, nothing-Takes, Takes-then, then-Takes, Takes-nested, nested-Takes}
use Rattle.c_words.proofs.Reading.{bind_ok, gives_bind, chosen, choose, refuse_test, same_pair, Sound, Complete, Ends, Starts, first_of_neither, second_of_neither, neither, take_if-takes, take_if-gives, finish, at_one, word_is, optional_at-takes, optional_at-gives}
use Rattle.c_words.proofs.Runs.{tokens-Sound, tokens-Complete}
use Rattle.c_type_names.specs.TypeReading as read
use Rattle.c_type_names.specs.TypeReading.{stars_from, begins_integer, begins_type, goes_on_integer, goes_on_base, goes_on_type}

-- ---- soundness

module _ (k : ℕ) (some : 0 < k) where
  took : (test : Word → Bool) (ts : Leaves) (t : Leaf) (rest : Leaves) → take_if test ts ≡ Some (t, rest) → Takes k ts (one_of test t) rest
  took = take_if-takes k some

  may_int : (ts : Leaves) (a : Option Leaf) (rest : Leaves) → optional_at w.Int ts ≡ Some (a, rest) → Takes k ts (optional (one w.Int) a) rest
  may_int = optional_at-takes k some w.Int

  signed_by-takes : (first : Leaf) (x : Word) (ts mid : Leaves) (a : Integer) (rest : Leaves) → Takes k ts (one w.Signed first) mid
      → read.signed_by first x mid ≡ Some (a, rest) → Takes k ts (integer a) rest
  unfolding integer optional
  signed_by-takes first w.Char ts mid a rest known h =
      let t = bind_ok (expect w.Char mid) _ a rest h in
      finish integer refl t.second (Takes-then known (took _ _ _ _ t.first))
  signed_by-takes first w.Short ts mid a rest known h =
      let t = bind_ok (expect w.Short mid) _ a rest h in
      let n = bind_ok (optional_at w.Int t.mid) _ a rest t.second in
      finish integer refl n.second (Takes-then known (Takes-then (took _ _ _ _ t.first) (may_int _ _ _ n.first)))
  signed_by-takes first w.Long ts mid a rest known h =
      let t = bind_ok (expect w.Long mid) _ a rest h in
      let n = bind_ok (optional_at w.Int t.mid) _ a rest t.second in
      finish integer refl n.second (Takes-then known (Takes-then (took _ _ _ _ t.first) (may_int _ _ _ n.first)))
  signed_by-takes first _ ts mid a rest known h =
      let n = bind_ok (optional_at w.Int mid) _ a rest h in
      finish integer refl n.second (Takes-then known (may_int _ _ _ n.first))

  signed-takes : (ts : Leaves) (a : Integer) (rest : Leaves) → read.signed ts ≡ Some (a, rest) → Takes k ts (integer a) rest
  unfolding read.signed
  signed-takes ts a rest h =
      let t = bind_ok (expect w.Signed ts) _ a rest h in
      signed_by-takes t.value (word_at t.mid) ts t.mid a rest (took _ _ _ _ t.first) t.second

  unsigned_by-takes : (first : Leaf) (x : Word) (ts mid : Leaves) (a : Integer) (rest : Leaves) → Takes k ts (one w.Unsigned first) mid
      → read.unsigned_by first x mid ≡ Some (a, rest) → Takes k ts (integer a) rest
  unfolding integer
  unsigned_by-takes first w.Char ts mid a rest known h =
      let t = bind_ok (expect w.Char mid) _ a rest h in
      finish integer refl t.second (Takes-then known (took _ _ _ _ t.first))
  unsigned_by-takes first w.Short ts mid a rest known h =
      let t = bind_ok (expect w.Short mid) _ a rest h in
      let n = bind_ok (optional_at w.Int t.mid) _ a rest t.second in
      finish integer refl n.second (Takes-then known (Takes-then (took _ _ _ _ t.first) (may_int _ _ _ n.first)))
  unsigned_by-takes first w.Long ts mid a rest known h =
      let t = bind_ok (expect w.Long mid) _ a rest h in
      let n = bind_ok (optional_at w.Int t.mid) _ a rest t.second in
      finish integer refl n.second (Takes-then known (Takes-then (took _ _ _ _ t.first) (may_int _ _ _ n.first)))
  unsigned_by-takes first _ ts mid a rest known h =
      let n = bind_ok (optional_at w.Int mid) _ a rest h in
      finish integer refl n.second (Takes-then known (may_int _ _ _ n.first))

  unsigned-takes : (ts : Leaves) (a : Integer) (rest : Leaves) → read.unsigned ts ≡ Some (a, rest) → Takes k ts (integer a) rest
  unfolding read.unsigned
  unsigned-takes ts a rest h =
      let t = bind_ok (expect w.Unsigned ts) _ a rest h in
      unsigned_by-takes t.value (word_at t.mid) ts t.mid a rest (took _ _ _ _ t.first) t.second

  integer_by-takes : (x : Word) (ts : Leaves) (a : Integer) (rest : Leaves) → read.integer_by x ts ≡ Some (a, rest) → Takes k ts (integer a) rest
  unfolding integer optional
  integer_by-takes w.Char ts a rest h = let t = bind_ok (expect w.Char ts) _ a rest h in finish integer refl t.second (took _ _ _ _ t.first)
  integer_by-takes w.Short ts a rest h =
      let t = bind_ok (expect w.Short ts) _ a rest h in
      let n = bind_ok (optional_at w.Int t.mid) _ a rest t.second in
      finish integer refl n.second (Takes-then (Takes-nothing k ts some) (Takes-then (took _ _ _ _ t.first) (may_int _ _ _ n.first)))
  integer_by-takes w.Int ts a rest h = let t = bind_ok (expect w.Int ts) _ a rest h in finish integer refl t.second (took _ _ _ _ t.first)
  integer_by-takes w.Long ts a rest h =
      let t = bind_ok (expect w.Long ts) _ a rest h in
      let n = bind_ok (optional_at w.Int t.mid) _ a rest t.second in
      finish integer refl n.second (Takes-then (Takes-nothing k ts some) (Takes-then (took _ _ _ _ t.first) (may_int _ _ _ n.first)))
  integer_by-takes w.Signed ts a rest h = signed-takes ts a rest h
  integer_by-takes w.Unsigned ts a rest h = unsigned-takes ts a rest h
  integer_by-takes _ ts a rest h = cc

  pub integer-Sound : Sound k read.integer integer
  unfolding read.integer
  integer-Sound = record { takes = λ ts a rest h. integer_by-takes (word_at ts) ts a rest h }

  specifier_by-takes : (x : Word) (ts : Leaves) (a : Specifier) (rest : Leaves) → read.specifier_by x ts ≡ Some (a, rest) → Takes k ts (specifier a) rest
  unfolding specifier read.struct_type
  specifier_by-takes w.Void ts a rest h = let t = bind_ok (expect w.Void ts) _ a rest h in finish specifier refl t.second (took _ _ _ _ t.first)
  specifier_by-takes w.Struct ts a rest h =
      let t = bind_ok (expect w.Struct ts) _ a rest h in
      let n = bind_ok (expect w.Name t.mid) _ a rest t.second in
      finish specifier refl n.second (Takes-then (took _ _ _ _ t.first) (took _ _ _ _ n.first))
  specifier_by-takes _ ts a rest h = let x = bind_ok (read.integer ts) _ a rest h in finish specifier refl x.second (integer-Sound.takes _ _ _ x.first)

  pub specifier-Sound : Sound k read.specifier specifier
  unfolding read.specifier
  specifier-Sound = record { takes = λ ts a rest h. specifier_by-takes (word_at ts) ts a rest h }

  pub consts-Sound : Sound k read.consts consts
  unfolding read.consts
  consts-Sound = tokens-Sound (same w.Const) k some

  pub base-Sound : Sound k read.base base
  unfolding read.base base
  base-Sound = record {
    takes = λ ts a rest h.
        let x = bind_ok (read.specifier ts) _ a rest h in
        let cs = bind_ok (read.consts x.mid) _ a rest x.second in
        finish base refl cs.second (Takes-then (specifier-Sound.takes _ _ _ x.first) (consts-Sound.takes _ _ _ cs.first));
  }

  pub star-Sound : Sound k read.star star
  unfolding read.star star
  star-Sound = record {
    takes = λ ts a rest h.
        let t = bind_ok (expect w.Star ts) _ a rest h in
        let cs = bind_ok (read.consts t.mid) _ a rest t.second in
        finish star refl cs.second (Takes-then (took _ _ _ _ t.first) (consts-Sound.takes _ _ _ cs.first));
  }

-- ---- how types begin

pub integer-Starts : Starts integer begins_integer
unfolding integer optional
integer-Starts = record { word = λ k ts a rest. of a }
  where
    of : {k : ℕ} {ts rest : Leaves} (a : Integer) → Takes k ts (integer a) rest → begins_integer (word_at ts) ≡ true
    of (i.Char t) h = rw (word_is w.Char t h) refl
    of (i.SignedChar f t) h = rw (word_is w.Signed f (then-Takes h).first) refl
    of (i.UnsignedChar f t) h = rw (word_is w.Unsigned f (then-Takes h).first) refl
    of (i.Short None t n) h = let r = then-Takes h in rw (nothing-Takes r.first, word_is w.Short t (then-Takes r.second).first) refl
    of (i.Short (Some f) t n) h = rw (word_is w.Signed f (then-Takes h).first) refl
    of (i.UnsignedShort f t n) h = rw (word_is w.Unsigned f (then-Takes h).first) refl
    of (i.Int t) h = rw (word_is w.Int t h) refl
    of (i.Signed f n) h = rw (word_is w.Signed f (then-Takes h).first) refl
    of (i.Unsigned f n) h = rw (word_is w.Unsigned f (then-Takes h).first) refl
    of (i.Long None t n) h = let r = then-Takes h in rw (nothing-Takes r.first, word_is w.Long t (then-Takes r.second).first) refl
    of (i.Long (Some f) t n) h = rw (word_is w.Signed f (then-Takes h).first) refl
    of (i.UnsignedLong f t n) h = rw (word_is w.Unsigned f (then-Takes h).first) refl

integer_is_type : (x : Word) → begins_integer x ≡ true → begins_type x ≡ true
integer_is_type w.Void h = refl
integer_is_type w.Struct h = refl
integer_is_type _ h = h

pub specifier-Starts : Starts specifier begins_type
unfolding specifier
specifier-Starts = record { word = λ k ts a rest. of a }
  where
    of : {k : ℕ} {ts rest : Leaves} (a : Specifier) → Takes k ts (specifier a) rest → begins_type (word_at ts) ≡ true
    of (s.Integer x) h = integer_is_type _ (integer-Starts.word _ _ x _ h)
    of (s.Void t) h = rw (word_is w.Void t h) refl
    of (s.Struct t n) h = rw (word_is w.Struct t (then-Takes h).first) refl

pub base-Starts : Starts base begins_type
unfolding base
base-Starts = record { word = λ k ts a rest h. let r = then-Takes h in specifier-Starts.word k ts a.specifier r.mid r.first }

pub star-word : {k : ℕ} {ts rest : Leaves} (a : Star) → Takes k ts (star a) rest → word_at ts ≡ w.Star
unfolding star
star-word a h = word_is w.Star a.star (then-Takes h).first

pub star-Starts : Starts star (same w.Star)
star-Starts = record { word = λ k ts a rest h. ap (same w.Star) (star-word a h) }

pub type_name-Starts : Starts type_name begins_type
unfolding type_name
type_name-Starts = record { word = λ k ts a rest h. let r = then-Takes h in base-Starts.word k ts a.base r.mid r.first }

-- ---- completeness

no_int : {rest : Leaves} → Ends goes_on_integer rest → Ends (same w.Int) rest
no_int {rest = rest} end = record { ends = of (word_at rest) end.ends }
  where
    of : (x : Word) → goes_on_integer x ≡ false → same w.Int x ≡ false
    of w.Int h = cc
    of _ h = refl

int-gives : (n : Option Leaf) {k : ℕ} {ts rest : Leaves} → Takes k ts (optional (one w.Int) n) rest → Ends goes_on_integer rest → optional_at w.Int ts ≡ Some (n, rest)
int-gives n h end = optional_at-gives w.Int n h (no_int end)

signed-gives : (f : Leaf) (n : Option Leaf) {k : ℕ} (ts rest : Leaves) → Takes k ts (optional (one w.Int) n) rest → Ends goes_on_integer rest
    → read.signed_by f (word_at ts) ts ≡ Some (i.Signed f n, rest)
unfolding optional
signed-gives f None ts rest h end =
    other (word_at ts) (ap (λ r. goes_on_integer (word_at r)) (nothing-Takes h) ∙ end.ends) ∙ gives_bind _ (int-gives None h end) refl
  where
    other : (x : Word) → goes_on_integer x ≡ false → read.signed_by f x ts ≡ (i.Signed f <$> optional_at w.Int) ts
    other w.Char h = cc
    other w.Short h = cc
    other w.Long h = cc
    other _ h = refl
signed-gives f (Some t) ts rest h end = ap (λ x. read.signed_by f x ts) (word_is w.Int t h) ∙ gives_bind _ (int-gives (Some t) h end) refl

unsigned-gives : (f : Leaf) (n : Option Leaf) {k : ℕ} (ts rest : Leaves) → Takes k ts (optional (one w.Int) n) rest → Ends goes_on_integer rest
    → read.unsigned_by f (word_at ts) ts ≡ Some (i.Unsigned f n, rest)
unfolding optional
unsigned-gives f None ts rest h end =
    other (word_at ts) (ap (λ r. goes_on_integer (word_at r)) (nothing-Takes h) ∙ end.ends) ∙ gives_bind _ (int-gives None h end) refl
  where
    other : (x : Word) → goes_on_integer x ≡ false → read.unsigned_by f x ts ≡ (i.Unsigned f <$> optional_at w.Int) ts
    other w.Char h = cc
    other w.Short h = cc
    other w.Long h = cc
    other _ h = refl
unsigned-gives f (Some t) ts rest h end = ap (λ x. read.unsigned_by f x ts) (word_is w.Int t h) ∙ gives_bind _ (int-gives (Some t) h end) refl

integer-gives : (a : Integer) {k : ℕ} (ts rest : Leaves) → Takes k ts (integer a) rest → Ends goes_on_integer rest → read.integer ts ≡ Some (a, rest)
unfolding integer optional read.integer read.signed read.unsigned
integer-gives (i.Char t) ts rest h end = ap (λ x. read.integer_by x ts) (word_is w.Char t h) ∙ gives_bind _ (take_if-gives _ t h) refl
integer-gives (i.SignedChar f t) ts rest h end =
    let r = then-Takes h in
    ap (λ x. read.integer_by x ts) (word_is w.Signed f r.first)
    ∙ gives_bind _ (take_if-gives _ f r.first) (ap (λ x. read.signed_by f x r.mid) (word_is w.Char t r.second) ∙ gives_bind _ (take_if-gives _ t r.second) refl)
integer-gives (i.UnsignedChar f t) ts rest h end =
    let r = then-Takes h in
    ap (λ x. read.integer_by x ts) (word_is w.Unsigned f r.first)
    ∙ gives_bind _ (take_if-gives _ f r.first) (ap (λ x. read.unsigned_by f x r.mid) (word_is w.Char t r.second) ∙ gives_bind _ (take_if-gives _ t r.second) refl)
integer-gives (i.Short None t n) ts rest h end =
    let r = then-Takes h in
    let m = then-Takes r.second in
    rw (nothing-Takes r.first)
    (ap (λ x. read.integer_by x r.mid) (word_is w.Short t m.first) ∙ gives_bind _ (take_if-gives _ t m.first) (gives_bind _ (int-gives n m.second end) refl))
integer-gives (i.Short (Some f) t n) ts rest h end =
    let r = then-Takes h in
    let m = then-Takes r.second in
    ap (λ x. read.integer_by x ts) (word_is w.Signed f r.first)
    ∙ gives_bind _ (take_if-gives _ f r.first)
    (ap (λ x. read.signed_by f x r.mid) (word_is w.Short t m.first) ∙ gives_bind _ (take_if-gives _ t m.first) (gives_bind _ (int-gives n m.second end) refl))
integer-gives (i.UnsignedShort f t n) ts rest h end =
    let r = then-Takes h in
    let m = then-Takes r.second in
    ap (λ x. read.integer_by x ts) (word_is w.Unsigned f r.first)
    ∙ gives_bind _ (take_if-gives _ f r.first)
    (ap (λ x. read.unsigned_by f x r.mid) (word_is w.Short t m.first) ∙ gives_bind _ (take_if-gives _ t m.first) (gives_bind _ (int-gives n m.second end) refl))
integer-gives (i.Int t) ts rest h end = ap (λ x. read.integer_by x ts) (word_is w.Int t h) ∙ gives_bind _ (take_if-gives _ t h) refl
integer-gives (i.Signed f n) ts rest h end =
    let r = then-Takes h in
    ap (λ x. read.integer_by x ts) (word_is w.Signed f r.first) ∙ gives_bind _ (take_if-gives _ f r.first) (signed-gives f n r.mid rest r.second end)
integer-gives (i.Unsigned f n) ts rest h end =
    let r = then-Takes h in
    ap (λ x. read.integer_by x ts) (word_is w.Unsigned f r.first) ∙ gives_bind _ (take_if-gives _ f r.first) (unsigned-gives f n r.mid rest r.second end)
integer-gives (i.Long None t n) ts rest h end =
    let r = then-Takes h in
    let m = then-Takes r.second in
    rw (nothing-Takes r.first)
    (ap (λ x. read.integer_by x r.mid) (word_is w.Long t m.first) ∙ gives_bind _ (take_if-gives _ t m.first) (gives_bind _ (int-gives n m.second end) refl))
integer-gives (i.Long (Some f) t n) ts rest h end =
    let r = then-Takes h in
    let m = then-Takes r.second in
    ap (λ x. read.integer_by x ts) (word_is w.Signed f r.first)
    ∙ gives_bind _ (take_if-gives _ f r.first)
    (ap (λ x. read.signed_by f x r.mid) (word_is w.Long t m.first) ∙ gives_bind _ (take_if-gives _ t m.first) (gives_bind _ (int-gives n m.second end) refl))
integer-gives (i.UnsignedLong f t n) ts rest h end =
    let r = then-Takes h in
    let m = then-Takes r.second in
    ap (λ x. read.integer_by x ts) (word_is w.Unsigned f r.first)
    ∙ gives_bind _ (take_if-gives _ f r.first)
    (ap (λ x. read.unsigned_by f x r.mid) (word_is w.Long t m.first) ∙ gives_bind _ (take_if-gives _ t m.first) (gives_bind _ (int-gives n m.second end) refl))

pub integer-Complete : (k : ℕ) → Complete k read.integer integer goes_on_integer
integer-Complete k = record { gives = λ ts a rest. integer-gives a ts rest }

integer_specifier : (x : Word) → begins_integer x ≡ true → (ts : Leaves) → read.specifier_by x ts ≡ (s.Integer <$> read.integer) ts
integer_specifier w.Void h ts = cc
integer_specifier w.Struct h ts = cc
integer_specifier _ h ts = refl

specifier-gives : (a : Specifier) {k : ℕ} (ts rest : Leaves) → Takes k ts (specifier a) rest → Ends goes_on_integer rest → read.specifier ts ≡ Some (a, rest)
unfolding specifier read.specifier read.struct_type
specifier-gives (s.Integer x) ts rest h end = integer_specifier _ (integer-Starts.word _ ts x rest h) ts ∙ gives_bind _ (integer-gives x ts rest h end) refl
specifier-gives (s.Void t) ts rest h end = ap (λ x. read.specifier_by x ts) (word_is w.Void t h) ∙ gives_bind _ (take_if-gives _ t h) refl
specifier-gives (s.Struct t n) ts rest h end =
    let r = then-Takes h in
    ap (λ x. read.specifier_by x ts) (word_is w.Struct t r.first) ∙ gives_bind _ (take_if-gives _ t r.first) (gives_bind _ (take_if-gives _ n r.second) refl)

pub specifier-Complete : (k : ℕ) → Complete k read.specifier specifier goes_on_integer
specifier-Complete k = record { gives = λ ts a rest. specifier-gives a ts rest }

pub consts-Complete : (k : ℕ) → Complete k read.consts consts (same w.Const)
unfolding read.consts
consts-Complete k = tokens-Complete (same w.Const) k refl

-- what stands before each `const` ends there
consts_end : {goes_on : Word → Bool} → goes_on w.Const ≡ false → (cs : List Leaf) {k : ℕ} {ts rest : Leaves} → Takes k ts (consts cs) rest → Ends goes_on rest → Ends goes_on ts
unfolding run
consts_end not [] h end = rw (nothing-Takes h) end
consts_end not (c ∷ cs) h end = at_one w.Const c (then-Takes h).first not

base_no_const : (x : Word) → goes_on_base x ≡ false → same w.Const x ≡ false
base_no_const w.Const h = cc
base_no_const _ h = refl

base_no_integer : (x : Word) → goes_on_base x ≡ false → goes_on_integer x ≡ false
base_no_integer w.Const h = refl
base_no_integer _ h = h

pub base-Complete : (k : ℕ) → Complete k read.base base goes_on_base
unfolding read.base base
base-Complete k = record {
  gives = λ ts a rest h end.
      let r = then-Takes h in
      let first : Ends goes_on_integer r.mid = consts_end refl a.consts r.second (record { ends = base_no_integer _ end.ends }) in
      gives_bind _ (specifier-gives a.specifier ts r.mid r.first first) (gives_bind _ ((consts-Complete k).gives r.mid a.consts rest r.second (record { ends = base_no_const _ end.ends })) refl);
}

pub star-Complete : (k : ℕ) → Complete k read.star star (same w.Const)
unfolding read.star star
star-Complete k = record {
  gives = λ ts a rest h end.
      let r = then-Takes h in
      gives_bind _ (take_if-gives (same w.Star) a.star r.first) (gives_bind _ ((consts-Complete k).gives r.mid a.consts rest r.second end) refl);
}

-- ---- stars that are read before it is known what stands after them

cons_nil : {A : Type 0} {x : A} {xs : List A} → ◌≡◌ {A = List A} (x ∷ xs) [] → ⊥
cons_nil h = cc

-- what was read after the stars that were found: where nothing stands after the stars, and where each of them nests what stands after it
pub record StarsRead (k : ℕ) (found : List Star) (ts : Leaves) (all : List Star) (mid : Leaves) : Type 0 where
  pub more : List Star
  pub joined : all ≡ found ++ more
  pub few : length more ≤ k
  pub none : more ≡ [] → ts ≡ mid
  pub alone : 0 < k → Takes k ts (stars_alone more) mid
  pub before : (a : Written) (rest : Leaves) → Takes (k - length more) mid a rest → Takes k ts (stars_before more a) rest

no_stars : (k : ℕ) (found : List Star) (ts : Leaves) (all : List Star) (mid : Leaves) → ◌≡◌ {A = Outcome (List Star)} (Some (found, ts)) (Some (all, mid)) → StarsRead k found ts all mid
unfolding stars_alone stars_before
no_stars k found ts all mid h =
    let q = same_pair h in
    let n : k - 0 ≡ k = omega arith in
    record {
      more = [];
      joined = sym q.0 ∙ sym (append-nil found);
      few = omega arith;
      none = λ e. q.1;
      alone = λ some. subst (λ r. Takes k ts nothing r) q.1 (Takes-nothing k ts some);
      before = λ a rest i. subst (λ t. Takes k t a rest) (sym q.1) (subst (λ j. Takes j mid a rest) n i);
    }

one_star : (n : ℕ) (x : Star) (more : List Star) (ts mid rest : Leaves) → Takes (suc n) ts (star x) mid → length more ≤ n → (more ≡ [] → mid ≡ rest)
    → (0 < n → Takes n mid (stars_alone more) rest) → Takes (suc n) ts (stars_alone (x ∷ more)) rest
unfolding stars_alone
one_star n x [] ts mid rest h few none alone = subst (λ r. Takes (suc n) ts (star x) r) (none refl) h
one_star n x (y ∷ more) ts mid rest h few none alone = Takes-then h (Takes-nested (alone (omega (arith, few))))

pub stars_from-takes : (k : ℕ) (found : List Star) (ts : Leaves) (all : List Star) (mid : Leaves) → stars_from k found ts ≡ Some (all, mid) → StarsRead k found ts all mid
unfolding stars_from stars_before
stars_from-takes zero found ts all mid h = no_stars zero found ts all mid h
stars_from-takes (suc n) found ts all mid h = ⊎_elim
    (λ q.
    let x = bind_ok (read.star ts) _ all mid q.1 in
    let i = stars_from-takes n (found ++ x.value ∷ []) x.mid all mid x.second in
    let first = (star-Sound (suc n) (omega arith)).takes _ _ _ x.first in
    record {
      more = x.value ∷ i.more;
      joined = i.joined ∙ append_assoc found (x.value ∷ []) i.more;
      few = omega (arith, i.few);
      none = λ e. absurd (cons_nil e);
      alone = λ some. one_star n x.value i.more ts x.mid mid first i.few i.none i.alone;
      before = λ a rest h.
          let e : suc n - length (x.value ∷ i.more) ≡ n - length i.more = omega arith in
          Takes-then first (Takes-nested (i.before a rest (subst (λ j. Takes j mid a rest) e h)));
    })
    (λ q. no_stars (suc n) found ts all mid q.1)
    (chosen (same w.Star (word_at ts)) _ _ ts _ h)

pub stars-Sound : (k : ℕ) → 0 < k → Sound k (stars_from k []) stars_alone
stars-Sound k some = record { takes = λ ts a rest h. let r = stars_from-takes k [] ts a rest h in subst (λ a. Takes k ts (stars_alone a) rest) (sym r.joined) (r.alone some) }

pub before_append : (xs ys : List Star) (a : Written) → stars_before (xs ++ ys) a ≡ stars_before xs (stars_before ys a)
unfolding stars_before
before_append [] ys a = refl
before_append (x ∷ xs) ys a = ap (λ v. star x then nested v) (before_append xs ys a)

abbrev pub goes_on_stars : Word → Bool
goes_on_stars x = same w.Star x || same w.Const x

pub stars_end : (n : ℕ) (found : List Star) (rest : Leaves) → Ends goes_on_stars rest → stars_from n found rest ≡ Some (found, rest)
unfolding stars_from
stars_end zero found rest end = refl
stars_end (suc n) found rest end = refuse_test (same w.Star (word_at rest)) _ _ rest (first_of_neither _ _ end.ends)

stars_from-gives : (xs : List Star) (k : ℕ) (found : List Star) (ts rest : Leaves) → Takes k ts (stars_alone xs) rest → Ends goes_on_stars rest → stars_from k found ts ≡ Some (found ++ xs, rest)
unfolding stars_from stars_alone
stars_from-gives [] k found ts rest h end = rw (append-nil found, nothing-Takes h) (stars_end k found rest end)
stars_from-gives (x ∷ xs) zero found ts rest h end = absurd (omega (arith, h.below))
stars_from-gives (x ∷ []) (suc n) found ts rest h end =
    choose (same w.Star (word_at ts)) _ _ ts (ap (same w.Star) (star-word x h))
    ∙ gives_bind _ ((star-Complete (suc n)).gives ts x rest h (record { ends = second_of_neither _ _ end.ends })) (stars_end n (found ++ x ∷ []) rest end)
stars_from-gives (x ∷ y ∷ xs) (suc n) found ts rest h end =
    let r = then-Takes h in
    let inside = nested-Takes r.second in
    choose (same w.Star (word_at ts)) _ _ ts (ap (same w.Star) (star-word x r.first))
    ∙ gives_bind _ ((star-Complete (suc n)).gives ts x r.mid r.first (record { ends = ap (same w.Const) (alone-word y xs inside) }))
    (stars_from-gives (y ∷ xs) n (found ++ x ∷ []) r.mid rest inside end)
    ∙ ap (λ all. Some (all, rest)) (append_assoc found (x ∷ []) (y ∷ xs))
  where
    alone-word : {k : ℕ} {ts rest : Leaves} (x : Star) (xs : List Star) → Takes k ts (stars_alone (x ∷ xs)) rest → word_at ts ≡ w.Star
    alone-word x [] h = star-word x h
    alone-word x (y ∷ xs) h = star-word x (then-Takes h).first

pub stars-Complete : (k : ℕ) → Complete k (stars_from k []) stars_alone goes_on_stars
stars-Complete k = record { gives = λ ts a rest. stars_from-gives a k [] ts rest }

-- the stars before what begins with neither `*` nor `const` are read whatever stands there
pub record Reaches (k : ℕ) (found xs : List Star) (ts : Leaves) (a : Written) (rest : Leaves) : Type 0 where
  pub mid : Leaves
  pub reads : stars_from k found ts ≡ Some (found ++ xs, mid)
  pub takes : Takes (k - length xs) mid a rest

module _ (a : Written) (rest : Leaves) (starts : (j : ℕ) (mid : Leaves) → Takes j mid a rest → Ends goes_on_stars mid) where
  -- what stands there, or a star, is no `const`
  before_ends : (xs : List Star) {k : ℕ} {ts : Leaves} → Takes k ts (stars_before xs a) rest → Ends (same w.Const) ts
  unfolding stars_before
  before_ends [] h = record { ends = second_of_neither _ _ (starts _ _ h).ends }
  before_ends (x ∷ xs) h = record { ends = ap (same w.Const) (star-word x (then-Takes h).first) }

  pub stars_reach : (xs : List Star) (k : ℕ) (found : List Star) (ts : Leaves) → Takes k ts (stars_before xs a) rest → Reaches k found xs ts a rest
  unfolding stars_from stars_before
  stars_reach [] k found ts h =
      let n : k ≡ k - 0 = omega arith in
      record { mid = ts; reads = stars_end k found ts (starts k ts h) ∙ ap (λ l. Some (l, ts)) (sym (append-nil found)); takes = subst (λ j. Takes j ts a rest) n h }
  stars_reach (x ∷ xs) zero found ts h = absurd (omega (arith, h.below))
  stars_reach (x ∷ xs) (suc n) found ts h =
      let t = then-Takes h in
      let inside = nested-Takes t.second in
      let r = stars_reach xs n (found ++ x ∷ []) t.mid inside in
      let e : n - length xs ≡ suc n - length (x ∷ xs) = omega arith in
      record {
        mid = r.mid;
        reads = choose (same w.Star (word_at ts)) _ _ ts (ap (same w.Star) (star-word x t.first))
            ∙ gives_bind _ ((star-Complete (suc n)).gives ts x t.mid t.first (before_ends xs inside)) r.reads
            ∙ ap (λ l. Some (l, r.mid)) (append_assoc found (x ∷ []) xs);
        takes = subst (λ j. Takes j r.mid a rest) e r.takes;
      }

-- ---- the names of types

type_no_star : (x : Word) → goes_on_type x ≡ false → same w.Star x ≡ false
type_no_star w.Star h = cc
type_no_star _ h = refl

type_no_base : (x : Word) → goes_on_type x ≡ false → goes_on_base x ≡ false
type_no_base w.Star h = refl
type_no_base _ h = h

stars_end_base : (xs : List Star) {k : ℕ} {ts rest : Leaves} → Takes k ts (stars_alone xs) rest → Ends goes_on_base rest → Ends goes_on_base ts
unfolding stars_alone
stars_end_base [] h end = rw (nothing-Takes h) end
stars_end_base (x ∷ []) h end = record { ends = ap goes_on_base (star-word x h) }
stars_end_base (x ∷ y ∷ xs) h end = record { ends = ap goes_on_base (star-word x (then-Takes h).first) }

pub type_name-Sound : (k : ℕ) → Sound k (read.type_name k) type_name
unfolding read.type_name type_name
type_name-Sound zero = record { takes = λ ts a rest h. cc }
type_name-Sound (suc n) = record {
  takes = λ ts a rest h.
      let x = bind_ok (read.base ts) _ a rest h in
      let stars = bind_ok (stars_from (suc n) [] x.mid) _ a rest x.second in
      finish type_name refl stars.second (Takes-then ((base-Sound (suc n) (omega arith)).takes _ _ _ x.first) ((stars-Sound (suc n) (omega arith)).takes _ _ _ stars.first));
}

pub type_name-Complete : (k : ℕ) → Complete k (read.type_name k) type_name goes_on_type
unfolding read.type_name type_name
type_name-Complete zero = record { gives = λ ts a rest h end. absurd (omega (arith, h.below)) }
type_name-Complete (suc n) = record {
  gives = λ ts a rest h end.
      let r = then-Takes h in
      let over : Ends goes_on_base rest = record { ends = type_no_base (word_at rest) end.ends } in
      let stars : Ends goes_on_stars rest = record { ends = neither _ _ (type_no_star (word_at rest) end.ends) (base_no_const (word_at rest) over.ends) } in
      gives_bind _ ((base-Complete (suc n)).gives ts a.base r.mid r.first (stars_end_base a.stars r.second over))
      (gives_bind _ ((stars-Complete (suc n)).gives r.mid a.stars rest r.second stars) refl);
}
