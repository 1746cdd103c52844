-- Initialisers and what a declaration declares: the parser gives a tree exactly where one stands.
use Rattle.std.proofs.Common.{◌≡◌, ℕ, zero, suc, ◌-◌, ◌<◌, Bool, true, false, ◌||◌, not, [], Option, Some, None, refl, ap, subst, ◌∙◌, ⊎_elim, arith}
use Rattle.c_words.specs.declared.word.Word.{Word}
use Rattle.c_words.specs.declared.word.Word.TheVariants as w
use Rattle.c_words.specs.declared.word.Leaf.{Leaf}
use Rattle.c_words.specs.declared.chain.Chain.{Chain}
use Rattle.c_words.specs.declared.operators.Operators.TheVariants as o
use Rattle.c_grammar.specs.declared.declaration.Declarator.{Declarator}
use Rattle.c_grammar.specs.declared.declaration.Init.{Init}
use Rattle.c_grammar.specs.declared.declaration.Init.TheVariants as i
use Rattle.c_grammar.specs.declared.declaration.Declared.{Declared}
use Rattle.c_grammar.specs.declared.declaration.Declared.TheVariants as e
use Rattle.c_words.specs.Words.{same}
use Rattle.c_words.specs.Written.{nothing, ◌then◌, one, nested, only, optional, chain, Takes}
use Rattle.c_words.specs.OperatorWords.{is_comma}
use Rattle.c_grammar.specs.Declarations.{declarator, is_unsized, sized, init, declared}
use Rattle.c_words.specs.Operators.{continues}
use Rattle.c_words.specs.Parsing.{Leaves, Parser, word_at, after, expect, optional_at}
use Rattle.c_words.proofs.Taking.{nothing-Takes, Takes-then, then-Takes, Takes-nested, nested-Takes, both}
use Rattle.c_words.proofs.Reading.{finish, after-one, at_one, word_is, bind_ok, gives_bind, chosen, choose, refuse_test, first_of_neither, second_of_neither, Sound, Complete, Ends, Starts, take_if-takes, take_if-gives, take_if-word, optional_at-takes, optional_at-gives}
use Rattle.c_words.proofs.Chains.{chain-Sound, chain-Complete, chain-Starts, chain-gives}
use Rattle.c_expressions.specs.ExpressionReading.{inner_at, begins_expression, goes_on_assign}
use Rattle.c_declarations.specs.DeclaratorReading.{declarator_from, begins_declarator, goes_on_declarator}
use Rattle.c_declarations.specs.DeclaredReading as read
use Rattle.c_declarations.specs.DeclaredReading.{goes_on_declared}
use Rattle.c_grammar.proofs.DeclaratorShapes.{init-Value, init-Braces, init_cases}
use Rattle.c_declarations.proofs.DeclaratorLaws.{Kept, kept_any, deep-inside, deep-gives, declarator-takes, declarator-gives, declarator-Starts}
use Rattle.c_expressions.proofs.ExpressionLaws.{exact, assign-Starts}

-- ---- nothing, where a condition holds

pub Takes-only : (k : ℕ) (ts : Leaves) (b : Bool) → 0 < k → b ≡ true → Takes k ts (only b) ts
unfolding only nothing
Takes-only k ts b some h = record { spelled = refl; levelled = h; below = omega arith }

pub only-Takes : {k : ℕ} {ts rest : Leaves} (b : Bool) → Takes k ts (only b) rest → (ts ≡ rest) × (b ≡ true)
unfolding only nothing
only-Takes b h = (h.spelled, h.levelled)

not_is : (b : Bool) → not b ≡ true → b ≡ false
not_is true h = cc
not_is false h = refl

is_not : (b : Bool) → b ≡ false → not b ≡ true
is_not true h = cc
is_not false h = refl

-- ---- how initialisers begin, and the words around their lists

abbrev pub begins_init : Word → Bool
begins_init x = same w.LeftBrace x || begins_expression x

begins_no_brace : (x : Word) → begins_expression x ≡ true → same w.LeftBrace x ≡ false
begins_no_brace w.LeftBrace h = cc
begins_no_brace _ h = refl

begins_no_close : (x : Word) → begins_init x ≡ true → same w.RightBrace x ≡ false
begins_no_close w.RightBrace h = cc
begins_no_close _ h = refl

comma_ends : (x : Word) → is_comma x ≡ true → goes_on_assign x ≡ false
comma_ends w.Comma h = refl
comma_ends _ h = cc

or_right : (a b : Bool) → b ≡ true → (a || b) ≡ true
or_right true b h = refl
or_right false b h = h

pub init-Starts : Starts init begins_init
init-Starts = record {
  word = λ k ts a rest h. init_cases (λ a. Takes k ts (init a) rest → begins_init (word_at ts) ≡ true)
      (λ x h. or_right _ _ (assign-Starts.word k ts x rest (subst (λ v. Takes k ts v rest) (init-Value x) h)))
      (λ l all last r h. rw (word_is w.LeftBrace l (then-Takes (subst (λ v. Takes k ts v rest) (init-Braces l all last r) h)).first) refl)
      a h;
}

-- ---- initialisers: soundness

braces-takes : (n : ℕ) (inner : Parser Init) → Sound n inner init → (ts : Leaves) (a : Init) (rest : Leaves) → read.braces inner ts ≡ Some (a, rest) → Takes (suc n) ts (init a) rest
unfolding read.braces read.elements
braces-takes n inner sound ts a rest h =
    let l = bind_ok (expect w.LeftBrace ts) _ a rest h in
    let x = bind_ok (read.elements inner l.mid) _ a rest l.second in
    let c = bind_ok (optional_at w.Comma x.mid) _ a rest x.second in
    let r = bind_ok (expect w.RightBrace c.mid) _ a rest c.second in
    let all = (chain-Sound (continues o.Elements) is_comma inner init n sound).takes l.mid x.value x.mid x.first in
    finish init (init-Braces l.value x.value c.value r.value) r.second
    (Takes-then (take_if-takes (suc n) (omega arith) _ _ _ _ l.first)
    (Takes-then (Takes-nested (Takes-then all (optional_at-takes n (omega (arith, all.below)) w.Comma _ _ _ c.first))) (take_if-takes (suc n) (omega arith) _ _ _ _ r.first)))

pub init-Sound : (k : ℕ) → Sound k (read.init_at k) init
unfolding read.init_at
init-Sound zero = record { takes = λ ts a rest h. cc }
init-Sound (suc n) = record {
  takes = λ ts a rest h. ⊎_elim
      (λ q. braces-takes n (read.init_at n) (init-Sound n) ts a rest (deep-inside n _ ts a rest q.1))
      (λ q.
      let x = bind_ok ((inner_at (suc n)).assign ts) _ a rest q.1 in
      finish init (init-Value x.value) x.second ((exact (suc n)).assign_sound.takes ts x.value x.mid x.first))
      (chosen (same w.LeftBrace (word_at ts)) _ _ ts _ h);
}

-- ---- initialisers: completeness

-- after the elements stands `}`, or a comma and `}`
elements_end : {j k : ℕ} {ts mid rest : Leaves} (last : Option Leaf) (r : Leaf) → Takes j ts (optional (one w.Comma) last) mid → Takes k mid (one w.RightBrace r) rest
    → (continues o.Elements ts ≡ false) × Ends goes_on_assign ts
unfolding optional
elements_end None r h i =
    let e = ap word_at (nothing-Takes h) ∙ word_is w.RightBrace r i in
    (rw e refl, record { ends = ap goes_on_assign e })
elements_end {ts = ts} {mid = mid} (Some t) r h i =
    let e = word_is w.Comma t h in
    let f : word_at (after ts) ≡ w.RightBrace = ap word_at (after-one (same w.Comma) t h) ∙ word_is w.RightBrace r i in
    (rw (e, f) refl, record { ends = ap goes_on_assign e })

braces-gives : (n : ℕ) (inner : Parser Init) → Complete n inner init goes_on_assign → (l : Leaf) (all : Chain Init) (last : Option Leaf) (r : Leaf) (ts rest : Leaves)
    → Takes (suc n) ts (one w.LeftBrace l then nested (chain is_comma init all then optional (one w.Comma) last) then one w.RightBrace r) rest → read.braces inner ts ≡ Some (i.Braces l all last r, rest)
unfolding read.braces read.elements
braces-gives n inner complete l all last r ts rest h =
    let s = then-Takes h in
    let x = then-Takes s.second in
    let y = then-Takes (nested-Takes x.first) in
    let end = elements_end last r y.second x.second in
    gives_bind _ (take_if-gives (same w.LeftBrace) l s.first)
    (gives_bind _ (chain-gives (continues o.Elements) is_comma inner init n goes_on_assign begins_init complete init-Starts comma_ends
    (λ ts c b. both _ _ c (is_not _ (begins_no_close _ b))) s.mid all y.mid y.first end.0 end.1)
    (gives_bind _ (optional_at-gives w.Comma last y.second (at_one w.RightBrace r x.second refl))
    (gives_bind _ (take_if-gives (same w.RightBrace) r x.second) refl)))

pub init-Complete : (k : ℕ) → Complete k (read.init_at k) init goes_on_assign
unfolding read.init_at
init-Complete zero = record { gives = λ ts a rest h end. absurd (omega (arith, h.below)) }
init-Complete (suc n) = record {
  gives = λ ts a rest h end. init_cases (λ a. Takes (suc n) ts (init a) rest → read.init_at (suc n) ts ≡ Some (a, rest))
      (λ x h.
      let y = subst (λ v. Takes (suc n) ts v rest) (init-Value x) h in
      refuse_test (same w.LeftBrace (word_at ts)) _ _ ts (begins_no_brace (word_at ts) (assign-Starts.word (suc n) ts x rest y))
      ∙ gives_bind _ ((exact (suc n)).assign_complete.gives ts x rest y end) refl)
      (λ l all last r h.
      let y = subst (λ v. Takes (suc n) ts v rest) (init-Braces l all last r) h in
      let s = then-Takes y in
      let inside = nested-Takes (then-Takes s.second).first in
      choose (same w.LeftBrace (word_at ts)) _ _ ts (take_if-word (same w.LeftBrace) l s.first)
      ∙ deep-gives n (omega (arith, inside.below)) _ ts
      ∙ braces-gives n (read.init_at n) (init-Complete n) l all last r ts rest y)
      a h;
}

-- one step of the parser, at a `{`
pub init-brace : (n : ℕ) → 1 < n → (ts : Leaves) → same w.LeftBrace (word_at ts) ≡ true → read.init_at n ts ≡ read.braces (read.init_at (n - 1)) ts
unfolding read.init_at
init-brace zero some ts h = absurd (omega arith)
init-brace (suc m) some ts h =
    let e : suc m - 1 ≡ m = omega arith in
    rw e (choose (same w.LeftBrace (word_at ts)) _ _ ts h ∙ deep-gives m (omega (arith, some)) _ ts)

-- ---- what is declared

module _ (k : ℕ) where
  after_declarator-takes : (x : Declarator) (ts mid : Leaves) (a : Declared) (rest : Leaves) → Takes k ts (declarator x) mid → read.after_declarator k x mid ≡ Some (a, rest) → Takes k ts (declared a) rest
  unfolding read.after_declarator read.initialised declared
  after_declarator-takes x ts mid a rest first h =
      let some : 0 < k = omega (arith, first.below) in
      ⊎_elim
      (λ q.
      let t = bind_ok (expect w.Assign mid) _ a rest q.1 in
      let v = bind_ok (read.init_at k t.mid) _ a rest t.second in
      finish declared refl v.second (Takes-then first (Takes-then (take_if-takes k some _ _ _ _ t.first) ((init-Sound k).takes t.mid v.value v.mid v.first))))
      (λ q. ⊎_elim
      (λ r. cc)
      (λ r. finish declared refl r.1 (Takes-then first (Takes-only k mid _ some (is_not _ r.0))))
      (chosen (is_unsized x) _ _ mid _ q.1))
      (chosen (same w.Assign (word_at mid)) _ _ mid _ h)

  pub declared-Sound : Sound k (read.declared k) declared
  unfolding read.declared
  declared-Sound = record {
    takes = λ ts a rest h.
        let x = bind_ok (declarator_from true k [] ts) _ a rest h in
        after_declarator-takes x.value ts x.mid a rest (declarator-takes true k ts x.value x.mid x.first).0 x.second;
  }

  assign_not_bracket : {ts : Leaves} → word_at ts ≡ w.Assign → Ends goes_on_declarator ts
  assign_not_bracket e = record { ends = ap goes_on_declarator e }

  declared-gives : (a : Declared) (ts rest : Leaves) → Takes k ts (declared a) rest → Ends goes_on_declared rest → read.declared k ts ≡ Some (a, rest)
  unfolding read.declared read.after_declarator read.initialised declared
  declared-gives (e.Plain x) ts rest h end =
      let s = then-Takes h in
      let f = only-Takes _ s.second in
      let first : Takes k ts (declarator x) rest = subst (λ r. Takes k ts (declarator x) r) f.0 s.first in
      gives_bind _ (declarator-gives true k ts x rest first (kept_any _) (record { ends = first_of_neither _ _ (second_of_neither (same w.Assign (word_at rest)) _ end.ends) }))
      (refuse_test (same w.Assign (word_at rest)) _ _ rest (first_of_neither _ _ end.ends) ∙ refuse_test (is_unsized x) _ _ rest (not_is _ f.1))
  declared-gives (e.Initialised x t v) ts rest h end =
      let s = then-Takes h in
      let y = then-Takes s.second in
      gives_bind _ (declarator-gives true k ts x s.mid s.first (kept_any _) (assign_not_bracket (word_is w.Assign t y.first)))
      (choose (same w.Assign (word_at s.mid)) _ _ s.mid (take_if-word (same w.Assign) t y.first)
      ∙ gives_bind _ (take_if-gives (same w.Assign) t y.first)
      (gives_bind _ ((init-Complete k).gives y.mid v rest y.second
      (record { ends = second_of_neither (same w.LeftBracket (word_at rest)) _ (second_of_neither (same w.Assign (word_at rest)) _ end.ends) })) refl))

  pub declared-Complete : Complete k (read.declared k) declared goes_on_declared
  declared-Complete = record { gives = λ ts a rest h end. declared-gives a ts rest h end }

  -- a declarator whose `[ ]` are not empty
  pub sized-Sound : Sound k (declarator_from false k []) sized
  sized-Sound = record {
    takes = λ ts a rest h.
        let x = declarator-takes false k ts a rest h in
        let first = x.0 in
        Takes-then first (Takes-only k rest _ (omega (arith, first.below)) (is_not _ (kept_sized _ x.1)));
  }
    where
      kept_sized : (b : Bool) → Kept false b → b ≡ false
      kept_sized true h = cc
      kept_sized false h = refl

  pub sized-Complete : Complete k (declarator_from false k []) sized goes_on_declarator
  sized-Complete = record {
    gives = λ ts a rest h end.
        let s = then-Takes h in
        let f = only-Takes _ s.second in
        declarator-gives false k ts a rest (subst (λ r. Takes k ts (declarator a) r) f.0 s.first) (sized_kept _ f.1) end;
  }
    where
      sized_kept : (b : Bool) → not b ≡ true → Kept false b
      sized_kept true h = cc
      sized_kept false h = refl

pub declared-Starts : Starts declared begins_declarator
unfolding declared
declared-Starts = record { word = λ k ts a rest h. of k ts a rest h }
  where
    of : (k : ℕ) (ts : Leaves) (a : Declared) (rest : Leaves) → Takes k ts (declared a) rest → begins_declarator (word_at ts) ≡ true
    of k ts (e.Plain x) rest h = let s = then-Takes h in declarator-Starts.word k ts x s.mid s.first
    of k ts (e.Initialised x t v) rest h = let s = then-Takes h in declarator-Starts.word k ts x s.mid s.first

pub sized-Starts : Starts sized begins_declarator
sized-Starts = record { word = λ k ts a rest h. let s = then-Takes h in declarator-Starts.word k ts a s.mid s.first }

-- ---- lists of them

abbrev pub goes_on_all_declared : Word → Bool
goes_on_all_declared x = is_comma x || goes_on_declared x

abbrev pub goes_on_declarators : Word → Bool
goes_on_declarators x = is_comma x || goes_on_declarator x

comma_ends_declared : (x : Word) → is_comma x ≡ true → goes_on_declared x ≡ false
comma_ends_declared w.Comma h = refl
comma_ends_declared _ h = cc

comma_ends_declarator : (x : Word) → is_comma x ≡ true → goes_on_declarator x ≡ false
comma_ends_declarator w.Comma h = refl
comma_ends_declarator _ h = cc

pub all_declared-Sound : (k : ℕ) → Sound k (read.all_declared k) (chain is_comma declared)
unfolding read.all_declared
all_declared-Sound k = chain-Sound _ is_comma (read.declared k) declared k (declared-Sound k)

pub all_declared-Complete : (k : ℕ) → Complete k (read.all_declared k) (chain is_comma declared) goes_on_all_declared
unfolding read.all_declared
all_declared-Complete k = chain-Complete is_comma (read.declared k) declared k goes_on_declared (declared-Complete k) comma_ends_declared

pub all_declared-Starts : Starts (chain is_comma declared) begins_declarator
all_declared-Starts = chain-Starts is_comma declared begins_declarator declared-Starts

pub declarators-Sound : (k : ℕ) → Sound k (read.declarators k) (chain is_comma sized)
unfolding read.declarators
declarators-Sound k = chain-Sound _ is_comma (declarator_from false k []) sized k (sized-Sound k)

pub declarators-Complete : (k : ℕ) → Complete k (read.declarators k) (chain is_comma sized) goes_on_declarators
unfolding read.declarators
declarators-Complete k = chain-Complete is_comma (declarator_from false k []) sized k goes_on_declarator (sized-Complete k) comma_ends_declarator

pub declarators-Starts : Starts (chain is_comma sized) begins_declarator
declarators-Starts = chain-Starts is_comma sized begins_declarator sized-Starts
