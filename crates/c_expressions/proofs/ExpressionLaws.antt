-- Expressions: a parser gives a tree exactly where one stands.
use Rattle.std.proofs.Common.{◌≡◌, ℕ, zero, suc, ◌<◌, Bool, true, false, not, ◌||◌, ◌&&◌, List, [], ◌∷◌, Option, Some, None, refl, sym, ap, ap₂, subst, ◌∙◌, ⊎_elim, arith}
use Rattle.c_words.specs.declared.word.Word.{Word}
use Rattle.c_words.specs.declared.word.Word.TheVariants as w
use Rattle.c_words.specs.declared.word.Leaf.{Leaf}
use Rattle.c_words.specs.declared.chain.Chain.{Chain}
use Rattle.c_words.specs.declared.chain.Link.{Link}
use Rattle.c_grammar.specs.declared.expression.Assign.{Assign}
use Rattle.c_grammar.specs.declared.expression.Choice.{Choice}
use Rattle.c_grammar.specs.declared.expression.Or.{Or}
use Rattle.c_grammar.specs.declared.expression.Unary.{Unary}
use Rattle.c_grammar.specs.declared.expression.Unary.TheVariants as u
use Rattle.c_grammar.specs.declared.types.TypeName.{TypeName}
use Rattle.c_grammar.specs.declared.expression.Postfix.{Postfix}
use Rattle.c_grammar.specs.declared.expression.Suffix.{Suffix}
use Rattle.c_grammar.specs.declared.expression.Primary.{Primary}
use Rattle.c_grammar.specs.declared.expression.Primary.TheVariants as p
use Rattle.c_words.specs.Words.{same}
use Rattle.c_words.specs.Written.{Written, nothing, ◌then◌, one, one_of, nested, only, optional, run, links, chain, Takes}
use Rattle.c_grammar.specs.Types.{type_name}
use Rattle.c_words.specs.OperatorWords.{is_comma, is_prefix_operator, is_assignment_operator}
use Rattle.c_grammar.specs.Expressions.{is_cast, assign, choice, or, unary, postfix, suffix, primary}
use Rattle.c_words.specs.Operators.{is_binary_operator}
use Rattle.c_words.specs.Parsing.{Leaves, Parser, word_at, after, take_if, expect, run_at, chain_at, next_is}
use Rattle.c_grammar.proofs.ExpressionShapes.{assign-Choice, assign-Assign, choice-Or, choice-Choose, unary-Postfix, unary-Prefix, unary-Cast, unary-SizeOf, unary-SizeOfType, is_cast-Postfix, is_cast-Prefix, is_cast-Cast, is_cast-SizeOf, is_cast-SizeOfType, postfix-is, suffix-Index, suffix-Member, suffix-Arrow, suffix-Increment, suffix-Decrement, primary-Name, primary-Call, primary-Number, primary-Character, primary-Paren, assign_cases, choice_cases, unary_cases, postfix_cases, suffix_cases, primary_cases}
use Rattle.c_words.proofs.Taking.{Takes-nothing, nothing-Takes, Takes-then, then-Takes, Takes-nested, nested-Takes}
use Rattle.c_words.proofs.Reading.{bind_ok, gives_bind, chosen, choose, refuse_test, Sound, Complete, Ends, Starts, first_of_neither, second_of_neither, neither, take_if-takes, take_if-gives, take_if-word, finish, after-one, at_one, word_is}
use Rattle.c_words.proofs.Chains.{chain-Sound, chain-Complete, chain-Starts}
use Rattle.c_words.proofs.Runs.{run-Sound, run-Complete}
use Rattle.c_type_names.specs.TypeReading as types
use Rattle.c_type_names.specs.TypeReading.{begins_type, goes_on_type}
use Rattle.c_grouping.specs.Grouping.{or_of}
use Rattle.c_expressions.specs.ExpressionReading as read
use Rattle.c_expressions.specs.ExpressionReading.{Inner, deep, begins_cast, is_suffix, inner_at, begins_primary, begins_expression, goes_on_unary, goes_on_or, goes_on_choice, goes_on_assign}
use Rattle.c_type_names.proofs.TypeLaws.{type_name-Sound, type_name-Complete, type_name-Starts}
use Rattle.c_grouping.proofs.GroupingLaws.{or_of-is, or-flat}

-- ---- where nothing may nest

deep-takes : {A : Type 0} (n : ℕ) (q : Parser A) (ts : Leaves) (x : A) (rest : Leaves) → deep n q ts ≡ Some (x, rest) → q ts ≡ Some (x, rest)
deep-takes zero q ts x rest h = cc
deep-takes (suc n) q ts x rest h = h

deep-is : {A : Type 0} (n : ℕ) (q : Parser A) (ts : Leaves) → 0 < n → deep n q ts ≡ q ts
deep-is zero q ts some = absurd (omega arith)
deep-is (suc n) q ts some = refl

nested_room : {k : ℕ} {ts rest : Leaves} (x : Written) → Takes (suc k) ts (nested x) rest → 0 < k
unfolding nested
nested_room x h = omega (arith, h.below)

unnested : {k : ℕ} {ts rest : Leaves} {x : Written} → Takes k ts (nested x) rest → Takes k ts x rest
unfolding nested
unnested h = record { spelled = h.spelled; levelled = h.levelled; below = omega (arith, h.below) }

-- ---- a condition, which writes nothing

takes-only : (k : ℕ) (ts : Leaves) (b : Bool) → 0 < k → b ≡ true → Takes k ts (only b) ts
unfolding only nothing
takes-only k ts b some h = record { spelled = refl; levelled = h; below = omega arith }

only-takes : {k : ℕ} {ts rest : Leaves} (b : Bool) → Takes k ts (only b) rest → (ts ≡ rest) × (b ≡ true)
unfolding only nothing
only-takes b h = (h.spelled, h.levelled)

not_false : (b : Bool) → b ≡ false → not b ≡ true
not_false true h = cc
not_false false h = refl

false_of_not : (b : Bool) → not b ≡ true → b ≡ false
false_of_not true h = cc
false_of_not false h = refl

-- ---- a chain of one operand, and the tree of a chain

lone-takes : {k : ℕ} (left : Unary) {ts rest : Leaves} → Takes k ts (chain is_binary_operator unary (record { first = left; rest = [] })) rest → Takes k ts (unary left) rest
unfolding chain links
lone-takes {k = k} left {ts = ts} h = let t = then-Takes h in subst (λ r. Takes k ts (unary left) r) (nothing-Takes t.second) t.first

takes-lone : {k : ℕ} (left : Unary) {ts rest : Leaves} → Takes k ts (unary left) rest → Takes k ts (chain is_binary_operator unary (record { first = left; rest = [] })) rest
unfolding chain links
takes-lone {k = k} left {rest = rest} h = Takes-then h (Takes-nothing k rest (omega (arith, h.below)))

takes-or : {k : ℕ} (x : Chain Unary) {ts rest : Leaves} → Takes k ts (chain is_binary_operator unary x) rest → Takes k ts (or (or_of x)) rest
takes-or {k = k} x {ts = ts} {rest = rest} h = subst (λ v. Takes k ts v rest) (sym (or_of-is x)) h

record Flat (k : ℕ) (x : Or) (ts rest : Leaves) : Type 0 where
  pub flat : Chain Unary
  pub made : or_of flat ≡ x
  pub takes : Takes k ts (chain is_binary_operator unary flat) rest

or-takes : {k : ℕ} (x : Or) {ts rest : Leaves} → Takes k ts (or x) rest → Flat k x ts rest
or-takes {k = k} x {ts = ts} {rest = rest} h =
    let m = or-flat x h.levelled in
    record { flat = m.flat; made = m.made; takes = subst (λ v. Takes k ts v rest) (sym (ap or m.made) ∙ or_of-is m.flat) h }

-- ---- how trees begin

or_right : (b d : Bool) → d ≡ true → (b || d) ≡ true
or_right true d h = refl
or_right false d h = h

pub primary-Starts : Starts primary begins_primary
primary-Starts = record {
  word = λ k ts x rest. primary_cases (λ x. Takes k ts (primary x) rest → begins_primary (word_at ts) ≡ true)
      (λ n h. rw (word_is w.Name n (subst (λ v. Takes k ts v rest) (primary-Name n) h)) refl)
      (λ n l args r h. rw (word_is w.Name n (then-Takes (subst (λ v. Takes k ts v rest) (primary-Call n l args r) h)).first) refl)
      (λ n h. rw (word_is w.Number n (subst (λ v. Takes k ts v rest) (primary-Number n) h)) refl)
      (λ n h. rw (word_is w.Character n (subst (λ v. Takes k ts v rest) (primary-Character n) h)) refl)
      (λ l y r h. rw (word_is w.LeftParen l (then-Takes (subst (λ v. Takes k ts v rest) (primary-Paren l y r) h)).first) refl)
      x;
}

pub suffix-Starts : Starts suffix is_suffix
suffix-Starts = record {
  word = λ k ts x rest. suffix_cases (λ x. Takes k ts (suffix x) rest → is_suffix (word_at ts) ≡ true)
      (λ l y r h. rw (word_is w.LeftBracket l (then-Takes (subst (λ v. Takes k ts v rest) (suffix-Index l y r) h)).first) refl)
      (λ d n h. rw (word_is w.Dot d (then-Takes (subst (λ v. Takes k ts v rest) (suffix-Member d n) h)).first) refl)
      (λ d n h. rw (word_is w.Arrow d (then-Takes (subst (λ v. Takes k ts v rest) (suffix-Arrow d n) h)).first) refl)
      (λ t h. rw (word_is w.Increment t (subst (λ v. Takes k ts v rest) (suffix-Increment t) h)) refl)
      (λ t h. rw (word_is w.Decrement t (subst (λ v. Takes k ts v rest) (suffix-Decrement t) h)) refl)
      x;
}

pub postfix-Starts : Starts postfix begins_primary
postfix-Starts = record {
  word = λ k ts x rest. postfix_cases (λ x. Takes k ts (postfix x) rest → begins_primary (word_at ts) ≡ true)
      (λ y more h. let t = then-Takes (subst (λ v. Takes k ts v rest) (postfix-is y more) h) in primary-Starts.word k ts y t.mid t.first)
      x;
}

prefix_begins : (x : Word) → is_prefix_operator x ≡ true → begins_expression x ≡ true
prefix_begins x h = of (is_prefix_operator x) h
  where
    of : (b : Bool) → b ≡ true → (b || (same w.SizeOf x || begins_primary x)) ≡ true
    of true h = refl
    of false h = cc

pub unary-Starts : Starts unary begins_expression
unary-Starts = record {
  word = λ k ts x rest. unary_cases (λ x. Takes k ts (unary x) rest → begins_expression (word_at ts) ≡ true)
      (λ y h. or_right _ _ (or_right _ _ (postfix-Starts.word k ts y rest (subst (λ v. Takes k ts v rest) (unary-Postfix y) h))))
      (λ t y h. prefix_begins (word_at ts) (take_if-word is_prefix_operator t (then-Takes (subst (λ v. Takes k ts v rest) (unary-Prefix t y) h)).first))
      (λ l y r z h. rw (word_is w.LeftParen l (then-Takes (subst (λ v. Takes k ts v rest) (unary-Cast l y r z) h)).first) refl)
      (λ t y h. rw (word_is w.SizeOf t (then-Takes (subst (λ v. Takes k ts v rest) (unary-SizeOf t y) h)).first) refl)
      (λ t l y r h. rw (word_is w.SizeOf t (then-Takes (subst (λ v. Takes k ts v rest) (unary-SizeOfType t l y r) h)).first) refl)
      x;
}

pub or-Starts : Starts or begins_expression
or-Starts = record { word = λ k ts x rest h. let f = or-takes x h in (chain-Starts is_binary_operator unary begins_expression unary-Starts).word k ts f.flat rest f.takes }

pub choice-Starts : Starts choice begins_expression
choice-Starts = record {
  word = λ k ts x rest. choice_cases (λ x. Takes k ts (choice x) rest → begins_expression (word_at ts) ≡ true)
      (λ y h. or-Starts.word k ts y rest (subst (λ v. Takes k ts v rest) (choice-Or y) h))
      (λ y q z d e h. let t = then-Takes (subst (λ v. Takes k ts v rest) (choice-Choose y q z d e) h) in or-Starts.word k ts y t.mid t.first)
      x;
}

pub assign-Starts : Starts assign begins_expression
assign-Starts = record {
  word = λ k ts x rest. assign_cases (λ x. Takes k ts (assign x) rest → begins_expression (word_at ts) ≡ true)
      (λ y h. choice-Starts.word k ts y rest (subst (λ v. Takes k ts v rest) (assign-Choice y) h))
      (λ l t r h. let t = then-Takes (subst (λ v. Takes k ts v rest) (assign-Assign l t r) h) in unary-Starts.word k ts l t.mid t.first)
      x;
}

-- ---- words that can't stand where others can

binary_apart : (x : Word) → is_binary_operator x ≡ true → goes_on_unary x ≡ false
binary_apart w.OrOr h = refl
binary_apart w.AndAnd h = refl
binary_apart w.Bar h = refl
binary_apart w.Caret h = refl
binary_apart w.Ampersand h = refl
binary_apart w.EqualEqual h = refl
binary_apart w.NotEqual h = refl
binary_apart w.Less h = refl
binary_apart w.Greater h = refl
binary_apart w.LessEqual h = refl
binary_apart w.GreaterEqual h = refl
binary_apart w.ShiftLeft h = refl
binary_apart w.ShiftRight h = refl
binary_apart w.Plus h = refl
binary_apart w.Minus h = refl
binary_apart w.Star h = refl
binary_apart w.Slash h = refl
binary_apart w.Percent h = refl
binary_apart _ h = cc

assignment_apart : (x : Word) → is_assignment_operator x ≡ true → goes_on_or x ≡ false
assignment_apart w.Assign h = refl
assignment_apart w.StarAssign h = refl
assignment_apart w.SlashAssign h = refl
assignment_apart w.PercentAssign h = refl
assignment_apart w.PlusAssign h = refl
assignment_apart w.MinusAssign h = refl
assignment_apart w.ShiftLeftAssign h = refl
assignment_apart w.ShiftRightAssign h = refl
assignment_apart w.AndAssign h = refl
assignment_apart w.XorAssign h = refl
assignment_apart w.OrAssign h = refl
assignment_apart _ h = cc

comma_apart : (x : Word) → is_comma x ≡ true → goes_on_assign x ≡ false
comma_apart w.Comma h = refl
comma_apart _ h = cc

suffix_apart : (x : Word) → is_suffix x ≡ true → same w.LeftParen x ≡ false
suffix_apart w.LeftParen h = cc
suffix_apart _ h = refl

begins_no_type : (x : Word) → begins_expression x ≡ true → begins_type x ≡ false
begins_no_type w.Void h = cc
begins_no_type w.Struct h = cc
begins_no_type w.Char h = cc
begins_no_type w.Signed h = cc
begins_no_type w.Unsigned h = cc
begins_no_type w.Short h = cc
begins_no_type w.Int h = cc
begins_no_type w.Long h = cc
begins_no_type _ h = refl

begins_no_close : (x : Word) → begins_expression x ≡ true → same w.RightParen x ≡ false
begins_no_close w.RightParen h = cc
begins_no_close _ h = refl

primary_no_prefix : (x : Word) → begins_primary x ≡ true → is_prefix_operator x ≡ false
primary_no_prefix w.Name h = refl
primary_no_prefix w.Number h = refl
primary_no_prefix w.Character h = refl
primary_no_prefix w.LeftParen h = refl
primary_no_prefix _ h = cc

primary_no_size : (x : Word) → begins_primary x ≡ true → same w.SizeOf x ≡ false
primary_no_size w.SizeOf h = cc
primary_no_size _ h = refl

prefix_no_cast : (x y : Word) → is_prefix_operator x ≡ true → begins_cast x y ≡ false
prefix_no_cast w.LeftParen y h = cc
prefix_no_cast _ y h = refl

-- an expression in parentheses is no cast
no_cast : (x y : Word) → begins_type y ≡ false → begins_cast x y ≡ false
no_cast x y h = of (same w.LeftParen x)
  where
    of : (b : Bool) → (b && begins_type y) ≡ false
    of true = h
    of false = refl

primary_no_cast : (k : ℕ) (ts : Leaves) (x : Primary) (rest : Leaves) → Takes k ts (primary x) rest → begins_cast (word_at ts) (word_at (after ts)) ≡ false
primary_no_cast k ts x rest = primary_cases (λ x. Takes k ts (primary x) rest → begins_cast (word_at ts) (word_at (after ts)) ≡ false)
    (λ n h. rw (word_is w.Name n (subst (λ v. Takes k ts v rest) (primary-Name n) h)) refl)
    (λ n l args r h. rw (word_is w.Name n (then-Takes (subst (λ v. Takes k ts v rest) (primary-Call n l args r) h)).first) refl)
    (λ n h. rw (word_is w.Number n (subst (λ v. Takes k ts v rest) (primary-Number n) h)) refl)
    (λ n h. rw (word_is w.Character n (subst (λ v. Takes k ts v rest) (primary-Character n) h)) refl)
    (λ l y r h.
    let t = then-Takes (subst (λ v. Takes k ts v rest) (primary-Paren l y r) h) in
    let i = then-Takes t.second in
    let e = assign-Starts.word k t.mid y i.mid (unnested i.first) in
    no_cast (word_at ts) (word_at (after ts)) (rw (after-one (same w.LeftParen) l t.first) (begins_no_type (word_at t.mid) e)))
    x

postfix_no_cast : (k : ℕ) (ts : Leaves) (x : Postfix) (rest : Leaves) → Takes k ts (postfix x) rest → begins_cast (word_at ts) (word_at (after ts)) ≡ false
postfix_no_cast k ts x rest = postfix_cases (λ x. Takes k ts (postfix x) rest → begins_cast (word_at ts) (word_at (after ts)) ≡ false)
    (λ y more h. let t = then-Takes (subst (λ v. Takes k ts v rest) (postfix-is y more) h) in primary_no_cast k ts y t.mid t.first)
    x

-- the first words of a cast, and of no other operand, begin a type in parentheses
cast_begins : (k : ℕ) (ts : Leaves) (l : Leaf) (y : TypeName) (r : Leaf) (z : Unary) (rest : Leaves) → Takes k ts (unary (u.Cast l y r z)) rest → begins_cast (word_at ts) (word_at (after ts)) ≡ true
cast_begins k ts l y r z rest h =
    let t = then-Takes (subst (λ v. Takes k ts v rest) (unary-Cast l y r z) h) in
    let i = then-Takes t.second in
    ap₂ begins_cast (word_is w.LeftParen l t.first) (ap word_at (after-one (same w.LeftParen) l t.first)) ∙ type_name-Starts.word k t.mid y i.mid (unnested i.first)

unary_no_cast : (k : ℕ) (ts : Leaves) (x : Unary) (rest : Leaves) → Takes k ts (unary x) rest → is_cast x ≡ false → begins_cast (word_at ts) (word_at (after ts)) ≡ false
unary_no_cast k ts x rest = unary_cases (λ x. Takes k ts (unary x) rest → is_cast x ≡ false → begins_cast (word_at ts) (word_at (after ts)) ≡ false)
    (λ y h is. postfix_no_cast k ts y rest (subst (λ v. Takes k ts v rest) (unary-Postfix y) h))
    (λ o y h is. prefix_no_cast (word_at ts) (word_at (after ts)) (take_if-word is_prefix_operator o (then-Takes (subst (λ v. Takes k ts v rest) (unary-Prefix o y) h)).first))
    (λ l y r z h is. let cast = is_cast-Cast l y r z in cc)
    (λ o y h is. ap (λ x. begins_cast x (word_at (after ts))) (word_is w.SizeOf o (then-Takes (subst (λ v. Takes k ts v rest) (unary-SizeOf o y) h)).first))
    (λ o l y r h is. ap (λ x. begins_cast x (word_at (after ts))) (word_is w.SizeOf o (then-Takes (subst (λ v. Takes k ts v rest) (unary-SizeOfType o l y r) h)).first))
    x

is_no_cast : (k : ℕ) (ts : Leaves) (x : Unary) (rest : Leaves) → Takes k ts (unary x) rest → begins_cast (word_at ts) (word_at (after ts)) ≡ false → is_cast x ≡ false
is_no_cast k ts x rest = unary_cases (λ x. Takes k ts (unary x) rest → begins_cast (word_at ts) (word_at (after ts)) ≡ false → is_cast x ≡ false)
    (λ y h begins. is_cast-Postfix y)
    (λ o y h begins. is_cast-Prefix o y)
    (λ l y r z h begins. let cast = cast_begins k ts l y r z rest h in cc)
    (λ o y h begins. is_cast-SizeOf o y)
    (λ o l y r h begins. is_cast-SizeOfType o l y r)
    x

-- ---- soundness, at one level

module _ (k : ℕ) (inner : Inner) (depth_is : inner.depth ≡ k) (assign_sound : Sound k inner.assign assign) (choice_sound : Sound k inner.choice choice) (unary_sound : Sound k inner.unary unary) where
  took : (test : Word → Bool) (ts : Leaves) (t : Leaf) (rest : Leaves) → take_if test ts ≡ Some (t, rest) → Takes (suc k) ts (one_of test t) rest
  took = take_if-takes (suc k) (omega arith)

  arguments-takes : (ts : Leaves) (x : Option (Chain Assign)) (rest : Leaves) → read.arguments inner ts ≡ Some (x, rest)
      → Takes (suc k) ts (optional (λ all. nested (chain is_comma assign all)) x) rest
  unfolding read.arguments optional
  arguments-takes ts x rest h = ⊎_elim
      (λ q. finish (optional (λ all. nested (chain is_comma assign all))) refl q.1 (Takes-nothing (suc k) ts (omega arith)))
      (λ q.
      let y = bind_ok (chain_at is_comma inner.assign ts) _ x rest q.1 in
      finish (optional (λ all. nested (chain is_comma assign all))) refl y.second
      (Takes-nested ((chain-Sound (next_is is_comma) is_comma inner.assign assign k assign_sound).takes ts y.value y.mid y.first)))
      (chosen (same w.RightParen (word_at ts)) _ _ ts _ h)

  call-takes : (name : Leaf) (ts mid : Leaves) (x : Primary) (rest : Leaves) → Takes (suc k) ts (one w.Name name) mid → read.call inner name mid ≡ Some (x, rest)
      → Takes (suc k) ts (primary x) rest
  unfolding read.call
  call-takes name ts mid x rest first h =
      let l = bind_ok (expect w.LeftParen mid) _ x rest h in
      let y = bind_ok (read.arguments inner l.mid) _ x rest l.second in
      let r = bind_ok (expect w.RightParen y.mid) _ x rest y.second in
      finish primary (primary-Call name l.value y.value r.value) r.second
      (Takes-then first (Takes-then (took _ _ _ _ l.first) (Takes-then (arguments-takes _ _ _ y.first) (took _ _ _ _ r.first))))

  named-takes : (ts : Leaves) (x : Primary) (rest : Leaves) → read.named inner ts ≡ Some (x, rest) → Takes (suc k) ts (primary x) rest
  unfolding read.named
  named-takes ts x rest h =
      let n = bind_ok (expect w.Name ts) _ x rest h in
      let first = took _ _ _ _ n.first in
      ⊎_elim (λ q. call-takes n.value ts n.mid x rest first q.1) (λ q. finish primary (primary-Name n.value) q.1 first)
      (chosen (same w.LeftParen (word_at n.mid)) _ _ n.mid _ n.second)

  parenthesized-takes : (ts : Leaves) (x : Primary) (rest : Leaves) → read.parenthesized inner ts ≡ Some (x, rest) → Takes (suc k) ts (primary x) rest
  unfolding read.parenthesized
  parenthesized-takes ts x rest h =
      let l = bind_ok (expect w.LeftParen ts) _ x rest h in
      let y = bind_ok (inner.assign l.mid) _ x rest l.second in
      let r = bind_ok (expect w.RightParen y.mid) _ x rest y.second in
      finish primary (primary-Paren l.value y.value r.value) r.second
      (Takes-then (took _ _ _ _ l.first) (Takes-then (Takes-nested (assign_sound.takes _ _ _ y.first)) (took _ _ _ _ r.first)))

  primary_by-takes : (word : Word) (ts : Leaves) (x : Primary) (rest : Leaves) → read.primary_by inner word ts ≡ Some (x, rest) → Takes (suc k) ts (primary x) rest
  primary_by-takes w.Name ts x rest h = named-takes ts x rest h
  primary_by-takes w.Number ts x rest h = let n = bind_ok (expect w.Number ts) _ x rest h in finish primary (primary-Number n.value) n.second (took _ _ _ _ n.first)
  primary_by-takes w.Character ts x rest h = let n = bind_ok (expect w.Character ts) _ x rest h in finish primary (primary-Character n.value) n.second (took _ _ _ _ n.first)
  primary_by-takes w.LeftParen ts x rest h = parenthesized-takes ts x rest (deep-takes inner.depth (read.parenthesized inner) ts x rest h)
  primary_by-takes _ ts x rest h = cc

  primary-takes : (ts : Leaves) (x : Primary) (rest : Leaves) → read.primary inner ts ≡ Some (x, rest) → Takes (suc k) ts (primary x) rest
  unfolding read.primary
  primary-takes ts x rest h = primary_by-takes (word_at ts) ts x rest h

  index-takes : (ts : Leaves) (x : Suffix) (rest : Leaves) → read.index inner ts ≡ Some (x, rest) → Takes (suc k) ts (suffix x) rest
  unfolding read.index
  index-takes ts x rest h =
      let l = bind_ok (expect w.LeftBracket ts) _ x rest h in
      let y = bind_ok (inner.assign l.mid) _ x rest l.second in
      let r = bind_ok (expect w.RightBracket y.mid) _ x rest y.second in
      finish suffix (suffix-Index l.value y.value r.value) r.second
      (Takes-then (took _ _ _ _ l.first) (Takes-then (Takes-nested (assign_sound.takes _ _ _ y.first)) (took _ _ _ _ r.first)))

  suffix_by-takes : (word : Word) (ts : Leaves) (x : Suffix) (rest : Leaves) → read.suffix_by inner word ts ≡ Some (x, rest) → Takes (suc k) ts (suffix x) rest
  unfolding read.member read.arrow
  suffix_by-takes w.LeftBracket ts x rest h = index-takes ts x rest (deep-takes inner.depth (read.index inner) ts x rest h)
  suffix_by-takes w.Dot ts x rest h =
      let d = bind_ok (expect w.Dot ts) _ x rest h in
      let n = bind_ok (expect w.Name d.mid) _ x rest d.second in
      finish suffix (suffix-Member d.value n.value) n.second (Takes-then (took _ _ _ _ d.first) (took _ _ _ _ n.first))
  suffix_by-takes w.Arrow ts x rest h =
      let d = bind_ok (expect w.Arrow ts) _ x rest h in
      let n = bind_ok (expect w.Name d.mid) _ x rest d.second in
      finish suffix (suffix-Arrow d.value n.value) n.second (Takes-then (took _ _ _ _ d.first) (took _ _ _ _ n.first))
  suffix_by-takes w.Increment ts x rest h = let t = bind_ok (expect w.Increment ts) _ x rest h in finish suffix (suffix-Increment t.value) t.second (took _ _ _ _ t.first)
  suffix_by-takes w.Decrement ts x rest h = let t = bind_ok (expect w.Decrement ts) _ x rest h in finish suffix (suffix-Decrement t.value) t.second (took _ _ _ _ t.first)
  suffix_by-takes _ ts x rest h = cc

  suffix-takes : (ts : Leaves) (x : Suffix) (rest : Leaves) → read.suffix inner ts ≡ Some (x, rest) → Takes (suc k) ts (suffix x) rest
  unfolding read.suffix
  suffix-takes ts x rest h = suffix_by-takes (word_at ts) ts x rest h

  postfix-takes : (ts : Leaves) (x : Postfix) (rest : Leaves) → read.postfix inner ts ≡ Some (x, rest) → Takes (suc k) ts (postfix x) rest
  unfolding read.postfix
  postfix-takes ts x rest h =
      let y = bind_ok (read.primary inner ts) _ x rest h in
      let more = bind_ok (run_at is_suffix (read.suffix inner) y.mid) _ x rest y.second in
      finish postfix (postfix-is y.value more.value) more.second
      (Takes-then (primary-takes _ _ _ y.first) ((run-Sound is_suffix (read.suffix inner) suffix (suc k) (record { takes = suffix-takes }) (omega arith)).takes _ _ _ more.first))

  prefix-takes : (ts : Leaves) (x : Unary) (rest : Leaves) → read.prefix inner ts ≡ Some (x, rest) → Takes (suc k) ts (unary x) rest
  unfolding read.prefix
  prefix-takes ts x rest h =
      let t = bind_ok (take_if is_prefix_operator ts) _ x rest h in
      let y = bind_ok (inner.unary t.mid) _ x rest t.second in
      finish unary (unary-Prefix t.value y.value) y.second (Takes-then (took _ _ _ _ t.first) (Takes-nested (unary_sound.takes _ _ _ y.first)))

  cast-takes : (ts : Leaves) (x : Unary) (rest : Leaves) → read.cast inner ts ≡ Some (x, rest) → Takes (suc k) ts (unary x) rest
  unfolding read.cast
  cast-takes ts x rest h =
      let l = bind_ok (expect w.LeftParen ts) _ x rest h in
      let y = bind_ok (types.type_name inner.depth l.mid) _ x rest l.second in
      let r = bind_ok (expect w.RightParen y.mid) _ x rest y.second in
      let z = bind_ok (inner.unary r.mid) _ x rest r.second in
      let type = subst (λ n. Sound k (types.type_name n) type_name) (sym depth_is) (type_name-Sound k) in
      finish unary (unary-Cast l.value y.value r.value z.value) z.second
      (Takes-then (took _ _ _ _ l.first) (Takes-then (Takes-nested (type.takes _ _ _ y.first)) (Takes-then (took _ _ _ _ r.first) (Takes-nested (unary_sound.takes _ _ _ z.first)))))

  size_of_type-takes : (first : Leaf) (ts mid : Leaves) (x : Unary) (rest : Leaves) → Takes (suc k) ts (one w.SizeOf first) mid → read.size_of_type inner first mid ≡ Some (x, rest)
      → Takes (suc k) ts (unary x) rest
  unfolding read.size_of_type
  size_of_type-takes first ts mid x rest word h =
      let l = bind_ok (expect w.LeftParen mid) _ x rest h in
      let y = bind_ok (types.type_name inner.depth l.mid) _ x rest l.second in
      let r = bind_ok (expect w.RightParen y.mid) _ x rest y.second in
      let type = subst (λ n. Sound k (types.type_name n) type_name) (sym depth_is) (type_name-Sound k) in
      finish unary (unary-SizeOfType first l.value y.value r.value) r.second
      (Takes-then word (Takes-then (took _ _ _ _ l.first) (Takes-then (Takes-nested (type.takes _ _ _ y.first)) (took _ _ _ _ r.first))))

  size-takes : (ts : Leaves) (x : Unary) (rest : Leaves) → read.size inner ts ≡ Some (x, rest) → Takes (suc k) ts (unary x) rest
  unfolding read.size read.size_of_operand
  size-takes ts x rest h =
      let t = bind_ok (expect w.SizeOf ts) _ x rest h in
      let word = took _ _ _ _ t.first in
      ⊎_elim
      (λ q. size_of_type-takes t.value ts t.mid x rest word q.1)
      (λ q.
      let y = bind_ok (inner.unary t.mid) _ x rest q.1 in
      let operand = unary_sound.takes _ _ _ y.first in
      let no_cast = not_false (is_cast y.value) (is_no_cast k t.mid y.value y.mid operand q.0) in
      finish unary (unary-SizeOf t.value y.value) y.second
      (Takes-then word (Takes-then (Takes-nested operand) (takes-only (suc k) y.mid (not (is_cast y.value)) (omega arith) no_cast))))
      (chosen (begins_cast (word_at t.mid) (word_at (after t.mid))) _ _ t.mid _ t.second)

  unary-takes : (ts : Leaves) (x : Unary) (rest : Leaves) → read.unary inner ts ≡ Some (x, rest) → Takes (suc k) ts (unary x) rest
  unfolding read.unary
  unary-takes ts x rest h = ⊎_elim
      (λ q. prefix-takes ts x rest (deep-takes inner.depth (read.prefix inner) ts x rest q.1))
      (λ q. ⊎_elim
      (λ r. size-takes ts x rest (deep-takes inner.depth (read.size inner) ts x rest r.1))
      (λ r. ⊎_elim
      (λ s. cast-takes ts x rest (deep-takes inner.depth (read.cast inner) ts x rest s.1))
      (λ s. let y = bind_ok (read.postfix inner ts) _ x rest s.1 in finish unary (unary-Postfix y.value) y.second (postfix-takes ts y.value y.mid y.first))
      (chosen (begins_cast (word_at ts) (word_at (after ts))) _ _ ts _ r.1))
      (chosen (same w.SizeOf (word_at ts)) _ _ ts _ q.1))
      (chosen (is_prefix_operator (word_at ts)) _ _ ts _ h)

  flat-Sound : Sound (suc k) (read.flat inner) (chain is_binary_operator unary)
  unfolding read.flat
  flat-Sound = chain-Sound (next_is is_binary_operator) is_binary_operator (read.unary inner) unary (suc k) (record { takes = unary-takes })

  choose-takes : (test : Or) (ts mid : Leaves) (x : Choice) (rest : Leaves) → Takes (suc k) ts (or test) mid → read.choose inner test mid ≡ Some (x, rest) → Takes (suc k) ts (choice x) rest
  unfolding read.choose
  choose-takes test ts mid x rest first h =
      let q = bind_ok (expect w.Question mid) _ x rest h in
      let y = bind_ok (inner.assign q.mid) _ x rest q.second in
      let d = bind_ok (expect w.Colon y.mid) _ x rest y.second in
      let z = bind_ok (inner.choice d.mid) _ x rest d.second in
      finish choice (choice-Choose test q.value y.value d.value z.value) z.second
      (Takes-then first (Takes-then (took _ _ _ _ q.first)
      (Takes-then (Takes-nested (assign_sound.takes _ _ _ y.first)) (Takes-then (took _ _ _ _ d.first) (Takes-nested (choice_sound.takes _ _ _ z.first))))))

  choice_after-takes : (test : Or) (ts mid : Leaves) (x : Choice) (rest : Leaves) → Takes (suc k) ts (or test) mid → read.choice_after inner test mid ≡ Some (x, rest)
      → Takes (suc k) ts (choice x) rest
  unfolding read.choice_after
  choice_after-takes test ts mid x rest first h = ⊎_elim
      (λ q. choose-takes test ts mid x rest first (deep-takes inner.depth (read.choose inner test) mid x rest q.1))
      (λ q. finish choice (choice-Or test) q.1 first)
      (chosen (same w.Question (word_at mid)) _ _ mid _ h)

  choice-takes : (ts : Leaves) (x : Choice) (rest : Leaves) → read.choice inner ts ≡ Some (x, rest) → Takes (suc k) ts (choice x) rest
  unfolding read.choice
  choice-takes ts x rest h =
      let f = bind_ok (read.flat inner ts) _ x rest h in
      choice_after-takes (or_of f.value) ts f.mid x rest (takes-or f.value (flat-Sound.takes _ _ _ f.first)) f.second

  assigned-takes : (left : Unary) (ts mid : Leaves) (x : Assign) (rest : Leaves) → Takes (suc k) ts (unary left) mid → read.assigned inner left mid ≡ Some (x, rest) → Takes (suc k) ts (assign x) rest
  unfolding read.assigned
  assigned-takes left ts mid x rest first h =
      let t = bind_ok (take_if is_assignment_operator mid) _ x rest h in
      let y = bind_ok (inner.assign t.mid) _ x rest t.second in
      finish assign (assign-Assign left t.value y.value) y.second (Takes-then first (Takes-then (took _ _ _ _ t.first) (Takes-nested (assign_sound.takes _ _ _ y.first))))

  assigned_to-takes : (left : Unary) (ls : List (Link Unary)) (ts mid : Leaves) (x : Assign) (rest : Leaves) → Takes (suc k) ts (chain is_binary_operator unary (record { first = left; rest = ls })) mid
      → read.assigned_to inner (record { first = left; rest = ls }) mid ≡ Some (x, rest) → Takes (suc k) ts (assign x) rest
  assigned_to-takes left [] ts mid x rest found h = assigned-takes left ts mid x rest (lone-takes left found) (deep-takes inner.depth (read.assigned inner left) mid x rest h)
  assigned_to-takes left (l ∷ ls) ts mid x rest found h = cc

  assign-takes : (ts : Leaves) (x : Assign) (rest : Leaves) → read.assign inner ts ≡ Some (x, rest) → Takes (suc k) ts (assign x) rest
  unfolding read.assign
  assign-takes ts x rest h =
      let f = bind_ok (read.flat inner ts) _ x rest h in
      let found = flat-Sound.takes _ _ _ f.first in
      ⊎_elim
      (λ q. assigned_to-takes f.value.first f.value.rest ts f.mid x rest found q.1)
      (λ q.
      let y = bind_ok (read.choice_after inner (or_of f.value) f.mid) _ x rest q.1 in
      finish assign (assign-Choice y.value) y.second (choice_after-takes (or_of f.value) ts f.mid y.value y.mid (takes-or f.value found) y.first))
      (chosen (is_assignment_operator (word_at f.mid)) _ _ f.mid _ f.second)

-- ---- completeness, at one level

module _ (k : ℕ) (inner : Inner) (depth_is : inner.depth ≡ k) (assign_complete : Complete k inner.assign assign goes_on_assign)
    (choice_complete : Complete k inner.choice choice goes_on_choice) (unary_complete : Complete k inner.unary unary goes_on_unary) where
  deeper : {A : Type 0} (q : Parser A) (ts : Leaves) → 0 < k → deep inner.depth q ts ≡ q ts
  deeper q ts some = deep-is inner.depth q ts (subst (λ n. 0 < n) (sym depth_is) some)

  arguments-gives : (x : Option (Chain Assign)) (ts rest : Leaves) → Takes (suc k) ts (optional (λ all. nested (chain is_comma assign all)) x) rest → word_at rest ≡ w.RightParen
      → read.arguments inner ts ≡ Some (x, rest)
  unfolding read.arguments optional
  arguments-gives None ts rest h end = rw (nothing-Takes h) (choose (same w.RightParen (word_at rest)) _ _ rest (ap (same w.RightParen) end))
  arguments-gives (Some all) ts rest h end =
      let i = nested-Takes h in
      let ends : Ends (λ x. is_comma x || goes_on_assign x) rest = record { ends = ap (λ x. is_comma x || goes_on_assign x) end } in
      refuse_test (same w.RightParen (word_at ts)) _ _ ts (begins_no_close (word_at ts) ((chain-Starts is_comma assign begins_expression assign-Starts).word k ts all rest i))
      ∙ gives_bind _ ((chain-Complete is_comma inner.assign assign k goes_on_assign assign_complete comma_apart).gives ts all rest i ends) refl

  call-gives : (n l : Leaf) (x : Option (Chain Assign)) (r : Leaf) (ts rest : Leaves)
      → Takes (suc k) ts (one w.LeftParen l then optional (λ all. nested (chain is_comma assign all)) x then one w.RightParen r) rest → read.call inner n ts ≡ Some (p.Call n l x r, rest)
  unfolding read.call
  call-gives n l x r ts rest h =
      let t = then-Takes h in
      let i = then-Takes t.second in
      gives_bind _ (take_if-gives (same w.LeftParen) l t.first)
      (gives_bind _ (arguments-gives x t.mid i.mid i.first (word_is w.RightParen r i.second)) (gives_bind _ (take_if-gives (same w.RightParen) r i.second) refl))

  primary-gives : (x : Primary) (ts rest : Leaves) → Takes (suc k) ts (primary x) rest → Ends (same w.LeftParen) rest → read.primary inner ts ≡ Some (x, rest)
  unfolding read.primary read.named read.parenthesized
  primary-gives x ts rest = primary_cases (λ x. Takes (suc k) ts (primary x) rest → Ends (same w.LeftParen) rest → read.primary inner ts ≡ Some (x, rest))
      (λ n h end.
      let t = subst (λ v. Takes (suc k) ts v rest) (primary-Name n) h in
      ap (λ x. read.primary_by inner x ts) (word_is w.Name n t)
      ∙ gives_bind _ (take_if-gives (same w.Name) n t) (refuse_test (same w.LeftParen (word_at rest)) _ _ rest end.ends))
      (λ n l y r h end.
      let t = then-Takes (subst (λ v. Takes (suc k) ts v rest) (primary-Call n l y r) h) in
      let i = then-Takes t.second in
      ap (λ x. read.primary_by inner x ts) (word_is w.Name n t.first)
      ∙ gives_bind _ (take_if-gives (same w.Name) n t.first)
      (choose (same w.LeftParen (word_at t.mid)) _ _ t.mid (take_if-word (same w.LeftParen) l i.first) ∙ call-gives n l y r t.mid rest t.second))
      (λ n h end.
      let t = subst (λ v. Takes (suc k) ts v rest) (primary-Number n) h in
      ap (λ x. read.primary_by inner x ts) (word_is w.Number n t) ∙ gives_bind _ (take_if-gives (same w.Number) n t) refl)
      (λ n h end.
      let t = subst (λ v. Takes (suc k) ts v rest) (primary-Character n) h in
      ap (λ x. read.primary_by inner x ts) (word_is w.Character n t) ∙ gives_bind _ (take_if-gives (same w.Character) n t) refl)
      (λ l y r h end.
      let t = then-Takes (subst (λ v. Takes (suc k) ts v rest) (primary-Paren l y r) h) in
      let i = then-Takes t.second in
      ap (λ x. read.primary_by inner x ts) (word_is w.LeftParen l t.first)
      ∙ deeper (read.parenthesized inner) ts (nested_room (assign y) i.first)
      ∙ gives_bind _ (take_if-gives (same w.LeftParen) l t.first)
      (gives_bind _ (assign_complete.gives t.mid y i.mid (nested-Takes i.first) (at_one w.RightParen r i.second refl)) (gives_bind _ (take_if-gives (same w.RightParen) r i.second) refl)))
      x

  suffix-gives : (x : Suffix) (ts rest : Leaves) → Takes (suc k) ts (suffix x) rest → read.suffix inner ts ≡ Some (x, rest)
  unfolding read.suffix read.index read.member read.arrow
  suffix-gives x ts rest = suffix_cases (λ x. Takes (suc k) ts (suffix x) rest → read.suffix inner ts ≡ Some (x, rest))
      (λ l y r h.
      let t = then-Takes (subst (λ v. Takes (suc k) ts v rest) (suffix-Index l y r) h) in
      let i = then-Takes t.second in
      ap (λ x. read.suffix_by inner x ts) (word_is w.LeftBracket l t.first)
      ∙ deeper (read.index inner) ts (nested_room (assign y) i.first)
      ∙ gives_bind _ (take_if-gives (same w.LeftBracket) l t.first)
      (gives_bind _ (assign_complete.gives t.mid y i.mid (nested-Takes i.first) (at_one w.RightBracket r i.second refl)) (gives_bind _ (take_if-gives (same w.RightBracket) r i.second) refl)))
      (λ d n h.
      let t = then-Takes (subst (λ v. Takes (suc k) ts v rest) (suffix-Member d n) h) in
      ap (λ x. read.suffix_by inner x ts) (word_is w.Dot d t.first) ∙ gives_bind _ (take_if-gives (same w.Dot) d t.first) (gives_bind _ (take_if-gives (same w.Name) n t.second) refl))
      (λ d n h.
      let t = then-Takes (subst (λ v. Takes (suc k) ts v rest) (suffix-Arrow d n) h) in
      ap (λ x. read.suffix_by inner x ts) (word_is w.Arrow d t.first) ∙ gives_bind _ (take_if-gives (same w.Arrow) d t.first) (gives_bind _ (take_if-gives (same w.Name) n t.second) refl))
      (λ o h.
      let t = subst (λ v. Takes (suc k) ts v rest) (suffix-Increment o) h in
      ap (λ x. read.suffix_by inner x ts) (word_is w.Increment o t) ∙ gives_bind _ (take_if-gives (same w.Increment) o t) refl)
      (λ o h.
      let t = subst (λ v. Takes (suc k) ts v rest) (suffix-Decrement o) h in
      ap (λ x. read.suffix_by inner x ts) (word_is w.Decrement o t) ∙ gives_bind _ (take_if-gives (same w.Decrement) o t) refl)
      x

  suffixes-Complete : Complete (suc k) (run_at is_suffix (read.suffix inner)) (run suffix) (λ x. is_suffix x || false)
  suffixes-Complete =
      run-Complete is_suffix (read.suffix inner) suffix (suc k) (λ x. false) (record { gives = λ ts x rest h end. suffix-gives x ts rest h }) suffix-Starts (λ x h. refl) refl

  suffixes_end : (more : List Suffix) (ts rest : Leaves) → Takes (suc k) ts (run suffix more) rest → Ends (same w.LeftParen) rest → Ends (same w.LeftParen) ts
  unfolding run
  suffixes_end [] ts rest h end = rw (nothing-Takes h) end
  suffixes_end (x ∷ more) ts rest h end = let t = then-Takes h in record { ends = suffix_apart (word_at ts) (suffix-Starts.word (suc k) ts x t.mid t.first) }

  postfix-gives : (x : Postfix) (ts rest : Leaves) → Takes (suc k) ts (postfix x) rest → Ends goes_on_unary rest → read.postfix inner ts ≡ Some (x, rest)
  unfolding read.postfix
  postfix-gives x ts rest = postfix_cases (λ x. Takes (suc k) ts (postfix x) rest → Ends goes_on_unary rest → read.postfix inner ts ≡ Some (x, rest))
      (λ y more h end.
      let t = then-Takes (subst (λ v. Takes (suc k) ts v rest) (postfix-is y more) h) in
      let over : Ends (λ x. is_suffix x || false) rest = record { ends = neither _ _ (second_of_neither (same w.LeftParen (word_at rest)) _ end.ends) refl } in
      let first = suffixes_end more t.mid rest t.second (record { ends = first_of_neither _ _ end.ends }) in
      gives_bind _ (primary-gives y ts t.mid t.first first) (gives_bind _ (suffixes-Complete.gives t.mid more rest t.second over) refl))
      x

  unary-gives : (x : Unary) (ts rest : Leaves) → Takes (suc k) ts (unary x) rest → Ends goes_on_unary rest → read.unary inner ts ≡ Some (x, rest)
  unfolding read.unary read.prefix read.cast read.size read.size_of_type read.size_of_operand
  unary-gives x ts rest = unary_cases (λ x. Takes (suc k) ts (unary x) rest → Ends goes_on_unary rest → read.unary inner ts ≡ Some (x, rest))
      (λ y h end.
      let t = subst (λ v. Takes (suc k) ts v rest) (unary-Postfix y) h in
      refuse_test (is_prefix_operator (word_at ts)) _ _ ts (primary_no_prefix (word_at ts) (postfix-Starts.word (suc k) ts y rest t))
      ∙ refuse_test (same w.SizeOf (word_at ts)) _ _ ts (primary_no_size (word_at ts) (postfix-Starts.word (suc k) ts y rest t))
      ∙ refuse_test (begins_cast (word_at ts) (word_at (after ts))) _ _ ts (postfix_no_cast (suc k) ts y rest t)
      ∙ gives_bind _ (postfix-gives y ts rest t end) refl)
      (λ o y h end.
      let t = then-Takes (subst (λ v. Takes (suc k) ts v rest) (unary-Prefix o y) h) in
      choose (is_prefix_operator (word_at ts)) _ _ ts (take_if-word is_prefix_operator o t.first)
      ∙ deeper (read.prefix inner) ts (nested_room (unary y) t.second)
      ∙ gives_bind _ (take_if-gives is_prefix_operator o t.first) (gives_bind _ (unary_complete.gives t.mid y rest (nested-Takes t.second) end) refl))
      (λ l y r z h end.
      let t = then-Takes (subst (λ v. Takes (suc k) ts v rest) (unary-Cast l y r z) h) in
      let i = then-Takes t.second in
      let j = then-Takes i.second in
      let type = subst (λ n. Complete k (types.type_name n) type_name goes_on_type) (sym depth_is) (type_name-Complete k) in
      let begins = type_name-Starts.word (suc k) t.mid y i.mid (unnested i.first) in
      refuse_test (is_prefix_operator (word_at ts)) _ _ ts (ap is_prefix_operator (word_is w.LeftParen l t.first))
      ∙ refuse_test (same w.SizeOf (word_at ts)) _ _ ts (ap (same w.SizeOf) (word_is w.LeftParen l t.first))
      ∙ choose (begins_cast (word_at ts) (word_at (after ts))) _ _ ts
      (ap₂ begins_cast (word_is w.LeftParen l t.first) (ap word_at (after-one (same w.LeftParen) l t.first)) ∙ begins)
      ∙ deeper (read.cast inner) ts (nested_room (type_name y) i.first)
      ∙ gives_bind _ (take_if-gives (same w.LeftParen) l t.first)
      (gives_bind _ (type.gives t.mid y i.mid (nested-Takes i.first) (at_one w.RightParen r j.first refl))
      (gives_bind _ (take_if-gives (same w.RightParen) r j.first) (gives_bind _ (unary_complete.gives j.mid z rest (nested-Takes j.second) end) refl))))
      (λ o y h end.
      let t = then-Takes (subst (λ v. Takes (suc k) ts v rest) (unary-SizeOf o y) h) in
      let i = then-Takes t.second in
      let over = only-takes (not (is_cast y)) i.second in
      let operand = nested-Takes (subst (λ r. Takes (suc k) t.mid (nested (unary y)) r) over.0 i.first) in
      refuse_test (is_prefix_operator (word_at ts)) _ _ ts (ap is_prefix_operator (word_is w.SizeOf o t.first))
      ∙ choose (same w.SizeOf (word_at ts)) _ _ ts (take_if-word (same w.SizeOf) o t.first)
      ∙ deeper (read.size inner) ts (nested_room (unary y) i.first)
      ∙ gives_bind _ (take_if-gives (same w.SizeOf) o t.first)
      (refuse_test (begins_cast (word_at t.mid) (word_at (after t.mid))) _ _ t.mid (unary_no_cast k t.mid y rest operand (false_of_not (is_cast y) over.1))
      ∙ gives_bind _ (unary_complete.gives t.mid y rest operand end) refl))
      (λ o l y r h end.
      let t = then-Takes (subst (λ v. Takes (suc k) ts v rest) (unary-SizeOfType o l y r) h) in
      let i = then-Takes t.second in
      let j = then-Takes i.second in
      let type = subst (λ n. Complete k (types.type_name n) type_name goes_on_type) (sym depth_is) (type_name-Complete k) in
      let begins = type_name-Starts.word (suc k) i.mid y j.mid (unnested j.first) in
      refuse_test (is_prefix_operator (word_at ts)) _ _ ts (ap is_prefix_operator (word_is w.SizeOf o t.first))
      ∙ choose (same w.SizeOf (word_at ts)) _ _ ts (take_if-word (same w.SizeOf) o t.first)
      ∙ deeper (read.size inner) ts (nested_room (type_name y) j.first)
      ∙ gives_bind _ (take_if-gives (same w.SizeOf) o t.first)
      (choose (begins_cast (word_at t.mid) (word_at (after t.mid))) _ _ t.mid
      (ap₂ begins_cast (word_is w.LeftParen l i.first) (ap word_at (after-one (same w.LeftParen) l i.first)) ∙ begins)
      ∙ gives_bind _ (take_if-gives (same w.LeftParen) l i.first)
      (gives_bind _ (type.gives i.mid y j.mid (nested-Takes j.first) (at_one w.RightParen r j.second refl)) (gives_bind _ (take_if-gives (same w.RightParen) r j.second) refl))))
      x

  flat-Complete : Complete (suc k) (read.flat inner) (chain is_binary_operator unary) goes_on_or
  unfolding read.flat
  flat-Complete = chain-Complete is_binary_operator (read.unary inner) unary (suc k) goes_on_unary (record { gives = λ ts x rest. unary-gives x ts rest }) binary_apart

  -- the operands of a conditional expression, and what is made of them
  record Chosen (x : Choice) (ts rest : Leaves) : Type 0 where
    pub flat : Chain Unary
    pub mid : Leaves
    pub reads : read.flat inner ts ≡ Some (flat, mid)
    pub after : read.choice_after inner (or_of flat) mid ≡ Some (x, rest)
    pub ends : is_assignment_operator (word_at rest) ≡ false → is_assignment_operator (word_at mid) ≡ false

  choice-chosen : (x : Choice) (ts rest : Leaves) → Takes (suc k) ts (choice x) rest → Ends goes_on_choice rest → Chosen x ts rest
  unfolding read.choice_after read.choose
  choice-chosen x ts rest = choice_cases (λ x. Takes (suc k) ts (choice x) rest → Ends goes_on_choice rest → Chosen x ts rest)
      (λ y h end.
      let f = or-takes y (subst (λ v. Takes (suc k) ts v rest) (choice-Or y) h) in
      record {
        flat = f.flat;
        mid = rest;
        reads = flat-Complete.gives ts f.flat rest f.takes (record { ends = second_of_neither (same w.Question (word_at rest)) _ end.ends });
        after = ap (λ x. read.choice_after inner x rest) f.made ∙ refuse_test (same w.Question (word_at rest)) _ _ rest (first_of_neither _ _ end.ends);
        ends = λ e. e;
      })
      (λ y q z d e h end.
      let t = then-Takes (subst (λ v. Takes (suc k) ts v rest) (choice-Choose y q z d e) h) in
      let f = or-takes y t.first in
      let i = then-Takes t.second in
      let j = then-Takes i.second in
      let l = then-Takes j.second in
      record {
        flat = f.flat;
        mid = t.mid;
        reads = flat-Complete.gives ts f.flat t.mid f.takes (at_one w.Question q i.first refl);
        after = ap (λ x. read.choice_after inner x t.mid) f.made
            ∙ choose (same w.Question (word_at t.mid)) _ _ t.mid (take_if-word (same w.Question) q i.first)
            ∙ deeper (read.choose inner y) t.mid (nested_room (assign z) j.first)
            ∙ gives_bind _ (take_if-gives (same w.Question) q i.first)
            (gives_bind _ (assign_complete.gives i.mid z j.mid (nested-Takes j.first) (at_one w.Colon d l.first refl))
            (gives_bind _ (take_if-gives (same w.Colon) d l.first) (gives_bind _ (choice_complete.gives l.mid e rest (nested-Takes l.second) end) refl)));
        ends = λ b. ap is_assignment_operator (word_is w.Question q i.first);
      })
      x

  choice-gives : (x : Choice) (ts rest : Leaves) → Takes (suc k) ts (choice x) rest → Ends goes_on_choice rest → read.choice inner ts ≡ Some (x, rest)
  unfolding read.choice
  choice-gives x ts rest h end = let f = choice-chosen x ts rest h end in gives_bind _ f.reads f.after

  assign-gives : (x : Assign) (ts rest : Leaves) → Takes (suc k) ts (assign x) rest → Ends goes_on_assign rest → read.assign inner ts ≡ Some (x, rest)
  unfolding read.assign read.assigned
  assign-gives x ts rest = assign_cases (λ x. Takes (suc k) ts (assign x) rest → Ends goes_on_assign rest → read.assign inner ts ≡ Some (x, rest))
      (λ y h end.
      let over : Ends goes_on_choice rest = record { ends = second_of_neither (is_assignment_operator (word_at rest)) _ end.ends } in
      let f = choice-chosen y ts rest (subst (λ v. Takes (suc k) ts v rest) (assign-Choice y) h) over in
      gives_bind _ f.reads (refuse_test (is_assignment_operator (word_at f.mid)) _ _ f.mid (f.ends (first_of_neither _ _ end.ends)) ∙ gives_bind _ f.after refl))
      (λ l o r h end.
      let t = then-Takes (subst (λ v. Takes (suc k) ts v rest) (assign-Assign l o r) h) in
      let i = then-Takes t.second in
      let is = take_if-word is_assignment_operator o i.first in
      gives_bind _ (flat-Complete.gives ts (record { first = l; rest = [] }) t.mid (takes-lone l t.first) (record { ends = assignment_apart (word_at t.mid) is }))
      (choose (is_assignment_operator (word_at t.mid)) _ _ t.mid is
      ∙ deeper (read.assigned inner l) t.mid (nested_room (assign r) i.second)
      ∙ gives_bind _ (take_if-gives is_assignment_operator o i.first) (gives_bind _ (assign_complete.gives i.mid r rest (nested-Takes i.second) end) refl)))
      x

-- ---- all levels, by induction on how deep trees may nest

pub record Exact (k : ℕ) (inner : Inner) : Type 0 where
  pub depth_is : inner.depth ≡ k
  pub assign_sound : Sound k inner.assign assign
  pub choice_sound : Sound k inner.choice choice
  pub unary_sound : Sound k inner.unary unary
  pub assign_complete : Complete k inner.assign assign goes_on_assign
  pub choice_complete : Complete k inner.choice choice goes_on_choice
  pub unary_complete : Complete k inner.unary unary goes_on_unary

pub exact : (k : ℕ) → Exact k (inner_at k)
unfolding inner_at
exact zero = record {
  depth_is = refl;
  assign_sound = record { takes = λ ts x rest h. cc };
  choice_sound = record { takes = λ ts x rest h. cc };
  unary_sound = record { takes = λ ts x rest h. cc };
  assign_complete = record { gives = λ ts x rest h end. absurd (omega (arith, h.below)) };
  choice_complete = record { gives = λ ts x rest h end. absurd (omega (arith, h.below)) };
  unary_complete = record { gives = λ ts x rest h end. absurd (omega (arith, h.below)) };
}
exact (suc k) =
    let i = exact k in
    let inner = inner_at k in
    record {
      depth_is = refl;
      assign_sound = record { takes = assign-takes k inner i.depth_is i.assign_sound i.choice_sound i.unary_sound };
      choice_sound = record { takes = choice-takes k inner i.depth_is i.assign_sound i.choice_sound i.unary_sound };
      unary_sound = record { takes = unary-takes k inner i.depth_is i.assign_sound i.choice_sound i.unary_sound };
      assign_complete = record { gives = λ ts x rest. assign-gives k inner i.depth_is i.assign_complete i.choice_complete i.unary_complete x ts rest };
      choice_complete = record { gives = λ ts x rest. choice-gives k inner i.depth_is i.assign_complete i.choice_complete i.unary_complete x ts rest };
      unary_complete = record { gives = λ ts x rest. unary-gives k inner i.depth_is i.assign_complete i.choice_complete i.unary_complete x ts rest };
    }
