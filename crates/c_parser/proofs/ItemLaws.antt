-- Items: the parser gives a tree exactly where one stands.
use Rattle.std.proofs.Common.{◌≡◌, ℕ, zero, suc, ◌+◌, ◌<◌, ◌≤◌, nat_le, Bool, true, false, ◌||◌, ◌&&◌, not, cond, List, [], ◌∷◌, ◌++◌, length, Option, Some, None, refl, sym, ap, ap₂, subst, ◌∙◌, ◌⊎◌, ⊎_elim, arith}
use Rattle.std.proofs.lemmas.Bool.Decides.{nat_tests}
use Rattle.c_words.specs.declared.word.Word.{Word}
use Rattle.c_words.specs.declared.word.Word.TheVariants as w
use Rattle.c_words.specs.declared.word.Leaf.{Leaf}
use Rattle.c_words.specs.declared.chain.Chain.{Chain}
use Rattle.c_grammar.specs.declared.types.Base.{Base}
use Rattle.c_grammar.specs.declared.types.Star.{Star}
use Rattle.c_grammar.specs.declared.declaration.Declared.{Declared}
use Rattle.c_grammar.specs.declared.declaration.Declarator.{Declarator}
use Rattle.c_grammar.specs.declared.declaration.Params.{Params}
use Rattle.c_grammar.specs.declared.program.Member.{Member}
use Rattle.c_grammar.specs.declared.program.Body.{Body}
use Rattle.c_grammar.specs.declared.program.Body.TheVariants as b
use Rattle.c_grammar.specs.declared.program.Item.{Item}
use Rattle.c_grammar.specs.declared.program.Item.TheVariants as i
use Rattle.c_grammar.specs.declared.statement.Block.{Block}
use Rattle.c_words.specs.Words.{same}
use Rattle.c_words.specs.Written.{Written, nothing, ◌then◌, one, one_of, nested, only, optional, run, chain, Takes}
use Rattle.c_grammar.specs.Types.{base, star, stars_alone}
use Rattle.c_grammar.specs.Types as types
use Rattle.c_words.specs.OperatorWords.{is_comma}
use Rattle.c_grammar.specs.Declarations.{declared, all_declared, sized, params}
use Rattle.c_grammar.specs.Statements.{block}
use Rattle.c_grammar.specs.Programs as grammar
use Rattle.c_grammar.specs.Programs.{is_variable_prefix, is_function_prefix, is_empty, all_named, fits_params, item}
use Rattle.c_words.specs.Parsing.{Leaves, Outcome, Parser, and_then, ◌>>=◌, pure, word_at, after, take_if, expect, run_at}
use Rattle.c_words.proofs.Taking.{Takes-nothing, nothing-Takes, Takes-then, Split, then-Takes, one-Takes, Takes-nested, nested-Takes, both, first_of_both, second_of_both}
use Rattle.c_words.proofs.Reading.{finish, after-one, bind_ok, gives_bind, chosen, choose, refuse_test, same_pair, Sound, Complete, Ends, Starts, take_if-takes, take_if-gives, take_if-word, first_of_neither, second_of_neither, at_one, word_is}
use Rattle.c_words.proofs.Runs.{run-Sound, run-Complete, tokens-Sound, tokens-Complete}
use Rattle.c_type_names.specs.TypeReading.{begins_type, goes_on_base, stars_from}
use Rattle.c_type_names.specs.TypeReading as t
use Rattle.c_type_names.proofs.TypeLaws.{base-Sound, base-Complete, base-Starts, consts-Sound, consts-Complete, stars-Sound, stars-Complete, star-word}
use Rattle.c_declarations.specs.DeclaratorReading.{begins_declarator}
use Rattle.c_declarations.specs.DeclaredReading as d
use Rattle.c_declarations.specs.ParameterReading as q
use Rattle.c_statements.specs.StatementReading.{unless, block_at}
use Rattle.c_parser.specs.ItemReading as read
use Rattle.c_parser.specs.ItemReading.{skip, is_pointer, is_called, leading_stars, all_variable_prefixes, begins_function, is_struct, begins_member, begins_item}
use Rattle.c_parser.proofs.ItemWords.{skip_none, skip_alone, NoFunction, names_no_function, narrow, widen, base_no_struct, prefixed_no_struct, begins_declaration, prefixed_begins, first_false, second_false}
use Rattle.c_declarations.proofs.DeclaredLaws.{goes_on_all_declared, goes_on_declarators, all_declared-Sound, all_declared-Complete, all_declared-Starts, declarators-Sound, declarators-Complete, declarators-Starts}
use Rattle.c_declarations.proofs.ParameterLaws.{params-Sound, params-gives}
use Rattle.c_statements.proofs.StatementLaws.{block_exact, block-Starts}

-- ---- what may only stand

Takes-only : (k : ℕ) (ts : Leaves) (b : Bool) → 0 < k → b ≡ true → Takes k ts (only b) ts
unfolding only nothing
Takes-only k ts b some h = record { spelled = refl; levelled = h; below = omega arith }

only-Takes : {k : ℕ} {ts rest : Leaves} (b : Bool) → Takes k ts (only b) rest → (ts ≡ rest) × (b ≡ true)
unfolding only nothing
only-Takes b h = (h.spelled, h.levelled)

not_is : (b : Bool) → not b ≡ true → b ≡ false
not_is true h = cc
not_is false h = refl

is_not : (b : Bool) → b ≡ false → not b ≡ true
is_not true h = cc
is_not false h = refl

refused : {X : Type 0} {x : X} → ◌≡◌ {A = Option X} None (Some x) → ⊥
refused h = cc

-- ---- what goes on where

declarator_ends_base : (x : Word) → begins_declarator x ≡ true → goes_on_base x ≡ false
declarator_ends_base w.Star h = refl
declarator_ends_base w.Name h = refl
declarator_ends_base w.LeftParen h = refl
declarator_ends_base _ h = cc

declarator_no_brace : (x : Word) → begins_declarator x ≡ true → same w.LeftBrace x ≡ false
declarator_no_brace w.LeftBrace h = cc
declarator_no_brace _ h = refl

declarator_not_semicolon : (x : Word) → begins_declarator x ≡ true → same w.Semicolon x ≡ false
declarator_not_semicolon w.Semicolon h = cc
declarator_not_semicolon _ h = refl

type_not_const : (x : Word) → begins_type x ≡ true → same w.Const x ≡ false
type_not_const w.Const h = cc
type_not_const _ h = refl

type_not_prefix : (x : Word) → begins_type x ≡ true → is_function_prefix x ≡ false
type_not_prefix w.Extern h = cc
type_not_prefix w.Static h = cc
type_not_prefix w.Const h = cc
type_not_prefix _ h = refl

declaration_item : (x : Word) (n k : ℕ) → begins_declaration x ≡ true → read.item_by k n x ≡ read.declaration k n
declaration_item w.Meta n k h = cc
declaration_item w.Ghost n k h = cc
declaration_item _ n k h = refl

semicolon_ends : {k : ℕ} (t : Leaf) {ts rest : Leaves} → Takes k ts (one w.Semicolon t) rest → Ends goes_on_all_declared ts
semicolon_ends t h = at_one w.Semicolon t h refl

semicolon_ends_members : {k : ℕ} (t : Leaf) {ts rest : Leaves} → Takes k ts (one w.Semicolon t) rest → Ends goes_on_declarators ts
semicolon_ends_members t h = at_one w.Semicolon t h refl

-- what stands between the base and the parenthesis of a function
stars_then_name : (xs : List Star) {k : ℕ} {ts mid rest : Leaves} (n : Leaf) → Takes k ts (stars_alone xs) mid → Takes k mid (one w.Name n) rest → begins_declarator (word_at ts) ≡ true
unfolding stars_alone
stars_then_name [] n h i = ap (λ x. begins_declarator (word_at x)) (nothing-Takes h) ∙ ap begins_declarator (word_is w.Name n i)
stars_then_name (x ∷ []) n h i = ap begins_declarator (star-word x h)
stars_then_name (x ∷ y ∷ xs) n h i = ap begins_declarator (star-word x (then-Takes h).first)

wider : {n : ℕ} {ts rest : Leaves} {a : Written} → Takes n ts (nested a) rest → Takes n ts a rest
unfolding nested
wider h = record { spelled = h.spelled; levelled = h.levelled; below = omega (arith, h.below) }

-- ---- items that nest below suc n

module _ (n : ℕ) where
  some : 0 < suc n
  some = omega arith

  took : (test : Word → Bool) (ts : Leaves) (a : Leaf) (rest : Leaves) → take_if test ts ≡ Some (a, rest) → Takes (suc n) ts (one_of test a) rest
  took = take_if-takes (suc n) some

  -- ---- members

  member-takes : 0 < n → (ts : Leaves) (a : Member) (rest : Leaves) → read.member (suc n) n ts ≡ Some (a, rest) → Takes n ts (grammar.member a) rest
  unfolding read.member grammar.member
  member-takes deep ts a rest h =
      let c = bind_ok (t.consts ts) _ a rest h in
      let x = bind_ok (t.base c.mid) _ a rest c.second in
      let v = bind_ok (d.declarators n x.mid) _ a rest x.second in
      let e = bind_ok (expect w.Semicolon v.mid) _ a rest v.second in
      finish grammar.member refl e.second
      (Takes-then ((consts-Sound n deep).takes _ _ _ c.first) (Takes-then ((base-Sound n deep).takes _ _ _ x.first)
      (Takes-then ((declarators-Sound n).takes _ _ _ v.first) (take_if-takes n deep _ _ _ _ e.first))))

  -- a member was read, so something may nest
  member-deep : (ts : Leaves) (a : Member) (rest : Leaves) → read.member (suc n) n ts ≡ Some (a, rest) → 0 < n
  unfolding read.member
  member-deep ts a rest h =
      let c = bind_ok (t.consts ts) _ a rest h in
      let x = bind_ok (t.base c.mid) _ a rest c.second in
      let v = bind_ok (d.declarators n x.mid) _ a rest x.second in
      let k = (declarators-Sound n).takes _ _ _ v.first in
      omega (arith, k.below)

  nested-member-Sound : Sound (suc n) (read.member (suc n) n) (λ m. nested (grammar.member m))
  nested-member-Sound = record { takes = λ ts a rest h. Takes-nested (member-takes (member-deep ts a rest h) ts a rest h) }

  members-takes : (ts : Leaves) (a : List Member) (rest : Leaves) → read.members (suc n) n ts ≡ Some (a, rest)
      → Takes (suc n) ts (run (λ m. nested (grammar.member m)) a) rest × (is_empty a ≡ false)
  unfolding read.members
  members-takes ts a rest h =
      let all = bind_ok (run_at begins_member (read.member (suc n) n) ts) _ a rest h in
      ⊎_elim
      (λ q. absurd (refused q.1))
      (λ q.
      let e = same_pair q.1 in (
        subst (λ a. Takes (suc n) ts (run (λ m. nested (grammar.member m)) a) rest) e.0
            (subst (λ r. Takes (suc n) ts (run (λ m. nested (grammar.member m)) all.value) r) e.1
            ((run-Sound begins_member _ _ (suc n) nested-member-Sound some).takes _ _ _ all.first)),
        ap is_empty (sym e.0) ∙ q.0,
      ))
      (chosen (is_empty all.value) _ _ all.mid _ all.second)

  or_left : (a b : Bool) → a ≡ true → (a || b) ≡ true
  or_left true b h = refl
  or_left false b h = cc

  or_right : (a b : Bool) → b ≡ true → (a || b) ≡ true
  or_right true b h = refl
  or_right false b h = h

  consts-begin : (cs : List Leaf) {k : ℕ} {ts mid : Leaves} → Takes k ts (types.consts cs) mid → begins_type (word_at mid) ≡ true → begins_member (word_at ts) ≡ true
  unfolding run
  consts-begin [] h begins = or_right _ _ (ap (λ x. begins_type (word_at x)) (nothing-Takes h) ∙ begins)
  consts-begin (x ∷ xs) h begins = or_left _ _ (take_if-word (same w.Const) x (then-Takes h).first)

  member-begins : (k : ℕ) (ts : Leaves) (a : Member) (rest : Leaves) → Takes k ts (nested (grammar.member a)) rest → begins_member (word_at ts) ≡ true
  unfolding grammar.member
  member-begins k ts a rest h =
      let r = then-Takes (wider h) in
      let x = then-Takes r.second in
      consts-begin a.consts r.first (base-Starts.word k r.mid a.base x.mid x.first)

  member-gives : (ts : Leaves) (a : Member) (rest : Leaves) → Takes (suc n) ts (nested (grammar.member a)) rest → read.member (suc n) n ts ≡ Some (a, rest)
  unfolding read.member grammar.member
  member-gives ts a rest h =
      let r = then-Takes (nested-Takes h) in
      let x = then-Takes r.second in
      let v = then-Takes x.second in
      let deep : 0 < n = omega (arith, v.second.below) in
      gives_bind _ ((consts-Complete n).gives ts a.consts r.mid r.first (record { ends = type_not_const (word_at r.mid) (base-Starts.word n r.mid a.base x.mid x.first) }))
      (gives_bind _ ((base-Complete n).gives r.mid a.base x.mid x.first (record { ends = declarator_ends_base _ (declarators-Starts.word n x.mid a.declarators v.mid v.first) }))
      (gives_bind _ ((declarators-Complete n).gives x.mid a.declarators v.mid v.first (semicolon_ends_members a.semicolon v.second))
      (gives_bind _ (take_if-gives (same w.Semicolon) a.semicolon v.second) refl)))

  members-gives : (a : List Member) (ts rest : Leaves) → Takes (suc n) ts (run (λ m. nested (grammar.member m)) a) rest → is_empty a ≡ false → word_at rest ≡ w.RightBrace
      → read.members (suc n) n ts ≡ Some (a, rest)
  unfolding read.members
  members-gives a ts rest h filled end =
      gives_bind _ ((run-Complete begins_member (read.member (suc n) n) (λ m. nested (grammar.member m)) (suc n) (λ x. false)
      (record { gives = λ ts a rest h end. member-gives ts a rest h }) (record { word = member-begins }) (λ x h. refl) refl).gives ts a rest h (record { ends = ap (λ x. begins_member x || false) end }))
      (refuse_test (is_empty a) _ _ rest filled)

  -- ---- what an item ends with

  names-takes : (ts : Leaves) (a : Option (Chain Declared)) (rest : Leaves) → unless w.Semicolon (d.all_declared (suc n)) ts ≡ Some (a, rest) → Takes (suc n) ts (optional all_declared a) rest
  unfolding unless optional
  names-takes ts a rest h = ⊎_elim
      (λ q. finish (optional all_declared) refl q.1 (Takes-nothing (suc n) ts some))
      (λ q. let x = bind_ok (d.all_declared (suc n) ts) _ a rest q.1 in finish (optional all_declared) refl x.second ((all_declared-Sound (suc n)).takes _ _ _ x.first))
      (chosen (same w.Semicolon (word_at ts)) _ _ ts _ h)

  names-gives : (a : Option (Chain Declared)) (e : Leaf) (ts mid rest : Leaves) → Takes (suc n) ts (optional all_declared a) mid → Takes (suc n) mid (one w.Semicolon e) rest
      → unless w.Semicolon (d.all_declared (suc n)) ts ≡ Some (a, mid)
  unfolding unless optional
  names-gives None e ts mid rest h end = rw (nothing-Takes h) (choose (same w.Semicolon (word_at mid)) _ _ mid (take_if-word (same w.Semicolon) e end))
  names-gives (Some a) e ts mid rest h end =
      refuse_test (same w.Semicolon (word_at ts)) _ _ ts (declarator_not_semicolon (word_at ts) (all_declared-Starts.word (suc n) ts a mid h))
      ∙ gives_bind _ ((all_declared-Complete (suc n)).gives ts a mid h (semicolon_ends e end)) refl

  body-takes : (inside : Params) (ts : Leaves) (a : Body) (rest : Leaves) → read.body (suc n) n inside ts ≡ Some (a, rest) → Takes (suc n) ts (grammar.body a) rest × (fits_params inside a ≡ true)
  unfolding read.body_where grammar.body
  body-takes inside ts a rest h = ⊎_elim
      (λ q.
      let e = bind_ok (expect w.Semicolon ts) _ a rest q.1 in
      (finish grammar.body refl e.second (took _ _ _ _ e.first), ap (fits_params inside) (sym (same_pair e.second).0)))
      (λ q. ⊎_elim
      (λ r.
      let x = bind_ok (block_at (suc n) ts) _ a rest r.1 in
      (finish grammar.body refl x.second ((block_exact (suc n)).sound.takes _ _ _ x.first), ap (fits_params inside) (sym (same_pair x.second).0) ∙ r.0))
      (λ r. absurd (refused r.1))
      (chosen (all_named inside) _ _ ts _ q.1))
      (chosen (same w.Semicolon (word_at ts)) _ _ ts _ h)

  brace_not_semicolon : (x : Word) → same w.LeftBrace x ≡ true → same w.Semicolon x ≡ false
  brace_not_semicolon w.LeftBrace h = refl
  brace_not_semicolon _ h = cc

  body-gives : (inside : Params) (a : Body) (ts rest : Leaves) → Takes (suc n) ts (grammar.body a) rest → fits_params inside a ≡ true → read.body (suc n) n inside ts ≡ Some (a, rest)
  unfolding read.body_where grammar.body
  body-gives inside (b.Absent e) ts rest h fits = choose (same w.Semicolon (word_at ts)) _ _ ts (take_if-word (same w.Semicolon) e h) ∙ gives_bind _ (take_if-gives (same w.Semicolon) e h) refl
  body-gives inside (b.Block x) ts rest h fits =
      refuse_test (same w.Semicolon (word_at ts)) _ _ ts (brace_not_semicolon (word_at ts) (block-Starts.word (suc n) ts x rest h))
      ∙ choose (all_named inside) _ _ ts fits
      ∙ gives_bind _ ((block_exact (suc n)).complete.gives ts x rest h (record { ends = refl })) refl

  -- ---- soundness

  variables-takes : (ps : List Leaf) (x : Base) (ts mid low : Leaves) (a : Item) (rest : Leaves) → Takes (suc n) ts (run (one_of is_variable_prefix) ps) mid → Takes (suc n) mid (base x) low
      → read.variables (suc n) n ps x low ≡ Some (a, rest) → Takes (suc n) ts (item a) rest
  unfolding read.variables item
  variables-takes ps x ts mid low a rest first second h =
      let v = bind_ok (d.all_declared (suc n) low) _ a rest h in
      let e = bind_ok (expect w.Semicolon v.mid) _ a rest v.second in
      finish item refl e.second (Takes-then first (Takes-then second (Takes-then ((all_declared-Sound (suc n)).takes _ _ _ v.first) (took _ _ _ _ e.first))))

  function-takes : (ps : List Leaf) (x : Base) (ts mid low : Leaves) (a : Item) (rest : Leaves) → Takes (suc n) ts (run (one_of is_function_prefix) ps) mid → Takes (suc n) mid (base x) low
      → read.function (suc n) n ps x low ≡ Some (a, rest) → Takes (suc n) ts (item a) rest
  unfolding read.function item
  function-takes ps x ts mid low a rest first second h =
      let s = bind_ok (stars_from (suc n) [] low) _ a rest h in
      let m = bind_ok (expect w.Name s.mid) _ a rest s.second in
      let o = bind_ok (expect w.LeftParen m.mid) _ a rest m.second in
      let p = bind_ok (q.params n o.mid) _ a rest o.second in
      let c = bind_ok (expect w.RightParen p.mid) _ a rest p.second in
      let z = bind_ok (read.body (suc n) n p.value c.mid) _ a rest c.second in
      let last = body-takes p.value _ _ _ z.first in
      finish item refl z.second (Takes-then first (Takes-then second (Takes-then ((stars-Sound (suc n) some).takes _ _ _ s.first) (Takes-then (took _ _ _ _ m.first) (Takes-then (took _ _ _ _ o.first)
      (Takes-then ((params-Sound n).takes _ _ _ p.first) (Takes-then (took _ _ _ _ c.first) (Takes-then (Takes-only (suc n) _ _ some last.1) last.0))))))))

  prefixes_all : (ps : List Leaf) (ts : Leaves) → begins_function (suc n) ps ts ≡ false → all_variable_prefixes ps ≡ true
  prefixes_all ps ts h = of (all_variable_prefixes ps) (first_of_neither _ _ (second_of_neither (is_called (skip is_pointer ts)) _ h))
    where
      of : (b : Bool) → not b ≡ false → b ≡ true
      of true h = refl
      of false h = cc

  declaration-takes : (ts : Leaves) (a : Item) (rest : Leaves) → read.declaration (suc n) n ts ≡ Some (a, rest) → Takes (suc n) ts (item a) rest
  unfolding read.declaration read.after_base
  declaration-takes ts a rest h =
      let p = bind_ok (run_at is_function_prefix (take_if is_function_prefix) ts) _ a rest h in
      let x = bind_ok (t.base p.mid) _ a rest p.second in
      let first = (tokens-Sound is_function_prefix (suc n) some).takes _ _ _ p.first in
      let second = (base-Sound (suc n) some).takes _ _ _ x.first in
      ⊎_elim
      (λ q. function-takes p.value x.value ts p.mid x.mid a rest first second q.1)
      (λ q. variables-takes p.value x.value ts p.mid x.mid a rest (narrow p.value first (prefixes_all p.value x.mid q.0)) second q.1)
      (chosen (begins_function (suc n) p.value x.mid) _ _ x.mid _ x.second)

  struct-takes : (ts : Leaves) (a : Item) (rest : Leaves) → read.struct_item (suc n) n ts ≡ Some (a, rest) → Takes (suc n) ts (item a) rest
  unfolding read.struct_item item
  struct-takes ts a rest h =
      let s = bind_ok (expect w.Struct ts) _ a rest h in
      let m = bind_ok (expect w.Name s.mid) _ a rest s.second in
      let o = bind_ok (expect w.LeftBrace m.mid) _ a rest m.second in
      let x = bind_ok (read.members (suc n) n o.mid) _ a rest o.second in
      let c = bind_ok (expect w.RightBrace x.mid) _ a rest x.second in
      let v = bind_ok (unless w.Semicolon (d.all_declared (suc n)) c.mid) _ a rest c.second in
      let e = bind_ok (expect w.Semicolon v.mid) _ a rest v.second in
      let all = members-takes _ _ _ x.first in
      finish item refl e.second (Takes-then (took _ _ _ _ s.first) (Takes-then (took _ _ _ _ m.first) (Takes-then (took _ _ _ _ o.first) (Takes-then all.0 (Takes-then (Takes-only (suc n) _ _ some (is_not _ all.1))
      (Takes-then (took _ _ _ _ c.first) (Takes-then (names-takes _ _ _ v.first) (took _ _ _ _ e.first))))))))

  item_by-takes : (x : Word) (ts : Leaves) (a : Item) (rest : Leaves) → read.item_by (suc n) n x ts ≡ Some (a, rest) → Takes (suc n) ts (item a) rest
  unfolding item
  item_by-takes w.Meta ts a rest h = let e = bind_ok (expect w.Meta ts) _ a rest h in finish item refl e.second (took _ _ _ _ e.first)
  item_by-takes w.Ghost ts a rest h = let e = bind_ok (expect w.Ghost ts) _ a rest h in finish item refl e.second (took _ _ _ _ e.first)
  item_by-takes _ ts a rest h = declaration-takes ts a rest h

  pub item-Sound : Sound (suc n) (read.item (suc n) n) item
  unfolding read.item
  item-Sound = record { takes = λ ts a rest h. ⊎_elim (λ q. struct-takes ts a rest q.1) (λ q. item_by-takes (word_at ts) ts a rest q.1) (chosen (is_struct ts) _ _ ts _ h) }

  -- ---- completeness

  -- prefixes and base, with what is read after them
  declaration-gives : (ps : List Leaf) (x : Base) (ts mid low : Leaves) (r : Outcome Item) → Takes (suc n) ts (run (one_of is_function_prefix) ps) mid → Takes (suc n) mid (base x) low
      → begins_declarator (word_at low) ≡ true → read.after_base (suc n) n ps x low ≡ r → read.item (suc n) n ts ≡ r
  unfolding read.item read.declaration
  declaration-gives ps x ts mid low r first second begins last =
      let at = base-Starts.word (suc n) mid x low second in
      refuse_test (is_struct ts) _ _ ts (prefixed_no_struct ps first (base_no_struct x second (declarator_no_brace (word_at low) begins)))
      ∙ ap (λ p. p ts) (declaration_item (word_at ts) n (suc n) (prefixed_begins ps first at))
      ∙ gives_bind _ ((tokens-Complete is_function_prefix (suc n) refl).gives ts ps mid first (record { ends = type_not_prefix (word_at mid) at }))
      (gives_bind _ ((base-Complete (suc n)).gives mid x low second (record { ends = declarator_ends_base (word_at low) begins })) last)

  fewer : (k m : ℕ) → m < k → nat_le k m ≡ false
  fewer k m h = grind (arith, nat_tests)

  neither_of : (a b c : Bool) → a ≡ false → b ≡ true → c ≡ false → (a || (not b || c)) ≡ false
  neither_of true b c h i j = h
  neither_of false true c h i j = j
  neither_of false false c h i j = cc

  variables-gives : (ps : List Leaf) (x : Base) (names : Chain Declared) (e : Leaf) (ts rest : Leaves) → Takes (suc n) ts (item (i.Variables ps x names e)) rest
      → read.item (suc n) n ts ≡ Some (i.Variables ps x names e, rest)
  unfolding read.after_base read.variables item
  variables-gives ps x names e ts rest h =
      let a = then-Takes h in
      let c = then-Takes a.second in
      let v = then-Takes c.second in
      let wide = widen ps a.first in
      let no = names_no_function names v.first (ap (same w.LeftParen) (word_is w.Semicolon e v.second)) in
      declaration-gives ps x ts a.mid c.mid _ wide.0 c.first (all_declared-Starts.word (suc n) c.mid names v.mid v.first)
      (refuse_test (begins_function (suc n) ps c.mid) _ _ c.mid (neither_of _ _ _ no.uncalled wide.1 (fewer (suc n) (leading_stars c.mid) no.few))
      ∙ gives_bind _ ((all_declared-Complete (suc n)).gives c.mid names v.mid v.first (semicolon_ends e v.second)) (gives_bind _ (take_if-gives (same w.Semicolon) e v.second) refl))

  function-gives : (ps : List Leaf) (x : Base) (stars : List Star) (m op : Leaf) (inside : Params) (cl : Leaf) (last : Body) (ts rest : Leaves)
      → Takes (suc n) ts (item (i.Function ps x stars m op inside cl last)) rest → read.item (suc n) n ts ≡ Some (i.Function ps x stars m op inside cl last, rest)
  unfolding read.after_base read.function item
  function-gives ps x stars m op inside cl last ts rest h =
      let a = then-Takes h in
      let c = then-Takes a.second in
      let s = then-Takes c.second in
      let r = then-Takes s.second in
      let o = then-Takes r.second in
      let u = then-Takes o.second in
      let v = then-Takes u.second in
      let y = then-Takes v.second in
      let f = only-Takes _ y.first in
      let at = word_is w.Name m r.first in
      let look : is_called (skip is_pointer c.mid) ≡ true =
      ap is_called (skip_alone stars s.first ∙ skip_none s.mid (ap is_pointer at))
      ∙ both _ _ (take_if-word (same w.Name) m r.first) (ap (λ x. same w.LeftParen (word_at x)) (after-one (same w.Name) m r.first) ∙ take_if-word (same w.LeftParen) op o.first) in
      declaration-gives ps x ts a.mid c.mid _ a.first c.first (stars_then_name stars m s.first r.first)
      (choose (begins_function (suc n) ps c.mid) _ _ c.mid (or_left _ _ look)
      ∙ gives_bind _ ((stars-Complete (suc n)).gives c.mid stars s.mid s.first (at_one w.Name m r.first refl))
      (gives_bind _ (take_if-gives (same w.Name) m r.first) (gives_bind _ (take_if-gives (same w.LeftParen) op o.first)
      (gives_bind _ (params-gives n inside o.mid u.mid u.first (word_is w.RightParen cl v.first)) (gives_bind _ (take_if-gives (same w.RightParen) cl v.first)
      (gives_bind _ (body-gives inside last v.mid rest (subst (λ r. Takes (suc n) r (grammar.body last) rest) (sym f.0) y.second) f.1) refl))))))

  struct-gives : (s m op : Leaf) (all : List Member) (cl : Leaf) (names : Option (Chain Declared)) (e : Leaf) (ts rest : Leaves) → Takes (suc n) ts (item (i.Struct s m op all cl names e)) rest
      → read.item (suc n) n ts ≡ Some (i.Struct s m op all cl names e, rest)
  unfolding read.item read.struct_item item
  struct-gives s m op all cl names e ts rest h =
      let a = then-Takes h in
      let c = then-Takes a.second in
      let o = then-Takes c.second in
      let x = then-Takes o.second in
      let y = then-Takes x.second in
      let f = only-Takes _ y.first in
      let u = then-Takes y.second in
      let v = then-Takes u.second in
      let members : Takes (suc n) o.mid (run (λ m. nested (grammar.member m)) all) y.mid = subst (λ r. Takes (suc n) o.mid (run (λ m. nested (grammar.member m)) all) r) f.0 x.first in
      choose (is_struct ts) _ _ ts
      (both _ _ (take_if-word (same w.Struct) s a.first)
      (ap (λ x. same w.LeftBrace (word_at (after x))) (after-one (same w.Struct) s a.first) ∙ ap (λ x. same w.LeftBrace (word_at x)) (after-one (same w.Name) m c.first) ∙ take_if-word (same w.LeftBrace) op o.first))
      ∙ gives_bind _ (take_if-gives (same w.Struct) s a.first) (gives_bind _ (take_if-gives (same w.Name) m c.first) (gives_bind _ (take_if-gives (same w.LeftBrace) op o.first)
      (gives_bind _ (members-gives all o.mid y.mid members (not_is _ f.1) (word_is w.RightBrace cl u.first)) (gives_bind _ (take_if-gives (same w.RightBrace) cl u.first)
      (gives_bind _ (names-gives names e u.mid v.mid rest v.first v.second) (gives_bind _ (take_if-gives (same w.Semicolon) e v.second) refl))))))

  leaf_no_struct : (ts : Leaves) → same w.Struct (word_at ts) ≡ false → is_struct ts ≡ false
  leaf_no_struct ts h = first_false _ _ h

  item-gives : (a : Item) (ts rest : Leaves) → Takes (suc n) ts (item a) rest → read.item (suc n) n ts ≡ Some (a, rest)
  unfolding read.item item
  item-gives (i.Struct s m op all cl names e) ts rest h = struct-gives s m op all cl names e ts rest h
  item-gives (i.Variables ps x names e) ts rest h = variables-gives ps x names e ts rest h
  item-gives (i.Function ps x stars m op inside cl last) ts rest h = function-gives ps x stars m op inside cl last ts rest h
  item-gives (i.Meta e) ts rest h =
      let at = word_is w.Meta e h in
      refuse_test (is_struct ts) _ _ ts (leaf_no_struct ts (ap (same w.Struct) at)) ∙ ap (λ x. read.item_by (suc n) n x ts) at ∙ gives_bind _ (take_if-gives (same w.Meta) e h) refl
  item-gives (i.Ghost e) ts rest h =
      let at = word_is w.Ghost e h in
      refuse_test (is_struct ts) _ _ ts (leaf_no_struct ts (ap (same w.Struct) at)) ∙ ap (λ x. read.item_by (suc n) n x ts) at ∙ gives_bind _ (take_if-gives (same w.Ghost) e h) refl

  pub item-Complete : Complete (suc n) (read.item (suc n) n) item (λ x. false)
  item-Complete = record { gives = λ ts a rest h end. item-gives a ts rest h }

-- ---- how items begin

declaration_begins : (x : Word) → begins_declaration x ≡ true → begins_item x ≡ true
declaration_begins w.Meta h = cc
declaration_begins w.Ghost h = cc
declaration_begins _ h = h

item-begins : (k : ℕ) (ts : Leaves) (a : Item) (rest : Leaves) → Takes k ts (item a) rest → begins_item (word_at ts) ≡ true
unfolding item
item-begins k ts (i.Struct s m op all cl names e) rest h = ap begins_item (word_is w.Struct s (then-Takes h).first)
item-begins k ts (i.Variables ps x names e) rest h =
    let a = then-Takes h in
    let c = then-Takes a.second in
    declaration_begins (word_at ts) (prefixed_begins ps (widen ps a.first).0 (base-Starts.word k a.mid x c.mid c.first))
item-begins k ts (i.Function ps x stars m op inside cl last) rest h =
    let a = then-Takes h in
    let c = then-Takes a.second in
    declaration_begins (word_at ts) (prefixed_begins ps a.first (base-Starts.word k a.mid x c.mid c.first))
item-begins k ts (i.Meta e) rest h = ap begins_item (word_is w.Meta e h)
item-begins k ts (i.Ghost e) rest h = ap begins_item (word_is w.Ghost e h)

pub item-Starts : Starts item begins_item
item-Starts = record { word = item-begins }
