-- What an item of a tree over a text says, and so what a text says.
use Rattle.std.proofs.Common.{◌≡◌, ℕ, zero, suc, pred, ◌+◌, ◌≤◌, max, Bool, true, false, ◌&&◌, not, List, [], ◌∷◌, ◌++◌, map, length, Option, Some, None, refl, sym, ap, subst, ◌∙◌, arith, length-append}
use Rattle.std.specs.Prelude.{is_none}
use Rattle.std.specs.List.{AllByRecursion, list_all}
use Rattle.c_lexer.specs.declared.token.Token.{Token}
use Rattle.c_lexer.specs.declared.profile.Profile.TheVariants as profile
use Rattle.c_lexer.specs.Lexing.{Tokens}
use Rattle.c_words.specs.declared.word.Mode.{Mode}
use Rattle.c_words.specs.declared.word.Word.TheVariants as w
use Rattle.c_words.specs.declared.word.Leaf.{Leaf}
use Rattle.c_words.specs.declared.chain.Chain.{Chain}
use Rattle.c_words.specs.declared.chain.Link.{Link}
use Rattle.c_words.specs.Words.{same}
use Rattle.c_words.specs.Written.{Written, ◌then◌, one, one_of, nested, only, optional, run, links, chain}
use Rattle.c_words.specs.OperatorWords.{is_comma}
use Rattle.c_grammar.specs.declared.types.Star.{Star}
use Rattle.c_grammar.specs.declared.expression.Choice.{Choice}
use Rattle.c_grammar.specs.declared.declaration.Declared.{Declared}
use Rattle.c_grammar.specs.declared.declaration.Declarator.{Declarator}
use Rattle.c_grammar.specs.declared.declaration.Sizes.{Sizes}
use Rattle.c_grammar.specs.declared.declaration.Parameter.{Parameter}
use Rattle.c_grammar.specs.declared.declaration.Parameter.TheVariants as p
use Rattle.c_grammar.specs.declared.declaration.Params.{Params}
use Rattle.c_grammar.specs.declared.declaration.Params.TheVariants as ps
use Rattle.c_grammar.specs.declared.program.Member.{Member}
use Rattle.c_grammar.specs.declared.program.Body.{Body}
use Rattle.c_grammar.specs.declared.program.Body.TheVariants as b
use Rattle.c_grammar.specs.declared.program.Item.{Item}
use Rattle.c_grammar.specs.declared.program.Item.TheVariants as i
use Rattle.c_grammar.specs.declared.program.ProgramTree.{ProgramTree}
use Rattle.c_grammar.specs.Types.{base, consts, stars_alone, stars_before}
use Rattle.c_grammar.specs.Expressions as expressions
use Rattle.c_grammar.specs.Declarations as declarations
use Rattle.c_grammar.specs.Declarations.{sized, all_declared, is_unsized, array_of, nameless, lone_void}
use Rattle.c_grammar.specs.Statements.{block}
use Rattle.c_grammar.specs.Programs as written
use Rattle.c_grammar.specs.Programs.{is_variable_prefix, is_function_prefix, is_named, all_named, fits_params, is_empty}
use Rattle.c_grammar.proofs.DeclaratorShapes as shapes
use Rattle.typing_rules.specs.Syntax as syntax
use Rattle.typing_rules.specs.Syntax.{Modifier, ArrayOf, ArrayUnsized}
use Rattle.typing_rules.specs.TreesOfExpressions as said
use Rattle.typing_rules.specs.TreesOfDeclarations as trees
use Rattle.typing_rules.specs.TreesOfDeclarations.{operands, operands_there, stars_of, sizes_there}
use Rattle.typing_rules.proofs.DeclarationAlternatives as says
use Rattle.typing_laws.specs.ParsedSyntax.{IsName, AllDeclaredParsed, MembersParsed, DeclaresSome, HasMember, IsNamed, BodyParsed, ItemParsed, ItemsParsed, StatementsParsed}
use Rattle.typing_laws.specs.ShallowSyntax.{DeclaratorShallow, AllDeclaredShallow, BodyShallow, ItemShallow, ItemsShallow, StatementsShallow, statements_turns}
use Rattle.step_meaning.proofs.Ranges.{left_of_and, right_of_and, false_is_not_true}
use Rattle.reading_laws.proofs.ReadLeaves.{IsRead}
use Rattle.reading_laws.proofs.ReadParts.{Reads, before, after, inner, deeper, holds}
use Rattle.reading_laws.proofs.ReadExpressions.{four, alone_deep}
use Rattle.reading_laws.proofs.ReadDeclarations.{carried, name_read, GoodDeclarator, declarator_is_good, AllGoodDeclared, all_declared_good, stars_inner, stars_count, more_stars}
use Rattle.reading_laws.proofs.ReadStatements.{limit, GoodBlock, block_is_good}

-- ---- parameters

-- at most one more than it nests
abbrev CountedSizes : List ℕ → ℕ → Type 0
CountedSizes text n = (x : Sizes) → Reads text n (declarations.sizes x) → length (trees.sizes x) ≤ suc n

module _ (text : List ℕ) (n : ℕ) (less : (m : ℕ) → suc m ≤ n → CountedSizes text m) where
  one_size_more : (x : Sizes) (s : Choice) (l r : Leaf) → Reads text n (array_of (declarations.sizes x) l (expressions.choice s) r) → length (trees.sizes x ++ (ArrayOf (said.choice s) ∷ [])) ≤ suc n
  unfolding array_of
  one_size_more x s l r h =
      let k : Reads text n (nested (declarations.sizes x)) = before (nested (declarations.sizes x)) _ h in
      let deep : suc (declarations.sizes x).nesting ≤ n = deeper (declarations.sizes x) k in
      let a : length (trees.sizes x) ≤ suc (declarations.sizes x).nesting = less (declarations.sizes x).nesting deep x (inner (declarations.sizes x) k) in
      omega (arith, length-append (trees.sizes x) (ArrayOf (said.choice s) ∷ []))

  counted_at : CountedSizes text n
  counted_at =
      shapes.sizes_cases (λ x. Reads text n (declarations.sizes x) → length (trees.sizes x) ≤ suc n)
      (λ l r. carried (λ ms. length ms ≤ suc n) (shapes.sizes-Unsized l r) (says.sizes-Unsized l r) (λ h. omega arith))
      (λ l s r. carried (λ ms. length ms ≤ suc n) (shapes.sizes-First l s r) (says.sizes-First l s r) (λ h. omega arith))
      (λ x l s r. carried (λ ms. length ms ≤ suc n) (shapes.sizes-More x l s r) (says.sizes-More x l s r) (one_size_more x s l r))

counted_below : (text : List ℕ) (k n : ℕ) → suc n ≤ k → CountedSizes text n
counted_below text zero n l = absurd (omega arith)
counted_below text (suc k) n l = counted_at text n (λ m i. counted_below text k m (omega arith))

sizes_counted : (text : List ℕ) (x : Sizes) (n : ℕ) → Reads text n (declarations.sizes x) → length (trees.sizes x) ≤ suc n
sizes_counted text x n = counted_below text (suc n) n (omega arith) x

record GoodParameter (text : List ℕ) (n : ℕ) (x : syntax.Parameter) : Type 0 where
  counted : length x.modifiers ≤ suc n

module _ (text : List ℕ) (n : ℕ) where
  nameless_counted : (stars : List Star) (x : Option Sizes) → Reads text n (nameless stars x) → length (sizes_there x ++ stars_of stars) ≤ suc n
  nameless_counted stars None h =
      let a : pred (length stars) ≤ (stars_alone stars).nesting = alone_deep stars in
      let b : (stars_alone stars).nesting ≤ n = h.nesting in
      omega (arith, more_stars [] stars)
  nameless_counted stars (Some x) h =
      let a : length stars + (declarations.sizes x).nesting ≤ n = stars_count stars (declarations.sizes x) h in
      let c : length (trees.sizes x) ≤ suc (declarations.sizes x).nesting = sizes_counted text x (declarations.sizes x).nesting (stars_inner stars (declarations.sizes x) h) in
      omega (arith, more_stars (trees.sizes x) stars)

  parameter_counted : (x : Parameter) → Reads text n (declarations.parameter x) → length (trees.parameter x).modifiers ≤ suc n
  unfolding declarations.parameter trees.parameter
  parameter_counted (p.Named cs x a) h =
      let k : GoodDeclarator text n (trees.declarator a) = declarator_is_good text n a (after (base x) _ (after (consts cs) _ h)) in
      let c : length (trees.declarator a).modifiers ≤ n = k.counted in
      omega arith
  parameter_counted (p.Nameless cs x stars brackets) h = nameless_counted stars brackets (after (base x) _ (after (consts cs) _ h))

  parameter_named : (x : Parameter) → is_named x ≡ true → Reads text n (declarations.parameter x) → IsNamed text (trees.parameter x)
  unfolding declarations.parameter trees.parameter
  parameter_named (p.Named cs x a) e h =
      let k : GoodDeclarator text n (trees.declarator a) = declarator_is_good text n a (after (base x) _ (after (consts cs) _ h)) in
      k.named
  parameter_named (p.Nameless cs x stars brackets) e h = false_is_not_true e

abbrev Few : syntax.Parameter → Type 0
Few x = length x.modifiers ≤ 64

module _ (text : List ℕ) (m n : ℕ) (deep : suc m ≤ n) where
  few : (x : Parameter) → Reads text m (declarations.parameter x) → n ≤ 64 → Few (trees.parameter x)
  few x h l = let a : length (trees.parameter x).modifiers ≤ suc m = parameter_counted text m x h in omega arith

  links_few : (ls : List (Link Parameter)) → Reads text m (links is_comma declarations.parameter ls) → n ≤ 64 → AllByRecursion Few (map trees.parameter (map (λ l. l.operand) ls))
  unfolding links
  links_few [] h l = tt
  links_few (x ∷ ls) h l =
      let rest = after (one_of is_comma x.operator) _ h in
      (few x.operand (before (declarations.parameter x.operand) _ rest) l, links_few ls (after (declarations.parameter x.operand) _ rest) l)

  links_named : (ls : List (Link Parameter)) → list_all (λ l. is_named l.operand) ls ≡ true → Reads text m (links is_comma declarations.parameter ls) → AllByRecursion (IsNamed text) (map trees.parameter (map (λ l. l.operand) ls))
  unfolding links
  links_named [] e h = tt
  links_named (x ∷ ls) e h =
      let rest = after (one_of is_comma x.operator) _ h in
      (parameter_named text m x.operand (left_of_and (is_named x.operand) _ e) (before (declarations.parameter x.operand) _ rest), links_named ls (right_of_and (is_named x.operand) _ e) (after (declarations.parameter x.operand) _ rest))

  all_few : (x : Chain Parameter) → Reads text m (chain is_comma declarations.parameter x) → n ≤ 64 → AllByRecursion Few (map trees.parameter (operands x))
  unfolding chain operands
  all_few x h l = (few x.first (before (declarations.parameter x.first) _ h) l, links_few x.rest (after (declarations.parameter x.first) _ h) l)

  each_named : (x : Chain Parameter) → (is_named x.first && list_all (λ l. is_named l.operand) x.rest) ≡ true → Reads text m (chain is_comma declarations.parameter x) → AllByRecursion (IsNamed text) (map trees.parameter (operands x))
  unfolding chain operands
  each_named x e h =
      (parameter_named text m x.first (left_of_and (is_named x.first) _ e) (before (declarations.parameter x.first) _ h), links_named x.rest (right_of_and (is_named x.first) _ e) (after (declarations.parameter x.first) _ h))

module _ (text : List ℕ) (n : ℕ) where
  params_few : (x : Params) → Reads text n (declarations.params x) → n ≤ 64 → AllByRecursion Few (trees.params x)
  unfolding declarations.params trees.params
  params_few ps.Empty h l = tt
  params_few (ps.Void t) h l = tt
  params_few (ps.List all) h l =
      let b : Written = chain is_comma declarations.parameter all in
      let k : Reads text n (nested b) = before (nested b) _ h in
      all_few text b.nesting n (deeper b k) all (inner b k) l

  params_named : (x : Params) → all_named x ≡ true → Reads text n (declarations.params x) → AllByRecursion (IsNamed text) (trees.params x)
  unfolding declarations.params trees.params all_named
  params_named ps.Empty e h = tt
  params_named (ps.Void t) e h = tt
  params_named (ps.List all) e h =
      let b : Written = chain is_comma declarations.parameter all in
      let k : Reads text n (nested b) = before (nested b) _ h in
      each_named text b.nesting n (deeper b k) all e (inner b k)

-- ---- members

record GoodMembers (text : List ℕ) (n : ℕ) (x : syntax.Members) : Type 0 where
  parsed : MembersParsed text x
  some : DeclaresSome text x.declarators
  shallow : n ≤ 64 → AllByRecursion DeclaratorShallow x.declarators

module _ (text : List ℕ) (n : ℕ) where
  sized_named : (x : Declarator) → Reads text n (sized x) → GoodDeclarator text n (trees.declarator x)
  sized_named x h = declarator_is_good text n x (before (declarations.declarator x) _ h)

  counted_shallow : (x : syntax.Declarator) → GoodDeclarator text n x → n ≤ 64 → DeclaratorShallow x
  counted_shallow x h l = let a : length x.modifiers ≤ n = h.counted in omega arith

  links_parsed : (ls : List (Link Declarator)) → Reads text n (links is_comma sized ls) → AllByRecursion (λ (d : syntax.Declarator). IsName text d.name) (map trees.declarator (map (λ l. l.operand) ls))
  unfolding links
  links_parsed [] h = tt
  links_parsed (x ∷ ls) h =
      let rest = after (one_of is_comma x.operator) _ h in
      let k = sized_named x.operand (before (sized x.operand) _ rest) in
      (k.named, links_parsed ls (after (sized x.operand) _ rest))

  links_shallow : (ls : List (Link Declarator)) → Reads text n (links is_comma sized ls) → n ≤ 64 → AllByRecursion DeclaratorShallow (map trees.declarator (map (λ l. l.operand) ls))
  unfolding links
  links_shallow [] h l = tt
  links_shallow (x ∷ ls) h l =
      let rest = after (one_of is_comma x.operator) _ h in
      (counted_shallow (trees.declarator x.operand) (sized_named x.operand (before (sized x.operand) _ rest)) l, links_shallow ls (after (sized x.operand) _ rest) l)

  declarators_good : (m : Member) → Reads text n (chain is_comma sized m.declarators) → GoodMembers text n (trees.members m)
  unfolding chain trees.members operands
  declarators_good m h =
      let k = sized_named m.declarators.first (before (sized m.declarators.first) _ h) in
      let rest = after (sized m.declarators.first) _ h in
      record {
        parsed = (k.named, links_parsed m.declarators.rest rest);
        some = tt;
        shallow = λ l. (counted_shallow (trees.declarator m.declarators.first) k l, links_shallow m.declarators.rest rest l);
      }

  member_good : (m : Member) → Reads text n (written.member m) → GoodMembers text n (trees.members m)
  unfolding written.member
  member_good m h = declarators_good m (before (chain is_comma sized m.declarators) _ (after (base m.base) _ (after (consts m.consts) _ h)))

member_below : (text : List ℕ) (n : ℕ) (m : Member) → Reads text n (nested (written.member m)) → GoodMembers text n (trees.members m)
member_below text n m h =
    let l : suc (written.member m).nesting ≤ n = deeper (written.member m) h in
    let k : GoodMembers text (written.member m).nesting (trees.members m) = member_good text (written.member m).nesting m (inner (written.member m) h) in
    record { parsed = k.parsed; some = k.some; shallow = λ o. k.shallow (omega arith) }

abbrev member_deeper : Member → Written
member_deeper m = nested (written.member m)

module _ (text : List ℕ) (n : ℕ) where
  all_members_parsed : (ms : List Member) → Reads text n (run member_deeper ms) → AllByRecursion (MembersParsed text) (map trees.members ms)
  unfolding run
  all_members_parsed [] h = tt
  all_members_parsed (m ∷ ms) h = let k = member_below text n m (before (member_deeper m) _ h) in (k.parsed, all_members_parsed ms (after (member_deeper m) _ h))

  all_members_shallow : (ms : List Member) → Reads text n (run member_deeper ms) → n ≤ 64 → AllByRecursion (λ (m : syntax.Members). AllByRecursion DeclaratorShallow m.declarators) (map trees.members ms)
  unfolding run
  all_members_shallow [] h l = tt
  all_members_shallow (m ∷ ms) h l = let k = member_below text n m (before (member_deeper m) _ h) in (k.shallow l, all_members_shallow ms (after (member_deeper m) _ h) l)

  some_member : (ms : List Member) → not (is_empty ms) ≡ true → Reads text n (run member_deeper ms) → HasMember text (map trees.members ms)
  unfolding run
  some_member [] e h = false_is_not_true e
  some_member (m ∷ ms) e h = let k = member_below text n m (before (member_deeper m) _ h) in k.some

  -- ---- bodies

  body_parsed : (xs : Params) (x : Body) → fits_params xs x ≡ true → Reads text n (declarations.params xs) → Reads text n (written.body x) → BodyParsed text (trees.params xs) (trees.body x)
  unfolding written.body trees.body
  body_parsed xs (b.Absent semicolon) e h k = tt
  body_parsed xs (b.Block y) e h k = let g : GoodBlock text n (trees.block y) = block_is_good text n y k in (params_named text n xs e h, g.parsed)

  body_shallow : (x : Body) → Reads text n (written.body x) → n ≤ 64 → BodyShallow (trees.body x)
  unfolding written.body trees.body
  body_shallow (b.Absent semicolon) k l = tt
  body_shallow (b.Block y) k l =
      let g : GoodBlock text n (trees.block y) = block_is_good text n y k in
      let a : suc (statements_turns 1 (trees.block y)) ≤ limit n 1 = g.turned 1 in
      (g.shallow l, omega arith)

  -- ---- items

  there_parsed : (ds : Option (Chain Declared)) → Reads text n (optional all_declared ds) → AllGoodDeclared text n (map trees.declared (operands_there ds))
  unfolding optional operands_there
  there_parsed None h = record { parsed = tt; shallow = λ l. tt; turned = omega arith }
  there_parsed (Some ds) h = all_declared_good text n ds h

  item_parsed : (x : Item) → Reads text n (written.item x) → ItemParsed text (trees.item x)
  unfolding written.item trees.item
  item_parsed (i.Struct word tag opening members closing names semicolon) h =
      let after_word = after (one w.Struct word) _ h in
      let after_brace = after (one w.LeftBrace opening) _ (after (one w.Name tag) _ after_word) in
      let all = before (run member_deeper members) _ after_brace in
      let after_all = after (run member_deeper members) _ after_brace in
      let after_close = after (one w.RightBrace closing) _ (after (only (not (is_empty members))) _ after_all) in
      let ds : AllGoodDeclared text n (map trees.declared (operands_there names)) = there_parsed names (before (optional all_declared names) _ after_close) in
      (name_read tag (before (one w.Name tag) _ after_word), some_member members (holds (not (is_empty members)) (before (only (not (is_empty members))) _ after_all)) all, all_members_parsed members all, ds.parsed)
  item_parsed (i.Variables prefixes x names semicolon) h =
      let ds : AllGoodDeclared text n (map trees.declared (operands names)) = all_declared_good text n names (before (all_declared names) _ (after (base x) _ (after (run (one_of is_variable_prefix) prefixes) _ h))) in
      ds.parsed
  item_parsed (i.Function prefixes x stars name opening inside closing rest) h =
      let from_name = after (stars_alone stars) _ (after (base x) _ (after (run (one_of is_function_prefix) prefixes) _ h)) in
      let from_params = after (one w.LeftParen opening) _ (after (one w.Name name) _ from_name) in
      let from_fits = after (one w.RightParen closing) _ (after (declarations.params inside) _ from_params) in
      (name_read name (before (one w.Name name) _ from_name), body_parsed inside rest (holds (fits_params inside rest) (before (only (fits_params inside rest)) _ from_fits)) (before (declarations.params inside) _ from_params) (after (only (fits_params inside rest)) _ from_fits))
  item_parsed (i.Meta annotation) h = tt
  item_parsed (i.Ghost annotation) h = tt

  item_shallow : (x : Item) → Reads text n (written.item x) → n ≤ 64 → ItemShallow (trees.item x)
  unfolding written.item trees.item
  item_shallow (i.Struct word tag opening members closing names semicolon) h l =
      let after_brace = after (one w.LeftBrace opening) _ (after (one w.Name tag) _ (after (one w.Struct word) _ h)) in
      let all = before (run member_deeper members) _ after_brace in
      let after_close = after (one w.RightBrace closing) _ (after (only (not (is_empty members))) _ (after (run member_deeper members) _ after_brace)) in
      let ds : AllGoodDeclared text n (map trees.declared (operands_there names)) = there_parsed names (before (optional all_declared names) _ after_close) in
      (all_members_shallow members all l, ds.shallow l)
  item_shallow (i.Variables prefixes x names semicolon) h l =
      let ds : AllGoodDeclared text n (map trees.declared (operands names)) = all_declared_good text n names (before (all_declared names) _ (after (base x) _ (after (run (one_of is_variable_prefix) prefixes) _ h))) in
      ds.shallow l
  item_shallow (i.Function prefixes x stars name opening inside closing rest) h l =
      let from_stars = after (base x) _ (after (run (one_of is_function_prefix) prefixes) _ h) in
      let from_params = after (one w.LeftParen opening) _ (after (one w.Name name) _ (after (stars_alone stars) _ from_stars)) in
      let from_fits = after (one w.RightParen closing) _ (after (declarations.params inside) _ from_params) in
      let at : Reads text n (stars_alone stars) = before (stars_alone stars) _ from_stars in
      let a : (stars_alone stars).nesting ≤ n = at.nesting in
      let c : pred (length stars) ≤ (stars_alone stars).nesting = alone_deep stars in
      (omega arith, params_few text n inside (before (declarations.params inside) _ from_params) l, body_shallow rest (after (only (fits_params inside rest)) _ from_fits) l)
  item_shallow (i.Meta annotation) h l = tt
  item_shallow (i.Ghost annotation) h l = tt

  pub items_parsed : (xs : List Item) → Reads text n (run written.item xs) → ItemsParsed text (map trees.item xs)
  unfolding run
  items_parsed [] h = tt
  items_parsed (x ∷ xs) h = (item_parsed x (before (written.item x) _ h), items_parsed xs (after (written.item x) _ h))

  pub items_shallow : (xs : List Item) → Reads text n (run written.item xs) → n ≤ 64 → ItemsShallow (map trees.item xs)
  unfolding run
  items_shallow [] h l = tt
  items_shallow (x ∷ xs) h l = (item_shallow x (before (written.item x) _ h) l, items_shallow xs (after (written.item x) _ h) l)
