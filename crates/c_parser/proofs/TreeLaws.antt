-- A tree stands for the tokens exactly where the parser gives it.
use Rattle.std.proofs.Common.{◌≡◌, ℕ, zero, suc, ◌<◌, ◌≤◌, ◌+◌, max, Bool, true, false, List, [], ◌++◌, Option, Some, None, Result, Ok, Err, IfOk, refl, sym, ap, subst, ◌∙◌, append-nil, arith}
use Rattle.c_lexer.specs.declared.token.Token.{Token}
use Rattle.c_words.specs.declared.word.Mode.{Mode}
use Rattle.c_words.specs.declared.word.Word.TheVariants as w
use Rattle.c_words.specs.declared.word.Leaf.{Leaf}
use Rattle.c_grammar.specs.declared.program.Item.{Item}
use Rattle.c_grammar.specs.declared.program.ProgramTree.{ProgramTree}
use Rattle.c_words.specs.declared.fault.ParseFault.{ParseFault}
use Rattle.c_words.specs.Words.{leaves_of}
use Rattle.c_words.specs.Written.{run, Takes}
use Rattle.c_grammar.specs.Programs.{item, program, nesting_limit, Spells, IsTreeOf, HasNoTree, HaveOneTree}
use Rattle.c_words.specs.Parsing.{Leaves, word_at}
use Rattle.c_words.proofs.Reading.{Sound, Complete, Ends, same_pair}
use Rattle.c_words.proofs.Runs.{run-Sound, run-Complete}
use Rattle.c_parser.specs.ItemReading.{begins_item, items_at, IsWhole}
use Rattle.c_parser.proofs.ItemLaws.{item-Sound, item-Complete, item-Starts}

items-Sound : (n : ℕ) → Sound (suc n) (items_at n) (run item)
unfolding items_at
items-Sound n = run-Sound begins_item _ item (suc n) (item-Sound n) (omega arith)

items-gives : (n : ℕ) (ls : Leaves) (a : List Item) → Takes (suc n) ls (run item a) [] → items_at n ls ≡ Some (a, [])
unfolding items_at word_at
items-gives n ls a h = (run-Complete begins_item _ item (suc n) (λ x. false) (item-Complete n) item-Starts (λ x h. refl) refl).gives ls a [] h (record { ends = refl })

pub whole_is_tree : (m : Mode) (text : List ℕ) (tokens : List Token) (p : ProgramTree) → IsWhole m text tokens p → IsTreeOf m text tokens p
whole_is_tree m text tokens p h =
    let t = (items-Sound (nesting_limit m)).takes (leaves_of m text tokens) p.items [] h in
    record { spells = record { spelled = t.spelled ∙ append-nil (program p).leaves; levelled = t.levelled }; within = omega (arith, t.below) }

-- a levelled tree is what the parser gives at each limit that it keeps
given : (n : ℕ) (m : Mode) (text : List ℕ) (tokens : List Token) (p : ProgramTree) → Spells m text tokens p → (program p).nesting ≤ n → items_at n (leaves_of m text tokens) ≡ Some (p.items, [])
given n m text tokens p h within =
    items-gives n (leaves_of m text tokens) p.items (record { spelled = h.spelled ∙ sym (append-nil (program p).leaves); levelled = h.levelled; below = omega (arith, within) })

pub tree_is_whole : (m : Mode) (text : List ℕ) (tokens : List Token) (p : ProgramTree) → IsTreeOf m text tokens p → IsWhole m text tokens p
tree_is_whole m text tokens p h = given (nesting_limit m) m text tokens p h.spells h.within

pub have_one_tree : HaveOneTree
have_one_tree m text tokens p q h i =
    let n = max (program p).nesting (program q).nesting in
    let e = given n m text tokens p h (omega arith) in
    let f = given n m text tokens q i (omega arith) in
    ap (λ items. let r : ProgramTree = record { items = items } in r) (same_pair (sym e ∙ f)).0

pub each_tree : (m : Mode) (text : List ℕ) (tokens : List Token) (r : Result ProgramTree ParseFault) → IfOk r (λ p. IsWhole m text tokens p) → IfOk r (λ p. IsTreeOf m text tokens p)
each_tree m text tokens (Ok p) h = whole_is_tree m text tokens p h
each_tree m text tokens (Err f) h = h
