-- Declarations in a function: the parser gives a tree exactly where one stands.
use Rattle.std.proofs.Common.{◌≡◌, ℕ, ◌<◌, Bool, true, false, ◌||◌, List, [], ◌∷◌, Some, refl, ◌∙◌, ⊎_elim, arith}
use Rattle.c_words.specs.declared.word.Word.{Word}
use Rattle.c_words.specs.declared.word.Word.TheVariants as w
use Rattle.c_words.specs.declared.word.Leaf.{Leaf}
use Rattle.c_words.specs.declared.chain.Chain.{Chain}
use Rattle.c_grammar.specs.declared.types.Base.{Base}
use Rattle.c_grammar.specs.declared.declaration.Declared.{Declared}
use Rattle.c_grammar.specs.declared.statement.Local.{Local}
use Rattle.c_grammar.specs.declared.statement.Local.TheVariants as l
use Rattle.c_words.specs.Words.{same}
use Rattle.c_words.specs.Written.{Written, ◌then◌, one, one_of, run, Takes}
use Rattle.c_grammar.specs.Types.{consts, base}
use Rattle.c_grammar.specs.Declarations.{all_declared}
use Rattle.c_grammar.specs.Statements.{local}
use Rattle.c_words.specs.Parsing.{Leaves, word_at, take_if, expect}
use Rattle.c_words.proofs.Taking.{nothing-Takes, Takes-then, then-Takes}
use Rattle.c_words.proofs.Reading.{bind_ok, gives_bind, chosen, choose, refuse_test, Sound, Complete, Starts, take_if-takes, take_if-gives, take_if-word, finish, at_word, at_one, word_is}
use Rattle.c_type_names.specs.TypeReading as types
use Rattle.c_type_names.specs.TypeReading.{begins_type, goes_on_base}
use Rattle.c_declarations.specs.DeclaratorReading.{begins_declarator}
use Rattle.c_declarations.specs.DeclaredReading as declared
use Rattle.c_declarations.specs.DeclaredReading.{goes_on_declared}
use Rattle.c_statements.specs.StatementReading as read
use Rattle.c_statements.specs.StatementReading.{begins_local}
use Rattle.c_statements.proofs.Deep.{deep-takes, deep_gives}
use Rattle.c_type_names.proofs.TypeLaws.{base-Sound, base-Complete, base-Starts, consts-Sound, consts-Complete}
use Rattle.c_declarations.proofs.DeclaredLaws.{all_declared-Sound, all_declared-Complete, all_declared-Starts}

-- what is declared, and the `;`
abbrev names_of : Chain Declared × Leaf → Written
names_of a = all_declared a.0 then one w.Semicolon a.1

-- ---- soundness

module _ (k : ℕ) (some : 0 < k) where
  took : (test : Word → Bool) (ts : Leaves) (t : Leaf) (rest : Leaves) → take_if test ts ≡ Some (t, rest) → Takes k ts (one_of test t) rest
  took = take_if-takes k some

  names-takes : (ts : Leaves) (a : Chain Declared × Leaf) (rest : Leaves) → read.names k ts ≡ Some (a, rest) → Takes k ts (names_of a) rest
  unfolding read.names
  names-takes ts a rest h =
      let n = bind_ok (declared.all_declared k ts) _ a rest h in
      let z = bind_ok (expect w.Semicolon n.mid) _ a rest n.second in
      finish names_of refl z.second (Takes-then ((all_declared-Sound k).takes _ _ _ n.first) (took _ _ _ _ z.first))

  registers-takes : (ts : Leaves) (a : Local) (rest : Leaves) → read.registers k ts ≡ Some (a, rest) → Takes k ts (local a) rest
  unfolding read.registers local
  registers-takes ts a rest h =
      let g = bind_ok (expect w.Register ts) _ a rest h in
      let x = bind_ok (types.base g.mid) _ a rest g.second in
      let n = bind_ok (read.names k x.mid) _ a rest x.second in
      finish local refl n.second (Takes-then (took _ _ _ _ g.first) (Takes-then ((base-Sound k some).takes _ _ _ x.first) (names-takes _ _ _ n.first)))

  variables-takes : (ts : Leaves) (a : Local) (rest : Leaves) → read.variables k ts ≡ Some (a, rest) → Takes k ts (local a) rest
  unfolding read.variables local
  variables-takes ts a rest h =
      let c = bind_ok (types.consts ts) _ a rest h in
      let x = bind_ok (types.base c.mid) _ a rest c.second in
      let n = bind_ok (read.names k x.mid) _ a rest x.second in
      finish local refl n.second
      (Takes-then ((consts-Sound k some).takes _ _ _ c.first) (Takes-then ((base-Sound k some).takes _ _ _ x.first) (names-takes _ _ _ n.first)))

pub local-Sound : (k : ℕ) → Sound k (read.local k) local
unfolding read.local
local-Sound k = record {
  takes = λ ts a rest h.
      let d = deep-takes k _ ts a rest h in
      ⊎_elim (λ q. registers-takes k d.0 ts a rest q.1) (λ q. variables-takes k d.0 ts a rest q.1) (chosen (same w.Register (word_at ts)) _ _ ts _ d.1);
}

-- ---- completeness

type_not_const : (x : Word) → begins_type x ≡ true → same w.Const x ≡ false
type_not_const w.Const h = cc
type_not_const _ h = refl

declarator_after_base : (x : Word) → begins_declarator x ≡ true → goes_on_base x ≡ false
declarator_after_base w.Name h = refl
declarator_after_base w.LeftParen h = refl
declarator_after_base w.Star h = refl
declarator_after_base _ h = cc

-- what a declaration without `register` begins with
abbrev begins_variables : Word → Bool
begins_variables x = same w.Const x || begins_type x

pub or_right : (a b : Bool) → b ≡ true → (a || b) ≡ true
or_right true b h = refl
or_right false b h = h

-- a base, with any number of `const` before it
consts_begin : (cs : List Leaf) {k : ℕ} {ts mid : Leaves} → Takes k ts (consts cs) mid → begins_type (word_at mid) ≡ true → begins_variables (word_at ts) ≡ true
unfolding run
consts_begin [] h next = rw (nothing-Takes h) (or_right _ _ next)
consts_begin (c ∷ cs) h next = rw (word_is w.Const c (then-Takes h).first) refl

variables_no_register : (x : Word) → begins_variables x ≡ true → same w.Register x ≡ false
variables_no_register w.Register h = cc
variables_no_register _ h = refl

begins : (k : ℕ) (ts : Leaves) (a : Local) (rest : Leaves) → Takes k ts (local a) rest → begins_local (word_at ts) ≡ true
unfolding local
begins k ts (l.Registers register x names semicolon) rest h = rw (word_is w.Register register (then-Takes h).first) refl
begins k ts (l.Variables cs x names semicolon) rest h =
    let s = then-Takes h in
    let t = then-Takes s.second in
    or_right _ _ (consts_begin cs s.first (base-Starts.word k s.mid x t.mid t.first))

pub local-Starts : Starts local begins_local
local-Starts = record { word = begins }

module _ (k : ℕ) where
  names-gives : (names : Chain Declared) (semicolon : Leaf) (ts rest : Leaves) → Takes k ts (all_declared names then one w.Semicolon semicolon) rest
      → read.names k ts ≡ Some ((names, semicolon), rest)
  unfolding read.names
  names-gives names semicolon ts rest h =
      let n = then-Takes h in
      gives_bind _ ((all_declared-Complete k).gives ts names n.mid n.first (at_one w.Semicolon semicolon n.second refl))
      (gives_bind _ (take_if-gives (same w.Semicolon) semicolon n.second) refl)

  base-gives : (x : Base) (names : Chain Declared) (semicolon : Leaf) (ts mid rest : Leaves) → Takes k ts (base x) mid → Takes k mid (all_declared names then one w.Semicolon semicolon) rest
      → types.base ts ≡ Some (x, mid)
  base-gives x names semicolon ts mid rest h next =
      let n = then-Takes next in
      (base-Complete k).gives ts x mid h (at_word begins_declarator declarator_after_base (all_declared-Starts.word k mid names n.mid n.first))

  local_gives : (ts : Leaves) (a : Local) (rest : Leaves) → 0 < k → Takes k ts (local a) rest → read.local k ts ≡ Some (a, rest)
  unfolding read.local read.registers read.variables local
  local_gives ts (l.Registers register x names semicolon) rest some h =
      let s = then-Takes h in
      let t = then-Takes s.second in
      deep_gives k _ ts some
      ∙ choose (same w.Register (word_at ts)) _ _ ts (take_if-word (same w.Register) register s.first)
      ∙ gives_bind _ (take_if-gives (same w.Register) register s.first)
      (gives_bind _ (base-gives x names semicolon s.mid t.mid rest t.first t.second) (gives_bind _ (names-gives names semicolon t.mid rest t.second) refl))
  local_gives ts (l.Variables cs x names semicolon) rest some h =
      let s = then-Takes h in
      let t = then-Takes s.second in
      let base_there = base-Starts.word k s.mid x t.mid t.first in
      deep_gives k _ ts some
      ∙ refuse_test (same w.Register (word_at ts)) _ _ ts (variables_no_register (word_at ts) (consts_begin cs s.first base_there))
      ∙ gives_bind _ ((consts-Complete k).gives ts cs s.mid s.first (at_word begins_type type_not_const base_there))
      (gives_bind _ (base-gives x names semicolon s.mid t.mid rest t.first t.second) (gives_bind _ (names-gives names semicolon t.mid rest t.second) refl))

-- a declaration has an end of its own
pub local-Complete : (k : ℕ) → Complete k (read.local k) local (λ x. false)
local-Complete k = record { gives = λ ts a rest h end. local_gives k ts a rest (omega (arith, h.below)) h }
