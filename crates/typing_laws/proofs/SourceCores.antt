-- The core of a parsed text of a source that breaks no rule is that of a source.
use Rattle.std.proofs.Common.{◌≡◌, ℕ, ◌≤◌, true, List, [], Option, Some, None, refl, arith}
use Rattle.std.specs.Prelude.{nat_le}
use Rattle.std.specs.List.{AllByRecursion, list_all}
use Rattle.std.proofs.lemmas.Bool.{le-leb}
use Rattle.c_words.specs.declared.word.Mode.TheVariants as mode
use Rattle.step_meaning.specs.declared.stmt.Stmt.{Stmt}
use Rattle.step_meaning.specs.declared.program.Core.{Core}
use Rattle.step_meaning.specs.declared.program.Declared.{Declared as Named}
use Rattle.step_meaning.specs.declared.program.Function.{Function as CoreFunction}
use Rattle.step_meaning.specs.declared.program.Layout.{Layout}
use Rattle.step_meaning.specs.TermSizes.{type_depth}
use Rattle.step_meaning.specs.WellFormed.{OfBody}
use Rattle.step_meaning.specs.Sources.{is_bare, calls_are_short, full_nesting, have_source_types, IsSourceFunction}
use Rattle.step_meaning.proofs.Ranges.{and_true}
use Rattle.typing_rules.specs.declared.fault.TypeFault.TheVariants.{NoMain, TooLarge}
use Rattle.typing_rules.specs.Checked.{kept, unless}
use Rattle.typing_rules.specs.Syntax.{Item}
use Rattle.typing_rules.specs.FileScope.{Program}
use Rattle.typing_rules.specs.Programs.{items, start, nowhere, is_too_large, core_of, main_of, whole, elaborated}
use Rattle.typing_laws.specs.SmallTypes.{WhereOk}
use Rattle.typing_laws.specs.ShallowSyntax.{ItemsShallow}
use Rattle.typing_laws.specs.Soundness.{CoresAreSources}
use Rattle.typing_laws.proofs.CheckedValues.{then_holds, then_known, where_ok}
use Rattle.typing_laws.proofs.EachOf.{each_weaker, each_all}
use Rattle.typing_laws.proofs.PlainObjects.{IsShallowType, ShallowMembers}
use Rattle.typing_laws.proofs.PlainPrograms.{NamedShallow, PlainStatement, PlainBody, PlainFunction, PlainProgram, items_plain, library_plain}
use Rattle.typing_laws.proofs.FormedCores.{cores_formed}

-- ---- types

type_below : (n d : ℕ) → n ≤ 99 → d ≤ n → nat_le d 99 ≡ true
type_below n d l h = le-leb d 99 (omega arith)

named_below : (ds : List Named) → NamedShallow ds → have_source_types ds ≡ true
named_below ds h = each_all (λ d. nat_le (type_depth d.ctype) 99) ds (each_weaker (λ d. IsShallowType 65 d.ctype) (λ d. nat_le (type_depth d.ctype) 99 ≡ true) ds (λ d k. type_below 65 (type_depth d.ctype) (omega arith) k) h)

members_below : (ls : List Layout) → ShallowMembers ls → list_all (λ l. have_source_types l.members) ls ≡ true
members_below ls h = each_all (λ l. have_source_types l.members) ls (each_weaker (λ l. NamedShallow l.members) (λ l. have_source_types l.members ≡ true) ls (λ l k. named_below l.members k) h)

-- ---- functions

body_bare : (b : Option (List Stmt)) → PlainBody b → OfBody (λ ss. list_all is_bare ss ≡ true) b
body_bare None h = tt
body_bare (Some ss) h = each_all is_bare ss (each_weaker PlainStatement (λ s. is_bare s ≡ true) ss (λ s k. k.bare) h)

body_short : (b : Option (List Stmt)) → PlainBody b → OfBody (λ ss. list_all calls_are_short ss ≡ true) b
body_short None h = tt
body_short (Some ss) h = each_all calls_are_short ss (each_weaker PlainStatement (λ s. calls_are_short s ≡ true) ss (λ s k. k.short) h)

body_nested : (b : Option (List Stmt)) → PlainBody b → OfBody (λ ss. list_all (λ s. nat_le (full_nesting 1 s) 500) ss ≡ true) b
body_nested None h = tt
body_nested (Some ss) h = each_all (λ s. nat_le (full_nesting 1 s) 500) ss (each_weaker PlainStatement (λ s. nat_le (full_nesting 1 s) 500 ≡ true) ss (λ s k. le-leb (full_nesting 1 s) 500 k.nested) h)

source_function : (f : CoreFunction) → PlainFunction f → IsSourceFunction f
source_function f h = record {
  registers = h.registers;
  ghosts = h.ghosts;
  types = and_true (type_below 66 (type_depth f.result) (omega arith) h.result) (named_below f.locals h.locals);
  bare = body_bare f.body h.body;
  short_calls = body_short f.body h.body;
  nesting = body_nested f.body h.body;
}

-- ---- cores

-- what a core keeps besides being well formed
record HasNoMore (q : Core) : Type 0 where
  ghosts : q.ghosts ≡ []
  struct_types : list_all (λ l. have_source_types l.members) q.layouts ≡ true
  global_types : have_source_types q.globals ≡ true
  functions : AllByRecursion IsSourceFunction q.functions

core_plain : (p : Program) (n : ℕ) → PlainProgram p → HasNoMore (core_of p n)
core_plain p n h = record {
  ghosts = refl;
  struct_types = members_below p.layouts h.members;
  global_types = named_below p.globals h.globals;
  functions = each_weaker PlainFunction IsSourceFunction p.functions source_function h.functions;
}

whole_plain : (all : List Item) (p : Program) → PlainProgram p → WhereOk HasNoMore (whole all p)
unfolding whole
whole_plain all p h =
    then_known HasNoMore (kept (NoMain nowhere) (main_of p)) _ (λ n e.
    then_known HasNoMore (unless (is_too_large all p) (TooLarge nowhere)) _ (λ u i. core_plain p n h))

start_plain : (text : List ℕ) (all : List Item) → PlainProgram (start mode.Source text all)
start_plain text all = record { source = refl; members = tt; globals = tt; functions = library_plain }

elaborated_plain : (text : List ℕ) (all : List Item) → ItemsShallow all → WhereOk HasNoMore (elaborated mode.Source text all)
unfolding elaborated
elaborated_plain text all h = then_holds PlainProgram HasNoMore (items all (start mode.Source text all)) _ (items_plain all (start mode.Source text all) h (start_plain text all)) (λ p k. whole_plain all p k)

pub cores_are_sources : CoresAreSources
cores_are_sources text all q c h e =
    let more : HasNoMore q = where_ok HasNoMore (elaborated mode.Source text all) q e (elaborated_plain text all h) in
    record {
      well_formed = cores_formed mode.Source text all q c e;
      ghosts = more.ghosts;
      struct_types = more.struct_types;
      global_types = more.global_types;
      functions = more.functions;
    }
