-- Declarations and parts of blocks, one after another.
use Rattle.std.proofs.Common.{◌≡◌, ◌≢◌, ℕ, ◌+◌, ◌<◌, ◌≤◌, Bool, true, List, [], ◌∷◌, ◌++◌, length, get_or, drop, map, Ok, Err, refl, sym, ap, subst, ◌∙◌}
use Rattle.std.proofs.lemmas.List.{drop_more, drop_all}
use Rattle.c_words.specs.declared.chain.Chain.{Chain}
use Rattle.c_words.specs.declared.chain.Link.{Link}
use Rattle.c_grammar.specs.declared.types.Specifier.{Specifier}
use Rattle.c_grammar.specs.declared.declaration.Declared.{Declared as DeclaredTree}
use Rattle.c_grammar.specs.declared.statement.BlockPart.{BlockPart}
use Rattle.step_meaning.specs.declared.value.CType.{CType}
use Rattle.step_meaning.specs.declared.stmt.Stmt.{Stmt}
use Rattle.typing_rules.specs.declared.fault.TypeFault.{TypeFault}
use Rattle.typing_rules.specs.Checked.{Checked, ◌>>=◌}
use Rattle.typing_rules.specs.Environment.{Environment, specified}
use Rattle.typing_rules.specs.Syntax.{Declared}
use Rattle.typing_rules.specs.TreesOfDeclarations as trees
use Rattle.typing_rules.specs.Statements.{Frame, declare, declare_one, declare_all}
use Rattle.typing_laws.specs.SmallTypes.{WhereOk}
use Rattle.typing_declarators.specs.Types.{is_specified}
use Rattle.typing_scopes.specs.declared.known.Known.{Known}
use Rattle.typing_scopes.specs.Known.{known}
use Rattle.typing_statements.specs.Blocks.{part_made}
use Rattle.typing_statements.specs.Locals.{declared_in, spelled_local}
use Rattle.typing_statements.specs.Making.{behind, joined}
use Rattle.typing_statements.specs.Points.{outside, around, frame_at}
use Rattle.typing_statements.proofs.Outcomes.{Made, behind_joined, behind_end, behind_error, joined_error, error_of}
use Rattle.typing_statements.proofs.Locals.{declare_all_next, declare_all_end, specified_is}
use Rattle.typing_statements.proofs.Blocks.{parts_made, parts_next, parts_end}
use Rattle.typing_statements.proofs.Steps.{then_error}

-- ---- what goes on, part by part

module _ {P : Type 0} (all : List P → Frame → Made) (one : P → Frame → Made) (next : (p : P) (ps : List P) (f : Frame) → all (p ∷ ps) f ≡ joined (one p f) (all ps)) (end : (f : Frame) → all [] f ≡ Ok ([], f)) where
  pub part_gone : (whole : Made) (p : P) (ps : List P) (f after : Frame) (old new : List Stmt) → whole ≡ behind old (all (p ∷ ps) f) → behind old (one p f) ≡ Ok (new, after) → whole ≡ behind new (all ps after)
  part_gone whole p ps f after old new h x = h ∙ ap (behind old) (next p ps f) ∙ behind_joined old new after (one p f) (all ps) x

  pub part_wrong : (first : List Stmt) (m : Made) (p : P) (ps : List P) (f : Frame) (old : List Stmt) (e : TypeFault) → behind first m ≡ behind old (all (p ∷ ps) f) → one p f ≡ Err e → m ≡ Err e
  part_wrong first m p ps f old e h x = error_of first e m (h ∙ behind_error old e (all (p ∷ ps) f) (next p ps f ∙ joined_error e (one p f) (all ps) x))

  pub parts_gone : (whole : Made) (f : Frame) (old : List Stmt) → whole ≡ behind old (all [] f) → whole ≡ Ok (old, f)
  parts_gone whole f old h = h ∙ ap (behind old) (end f) ∙ behind_end old f

-- ---- declarations

abbrev pub links_declared : List (Link DeclaredTree) → List Declared
links_declared ls = map trees.declared (map (λ (l : Link DeclaredTree). l.operand) ls)

pub declared_in_is : (c : Chain DeclaredTree) → declared_in c ≡ trees.declared c.first ∷ links_declared c.rest
unfolding trees.operands
declared_in_is c = refl

pub links_next : (ls : List (Link DeclaredTree)) (i : ℕ) (l : Link DeclaredTree) → i < length ls → l ≡ get_or ls i l → links_declared (drop i ls) ≡ trees.declared l.operand ∷ links_declared (drop (i + 1) ls)
links_next ls i l below at = ap links_declared (drop_more ls i l below) ∙ ap (λ x. trees.declared x.operand ∷ links_declared (drop (i + 1) ls)) (sym at)

pub links_past : (ls : List (Link DeclaredTree)) (i : ℕ) → length ls ≤ i → links_declared (drop i ls) ≡ []
links_past ls i past = ap links_declared (drop_all i ls past)

module _ (g : Environment) (r base : CType) where
  abbrev all_of : List Declared → Frame → Made
  all_of ds f = declare_all g r base ds f

  abbrev one_of : Declared → Frame → Made
  one_of d f = declare_one g r base d f

  pub declared_gone : (g' : Environment) (whole : Made) (d : Declared) (ds : List Declared) (f after : Frame) (old new : List Stmt) → g' ≡ g → whole ≡ behind old (declare_all g r base (d ∷ ds) f) → behind old (declare_one g' r base d f) ≡ Ok (new, after)
      → whole ≡ behind new (declare_all g r base ds after)
  declared_gone g' whole d ds f after old new e h x =
      part_gone all_of one_of (declare_all_next g r base) (declare_all_end g r base) whole d ds f after old new h (subst (λ y. behind old (declare_one y r base d f) ≡ Ok (new, after)) e x)

  pub declared_wrong_after : (g' : Environment) (first : List Stmt) (m : Made) (d : Declared) (ds : List Declared) (f : Frame) (old : List Stmt) (e : TypeFault) → g' ≡ g → behind first m ≡ behind old (declare_all g r base (d ∷ ds) f) → declare_one g' r base d f ≡ Err e → m ≡ Err e
  declared_wrong_after g' first m d ds f old e s h x =
      part_wrong all_of one_of (declare_all_next g r base) (declare_all_end g r base) first m d ds f old e h (subst (λ y. declare_one y r base d f ≡ Err e) s x)

  pub declared_end : (whole : Made) (f : Frame) (old : List Stmt) → whole ≡ behind old (declare_all g r base [] f) → whole ≡ Ok (old, f)
  declared_end whole f old h = parts_gone all_of one_of (declare_all_next g r base) (declare_all_end g r base) whole f old h

-- ---- parts of blocks

pub block_next : (ps : List BlockPart) (i : ℕ) (p : BlockPart) → i < length ps → p ≡ get_or ps i p → drop i ps ≡ p ∷ drop (i + 1) ps
block_next ps i p below at = drop_more ps i p below ∙ ap (λ x. x ∷ drop (i + 1) ps) (sym at)

pub block_past : (ps : List BlockPart) (i : ℕ) → length ps ≤ i → drop i ps ≡ []
block_past ps i past = drop_all i ps past

module _ (g : Environment) (r : CType) (loop : Bool) where
  abbrev all_parts : List BlockPart → Frame → Made
  all_parts ps f = parts_made g r loop ps f

  abbrev one_part : BlockPart → Frame → Made
  one_part p f = part_made g r loop p f

  pub block_gone : (g' : Environment) (whole : Made) (p : BlockPart) (ps : List BlockPart) (f after : Frame) (old new : List Stmt) → g' ≡ g → whole ≡ behind old (parts_made g r loop (p ∷ ps) f) → behind old (part_made g' r loop p f) ≡ Ok (new, after)
      → whole ≡ behind new (parts_made g r loop ps after)
  block_gone g' whole p ps f after old new e h x =
      part_gone all_parts one_part (parts_next g r loop) (parts_end g r loop) whole p ps f after old new h (subst (λ y. behind old (part_made y r loop p f) ≡ Ok (new, after)) e x)

  pub block_wrong : (g' : Environment) (first : List Stmt) (m : Made) (p : BlockPart) (ps : List BlockPart) (f : Frame) (old : List Stmt) (e : TypeFault) → g' ≡ g → behind first m ≡ behind old (parts_made g r loop (p ∷ ps) f) → part_made g' r loop p f ≡ Err e → m ≡ Err e
  block_wrong g' first m p ps f old e s h x =
      part_wrong all_parts one_part (parts_next g r loop) (parts_end g r loop) first m p ps f old e h (subst (λ y. part_made y r loop p f ≡ Err e) s x)

  pub block_end : (whole : Made) (f : Frame) (old : List Stmt) → whole ≡ behind old (parts_made g r loop [] f) → whole ≡ Ok (old, f)
  block_end whole f old h = parts_gone all_parts one_part (parts_next g r loop) (parts_end g r loop) whole f old h

-- ---- a declaration with its specifier

pub declare_is : (k : Known) (r : CType) (x : Specifier) (c : Chain DeclaredTree)
    → declare (around (outside k)) r (spelled_local x c) (frame_at k) ≡ (specified (known k) x >>= (λ b. declare_all (around (outside k)) r b (declared_in c) (frame_at k)))
unfolding declare around outside frame_at
declare_is k r x c = by (specified (known k) x)
  where
    first : CType → Checked (CType × Frame)
    first b = Ok (b, frame_at k)

    by : (m : Checked CType) → ((m >>= first) >>= (λ p. declare_all (around (outside k)) r p.0 (declared_in c) p.1)) ≡ (m >>= (λ b. declare_all (around (outside k)) r b (declared_in c) (frame_at k)))
    by (Ok b) = refl
    by (Err e) = refl

pub declare_wrong : (k : Known) (r : CType) (x : Specifier) (c : Chain DeclaredTree) (e : TypeFault) → specified (known k) x ≡ Err e → declare (around (outside k)) r (spelled_local x c) (frame_at k) ≡ Err e
declare_wrong k r x c e h = declare_is k r x c ∙ then_error (specified (known k) x) (λ b. declare_all (around (outside k)) r b (declared_in c) (frame_at k)) e h

pub base_specified : (g : Environment) (x : Specifier) (b t : CType) → specified g x ≡ Ok b → t ≡ b → is_specified t ≡ true
base_specified g x b t h e = ap is_specified e ∙ subst (WhereOk (λ t. is_specified t ≡ true)) h (specified_is g x)
