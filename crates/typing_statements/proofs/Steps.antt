-- What each step of a declaration makes, from what its parts give.
use Rattle.std.proofs.Common.{◌≡◌, ◌≢◌, ℕ, suc, Bool, false, is_some, List, [], ◌∷◌, ◌++◌, length, Option, Some, None, Ok, Err, IfOk, OnOk, refl, sym, ap, subst, ◌∙◌}
use Rattle.c_words.specs.declared.word.Leaf.{Leaf}
use Rattle.c_grammar.specs.declared.declaration.Declarator.{Declarator}
use Rattle.c_grammar.specs.declared.declaration.Init.{Init}
use Rattle.c_grammar.specs.declared.declaration.Declared.{Declared as DeclaredTree}
use Rattle.c_grammar.specs.declared.declaration.Declared.TheVariants as tree
use Rattle.step_meaning.specs.declared.value.CType.{CType}
use Rattle.step_meaning.specs.declared.stmt.Stmt.{Stmt}
use Rattle.step_meaning.specs.declared.stmt.Stmt.TheVariants as core
use Rattle.typing_rules.specs.declared.fault.TypeFault.{TypeFault}
use Rattle.typing_rules.specs.declared.fault.TypeFault.TheVariants as fault
use Rattle.typing_rules.specs.Checked.{Checked, ◌>>=◌, Gives}
use Rattle.typing_rules.specs.Environment.{Environment, bytes_in, found_in}
use Rattle.typing_rules.specs.Syntax.{Declared, Initialiser}
use Rattle.typing_rules.specs.Syntax as syntax
use Rattle.typing_rules.specs.TreesOfDeclarations as trees
use Rattle.typing_rules.specs.Declarations.{count_of}
use Rattle.typing_rules.specs.Initialisers.{Cell, local_cells}
use Rattle.typing_rules.specs.Statements as rules
use Rattle.typing_rules.specs.Statements.{Frame, init_statements, innermost}
use Rattle.typing_laws.specs.SmallTypes.{WhereOk, IsSmallType}
use Rattle.typing_declarators.specs.declared.name.DeclaredName.{DeclaredName}
use Rattle.typing_declarators.specs.Names.{declared_type}
use Rattle.typing_declarators.specs.Adding.{Adds, extended}
use Rattle.typing_initialisers.specs.Locals.{inits}
use Rattle.typing_scopes.specs.declared.known.Known.{Known}
use Rattle.typing_scopes.specs.Known.{known, state, frame}
use Rattle.typing_scopes.specs.States.{with_local}
use Rattle.typing_statements.specs.Locals.{local_name, local_type, local_of, MayBeLocal}
use Rattle.typing_statements.specs.Making.{behind, Makes, MakesMore}
use Rattle.typing_statements.specs.Points.{outside, around, frame_at}
use Rattle.typing_statements.proofs.Outcomes.{Made}
use Rattle.typing_statements.proofs.Points.{frame_after}
use Rattle.typing_statements.proofs.Locals.{declare_one_is}

-- ---- results

pub on_ok : {A : Type 0} (r : Checked A) {P Q : Type 0} → (P → Q) → OnOk r P → OnOk r Q
on_ok (Ok a) f h = f h
on_ok (Err e) f h = tt

pub where_given : {A : Type 0} (P : A → Type 0) (m r : Checked A) → WhereOk P m → Gives m r → IfOk r P
where_given P m (Ok a) w g = subst (WhereOk P) g w
where_given P m (Err e) w g = tt

-- what is made by what comes after a step that breaks no rule
pub makes_after : {A : Type 0} (m : Checked A) (k : A → Made) (a : A) (old new : List Stmt) (r : Checked (Unit {0})) (f : Frame) → m ≡ Ok a → MakesMore (k a) old new r f → MakesMore (m >>= k) old new r f
makes_after m k a old new r f h x = subst (λ n. MakesMore (n >>= k) old new r f) (sym h) x

pub then_error : {A B : Type 0} (m : Checked A) (k : A → Checked B) (e : TypeFault) → m ≡ Err e → (m >>= k) ≡ Err e
then_error m k e h = ap (λ n. n >>= k) h

-- ---- types of locals

type_seen : (k : Known) (r base : CType) (d : Declared) → declared_type (known k) (local_name (around (outside k)) d.declarator.name (frame_at k)) (count_of d.initialiser) d.declarator.modifiers base ≡ local_type (around (outside k)) r base d (frame_at k)
unfolding local_type outside around frame_at
type_seen k r base d = refl

pub type_given : (k : Known) (r base : CType) (d : Declared) (x : syntax.Declarator) (leaf : Leaf) (name : DeclaredName) (n : ℕ) (result : Checked CType)
    → d.declarator ≡ x → leaf ≡ x.name → name ≡ local_name (around (outside k)) leaf (frame_at k) → n ≡ count_of d.initialiser
    → Gives (declared_type (known k) name n x.modifiers base) result → Gives (local_type (around (outside k)) r base d (frame_at k)) result
type_given k r base d x leaf name n result a b c e g =
    let same : declared_type (known k) name n x.modifiers base ≡ local_type (around (outside k)) r base d (frame_at k) = rw (c, b, e, sym a) (type_seen k r base d) in
    subst (λ m. Gives m result) same g

pub declared_by : (g : Environment) (r base : CType) (d : Declared) (f after : Frame) (t : CType) (old new : List Stmt) (result : Checked (Unit {0}))
    → local_type g r base d f ≡ Ok t → MakesMore (local_of g r d t f) old new result after → MakesMore (rules.declare_one g r base d f) old new result after
declared_by g r base d f after t old new result h x =
    subst (λ m. MakesMore m old new result after) (sym (declare_one_is g r base d f)) (makes_after (local_type g r base d f) (λ t. local_of g r d t f) t old new result after h x)

pub declared_wrong : (g : Environment) (r base : CType) (d : Declared) (f : Frame) (e : TypeFault) → local_type g r base d f ≡ Err e → rules.declare_one g r base d f ≡ Err e
declared_wrong g r base d f e h = declare_one_is g r base d f ∙ then_error (local_type g r base d f) (λ t. local_of g r d t f) e h

-- ---- the next local

pub same_value : {A : Type 0} (a b : A) → ◌≡◌ {A = Checked A} (Ok a) (Ok b) → a ≡ b
same_value a b h = cc

pub local_made : (k k' : Known) (r : CType) (name : Leaf) (t : CType) (bytes : List ℕ) (result : Checked ℕ) → bytes ≡ bytes_in (known k) name → Gives (Ok (length (frame k).locals)) result
    → OnOk result (state k' ≡ record (state k) { frame = with_local bytes t (frame k) }) → Makes (rules.declared_as (around (outside k)) r name t (frame_at k)) result (frame_at k')
unfolding around outside frame_at
local_made k k' r name t bytes (Ok i) e h a = at (with_local bytes t (frame k)) refl (frame_after k k' (with_local bytes t (frame k)) a)
  where
    at : (f : Frame) → f ≡ with_local bytes t (frame k) → frame_at k' ≡ f → rules.declared_as (around (outside k)) r name t (frame_at k) ≡ Ok (i, frame_at k')
    at f w x = rw (x, w, e) (ap (λ n. Ok (n, with_local (bytes_in (known k) name) t (frame k))) (same_value (length (frame k).locals) i h))
local_made k k' r name t bytes (Err x) e h a = λ q. let never : Ok (length (frame k).locals) ≡ Err x = h q in cc

pub fresh_at : (k : Known) (name : Leaf) (t : CType) (bytes : List ℕ) → bytes ≡ bytes_in (known k) name → MayBeLocal (around (outside k)) name t (frame_at k) → is_some (found_in (innermost (frame k).scopes) bytes) ≡ false
unfolding around outside frame_at
fresh_at k name t bytes e m = ap (λ b. is_some (found_in (innermost (frame k).scopes) b)) e ∙ m.new

pub small_type_at : (k : Known) (name : Leaf) (t : CType) → MayBeLocal (around (outside k)) name t (frame_at k) → IsSmallType (known k).layouts t
unfolding around outside
small_type_at k name t m = m.small

-- ---- initialisers

pub plain_initialiser : (t : DeclaredTree) (x : Declarator) → t ≡ tree.Plain x → (trees.declared t).initialiser ≡ None
unfolding trees.declared
plain_initialiser t x h = rw h refl

pub given_initialiser : (t : DeclaredTree) (x : Declarator) (e : Leaf) (y : Init) → t ≡ tree.Initialised x e y → (trees.declared t).initialiser ≡ Some (trees.init y)
unfolding trees.declared
given_initialiser t x e y h = rw h refl

pub plain_made : (g : Environment) (r : CType) (n : ℕ) (t : CType) (old new : List Stmt) (s : Stmt) (f : Frame) (result : Checked (Unit {0})) → ◌≡◌ {A = Checked Stmt} (Ok core.Empty) (Ok s) → OnOk result (new ≡ old ++ (s ∷ [])) → Gives (Ok tt) result
    → MakesMore (rules.initialised g r n t None f) old new result f
unfolding behind
plain_made g r n t old new s f (Ok u) h a m = rw a (ap (λ x. Ok (old ++ (x ∷ []), f)) (same_value core.Empty s h))
plain_made g r n t old new s f (Err e) h a m = λ q. let never : Ok tt ≡ Err e = m q in cc

inits_any : (g g' : Environment) (r : CType) (n o : ℕ) (cs : List Cell) → init_statements g r n o cs ≡ init_statements g' r n o cs
unfolding init_statements
inits_any g g' r n o [] = refl
inits_any g g' r n o (c ∷ cs) = ap (λ xs. core.Init (rules.local_variable g r n) o c.0 c.1 ∷ xs) (inits_any g g' r n (suc o) cs)

module _ (g g' : Environment) (r : CType) (n : ℕ) (f : Frame) (old new : List Stmt) where
  abbrev placed : Checked (List Stmt) → Made
  placed (Ok xs) = Ok (xs, f)
  placed (Err e) = Err e

  abbrev celled : List Cell → Checked (List Cell × Frame)
  celled cs = Ok (cs, f)

  abbrev started : List Cell × Frame → Made
  started c = Ok (init_statements g' r n 0 c.0, c.1)

  cells_made : (m : Checked (List Cell)) (result : Checked (Unit {0})) → Adds (m >>= (λ cs. Ok (init_statements g r n 0 cs))) old new result → MakesMore ((m >>= celled) >>= started) old new result f
  unfolding behind extended
  cells_made (Ok cs) (Ok u) h = rw (inits_any g' g r n 0 cs) (ap placed h)
  cells_made (Err x) (Ok u) h = cc
  cells_made (Ok cs) (Err e) h = λ q. let never : Ok (init_statements g r n 0 cs) ≡ Err e = h q in cc
  cells_made (Err x) (Err e) h = λ q. ap placed (h q)

pub inits_made : (k : Known) (r : CType) (n : ℕ) (t : CType) (x : Initialiser) (old new : List Stmt) (result : Checked (Unit {0})) → Adds (inits (known k) r n t x) old new result
    → MakesMore (rules.initialised (around (outside k)) r n t (Some x) (frame_at k)) old new result (frame_at k)
unfolding inits around outside frame_at
inits_made k r n t x old new result h = cells_made (known k) (around (outside k)) r n (frame_at k) old new (local_cells (known k) t x) result h

-- ---- a local and its initialiser

pub local_of_made : (g g' : Environment) (r : CType) (d : Declared) (name : Leaf) (t again t' : CType) (f f' : Frame) (i : ℕ) (old new : List Stmt) (result : Checked (Unit {0}))
    → name ≡ d.declarator.name → ◌≡◌ {A = Checked CType} (Ok t) (Ok again) → t' ≡ t → Makes (rules.declared_as g r name again f) (Ok i) f' → g' ≡ g
    → MakesMore (rules.initialised g' r i t' d.initialiser f') old new result f' → MakesMore (local_of g r d t f) old new result f'
unfolding local_of
local_of_made g g' r d name t again t' f f' i old new result a b c m e h =
    let named : rules.declared_as g r d.declarator.name t f ≡ rules.declared_as g r name again f = rw (a, sym (same_value t again b)) refl in
    makes_after (rules.declared_as g r d.declarator.name t f) (λ n. rules.initialised g r n.0 t d.initialiser n.1) (i, f') old new result f' (named ∙ m)
    (subst (λ x. MakesMore (rules.initialised x r i t d.initialiser f') old new result f') e (subst (λ x. MakesMore (rules.initialised g' r i x d.initialiser f') old new result f') c h))
