-- The start of a text.
use Rattle.std.proofs.Common.{◌≡◌, ℕ, zero, suc, ◌+◌, ◌<◌, List, [], ◌∷◌, ◌++◌, map, drop, get_or, length, Option, Some, None, Ok, refl, sym, ap, subst, ◌∙◌, append_assoc, append-nil, arith}
use Rattle.c_words.specs.declared.word.Leaf.{Leaf}
use Rattle.c_words.specs.declared.word.Mode.{Mode}
use Rattle.c_grammar.specs.declared.program.Item.{Item}
use Rattle.c_grammar.specs.declared.program.ProgramTree.{ProgramTree}
use Rattle.step_meaning.specs.declared.value.CType.{CType}
use Rattle.step_meaning.specs.declared.value.CType.TheVariants.{Void, Pointer}
use Rattle.step_meaning.specs.Library.{void_pointer}
use Rattle.typing_rules.specs.Checked.{Checked, Gives}
use Rattle.typing_rules.specs.Syntax as syntax
use Rattle.typing_rules.specs.Programs.{body_names, library, start}
use Rattle.typing_rules.specs.TreesOfDeclarations as trees
use Rattle.typing_operands.proofs.Pointers.{pointer-Pointer}
use Rattle.typing_laws.proofs.SmallPrograms.{start_small}
use Rattle.typing_scopes.specs.declared.known.Known.{Known}
use Rattle.typing_scopes.specs.Known.{state}
use Rattle.typing_scopes.specs.States.{State, no_frame}
use Rattle.typing_files.specs.Points.{IsSteady, IsAtFile}
use Rattle.c_types.specs.Starts.{unknown, with_bodies, body_name, names_in}

pub void_given : (r : Checked CType) → Gives (Ok (Pointer Void)) r → Gives (Ok void_pointer) r
void_given r h = subst (λ (t : CType). Gives (Ok t) r) (sym (pointer-Pointer Void)) h

-- ---- functions with bodies

one_first : (text : List ℕ) (x : syntax.Item) (xs : List syntax.Item) → body_names text (x ∷ xs) ≡ body_names text (x ∷ []) ++ body_names text xs
one_first text (syntax.Struct tag ms ds) xs = refl
one_first text (syntax.Variables x ds) xs = refl
one_first text (syntax.Function r t ps None) xs = refl
one_first text (syntax.Function r t ps (Some b)) xs = refl
one_first text (syntax.Meta t) xs = refl
one_first text (syntax.GhostVariable t) xs = refl

pub function_names : (text : List ℕ) (r : syntax.Spelled) (t : Leaf) (ps : List syntax.Parameter) (body : Option syntax.Statements) → body_name text t body ≡ body_names text (syntax.Function r t ps body ∷ [])
function_names text r t ps None = refl
function_names text r t ps (Some b) = refl

pub no_names : (s : State) (names : List (List ℕ)) → names ≡ [] → s ≡ record s { program = with_bodies names s.program }
no_names s names e = ap (λ bs. record s { program = record s.program { bodies = bs } }) (sym (append-nil s.program.bodies)) ∙ ap (λ ns. record s { program = with_bodies ns s.program }) (sym e)

pub bodies_step : (s s' : State) (text : List ℕ) (t : Item) (rest : List Item) → s' ≡ record s { program = with_bodies (names_in text (t ∷ [])) s.program } → record s { program = with_bodies (names_in text (t ∷ rest)) s.program } ≡ record s' { program = with_bodies (names_in text rest) s'.program }
bodies_step s s' text t rest e =
    ap (λ names. record s { program = with_bodies names s.program }) (one_first text (trees.item t) (map trees.item rest))
    ∙ ap (λ bs. record s { program = record s.program { bodies = bs } }) (sym (append_assoc s.program.bodies (names_in text (t ∷ [])) (names_in text rest)))
    ∙ ap (λ (z : State). record z { program = with_bodies (names_in text rest) z.program }) (sym e)

pub item_here : (ts : List Item) (n : ℕ) (t : Item) → n < length ts → t ≡ get_or ts n t → drop n ts ≡ t ∷ drop (n + 1) ts
item_here ts n t h e = at ts n t h ∙ ap (λ x. x ∷ drop (suc n) ts) (sym e) ∙ ap (λ m. t ∷ drop m ts) (next n)
  where
    next : (n : ℕ) → suc n ≡ n + 1
    next n = omega arith

    at : (ts : List Item) (n : ℕ) (t : Item) → n < length ts → drop n ts ≡ get_or ts n t ∷ drop (suc n) ts
    at [] n t h = absurd (omega arith)
    at (x ∷ ts) zero t h = refl
    at (x ∷ ts) (suc n) t h = at ts n t (omega arith)

-- ---- before the first item

pub started : (m : Mode) (text : List ℕ) (tree : ProgramTree) (s s' s'' : State) (ts : List Item) → s ≡ record { program = unknown m text; tags = []; frame = no_frame } → ts ≡ tree.items → s' ≡ record s { program = with_bodies (names_in s.program.text ts) s.program } → s'' ≡ record s' { program = record s'.program { functions = library } } → s'' ≡ record { program = start m text (trees.program tree); tags = []; frame = no_frame }
unfolding trees.program
started m text tree s s' s'' ts new trees_are bodies functions =
    functions ∙ ap (λ (z : State). record z { program = record z.program { functions = library } }) (bodies ∙ ap (λ ts. record s { program = with_bodies (names_in s.program.text ts) s.program }) trees_are ∙ ap (λ (z : State). record z { program = with_bodies (names_in z.program.text tree.items) z.program }) new)

pub start_at : (k : Known) (m : Mode) (text : List ℕ) (all : List syntax.Item) → state k ≡ record { program = start m text all; tags = []; frame = no_frame } → IsAtFile k
start_at k m text all e = record {
  tags = ap (λ s. s.tags) e ∙ ap (λ s. map (λ l. l.tag) s.program.layouts) (sym e);
  frame = ap (λ s. s.frame) e;
  steady = subst IsSteady (ap (λ s. s.program) (sym e)) (record { small = start_small m text all; structs = refl; globals = tt; names = refl });
}
