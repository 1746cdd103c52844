-- Laws on the text of a program.
use Rattle.std.proofs.Common.{◌≡◌, ℕ, List, [], ◌∷◌, ◌++◌, map, Result, Ok, Err, OnOk, refl, ap, ◌∙◌, sym, append_assoc, append-nil}
use Rattle.std.proofs.lemmas.Simd.{map-map}
use Rattle.std.specs.String.{string_bytes}
use Rattle.c_parser.specs.declared.first_form.tree.FirstFunction.{FirstFunction}
use Rattle.c_parser.specs.FirstForm.Program.{Function, Program, function_of}
use Rattle.c_parser.specs.FirstForm.Spelling.{name_at, names_of}
use Rattle.weave_cli.specs.FirstForm.Layout.{function_text, others_text, main_text, functions_text}

-- the functions before the last, and the last, which is `main`
pub functions_text-append : (p : Program) (fs : List Function) (f : Function) → functions_text p (fs ++ f ∷ []) ≡ others_text p fs ++ main_text p f
functions_text-append p [] f = refl
functions_text-append p (g ∷ []) f = ap (λ t. t ++ main_text p f) (sym (append-nil (function_text p g)))
functions_text-append p (g ∷ h ∷ fs) f = ap (λ t. function_text p g ++ t) (functions_text-append p (h ∷ fs) f) ∙ sym (append_assoc (function_text p g) (others_text p (h ∷ fs)) (main_text p f))

map_function-append : (fs : List FirstFunction) (f : FirstFunction) → map function_of (fs ++ f ∷ []) ≡ map function_of fs ++ function_of f ∷ []
map_function-append [] f = refl
map_function-append (g ∷ fs) f = ap (λ t. function_of g ∷ t) (map_function-append fs f)

pub functions_text-split : (p : Program) (all fs : List FirstFunction) (f : FirstFunction) → all ≡ fs ++ f ∷ []
    → functions_text p (map function_of all) ≡ others_text p (map function_of fs) ++ main_text p (function_of f)
functions_text-split p all fs f e = ap (λ gs. functions_text p (map function_of gs)) e ∙ ap (functions_text p) (map_function-append fs f) ∙ functions_text-append p (map function_of fs) (function_of f)

-- two pieces, one after the other
pub joined : {E : Type 0} (r : Result (Unit {0}) E) (new middle old a b all : List ℕ) → OnOk r (new ≡ middle ++ b) → middle ≡ old ++ a → all ≡ a ++ b → OnOk r (new ≡ old ++ all)
joined (Ok u) new middle old a b all h e g = h ∙ ap (λ t. t ++ b) e ∙ append_assoc old a b ∙ ap (λ t. old ++ t) (sym g)
joined (Err x) new middle old a b all h e g = tt

pub function_named : (fs : List FirstFunction) (i : ℕ) (name : List ℕ) → name ≡ name_at (map (λ g. string_bytes g.name) fs) i → name ≡ name_at (names_of (map function_of fs)) i
function_named fs i name e = rw map-map e
