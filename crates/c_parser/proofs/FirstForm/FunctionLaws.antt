-- Functions and main, both ways.
use Rattle.std.proofs.Common.{◌≡◌, ℕ, ◌+◌, true, false, List, [], ◌∷◌, ◌++◌, length, map, Some, refl, sym, ap, subst, ◌∙◌, append_assoc, append-nil, arith}
use Rattle.std.specs.Prelude.{codes}
use Rattle.std.specs.List.{AllByRecursion, flat_map}
use Rattle.c_parser.specs.declared.first_form.fixed.Fixed.TheVariants as fixed
use Rattle.c_words.specs.declared.word.Mode.{Mode}
use Rattle.c_parser.specs.FirstForm.Program.{Function}
use Rattle.c_parser.specs.FirstForm.Spelling.{Word, names_of, statement_words, function_words, main_words, named, keyword, mark, number as number_word}
use Rattle.c_parser.specs.FirstForm.Texts.{StatementFits}
use Rattle.c_parser.specs.FirstForm.FixedWords.{is_fixed, fixed_word}
use Rattle.c_parser.specs.FirstForm.Reading.{Left, Parser, take_word, is_at, expect, expect_all, name, new_name, spend, body, body_goes_on, function_rest, function, functions, main_function, many}
use Rattle.c_parser.proofs.FirstForm.Taking.{Takes, ◌then◌, before, bind_ok, gives_bind, same_pair, expect-takes, expect_all-takes, spend-takes, spend-gives}
use Rattle.c_parser.proofs.FirstForm.NameLaws.{AreDistinct}
use Rattle.c_parser.proofs.FirstForm.NewNames.{IsNew, new_name-is, AreDistinct-push}
use Rattle.std.proofs.lemmas.List.{map-append}
use Rattle.c_parser.proofs.FirstForm.Many.{total, all_written, AllFit, More, many_from-sound, many_from-complete}
use Rattle.c_parser.proofs.FirstForm.BodyLaws.{taken_as, body-is, body-gives}

-- a function that may stand after these
pub record FunctionFits (m : Mode) (globals earlier : List (List ℕ)) (f : Function) : Type 0 where
  pub new : IsNew (globals ++ earlier) f.name
  pub body : AllByRecursion (StatementFits m (length globals) (length earlier)) f.body

abbrev pub function_cost : Function → ℕ
function_cost f = 1 + length f.body

brace_ends : (ws : List Word) → body_goes_on (mark (codes "}") ∷ ws) ≡ false
unfolding body_goes_on is_at is_fixed
brace_ends ws = refl

return_ends : (ws : List Word) → body_goes_on (keyword (codes "return") ∷ ws) ≡ false
unfolding body_goes_on is_at is_fixed
return_ends ws = refl

module _ (m : Mode) (globals earlier : List (List ℕ)) where
  function_rest-is : (x : List ℕ) (s rest : Left) (f : Function) → function_rest m (length globals) (globals ++ earlier) x s ≡ Some (f, rest)
      → (f.name ≡ x) × Takes s (map fixed_word (fixed.LeftParen ∷ fixed.Void ∷ fixed.RightParen ∷ fixed.LeftBrace ∷ []) ++ (flat_map (statement_words globals earlier) f.body ++ mark (codes "}") ∷ [])) (length f.body) rest
      × AllByRecursion (StatementFits m (length globals) (length earlier)) f.body
  unfolding function_rest
  function_rest-is x s rest f h =
      let opening = fixed.LeftParen ∷ fixed.Void ∷ fixed.RightParen ∷ fixed.LeftBrace ∷ [] in
      let o = bind_ok (expect_all opening s) _ f rest h in
      let b = bind_ok (body m (length globals) (globals ++ earlier) o.mid) _ f rest o.second in
      let c = bind_ok (expect fixed.RightBrace b.mid) _ f rest b.second in
      let e = same_pair c.second in
      let i = body-is m globals earlier o.mid b.mid b.value b.first in
      let cost : 0 + (length b.value + 0) ≡ length b.value = omega arith in
      let takes = taken_as (expect_all-takes opening s o.mid o.value o.first then i.0 then expect-takes fixed.RightBrace b.mid c.mid c.value c.first) refl cost in
      let words = λ (g : Function). map fixed_word opening ++ (flat_map (statement_words globals earlier) g.body ++ mark (codes "}") ∷ []) in
      let made : Function = record { name = x; body = b.value } in (
        sym (ap (λ g. g.name) e.0),
        subst (λ g. Takes s (words g) (length g.body) rest) e.0 (subst (λ r. Takes s (words made) (length made.body) r) e.1 takes),
        subst (λ g. AllByRecursion (StatementFits m (length globals) (length earlier)) g.body) e.0 i.1,
      )

  pub function-is : (s rest : Left) (f : Function) → function m (length globals) (globals ++ earlier) s ≡ Some (f, rest)
      → Takes s (function_words globals earlier f) (function_cost f) rest × FunctionFits m globals earlier f
  unfolding function
  function-is s rest f h =
      let one = bind_ok (spend s) _ f rest h in
      let void = bind_ok (expect fixed.Void one.mid) _ f rest one.second in
      let x = bind_ok (new_name (globals ++ earlier) void.mid) _ f rest void.second in
      let new = new_name-is (globals ++ earlier) void.mid x.mid x.value x.first in
      let r = function_rest-is x.value x.mid rest f x.second in
      let name_takes : Takes void.mid (named f.name ∷ []) 0 x.mid = subst (λ y. Takes void.mid (named y ∷ []) 0 x.mid) (sym r.0) new.0 in
      let cost : 1 + (0 + (0 + length f.body)) ≡ function_cost f = omega arith in (
        taken_as (spend-takes s one.mid one.value one.first then expect-takes fixed.Void one.mid void.mid void.value void.first then name_takes then r.1) refl cost,
        record { new = subst (IsNew (globals ++ earlier)) (sym r.0) new.1; body = r.2 },
      )

  pub main_function-is : (s rest : Left) (f : Function) → main_function m (length globals) (globals ++ earlier) s ≡ Some (f, rest)
      → Takes s (main_words globals earlier f) (function_cost f) rest × (f.name ≡ codes "main") × AllByRecursion (StatementFits m (length globals) (length earlier)) f.body
  unfolding main_function
  main_function-is s rest f h =
      let opening = fixed.Int ∷ fixed.Main ∷ fixed.LeftParen ∷ fixed.Void ∷ fixed.RightParen ∷ fixed.LeftBrace ∷ [] in
      let closing = fixed.Return ∷ fixed.Zero ∷ fixed.Semicolon ∷ fixed.RightBrace ∷ [] in
      let one = bind_ok (spend s) _ f rest h in
      let o = bind_ok (expect_all opening one.mid) _ f rest one.second in
      let b = bind_ok (body m (length globals) (globals ++ earlier) o.mid) _ f rest o.second in
      let c = bind_ok (expect_all closing b.mid) _ f rest b.second in
      let e = same_pair c.second in
      let i = body-is m globals earlier o.mid b.mid b.value b.first in
      let made : Function = record { name = codes "main"; body = b.value } in
      let cost : 1 + (0 + (length b.value + 0)) ≡ function_cost made = omega arith in
      let takes : Takes s (main_words globals earlier made) (function_cost made) c.mid =
      taken_as (spend-takes s one.mid one.value one.first then expect_all-takes opening one.mid o.mid o.value o.first then i.0 then expect_all-takes closing b.mid c.mid c.value c.first) refl cost in (
        subst (λ g. Takes s (main_words globals earlier g) (function_cost g) rest) e.0 (subst (λ r. Takes s (main_words globals earlier made) (function_cost made) r) e.1 takes),
        sym (ap (λ g. g.name) e.0),
        subst (λ g. AllByRecursion (StatementFits m (length globals) (length earlier)) g.body) e.0 i.1,
      )

  module _ (distinct : AreDistinct (globals ++ earlier)) where
    pub function-gives : (f : Function) (rest : Left) → FunctionFits m globals earlier f → function m (length globals) (globals ++ earlier) (before (function_words globals earlier f) (function_cost f) rest) ≡ Some (f, rest)
    unfolding function function_rest new_name name expect expect_all take_word is_fixed
    function-gives f rest fits =
        let new = fits.new in
        let free = new.free in
        let absent = new.absent in
        let written = flat_map (statement_words globals earlier) f.body in
        let closed : Left = record { words = mark (codes "}") ∷ rest.words; budget = rest.budget } in
        let words = append_assoc written (mark (codes "}") ∷ []) rest.words in
        let budget : function_cost f + rest.budget ≡ 1 + (length f.body + rest.budget) = omega arith in
        let inside = body-gives m globals earlier distinct f.body closed fits.body (brace_ends rest.words) in
        rw (words, budget) (gives_bind _ (spend-gives _ (length f.body + rest.budget)) (rw (free, absent) (gives_bind _ inside refl)))

    pub main_function-gives : (f : Function) (rest : Left) → f.name ≡ codes "main" → AllByRecursion (StatementFits m (length globals) (length earlier)) f.body
        → main_function m (length globals) (globals ++ earlier) (before (main_words globals earlier f) (function_cost f) rest) ≡ Some (f, rest)
    unfolding main_function expect_all expect take_word is_fixed
    main_function-gives f rest main fits =
        let written = flat_map (statement_words globals earlier) f.body in
        let ending = keyword (codes "return") ∷ number_word (codes "0") ∷ mark (codes ";") ∷ mark (codes "}") ∷ [] in
        let closed : Left = record { words = ending ++ rest.words; budget = rest.budget } in
        let words = append_assoc written ending rest.words in
        let budget : function_cost f + rest.budget ≡ 1 + (length f.body + rest.budget) = omega arith in
        let inside = body-gives m globals earlier distinct f.body closed fits (return_ends (number_word (codes "0") ∷ mark (codes ";") ∷ mark (codes "}") ∷ rest.words)) in
        rw (words, budget, main) (gives_bind _ (spend-gives _ (length f.body + rest.budget)) (gives_bind _ inside refl))

-- ---- many functions
abbrev pub function_at : List (List ℕ) → List Function → Function → List Word
function_at globals found f = function_words globals (names_of found) f

abbrev pub FitsAfter : Mode → List (List ℕ) → List Function → Function → Type 0
FitsAfter m globals found f = FunctionFits m globals (names_of found) f

-- each of these may stand after those before it
abbrev pub AllFunctionsFit : Mode → List (List ℕ) → List Function → List Function → Type 0
AllFunctionsFit m globals found fs = AllFit (function_at globals) function_cost (FitsAfter m globals) found fs

-- what they write
abbrev pub functions_written : Mode → List (List ℕ) → List Function → List Function → List Word
functions_written m globals found fs = all_written (function_at globals) function_cost (FitsAfter m globals) found fs

abbrev item : Mode → List (List ℕ) → List Function → Parser Function
item m globals found = function m (length globals) (globals ++ names_of found)

pub functions-is : (m : Mode) (globals : List (List ℕ)) (s rest : Left) (fs : List Function) → functions m globals s ≡ Some (fs, rest)
    → Takes s (functions_written m globals [] fs) (total function_cost fs) rest × AllFunctionsFit m globals [] fs
unfolding functions many
functions-is m globals s rest fs h =
    let i : More (function_at globals) function_cost (FitsAfter m globals) [] s fs rest =
    many_from-sound (function_at globals) function_cost (FitsAfter m globals) (is_at 0 fixed.Void) (item m globals) (λ found s rest f. function-is m globals (names_of found) s rest f) s.budget [] s rest fs h in
    let e : i.more ≡ fs = sym i.joined in
    subst (λ gs. Takes s (functions_written m globals [] gs) (total function_cost gs) rest × AllFunctionsFit m globals [] gs) e (i.takes, i.fit)

-- the same, with the names before each function known to be distinct
abbrev FitsAmong : Mode → List (List ℕ) → List Function → Function → Type 0
FitsAmong m globals found f = AreDistinct (globals ++ names_of found) × FunctionFits m globals (names_of found) f

pub names_of-push : (globals : List (List ℕ)) (found : List Function) (f : Function) → globals ++ names_of found ++ f.name ∷ [] ≡ globals ++ names_of (found ++ f ∷ [])
names_of-push globals found f = append_assoc globals (names_of found) (f.name ∷ []) ∙ ap (λ xs. globals ++ xs) (sym (map-append (λ (g : Function). g.name) found (f ∷ [])))

all_among : (m : Mode) (globals : List (List ℕ)) (found fs : List Function) → AreDistinct (globals ++ names_of found) → AllFunctionsFit m globals found fs
    → AllFit (function_at globals) function_cost (FitsAmong m globals) found fs
all_among m globals found [] distinct fit = tt
all_among m globals found (f ∷ fs) distinct fit =
    let first : FunctionFits m globals (names_of found) f = fit.0 in
    ((distinct, first), all_among m globals (found ++ f ∷ []) fs (subst AreDistinct (names_of-push globals found f) (AreDistinct-push (globals ++ names_of found) f.name distinct first.new)) fit.1)

written_among : (m : Mode) (globals : List (List ℕ)) (found fs : List Function) → all_written (function_at globals) function_cost (FitsAmong m globals) found fs ≡ functions_written m globals found fs
written_among m globals found [] = refl
written_among m globals found (f ∷ fs) = ap (λ ws. function_at globals found f ++ ws) (written_among m globals (found ++ f ∷ []) fs)

function-begins : (globals : List (List ℕ)) (found : List Function) (f : Function) (ws : List Word) → is_at 0 fixed.Void (function_at globals found f ++ ws) ≡ true
unfolding is_at is_fixed
function-begins globals found f ws = refl

pub functions-gives : (m : Mode) (globals : List (List ℕ)) (fs : List Function) (rest : Left) → AreDistinct globals → AllFunctionsFit m globals [] fs → is_at 0 fixed.Void rest.words ≡ false
    → functions m globals (before (functions_written m globals [] fs) (total function_cost fs) rest) ≡ Some (fs, rest)
unfolding functions many
functions-gives m globals fs rest distinct fit ends =
    let at_first = subst AreDistinct (sym (append-nil globals)) distinct in
    let i = many_from-complete (function_at globals) function_cost (FitsAmong m globals) (is_at 0 fixed.Void) (item m globals)
    (λ found f rest p. function-gives m globals (names_of found) p.0 f rest p.1) (λ found f ws _. function-begins globals found f ws) (λ f. omega arith)
    fs (total function_cost fs + rest.budget) [] rest (all_among m globals [] fs at_first fit) (omega arith) ends in
    rw (← written_among m globals [] fs) i
