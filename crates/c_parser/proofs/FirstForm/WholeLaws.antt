-- A text's words are read as a program exactly where the program is of the form and spells them.
use Rattle.std.proofs.Common.{◌≡◌, ℕ, ◌+◌, ◌-◌, ◌≤◌, ◌==◌, Bool, true, false, cond, List, [], ◌∷◌, ◌++◌, length, Option, Some, None, refl, sym, ap, subst, ◌∙◌, append_assoc, append-nil, length-append, arith}
use Rattle.std.specs.Prelude.{codes, sum_by}
use Rattle.std.specs.List.{AllByRecursion, flat_map}
use Rattle.std.proofs.lemmas.Bool.{eqb-true}
use Rattle.std.proofs.lemmas.List.{map-append, length-map, nil_from_length}
use Rattle.c_lexer.specs.declared.token.Token.{Token}
use Rattle.c_parser.specs.declared.first_form.fixed.Fixed.TheVariants as fixed
use Rattle.c_words.specs.declared.word.Mode.{Mode}
use Rattle.c_parser.specs.FirstForm.Program.{Function, Property, Program}
use Rattle.c_parser.specs.FirstForm.Spelling.{Word, words_of, names_of, statement_words, declaration_words, main_words, functions_words, optional_property_words, program_words, named, keyword, mark, number as number_word}
use Rattle.c_parser.specs.FirstForm.Texts.{StatementFits, BodiesFit, PropertyFits, IsFirstForm, Spells, size, limit, is_free_name}
use Rattle.c_parser.specs.FirstForm.FixedWords.{is_fixed}
use Rattle.c_parser.specs.FirstForm.Reading.{Left, Outcome, is_at, begins_declaration, declarations, optional_property, functions, main_function, finish, all_functions, program, whole}
use Rattle.c_parser.proofs.FirstForm.Taking.{Takes, ◌then◌, before, bind_ok, gives_bind, same_pair}
use Rattle.c_parser.proofs.FirstForm.NameLaws.{AreDistinct}
use Rattle.c_parser.proofs.FirstForm.NewNames.{AllNew, AllNew-distinct, AllNew-from_distinct, AreDistinct-front}
use Rattle.c_parser.proofs.FirstForm.Many.{total, total-sum_by}
use Rattle.c_parser.proofs.FirstForm.BodyLaws.{taken_as, ends_at, declarations-is, declarations-gives}
use Rattle.c_parser.proofs.FirstForm.FunctionLaws.{FunctionFits, function_cost, AllFunctionsFit, functions_written, names_of-push, functions-is, functions-gives, main_function-is, main_function-gives}
use Rattle.c_parser.proofs.FirstForm.ProgramLaws.{body_words-more, functions_words-written, optional_property-is, optional_property-gives}

-- ---- facts of each element of two lists
all-append : {A : Type 0} (P : A → Type 0) (xs ys : List A) → AllByRecursion P xs → AllByRecursion P ys → AllByRecursion P (xs ++ ys)
all-append P [] ys h i = i
all-append P (x ∷ xs) ys h i = (h.0, all-append P xs ys h.1 i)

all_first : {A : Type 0} (P : A → Type 0) (xs ys : List A) → AllByRecursion P (xs ++ ys) → AllByRecursion P xs
all_first P [] ys h = tt
all_first P (x ∷ xs) ys h = (h.0, all_first P xs ys h.1)

all_second : {A : Type 0} (P : A → Type 0) (xs ys : List A) → AllByRecursion P (xs ++ ys) → AllByRecursion P ys
all_second P [] ys h = h
all_second P (x ∷ xs) ys h = all_second P xs ys h.1

-- ---- the count
total-push : {A : Type 0} (cost : A → ℕ) (xs : List A) (x : A) → total cost (xs ++ x ∷ []) ≡ total cost xs + cost x
total-push cost [] x = omega arith
total-push cost (y ∷ xs) x = let e = total-push cost xs x in omega arith

total-split : (fs : List Function) → total function_cost fs ≡ length fs + total (λ (f : Function). length f.body) fs
total-split [] = refl
total-split (f ∷ fs) = let e = total-split fs in omega arith

functions_size : (fs : List Function) (main : Function) → total function_cost fs + function_cost main ≡ length (fs ++ main ∷ []) + sum_by (λ (f : Function). length f.body) (fs ++ main ∷ [])
functions_size fs main =
    sym (total-push function_cost fs main) ∙ total-split (fs ++ main ∷ [])
    ∙ ap (λ n. length (fs ++ main ∷ []) + n) (total-sum_by (λ (f : Function). length f.body) (fs ++ main ∷ []))

-- ---- the functions' names
functions_new : (m : Mode) (globals : List (List ℕ)) (found fs : List Function) → AllFunctionsFit m globals found fs → AllNew (globals ++ names_of found) (names_of fs)
functions_new m globals found [] fit = tt
functions_new m globals found (f ∷ fs) fit =
    let first : FunctionFits m globals (names_of found) f = fit.0 in
    (first.new, subst (λ names. AllNew names (names_of fs)) (sym (names_of-push globals found f)) (functions_new m globals (found ++ f ∷ []) fs fit.1))

length_names : (fs : List Function) → length (names_of fs) ≡ length fs
length_names fs = length-map fs (λ (f : Function). f.name)

-- ---- the bodies
abbrev MainFits : Mode → List (List ℕ) → List Function → Function → Type 0
MainFits m globals others main = AllByRecursion (StatementFits m (length globals) (length (names_of others))) main.body

bodies_fit : (m : Mode) (globals : List (List ℕ)) (found fs : List Function) (main : Function) → AllFunctionsFit m globals found fs → MainFits m globals (found ++ fs) main
    → BodiesFit m (length globals) (length found) (fs ++ main ∷ [])
bodies_fit m globals found [] main fit last =
    let n : length (names_of (found ++ [])) ≡ length found = ap (λ gs. length (names_of gs)) (append-nil found) ∙ length_names found in
    (subst (λ k. AllByRecursion (StatementFits m (length globals) k) main.body) n last, tt)
bodies_fit m globals found (f ∷ fs) main fit last =
    let first : FunctionFits m globals (names_of found) f = fit.0 in
    let one : length (found ++ f ∷ []) ≡ length found + 1 = length-append found (f ∷ []) in
    let rest = bodies_fit m globals (found ++ f ∷ []) fs main fit.1 (subst (λ gs. MainFits m globals gs main) (sym (append_assoc found (f ∷ []) fs)) last) in
    (subst (λ k. AllByRecursion (StatementFits m (length globals) k) f.body) (length_names found) first.body, subst (λ k. BodiesFit m (length globals) k (fs ++ main ∷ [])) one rest)

main_fits : (m : Mode) (globals : List (List ℕ)) (found fs : List Function) (main : Function) → BodiesFit m (length globals) (length found) (fs ++ main ∷ []) → MainFits m globals (found ++ fs) main
main_fits m globals found [] main bodies =
    let n : length found ≡ length (names_of (found ++ [])) = sym (ap (λ gs. length (names_of gs)) (append-nil found) ∙ length_names found) in
    subst (λ k. AllByRecursion (StatementFits m (length globals) k) main.body) n bodies.0
main_fits m globals found (f ∷ fs) main bodies =
    let one : length found + 1 ≡ length (found ++ f ∷ []) = sym (length-append found (f ∷ [])) in
    subst (λ gs. MainFits m globals gs main) (append_assoc found (f ∷ []) fs)
    (main_fits m globals (found ++ f ∷ []) fs main (subst (λ k. BodiesFit m (length globals) k (fs ++ main ∷ [])) one bodies.1))

functions_fit : (m : Mode) (globals : List (List ℕ)) (found fs : List Function) (main : Function) → BodiesFit m (length globals) (length found) (fs ++ main ∷ [])
    → AllNew (globals ++ names_of found) (names_of fs) → AllFunctionsFit m globals found fs
functions_fit m globals found [] main bodies new = tt
functions_fit m globals found (f ∷ fs) main bodies new =
    let one : length found + 1 ≡ length (found ++ f ∷ []) = sym (length-append found (f ∷ [])) in (
      record { new = new.0; body = subst (λ k. AllByRecursion (StatementFits m (length globals) k) f.body) (sym (length_names found)) bodies.0 },
      functions_fit m globals (found ++ f ∷ []) fs main (subst (λ k. BodiesFit m (length globals) k (fs ++ main ∷ [])) one bodies.1)
          (subst (λ names. AllNew names (names_of fs)) (names_of-push globals found f) new.1),
    )

-- ---- the end
finish-is : (s rest : Left) (t : Unit {0}) → finish s ≡ Some (t, rest) → (s.words ≡ []) × (s ≡ rest)
unfolding finish
finish-is s rest t h = by_test (length s.words == 0) refl h
  where
    by_test : (b : Bool) → (length s.words == 0) ≡ b → cond {A = Outcome (Unit {0})} b (Some (tt, s)) None ≡ Some (t, rest) → (s.words ≡ []) × (s ≡ rest)
    by_test true e h = (nil_from_length s.words (eqb-true (length s.words) 0 e), (same_pair h).1)
    by_test false e h = cc

-- ---- main's words with all names
main_words-all : (m : Mode) (globals : List (List ℕ)) (others : List Function) (main : Function) → MainFits m globals others main
    → main_words globals (names_of others) main ≡ main_words globals (names_of (others ++ main ∷ [])) main
main_words-all m globals others main fits =
    let names : names_of others ++ main.name ∷ [] ≡ names_of (others ++ main ∷ []) = sym (map-append (λ (f : Function). f.name) others (main ∷ [])) in
    let body = body_words-more m globals (names_of others) (main.name ∷ []) main.body fits ∙ ap (λ n. flat_map (statement_words globals n) main.body) names in
    ap (λ ws. keyword (codes "int") ∷ named main.name ∷ mark (codes "(") ∷ keyword (codes "void") ∷ mark (codes ")") ∷ mark (codes "{")
    ∷ (ws ++ keyword (codes "return") ∷ number_word (codes "0") ∷ mark (codes ";") ∷ mark (codes "}") ∷ [])) body

all_written_words : (m : Mode) (globals : List (List ℕ)) (others : List Function) (main : Function) → AllFunctionsFit m globals [] others → MainFits m globals others main
    → functions_words globals (names_of (others ++ main ∷ [])) (others ++ main ∷ []) ≡ functions_written m globals [] others ++ main_words globals (names_of others) main
all_written_words m globals others main fit last =
    functions_words-written m globals [] others main (names_of (others ++ main ∷ [])) refl fit
    ∙ ap (λ ws. functions_written m globals [] others ++ ws) (sym (main_words-all m globals others main last))

-- ---- all functions
record FunctionsTaken (m : Mode) (globals : List (List ℕ)) (s : Left) (fs : List Function) (rest : Left) : Type 0 where
  pub others : List Function
  pub main : Function
  pub all : fs ≡ others ++ main ∷ []
  pub takes : Takes s (functions_words globals (names_of (others ++ main ∷ [])) (others ++ main ∷ [])) (length (others ++ main ∷ []) + sum_by (λ (f : Function). length f.body) (others ++ main ∷ [])) rest
  pub fit : AllFunctionsFit m globals [] others
  pub main_name : main.name ≡ codes "main"
  pub main_fits : MainFits m globals others main
  pub ended : rest.words ≡ []

all_functions-is : (m : Mode) (globals : List (List ℕ)) (s rest : Left) (fs : List Function) → all_functions m globals s ≡ Some (fs, rest) → FunctionsTaken m globals s fs rest
unfolding all_functions
all_functions-is m globals s rest fs h =
    let o = bind_ok (functions m globals s) _ fs rest h in
    let last = bind_ok (main_function m (length globals) (globals ++ names_of o.value) o.mid) _ fs rest o.second in
    let e = bind_ok (finish last.mid) _ fs rest last.second in
    let p = same_pair e.second in
    let end = finish-is last.mid e.mid e.value e.first in
    let i = functions-is m globals s o.mid o.value o.first in
    let j = main_function-is m globals (names_of o.value) o.mid last.mid last.value last.first in
    let takes = taken_as (i.0 then j.0) (sym (all_written_words m globals o.value last.value i.1 j.2)) (functions_size o.value last.value) in
    record {
      others = o.value;
      main = last.value;
      all = sym p.0;
      takes = ends_at takes (end.1 ∙ p.1);
      fit = i.1;
      main_name = j.1;
      main_fits = j.2;
      ended = sym (ap (λ r. r.words) (end.1 ∙ p.1)) ∙ end.0;
    }

-- ---- what is read is of the form, and spelled
pub program-is : (m : Mode) (ws : List Word) (rest : Left) (p : Program) → program m (whole m ws) ≡ Some (p, rest) → IsFirstForm m p × (ws ≡ program_words p)
unfolding program
program-is m ws rest p h =
    let d = bind_ok (declarations (whole m ws)) _ p rest h in
    let globals = d.value in
    let o = bind_ok (optional_property m (length globals) globals d.mid) _ p rest d.second in
    let f = bind_ok (all_functions m globals o.mid) _ p rest o.second in
    let q = same_pair f.second in
    let i = declarations-is (whole m ws) d.mid globals d.first in
    let j = optional_property-is globals m d.mid o.mid o.value o.first in
    let k = all_functions-is m globals o.mid f.mid f.value f.first in
    let functions_here = k.others ++ k.main ∷ [] in
    let made : Program = record { globals = globals; property = o.value; functions = functions_here } in
    let same : made ≡ p = ap (λ fs. record { globals = globals; property = o.value; functions = fs }) (sym k.all) ∙ q.0 in
    let takes = i.0 then j.takes then k.takes in
    let first = AllNew-distinct [] globals (λ i j d below within. absurd (omega arith)) i.1 in
    let named_new = subst (λ names. AllNew names (names_of k.others)) (append-nil globals) (functions_new m globals [] k.others k.fit) in
    let second = AllNew-distinct globals (names_of k.others) first.0 named_new in
    let form : IsFirstForm m made = record {
      others = k.others;
      main = k.main;
      functions = refl;
      main_name = k.main_name;
      free = all-append (λ x. is_free_name x ≡ true) globals (names_of k.others) first.1 second.1;
      distinct = second.0;
      property = j.fits;
      bodies = bodies_fit m globals [] k.others k.main k.fit k.main_fits;
      within = let budget = takes.budget in omega arith;
    } in
    let words : ws ≡ program_words made = takes.words ∙ ap (λ r. program_words made ++ r) k.ended ∙ append-nil (program_words made) in
    (subst (IsFirstForm m) same form, subst (λ r. ws ≡ program_words r) same words)

-- ---- what is of the form and spelled is read
begins_with_functions : (m : Mode) (globals : List (List ℕ)) (found fs : List Function) (names : List (List ℕ)) (main : Function) (ws : List Word)
    → is_at 0 fixed.Open (functions_written m globals found fs ++ (main_words globals names main ++ ws)) ≡ false
unfolding is_at is_fixed
begins_with_functions m globals found [] names main ws = refl
begins_with_functions m globals found (f ∷ fs) names main ws = refl

no_declaration : (m : Mode) (globals : List (List ℕ)) (found fs : List Function) (names : List (List ℕ)) (main : Function) (ws : List Word)
    → begins_declaration (functions_written m globals found fs ++ (main_words globals names main ++ ws)) ≡ false
unfolding begins_declaration is_at is_fixed
no_declaration m globals found [] names main ws = refl
no_declaration m globals found (f ∷ fs) names main ws = refl

no_declaration_at_property : (globals : List (List ℕ)) (o : Option Property) (ws : List Word) → begins_declaration ws ≡ false → begins_declaration (optional_property_words globals o ++ ws) ≡ false
unfolding begins_declaration is_at is_fixed
no_declaration_at_property globals None ws h = h
no_declaration_at_property globals (Some p) ws h = refl

main_is_no_void : (globals names : List (List ℕ)) (main : Function) (ws : List Word) → is_at 0 fixed.Void (main_words globals names main ++ ws) ≡ false
unfolding is_at is_fixed
main_is_no_void globals names main ws = refl

finish-gives : (n : ℕ) → finish (record { words = []; budget = n }) ≡ Some (tt, record { words = []; budget = n })
unfolding finish
finish-gives n = refl

module _ (m : Mode) (globals : List (List ℕ)) (o : Option Property) (others : List Function) (main : Function) where
  abbrev at_end : ℕ → Left
  at_end n = record { words = []; budget = n }

  abbrev at_main : ℕ → Left
  at_main n = before (main_words globals (names_of others) main) (function_cost main) (at_end n)

  abbrev at_functions : ℕ → Left
  at_functions n = before (functions_written m globals [] others) (total function_cost others) (at_main n)

  abbrev at_property : ℕ → Left
  at_property n = before (optional_property_words globals o) 0 (at_functions n)

  abbrev at_start : ℕ → Left
  at_start n = before (flat_map declaration_words globals) (length globals) (at_property n)

  all_functions-gives : (n : ℕ) → AreDistinct (globals ++ names_of others) → AllFunctionsFit m globals [] others → main.name ≡ codes "main" → MainFits m globals others main
      → all_functions m globals (at_functions n) ≡ Some (others ++ main ∷ [], at_end n)
  unfolding all_functions
  all_functions-gives n distinct fit main_name main_fit =
      gives_bind _ (functions-gives m globals others (at_main n) (AreDistinct-front globals (names_of others) distinct) fit (main_is_no_void globals (names_of others) main []))
      (gives_bind _ (main_function-gives m globals (names_of others) distinct main (at_end n) main_name main_fit) (gives_bind _ (finish-gives n) refl))

  abbrev made : Program
  made = record { globals = globals; property = o; functions = others ++ main ∷ [] }

  parts-give : (n : ℕ) → AreDistinct (globals ++ names_of others) → AllNew [] globals → PropertyFits m (length globals) o → AllFunctionsFit m globals [] others → main.name ≡ codes "main" → MainFits m globals others main
      → program m (at_start n) ≡ Some (made, at_end n)
  unfolding program
  parts-give n distinct new property fit main_name main_fit =
      let rest = [] in
      gives_bind _ (declarations-gives globals (at_property n) new (no_declaration_at_property globals o (at_functions n).words (no_declaration m globals [] others (names_of others) main rest)))
      (gives_bind _ (optional_property-gives globals m (AreDistinct-front globals (names_of others) distinct) o (at_functions n) property (begins_with_functions m globals [] others (names_of others) main rest))
      (gives_bind _ (all_functions-gives n distinct fit main_name main_fit) refl))

  -- the whole text is what the parts write
  start-is : (n : ℕ) → limit m ≡ size made + n → AllFunctionsFit m globals [] others → MainFits m globals others main → whole m (program_words made) ≡ at_start n
  start-is n all fit main_fit =
      let own = all_written_words m globals others main fit main_fit in
      let ended : main_words globals (names_of others) main ++ [] ≡ main_words globals (names_of others) main = append-nil (main_words globals (names_of others) main) in
      let words : program_words made ≡ flat_map declaration_words globals ++ (optional_property_words globals o ++ (functions_written m globals [] others ++ (main_words globals (names_of others) main ++ []))) =
      ap (λ ws. flat_map declaration_words globals ++ (optional_property_words globals o ++ ws)) (own ∙ ap (λ ws. functions_written m globals [] others ++ ws) (sym ended)) in
      let sizes = functions_size others main in
      let budget : limit m ≡ length globals + (0 + (total function_cost others + (function_cost main + n))) = omega arith in
      λ i. record { words = words i; budget = budget i }

pub program-gives : (m : Mode) (p : Program) → IsFirstForm m p → (n : ℕ) × (program m (whole m (program_words p)) ≡ Some (p, record { words = []; budget = n }))
program-gives m p form =
    let globals = p.globals in
    let others = form.others in
    let main = form.main in
    let made_here : Program = record { globals = globals; property = p.property; functions = others ++ main ∷ [] } in
    let same : made_here ≡ p = ap (λ fs. record { globals = globals; property = p.property; functions = fs }) (sym form.functions) in
    let distinct = form.distinct in
    let free = λ (x : List ℕ). is_free_name x ≡ true in
    let bodies : BodiesFit m (length globals) 0 (others ++ main ∷ []) = subst (BodiesFit m (length globals) 0) form.functions form.bodies in
    let new = AllNew-from_distinct [] globals (AreDistinct-front globals (names_of others) distinct) (all_first free globals (names_of others) form.free) in
    let later = AllNew-from_distinct globals (names_of others) distinct (all_second free globals (names_of others) form.free) in
    let fit = functions_fit m globals [] others main bodies (subst (λ names. AllNew names (names_of others)) (sym (append-nil globals)) later) in
    let main_fit = main_fits m globals [] others main bodies in
    let within : size made_here ≤ limit m = subst (λ q. size q ≤ limit m) (sym same) form.within in
    let n = limit m - size made_here in
    let all : limit m ≡ size made_here + n = omega arith in
    let start = start-is m globals p.property others main n all fit main_fit in
    let given = parts-give m globals p.property others main n distinct new form.property fit form.main_name main_fit in
    (n, subst (λ q. program m (whole m (program_words q)) ≡ Some (q, record { words = []; budget = n })) same (ap (program m) start ∙ given))

-- ---- a text's tokens
pub spelled-from_read : (m : Mode) (text : List ℕ) (tokens : List Token) (rest : Left) (p : Program) → program m (whole m (words_of text tokens)) ≡ Some (p, rest) → Spells m text tokens p
spelled-from_read m text tokens rest p h = let i = program-is m (words_of text tokens) rest p h in record { form = i.0; words = i.1 }

pub read_from_spelled : (m : Mode) (text : List ℕ) (tokens : List Token) (p : Program) → Spells m text tokens p
    → (n : ℕ) × (program m (whole m (words_of text tokens)) ≡ Some (p, record { words = []; budget = n }))
read_from_spelled m text tokens p h =
    let i = program-gives m p h.form in
    (i.0, subst (λ ws. program m (whole m ws) ≡ Some (p, record { words = []; budget = i.0 })) (sym h.words) i.1)

pub one_program_spelled : (m : Mode) (text : List ℕ) (tokens : List Token) (p q : Program) → Spells m text tokens p → Spells m text tokens q → p ≡ q
one_program_spelled m text tokens p q h i = (same_pair (sym (read_from_spelled m text tokens p h).1 ∙ (read_from_spelled m text tokens q i).1)).0

pub none_spelled : (m : Mode) (text : List ℕ) (tokens : List Token) → program m (whole m (words_of text tokens)) ≡ None → (p : Program) → Spells m text tokens p → ⊥
none_spelled m text tokens h p i = let r = (read_from_spelled m text tokens p i).1 in let clash = sym h ∙ r in cc
