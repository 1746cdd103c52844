-- Weaving a program of the source form gives one of the woven form.
use Rattle.std.proofs.Common.{◌≡◌, ◌≢◌, ℕ, ◌+◌, ◌*◌, ◌<◌, ◌≤◌, true, List, [], ◌∷◌, ◌++◌, length, Option, Some, None, map, refl, sym, ap, subst, ◌∙◌, arith}
use Rattle.std.specs.Prelude.{sum_by, AllPairs}
use Rattle.std.specs.List.{AllByRecursion}
use Rattle.std.proofs.lemmas.List.{length-append, length-map, map-append}
use Rattle.std.proofs.lemmas.List.Sums.{sum_by-cons}
use Rattle.c_words.specs.declared.word.Mode.TheVariants as mode
use Rattle.c_parser.specs.declared.first_form.tree.FirstStmt.{FirstStmt}
use Rattle.c_parser.specs.declared.first_form.tree.FirstStmt.TheVariants as stmt
use Rattle.c_parser.specs.FirstForm.Program.{Function, Property, Program}
use Rattle.c_parser.specs.FirstForm.Spelling.{names_of}
use Rattle.c_parser.specs.FirstForm.Texts.{size, StatementFits, BodiesFit, PropertyFits, is_free_name, IsFirstForm}
use Rattle.weave_cli.specs.FirstForm.Weaving.{woven_statement, woven_statements, separator, woven_body, property_function, woven_functions, woven}

-- ---- statements and bodies

abbrev SourceBody : ℕ → ℕ → List FirstStmt → Type 0
SourceBody variables earlier body = AllByRecursion (StatementFits mode.Source variables earlier) body

abbrev WovenBody : ℕ → ℕ → List FirstStmt → Type 0
WovenBody variables earlier body = AllByRecursion (StatementFits mode.Woven variables earlier) body

statement_stays : (variables earlier : ℕ) (s : FirstStmt) → StatementFits mode.Source variables earlier s → StatementFits mode.Woven variables earlier s
statement_stays variables earlier (stmt.Assign x n) h = h
statement_stays variables earlier (stmt.Call f) h = h
statement_stays variables earlier stmt.Empty h = refl
statement_stays variables earlier (stmt.Assert y x) h = (refl, h.1, h.2)

body_stays : (variables earlier : ℕ) (body : List FirstStmt) → SourceBody variables earlier body → WovenBody variables earlier body
body_stays variables earlier [] h = tt
body_stays variables earlier (s ∷ body) h = (statement_stays variables earlier s h.0, body_stays variables earlier body h.1)

AllByRecursion-append : {X : Type 0} (P : X → Type 0) (xs ys : List X) → AllByRecursion P xs → AllByRecursion P ys → AllByRecursion P (xs ++ ys)
AllByRecursion-append P [] ys h i = i
AllByRecursion-append P (x ∷ xs) ys h i = (h.0, AllByRecursion-append P xs ys h.1 i)

statement_woven : (variables earlier x : ℕ) (s : FirstStmt) → x < variables → StatementFits mode.Source variables earlier s → WovenBody variables earlier (woven_statement x s)
statement_woven variables earlier x (stmt.Assign y n) below h = ((refl, h.0, below), (h, tt))
statement_woven variables earlier x (stmt.Call f) below h = (h, tt)
statement_woven variables earlier x stmt.Empty below h = (refl, tt)
statement_woven variables earlier x (stmt.Assert y z) below h = ((refl, h.1, h.2), tt)

statements_woven : (variables earlier x : ℕ) (body : List FirstStmt) → x < variables → SourceBody variables earlier body → WovenBody variables earlier (woven_statements x body)
statements_woven variables earlier x [] below h = tt
statements_woven variables earlier x (s ∷ body) below h =
    AllByRecursion-append (StatementFits mode.Woven variables earlier) (woven_statement x s) (woven_statements x body) (statement_woven variables earlier x s below h.0) (statements_woven variables earlier x body below h.1)

separator_fits : (variables earlier : ℕ) (body : List FirstStmt) → WovenBody variables earlier (separator body)
separator_fits variables earlier [] = tt
separator_fits variables earlier (stmt.Assign y n ∷ body) = (refl, tt)
separator_fits variables earlier (stmt.Call f ∷ body) = tt
separator_fits variables earlier (stmt.Empty ∷ body) = tt
separator_fits variables earlier (stmt.Assert y z ∷ body) = tt

body_woven : (variables earlier x : ℕ) (body : List FirstStmt) → x < variables → SourceBody variables earlier body → WovenBody variables earlier (woven_body x body)
body_woven variables earlier x body below h =
    AllByRecursion-append (StatementFits mode.Woven variables earlier) (separator body) (woven_statements x body) (separator_fits variables earlier body) (statements_woven variables earlier x body below h)

-- ---- functions

bodies_stay : (variables earlier : ℕ) (fs : List Function) → BodiesFit mode.Source variables earlier fs → BodiesFit mode.Woven variables earlier fs
bodies_stay variables earlier [] h = tt
bodies_stay variables earlier (f ∷ fs) h = (body_stays variables earlier f.body h.0, bodies_stay variables (earlier + 1) fs h.1)

bodies_woven : (variables earlier x : ℕ) (fs : List Function) → x < variables → BodiesFit mode.Source variables earlier fs → BodiesFit mode.Woven variables earlier (map (property_function x) fs)
bodies_woven variables earlier x [] below h = tt
bodies_woven variables earlier x (f ∷ fs) below h = (body_woven variables earlier x f.body below h.0, bodies_woven variables (earlier + 1) x fs below h.1)

functions_fit : (variables : ℕ) (o : Option Property) (fs : List Function) → PropertyFits mode.Source variables o → BodiesFit mode.Source variables 0 fs → BodiesFit mode.Woven variables 0 (woven_functions o fs)
functions_fit variables None fs p h = bodies_stay variables 0 fs h
functions_fit variables (Some q) fs p h = bodies_woven variables 0 q.variable fs p.2 h

names_stay : (x : ℕ) (fs : List Function) → names_of (map (property_function x) fs) ≡ names_of fs
names_stay x [] = refl
names_stay x (f ∷ fs) = ap (λ names. f.name ∷ names) (names_stay x fs)

names_woven : (o : Option Property) (fs : List Function) → names_of (woven_functions o fs) ≡ names_of fs
names_woven None fs = refl
names_woven (Some q) fs = names_stay q.variable fs

woven_main : Option Property → Function → Function
woven_main None f = f
woven_main (Some q) f = property_function q.variable f

main_name : (o : Option Property) (f : Function) → (woven_main o f).name ≡ f.name
unfolding woven_main
main_name None f = refl
main_name (Some q) f = refl

main_is_last : (o : Option Property) (fs others : List Function) (f : Function) → fs ≡ others ++ f ∷ [] → woven_functions o fs ≡ woven_functions o others ++ woven_main o f ∷ []
unfolding woven_main
main_is_last None fs others f e = e
main_is_last (Some q) fs others f e = ap (map (property_function q.variable)) e ∙ map-append (property_function q.variable) others (f ∷ [])

-- ---- size

statement_grows : (x : ℕ) (s : FirstStmt) → length (woven_statement x s) ≤ 2
statement_grows x (stmt.Assign y n) = omega arith
statement_grows x (stmt.Call f) = omega arith
statement_grows x stmt.Empty = omega arith
statement_grows x (stmt.Assert y z) = omega arith

statements_grow : (x : ℕ) (body : List FirstStmt) → length (woven_statements x body) ≤ 2 * length body
statements_grow x [] = omega arith
statements_grow x (s ∷ body) = omega (arith, length-append (woven_statement x s) (woven_statements x body), statement_grows x s, statements_grow x body)

separator_short : (body : List FirstStmt) → length (separator body) ≤ 1
separator_short [] = omega arith
separator_short (stmt.Assign y n ∷ body) = omega arith
separator_short (stmt.Call f ∷ body) = omega arith
separator_short (stmt.Empty ∷ body) = omega arith
separator_short (stmt.Assert y z ∷ body) = omega arith

body_grows : (x : ℕ) (body : List FirstStmt) → length (woven_body x body) ≤ 2 * length body + 1
body_grows x body = omega (arith, length-append (separator body) (woven_statements x body), separator_short body, statements_grow x body)

abbrev statements_in : List Function → ℕ
statements_in fs = sum_by (λ f. length f.body) fs

bodies_grow : (x : ℕ) (fs : List Function) → statements_in (map (property_function x) fs) ≤ 2 * statements_in fs + length fs
bodies_grow x [] = omega arith
bodies_grow x (f ∷ fs) =
    omega (arith, sum_by-cons (λ (g : Function). length g.body) f fs, sum_by-cons (λ (g : Function). length g.body) (property_function x f) (map (property_function x) fs), body_grows x f.body, bodies_grow x fs)

functions_grow : (o : Option Property) (fs : List Function) → length (woven_functions o fs) + statements_in (woven_functions o fs) ≤ 2 * (length fs + statements_in fs)
functions_grow None fs = omega arith
functions_grow (Some q) fs = omega (arith, length-map fs (property_function q.variable), bodies_grow q.variable fs)

pub woven_size : (p : Program) → size (woven p) ≤ 3 * size p
woven_size p = omega (arith, functions_grow p.property p.functions)

-- ---- programs

pub woven_fits : (p : Program) → IsFirstForm mode.Source p → IsFirstForm mode.Woven (woven p)
woven_fits p f =
    let same : p.globals ++ names_of (woven_functions p.property f.others) ≡ p.globals ++ names_of f.others = ap (λ names. p.globals ++ names) (names_woven p.property f.others) in
    record {
      others = woven_functions p.property f.others;
      main = woven_main p.property f.main;
      functions = main_is_last p.property p.functions f.others f.main f.functions;
      main_name = main_name p.property f.main ∙ f.main_name;
      free = subst (AllByRecursion (λ x. is_free_name x ≡ true)) (sym same) f.free;
      distinct = subst (AllPairs (λ x y. x ≢ y)) (sym same) f.distinct;
      property = tt;
      bodies = functions_fit (length p.globals) p.property p.functions f.property f.bodies;
      within = omega (arith, woven_size p, f.within);
    }
