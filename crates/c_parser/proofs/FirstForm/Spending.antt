-- Each item that is read counts.
use Rattle.std.proofs.Common.{◌≡◌, ℕ, ◌<◌, ◌≤◌, List, ◌++◌, length, take, drop, Option, Some, arith}
use Rattle.std.proofs.lemmas.List.{take-append-drop, length-take-le}
use Rattle.c_words.specs.declared.word.Mode.{Mode}
use Rattle.c_parser.specs.declared.first_form.tree.FirstStmt.{FirstStmt}
use Rattle.c_parser.specs.FirstForm.Program.{Function, Property}
use Rattle.c_parser.specs.FirstForm.Reading.{Left, next_statement, declaration, function, optional_property}
use Rattle.c_parser.proofs.FirstForm.StatementLaws.{next_statement-is}
use Rattle.c_parser.proofs.FirstForm.BodyLaws.{declaration-is}
use Rattle.c_parser.proofs.FirstForm.FunctionLaws.{function-is}
use Rattle.c_parser.proofs.FirstForm.ProgramLaws.{optional_property-is}

split_names : (names : List (List ℕ)) (variables : ℕ) → variables ≤ length names → (length (take variables names) ≡ variables) × (take variables names ++ drop variables names ≡ names)
split_names names variables within = (length-take-le variables names within, take-append-drop variables names)

pub next_statement-spends : (m : Mode) (variables : ℕ) (names : List (List ℕ)) (found : List FirstStmt) (s rest : Left) (a : FirstStmt) → variables ≤ length names
    → next_statement m variables names found s ≡ Some (a, rest) → rest.budget < s.budget
next_statement-spends m variables names found s rest a within h =
    let n = split_names names variables within in
    let split : next_statement m (length (take variables names)) (take variables names ++ drop variables names) found s ≡ Some (a, rest) = rw (n.0, n.1) h in
    let i = next_statement-is (take variables names) (drop variables names) m found s rest a split in
    let budget = i.0.budget in
    omega arith

pub declaration-spends : (found : List (List ℕ)) (s rest : Left) (x : List ℕ) → declaration found s ≡ Some (x, rest) → rest.budget < s.budget
declaration-spends found s rest x h = let i = declaration-is found s rest x h in let budget = i.0.budget in omega arith

pub function-spends : (m : Mode) (variables : ℕ) (names : List (List ℕ)) (s rest : Left) (f : Function) → variables ≤ length names
    → function m variables names s ≡ Some (f, rest) → rest.budget < s.budget
function-spends m variables names s rest f within h =
    let n = split_names names variables within in
    let split : function m (length (take variables names)) (take variables names ++ drop variables names) s ≡ Some (f, rest) = rw (n.0, n.1) h in
    let i = function-is m (take variables names) (drop variables names) s rest f split in
    let budget = i.0.budget in
    omega arith

pub optional_property-keeps : (m : Mode) (globals names : List (List ℕ)) (variables : ℕ) (s rest : Left) (o : Option Property) → names ≡ globals → variables ≡ length globals
    → optional_property m variables names s ≡ Some (o, rest) → s.budget ≡ rest.budget
optional_property-keeps m globals names variables s rest o same count h =
    let i = optional_property-is globals m s rest o (rw (← count, ← same) h) in
    let budget = i.takes.budget in
    omega arith
