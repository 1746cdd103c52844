-- Members of a struct, step by step.
use Rattle.std.proofs.Common.{◌≡◌, ℕ, false, not, List, [], ◌∷◌, Ok, Err, refl, sym, ◌∙◌}
use Rattle.std.specs.List.{list_any}
use Rattle.std.specs.Str.{bytes_eq}
use Rattle.c_grammar.specs.declared.program.Member.{Member}
use Rattle.step_meaning.specs.declared.value.CType.{CType}
use Rattle.step_meaning.specs.declared.program.Declared.{Declared as Named}
use Rattle.typing_rules.specs.Checked.{Checked, ◌>>=◌}
use Rattle.typing_rules.specs.Syntax.{Declarator, Members}
use Rattle.typing_rules.specs.Environment.{Environment, place_of, bytes_in, is_reserved, specified}
use Rattle.typing_rules.specs.Declarations.{Layer, layers, layered, is_complete_in, declarable}
use Rattle.typing_rules.specs.TreesOfDeclarations as trees
use Rattle.typing_rules.specs.Structs.{has_member, member, member_list, all_members}
use Rattle.typing_laws.specs.SmallTypes.{WhereOk}
use Rattle.typing_laws.proofs.CheckedValues.{then_known}
use Rattle.typing_laws.proofs.DeclaredNames.{declared_then}
use Rattle.typing_declarators.specs.Names.{declared_type, object_type}
use Rattle.typing_files.specs.Runs.{run}
use Rattle.typing_files.proofs.Outcomes.{then_same, then_then}
use Rattle.typing_files.proofs.Names.{declared_turned}
use Rattle.typing_structs.specs.Members.{member_type, with_member, declaration, declarators_in}

pub member_among : (name : List ℕ) (ms : List Named) → list_any (λ d. bytes_eq name d.name) ms ≡ list_any (λ d. bytes_eq d.name name) ms
member_among name ms = declared_turned name ms

module _ (g : Environment) where
  -- a member is its type and then its name
  pub member_by : (base : CType) (ms : List Named) (d : Declarator) → member g base ms d ≡ (member_type g base ms d >>= (λ t. Ok (with_member g d.name t ms)))
  unfolding member member_type declared_type object_type
  member_by base ms d = by (layers g 1 d.modifiers)
    where
      judged : CType → Checked (Unit {0})
      judged t = declarable g (place_of d.name) (has_member g ms (bytes_in g d.name)) (not (is_complete_in g t)) false (is_reserved g (bytes_in g d.name)) t

      after : (t : CType) (c : Checked (Unit {0})) → (c >>= (λ u. Ok (with_member g d.name t ms))) ≡ ((c >>= (λ u. Ok t)) >>= (λ t. Ok (with_member g d.name t ms)))
      after t (Ok u) = refl
      after t (Err e) = refl

      by : (c : Checked (List Layer)) → (c >>= (λ ls. judged (layered ls base) >>= (λ u. Ok (with_member g d.name (layered ls base) ms)))) ≡ ((c >>= (λ ls. judged (layered ls base) >>= (λ u. Ok (layered ls base)))) >>= (λ t. Ok (with_member g d.name t ms)))
      by (Ok ls) = after (layered ls base) (judged (layered ls base))
      by (Err e) = refl

  -- its name is new
  pub member_new : (base : CType) (ms : List Named) (d : Declarator) → WhereOk (λ (t : CType). has_member g ms (bytes_in g d.name) ≡ false) (member_type g base ms d)
  unfolding member_type declared_type object_type
  member_new base ms d =
      let P : CType → Type 0 = λ t. has_member g ms (bytes_in g d.name) ≡ false in
      then_known P (layers g 1 d.modifiers) _ (λ ls e.
      declared_then P g (place_of d.name) (has_member g ms (bytes_in g d.name)) (not (is_complete_in g (layered ls base))) false (is_reserved g (bytes_in g d.name)) (layered ls base) _ (λ may. may.new))

  pub member_list_run : (base : CType) (ds : List Declarator) (ms : List Named) → member_list g base ms ds ≡ run (λ d ms. member g base ms d) ds ms
  unfolding member_list run
  member_list_run base [] ms = refl
  member_list_run base (d ∷ ds) ms = then_same (member g base ms d) (λ more. member_list g base more ds) (run (λ d ms. member g base ms d) ds) (λ more. member_list_run base ds more)

  pub all_members_run : (xs : List Members) (ms : List Named) → all_members g ms xs ≡ run (λ x ms. declaration g ms x) xs ms
  unfolding all_members run declaration
  all_members_run [] ms = refl
  all_members_run (x ∷ xs) ms =
      then_same (specified g x.specifier) (λ base. member_list g base ms x.declarators >>= (λ more. all_members g more xs)) (λ base. member_list g base ms x.declarators >>= run (λ x ms. declaration g ms x) xs) (λ base. then_same (member_list g base ms x.declarators) (λ more. all_members g more xs) (run (λ x ms. declaration g ms x) xs) (λ more. all_members_run xs more))
      ∙ sym (then_then (specified g x.specifier) (λ base. member_list g base ms x.declarators) (run (λ x ms. declaration g ms x) xs))

  pub declaration_by : (tree : Member) (ms : List Named) → declaration g ms (trees.members tree) ≡ (specified g tree.base.specifier >>= (λ base. member_list g base ms (declarators_in tree.declarators)))
  unfolding declaration trees.members
  declaration_by tree ms = refl
