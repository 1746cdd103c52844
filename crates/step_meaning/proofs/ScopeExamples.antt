-- Scopes that keep the rules, and scopes that break one each.
use Rattle.std.proofs.Common.{◌≡◌, ◌≢◌, ℕ, suc, ◌≤◌, false, refl, ap, List, [], ◌∷◌, None, lit≤, lit<, arith, inr}
use Rattle.std.specs.Prelude.{IsTrue}
use Rattle.std.proofs.lemmas.List.Elements.{All-nil, All-cons}
use Rattle.std.proofs.lemmas.List.Kept.{AllPairs-cons}
use Rattle.step_meaning.specs.declared.value.CType.{CType}
use Rattle.step_meaning.specs.declared.value.CType.TheVariants as type
use Rattle.step_meaning.specs.declared.value.NameKind.TheVariants as names
use Rattle.step_meaning.specs.declared.program.Core.{Core}
use Rattle.step_meaning.specs.declared.program.Declared.{Declared}
use Rattle.step_meaning.specs.declared.program.Function.{Function}
use Rattle.step_meaning.specs.declared.program.Layout.{Layout}
use Rattle.step_meaning.specs.Scopes.{Entry, IsScope}
use Rattle.step_meaning.proofs.Examples.{int, pointer_to, array_of, declared}

-- `f`, with so many parameters among its locals
abbrev named : ℕ → ℕ → List Declared → Function
named name params locals = record { name = name ∷ []; result = int; params = params; locals = locals; registers = []; ghosts = []; body = None }

abbrev core : List Layout → List Function → Core
core layouts functions = record { layouts = layouts; globals = []; initial = []; ghosts = []; functions = functions; start = 2 }

-- a struct of an `int` and a pointer to the struct itself
abbrev cons : Layout
cons = record { tag = []; members = declared int ∷ record { name = 110 ∷ []; ctype = pointer_to (type.Struct 0) } ∷ [] }

abbrev entry : ℕ → CType → Entry
entry name t = record { name = name ∷ []; variable = record { kind = names.Global; index = 0 }; ctype = t }

refuted : IsTrue false → ⊥
refuted h = cc

kept : IsScope (entry 120 (type.Struct 0) ∷ []) (core (cons ∷ []) (named 102 1 (declared int ∷ []) ∷ []))
kept =
    record {
      distinct_entries = λ i j d lt lt'. absurd (omega arith);
      distinct_functions = λ i j d lt lt'. absurd (omega arith);
      layouts = refl;
      tags = refl;
      members = refl;
      entry_types = (refl, tt);
      parameter_types = ((refl, tt), tt);
      result_types = (inr refl, tt);
      parameters = (lit≤ tt, tt);
    }

one_name_twice : IsScope (entry 120 int ∷ entry 120 int ∷ []) (core [] []) → ⊥
one_name_twice h = h.distinct_entries 0 1 (entry 120 int) (lit< tt) (lit< tt) refl

-- two names for one variable, also with two types, break no rule on scopes
abbrev first : List ℕ → ℕ
first [] = 0
first (n ∷ ns) = n

not_next : (n : ℕ) → n ≡ suc n → ⊥
not_next n e = omega arith

two_names : IsScope (entry 120 int ∷ entry 121 (pointer_to int) ∷ []) (core [] [])
two_names =
    record {
      distinct_entries = AllPairs-cons (λ e f. e.name ≢ f.name) (entry 120 int) (entry 121 (pointer_to int) ∷ []) (All-cons (λ f. (120 ∷ []) ≢ f.name) (entry 121 (pointer_to int)) [] (λ e. not_next 120 (ap first e)) (All-nil (λ f. (120 ∷ []) ≢ f.name))) (λ i j d lt lt'. absurd (omega arith));
      distinct_functions = λ i j d lt lt'. absurd (omega arith);
      layouts = refl;
      tags = refl;
      members = refl;
      entry_types = (refl, (refl, tt));
      parameter_types = tt;
      result_types = tt;
      parameters = tt;
    }

one_function_twice : IsScope [] (core [] (named 102 0 [] ∷ named 102 0 [] ∷ [])) → ⊥
one_function_twice h = h.distinct_functions 0 1 (named 102 0 []) (lit< tt) (lit< tt) refl

-- a struct without members, and one that holds itself
no_members : IsScope [] (core (record { tag = []; members = [] } ∷ []) []) → ⊥
no_members h = refuted h.layouts

holds_itself : IsScope [] (core (record { tag = []; members = declared (type.Struct 0) ∷ [] } ∷ []) []) → ⊥
holds_itself h = refuted h.layouts

-- two structs of one tag, and two members of one name
one_tag_twice : IsScope [] (core (cons ∷ cons ∷ []) []) → ⊥
one_tag_twice h = refuted h.tags

one_member_twice : IsScope [] (core (record { tag = []; members = declared int ∷ declared int ∷ [] } ∷ []) []) → ⊥
one_member_twice h = refuted h.members

-- types that break the rules
empty_array : IsScope (entry 120 (array_of int 0) ∷ []) (core [] []) → ⊥
empty_array h = refuted h.entry_types.0

unknown_struct : IsScope (entry 120 (type.Struct 0) ∷ []) (core [] []) → ⊥
unknown_struct h = refuted h.entry_types.0

void_parameter : IsScope [] (core [] (named 102 1 (declared type.Void ∷ []) ∷ [])) → ⊥
void_parameter h = refuted h.parameter_types.0.0

-- more parameters than locals
missing_local : IsScope [] (core [] (named 102 1 [] ∷ [])) → ⊥
missing_local h = let m : 1 ≤ 0 = h.parameters.0 in omega arith
