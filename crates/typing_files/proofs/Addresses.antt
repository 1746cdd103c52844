-- The address that a cell of file scope starts with lies in a variable, so that its offset is small.
use Rattle.std.proofs.Common.{◌≡◌, ℕ, ◌+◌, ◌<◌, ◌≤◌, ◌^◌, true, List, [], Option, Some, None, arith}
use Rattle.std.specs.Prelude.{slice_get, if◌then◌else◌}
use Rattle.std.specs.List.{AllByRecursion}
use Rattle.step_meaning.specs.declared.value.CType.{CType}
use Rattle.step_meaning.specs.declared.value.CType.TheVariants as type
use Rattle.step_meaning.specs.declared.value.Value.{Value}
use Rattle.step_meaning.specs.declared.value.Value.TheVariants as value
use Rattle.step_meaning.specs.declared.expr.Expr.{Expr}
use Rattle.step_meaning.specs.declared.expr.Expr.TheVariants as e
use Rattle.step_meaning.specs.declared.expr.Place_.{Place_}
use Rattle.step_meaning.specs.declared.program.Declared.{Declared as Named}
use Rattle.step_meaning.specs.declared.program.Layout.{Layout}
use Rattle.step_meaning.specs.Types.{same_type}
use Rattle.step_meaning.specs.TypeRules.{cells, most_cells, are_layouts, keeps_rules}
use Rattle.step_meaning.proofs.TypedMemory.{WhereSome, get_fits}
use Rattle.typing_rules.specs.ConstantExpressions.{Part, part_of, is_variable, pointer_at, address_of, initial_value, constant}
use Rattle.typing_laws.proofs.CheckedValues.{if_holds, some_then, some_mapped, where_some}
use Rattle.typing_laws.proofs.AddressParts.{PartFits, part_fits}
use Rattle.typing_initialisers.specs.Initialisers.{AddressesFit}

-- an address has a small offset
abbrev pub IsLow : Value → Type 0
IsLow (value.Pointer n o) = o < 2 ^ 32
IsLow _ = Unit {0}

module _ (ls : List Layout) (globals : List Named) (rules : are_layouts ls ≡ true) (objects : AllByRecursion (λ d. keeps_rules ls d.ctype ≡ true) globals) (small : AllByRecursion (λ d. cells ls d.ctype ≤ most_cells) globals) where
  part_low : (w : Part) → PartFits globals ls [] rules objects w → IsLow (pointer_at ls globals w)
  part_low w h =
      let limit : cells ls h.variable.ctype ≤ most_cells = where_some (λ d. cells ls d.ctype ≤ most_cells) (slice_get globals w.index) h.variable h.found (get_fits (λ d. cells ls d.ctype ≤ most_cells) globals w.index small) in
      let room : w.offset + cells ls w.ctype ≤ cells ls h.variable.ctype = h.room in
      below w.offset (cells ls w.ctype) (cells ls h.variable.ctype) room limit
    where
      below : (o c all : ℕ) → o + c ≤ all → all ≤ most_cells → o < 2 ^ 32
      below o c all l m = omega arith

  address_low : (x : Place_) (u : CType) → WhereSome IsLow (address_of ls globals x u)
  address_low x u =
      some_then (PartFits globals ls [] rules objects) IsLow _ (part_of ls globals x) (part_fits globals ls [] rules objects x) (λ w h.
      if_holds (WhereSome IsLow) (if same_type u w.ctype then true else is_variable ls globals x) (Some (pointer_at ls globals w)) None (λ e. part_low w h) (λ e. tt))

  initial_low : (t : CType) (x : Expr) → WhereSome IsLow (initial_value ls globals t x)
  unfolding initial_value
  initial_low (type.Int k) x = some_mapped (λ z. Unit {0}) IsLow value.Int (constant x) (any (constant x)) (λ z h. tt)
    where
      any : {A : Type 0} (o : Option A) → WhereSome (λ a. Unit {0}) o
      any None = tt
      any (Some a) = tt
  initial_low type.Void e.Null = tt
  initial_low type.Void (e.Address x u) = address_low x u
  initial_low type.Void x = tt
  initial_low (type.Pointer' b t) e.Null = tt
  initial_low (type.Pointer' b t) (e.Address x u) = address_low x u
  initial_low (type.Pointer' b t) x = tt
  initial_low (type.Array' b t n) e.Null = tt
  initial_low (type.Array' b t n) (e.Address x u) = address_low x u
  initial_low (type.Array' b t n) x = tt
  initial_low (type.Struct n) e.Null = tt
  initial_low (type.Struct n) (e.Address x u) = address_low x u
  initial_low (type.Struct n) x = tt

  pub addresses_low : AddressesFit ls globals
  addresses_low t x n o found = where_some IsLow (initial_value ls globals t x) (value.Pointer n o) found (initial_low t x)
