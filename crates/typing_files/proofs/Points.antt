-- What holds at a point of a text between its items.
use Rattle.std.proofs.Common.{◌≡◌, suc, ◌≤◌, true, length, sym, ap, subst, ◌∙◌}
use Rattle.std.specs.List.{AllByRecursion}
use Rattle.std.proofs.lemmas.Bool.{le-leb}
use Rattle.step_meaning.specs.declared.value.CType.TheVariants.{Struct}
use Rattle.step_meaning.specs.TypeRules.{cells, most_cells}
use Rattle.step_meaning.proofs.Ranges.{right_of_and}
use Rattle.core_types.proofs.MemberLaws.{has_cell}
use Rattle.typing_rules.specs.FileScope.{Program, seen, seen_now, tags}
use Rattle.typing_laws.specs.SmallTypes.{StructsAreSmall, IsSmall}
use Rattle.typing_laws.specs.SmallPrograms.{is_small_object}
use Rattle.typing_laws.proofs.EachOf.{each_weaker}
use Rattle.typing_laws.proofs.SmallTypes.{small_cells}
use Rattle.typing_laws.proofs.SmallStructs.{structs_are_small}
use Rattle.typing_laws.proofs.SmallPrograms.{seen_small}
use Rattle.typing_declarators.specs.Types.{StructsHaveCells}
use Rattle.typing_initialisers.specs.Initialisers.{AddressesFit}
use Rattle.typing_scopes.specs.declared.known.Known.{Known}
use Rattle.typing_scopes.specs.Known.{program, known, state}
use Rattle.typing_scopes.specs.States.{environment}
use Rattle.typing_files.specs.Points.{IsSteady, IsAtFile}
use Rattle.typing_files.proofs.Addresses.{addresses_low}

-- ---- a steady program

pub cells_there : (p : Program) → IsSteady p → StructsHaveCells p.layouts
cells_there p h n l = has_cell p.layouts h.structs (Struct n) (le-leb (suc n) (length p.layouts) l)

small_globals : (p : Program) → IsSteady p → AllByRecursion (λ d. cells p.layouts d.ctype ≤ most_cells) p.globals
small_globals p h =
    let structs : StructsAreSmall p.layouts = structs_are_small p.layouts h.small.structs in
    each_weaker (λ d. is_small_object p.layouts (length p.layouts) d.ctype ≡ true) (λ d. cells p.layouts d.ctype ≤ most_cells) p.globals (λ d k. small_cells p.layouts structs d.ctype (right_of_and _ _ k)) h.small.globals

pub addresses_there : (p : Program) → IsSteady p → AddressesFit p.layouts p.globals
addresses_there p h = addresses_low p.layouts p.globals h.structs h.globals (small_globals p h)

-- ---- a point

-- the environment of file scope
pub sees : (k : Known) → IsAtFile k → known k ≡ seen_now (program k)
sees k at = ap (λ f. environment (record { program = program k; tags = k.tags; frame = f })) at.frame ∙ ap (λ ts. seen (program k) ts) at.tags

pub small_at : (k : Known) → IsAtFile k → IsSmall (known k)
small_at k at = subst IsSmall (sym (sees k at)) (seen_small (program k) at.steady.small (tags (program k)))

pub cells_at : (k : Known) → IsAtFile k → StructsHaveCells (known k).layouts
cells_at k at = cells_there (program k) at.steady

pub addresses_at : (k : Known) → IsAtFile k → AddressesFit k.layouts k.globals
addresses_at k at = addresses_there (program k) at.steady

-- another program with the same tags
pub still_at : (k k' : Known) (p : Program) → state k' ≡ record (state k) { program = p } → tags p ≡ tags (program k) → IsAtFile k → IsSteady p → IsAtFile k'
still_at k k' p e same at steady = record {
  tags = ap (λ s. s.tags) e ∙ at.tags ∙ sym same ∙ ap (λ s. tags s.program) (sym e);
  frame = ap (λ s. s.frame) e ∙ at.frame;
  steady = subst IsSteady (ap (λ s. s.program) (sym e)) steady;
}
