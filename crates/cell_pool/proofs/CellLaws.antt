-- What a cell reads as after a change.
use Rattle.std.proofs.Common.{◌≡◌, ℕ, ◌<◌, ◌≢◌, ◌⊎◌, true, false, eqb, List, length, set, get_or, replicate, Option, Some, None, refl, sym, ◌∙◌, ap, inl, inr, length-set}
use Rattle.std.specs.List.{slice_get}
use Rattle.std.specs.Option.{is_some}
use Rattle.std.proofs.lemmas.Bool.{cases_eq, cases_lt, cases_Bool, eq-eqb, ne_eqb, cond-true, cond-false, false≢true}
use Rattle.std.proofs.lemmas.List.{get_or-set_other, get_or-set_same, get_or_past, get_or-replicate, length-replicate}
use Rattle.std.proofs.lemmas.Option.{slice_get_past, slice_get-get_or}
use Rattle.cell_pool.specs.Region.{Block, Region, if_named, block_of, cell_in, cell_of, with_block, with_cell_in, with_cell}
use Rattle.cell_pool.specs.Laws.{KeepsCells}

in_list : {C : Type 0} (cells : List C) (offset : ℕ) → is_some (slice_get cells offset) ≡ true → offset < length cells
in_list cells offset h =
    elim (cases_lt offset (length cells)) [
      | inl l ↦ l
      | inr l ↦ let n : is_some (slice_get cells offset) ≡ false = ap is_some (slice_get_past cells offset l) in absurd (false≢true (sym n ∙ h))
    ]

get-set_same : {C : Type 0} (cells : List C) (offset : ℕ) (value : C) → offset < length cells → slice_get (set cells offset value) offset ≡ Some value
get-set_same cells offset value l =
    slice_get-get_or (set cells offset value) offset value (rw length-set l) ∙ ap Some (get_or-set_same cells offset value value l)

get-set_other : {C : Type 0} (cells : List C) (offset i : ℕ) (value : C) → (i ≡ offset → ⊥) → slice_get (set cells offset value) i ≡ slice_get cells i
get-set_other cells offset i value n =
    elim (cases_lt i (length cells)) [
      | inl l ↦
          slice_get-get_or (set cells offset value) i value (rw length-set l)
          ∙ ap Some (get_or-set_other cells offset i value value (λ e. n e))
          ∙ sym (slice_get-get_or cells i value l)
      | inr l ↦ slice_get_past (set cells offset value) i (rw length-set l) ∙ sym (slice_get_past cells i l)
    ]

named_same : {C : Type 0} (block : Block C) (name : ℕ) → block.name ≡ name → if_named name (Some block) ≡ Some block
named_same block name e = cond-true (eqb block.name name) (Some block) None (eq-eqb block.name name e)

named_other : {C : Type 0} (block : Block C) (name : ℕ) → (block.name ≡ name → ⊥) → if_named name (Some block) ≡ None
named_other block name n = cond-false (eqb block.name name) (Some block) None (ne_eqb block.name name n)

-- the block that has the cell, by its name
has_name : {C : Type 0} (name offset : ℕ) (block : Block C) → is_some (cell_in offset (if_named name (Some block))) ≡ true → block.name ≡ name
has_name name offset block h =
    elim (cases_eq block.name name) [
      | inl e ↦ e
      | inr n ↦ absurd (false≢true (sym (ap (λ b. is_some (cell_in offset b)) (named_other block name n)) ∙ h))
    ]

put_in : {C : Type 0} (name offset : ℕ) (value : C) (found : Option (Block C)) → is_some (cell_in offset (if_named name found)) ≡ true → cell_in offset (if_named name (with_cell_in offset value (if_named name found))) ≡ Some value
put_in name offset value None h = absurd (false≢true h)
put_in name offset value (Some block) h =
    let e : block.name ≡ name = has_name name offset block h in
    let c : is_some (slice_get block.cells offset) ≡ true = rw (named_same block name e) at h in
    rw (named_same block name e)
    (ap (cell_in offset) (named_same (record { name = block.name; cells = set block.cells offset value }) name e)
    ∙ get-set_same block.cells offset value (in_list block.cells offset c))

put_beside : {C : Type 0} (name offset : ℕ) (value : C) (found : Option (Block C)) (name' offset' : ℕ) → is_some (cell_in offset (if_named name found)) ≡ true → (name ≢ name') ⊎ (offset ≢ offset') → cell_in offset' (if_named name' (with_cell_in offset value (if_named name found))) ≡ cell_in offset' (if_named name' found)
put_beside name offset value None name' offset' h other = absurd (false≢true h)
put_beside {C} name offset value (Some block) name' offset' h other =
    let e : block.name ≡ name = has_name name offset block h in
    rw (named_same block name e)
    (elim (cases_eq block.name name') [
      | inl d ↦
          ap (cell_in offset') (named_same changed name' d)
          ∙ get-set_other block.cells offset offset' value (λ same. elim other [ inl n ↦ n (sym e ∙ d) | inr n ↦ n (sym same) ])
          ∙ sym (ap (cell_in offset') (named_same block name' d))
      | inr n ↦ ap (cell_in offset') (named_other changed name' n) ∙ sym (ap (cell_in offset') (named_other block name' n))
    ])
  where
    changed : Block C
    changed = record { name = block.name; cells = set block.cells offset value }

live_in : {C : Type 0} (name offset : ℕ) (value : C) (found : Option (Block C)) (name' : ℕ) → is_some (cell_in offset (if_named name found)) ≡ true → is_some (if_named name' found) ≡ true → is_some (if_named name' (with_cell_in offset value (if_named name found))) ≡ true
live_in name offset value None name' h l = l
live_in name offset value (Some block) name' h l =
    let e : block.name ≡ name = has_name name offset block h in
    rw (named_same block name e)
    (elim (cases_eq block.name name') [
      | inl d ↦ ap is_some (named_same (record { name = block.name; cells = set block.cells offset value }) name' d)
      | inr n ↦ absurd (false≢true (sym (ap is_some (named_other block name' n)) ∙ l))
    ])

-- a slot that holds a block is one of the region's
within : {C : Type 0} (region : Region C) (slot name offset : ℕ) → is_some (cell_of region slot name offset) ≡ true → slot < length region.blocks
within region slot name offset h =
    elim (cases_lt slot (length region.blocks)) [
      | inl l ↦ l
      | inr l ↦ absurd (false≢true (sym (ap (λ b. is_some (cell_in offset (if_named name b))) (get_or_past region.blocks slot None l)) ∙ h))
    ]

changed_block : {C : Type 0} (region : Region C) (slot name offset : ℕ) (value : C) → is_some (cell_of region slot name offset) ≡ true → with_cell region slot name offset value ≡ with_block region slot (with_cell_in offset value (block_of region slot name))
changed_block region slot name offset value h = cond-true (is_some (cell_of region slot name offset)) (with_block region slot (with_cell_in offset value (block_of region slot name))) region h

unchanged : {C : Type 0} (region : Region C) (slot name offset : ℕ) (value : C) → is_some (cell_of region slot name offset) ≡ false → with_cell region slot name offset value ≡ region
unchanged region slot name offset value h = cond-false (is_some (cell_of region slot name offset)) (with_block region slot (with_cell_in offset value (block_of region slot name))) region h

pub cells_kept : (C : Type 0) → KeepsCells C
cells_kept C = record {
  put = λ region slot name offset value h.
      ap (λ r. cell_of r slot name offset) (changed_block region slot name offset value h)
      ∙ ap (λ b. cell_in offset (if_named name b)) (get_or-set_same region.blocks slot (with_cell_in offset value (block_of region slot name)) None (within region slot name offset h))
      ∙ put_in name offset value (get_or region.blocks slot None) h;
  put_elsewhere = λ region slot name offset value slot' name' offset' other.
      elim (cases_Bool (is_some (cell_of region slot name offset))) [
        | inl h ↦ ap (λ r. cell_of r slot' name' offset') (changed_block region slot name offset value h) ∙ beside region slot name offset value slot' name' offset' h other
        | inr h ↦ ap (λ r. cell_of r slot' name' offset') (unchanged region slot name offset value h)
      ];
  taken = λ region slot name cells offset l m.
      ap (λ b. cell_in offset (if_named name b)) (get_or-set_same region.blocks slot (Some (record { name = name; cells = replicate cells region.blank })) None l)
      ∙ ap (cell_in offset) (named_same (record { name = name; cells = replicate cells region.blank }) name refl)
      ∙ slice_get-get_or (replicate cells region.blank) offset region.blank (rw length-replicate m)
      ∙ ap Some (get_or-replicate cells offset region.blank region.blank m);
  taken_elsewhere = λ region slot block slot' name' offset' n.
      ap (λ b. cell_in offset' (if_named name' b)) (get_or-set_other region.blocks slot slot' block None (λ e. n (sym e)));
  live = λ region slot name offset value slot' name' l.
      elim (cases_Bool (is_some (cell_of region slot name offset))) [
        | inl h ↦ ap (λ r. is_some (block_of r slot' name')) (changed_block region slot name offset value h) ∙ still region slot name offset value slot' name' h l
        | inr h ↦ ap (λ r. is_some (block_of r slot' name')) (unchanged region slot name offset value h) ∙ l
      ];
}
  where
    beside : (region : Region C) (slot name offset : ℕ) (value : C) (slot' name' offset' : ℕ) → is_some (cell_of region slot name offset) ≡ true → (slot ≢ slot') ⊎ ((name ≢ name') ⊎ (offset ≢ offset')) → cell_of (with_block region slot (with_cell_in offset value (block_of region slot name))) slot' name' offset' ≡ cell_of region slot' name' offset'
    beside region slot name offset value slot' name' offset' h other =
        elim (cases_eq slot slot') [
          | inl e ↦
              ap (λ b. cell_in offset' (if_named name' b))
              (ap (λ s. get_or (set region.blocks slot (with_cell_in offset value (block_of region slot name))) s None) (sym e)
              ∙ get_or-set_same region.blocks slot (with_cell_in offset value (block_of region slot name)) None (within region slot name offset h))
              ∙ put_beside name offset value (get_or region.blocks slot None) name' offset' h (elim other [ inl n ↦ absurd (n e) | inr rest ↦ rest ])
              ∙ ap (λ s. cell_of region s name' offset') e
          | inr n ↦ ap (λ b. cell_in offset' (if_named name' b)) (get_or-set_other region.blocks slot slot' (with_cell_in offset value (block_of region slot name)) None (λ e. n (sym e)))
        ]

    still : (region : Region C) (slot name offset : ℕ) (value : C) (slot' name' : ℕ) → is_some (cell_of region slot name offset) ≡ true → is_some (block_of region slot' name') ≡ true → is_some (block_of (with_block region slot (with_cell_in offset value (block_of region slot name))) slot' name') ≡ true
    still region slot name offset value slot' name' h l =
        elim (cases_eq slot slot') [
          | inl e ↦
              ap (λ b. is_some (if_named name' b))
              (ap (λ s. get_or (set region.blocks slot (with_cell_in offset value (block_of region slot name))) s None) (sym e)
              ∙ get_or-set_same region.blocks slot (with_cell_in offset value (block_of region slot name)) None (within region slot name offset h))
              ∙ live_in name offset value (get_or region.blocks slot None) name' h (ap (λ s. is_some (block_of region s name')) e ∙ l)
          | inr n ↦ ap (λ b. is_some (if_named name' b)) (get_or-set_other region.blocks slot slot' (with_cell_in offset value (block_of region slot name)) None (λ e. n (sym e))) ∙ l
        ]
