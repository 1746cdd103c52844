-- Ghost code and assertions (ACSL, ghost variables and statements; assertions).
-- Ghost code makes no step and can't fault. It writes ghost variables alone, and sees the memory, the registers of its activation and the ghost variables.
use Rattle.std.specs.Prelude.{ℕ, Bool, cond, if◌then◌else◌, List, [], ◌∷◌, Option, Some, None, option_and_then}
use Rattle.step_meaning.specs.declared.value.CType.{CType}
use Rattle.step_meaning.specs.declared.value.CType.TheVariants as type
use Rattle.step_meaning.specs.declared.value.NameKind.{NameKind}
use Rattle.step_meaning.specs.declared.value.NameKind.TheVariants as names
use Rattle.step_meaning.specs.declared.value.Value.{Value}
use Rattle.step_meaning.specs.declared.value.Value.TheVariants as value
use Rattle.step_meaning.specs.declared.value.Cell.{Cell}
use Rattle.step_meaning.specs.declared.value.Cell.TheVariants.{Nothing, Holds}
use Rattle.step_meaning.specs.declared.expr.Variable.{Variable}
use Rattle.step_meaning.specs.declared.predicate.Event.TheVariants as event
use Rattle.step_meaning.specs.declared.predicate.Predicate.{Predicate}
use Rattle.step_meaning.specs.declared.stmt.GhostStmt.{GhostStmt, Row_of-GhostStmt, end_of-GhostStmt, more_of-GhostStmt}
use Rattle.step_meaning.specs.declared.stmt.GhostStmt.TheVariants.{Set, When'}
use Rattle.step_meaning.specs.declared.program.Layout.{Layout}
use Rattle.step_meaning.specs.Numbers.{is_in_range}
use Rattle.step_meaning.specs.Memory.{Memory, Block, file_block, frame_block, set_cell, at_block, at_frame}
use Rattle.step_meaning.specs.State.{Here, Registers}
use Rattle.step_meaning.specs.Views.{Sight, no_memory}
use Rattle.step_meaning.specs.Terms.{scalar_value, value_of}
use Rattle.step_meaning.specs.Predicates.{holds}

-- what ghost code sees: no step, and so no access, no call, no event and no Enter memory
abbrev pub ghost_sight : List Layout → Here → Memory → Registers → Memory → Sight
ghost_sight layouts here memory registers ghosts =
    record {
      layouts = layouts;
      memory = memory;
      ghosts = ghosts;
      registers = registers;
      before = no_memory;
      activation = here.activation;
      accessed = None;
      called = None;
      event = event.Nothing;
      arguments = [];
      result = None;
    }

-- ---- a ghost assignment

-- a ghost variable of an integer type holds an integer in its range, one of a pointer type a pointer
abbrev pub in_ghost : CType → Value → Cell
in_ghost (type.Int k) (value.Int z) = if is_in_range k z then Holds (value.Int z) else Nothing
in_ghost (type.Pointer' b t) value.Null = Holds value.Null
in_ghost (type.Pointer' b t) (value.Pointer n o) = Holds (value.Pointer n o)
in_ghost _ v = Nothing

-- what the variable holds after the assignment, whatever it held before: nothing where the term is undefined, is an integer outside the variable's range, or is a pointer whose offset isn't 0 to 2 ^ 32 - 1
abbrev pub ghost_cell : CType → Option Value → Cell
ghost_cell t None = Nothing
ghost_cell t (Some v) = in_ghost t v

abbrev pub declared_in : Option Block → CType
declared_in (Some (s ∷ b)) = s.declared
declared_in _ = type.Void

-- the type of a ghost variable
abbrev pub ghost_type : Memory → NameKind → ℕ → ℕ → CType
ghost_type ghosts names.GhostGlobal a i = declared_in (file_block ghosts 0 i)
ghost_type ghosts names.GhostLocal a i = declared_in (frame_block ghosts a i)
ghost_type ghosts _ a i = type.Void

-- the ghost variables after one of them was set. A variable that is no ghost stays as it is
abbrev pub ghost_put : Memory → NameKind → ℕ → ℕ → Cell → Memory
ghost_put ghosts names.GhostGlobal a i c = record ghosts { globals = at_block (set_cell c 0) i ghosts.globals }
ghost_put ghosts names.GhostLocal a i c = record ghosts { frames = at_frame (at_block (set_cell c 0) i) a ghosts.frames }
ghost_put ghosts _ a i c = ghosts

-- ---- ghost code in a view, whose ghost variables are those so far

module _ (s : Sight) where
  abbrev pub sight_with : Memory → Sight
  sight_with ghosts = record s { ghosts = ghosts }

  abbrev pub ghost_set : Variable → Option Value → Memory → Memory
  ghost_set v new ghosts = ghost_put ghosts v.kind s.activation v.index (ghost_cell (ghost_type ghosts v.kind s.activation v.index) new)

  abbrev mutual
    -- the ghost variables as ghost code leaves them
    pub ghosts_by : GhostStmt → Memory → Memory
    ghosts_by (Set v e) ghosts = ghost_set v (option_and_then scalar_value (value_of (sight_with ghosts) e)) ghosts
    ghosts_by (When' r a g b h) ghosts = cond (holds (sight_with ghosts) r) (ghosts_by_all g ghosts) (ghosts_by_all h ghosts)

    pub ghosts_by_all : {n : _} → Row_of-GhostStmt n → Memory → Memory
    ghosts_by_all end_of-GhostStmt ghosts = ghosts
    ghosts_by_all (more_of-GhostStmt g more) ghosts = ghosts_by_all more (ghosts_by g ghosts)

-- ---- the same in a program

module _ (layouts : List Layout) (here : Here) (memory : Memory) (registers : Registers) where
  -- the ghost variables after ghost code
  abbrev pub ghosts_after : GhostStmt → Memory → Memory
  ghosts_after g ghosts = ghosts_by (ghost_sight layouts here memory registers ghosts) g ghosts

  -- the truth of an assertion
  abbrev pub assertion_holds : Memory → Predicate → Bool
  assertion_holds ghosts r = holds (ghost_sight layouts here memory registers ghosts) r
