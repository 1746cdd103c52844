use Rattle.std.proofs.Common.{map, sym, ◌∙◌}
use Rattle.typing_declarators.specs.Layers.{layer}
use Rattle.typing_functions.proofs.Pointers.{lone_pointer, no_lone_pointer}
use Rattle.typing_functions.proofs.layers.is_void_pointer.Goals as goal

pub returns-then-is_pointer : goal.returns-then-is_pointer
returns-then-is_pointer c = c.is_void.ensures ∙ sym (lone_pointer (map layer c.args.layers.now) c.args.base.now (sym c.is_pointer.ensures ∙ c.if-is_pointer.true))

pub returns-else-is_pointer : goal.returns-else-is_pointer
returns-else-is_pointer c = c.if-is_pointer.false ∙ sym (no_lone_pointer (map layer c.args.layers.now) c.args.base.now c.requires (sym c.is_pointer.ensures ∙ c.if-is_pointer.false))
