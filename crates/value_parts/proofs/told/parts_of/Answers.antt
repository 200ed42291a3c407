use Rattle.value_parts.proofs.Structure.{counted_there}
use Rattle.value.proofs.Values.{value_within}
use native.Mathlib.Omega.{arith}
use mathlib.Core.Path.{sym, ◌∙◌}
use Rattle.value_parts.proofs.told.parts_of.Goals as goal

pub overflow_add-items : goal.overflow_add-items
overflow_add-items c =
    omega (arith, (value_within 100 24 c.args.s.now c.args.at c.requires).0)

pub overflow_add-first : goal.overflow_add-first
overflow_add-first c =
    omega (arith, counted_there 99 c.args.s.now c.args.at c.requires (sym c.is_counted.ensures ∙ c.if-is_counted.true))
