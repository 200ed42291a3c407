use Rattle.walk.proofs.Listing.{field_passed, offset_fits}
use native.Mathlib.Omega.{arith}
use Rattle.dataset_fields.specs.Fields.{answer_field_step}
use Rattle.wire.proofs.Reading.{told}
use mathlib.Core.Path.{sym}
use Rattle.walk.proofs.lines.field_line.Goals as goal

pub overflow_add-field : goal.overflow_add-field
overflow_add-field c =
    omega (
      arith,
      c.well_formed.0,
      offset_fits c.args.s.now
          c.part.result.now
          c.args.p.offset
          c.args.p.length
          c.in-Ok.x.offset c.part.ensures
          (field_passed c.args.f
          c.types_of.result.now
          c.part.result.now _ _
          (sym (told answer_field_step c.step.ensures c.in-Ok.is))).offset,
    )
