use Rattle.listing.proofs.OnePass.{same, told_all, told_refused, told_more, offset_fits}
use Rattle.wire.specs.Refusal.{answer}
use mathlib.Core.Path.{sym}
use Rattle.wire.proofs.Reading.{told}
use native.Mathlib.Omega.{arith}
use Rattle.listing.proofs.quick.put_fields.Goals as goal

pub returns-in-Err : goal.returns-in-Err
returns-in-Err c =
    let args = c.args in
    told_refused args.types.now args.message.now args.p args.c args.first args.out.now c.loop-i.out
    c.loop-i.at c.loop-i.i c.loop-i.end c.loop-i.invariant _
    c.loop-i-test.true (sym (told answer c.read_field.ensures c.in-Err.is))

pub put_field-end-requires : goal.put_field-end-requires
put_field-end-requires c = (
  omega (
    arith,
    c.loop-i.invariant.within,
    same c.args.types.now c.args.message.now c.args.p c.args.c c.args.first
        c.args.out.now c.loop-i.out c.loop-i.at c.loop-i.i c.loop-i.end c.loop-i.invariant,
  ),
  offset_fits c.args.types.now c.args.message.now c.args.p c.args.c c.args.first
      c.args.out.now c.loop-i.out c.loop-i.at c.loop-i.i c.loop-i.end c.loop-i.invariant
      c.loop-i-test.true (sym (told answer c.read_field.ensures c.in-Ok.is)) c.requires.1,
)

pub loop-i-preserved : goal.loop-i-preserved
loop-i-preserved c =
    let args = c.args in
    told_more args.types.now args.message.now args.p args.c args.first args.out.now c.loop-i.out
    c.loop-i.at c.loop-i.i c.loop-i.end c.loop-i.invariant
    c.loop-i-test.true (sym (told answer c.read_field.ensures c.in-Ok.is)) _ _
    (omega (
      arith,
      c.loop-i.invariant.within,
      same args.types.now args.message.now args.p args.c args.first args.out.now c.loop-i.out
          c.loop-i.at c.loop-i.i c.loop-i.end c.loop-i.invariant,
    )) c.put_field-end.ensures

pub returns : goal.returns
returns c =
    let args = c.args in
    told_all args.types.now args.message.now args.p args.c args.first args.out.now c.loop-i.out
    c.loop-i.at c.loop-i.i c.loop-i.end c.loop-i.invariant c.loop-i-test.false
