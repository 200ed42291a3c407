use native.Mathlib.Omega.{arith}
use Rattle.wire.proofs.Reading.{told}
use Rattle.wire.specs.Refusal.{answer}
use Rattle.walk_records.proofs.Fields.{encoded_as, going_refused, going_end, going_on, next_fits, offset_fits}
use Rattle.walk_records.proofs.walk_each.Goals as goal

pub returns-in-Err : goal.returns-in-Err
returns-in-Err g c =
    let a = c.args in
    let found = encoded_as a.c g.V.Values.ENCODING a.types.now c.loop-i.i a.message.now c.loop-i.at c.requires.2 (told answer c.field.ensures c.in-Err.is) in
    going_refused a.types.now a.message.now a.p a.c a.first a.out.now c.loop-i.out c.loop-i.at c.loop-i.i c.loop-i.k c.loop-i.invariant _ c.loop-i-test.true found

pub put_field-requires : goal.put_field-requires
put_field-requires g c =
    let a = c.args in
    let found = encoded_as a.c g.V.Values.ENCODING a.types.now c.loop-i.i a.message.now c.loop-i.at c.requires.2 (told answer c.field.ensures c.in-Ok.is) in
    offset_fits a.types.now a.message.now a.p a.c a.first a.out.now c.loop-i.out c.loop-i.at c.loop-i.i c.loop-i.k c.loop-i.invariant c.loop-i-test.true found c.requires.1

pub overflow_add-k : goal.overflow_add-k
overflow_add-k g c =
    let a = c.args in
    let found = encoded_as a.c g.V.Values.ENCODING a.types.now c.loop-i.i a.message.now c.loop-i.at c.requires.2 (told answer c.field.ensures c.in-Ok.is) in
    let fits = next_fits a.types.now a.message.now a.p a.c a.first a.out.now c.loop-i.out c.loop-i.at c.loop-i.i c.loop-i.k c.loop-i.invariant c.loop-i-test.true found c.requires.0 in
    omega (arith, fits)

pub loop-i-preserved : goal.loop-i-preserved
loop-i-preserved g c =
    let a = c.args in
    let found = encoded_as a.c g.V.Values.ENCODING a.types.now c.loop-i.i a.message.now c.loop-i.at c.requires.2 (told answer c.field.ensures c.in-Ok.is) in
    going_on a.types.now a.message.now a.p a.c a.first a.out.now c.loop-i.out c.loop-i.at c.loop-i.i c.loop-i.k c.loop-i.invariant c.loop-i-test.true found _ c.put_field.ensures

pub returns : goal.returns
returns g c =
    let a = c.args in
    going_end a.types.now a.message.now a.p a.c a.first a.out.now c.loop-i.out c.loop-i.at c.loop-i.i c.loop-i.k c.loop-i.invariant c.loop-i-test.false
