use Rattle.chunk.proofs.CutLaws.{cuts, data_most, refused_way, short_way, done_way}
use lib.ListN.{length}
use native.Mathlib.Omega.{arith}
use mathlib.Core.Path.{sym, ap}
use Rattle.std.proofs.Common.{rules}
use Rattle.chunk.proofs.cut.cut.Goals as goal

pub returns-in_err-cut_rule : goal.returns-in_err-cut_rule
returns-in_err-cut_rule c =
    let a = c.args in
    let f = refused_way a.payload.now a.number a.size a.k a.out.now _ c.in_err-cut_rule.ensures in
    (rw (sym f.0) (search rules), f.1, omega (arith, c.ranges.number))

pub overflow_mul-offset : goal.overflow_mul-offset
overflow_mul-offset c =
    let args = c.args in
    let a = args in
    let c₁ = cuts (length a.payload.now) a.size a.k (sym c.in_ok-cut_rule.ensures) in
    omega (arith, c₁.inside, c₁.small)

pub returns-then-out-length : goal.returns-then-out-length
returns-then-out-length c =
    let a = c.args in
    let f = short_way a.payload.now a.number a.size a.k a.out.now (sym c.in_ok-cut_rule.ensures)
    (omega (arith, c.if-out-length.true, ap length c.part-bytes.ensures)) in
    (f.0, f.1, omega (arith, c.ranges.number))

pub put_payload-requires : goal.put_payload-requires
put_payload-requires c =
    let args = c.args in
    let a = args in
    let c₁ = cuts (length a.payload.now) a.size a.k (sym c.in_ok-cut_rule.ensures) in
    let d = data_most a.payload.now a.size a.k in
    (omega (arith, c₁.inside, c₁.small), omega (arith, c₁.small), omega (arith, c₁.small, d, ap length c.part-bytes.ensures), omega (arith, c.if-out-length.false))

pub returns : goal.returns
returns c =
    let a = c.args in
    let f = done_way a.payload.now a.number a.size a.k a.out.now (sym c.in_ok-cut_rule.ensures) _ _
    c.part-bytes.ensures c.if-out-length.false c.put_payload.ensures in
    (f.0, f.1, omega (arith, c.ranges.number))
