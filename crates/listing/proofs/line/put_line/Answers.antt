use native.Mathlib.Omega.{arith}
use Rattle.listing.proofs.Putting.{long, narrow, done}
use mathlib.Core.Path.{sym, ◌∙◌}
use Rattle.listing.proofs.line.put_line.Goals as goal

pub returns-then-too_long : goal.returns-then-too_long
returns-then-too_long c =
    let args = c.args in
    let f = long args.out.now args.s.now args.line (sym c.too_long.ensures ∙ c.if-too_long.true) in
    (f.0, f.1, f.2, λ i. omega (arith, c.shared_slice_known-1.given i))

pub returns-then-out-lt256 : goal.returns-then-out-lt256
returns-then-out-lt256 c =
    let args = c.args in
    let f = narrow args.out.now args.s.now args.line (sym c.too_long.ensures ∙ c.if-too_long.false) c.if-out-lt256.true in
    (f.0, f.1, f.2, λ i. omega (arith, c.shared_slice_known-1.given i))

pub returns : goal.returns
returns c =
    let args = c.args in
    let f = done args.out.now args.s.now args.line _ _ (sym c.too_long.ensures ∙ c.if-too_long.false) (omega arith) c.put.ensures in
    (f.0, f.1, f.2, λ i. omega (arith, c.shared_slice_known-1.given i))
