use Prim.Native.Nat.{◌+◌, ◌-◌}
use Rattle.listing.specs.Text.{line_out}
use native.Mathlib.Omega.{arith}
use Rattle.listing.proofs.Blocks.{in_place}
use Rattle.listing.proofs.block.place_line.Goals as goal

pub returns : goal.returns
returns c =
    let args = c.args in
    in_place args.out.now _ (line_out args.s.now args.line) args.at c.line_in-n.result
    (args.at + 256 - args.at) (omega arith) c.line_in-n.ensures.0 (omega arith) (omega arith) c.line_in-n.ensures.1
