use native.Mathlib.Omega.{arith}
use Rattle.listing.proofs.Putting.{put_tabbed}
use Rattle.text.proofs.Putting.{hex_length}
use Rattle.listing.proofs.columns.hex.Goals as goal

pub returns : goal.returns
returns c =
    let args = c.args in
    put_tabbed 128 _ _ _ _ _ _ (omega (arith, hex_length args.bytes.now)) (omega arith) c.tab.ensures c.put_hex.ensures
