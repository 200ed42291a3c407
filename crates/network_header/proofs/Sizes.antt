-- What ids that are not refused tell of their Count.
-- Assumes nothing.
use mathlib.Core.Path.{◌≡◌}
use mathlib.Core.List.{List}
use Prim.Native.Nat.{ℕ, ◌*◌, ◌<◌}
use lib.ListN.{length}
use mathlib.Core.Bool.{Bool, false, cond}
use lib.Dec.{eqb, leb}
use borrow.Author.Tests.{eqb-true, leb-false}
use Rattle.network_header.specs.declared.header.PayloadHeader.{PayloadHeader}
use Rattle.wire_writer.proofs.Refusals.{passed, held}
use Rattle.network_header.specs.Header.{count_shape, ids_shape}

-- a count that is not refused, and as many ids
pub ids_counted : (chunk : Bool) (n : ℕ) (ids configured : List ℕ) → ids_shape chunk (PayloadHeader.Ids n) ids configured ≡ 0 → (chunk ≡ false) × (n < 256) × (length ids ≡ 2 * n)
ids_counted chunk n ids configured b =
    let q1 = passed chunk 5 (count_shape n (length ids)) b in
    let q2 = passed (leb 256 n) 5 (cond (eqb (length ids) (2 * n)) 0 6) q1.1 in
    (q1.0, leb-false 256 n q2.0, eqb-true (length ids) (2 * n) (held (eqb (length ids) (2 * n)) 5 q2.1))
