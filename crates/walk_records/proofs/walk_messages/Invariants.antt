use Prim.Native.Nat.{◌+◌}
use mathlib.Core.Path.{◌≡◌}
use lib.ListN.{length}
use Rattle.config.specs.Writers.{lists_in}
use Rattle.walk.specs.Lines.{messages_left}
use Rattle.walk_records.specs.Parts.{bare}
use Rattle.walk_records.specs.Walk.{messages_from, payload_records, records_put}
use Rattle.walk_records.proofs.walk_messages.Given as goal

abbrev pub invariant-loop-p : goal.invariant-loop-p
invariant-loop-p l =
    (length l.out ≡ length l.initial.out)
    × ((records_put l.k (messages_from (lists_in l.w) l.s (messages_left (bare l.header l.end l.payload) l.c) (bare l.header l.end l.payload) l.c) l.out ≡ records_put 0
    (payload_records (lists_in l.w) l.s (bare l.header l.end l.payload)) l.initial.out)
    × (l.k + length (messages_from (lists_in l.w) l.s (messages_left (bare l.header l.end l.payload) l.c) (bare l.header l.end l.payload) l.c) ≡ length
    (payload_records (lists_in l.w) l.s (bare l.header l.end l.payload))))

abbrev pub decreases-loop-p : goal.decreases-loop-p
decreases-loop-p l = messages_left (bare l.header l.end l.payload) l.c
