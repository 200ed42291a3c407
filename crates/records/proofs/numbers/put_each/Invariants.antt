use Rattle.records.specs.Numbers.{all_bytes}
use lib.ListN.{length, drop}
use lib.Seq.{sets}
use mathlib.Core.Path.{◌≡◌}
use Prim.Native.Nat.{◌≤◌, ◌+◌}
use Rattle.records.proofs.numbers.put_each.Given as goal

abbrev pub invariant-loop-item : goal.invariant-loop-item
invariant-loop-item g l = record {
  room : l.at + length (all_bytes g.T.Store.bytes (drop l.item-index l.items)) ≤ length l.out;
  stored : sets l.out l.at (all_bytes g.T.Store.bytes (drop l.item-index l.items)) ≡ sets l.initial.out l.start (all_bytes g.T.Store.bytes l.items);
}
