use native.Mathlib.Omega.{arith}
use Prim.Native.Nat.{◌+◌}
use mathlib.Core.Path.{◌≡◌}
use lib.Count.{count_trailing_zeros}
use Rattle.wire.proofs.Cases.{by_lt}
use Rattle.marks.specs.Offsets.{wanted}
use Rattle.marks.specs.Marks.{in_use, marked}
use Rattle.marks.proofs.LookLaws.{seen_none, seen_before, seen_first}
use Rattle.marks.proofs.NextLaws.{next_is}
use Rattle.marks.proofs.next.next_wanted.Goals as goal

pub returns-then-seen-ne0 : goal.returns-then-seen-ne0
returns-then-seen-ne0 c =
    let args = c.args in
    next_is (λ j. wanted args.want (marked in_use args.marks.now j)) args.stop args.from (c.loop-i.i + c.min.result)
    (record {
      from = omega (arith, c.loop-i.invariant.0);
      upto = λ u. absurd (omega (arith, c.min.ensures));
      none = λ j l u. by_lt _ j c.loop-i.i (λ x. c.loop-i.invariant.2 j l x)
          (λ x. seen_before (λ j. wanted args.want (marked in_use args.marks.now j)) c.loop-i.i c.look-seen.result.told c.look-seen.result.bits c.look-seen.ensures.0
          (omega (arith, c.struct_known-1.given)) c.if-seen-ne0.true j x (omega (arith, c.min.ensures)));
      some = λ l. let q : c.min.result ≡ count_trailing_zeros 64 c.look-seen.result.bits = omega (arith, c.min.ensures) in
          rw q (seen_first (λ j. wanted args.want (marked in_use args.marks.now j)) c.loop-i.i c.look-seen.result.told c.look-seen.result.bits c.look-seen.ensures.0
          (omega (arith, c.struct_known-1.given)) c.if-seen-ne0.true);
    })

pub returns-then-stop-i : goal.returns-then-stop-i
returns-then-stop-i c =
    let args = c.args in
    next_is (λ j. wanted args.want (marked in_use args.marks.now j)) args.stop args.from args.stop
    (record {
      from = omega (arith, c.loop-i.invariant.0);
      upto = λ u. absurd (omega arith);
      none = λ j l u. by_lt _ j c.loop-i.i (λ x. c.loop-i.invariant.2 j l x)
          (λ x. seen_none (λ j. wanted args.want (marked in_use args.marks.now j)) c.loop-i.i c.look-seen.result.told c.look-seen.result.bits c.look-seen.ensures.0
          c.if-seen-ne0.false j x (omega (arith, c.if-stop-i.true)));
      some = λ l. absurd (omega arith);
    })

pub loop-i-preserved : goal.loop-i-preserved
loop-i-preserved c =
    let args = c.args in (
      omega (arith, c.loop-i.invariant.0, c.pass_eights-i.ensures.0),
      (λ l. absurd (omega (arith, c.pass_eights-i.ensures.1))),
      λ j l u. by_lt _ j c.loop-i.i (λ x. c.loop-i.invariant.2 j l x)
          (λ x. by_lt _ j (c.loop-i.i + c.look-seen.result.told)
          (λ y. seen_none (λ j. wanted args.want (marked in_use args.marks.now j)) c.loop-i.i c.look-seen.result.told
          c.look-seen.result.bits c.look-seen.ensures.0 c.if-seen-ne0.false j x y)
          (λ y. c.pass_eights-i.ensures.2 j y u)),
    )

pub returns : goal.returns
returns c =
    let args = c.args in
    next_is (λ j. wanted args.want (marked in_use args.marks.now j)) args.stop args.from c.loop-i.i
    (record { from = c.loop-i.invariant.0; upto = c.loop-i.invariant.1; none = c.loop-i.invariant.2; some = λ l. absurd (omega arith) })
