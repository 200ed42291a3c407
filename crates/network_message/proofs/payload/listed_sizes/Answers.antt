use Prim.Native.Nat.{◌*◌, ◌+◌}
use mathlib.Core.Path.{◌≡◌, sym, ap, ◌∙◌}
use native.Mathlib.Omega.{arith}
use lib.ListN.{length}
use borrow.Author.Tests.{not-true, not-false, eq-eqb, ne_eqb}
use Rattle.wire.specs.Lists.{total}
use Rattle.network_message.specs.Payload.{all_positive, listed}
use Rattle.wire.proofs.Reading.{holds, room}
use Rattle.network_message.proofs.Tallies.{listed_tail}
use Rattle.network_message.proofs.payload.listed_sizes.Goals as goal

pub returns-then-not-tally : goal.returns-then-not-tally
returns-then-not-tally c =
    let args = c.args in
    let sizes = listed_tail args.n args.s.now _ args.at c.tail.ensures in
    rw (
      holds c.has.result (args.at + 2 * args.n) (length args.s.now) c.has.ensures c.if-not-has.false-raw,
      sym (c.tally_whole-tally.ensures.1 ∙ ap all_positive sizes)
          ∙ not-true c.tally_whole-tally.result.positive c.if-not-tally.true,
      c.at-then-not-tally.ensures,
    )

pub returns-then-tally-s : goal.returns-then-tally-s
returns-then-tally-s c =
    let args = c.args in
    let sizes = listed_tail args.n args.s.now _ args.at c.tail.ensures in
    let h = room c.has.result (args.at + 2 * args.n) (length args.s.now) c.has.ensures c.if-not-has.false-raw in
    let n : args.at + 2 * args.n + total (listed args.n args.s.now args.at) ≡ length args.s.now → ⊥ =
    λ e. c.if-tally-s.true (omega (arith, c.tally_whole-tally.ensures.0 ∙ ap total sizes)) in rw (
      holds c.has.result (args.at + 2 * args.n) (length args.s.now) c.has.ensures c.if-not-has.false-raw,
      sym (c.tally_whole-tally.ensures.1 ∙ ap all_positive sizes)
          ∙ not-false c.tally_whole-tally.result.positive c.if-not-tally.false,
      ne_eqb _ _ n,
      c.at-then-tally-s.ensures,
    )

pub returns : goal.returns
returns c =
    let args = c.args in
    let sizes = listed_tail args.n args.s.now _ args.at c.tail.ensures in
    let h = room c.has.result (args.at + 2 * args.n) (length args.s.now) c.has.ensures c.if-not-has.false-raw in
    let n : args.at + 2 * args.n + total (listed args.n args.s.now args.at) ≡ length args.s.now =
    omega (arith, c.tally_whole-tally.ensures.0 ∙ ap total sizes, c.if-tally-s.false) in
    rw (
      holds c.has.result (args.at + 2 * args.n) (length args.s.now) c.has.ensures c.if-not-has.false-raw,
      sym (c.tally_whole-tally.ensures.1 ∙ ap all_positive sizes)
          ∙ not-false c.tally_whole-tally.result.positive c.if-not-tally.false,
      eq-eqb _ _ n,
    )
