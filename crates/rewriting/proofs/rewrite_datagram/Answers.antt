use Rattle.network_message.proofs.Lent.{bytes}
use Rattle.rewriting.proofs.Copied.{place_fits, datagram_copied, datagram_with, datagram_said, was_ok}
use Rattle.wire.proofs.Reading.{told}
use Rattle.network_message.specs.Envelope.{answer_network_message}
use Prim.Native.Nat.{ℕ, ◌+◌}
use native.Mathlib.Omega.{arith}
use mathlib.Core.Path.{sym, ap, ◌∙◌}
use Rattle.rewriting.proofs.rewrite_datagram.Goals as goal

pub overflow_add-places : goal.overflow_add-places
overflow_add-places c =
    let args = c.args in
    let fits = place_fits args.sizes.now args.datagram.now _ _ (bytes args.datagram.now c.shared_slice_known-1.given)
    (sym (told answer_network_message c.read-read.ensures (was_ok c.read-read.result c.in_ok-envelope.ensures.cases))) in
    omega (arith, fits, c.size_of.ensures.0)

pub returns-then-not-publisher_on : goal.returns-then-not-publisher_on
returns-then-not-publisher_on c =
    let args = c.args in
    let known = bytes args.datagram.now c.shared_slice_known-1.given in
    (known, datagram_said args.sizes.now args.datagram.now args.out.now _ _ known c.rewrite.ensures.1)

pub returns-in-None : goal.returns-in-None
returns-in-None c =
    let args = c.args in
    let known = bytes args.datagram.now c.shared_slice_known-1.given in (
      known,
      datagram_copied args.sizes.now args.datagram.now args.out.now _ _ _ _ known
          (sym (told answer_network_message c.read-read.ensures (was_ok c.read-read.result c.in_ok-envelope.ensures.cases)))
          (sym c.publisher_on.ensures ∙ c.if-not-publisher_on.false)
          c.in-None.is c.copy_whole.ensures,
    )

pub returns-in-Some : goal.returns-in-Some
returns-in-Some c =
    let args = c.args in
    let known = bytes args.datagram.now c.shared_slice_known-1.given in (
      known,
      datagram_with args.sizes.now args.datagram.now args.out.now _ _ _ _ known
          (sym (told answer_network_message c.read-read.ensures (was_ok c.read-read.result c.in_ok-envelope.ensures.cases)))
          (sym c.publisher_on.ensures ∙ c.if-not-publisher_on.false) _ _
          c.in-Some.is
          (ap (λ (n : ℕ). c.in_ok-envelope.places.payload_header_end + n) c.size_of.ensures.0) c.copy_with.ensures,
    )
