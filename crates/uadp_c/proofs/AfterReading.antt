-- What `uadp_write` refuses, in order: reading's numbers, then 6 for a number that does not fit its item, then 6 for what would read back
-- otherwise. (`fitting` tells it shorter, since the last two are one number.)
-- Assumes nothing.
use Rattle.std.specs.Prelude.{Option, Some, None}
use Prim.Native.Nat.{ℕ, ◌*◌}
use mathlib.Core.Path.{◌≡◌, refl, ap}
use mathlib.Core.Bool.{Bool, true, false, cond}
use mathlib.Core.List.{List}
use lib.Dec.{eqb, leb}
use lib.ListN.{length, take}
use Rattle.wire_writer.specs.Writing.{refusing, unless, or_else}
use Rattle.wire_writer.proofs.Refusals.{no}
use Rattle.publisher_id.specs.declared.publisher.PublisherId.{PublisherId}
use Rattle.publisher_id.specs.Publisher.{publisher_shape}
use Rattle.network_header.specs.declared.header.PayloadHeader.{PayloadHeader}
use Rattle.network_header.specs.declared.envelope.Envelope.{Envelope}
use Rattle.network_header.specs.Numbers.{configured_sizes, same_numbers}
use Rattle.network_header.specs.Header.{count_shape, ids_shape, promoted_shape}
use Rattle.network_message.specs.WriterPayload.{lengths_shape}
use Rattle.network_message.specs.Writer.{GivenDatagram, datagram_of, datagram_reading_refusal, shape_refusal, datagram_output}
use Rattle.uadp_c.specs.Writing.{fitting}

-- a refusal, if it is one, is by 6
abbrev Six : ℕ → Type 0
Six n = eqb n 0 ≡ false → n ≡ 6

of_either : (b : Bool) (m n : ℕ) → Six m → Six n → Six (cond b m n)
of_either true m n f g = f
of_either false m n f g = g

none : Six 0
none h = absurd (no h)

six : Six 6
six h = refl

held : (b : Bool) → Six (cond b 0 6)
held b = of_either b 0 6 none six

of_two : (a b : ℕ) → Six a → Six b → Six (or_else a b)
of_two a b f g = go (eqb a 0) refl
  where
    go : (t : Bool) → eqb a 0 ≡ t → Six (cond t b a)
    go true e = g
    go false e = f

publisher_six : (p : PublisherId) (n : ℕ) → Six (publisher_shape p n)
publisher_six PublisherId.Absent n = held (eqb n 0)
publisher_six (PublisherId.Byte v) n = held (eqb n 0)
publisher_six (PublisherId.UInt16 v) n = held (eqb n 0)
publisher_six (PublisherId.UInt32 v) n = held (eqb n 0)
publisher_six (PublisherId.UInt64 v) n = held (eqb n 0)
publisher_six (PublisherId.Text k) n = held (eqb k n)

ids_six : (chunk : Bool) (x : PayloadHeader) (ids configured : List ℕ) → Six (ids_shape chunk x ids configured)
ids_six chunk PayloadHeader.Absent ids configured = held (same_numbers ids (take 16 configured))
ids_six chunk (PayloadHeader.Ids n) ids configured =
    of_either chunk 6 (count_shape n (length ids)) six (of_either (leb 256 n) 6 (cond (eqb (length ids) (2 * n)) 0 6) six (held (eqb (length ids) (2 * n))))
ids_six chunk (PayloadHeader.Chunk w) ids configured = of_either chunk (cond (eqb (length ids) 0) 0 6) 6 (held (eqb (length ids) 0)) six
ids_six chunk PayloadHeader.Probe ids configured = held (eqb (length ids) 0)

promoted_six : (x : Option ℕ) (n : ℕ) → Six (promoted_shape x n)
promoted_six None n = held (eqb n 0)
promoted_six (Some k) n = of_either (leb 65536 k) 6 (cond (eqb k n) 0 6) six (held (eqb k n))

lengths_six : (x : PayloadHeader) (lengths sizes : List ℕ) → Six (lengths_shape x lengths sizes)
lengths_six PayloadHeader.Absent lengths sizes =
    of_either (leb (length (configured_sizes sizes)) 1) (cond (eqb (length lengths) 0) 0 6) (cond (same_numbers lengths (configured_sizes sizes)) 0 6)
    (held (eqb (length lengths) 0)) (held (same_numbers lengths (configured_sizes sizes)))
lengths_six (PayloadHeader.Ids n) lengths sizes = of_either (leb n 1) (cond (eqb (length lengths) 0) 0 6) 0 (held (eqb (length lengths) 0)) none
lengths_six (PayloadHeader.Chunk w) lengths sizes = held (eqb (length lengths) 0)
lengths_six PayloadHeader.Probe lengths sizes = held (eqb (length lengths) 0)

shape_six : (g : GivenDatagram) (x : Envelope) (sizes configured : List ℕ) → Six (shape_refusal g x sizes configured)
shape_six g x sizes configured =
    let a = publisher_six x.publisher (length g.text) in
    let b = ids_six x.chunk x.payload_header g.ids configured in
    let c = promoted_six x.promoted (length g.promoted) in
    let d = lengths_six x.payload_header g.lengths sizes in
    of_two _ _ a (of_two _ _ b (of_two _ _ c d))

in_order : (b : Bool) (reading shape : ℕ) (bytes : List ℕ) → Six shape
    → fitting b (unless (or_else reading shape) bytes) ≡ unless (or_else reading (or_else (cond b 0 6) shape)) bytes
in_order true reading shape bytes h = refl
in_order false reading shape bytes h = go (eqb reading 0) (eqb shape 0) refl refl
  where
    go : (r s : Bool) → eqb reading 0 ≡ r → eqb shape 0 ≡ s
        → fitting false (unless (or_else reading shape) bytes) ≡ unless (or_else reading (or_else 6 shape)) bytes
    go true true e f = rw (e, f)
    go true false e f = rw (e, f) (ap refusing (h f))
    go false s e f = rw (e, e)

pub after_reading_lem : (b : Bool) (g : GivenDatagram) (x : Envelope) (sizes configured : List ℕ)
    → fitting b (datagram_output g x sizes configured)
    ≡ unless (or_else (datagram_reading_refusal g x sizes) (or_else (cond b 0 6) (shape_refusal g x sizes configured))) (datagram_of g x)
after_reading_lem b g x sizes configured =
    in_order b (datagram_reading_refusal g x sizes) (shape_refusal g x sizes configured) (datagram_of g x) (shape_six g x sizes configured)
