-- A header that breaks a rule is refused by its number where it is written.
-- Assumes nothing.
use mathlib.Core.Path.{◌≡◌, ap, sym, ◌∙◌}
use mathlib.Core.Bool.{false}
use mathlib.Core.List.{List, ◌++◌}
use Prim.Native.Nat.{ℕ, ◌/◌, ◌%◌, ◌≤◌, ◌<◌}
use native.Mathlib.Omega.{arith}
use borrow.Author.Tests.{ne_eqb, le-ltb}
use lib.Dec.{eqb}
use Rattle.wire.specs.Number.{le_bytes}
use Rattle.wire.specs.Answer.{got, refused}
use Rattle.wire_writer.specs.Writing.{needed, byte_bytes, picoseconds_refusal}
use Rattle.wire_writer.proofs.Trip.{At, first, second, item_is}
use Rattle.wire_writer.proofs.Refusals.{number_broken}
use Rattle.dataset_header.specs.declared.flags.Encoding.{Encoding}
use Rattle.dataset_header.specs.declared.flags.Kind.{Kind}
use Rattle.dataset_header.specs.declared.header.Header.{Header}
use Rattle.dataset_header.specs.Flags.{valid, flags1_rule, flags2_rule, message_flags_at, kind_number, flags1_of, flags2_of, message_flag_bytes, kind_rule}
use Rattle.dataset_header.specs.Header.{times_bytes, versions_bytes}
use Rattle.dataset_header.proofs.HeaderTrip.{header_kept}
use Rattle.dataset_message.specs.Message.{Message, message_at}
use Rattle.dataset_message.proofs.Agreement.{header_of}
use Rattle.dataset_message.specs.Writer.{GivenMessage, encode}
use Rattle.round_trip.specs.DataSetMessage.{ReadingRefuses}
use Rattle.dataset_header.proofs.FlagsTrip.{flags1_bits, flags2_bits, encoding_rule, kind_rule_is}
use Rattle.round_trip.proofs.DataSetMessage.{no}
use Rattle.round_trip.proofs.DataSetMessagePlaces.{header_at}

-- a kind that breaks a rule has a Flags2
some_kind : (k : Kind) (e : Encoding) → eqb (kind_rule k e) 0 ≡ false → 1 ≤ kind_number k
some_kind Kind.Key e h = no (sym h)
some_kind Kind.Delta e h = omega arith
some_kind Kind.Event e h = omega arith
some_kind Kind.KeepAlive e h = no (sym h)

needed_one : (f : ℕ) → (f ≡ 0 → ⊥) → needed f ≡ 1
needed_one f z = rw (ne_eqb f 0 z)

flags_refuse : (h : Header) (s : List ℕ) → eqb (kind_rule h.kind h.encoding) 0 ≡ false → At s 0 (message_flag_bytes h) → message_flags_at s 0 ≡ refused (kind_rule h.kind h.encoding) 1
flags_refuse h s r a =
    let x = flags1_bits h in
    let y = flags2_bits h in
    let k = some_kind h.kind h.encoding r in
    let z : flags2_of h ≡ 0 → ⊥ = λ e. let w = y.kind in omega arith in
    let p = item_is 1 (flags1_of h) 0 x.small s (first s 0 (le_bytes 1 (flags1_of h)) (byte_bytes (flags2_of h)) a) in
    let even : eqb (flags1_of h % 2) 0 ≡ false = ap (λ (n : ℕ). eqb n 0) x.odd in
    let one : flags1_rule (flags1_of h) ≡ 0 = encoding_rule h.encoding (flags1_of h / 2 % 4) x.encoding in
    let high : 128 ≤ flags1_of h = x.high (needed_one (flags2_of h) z) in
    let b : At s 1 (byte_bytes (flags2_of h)) = second s 0 (le_bytes 1 (flags1_of h)) (byte_bytes (flags2_of h)) a in
    let c : At s 1 (le_bytes 1 (flags2_of h)) = rw (ne_eqb (flags2_of h) 0 z) at b in
    let rule : flags2_rule (flags1_of h) (flags2_of h) ≡ kind_rule h.kind h.encoding =
    kind_rule_is h.kind h.encoding (flags2_of h) (flags2_of h % 16) (flags1_of h / 2 % 4) z y.small y.kind x.encoding in
    let u : flags2_of h < 256 = let w = y.small in omega arith in
    let t = number_broken 1 (flags2_rule (flags1_of h)) (flags2_of h) 1 u (ap (λ (n : ℕ). eqb n 0) rule ∙ r) s c in
    rw (p, even, one, le-ltb (flags1_of h) 128 high, t) (ap (λ (n : ℕ). refused n 1) rule)

module _ (types : List ℕ) (g : GivenMessage) where
  pub kind_refused : eqb (kind_rule g.header.kind g.header.encoding) 0 ≡ false → ReadingRefuses types g (kind_rule g.header.kind g.header.encoding)
  kind_refused r = (1, rw (flags_refuse g.header (encode g) r (first (encode g) 0 (message_flag_bytes g.header) (times_bytes g.header ++ versions_bytes g.header) (header_at g))))

-- picoseconds of an accepted message are below 10,000
pub picoseconds_kept : (types s : List ℕ) (m : Message) (e : ℕ) → message_at types s ≡ got (valid m) e → picoseconds_refusal m.header.picoseconds ≡ 0
picoseconds_kept types s m e q = let h = header_of types s m e q in header_kept s m.header h.0 h.1
