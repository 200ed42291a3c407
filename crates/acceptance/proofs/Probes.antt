-- What was written of a probe reads back: its body, its ids or strings, and a datagram with that body.
-- Assumes nothing.
use Rattle.std.specs.Prelude.{Option, Some, None, Ok}
use Prim.Native.Nat.{ℕ, ◌+◌, ◌*◌, ◌-◌, ◌≤◌}
use mathlib.Core.Path.{◌≡◌, refl, sym, ap, subst, ◌∙◌}
use mathlib.Core.Bool.{Bool, true, false, cond}
use mathlib.Core.List.{List, [], ◌∷◌, ◌++◌, append_assoc, append-nil}
use native.Mathlib.Omega.{arith}
use lib.Dec.{eqb, leb}
use lib.ListN.{length, take, drop, length-append}
use lib.Seq.{take_at, drop_at, drop-append-add}
use borrow.Author.Tests.{eqb-true, leb-true}
use Rattle.wire.specs.Answer.{Answer, got, refused, and_then, ruled}
use Rattle.wire.specs.Number.{le, le_bytes}
use Rattle.wire.proofs.Numbers.{length_le_bytes}
use Rattle.wire.proofs.Places.{moved_by}
use Rattle.wire.proofs.Reading.{got_value, not_got, invert}
use Rattle.wire_writer.specs.Fits.{Bytes}
use Rattle.wire_writer.specs.Writing.{writing, refusing, unless}
use Rattle.wire_writer.proofs.Answering.{reported}
use Rattle.wire_writer.proofs.Refusals.{passed, held}
use Rattle.wire_writer.proofs.Back.{ruled_back}
use Rattle.probe.specs.declared.body.Probe.{Probe}
use Rattle.probe.specs.Body.{probe_type_rule, information_at, probe_at, probe_body_at}
use Rattle.probe.specs.Items.{count_in}
use Rattle.probe.specs.Put.{list_count_bytes, probe_bytes, id_list_rule, probe_body_refusal, probe_output, list_in}
use Rattle.probe.proofs.Steadily.{body_tail, body_ended}
use Rattle.probe.proofs.Trip.{body_is, body_back}
use Rattle.network_header.specs.declared.envelope.Envelope.{Envelope}
use Rattle.network_header.specs.declared.envelope.Places.{Places}
use Rattle.network_header.specs.declared.header.PayloadHeader.{PayloadHeader}
use Rattle.network_header.specs.Header.{probe_on}
use Rattle.network_message.specs.Envelope.{network_message_at}
use Rattle.network_message.specs.ProbeMessage.{ProbeMessage, probe_from, probe_message_at}
use Rattle.records.specs.Sizes.{PROBE_SIZE}
use Rattle.records.specs.Writers.{sizes_in}
use Rattle.envelope_record.specs.Probe.{probe_in, information_refusal, probe_fits, ProbeRecordBack}
use Rattle.uadp_c.specs.Writing.{fitting}
use Rattle.uadp_c.specs.Probes.{ProbeReads, ProbeRead, probe_put}
use Rattle.network_message.specs.WriterPayload.{list_bytes}
use Rattle.network_message.specs.Writer.{GivenDatagram, envelope_bytes, datagram_of, datagram_refusal, WroteDatagram}
use Rattle.round_trip.specs.NetworkMessage.{places_of, ReadsBack}
use Rattle.round_trip.proofs.NetworkMessageRoundTrip.{reads_back_lem}
use Rattle.acceptance.specs.Probes.{WroteProbe, ProbeBack, written_probe, ProbeDatagramBack}

-- ---- ids and strings, where a body stands
count_long : (l : Option ℕ) → length (list_count_bytes l) ≡ 4
count_long None = length_le_bytes 4 4294967295
count_long (Some n) = length_le_bytes 4 n

none : (l : List ℕ) → length l ≡ 0 → [] ≡ l
none [] h = refl
none (x ∷ l) h = absurd (omega (arith, h))

-- what stands 6 bytes behind a body's start
behind : (pre : List ℕ) (t : ℕ) (l : Option ℕ) (rest : List ℕ) → drop (length pre + 6) (pre ++ ((le_bytes 1 1 ++ le_bytes 1 t) ++ (list_count_bytes l ++ rest))) ≡ rest
behind pre t l rest =
    let head = le_bytes 1 1 ++ le_bytes 1 t in
    let e : head ++ (list_count_bytes l ++ rest) ≡ (head ++ list_count_bytes l) ++ rest = sym (append_assoc head (list_count_bytes l) rest) in
    let six : length (head ++ list_count_bytes l) ≡ 6 =
    omega (arith, length-append head (list_count_bytes l), length-append (le_bytes 1 1) (le_bytes 1 t), length_le_bytes 1 1, length_le_bytes 1 t, count_long l) in
    drop-append-add pre (head ++ (list_count_bytes l ++ rest)) 6 ∙ ap (drop 6) e ∙ drop_at (head ++ list_count_bytes l) rest 6 six

ids_long : (l : Option ℕ) (n : ℕ) → id_list_rule l n ≡ 0 → n ≡ 2 * count_in l
ids_long None n h = eqb-true n 0 (held (eqb n 0) 5 h)
ids_long (Some k) n h =
    let q = passed (leb 2147483648 k) 5 (cond (eqb n (2 * k)) 0 6) h in
    eqb-true n (2 * k) (held (eqb n (2 * k)) 5 q.1)

all_of : (n : ℕ) (list : List ℕ) → length list ≡ n → take n list ≡ list
all_of n list e = ap (take n) (sym (append-nil list)) ∙ take_at list [] n e

pub list_back : (pre list : List ℕ) (p : Probe) → probe_body_refusal list p ≡ 0 → list_in (pre ++ probe_bytes list p) (length pre) p ≡ list
list_back pre list (Probe.MetaData l) h = ap (take (2 * count_in l)) (behind pre 2 l list) ∙ all_of (2 * count_in l) list (ids_long l (length list) h)
list_back pre list (Probe.Writers l) h = ap (take (2 * count_in l)) (behind pre 3 l list) ∙ all_of (2 * count_in l) list (ids_long l (length list) h)
list_back pre list (Probe.Group g b) h = none list (eqb-true (length list) 0 (held (eqb (length list) 0) 5 h))
list_back pre list (Probe.Connections l g w) h =
    let two = le_bytes 1 g ++ le_bytes 1 w in
    let head = le_bytes 1 1 ++ le_bytes 1 5 in
    let n : length (pre ++ (head ++ (list_count_bytes l ++ (list ++ two)))) - 2 - (length pre + 6) ≡ length list =
    omega (
      arith,
      length-append pre (head ++ (list_count_bytes l ++ (list ++ two))),
      length-append head (list_count_bytes l ++ (list ++ two)),
      length-append (le_bytes 1 1) (le_bytes 1 5),
      length-append (list_count_bytes l) (list ++ two),
      length-append list two,
      length-append (le_bytes 1 g) (le_bytes 1 w),
      length_le_bytes 1 1,
      length_le_bytes 1 5,
      length_le_bytes 1 g,
      length_le_bytes 1 w,
      count_long l,
    ) in
    ap (λ (k : ℕ). take k (drop (length pre + 6) (pre ++ (head ++ (list_count_bytes l ++ (list ++ two)))))) n ∙ ap (take (length list)) (behind pre 5 l (list ++ two))
    ∙ take_at list two (length list) refl

-- ---- a body
pub probe_reads_back : (list : List ℕ) (p : Probe) (entry exit : List ℕ) (n : ℕ) → WroteProbe list p entry exit (Ok n)
    → ProbeBack list p (take n exit) × (drop n exit ≡ drop n entry)
probe_reads_back list p entry exit n (f, w) =
    let r = reported (probe_body_refusal list p) (probe_bytes list p) entry exit n w in
    (subst (ProbeBack list p) (sym r.front) (record { whole = body_is p list f r.number; same = list_back [] list p r.number }), r.rest)

-- ---- a datagram with that body
module _ (list : List ℕ) (p : Probe) (g : GivenDatagram) (x : Envelope) (sizes configured d : List ℕ) where
  back : probe_body_refusal list p ≡ 0 → probe_body_at (probe_bytes list p) 0 ≡ got p (length (probe_bytes list p)) → x.payload_header ≡ PayloadHeader.Probe → g.messages ≡ probe_bytes list p
      → d ≡ datagram_of g x → ReadsBack g x sizes configured d → ProbeDatagramBack list p g x sizes d
  back refusal body header given whole r =
      let pre = envelope_bytes g.text g.ids g.promoted x in
      let at = length pre in
      let rest : drop at d ≡ probe_bytes list p = r.probe header ∙ given in
      let split : d ≡ pre ++ probe_bytes list p = whole ∙ datagram_is header given in
      let fits : at ≤ length d = omega (arith, ap length split, length-append pre (probe_bytes list p)) in
      let moved : probe_body_at d at ≡ got p (at + length (probe_bytes list p)) =
      body_tail d at fits ∙ ap (λ (l : List ℕ). moved_by at (probe_body_at l 0)) rest ∙ ap (moved_by at) body in
      record {
        whole = rw r.whole (from moved header);
        same = ap (λ (l : List ℕ). list_in l at p) split ∙ list_back pre list p refusal;
      }
    where
      from : {k : ℕ} → probe_body_at d (places_of g x).payload ≡ got p k → x.payload_header ≡ PayloadHeader.Probe
          → probe_from x (places_of g x) d ≡ got (written_probe p g x) (places_of g x).payload
      from moved header =
          ap (λ (h : PayloadHeader). cond (probe_on h) (and_then (probe_body_at d (places_of g x).payload) (λ q next. got (written_probe q g x) (places_of g x).payload)) (refused 4 0)) header
          ∙ ap (λ (y : Answer Probe). and_then y (λ q next. got (written_probe q g x) (places_of g x).payload)) moved

      datagram_is : x.payload_header ≡ PayloadHeader.Probe → g.messages ≡ probe_bytes list p
          → datagram_of g x ≡ envelope_bytes g.text g.ids g.promoted x ++ probe_bytes list p
      datagram_is header given =
          ap (λ (h : PayloadHeader). envelope_bytes g.text g.ids g.promoted x ++ (list_bytes h g.lengths ++ g.messages)) header
          ∙ ap (λ (l : List ℕ). envelope_bytes g.text g.ids g.promoted x ++ l) given

pub probe_datagram_reads_back : (list : List ℕ) (p : Probe) (entry-p exit-p : List ℕ) (n-p : ℕ) → WroteProbe list p entry-p exit-p (Ok n-p)
    → (g : GivenDatagram) (x : Envelope) (sizes configured entry exit : List ℕ) (n : ℕ) → WroteDatagram g x sizes configured entry exit (Ok n)
    → x.payload_header ≡ PayloadHeader.Probe → g.messages ≡ take n-p exit-p → ProbeDatagramBack list p g x sizes (take n exit) × (drop n exit ≡ drop n entry)
probe_datagram_reads_back list p entry-p exit-p n-p (f, w) g x sizes configured entry exit n (fx, wx, _, _) header given =
    let a = reported (probe_body_refusal list p) (probe_bytes list p) entry-p exit-p n-p w in
    let b = reported (datagram_refusal g x sizes configured) (datagram_of g x) entry exit n wx in
    let r = reads_back_lem g x sizes configured entry exit n fx wx in
    (back list p g x sizes configured (take n exit) a.number (body_is p list f a.number) header (given ∙ a.front) b.front r.0, r.1)

-- ---- through C

-- an accepted body starts within the slice
body_inside : (s : List ℕ) (at : ℕ) (p : Probe) (n : ℕ) → probe_body_at s at ≡ got p n → at ≤ length s
unfolding probe_at
body_inside s at p n h =
    let T = invert (ruled 1 probe_type_rule s at) (λ v m. information_at s m) (body_ended s at p n h).0 in
    go T.0 T.1 (leb (at + 1) (length s)) refl (ruled_back 1 probe_type_rule s at T.0 T.1 T.2).0
  where
    go : (v m : ℕ) (t : Bool) → leb (at + 1) (length s) ≡ t → cond t (got (le 1 s at) (at + 1)) (refused 1 at) ≡ got v m → at ≤ length s
    go v m true e q = omega (arith, leb-true (at + 1) (length s) e)
    go v m false e q = absurd (not_got q)

-- the probe of an accepted datagram is its body
body_of : (sizes d : List ℕ) (m : ProbeMessage) (n : ℕ) → probe_message_at sizes d ≡ got m n → (k : ℕ) × (probe_body_at d m.places.payload ≡ got m.probe k)
body_of sizes d m n e =
    let x = invert (network_message_at sizes d) (λ y next. probe_from y.envelope y.places d) e in
    go x.0.envelope x.0.places (probe_on x.0.envelope.payload_header) x.3
  where
    go : (a : Envelope) (w : Places) (t : Bool)
        → cond t (and_then (probe_body_at d w.payload) (λ p next. got (record { envelope = a; places = w; probe = p }) w.payload)) (refused 4 0) ≡ got m n
        → (k : ℕ) × (probe_body_at d m.places.payload ≡ got m.probe k)
    go a w true q =
        let b = invert (probe_body_at d w.payload) (λ p next. got (record { envelope = a; places = w; probe = p }) w.payload) q in
        subst (λ (z : ProbeMessage). (k : ℕ) × (probe_body_at d z.places.payload ≡ got z.probe k)) (got_value b.3) (b.1, b.2)
    go a w false q = absurd (not_got q)

put_as : (t : ℕ) (b : Bool) (q p : Probe) (list : List ℕ) → t ≡ 0 → b ≡ true → q ≡ p → cond (eqb t 0) (fitting b (probe_output list q)) (refusing t) ≡ probe_output list p
put_as t b q p list e f g = rw (e, f, g)

all_written : (k : ℕ) (bytes : List ℕ) → k ≡ 0 → unless k bytes ≡ writing bytes
all_written k bytes e = rw e

-- the probe of an accepted datagram, written from its parts as they were read
pub probe_written : (sizes d : List ℕ) (m : ProbeMessage) (n : ℕ) → Bytes d → probe_message_at sizes d ≡ got m n
    → probe_output (list_in d m.places.payload m.probe) m.probe ≡ writing (drop m.places.payload d)
probe_written sizes d m n b e =
    let at = m.places.payload in
    let p = m.probe in
    let a = body_of sizes d m n e in
    let again = body_back d at p a.0 b (body_inside d at p a.0 a.1) a.1 in
    all_written (probe_body_refusal (list_in d at p) p) (probe_bytes (list_in d at p) p) again.0 ∙ ap writing again.1

pub lent_probe_again : (d config entry exit : List ℕ) (result : ℕ) (m : ProbeMessage) (n : ℕ) → probe_message_at (sizes_in config) d ≡ got m n → PROBE_SIZE ≤ length entry
    → ProbeRead d config entry result exit → probe_put exit (list_in d m.places.payload m.probe) ≡ writing (drop m.places.payload d)
lent_probe_again d config entry exit result m n e long w =
    let at = m.places.payload in
    let p = m.probe in
    let r : ProbeRecordBack exit p at = subst (λ (y : Answer ProbeMessage). ProbeReads y entry exit) e w.reads long in
    put_as (information_refusal exit) (probe_fits exit) (probe_in exit) p (list_in d at p) r.type r.fitting r.probe
    ∙ probe_written (sizes_in config) d m n w.bytes e
