-- What cutting wrote reads back as the chunk, wherever it stands.
-- Assumes nothing.
use Prim.Native.Nat.{ℕ, ◌+◌, ◌*◌, ◌-◌, ◌^◌, ◌≤◌, ◌<◌}
use mathlib.Core.Path.{◌≡◌, refl, sym, ap, ◌∙◌}
use mathlib.Core.Bool.{true}
use mathlib.Core.List.{List, [], ◌++◌, append_assoc}
use native.Mathlib.Omega.{arith}
use lib.ListN.{length, take, drop, length-append, length-drop, take-append-drop}
use lib.Seq.{length-take-le, take-length, drop-drop, drop_at}
use borrow.Author.Tests.{le-leb, lt-ltb, le-ltb, eq-eqb, ne_eqb}
use Rattle.wire.specs.Number.{le, le_bytes, signed}
use Rattle.wire.specs.Answer.{got, item}
use Rattle.wire.specs.Items.{length_of, length_item}
use Rattle.wire.specs.declared.Length.{Length}
use Rattle.wire.proofs.Numbers.{length_le_bytes}
use Rattle.network_message.specs.Envelope.{NetworkMessage, network_message_at}
use Rattle.chunk.specs.Payload.{total_at, data_length_at, data_of, chunk_payload_at}
use Rattle.chunk.specs.Datagram.{place_of, chunk_at, chunk_data}
use Rattle.chunk.specs.Cutting.{payload_bytes, cut_data, chunk_bytes, cut_rule, cut_answer, cut_buffer}
use Rattle.chunk.specs.declared.payload.ChunkPayload.{ChunkPayload}
use Rattle.wire_writer.proofs.Trip.{le_at}
use Rattle.chunk.proofs.CutLaws.{cuts, data_most, data_full, length_payload, cut_wrote}

-- the bytes b stand at position m of s, and s ends with them
abbrev Ends : List ℕ → ℕ → List ℕ → Type 0
Ends s m b = (pre : List ℕ) × (s ≡ pre ++ b) × (length pre ≡ m)

ends_length : (s : List ℕ) (m : ℕ) (b : List ℕ) → Ends s m b → length s ≡ m + length b
ends_length s m b h = ap length h.1 ∙ length-append h.0 b ∙ ap (λ (n : ℕ). n + length b) h.2

-- an item read from its bytes, with others after it
record Passed (w v : ℕ) (s : List ℕ) (m : ℕ) (rest : List ℕ) : Type 0 where
  pub room : m + w ≤ length s
  pub value : le w s m ≡ v
  pub next : Ends s (m + w) rest

passed : (w v : ℕ) → v < 256 ^ w → (s : List ℕ) (m : ℕ) (rest : List ℕ) → Ends s m (le_bytes w v ++ rest) → Passed w v s m rest
passed w v h s m rest e =
    let n = length_le_bytes w v in
    record {
      room = omega (arith, ends_length s m (le_bytes w v ++ rest) e, length-append (le_bytes w v) rest);
      value = le_at w v m h s (e.0, rest, e.1, e.2);
      next = (e.0 ++ le_bytes w v, e.1 ∙ sym (append_assoc e.0 (le_bytes w v) rest), length-append e.0 (le_bytes w v) ∙ ap (λ (k : ℕ). k + length (le_bytes w v)) e.2 ∙ ap (λ (k : ℕ). m + k) n);
    }

item_is : (w v : ℕ) (s : List ℕ) (m : ℕ) (rest : List ℕ) → Passed w v s m rest → item w s m ≡ got v (m + w)
item_is w v s m rest a = rw (le-leb (m + w) (length s) a.room, a.value)

-- a length that is not negative
length_is : (v : ℕ) (s : List ℕ) (m : ℕ) (rest : List ℕ) → v < 65536 → Passed 4 v s m rest → length_item s m ≡ got (Length.Of v) (m + 4)
length_is v s m rest h a =
    let l : v < 2 ^ (8 * 4 - 1) = omega arith in
    let q : length_of (signed 4 v) ≡ Length.Of v = rw (lt-ltb v (2 ^ (8 * 4 - 1)) l) in
    rw (le-leb (m + 4) (length s) a.room, a.value) (ap (λ (z : Length). got z (m + 4)) q)

-- a chunk's numbers, with its data 14 bytes after position m
abbrev pub payload_place : ℕ → ℕ → ℕ → ℕ → ℕ → ChunkPayload
payload_place number offset total n m = record { number = number; offset = offset; total = total; first = m + 14; length = n }

-- ---- the payload of a chunk that breaks no rule
payload_back : (number offset total : ℕ) (d : List ℕ) → number < 65536 → 1 ≤ total → total ≤ 16384 → 1 ≤ length d → offset + length d ≤ total
    → (s : List ℕ) (m : ℕ) → Ends s m (payload_bytes number offset total d) → chunk_payload_at s m ≡ got (payload_place number offset total (length d) m) (length s)
payload_back number offset total d hn t₁ t₂ f w s m e =
    let a₁ = passed 2 number (omega arith) s m _ e in
    let a₂ = passed 4 offset (omega arith) s (m + 2) _ a₁.next in
    let a₃ = passed 4 total (omega arith) s (m + 2 + 4) _ a₂.next in
    let a₄ = passed 4 (length d) (omega arith) s (m + 2 + 4 + 4) d a₃.next in
    let x : m + 2 + 4 + 4 + 4 ≡ m + 14 = omega arith in
    let n : m + 2 + 4 + 4 + 4 + length d ≡ length s = sym (ends_length s (m + 2 + 4 + 4 + 4) d a₄.next) in
    let i₁ : item 2 s m ≡ got number (m + 2) = item_is 2 number s m _ a₁ in
    let i₂ : item 4 s (m + 2) ≡ got offset (m + 2 + 4) = item_is 4 offset s (m + 2) _ a₂ in
    let i₃ : total_at s (m + 2 + 4) ≡ got total (m + 2 + 4 + 4) =
    rw (item_is 4 total s (m + 2 + 4) _ a₃, ne_eqb total 0 (λ q. omega (arith, t₁)), le-ltb 16384 total t₂) in
    let i₄ : data_length_at offset total s (m + 2 + 4 + 4) ≡ got (length d) (m + 2 + 4 + 4 + 4) =
    rw (length_is (length d) s (m + 2 + 4 + 4) d (omega arith) a₄, ne_eqb (length d) 0 (λ q. omega (arith, f)), le-ltb total (offset + length d) w) in
    let i₅ : data_of (length d) s (m + 2 + 4 + 4 + 4) ≡ got (record { first = m + 2 + 4 + 4 + 4; length = length d }) (m + 2 + 4 + 4 + 4 + length d) =
    rw (le-leb (m + 2 + 4 + 4 + 4 + length d) (length s) (omega arith), eq-eqb (m + 2 + 4 + 4 + 4 + length d) (length s) n) in
    let n₂ : m + 14 + length d ≡ length s = omega arith in
    rw (i₁, i₂, i₃, i₄, i₅) (rw (x, n₂))

-- ---- chunk k of a payload
module _ (p : List ℕ) (number size k : ℕ) (hn : number < 65536) (ok : cut_rule (length p) size k ≡ 0) where
  abbrev pub cut_place : ℕ → ChunkPayload
  cut_place m = payload_place number (k * size) (length p) (length (cut_data p size k)) m

  chunk_back : (s : List ℕ) (m : ℕ) → Ends s m (chunk_bytes p number size k) → chunk_payload_at s m ≡ got (cut_place m) (length s)
  chunk_back s m e =
      let c = cuts (length p) size k ok in
      let l = data_most p size k in
      let f : 0 < length (cut_data p size k) = data_full p size k 0 c.some (omega (arith, c.inside)) in
      payload_back number (k * size) (length p) (cut_data p size k) hn c.filled c.small f (omega (arith, c.inside)) s m e

  -- what cutting wrote, after any bytes
  cut_back : (pre : List ℕ) → chunk_payload_at (pre ++ chunk_bytes p number size k) (length pre) ≡ got (cut_place (length pre)) (length (pre ++ chunk_bytes p number size k))
  cut_back pre = chunk_back (pre ++ chunk_bytes p number size k) (length pre) (pre, refl, refl)

  -- a datagram with an accepted chunk's envelope whose payload is what cutting wrote reads as that chunk
  module _ (sizes s : List ℕ) (m : NetworkMessage) (at : ℕ) (e : network_message_at sizes s ≡ got m at) (on : m.envelope.chunk ≡ true) (q : drop at s ≡ chunk_bytes p number size k) where
    inside : at ≤ length s
    inside =
        let l : length (drop at s) ≡ length s - at = length-drop at s in
        let n : length (drop at s) ≡ 14 + length (cut_data p size k) = ap length q ∙ length_payload number (k * size) (length p) (cut_data p size k) in
        omega arith

    pub datagram_back : chunk_at sizes s ≡ got (place_of m.envelope m.places.publisher_end (cut_place at)) (length s)
    datagram_back =
        let h : Ends s at (chunk_bytes p number size k) = (take at s, sym (take-append-drop at s) ∙ ap (λ (l : List ℕ). take at s ++ l) q, length-take-le at s inside) in
        rw (e, on, chunk_back s at h)

    -- and its data is that part of the payload
    pub data_back : chunk_data (chunk_at sizes s) s ≡ cut_data p size k
    data_back =
        let d = cut_data p size k in
        let a = le_bytes 2 number in
        let b = le_bytes 4 (k * size) in
        let c = le_bytes 4 (length p) in
        let z = le_bytes 4 (length d) in
        let front = a ++ (b ++ (c ++ z)) in
        let n : length front ≡ 14 =
        omega (
          arith,
          length-append a (b ++ (c ++ z)),
          length-append b (c ++ z),
          length-append c z,
          length_le_bytes 2 number,
          length_le_bytes 4 (k * size),
          length_le_bytes 4 (length p),
          length_le_bytes 4 (length d),
        ) in
        let w : chunk_bytes p number size k ≡ front ++ d =
        sym (append_assoc a (b ++ (c ++ z)) d ∙ ap (λ (l : List ℕ). a ++ l) (append_assoc b (c ++ z) d ∙ ap (λ (l : List ℕ). b ++ l) (append_assoc c z d))) in
        let r : drop (at + 14) s ≡ d = sym (drop-drop 14 at s) ∙ ap (drop 14) (q ∙ w) ∙ drop_at front d 14 n in
        rw datagram_back (ap (take (length d)) r ∙ take-length d)

-- ---- what cutting wrote into a lent buffer, by its contract, reads back as chunk k
pub written_back : (p : List ℕ) (number size k : ℕ) → number < 65536 → (out : List ℕ) (n : ℕ) → cut_answer p number size k (length out) ≡ got tt n
    → chunk_payload_at (take n (cut_buffer p number size k out)) 0 ≡ got (payload_place number (k * size) (length p) (length (cut_data p size k)) 0) (length (chunk_bytes p number size k))
written_back p number size k hn out n e =
    let w = cut_wrote p number size k out n e in
    ap (λ (s : List ℕ). chunk_payload_at s 0) w.bytes ∙ cut_back p number size k hn w.rule []
