-- The single sentences hold.
use Prim.Native.Nat.{ℕ, zero, suc, ◌+◌, ◌-◌, ◌%◌, ◌≤◌, ◌<◌}
use mathlib.Core.Path.{◌≡◌, ap, sym, subst, ◌∙◌}
use mathlib.Core.List.{List, [], ◌∷◌}
use lib.ListN.{take, drop}
use Rattle.wire_writer.specs.Fits.{Bytes}
use Rattle.acceptance.specs.Sentences.{Sentences}
use Rattle.sequence.proofs.Modulo.{distance_reaches, distance_below}
use Rattle.text.proofs.Back.{Bytes as EachByte, decimal_read_back, hex_read_back}
use Rattle.config_text.proofs.Joined.{config_within}
use Rattle.dataset_message.proofs.Agreement.{walk_ends}
use Rattle.round_trip.proofs.DataSetMessageRewritten.{walked_is}
use Rattle.round_trip.proofs.DataSetMessageOtherwise.{six_otherwise}
use native.Mathlib.Omega.{arith}
use borrow.Author.Tests.{ne_eqb, le-ltb}
use Rattle.wire.specs.Constants.{MOST_TOTAL, OVER_LIMIT}
use Rattle.chunk.specs.Cutting.{cut_rule}
use Rattle.chunk.specs.Payload.{chunk_payload_at}
use Rattle.chunk.proofs.CutLaws.{cuts, past_yes, past_no}
use Rattle.chunk.proofs.ReadBack.{written_back}
use Rattle.uadp_c.specs.Chunks.{chunk_count}

-- bytes by their places are bytes one after the other
each_byte : (s : List ℕ) → Bytes s → EachByte s
each_byte [] w = tt
each_byte (b ∷ s) w = (w 0, each_byte s (λ i. w (suc i)))

-- so are those of a part
dropped : (n : ℕ) (s : List ℕ) → EachByte s → EachByte (drop n s)
dropped zero s w = w
dropped (suc n) [] w = tt
dropped (suc n) (b ∷ s) w = dropped n s w.1

taken : (n : ℕ) (s : List ℕ) → EachByte s → EachByte (take n s)
taken zero s w = tt
taken (suc n) [] w = tt
taken (suc n) (b ∷ s) w = (w.0, taken n s w.1)

-- which chunks are cut
counted_cuts : (total size k : ℕ) → cut_rule total size 0 ≡ 0
    → (k < chunk_count total size → cut_rule total size k ≡ 0) × (chunk_count total size ≤ k → cut_rule total size k ≡ OVER_LIMIT)
unfolding cut_rule
counted_cuts total size k h =
    let c = cuts total size 0 h in
    let a : size ≡ 0 → ⊥ = λ z. omega (arith, c.some) in
    let b : total ≡ 0 → ⊥ = λ z. omega (arith, c.filled) in
    let l = le-ltb MOST_TOTAL total c.small in (
      (λ i. rw (ne_eqb size 0 a, ne_eqb total 0 b, l, past_no total size k a b (omega arith))),
      (λ i. rw (ne_eqb size 0 a, ne_eqb total 0 b, l, past_yes total size k a b (omega arith))),
    )

pub sentences : Sentences
sentences = record {
  distance = λ last received d p.
      subst (λ (n : ℕ). ((last + 1 + n) % 65536 ≡ received % 65536) × (n < 65536)) (sym p.0) (distance_reaches last received p.1, distance_below last received);
  decimals = decimal_read_back;
  hex = λ d entry exit line r p n end. hex_read_back (take n (drop (end - n) d)) (taken n (drop (end - n) d) (dropped (end - n) d (each_byte d p.3)));
  within = config_within;
  after_the_last = walk_ends;
  looked_up = walked_is;
  cut = λ p number size k entry exit n w.
      ap (λ (y : List ℕ). chunk_payload_at (take n y) 0) w.1 ∙ written_back p number size k w.2 entry n (sym w.0);
  counted = counted_cuts;
  six = λ types g entry exit r p. six_otherwise types g p.0.header;
}
