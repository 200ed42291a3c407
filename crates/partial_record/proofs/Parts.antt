-- The record of a partial put in its parts.
-- Assumes nothing.
use Prim.Native.Nat.{ℕ, ◌+◌, ◌≤◌, ◌<◌}
use mathlib.Core.Path.{◌≡◌, sym, ◌∙◌}
use mathlib.Core.Bool.{true}
use mathlib.Core.List.{List}
use native.Mathlib.Omega.{arith}
use borrow.Author.Tests.{le-leb, lt-leb}
use lib.Dec.{leb}
use lib.ListN.{length, length-append}
use lib.Seq.{sets}
use Rattle.wire_writer.specs.Store.{laid}
use Rattle.reassembly.specs.declared.record.PartialRecord.{PartialRecord}
use Rattle.records.specs.Numbers.{number_bytes}
use Rattle.records.proofs.Storing.{bytes_length, store_next, put_same}
use Rattle.partial_record.specs.Partial.{partial_numbers, partial_bytes}

pub partial_length : (r : PartialRecord) → length r.message.origin.publisher.text ≡ 64 → length (partial_bytes r) ≡ 144
partial_length r h =
    let b : length (number_bytes (partial_numbers r)) ≡ 80 = bytes_length (partial_numbers r) in
    length-append (number_bytes (partial_numbers r)) r.message.origin.publisher.text ∙ (omega arith)

pub partial_none : (r : PartialRecord) (l : List ℕ) → length r.message.origin.publisher.text ≡ 64 → length l < 144 → l ≡ laid l 0 (partial_bytes r)
partial_none r l h n = rw (lt-leb (0 + length (partial_bytes r)) (length l) (omega (arith, partial_length r h)))

-- stored by its numbers and its text
pub partial_put : (r : PartialRecord) (l e f numbers : List ℕ) → length r.message.origin.publisher.text ≡ 64 → 144 ≤ length l
    → numbers ≡ partial_numbers r → e ≡ laid l 0 (number_bytes numbers) → f ≡ laid e 80 r.message.origin.publisher.text → f ≡ laid l 0 (partial_bytes r)
partial_put r l e f numbers h n same p q =
    let z : e ≡ laid l 0 (number_bytes (partial_numbers r)) = put_same l 0 same p in
    let k : length (number_bytes (partial_numbers r)) ≡ 80 = bytes_length (partial_numbers r) in
    let u : leb (0 + length (number_bytes (partial_numbers r))) (length l) ≡ true = le-leb (0 + length (number_bytes (partial_numbers r))) (length l) (omega arith) in
    let y : e ≡ sets l 0 (number_bytes (partial_numbers r)) = rw u at z in
    let v : f ≡ sets l 0 (partial_bytes r) = store_next l e f (number_bytes (partial_numbers r)) r.message.origin.publisher.text 80 (sym k) (omega arith) y q in
    rw (le-leb (0 + length (partial_bytes r)) (length l) (omega (arith, partial_length r h))) v
