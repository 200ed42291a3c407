-- What a stored record reads as.
-- Assumes nothing.
use Prim.Native.Nat.{ℕ, ◌+◌, ◌*◌, ◌%◌, ◌^◌, ◌≤◌, ◌<◌}
use mathlib.Core.Path.{◌≡◌, refl, ap, sym, ◌∙◌}
use mathlib.Core.Bool.{Bool, true, false, cond}
use mathlib.Core.List.{List, [], ◌∷◌, ◌++◌, append-nil}
use native.Mathlib.Omega.{arith}
use lib.Dec.{eqb}
use lib.ListN.{length, get_or, take, drop, replicate, length-append}
use lib.Seq.{take_at, drop_at, sets-eq, drop-drop, drop-append-add, length-take-le}
use borrow.Author.Tests.{le-leb}
use Rattle.std.specs.Prelude.{Option, Some, None}
use Rattle.wire.specs.Number.{le_bytes}
use Rattle.wire_writer.specs.Store.{laid}
use Rattle.wire_writer.specs.Fits.{Fits16}
use Rattle.wire_writer.proofs.Trip.{At, first, second}
use Rattle.publisher_id.specs.declared.publisher.PublisherId.{PublisherId}
use Rattle.reassembly.specs.declared.record.PartialRecord.{PartialRecord}
use Rattle.records.specs.Numbers.{number_at, number_bytes}
use Rattle.records.proofs.Storing.{bytes_length}
use Rattle.records.proofs.ReadBack.{AllFit, number_laid, number_kept, number_read, stored_at, publisher_back, number_fits, code_fits, flag_fits, has_bound, value16_bound}
use Rattle.records.specs.Items.{flag_number, is_on, has_item, item_value}
use Rattle.records.specs.Publisher.{publisher_by}
use Rattle.partial_record.specs.Partial.{group_id_in, message_in, partial_in, partial_numbers, partial_bytes, FitsRecord}
use Rattle.partial_record.proofs.Parts.{partial_length}

-- ---- the parts of a partial's record

flag_back : (b : Bool) → eqb (flag_number b) 1 ≡ b
flag_back true = refl
flag_back false = refl

-- 64 bytes copied into a text
text_back : (t : List ℕ) → length t ≡ 64 → laid (replicate 64 0) 0 t ≡ t
text_back t h =
    let k : length t ≤ length (replicate {A = ℕ} 64 0) = omega arith in
    stored_at (replicate 64 0) t k ∙ ap (λ (n : ℕ). t ++ drop n (replicate 64 0)) h ∙ append-nil t

-- a group id, or that there is none
group_back : (o : Option ℕ) → Fits16 o → cond (is_on (has_item o)) (Some (item_value o % 65536)) None ≡ o
group_back None f = refl
group_back (Some v) f = let e : v % 65536 ≡ v = omega arith in ap Some e

-- ---- a record that was stored reads back
module _ (k : PartialRecord) (r : List ℕ) (f : FitsRecord k) (h : 144 ≤ length r) where
  abbrev id : PublisherId
  id = k.message.origin.publisher.id

  abbrev text : List ℕ
  text = k.message.origin.publisher.text

  abbrev group : Option ℕ
  group = k.message.origin.group

  abbrev numbers : List ℕ
  numbers = partial_numbers k

  abbrev s : List ℕ
  s = laid r 0 (partial_bytes k)

  at : At s 0 (number_bytes numbers ++ text)
  at = ([], drop (length (partial_bytes k)) r, stored_at r (partial_bytes k) (omega (arith, partial_length k f.text)), refl)

  read : (i : ℕ) → i < 10 → number_at s i ≡ get_or numbers i 0
  read i l =
      let rest : AllFit (has_item group ∷ item_value group ∷ k.covered ∷ 0 ∷ []) = (omega (arith, has_bound group), (omega (arith, value16_bound group f.group), (f.covered, (omega arith, tt)))) in
      let fit : AllFit numbers = (
        flag_fits k.started,
        (
          code_fits id,
          (
            number_fits id f.id,
            (omega (arith, f.writer, f.number), (omega (arith, f.writer, f.number), (f.total, rest))),
          ),
        ),
      ) in
      let z : 0 + i ≡ i = omega arith in
      ap (number_at s) (sym z) ∙ number_read numbers 0 s (first s 0 (number_bytes numbers) text at) fit i l

  text_read : take 64 (drop 80 s) ≡ text
  text_read =
      let n : length (number_bytes numbers) ≡ 80 = bytes_length numbers in
      let a = second s 0 (number_bytes numbers) text at in
      ap (λ (l : List ℕ). take 64 (drop 80 l)) a.2
      ∙ ap (take 64) (drop_at a.0 (text ++ a.1) 80 (a.3 ∙ (omega arith)))
      ∙ take_at text a.1 64 f.text

  pub partial_back : partial_in s ≡ k
  partial_back =
      let small : (i x : ℕ) → number_at s i ≡ x → x < 65536 → number_at s i % 65536 ≡ x = λ i x e l. (omega arith) in
      let p : publisher_by (number_at s 1) (number_at s 2) ≡ id = rw (read 1 (omega arith), read 2 (omega arith)) (publisher_back id f.id) in
      let t : laid (replicate 64 0) 0 (take 64 (drop 80 s)) ≡ text = ap (λ (l : List ℕ). laid (replicate 64 0) 0 l) text_read ∙ text_back text f.text in
      let b : eqb (number_at s 0) 1 ≡ k.started = ap (λ (n : ℕ). eqb n 1) (read 0 (omega arith)) ∙ flag_back k.started in
      let w = small 3 k.message.origin.writer (read 3 (omega arith)) f.writer in
      let n = small 4 k.message.origin.number (read 4 (omega arith)) f.number in
      let z = read 5 (omega arith) in
      let covered = read 8 (omega arith) in
      let g : group_id_in s ≡ group = rw (read 6 (omega arith), read 7 (omega arith)) (group_back group f.group) in
      λ i. record { started = b i; message = record { origin = record { publisher = record { id = p i; text = t i }; group = g i; writer = w i; number = n i }; total = z i }; covered = covered i }

-- ---- its number of covered bytes stored alone: all else reads as before
module _ (r : List ℕ) (v : ℕ) (h : 144 ≤ length r) where
  abbrev t : List ℕ
  t = laid r 64 (le_bytes 8 v)

  room : 8 * 8 + 8 ≤ length r
  room = omega arith

  kept : (j : ℕ) → (j ≡ 8 → ⊥) → number_at t j ≡ number_at r j
  kept j ne = number_kept r 8 v room j ne

  text_kept : take 64 (drop 80 t) ≡ take 64 (drop 80 r)
  text_kept =
      let front = take 64 r ++ le_bytes 8 v in
      let e : 72 ≡ length front = sym (length-append (take 64 r) (le_bytes 8 v) ∙ (omega (arith, length-take-le 64 r (omega arith)))) in
      let st : t ≡ front ++ drop 72 r = rw (le-leb 72 (length r) (omega arith)) (sets-eq (le_bytes 8 v) r 64 (omega arith)) in
      ap (take 64)
      (ap (drop 80) st ∙ ap (λ (n : ℕ). drop (n + 8) (front ++ drop 72 r)) e ∙ drop-append-add front (drop 72 r) 8 ∙ drop-drop 8 72 r)

  pub covered_laid : v < 256 ^ 8 → partial_in t ≡ record { started = (partial_in r).started; message = message_in r; covered = v }
  covered_laid f =
      rw (
        kept 0 (omega arith),
        kept 1 (omega arith),
        kept 2 (omega arith),
        kept 3 (omega arith),
        kept 4 (omega arith),
        kept 5 (omega arith),
        kept 6 (omega arith),
        kept 7 (omega arith),
        text_kept,
        number_laid r 8 v room f,
      )
