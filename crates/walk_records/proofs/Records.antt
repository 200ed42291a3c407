-- Records put into a buffer, one after the other.
-- Assumes nothing.
use Prim.Native.Nat.{ℕ, zero, suc, ◌+◌, ◌*◌, ◌/◌, ◌≤◌, ◌<◌}
use mathlib.Core.Path.{◌≡◌, refl, ap, sym, ◌∙◌}
use mathlib.Core.Bool.{Bool, true, false}
use mathlib.Core.List.{List, [], ◌∷◌, ◌++◌, append-nil, append_assoc}
use native.Mathlib.Nat.{add-zero}
use native.Mathlib.Omega.{arith}
use borrow.Author.Tests.{le-leb, lt-leb}
use lib.Dec.{leb}
use lib.ListN.{length, take, drop, set, length-append, length-drop, drop_of_length-le}
use lib.Seq.{sets, sets-eq, length-sets, drop-drop, length-take-le}
use Rattle.wire_writer.specs.Store.{laid}
use Rattle.records.specs.Numbers.{number_bytes}
use Rattle.records.proofs.Storing.{bytes_length}
use Rattle.value.specs.Value.{dimensions_of}
use Rattle.dataset_fields.specs.declared.fields.Field.{Field}
use Rattle.network_message.specs.declared.payload.MessagePlace.{MessagePlace}
use Rattle.message_record.specs.Message.{shape_number, elements_number}
use Rattle.walk.specs.Lines.{in_datagram}
use Rattle.walk_records.specs.Walk.{field_record, record_laid, records_put}

-- a record of 10 numbers that does not fit, and one that is put into its part of the buffer
pub record_none : (xs l : List ℕ) (k : ℕ) → length xs ≡ 10 → length l / 80 ≤ k → l ≡ laid l (80 * k) (number_bytes xs)
record_none xs l k n h = rw (lt-leb (80 * k + length (number_bytes xs)) (length l) (omega (arith, bytes_length xs)))

pub record_put : (xs l e : List ℕ) (k m : ℕ) → length xs ≡ 10 → k < length l / 80 → m ≡ 80 → e ≡ laid (take m (drop (80 * k) l)) 0 (number_bytes xs)
    → take (80 * k) l ++ (e ++ drop m (drop (80 * k) l)) ≡ laid l (80 * k) (number_bytes xs)
record_put xs l e k m n h j q =
    let at : ℕ = 80 * k in
    let b : List ℕ = number_bytes xs in
    let part : List ℕ = take m (drop at l) in
    let lb : length b ≡ 80 = bytes_length xs ∙ ap (λ (i : ℕ). 8 * i) n in
    let ld : m ≤ length (drop at l) = omega (arith, length-drop at l) in
    let lp : length part ≡ 80 = length-take-le m (drop at l) ld ∙ j in
    let s : e ≡ sets part 0 b = rw (le-leb (0 + length b) (length part) (omega arith)) at q in
    let f : e ≡ b = s ∙ sets-eq b part 0 (omega arith) ∙ ap (λ (t : List ℕ). b ++ t) (drop_of_length-le part {i = 0 + length b} (omega arith)) ∙ append-nil b in
    let z : at + m ≡ at + length b = omega arith in
    rw (le-leb (at + length b) (length l) (omega arith))
    (ap (λ (t : List ℕ). take at l ++ (t ++ drop m (drop at l))) f ∙ ap (λ (t : List ℕ). take at l ++ (b ++ t)) (drop-drop m at l)
    ∙ ap (λ (i : ℕ). take at l ++ (b ++ drop i l)) z ∙ sym (append_assoc (take at l) b (drop (at + length b) l)) ∙ sym (sets-eq b l at (omega arith)))

-- the records of some lists, and then those of others
puts_append : (xs ys : List (List ℕ)) (k : ℕ) (l : List ℕ) → records_put (k + length xs) ys (records_put k xs l) ≡ records_put k (xs ++ ys) l
puts_append [] ys k l = ap (λ (i : ℕ). records_put i ys l) (add-zero k)
puts_append (x ∷ xs) ys k l =
    let e : k + length (x ∷ xs) ≡ k + 1 + length xs = omega arith in
    ap (λ (i : ℕ). records_put i ys (records_put (k + 1) xs (record_laid k x l))) e ∙ puts_append xs ys (k + 1) (record_laid k x l)

-- Of the records u, some were put and some are left: what the buffer is in the end, and how many records there are then.
module _ (u : List (List ℕ)) (k : ℕ) (l r : List ℕ) (all : ℕ) (v : records_put k u l ≡ r) (n : k + length u ≡ all) where
  -- none is left
  pub all_put : u ≡ [] → (k ≡ all) × (l ≡ r)
  all_put e =
      let z : length u ≡ 0 = ap length e in
      (omega arith, sym (ap (λ (t : List (List ℕ)). records_put k t l) e) ∙ v)

  -- one more, and some more
  pub one_put : (x : List ℕ) (xs : List (List ℕ)) (e : List ℕ) → u ≡ x ∷ xs → e ≡ record_laid k x l → (records_put (k + 1) xs e ≡ r) × (k + 1 + length xs ≡ all)
  one_put x xs e s q =
      let z : length u ≡ length (x ∷ xs) = ap length s in
      (ap (records_put (k + 1) xs) q ∙ sym (ap (λ (t : List (List ℕ)). records_put k t l) s) ∙ v, omega arith)

  pub some_put : (xs ys : List (List ℕ)) (e : List ℕ) (j : ℕ) → u ≡ xs ++ ys → e ≡ records_put k xs l → j ≡ k + length xs → (records_put j ys e ≡ r) × (j + length ys ≡ all)
  some_put xs ys e j s q i =
      let z : length u ≡ length xs + length ys = ap length s ∙ length-append xs ys in (
        ap (records_put j ys) q ∙ ap (λ (m : ℕ). records_put m ys (records_put k xs l)) i ∙ puts_append xs ys k l ∙ sym (ap (λ (t : List (List ℕ)). records_put k t l) s) ∙ v,
        omega arith,
      )

-- ---- put last is put first: a record that stands before others, put after them

set_apart : (l : List ℕ) (i j a b : ℕ) → i < j → set (set l i a) j b ≡ set (set l j b) i a
set_apart [] i j a b h = refl
set_apart (x ∷ xs) zero zero a b h = absurd (omega arith)
set_apart (x ∷ xs) zero (suc j) a b h = refl
set_apart (x ∷ xs) (suc i) zero a b h = absurd (omega arith)
set_apart (x ∷ xs) (suc i) (suc j) a b h = ap (λ (t : List ℕ). x ∷ t) (set_apart xs i j a b (omega arith))

one_apart : (ys l : List ℕ) (i j a : ℕ) → i < j → sets (set l i a) j ys ≡ set (sets l j ys) i a
one_apart [] l i j a h = refl
one_apart (y ∷ ys) l i j a h =
    ap (λ (t : List ℕ). sets t (suc j) ys) (set_apart l i j a y h) ∙ one_apart ys (set l j y) i (suc j) a (omega arith)

sets_apart : (xs ys l : List ℕ) (i j : ℕ) → i + length xs ≤ j → sets (sets l i xs) j ys ≡ sets (sets l j ys) i xs
sets_apart [] ys l i j h = refl
sets_apart (x ∷ xs) ys l i j h =
    sets_apart xs ys (set l i x) (suc i) j (omega arith) ∙ ap (λ (t : List ℕ). sets t (suc i) xs) (one_apart ys l i j x (omega arith))

laid_apart : (xs ys l : List ℕ) (i j : ℕ) → i + length xs ≤ j → laid (laid l i xs) j ys ≡ laid (laid l j ys) i xs
laid_apart xs ys l i j h = go (leb (i + length xs) (length l)) refl (leb (j + length ys) (length l)) refl
  where
    go : (a : Bool) → leb (i + length xs) (length l) ≡ a → (b : Bool) → leb (j + length ys) (length l) ≡ b → laid (laid l i xs) j ys ≡ laid (laid l j ys) i xs
    go true ea true eb = rw (ea, eb, length-sets l i xs, length-sets l j ys, ea, eb) (sets_apart xs ys l i j h)
    go true ea false eb = rw (ea, eb, length-sets l i xs, eb, ea)
    go false ea true eb = rw (ea, eb, length-sets l j ys, ea)
    go false ea false eb = rw (ea, eb, ea)

pub put_last : (xs : List (List ℕ)) (x l : List ℕ) (k j : ℕ) → length x ≡ 10 → k < j → record_laid k x (records_put j xs l) ≡ records_put j xs (record_laid k x l)
put_last [] x l k j n h = refl
put_last (y ∷ ys) x l k j n h =
    let z : 80 * k + length (number_bytes x) ≤ 80 * j = omega (arith, bytes_length x) in
    put_last ys x (record_laid j y l) k (j + 1) n (omega arith) ∙ ap (records_put (j + 1) ys) (sym (laid_apart (number_bytes x) (number_bytes y) l (80 * k) (80 * j) z))

-- the numbers of a field's record, as the code computes them
pub field_as : (p : MessagePlace) (f : Field) {shape elements dimensions : ℕ} → shape ≡ shape_number f.shape → elements ≡ elements_number f.shape → dimensions ≡ dimensions_of f.shape
    → (0 ∷ p.index ∷ f.index ∷ f.kind ∷ shape ∷ elements ∷ (p.offset + f.offset) ∷ f.length ∷ dimensions ∷ 0 ∷ []) ≡ field_record p.index (in_datagram p f)
field_as p f e1 e2 e3 = rw (sym e1, sym e2, sym e3)
