-- What was stored in a record is read back: its numbers, a PublisherId, items that may be absent.
-- Assumes nothing.
use Prim.Native.Nat.{ℕ, zero, suc, ◌+◌, ◌*◌, ◌-◌, ◌^◌, ◌≤◌, ◌<◌}
use mathlib.Core.Path.{◌≡◌, refl, ap, sym, subst, ◌∙◌}
use mathlib.Core.Bool.{Bool, true, false}
use mathlib.Core.List.{List, [], ◌∷◌, ◌++◌, append_assoc}
use native.Mathlib.Nat.{add-zero}
use native.Mathlib.Omega.{arith}
use borrow.Author.Tests.{le-leb, le-ltb}
use lib.Dec.{eqb, leb}
use lib.ListN.{length, get_or, take, drop, length-append, length-drop, take-append-drop}
use lib.Seq.{length-sets, sets-eq, drop-drop, length-take-le}
use lib.IntN.{pos, negsuc}
use Rattle.wire.specs.Number.{le, le_bytes}
use Rattle.wire.specs.Answer.{got, item}
use Rattle.std.specs.Prelude.{Option, Some, None, is_some, ℤ}
use Rattle.wire.proofs.Numbers.{length_le_bytes, signed_unsigned}
use Rattle.wire.proofs.Places.{moved_by, append, after}
use Rattle.wire.proofs.Steady.{item_steady}
use Rattle.wire.proofs.Cases.{by_bool, by_lt}
use Rattle.wire_writer.specs.Store.{laid}
use Rattle.wire_writer.specs.Fits.{Fits16, Fits32, FitsI64}
use Rattle.wire_writer.proofs.Putting.{front}
use Rattle.config.specs.Writers.{at_most}
use Rattle.wire_writer.proofs.Trip.{At, first, second, item_is}
use Rattle.network_message.specs.Payload.{value_or0}
use Rattle.publisher_id.specs.PublisherRecord.{code_of}
use Rattle.publisher_id.specs.declared.publisher.PublisherId.{PublisherId}
use Rattle.records.specs.Numbers.{number_at, number_bytes}
use Rattle.records.specs.Items.{has_item, item_value, value_i64, flag_number, given16, given32, given_i64, fits_item, is_on}
use Rattle.records.specs.Publisher.{publisher_by, publisher_most, publisher_given, publisher_number, publisher_number_fits, FitsId}

-- ---- numbers that stand at the start of a record

abbrev pub AllFit : List ℕ → Type 0
AllFit [] = Unit
AllFit (x ∷ xs) = (x < 256 ^ 8) × AllFit xs

-- number j + i, where numbers stand from number j on
pub number_read : (xs : List ℕ) (j : ℕ) (s : List ℕ) → At s (8 * j) (number_bytes xs) → AllFit xs → (i : ℕ) → i < length xs → number_at s (j + i) ≡ get_or xs i 0
number_read [] j s a f i h = absurd (omega arith)
number_read (x ∷ xs) j s a f zero h =
    ap (number_at s) (add-zero j) ∙ ap value_or0 (item_is 8 x (8 * j) f.0 s (first s (8 * j) (le_bytes 8 x) (number_bytes xs) a))
number_read (x ∷ xs) j s a f (suc i) h =
    let n : 8 * j + length (le_bytes 8 x) ≡ 8 * (j + 1) = omega (arith, length_le_bytes 8 x) in
    let b : At s (8 * (j + 1)) (number_bytes xs) = subst (λ (k : ℕ). At s k (number_bytes xs)) n (second s (8 * j) (le_bytes 8 x) (number_bytes xs) a) in
    let k : j + suc i ≡ j + 1 + i = omega arith in
    let l : i < length xs = omega arith in
    ap (number_at s) k ∙ number_read xs (j + 1) s b f.1 i l

-- bytes stored from the start of a record that has room for them
pub stored_at : (r b : List ℕ) → length b ≤ length r → laid r 0 b ≡ b ++ drop (length b) r
stored_at r b h =
    let k : 0 + length b ≤ length r = omega arith in
    rw (le-leb (0 + length b) (length r) k) (front b r h)

-- ---- a PublisherId
pub publisher_back : (p : PublisherId) → FitsId p → publisher_by (code_of p) (publisher_number p) ≡ p
publisher_back PublisherId.Absent f = refl
publisher_back (PublisherId.Byte v) f = ap PublisherId.Byte (omega arith)
publisher_back (PublisherId.UInt16 v) f = ap PublisherId.UInt16 (omega arith)
publisher_back (PublisherId.UInt32 v) f = ap PublisherId.UInt32 (omega arith)
publisher_back (PublisherId.UInt64 v) f = refl
publisher_back (PublisherId.Text n) f = refl

-- of numbers that fit, the largest that does plays no part
pub at_most_same : (most v : ℕ) → v ≤ most → at_most most v ≡ v
at_most_same most v h = rw (le-ltb most v h)

publisher_bound : (p : PublisherId) → FitsId p → publisher_number p ≤ publisher_most (code_of p)
publisher_bound PublisherId.Absent f = omega arith
publisher_bound (PublisherId.Byte v) f = omega arith
publisher_bound (PublisherId.UInt16 v) f = omega arith
publisher_bound (PublisherId.UInt32 v) f = omega arith
publisher_bound (PublisherId.UInt64 v) f = omega arith
publisher_bound (PublisherId.Text n) f = omega arith

pub publisher_given_back : (p : PublisherId) → FitsId p → publisher_given (code_of p) (publisher_number p) ≡ p
publisher_given_back p f = ap (publisher_by (code_of p)) (at_most_same (publisher_most (code_of p)) (publisher_number p) (publisher_bound p f)) ∙ publisher_back p f

pub publisher_number_fits_lem : (p : PublisherId) → FitsId p → publisher_number_fits (code_of p) (publisher_number p) ≡ true
publisher_number_fits_lem p f = le-leb (publisher_number p) (publisher_most (code_of p)) (publisher_bound p f)

pub number_fits : (p : PublisherId) → FitsId p → publisher_number p < 256 ^ 8
number_fits PublisherId.Absent f = omega arith
number_fits (PublisherId.Byte v) f = omega arith
number_fits (PublisherId.UInt16 v) f = omega arith
number_fits (PublisherId.UInt32 v) f = omega arith
number_fits (PublisherId.UInt64 v) f = omega arith
number_fits (PublisherId.Text n) f = omega arith

pub code_fits : (p : PublisherId) → code_of p < 256 ^ 8
code_fits PublisherId.Absent = omega arith
code_fits (PublisherId.Byte v) = omega arith
code_fits (PublisherId.UInt16 v) = omega arith
code_fits (PublisherId.UInt32 v) = omega arith
code_fits (PublisherId.UInt64 v) = omega arith
code_fits (PublisherId.Text n) = omega arith

pub flag_fits : (b : Bool) → flag_number b < 256 ^ 8
flag_fits true = omega arith
flag_fits false = omega arith

-- ---- items that may be absent

pub given16_back : (o : Option ℕ) → Fits16 o → given16 (is_some o) (item_value o) ≡ o
given16_back None f = refl
given16_back (Some v) f = ap Some (rw (le-ltb 65535 v (omega arith)))

pub given32_back : (o : Option ℕ) → Fits32 o → given32 (is_some o) (item_value o) ≡ o
given32_back None f = refl
given32_back (Some v) f = ap Some (rw (le-ltb 4294967295 v (omega arith)))

pub given_i64_back : (o : Option ℤ) → FitsI64 o → given_i64 (is_some o) (value_i64 o) ≡ o
given_i64_back None f = refl
given_i64_back (Some v) f = ap Some (signed_unsigned 8 v (omega arith) f)

pub fits16_back : (o : Option ℕ) → Fits16 o → fits_item (is_some o) 65535 (item_value o) ≡ true
fits16_back None f = refl
fits16_back (Some v) f = le-leb v 65535 (omega arith)

pub fits32_back : (o : Option ℕ) → Fits32 o → fits_item (is_some o) 4294967295 (item_value o) ≡ true
fits32_back None f = refl
fits32_back (Some v) f = le-leb v 4294967295 (omega arith)

-- whether one is there, as the record's number tells it
pub told : {A : Type 0} (o : Option A) → eqb (has_item o) 1 ≡ is_some o
told None = refl
told (Some v) = refl

pub is_on_has : {A : Type 0} (o : Option A) → is_on (has_item o) ≡ is_some o
is_on_has None = refl
is_on_has (Some v) = refl

pub is_on_flag : (b : Bool) → is_on (flag_number b) ≡ b
is_on_flag true = refl
is_on_flag false = refl

-- such a number is 0 or 1
pub has_bound : {A : Type 0} (o : Option A) → has_item o < 2
has_bound None = omega arith
has_bound (Some v) = omega arith

-- the values fit a record's number
pub value16_bound : (o : Option ℕ) → Fits16 o → item_value o < 65536
value16_bound None f = omega arith
value16_bound (Some v) f = f

pub value32_bound : (o : Option ℕ) → Fits32 o → item_value o < 4294967296
value32_bound None f = omega arith
value32_bound (Some v) f = f

pub value_i64_bound : (o : Option ℤ) → FitsI64 o → value_i64 o < 256 ^ 8
value_i64_bound None f = omega arith
value_i64_bound (Some (pos n)) f = omega arith
value_i64_bound (Some (negsuc n)) f = omega arith

-- storing changes no length
pub laid_length : (l : List ℕ) (at : ℕ) (b : List ℕ) → length (laid l at b) ≡ length l
laid_length l at b = by_bool _ (leb (at + length b) (length l)) (λ t. rw t (length-sets l at b)) (λ t. rw t)

-- ---- one number of a record stored: it is read back, and the others stay
module _ (l : List ℕ) (i v : ℕ) (h : 8 * i + 8 ≤ length l) where
  abbrev front_part : List ℕ
  front_part = take (8 * i) l

  abbrev rest_part : List ℕ
  rest_part = drop (8 * i + 8) l

  front_length : length front_part ≡ 8 * i
  front_length = length-take-le (8 * i) l (omega arith)

  -- the record afterwards, and before
  stored_is : laid l (8 * i) (le_bytes 8 v) ≡ front_part ++ (le_bytes 8 v ++ rest_part)
  stored_is = rw (le-leb (8 * i + 8) (length l) h) (sets-eq (le_bytes 8 v) l (8 * i) h ∙ append_assoc front_part (le_bytes 8 v) rest_part)

  before_is : l ≡ front_part ++ (take 8 (drop (8 * i) l) ++ rest_part)
  before_is =
      sym (take-append-drop (8 * i) l)
      ∙ ap (λ (t : List ℕ). front_part ++ t) (sym (take-append-drop 8 (drop (8 * i) l)) ∙ ap (λ (t : List ℕ). take 8 (drop (8 * i) l) ++ t) (drop-drop 8 (8 * i) l))

  pub number_laid : v < 256 ^ 8 → number_at (laid l (8 * i) (le_bytes 8 v)) i ≡ v
  number_laid f = ap value_or0 (item_is 8 v (8 * i) f (laid l (8 * i) (le_bytes 8 v)) (front_part, rest_part, stored_is, front_length))

  -- whatever 8 bytes stand there, the numbers before and behind are the same
  same_before : (j : ℕ) → j < i → (x : List ℕ) → item 8 (front_part ++ x) (8 * j) ≡ item 8 front_part (8 * j)
  same_before j k x =
      let e : item 8 front_part (8 * j) ≡ got (le 8 front_part (8 * j)) (8 * j + 8) = rw (le-leb (8 * j + 8) (length front_part) (omega (arith, front_length))) in
      append (item_steady 8) front_part x (8 * j) e ∙ sym e

  same_behind : (j : ℕ) → i < j → (x : List ℕ) → length x ≡ 8
      → item 8 (front_part ++ (x ++ rest_part)) (8 * j) ≡ moved_by (8 * i + 8) (item 8 rest_part (8 * j - (8 * i + 8)))
  same_behind j k x e =
      let n : length (front_part ++ x) ≡ 8 * i + 8 = length-append front_part x ∙ (omega (arith, front_length)) in
      let a = after (item_steady 8) (front_part ++ x) rest_part (8 * j - (8 * i + 8)) in
      let p : 8 * i + 8 + (8 * j - (8 * i + 8)) ≡ 8 * j = omega arith in
      ap (λ (t : List ℕ). item 8 t (8 * j)) (sym (append_assoc front_part x rest_part)) ∙ ap (item 8 ((front_part ++ x) ++ rest_part)) (sym p) ∙ (rw n at a)

  pub number_kept : (j : ℕ) → (j ≡ i → ⊥) → number_at (laid l (8 * i) (le_bytes 8 v)) j ≡ number_at l j
  number_kept j k =
      let x = take 8 (drop (8 * i) l) in
      let e : length x ≡ 8 = length-take-le 8 (drop (8 * i) l) (omega (arith, length-drop (8 * i) l)) in
      ap (λ (t : List ℕ). number_at t j) stored_is
      ∙ by_lt _ j i
      (λ a. ap value_or0 (same_before j a (le_bytes 8 v ++ rest_part) ∙ sym (same_before j a (x ++ rest_part))))
      (λ a. ap value_or0 (same_behind j (omega arith) (le_bytes 8 v) refl ∙ sym (same_behind j (omega arith) x e)))
      ∙ ap (λ (t : List ℕ). number_at t j) (sym before_is)
