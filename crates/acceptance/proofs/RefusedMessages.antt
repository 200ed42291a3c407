-- The refusals of DataSetMessages and values.
-- Assumes nothing.
use Prim.Native.Nat.{ℕ, zero, suc, ◌+◌, ◌*◌, ◌-◌, ◌/◌, ◌%◌, ◌≤◌}
use mathlib.Core.Path.{refl}
use mathlib.Core.Bool.{Bool, true, false, cond, not, ◌&&◌, ◌||◌}
use mathlib.Core.List.{List, [], ◌∷◌}
use mathlib.Core.Logic.{inr}
use native.Mathlib.Omega.{arith}
use lib.Dec.{leb, ltb, eqb}
use lib.ListN.{length, get_or}
use Rattle.wire.specs.Answer.{got, refused, Reader, bit, and_then}
use Rattle.wire.specs.declared.Length.{Length}
use Rattle.plain_value.specs.Width.{width_of, fixed}
use Rattle.plain_value.specs.Plain.{passing, bytes, after_length, by_length, string, length_first, named, qualified_name, text_mask_rule, localized_text, text, plain, plain_value, plain_values}
use Rattle.plain_value.specs.Dimensions.{fours, any_below_one, product, sizes_rule, sizes, after_list_length, dimensions}
use Rattle.value.specs.Value.{variant_rule, scalar, elements, array, dimensioned, matrix, variant_of, mask_rule, data_value_of, value_of, value_at, raw_at, type_of, is_array, has_dimensions, taken, measure, Measure}
use Rattle.plain_value.specs.Parts.{parts}
use Rattle.value.specs.declared.Shape.{Shape}
use Rattle.dataset_header.specs.Flags.{message_flags_of, flags1_rule, flags2_rule, flags2_at, Valid, not_valid, valid, message_flags_at, is_raw}
use Rattle.dataset_header.specs.Header.{message_items_at, after_flags, message_header_at}
use Rattle.dataset_fields.specs.Fields.{encoded_at, field_at, fields_at, zeros_at}
use Rattle.dataset_message.specs.Message.{counted_at, count_at, end_at, after_header, message_at, body_at as messageBodyAt}
use Rattle.dataset_header.specs.declared.flags.Flags.{Flags}
use Rattle.dataset_header.specs.declared.flags.Encoding.{Encoding}
use Rattle.dataset_header.specs.declared.flags.Kind.{Kind}
use Rattle.dataset_header.specs.declared.header.Header.{Header}
use Rattle.dataset_fields.specs.declared.fields.Cursor.{Cursor}
use Rattle.acceptance.proofs.Refusals.{Rule, n3, wider_lawful, Tells, Lawful, at_item, number, no_place, pure_lawful, here_lawful, refuse_lawful, run_lawful, item_lawful, length_lawful, ruled_lawful, bind_lawful, after_lawful, then_tells, cond_tells, cond_lawful, when_lawful, each_lawful, cond_rule, kept, optional16_lawful, optional32_lawful, optional_i64_lawful, picoseconds_lawful}
use Rattle.acceptance.proofs.Refusals.Tells.{gives, refuses}

-- the numbers beside 1 and 3: of a value, of a field, and of a DataSetMessage
abbrev pub value_others : List ℕ
value_others = 4 ∷ 5 ∷ 6 ∷ 9 ∷ []

abbrev pub field_others : List ℕ
field_others = 4 ∷ 5 ∷ 6 ∷ 8 ∷ 9 ∷ []

abbrev pub message_others : List ℕ
message_others = 4 ∷ 5 ∷ 6 ∷ 7 ∷ 8 ∷ 9 ∷ []

-- ---- values
passing_lawful : {A : Type 0} {r : Reader A} → Lawful value_others r → Lawful value_others (passing r)
passing_lawful f = after_lawful f (pure_lawful tt)

bytes_lawful : (n : ℕ) → Lawful value_others (bytes n)
bytes_lawful n = passing_lawful (run_lawful n)

length_tells : {A : Type 0} {null : Reader A} {counted : ℕ → Reader A} → Lawful value_others null → ((n : ℕ) → Lawful value_others (counted n)) → (place : ℕ) (l : Length) (s : List ℕ) (at : ℕ)
    → place ≤ length s → at ≤ length s → Tells value_others (length s) (after_length null counted place l s at)
length_tells f h place Length.Null s at u v = f.tells s at v
length_tells f h place (Length.Of n) s at u v = (h n).tells s at v
length_tells f h place Length.Negative s at u v = refuses (at_item (number 5 refl) u)

by_length_lawful : {A : Type 0} {null : Reader A} {counted : ℕ → Reader A} → Lawful value_others null → ((n : ℕ) → Lawful value_others (counted n)) → Lawful value_others (by_length null counted)
by_length_lawful f h = record { tells = λ s at u. then_tells (length_lawful.tells s at u) (λ l next v. length_tells f h at l s next u v) }

string_lawful : Lawful value_others string
unfolding string
string_lawful = by_length_lawful (pure_lawful tt) bytes_lawful

-- names
qualified_name_lawful : Lawful value_others qualified_name
unfolding qualified_name
qualified_name_lawful = after_lawful (bytes_lawful 2) string_lawful

localized_text_lawful : Lawful value_others localized_text
unfolding localized_text
localized_text_lawful =
    bind_lawful (ruled_lawful 1 text_mask_rule (λ m. cond_rule (ltb 3 m) (inr n3) kept))
    (λ m. after_lawful (when_lawful (bit 0 m) tt string_lawful) (when_lawful (bit 1 m) tt string_lawful))

text_lawful : (t : ℕ) → Lawful value_others (text t)
unfolding text
text_lawful t = cond_lawful (eqb t 20) qualified_name_lawful (cond_lawful (eqb t 21) localized_text_lawful string_lawful)

-- a dimensions list
sizes_lawful : (n k : ℕ) → Lawful value_others (sizes n k)
sizes_lawful n k =
    after_lawful
    (ruled_lawful (4 * k) (λ v. sizes_rule n (fours k v))
    (λ v. cond_rule (any_below_one (fours k v)) (inr (number 5 refl)) (cond_rule (eqb (product (fours k v)) n) kept (inr (number 6 refl)))))
    (pure_lawful k)

list_tells : (n place : ℕ) (l : Length) (s : List ℕ) (at : ℕ) → place ≤ length s → at ≤ length s → Tells value_others (length s) (after_list_length n place l s at)
list_tells n place Length.Null s at u v = refuses (at_item (number 5 refl) u)
list_tells n place (Length.Of k) s at u v = cond_tells (ltb 0 k) ((sizes_lawful n k).tells s at v) (refuses (at_item (number 5 refl) u))
list_tells n place Length.Negative s at u v = refuses (at_item (number 5 refl) u)

dimensions_lawful : (n : ℕ) → Lawful value_others (dimensions n)
unfolding dimensions
dimensions_lawful n = record { tells = λ s at u. then_tells (length_lawful.tells s at u) (λ l next v. list_tells n at l s next u v) }

dimensioned_lawful : (t n : ℕ) → Lawful value_others (dimensioned t n)
dimensioned_lawful t n = bind_lawful (dimensions_lawful n) (λ d. pure_lawful (measure t (Shape.Matrix n d)))

plain_lawful : (t : ℕ) → Lawful value_others (plain_value t)
unfolding plain_value
plain_lawful t = cond_lawful (fixed t) (bytes_lawful (width_of t)) (cond_lawful (length_first t || named t) (text_lawful t) (refuse_lawful 4 (number 4 refl)))

plains_lawful : (t n : ℕ) → Lawful value_others (plain_values t n)
unfolding plain_values
plains_lawful t n = cond_lawful (fixed t) (bytes_lawful (n * width_of t)) (each_lawful (text_lawful t) n)

module _ {nested : ℕ → Reader Measure} (h : (t : ℕ) → Lawful value_others (nested t)) where
  scalar_lawful : (t : ℕ) → Lawful value_others (scalar nested t)
  unfolding scalar
  scalar_lawful t = after_lawful (cond_lawful (plain t) (plain_lawful t) (passing_lawful (h t))) (pure_lawful (measure t Shape.Scalar))

  elements_lawful : (t n : ℕ) → Lawful value_others (elements nested t n)
  unfolding elements
  elements_lawful t n = cond_lawful (plain t) (plains_lawful t n) (each_lawful (h t) n)

  array_lawful : (t : ℕ) → Lawful value_others (array nested t)
  unfolding array
  array_lawful t = by_length_lawful (pure_lawful (measure t Shape.NullArray)) (λ n. after_lawful (elements_lawful t n) (pure_lawful (measure t (Shape.Array n))))

  matrix_lawful : (t : ℕ) → Lawful value_others (matrix nested t)
  unfolding matrix
  matrix_lawful t = by_length_lawful (dimensioned_lawful t 0) (λ n. after_lawful (elements_lawful t n) (dimensioned_lawful t n))

  variant_lawful : (b : ℕ) → Lawful value_others (variant_of nested b)
  variant_lawful b =
      cond_lawful (eqb (type_of b) 0) (pure_lawful (measure 0 Shape.Scalar))
      (cond_lawful (is_array b) (cond_lawful (has_dimensions b) (matrix_lawful (type_of b)) (array_lawful (type_of b))) (scalar_lawful (type_of b)))

  parts_lawful : (m : ℕ) → Lawful value_others (parts m)
  unfolding parts
  parts_lawful m =
      after_lawful (when_lawful (bit 1 m) tt (bytes_lawful 4))
      (after_lawful (when_lawful (bit 2 m) tt (bytes_lawful 8))
      (after_lawful (when_lawful (bit 4 m) tt (bytes_lawful 2))
      (after_lawful (when_lawful (bit 3 m) tt (bytes_lawful 8)) (when_lawful (bit 5 m) tt (bytes_lawful 2)))))

  data_value_lawful : (m : ℕ) → Lawful value_others (data_value_of nested m)
  data_value_lawful m =
      after_lawful (when_lawful (bit 0 m) tt (passing_lawful (h 24))) (after_lawful (parts_lawful m) (pure_lawful (measure 23 Shape.Scalar)))

  variant_rule_lem : (b : ℕ) → Rule value_others (variant_rule b)
  unfolding variant_rule
  variant_rule_lem b =
      cond_rule (has_dimensions b && not (is_array b)) (inr n3)
      (cond_rule (eqb (type_of b) 0 && is_array b) (inr n3)
      (cond_rule (eqb (type_of b) 24 && not (is_array b)) (inr n3)
      (cond_rule (taken (type_of b)) kept (inr (number 4 refl)))))

  value_of_lawful : (t : ℕ) → Lawful value_others (value_of nested t)
  value_of_lawful t =
      cond_lawful (eqb t 23)
      (bind_lawful (ruled_lawful 1 mask_rule (λ m. cond_rule (bit 6 m || bit 7 m) (inr n3) kept)) data_value_lawful)
      (bind_lawful (ruled_lawful 1 variant_rule variant_rule_lem) variant_lawful)

pub value_lawful : (levels t : ℕ) → Lawful value_others (value_at levels t)
unfolding value_at
value_lawful zero t = record { tells = λ s at h. then_tells ((item_lawful 1).tells s at h) (λ b next u. refuses (at_item (number 9 refl) h)) }
value_lawful (suc levels) t = value_of_lawful (value_lawful levels) t

pub raw_lawful : (t : ℕ) → Lawful value_others (raw_at t)
raw_lawful t = cond_lawful (fixed t) (after_lawful (bytes_lawful (width_of t)) (pure_lawful (measure t Shape.Scalar))) (refuse_lawful 4 (number 4 refl))

-- ---- the header
flags2_rule_lem : (b f : ℕ) → Rule message_others (flags2_rule b f)
flags2_rule_lem b f =
    cond_rule (eqb f 0) (inr n3)
    (cond_rule (leb 4 (f % 16)) (inr n3)
    (cond_rule (leb 64 f) (inr n3)
    (cond_rule (eqb (f % 16) 2 && not (eqb (b / 2 % 4) 0)) (inr n3)
    (cond_rule (eqb (f % 16) 1 && eqb (b / 2 % 4) 1) (inr (number 4 refl)) kept))))

flags2_lawful : (b : ℕ) → Lawful message_others (flags2_at b)
flags2_lawful b = record { tells = λ s at h. cond_tells (ltb b 128) (gives h) ((ruled_lawful 1 (flags2_rule b) (flags2_rule_lem b)).tells s at h) }

flags_lawful : Lawful message_others message_flags_at
flags_lawful =
    record {
      tells = λ s at h. then_tells ((item_lawful 1).tells s at h)
          (λ b next u. cond_tells (eqb (b % 2) 0) (gives u)
          (encoded b s at next h u));
    }
  where
    encoded : (b : ℕ) (s : List ℕ) (at next : ℕ) → at ≤ length s → next ≤ length s
        → Tells message_others (length s) (cond (eqb (flags1_rule b) 0) (and_then (flags2_at b s next) (λ f z. got (valid (message_flags_of b f)) z)) (refused (flags1_rule b) at))
    encoded b s at next h u = go (eqb (b / 2 % 4) 3)
      where
        go : (x : Bool) → Tells message_others (length s) (cond (eqb (cond x 3 0) 0) (and_then (flags2_at b s next) (λ f z. got (valid (message_flags_of b f)) z)) (refused (cond x 3 0) at))
        go true = refuses (at_item n3 h)
        go false = then_tells ((flags2_lawful b).tells s next u) (λ f z v. gives v)

body_lawful : (f : Flags) → Lawful message_others (message_items_at f)
body_lawful f =
    bind_lawful
    (bind_lawful (optional16_lawful f.sequence) (λ q. bind_lawful (optional_i64_lawful f.timestamp) (λ t. bind_lawful (picoseconds_lawful f.picoseconds) (λ p. pure_lawful _))))
    (λ t. bind_lawful
    (bind_lawful (optional16_lawful f.status) (λ u. bind_lawful (optional32_lawful f.major) (λ a. bind_lawful (optional32_lawful f.minor) (λ i. pure_lawful _))))
    (λ v. pure_lawful _))

pub header_tells : (s : List ℕ) → Tells message_others (length s) (message_header_at s 0)
header_tells s = then_tells (flags_lawful.tells s 0 (omega arith)) go
  where
    go : (f : Valid Flags) (next : ℕ) → next ≤ length s → Tells message_others (length s) (after_flags f s next)
    go not_valid next h = gives h
    go (valid f) next h = (body_lawful f).tells s next h

-- ---- the fields
pub encoded_lawful : (e : Encoding) (types : List ℕ) (k : ℕ) → Lawful field_others (encoded_at e types k)
encoded_lawful Encoding.Variant types k = wider_lawful refl (value_lawful 100 24)
encoded_lawful Encoding.RawData types k =
    record { tells = λ s at h. cond_tells (leb (length types) k) (refuses (no_place 8 refl)) ((wider_lawful refl (raw_lawful (get_or types k 0))).tells s at h) }
encoded_lawful Encoding.DataValue types k = wider_lawful refl (value_lawful 100 23)

pub field_lawful : (delta : Bool) (e : Encoding) (types : List ℕ) (k : ℕ) → Lawful field_others (field_at delta e types k)
field_lawful delta e types k =
    bind_lawful (when_lawful delta k (item_lawful 2))
    (λ i. bind_lawful here_lawful
    (λ offset. bind_lawful (encoded_lawful e types k)
    (λ m. bind_lawful here_lawful (λ end. pure_lawful _))))

pub fields_lawful : (delta : Bool) (e : Encoding) (types : List ℕ) (n k : ℕ) → Lawful message_others (fields_at delta e types n k)
unfolding fields_at
fields_lawful delta e types zero k = pure_lawful tt
fields_lawful delta e types (suc n) k = after_lawful (wider_lawful refl (field_lawful delta e types k)) (fields_lawful delta e types n (k + 1))

pub zeros_tells : (n : ℕ) (s : List ℕ) (at : ℕ) → at + n ≤ length s → Tells message_others (length s) (zeros_at n s at)
unfolding zeros_at
zeros_tells zero s at h = gives {next = at} (omega arith)
zeros_tells (suc n) s at h = cond_tells (eqb (get_or s at 0) 0) (zeros_tells n s (at + 1) (omega arith)) (refuses (at_item (number 7 refl) (omega arith)))

pub counted_lawful : (raw : Bool) (types : List ℕ) → Lawful message_others (counted_at raw types)
counted_lawful raw types =
    record { tells = λ s at h. cond_tells raw (cond_tells (eqb (length types) 0) (refuses (no_place 8 refl)) (gives h)) ((item_lawful 2).tells s at h) }

count_lawful : (k : Kind) (raw : Bool) (types : List ℕ) → Lawful message_others (count_at k raw types)
count_lawful Kind.Key raw types = record { tells = λ s at h. cond_tells (leb (length s) at) (gives h) ((counted_lawful raw types).tells s at h) }
count_lawful Kind.Delta raw types = counted_lawful false types
count_lawful Kind.Event raw types = counted_lawful raw types
count_lawful Kind.KeepAlive raw types = record { tells = λ s at h. gives h }

end_tells : (h : Header) (c : Cursor) (types s : List ℕ) → c.at ≤ length s → Tells message_others (length s) (end_at h c types s)
end_tells h c types s u =
    then_tells ((fields_lawful c.delta c.encoding types c.count 0).tells s c.at u)
    (λ x end v. then_tells (zeros_tells (length s - end) s end (omega arith)) (λ y z w. gives v))

message_body_tells : (h : Header) (types s : List ℕ) (at : ℕ) → at ≤ length s → Tells message_others (length s) (messageBodyAt h types s at)
message_body_tells h types s at u =
    then_tells ((count_lawful h.kind (is_raw h.encoding) types).tells s at u) (λ n first v. end_tells h _ types s v)

pub message_tells : (types s : List ℕ) → Tells message_others (length s) (message_at types s)
message_tells types s = then_tells (header_tells s) go
  where
    go : (h : Valid Header) (at : ℕ) → at ≤ length s → Tells message_others (length s) (after_header h types s at)
    go not_valid at u = gives {next = 0} (omega arith)
    go (valid h) at u = message_body_tells h types s at u
