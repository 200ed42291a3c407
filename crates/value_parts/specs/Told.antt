-- Document 01, "Values" (Part 6, source 001): what stands where in a value that measuring accepts.
use Rattle.std.specs.Prelude.{ℕ, ◌+◌, ◌*◌, ◌≡◌, List, Bool, true, false, cond, eqb, leb, Result, Ok, Err}
use Rattle.wire.specs.Constants.{LEVELS, OVER_LIMIT, VARIANT}
use Rattle.wire.specs.Answer.{Answer, got, refused, Reader, and_then, ◌>>◌, each}
use Rattle.wire.specs.Items.{length_item}
use Rattle.wire.specs.declared.Length.{Length}
use Rattle.wire.specs.declared.refusal.Refusal.{Refusal}
use Rattle.wire.specs.Refusal.{reason_number}
use Rattle.plain_value.specs.Width.{width_of, fixed}
use Rattle.plain_value.specs.Plain.{length_first, string, named, text}
use Rattle.value.specs.Value.{Measure, measure, value_at, raw_at}
use Rattle.value.specs.declared.Shape.{Shape}
use Rattle.value_parts.specs.declared.told.ValueParts.{ValueParts}

-- what the code's answer says; a value's end is the position after it
abbrev pub answer_told : Result ValueParts Refusal → Answer ValueParts
answer_told (Ok p) = got p p.end
answer_told (Err r) = refused (reason_number r.reason) r.place

-- of a length that was read: "-1 means null"
abbrev pub says_null : Answer Length → Bool
says_null (got Length.Null next) = true
says_null (got (Length.Of n) next) = false
says_null (got Length.Negative next) = false
says_null (refused n place) = false

-- whether a length or count of 4 bytes stands before the value itself: "Types 12 and 15 carry their length first", and every array its
-- element count
abbrev pub is_counted : ℕ → Shape → Bool
is_counted t Shape.Scalar = length_first t
is_counted t Shape.NullArray = true
is_counted t (Shape.Array n) = true
is_counted t (Shape.Matrix n d) = true

-- null is a null String or ByteString, by the length at `at`; "Type 0 is null"; a null array
abbrev pub is_null : List ℕ → ℕ → ℕ → Shape → Bool
is_null s at t Shape.Scalar = cond (length_first t) (says_null (length_item s at)) (eqb t 0)
is_null s at t Shape.NullArray = true
is_null s at t (Shape.Array n) = false
is_null s at t (Shape.Matrix n d) = false

-- A value of type and shape m, whose items after a Variant's first byte start at `at`, and which ends at `end`: the value itself, of an
-- array its elements, stands after its length or count.
abbrev pub parts_from : List ℕ → ℕ → Measure → ℕ → ValueParts
parts_from s at m end =
    record {
      kind = m.kind;
      shape = m.shape;
      width = width_of m.kind;
      null = is_null s at m.kind m.shape;
      first = cond (is_counted m.kind m.shape) (at + 4) at;
      end = end;
    }

-- a Variant with so many levels left, told apart where measuring accepts it; its items start after its first byte
abbrev pub told_inside : ℕ → Reader ValueParts
told_inside levels s at = and_then (value_at levels VARIANT s at) (λ m end. got (parts_from s (at + 1) m end) end)

-- "The field's own value is level 1" of 100
abbrev pub told_variant_at : Reader ValueParts
told_variant_at = told_inside LEVELS

-- an element of RawData of type t
abbrev pub told_raw_at : ℕ → Reader ValueParts
told_raw_at t s at = and_then (raw_at t s at) (λ m end. got (parts_from s at m end) end)

-- a String or ByteString alone, told as of type t
abbrev pub told_string_at : ℕ → Reader ValueParts
told_string_at t s at =
    and_then (string s at) (λ x end.
    got (record { kind = t; shape = Shape.Scalar; width = 0; null = says_null (length_item s at); first = at + 4; end = end }) end)

-- a QualifiedName or LocalizedText alone
abbrev pub told_name_at : ℕ → Reader ValueParts
told_name_at t s at =
    and_then (text t s at) (λ x end.
    got (record { kind = t; shape = Shape.Scalar; width = 0; null = false; first = at; end = end }) end)

-- element k of an array of n Strings, ByteStrings, QualifiedNames or LocalizedTexts, from the first element's position: "k at or past the
-- count .. is 10"; the elements before it are passed over
abbrev pub told_element_at : ℕ → ℕ → ℕ → Reader ValueParts
told_element_at t n k s at =
    cond (leb n k) (refused OVER_LIMIT 0) ((each (text t) k >> cond (named t) (told_name_at t) (told_string_at t)) s at)

-- what is told of a value's type and shape
abbrev pub measure_of : ValueParts → Measure
measure_of p = measure p.kind p.shape

-- The value itself fills the bytes from `first` up to `end`: a scalar of a fixed type its width, an array so many elements, one with
-- dimensions then its dimensions list, what is null none.
pub record Filled (p : ValueParts) : Type 0 where
  pub scalar : fixed p.kind ≡ true → p.shape ≡ Shape.Scalar → p.end ≡ p.first + p.width
  pub array : (n : ℕ) → fixed p.kind ≡ true → p.shape ≡ Shape.Array n → p.end ≡ p.first + n * p.width
  pub matrix : (n d : ℕ) → fixed p.kind ≡ true → p.shape ≡ Shape.Matrix n d → p.end ≡ p.first + n * p.width + (4 + 4 * d)
  pub null : p.null ≡ true → p.end ≡ p.first
