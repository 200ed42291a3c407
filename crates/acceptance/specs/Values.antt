-- What is claimed of values that are told apart and put.
use Rattle.std.specs.Prelude.{Ok}
use Rattle.std.specs.Prelude.{ℕ, ◌+◌, ◌*◌, ◌-◌, ◌≤◌, ◌≡◌, List, length, take, drop}
use Rattle.wire.specs.Number.{le}
use Rattle.wire.specs.Answer.{got, map_answer}
use Rattle.wire_writer.specs.Writing.{Writes}
use Rattle.plain_value.specs.Dimensions.{fours, sizes_rule}
use Rattle.value.specs.Value.{variant_at, raw_at, data_value_at}
use Rattle.value.specs.declared.Shape.{Shape}
use Rattle.value_parts.specs.Told.{measure_of, Filled, told_variant_at, told_raw_at}
use Rattle.value_parts.specs.DataValue.{as_measure, told_data_value_at}
use Rattle.value_parts.specs.Put.{head_bytes, variant_bytes, variant_output, given_parts}
use Rattle.value_parts.specs.Name.{name_of}
use Rattle.value_parts.specs.PutName.{name_bytes, name_output, given_name, given_name_parts}
use Rattle.value_parts.specs.PutMatrix.{matrix_bytes, matrix_output, given_matrix_parts}
use Rattle.value_parts.specs.declared.told.ValueParts.{ValueParts}
use Rattle.value_parts.specs.declared.put.Form.{Form}

pub record Values : Type 0 where
  -- telling a value apart agrees with measuring it: what measuring accepts is told with the same type, shape and end, and the rest is
  -- refused by the same number and place
  pub variant : (s : List ℕ) (at : ℕ) → map_answer measure_of (told_variant_at s at) ≡ variant_at s at
  pub raw : (t : ℕ) (s : List ℕ) (at : ℕ) → map_answer measure_of (told_raw_at t s at) ≡ raw_at t s at
  pub data_value : (s : List ℕ) (at : ℕ) → map_answer as_measure (told_data_value_at s at) ≡ data_value_at s at
  -- from its first byte up to its end stand its elements, and nothing else
  pub filled : (s : List ℕ) (at : ℕ) (p : ValueParts) (e : ℕ) → told_variant_at s at ≡ got p e → Filled p
  -- an array's dimensions, of 4 bytes each, stand before its end: each is 1 or more, and their product is its number of elements
  pub dimensions : (s : List ℕ) (at : ℕ) (p : ValueParts) (e n d : ℕ) → told_variant_at s at ≡ got p e → p.shape ≡ Shape.Matrix n d
      → (1 ≤ d) × (sizes_rule n (fours d (le (4 * d) s (e - 4 * d))) ≡ 0)
  -- what was put is told in the buffer as what was given: type, shape, count and null, and the very bytes
  pub put : (t : ℕ) (f : Form) (b entry exit : List ℕ) (n : ℕ) → Writes (variant_output t f b) entry exit (Ok n)
      → (told_variant_at exit 0 ≡ got (given_parts 0 t f b) (0 + length (variant_bytes t f b)))
      × (take (length b) (drop (0 + length (head_bytes t f (length b))) exit) ≡ b)
  -- the same of a name: its type, number and Strings
  pub put_name : (t n : ℕ) (locale text entry exit : List ℕ) (k : ℕ) → Writes (name_output t n locale text) entry exit (Ok k)
      → (told_variant_at exit 0 ≡ got (given_name_parts 0 t n locale text) (0 + length (name_bytes t n locale text)))
      × (name_of exit (given_name_parts 0 t n locale text) ≡ given_name 0 t n locale text)
      × (take (length locale) (drop (given_name 0 t n locale text).locale.place exit) ≡ locale)
      × (take (length text) (drop (given_name 0 t n locale text).text.place exit) ≡ text)
  -- and of an array with dimensions: its type and counts, the very bytes of its elements and of its dimensions
  pub put_matrix : (t : ℕ) (sizes b entry exit : List ℕ) (n : ℕ) → Writes (matrix_output t sizes b) entry exit (Ok n)
      → (told_variant_at exit 0 ≡ got (given_matrix_parts 0 t sizes b) (0 + length (matrix_bytes t sizes b)))
      × (take (length b) (drop 5 exit) ≡ b) × (take (length sizes) (drop (9 + length b) exit) ≡ sizes)
