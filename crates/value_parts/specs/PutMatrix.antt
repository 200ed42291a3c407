-- Req 04 (Part 6, Table 25): the bytes of a Variant that is an array with dimensions, put from its elements' bytes and its dimensions.
use Rattle.std.specs.Prelude.{ℕ, ◌+◌, ◌/◌, false, cond, List, ◌++◌, ltb, length}
use Rattle.wire.specs.Constants.{MOST_DATAGRAM, NOT_TAKEN, OVER_LIMIT}
use Rattle.wire.specs.Number.{le_bytes}
use Rattle.wire_writer.specs.Writing.{or_else, Output, unless}
use Rattle.plain_value.specs.Width.{width_of}
use Rattle.plain_value.specs.Dimensions.{given_sizes_rule}
use Rattle.value.specs.Value.{variant_rule}
use Rattle.value.specs.declared.Shape.{Shape}
use Rattle.value_parts.specs.declared.told.ValueParts.{ValueParts}
use Rattle.value_parts.specs.declared.put.Form.{Form}
use Rattle.value_parts.specs.Put.{count_given, form_rule}

-- "A Variant's first byte: bits 0-5 type, bit 7 array, bit 6 dimensions"; then the element count
abbrev pub matrix_head : ℕ → ℕ → List ℕ
matrix_head t n = le_bytes 1 (t + 192) ++ le_bytes 4 (count_given t Form.Array n)

-- "the dimensions list that follows the elements": how many dimensions, then each
abbrev pub sizes_bytes : List ℕ → List ℕ
sizes_bytes sizes = le_bytes 4 (length sizes / 4) ++ sizes

abbrev pub matrix_bytes : ℕ → List ℕ → List ℕ → List ℕ
matrix_bytes t sizes b = matrix_head t (length b) ++ (b ++ sizes_bytes sizes)

-- the first broken rule, in reading order: the type's, the elements', the dimensions'; 0 for none. More elements' bytes than a datagram has
-- are refused before their dimensions are looked at.
abbrev pub matrix_rule : ℕ → List ℕ → ℕ → ℕ
matrix_rule t sizes n =
    or_else (cond (ltb t 64) (or_else (variant_rule (t + 192)) (form_rule t Form.Array n)) NOT_TAKEN)
    (cond (ltb MOST_DATAGRAM n) OVER_LIMIT (given_sizes_rule (count_given t Form.Array n) sizes))

-- what is to be written
abbrev pub matrix_output : ℕ → List ℕ → List ℕ → Output
matrix_output t sizes b = unless (matrix_rule t sizes (length b)) (matrix_bytes t sizes b)

-- what a matrix that was put is told as, where it stands at m
abbrev pub given_matrix_parts : ℕ → ℕ → List ℕ → List ℕ → ValueParts
given_matrix_parts m t sizes b =
    record {
      kind = t;
      shape = Shape.Matrix (count_given t Form.Array (length b)) (length sizes / 4);
      width = width_of t;
      null = false;
      first = m + 5;
      end = m + length (matrix_bytes t sizes b);
    }
