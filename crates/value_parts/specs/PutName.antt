-- Req 04 (Part 6, Tables 22 and 23): the bytes of a Variant that is a QualifiedName or a LocalizedText, put from its parts.
use Rattle.std.specs.Prelude.{ℕ, ◌+◌, Bool, true, false, cond, List, [], ◌++◌, eqb, leb, length}
use Rattle.wire.specs.Constants.{NOT_TAKEN}
use Rattle.wire.specs.Answer.{bit}
use Rattle.wire.specs.Number.{le_bytes}
use Rattle.wire_writer.specs.Writing.{or_else, Output, unless}
use Rattle.plain_value.specs.Plain.{QUALIFIED_NAME, LOCALIZED_TEXT, text_mask_rule}
use Rattle.value.specs.declared.Shape.{Shape}
use Rattle.value_parts.specs.declared.told.ValueParts.{ValueParts}
use Rattle.value_parts.specs.declared.name.Text.{Text}
use Rattle.value_parts.specs.declared.name.Name.{Name}
use Rattle.value_parts.specs.Name.{no_text}
use Rattle.value_parts.specs.Put.{six_unless}

-- A name is given as it is told: a QualifiedName by its NamespaceIndex and, as text, its name; a LocalizedText by its mask, which says
-- whether it has a locale and a text.

abbrev pub has_locale : ℕ → ℕ → Bool
has_locale t n = cond (eqb t QUALIFIED_NAME) false (bit 0 n)

abbrev pub has_text : ℕ → ℕ → Bool
has_text t n = cond (eqb t QUALIFIED_NAME) true (bit 1 n)

-- the index has 2 bytes, the mask one
abbrev pub number_width : ℕ → ℕ
number_width t = cond (eqb t QUALIFIED_NAME) 2 1

-- a String that is there: its length, then its bytes
abbrev pub string_if : Bool → List ℕ → List ℕ
string_if on b = cond on (le_bytes 4 (length b) ++ b) []

-- the bytes before the Strings
abbrev pub name_head : ℕ → ℕ → List ℕ
name_head t n = le_bytes 1 t ++ le_bytes (number_width t) n

abbrev pub name_bytes : ℕ → ℕ → List ℕ → List ℕ → List ℕ
name_bytes t n locale text = name_head t n ++ (string_if (has_locale t n) locale ++ string_if (has_text t n) text)

-- "a LocalizedText mask above 3 is 3"; other types are put by other functions, here they are 4
abbrev pub name_kind_rule : ℕ → ℕ → ℕ
name_kind_rule t n = cond (eqb t QUALIFIED_NAME) 0 (cond (eqb t LOCALIZED_TEXT) (text_mask_rule n) NOT_TAKEN)

-- bytes of a String that is not there would read back otherwise
abbrev pub absent_rule : Bool → ℕ → ℕ
absent_rule on k = cond on 0 (six_unless (eqb k 0))

-- the first broken rule, reading's first; an index that does not fit 2 bytes is 6; 0 for none
abbrev pub name_rule : ℕ → ℕ → ℕ → ℕ → ℕ
name_rule t n l k =
    or_else (name_kind_rule t n)
    (or_else (six_unless (leb n 65535)) (or_else (absent_rule (has_locale t n) l) (absent_rule (has_text t n) k)))

-- what is to be written
abbrev pub name_output : ℕ → ℕ → List ℕ → List ℕ → Output
name_output t n locale text = unless (name_rule t n (length locale) (length text)) (name_bytes t n locale text)

-- what a name that was put is told as, where it stands at m

abbrev pub given_name_parts : ℕ → ℕ → ℕ → List ℕ → List ℕ → ValueParts
given_name_parts m t n locale text =
    record {
      kind = t;
      shape = Shape.Scalar;
      width = 0;
      null = false;
      first = m + 1;
      end = m + length (name_bytes t n locale text);
    }

-- a String that is there, from a position on
abbrev pub given_text : Bool → ℕ → List ℕ → Text
given_text on at b = cond on (record { place = at + 4; length = length b }) no_text

abbrev pub given_name : ℕ → ℕ → ℕ → List ℕ → List ℕ → Name
given_name m t n locale text =
    let at = m + length (name_head t n) in
    record {
      number = n;
      locale = given_text (has_locale t n) at locale;
      text = given_text (has_text t n) (at + length (string_if (has_locale t n) locale)) text;
    }
