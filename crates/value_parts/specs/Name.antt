-- Req 04 (Part 6, Tables 22 and 23): what stands where in a QualifiedName and a LocalizedText.
use Rattle.std.specs.Prelude.{ℕ, Bool, true, cond, List, eqb}
use Rattle.wire.specs.Answer.{Answer, got, refused, bit, item}
use Rattle.wire.specs.Items.{length_item}
use Rattle.wire.specs.declared.Length.{Length}
use Rattle.plain_value.specs.Plain.{QUALIFIED_NAME, LOCALIZED_TEXT, string}
use Rattle.value.specs.declared.Shape.{Shape}
use Rattle.value_parts.specs.declared.told.ValueParts.{ValueParts}
use Rattle.value_parts.specs.declared.name.Text.{Text}
use Rattle.value_parts.specs.declared.name.Name.{Name}

-- no String, or a null one
abbrev pub no_text : Text
no_text = record { place = 0; length = 0 }

-- the bytes of a String by its length: none where it is null
abbrev pub text_by : Answer Length → Text
text_by (got Length.Null next) = no_text
text_by (got (Length.Of n) next) = record { place = next; length = n }
text_by (got Length.Negative next) = no_text
text_by (refused n place) = no_text

-- the String at a position, where there is one
abbrev pub text_here : Bool → List ℕ → ℕ → Text
text_here on s at = cond on (text_by (length_item s at)) no_text

-- the position after what was read; the same position where it is refused
abbrev pub after_it : {A : Type 0} → ℕ → Answer A → ℕ
after_it at (got a next) = next
after_it at (refused n place) = at

-- the position after the String at a position, where there is one
abbrev pub after_text : Bool → List ℕ → ℕ → ℕ
after_text on s at = cond on (after_it at (string s at)) at

-- an item's number, 0 where it is not there
abbrev pub item_or0 : Answer ℕ → ℕ
item_or0 (got v next) = v
item_or0 (refused n place) = 0

-- no name
abbrev pub no_name : Name
no_name = record { number = 0; locale = no_text; text = no_text }

-- a QualifiedName: its NamespaceIndex, and its name
abbrev pub qualified_at : List ℕ → ℕ → Name
qualified_at s at = record { number = item_or0 (item 2 s at); locale = no_text; text = text_here true s (after_it at (item 2 s at)) }

-- a LocalizedText by its mask m, which stands before `at`: by bit 0 its locale, by bit 1 its text
abbrev pub localized_by : ℕ → List ℕ → ℕ → Name
localized_by m s at =
    record { number = m; locale = text_here (bit 0 m) s at; text = text_here (bit 1 m) s (after_text (bit 0 m) s at) }

abbrev pub localized_at : List ℕ → ℕ → Name
localized_at s at = localized_by (item_or0 (item 1 s at)) s (after_it at (item 1 s at))

-- the name at a position, of type t
abbrev pub name_at : ℕ → List ℕ → ℕ → Name
name_at t s at = cond (eqb t QUALIFIED_NAME) (qualified_at s at) (cond (eqb t LOCALIZED_TEXT) (localized_at s at) no_name)

-- the name that a value of a shape is, where it is a scalar
abbrev pub name_by : List ℕ → ℕ → ℕ → Shape → Name
name_by s t at Shape.Scalar = name_at t s at
name_by s t at Shape.NullArray = no_name
name_by s t at (Shape.Array n) = no_name
name_by s t at (Shape.Matrix n d) = no_name

abbrev pub name_of : List ℕ → ValueParts → Name
name_of s v = name_by s v.kind v.first v.shape
