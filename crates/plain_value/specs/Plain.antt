-- Document 01, "Values": the values that hold no other value.
use Rattle.std.specs.Prelude.{ℕ, ◌*◌, [], ◌∷◌, Bool, cond, ◌||◌, eqb, ltb}
use Rattle.wire.specs.Constants.{BAD_LENGTH, NOT_PERMITTED, NOT_TAKEN}
use Rattle.wire.specs.Answer.{refused, Reader, and_then, ◌>>=◌, ◌>>◌, pure, refuse, ruled, run, when_on, each, bit}
use Rattle.wire.specs.Items.{length_item}
use Rattle.wire.specs.declared.Length.{Length}
use Rattle.plain_value.specs.Width.{among, width_of, fixed}

-- what r reads, passed over
abbrev pub passing : {A : Type 0} → Reader A → Reader (Unit {0})
passing r = r >> pure tt

-- n bytes, one item
abbrev pub bytes : ℕ → Reader (Unit {0})
bytes n = passing (run n)

-- what follows the length at `place`: "-1 means null, and anything below is 5"
abbrev pub after_length : {A : Type 0} → Reader A → (ℕ → Reader A) → ℕ → Length → Reader A
after_length null counted place Length.Null s at = null s at
after_length null counted place (Length.Of n) s at = counted n s at
after_length null counted place Length.Negative s at = refused BAD_LENGTH place

-- a length, an item of its own, and what follows it
abbrev pub by_length : {A : Type 0} → Reader A → (ℕ → Reader A) → Reader A
by_length null counted s at = and_then (length_item s at) (λ l next. after_length null counted at l s next)

-- a String or ByteString: its length, then its bytes
unfoldable pub string : Reader (Unit {0})
string = by_length (pure tt) bytes

-- "QualifiedName (20), LocalizedText (21)"
abbrev pub QUALIFIED_NAME : ℕ
QUALIFIED_NAME = 20

abbrev pub LOCALIZED_TEXT : ℕ
LOCALIZED_TEXT = 21

-- Part 6, Table 22: a QualifiedName is its NamespaceIndex of 2 bytes and its name, a String
unfoldable pub qualified_name : Reader (Unit {0})
qualified_name = bytes 2 >> string

-- "a LocalizedText mask above 3 is 3"
abbrev pub text_mask_rule : ℕ → ℕ
text_mask_rule m = cond (ltb 3 m) NOT_PERMITTED 0

-- Part 6, Table 23: a LocalizedText is its mask, then by bit 0 its locale and by bit 1 its text, Strings
unfoldable pub localized_text : Reader (Unit {0})
localized_text = ruled 1 text_mask_rule >>= λ m. when_on (bit 0 m) tt string >> when_on (bit 1 m) tt string

-- "Types 12 and 15 carry their length first"
abbrev pub length_first : ℕ → Bool
length_first t = among t (12 ∷ 15 ∷ [])

-- QualifiedName and LocalizedText
abbrev pub named : ℕ → Bool
named t = among t (QUALIFIED_NAME ∷ LOCALIZED_TEXT ∷ [])

-- a value made of Strings: a QualifiedName, a LocalizedText, or a String or ByteString
unfoldable pub text : ℕ → Reader (Unit {0})
text t = cond (eqb t QUALIFIED_NAME) qualified_name (cond (eqb t LOCALIZED_TEXT) localized_text string)

-- a type whose values hold no other value
unfoldable pub plain : ℕ → Bool
plain t = fixed t || (length_first t || named t)

-- one value of such a type; any other type is not taken here
unfoldable pub plain_value : ℕ → Reader (Unit {0})
plain_value t = cond (fixed t) (bytes (width_of t)) (cond (length_first t || named t) (text t) (refuse NOT_TAKEN))

-- n of them: "fixed-width elements" are one item, others are items each
unfoldable pub plain_values : ℕ → ℕ → Reader (Unit {0})
plain_values t n = cond (fixed t) (bytes (n * width_of t)) (each (text t) n)
