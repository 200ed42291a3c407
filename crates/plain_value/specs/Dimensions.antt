-- Req 04 (Part 6, Table 25): the dimensions list that follows an array's elements.
use Rattle.std.specs.Prelude.{ℕ, zero, suc, ◌*◌, ◌/◌, ◌%◌, ◌^◌, Bool, true, false, cond, ◌||◌, List, [], ◌∷◌, eqb, ltb, ℤ, pos, negsuc, length}
use Rattle.wire.specs.Constants.{BAD_LENGTH, DISAGREE}
use Rattle.wire.specs.Number.{signed, le}
use Rattle.wire.specs.Answer.{refused, Reader, and_then, ◌>>◌, pure, ruled}
use Rattle.wire.specs.Items.{length_item}
use Rattle.wire.specs.declared.Length.{Length}

-- the k numbers of 4 bytes that make up a number of 4 * k bytes, the first of them from its lowest bytes
unfoldable pub fours : ℕ → ℕ → List ℕ
fours zero v = []
fours (suc k) v = v % 256 ^ 4 ∷ fours k (v / 256 ^ 4)

-- a signed number below 1
abbrev pub below_one : ℤ → Bool
below_one (pos zero) = true
below_one (pos (suc n)) = false
below_one (negsuc n) = true

-- a dimension, an Int32, below 1 among these
unfoldable pub any_below_one : List ℕ → Bool
any_below_one [] = false
any_below_one (d ∷ ds) = below_one (signed 4 d) || any_below_one ds

-- their product
unfoldable pub product : List ℕ → ℕ
product [] = 1
product (d ∷ ds) = d * product ds

-- "a dimension below 1, is 5; a product unequal to the element count is 6": the rules of the dimensions of an array of n elements
abbrev pub sizes_rule : ℕ → List ℕ → ℕ
sizes_rule n ds = cond (any_below_one ds) BAD_LENGTH (cond (eqb (product ds) n) 0 DISAGREE)

-- the k dimensions of an array of n elements, which are one item of 4 * k bytes; how many they are
abbrev pub sizes : ℕ → ℕ → Reader ℕ
sizes n k = ruled (4 * k) (λ v. sizes_rule n (fours k v)) >> pure k

-- what follows the list's length at `place`: "a null or empty dimensions list .. is 5", and one of a length below
abbrev pub after_list_length : ℕ → ℕ → Length → Reader ℕ
after_list_length n place Length.Null s at = refused BAD_LENGTH place
after_list_length n place (Length.Of k) s at = cond (ltb 0 k) (sizes n k s at) (refused BAD_LENGTH place)
after_list_length n place Length.Negative s at = refused BAD_LENGTH place

-- "the dimensions list that follows the elements" of an array of n elements: its length, then its dimensions; how many they are
unfoldable pub dimensions : ℕ → Reader ℕ
dimensions n s at = and_then (length_item s at) (λ l next. after_list_length n at l s next)

-- the rules of dimensions that are handed over as they are to stand, of an array of n elements: bytes that are not whole dimensions are 6;
-- "a null or empty dimensions list .. is 5"
abbrev pub given_sizes_rule : ℕ → List ℕ → ℕ
given_sizes_rule n b =
    cond (eqb (length b % 4) 0)
    (cond (eqb (length b) 0) BAD_LENGTH (sizes_rule n (fours (length b / 4) (le (4 * (length b / 4)) b 0))))
    DISAGREE
