-- The marks of a partial. How they are held is known to the first names only, down to the five that go by the layout.
use Rattle.std.specs.Prelude.{ℕ, zero, suc, ◌+◌, ◌*◌, ◌/◌, ◌%◌, ◌^◌, Bool, true, false, cond, not, ◌&&◌, List, length, get_or, set, replicate, ltb, eqb}
use Rattle.wire.specs.Answer.{bit}
use Rattle.marks.specs.Offsets.{all_below, count_below}

-- a byte for each byte of the payload area, 1 where it is covered, where any other value means not covered (document 01); or a bit for
-- each: "hold eight to a byte, lowest position in the lowest bit" (document 02, Req 11)
pub data Layout : Type 0 where
  by_bytes : Layout
  by_bits : Layout

-- the layout that the code has
abbrev pub in_use : Layout
in_use = by_bits

-- a byte with bit k set, where bit 0 is the lowest
abbrev pub with_bit : ℕ → ℕ → ℕ
with_bit k b = cond (bit k b) b (b + 2 ^ k)

-- how many bytes of marks a payload area of n bytes has: both areas are equally long; or "exactly one eighth of the payload area, rounded
-- up"
unfoldable pub marks_for : Layout → ℕ → ℕ
marks_for by_bytes n = n
marks_for by_bits n = (n + 7) / 8

-- how many offsets a marks area has
unfoldable pub capacity : Layout → List ℕ → ℕ
capacity by_bytes m = length m
capacity by_bits m = length m * 8

-- whether offset i is marked: its mark is exactly 1; its bit is set
unfoldable pub marked : Layout → List ℕ → ℕ → Bool
marked by_bytes m i = eqb (get_or m i 0) 1
marked by_bits m i = bit (i % 8) (get_or m (i / 8) 0)

-- with offset i marked
unfoldable pub mark_at : Layout → ℕ → List ℕ → List ℕ
mark_at by_bytes i m = set m i 1
mark_at by_bits i m = set m (i / 8) (with_bit (i % 8) (get_or m (i / 8) 0))

-- with no offset marked: "clearing zeroes the marks area whole"
unfoldable pub cleared : List ℕ → List ℕ
cleared m = replicate (length m) 0

-- ---- from here on nothing depends on how a mark is held
abbrev pub mark_if : Layout → Bool → ℕ → List ℕ → List ℕ
mark_if L true i m = mark_at L i m
mark_if L false i m = m

-- with the offsets below n that pass the test marked, one after another
abbrev pub mark_up_to : Layout → ℕ → (ℕ → Bool) → List ℕ → List ℕ
mark_up_to L zero f m = m
mark_up_to L (suc i) f m = mark_if L (f i) i (mark_up_to L i f m)

-- with every offset that passes the test marked: "storing changes no other bit"
unfoldable pub mark_all : Layout → (ℕ → Bool) → List ℕ → List ℕ
mark_all L f m = mark_up_to L (capacity L m) f m

-- the offsets below n that are marked
abbrev pub marked_below : Layout → ℕ → List ℕ → ℕ → Bool
marked_below L n m i = ltb i n && marked L m i

-- whether every offset below n is marked
unfoldable pub all_marked : Layout → ℕ → List ℕ → Bool
all_marked L n m = all_below n (marked L m)

-- how many offsets below n are marked
unfoldable pub count_marked : Layout → ℕ → List ℕ → ℕ
count_marked L n m = count_below n (marked L m)

-- how many of the offsets that pass the test are not marked: what marking them adds
unfoldable pub new_marks : Layout → (ℕ → Bool) → List ℕ → ℕ
new_marks L f m = count_below (capacity L m) (λ i. f i && not (marked L m i))
