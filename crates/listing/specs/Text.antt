-- A whole listing as text: its lines one after the other.
use Rattle.std.specs.Prelude.{ℕ, suc, ◌+◌, ◌-◌, cond, List, [], ◌∷◌, ◌++◌, ltb, length, take, Option, Some, None, Result, Ok, Err}
use Rattle.std.proofs.lemmas.List.Edits.{sets}
use Rattle.wire.specs.declared.refusal.Reason.{Reason}
use Rattle.listing.specs.Line.{too_long, line_text}
use Rattle.walk.specs.declared.entry.Line.{Line}

-- a line's text; a line with a string id above 64 bytes, which no accepted datagram has, has none
abbrev pub line_out : List ℕ → Line → List ℕ
line_out d x = cond (too_long x) [] (line_text d x)

abbrev pub lines_text : List ℕ → List Line → List ℕ
lines_text d [] = []
lines_text d (x ∷ xs) = line_out d x ++ lines_text d xs

-- a text's length where it fits into some room
abbrev pub length_in : ℕ → List ℕ → Option ℕ
length_in room t = cond (ltb room (length t)) None (Some (length t))

-- put at the start of a buffer: 11 where it does not fit
abbrev pub text_written : List ℕ → List ℕ → Result ℕ Reason
text_written out t = cond (ltb (length out) (length t)) (Err Reason.NoRoom) (Ok (length t))

abbrev pub text_after : List ℕ → List ℕ → List ℕ
text_after out t = cond (ltb (length out) (length t)) out (sets out 0 t)

-- ---- blocks of whole lines
-- a line's text put from a position of a buffer on, where it fits there
abbrev pub line_placed : List ℕ → ℕ → List ℕ → Option ℕ
line_placed out at t = cond (ltb (length out - at) (length t)) None (Some (at + length t))

abbrev pub placed_after : List ℕ → ℕ → List ℕ → List ℕ
placed_after out at t = cond (ltb (length out - at) (length t)) out (sets out at t)

-- how many of some lines fit one after the other into some room
abbrev pub lines_fitting : List ℕ → ℕ → List Line → ℕ
lines_fitting d room [] = 0
lines_fitting d room (x ∷ xs) = cond (ltb room (length (line_out d x))) 0 (suc (lines_fitting d (room - length (line_out d x)) xs))

-- a block: the text of those that fit
abbrev pub block_text : List ℕ → ℕ → List Line → List ℕ
block_text d room xs = lines_text d (take (lines_fitting d room xs) xs)
