-- Histories that are the same but for the form of marks.
use Rattle.std.specs.Prelude.{ℕ, List, [], ◌∷◌, ◌≡◌, length, replicate}
use Rattle.marks.specs.Marks.{Layout, marks_for, marked, mark_all}
use Rattle.reassembly.specs.Record.{Partial, sound}
use Rattle.reassembly.specs.Machine.{Call}
use Rattle.reassembly.specs.Machine.Call.{Empty, Take, Combine, Ask, HandOut}
use Rattle.reassembly.specs.Judge.{covered}
use Rattle.reassembly.specs.Calls.{replies, final}

-- two partials, each in a layout of its own, have the same record and the same payload area, are both sound or both not, and cover the same
-- bytes
pub record SameButMarks (a b : Partial) : Type 0 where
  pub rec : a.rec ≡ b.rec
  pub payload : a.payload ≡ b.payload
  pub sound : sound a ≡ sound b
  pub covered : (i : ℕ) → covered a i ≡ covered b i

-- two calls are the same but for the form of a source's marks
pub data SameCall : Call → Call → Type 0 where
  same_empty : SameCall Empty Empty
  same_take : (d sizes : List ℕ) → SameCall (Take d sizes) (Take d sizes)
  same_combine : (f g : Partial) → SameButMarks f g → SameCall (Combine f) (Combine g)
  same_ask : SameCall Ask Ask
  same_hand_out : SameCall HandOut HandOut

pub data SameCalls : List Call → List Call → Type 0 where
  none : SameCalls [] []
  next : (k l : Call) (ks ls : List Call) → SameCall k l → SameCalls ks ls → SameCalls (k ∷ ks) (l ∷ ls)

-- the same answers, and what is left is the same but for the form of its marks
pub record SameHistory (ks ls : List Call) (s t : Partial) : Type 0 where
  pub answered : replies ks s ≡ replies ls t
  pub left : SameButMarks (final ks s) (final ls t)

-- a partial with its marks in another layout
abbrev pub in_layout : Layout → Partial → Partial
in_layout L s = record {
  rec = s.rec;
  layout = L;
  payload = s.payload;
  marks = mark_all L (marked s.layout s.marks) (replicate (marks_for L (length s.payload)) 0);
}
