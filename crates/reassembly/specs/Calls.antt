-- The calls of demand 3's list on a partial: what the code answers to each, and the partial that it leaves. The contracts of
-- src/operations.rt cite these terms.
use Rattle.std.specs.Prelude.{true, false, List, [], ◌∷◌, ◌≡◌}
use Rattle.reassembly.specs.Record.{Partial}
use Rattle.reassembly.specs.Reading.{reading_at}
use Rattle.reassembly.specs.Machine.{Call, Reply, reply_of, handed_of}
use Rattle.reassembly.specs.Machine.Call.{Empty, Take, Combine, Ask, HandOut}
use Rattle.reassembly.specs.Machine.Reply.{done, said, refused}
use Rattle.reassembly.specs.Operations.{take_in, combine, emptied, ask_complete, judge_hand_out, hand_out}
use Rattle.reassembly.specs.Verdict.{Completeness}

abbrev pub said_of : Completeness → Reply
said_of Completeness.Yes = said true
said_of Completeness.No = said false
said_of (Completeness.Unsaid n p) = refused n p

-- ---- the code: what a call answers, and the partial that it leaves
abbrev pub answers : Call → Partial → Reply
answers Empty s = done
answers (Take d sizes) s = reply_of (take_in s (reading_at sizes d)).verdict
answers (Combine f) s = reply_of (combine s f).verdict
answers Ask s = said_of (ask_complete s)
answers HandOut s = handed_of (judge_hand_out s) (hand_out s)

abbrev pub leaves : Call → Partial → Partial
leaves Empty s = record { rec = emptied s.rec; layout = s.layout; payload = s.payload; marks = s.marks }
leaves (Take d sizes) s = (take_in s (reading_at sizes d)).after
leaves (Combine f) s = (combine s f).after
leaves Ask s = s
leaves HandOut s = s

-- a call on s was answered so, and left this partial
pub record Does (k : Call) (s : Partial) (reply : Reply) (after : Partial) : Type 0 where
  pub answer : reply ≡ answers k s
  pub left : after ≡ leaves k s

-- each call gets the record and the areas as the last one left them
abbrev pub replies : List Call → Partial → List Reply
replies [] s = []
replies (k ∷ ks) s = answers k s ∷ replies ks (leaves k s)

abbrev pub final : List Call → Partial → Partial
final [] s = s
final (k ∷ ks) s = final ks (leaves k s)
