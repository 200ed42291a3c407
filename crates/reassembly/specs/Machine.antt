-- The plain machine of document 01 ("Demand 3's list is one claim"), in the order of that paragraph. It has no areas and no marks of its
-- own; those of a source are part of the call. The contracts' judgements go by these rules too (specs/Judge.antt).
use Rattle.std.specs.Prelude.{ℕ, Bool, false, cond, List, [], ◌∷◌, ◌≡◌, ◌⊎◌, leb, length, get_or}
use Rattle.std.proofs.Math.Option.{some}
use Rattle.wire.specs.Constants.{BYTE_DIFFERS, NOT_COMPLETE, NO_ROOM, OTHER_MESSAGE, UNSOUND}
use Rattle.reassembly.specs.Views.{View, clash, full, both_views, nowhere, data_view, bytes_below}
use Rattle.reassembly.specs.Areas.{marked_view}
use Rattle.reassembly.specs.Record.{Identity, identity_of, same_message, Partial, sound}
use Rattle.reassembly.specs.Reading.{Reading, reading_at}
use Rattle.reassembly.specs.Reading.Reading.{chunk, refusal}
use Rattle.reassembly.specs.Verdict.{Verdict, Done, Refused}

-- ---- "fed with the calls alone": a call, with what it is handed besides the partial; taking in has a datagram and the configured sizes
pub data Call : Type 0 where
  Empty : Call
  Take : List ℕ → List ℕ → Call
  Combine : Partial → Call
  Ask : Call
  HandOut : Call

-- what a call answers: done (number 0), complete or not, the payload, or a refusal's number and place
pub data Reply : Type 0 where
  done : Reply
  said : Bool → Reply
  handed : List ℕ → Reply
  refused : ℕ → ℕ → Reply

abbrev pub reply_of : Verdict → Reply
reply_of Done = done
reply_of (Refused n p) = refused n p

abbrev pub handed_of : Verdict → List ℕ → Reply
handed_of Done l = handed l
handed_of (Refused n p) l = refused n p

-- ---- "keeps .. if started, the record and the bytes brought since the last emptying"; the area's length n is handed to each rule
pub data State : Type 0 where
  idle : State
  held : Identity → View → State

-- the bytes kept
abbrev pub view_in : State → View
view_in idle = nowhere
view_in (held m v) = v

-- ---- what a call brings
-- "In a started one a byte below total is covered exactly if its mark is 1"
abbrev pub view_of : Partial → View
view_of s = marked_view s.layout s.rec.message.total s.payload s.marks

-- "A partial not started covers no byte .., whatever its record and marks say": what a partial stands for
abbrev pub state_of : Partial → State
state_of s = cond s.rec.started (held (identity_of s.rec.message) (view_of s)) idle

-- "A chunk alone is the started partial with the chunk's record, covering exactly its data at its offset"; what is no chunk is nothing
abbrev pub alone : Reading → State
alone (chunk m at d) = held (identity_of m) (data_view at d)
alone (refusal n p) = idle

-- "An accepted chunk brings its data at its offset, an accepted partial its covered bytes"; other calls bring nothing
abbrev pub brings : Call → State
brings Empty = idle
brings (Take d sizes) = alone (reading_at sizes d)
brings (Combine f) = state_of f
brings Ask = idle
brings HandOut = idle

-- ---- "it answers by the rules above"
-- "13 and 14 arise between started ones only .., by message, total or a byte both cover"
abbrev pub between : State → State → Verdict
between s idle = Done
between idle (held m v) = Done
between (held k w) (held m v) = cond (same_message k m) (cond (clash k.total w v) (Refused BYTE_DIFFERS 0) Done) (Refused OTHER_MESSAGE 0)

-- total above the area 11, then 13 and 14; "one not started changes nothing"
abbrev pub judge : ℕ → State → State → Verdict
judge n s idle = Done
judge n s (held m v) = cond (leb m.total n) (between s (held m v)) (Refused NO_ROOM 0)

-- "the chunk's own numbers", then 11, 13, 14
abbrev pub reading_verdict : ℕ → State → Reading → Verdict
reading_verdict n s (chunk m at d) = judge n s (alone (chunk m at d))
reading_verdict n s (refusal x p) = Refused x p

-- complete: started, and covered at every byte below total
abbrev pub is_complete : State → Bool
is_complete idle = false
is_complete (held m v) = full m.total v

-- by which number and place it refuses a call: 12 for a source that is not sound, 15 for handing out what is not complete
abbrev pub verdict_of : ℕ → Call → State → Verdict
verdict_of n Empty s = Done
verdict_of n (Take d sizes) s = reading_verdict n s (reading_at sizes d)
verdict_of n (Combine f) s = cond (sound f) (judge n s (state_of f)) (Refused UNSOUND 0)
verdict_of n Ask s = Done
verdict_of n HandOut s = cond (is_complete s) Done (Refused NOT_COMPLETE 0)

-- the bytes of a complete message
abbrev pub whole : State → List ℕ
whole idle = []
whole (held m v) = bytes_below m.total v

-- what it answers
abbrev pub says : ℕ → Call → State → Reply
says n Empty s = done
says n (Take d sizes) s = reply_of (verdict_of n (Take d sizes) s)
says n (Combine f) s = reply_of (verdict_of n (Combine f) s)
says n Ask s = said (is_complete s)
says n HandOut s = handed_of (verdict_of n HandOut s) (whole s)

-- "Accepted means that it answers 0": then what is brought is kept beside what it has; one not started takes over the record
abbrev pub accept : State → State → State
accept s idle = s
accept idle (held m v) = held m v
accept (held k w) (held m v) = held k (both_views w v)

abbrev pub if_accepted : Verdict → State → State → State
if_accepted Done s t = t
if_accepted (Refused n p) s t = s

-- what it keeps afterwards
abbrev pub keeps : ℕ → Call → State → State
keeps n Empty s = idle
keeps n (Take d sizes) s = if_accepted (verdict_of n (Take d sizes) s) s (accept s (brings (Take d sizes)))
keeps n (Combine f) s = if_accepted (verdict_of n (Combine f) s) s (accept s (brings (Combine f)))
keeps n Ask s = s
keeps n HandOut s = s

-- ---- a list of calls
abbrev pub machine_replies : ℕ → List Call → State → List Reply
machine_replies n [] s = []
machine_replies n (k ∷ ks) s = says n k s ∷ machine_replies n ks (keeps n k s)

abbrev pub machine_final : ℕ → List Call → State → State
machine_final n [] s = s
machine_final n (k ∷ ks) s = machine_final n ks (keeps n k s)

-- ---- what accepted calls brought since the last emptying, one delivery for each, the latest first
pub record Delivery : Type 0 where
  pub message : Identity
  pub bytes : View

abbrev pub with_delivery : Verdict → State → List Delivery → List Delivery
with_delivery Done (held m v) l = record { message = m; bytes = v } ∷ l
with_delivery Done idle l = l
with_delivery (Refused n p) t l = l

abbrev pub brought_by : ℕ → Call → State → List Delivery → List Delivery
brought_by n Empty s l = []
brought_by n (Take d sizes) s l = with_delivery (verdict_of n (Take d sizes) s) (brings (Take d sizes)) l
brought_by n (Combine f) s l = with_delivery (verdict_of n (Combine f) s) (brings (Combine f)) l
brought_by n Ask s l = l
brought_by n HandOut s l = l

-- by a list of calls, on a machine that keeps s after the deliveries l
abbrev pub brought : ℕ → List Call → State → List Delivery → List Delivery
brought n [] s l = l
brought n (k ∷ ks) s l = brought n ks (keeps n k s) (brought_by n k s l)

-- one of the deliveries has x at i
abbrev pub OneHas : List Delivery → ℕ → ℕ → Type 0
OneHas [] i x = ⊥
OneHas (b ∷ l) i x = (b.bytes i ≡ some x) ⊎ OneHas l i x

-- "either is of any payload that is as long as its total and has those bytes there"
pub record Of (p : List ℕ) (b : Delivery) : Type 0 where
  pub long : length p ≡ b.message.total
  pub there : (i x : ℕ) → b.bytes i ≡ some x → get_or p i 0 ≡ x

-- all that brought bytes are of one payload; one that brought none is not asked
abbrev pub AllOf : List ℕ → List Delivery → Type 0
AllOf p [] = Unit {0}
AllOf p (b ∷ l) = ((i x : ℕ) → b.bytes i ≡ some x → Of p b) × AllOf p l
