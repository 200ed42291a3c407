-- Demand 3's list of calls on one lent partial: what the contracts of src/reassembling.rt say of each call, and the plain machine's
-- replies as results.
use Rattle.std.specs.Prelude.{ℕ, ◌≤◌, true, false, List, [], ◌∷◌, ◌⊎◌, ◌≡◌, length, take, replicate}
use Rattle.marks.specs.Marks.{in_use, marks_for}
use Rattle.reassembly.specs.Record.{Partial}
use Rattle.reassembly.specs.Reading.{reading_at}
use Rattle.reassembly.specs.Machine.{Call, Reply, machine_replies}
use Rattle.reassembly.specs.Machine.State.{idle}
use Rattle.reassembly.specs.Operations.{take_in, combine, ask_complete, judge_hand_out}
use Rattle.reassembly.specs.Calls.{final}
use Rattle.reassembly_laws.specs.AnyList.{AnyList}
use Rattle.records.specs.Result.{result_of}
use Rattle.records.specs.Sizes.{PARTIAL_SIZE}
use Rattle.records.specs.Writers.{sizes_in}
use Rattle.uadp_c.specs.Reassembling.{partial_of, source_of, Lent, lent, Steps, emptied_record, complete_in, hand_in}

-- a call, with what it is lent besides the partial: a datagram and a configuration; another partial's record, payload and marks
pub data LentCall : Type 0 where
  Empty : LentCall
  Take : List ℕ → List ℕ → LentCall
  Combine : List ℕ → List ℕ → List ℕ → LentCall
  Ask : LentCall
  HandOut : LentCall

-- the machine's call
abbrev pub call_of : LentCall → Call
call_of Empty = Call.Empty
call_of (Take datagram config) = Call.Take datagram (sizes_in config)
call_of (Combine r p m) = Call.Combine (source_of r p m)
call_of Ask = Call.Ask
call_of HandOut = Call.HandOut

-- the machine's reply as a result
abbrev pub reply_result : Reply → ℕ
reply_result Reply.done = result_of 0 0
reply_result (Reply.said true) = result_of 0 1
reply_result (Reply.said false) = result_of 0 0
reply_result (Reply.handed l) = result_of 0 (length l)
reply_result (Reply.refused n p) = result_of n p

-- the partial that lent bytes stand for
abbrev pub held_in : Lent → Partial
held_in b = partial_of b.rec b.payload b.marks

-- what the contract of its function says of a call on the lent bytes of b: its result and the lent bytes afterwards
abbrev pub Called : LentCall → Lent → Lent → Type 0
Called Empty b a = a ≡ lent (result_of 0 0) (emptied_record b.rec) b.payload b.marks
Called (Take datagram config) b a = Steps b.rec b.payload b.marks (take_in (held_in b) (reading_at (sizes_in config) datagram)) a
Called (Combine r p m) b a = Steps b.rec b.payload b.marks (combine (held_in b) (source_of r p m)) a
Called Ask b a = a ≡ lent (complete_in b.rec (ask_complete (held_in b))) b.rec b.payload b.marks
Called HandOut b a = a ≡ lent (hand_in b.rec (judge_hand_out (held_in b))) b.rec b.payload b.marks

-- a list of calls, each on what the last one left; the last list has each call's result with the lent bytes after it
abbrev pub AllCalled : List LentCall → Lent → List Lent → Type 0
AllCalled [] b [] = Unit
AllCalled [] b (a ∷ ys) = ⊥
AllCalled (k ∷ ks) b [] = ⊥
AllCalled (k ∷ ks) b (a ∷ ys) = Called k b a × AllCalled ks a ys

abbrev pub calls_of : List LentCall → List Call
calls_of [] = []
calls_of (k ∷ ks) = call_of k ∷ calls_of ks

-- a call's result is the reply, and the bytes that a handing out names are the payload
abbrev pub Tells : Lent → Reply → Type 0
Tells a Reply.done = a.result ≡ reply_result Reply.done
Tells a (Reply.said b) = a.result ≡ reply_result (Reply.said b)
Tells a (Reply.handed l) = (a.result ≡ reply_result (Reply.handed l)) × (take (length l) a.payload ≡ l)
Tells a (Reply.refused n p) = a.result ≡ reply_result (Reply.refused n p)

-- each call, in order
abbrev pub AllTell : List Lent → List Reply → Type 0
AllTell [] [] = Unit
AllTell [] (x ∷ xs) = ⊥
AllTell (a ∷ ys) [] = ⊥
AllTell (a ∷ ys) (x ∷ xs) = Tells a x × AllTell ys xs

-- the lent bytes after the last call
abbrev pub last_of : Lent → List Lent → Lent
last_of b [] = b
last_of b (a ∷ ys) = last_of a ys

-- no lent byte changed
pub record Unchanged (b a : Lent) : Type 0 where
  pub rec : a.rec ≡ b.rec
  pub payload : a.payload ≡ b.payload
  pub marks : a.marks ≡ b.marks

-- how a list may begin: a record of full length that is all zeros or was just emptied, over areas of any content, the marks as long as the
-- payload area asks
pub record Ready (b : Lent) : Type 0 where
  pub long : PARTIAL_SIZE ≤ length b.rec
  pub fresh : (b.rec ≡ replicate (length b.rec) 0) ⊎ ((r : List ℕ) × (b.rec ≡ emptied_record r))
  pub areas : marks_for in_use (length b.payload) ≡ length b.marks

-- what is claimed of the list
pub record LentList (ks : List LentCall) (b : Lent) (ys : List Lent) : Type 0 where
  -- every result is the plain machine's reply
  pub results : AllTell ys (machine_replies (length b.payload) (calls_of ks) idle)
  -- what is left in the lent bytes is read as what the list leaves
  pub left : held_in (last_of b ys) ≡ final (calls_of ks) (held_in b)
  -- of which all of the one claim holds
  pub list : AnyList (calls_of ks) (held_in b)
