-- The ids and strings that a probe lists, one after the other (document 02, Req 01). Probe and cursor may be made up: then every step has
-- an answer all the same.
use Rattle.std.specs.Prelude.{Option, Some, None}
use Rattle.std.specs.Prelude.{ℕ, ◌+◌, true, false, cond, List, leb}
use Rattle.wire.specs.Constants.{OVER_LIMIT}
use Rattle.wire.specs.Answer.{Answer, got, refused, Reader, item, run, and_then}
use Rattle.plain_value.specs.Plain.{by_length}
use Rattle.probe.specs.declared.body.Probe.{Probe}
use Rattle.probe.specs.declared.items.ProbeItem.{ProbeItem}
use Rattle.probe.specs.declared.items.ProbeCursor.{ProbeCursor}
use Rattle.std.specs.Prelude.{Result, Ok, Err}
use Rattle.wire.specs.Refusal.{reason_number}
use Rattle.wire.specs.declared.refusal.Refusal.{Refusal}

-- "An array that is null lists nothing"
abbrev pub count_in : Option ℕ → ℕ
count_in None = 0
count_in (Some n) = n

abbrev pub item_count : Probe → ℕ
item_count (Probe.MetaData l) = count_in l
item_count (Probe.Writers l) = count_in l
item_count (Probe.Group g b) = 0
item_count (Probe.Connections l g w) = count_in l

-- id k: its 2 bytes, and their number
abbrev pub id_item_at : ℕ → Reader ProbeItem
id_item_at k s at = and_then (item 2 s at) (λ v next. got (record { index = k; offset = at; length = 2; id = v; null = false }) next)

-- string k: the part of the slice behind its length; null and empty are kept apart
abbrev pub null_item_at : ℕ → Reader ProbeItem
null_item_at k s start = got (record { index = k; offset = start; length = 0; id = 0; null = true }) start

abbrev pub text_bytes_at : ℕ → ℕ → Reader ProbeItem
text_bytes_at k n s start =
    and_then (run n s start) (λ m next. got (record { index = k; offset = start; length = n; id = 0; null = false }) next)

abbrev pub text_item_at : ℕ → Reader ProbeItem
text_item_at k = by_length (null_item_at k) (text_bytes_at k)

-- item k of a probe, which stands at a position; a WriterGroup's probe lists none
abbrev pub item_of : Probe → ℕ → Reader ProbeItem
item_of (Probe.MetaData l) k s at = id_item_at k s at
item_of (Probe.Writers l) k s at = id_item_at k s at
item_of (Probe.Group g b) k s at = refused OVER_LIMIT 0
item_of (Probe.Connections l g w) k s at = text_item_at k s at

-- what a step gives: the item, and the cursor before the next one
pub record ItemStepped : Type 0 where
  pub item : ProbeItem
  pub cursor : ProbeCursor

-- a step of the cursor; one after the last item is 10
abbrev pub item_step_at : Probe → ProbeCursor → List ℕ → Answer ItemStepped
item_step_at p c s =
    cond (leb (item_count p) c.index) (refused OVER_LIMIT 0)
    (and_then (item_of p c.index s c.at)
    (λ x next. got (record { item = x; cursor = record { index = c.index + 1; at = next } }) next))

-- what the answer of the code says
abbrev pub answer_item_step : Result (ProbeItem × ProbeCursor) Refusal → Answer ItemStepped
answer_item_step (Ok (x, c)) = got (record { item = x; cursor = c }) c.at
answer_item_step (Err r) = refused (reason_number r.reason) r.place
