-- What the covered front of a message tells (document 02, Req 13): "hand out those leading fields whose every byte, and every byte before
-- them, is covered".
use Rattle.std.specs.Prelude.{ℕ, zero, suc, ◌+◌, ◌-◌, Bool, false, cond, ◌&&◌, List, [], ◌∷◌, eqb, leb, length, Result, Ok, Err}
use Rattle.wire.specs.Constants.{CUT_SHORT}
use Rattle.wire.specs.Answer.{Answer, got, refused, Reader}
use Rattle.wire.specs.Refusal.{reason_number}
use Rattle.wire.specs.declared.refusal.Refusal.{Refusal}
use Rattle.dataset_header.specs.declared.flags.Encoding.{Encoding}
use Rattle.dataset_header.specs.Flags.{Valid, not_valid, valid}
use Rattle.dataset_fields.specs.declared.fields.Field.{Field}
use Rattle.dataset_fields.specs.declared.fields.Cursor.{Cursor}
use Rattle.dataset_fields.specs.Fields.{field_at, padding_at, cursor_before}
use Rattle.dataset_message.specs.Message.{Message, front_to}
use Rattle.salvage.specs.declared.front.Opening.{Opening}
use Rattle.salvage.specs.declared.front.FieldShown.{FieldShown}

-- What a part of the front says: a value with the position after it, a refusal, or that the reading ends there.
pub data Shown (A : Type 0) : Type 0 where
  shown : A → ℕ → Shown A
  bad : ℕ → ℕ → Shown A
  ends : Shown A

-- An item at p that is not whole in the front: "an item past total is 1, one that only reaches a hole ends the reading unrefused". y is
-- read from the payload area up to total, whatever stands in its holes: there too it is cut short at p exactly where the item is past
-- total.
abbrev pub past_by : {A : Type 0} → ℕ → Answer A → Bool
past_by p (got a next) = false
past_by p (refused n q) = eqb n CUT_SHORT && eqb q p

abbrev pub past_total : {A : Type 0} → ℕ → Answer A → Shown A
past_total p y = cond (past_by p y) (bad CUT_SHORT p) ends

-- what the front answers, x, and what the whole area answers, y
abbrev pub shown_by : {A : Type 0} → Answer A → Answer A → Shown A
shown_by (got a next) y = shown a next
shown_by (refused n p) y = cond (eqb n CUT_SHORT) (past_total p y) (bad n p)

-- a reader on the front f of the area s
abbrev pub shown_at : {A : Type 0} → Reader A → List ℕ → List ℕ → ℕ → Shown A
shown_at r f s at = shown_by (r f at) (r s at)

-- how many fields are promised: "The list says how many fields the count promised, or that the count itself is missing"
pub data Promise : Type 0 where
  missing : Promise
  promised : ℕ → Promise

-- what is salvaged, or the refusal
pub data Salvage : Type 0 where
  salvaged : Promise → List Field → Salvage
  refusal : ℕ → ℕ → Salvage

-- with one field more in front
abbrev pub with_field : Field → Salvage → Salvage
with_field x (salvaged p fs) = salvaged p (x ∷ fs)
with_field x (refusal n place) = refusal n place

-- "After the last promised field, or a keep alive's header: a byte of the front that isn't 0 is 7 at it"
abbrev pub after_last : ℕ → Answer (Unit {0}) → Salvage
after_last count (got u z) = salvaged (promised count) []
after_last count (refused n place) = refusal n place

-- the fields that lie whole in the front: n are left of `count`, the first of them is field k
abbrev pub on_field : ℕ → Shown Field → (ℕ → Salvage) → Salvage
on_field count (shown x end) onward = with_field x (onward end)
on_field count (bad n place) onward = refusal n place
on_field count ends onward = salvaged (promised count) []

unfoldable pub fields_shown : ℕ → Bool → Encoding → List ℕ → ℕ → ℕ → List ℕ → List ℕ → ℕ → Salvage
fields_shown count delta encoding types zero k f s at = after_last count (padding_at f at)
fields_shown count delta encoding types (suc n) k f s at =
    on_field count (shown_at (field_at delta encoding types k) f s at) (λ end. fields_shown count delta encoding types n (k + 1) f s end)

-- what is salvaged from a cursor on
abbrev pub salvage_from : List ℕ → List ℕ → List ℕ → Cursor → Salvage
salvage_from types f s c = fields_shown c.count c.delta c.encoding types (c.count - c.next) c.next f s c.at

-- the header and the count: "RawData promises the configured ones, a heartbeat, keep alive or message not valid none, each known once the
-- header is covered"
abbrev pub on_front : List ℕ → List ℕ → List ℕ → Shown (Valid Message) → Salvage
on_front types f s (shown not_valid at) = salvaged (promised 0) []
on_front types f s (shown (valid m) at) = salvage_from types f s m.cursor
on_front types f s (bad n place) = refusal n place
on_front types f s ends = salvaged missing []

-- header and count of a message of `total` bytes whose front is f, in the area s: both are read up to the first field
abbrev pub front_shown : ℕ → List ℕ → List ℕ → List ℕ → Shown (Valid Message)
front_shown total types f s = shown_by (front_to total types f) (front_to total types s)

abbrev pub salvage_at : ℕ → List ℕ → List ℕ → List ℕ → Salvage
salvage_at total types f s = on_front types f s (front_shown total types f s)

-- ---- the same in steps; a refusal by its number and place

-- what the code answers, with the number of the refusal's reason
abbrev pub numbered : {A : Type 0} → Result A Refusal → Result A (ℕ × ℕ)
numbered (Ok a) = Ok a
numbered (Err r) = Err (reason_number r.reason, r.place)

-- the cursor before the first field, or why there is none
abbrev pub opens : Shown (Valid Message) → Result Opening (ℕ × ℕ)
opens (shown not_valid at) = Ok Opening.NotValid
opens (shown (valid m) at) = Ok (Opening.At m.cursor)
opens (bad n place) = Err (n, place)
opens ends = Ok Opening.Missing

abbrev pub open_at : ℕ → List ℕ → List ℕ → List ℕ → Result Opening (ℕ × ℕ)
open_at total types f s = opens (front_shown total types f s)

-- the field that a cursor stands before, if it lies whole in the front; past the last one the padding decides. A made-up cursor is read at
-- the byte it names.
abbrev pub shown_step : Cursor → Shown Field → Result FieldShown (ℕ × ℕ)
shown_step c (shown x end) = Ok (FieldShown.Is x (cursor_before c (c.next + 1) end))
shown_step c (bad n place) = Err (n, place)
shown_step c ends = Ok FieldShown.Ends

abbrev pub last_by : Answer (Unit {0}) → Result FieldShown (ℕ × ℕ)
last_by (got u z) = Ok FieldShown.Last
last_by (refused n place) = Err (n, place)

abbrev pub next_shown : List ℕ → List ℕ → List ℕ → Cursor → Result FieldShown (ℕ × ℕ)
next_shown types f s c =
    cond (leb c.count c.next) (last_by (padding_at f c.at))
    (shown_step c (shown_at (field_at c.delta c.encoding types c.next) f s c.at))

abbrev pub salvage_opened : List ℕ → List ℕ → List ℕ → Result Opening (ℕ × ℕ) → Salvage
salvage_opened types f s (Ok Opening.Missing) = salvaged missing []
salvage_opened types f s (Ok Opening.NotValid) = salvaged (promised 0) []
salvage_opened types f s (Ok (Opening.At c)) = salvage_from types f s c
salvage_opened types f s (Err (n, place)) = refusal n place

-- its fields; a refusal has none
abbrev pub saved_fields : Salvage → List Field
saved_fields (salvaged p fs) = fs
saved_fields (refusal n place) = []

-- how many there are, besides k before them
abbrev pub tally_from : ℕ → Salvage → Result ℕ (ℕ × ℕ)
tally_from k (salvaged p fs) = Ok (k + length fs)
tally_from k (refusal n place) = Err (n, place)

-- how it ends after k fields, where no further one is whole
abbrev pub tally_by : ℕ → Result FieldShown (ℕ × ℕ) → Result ℕ (ℕ × ℕ)
tally_by k (Ok x) = Ok k
tally_by k (Err e) = Err e
