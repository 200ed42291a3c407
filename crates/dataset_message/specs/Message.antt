-- A DataSetMessage whole (document 01, "The DataSetMessage"), and looking a field up ("Values").
use Rattle.std.specs.Prelude.{ℕ, Bool, true, false, cond, List, [], leb, ltb, eqb, length, take, drop, Result, Ok, Err, Option, Some, None}
use Rattle.wire.specs.Constants.{CUT_SHORT, DISAGREE, NOT_CONFIGURED, OVER_LIMIT}
use Rattle.wire.specs.Answer.{Answer, got, refused, Reader, item, and_then}
use Rattle.wire.specs.Refusal.{reason_number}
use Rattle.wire.specs.declared.refusal.Refusal.{Refusal}
use Rattle.dataset_header.specs.declared.flags.Kind.{Kind}
use Rattle.dataset_header.specs.declared.header.Header.{Header}
use Rattle.dataset_fields.specs.declared.fields.Field.{Field}
use Rattle.dataset_fields.specs.declared.fields.Cursor.{Cursor}
use Rattle.dataset_header.specs.Flags.{is_delta, is_raw, Valid, not_valid, valid}
use Rattle.dataset_header.specs.Header.{message_header_at}
use Rattle.dataset_fields.specs.Fields.{field_at, fields_at, padding_at}

-- "FieldCount 2 and the fields; RawData has no count, its fields are the configured ones (none: 8)"
abbrev pub counted_at : Bool → List ℕ → Reader ℕ
counted_at raw types s at = cond raw (cond (eqb (length types) 0) (refused NOT_CONFIGURED 0) (got (length types) at)) (item 2 s at)

-- "A key frame with nothing left is a heartbeat. Else key and event: FieldCount ..; Delta: FieldCount"; a keep alive has no fields. The
-- message ends at `end`, also where only its front can be read (document 02, Req 13).
abbrev pub count_to : ℕ → Kind → Bool → List ℕ → Reader ℕ
count_to end Kind.Key raw types s at = cond (leb end at) (got 0 at) (counted_at raw types s at)
count_to end Kind.Delta raw types s at = counted_at false types s at
count_to end Kind.Event raw types s at = counted_at raw types s at
count_to end Kind.KeepAlive raw types s at = got 0 at

-- of a message that is all of a slice
abbrev pub count_at : Kind → Bool → List ℕ → Reader ℕ
count_at kind raw types s at = count_to (length s) kind raw types s at

-- what is read of a valid message: its header, the cursor before its first field, and where its last field ends
pub record Message : Type 0 where
  pub header : Header
  pub cursor : Cursor
  pub end : ℕ

-- the fields from the cursor on, and "After the last field, or a keep alive's header, only zero bytes may remain"
abbrev pub end_at : Header → Cursor → List ℕ → List ℕ → Answer (Valid Message)
end_at h c types s =
    and_then (fields_at c.delta c.encoding types c.count 0 s c.at)
    (λ _ end. and_then (padding_at s end) (λ _ z. got (valid (record { header = h; cursor = c; end = end })) end))

-- the front of a message ends before its first field: nothing more is read, and `end` is where that field starts
abbrev pub opened_at : Header → Cursor → List ℕ → List ℕ → Answer (Valid Message)
opened_at h c types s = got (valid (record { header = h; cursor = c; end = c.at })) c.at

-- what follows the header of a message that ends at `end`: the count, and from the cursor before the first field on what `rest` reads
abbrev pub body_to : ℕ → (Header → Cursor → List ℕ → List ℕ → Answer (Valid Message)) → Header → List ℕ → Reader (Valid Message)
body_to end rest h types s at =
    and_then (count_to end h.kind (is_raw h.encoding) types s at)
    (λ n first. rest h (record { encoding = h.encoding; delta = is_delta h.kind; next = 0; count = n; at = first }) types s)

abbrev pub after_header_to : ℕ → (Header → Cursor → List ℕ → List ℕ → Answer (Valid Message)) → Valid Header → List ℕ
    → Reader (Valid Message)
after_header_to end rest not_valid types s at = got not_valid 0
after_header_to end rest (valid h) types s at = body_to end rest h types s at

abbrev pub message_to : ℕ → (Header → Cursor → List ℕ → List ℕ → Answer (Valid Message)) → List ℕ → List ℕ → Answer (Valid Message)
message_to end rest types s = and_then (message_header_at s 0) (λ h at. after_header_to end rest h types s at)

-- of a message that is all of a slice
abbrev pub body_by : (Header → Cursor → List ℕ → List ℕ → Answer (Valid Message)) → Header → List ℕ → Reader (Valid Message)
body_by rest h types s at = body_to (length s) rest h types s at

abbrev pub after_header_by : (Header → Cursor → List ℕ → List ℕ → Answer (Valid Message)) → Valid Header → List ℕ → Reader (Valid Message)
after_header_by rest v types s at = after_header_to (length s) rest v types s at

abbrev pub message_by : (Header → Cursor → List ℕ → List ℕ → Answer (Valid Message)) → List ℕ → List ℕ → Answer (Valid Message)
message_by rest types s = message_to (length s) rest types s

-- a message alone, with the configured field types of its writer; of one not valid nothing more is read
abbrev pub body_at : Header → List ℕ → Reader (Valid Message)
body_at = body_by end_at

abbrev pub after_header : Valid Header → List ℕ → Reader (Valid Message)
after_header = after_header_by end_at

abbrev pub message_at : List ℕ → List ℕ → Answer (Valid Message)
message_at = message_by end_at

-- its front alone
abbrev pub front_at : List ℕ → List ℕ → Answer (Valid Message)
front_at = message_by opened_at

-- the front of a message that ends at `end`, by its bytes up to a hole (document 02, Req 13)
abbrev pub front_to : ℕ → List ℕ → List ℕ → Answer (Valid Message)
front_to end = message_to end opened_at

-- the end of a message whose fields were stepped over, by the cursor c after the last of them: "only zero bytes may remain"; a field that
-- is left is 6, at the cursor's byte; "A made-up cursor is read at the byte it names; past the end it is 1"
abbrev pub ended_at : Cursor → List ℕ → Answer (Unit {0})
ended_at c s =
    cond (ltb (length s) c.at) (refused CUT_SHORT c.at)
    (cond (ltb c.next c.count) (refused DISAGREE c.at)
    (and_then (padding_at s c.at) (λ _ z. got tt c.at)))

-- field k from the cursor before the first: "k at or past the count .. is 10"
abbrev pub nth_at : Cursor → List ℕ → ℕ → List ℕ → Answer Field
nth_at c types k s =
    cond (leb c.count k) (refused OVER_LIMIT 0)
    (and_then (fields_at c.delta c.encoding types k 0 s c.at) (λ _ at. field_at c.delta c.encoding types k s at))

-- "Lookup reads the whole message first; its fault comes before 10, and one not valid has no fields."
abbrev pub of_message : Valid Message → List ℕ → ℕ → List ℕ → Answer Field
of_message not_valid types k s = refused OVER_LIMIT 0
of_message (valid m) types k s = nth_at m.cursor types k s

abbrev pub field_place_at : List ℕ → ℕ → List ℕ → Answer Field
field_place_at types k s = and_then (message_at types s) (λ m _. of_message m types k s)

-- "A field's encoded bytes are answered as that part of the lent datagram itself": nothing where it is refused
abbrev pub field_bytes : Answer Field → List ℕ → List ℕ
field_bytes (got f next) s = take f.length (drop f.offset s)
field_bytes (refused n place) s = []

-- what the answer of the code says

abbrev pub answer_message : Result (Option (Header × Cursor × ℕ)) Refusal → Answer (Valid Message)
answer_message (Ok None) = got not_valid 0
answer_message (Ok (Some (h, c, end))) = got (valid (record { header = h; cursor = c; end = end })) end
answer_message (Err r) = refused (reason_number r.reason) r.place

-- the whole message, or its front alone
abbrev pub whole_or_front : Bool → Header → Cursor → List ℕ → List ℕ → Answer (Valid Message)
whole_or_front true = end_at
whole_or_front false = opened_at
