-- By which numbers the writers refuse.
-- Assumes nothing.
use Rattle.network_header.specs.declared.group.GroupFields.{GroupFields}
use Rattle.std.specs.Prelude.{Option, Some, None, Err, is_some}
use Rattle.wire.proofs.Reading.{not_got}
use Rattle.wire.specs.Refusal.{reason_number}
use Rattle.wire.specs.declared.refusal.Reason.{Reason}
use Prim.Native.Nat.{ℕ, zero, suc, ◌+◌, ◌*◌, ◌-◌, ◌/◌, ◌%◌}
use mathlib.Core.Path.{◌≡◌, refl, sym, subst}
use mathlib.Core.Bool.{Bool, true, false, cond, ◌&&◌, not}
use mathlib.Core.List.{List, [], ◌∷◌}
use mathlib.Core.Logic.{◌⊎◌, inl, inr}
use native.Mathlib.Omega.{arith}
use lib.Dec.{eqb, leb, ltb}
use lib.ListN.{length, get_or, take, drop}
use Rattle.wire.specs.Lists.{total}
use Rattle.wire.specs.Number.{le}
use Rattle.wire.specs.Answer.{Answer, got, refused, and_then, run, pure, each}
use Rattle.wire.specs.Items.{length_item}
use Rattle.wire.specs.declared.Length.{Length}
use Rattle.wire.proofs.Cases.{by_bool}
use Rattle.wire_writer.specs.Writing.{or_else, unused, Output, Writes, unless, written_of, picoseconds_refusal}
use Rattle.publisher_id.specs.Publisher.{publisher_refusal, publisher_shape, text_too_long}
use Rattle.publisher_id.specs.declared.publisher.PublisherId.{PublisherId}
use Rattle.network_header.specs.Flags.{times_refusal, probe_refusal}
use Rattle.plain_value.specs.Plain.{bytes, after_length, string, length_first}
use Rattle.plain_value.specs.Dimensions.{fours, any_below_one, product, given_sizes_rule}
use Rattle.probe.specs.declared.body.Probe.{Probe}
use Rattle.probe.specs.Body.{probe_body_at}
use Rattle.probe.specs.Put.{id_list_rule, strings_end, string_list_rule, probe_body_refusal, probe_bytes, probe_output}
use Rattle.network_header.specs.Group.{number_refusal, group_refusal}
use Rattle.network_header.specs.Header.{count_refusal, promoted_refusal, count_shape, ids_shape, promoted_shape, probe_on}
use Rattle.network_header.specs.Numbers.{configured_sizes, same_numbers}
use Rattle.network_header.specs.declared.envelope.Envelope.{Envelope}
use Rattle.network_header.specs.declared.header.PayloadHeader.{PayloadHeader}
use Rattle.network_message.specs.Payload.{all_positive, listed, messages_from, rest_only_at, configured_at}
use Rattle.network_message.specs.declared.payload.Sizes.{Sizes}
use Rattle.network_message.specs.Envelope.{NetworkMessage, network_message_at, messages_of}
use Rattle.network_message.specs.WriterPayload.{listed_refusal, refusal_number, payload_refusal, lengths_shape}
use Rattle.network_message.specs.Writer.{GivenDatagram, datagram_reading_refusal, shape_refusal, datagram_refusal, datagram_of, datagram_output}
use Rattle.plain_value.specs.Width.{fixed, width_of}
use Rattle.dataset_header.specs.Flags.{Valid, not_valid, valid, kind_rule, is_raw}
use Rattle.dataset_header.specs.Header.{message_held}
use Rattle.dataset_header.specs.declared.flags.Encoding.{Encoding}
use Rattle.dataset_header.specs.declared.flags.Kind.{Kind}
use Rattle.dataset_fields.specs.Fields.{encoded_at, fields_refusal, number_of, reached, zeros_at}
use Rattle.dataset_message.specs.Message.{Message, message_at}
use Rattle.dataset_message.specs.Writer.{GivenMessage, is_fielded, is_raw_data, is_key, given_fields, missing_refusal, left_refusal, raw_refusal, layout_refusal, own_given, whole_given, lists_given, layout_given, body_refusal, message_reading_refusal, reads_back, message_refusal, encode, message_output}
use Rattle.round_trip.specs.NetworkMessage.{rewritten}
use Rattle.rewriting.specs.Same.{message_same, datagram_same}
use Rattle.reassembly_laws.specs.Refusing.{one_of}
use Rattle.value.specs.Value.{type_of, is_array, has_dimensions, taken, variant_rule}
use Rattle.value_parts.specs.declared.put.Form.{Form}
use Rattle.value_parts.specs.Put.{first_byte, count_given, variant_bytes, type_rule, form_rule, put_rule, variant_output}
use Rattle.value_parts.specs.PutName.{has_locale, has_text, name_bytes, name_kind_rule, absent_rule, name_rule, name_output}
use Rattle.value_parts.specs.PutMatrix.{matrix_bytes, matrix_rule, matrix_output}
use Rattle.acceptance.specs.Refusals.{datagram_writer_refusals, message_writer_refusals, datagram_again_refusals, message_again_refusals, probe_writer_refusals, value_writer_refusals, matrix_writer_refusals}
use Rattle.acceptance.proofs.Refusals.{Tells, with13, wider_one}
use Rattle.acceptance.proofs.Refusals.Tells.{gives, refuses}
use Rattle.acceptance.proofs.RefusedDatagrams.{datagram_others, probe_others, datagram_tells, body_tells}
use Rattle.acceptance.proofs.RefusedMessages.{field_others, message_others, encoded_lawful, message_tells}

-- no refusal, or one by one of these numbers
abbrev Number : List ℕ → ℕ → Type 0
Number ns n = (n ≡ 0) ⊎ (one_of ns n ≡ true)

either : (ns : List ℕ) (b : Bool) (x y : ℕ) → Number ns x → Number ns y → Number ns (cond b x y)
either ns true x y f h = f
either ns false x y f h = h

in_turn : (ns : List ℕ) (a b : ℕ) → Number ns a → Number ns b → Number ns (or_else a b)
in_turn ns a b f h = either ns (eqb a 0) b a h f

-- ---- the datagram's writer
abbrev for_datagrams : List ℕ
for_datagrams = datagram_writer_refusals

held : (b : Bool) → Number for_datagrams (cond b 0 6)
held b = either for_datagrams b 0 6 (inl refl) (inr refl)

publisher_number_lem : (p : PublisherId) (n : ℕ) → Number for_datagrams (publisher_refusal p n)
publisher_number_lem PublisherId.Absent n = inl refl
publisher_number_lem (PublisherId.Byte v) n = inl refl
publisher_number_lem (PublisherId.UInt16 v) n = inl refl
publisher_number_lem (PublisherId.UInt32 v) n = inl refl
publisher_number_lem (PublisherId.UInt64 v) n = inl refl
publisher_number_lem (PublisherId.Text k) n = either for_datagrams (text_too_long n) 10 0 (inr refl) (inl refl)

optional_number : (o : Option ℕ) → Number for_datagrams (picoseconds_refusal o)
optional_number None = inl refl
optional_number (Some v) = either for_datagrams (leb 10000 v) 3 0 (inr refl) (inl refl)

message_number : (o : Option ℕ) → Number for_datagrams (number_refusal o)
message_number None = inl refl
message_number (Some v) = either for_datagrams (eqb v 0) 3 0 (inr refl) (inl refl)

group_number_lem : (g : Option GroupFields) → Number for_datagrams (group_refusal g)
group_number_lem None = inl refl
group_number_lem (Some g) = message_number g.number

count_number : (h : PayloadHeader) → Number for_datagrams (count_refusal h)
count_number PayloadHeader.Absent = inl refl
count_number (PayloadHeader.Ids n) = either for_datagrams (eqb n 0) 6 0 (inr refl) (inl refl)
count_number (PayloadHeader.Chunk w) = inl refl
count_number PayloadHeader.Probe = inl refl

promoted_number : (p : Option ℕ) (messages : ℕ) → Number for_datagrams (promoted_refusal p messages)
promoted_number None messages = inl refl
promoted_number (Some n) messages = either for_datagrams (eqb messages 1) 0 6 (inl refl) (inr refl)

times_number : (p t : Bool) → Number for_datagrams (times_refusal p t)
times_number p t = either for_datagrams p (cond t 0 3) 0 (either for_datagrams t 0 3 (inl refl) (inr refl)) (inl refl)

probe_number : (p c m : Bool) → Number for_datagrams (probe_refusal p c m)
probe_number p c m =
    either for_datagrams p (cond c 4 (cond m 3 0)) 0 (either for_datagrams c 4 (cond m 3 0) (inr refl) (either for_datagrams m 3 0 (inr refl) (inl refl))) (inl refl)

rest_number : (s : List ℕ) (at : ℕ) → Number for_datagrams (refusal_number (rest_only_at s at))
rest_number s at = by_bool _ (ltb at (length s)) (λ b. rw b (inl refl)) (λ b. rw b (inr refl))

configured_number : (sizes s : List ℕ) (at : ℕ) → Number for_datagrams (refusal_number (configured_at sizes s at))
configured_number sizes s at =
    by_bool _ (eqb (length sizes) 0) (λ a. rw a (inr refl))
    (λ a. by_bool _ (all_positive sizes)
    (λ b. by_bool _ (eqb (at + total sizes) (length s)) (λ c. rw (a, b, c) (inl refl)) (λ c. rw (a, b, c) (inr refl)))
    (λ b. by_bool _ (eqb (length sizes) 1) (λ c. rw (a, b, c) (rest_number s at)) (λ c. rw (a, b, c) (inr refl))))

listed_number : (n : ℕ) (lengths : List ℕ) (rest : ℕ) → Number for_datagrams (listed_refusal n lengths rest)
listed_number n lengths rest =
    either for_datagrams (eqb (length lengths) (2 * n)) _ 6
    (either for_datagrams (all_positive (listed n lengths 0)) (cond (eqb (total (listed n lengths 0)) rest) 0 6) 6 (held (eqb (total (listed n lengths 0)) rest)) (inr refl)) (inr refl)

payload_number : (chunk : Bool) (h : PayloadHeader) (sizes lengths messages : List ℕ) → Number for_datagrams (payload_refusal chunk h sizes lengths messages)
payload_number true PayloadHeader.Absent sizes lengths messages = inr refl
payload_number false PayloadHeader.Absent sizes lengths messages = configured_number (configured_sizes sizes) messages 0
payload_number chunk (PayloadHeader.Ids n) sizes lengths messages =
    either for_datagrams chunk 0 _ (inl refl)
    (either for_datagrams (leb n 1) (refusal_number (rest_only_at messages 0)) (listed_refusal n lengths (length messages)) (rest_number messages 0) (listed_number n lengths (length messages)))
payload_number chunk (PayloadHeader.Chunk w) sizes lengths messages = inl refl
payload_number true PayloadHeader.Probe sizes lengths messages = inr refl
payload_number false PayloadHeader.Probe sizes lengths messages = go (probe_body_at messages 0) (body_tells messages 0 (omega arith))
  where
    go : (x : Answer Probe) → Tells probe_others (length messages) x → Number for_datagrams (refusal_number (and_then x (λ p next. got (messages_from 0 Sizes.Rest 0) 0)))
    go (got p n) t = inl refl
    go (refused k place) (refuses r) = inr (wider_one (with13 probe_others) for_datagrams refl k r.one)

reading_number : (g : GivenDatagram) (x : Envelope) (sizes : List ℕ) → Number for_datagrams (datagram_reading_refusal g x sizes)
reading_number g x sizes =
    in_turn for_datagrams _ _ (times_number (is_some x.picoseconds) (is_some x.timestamp))
    (in_turn for_datagrams _ _ (probe_number (probe_on x.payload_header) x.chunk (is_some x.promoted))
    (in_turn for_datagrams _ _ (publisher_number_lem x.publisher (length g.text))
    (in_turn for_datagrams _ _ (group_number_lem x.group)
    (in_turn for_datagrams _ _ (count_number x.payload_header)
    (in_turn for_datagrams _ _ (optional_number x.picoseconds)
    (in_turn for_datagrams _ _ (promoted_number x.promoted (messages_of x.chunk x.payload_header (length (configured_sizes sizes))))
    (payload_number x.chunk x.payload_header sizes g.lengths g.messages)))))))

publisher_shape_lem : (p : PublisherId) (n : ℕ) → Number for_datagrams (publisher_shape p n)
publisher_shape_lem PublisherId.Absent n = held (eqb n 0)
publisher_shape_lem (PublisherId.Byte v) n = held (eqb n 0)
publisher_shape_lem (PublisherId.UInt16 v) n = held (eqb n 0)
publisher_shape_lem (PublisherId.UInt32 v) n = held (eqb n 0)
publisher_shape_lem (PublisherId.UInt64 v) n = held (eqb n 0)
publisher_shape_lem (PublisherId.Text k) n = held (eqb k n)

ids_shape_lem : (chunk : Bool) (h : PayloadHeader) (ids configured : List ℕ) → Number for_datagrams (ids_shape chunk h ids configured)
ids_shape_lem chunk PayloadHeader.Absent ids configured = held (same_numbers ids (take 16 configured))
ids_shape_lem chunk (PayloadHeader.Ids n) ids configured =
    either for_datagrams chunk 6 (count_shape n (length ids)) (inr refl)
    (either for_datagrams (leb 256 n) 6 (cond (eqb (length ids) (2 * n)) 0 6) (inr refl) (held (eqb (length ids) (2 * n))))
ids_shape_lem chunk (PayloadHeader.Chunk w) ids configured = either for_datagrams chunk (unused (length ids)) 6 (held (eqb (length ids) 0)) (inr refl)
ids_shape_lem chunk PayloadHeader.Probe ids configured = held (eqb (length ids) 0)

promoted_shape_lem : (p : Option ℕ) (n : ℕ) → Number for_datagrams (promoted_shape p n)
promoted_shape_lem None n = held (eqb n 0)
promoted_shape_lem (Some k) n = either for_datagrams (leb 65536 k) 6 (cond (eqb k n) 0 6) (inr refl) (held (eqb k n))

lengths_shape_lem : (h : PayloadHeader) (lengths sizes : List ℕ) → Number for_datagrams (lengths_shape h lengths sizes)
lengths_shape_lem PayloadHeader.Absent lengths sizes =
    either for_datagrams (leb (length (configured_sizes sizes)) 1) (unused (length lengths)) (cond (same_numbers lengths (configured_sizes sizes)) 0 6) (held (eqb (length lengths) 0))
    (held (same_numbers lengths (configured_sizes sizes)))
lengths_shape_lem (PayloadHeader.Ids n) lengths sizes = either for_datagrams (leb n 1) (unused (length lengths)) 0 (held (eqb (length lengths) 0)) (inl refl)
lengths_shape_lem (PayloadHeader.Chunk w) lengths sizes = held (eqb (length lengths) 0)
lengths_shape_lem PayloadHeader.Probe lengths sizes = held (eqb (length lengths) 0)

shape_number_lem : (g : GivenDatagram) (x : Envelope) (sizes configured : List ℕ) → Number for_datagrams (shape_refusal g x sizes configured)
shape_number_lem g x sizes configured =
    in_turn for_datagrams _ _ (publisher_shape_lem x.publisher (length g.text))
    (in_turn for_datagrams _ _ (ids_shape_lem x.chunk x.payload_header g.ids configured)
    (in_turn for_datagrams _ _ (promoted_shape_lem x.promoted (length g.promoted)) (lengths_shape_lem x.payload_header g.lengths sizes)))

-- ---- the message's writer
abbrev for_messages : List ℕ
for_messages = message_writer_refusals

kind_number_lem : (k : Kind) (e : Encoding) → Number for_messages (kind_rule k e)
kind_number_lem Kind.Key e = inl refl
kind_number_lem Kind.Delta Encoding.Variant = inl refl
kind_number_lem Kind.Delta Encoding.RawData = inr refl
kind_number_lem Kind.Delta Encoding.DataValue = inl refl
kind_number_lem Kind.Event Encoding.Variant = inl refl
kind_number_lem Kind.Event Encoding.RawData = inr refl
kind_number_lem Kind.Event Encoding.DataValue = inr refl
kind_number_lem Kind.KeepAlive e = inl refl

picoseconds_number : (o : Option ℕ) → Number for_messages (picoseconds_refusal o)
picoseconds_number None = inl refl
picoseconds_number (Some v) = either for_messages (leb 10000 v) 3 0 (inr refl) (inl refl)

-- an answer's number
told_number : {A : Type 0} {hi : ℕ} {x : Answer A} → Tells field_others hi x → Number for_messages (number_of x)
told_number (gives h) = inl refl
told_number (refuses {n} {place} r) = inr (wider_one (with13 field_others) for_messages refl n r.one)

fields_number_lem : (e : Encoding) (types : List ℕ) (k : ℕ) (vs : List (List ℕ)) → Number for_messages (fields_refusal e types k vs)
unfolding fields_refusal
fields_number_lem e types k [] = inl refl
fields_number_lem e types k (v ∷ vs) =
    in_turn for_messages (number_of (encoded_at e types k v 0)) _ (told_number ((encoded_lawful e types k).tells v 0 (omega arith))) (fields_number_lem e types (k + 1) vs)

missing_number : (types : List ℕ) (padding : ℕ) → Number for_messages (missing_refusal types padding)
unfolding missing_refusal
missing_number [] padding = inl refl
missing_number (t ∷ types) padding =
    either for_messages (fixed t) _ 4
    (either for_messages (leb (width_of t) padding) (missing_refusal types (padding - width_of t)) 1 (missing_number types (padding - width_of t)) (inr refl)) (inr refl)

zeros_number : (n : ℕ) (s : List ℕ) (at : ℕ) → Number for_messages (number_of (zeros_at n s at))
unfolding zeros_at
zeros_number zero s at = inl refl
zeros_number (suc n) s at = by_bool _ (eqb (get_or s at 0) 0) (λ b. rw b (zeros_number n s (at + 1))) (λ b. rw b (inr refl))

left_number : (values : List ℕ) (at : ℕ) → Number for_messages (left_refusal values at)
left_number values at = zeros_number (length values - at) values at

layout_number : (fielded raw key : Bool) (types values lengths : List ℕ) (padding : ℕ) → Number for_messages (layout_refusal fielded raw key types values lengths padding)
layout_number fielded raw key types values lengths padding =
    either for_messages fielded _ _
    (either for_messages raw (raw_refusal types values lengths padding) 0
    (either for_messages (eqb (length values) 0 && eqb padding 0) 0 _ (inl refl)
    (either for_messages (eqb (length types) 0) 8 _ (inr refl)
    (in_turn for_messages (missing_refusal (drop (length lengths) types) padding) _ (missing_number (drop (length lengths) types) padding)
    (left_number values (total (take (length types) lengths)))))) (inl refl))
    (either for_messages key 0 (left_refusal values 0) (inl refl) (left_number values 0))

body_number : (types : List ℕ) (g : GivenMessage) → Number for_messages (body_refusal types g)
body_number types g =
    in_turn for_messages (own_given types g) _
    (either for_messages (is_fielded g) _ 0 (fields_number_lem g.header.encoding types 0 (reached (is_raw g.header.encoding) types (given_fields g))) (inl refl))
    (either for_messages (whole_given types g && lists_given g) (layout_given types g) 0
    (layout_number (is_fielded g) (is_raw_data g) (is_key g.header.kind) types g.values g.lengths g.padding) (inl refl))

refusal_number_lem : (types : List ℕ) (g : GivenMessage) → Number for_messages (message_refusal types g)
refusal_number_lem types g =
    in_turn for_messages (message_reading_refusal types g) _
    (in_turn for_messages _ _ (kind_number_lem g.header.kind g.header.encoding) (in_turn for_messages _ _ (picoseconds_number g.header.picoseconds) (body_number types g)))
    (either for_messages (reads_back types g) 0 6 (inl refl) (inr refl))

-- ---- what a writer answers
refusal_of : {n m : ℕ} → ◌≡◌ {A = Answer (Unit {0})} (refused n 0) (refused m 0) → n ≡ m
refusal_of e = cc

-- bytes that are written are refused by 10 or 11 only
room_number : (ns : List ℕ) → one_of ns 10 ≡ true → one_of ns 11 ≡ true → (n room : ℕ) (bytes : List ℕ) → refused n 0 ≡ written_of room (Output.writing bytes) → one_of ns n ≡ true
room_number ns t e n room bytes q =
    by_bool _ (ltb 65535 (length bytes)) (λ a. subst (λ (k : ℕ). one_of ns k ≡ true) (sym (refusal_of (rw a at q))) t)
    (λ a. by_bool _ (ltb room (length bytes)) (λ b. subst (λ (k : ℕ). one_of ns k ≡ true) (sym (refusal_of (rw (a, b) at q))) e) (λ b. absurd (not_got (rw (a, b) at q))))

unless_number : (ns : List ℕ) → one_of ns 10 ≡ true → one_of ns 11 ≡ true → (k : ℕ) → Number ns k → (n room : ℕ) (bytes : List ℕ)
    → refused n 0 ≡ written_of room (unless k bytes) → one_of ns n ≡ true
unless_number ns t e k (inl z) n room bytes q = room_number ns t e n room bytes (rw z at q)
unless_number ns t e k (inr z) n room bytes q =
    by_bool _ (eqb k 0) (λ b. room_number ns t e n room bytes (rw b at q)) (λ b. subst (λ (i : ℕ). one_of ns i ≡ true) (sym (refusal_of (rw b at q))) z)

pub datagram_writer_told : (g : GivenDatagram) (x : Envelope) (sizes configured : List ℕ) (room n : ℕ)
    → written_of room (datagram_output g x sizes configured) ≡ refused n 0 → one_of datagram_writer_refusals n ≡ true
datagram_writer_told g x sizes configured room n w =
    unless_number for_datagrams refl refl (datagram_refusal g x sizes configured) (in_turn for_datagrams _ _ (reading_number g x sizes) (shape_number_lem g x sizes configured))
    n room (datagram_of g x) (sym w)

-- ---- a probe's body
abbrev for_probes : List ℕ
for_probes = probe_writer_refusals

probe_held : (b : Bool) → Number for_probes (cond b 0 6)
probe_held b = either for_probes b 0 6 (inl refl) (inr refl)

id_list_number : (l : Option ℕ) (n : ℕ) → Number for_probes (id_list_rule l n)
id_list_number None n = probe_held (eqb n 0)
id_list_number (Some k) n = either for_probes (leb 2147483648 k) 6 (cond (eqb n (2 * k)) 0 6) (inr refl) (probe_held (eqb n (2 * k)))

-- strings are refused by 1 and 5 only
abbrev OneOrFive : {A : Type 0} → Answer A → Type 0
OneOrFive (got a next) = Unit {0}
OneOrFive (refused n place) = one_of (1 ∷ 5 ∷ []) n ≡ true

then_numbers : {A B : Type 0} (x : Answer A) (k : A → ℕ → Answer B) → OneOrFive x → ((a : A) (n : ℕ) → OneOrFive (k a n)) → OneOrFive (and_then x k)
then_numbers (got a n) k t f = f a n
then_numbers (refused n place) k t f = t

taking_numbers : {A : Type 0} (b : Bool) (a : A) (next at : ℕ) → OneOrFive (cond b (got a next) (refused 1 at))
taking_numbers true a next at = tt
taking_numbers false a next at = refl

string_numbers : (s : List ℕ) (at : ℕ) → OneOrFive (string s at)
unfolding string
string_numbers s at = then_numbers (length_item s at) _ (taking_numbers (leb (at + 4) (length s)) _ _ at) by_length
  where
    by_length : (l : Length) (next : ℕ) → OneOrFive (after_length (pure tt) bytes at l s next)
    by_length Length.Null next = tt
    by_length (Length.Of n) next = then_numbers (run n s next) _ (taking_numbers (leb (next + n) (length s)) n (next + n) next) (λ a m. tt)
    by_length Length.Negative next = refl

strings_numbers : (n : ℕ) (s : List ℕ) (at : ℕ) → OneOrFive (each string n s at)
unfolding each
strings_numbers zero s at = tt
strings_numbers (suc n) s at = then_numbers (string s at) _ (string_numbers s at) (λ a next. strings_numbers n s next)

string_list_number : (l : Option ℕ) (list : List ℕ) → Number for_probes (string_list_rule l list)
string_list_number None list = probe_held (eqb (length list) 0)
string_list_number (Some k) list = go (each string k list 0) (strings_numbers k list 0)
  where
    go : (x : Answer (Unit {0})) → OneOrFive x → Number for_probes (strings_end k (length list) x)
    go (got a end) t = either for_probes (leb 2147483648 k) 6 (cond (eqb end (length list)) 0 6) (inr refl) (probe_held (eqb end (length list)))
    go (refused n place) t = inr (wider_one (1 ∷ 5 ∷ []) for_probes refl n t)

probe_body_number : (list : List ℕ) (p : Probe) → Number for_probes (probe_body_refusal list p)
probe_body_number list (Probe.MetaData l) = id_list_number l (length list)
probe_body_number list (Probe.Writers l) = id_list_number l (length list)
probe_body_number list (Probe.Group g b) = probe_held (eqb (length list) 0)
probe_body_number list (Probe.Connections l g w) = string_list_number l list

pub probe_writer_told : (list : List ℕ) (p : Probe) (room n : ℕ) → written_of room (probe_output list p) ≡ refused n 0
    → one_of probe_writer_refusals n ≡ true
probe_writer_told list p room n w = unless_number for_probes refl refl (probe_body_refusal list p) (probe_body_number list p) n room (probe_bytes list p) (sym w)

pub message_writer_told : (types : List ℕ) (g : GivenMessage) (room n : ℕ)
    → written_of room (message_output types g) ≡ refused n 0 → one_of message_writer_refusals n ≡ true
message_writer_told types g room n w = unless_number for_messages refl refl (message_refusal types g) (refusal_number_lem types g) n room (encode g) (sym w)

-- ---- rewriting
pub datagram_again_told : (sizes s : List ℕ) (room n : ℕ) → written_of room (datagram_same sizes s) ≡ refused n 0 → one_of datagram_again_refusals n ≡ true
datagram_again_told sizes s room n w = go (network_message_at sizes s) refl (datagram_tells sizes s)
  where
    go : (a : Answer NetworkMessage) → network_message_at sizes s ≡ a → Tells datagram_others (length s) a → one_of datagram_again_refusals n ≡ true
    go (got m next) q t = room_number datagram_again_refusals refl refl n room (rewritten m s) (rw q at (sym w))
    go (refused k place) q (refuses r) =
        subst (λ (i : ℕ). one_of datagram_again_refusals i ≡ true) (sym (refusal_of (rw q at (sym w)))) (wider_one (with13 datagram_others) datagram_again_refusals refl k r.one)

pub message_again_told : (types s : List ℕ) (room n : ℕ) → written_of room (message_same types s) ≡ refused n 0 → one_of message_again_refusals n ≡ true
message_again_told types s room n w = go (message_at types s) refl (message_tells types s)
  where
    go : (a : Answer (Valid Message)) → message_at types s ≡ a → Tells message_others (length s) a → one_of message_again_refusals n ≡ true
    go (got not_valid next) q t = subst (λ (i : ℕ). one_of message_again_refusals i ≡ true) (sym (refusal_of (rw q at (sym w)))) refl
    go (got (valid m) next) q t = room_number message_again_refusals refl refl n room (message_held m.header s) (rw q at (sym w))
    go (refused k place) q (refuses r) =
        subst (λ (i : ℕ). one_of message_again_refusals i ≡ true) (sym (refusal_of (rw q at (sym w)))) (wider_one (with13 message_others) message_again_refusals refl k r.one)

-- ---- values that are put
abbrev for_values : List ℕ
for_values = value_writer_refusals

six_or_none : (b : Bool) → Number for_values (cond b 0 6)
six_or_none b = either for_values b 0 6 (inl refl) (inr refl)

first_byte_number : (b : ℕ) → Number for_values (variant_rule b)
unfolding variant_rule
first_byte_number b =
    either for_values (has_dimensions b && not (is_array b)) 3 _ (inr refl)
    (either for_values (eqb (type_of b) 0 && is_array b) 3 _ (inr refl)
    (either for_values (eqb (type_of b) 24 && not (is_array b)) 3 _ (inr refl) (either for_values (taken (type_of b)) 0 4 (inl refl) (inr refl))))

form_number : (t : ℕ) (f : Form) (n : ℕ) → Number for_values (form_rule t f n)
form_number t Form.Scalar n =
    either for_values (fixed t) _ _ (six_or_none (eqb n (width_of t)))
    (either for_values (length_first t) 0 _ (inl refl) (either for_values (eqb t 0) 6 4 (inr refl) (inr refl)))
form_number t Form.Null n =
    either for_values (fixed t) 6 _ (inr refl)
    (either for_values (length_first t) _ _ (six_or_none (eqb n 0)) (either for_values (eqb t 0) _ 4 (six_or_none (eqb n 0)) (inr refl)))
form_number t Form.Array n = either for_values (fixed t) _ 4 (six_or_none (eqb (n % width_of t) 0)) (inr refl)
form_number t Form.NullArray n = either for_values (fixed t) _ 4 (six_or_none (eqb n 0)) (inr refl)

put_number : (t : ℕ) (f : Form) (n : ℕ) → Number for_values (put_rule t f n)
put_number t f n = in_turn for_values (type_rule t f) (form_rule t f n) (either for_values (ltb t 64) _ 4 (first_byte_number (first_byte t f)) (inr refl)) (form_number t f n)

pub value_writer_told : (t : ℕ) (f : Form) (b : List ℕ) (room n : ℕ) → written_of room (variant_output t f b) ≡ refused n 0 → one_of value_writer_refusals n ≡ true
value_writer_told t f b room n w = unless_number for_values refl refl (put_rule t f (length b)) (put_number t f (length b)) n room (variant_bytes t f b) (sym w)

absent_number : (on : Bool) (k : ℕ) → Number for_values (absent_rule on k)
absent_number on k = either for_values on 0 _ (inl refl) (six_or_none (eqb k 0))

name_kind_number : (t n : ℕ) → Number for_values (name_kind_rule t n)
name_kind_number t n =
    either for_values (eqb t 20) 0 _ (inl refl) (either for_values (eqb t 21) _ 4 (either for_values (ltb 3 n) 3 0 (inr refl) (inl refl)) (inr refl))

name_number : (t n l k : ℕ) → Number for_values (name_rule t n l k)
name_number t n l k =
    in_turn for_values (name_kind_rule t n) _ (name_kind_number t n)
    (in_turn for_values _ _ (six_or_none (leb n 65535)) (in_turn for_values _ _ (absent_number (has_locale t n) l) (absent_number (has_text t n) k)))

pub name_writer_told : (t number : ℕ) (locale text : List ℕ) (room n : ℕ) → written_of room (name_output t number locale text) ≡ refused n 0
    → one_of value_writer_refusals n ≡ true
name_writer_told t number locale text room n w =
    unless_number for_values refl refl (name_rule t number (length locale) (length text)) (name_number t number (length locale) (length text)) n room
    (name_bytes t number locale text) (sym w)

-- what a value is refused by, a matrix is too
abbrev for_matrices : List ℕ
for_matrices = matrix_writer_refusals

as_matrix : (k : ℕ) → Number for_values k → Number for_matrices k
as_matrix k (inl z) = inl z
as_matrix k (inr z) = inr (wider_one for_values for_matrices refl k z)

sizes_number : (n : ℕ) (b : List ℕ) → Number for_matrices (given_sizes_rule n b)
sizes_number n b =
    either for_matrices (eqb (length b % 4) 0) _ 6
    (either for_matrices (eqb (length b) 0) 5 _ (inr refl)
    (either for_matrices (any_below_one ds) 5 _ (inr refl) (either for_matrices (eqb (product ds) n) 0 6 (inl refl) (inr refl))))
    (inr refl)
  where
    ds : List ℕ
    ds = fours (length b / 4) (le (4 * (length b / 4)) b 0)

matrix_number : (t : ℕ) (sizes : List ℕ) (n : ℕ) → Number for_matrices (matrix_rule t sizes n)
matrix_number t sizes n =
    in_turn for_matrices _ _
    (as_matrix _ (either for_values (ltb t 64) _ 4 (in_turn for_values (variant_rule (t + 192)) _ (first_byte_number (t + 192)) (form_number t Form.Array n)) (inr refl)))
    (either for_matrices (ltb 65535 n) 10 _ (inr refl) (sizes_number (count_given t Form.Array n) sizes))

pub matrix_writer_told : (t : ℕ) (sizes b : List ℕ) (room n : ℕ) → written_of room (matrix_output t sizes b) ≡ refused n 0 → one_of matrix_writer_refusals n ≡ true
matrix_writer_told t sizes b room n w =
    unless_number for_matrices refl refl (matrix_rule t sizes (length b)) (matrix_number t sizes (length b)) n room (matrix_bytes t sizes b) (sym w)

-- ---- the same by the writers' contract, of the reason that the code answers
pub datagram_writer : (g : GivenDatagram) (x : Envelope) (sizes configured entry exit : List ℕ) (reason : Reason)
    → Writes (datagram_output g x sizes configured) entry exit (Err reason) → one_of datagram_writer_refusals (reason_number reason) ≡ true
datagram_writer g x sizes configured entry exit reason w = datagram_writer_told g x sizes configured (length entry) (reason_number reason) (sym w.answer)

pub message_writer : (types : List ℕ) (g : GivenMessage) (entry exit : List ℕ) (reason : Reason)
    → Writes (message_output types g) entry exit (Err reason) → one_of message_writer_refusals (reason_number reason) ≡ true
message_writer types g entry exit reason w = message_writer_told types g (length entry) (reason_number reason) (sym w.answer)

pub probe_writer : (list : List ℕ) (p : Probe) (entry exit : List ℕ) (reason : Reason) → Writes (probe_output list p) entry exit (Err reason)
    → one_of probe_writer_refusals (reason_number reason) ≡ true
probe_writer list p entry exit reason w = probe_writer_told list p (length entry) (reason_number reason) (sym w.answer)

pub value_writer : (t : ℕ) (f : Form) (b entry exit : List ℕ) (reason : Reason) → Writes (variant_output t f b) entry exit (Err reason)
    → one_of value_writer_refusals (reason_number reason) ≡ true
value_writer t f b entry exit reason w = value_writer_told t f b (length entry) (reason_number reason) (sym w.answer)

pub name_writer : (t number : ℕ) (locale text entry exit : List ℕ) (reason : Reason) → Writes (name_output t number locale text) entry exit (Err reason)
    → one_of value_writer_refusals (reason_number reason) ≡ true
name_writer t number locale text entry exit reason w = name_writer_told t number locale text (length entry) (reason_number reason) (sym w.answer)

pub matrix_writer : (t : ℕ) (sizes b entry exit : List ℕ) (reason : Reason) → Writes (matrix_output t sizes b) entry exit (Err reason)
    → one_of matrix_writer_refusals (reason_number reason) ≡ true
matrix_writer t sizes b entry exit reason w = matrix_writer_told t sizes b (length entry) (reason_number reason) (sym w.answer)

pub datagram_again_lem : (sizes s entry exit : List ℕ) (reason : Reason) → Writes (datagram_same sizes s) entry exit (Err reason)
    → one_of datagram_again_refusals (reason_number reason) ≡ true
datagram_again_lem sizes s entry exit reason w = datagram_again_told sizes s (length entry) (reason_number reason) (sym w.answer)

pub message_again_lem : (types s entry exit : List ℕ) (reason : Reason) → Writes (message_same types s) entry exit (Err reason)
    → one_of message_again_refusals (reason_number reason) ≡ true
message_again_lem types s entry exit reason w = message_again_told types s (length entry) (reason_number reason) (sym w.answer)
