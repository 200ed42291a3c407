-- Laws of the whole message: what an accepted one tells, its size, and its bytes one part after the other.
-- Assumes nothing.
use mathlib.Core.Path.{◌≡◌, refl, ap, sym, ◌∙◌, subst}
use mathlib.Core.Bool.{Bool, true, false, cond, not, ◌&&◌}
use mathlib.Core.List.{List, [], ◌∷◌, ◌++◌}
use Prim.Native.Nat.{ℕ, zero, suc, ◌+◌, ◌-◌, ◌*◌, ◌/◌, ◌%◌, ◌≤◌, ◌<◌}
use native.Mathlib.Numerals.{add-one}
use native.Mathlib.Omega.{arith}
use borrow.Author.Tests.{eqb-true, eq-eqb, ne_eqb, ltb-true, lt-ltb, le-leb, lt-leb}
use lib.Dec.{leb, ltb, eqb}
use lib.ListN.{length, length-append, length-replicate, get_or, take, drop}
use lib.Seq.{drop-cons, take_all}
use Rattle.wire.specs.Lists.{total}
use Rattle.dataset_header.specs.Flags.{valid, is_delta, is_raw, kind_rule}
use Rattle.dataset_fields.specs.declared.fields.Cursor.{Cursor}
use Rattle.wire.specs.Answer.{got}
use Rattle.dataset_message.specs.Rewrite.{parts_again, again, where_valid, message_again}
use Rattle.dataset_header.specs.declared.header.Header.{Header}
use Rattle.wire.specs.Number.{le_bytes}
use Rattle.wire.proofs.Facts.{and_left, and_right}
use Rattle.wire_writer.specs.Writing.{or_else, room_refusal, picoseconds_refusal, Puts, Writes, writing}
use Rattle.std.specs.Prelude.{Result}
use Rattle.wire.specs.declared.refusal.Reason.{Reason}
use Rattle.wire_writer.proofs.Putting.{then}
use Rattle.wire_writer.proofs.Answering.{roomy, reading_accepts}
use Rattle.wire_writer.proofs.Refusals.{both_zero, held}
use Rattle.dataset_header.specs.declared.flags.Encoding.{Encoding}
use Rattle.dataset_header.specs.declared.flags.Kind.{Kind}
use Rattle.dataset_message.specs.Message.{message_at}
use Rattle.dataset_header.specs.Header.{message_header_bytes}
use Rattle.plain_value.specs.Width.{width_of}
use Rattle.plain_value.proofs.Widths.{positive}
use Rattle.dataset_fields.specs.Fields.{fields_bytes, zeros, number_of, reached}
use Rattle.dataset_message.specs.Writer.{GivenMessage, has_fields, is_fielded, is_raw_data, given_fields, count_bytes, encode, is_key, own_refusal, each_whole, missing_refusal, left_refusal, raw_refusal, layout_refusal, count_agrees, counts_agree, lists_agree, own_given, whole_given, lists_given, layout_given, counts_given, body_refusal, message_reading_refusal, body_agrees, reads_back, message_refusal, size_of_given, limited}
use Rattle.dataset_fields.proofs.Judging.{or_assoc, past_end}
use Rattle.dataset_fields.proofs.Walks.{padding_done}
use Rattle.dataset_fields.proofs.FieldsTrip.{whole_number}
use Rattle.dataset_fields.proofs.Laying.{values_whole, delta_length}

-- refusals in their order

-- what is judged last, by whether each field is whole, the lists agree and the counts do: reading's number of the layout, then 6
last_is : (n : ℕ) (whole lists counts : Bool)
    → or_else (cond (whole && lists) n 0) (cond ((whole && counts) && lists) 0 6) ≡ or_else (cond whole 0 6) (or_else (cond lists 0 6) (or_else n (cond counts 0 6)))
last_is n false lists counts = refl
last_is n true false true = refl
last_is n true false false = refl
last_is n true true true = refl
last_is n true true false = refl

order_is : (kind pico own layout : ℕ) (whole lists counts : Bool)
    → or_else (or_else kind (or_else pico (or_else own (cond (whole && lists) layout 0)))) (cond ((whole && counts) && lists) 0 6)
    ≡ or_else (or_else kind (or_else pico (or_else (or_else own (cond whole 0 6)) (cond lists 0 6)))) (or_else layout (cond counts 0 6))
order_is kind pico own layout whole lists counts =
    or_assoc kind (or_else pico (or_else own read)) six
    ∙ ap (or_else kind)
    (or_assoc pico (or_else own read) six
    ∙ ap (or_else pico)
    (or_assoc own read six ∙ ap (or_else own) (last_is layout whole lists counts)
    ∙ sym (or_assoc own (cond whole 0 6) (or_else (cond lists 0 6) last)) ∙ sym (or_assoc (or_else own (cond whole 0 6)) (cond lists 0 6) last))
    ∙ sym (or_assoc pico (or_else (or_else own (cond whole 0 6)) (cond lists 0 6)) last))
    ∙ sym (or_assoc kind (or_else pico (or_else (or_else own (cond whole 0 6)) (cond lists 0 6))) last)
  where
    read : ℕ
    read = cond (whole && lists) layout 0

    six : ℕ
    six = cond ((whole && counts) && lists) 0 6

    last : ℕ
    last = or_else layout (cond counts 0 6)

-- the numbers before the layout is judged
abbrev pub first_given : List ℕ → GivenMessage → ℕ
first_given types g =
    or_else (kind_rule g.header.kind g.header.encoding)
    (or_else (picoseconds_refusal g.header.picoseconds)
    (or_else (or_else (own_given types g) (cond (whole_given types g) 0 6)) (cond (lists_given g) 0 6)))

refusal_is : (types : List ℕ) (g : GivenMessage) → message_refusal types g ≡ or_else (first_given types g) (or_else (layout_given types g) (cond (counts_given types g) 0 6))
refusal_is types g =
    order_is (kind_rule g.header.kind g.header.encoding) (picoseconds_refusal g.header.picoseconds) (own_given types g) (layout_given types g)
    (whole_given types g) (lists_given g) (counts_given types g)

-- rules in their order
abbrev in_turn : ℕ → ℕ → ℕ → ℕ → ℕ → ℕ → ℕ
in_turn a b c d e f = or_else a (or_else b (or_else c (or_else d (or_else e f))))

turn_third : (a b c d e f : ℕ) {n : ℕ} → 0 ≡ a → 0 ≡ b → n ≡ c → (n ≡ 0 → ⊥) → in_turn a b c d e f ≡ n
turn_third a b c d e f {n} p q r z = rw (sym p, sym q, sym r, ne_eqb n 0 z)

turn_fourth : (a b c d e f : ℕ) {n : ℕ} → 0 ≡ a → 0 ≡ b → 0 ≡ c → n ≡ d → (n ≡ 0 → ⊥) → in_turn a b c d e f ≡ n
turn_fourth a b c d e f {n} p q r s z = rw (sym p, sym q, sym r, sym s, ne_eqb n 0 z)

turn_fifth : (a b c d e f : ℕ) {n : ℕ} → 0 ≡ a → 0 ≡ b → 0 ≡ c → 0 ≡ d → n ≡ e → (n ≡ 0 → ⊥) → in_turn a b c d e f ≡ n
turn_fifth a b c d e f {n} p q r s t z = rw (sym p, sym q, sym r, sym s, sym t, ne_eqb n 0 z)

turn_last : (a b c d e f : ℕ) → 0 ≡ a → 0 ≡ b → 0 ≡ c → 0 ≡ d → 0 ≡ e → in_turn a b c d e f ≡ f
turn_last a b c d e f p q r s t = rw (sym p, sym q, sym r, sym s, sym t)

-- a message's rules in their order: which of them refuses it
module _ (types : List ℕ) (g : GivenMessage) (kind : 0 ≡ kind_rule g.header.kind g.header.encoding) (pico : 0 ≡ picoseconds_refusal g.header.picoseconds) where
  abbrev pub own : ℕ
  own = or_else (own_given types g) (cond (whole_given types g) 0 6)

  abbrev pub lists : ℕ
  lists = cond (lists_given g) 0 6

  abbrev pub counts : ℕ
  counts = cond (counts_given types g) 0 6

  turns : message_refusal types g ≡ in_turn (kind_rule g.header.kind g.header.encoding) (picoseconds_refusal g.header.picoseconds) own lists (layout_given types g) counts
  turns =
      refusal_is types g ∙ or_assoc (kind_rule g.header.kind g.header.encoding) (or_else (picoseconds_refusal g.header.picoseconds) (or_else own lists)) rest
      ∙ ap (or_else (kind_rule g.header.kind g.header.encoding))
      (or_assoc (picoseconds_refusal g.header.picoseconds) (or_else own lists) rest ∙ ap (or_else (picoseconds_refusal g.header.picoseconds)) (or_assoc own lists rest))
    where
      rest : ℕ
      rest = or_else (layout_given types g) counts

  pub own_refuses : {n : ℕ} → n ≡ own → (n ≡ 0 → ⊥) → message_refusal types g ≡ n
  own_refuses e z = turns ∙ turn_third _ _ own lists (layout_given types g) counts kind pico e z

  pub lists_refuse : {n : ℕ} → 0 ≡ own → n ≡ lists → (n ≡ 0 → ⊥) → message_refusal types g ≡ n
  lists_refuse o e z = turns ∙ turn_fourth _ _ own lists (layout_given types g) counts kind pico o e z

  pub layout_refuses : {n : ℕ} → 0 ≡ own → 0 ≡ lists → n ≡ layout_given types g → (n ≡ 0 → ⊥) → message_refusal types g ≡ n
  layout_refuses o l e z = turns ∙ turn_fifth _ _ own lists (layout_given types g) counts kind pico o l e z

  pub counts_refuse : 0 ≡ own → 0 ≡ lists → 0 ≡ layout_given types g → message_refusal types g ≡ counts
  counts_refuse o l e = turns ∙ turn_last _ _ own lists (layout_given types g) counts kind pico o l e

pub lists_agree_lem : (delta : Bool) (values lengths indices : List ℕ) → total lengths ≡ length values → length indices ≡ cond delta (length lengths) 0
    → lists_agree delta values lengths indices ≡ true
lists_agree_lem delta values lengths indices a i = rw (eq-eqb (total lengths) (length values) a, eq-eqb (length indices) (cond delta (length lengths) 0) i)

pub lists_add : (delta : Bool) (values lengths indices : List ℕ) → lists_agree delta values lengths indices ≡ true
    → (total lengths ≡ length values) × (length indices ≡ cond delta (length lengths) 0)
lists_add delta values lengths indices h =
    let t = eqb (total lengths) (length values) in
    let i = eqb (length indices) (cond delta (length lengths) 0) in
    (eqb-true (total lengths) (length values) (and_left t i h), eqb-true (length indices) (cond delta (length lengths) 0) (and_right t i h))

pub first_adds : (types : List ℕ) (g : GivenMessage) (first : ℕ) → first ≡ first_given types g → first ≡ 0 → total g.lengths ≡ length g.values
first_adds types g first e z =
    let own : ℕ = or_else (own_given types g) (cond (whole_given types g) 0 6) in
    let lists : ℕ = cond (lists_given g) 0 6 in
    let k = both_zero (kind_rule g.header.kind g.header.encoding) (or_else (picoseconds_refusal g.header.picoseconds) (or_else own lists)) (sym e ∙ z) in
    let p = both_zero (picoseconds_refusal g.header.picoseconds) (or_else own lists) k.1 in
    let o = both_zero own lists p.1 in
    (lists_add (is_delta g.header.kind) g.values g.lengths g.indices (held (lists_given g) 5 o.1)).0

-- What an accepted message tells.
pub record Accepted (types : List ℕ) (g : GivenMessage) : Type 0 where
  pub kind : kind_rule g.header.kind g.header.encoding ≡ 0
  pub picoseconds : picoseconds_refusal g.header.picoseconds ≡ 0
  pub whole : whole_given types g ≡ true
  pub counts : counts_given types g ≡ true
  pub adds : total g.lengths ≡ length g.values
  pub indexed : length g.indices ≡ cond (is_delta g.header.kind) (length g.lengths) 0

pub accepted : (types : List ℕ) (g : GivenMessage) → message_refusal types g ≡ 0 → Accepted types g
accepted types g h =
    let n = both_zero (message_reading_refusal types g) (cond (reads_back types g) 0 6) h in
    let s = held (reads_back types g) 5 n.1 in
    let k = both_zero (kind_rule g.header.kind g.header.encoding) (or_else (picoseconds_refusal g.header.picoseconds) (body_refusal types g)) n.0 in
    let p = both_zero (picoseconds_refusal g.header.picoseconds) (body_refusal types g) k.1 in
    let a = and_left (body_agrees types g) (lists_given g) s in
    let l = lists_add (is_delta g.header.kind) g.values g.lengths g.indices (and_right (body_agrees types g) (lists_given g) s) in
    record {
      kind = k.0;
      picoseconds = p.0;
      whole = and_left (whole_given types g) (counts_given types g) a;
      counts = and_right (whole_given types g) (counts_given types g) a;
      adds = l.0;
      indexed = l.1;
    }

-- the layout of RawData

module _ (types : List ℕ) (k left w : ℕ) (h : k < length types) (e : w ≡ width_of (get_or types k 0)) where
  missing_cons : missing_refusal (drop k types) left ≡ cond (ltb 0 w) (cond (leb w left) (missing_refusal (drop (k + 1) types) (left - w)) 1) 4
  unfolding missing_refusal
  missing_cons = rw (drop-cons types k 0 h, add-one, e)

  pub missing_none : w ≡ 0 → 4 ≡ missing_refusal (drop k types) left
  missing_none z = sym (missing_cons ∙ ap (λ (t : Bool). cond t (cond (leb w left) (missing_refusal (drop (k + 1) types) (left - w)) 1) 4) (ap (ltb 0) z))

  pub missing_short : (w ≡ 0 → ⊥) → left < w → 1 ≡ missing_refusal (drop k types) left
  missing_short z l = sym (missing_cons ∙ rw (lt-ltb 0 w (positive w z), lt-leb w left l))

  pub missing_step : (w ≡ 0 → ⊥) → w ≤ left → missing_refusal (drop k types) left ≡ missing_refusal (drop (k + 1) types) (left - w)
  missing_step z l = missing_cons ∙ rw (lt-ltb 0 w (positive w z), le-leb w left l)

pub missing_done : (types : List ℕ) (k left : ℕ) → length types ≤ k → missing_refusal (drop k types) left ≡ 0
unfolding missing_refusal
missing_done types k left h = rw (past_end types k h)

or_none_lem : (a : ℕ) → or_else a 0 ≡ a
or_none_lem a = go (eqb a 0) refl
  where
    go : (t : Bool) → eqb a 0 ≡ t → cond t 0 a ≡ a
    go true e = sym (eqb-true a 0 e)
    go false e = refl

pub none_left : (values : List ℕ) (at : ℕ) → length values ≤ at → left_refusal values at ≡ 0
none_left values at h = ap number_of (padding_done values at h)

-- nothing follows the header
pub bare_raw : (types values lengths : List ℕ) (padding : ℕ) → (eqb (length values) 0 && eqb padding 0) ≡ true → 0 ≡ raw_refusal types values lengths padding
bare_raw types values lengths padding e = rw e

-- no more fields than are configured: nothing stands past them
pub few_fields : (types values lengths : List ℕ) (padding : ℕ) → total lengths ≡ length values → length lengths ≤ length types
    → or_else (missing_refusal (drop (length lengths) types) padding) (left_refusal values (total (take (length types) lengths))) ≡ missing_refusal (drop (length lengths) types) padding
few_fields types values lengths padding h l =
    let t : total (take (length types) lengths) ≡ length values = ap total (take_all (length types) lengths l) ∙ h in
    ap (or_else (missing_refusal (drop (length lengths) types) padding)) (none_left values (total (take (length types) lengths)) (omega arith))
    ∙ or_none_lem (missing_refusal (drop (length lengths) types) padding)

-- no fewer: none is missing
pub many_fields : (types values lengths : List ℕ) (padding : ℕ) → length types ≤ length lengths
    → or_else (missing_refusal (drop (length lengths) types) padding) (left_refusal values (total (take (length types) lengths))) ≡ left_refusal values (total (take (length types) lengths))
many_fields types values lengths padding l =
    ap (λ (n : ℕ). or_else n (left_refusal values (total (take (length types) lengths)))) (missing_done types (length lengths) padding l)

-- where the counts agree, reading refuses nothing of the layout

no_total : (lengths : List ℕ) → length lengths ≡ 0 → total lengths ≡ 0
no_total [] h = refl
no_total (n ∷ lengths) h = absurd (omega arith)

raw_none : (types values lengths : List ℕ) (padding : ℕ) → count_agrees true (length types) (length lengths) ≡ true → total lengths ≡ length values
    → raw_refusal types values lengths padding ≡ 0
raw_none types values lengths padding c h = go (eqb (length values) 0 && eqb padding 0) refl
  where
    same : length lengths ≡ length types
    same = eqb-true (length lengths) (length types) (and_right (ltb 0 (length lengths)) (eqb (length lengths) (length types)) c)

    some : length types ≡ 0 → ⊥
    some z = let p : 0 < length lengths = ltb-true 0 (length lengths) (and_left (ltb 0 (length lengths)) (eqb (length lengths) (length types)) c) in omega (arith, same)

    few : length lengths ≤ length types
    few = omega (arith, same)

    many : length types ≤ length lengths
    many = omega (arith, same)

    go : (t : Bool) → (eqb (length values) 0 && eqb padding 0) ≡ t → raw_refusal types values lengths padding ≡ 0
    go true e = rw e
    go false e = rw (e, ne_eqb (length types) 0 some, few_fields types values lengths padding h few) (missing_done types (length lengths) padding many)

pub layout_none : (fielded raw key : Bool) (types values lengths : List ℕ) (padding : ℕ) → counts_agree fielded raw key (length types) (length lengths) padding ≡ true
    → total lengths ≡ length values → layout_refusal fielded raw key types values lengths padding ≡ 0
layout_none true true key types values lengths padding c h = raw_none types values lengths padding c h
layout_none true false key types values lengths padding c h = refl
layout_none false raw true types values lengths padding c h = refl
layout_none false raw false types values lengths padding c h =
    let z = no_total lengths (eqb-true (length lengths) 0 (and_left (eqb (length lengths) 0) _ c)) in
    none_left values 0 (omega arith)

pub own_none : (fielded : Bool) (encoding : Encoding) (types : List ℕ) (vs : List (List ℕ)) → each_whole fielded encoding types vs ≡ true → own_refusal fielded encoding types vs ≡ 0
own_none true encoding types vs w = whole_number encoding types 0 (reached (is_raw encoding) types vs) w
own_none false encoding types vs w = refl

all_none : (kind pico own layout : ℕ) (whole lists counts : Bool) → kind ≡ 0 → pico ≡ 0 → own ≡ 0 → layout ≡ 0 → whole ≡ true → lists ≡ true → counts ≡ true
    → or_else (or_else kind (or_else pico (or_else (or_else own (cond whole 0 6)) (cond lists 0 6)))) (or_else layout (cond counts 0 6)) ≡ 0
all_none kind pico own layout whole lists counts ek ep eo en ew el ec = rw (ek, ep, eo, en, ew, el, ec)

-- what tells of an accepted message is enough
pub acceptable : (types : List ℕ) (g : GivenMessage) → Accepted types g → message_refusal types g ≡ 0
acceptable types g a =
    refusal_is types g
    ∙ all_none (kind_rule g.header.kind g.header.encoding) (picoseconds_refusal g.header.picoseconds) (own_given types g) (layout_given types g)
    (whole_given types g) (lists_given g) (counts_given types g) a.kind a.picoseconds
    (own_none (is_fielded g) g.header.encoding types (given_fields g) a.whole)
    (layout_none (is_fielded g) (is_raw_data g) (is_key g.header.kind) types g.values g.lengths g.padding a.counts a.adds) a.whole
    (lists_agree_lem (is_delta g.header.kind) g.values g.lengths g.indices a.adds a.indexed) a.counts

-- where the first fields end

pub total_split : (n : ℕ) (lengths : List ℕ) → total (take n lengths) + total (drop n lengths) ≡ total lengths
total_split zero lengths = omega arith
total_split (suc n) [] = refl
total_split (suc n) (x ∷ lengths) = omega (arith, total_split n lengths)

-- its size

no_bool : {A : Type 0} → false ≡ true → A
no_bool e = let z : ◌≡◌ {A = ℕ} 0 1 = cc in absurd (omega arith)

-- an accepted delta has FieldCount
delta_counted : (kind : Kind) (encoding : Encoding) (heartbeat : Bool) → is_delta kind ≡ true → kind_rule kind encoding ≡ 0
    → has_fields kind heartbeat && not (is_raw encoding) ≡ true
delta_counted Kind.Key encoding heartbeat e r = no_bool e
delta_counted Kind.Delta Encoding.Variant heartbeat e r = refl
delta_counted Kind.Delta Encoding.RawData heartbeat e r = absurd (omega arith)
delta_counted Kind.Delta Encoding.DataValue heartbeat e r = refl
delta_counted Kind.Event encoding heartbeat e r = no_bool e
delta_counted Kind.KeepAlive encoding heartbeat e r = no_bool e

count_length : (b : Bool) (n : ℕ) → length (cond b (le_bytes 2 n) []) ≡ cond b 2 0
count_length true n = refl
count_length false n = refl

size_parts : (a b c d : List ℕ) → length (a ++ (b ++ (c ++ d))) ≡ length a + (length b + (length c + length d))
size_parts a b c d = simp length-append

pub size_is : (types : List ℕ) (g : GivenMessage) → Accepted types g
    → length (encode g) ≡ size_of_given (length (message_header_bytes g.header)) (is_fielded g && not (is_raw_data g)) (is_delta g.header.kind) (length g.values) (length g.lengths) g.padding
size_is types g a =
    size_parts (message_header_bytes g.header) (count_bytes (is_fielded g) (is_raw_data g) (length g.lengths))
    (fields_bytes (is_delta g.header.kind) g.indices (given_fields g)) (zeros g.padding)
    ∙ ap (λ (n : ℕ). length (message_header_bytes g.header) +
    (length (count_bytes (is_fielded g) (is_raw_data g) (length g.lengths)) + (length (fields_bytes (is_delta g.header.kind) g.indices (given_fields g)) + n))) (length-replicate g.padding 0)
    ∙ ap (λ (n : ℕ). length (message_header_bytes g.header) + (n + (length (fields_bytes (is_delta g.header.kind) g.indices (given_fields g)) + g.padding)))
    (count_length (is_fielded g && not (is_raw_data g)) (length g.lengths))
    ∙ go (is_delta g.header.kind) refl
  where
    front : ℕ
    front = length (message_header_bytes g.header)

    plain : (b : Bool) → front + (cond b 2 0 + (length g.values + g.padding)) ≡ front + cond b (2 + (length g.values + g.padding)) (length g.values + g.padding)
    plain true = refl
    plain false = ap (λ (n : ℕ). front + n) (omega arith)

    go : (d : Bool) → is_delta g.header.kind ≡ d
        → front + (cond (is_fielded g && not (is_raw_data g)) 2 0 + (length (fields_bytes d g.indices (given_fields g)) + g.padding))
        ≡ size_of_given front (is_fielded g && not (is_raw_data g)) d (length g.values) (length g.lengths) g.padding
    go true e =
        let l = delta_length g.lengths g.values g.indices a.adds in
        rw (delta_counted g.header.kind g.header.encoding g.heartbeat e a.kind, l) (omega arith)
    go false e = rw (values_whole g.lengths g.values g.indices a.adds) (plain (is_fielded g && not (is_raw_data g)))

pub size_told : (types : List ℕ) (g : GivenMessage) (f r d : Bool) (bytes : ℕ) → Accepted types g → f ≡ is_fielded g → r ≡ is_raw_data g → d ≡ is_delta g.header.kind
    → bytes ≡ limited (size_of_given (length (message_header_bytes g.header)) (f && not r) d (length g.values) (length g.lengths) g.padding)
    → bytes ≡ limited (length (encode g))
size_told types g f r d bytes a ef er ed e =
    e ∙ ap (λ (x : Bool). limited (size_of_given front (x && not r) d (length g.values) (length g.lengths) g.padding)) ef
    ∙ ap (λ (x : Bool). limited (size_of_given front (is_fielded g && not x) d (length g.values) (length g.lengths) g.padding)) er
    ∙ ap (λ (x : Bool). limited (size_of_given front (is_fielded g && not (is_raw_data g)) x (length g.values) (length g.lengths) g.padding)) ed
    ∙ ap limited (sym (size_is types g a))
  where
    front : ℕ
    front = length (message_header_bytes g.header)

-- its bytes, one part after the other

pub put_parts : {entry m₁ m₂ m₃ exit : List ℕ} {n₁ n₂ n₃ next : ℕ} (g : GivenMessage) (f r d : Bool) → f ≡ is_fielded g → r ≡ is_raw_data g → d ≡ is_delta g.header.kind
    → Puts (message_header_bytes g.header) entry 0 m₁ n₁ → Puts (count_bytes f r (length g.lengths)) m₁ n₁ m₂ n₂
    → Puts (fields_bytes d g.indices (given_fields g)) m₂ n₂ m₃ n₃ → Puts (zeros g.padding) m₃ n₃ exit next → Puts (encode g) entry 0 exit next
put_parts {entry} {m₁} {m₂} {m₃} {exit} {n₁} {n₂} {n₃} {next} g f r d ef er ed a b c z =
    then a
    (then (subst (λ (x : Bool). Puts (count_bytes (is_fielded g) x (length g.lengths)) m₁ n₁ m₂ n₂) er
    (subst (λ (x : Bool). Puts (count_bytes x r (length g.lengths)) m₁ n₁ m₂ n₂) ef b))
    (then (subst (λ (x : Bool). Puts (fields_bytes x g.indices (given_fields g)) m₂ n₂ m₃ n₃) ed c) z))

-- a size that is told as far as the limits tell it apart
pub limited_room : (n room : ℕ) → room_refusal (limited n) room ≡ room_refusal n room
limited_room n room = go (leb 65536 n) refl
  where
    go : (t : Bool) → leb 65536 n ≡ t → room_refusal (limited n) room ≡ room_refusal n room
    go true e = rw e
    go false e = ap (λ (t : Bool). room_refusal (cond t 65536 n) room) e

pub limited_fits : (n room : ℕ) → room_refusal (limited n) room ≡ 0 → limited n ≡ n
limited_fits n room h = go (leb 65536 n) refl
  where
    go : (t : Bool) → leb 65536 n ≡ t → limited n ≡ n
    go true e = let l : limited n ≤ 65535 = (roomy (limited n) room h).0 in let k : 65536 ≤ 65535 = rw e at l in absurd (omega arith)
    go false e = rw e

-- FieldCount is a number of 2 bytes
low_bytes : (q r : ℕ) → (65536 * q + r) / 256 % 256 ≡ r / 256 % 256
low_bytes q r = let d : (65536 * q + r) / 256 ≡ 256 * q + r / 256 = omega arith in rw d (omega arith)

pub count_bytes_lem : (n : ℕ) → le_bytes 2 (n % 65536) ≡ le_bytes 2 n
count_bytes_lem n =
    let a : n % 65536 % 256 ≡ n % 256 = omega arith in
    let e : 65536 * (n / 65536) + n % 65536 ≡ n = omega arith in
    let b : n / 256 % 256 ≡ n % 65536 / 256 % 256 = ap (λ (m : ℕ). m / 256 % 256) (sym e) ∙ low_bytes (n / 65536) (n % 65536) in
    rw (a, b)

-- a message written again

pub again_size : (h : Header) (fielded r : Bool) (count : ℕ) (fields : List ℕ) (padding size : ℕ) → r ≡ is_raw h.encoding
    → size ≡ limited (size_of_given (length (message_header_bytes h)) (fielded && not r) false (length fields) 0 padding) → size ≡ limited (length (parts_again h fielded count fields padding))
again_size h fielded r count fields padding size er e =
    e ∙ ap (λ (x : Bool). limited (size_of_given (length (message_header_bytes h)) (fielded && not x) false (length fields) 0 padding)) er ∙ ap limited (sym bytes)
  where
    plain : (b : Bool) → length (message_header_bytes h) + (cond b 2 0 + (length fields + padding)) ≡ length (message_header_bytes h) + cond b (2 + (length fields + padding)) (length fields + padding)
    plain true = refl
    plain false = ap (λ (n : ℕ). length (message_header_bytes h) + n) (omega arith)

    bytes : length (parts_again h fielded count fields padding) ≡ size_of_given (length (message_header_bytes h)) (fielded && not (is_raw h.encoding)) false (length fields) 0 padding
    bytes =
        size_parts (message_header_bytes h) (count_bytes fielded (is_raw h.encoding) count) fields (zeros padding)
        ∙ ap (λ (n : ℕ). length (message_header_bytes h) + (length (count_bytes fielded (is_raw h.encoding) count) + (length fields + n))) (length-replicate padding 0)
        ∙ ap (λ (n : ℕ). length (message_header_bytes h) + (n + (length fields + padding))) (count_length (fielded && not (is_raw h.encoding)) count)
        ∙ plain (fielded && not (is_raw h.encoding))

pub again_parts : {entry m₁ m₂ m₃ exit : List ℕ} {n₁ n₂ n₃ next : ℕ} (h : Header) (fielded r : Bool) (count : ℕ) (fields : List ℕ) (padding : ℕ) → r ≡ is_raw h.encoding
    → Puts (message_header_bytes h) entry 0 m₁ n₁ → Puts (count_bytes fielded r count) m₁ n₁ m₂ n₂
    → Puts fields m₂ n₂ m₃ n₃ → Puts (zeros padding) m₃ n₃ exit next → Puts (parts_again h fielded count fields padding) entry 0 exit next
again_parts {m₁ = m₁} {m₂ = m₂} {n₁ = n₁} {n₂ = n₂} h fielded r count fields padding er a b c z =
    then a (then (subst (λ (x : Bool). Puts (count_bytes fielded x count) m₁ n₁ m₂ n₂) er b) (then c z))

pub rewrite_valid : (types s entry exit : List ℕ) (r : Result ℕ Reason) (h : Header) (c : Cursor) (end e size : ℕ) (fielded : Bool) (n : ℕ) (fields : List ℕ) (padding : ℕ)
    → message_at types s ≡ got (valid (record { header = h; cursor = c; end = end })) e → size ≡ length (message_header_bytes h) → fielded ≡ has_fields h.kind (leb (length s) size)
    → n ≡ end - c.at → fields ≡ take n (drop c.at s) → padding ≡ length s - end → Writes (writing (parts_again h fielded c.count fields padding)) entry exit r
    → Writes (message_again types s) entry exit r
rewrite_valid types s entry exit r h c end e size fielded n fields padding q es ef en ep ed w =
    reading_accepts (where_valid (again s)) q (subst (λ (b : List ℕ). Writes (writing b) entry exit r) same w)
  where
    same : parts_again h fielded c.count fields padding ≡ again s (record { header = h; cursor = c; end = end })
    same =
        ap (λ (f : Bool). parts_again h f c.count fields padding) (ef ∙ ap (λ (j : ℕ). has_fields h.kind (leb (length s) j)) es)
        ∙ ap (λ (b : List ℕ). parts_again h (has_fields h.kind (leb (length s) (length (message_header_bytes h)))) c.count b padding) (ep ∙ ap (λ (j : ℕ). take j (drop c.at s)) en)
        ∙ ap (λ (p : ℕ). parts_again h (has_fields h.kind (leb (length s) (length (message_header_bytes h)))) c.count (take (end - c.at) (drop c.at s)) p) ed
