-- An envelope record that was stored is read back: the envelope, the PayloadHeader's end, the payload and the cursor before its first message.
-- A message cursor that is stored is read back, and every other part stays.
-- Assumes nothing.
use Rattle.std.specs.Prelude.{Option, Some, None}
use Prim.Native.Nat.{ℕ, ◌+◌, ◌*◌, ◌^◌, ◌≤◌, ◌<◌}
use mathlib.Core.Path.{◌≡◌, refl, ap, sym, ◌∙◌}
use mathlib.Core.Bool.{Bool, true, false, cond, ◌&&◌}
use mathlib.Core.List.{List, []}
use native.Mathlib.Omega.{arith}
use native.Mathlib.Nat.{zero-add}
use borrow.Author.Tests.{le-leb, ne_eqb}
use lib.Dec.{eqb, leb}
use lib.ListN.{length, get_or, drop}
use Rattle.wire.specs.Answer.{bit, bits}
use Rattle.wire.specs.Number.{le_bytes}
use Rattle.wire_writer.specs.Store.{laid}
use Rattle.wire_writer.proofs.Trip.{At}
use Rattle.network_header.specs.Group.{FitsFields, FitsGroup}
use Rattle.network_header.specs.Header.{FitsClass}
use Rattle.network_header.specs.declared.envelope.Envelope.{Envelope}
use Rattle.wire.specs.declared.Guid.{Guid}
use Rattle.network_header.specs.declared.group.GroupFields.{GroupFields}
use Rattle.network_header.specs.declared.header.PayloadHeader.{PayloadHeader}
use Rattle.network_message.specs.Envelope.{NetworkMessage}
use Rattle.network_message.specs.declared.payload.Sizes.{Sizes}
use Rattle.network_message.specs.declared.payload.MessageCursor.{MessageCursor}
use Rattle.records.specs.Numbers.{number_at, number_bytes}
use Rattle.records.specs.Items.{has_item, item_value, given16, given32, given_i64, fits_item, is_on}
use Rattle.records.specs.Publisher.{publisher_given, publisher_number_fits}
use Rattle.records.proofs.Storing.{bytes_length}
use Rattle.records.proofs.ReadBack.{AllFit, number_read, stored_at, number_laid, number_kept, laid_length, publisher_given_back, publisher_number_fits_lem, number_fits, code_fits, flag_fits, at_most_same, given16_back, given32_back, given_i64_back, fits16_back, fits32_back, told, is_on_has, is_on_flag, has_bound, value16_bound, value32_bound, value_i64_bound}
use Rattle.envelope_record.specs.Envelope.{class_low, class_high, group_items, group_writer, group_version, group_number, group_sequence, header_code, header_number, sizes_code, sizes_place, envelope_numbers, sizes_by, payload_in, messages_in, messages_laid, class_in, group_in, payload_header_by, payload_header_in, payload_header_end, promoted_in, envelope_in, group_fits, header_fits, envelope_fits, FitsEnvelopeRecord, count_fits, EnvelopeBack}

-- two or three arguments that are the same
both : {A B D : Type 0} (g : A → B → D) {a x : A} {b y : B} → a ≡ x → b ≡ y → g a b ≡ g x y
both g p q z = g (p z) (q z)

three : {A B C D : Type 0} (g : A → B → C → D) {a x : A} {b y : B} {c w : C} → a ≡ x → b ≡ y → c ≡ w → g a b c ≡ g x y w
three g p q r z = g (p z) (q z) (r z)

-- ---- each part, from its numbers

class_back : (x : Option Guid) → class_in (has_item x) (class_low x) (class_high x) ≡ x
class_back None = refl
class_back (Some v) = refl

class_low_fits : (x : Option Guid) → FitsClass x → class_low x < 256 ^ 8
class_low_fits None f = omega arith
class_low_fits (Some v) f = f.0

class_high_fits : (x : Option Guid) → FitsClass x → class_high x < 256 ^ 8
class_high_fits None f = omega arith
class_high_fits (Some v) f = f.1

has_class_bound : (x : Option Guid) → has_item x < 256 ^ 8
has_class_bound None = omega arith
has_class_bound (Some v) = omega arith

header_back : (x : PayloadHeader) → header_number x < 65536 → payload_header_by (header_code x) (header_number x) ≡ x
header_back PayloadHeader.Absent f = refl
header_back (PayloadHeader.Ids n) f = ap PayloadHeader.Ids (at_most_same 65535 n (omega arith))
header_back (PayloadHeader.Chunk w) f = ap PayloadHeader.Chunk (at_most_same 65535 w (omega arith))
header_back PayloadHeader.Probe f = refl

and_true : (b : Bool) → (b && true) ≡ b
and_true true = refl
and_true false = refl

header_fitting : (x : PayloadHeader) → header_number x < 65536 → header_fits (header_code x) (header_number x) ≡ count_fits x
header_fitting PayloadHeader.Absent f = refl
header_fitting (PayloadHeader.Ids n) f = and_true (leb n 255)
header_fitting (PayloadHeader.Chunk w) f = le-leb w 65535 (omega arith)
header_fitting PayloadHeader.Probe f = refl

header_code_fits : (x : PayloadHeader) → header_code x < 256 ^ 8
header_code_fits PayloadHeader.Absent = omega arith
header_code_fits (PayloadHeader.Ids n) = omega arith
header_code_fits (PayloadHeader.Chunk w) = omega arith
header_code_fits PayloadHeader.Probe = omega arith

promoted_back : (x : Option ℕ) → promoted_in (has_item x) (item_value x) ≡ x
promoted_back None = refl
promoted_back (Some n) = refl

has_promoted_fits : (x : Option ℕ) → has_item x < 256 ^ 8
has_promoted_fits None = omega arith
has_promoted_fits (Some n) = omega arith

sizes_back : (x : Sizes) → sizes_by (sizes_code x) (sizes_place x) ≡ x
sizes_back Sizes.Rest = refl
sizes_back (Sizes.Listed p) = refl
sizes_back Sizes.Configured = refl

sizes_code_fits : (x : Sizes) → sizes_code x < 256 ^ 8
sizes_code_fits Sizes.Rest = omega arith
sizes_code_fits (Sizes.Listed p) = omega arith
sizes_code_fits Sizes.Configured = omega arith

-- ---- the group header
group_items_fits : (x : Option GroupFields) → group_items x < 256 ^ 8
group_items_fits None = omega arith
group_items_fits (Some g) = omega (arith, has_bound g.writer_group, has_bound g.version, has_bound g.number, has_bound g.sequence)

group_writer_fits : (x : Option GroupFields) → FitsGroup x → group_writer x < 256 ^ 8
group_writer_fits None f = omega arith
group_writer_fits (Some g) f = omega (arith, value16_bound g.writer_group f.0)

group_version_fits : (x : Option GroupFields) → FitsGroup x → group_version x < 256 ^ 8
group_version_fits None f = omega arith
group_version_fits (Some g) f = omega (arith, value32_bound g.version f.1)

group_number_fits : (x : Option GroupFields) → FitsGroup x → group_number x < 256 ^ 8
group_number_fits None f = omega arith
group_number_fits (Some g) f = omega (arith, value16_bound g.number f.2)

group_sequence_fits : (x : Option GroupFields) → FitsGroup x → group_sequence x < 256 ^ 8
group_sequence_fits None f = omega arith
group_sequence_fits (Some g) f = omega (arith, value16_bound g.sequence f.3)

-- what is read of a group header, and that its numbers fit
abbrev GroupBack : List ℕ → Option GroupFields → Type 0
GroupBack s x = (group_in s (number_at s 6) ≡ x) × (group_fits s (number_at s 6) ≡ true)

module _ (s : List ℕ) (g : GroupFields) (f : FitsFields g) (e₆ : number_at s 6 ≡ group_items (Some g)) where
  -- a bit of the items that are present
  item_bit : (k x : ℕ) (on : Bool) → bits k 1 (group_items (Some g)) ≡ x → eqb x 1 ≡ on → bit k (number_at s 6) ≡ on
  item_bit k x on e t = ap (bit k) e₆ ∙ ap (λ (n : ℕ). eqb n 1) e ∙ t

  fields_back : number_at s 7 ≡ item_value g.writer_group → number_at s 8 ≡ item_value g.version → number_at s 9 ≡ item_value g.number
      → number_at s 10 ≡ item_value g.sequence → GroupBack s (Some g)
  fields_back e₇ e₈ e₉ e₁₀ =
      let w = has_bound g.writer_group in
      let v = has_bound g.version in
      let n = has_bound g.number in
      let q = has_bound g.sequence in
      let b₀ = item_bit 0 (has_item g.writer_group) _ (omega (arith, w, v, n, q)) (told g.writer_group) in
      let b₁ = item_bit 1 (has_item g.version) _ (omega (arith, w, v, n, q)) (told g.version) in
      let b₂ = item_bit 2 (has_item g.number) _ (omega (arith, w, v, n, q)) (told g.number) in
      let b₃ = item_bit 3 (has_item g.sequence) _ (omega (arith, w, v, n, q)) (told g.sequence) in
      let z : eqb (number_at s 6) 0 ≡ false = ne_eqb (number_at s 6) 0 (λ h. omega (arith, e₆)) in
      let h₀ = both given16 b₀ e₇ ∙ given16_back g.writer_group f.0 in
      let h₁ = both given32 b₁ e₈ ∙ given32_back g.version f.1 in
      let h₂ = both given16 b₂ e₉ ∙ given16_back g.number f.2 in
      let h₃ = both given16 b₃ e₁₀ ∙ given16_back g.sequence f.3 in
      let f₀ = both (λ (b : Bool) (x : ℕ). fits_item b 65535 x) b₀ e₇ ∙ fits16_back g.writer_group f.0 in
      let f₁ = both (λ (b : Bool) (x : ℕ). fits_item b 4294967295 x) b₁ e₈ ∙ fits32_back g.version f.1 in
      let f₂ = both (λ (b : Bool) (x : ℕ). fits_item b 65535 x) b₂ e₉ ∙ fits16_back g.number f.2 in
      let f₃ = both (λ (b : Bool) (x : ℕ). fits_item b 65535 x) b₃ e₁₀ ∙ fits16_back g.sequence f.3 in
      (rw z (λ i. Some (record { writer_group = h₀ i; version = h₁ i; number = h₂ i; sequence = h₃ i })), rw (f₀, f₁, f₂, f₃) refl)

group_back : (s : List ℕ) (x : Option GroupFields) → FitsGroup x → number_at s 6 ≡ group_items x → number_at s 7 ≡ group_writer x → number_at s 8 ≡ group_version x
    → number_at s 9 ≡ group_number x → number_at s 10 ≡ group_sequence x → GroupBack s x
group_back s None f e₆ e₇ e₈ e₉ e₁₀ = (ap (group_in s) e₆, ap (group_fits s) e₆)
group_back s (Some g) f e₆ e₇ e₈ e₉ e₁₀ = fields_back s g f e₆ e₇ e₈ e₉ e₁₀

-- ---- the record whole
module _ (m : NetworkMessage) (r : List ℕ) (f : FitsEnvelopeRecord m) (h : 256 ≤ length r) where
  abbrev x : Envelope
  x = m.envelope

  abbrev numbers : List ℕ
  numbers = envelope_numbers m

  abbrev s : List ℕ
  s = laid r 0 (number_bytes numbers)

  long : length (number_bytes numbers) ≡ 256
  long = bytes_length numbers

  at : At s 0 (number_bytes numbers)
  at = ([], drop (length (number_bytes numbers)) r, stored_at r (number_bytes numbers) (omega (arith, long)), refl)

  fit : AllFit numbers
  fit = (
    code_fits x.publisher,
    (
      number_fits x.publisher f.publisher,
      (
        f.publisher_end,
        (
          has_class_bound x.class_id,
          (
            class_low_fits x.class_id f.envelope.class_id,
            (
              class_high_fits x.class_id f.envelope.class_id,
              (
                group_items_fits x.group,
                (
                  group_writer_fits x.group f.envelope.group,
                  (
                    group_version_fits x.group f.envelope.group,
                    (
                      group_number_fits x.group f.envelope.group,
                      (
                        group_sequence_fits x.group f.envelope.group,
                        (
                          flag_fits x.chunk,
                          (
                            header_code_fits x.payload_header,
                            (
                              omega (arith, f.header),
                              (
                                f.header_end,
                                (
                                  omega (arith, has_bound x.timestamp),
                                  (
                                    value_i64_bound x.timestamp f.envelope.timestamp,
                                    (
                                      omega (arith, has_bound x.picoseconds),
                                      (
                                        omega (arith, value16_bound x.picoseconds f.envelope.picoseconds),
                                        (
                                          has_promoted_fits x.promoted,
                                          (
                                            f.promoted,
                                            (
                                              f.start,
                                              (
                                                f.count,
                                                (
                                                  sizes_code_fits m.payload.sizes,
                                                  (
                                                    f.sizes,
                                                    (
                                                      f.first,
                                                      (
                                                        omega arith,
                                                        (
                                                          f.first,
                                                          (
                                                            omega arith,
                                                            (
                                                              omega arith,
                                                              (
                                                                omega arith,
                                                                (
                                                                  omega arith,
                                                                  tt,
                                                                ),
                                                              ),
                                                            ),
                                                          ),
                                                        ),
                                                      ),
                                                    ),
                                                  ),
                                                ),
                                              ),
                                            ),
                                          ),
                                        ),
                                      ),
                                    ),
                                  ),
                                ),
                              ),
                            ),
                          ),
                        ),
                      ),
                    ),
                  ),
                ),
              ),
            ),
          ),
        ),
      ),
    ),
  )

  read : (i : ℕ) → i < 32 → number_at s i ≡ get_or numbers i 0
  read i l = ap (number_at s) (sym (zero-add i)) ∙ number_read numbers 0 s at fit i l

  pub envelope_back : EnvelopeBack s m
  envelope_back =
      let p = both publisher_given (read 0 (omega arith)) (read 1 (omega arith)) ∙ publisher_given_back x.publisher f.publisher in
      let pf = both publisher_number_fits (read 0 (omega arith)) (read 1 (omega arith)) ∙ publisher_number_fits_lem x.publisher f.publisher in
      let c = three class_in (read 3 (omega arith)) (read 4 (omega arith)) (read 5 (omega arith)) ∙ class_back x.class_id in
      let g = group_back s x.group f.envelope.group (read 6 (omega arith)) (read 7 (omega arith)) (read 8 (omega arith)) (read 9 (omega arith)) (read 10 (omega arith)) in
      let k = ap is_on (read 11 (omega arith)) ∙ is_on_flag x.chunk in
      let d = both payload_header_by (read 12 (omega arith)) (read 13 (omega arith)) ∙ header_back x.payload_header f.header in
      let df = both header_fits (read 12 (omega arith)) (read 13 (omega arith)) ∙ header_fitting x.payload_header f.header in
      let t = both given_i64 (ap is_on (read 15 (omega arith)) ∙ is_on_has x.timestamp) (read 16 (omega arith)) ∙ given_i64_back x.timestamp f.envelope.timestamp in
      let on = ap is_on (read 17 (omega arith)) ∙ is_on_has x.picoseconds in
      let o = both given16 on (read 18 (omega arith)) ∙ given16_back x.picoseconds f.envelope.picoseconds in
      let ok = both (λ (b : Bool) (v : ℕ). fits_item b 65535 v) on (read 18 (omega arith)) ∙ fits16_back x.picoseconds f.envelope.picoseconds in
      let q = both promoted_in (read 19 (omega arith)) (read 20 (omega arith)) ∙ promoted_back x.promoted in
      let n = read 22 (omega arith) in
      let z = both sizes_by (read 23 (omega arith)) (read 24 (omega arith)) ∙ sizes_back m.payload.sizes in
      let first = read 25 (omega arith) in
      let index = read 26 (omega arith) in
      let place = read 27 (omega arith) in
      record {
        fits = f;
        envelope = λ i. record { publisher = p i; class_id = c i; group = g.0 i; chunk = k i; payload_header = d i; timestamp = t i; picoseconds = o i; promoted = q i };
        fitting = rw (pf, g.1, df, ok) (and_true (count_fits x.payload_header));
        header = d;
        header_end = read 14 (omega arith);
        payload = λ i. record { count = n i; sizes = z i; first = first i };
        messages = λ i. record { index = index i; at = place i };
      }

-- ---- a message cursor that is stored is read back; every other number stays
module _ (c : MessageCursor) (r : List ℕ) (h : 256 ≤ length r) where
  abbrev once : List ℕ
  once = laid r (8 * 26) (le_bytes 8 c.index)

  once_long : 8 * 27 + 8 ≤ length once
  once_long = omega (arith, laid_length r (8 * 26) (le_bytes 8 c.index))

  kept : (j : ℕ) → (j ≡ 26 → ⊥) → (j ≡ 27 → ⊥) → number_at (messages_laid c r) j ≡ number_at r j
  kept j p q = number_kept once 27 c.at once_long j q ∙ number_kept r 26 c.index (omega arith) j p

  pub messages_moved : c.index < 256 ^ 8 → c.at < 256 ^ 8 → messages_in (messages_laid c r) ≡ c
  messages_moved n a =
      let z₂₆ = number_kept once 27 c.at once_long 26 (λ q. omega arith) ∙ number_laid r 26 c.index (omega arith) n in
      let z₂₇ = number_laid once 27 c.at once_long a in
      λ i. record { index = z₂₆ i; at = z₂₇ i }

  pub payload_stays : payload_in (messages_laid c r) ≡ payload_in r
  payload_stays =
      let n = kept 22 (λ p. omega arith) (λ q. omega arith) in
      let z = both sizes_by (kept 23 (λ p. omega arith) (λ q. omega arith)) (kept 24 (λ p. omega arith) (λ q. omega arith)) in
      let first = kept 25 (λ p. omega arith) (λ q. omega arith) in
      λ i. record { count = n i; sizes = z i; first = first i }

  pub header_stays : payload_header_in (messages_laid c r) ≡ payload_header_in r
  header_stays = both payload_header_by (kept 12 (λ p. omega arith) (λ q. omega arith)) (kept 13 (λ p. omega arith) (λ q. omega arith))

  pub header_end_stays : payload_header_end (messages_laid c r) ≡ payload_header_end r
  header_end_stays = kept 14 (λ p. omega arith) (λ q. omega arith)

  pub envelope_stays : (envelope_in (messages_laid c r) ≡ envelope_in r) × (envelope_fits (messages_laid c r) ≡ envelope_fits r)
  envelope_stays =
      let k0 = kept 0 (λ p. omega arith) (λ q. omega arith) in
      let k1 = kept 1 (λ p. omega arith) (λ q. omega arith) in
      let k3 = kept 3 (λ p. omega arith) (λ q. omega arith) in
      let k4 = kept 4 (λ p. omega arith) (λ q. omega arith) in
      let k5 = kept 5 (λ p. omega arith) (λ q. omega arith) in
      let k6 = kept 6 (λ p. omega arith) (λ q. omega arith) in
      let k7 = kept 7 (λ p. omega arith) (λ q. omega arith) in
      let k8 = kept 8 (λ p. omega arith) (λ q. omega arith) in
      let k9 = kept 9 (λ p. omega arith) (λ q. omega arith) in
      let k10 = kept 10 (λ p. omega arith) (λ q. omega arith) in
      let k11 = kept 11 (λ p. omega arith) (λ q. omega arith) in
      let k12 = kept 12 (λ p. omega arith) (λ q. omega arith) in
      let k13 = kept 13 (λ p. omega arith) (λ q. omega arith) in
      let k15 = kept 15 (λ p. omega arith) (λ q. omega arith) in
      let k16 = kept 16 (λ p. omega arith) (λ q. omega arith) in
      let k17 = kept 17 (λ p. omega arith) (λ q. omega arith) in
      let k18 = kept 18 (λ p. omega arith) (λ q. omega arith) in
      let k19 = kept 19 (λ p. omega arith) (λ q. omega arith) in
      let k20 = kept 20 (λ p. omega arith) (λ q. omega arith) in (
        λ i.
            record {
              publisher = publisher_given (k0 i) (k1 i);
              class_id = class_in (k3 i) (k4 i) (k5 i);
              group =
                  cond (eqb (k6 i) 0) None
                  (Some
                  (record {
                    writer_group = given16 (bit 0 (k6 i)) (k7 i);
                    version = given32 (bit 1 (k6 i)) (k8 i);
                    number = given16 (bit 2 (k6 i)) (k9 i);
                    sequence = given16 (bit 3 (k6 i)) (k10 i);
                  }));
              chunk = is_on (k11 i);
              payload_header = payload_header_by (k12 i) (k13 i);
              timestamp = given_i64 (is_on (k15 i)) (k16 i);
              picoseconds = given16 (is_on (k17 i)) (k18 i);
              promoted = promoted_in (k19 i) (k20 i);
            },
        λ i.
            publisher_number_fits (k0 i) (k1 i)
            && ((fits_item (bit 0 (k6 i)) 65535 (k7 i)
            && (fits_item (bit 1 (k6 i)) 4294967295 (k8 i) && (fits_item (bit 2 (k6 i)) 65535 (k9 i) && fits_item (bit 3 (k6 i)) 65535 (k10 i))))
            && (header_fits (k12 i) (k13 i) && fits_item (is_on (k17 i)) 65535 (k18 i))),
      )
