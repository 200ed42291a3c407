-- The refusals of datagrams and chunks.
-- Assumes nothing.
use Prim.Native.Nat.{ℕ, ◌+◌, ◌*◌, ◌/◌, ◌%◌, ◌≤◌}
use mathlib.Core.Path.{refl}
use mathlib.Core.Bool.{Bool, ◌&&◌}
use mathlib.Core.List.{List, [], ◌∷◌}
use mathlib.Core.Logic.{inr}
use native.Mathlib.Omega.{arith}
use lib.Dec.{leb, ltb, eqb}
use lib.ListN.{length}
use Rattle.wire.specs.Lists.{total}
use Rattle.wire.specs.Answer.{Reader, bit}
use Rattle.wire.specs.declared.Length.{Length}
use Rattle.network_header.specs.Flags.{byte0_rule, extended1_rule, probe_rule, extended2_rule, flags_at}
use Rattle.plain_value.specs.Plain.{after_length, by_length, string}
use Rattle.probe.specs.Body.{probe_type_rule, information_rule, id_list_at, string_list_at, probe_at, probe_body_at}
use Rattle.publisher_id.specs.Publisher.{string_then, string_at, publisher_at}
use Rattle.network_header.specs.Group.{number_rule, message_number_at, group_flags_rule, group_at}
use Rattle.network_header.specs.Header.{class_at, count_rule, payload_header_at, size_rule, promoted_at}
use Rattle.network_message.specs.Payload.{all_positive, listed, rest_only_at, listed_at, sized_at, configured_at, payload_at}
use Rattle.network_header.specs.Numbers.{configured_sizes}
use Rattle.network_message.specs.Envelope.{messages_of, identity_at, times_at, envelope_at, envelope_body_at, network_message_at}
use Rattle.network_header.specs.declared.flags.Flags.{Flags}
use Rattle.network_header.specs.declared.header.PayloadHeader.{PayloadHeader}
use Rattle.chunk.specs.Payload as P
use Rattle.chunk.specs.Datagram.{chunk_at}
use Rattle.acceptance.proofs.Refusals.Tells.{gives, refuses}
use Rattle.acceptance.proofs.Refusals.{Rule, n3, wider_tells, Tells, Lawful, at_item, number, n1, no_place, pure_lawful, here_lawful, run_lawful, item_lawful, guid_lawful, length_lawful, ruled_lawful, bind_lawful, after_lawful, each_lawful, then_tells, cond_tells, cond_lawful, when_lawful, cond_rule, kept, optional16_lawful, optional32_lawful, optional_i64_lawful, picoseconds_lawful}

-- the numbers beside 1 and 3: of a datagram, of a probe's body, and of a chunk
abbrev pub datagram_others : List ℕ
datagram_others = 2 ∷ 4 ∷ 5 ∷ 6 ∷ 7 ∷ 8 ∷ 10 ∷ []

abbrev pub probe_others : List ℕ
probe_others = 4 ∷ 5 ∷ 7 ∷ []

abbrev pub chunk_others : List ℕ
chunk_others = 2 ∷ 4 ∷ 5 ∷ 6 ∷ 7 ∷ 8 ∷ 10 ∷ []

-- ---- the header's parts
flags_lawful : Lawful datagram_others flags_at
flags_lawful =
    bind_lawful (ruled_lawful 1 byte0_rule (λ b. cond_rule (eqb (b % 16) 1) kept (inr (number 2 refl))))
    (λ b. bind_lawful (when_lawful (eqb (b / 128) 1) 0 (ruled_lawful 1 (extended1_rule (bit 4 b)) (extended1 (bit 4 b))))
    (λ e. bind_lawful (when_lawful (eqb (e / 128) 1) 0 (ruled_lawful 1 (extended2_rule (bit 6 b)) (extended2 (bit 6 b)))) (λ f. pure_lawful _)))
  where
    extended1 : (p : Bool) (e : ℕ) → Rule datagram_others (extended1_rule p e)
    extended1 p e =
        cond_rule (eqb e 0) (inr n3)
        (cond_rule (p && leb 5 (e % 8)) (inr n3)
        (cond_rule (bit 4 e) (inr (number 4 refl))
        (cond_rule (bit 6 e && eqb (e / 32 % 2) 0) (inr n3) kept)))

    probe : (h : Bool) (e : ℕ) → Rule datagram_others (probe_rule h e)
    probe h e = cond_rule (eqb (e % 2) 1) (inr (number 4 refl)) (cond_rule h (inr n3) (cond_rule (bit 1 e) (inr n3) kept))

    extended2 : (h : Bool) (e : ℕ) → Rule datagram_others (extended2_rule h e)
    extended2 h e = cond_rule (eqb e 0) (inr n3)
        (cond_rule (leb 32 e) (inr n3)
        (cond_rule (leb 3 (e / 4 % 8)) (inr n3)
        (cond_rule (eqb (e / 4 % 8) 2) (inr (number 4 refl)) (cond_rule (eqb (e / 4 % 8) 1) (probe h e) kept))))

string_tells : (at : ℕ) (l : Length) (s : List ℕ) (start : ℕ) → at ≤ length s → start ≤ length s → Tells datagram_others (length s) (string_then at l s start)
string_tells at Length.Null s start h u = refuses (at_item (number 5 refl) h)
string_tells at (Length.Of n) s start h u =
    cond_tells (leb 65 n) (refuses (no_place 10 refl)) ((bind_lawful (run_lawful n) (λ len. pure_lawful _)).tells s start u)
string_tells at Length.Negative s start h u = refuses (at_item (number 5 refl) h)

string_lawful : Lawful datagram_others string_at
string_lawful = record { tells = λ s at h. then_tells (length_lawful.tells s at h) (λ l start u. string_tells at l s start h u) }

publisher_lawful : (on : Bool) (kind : ℕ) → Lawful datagram_others (publisher_at on kind)
publisher_lawful on kind =
    when_lawful on _
    (cond_lawful (eqb kind 0) (bind_lawful (item_lawful 1) (λ v. pure_lawful _))
    (cond_lawful (eqb kind 1) (bind_lawful (item_lawful 2) (λ v. pure_lawful _))
    (cond_lawful (eqb kind 2) (bind_lawful (item_lawful 4) (λ v. pure_lawful _))
    (cond_lawful (eqb kind 3) (bind_lawful (item_lawful 8) (λ v. pure_lawful _))
    (cond_lawful (eqb kind 4) string_lawful (record { tells = λ s at h. refuses (at_item n3 h) }))))))

class_lawful : (on : Bool) → Lawful datagram_others (class_at on)
class_lawful on = when_lawful on _ (bind_lawful guid_lawful (λ v. pure_lawful _))

number_lawful : (on : Bool) → Lawful datagram_others (message_number_at on)
number_lawful on = when_lawful on _ (bind_lawful (ruled_lawful 2 number_rule (λ v. cond_rule (eqb v 0) (inr n3) kept)) (λ v. pure_lawful _))

group_lawful : (on : Bool) → Lawful datagram_others (group_at on)
group_lawful on =
    when_lawful on _
    (bind_lawful (ruled_lawful 1 group_flags_rule (λ v. cond_rule (leb 16 v) (inr n3) kept))
    (λ f. bind_lawful (optional16_lawful (eqb (f % 2) 1))
    (λ w. bind_lawful (optional32_lawful (bit 1 f))
    (λ v. bind_lawful (number_lawful (bit 2 f))
    (λ n. bind_lawful (optional16_lawful (bit 3 f)) (λ q. pure_lawful _))))))

payload_header_lawful : (on chunk probe : Bool) → Lawful datagram_others (payload_header_at on chunk probe)
payload_header_lawful on chunk probe =
    cond_lawful probe (pure_lawful _)
    (when_lawful on _
    (cond_lawful chunk (bind_lawful (item_lawful 2) (λ v. pure_lawful _))
    (bind_lawful (ruled_lawful 1 count_rule (λ n. cond_rule (eqb n 0) (inr (number 6 refl)) kept)) (λ n. after_lawful (run_lawful (2 * n)) (pure_lawful _)))))

promoted_lawful : (on : Bool) (messages : ℕ) → Lawful datagram_others (promoted_at on messages)
promoted_lawful on messages =
    when_lawful on _
    (bind_lawful (ruled_lawful 2 (size_rule messages) (λ v. cond_rule (eqb messages 1) kept (inr (number 6 refl)))) (λ n. after_lawful (run_lawful n) (pure_lawful _)))

identity_lawful : (f : Flags) → Lawful datagram_others (identity_at f)
identity_lawful f =
    bind_lawful (publisher_lawful f.publisher f.kind)
    (λ p. bind_lawful here_lawful
    (λ e. bind_lawful (class_lawful f.class_id)
    (λ c. bind_lawful (group_lawful f.group) (λ g. pure_lawful _))))

times_lawful : (f : Flags) (messages : ℕ) → Lawful datagram_others (times_at f messages)
times_lawful f messages =
    bind_lawful (optional_i64_lawful f.timestamp)
    (λ t. bind_lawful (picoseconds_lawful f.picoseconds)
    (λ p. bind_lawful (promoted_lawful f.promoted messages) (λ m. pure_lawful _)))

header_lawful : (f : Flags) (configured : ℕ) → Lawful datagram_others (envelope_at f configured)
header_lawful f configured =
    bind_lawful (identity_lawful f)
    (λ i. bind_lawful (payload_header_lawful f.payload_header f.chunk f.probe)
    (λ p. bind_lawful here_lawful
    (λ e. bind_lawful (times_lawful f (messages_of f.chunk p configured))
    (λ t. bind_lawful here_lawful (λ z. pure_lawful _)))))

-- ---- a probe
by_length_tells : {A : Type 0} (null : Reader A) (counted : ℕ → Reader A) → Lawful probe_others null → ((n : ℕ) → Lawful probe_others (counted n)) → (at : ℕ) (l : Length) (s : List ℕ)
    (start : ℕ) → at ≤ length s → start ≤ length s → Tells probe_others (length s) (after_length null counted at l s start)
by_length_tells null counted f g at Length.Null s start h u = f.tells s start u
by_length_tells null counted f g at (Length.Of n) s start h u = (g n).tells s start u
by_length_tells null counted f g at Length.Negative s start h u = refuses (at_item (number 5 refl) h)

by_length_lawful : {A : Type 0} {null : Reader A} {counted : ℕ → Reader A} → Lawful probe_others null → ((n : ℕ) → Lawful probe_others (counted n)) → Lawful probe_others (by_length null counted)
by_length_lawful {A} {null} {counted} f g =
    record { tells = λ s at h. then_tells (length_lawful.tells s at h) (λ l start u. by_length_tells null counted f g at l s start h u) }

string_item_lawful : Lawful probe_others string
unfolding string
string_item_lawful = by_length_lawful (pure_lawful tt) (λ n. after_lawful (run_lawful n) (pure_lawful tt))

id_list_lawful : Lawful probe_others id_list_at
id_list_lawful = by_length_lawful (pure_lawful _) (λ n. after_lawful (run_lawful (2 * n)) (pure_lawful _))

string_list_lawful : Lawful probe_others string_list_at
string_list_lawful = by_length_lawful (pure_lawful _) (λ n. after_lawful (each_lawful string_item_lawful n) (pure_lawful _))

probe_lawful : Lawful probe_others probe_at
unfolding probe_at
probe_lawful =
    after_lawful (ruled_lawful 1 probe_type_rule (λ t. cond_rule (eqb t 1) kept (cond_rule (eqb t 2) (inr (number 4 refl)) (inr n3))))
    (bind_lawful (ruled_lawful 1 information_rule (λ t. cond_rule (eqb t 1) (inr (number 4 refl)) (cond_rule (ltb t 2) (inr n3) (cond_rule (ltb 5 t) (inr n3) kept))))
    (λ t. cond_lawful (eqb t 2) (bind_lawful id_list_lawful (λ l. pure_lawful _))
    (cond_lawful (eqb t 3) (bind_lawful id_list_lawful (λ l. pure_lawful _))
    (cond_lawful (eqb t 4) (bind_lawful (item_lawful 2) (λ g. bind_lawful (item_lawful 1) (λ b. pure_lawful _)))
    (bind_lawful string_list_lawful (λ l. bind_lawful (item_lawful 1) (λ g. bind_lawful (item_lawful 1) (λ w. pure_lawful _))))))))

pub body_tells : (s : List ℕ) (at : ℕ) → at ≤ length s → Tells probe_others (length s) (probe_body_at s at)
body_tells s at h = then_tells (probe_lawful.tells s at h) (λ p next u. cond_tells (eqb next (length s)) (gives u) (refuses (at_item (number 7 refl) u)))

-- ---- the payload
rest_lawful : Lawful datagram_others rest_only_at
rest_lawful = record { tells = λ s at h. cond_tells (ltb at (length s)) (gives h) (refuses (at_item n1 h)) }

listed_lawful : (n : ℕ) → Lawful datagram_others (listed_at n)
listed_lawful n =
    record {
      tells = λ s at h. then_tells ((run_lawful (2 * n)).tells s at h)
          (λ x next u. cond_tells (all_positive (listed n s at) && eqb (next + total (listed n s at)) (length s)) (gives u) (refuses (at_item (number 6 refl) h)));
    }

sized_lawful : (n sum : ℕ) → Lawful datagram_others (sized_at n sum)
sized_lawful n sum = record { tells = λ s at h. cond_tells (eqb (at + sum) (length s)) (gives h) (refuses (at_item (number 6 refl) h)) }

configured_lawful : (sizes : List ℕ) → Lawful datagram_others (configured_at sizes)
configured_lawful sizes =
    record {
      tells = λ s at h. cond_tells (eqb (length sizes) 0) (refuses (no_place 8 refl))
          (cond_tells (all_positive sizes) ((sized_lawful (length sizes) (total sizes)).tells s at h)
          (cond_tells (eqb (length sizes) 1) (rest_lawful.tells s at h) (refuses (no_place 8 refl))));
    }

payload_lawful : (chunk : Bool) (p : PayloadHeader) (sizes : List ℕ) → Lawful datagram_others (payload_at chunk p sizes)
payload_lawful chunk PayloadHeader.Absent sizes =
    record { tells = λ s at h. cond_tells chunk (refuses (no_place 8 refl)) ((configured_lawful (configured_sizes sizes)).tells s at h) }
payload_lawful chunk (PayloadHeader.Ids n) sizes =
    record {
      tells = λ s at h. cond_tells (eqb n 0) (refuses (at_item (number 6 refl) h)) (cond_tells (leb n 1) (rest_lawful.tells s at h) ((listed_lawful n).tells s at h));
    }
payload_lawful chunk (PayloadHeader.Chunk w) sizes = record { tells = λ s at h. gives h }
payload_lawful chunk PayloadHeader.Probe sizes =
    record { tells = λ s at h. cond_tells chunk (refuses (at_item (number 4 refl) h)) (then_tells (wider_tells refl (body_tells s at h)) (λ p next u. gives h)) }

body_lawful : (f : Flags) (sizes : List ℕ) → Lawful datagram_others (envelope_body_at f sizes)
body_lawful f sizes =
    bind_lawful (header_lawful f (length (configured_sizes sizes)))
    (λ h. bind_lawful (payload_lawful h.envelope.chunk h.envelope.payload_header sizes) (λ p. pure_lawful _))

pub datagram_tells : (sizes s : List ℕ) → Tells datagram_others (length s) (network_message_at sizes s)
datagram_tells sizes s =
    cond_tells (ltb 65535 (length s)) (refuses (no_place 10 refl)) ((bind_lawful flags_lawful (λ f. body_lawful f sizes)).tells s 0 (omega arith))

-- ---- a chunk's payload
total_lawful : Lawful chunk_others P.total_at
total_lawful =
    record {
      tells = λ s at h. then_tells ((item_lawful 4).tells s at h)
          (λ v next u. cond_tells (eqb v 0) (refuses (at_item (number 6 refl) h)) (cond_tells (ltb 16384 v) (refuses (no_place 10 refl)) (gives u)));
    }

sized_tells : (offset t at : ℕ) (l : Length) (next hi : ℕ) → at ≤ hi → next ≤ hi → Tells chunk_others hi (P.length_then offset t at l next)
sized_tells offset t at Length.Null next hi h u = refuses (at_item (number 6 refl) h)
sized_tells offset t at (Length.Of n) next hi h u =
    cond_tells (eqb n 0) (refuses (at_item (number 6 refl) h)) (cond_tells (ltb t (offset + n)) (refuses (at_item (number 6 refl) h)) (gives u))
sized_tells offset t at Length.Negative next hi h u = refuses (at_item (number 5 refl) h)

data_length_lawful : (offset t : ℕ) → Lawful chunk_others (P.data_length_at offset t)
data_length_lawful offset t = record { tells = λ s at h. then_tells (length_lawful.tells s at h) (λ l next u. sized_tells offset t at l next (length s) h u) }

end_lawful : Lawful chunk_others P.nothing_after
end_lawful = record { tells = λ s at h. cond_tells (eqb at (length s)) (gives h) (refuses (at_item (number 7 refl) h)) }

data_lawful : (n : ℕ) → Lawful chunk_others (P.data_of n)
data_lawful n = bind_lawful here_lawful (λ f. after_lawful (run_lawful n) (after_lawful end_lawful (pure_lawful _)))

chunk_payload_lawful : Lawful chunk_others P.chunk_payload_at
chunk_payload_lawful =
    bind_lawful (item_lawful 2)
    (λ n. bind_lawful (item_lawful 4)
    (λ o. bind_lawful total_lawful
    (λ t. bind_lawful (bind_lawful (data_length_lawful o t) data_lawful) (λ d. pure_lawful _))))

pub chunk_tells : (sizes s : List ℕ) → Tells chunk_others (length s) (chunk_at sizes s)
chunk_tells sizes s =
    then_tells (wider_tells refl (datagram_tells sizes s))
    (λ m first h. cond_tells m.envelope.chunk (then_tells (chunk_payload_lawful.tells s first h) (λ p next u. gives u)) (refuses (at_item (number 4 refl) (omega arith))))
