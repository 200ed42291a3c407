-- What an accepted chunk tells: its PublisherId fits a record, its sizes agree, and its data ends where the datagram does.
-- Assumes nothing.
use Prim.Native.Nat.{ℕ, ◌+◌, ◌-◌, ◌≤◌, ◌<◌}
use mathlib.Core.Path.{◌≡◌, refl, subst}
use mathlib.Core.Bool.{Bool, true, false, cond, false≢true}
use mathlib.Core.List.{List}
use native.Mathlib.Omega.{arith}
use lib.Dec.{leb, ltb, eqb}
use lib.ListN.{length, drop, length-drop}
use lib.Seq.{length-take-le}
use borrow.Author.Tests.{leb-false, ltb-false, eqb-true, eqb-false}
use Rattle.wire.specs.Answer.{got, refused, Reader, item, run, refuse, here, pure, and_then, ◌>>=◌}
use Rattle.wire.specs.Items.{length_item}
use Rattle.wire.specs.declared.Length.{Length}
use Rattle.wire.proofs.Reading.{got_value, not_got, invert}
use Rattle.publisher_id.specs.Publisher.{string_of, string_then, string_at, publisher_at}
use Rattle.publisher_id.specs.PublisherRecord.{text_length_of}
use Rattle.network_header.specs.Flags.{flags_at}
use Rattle.network_header.specs.Group.{group_at}
use Rattle.network_header.specs.Header.{class_at, payload_header_at}
use Rattle.network_header.specs.Numbers.{configured_sizes}
use Rattle.network_message.specs.Payload.{payload_at}
use Rattle.network_message.specs.Envelope.{identity_at, times_at, messages_of, envelope_at, envelope_body_at, network_message_at, NetworkMessage}
use Rattle.publisher_id.specs.declared.publisher.PublisherId.{PublisherId}
use Rattle.network_header.specs.declared.envelope.Envelope.{Envelope}
use Rattle.network_header.specs.declared.header.PayloadHeader.{PayloadHeader}
use Rattle.network_header.specs.declared.flags.Flags.{Flags}
use Rattle.chunk.specs.declared.payload.ChunkData.{ChunkData}
use Rattle.chunk.specs.declared.payload.ChunkPayload.{ChunkPayload}
use Rattle.chunk.specs.declared.datagram.ChunkPlace.{ChunkPlace}
use Rattle.chunk.specs.Payload as P
use Rattle.chunk.specs.Datagram.{place_of, chunk_from, chunk_at, chunk_data}

-- every value that a reader accepts has the property
record Gives {A : Type 0} (P : List ℕ → A → Type 0) (r : Reader A) : Type 0 where
  pub told : (s : List ℕ) (at : ℕ) (v : A) (n : ℕ) → r s at ≡ got v n → P s v

gives_bind : {A B : Type 0} {Q : List ℕ → A → Type 0} {P : List ℕ → B → Type 0} {r : Reader A} {k : A → Reader B} → Gives Q r
    → ((a : A) → Gives (λ s v. Q s a → P s v) (k a)) → Gives P (r >>= k)
gives_bind {r = r} {k = k} g h = record {
  told = λ s at v n e.
      let i = invert (r s at) (λ a next. k a s next) e in
      (h i.0).told s i.1 v n i.3 (g.told s at i.0 i.1 i.2);
}

gives_next : {A B : Type 0} {P : List ℕ → B → Type 0} (r : Reader A) {k : A → Reader B} → ((a : A) → Gives P (k a)) → Gives P (r >>= k)
gives_next r {k = k} h = record {
  told = λ s at v n e.
      let i = invert (r s at) (λ a next. k a s next) e in
      (h i.0).told s i.1 v n i.3;
}

gives_pure : {A : Type 0} {P : List ℕ → A → Type 0} (a : A) → ((s : List ℕ) → P s a) → Gives P (pure a)
gives_pure {P = P} a p = record { told = λ s at v n e. subst (P s) (got_value e) (p s) }

-- ---- a string PublisherId has at most 64 bytes
abbrev Small : List ℕ → PublisherId → Type 0
Small s p = text_length_of p ≤ 64

string_small : (n : ℕ) → Gives Small (string_of n)
string_small n = record { told = λ s at v m e. go s at v m (leb 65 n) refl e }
  where
    fits : (s : List ℕ) (at : ℕ) (v : PublisherId) (m : ℕ) → n < 65 → (b : Bool)
        → and_then (cond b (got n (at + n)) (refused 1 at)) (λ len next. got (PublisherId.Text len) next) ≡ got v m → Small s v
    fits s at v m l true q = subst (λ (p : PublisherId). text_length_of p ≤ 64) (got_value q) (omega arith)
    fits s at v m l false q = absurd (not_got q)

    go : (s : List ℕ) (at : ℕ) (v : PublisherId) (m : ℕ) (b : Bool) → leb 65 n ≡ b → cond b (refused 10 0) ((run n >>= λ len. pure (PublisherId.Text len)) s at) ≡ got v m → Small s v
    go s at v m true t q = absurd (not_got q)
    go s at v m false t q = fits s at v m (leb-false 65 n t) (leb (at + n) (length s)) q

length_small : (at : ℕ) (z : Length) → Gives Small (string_then at z)
length_small at Length.Null = record { told = λ s p v n e. absurd (not_got e) }
length_small at (Length.Of k) = string_small k
length_small at Length.Negative = record { told = λ s p v n e. absurd (not_got e) }

at_small : Gives Small string_at
at_small = record {
  told = λ s at v n e.
      let i = invert (length_item s at) (λ z start. string_then at z s start) e in
      (length_small at i.0).told s i.1 v n i.3;
}

number_small : (w : ℕ) (f : ℕ → PublisherId) → ((v : ℕ) → text_length_of (f v) ≡ 0) → Gives Small (item w >>= λ v. pure (f v))
number_small w f z = gives_next (item w) (λ v. gives_pure (f v) (λ s. omega (arith, z v)))

publisher_small : (on : Bool) (kind : ℕ) → Gives Small (publisher_at on kind)
publisher_small false kind = gives_pure PublisherId.Absent (λ s. omega arith)
publisher_small true kind = go (eqb kind 0) (eqb kind 1) (eqb kind 2) (eqb kind 3) (eqb kind 4)
  where
    go : (a b c d e : Bool) → Gives Small
        (cond a (item 1 >>= λ v. pure (PublisherId.Byte v))
        (cond b (item 2 >>= λ v. pure (PublisherId.UInt16 v))
        (cond c (item 4 >>= λ v. pure (PublisherId.UInt32 v)) (cond d (item 8 >>= λ v. pure (PublisherId.UInt64 v)) (cond e string_at (refuse 3))))))
    go true b c d e = number_small 1 PublisherId.Byte (λ v. refl)
    go false true c d e = number_small 2 PublisherId.UInt16 (λ v. refl)
    go false false true d e = number_small 4 PublisherId.UInt32 (λ v. refl)
    go false false false true e = number_small 8 PublisherId.UInt64 (λ v. refl)
    go false false false false true = at_small
    go false false false false false = record { told = λ s at v n q. absurd (not_got q) }

identity_small : (f : Flags) → Gives (λ s i. Small s i.publisher) (identity_at f)
identity_small f =
    gives_bind (publisher_small f.publisher f.kind)
    (λ p. gives_next here (λ e. gives_next (class_at f.class_id) (λ c. gives_next (group_at f.group) (λ g. gives_pure _ (λ s q. q)))))

header_small : (f : Flags) (configured : ℕ) → Gives (λ s h. Small s h.envelope.publisher) (envelope_at f configured)
header_small f configured =
    gives_bind (identity_small f)
    (λ i. gives_next (payload_header_at f.payload_header f.chunk f.probe)
    (λ p. gives_next here (λ e. gives_next (times_at f (messages_of f.chunk p configured)) (λ t. gives_next here (λ z. gives_pure _ (λ s q. q))))))

body_small : (f : Flags) (sizes : List ℕ) → Gives (λ s m. Small s m.envelope.publisher) (envelope_body_at f sizes)
body_small f sizes =
    gives_bind (header_small f (length (configured_sizes sizes)))
    (λ h. gives_next (payload_at h.envelope.chunk h.envelope.payload_header sizes) (λ p. gives_pure _ (λ s q. q)))

message_small : (sizes s : List ℕ) (m : NetworkMessage) (n : ℕ) → network_message_at sizes s ≡ got m n → Small s m.envelope.publisher
message_small sizes s m n e = go (ltb 65535 (length s)) e
  where
    go : (b : Bool) → cond b (refused 10 0) ((flags_at >>= λ f. envelope_body_at f sizes) s 0) ≡ got m n → Small s m.envelope.publisher
    go true q = absurd (not_got q)
    go false q = (gives_next flags_at (λ f. body_small f sizes)).told s 0 m n q

-- ---- an accepted chunk's PayloadHeader is its DataSetWriterId
abbrev NoIds : PayloadHeader → Type 0
NoIds PayloadHeader.Absent = Unit {0}
NoIds (PayloadHeader.Ids n) = ⊥
NoIds (PayloadHeader.Chunk w) = Unit {0}
NoIds PayloadHeader.Probe = Unit {0}

abbrev Present : PayloadHeader → Type 0
Present PayloadHeader.Absent = ⊥
Present (PayloadHeader.Ids n) = Unit {0}
Present (PayloadHeader.Chunk w) = Unit {0}
Present PayloadHeader.Probe = ⊥

header_no_ids : (on chunk probe : Bool) → Gives (λ s h. chunk ≡ true → NoIds h) (payload_header_at on chunk probe)
header_no_ids on chunk true = gives_pure PayloadHeader.Probe (λ s e. tt)
header_no_ids false chunk false = gives_pure PayloadHeader.Absent (λ s e. tt)
header_no_ids true true false = gives_next (item 2) (λ v. gives_pure (PayloadHeader.Chunk v) (λ s e. tt))
header_no_ids true false false = record { told = λ s at v n e q. absurd (false≢true q) }

payload_present : (chunk : Bool) (h : PayloadHeader) (sizes : List ℕ) → Gives (λ s p. chunk ≡ true → Present h) (payload_at chunk h sizes)
payload_present true PayloadHeader.Absent sizes = record { told = λ s at v n e q. absurd (not_got e) }
payload_present false PayloadHeader.Absent sizes = record { told = λ s at v n e q. absurd (false≢true q) }
payload_present chunk (PayloadHeader.Ids n) sizes = record { told = λ s at v m e q. tt }
payload_present chunk (PayloadHeader.Chunk w) sizes = record { told = λ s at v m e q. tt }
payload_present true PayloadHeader.Probe sizes = record { told = λ s at v n e q. absurd (not_got e) }
payload_present false PayloadHeader.Probe sizes = record { told = λ s at v n e q. absurd (false≢true q) }

abbrev ChunkHeader : List ℕ → Envelope → Type 0
ChunkHeader s e = e.chunk ≡ true → (w : ℕ) × (e.payload_header ≡ PayloadHeader.Chunk w)

chunk_id : (h : PayloadHeader) → NoIds h → Present h → (w : ℕ) × (h ≡ PayloadHeader.Chunk w)
chunk_id PayloadHeader.Absent a b = absurd b
chunk_id (PayloadHeader.Ids n) a b = absurd a
chunk_id (PayloadHeader.Chunk w) a b = (w, refl)
chunk_id PayloadHeader.Probe a b = absurd b

body_writer : (f : Flags) (sizes : List ℕ) → Gives (λ s m. ChunkHeader s m.envelope) (envelope_body_at f sizes)
body_writer f sizes =
    gives_bind (header_kind (length (configured_sizes sizes)))
    (λ h. gives_bind (payload_present h.envelope.chunk h.envelope.payload_header sizes)
    (λ p. gives_pure _ (λ s present none on. chunk_id h.envelope.payload_header (none on) (present on))))
  where
    header_kind : (configured : ℕ) → Gives (λ s h. h.envelope.chunk ≡ true → NoIds h.envelope.payload_header) (envelope_at f configured)
    header_kind configured =
        gives_next (identity_at f)
        (λ i. gives_bind (header_no_ids f.payload_header f.chunk f.probe)
        (λ p. gives_next here (λ e. gives_next (times_at f (messages_of f.chunk p configured)) (λ t. gives_next here (λ z. gives_pure _ (λ s q. q))))))

pub chunk_writer : (sizes s : List ℕ) (m : NetworkMessage) (n : ℕ) → network_message_at sizes s ≡ got m n → m.envelope.chunk ≡ true → (w : ℕ) × (m.envelope.payload_header ≡ PayloadHeader.Chunk w)
chunk_writer sizes s m n e = go (ltb 65535 (length s)) e
  where
    go : (b : Bool) → cond b (refused 10 0) ((flags_at >>= λ f. envelope_body_at f sizes) s 0) ≡ got m n → ChunkHeader s m.envelope
    go true q = absurd (not_got q)
    go false q = (gives_next flags_at (λ f. body_writer f sizes)).told s 0 m n q

-- ---- a chunk's payload
pub record Sized (s : List ℕ) (p : ChunkPayload) : Type 0 where
  pub some : 1 ≤ p.total
  pub small : p.total ≤ 16384
  pub filled : 1 ≤ p.length
  pub fits : p.offset + p.length ≤ p.total
  pub ends : p.first + p.length ≡ length s

abbrev SizedTotal : List ℕ → ℕ → Type 0
SizedTotal s t = (1 ≤ t) × (t ≤ 16384)

total_sized : Gives SizedTotal P.total_at
total_sized = record {
  told = λ s at v n e.
      let i = invert (item 4 s at) (P.total_of at) e in
      go s at v n i.0 i.1 (eqb i.0 0) (ltb 16384 i.0) refl refl i.3;
}
  where
    go : (s : List ℕ) (at v n t m : ℕ) (a b : Bool) → eqb t 0 ≡ a → ltb 16384 t ≡ b → cond a (refused 6 at) (cond b (refused 10 0) (got t m)) ≡ got v n → SizedTotal s v
    go s at v n t m true b p q e = absurd (not_got e)
    go s at v n t m false true p q e = absurd (not_got e)
    go s at v n t m false false p q e =
        let l : t ≤ 16384 = ltb-false 16384 t q in
        let z : t ≡ v = got_value e in
        (omega (arith, eqb-false t 0 p), omega arith)

module _ (offset total : ℕ) where
  abbrev SizedLength : List ℕ → ℕ → Type 0
  SizedLength s n = (1 ≤ n) × (offset + n ≤ total)

  sized_length : (at k m v n : ℕ) (s : List ℕ) → P.sized_data offset total k at m ≡ got v n → SizedLength s v
  sized_length at k m v n s e = go (eqb k 0) (ltb total (offset + k)) refl refl e
    where
      go : (a b : Bool) → eqb k 0 ≡ a → ltb total (offset + k) ≡ b → cond a (refused 6 at) (cond b (refused 6 at) (got k m)) ≡ got v n → SizedLength s v
      go true b p q e = absurd (not_got e)
      go false true p q e = absurd (not_got e)
      go false false p q e =
          let l : offset + k ≤ total = ltb-false total (offset + k) q in
          let z : k ≡ v = got_value e in
          (omega (arith, eqb-false k 0 p), omega arith)

  length_sized : Gives SizedLength (P.data_length_at offset total)
  length_sized = record {
    told = λ s at v n e.
        let i = invert (length_item s at) (P.length_then offset total at) e in
        go s at v n i.0 i.1 i.3;
  }
    where
      go : (s : List ℕ) (at v n : ℕ) (z : Length) (m : ℕ) → P.length_then offset total at z m ≡ got v n → SizedLength s v
      go s at v n Length.Null m q = absurd (not_got q)
      go s at v n (Length.Of k) m q = sized_length at k m v n s q
      go s at v n Length.Negative m q = absurd (not_got q)

  pub record SizedData (s : List ℕ) (d : ChunkData) : Type 0 where
    pub filled : 1 ≤ d.length
    pub fits : offset + d.length ≤ total
    pub ends : d.first + d.length ≡ length s

  data_of_sized : (k : ℕ) → 1 ≤ k → offset + k ≤ total → Gives SizedData (P.data_of k)
  data_of_sized k h l = record { told = λ s at v n e. go s at v n (leb (at + k) (length s)) (eqb (at + k) (length s)) refl e }
    where
      go : (s : List ℕ) (at : ℕ) (v : ChunkData) (n : ℕ) (a b : Bool) → eqb (at + k) (length s) ≡ b
          → and_then (cond a (got k (at + k)) (refused 1 at)) (λ _ z. and_then (P.nothing_after s z) (λ _ y. got (record { first = at; length = k }) y)) ≡ got v n
          → SizedData s v
      go s at v n true true t q =
          let x : at + k ≡ length s = eqb-true _ _ t in
          subst (SizedData s) (got_value (rw t at q)) (record { filled = h; fits = l; ends = x })
      go s at v n true false t q = absurd (not_got (rw t at q))
      go s at v n false b t q = absurd (not_got q)

  data_sized : Gives SizedData (P.data_at offset total)
  data_sized = gives_bind length_sized (λ k. record { told = λ s at v n e q. (data_of_sized k q.0 q.1).told s at v n e })

rest_sized : (k : ℕ) → Gives Sized (P.after_number_at k)
rest_sized k =
    gives_next (item 4)
    (λ o. gives_bind total_sized
    (λ t. gives_bind (data_sized o t)
    (λ d. gives_pure _ (λ s h q. record { some = q.0; small = q.1; filled = h.filled; fits = h.fits; ends = h.ends }))))

pub payload_sized : (s : List ℕ) (at : ℕ) (p : ChunkPayload) (n : ℕ) → P.chunk_payload_at s at ≡ got p n → Sized s p
payload_sized = (gives_next (item 2) rest_sized).told

-- ---- a chunk of a datagram
pub record Accepted (s : List ℕ) (c : ChunkPlace) : Type 0 where
  pub publisher : text_length_of c.publisher ≤ 64
  pub sized : Sized s c.payload

pub accepted : (sizes s : List ℕ) (c : ChunkPlace) (n : ℕ) → chunk_at sizes s ≡ got c n → Accepted s c
accepted sizes s c n e =
    let i = invert (network_message_at sizes s) (λ m first. chunk_from m.envelope m.places.publisher_end s first) e in
    go i.0 i.1 (message_small sizes s i.0 i.1 i.2) i.0.envelope.chunk i.3
  where
    go : (m : NetworkMessage) (at : ℕ) → Small s m.envelope.publisher → (b : Bool)
        → cond b (and_then (P.chunk_payload_at s at) (λ p next. got (place_of m.envelope m.places.publisher_end p) next)) (refused 4 0) ≡ got c n
        → Accepted s c
    go m at h false q = absurd (not_got q)
    go m at h true q =
        let j = invert (P.chunk_payload_at s at) (λ p next. got (place_of m.envelope m.places.publisher_end p) next) q in
        subst (Accepted s) (got_value j.3) (record { publisher = h; sized = payload_sized s at j.0 j.1 j.2 })

-- the data of an accepted chunk is as long as it says, and never empty
pub data_length : (sizes s : List ℕ) (c : ChunkPlace) (n : ℕ) → chunk_at sizes s ≡ got c n → length (chunk_data (chunk_at sizes s) s) ≡ c.payload.length
data_length sizes s c n e =
    let a = (accepted sizes s c n e).sized in
    let l : length (drop c.payload.first s) ≡ length s - c.payload.first = length-drop c.payload.first s in
    let h : c.payload.length ≤ length (drop c.payload.first s) = omega (arith, a.ends) in
    rw e (length-take-le c.payload.length (drop c.payload.first s) h)
