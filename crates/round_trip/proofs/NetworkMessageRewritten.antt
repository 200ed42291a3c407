-- A datagram that was read, written again, is the same but for the two exceptions.
-- Assumes nothing.
use Rattle.wire.specs.declared.Guid.{Guid}
use Rattle.network_header.specs.declared.group.GroupFields.{GroupFields}
use Rattle.std.specs.Prelude.{Option, ℤ}
use mathlib.Core.Path.{◌≡◌, refl, ap, sym, subst, ◌∙◌}
use mathlib.Core.List.{List, ◌++◌, append_assoc}
use mathlib.Core.Bool.{Bool, true, false, cond}
use Prim.Native.Nat.{ℕ, ◌+◌, ◌≤◌}
use native.Mathlib.Omega.{arith}
use lib.ListN.{length, drop}
use lib.Seq.{sets}
use lib.Dec.{ltb}
use Rattle.wire.specs.Answer.{got, refused, ◌>>=◌}
use Rattle.wire.specs.Optional.{optional_i64, picoseconds_at}
use Rattle.wire.proofs.Reading.{got_value, got_next, not_got, invert}
use Rattle.network_header.specs.declared.flags.Flags.{Flags}
use Rattle.publisher_id.specs.declared.publisher.PublisherId.{PublisherId}
use Rattle.network_header.specs.declared.header.PayloadHeader.{PayloadHeader}
use Rattle.network_message.specs.declared.envelope.Identity.{Identity}
use Rattle.network_message.specs.declared.envelope.Times.{Times}
use Rattle.network_header.specs.declared.envelope.Envelope.{Envelope}
use Rattle.network_header.specs.declared.envelope.Places.{Places}
use Rattle.network_header.specs.Flags.{flags_at, flags_for, flag_bytes}
use Rattle.network_header.specs.Envelope.{picoseconds_place, envelope_held}
use Rattle.publisher_id.specs.Publisher.{publisher_at, publisher_on, publisher_bytes, text_of}
use Rattle.network_header.specs.Group.{group_at, group_bytes}
use Rattle.network_header.specs.Header.{class_at, payload_header_at, promoted_at, class_bytes, payload_header_bytes, promoted_bytes, ids_of, promoted_of}
use Rattle.network_header.specs.Numbers.{configured_sizes}
use Rattle.network_message.specs.Payload.{payload_at}
use Rattle.network_message.specs.Envelope.{Header, NetworkMessage, identity_at, times_at, messages_of, envelope_at, envelope_body_at, network_message_at}
use Rattle.wire_writer.specs.Writing.{optional16_bytes, optional_i64_bytes, picoseconds_refusal, picoseconds_held}
use Rattle.wire_writer.proofs.Back.{Back, PicosecondsBack, join, end_fits, map_back, optional_i64_back, picoseconds_back, picoseconds_kept, held_between, held_stored, held_length}
use Rattle.network_message.specs.Writer.{envelope_bytes, again_of}
use Rattle.round_trip.specs.NetworkMessage.{type_cleared, rewritten}
use Rattle.round_trip.proofs.RewrittenBytes.{rewritten_flags, flags_cleared, cleared_shorter}
use Rattle.network_header.proofs.FlagsBack.{flags_back}
use Rattle.publisher_id.proofs.PublisherTrip.{publisher_back}
use Rattle.network_header.proofs.HeaderTrip.{class_back, payload_header_back, promoted_back}
use Rattle.network_header.proofs.GroupTrip.{group_back}
use Rattle.wire_writer.specs.Fits.{Bytes}

-- the header of a datagram with its parts taken as read
abbrev pub header_of : List ℕ → Envelope → Places → List ℕ
header_of s x p =
    envelope_bytes (text_of s x.publisher p.publisher_end) (ids_of s x.payload_header p.payload_header_end) (promoted_of s x.promoted p.payload) x

-- What a header that was read tells: its parts put together, with all that follows, are its flags as they are written again and a rest; the
-- datagram with its PicoSeconds held is its flags as they stand and that rest; they are held by storing them where they stand.
pub record Same (s : List ℕ) (f : Flags) (L : Header) (next : ℕ) : Type 0 where
  pub rest : List ℕ
  pub again : header_of s L.envelope L.places ++ drop next s ≡ flag_bytes (rewritten_flags f) ++ rest
  pub held : envelope_held L.envelope L.places s ≡ flag_bytes f ++ rest
  pub stored : sets s (picoseconds_place L.envelope L.places) (optional16_bytes L.envelope.picoseconds) ≡ envelope_held L.envelope L.places s
  pub room : picoseconds_place L.envelope L.places + length (optional16_bytes L.envelope.picoseconds) ≤ length s
  pub ends : L.places.payload ≡ next
  pub fits : next ≤ length s

-- a header's parts one after the other, with all that follows
in_a_row : (x b2 b3 b4 b5 b6 b7 b8 r : List ℕ)
    → (x ++ (b2 ++ (b3 ++ (b4 ++ (b5 ++ (b6 ++ (b7 ++ b8))))))) ++ r ≡ x ++ ((b2 ++ (b3 ++ (b4 ++ (b5 ++ b6)))) ++ (b7 ++ (b8 ++ r)))
in_a_row x b2 b3 b4 b5 b6 b7 b8 r = simp append_assoc

module _ (s : List ℕ) (f : Flags) (p : PublisherId) (c : Option Guid) (g : Option GroupFields) (l : PayloadHeader) (t : Option ℤ) (o : Option ℕ) (m : Option ℕ) (n n1 n2 n3 n4 n5 n6 next : ℕ) where
  abbrev located : Header
  located =
      record {
        envelope = record { publisher = p; class_id = c; group = g; chunk = f.chunk; payload_header = l; timestamp = t; picoseconds = o; promoted = m };
        places = record { publisher_end = n1; payload_header_end = n4; payload = next };
      }

  assemble : Back s 0 (flag_bytes f) n → Back s n (publisher_bytes (text_of s p n1) p) n1 → Back s n1 (class_bytes c) n2 → Back s n2 (group_bytes g) n3
      → Back s n3 (payload_header_bytes (ids_of s l n4) l) n4 → Back s n4 (optional_i64_bytes t) n5 → PicosecondsBack f.picoseconds s n5 o n6
      → Back s n6 (promoted_bytes (promoted_of s m next) m) next → flags_for located.envelope ≡ rewritten_flags f → Same s f located next
  assemble bf bp bc bg bl bt bo bm e =
      let b1 = flag_bytes f in
      let b2 = publisher_bytes (text_of s p n1) p in
      let b3 = class_bytes c in
      let b4 = group_bytes g in
      let b5 = payload_header_bytes (ids_of s l n4) l in
      let b6 = optional_i64_bytes t in
      let b7 = optional16_bytes o in
      let b8 = promoted_bytes (promoted_of s m next) m in
      let front = b2 ++ (b3 ++ (b4 ++ (b5 ++ b6))) in
      let all = join s 0 b1 n front n5 bf
      (join s n b2 n1 (b3 ++ (b4 ++ (b5 ++ b6))) n5 bp (join s n1 b3 n2 (b4 ++ (b5 ++ b6)) n5 bc (join s n2 b4 n3 (b5 ++ b6) n5 bg (join s n3 b5 n4 b6 n5 bl bt)))) in
      let there : n5 ≡ n4 + length b6 = bt.1 in
      record {
        rest = front ++ (b7 ++ (b8 ++ drop next s));
        again = in_a_row (flag_bytes (flags_for located.envelope)) b2 b3 b4 b5 b6 b7 b8 (drop next s) ∙ ap (λ (h : Flags). flag_bytes h ++ (front ++ (b7 ++ (b8 ++ drop next s)))) e;
        held =
            ap (λ (k : ℕ). picoseconds_held o k s) (sym there) ∙ sym (held_between s (b1 ++ front) n5 o n6 b8 next all bo bm)
            ∙ append_assoc b1 front (b7 ++ (b8 ++ drop next s));
        stored = subst (λ (k : ℕ). sets s k b7 ≡ picoseconds_held o k s) there (held_stored s n5 o n6 bo);
        room = omega (arith, there, bo.ends, bo.fits);
        ends = refl;
        fits = end_fits s n6 b8 next bm;
      }

pub identity_of_lem : (f : Flags) (s : List ℕ) (at : ℕ) (i : Identity) (next : ℕ) → identity_at f s at ≡ got i next
    → (publisher_at f.publisher f.kind s at ≡ got i.publisher i.publisher_end)
    × (n : ℕ) × (class_at f.class_id s i.publisher_end ≡ got i.class_id n) × (group_at f.group s n ≡ got i.group next)
identity_of_lem f s at i next h =
    let P = invert (publisher_at f.publisher f.kind s at) (λ p n. _) h in
    let C = invert (class_at f.class_id s P.1) (λ c n. _) P.3 in
    let G = map_back (group_at f.group) (λ g. record { publisher = P.0; publisher_end = P.1; class_id = C.0; group = g }) s C.1 i next C.3 in
    subst (λ (i : Identity). (publisher_at f.publisher f.kind s at ≡ got i.publisher i.publisher_end)
    × (n : ℕ) × (class_at f.class_id s i.publisher_end ≡ got i.class_id n) × (group_at f.group s n ≡ got i.group next)) G.2
    (P.2, C.1, C.2, G.1)

pub times_of : (f : Flags) (messages : ℕ) (s : List ℕ) (at : ℕ) (x : Times) (next : ℕ) → times_at f messages s at ≡ got x next
    → (n1 : ℕ) × (n2 : ℕ) × (optional_i64 f.timestamp s at ≡ got x.timestamp n1) × (picoseconds_at f.picoseconds s n1 ≡ got x.picoseconds n2)
    × (promoted_at f.promoted messages s n2 ≡ got x.promoted next)
times_of f messages s at x next h =
    let T = invert (optional_i64 f.timestamp s at) (λ t n. _) h in
    let O = invert (picoseconds_at f.picoseconds s T.1) (λ o n. _) T.3 in
    let M = map_back (promoted_at f.promoted messages) (λ m. record { timestamp = T.0; picoseconds = O.0; promoted = m }) s O.1 x next O.3 in
    subst (λ (x : Times). (n1 : ℕ) × (n2 : ℕ) × (optional_i64 f.timestamp s at ≡ got x.timestamp n1) × (picoseconds_at f.picoseconds s n1 ≡ got x.picoseconds n2)
    × (promoted_at f.promoted messages s n2 ≡ got x.promoted next)) M.2
    (T.1, O.1, T.2, O.2, M.1)

pub header_same : (configured : ℕ) (s : List ℕ) (f : Flags) (n : ℕ) (L : Header) (next : ℕ) → Bytes s → flags_at s 0 ≡ got f n → envelope_at f configured s n ≡ got L next → Same s f L next
header_same configured s f n L next b hf h =
    let I = invert (identity_at f s n) (λ i k. _) h in
    let Pl = invert (payload_header_at f.payload_header f.chunk f.probe s I.1) (λ p k. _) I.3 in
    let T = invert (times_at f (messages_of f.chunk Pl.0 configured) s Pl.1) (λ t k. _) Pl.3 in
    let i = identity_of_lem f s n I.0 I.1 I.2 in
    let t = times_of f (messages_of f.chunk Pl.0 configured) s Pl.1 T.0 T.1 T.2 in
    let bf = flags_back s 0 f n b hf in
    let bp = publisher_back f.publisher f.kind s n I.0.publisher I.0.publisher_end b (end_fits s 0 (flag_bytes f) n bf.0) i.0 in
    let bc = class_back f.class_id s I.0.publisher_end I.0.class_id i.1 b
    (end_fits s n (publisher_bytes (text_of s I.0.publisher I.0.publisher_end) I.0.publisher) I.0.publisher_end bp.0) i.2 in
    let bg = group_back f.group s i.1 I.0.group I.1 b (end_fits s I.0.publisher_end (class_bytes I.0.class_id) i.1 bc.0) i.3 in
    let bl = payload_header_back f.payload_header f.chunk f.probe s I.1 Pl.0 Pl.1 b (end_fits s i.1 (group_bytes I.0.group) I.1 bg.0) bf.1.header Pl.2 in
    let bt = optional_i64_back f.timestamp s Pl.1 T.0.timestamp t.0 b (end_fits s I.1 (payload_header_bytes (ids_of s Pl.0 Pl.1) Pl.0) Pl.1 bl.0) t.2 in
    let bo = picoseconds_back f.picoseconds s t.0 T.0.picoseconds t.1 b (end_fits s Pl.1 (optional_i64_bytes T.0.timestamp) t.0 bt.0) t.3 in
    let bm = promoted_back f.promoted (messages_of f.chunk Pl.0 configured) s t.1 T.0.promoted T.1 b
    bo.fits t.4 in
    let a = assemble s f I.0.publisher I.0.class_id I.0.group Pl.0 T.0.timestamp T.0.picoseconds
    T.0.promoted n I.0.publisher_end i.1 I.1 Pl.1 t.0 t.1 T.1
    bf.0 bp.0 bc.0 bg.0 bl.0 bt.0 bo bm.0
    (rw (bp.1, bp.2, bg.1, bl.1, bl.2, bc.1, bt.1, bo.there, bm.1)) in
    subst (λ (z : ℕ). Same s f L z) (got_next T.3) (subst (λ (K : Header). Same s f K T.1) (got_value T.3) a)

-- the same of a datagram
body_same : (sizes s : List ℕ) (f : Flags) (n : ℕ) (m : NetworkMessage) (next : ℕ) → Bytes s → flags_at s 0 ≡ got f n → envelope_body_at f sizes s n ≡ got m next
    → Same s f (record { envelope = m.envelope; places = m.places }) m.places.payload
body_same sizes s f n m next b hf h =
    let H = invert (envelope_at f (length (configured_sizes sizes)) s n) (λ h k. _) h in
    let P = map_back (payload_at H.0.envelope.chunk H.0.envelope.payload_header sizes)
    (λ p. record { envelope = H.0.envelope; places = H.0.places; payload = p }) s H.1 m next H.3 in
    let q = header_same (length (configured_sizes sizes)) s f n H.0 H.1 b hf H.2 in
    subst (λ (m : NetworkMessage). Same s f (record { envelope = m.envelope; places = m.places }) m.places.payload) P.2 (subst (λ (k : ℕ). Same s f H.0 k) (sym q.ends) q)

pub flags_of : (sizes s : List ℕ) (m : NetworkMessage) (next : ℕ) → network_message_at sizes s ≡ got m next → (f : Flags) × (n : ℕ) × (flags_at s 0 ≡ got f n)
    × (envelope_body_at f sizes s n ≡ got m next)
flags_of sizes s m next h = go (ltb 65535 (length s)) h
  where
    go : (t : Bool) → cond t (refused 10 0) ((flags_at >>= λ f. envelope_body_at f sizes) s 0) ≡ got m next → (f : Flags) × (n : ℕ) × (flags_at s 0 ≡ got f n)
        × (envelope_body_at f sizes s n ≡ got m next)
    go true q = absurd (not_got q)
    go false q = invert (flags_at s 0) (λ f n. envelope_body_at f sizes s n) q

-- An accepted datagram, its parts taken as read, is written again as documents 01 and 02 say: the same bytes, but for the type bits of an
-- absent PublisherId and for PicoSeconds of 10,000 or more.
pub rewrite_read : (sizes s : List ℕ) (m : NetworkMessage) (next : ℕ) → Bytes s → network_message_at sizes s ≡ got m next → again_of s m.envelope m.places ≡ rewritten m s
rewrite_read sizes s m next b h =
    let f = flags_of sizes s m next h in
    let r = body_same sizes s f.0 f.1 m next b f.2 f.3 in
    r.again ∙ flags_cleared s f.0 f.1 f.2 r.rest ∙ ap type_cleared (sym r.held)

-- Its PicoSeconds are held by storing them, as they were read, where they stand.
pub picoseconds_stored : (sizes s : List ℕ) (m : NetworkMessage) (next : ℕ) → Bytes s → network_message_at sizes s ≡ got m next
    → (sets s (picoseconds_place m.envelope m.places) (optional16_bytes m.envelope.picoseconds) ≡ envelope_held m.envelope m.places s)
    × (picoseconds_place m.envelope m.places + length (optional16_bytes m.envelope.picoseconds) ≤ length s)
picoseconds_stored sizes s m next b h =
    let f = flags_of sizes s m next h in
    let r = body_same sizes s f.0 f.1 m next b f.2 f.3 in
    (r.stored, r.room)

-- of any accepted bytes they are below 10,000
pub accepted_picoseconds : (sizes s : List ℕ) (m : NetworkMessage) (next : ℕ) → network_message_at sizes s ≡ got m next → picoseconds_refusal m.envelope.picoseconds ≡ 0
accepted_picoseconds sizes s m next h =
    let f = flags_of sizes s m next h in
    let H = invert (envelope_at f.0 (length (configured_sizes sizes)) s f.1) (λ h k. _) f.3 in
    let P = map_back (payload_at H.0.envelope.chunk H.0.envelope.payload_header sizes)
    (λ p. record { envelope = H.0.envelope; places = H.0.places; payload = p }) s H.1 m next H.3 in
    let I = invert (identity_at f.0 s f.1) (λ i k. _) H.2 in
    let Pl = invert (payload_header_at f.0.payload_header f.0.chunk f.0.probe s I.1) (λ p k. _) I.3 in
    let T = invert (times_at f.0 (messages_of f.0.chunk Pl.0 (length (configured_sizes sizes))) s Pl.1) (λ t k. _) Pl.3 in
    let t = times_of f.0 (messages_of f.0.chunk Pl.0 (length (configured_sizes sizes))) s Pl.1 T.0 T.1 T.2 in
    let k = picoseconds_kept f.0.picoseconds s t.0 T.0.picoseconds t.1 t.3 in
    subst (λ (m : NetworkMessage). picoseconds_refusal m.envelope.picoseconds ≡ 0) P.2 (subst (λ (K : Header). picoseconds_refusal K.envelope.picoseconds ≡ 0) (got_value T.3) k)

-- Where PublisherId is on, nothing but the PicoSeconds can differ.
rewrite_same : (sizes s : List ℕ) (m : NetworkMessage) (next : ℕ) (f : Flags) (n : ℕ) → Bytes s → flags_at s 0 ≡ got f n → envelope_body_at f sizes s n ≡ got m next → f.publisher ≡ true
    → rewritten m s ≡ envelope_held m.envelope m.places s
rewrite_same sizes s m next f n b hf h on =
    let r = body_same sizes s f n m next b hf h in
    let z : rewritten_flags f ≡ f =
    ap (λ (t : Bool). record {
      publisher = f.publisher;
      group = f.group;
      payload_header = f.payload_header;
      kind = cond t f.kind 0;
      class_id = f.class_id;
      timestamp = f.timestamp;
      picoseconds =
          f.picoseconds;
      chunk = f.chunk;
      promoted = f.promoted;
      probe = f.probe;
    }) on in
    ap type_cleared r.held ∙ sym (flags_cleared s f n hf r.rest) ∙ ap (λ (x : Flags). flag_bytes x ++ r.rest) z ∙ sym r.held

publisher_flag : (on : Bool) (kind : ℕ) (s : List ℕ) (at : ℕ) (p : PublisherId) (next : ℕ) → publisher_at on kind s at ≡ got p next → publisher_on p ≡ true → on ≡ true
publisher_flag true kind s at p next h e = refl
publisher_flag false kind s at p next h e = ap publisher_on (got_value h) ∙ e

header_flag : (configured : ℕ) (s : List ℕ) (f : Flags) (n : ℕ) (L : Header) (next : ℕ) → envelope_at f configured s n ≡ got L next → publisher_on L.envelope.publisher ≡ true → f.publisher ≡ true
header_flag configured s f n L next h =
    let I = invert (identity_at f s n) (λ i k. _) h in
    let Pl = invert (payload_header_at f.payload_header f.chunk f.probe s I.1) (λ p k. _) I.3 in
    let T = invert (times_at f (messages_of f.chunk Pl.0 configured) s Pl.1) (λ t k. _) Pl.3 in
    let i = identity_of_lem f s n I.0 I.1 I.2 in
    subst (λ (K : Header). publisher_on K.envelope.publisher ≡ true → f.publisher ≡ true) (got_value T.3)
    (publisher_flag f.publisher f.kind s n I.0.publisher I.0.publisher_end i.0)

pub same_with_publisher : (sizes s : List ℕ) (m : NetworkMessage) (next : ℕ) → Bytes s → network_message_at sizes s ≡ got m next → publisher_on m.envelope.publisher ≡ true
    → rewritten m s ≡ envelope_held m.envelope m.places s
same_with_publisher sizes s m next b h on =
    let f = flags_of sizes s m next h in
    let H = invert (envelope_at f.0 (length (configured_sizes sizes)) s f.1) (λ h k. _) f.3 in
    let P = map_back (payload_at H.0.envelope.chunk H.0.envelope.payload_header sizes)
    (λ p. record { envelope = H.0.envelope; places = H.0.places; payload = p }) s H.1 m next H.3 in
    let e : publisher_on H.0.envelope.publisher ≡ true = ap (λ (m : NetworkMessage). publisher_on m.envelope.publisher) P.2 ∙ on in
    rewrite_same sizes s m next f.0 f.1 b f.2 f.3 (header_flag (length (configured_sizes sizes)) s f.0 f.1 H.0 H.1 H.2 e)

-- rewriting makes no datagram longer
pub rewritten_shorter : (m : NetworkMessage) (s : List ℕ) → length (rewritten m s) ≤ length s
rewritten_shorter m s =
    let x = m.envelope in
    omega (arith, cleared_shorter (envelope_held x m.places s), held_length x.picoseconds (picoseconds_place x m.places) s)
