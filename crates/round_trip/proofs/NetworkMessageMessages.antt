-- The messages of a payload that was written stand in it one after the other, each with the length that was given.
-- Assumes nothing.
use mathlib.Core.Path.{◌≡◌, refl, ap, sym, ◌∙◌}
use mathlib.Core.List.{List, [], ◌∷◌, ◌++◌}
use mathlib.Core.Bool.{Bool, true, false, cond}
use Prim.Native.Nat.{ℕ, zero, suc, ◌+◌, ◌*◌, ◌-◌, ◌≤◌, ◌<◌}
use native.Mathlib.Omega.{arith}
use lib.ListN.{length, get_or, take, length-append}
use lib.Dec.{eqb, leb, ltb}
use borrow.Author.Tests.{le-leb, leb-true, eqb-true, ltb-true}
use Rattle.wire.specs.Lists.{total}
use Rattle.wire.specs.Number.{le}
use Rattle.wire.specs.Answer.{item}
use Rattle.wire.proofs.Facts.{and_left, and_right}
use Rattle.network_header.specs.declared.header.PayloadHeader.{PayloadHeader}
use Rattle.network_message.specs.declared.payload.Sizes.{Sizes}
use Rattle.network_message.specs.Payload.{all_positive, listed, messages_from, rest_only_at, value_or0, OfMessages}
use Rattle.network_header.specs.Numbers.{configured_sizes, agree, same_numbers}
use Rattle.network_message.proofs.Messages.{Tiles}
use Rattle.network_message.proofs.Accepted.{length_listed, listed_at_lem, positive_at}
use Rattle.wire_writer.proofs.Refusals.{held}
use Rattle.wire_writer.specs.Writing.{unused}
use Rattle.network_message.specs.WriterPayload.{listed_refusal, list_bytes, refusal_number, payload_refusal, lengths_shape}
use Rattle.network_message.specs.Writer.{GivenDatagram}
use Rattle.round_trip.specs.NetworkMessage.{payload_for, given_lengths}
use Rattle.round_trip.proofs.NetworkMessagePayload.{Counted, unchunked, listed_at_start, Listed, listed_facts, some_message, Configured, absent_facts}

-- one message, which takes the rest
one_tiles : (sizes s messages : List ℕ) (at : ℕ) → at + length messages ≡ length s → 0 < length messages → Tiles (messages_from 1 Sizes.Rest at) sizes s (length messages ∷ [])
one_tiles sizes s messages at e h = record { many = refl; whole = omega arith; some = byte; here = only }
  where
    byte : (k : ℕ) → k < 1 → 0 < get_or (length messages ∷ []) k 0
    byte zero l = h
    byte (suc k) l = absurd (omega arith)

    only : (k : ℕ) → k < 1 → length s - (at + total (take k (length messages ∷ []))) ≡ get_or (length messages ∷ []) k 0
    only zero l = omega arith
    only (suc k) l = absurd (omega arith)

-- one message of a configured size
single : (zs : List ℕ) → length zs ≡ 1 → get_or zs 0 0 ≡ total zs
single [] e = refl
single (z ∷ []) e = omega arith
single (z ∷ y ∷ zs) e = absurd (omega arith)

sized_tiles : (sizes s messages : List ℕ) (at : ℕ) → at + length messages ≡ length s → 0 < length messages → length (configured_sizes sizes) ≡ 1
    → total (configured_sizes sizes) ≡ length messages → Tiles (messages_from (length (configured_sizes sizes)) Sizes.Configured at) sizes s (length messages ∷ [])
sized_tiles sizes s messages at e h o t = record { many = sym o; whole = omega arith; some = byte; here = only }
  where
    byte : (k : ℕ) → k < 1 → 0 < get_or (length messages ∷ []) k 0
    byte zero l = h
    byte (suc k) l = absurd (omega arith)

    only : (k : ℕ) → k < 1 → get_or (configured_sizes sizes) k 0 ≡ get_or (length messages ∷ []) k 0
    only zero l = single (configured_sizes sizes) o ∙ t
    only (suc k) l = absurd (omega arith)

positive_total : (zs : List ℕ) → all_positive zs ≡ true → (length zs ≡ 0 → ⊥) → 0 < total zs
positive_total [] e h = absurd (h refl)
positive_total (x ∷ zs) e h = let l : 0 < x = ltb-true 0 x (and_left (ltb 0 x) (all_positive zs) e) in omega arith

-- several of configured sizes
agree_listed : (xs bytes : List ℕ) (at : ℕ) → agree xs bytes at ≡ true → listed (length xs) bytes at ≡ xs
agree_listed [] bytes at e = refl
agree_listed (x ∷ xs) bytes at e =
    rw (eqb-true (le 2 bytes at) x (and_left (eqb (le 2 bytes at) x) (agree xs bytes (at + 2)) e), agree_listed xs bytes (at + 2) (and_right (eqb (le 2 bytes at) x) (agree xs bytes (at + 2)) e))

pub same_listed : (bytes xs : List ℕ) → same_numbers bytes xs ≡ true → listed (length xs) bytes 0 ≡ xs
unfolding same_numbers
same_listed bytes xs h = agree_listed xs bytes 0 (and_right (eqb (length bytes) (2 * length xs)) (agree xs bytes 0) h)

configured_tiles : (sizes s : List ℕ) (at : ℕ) → all_positive (configured_sizes sizes) ≡ true → at + total (configured_sizes sizes) ≡ length s
    → Tiles (messages_from (length (configured_sizes sizes)) Sizes.Configured at) sizes s (configured_sizes sizes)
configured_tiles sizes s at p w = record { many = refl; whole = w; some = positive_at (configured_sizes sizes) p; here = λ k h. refl }

absent_tiles : (sizes s lengths messages : List ℕ) (at : ℕ) → at + length messages ≡ length s → Configured (configured_sizes sizes) messages → lengths_shape PayloadHeader.Absent lengths sizes ≡ 0
    → Tiles (cond (all_positive (configured_sizes sizes)) (messages_from (length (configured_sizes sizes)) Sizes.Configured at) (messages_from 1 Sizes.Rest at)) sizes s
    (cond (leb (length (configured_sizes sizes)) 1) (length messages ∷ []) (listed (length (configured_sizes sizes)) lengths 0))
absent_tiles sizes s lengths messages at e (Configured.all p n t) h =
    rw p (go (leb (length (configured_sizes sizes)) 1) refl h)
  where
    go : (b : Bool) → leb (length (configured_sizes sizes)) 1 ≡ b → cond b (unused (length lengths)) (cond (same_numbers lengths (configured_sizes sizes)) 0 6) ≡ 0
        → Tiles (messages_from (length (configured_sizes sizes)) Sizes.Configured at) sizes s (cond b (length messages ∷ []) (listed (length (configured_sizes sizes)) lengths 0))
    go true f q =
        let l : length (configured_sizes sizes) ≤ 1 = leb-true (length (configured_sizes sizes)) 1 f in
        let o : length (configured_sizes sizes) ≡ 1 = omega (arith, n) in
        sized_tiles sizes s messages at e (omega (arith, positive_total (configured_sizes sizes) p n)) o t
    go false f q =
        rw (same_listed lengths (configured_sizes sizes) (held (same_numbers lengths (configured_sizes sizes)) 5 q))
        (configured_tiles sizes s at p (omega arith))
absent_tiles sizes s lengths messages at e (Configured.one p n q) h = rw (p, n) (one_tiles sizes s messages at e (some_message messages q))

many_tiles : (sizes pre lengths messages : List ℕ) (n at : ℕ) → length pre ≡ at → Listed n lengths (length messages)
    → Tiles (messages_from n (Sizes.Listed at) (at + 2 * n)) sizes (pre ++ (lengths ++ messages)) (listed n lengths 0)
many_tiles sizes pre lengths messages n at e f = record { many = length_listed n lengths 0; whole = whole; some = positive_at (listed n lengths 0) f.each; here = each }
  where
    s : List ℕ
    s = pre ++ (lengths ++ messages)

    l : length (pre ++ (lengths ++ messages)) ≡ at + (2 * n + length messages)
    l = omega (arith, length-append pre (lengths ++ messages), length-append lengths messages, f.long)

    whole : at + 2 * n + total (listed n lengths 0) ≡ length (pre ++ (lengths ++ messages))
    whole = omega (arith, l, f.sum)

    each : (k : ℕ) → k < length (listed n lengths 0) → value_or0 (item 2 (pre ++ (lengths ++ messages)) (at + 2 * k)) ≡ get_or (listed n lengths 0) k 0
    each k h =
        let j : k < n = omega (arith, length_listed n lengths 0) in
        let r : at + 2 * k + 2 ≤ length (pre ++ (lengths ++ messages)) = omega (arith, l) in
        let z : listed n (pre ++ (lengths ++ messages)) at ≡ listed n lengths 0 = listed_at_start n pre lengths messages at e (omega (arith, f.long)) in
        rw (le-leb (at + 2 * k + 2) (length (pre ++ (lengths ++ messages))) r) (sym (listed_at_lem n (pre ++ (lengths ++ messages)) at k j) ∙ ap (λ (xs : List ℕ). get_or xs k 0) z)

pub tiles : (x : PayloadHeader) → OfMessages x → (chunk : Bool) (sizes pre : List ℕ) (g : GivenDatagram) (m : ℕ) → length pre ≡ m
    → Counted chunk x → payload_refusal chunk x sizes g.lengths g.messages ≡ 0 → lengths_shape x g.lengths sizes ≡ 0
    → Tiles (payload_for x sizes m) sizes (pre ++ (list_bytes x g.lengths ++ g.messages)) (given_lengths g x sizes)
tiles PayloadHeader.Absent o chunk sizes pre g m e c h q =
    absent_tiles sizes (pre ++ g.messages) g.lengths g.messages m (omega (arith, length-append pre g.messages)) (absent_facts chunk sizes g.messages h).1 q
tiles (PayloadHeader.Ids n) o chunk sizes pre g m e c h q = go (leb n 1) (unchunked chunk _ c.0 h)
  where
    go : (b : Bool) → cond b (refusal_number (rest_only_at g.messages 0)) (listed_refusal n g.lengths (length g.messages)) ≡ 0
        → Tiles (cond b (messages_from 1 Sizes.Rest m) (messages_from n (Sizes.Listed m) (m + 2 * n))) sizes
        (pre ++ (cond b [] g.lengths ++ g.messages)) (cond b (length g.messages ∷ []) (listed n g.lengths 0))
    go true r = one_tiles sizes (pre ++ g.messages) g.messages m (omega (arith, length-append pre g.messages)) (some_message g.messages r)
    go false r = many_tiles sizes pre g.lengths g.messages n m e (listed_facts n g.lengths (length g.messages) r)
tiles (PayloadHeader.Chunk w) o chunk sizes pre g m e c h q = absurd o
tiles PayloadHeader.Probe o chunk sizes pre g m e c h q = absurd o

-- the first message stands after the list of sizes, where there is one
pub first_is : (x : PayloadHeader) (chunk : Bool) (sizes lengths messages : List ℕ) (m : ℕ) → Counted chunk x → payload_refusal chunk x sizes lengths messages ≡ 0
    → (payload_for x sizes m).first ≡ m + length (list_bytes x lengths)
first_is PayloadHeader.Absent chunk sizes lengths messages m c h = go (all_positive (configured_sizes sizes))
  where
    go : (b : Bool) → (cond b (messages_from (length (configured_sizes sizes)) Sizes.Configured m) (messages_from 1 Sizes.Rest m)).first ≡ m + 0
    go true = omega arith
    go false = omega arith
first_is (PayloadHeader.Ids n) chunk sizes lengths messages m c h = go (leb n 1) (unchunked chunk _ c.0 h)
  where
    go : (b : Bool) → cond b (refusal_number (rest_only_at messages 0)) (listed_refusal n lengths (length messages)) ≡ 0
        → (cond b (messages_from 1 Sizes.Rest m) (messages_from n (Sizes.Listed m) (m + 2 * n))).first ≡ m + length (cond b [] lengths)
    go true q = omega arith
    go false q = omega (arith, (listed_facts n lengths (length messages) q).long)
first_is (PayloadHeader.Chunk w) chunk sizes lengths messages m c h = omega arith
first_is PayloadHeader.Probe chunk sizes lengths messages m c h = omega arith
