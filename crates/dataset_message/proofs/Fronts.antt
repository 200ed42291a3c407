-- A message is its front, and from the cursor before its first field on its fields and padding.
-- Assumes nothing.
use Prim.Native.Nat.{ℕ}
use mathlib.Core.Path.{◌≡◌, refl, sym, ap}
use mathlib.Core.List.{List}
use native.Mathlib.Omega.{arith}
use Rattle.wire.specs.Answer.{Answer, got, refused, and_then}
use Rattle.wire.proofs.Reading.{got_value, not_got}
use Rattle.dataset_header.specs.Flags.{Valid, not_valid, valid, is_delta, is_raw}
use Rattle.dataset_header.specs.Header.{message_header_at}
use Rattle.dataset_header.specs.declared.header.Header.{Header}
use Rattle.dataset_message.specs.Message.{Message, count_at, end_at, opened_at, after_header_by, message_at, front_at}

-- what follows a front
abbrev pub rest_at : Valid Message → List ℕ → List ℕ → Answer (Valid Message)
rest_at not_valid types s = got not_valid 0
rest_at (valid m) types s = end_at m.header m.cursor types s

module _ (types s : List ℕ) where
  body_front : (h : Header) (x : Answer ℕ)
      → and_then x (λ n first. end_at h (record { encoding = h.encoding; delta = is_delta h.kind; next = 0; count = n; at = first }) types s)
      ≡ and_then (and_then x (λ n first. opened_at h (record { encoding = h.encoding; delta = is_delta h.kind; next = 0; count = n; at = first }) types s))
      (λ v _. rest_at v types s)
  body_front h (got n first) = refl
  body_front h (refused n place) = refl

  header_front : (x : Answer (Valid Header))
      → and_then x (λ h at. after_header_by end_at h types s at) ≡ and_then (and_then x (λ h at. after_header_by opened_at h types s at)) (λ v _. rest_at v types s)
  header_front (got not_valid at) = refl
  header_front (got (valid h) at) = body_front h (count_at h.kind (is_raw h.encoding) types s at)
  header_front (refused n place) = refl

  pub front_then : message_at types s ≡ and_then (front_at types s) (λ v _. rest_at v types s)
  front_then = header_front (message_header_at s 0)

  -- so what its front answers is the message's answer, or where that goes on
  pub front_decides : (a : Answer (Valid Message)) → a ≡ front_at types s → message_at types s ≡ and_then a (λ v _. rest_at v types s)
  front_decides a q = rw q front_then

  -- the cursor of a front is before the first field
  opened_first : (h : Header) (x : Answer ℕ) (m : Message) (n : ℕ)
      → and_then x (λ k first. opened_at h (record { encoding = h.encoding; delta = is_delta h.kind; next = 0; count = k; at = first }) types s) ≡ got (valid m) n → m.cursor.next ≡ 0
  opened_first h (got k first) m n q =
      let v : valid (record { header = h; cursor = record { encoding = h.encoding; delta = is_delta h.kind; next = 0; count = k; at = first }; end = first }) ≡ valid m = got_value q in
      let e : ◌≡◌ {A = Message} (record { header = h; cursor = record { encoding = h.encoding; delta = is_delta h.kind; next = 0; count = k; at = first }; end = first }) m = cc in
      sym (ap (λ (y : Message). y.cursor.next) e)
  opened_first h (refused k place) m n q = absurd (not_got q)

  header_first : (x : Answer (Valid Header)) (m : Message) (n : ℕ) → and_then x (λ h at. after_header_by opened_at h types s at) ≡ got (valid m) n → m.cursor.next ≡ 0
  header_first (got not_valid at) m n q =
      let v : ◌≡◌ {A = Valid Message} not_valid (valid m) = got_value q in
      let z : ◌≡◌ {A = ℕ} 0 1 = cc in
      absurd (omega arith)
  header_first (got (valid h) at) m n q = opened_first h (count_at h.kind (is_raw h.encoding) types s at) m n q
  header_first (refused k place) m n q = absurd (not_got q)

  pub front_first : (m : Message) (n : ℕ) → got (valid m) n ≡ front_at types s → m.cursor.next ≡ 0
  front_first m n q = header_first (message_header_at s 0) m n (sym q)
