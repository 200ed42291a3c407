-- Bytes laid one part after the other, as the loops over a text, over repetitions and over a word's items do.
-- Assumes nothing.
use Rattle.std.specs.Prelude.{Option, Some, None}
use mathlib.Core.Path.{◌≡◌, refl, sym, subst, ap, ◌∙◌}
use mathlib.Core.List.{List, [], ◌∷◌, ◌++◌, append_assoc, append-nil}
use Prim.Native.Nat.{ℕ, zero, suc, ◌+◌, ◌-◌, ◌%◌, ◌≤◌, ◌<◌}
use native.Mathlib.Omega.{arith}
use borrow.Author.Tests.{lt-ltb, le-ltb}
use lib.ListN.{length, drop, get_or, length-append}
use lib.Seq.{sets}
use Rattle.wire.specs.Number.{le_bytes}
use Rattle.wire_writer.specs.Store.{Stored}
use Rattle.wire_writer.specs.Writing.{Puts}
use Rattle.wire_writer.proofs.Parts.{puts_as}
use Rattle.wire_writer.proofs.Putting.{puts, then, nothing}
use Rattle.text.specs.Words.{up_to}
use Rattle.text.specs.Hex.{hex_of, next_of, buffer_of, hex_next, hex_after}
use Rattle.vector_lines.specs.Items.{after_item}
use Rattle.vector_lines.specs.Bytes.{plain_byte, plain_text, hex_or, times, item_bytes, word_from, word_bytes}

-- a position is no refusal
apart : {p : ℕ} → Some p ≡ None → ⊥
apart e = let z : ◌≡◌ {A = ℕ} 0 1 = cc in omega arith

-- of the bytes `whole`, `rest` is still to be laid
abbrev pub Laid : List ℕ → List ℕ → List ℕ → ℕ → List ℕ → ℕ → Type 0
Laid whole rest entry at out next = (done : List ℕ) × (whole ≡ done ++ rest) × Puts done entry at out next

pub laid_none : (whole entry : List ℕ) (at : ℕ) → Laid whole whole entry at entry at
laid_none whole entry at = ([], refl, nothing entry at)

pub laid_more : {whole rest b entry mid exit : List ℕ} {at n next : ℕ} → Laid whole (b ++ rest) entry at mid n → Puts b mid n exit next → Laid whole rest entry at exit next
laid_more {rest = rest} {b = b} (done, e, p) q = (done ++ b, e ∙ sym (append_assoc done b rest), then p q)

pub laid_all : {whole entry out : List ℕ} {at next : ℕ} → Laid whole [] entry at out next → Puts whole entry at out next
laid_all (done, e, p) = puts_as (sym (e ∙ append-nil done)) p

-- the same with other words for the rest
pub laid_as : {whole rest rest' entry out : List ℕ} {at next : ℕ} → rest ≡ rest' → Laid whole rest entry at out next → Laid whole rest' entry at out next
laid_as {whole} {entry = entry} {out = out} {at = at} {next = next} e l = subst (λ (r : List ℕ). Laid whole r entry at out next) e l

-- a text from an index on
pub text_turn : (s : List ℕ) (i : ℕ) → i < length s → plain_text (drop i s) ≡ (plain_byte (get_or s i 0) ∷ []) ++ plain_text (drop (i + 1) s)
text_turn [] i h = absurd (omega arith)
text_turn (x ∷ xs) zero h = refl
text_turn (x ∷ xs) (suc i) h = let e : suc i + 1 ≡ suc (i + 1) = omega arith in rw e (text_turn xs i (omega arith))

pub text_ends : (s : List ℕ) (i : ℕ) → length s ≤ i → plain_text (drop i s) ≡ []
text_ends [] zero h = refl
text_ends [] (suc i) h = refl
text_ends (x ∷ xs) zero h = absurd (omega arith)
text_ends (x ∷ xs) (suc i) h = text_ends xs i (omega arith)

-- repetitions
pub times_turn : (n k : ℕ) (b : List ℕ) → k < n → times (n - k) b ≡ b ++ times (n - (k + 1)) b
times_turn n k b h = let e : n - k ≡ suc (n - (k + 1)) = omega arith in rw e

pub times_ends : (n : ℕ) (b : List ℕ) → n ≤ 0 → times n b ≡ []
times_ends zero b h = refl
times_ends (suc n) b h = absurd (omega arith)

times_none : (n : ℕ) → times n [] ≡ []
times_none zero = refl
times_none (suc n) = times_none n

-- a word's items: so many suffice
module _ (s : List ℕ) where
  word_turn : (n at : ℕ) → at < length s → length s - at ≤ n → word_from n s at ≡ item_bytes (up_to 44 (drop at s)) ++ word_from (n - 1) s (after_item 44 s at)
  word_turn zero at h l = absurd (omega arith)
  word_turn (suc n) at h l = let e : suc n - 1 ≡ n = omega arith in rw (lt-ltb at (length s) h, e)

  -- so many items suffice for what is still to be laid
  abbrev pub WordLeft : List ℕ → ℕ → List ℕ → ℕ → ℕ → Type 0
  WordLeft entry start out next at = (n : ℕ) × (length s - at ≤ n) × Laid (word_bytes s) (word_from n s at) entry start out next

  pub word_begin : (entry : List ℕ) (start : ℕ) → WordLeft entry start entry start 0
  word_begin entry start = (length s, omega arith, laid_none (word_bytes s) entry start)

  pub word_again : {entry mid exit item : List ℕ} {start n next at after : ℕ} → WordLeft entry start mid n at → at < length s → item ≡ up_to 44 (drop at s)
      → Puts (item_bytes item) mid n exit next → after ≡ after_item 44 s at → length s - after ≤ length s - at - 1 → WordLeft entry start exit next after
  word_again {item = item} {at = at} (k, l, laid) h e p a d =
      let rest : word_from k s at ≡ item_bytes item ++ word_from (k - 1) s (after_item 44 s at) = rw (e) (word_turn k at h l) in
      (k - 1, omega arith, laid_as (ap (word_from (k - 1) s) (sym a)) (laid_more (laid_as rest laid) p))

  word_ends : (n at : ℕ) → length s ≤ at → word_from n s at ≡ []
  word_ends zero at h = refl
  word_ends (suc n) at h = rw (le-ltb at (length s) h)

  pub word_done : {entry out : List ℕ} {start next at : ℕ} → WordLeft entry start out next at → length s ≤ at → Puts (word_bytes s) entry start out next
  word_done {at = at} (n, l, laid) h = laid_all (laid_as (word_ends n at h) laid)

-- a text's byte
pub byte_put : (b : ℕ) {v : ℕ} {entry exit : List ℕ} {at next : ℕ} → v ≡ plain_byte b → v < 256 → Stored (le_bytes 1 v) entry at exit next → Puts (plain_byte b ∷ []) entry at exit next
byte_put b {v} e h x = let m : v % 256 ≡ v = omega arith in puts_as (ap (λ (k : ℕ). k ∷ []) (m ∙ e)) (puts x)

-- hex digits, or none where they are no hex
module _ (l : List ℕ) (at : ℕ) (s : List ℕ) where
  pub hex_put : {m : List ℕ} {end : ℕ} → Some end ≡ hex_next l at s → m ≡ hex_after l at s → Puts (hex_or (hex_of s)) l at m end
  hex_put {m} {end} = go (hex_of s)
    where
      go : (x : Option (List ℕ)) → Some end ≡ next_of l at x → m ≡ buffer_of l at x → Puts (hex_or x) l at m end
      go (Some b) e f = puts (record { stored = f; after = ap place e })
        where
          place : Option ℕ → ℕ
          place (Some p) = p
          place None = 0
      go None e f = absurd (apart e)

  pub hex_none : {m : List ℕ} → None ≡ hex_next l at s → m ≡ hex_after l at s → (hex_or (hex_of s) ≡ []) × (m ≡ l)
  hex_none {m} = go (hex_of s)
    where
      go : (x : Option (List ℕ)) → None ≡ next_of l at x → m ≡ buffer_of l at x → (hex_or x ≡ []) × (m ≡ l)
      go (Some b) e f = absurd (apart (sym e))
      go None e f = (refl, f)

-- nothing laid so far, and nothing to be laid
pub none_laid : (n left : ℕ) (b : List ℕ) {entry mid exit : List ℕ} {at next : ℕ} → b ≡ [] → exit ≡ mid → Laid (times n b) (times left b) entry at mid next → Puts (times n b) entry at exit at
none_laid n left b {entry} {mid} {exit} {at} e f (done, q, p) =
    let nil : times n b ≡ [] = ap (times n) e ∙ times_none n in
    let z : length done ≡ 0 = omega (arith, ap length (sym q ∙ nil), length-append done (times left b)) in
    puts_as (sym nil) (record { stored = λ h. f ∙ p.stored (omega (arith, h, z)) ∙ ap (sets entry at) (empty done z); after = λ h. omega arith })
  where
    empty : (l : List ℕ) → length l ≡ 0 → l ≡ []
    empty [] h = refl
    empty (x ∷ xs) h = absurd (omega (arith, h))
