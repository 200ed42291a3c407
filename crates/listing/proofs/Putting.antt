-- Laws of parts put one after the other.
-- Assumes nothing.
use Rattle.std.specs.Prelude.{Ok, Err}
use mathlib.Core.Path.{◌≡◌, ap, ◌∙◌}
use mathlib.Core.List.{List, [], ◌∷◌, ◌++◌}
use mathlib.Core.Bool.{true, false}
use Prim.Native.Nat.{ℕ, suc, ◌+◌, ◌/◌, ◌%◌, ◌≤◌, ◌<◌}
use native.Mathlib.Omega.{arith}
use native.Mathlib.Numerals.{add-one}
use borrow.Author.Tests.{le-leb, lt-ltb, le-ltb, ltb-false}
use lib.Dec.{leb}
use lib.ListN.{length, set, take, length-set, length-append, length-take}
use lib.Seq.{sets}
use Rattle.wire_writer.specs.Store.{Stored}
use Rattle.wire_writer.proofs.Stores.{sets_append}
use Rattle.text.specs.Decimal.{decimal_text}
use Rattle.text.proofs.Numerals.{decimal_more}
use Rattle.publisher_id.specs.declared.publisher.PublisherId.{PublisherId}
use Rattle.listing.specs.Columns.{tabbed, Put}
use Rattle.listing.specs.Line.{id_too_long, too_long, line_text, line_refusal, line_put, line_after}
use Rattle.walk.specs.declared.entry.Line.{Line}
use Rattle.wire.specs.declared.refusal.Reason.{Reason}

-- a text that was put where there is room for as many bytes as it may have
pub put_all : (k : ℕ) (t l m : List ℕ) (at next : ℕ) → length t ≤ k → at + k ≤ length l → Stored t l at m next → Put k t l at m next
put_all k t l m at next h r s =
    let f : at + length t ≤ length l = omega arith in
    let e : leb (at + length t) (length l) ≡ true = le-leb (at + length t) (length l) f in
    let v : m ≡ sets l at t = rw e at s.stored in
    let n : next ≡ at + length t = rw e at s.after in
    record { stored = v; after = n; near = omega arith }

-- a text after a tab
pub after_tab : (k : ℕ) (t l x m : List ℕ) (at next : ℕ) → x ≡ set l at 9 → Put k t x (at + 1) m next → Put (suc k) (tabbed t) l at m next
after_tab k t l x m at next e p =
    let v : m ≡ sets l at (tabbed t) = p.stored ∙ ap (λ (y : List ℕ). sets y (at + 1) t) e ∙ ap (λ (i : ℕ). sets (set l at 9) i t) (add-one at) in
    record { stored = v; after = omega (arith, p.after); near = omega (arith, p.near) }

pub put_tabbed : (k : ℕ) (t l x m : List ℕ) (at next : ℕ) → length t ≤ k → at + suc k ≤ length l → x ≡ set l at 9 → Stored t x (at + 1) m next → Put (suc k) (tabbed t) l at m next
put_tabbed k t l x m at next h r e s =
    let q : length x ≡ length l = ap length e ∙ length-set l at 9 in
    after_tab k t l x m at next e (put_all k t x m (at + 1) next h (omega arith) s)

-- a part after another
pub then : {j k at mid next : ℕ} {t u l m e : List ℕ} → Put j t l at m mid → Put k u m mid e next → Put (j + k) (t ++ u) l at e next
then {j} {k} {at} {mid} {next} {t} {u} {l} {m} {e} p q =
    let v : e ≡ sets l at (t ++ u) =
    q.stored ∙ ap (λ (x : List ℕ). sets x mid u) p.stored ∙ ap (λ (i : ℕ). sets (sets l at t) i u) p.after ∙ sets_append t u l at in
    record { stored = v; after = omega (arith, p.after, q.after, length-append t u); near = omega (arith, p.near, q.near) }

-- a part of fewer bytes than there is room for
pub fewer : {j k at next : ℕ} {t l e : List ℕ} → j ≤ k → Put j t l at e next → Put k t l at e next
fewer h p = record { stored = p.stored; after = p.after; near = omega (arith, p.near) }

-- a digit after those of the tenth
pub digit_more : {k at mid next : ℕ} {l m e : List ℕ} (n : ℕ) → 10 ≤ n → Put k (decimal_text (n / 10)) l at m mid → Put 1 ((48 + n % 10) ∷ []) m mid e next
    → Put (k + 1) (decimal_text n) l at e next
digit_more n h p q = rw (decimal_more n h) (then p q)

-- a string id that is not too long, as a part of the datagram
pub id_fits : {id : PublisherId} {n : ℕ} (p l : List ℕ) → id ≡ PublisherId.Text n → id_too_long id ≡ false → p ≡ take n l → length p ≤ 64
id_fits {id} {n} p l e t q =
    let h : n ≤ 64 = ltb-false 64 n (rw e at t) in
    rw (q, length-take) (omega arith)

-- the ways out of putting a line: a string id above 64 bytes, a buffer that is too short, and the line put
module _ (l d : List ℕ) (x : Line) where
  pub long : too_long x ≡ true → (Err Reason.OverLimit ≡ line_put l d x) × (l ≡ line_after l d x) × (0 ≤ 256)
  unfolding line_refusal
  long e = (rw e, rw e, omega arith)

  pub narrow : too_long x ≡ false → length l < 256 → (Err Reason.NoRoom ≡ line_put l d x) × (l ≡ line_after l d x) × (0 ≤ 256)
  unfolding line_refusal
  narrow e h = (rw (e, lt-ltb (length l) 256 h), rw (e, lt-ltb (length l) 256 h), omega arith)

  pub done : (e : List ℕ) (r : ℕ) → too_long x ≡ false → 256 ≤ length l → Put 256 (line_text d x) l 0 e r → (Ok r ≡ line_put l d x) × (e ≡ line_after l d x) × (r ≤ 256)
  unfolding line_refusal
  done e r t h p =
      let q : r ≡ length (line_text d x) = omega (arith, p.after) in
      (rw (t, le-ltb (length l) 256 h) (ap (λ (k : ℕ). Ok k) q), rw (t, le-ltb (length l) 256 h) p.stored, omega (arith, p.near))
