-- The text of a listing, line by line.
-- Assumes nothing.
use Rattle.std.specs.Prelude.{Option, Some, None, Result, Ok, Err}
use Rattle.std.specs.Result.{result_unwrap_or}
use Prim.Native.Nat.{ℕ, ◌+◌, ◌-◌, ◌≤◌, ◌<◌}
use mathlib.Core.Path.{◌≡◌, refl, sym, ap, ◌∙◌}
use mathlib.Core.Bool.{Bool, true, false}
use mathlib.Core.List.{List, [], ◌++◌}
use native.Mathlib.Omega.{arith}
use borrow.Author.Tests.{lt-ltb, le-ltb, ltb-false}
use lib.Dec.{ltb}
use lib.ListN.{length, take, drop, length-append}
use lib.Seq.{sets, take_at}
use Rattle.wire_writer.proofs.Putting.{front}
use Rattle.wire.specs.declared.refusal.Reason.{Reason}
use Rattle.listing.specs.Line.{too_long, line_text, line_refusal, line_put, line_after, put_length}
use Rattle.walk.specs.Lines.{Writers, lines_from, step_lines, next_line, start_cursor, listing_of}
use Rattle.walk.specs.declared.entry.Line.{Line}
use Rattle.walk.specs.declared.lines.LineCursor.{LineCursor}
use Rattle.walk.proofs.Listing.{start_lists, step_lists}
use Rattle.listing.specs.Text.{line_out, lines_text, length_in, text_written, text_after}

-- the bytes at the start of a buffer that holds them
pub first_part : (t l : List ℕ) → length t ≤ length l → take (length t) (sets l 0 t) ≡ t
first_part t l h = ap (take (length t)) (front t l h) ∙ take_at t (drop (length t) l) (length t) refl

-- what a line put into 256 bytes says
module _ (l d e : List ℕ) (x : Line) (t : Result ℕ Reason) (k : length l ≡ 256) (a : t ≡ line_put l d x) (b : e ≡ line_after l d x) where
  pub line_put_lem : (n : ℕ) → t ≡ Ok n → n ≤ 256 → (n ≡ length (line_out d x)) × (e ≡ sets l 0 (line_out d x)) × (n ≤ 256)
  unfolding line_refusal
  line_put_lem n q h = go (too_long x) refl
    where
      go : (y : Bool) → too_long x ≡ y → (n ≡ length (line_out d x)) × (e ≡ sets l 0 (line_out d x)) × (n ≤ 256)
      go true z = let p : ◌≡◌ {A = Result ℕ Reason} (Ok n) (Err Reason.OverLimit) = sym q ∙ a ∙ rw z in let w : ◌≡◌ {A = ℕ} 0 1 = cc in absurd (omega arith)
      go false z =
          let f = le-ltb (length l) 256 (omega arith) in
          let p : ◌≡◌ {A = Result ℕ Reason} (Ok n) (Ok (length (line_text d x))) = sym q ∙ a ∙ rw (z, f) in
          let m : n ≡ length (line_text d x) = cc in
          let s : e ≡ sets l 0 (line_text d x) = b ∙ rw (z, f) in
          rw z (m, s, h)

  pub line_none : (n : Reason) → t ≡ Err n → (0 ≡ length (line_out d x)) × (e ≡ sets l 0 (line_out d x)) × (0 ≤ 256)
  unfolding line_refusal
  line_none n q = go (too_long x) refl
    where
      go : (y : Bool) → too_long x ≡ y → (0 ≡ length (line_out d x)) × (e ≡ sets l 0 (line_out d x)) × (0 ≤ 256)
      go true z = let s : e ≡ l = b ∙ rw z in rw z (refl, s, omega arith)
      go false z =
          let f = le-ltb (length l) 256 (omega arith) in
          let p : ◌≡◌ {A = Result ℕ Reason} (Err n) (Ok (length (line_text d x))) = sym q ∙ a ∙ rw (z, f) in
          let w : ◌≡◌ {A = ℕ} 0 1 = cc in absurd (omega arith)

  pub line_told : (n : ℕ) → n ≡ result_unwrap_or t 0 → put_length t ≤ 256 → (n ≡ length (line_out d x)) × (e ≡ sets l 0 (line_out d x)) × (n ≤ 256)
  line_told n = go t refl
    where
      go : (r : Result ℕ Reason) → t ≡ r → n ≡ result_unwrap_or r 0 → put_length r ≤ 256 → (n ≡ length (line_out d x)) × (e ≡ sets l 0 (line_out d x)) × (n ≤ 256)
      go (Ok m) q u h = rw u (line_put_lem m q h)
      go (Err m) q u h = rw u (line_none m q)

-- the text of the lines that are left, by the step that was taken
module _ (w : Writers) (d : List ℕ) (c : LineCursor) (t : Option (Line × LineCursor)) (e : t ≡ next_line w d c) where
  lines : lines_from w d c ≡ step_lines w d t
  lines = sym (step_lists w d c) ∙ ap (step_lines w d) (sym e)

  pub text_none : t ≡ None → lines_text d (lines_from w d c) ≡ []
  text_none q = ap (lines_text d) (lines ∙ ap (step_lines w d) q)

  pub text_more : (x : Line) (n : LineCursor) → t ≡ Some (x, n) → lines_text d (lines_from w d c) ≡ line_out d x ++ lines_text d (lines_from w d n)
  text_more x n q = ap (lines_text d) (lines ∙ ap (step_lines w d) q)

  pub fewer_lines : (x : Line) (n : LineCursor) → t ≡ Some (x, n) → length (lines_from w d n) < length (lines_from w d c)
  fewer_lines x n q = omega (arith, ap length (lines ∙ ap (step_lines w d) q))

-- the answers
pub long_length : (room : ℕ) (t : List ℕ) → room < length t → None ≡ length_in room t
long_length room t h = rw (lt-ltb room (length t) h)

pub whole_length : (room n : ℕ) (t : List ℕ) → n ≤ room → n ≡ length t → Some n ≡ length_in room t
whole_length room n t h e = rw (le-ltb room (length t) (omega arith)) (ap (λ (k : ℕ). Some k) e)

pub no_room : (out t : List ℕ) → None ≡ length_in (length out) t → (Err Reason.NoRoom ≡ text_written out t) × (out ≡ text_after out t)
no_room out t q = go (ltb (length out) (length t)) refl
  where
    go : (b : Bool) → ltb (length out) (length t) ≡ b → (Err Reason.NoRoom ≡ text_written out t) × (out ≡ text_after out t)
    go true e = (rw e, rw e)
    go false e = let p : ◌≡◌ {A = Option ℕ} None (Some (length t)) = q ∙ rw e in let w : ◌≡◌ {A = ℕ} 0 1 = cc in absurd (omega arith)

pub room_length : (out t : List ℕ) (n : ℕ) → Some n ≡ length_in (length out) t → (n ≡ length t) × (length t ≤ length out)
room_length out t n q = go (ltb (length out) (length t)) refl
  where
    go : (b : Bool) → ltb (length out) (length t) ≡ b → (n ≡ length t) × (length t ≤ length out)
    go true e = let p : ◌≡◌ {A = Option ℕ} (Some n) None = q ∙ rw e in let w : ◌≡◌ {A = ℕ} 0 1 = cc in absurd (omega arith)
    go false e = let p : ◌≡◌ {A = Option ℕ} (Some n) (Some (length t)) = q ∙ rw e in let m : n ≡ length t = cc in (m, ltb-false (length out) (length t) e)

pub put_all : (out t e : List ℕ) (n : ℕ) → Some n ≡ length_in (length out) t → e ≡ sets out 0 t → (Ok n ≡ text_written out t) × (e ≡ text_after out t)
put_all out t e n q s =
    let r = room_length out t n q in
    let f = le-ltb (length out) (length t) r.1 in
    (rw f (ap (λ (k : ℕ). Ok k) r.0), rw f s)

-- the length so far, with that of what is left
module _ (t r u : List ℕ) (n total room all : ℕ) (k : n ≡ length t) (s : u ≡ t ++ r) (h : total ≤ room) (q : total + length u ≡ all) where
  both : length u ≡ n + length r
  both = ap length s ∙ length-append t r ∙ ap (λ (j : ℕ). j + length r) (sym k)

  pub longer : room - total < n → room < all
  longer l = omega (arith, both)

  pub counted : n ≤ room - total → (total + n ≤ room) × (total + n + length r ≡ all)
  counted l = (omega arith, omega (arith, both))

-- a listing's text from the cursor that it starts with
pub listing_text_lem : (w : Writers) (d : List ℕ) (number place : ℕ) (c : LineCursor) → c ≡ start_cursor number place w.sizes d
    → lines_text d (lines_from w d c) ≡ lines_text d (listing_of number place w d)
listing_text_lem w d number place c e = ap (λ (x : LineCursor). lines_text d (lines_from w d x)) e ∙ ap (lines_text d) (start_lists w d number place)
