-- Lines in blocks: a line's text put from a position on, and as many lines as fit.
-- Assumes nothing.
use Rattle.std.specs.Prelude.{Option, Some, None}
use Prim.Native.Nat.{ℕ, zero, suc, ◌+◌, ◌-◌, ◌≤◌, ◌<◌}
use mathlib.Core.Path.{◌≡◌, refl, sym, ap, ◌∙◌}
use mathlib.Core.Bool.{Bool, true, false}
use mathlib.Core.List.{List, [], ◌∷◌, ◌++◌, append_assoc}
use lib.Dec.{ltb}
use native.Mathlib.Omega.{arith}
use native.Mathlib.Nat.{add-zero, zero-add, add-suc, suc-add}
use borrow.Author.Tests.{lt-ltb, le-ltb, le-leb, ltb-true, ltb-false}
use lib.ListN.{length, take, drop, set, length-append, length-set, length-drop, take-append-drop}
use lib.Seq.{sets, length-sets, length-take-le, set-append_left}
use Rattle.wire_writer.specs.Store.{laid}
use Rattle.wire_writer.proofs.Stores.{sets_append}
use Rattle.walk.specs.Lines.{Writers, lines_from, step_lines, next_line, cursor_after, after_step}
use Rattle.walk.specs.declared.entry.Line.{Line}
use Rattle.walk.specs.declared.lines.LineCursor.{LineCursor}
use Rattle.walk.proofs.Listing.{step_lists, lines_after}
use Rattle.listing.specs.Text.{line_out, lines_text, line_placed, placed_after, lines_fitting, block_text}
use Rattle.listing.proofs.Texts.{first_part, text_none, text_more}

-- ---- a part of a list, stored to
set_middle : (p m q : List ℕ) (i a : ℕ) → i < length m → p ++ (set m i a ++ q) ≡ set (p ++ (m ++ q)) (length p + i) a
set_middle [] m q i a h = sym (set-append_left m q i a h) ∙ ap (λ (k : ℕ). set (m ++ q) k a) (sym (zero-add i))
set_middle (x ∷ p) m q i a h =
    ap (λ (t : List ℕ). x ∷ t) (set_middle p m q i a h) ∙ ap (λ (k : ℕ). set (x ∷ (p ++ (m ++ q))) k a) (sym (suc-add (length p) i))

sets_middle : (t p m q : List ℕ) (i : ℕ) → i + length t ≤ length m → p ++ (sets m i t ++ q) ≡ sets (p ++ (m ++ q)) (length p + i) t
sets_middle [] p m q i h = refl
sets_middle (a ∷ t) p m q i h =
    sets_middle t p (set m i a) q (suc i) (omega (arith, length-set m i a))
    ∙ ap (λ (k : List ℕ). sets k (length p + suc i) t) (set_middle p m q i a (omega arith))
    ∙ ap (λ (k : ℕ). sets (set (p ++ (m ++ q)) (length p + i) a) k t) (add-suc (length p) i)

-- a text stored at the start of a part of n bytes, where it fits, is stored in the whole from where the part begins
part_stored : (l e t : List ℕ) (at n : ℕ) → at + n ≤ length l → length t ≤ n → e ≡ sets (take n (drop at l)) 0 t
    → take at l ++ (e ++ drop n (drop at l)) ≡ sets l at t
part_stored l e t at n h k q =
    let room : n ≤ length (drop at l) = omega (arith, length-drop at l) in
    let long : length (take n (drop at l)) ≡ n = length-take-le n (drop at l) room in
    let start : length (take at l) ≡ at = length-take-le at l (omega arith) in
    let place : length (take at l) + 0 ≡ at = add-zero (length (take at l)) ∙ start in
    ap (λ (x : List ℕ). take at l ++ (x ++ drop n (drop at l))) q
    ∙ sets_middle t (take at l) (take n (drop at l)) (drop n (drop at l)) 0 (omega (arith, long))
    ∙ ap (λ (x : List ℕ). sets (take at l ++ x) (length (take at l) + 0) t) (take-append-drop n (drop at l))
    ∙ ap (λ (x : List ℕ). sets x (length (take at l) + 0) t) (take-append-drop at l)
    ∙ ap (λ (x : ℕ). sets l x t) place

-- ---- a line's text from a position on
pub not_placed : (l t : List ℕ) (at n : ℕ) → n ≡ length t → length l - at < n → n ≤ 256 → (None ≡ line_placed l at t) × (l ≡ placed_after l at t) × (length t ≤ 256)
not_placed l t at n e h k = let f = lt-ltb (length l - at) (length t) (omega arith) in (rw f, rw f, omega arith)

pub placed : (l e t : List ℕ) (at n : ℕ) → n ≡ length t → n ≤ length l - at → n ≤ 256 → e ≡ sets l at t
    → (Some (at + n) ≡ line_placed l at t) × (e ≡ placed_after l at t) × (length t ≤ 256)
placed l e t at n k h m s =
    let f = le-ltb (length l - at) (length t) (omega arith) in
    (rw f (ap (λ (j : ℕ). Some (at + j)) k), rw f s, omega arith)

-- by way of a buffer of its own
pub copied : (l e t b b' p : List ℕ) (at n : ℕ) → at ≤ length l → n ≡ length t → n ≤ length l - at → b' ≡ sets b 0 t → n ≤ length b → n ≤ 256
    → p ≡ take n b' → e ≡ laid l at p → (Some (at + n) ≡ line_placed l at t) × (e ≡ placed_after l at t) × (length t ≤ 256)
copied l e t b b' p at n a k h s r m q z =
    let text : p ≡ t = q ∙ ap (take n) s ∙ ap (λ (j : ℕ). take j (sets b 0 t)) k ∙ first_part t b (omega arith) in
    let f = le-leb (at + length t) (length l) (omega arith) in
    placed l e t at n k h m (z ∙ ap (laid l at) text ∙ rw f)

-- in place
pub in_place : (l e t : List ℕ) (at n m : ℕ) → at + m ≤ length l → n ≡ length t → n ≤ m → m ≤ 256 → e ≡ sets (take m (drop at l)) 0 t
    → (Some (at + n) ≡ line_placed l at t) × (take at l ++ (e ++ drop m (drop at l)) ≡ placed_after l at t) × (length t ≤ 256)
in_place l e t at n m h k r q s = placed l _ t at n k (omega arith) (omega arith) (part_stored l e t at m h (omega arith) s)

-- ---- what is left to be put into some room, of the lines from a cursor on; and the cursor after them
abbrev pub left_text : Writers → List ℕ → ℕ → LineCursor → List ℕ
left_text w d room c = block_text d room (lines_from w d c)

abbrev pub left_cursor : Writers → List ℕ → ℕ → LineCursor → LineCursor
left_cursor w d room c = cursor_after w d (lines_fitting d room (lines_from w d c)) c

module _ (w : Writers) (d : List ℕ) (c : LineCursor) (t : Option (Line × LineCursor)) (e : t ≡ next_line w d c) (room : ℕ) where
  lines : lines_from w d c ≡ step_lines w d t
  lines = sym (step_lists w d c) ∙ ap (step_lines w d) (sym e)

  -- no line
  left_none : t ≡ None → (left_text w d room c ≡ []) × (left_cursor w d room c ≡ c)
  left_none q =
      let l : lines_from w d c ≡ [] = lines ∙ ap (step_lines w d) q in
      (ap (block_text d room) l, ap (λ (k : List Line). cursor_after w d (lines_fitting d room k) c) l)

  module _ (x : Line) (n : LineCursor) (q : t ≡ Some (x, n)) where
    first_line : lines_from w d c ≡ x ∷ lines_from w d n
    first_line = lines ∙ ap (step_lines w d) q

    -- a line that does not fit
    left_full : room < length (line_out d x) → (left_text w d room c ≡ []) × (left_cursor w d room c ≡ c)
    left_full h =
        let f = lt-ltb room (length (line_out d x)) h in
        (ap (block_text d room) first_line ∙ rw f, ap (λ (k : List Line). cursor_after w d (lines_fitting d room k) c) first_line ∙ rw f)

    -- a line that fits
    left_more : length (line_out d x) ≤ room
        → (left_text w d room c ≡ line_out d x ++ left_text w d (room - length (line_out d x)) n)
        × (left_cursor w d room c ≡ left_cursor w d (room - length (line_out d x)) n)
    left_more h =
        let f = le-ltb room (length (line_out d x)) h in
        let k : ◌≡◌ {A = Option (Line × LineCursor)} (Some (x, n)) (next_line w d c) = sym q ∙ e in (
          ap (block_text d room) first_line ∙ rw f,
          ap (λ (k : List Line). cursor_after w d (lines_fitting d room k) c) first_line ∙ rw f
              (ap (after_step w d c (cursor_after w d (lines_fitting d (room - length (line_out d x)) (lines_from w d n)))) (sym k)),
        )

-- ---- the loop: what was put and what is left make the block
pub record Putting (w : Writers) (d l₀ : List ℕ) (c₀ : LineCursor) (l : List ℕ) (at : ℕ) (c : LineCursor) : Type 0 where
  pub within : at ≤ length l
  pub same : length l ≡ length l₀
  pub stored : sets l at (left_text w d (length l - at) c) ≡ sets l₀ 0 (left_text w d (length l₀) c₀)
  pub long : at + length (left_text w d (length l - at) c) ≡ length (left_text w d (length l₀) c₀)
  pub cursor : left_cursor w d (length l - at) c ≡ left_cursor w d (length l₀) c₀
  pub whole : at + length (lines_text d (lines_from w d c)) ≡ length (lines_text d (lines_from w d c₀))

-- what the loop leaves
abbrev pub Done : Writers → List ℕ → List ℕ → LineCursor → List ℕ → ℕ → LineCursor → Type 0
Done w d l₀ c₀ l at c =
    (at ≡ length (left_text w d (length l₀) c₀)) × (l ≡ sets l₀ 0 (left_text w d (length l₀) c₀)) × (c ≡ left_cursor w d (length l₀) c₀)
    × (256 ≤ length l₀ → at ≡ 0 → lines_text d (lines_from w d c₀) ≡ [])

no_text : (t : List ℕ) → length t ≡ 0 → t ≡ []
no_text [] h = refl
no_text (x ∷ t) h = absurd (omega arith)

pub begun : (w : Writers) (d l : List ℕ) (c : LineCursor) → Putting w d l c l 0 c
begun w d l c =
    let all : length l - 0 ≡ length l = omega arith in
    let text : left_text w d (length l - 0) c ≡ left_text w d (length l) c = ap (λ (k : ℕ). left_text w d k c) all in
    record {
      within = omega arith;
      same = refl;
      stored = ap (sets l 0) text;
      long = omega (arith, ap length text);
      cursor = ap (λ (k : ℕ). left_cursor w d k c) all;
      whole = omega arith;
    }

module _ (w : Writers) (d l₀ : List ℕ) (c₀ : LineCursor) (l : List ℕ) (at : ℕ) (c : LineCursor) (p : Putting w d l₀ c₀ l at c) where
  -- nothing is left, or what is left does not fit
  block_done : (left_text w d (length l - at) c ≡ []) × (left_cursor w d (length l - at) c ≡ c)
      → (256 ≤ length l₀ → at ≡ 0 → length (lines_text d (lines_from w d c)) ≡ 0) → Done w d l₀ c₀ l at c
  block_done h end =
      let none : length (left_text w d (length l - at) c) ≡ 0 = ap length h.0 in (
        omega (arith, p.long),
        sym (ap (sets l at) h.0) ∙ p.stored,
        sym h.1 ∙ p.cursor,
        λ room start. no_text (lines_text d (lines_from w d c₀)) (omega (arith, p.whole, end room start)),
      )

  -- one line more
  block_more : (t l' : List ℕ) (n : LineCursor) → length t ≤ length l - at
      → lines_text d (lines_from w d c) ≡ t ++ lines_text d (lines_from w d n)
      → (left_text w d (length l - at) c ≡ t ++ left_text w d (length l - at - length t) n) × (left_cursor w d (length l - at) c ≡ left_cursor w d (length l - at - length t) n)
      → l' ≡ sets l at t → Putting w d l₀ c₀ l' (at + length t) n
  block_more t l' n h y b s =
      let size : length l' ≡ length l = ap length s ∙ length-sets l at t in
      let room : length l' - (at + length t) ≡ length l - at - length t = omega (arith, size) in
      let rest : List ℕ = left_text w d (length l - at - length t) n in
      let text : left_text w d (length l' - (at + length t)) n ≡ rest = ap (λ (k : ℕ). left_text w d k n) room in
      let sum : length (left_text w d (length l - at) c) ≡ length t + length rest = ap length b.0 ∙ length-append t rest in
      let tail : length (left_text w d (length l' - (at + length t)) n) ≡ length rest = ap length text in
      record {
        within = omega (arith, size, p.within);
        same = size ∙ p.same;
        stored =
            ap (sets l' (at + length t)) text ∙ ap (λ (k : List ℕ). sets k (at + length t) rest) s ∙ sets_append t rest l at
            ∙ ap (sets l at) (sym b.0) ∙ p.stored;
        long = omega (arith, sum, tail, p.long);
        cursor = ap (λ (k : ℕ). left_cursor w d k n) room ∙ sym b.1 ∙ p.cursor;
        whole = omega (arith, p.whole, ap length y ∙ length-append t (lines_text d (lines_from w d n)));
      }

-- what the answer of putting a line says
no_place : (l t : List ℕ) (at : ℕ) → None ≡ line_placed l at t → length l - at < length t
no_place l t at q = go (ltb (length l - at) (length t)) refl
  where
    go : (b : Bool) → ltb (length l - at) (length t) ≡ b → length l - at < length t
    go true f = ltb-true (length l - at) (length t) f
    go false f = let z : ◌≡◌ {A = Option ℕ} None (Some (at + length t)) = q ∙ rw f in let n : ◌≡◌ {A = ℕ} 0 1 = cc in absurd (omega arith)

a_place : (l t : List ℕ) (at end : ℕ) → Some end ≡ line_placed l at t → (length t ≤ length l - at) × (end ≡ at + length t)
a_place l t at end q = go (ltb (length l - at) (length t)) refl
  where
    go : (b : Bool) → ltb (length l - at) (length t) ≡ b → (length t ≤ length l - at) × (end ≡ at + length t)
    go true f = let z : ◌≡◌ {A = Option ℕ} (Some end) None = q ∙ rw f in let n : ◌≡◌ {A = ℕ} 0 1 = cc in absurd (omega arith)
    go false f =
        let z : ◌≡◌ {A = Option ℕ} (Some end) (Some (at + length t)) = q ∙ rw f in
        let n : end ≡ at + length t = cc in
        (ltb-false (length l - at) (length t) f, n)

module _ (w : Writers) (d l₀ : List ℕ) (c₀ : LineCursor) (l : List ℕ) (at : ℕ) (c : LineCursor) (p : Putting w d l₀ c₀ l at c) (t : Option (Line × LineCursor))
    (e : t ≡ next_line w d c) where
  pub ended : t ≡ None → Done w d l₀ c₀ l at c
  ended q =
      block_done w d l₀ c₀ l at c p (left_none w d c t e (length l - at) q) (λ room start. ap length (text_none w d c t e q))

  module _ (x : Line) (n : LineCursor) (q : t ≡ Some (x, n)) (r : Option ℕ) (g : r ≡ line_placed l at (line_out d x)) (l' : List ℕ)
      (s : l' ≡ placed_after l at (line_out d x)) (short : length (line_out d x) ≤ 256) where
    pub filled : r ≡ None → Done w d l₀ c₀ l' at c
    filled k =
        let h = no_place l (line_out d x) at (sym k ∙ g) in
        let f = lt-ltb (length l - at) (length (line_out d x)) h in
        let end = block_done w d l₀ c₀ l at c p (left_full w d c t e (length l - at) x n q h) (λ room start. absurd (omega (arith, h, p.same))) in
        let kept : l' ≡ l = s ∙ rw f in
        (end.0, kept ∙ end.1, end.2, end.3)

    pub went_on : (end : ℕ) → r ≡ Some end → Putting w d l₀ c₀ l' end n
    went_on end k =
        let h = a_place l (line_out d x) at end (sym k ∙ g) in
        let f = le-ltb (length l - at) (length (line_out d x)) h.0 in
        rw h.1
        (block_more w d l₀ c₀ l at c p (line_out d x) l' n h.0 (text_more w d c t e x n q) (left_more w d c t e (length l - at) x n q h.0) (s ∙ rw f))

-- ---- a block and the lines that are left make the text
-- where all of some lines fit, the block is their text
pub all_fit : (d : List ℕ) (xs : List Line) (room : ℕ) → length (lines_text d xs) ≤ room → block_text d room xs ≡ lines_text d xs
all_fit d [] room h = refl
all_fit d (x ∷ xs) room h =
    let sum = length-append (line_out d x) (lines_text d xs) in
    rw (le-ltb room (length (line_out d x)) (omega (arith, sum)))
    (ap (λ (t : List ℕ). line_out d x ++ t) (all_fit d xs (room - length (line_out d x)) (omega (arith, sum))))

lines_split : (d : List ℕ) (xs : List Line) (k : ℕ) → lines_text d xs ≡ lines_text d (take k xs) ++ lines_text d (drop k xs)
lines_split d xs zero = refl
lines_split d [] (suc k) = refl
lines_split d (x ∷ xs) (suc k) =
    ap (λ (t : List ℕ). line_out d x ++ t) (lines_split d xs k) ∙ sym (append_assoc (line_out d x) (lines_text d (take k xs)) (lines_text d (drop k xs)))

-- the text from a cursor on is the block and the text from the cursor after it
pub block_and_rest : (w : Writers) (d : List ℕ) (room : ℕ) (c : LineCursor)
    → lines_text d (lines_from w d c) ≡ left_text w d room c ++ lines_text d (lines_from w d (left_cursor w d room c))
block_and_rest w d room c =
    let k = lines_fitting d room (lines_from w d c) in
    lines_split d (lines_from w d c) k ∙ ap (λ (xs : List Line). left_text w d room c ++ lines_text d xs) (sym (lines_after w d k c))
