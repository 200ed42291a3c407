-- The lines of a text, one after the other: what a turn of `read_config`'s loop needs.
-- Assumes nothing.
use Rattle.std.specs.Prelude.{Option, Some, None, Result}
use mathlib.Core.Path.{◌≡◌, refl, sym, ◌∙◌, ap}
use mathlib.Core.Bool.{Bool, true, false, cond, not, true≢false, false≢true}
use mathlib.Core.List.{List, [], ◌∷◌}
use mathlib.Core.Logic.{⊎_elim}
use Prim.Native.Nat.{ℕ, ◌+◌, ◌≤◌, ◌<◌}
use native.Mathlib.Nat.{suc-add}
use native.Mathlib.Omega.{arith}
use borrow.Author.Tests.{leb-false, ltb-true}
use lib.Dec.{eqb, leb, ltb}
use lib.ListN.{length, drop, get_or, length-drop}
use lib.Seq.{drop-drop}
use Rattle.text.specs.Words.{contains, index_of, up_to, past}
use Rattle.wire.proofs.Facts.{and_right, cases}
use Rattle.text.proofs.Lists.{at_next, at_end}
use Rattle.text.proofs.Parts.{contains_place}
use Rattle.config_text.specs.Line.{Says, writer, field, bad, says_of, as_line, said, line_from}
use Rattle.config_text.specs.Config.{ended, unended, lines_of, is_new, may_follow, with, accepted, bad_line, read_lines, config_of}
use Rattle.config.specs.Writers.{empty_config}
use Rattle.config.specs.declared.Config.{Config}
use Rattle.wire.specs.declared.refusal.Refusal.{Refusal}
use Rattle.config_text.specs.declared.line.Line.{Line}
use Rattle.config_text.specs.declared.line.Line.TheVariants.{Writer, Field}

-- a text with a newline: the first line, and the lines after it
pub lines_next : (t : List ℕ) → contains 10 t ≡ true → lines_of t ≡ ended (up_to 10 t) ∷ lines_of (past 10 t)
lines_next [] h = absurd (false≢true h)
lines_next (b ∷ t) h =
    ⊎_elim
    (λ e. rw e)
    (λ e. let k : contains 10 t ≡ true = rw e at h in rw e (rw (suc-add, lines_next t k)))
    (cases (eqb b 10))

-- a text without one is a line that lacks it
pub lines_last : (b : ℕ) (t : List ℕ) → contains 10 (b ∷ t) ≡ false → lines_of (b ∷ t) ≡ unended (b ∷ t) ∷ []
lines_last b [] h = ⊎_elim (λ e. let z : true ≡ false = rw e at h in absurd (true≢false z)) (λ e. rw e) (cases (eqb b 10))
lines_last b (c ∷ t) h =
    ⊎_elim
    (λ e. let z : true ≡ false = rw e at h in absurd (true≢false z))
    (λ e. let k : contains 10 (c ∷ t) ≡ false = rw e at h in rw e (rw (lines_last c t k)))
    (cases (eqb b 10))

-- a line that was read: what it says, and the position after its newline
record LineWas (s : List ℕ) (at : ℕ) (says : Says) (next : ℕ) : Type 0 where
  there : contains 10 (drop at s) ≡ true
  line : says_of (up_to 10 (drop at s)) ≡ says
  after : next ≡ at + index_of 10 (drop at s) + 1

line_as : (y : Says) (k : ℕ) (l : Line) (next : ℕ) → as_line y k ≡ Some (l, next) → (y ≡ said l) × (next ≡ k)
line_as (writer i z) k l next e = let w : ◌≡◌ {A = Line × ℕ} (Writer i z, k) (l, next) = cc in (ap (λ (p : Line × ℕ). said p.0) w, ap (λ (p : Line × ℕ). p.1) (sym w))
line_as (field t) k l next e = let w : ◌≡◌ {A = Line × ℕ} (Field t, k) (l, next) = cc in (ap (λ (p : Line × ℕ). said p.0) w, ap (λ (p : Line × ℕ). p.1) (sym w))
line_as bad k l next e = let z : ◌≡◌ {A = ℕ} 0 1 = cc in absurd (omega arith)

bad_as : (y : Says) (k : ℕ) → as_line y k ≡ None → y ≡ bad
bad_as (writer i z) k e = let z : ◌≡◌ {A = ℕ} 0 1 = cc in absurd (omega arith)
bad_as (field t) k e = let z : ◌≡◌ {A = ℕ} 0 1 = cc in absurd (omega arith)
bad_as bad k e = refl

line_was : (s : List ℕ) (at : ℕ) (l : Line) (next : ℕ) → line_from s at ≡ Some (l, next) → LineWas s at (said l) next
line_was s at l next e = go (contains 10 (drop at s)) refl
  where
    go : (b : Bool) → contains 10 (drop at s) ≡ b → LineWas s at (said l) next
    go true h =
        let k : (says_of (up_to 10 (drop at s)) ≡ said l) × (next ≡ at + index_of 10 (drop at s) + 1) = line_as _ _ l next (rw h at e) in
        record { there = h; line = k.0; after = k.1 }
    go false h = let w : ◌≡◌ {A = Option (Line × ℕ)} None (Some (l, next)) = rw h at e in let z : ◌≡◌ {A = ℕ} 0 1 = cc in absurd (omega arith)

-- a turn with a line that was read
module _ (s : List ℕ) (at : ℕ) (y : Says) (next : ℕ) (was : LineWas s at y next) where
  next_within : next ≤ length s
  next_within = omega (arith, was.after, contains_place 10 (drop at s) was.there, length-drop at s)

  next_later : at < next
  next_later = omega (arith, was.after)

  rest : past 10 (drop at s) ≡ drop next s
  rest =
      let k : at + (index_of 10 (drop at s) + 1) ≡ next = omega (arith, was.after) in
      drop-drop (index_of 10 (drop at s) + 1) at s ∙ ap (λ (j : ℕ). drop j s) k

  module _ (c : Config) (n : ℕ) (r : Result Config Refusal) (v : read_lines c n (lines_of (drop at s)) ≡ r) where
    turned : cond (may_follow c y) (read_lines (with c y) (n + 1) (lines_of (drop next s))) (bad_line n) ≡ r
    turned = rw (lines_next (drop at s) was.there, was.line, rest) at v

    turn_refused : may_follow c y ≡ false → bad_line n ≡ r
    turn_refused p = rw p at turned

    turn_taken : may_follow c y ≡ true → read_lines (with c y) (n + 1) (lines_of (drop next s)) ≡ r
    turn_taken p = rw p at turned

-- a turn with a bad line, and the end
module _ (s : List ℕ) (at : ℕ) (c : Config) (n : ℕ) (r : Result Config Refusal) (v : read_lines c n (lines_of (drop at s)) ≡ r) where
  turn_bad : at < length s → line_from s at ≡ None → bad_line n ≡ r
  turn_bad l e = go (contains 10 (drop at s)) refl
    where
      go : (b : Bool) → contains 10 (drop at s) ≡ b → bad_line n ≡ r
      go true h =
          let k : says_of (up_to 10 (drop at s)) ≡ bad = bad_as _ _ (rw h at e) in
          rw (lines_next (drop at s) h, k) at v
      go false h =
          let k : drop at s ≡ get_or s at 0 ∷ drop (at + 1) s = at_next s at l in
          rw (k, lines_last (get_or s at 0) (drop (at + 1) s) (rw k at h)) at v

  all_read : length s ≤ at → accepted c ≡ r
  all_read l = rw (at_end s at l) at v

-- what holds whenever the loop's test is reached: the lines that are left give the text's answer
abbrev pub Held : List ℕ → Config → ℕ → ℕ → Type 0
Held s c n at = (at ≤ length s) × ((n ≤ at + 1) × ((c.fields ≤ 64) × (read_lines c n (lines_of (drop at s)) ≡ config_of s)))

pub held_first : (s : List ℕ) (c : Config) → c ≡ empty_config → Held s c 1 0
unfolding config_of
held_first s c e = rw e (omega arith, (omega arith, (omega arith, refl)))

-- the limits that a permitted line keeps
pub new_within : (ids : List ℕ) (n id : ℕ) → is_new ids n id ≡ true → n < 16
new_within ids n id e = go (leb 16 n) refl
  where
    go : (b : Bool) → leb 16 n ≡ b → n < 16
    go true h = let z : false ≡ true = rw h at e in absurd (false≢true z)
    go false h = leb-false 16 n h

pub field_within : (c : Config) → may_follow c (field 0) ≡ true → c.fields < 64
field_within c e = ltb-true c.fields 64 (and_right (not (eqb c.writers 0)) (ltb c.fields 64) e)

-- a line more keeps the limit of fields
with_fields : (c : Config) (y : Says) → c.fields ≤ 64 → may_follow c y ≡ true → (with c y).fields ≤ 64
with_fields c (writer id size) f p = f
with_fields c (field t) f p = let z = field_within c p in omega arith
with_fields c bad f p = f

-- a turn. r is what was read, and b the answer of `permitted`
module _ (s : List ℕ) (c : Config) (n at : ℕ) (h : Held s c n at) where
  pub held_last : length s ≤ at → accepted c ≡ config_of s
  held_last l = all_read s at c n (config_of s) h.1.1.1 l

  pub held_bad : at < length s → line_from s at ≡ None → bad_line n ≡ config_of s
  held_bad l e = turn_bad s at c n (config_of s) h.1.1.1 l e

  module _ (l : Line) (next : ℕ) (e : line_from s at ≡ Some (l, next)) where
    was : LineWas s at (said l) next
    was = line_was s at l next e

    pub held_refused : may_follow c (said l) ≡ false → bad_line n ≡ config_of s
    held_refused p = turn_refused s at (said l) next was c n (config_of s) h.1.1.1 p

    pub held_next : may_follow c (said l) ≡ true → Held s (with c (said l)) (n + 1) next
    held_next p = (
      next_within s at (said l) next was,
      (omega (arith, h.1.0, next_later s at (said l) next was), (with_fields c (said l) h.1.1.0 p, turn_taken s at (said l) next was c n (config_of s) h.1.1.1 p)),
    )

    pub held_later : at < next
    held_later = next_later s at (said l) next was
