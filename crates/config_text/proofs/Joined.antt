-- The lines of a text are the text: joined again they give it back, and none of them has a newline in it. And what is accepted keeps the limits.
-- Assumes nothing.
use mathlib.Core.Path.{◌≡◌, refl, sym, ◌∙◌, ap}
use mathlib.Core.Bool.{Bool, true, false}
use mathlib.Core.List.{List, [], ◌∷◌, ◌++◌}
use Prim.Native.Nat.{ℕ, ◌+◌, ◌≤◌}
use native.Mathlib.Omega.{arith}
use borrow.Author.Tests.{eqb-true}
use lib.Dec.{eqb}
use Rattle.text.specs.Words.{contains}
use Rattle.config_text.specs.Line.{Says, writer, field, bad}
use Rattle.config_text.specs.Config.{TextLine, ended, unended, onto, lines_of, line_says, may_follow, with, config_in, read_lines, config_of}
use Rattle.config.specs.Writers.{empty_config}
use Rattle.config.specs.declared.Config.{Config}
use Rattle.config_text.proofs.Turns.{new_within, field_within}

-- lines put one after the other, each with its newline if it has one
abbrev pub joined : List TextLine → List ℕ
joined [] = []
joined (ended l ∷ ls) = l ++ 10 ∷ joined ls
joined (unended l ∷ ls) = l ++ joined ls

onto_joined : (b : ℕ) (ls : List TextLine) → joined (onto b ls) ≡ b ∷ joined ls
onto_joined b [] = refl
onto_joined b (ended l ∷ ls) = refl
onto_joined b (unended l ∷ ls) = refl

lines_joined : (t : List ℕ) → joined (lines_of t) ≡ t
lines_joined [] = refl
lines_joined (b ∷ t) = step (eqb b 10) refl (lines_joined t)
  where
    step : (x : Bool) → eqb b 10 ≡ x → joined (lines_of t) ≡ t → joined (lines_of (b ∷ t)) ≡ b ∷ t
    step true e h = rw (e, h) (ap (λ (c : ℕ). c ∷ t) (sym (eqb-true b 10 e)))
    step false e h = rw e (onto_joined b (lines_of t) ∙ ap (λ (u : List ℕ). b ∷ u) h)

-- no line has a newline in it
abbrev pub Clean : List TextLine → Type 0
Clean [] = Unit {0}
Clean (ended l ∷ ls) = (contains 10 l ≡ false) × Clean ls
Clean (unended l ∷ ls) = (contains 10 l ≡ false) × Clean ls

onto_clean : (b : ℕ) (ls : List TextLine) → eqb b 10 ≡ false → Clean ls → Clean (onto b ls)
onto_clean b [] e h = (rw e, tt)
onto_clean b (ended l ∷ ls) e h = (rw e h.0, h.1)
onto_clean b (unended l ∷ ls) e h = (rw e h.0, h.1)

lines_clean : (t : List ℕ) → Clean (lines_of t)
lines_clean [] = tt
lines_clean (b ∷ t) = step (eqb b 10) refl (lines_clean t)
  where
    step : (x : Bool) → eqb b 10 ≡ x → Clean (lines_of t) → Clean (lines_of (b ∷ t))
    step true e h = rw e (refl, h)
    step false e h = rw e (onto_clean b (lines_of t) e h)

-- at most 16 writers and 64 fields
abbrev Within : Config → Type 0
Within c = (c.writers ≤ 16) × (c.fields ≤ 64)

with_within : (c : Config) (y : Says) → Within c → may_follow c y ≡ true → Within (with c y)
with_within c (writer id size) w p = (omega (arith, new_within c.ids c.writers id p), w.1)
with_within c (field t) w p = (w.0, omega (arith, field_within c p))
with_within c bad w p = w

lines_within : (ls : List TextLine) (c : Config) (n : ℕ) → Within c → Within (config_in (read_lines c n ls))
lines_within [] c n w = w
lines_within (l ∷ ls) c n w = step (may_follow c (line_says l)) refl (λ p. lines_within ls (with c (line_says l)) (n + 1) (with_within c (line_says l) w p))
  where
    step : (x : Bool) → may_follow c (line_says l) ≡ x → (may_follow c (line_says l) ≡ true → Within (config_in (read_lines (with c (line_says l)) (n + 1) ls)))
        → Within (config_in (read_lines c n (l ∷ ls)))
    step true p h = rw p (h p)
    step false p h = rw p (omega arith, omega arith)

pub config_within : (t : List ℕ) → ((config_in (config_of t)).writers ≤ 16) × ((config_in (config_of t)).fields ≤ 64)
unfolding config_of
config_within t = lines_within (lines_of t) empty_config 1 (omega arith, omega arith)
