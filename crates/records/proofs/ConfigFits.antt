-- The configuration of a text fits the record.
-- Assumes nothing.
use Prim.Native.Nat.{ℕ, zero, suc, ◌+◌, ◌<◌}
use mathlib.Core.Path.{refl, ◌∙◌}
use mathlib.Core.List.{List, [], ◌∷◌}
use Rattle.std.specs.Prelude.{Option, Some, None}
use native.Mathlib.Omega.{arith}
use borrow.Author.Tests.{leb-true}
use lib.Dec.{leb, eqb}
use lib.ListN.{set, drop, replicate, length-set}
use Rattle.wire.proofs.Cases.{by_bool}
use Rattle.wire_writer.specs.Fits.{Numbers}
use Rattle.text.specs.Words.{contains, starts_with, up_to, past}
use Rattle.text.specs.Decimal.{all_digits, decimal_value_of, no_leading_zero, decimal_of}
use Rattle.plain_value.specs.Width.{fixed}
use Rattle.config.specs.declared.Config.{Config}
use Rattle.config.specs.Writers.{empty_config}
use Rattle.config_text.specs.Line.{Says, tab_byte, is_dash, positive, size_of, writer_of, field_of, writer_start, field_start, says_of}
use Rattle.config_text.specs.Line.Says.{writer, field, bad}
use Rattle.config_text.specs.Config.{TextLine, ended, unended, line_says, may_follow, with, read_lines, lines_of, config_in, config_of}
use Rattle.records.specs.Writers.{FitsConfig}

-- ---- what a line says fits
abbrev FitsOption : Option ℕ → Type 0
FitsOption (Some n) = n < 65536
FitsOption None = Unit {0}

abbrev FitsSays : Says → Type 0
FitsSays (writer id size) = (id < 65536) × (size < 65536)
FitsSays (field t) = Unit {0}
FitsSays bad = Unit {0}

decimal_fits : (t : List ℕ) → FitsOption (decimal_of 65535 t)
decimal_fits t =
    by_bool _ (no_leading_zero t)
    (λ a. by_bool _ (all_digits t)
    (λ b. by_bool _ (leb (decimal_value_of t) 65535) (λ d. rw (a, b, d) (omega (arith, leb-true (decimal_value_of t) 65535 d))) (λ d. rw (a, b, d) tt))
    (λ b. rw (a, b) tt))
    (λ a. rw a tt)

positive_fits : (o : Option ℕ) → FitsOption o → FitsOption (positive o)
positive_fits (Some n) h = by_bool _ (eqb n 0) (λ b. rw b tt) (λ b. rw b h)
positive_fits None h = tt

size_fits : (p : List ℕ) → FitsOption (size_of p)
size_fits p = by_bool _ (is_dash p) (λ b. rw b (omega arith)) (λ b. rw b (positive_fits (decimal_of 65535 p) (decimal_fits p)))

writer_fits : (id size : Option ℕ) → FitsOption id → FitsOption size → FitsSays (writer_of id size)
writer_fits (Some i) (Some z) h k = (h, k)
writer_fits (Some i) None h k = tt
writer_fits None size h k = tt

field_fits : (o : Option ℕ) → FitsSays (field_of o)
field_fits (Some t) = by_bool _ (fixed t) (λ b. rw b tt) (λ b. rw b tt)
field_fits None = tt

says_fits : (line : List ℕ) → FitsSays (says_of line)
says_fits line =
    let id = up_to tab_byte (drop 7 line) in
    let size = past tab_byte (drop 7 line) in
    by_bool _ (starts_with line writer_start)
    (λ a. by_bool _ (contains tab_byte (drop 7 line))
    (λ b. rw (a, b) (writer_fits (decimal_of 65535 id) (size_of size) (decimal_fits id) (size_fits size)))
    (λ b. rw (a, b) tt))
    (λ a. by_bool _ (starts_with line field_start) (λ b. rw (a, b) (field_fits (decimal_of 255 (drop 6 line)))) (λ b. rw (a, b) tt))

line_fits : (l : TextLine) → FitsSays (line_says l)
line_fits (ended l) = says_fits l
line_fits (unended l) = tt

-- ---- a list with one number set
numbers_set : (xs : List ℕ) (i v : ℕ) → Numbers xs → v < 65536 → Numbers (set xs i v)
numbers_set [] i v f h k = f k
numbers_set (x ∷ xs) zero v f h zero = h
numbers_set (x ∷ xs) zero v f h (suc k) = f (suc k)
numbers_set (x ∷ xs) (suc i) v f h zero = f 0
numbers_set (x ∷ xs) (suc i) v f h (suc k) = numbers_set xs i v (λ j. f (suc j)) h k

zeros_fit : (n : ℕ) → Numbers (replicate n 0)
zeros_fit zero k = omega arith
zeros_fit (suc n) zero = omega arith
zeros_fit (suc n) (suc k) = zeros_fit n k

-- ---- the configuration, line by line
empty_fits : FitsConfig empty_config
empty_fits = record { ids = (refl, zeros_fit 16); sizes = (refl, zeros_fit 16); starts = refl; types = refl }

with_fits : (c : Config) (y : Says) → FitsConfig c → FitsSays y → FitsConfig (with c y)
with_fits c (writer id size) f h = record {
  ids = (length-set c.ids c.writers id ∙ f.ids.0, numbers_set c.ids c.writers id f.ids.1 h.0);
  sizes = (length-set c.sizes c.writers size ∙ f.sizes.0, numbers_set c.sizes c.writers size f.sizes.1 h.1);
  starts = length-set c.starts c.writers c.fields ∙ f.starts;
  types = f.types;
}
with_fits c (field t) f h = record { ids = f.ids; sizes = f.sizes; starts = f.starts; types = length-set c.types c.fields t ∙ f.types }
with_fits c bad f h = f

lines_fit : (c : Config) (n : ℕ) (ls : List TextLine) → FitsConfig c → FitsConfig (config_in (read_lines c n ls))
lines_fit c n [] f = f
lines_fit c n (l ∷ ls) f =
    by_bool _ (may_follow c (line_says l)) (λ b. rw b (lines_fit (with c (line_says l)) (n + 1) ls (with_fits c (line_says l) f (line_fits l)))) (λ b. rw b empty_fits)

pub config_fits : (text : List ℕ) → FitsConfig (config_in (config_of text))
unfolding config_of
config_fits text = lines_fit empty_config 1 (lines_of text) empty_fits
