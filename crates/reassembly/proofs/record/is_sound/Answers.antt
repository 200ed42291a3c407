use mathlib.Core.Path.{sym, ◌∙◌}
use borrow.Author.Tests.{le-leb, lt-leb, eq-eqb, ne_eqb}
use Rattle.reassembly.specs.Record.{sound_by}
use Rattle.reassembly.proofs.record.is_sound.Goals as goal

pub returns-then-marks_for-marks_len : goal.returns-then-marks_for-marks_len
unfolding sound_by
returns-then-marks_for-marks_len c =
    simp (ne_eqb _ _ (λ e. c.if-marks_for-marks_len.true (c.marks_for.ensures ∙ e)))

pub returns-then-not-rec : goal.returns-then-not-rec
unfolding sound_by
returns-then-not-rec c =
    simp (eq-eqb _ _ (sym c.marks_for.ensures ∙ c.if-marks_for-marks_len.false), c.if-not-rec.true)

pub returns-then-m-lt1 : goal.returns-then-m-lt1
unfolding sound_by
returns-then-m-lt1 c =
    simp (eq-eqb _ _ (sym c.marks_for.ensures ∙ c.if-marks_for-marks_len.false), c.if-not-rec.false, lt-leb _ _ c.if-m-lt1.true)

pub returns-then-payload_len-m : goal.returns-then-payload_len-m
unfolding sound_by
returns-then-payload_len-m c =
    simp (eq-eqb _ _ (sym c.marks_for.ensures ∙ c.if-marks_for-marks_len.false), c.if-not-rec.false, le-leb _ _ c.if-m-lt1.false, lt-leb _ _ c.if-payload_len-m.true)

pub returns-then-m-rec : goal.returns-then-m-rec
unfolding sound_by
returns-then-m-rec c =
    simp (eq-eqb _ _ (sym c.marks_for.ensures ∙ c.if-marks_for-marks_len.false), c.if-not-rec.false, le-leb _ _ c.if-m-lt1.false, le-leb _ _ c.if-payload_len-m.false, lt-leb _ _ c.if-m-rec.true)

pub returns : goal.returns
unfolding sound_by
returns c =
    simp (
      eq-eqb _ _ (sym c.marks_for.ensures ∙ c.if-marks_for-marks_len.false),
      c.if-not-rec.false,
      le-leb _ _ c.if-m-lt1.false,
      le-leb _ _ c.if-payload_len-m.false,
      le-leb _ _ c.if-m-rec.false,
    )
    c.publisher_fits.ensures
