use Rattle.value.proofs.Runs.{first_byte, strings_variant, variants_variant}
use mathlib.Core.Path.{sym, ◌∙◌}
use Rattle.value.proofs.pass_other.Goals as goal

pub returns-then-is_strings : goal.returns-then-is_strings
returns-then-is_strings c =
    let args = c.args in
    c.pass_texts.ensures ∙ sym
    (strings_variant args.s.now args.at _ (first_byte args.s.now args.at c.if-at-s.true) (sym c.is_strings.ensures ∙ c.if-is_strings.true))

pub returns-then-s-at : goal.returns-then-s-at
returns-then-s-at c =
    let args = c.args in
    c.pass_variants.ensures ∙ sym (variants_variant args.s.now args.at _ (first_byte args.s.now args.at c.if-at-s.true) c.if-s-at.true)
