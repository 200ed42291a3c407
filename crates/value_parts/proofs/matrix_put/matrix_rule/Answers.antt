use Rattle.std.proofs.Common.{rules}
use mathlib.Core.Path.{sym, ◌∙◌}
use borrow.Author.Tests.{ne_eqb, lt-ltb, le-ltb}
use Rattle.wire.proofs.Reading.{some_number}
use Rattle.value_parts.proofs.StoringNames.{matrix_as_array}
use Rattle.value_parts.proofs.matrix_put.matrix_rule.Goals as goal

pub returns-in_err-array_form : goal.returns-in_err-array_form
returns-in_err-array_form c =
    rw (
      lt-ltb _ _ c.if-t-ge64.false,
      sym (c.in_ok-array_rule.ensures ∙ matrix_as_array c.args.t c.if-t-ge64.false),
      sym c.in_err-array_form.ensures,
      ne_eqb _ _ (some_number c.in_err-array_form.field-0.0),
    ) (search rules)

pub returns : goal.returns
returns c =
    rw (
      lt-ltb _ _ c.if-t-ge64.false,
      sym (c.in_ok-array_rule.ensures ∙ matrix_as_array c.args.t c.if-t-ge64.false),
      sym c.in_ok-array_form.ensures,
      le-ltb _ _ c.if-n-gt-MOST_DATAGRAM.false,
      sym c.elements.ensures.0,
    ) c.given_sizes_rule.ensures
