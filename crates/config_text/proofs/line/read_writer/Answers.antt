use mathlib.Core.Path.{sym, ◌∙◌}
use Rattle.config_text.proofs.Lines.{writer_none, writer_no_size, writer_is}
use Rattle.config_text.proofs.line.read_writer.Goals as goal

pub returns-in_err-id : goal.returns-in_err-id
returns-in_err-id c =
    let args = c.args in
    c.from_residual.ensures ∙ writer_none args.s.now args.at (sym c.read_decimal.ensures ∙ c.in_err-id.was)

pub returns-in_err-size : goal.returns-in_err-size
returns-in_err-size c =
    let args = c.args in
    c.from_residual-in_err-size.ensures
    ∙ writer_no_size args.s.now args.at _ _ (sym c.read_decimal.ensures ∙ c.in_ok-id.was) (sym c.read_size.ensures ∙ c.in_err-size.was)

pub returns : goal.returns
returns c =
    let args = c.args in
    writer_is args.s.now args.at _ _ (sym c.read_decimal.ensures ∙ c.in_ok-id.was) _ _ (sym c.read_size.ensures ∙ c.in_ok-size.was)
