use mathlib.Core.Path.{sym, ◌∙◌}
use Rattle.config_text.proofs.Lines.{line_writer, line_field, line_other}
use Rattle.config_text.proofs.line.read_line.Goals as goal

pub returns-then-starts_with : goal.returns-then-starts_with
returns-then-starts_with c =
    let args = c.args in
    c.read_writer.ensures ∙ line_writer args.s.now args.at (sym c.starts_with.ensures ∙ c.if-starts_with.true)

pub returns-then-starts_with-2 : goal.returns-then-starts_with-2
returns-then-starts_with-2 c =
    let args = c.args in
    c.read_field.ensures ∙ line_field args.s.now args.at (sym c.starts_with-2.ensures ∙ c.if-starts_with-2.true)

pub returns : goal.returns
returns c =
    let args = c.args in
    line_other args.s.now args.at (sym c.starts_with.ensures ∙ c.if-starts_with.false) (sym c.starts_with-2.ensures ∙ c.if-starts_with-2.false)
