use Rattle.publisher_id.proofs.Equality.{same_publisher_code, same_publisher_value, same_publisher_plain}
use Rattle.publisher_id.specs.PublisherRecord.{publisher_of, lent_record, record_at}
use mathlib.Core.Path.{sym, ◌∙◌}
use Rattle.publisher_id.proofs.publisher_record.same_lent.Goals as goal

pub returns-then-code : goal.returns-then-code
returns-then-code c =
    let args = c.args in
    sym (same_publisher_code (publisher_of (lent_record args.id args.text.now))
    (publisher_of (record_at args.other args.end args.s.now)) (λ e. c.if-code.true (c.code.ensures ∙ e ∙ sym c.code-2.ensures)))

pub returns-then-value : goal.returns-then-value
returns-then-value c =
    let args = c.args in
    sym (same_publisher_value (publisher_of (lent_record args.id args.text.now))
    (publisher_of (record_at args.other args.end args.s.now))
    (sym c.code.ensures ∙ c.if-code.false ∙ c.code-2.ensures) (λ e. c.if-value.true (c.value.ensures ∙ e ∙ sym c.value-2.ensures)))

pub returns-then-code-ne-STRING : goal.returns-then-code-ne-STRING
returns-then-code-ne-STRING c =
    let args = c.args in
    sym (same_publisher_plain (lent_record args.id args.text.now) (record_at args.other args.end args.s.now)
    (sym c.code.ensures ∙ c.if-code.false ∙ c.code-2.ensures)
    (sym c.value.ensures ∙ c.if-value.false ∙ c.value-2.ensures) (λ e. c.if-code-ne-STRING.true (c.code-3.ensures ∙ e)))
