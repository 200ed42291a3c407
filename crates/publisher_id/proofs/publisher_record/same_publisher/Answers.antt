use Prim.Native.Nat.{ℕ}
use mathlib.Core.Path.{sym, ◌∙◌, ap, ap₂}
use lib.ListN.{take}
use Rattle.publisher_id.specs.PublisherRecord.{publisher_of, same_text}
use Rattle.publisher_id.proofs.Equality.{same_publisher_code, same_publisher_value, same_publisher_text, same_text_is}
use Rattle.publisher_id.proofs.publisher_record.same_publisher.Goals as goal

pub returns-then-code : goal.returns-then-code
returns-then-code c =
    let args = c.args in
    sym (same_publisher_code (publisher_of args.a) (publisher_of args.b) (λ e. c.if-code.true (c.code.ensures ∙ e ∙ sym c.code-2.ensures)))

pub returns-then-value : goal.returns-then-value
returns-then-value c =
    let args = c.args in
    sym (same_publisher_value (publisher_of args.a) (publisher_of args.b)
    (sym c.code.ensures ∙ c.if-code.false ∙ c.code-2.ensures) (λ e. c.if-value.true (c.value.ensures ∙ e ∙ sym c.value-2.ensures)))

pub returns : goal.returns
returns c =
    let args = c.args in
    c.eq.ensures ∙ same_text_is _ _ ∙ ap₂ same_text
    (c.part.ensures ∙ ap (λ (n : ℕ). take n args.a.text) c.text_length.ensures)
    (c.part-2.ensures ∙ ap (λ (n : ℕ). take n args.b.text) c.text_length-2.ensures)
    ∙ sym (same_publisher_text (publisher_of args.a) (publisher_of args.b)
    (sym c.code.ensures ∙ c.if-code.false ∙ c.code-2.ensures) (sym c.value.ensures ∙ c.if-value.false ∙ c.value-2.ensures))
