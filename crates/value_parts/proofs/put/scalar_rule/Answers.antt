use Rattle.value_parts.proofs.Storing.{either}
use Rattle.value.proofs.FirstByte.{scalar_first}
use Rattle.plain_value.specs.Plain.{plain}
use borrow.Author.Tests.{eq-eqb, ne_eqb}
use lib.Dec.{eqb}
use mathlib.Core.Bool.{◌||◌}
use mathlib.Core.Path.{sym, ap, ◌∙◌}
use Rattle.value_parts.proofs.put.scalar_rule.Goals as goal

pub returns-then-is_plain-t : goal.returns-then-is_plain-t
returns-then-is_plain-t c =
    let t = c.args.t in
    let e = sym (ap (λ b. (b || eqb t 23) || eqb t 0) c.is_plain.ensures) ∙ c.if-is_plain-t.true in
    rw ((scalar_first t c.requires).rule, either (plain t || eqb t 23) (eqb t 0) _, e)

pub returns-then-t-eq-VARIANT : goal.returns-then-t-eq-VARIANT
returns-then-t-eq-VARIANT c =
    let t = c.args.t in
    let e = sym (ap (λ b. (b || eqb t 23) || eqb t 0) c.is_plain.ensures) ∙ c.if-is_plain-t.false in
    rw ((scalar_first t c.requires).rule, either (plain t || eqb t 23) (eqb t 0) _, e, eq-eqb _ _ c.if-t-eq-VARIANT.true)

pub returns : goal.returns
returns c =
    let t = c.args.t in
    let e = sym (ap (λ b. (b || eqb t 23) || eqb t 0) c.is_plain.ensures) ∙ c.if-is_plain-t.false in
    rw ((scalar_first t c.requires).rule, either (plain t || eqb t 23) (eqb t 0) _, e, ne_eqb _ _ c.if-t-eq-VARIANT.false)
