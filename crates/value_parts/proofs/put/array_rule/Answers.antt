use Rattle.value_parts.proofs.Storing.{same_taken}
use Rattle.value.proofs.FirstByte.{array_first}
use Rattle.plain_value.specs.Plain.{plain}
use borrow.Author.Tests.{eq-eqb, ne_eqb}
use lib.Dec.{eqb}
use mathlib.Core.Bool.{◌||◌}
use mathlib.Core.Path.{sym, ap, ◌∙◌}
use Rattle.value_parts.proofs.put.array_rule.Goals as goal

pub returns-then-t-eq0 : goal.returns-then-t-eq0
returns-then-t-eq0 c =
    rw ((array_first c.args.t c.requires).rule, eq-eqb _ _ c.if-t-eq0.true)

pub returns-then-is_plain-t : goal.returns-then-is_plain-t
returns-then-is_plain-t c =
    let t = c.args.t in
    let e = sym (ap (λ b. (b || eqb t 23) || eqb t 24) c.is_plain.ensures) ∙ c.if-is_plain-t.true in
    rw ((array_first t c.requires).rule, ne_eqb _ _ c.if-t-eq0.false, same_taken (plain t) (eqb t 23) (eqb t 24) ∙ e)

pub returns : goal.returns
returns c =
    let t = c.args.t in
    let e = sym (ap (λ b. (b || eqb t 23) || eqb t 24) c.is_plain.ensures) ∙ c.if-is_plain-t.false in
    rw ((array_first t c.requires).rule, ne_eqb _ _ c.if-t-eq0.false, same_taken (plain t) (eqb t 23) (eqb t 24) ∙ e)
