use Prim.Native.Nat.{◌≤◌}
use mathlib.Core.Path.{ap, ◌∙◌}
use lib.ListN.{length}
use native.Mathlib.Omega.{arith}
use borrow.Author.Tests.{ne_eqb}
use Rattle.dataset_message.specs.Writer.{left_refusal}
use Rattle.dataset_message.proofs.Whole.{few_fields, many_fields}
use Rattle.dataset_message.proofs.given.Fields.raw_refusal.Goals as goal

pub returns-then-self-types : goal.returns-then-self-types
returns-then-self-types c =
    let a = c.args in
    rw (c.if-self-padding.false, ne_eqb _ _ c.if-types-eq0.false, few_fields a.types.now a.self.values.now a.self.lengths.now a.padding a.self.whole c.if-self-types.true) c.missing.ensures

pub returns : goal.returns
returns c =
    let a = c.args in
    let l : length a.types.now ≤ length a.self.lengths.now = omega (arith, c.if-self-types.false) in
    rw (c.if-self-padding.false, ne_eqb _ _ c.if-types-eq0.false, many_fields a.types.now a.self.values.now a.self.lengths.now a.padding l)
    (c.left_over.ensures ∙ ap (left_refusal a.self.values.now) c.end_of.ensures)
