use Rattle.value.proofs.FirstByte.{scalar_first}
use borrow.Author.Tests.{eq-eqb, ne_eqb}
use lib.Dec.{eqb}
use mathlib.Core.Bool.{◌||◌}
use mathlib.Core.Path.{sym, ap, ◌∙◌}
use Rattle.value.proofs.head.scalar_variant.Goals as goal

pub returns-then-is_plain-t : goal.returns-then-is_plain-t
returns-then-is_plain-t c =
    let a = c.args in
    let f = scalar_first a.t c.requires in
    let e = sym (ap (λ b. b || eqb a.t 23) c.is_plain.ensures) ∙ c.if-is_plain-t.true in
    λ nested. rw (f.rule, e, f.type, f.not_null e, f.no_array) (c.scalar_head.ensures nested)

pub returns-then-t-eq0 : goal.returns-then-t-eq0
returns-then-t-eq0 c =
    let a = c.args in
    let f = scalar_first a.t c.requires in
    let e = sym (ap (λ b. b || eqb a.t 23) c.is_plain.ensures) ∙ c.if-is_plain-t.false in
    λ nested. rw (f.rule, e, eq-eqb _ _ c.if-t-eq0.true, f.type, eq-eqb _ _ c.if-t-eq0.true)

pub returns-then-t-eq-VARIANT : goal.returns-then-t-eq-VARIANT
returns-then-t-eq-VARIANT c =
    let a = c.args in
    let f = scalar_first a.t c.requires in
    let e = sym (ap (λ b. b || eqb a.t 23) c.is_plain.ensures) ∙ c.if-is_plain-t.false in
    λ nested. rw (c.at.ensures, f.rule, e, ne_eqb _ _ c.if-t-eq0.false, eq-eqb _ _ c.if-t-eq-VARIANT.true)

pub returns : goal.returns
returns c =
    let a = c.args in
    let f = scalar_first a.t c.requires in
    let e = sym (ap (λ b. b || eqb a.t 23) c.is_plain.ensures) ∙ c.if-is_plain-t.false in
    λ nested. rw (c.at-2.ensures, f.rule, e, ne_eqb _ _ c.if-t-eq0.false, ne_eqb _ _ c.if-t-eq-VARIANT.false)
