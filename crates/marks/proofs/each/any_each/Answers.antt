use Prim.Native.Nat.{ℕ, ◌+◌}
use mathlib.Core.Bool.{Bool, true, ◌||◌}
use mathlib.Core.Path.{◌≡◌, sym, ap, ◌∙◌}
use native.Mathlib.Omega.{arith}
use Rattle.marks.specs.Offsets.{any_from}
use Rattle.marks.specs.Marks.{in_use, marked}
use Rattle.marks.proofs.OffsetLaws.{from_none, from_step, from_found}
use Rattle.marks.proofs.each.any_each.Goals as goal

pub returns-then-is_marked : goal.returns-then-is_marked
returns-then-is_marked c =
    let args = c.args in
    let f : ℕ → Bool = marked in_use args.marks.now in
    let here : f c.loop-i.i ≡ true = sym c.is_marked.ensures ∙ c.if-is_marked.true in
    sym (from_found args.start c.loop-i.i (c.loop-i.i + 1) args.end f c.loop-i.invariant.0 (omega arith)
    (from_step c.loop-i.i c.loop-i.i f (omega arith) ∙ ap (λ (b : Bool). b || any_from c.loop-i.i c.loop-i.i f) here))

pub returns : goal.returns
returns c =
    let args = c.args in
    sym (from_none args.start args.end (marked in_use args.marks.now) (λ k h l. c.loop-i.invariant.1 k h (omega arith)))
