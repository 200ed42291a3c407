use Prim.Native.Nat.{ℕ}
use mathlib.Core.List.{List}
use mathlib.Core.Path.{refl, sym, subst}
use Rattle.dataset_fields.proofs.Laying.{delta_step, delta_done}
use Rattle.wire_writer.proofs.Putting.{puts, then, nothing}
use Rattle.wire_writer.specs.Writing.{Puts}
use Rattle.dataset_fields.proofs.fields.store_delta.Goals as goal

pub loop-k-preserved : goal.loop-k-preserved
loop-k-preserved c = λ exit next q.
    let args = c.args in
    c.loop-k.invariant exit next
    (subst (λ (b : List ℕ). Puts b c.loop-k.out c.loop-k.p exit next)
    (sym (delta_step args.values.now args.lengths.now args.indices.now c.loop-k.k
    c.loop-k.start _ _ _ _ c.loop-k-test.true refl c.part.ensures c.forward-start.ensures c.index_of.ensures))
    (then (puts c.put-p.ensures) (then (puts c.put_run-p.ensures) q)))

pub returns : goal.returns
returns c =
    let args = c.args in
    c.loop-k.invariant c.loop-k.out c.loop-k.p
    (subst (λ (b : List ℕ). Puts b c.loop-k.out c.loop-k.p c.loop-k.out c.loop-k.p)
    (sym (delta_done args.values.now args.lengths.now args.indices.now c.loop-k.k c.loop-k.start c.loop-k-test.false))
    (nothing c.loop-k.out c.loop-k.p))
