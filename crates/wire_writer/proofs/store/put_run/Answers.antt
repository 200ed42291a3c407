use lib.ListN.{length, drop, take}
use mathlib.Core.List.{List, ◌++◌}
use mathlib.Core.Path.{◌≡◌, refl, ap, sym, ◌∙◌}
use Prim.Native.Nat.{ℕ, ◌+◌, ◌-◌}
use borrow.Author.Tests.{leb-true}
use native.Mathlib.Omega.{arith}
use Rattle.wire_writer.proofs.Stores.{stored_fits, put_in}
use Rattle.wire_writer.proofs.store.put_run.Goals as goal

pub returns : goal.returns
returns c =
    let args = c.args in
    let n : ℕ = args.at + length args.src.now - args.at in
    let k : n ≡ length args.src.now = omega arith in
    let t = sym c.has.ensures ∙ c.if-not-has.false in
    stored_fits args.src.now args.out.now args.at refl t
    (ap (λ (b : List ℕ). take args.at args.out.now ++ (b ++ drop n (drop args.at args.out.now))) c.copy_from_slice.ensures.after
    ∙ put_in args.src.now args.out.now args.at n k (leb-true _ _ t))
