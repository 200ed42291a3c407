use lib.ListN.{drop, take}
use mathlib.Core.List.{List, ◌++◌}
use mathlib.Core.Path.{◌≡◌, ap, sym, ◌∙◌}
use Prim.Native.Nat.{ℕ, ◌+◌, ◌-◌}
use borrow.Author.Tests.{leb-true}
use native.Mathlib.Omega.{arith}
use Rattle.dataset_fields.proofs.Laying.{zeros_put, zeros_in}
use Rattle.dataset_fields.proofs.fields.put_zeros.Goals as goal

pub returns : goal.returns
returns c =
    let args = c.args in
    let n : ℕ = args.at + args.n - args.at in
    let k : n ≡ args.n = omega arith in
    let t = sym c.has.ensures ∙ c.if-not-has.false in
    zeros_put args.n args.out.now args.at _ t
    (ap (λ (b : List ℕ). take args.at args.out.now ++ (b ++ drop n (drop args.at args.out.now))) (c.fill.ensures.after (λ y e. e))
    ∙ zeros_in args.n args.out.now args.at n k (leb-true _ _ t))
