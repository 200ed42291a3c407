use Rattle.std.proofs.Common.{rules}
use Rattle.wire.specs.Refusal.{answer}
use Rattle.wire.proofs.Reading.{told}
use Rattle.value.specs.Value.{value_at, variant_of, variant_rule}
use Rattle.value.specs.Head.{judged}
use Rattle.value.proofs.Heads.{value_short, variant_judged}
use Rattle.value.proofs.Runs.{strings_variant, variants_variant}
use Rattle.value.proofs.FirstItems.{described_is}
use mathlib.Core.Path.{◌≡◌, sym, subst, ◌∙◌}
use Prim.Native.Nat.{ℕ, ◌+◌, ◌-◌}
use native.Mathlib.Omega.{arith}
use Rattle.value.proofs.measure_other.Goals as goal

pub returns-in_err-b : goal.returns-in_err-b
returns-in_err-b c = rw (value_short c.args.s.now c.args.at (sym (told answer c.read.ensures c.in_err-b.was))) (search rules)

pub returns-then-b-ge-MATRIX : goal.returns-then-b-ge-MATRIX
returns-then-b-ge-MATRIX c =
    let args = c.args in
    let q : c.in_ok-b.b - 192 + 192 ≡ c.in_ok-b.b = omega (arith, c.if-b-ge-MATRIX.true) in
    subst (λ (x : ℕ). answer c.matrix_at.result ≡ judged variant_rule x args.at (variant_of (value_at 99)) args.s.now c.in_ok-b.next) q c.matrix_at.ensures
    ∙ sym (variant_judged args.s.now args.at (sym (told answer c.read.ensures c.in_ok-b.was)))

pub told-requires : goal.told-requires
told-requires c =
    let args = c.args in (
      c.pass_texts.ensures ∙ sym
          (strings_variant args.s.now args.at _ (sym (told answer c.read.ensures c.in_ok-b.was)) (sym c.is_strings.ensures ∙ c.if-is_strings.true)),
      λ end q. described_is args.s.now args.at (sym (told answer c.read.ensures c.in_ok-b.was)) (omega (arith, c.if-b-ge-MATRIX.false)) q,
    )

pub told-requires-then-b : goal.told-requires-then-b
told-requires-then-b c =
    let args = c.args in
    let first = sym (told answer c.read.ensures c.in_ok-b.was) in (
      c.pass_variants.ensures ∙ sym (variants_variant args.s.now args.at _ first c.if-b.true),
      λ end q. described_is args.s.now args.at first (omega (arith, c.if-b-ge-MATRIX.false)) q,
    )

pub told-requires-2 : goal.told-requires-2
told-requires-2 c =
    let args = c.args in
    (c.pass_value.ensures, λ end q. described_is args.s.now args.at (sym (told answer c.read.ensures c.in_ok-b.was)) (omega (arith, c.if-b-ge-MATRIX.false)) q)
