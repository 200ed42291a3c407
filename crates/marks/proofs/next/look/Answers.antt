use Rattle.wire.specs.Number.{le}
use native.Mathlib.Omega.{arith}
use mathlib.Core.Path.{◌≡◌, refl, ap, ◌∙◌}
use mathlib.Core.Bool.{cond}
use Prim.Native.Nat.{ℕ, ◌-◌, ◌/◌}
use lib.ListN.{get_or}
use Rattle.marks.proofs.WholeLaws.{capacity_bytes}
use Rattle.marks.proofs.LookLaws.{look_bits}
use Rattle.marks.proofs.next.look.Goals as goal

pub overflow_sub-marks : goal.overflow_sub-marks
overflow_sub-marks c = let room = capacity_bytes c.args.marks.now in omega (arith, room, c.requires)

pub bounds-marks-at : goal.bounds-marks-at
bounds-marks-at c =
    let room = capacity_bytes c.args.marks.now in omega (arith, room, c.requires)

pub returns-then-marks-at-lt-EIGHT : goal.returns-then-marks-at-lt-EIGHT
returns-then-marks-at-lt-EIGHT c =
    let args = c.args in
    let byte : get_or args.marks.now (args.i / 8) 0 ≡ le 1 args.marks.now (args.i / 8) = omega arith in (
      look_bits args.marks.now args.i 1 255 c.choose.result args.want (λ k. omega (arith, c.shared_slice_known-1.given k)) (omega arith) refl
          (c.choose.ensures ∙ ap (λ (n : ℕ). cond args.want n (255 - n)) byte),
      omega arith,
    )

pub returns : goal.returns
returns c =
    let args = c.args in (
      look_bits args.marks.now args.i 8 18446744073709551615 c.choose-2.result args.want (λ k. omega (arith, c.shared_slice_known-1.given k)) (omega arith) refl
          (c.choose-2.ensures ∙ ap (λ (n : ℕ). cond args.want n (18446744073709551615 - n)) c.eight-number.ensures),
      omega arith,
    )
