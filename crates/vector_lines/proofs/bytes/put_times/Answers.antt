use Rattle.vector_lines.proofs.Laying.{laid_more, laid_as, times_turn, hex_put, hex_none, none_laid}
use Rattle.vector_lines.specs.Bytes.{hex_or}
use Rattle.text.specs.Hex.{hex_of}
use Prim.Native.Nat.{◌-◌}
use mathlib.Core.Path.{sym, ◌∙◌}
use borrow.Author.Rules.{rules}
use Rattle.vector_lines.proofs.bytes.put_times.Goals as goal

pub loop-preserved : goal.loop-preserved
loop-preserved c =
    let args = c.args in (
      search rules,
      laid_more (laid_as (times_turn args.n c.loop.counter (hex_or (hex_of args.digits.now)) c.loop-test.true) c.loop.invariant.1)
          (hex_put c.loop.out c.loop.next args.digits.now (sym c.in-Some.is ∙ c.read_hex.ensures.0) c.read_hex.ensures.1),
    )

pub returns-in_default : goal.returns-in_default
returns-in_default c =
    let args = c.args in
    let none = hex_none c.loop.out c.loop.next args.digits.now (sym c.in_default.is ∙ c.read_hex.ensures.0) c.read_hex.ensures.1 in
    none_laid args.n (args.n - c.loop.counter) (hex_or (hex_of args.digits.now)) none.0 none.1 c.loop.invariant.1
