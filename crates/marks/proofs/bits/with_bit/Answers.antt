use Rattle.marks.proofs.BitLaws.{or_shifted}
use Rattle.marks.proofs.bits.with_bit.Goals as goal

pub returns-then-on : goal.returns-then-on
returns-then-on c = let a = c.args in rw c.if-on.true (or_shifted a.k a.b c.requires)
