use Rattle.salvage.proofs.FieldEnds.{none_passed}
use Rattle.salvage.proofs.quick.alike.Goals as goal

pub returns-then-n-c : goal.returns-then-n-c
returns-then-n-c c = none_passed c.args.front.now c.args.c

pub returns-in-RawData : goal.returns-in-RawData
returns-in-RawData c = none_passed c.args.front.now c.args.c
