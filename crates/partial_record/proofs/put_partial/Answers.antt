use Rattle.partial_record.proofs.Fitting.{fits_record}
use Rattle.partial_record.proofs.Parts.{partial_none}
use native.Mathlib.Omega.{arith}
use borrow.Author.Rules.{rules}
use Rattle.partial_record.proofs.put_partial.Goals as goal

pub returns-then-out-lt-PARTIAL_SIZE : goal.returns-then-out-lt-PARTIAL_SIZE
returns-then-out-lt-PARTIAL_SIZE c = (
  partial_none c.args.rec c.args.out.now (search rules) (omega arith),
  fits_record c.args.rec _ c.well_formed.1.0,
)
