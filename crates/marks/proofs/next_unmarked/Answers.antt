use Rattle.marks.proofs.NextLaws.{next_none_past}
use Rattle.marks.proofs.MarkLaws.{marked_none}
use Rattle.marks.specs.Marks.{in_use, marked, capacity}
use Rattle.marks.proofs.next_unmarked.Goals as goal

pub returns : goal.returns
returns c =
    let args = c.args in
    next_none_past (marked in_use args.marks.now) c.within-stop.result args.end (capacity in_use args.marks.now)
    c.within-stop.ensures.0 c.within-stop.ensures.2 (marked_none in_use args.marks.now) args.from _ c.next_wanted.ensures
