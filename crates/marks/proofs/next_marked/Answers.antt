use Rattle.marks.proofs.NextLaws.{next_within, next_past, next_end}
use Rattle.marks.proofs.MarkLaws.{marked_none}
use Rattle.marks.specs.Marks.{in_use, marked, capacity}
use Rattle.marks.proofs.next_marked.Goals as goal

pub returns-then-i-stop : goal.returns-then-i-stop
returns-then-i-stop c =
    let args = c.args in
    next_within (marked in_use args.marks.now) c.within-stop.result args.end (capacity in_use args.marks.now)
    c.within-stop.ensures.0 c.within-stop.ensures.2 (marked_none in_use args.marks.now) args.from
    c.next_wanted-i.result c.next_wanted-i.ensures c.if-i-stop.true

pub returns-then-i-end : goal.returns-then-i-end
returns-then-i-end c =
    let args = c.args in
    next_past (marked in_use args.marks.now) c.within-stop.result args.end (capacity in_use args.marks.now)
    c.within-stop.ensures.0 c.within-stop.ensures.2 (marked_none in_use args.marks.now) args.from
    c.next_wanted-i.result c.next_wanted-i.ensures c.if-i-stop.false c.if-i-end.true

pub returns : goal.returns
returns c =
    let args = c.args in
    next_end (marked in_use args.marks.now) c.within-stop.result args.end (capacity in_use args.marks.now)
    c.within-stop.ensures.0 c.within-stop.ensures.2 (marked_none in_use args.marks.now) args.from
    c.next_wanted-i.result c.next_wanted-i.ensures c.if-i-end.false
