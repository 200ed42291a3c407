use Rattle.marks.proofs.CountLaws.{count_start}
use Rattle.marks.specs.Marks.{in_use, marked, count_marked}
use mathlib.Core.Path.{◌∙◌}
use Rattle.marks.proofs.count_marked.Goals as goal

pub returns : goal.returns
unfolding count_marked
returns c =
    c.count_between.ensures ∙ count_start c.args.n (marked in_use c.args.marks.now)
