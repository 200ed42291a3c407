use Rattle.reassembly.proofs.AreaLaws.{source_all}
use Rattle.reassembly.proofs.ViewLaws.{run_same}
use Rattle.reassembly.specs.Areas.{marked_view}
use Rattle.reassembly.specs.Views.{bytes_view}
use Rattle.marks.specs.Marks.{in_use}
use native.Mathlib.Omega.{arith}
use mathlib.Core.Path.{sym, ◌∙◌}
use Rattle.reassembly.proofs.areas.store_run.Goals as goal

pub returns-then-covered-end : goal.returns-then-covered-end
returns-then-covered-end c =
    let args = c.args in
    let q = args.source.payload.now in
    let n = args.source.marks.now in
    c.store_all.ensures
    ∙ run_same (bytes_view q) (marked_view in_use args.end q n) args.payload.now args.start args.end
    (λ i h l. sym (source_all in_use args.end q n args.start args.end (omega arith) (sym c.count_between-covered.ensures ∙ c.if-covered-end.true) i h l))
