use Rattle.dataset_fields.proofs.Alike.{leads_past}
use Rattle.dataset_fields.proofs.fields.start.Goals as goal

pub returns-then-delta-count : goal.returns-then-delta-count
returns-then-delta-count c =
    let args = c.args in
    leads_past args.s.now args.at args.delta _ c.if-delta-count.true args.count _ _ c.leading.ensures.0 c.leading.ensures.1
