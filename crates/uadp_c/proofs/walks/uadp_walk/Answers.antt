use Rattle.uadp_c.proofs.Wrote.{of_writers, walks}
use Rattle.uadp_c.proofs.walks.uadp_walk.Goals as goal

pub returns : goal.returns
returns c =
    let args = c.args in
    walks args.config.now args.datagram.now _ _ _ _ args.records.now _ c.walk.result _
    (of_writers 2 args.config.now _ _ _ c.writer_count-n.ensures.0 c.ids-all_ids.ensures c.first.ensures)
    (of_writers 34 args.config.now _ _ _ c.writer_count-n.ensures.0 c.sizes-all_sizes.ensures c.first-2.ensures)
    c.starts.ensures c.types.ensures c.walk.ensures c.walked_result.ensures
