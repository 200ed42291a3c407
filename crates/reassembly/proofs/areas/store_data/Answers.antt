use mathlib.Core.Path.{◌∙◌}
use Rattle.wire_writer.proofs.Putting.{puts}
use Rattle.reassembly.proofs.ViewLaws.{laid_data}
use Rattle.reassembly.proofs.areas.store_data.Goals as goal

pub returns : goal.returns
returns c =
    let args = c.args in
    (puts c.put_run.ensures).stored c.requires ∙ laid_data args.bytes.now args.payload.now args.offset c.requires
