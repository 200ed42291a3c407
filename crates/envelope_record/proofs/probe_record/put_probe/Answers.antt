use mathlib.Core.Path.{sym}
use Rattle.probe.proofs.Fitting.{fits_probe}
use Rattle.envelope_record.proofs.ProbeFitting.{fits_items}
use Rattle.envelope_record.proofs.ProbeBack.{stored_back}
use Rattle.envelope_record.proofs.probe_record.put_probe.Goals as goal

pub returns : goal.returns
returns c =
    stored_back c.args.p c.args.start c.args.out.now _ (fits_probe c.args.p _ c.well_formed.1.0) (fits_items c.args.p _ c.well_formed.1.0)
    (rw (
      sym c.information_of.ensures,
      sym c.probe_null.ensures,
      sym c.item_count.ensures,
      sym c.list_place-first.ensures,
      sym c.group_number.ensures,
      sym c.include_groups.ensures,
      sym c.include_writers.ensures,
    )
    c.put_numbers.ensures)
