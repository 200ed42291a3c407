use mathlib.Core.Path.{◌∙◌}
use Rattle.config.proofs.Asked.{any_contains}
use Rattle.config.proofs.has_writer.Goals as goal

pub returns : goal.returns
returns c = c.contains.ensures.value ∙ any_contains c.args.id c.args.ids.now
