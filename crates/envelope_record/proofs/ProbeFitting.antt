-- What the code's types say of a probe: the number of its ids or strings fits a record's.
-- Assumes nothing.
use Rattle.std.specs.Prelude.{Option, Some, None}
use Prim.Native.Nat.{ℕ, ◌^◌, ◌<◌}
use mathlib.Core.List.{List}
use native.Mathlib.Omega.{arith}
use mir.Val.{Val}
use denote.Laws.{Is}
use denote.Builtin as builtin
use Rattle.std.specs.contracts.option.Option as option
use denote.Enum.Declared as enum
use denote.Enum.Laws as enumLaws
use Rattle.probe.specs.contracts.body.Probe as probe
use Rattle.probe.proofs.body.Probe.TheLaws as probeLaws
use Rattle.probe.specs.declared.body.Probe.{Probe}
use Rattle.probe.specs.Items.{count_in, item_count}

fits_count : (l : Option ℕ) (vs : List Val) → Is (option.the_row builtin.usize) l vs → count_in l < 256 ^ 8
fits_count None vs h = omega arith
fits_count (Some n) vs h = omega (arith, h.1.1.1.1.0.1)

pub fits_items : (p : Probe) (vs : List Val) → Is (enum.row probe.the_type) p vs → item_count p < 256 ^ 8
fits_items (Probe.MetaData l) vs h = fits_count l _ (enumLaws.owed probe.the_type probeLaws.the_laws (Probe.MetaData l) vs h).0
fits_items (Probe.Writers l) vs h = fits_count l _ (enumLaws.owed probe.the_type probeLaws.the_laws (Probe.Writers l) vs h).0
fits_items (Probe.Group g b) vs h = omega arith
fits_items (Probe.Connections l g w) vs h = fits_count l _ (enumLaws.owed probe.the_type probeLaws.the_laws (Probe.Connections l g w) vs h).0
