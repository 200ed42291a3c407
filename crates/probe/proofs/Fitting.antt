-- What the code's types say of a probe: each number fits.
-- Assumes nothing.
use mathlib.Core.List.{List}
use native.Mathlib.Omega.{arith}
use mir.Val.{Val}
use denote.Laws.{Is}
use denote.Enum.Declared as enum
use denote.Enum.Laws as enumLaws
use Rattle.probe.specs.contracts.body.Probe as probe
use Rattle.probe.proofs.body.Probe.TheLaws as probeLaws
use Rattle.probe.specs.declared.body.Probe.{Probe}
use Rattle.probe.specs.Put.{FitsProbe}

pub fits_probe : (p : Probe) (vs : List Val) → Is (enum.row probe.the_type) p vs → FitsProbe p
fits_probe (Probe.MetaData l) vs h = tt
fits_probe (Probe.Writers l) vs h = tt
fits_probe (Probe.Group g b) vs h =
    let k = enumLaws.owed probe.the_type probeLaws.the_laws (Probe.Group g b) vs h in
    (omega (arith, k.0), omega (arith, k.1.0))
fits_probe (Probe.Connections l g w) vs h =
    let k = enumLaws.owed probe.the_type probeLaws.the_laws (Probe.Connections l g w) vs h in
    (omega (arith, k.1.0), omega (arith, k.1.1.0))
