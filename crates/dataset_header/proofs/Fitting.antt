-- What the code's types say of a header: each number fits.
-- Assumes nothing.
use mathlib.Core.List.{List}
use mir.Val.{Val}
use denote.Laws.{Is}
use denote.Struct.Declared as struct
use denote.Struct.Laws as structLaws
use Rattle.wire_writer.proofs.Fitting.{fits16, fits32, fits_i64}
use Rattle.dataset_header.specs.contracts.header.Header as header
use Rattle.dataset_header.proofs.header.Header.TheLaws as headerLaws
use Rattle.dataset_header.specs.declared.header.Header.{Header}
use Rattle.dataset_header.specs.Header.{FitsHeader}

pub fits_header : (x : Header) (vs : List Val) → Is (struct.row header.the_type) x vs → FitsHeader x
fits_header x vs h =
    let k = structLaws.owed header.the_type headerLaws.the_laws x vs h in
    record {
      sequence = fits16 x.sequence _ k.1.1.0;
      timestamp = fits_i64 x.timestamp _ k.1.1.1.0;
      picoseconds = fits16 x.picoseconds _ k.1.1.1.1.0;
      status = fits16 x.status _ k.1.1.1.1.1.0;
      major = fits32 x.major _ k.1.1.1.1.1.1.0;
      minor = fits32 x.minor _ k.1.1.1.1.1.1.1.0;
    }
