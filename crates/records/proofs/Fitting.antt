-- What the code's types say of a PublisherId: its number fits its type.
-- Assumes nothing.
use mathlib.Core.List.{List}
use native.Mathlib.Omega.{arith}
use mir.Val.{Val}
use denote.Laws.{Is}
use denote.Enum.Declared as enum
use denote.Enum.Laws as enumLaws
use Rattle.publisher_id.specs.contracts.publisher.PublisherId as id
use Rattle.publisher_id.proofs.publisher.PublisherId.TheLaws as idLaws
use Rattle.publisher_id.specs.declared.publisher.PublisherId.{PublisherId}
use Rattle.records.specs.Publisher.{FitsId}

pub fits_id : (x : PublisherId) (vs : List Val) → Is (enum.row id.the_type) x vs → FitsId x
fits_id PublisherId.Absent vs h = tt
fits_id (PublisherId.Byte v) vs h = omega (arith, (enumLaws.owed id.the_type idLaws.the_laws (PublisherId.Byte v) vs h).0)
fits_id (PublisherId.UInt16 v) vs h = omega (arith, (enumLaws.owed id.the_type idLaws.the_laws (PublisherId.UInt16 v) vs h).0)
fits_id (PublisherId.UInt32 v) vs h = omega (arith, (enumLaws.owed id.the_type idLaws.the_laws (PublisherId.UInt32 v) vs h).0)
fits_id (PublisherId.UInt64 v) vs h = omega (arith, (enumLaws.owed id.the_type idLaws.the_laws (PublisherId.UInt64 v) vs h).0)
fits_id (PublisherId.Text n) vs h = omega (arith, (enumLaws.owed id.the_type idLaws.the_laws (PublisherId.Text n) vs h).0)
