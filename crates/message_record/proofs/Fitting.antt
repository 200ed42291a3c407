-- What the code's types say of a message's head: each number fits.
-- Assumes nothing.
use Prim.Native.Nat.{ℕ, ◌^◌, ◌<◌}
use mathlib.Core.List.{List}
use native.Mathlib.Omega.{arith}
use mir.Val.{Val}
use denote.Laws.{Is}
use denote.Struct.Declared as struct
use denote.Struct.Laws as structLaws
use Rattle.dataset_header.specs.contracts.header.Header as header
use Rattle.dataset_header.specs.declared.header.Header.{Header}
use Rattle.dataset_header.proofs.Fitting.{fits_header}
use Rattle.dataset_fields.specs.contracts.fields.Cursor as cursor
use Rattle.dataset_fields.proofs.fields.Cursor.TheLaws as cursorLaws
use Rattle.dataset_fields.specs.declared.fields.Cursor.{Cursor}
use Rattle.message_record.specs.Message.{FitsHead}

pub fits_head : (h : Header) (k : Cursor) (end : ℕ) (vs ws : List Val) → Is (struct.row header.the_type) h vs → Is (struct.row cursor.the_type) k ws → end < 256 ^ 8
    → FitsHead (record { header = h; cursor = k; end = end })
fits_head h k end vs ws a b e =
    let c = structLaws.owed cursor.the_type cursorLaws.the_laws k ws b in
    record {
      header = fits_header h vs a;
      next = omega (arith, c.1.1.0);
      count = omega (arith, c.1.1.1.0);
      at = omega (arith, c.1.1.1.1.0);
      end = e;
    }
