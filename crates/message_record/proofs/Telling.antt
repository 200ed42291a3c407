-- What the quick way tells of the field that a cursor stands before is what a step answers.
-- Assumes nothing.
use Prim.Native.Nat.{ℕ, ◌<◌, ◌≤◌}
use mathlib.Core.Path.{◌≡◌}
use mathlib.Core.Bool.{false}
use mathlib.Core.List.{List, []}
use borrow.Author.Tests.{le-ltb, lt-leb}
use lib.ListN.{length}
use Rattle.wire.specs.Answer.{got}
use Rattle.wire.proofs.Places.{within}
use Rattle.value.specs.Value.{Measure}
use Rattle.dataset_fields.specs.Fields.{encoded_at, next_field_at}
use Rattle.dataset_fields.specs.declared.fields.Cursor.{Cursor}
use Rattle.dataset_fields.proofs.Judging.{encoded_steady}
use Rattle.message_record.specs.Message.{encoding_in}
use Rattle.message_record.specs.Quick.{field_told, cursor_told}

tells : (s types : List ℕ) (c : Cursor) (m : Measure) (end : ℕ) → c.delta ≡ false → c.next < c.count → c.at ≤ length s
    → encoded_at c.encoding types c.next s c.at ≡ got m end
    → next_field_at c types s ≡ got (record { field = field_told c m.kind m.shape end; cursor = cursor_told c end }) end
tells s types c m end d n a q = rw (le-ltb (length s) c.at a, lt-leb c.count c.next n, d, q)

-- a field, from a look at its value by the number of its encoding
module _ (s : List ℕ) (n : ℕ) (c : Cursor) (m : Measure) (end : ℕ) (a : c.at ≤ length s)
    (q : (types : List ℕ) (k : ℕ) → encoded_at (encoding_in n) types k s c.at ≡ got m end) where
  -- its value does not end before it starts
  pub onward : c.at ≤ end
  onward = (within (encoded_steady (encoding_in n) [] 0 s c.at (q [] 0)) s c.at a (q [] 0)).0
