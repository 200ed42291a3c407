-- A chunk alone as a partial, and what it is to take in as combining with it does.
use Rattle.std.specs.Prelude.{ℕ, false, List, ◌≡◌, replicate}
use Rattle.marks.specs.Marks.{Layout, marks_for}
use Rattle.reassembly.specs.Views.{data_view}
use Rattle.reassembly.specs.Record.{Partial, room_of, Good}
use Rattle.reassembly.specs.Reading.{Reading}
use Rattle.reassembly.specs.Machine.{state_of, alone}
use Rattle.reassembly.specs.Judge.{Equal}
use Rattle.reassembly.specs.Operations.{Step, put}
use Rattle.reassembly.specs.declared.record.Message.{Message}

-- "A chunk alone is the started partial with the chunk's record, covering exactly its data at its offset": here the data d, at an
-- offset, is put into a partial that is not started, over areas of zeros, the payload's n bytes long
abbrev pub chunk_alone : Layout → ℕ → Message → ℕ → List ℕ → Partial
chunk_alone L n m at d =
    put m (data_view at d)
    (record {
      rec = record { started = false; message = m; covered = 0 };
      layout = L;
      payload = replicate n 0;
      marks = replicate (marks_for L n) 0;
    })

-- f is the chunk x alone, in order, with room for n bytes
pub record IsAlone (x : Reading) (n : ℕ) (f : Partial) : Type 0 where
  pub good : Good f
  pub room : room_of f ≡ n
  pub is : state_of f ≡ alone x

-- two steps with the same answer, equal results, and the same bytes in both areas
pub record AsPartial (x y : Step) : Type 0 where
  pub verdict : x.verdict ≡ y.verdict
  pub equal : Equal x.after y.after
  pub payload : x.after.payload ≡ y.after.payload
  pub marks : x.after.marks ≡ y.after.marks
