-- The listing program and the configuration (document 01, "Configuration and listing"), one field for each sentence.
use Rattle.std.specs.Prelude.{Some}
use Rattle.std.specs.Prelude.{ℕ, ◌≤◌, ◌≡◌, List, ◌++◌, ltb, length, take}
use Rattle.wire.specs.Constants.{BAD_LINE, MOST_DATAGRAM}
use Rattle.config.specs.Writers.{types_of}
use Rattle.config_text.specs.Config.{config_of, config_number, place_in, config_in}
use Rattle.config_text.specs.Meaning.{meaning_of, writer_ids, writer_sizes, types_by_id}
use Rattle.walk.specs.Lines.{Writers, writers_of, lines_from, cursor_after, listing}
use Rattle.walk.specs.declared.lines.LineCursor.{LineCursor}
use Rattle.listing.specs.Text.{lines_text, lines_fitting, block_text}
use Rattle.listing.specs.Program.{TEXT_ROOM, program_cursor}

-- what the program lists, of a whole text and a whole datagram of which it holds the fronts
abbrev pub program_text : List ℕ → List ℕ → List ℕ
program_text text d =
    let held = take MOST_DATAGRAM d in
    let read = config_of (take TEXT_ROOM text) in
    let w = writers_of (config_in read) in
    lines_text held (lines_from w held (program_cursor (ltb MOST_DATAGRAM (length d)) (config_number read) (place_in read) w.sizes held))

-- what is read from a text, as the lists that the questions go by, is what the text means
pub record Means (text : List ℕ) (w : Writers) : Type 0 where
  pub ids : w.ids ≡ writer_ids (meaning_of text)
  pub sizes : w.sizes ≡ writer_sizes (meaning_of text)
  pub types : (id : ℕ) → types_of w.ids w.starts w.types (Some id) ≡ types_by_id (meaning_of text) id

pub record Program : Type 0 where
  -- "`field`, a fixed type's number, for the writer above": an accepted text's writers, in order, with the fields under each
  pub means : (text : List ℕ) → config_number (config_of text) ≡ 0 → Means text (writers_of (config_in (config_of text)))
  -- "The program takes it from `readers.txt` .. and holds a datagram .. in one buffer of 65,535 bytes": what it lists is the listing, of
  -- any text and any datagram, also of those that it does not hold whole
  pub lists : (text d : List ℕ) → program_text text d ≡ lines_text d (listing text d)
  -- a text above its buffer is refused, and the front that it holds is refused alike
  pub long_text : (text : List ℕ) → TEXT_ROOM ≤ length text
      → (config_of (take TEXT_ROOM text) ≡ config_of text) × (config_number (config_of text) ≡ BAD_LINE)
  -- blocks of whole lines: a block, and the text from the cursor after it, are the text
  pub block_and_rest : (w : Writers) (d : List ℕ) (room : ℕ) (c : LineCursor)
      → lines_text d (lines_from w d c)
      ≡ block_text d room (lines_from w d c) ++ lines_text d (lines_from w d (cursor_after w d (lines_fitting d room (lines_from w d c)) c))
