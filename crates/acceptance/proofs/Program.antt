-- The listing program lists the listing, and a configuration means what its text says.
use Rattle.std.specs.Prelude.{Result}
use Rattle.wire.specs.declared.refusal.Refusal.{Refusal}
use Rattle.config.specs.declared.Config.{Config}
use Prim.Native.Nat.{ℕ}
use mathlib.Core.Path.{◌≡◌, refl, sym, ap, ◌∙◌}
use mathlib.Core.Bool.{Bool, true, false, cond}
use mathlib.Core.List.{List, [], ◌∷◌}
use native.Mathlib.Omega.{arith}
use borrow.Author.Tests.{ltb-true, ltb-false, le-ltb}
use lib.Dec.{ltb, eqb}
use lib.ListN.{length, take}
use lib.Seq.{take_all}
use Rattle.wire.specs.Constants.{MOST_DATAGRAM, MOST_WRITERS}
use Rattle.config_text.specs.Config.{config_of, config_number, place_in, config_in}
use Rattle.config_text.proofs.Joined.{config_within}
use Rattle.config_text.proofs.Long as long
use Rattle.config_text.proofs.Meant.{config_means}
use Rattle.walk.specs.Lines.{Writers, writers_of, lines_from, datagram_lines, listing_of, start_cursor}
use Rattle.walk.specs.declared.entry.Line.{Line}
use Rattle.walk.specs.declared.lines.LineCursor.{LineCursor}
use Rattle.walk.proofs.Listing.{start_lists}
use Rattle.listing.specs.Line.{line_text}
use Rattle.listing.specs.Text.{lines_text}
use Rattle.listing.specs.Program.{TEXT_ROOM, program_cursor}
use Rattle.listing.proofs.Blocks as blocks
use Rattle.acceptance.specs.Program.{Program, Means}

-- the front of a text that the program holds is read as the text
same_config : (text : List ℕ) → config_of (take TEXT_ROOM text) ≡ config_of text
same_config text = go (ltb (length text) TEXT_ROOM) refl
  where
    go : (b : Bool) → ltb (length text) TEXT_ROOM ≡ b → config_of (take TEXT_ROOM text) ≡ config_of text
    go true e = ap config_of (take_all TEXT_ROOM text (omega (arith, ltb-true (length text) TEXT_ROOM e)))
    go false e = (long.long_text text TEXT_ROOM (omega arith) (ltb-false (length text) TEXT_ROOM e)).0

-- what is listed of the front of a datagram, under a configuration whose reading gave a number and a place
module _ (w : Writers) (number place : ℕ) (d : List ℕ) where
  -- a refused configuration
  refused_lists : (more : Bool) → eqb number 0 ≡ false
      → lines_text (take MOST_DATAGRAM d) (lines_from w (take MOST_DATAGRAM d) (program_cursor more number place w.sizes (take MOST_DATAGRAM d)))
      ≡ lines_text d (listing_of number place w d)
  unfolding listing_of line_text
  refused_lists more p = rw p

  -- a datagram above the buffer
  long_lists : eqb number 0 ≡ true → ltb MOST_DATAGRAM (length d) ≡ true
      → lines_text (take MOST_DATAGRAM d) (lines_from w (take MOST_DATAGRAM d) (program_cursor true number place w.sizes (take MOST_DATAGRAM d)))
      ≡ lines_text d (listing_of number place w d)
  unfolding listing_of line_text
  long_lists p q = rw (p, q)

  -- one that it holds whole
  cursor_is : (s : List ℕ) → eqb number 0 ≡ true → program_cursor false number place w.sizes s ≡ start_cursor 0 0 w.sizes s
  cursor_is s p = ap (λ (b : Bool). cond b (start_cursor 0 0 w.sizes s) (LineCursor.Bad number place)) p

  listing_is : eqb number 0 ≡ true → listing_of 0 0 w d ≡ listing_of number place w d
  unfolding listing_of
  listing_is p = sym (ap (λ (b : Bool). cond b (datagram_lines w d) (Line.Bad number place ∷ [])) p)

  whole_lists : (s : List ℕ) → s ≡ d → eqb number 0 ≡ true
      → lines_text s (lines_from w s (program_cursor false number place w.sizes s)) ≡ lines_text d (listing_of number place w d)
  whole_lists s e p =
      ap (λ (c : LineCursor). lines_text s (lines_from w s c)) (cursor_is s p)
      ∙ ap (λ (s : List ℕ). lines_text s (lines_from w s (start_cursor 0 0 w.sizes s))) e
      ∙ ap (lines_text d) (start_lists w d 0 0 ∙ listing_is p)

  front_by : (a b : Bool) → eqb number 0 ≡ a → ltb MOST_DATAGRAM (length d) ≡ b
      → lines_text (take MOST_DATAGRAM d) (lines_from w (take MOST_DATAGRAM d) (program_cursor b number place w.sizes (take MOST_DATAGRAM d)))
      ≡ lines_text d (listing_of number place w d)
  front_by false b p q = refused_lists b p
  front_by true true p q = long_lists p q
  front_by true false p q = whole_lists (take MOST_DATAGRAM d) (take_all MOST_DATAGRAM d (ltb-false MOST_DATAGRAM (length d) q)) p

  front_lists : lines_text (take MOST_DATAGRAM d) (lines_from w (take MOST_DATAGRAM d) (program_cursor (ltb MOST_DATAGRAM (length d)) number place w.sizes (take MOST_DATAGRAM d)))
      ≡ lines_text d (listing_of number place w d)
  front_lists = front_by (eqb number 0) (ltb MOST_DATAGRAM (length d)) refl refl

meant : (text : List ℕ) → config_number (config_of text) ≡ 0 → Means text (writers_of (config_in (config_of text)))
meant text h =
    let (starts, types, l, by-id) = config_means text h in
    let c = (config_in (config_of text)) in
    let few = le-ltb MOST_WRITERS c.writers (config_within text).0 in
    record {
      ids = rw few l.ids_are;
      sizes = rw few l.sizes_are;
      types = λ id. rw (few, l.ids_are, l.starts_are, l.types_are) (by-id id);
    }

pub program : Program
program = record {
  means = meant;
  lists = λ text d.
      ap (λ (r : Result Config Refusal). lines_text (take MOST_DATAGRAM d)
      (lines_from (writers_of (config_in r)) (take MOST_DATAGRAM d)
      (program_cursor (ltb MOST_DATAGRAM (length d)) (config_number r) (place_in r) (writers_of (config_in r)).sizes (take MOST_DATAGRAM d)))) (same_config text)
      ∙ front_lists (writers_of (config_in (config_of text))) (config_number (config_of text)) (place_in (config_of text)) d;
  long_text = λ text h. long.long_text text TEXT_ROOM (omega arith) h;
  block_and_rest = blocks.block_and_rest;
}
