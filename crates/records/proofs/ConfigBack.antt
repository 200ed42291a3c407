-- A configuration record that was stored is read as the configuration.
-- Assumes nothing.
use Prim.Native.Nat.{ℕ, suc, ◌+◌, ◌*◌, ◌≤◌, ◌<◌}
use mathlib.Core.Path.{◌≡◌, refl, ap, sym, subst, ◌∙◌}
use mathlib.Core.Bool.{false}
use mathlib.Core.List.{List, [], ◌∷◌, ◌++◌}
use native.Mathlib.Nat.{zero-add}
use native.Mathlib.Omega.{arith}
use borrow.Author.Tests.{le-leb, le-ltb, ltb-false}
use lib.Dec.{ltb}
use lib.ListN.{length, get_or, take, drop, length-append}
use lib.Seq.{drop_at, take-append-le}
use Rattle.wire.specs.Constants.{MOST_FIELDS, MOST_WRITERS}
use Rattle.wire.specs.Number.{le, le_bytes}
use Rattle.wire.proofs.Numbers.{length_le_bytes}
use Rattle.wire.proofs.Cases.{by_bool}
use Rattle.wire_writer.specs.Store.{laid}
use Rattle.wire_writer.specs.Fits.{Numbers}
use Rattle.wire_writer.proofs.Putting.{front}
use Rattle.wire_writer.proofs.Trip.{At, first, second, le_at}
use Rattle.config.specs.declared.Config.{Config}
use Rattle.config.specs.Writers.{at_most}
use Rattle.network_message.specs.Payload.{listed}
use Rattle.records.specs.Numbers.{bytes_each}
use Rattle.records.specs.Writers.{writers_in, fields_in, sixteen, config_bytes, FitsConfig, ConfigBack}

-- numbers of 2 bytes that stand at a position are the ones listed there
each_length : (w : ℕ) (xs : List ℕ) → length (bytes_each w xs) ≡ w * length xs
each_length w [] = omega arith
each_length w (x ∷ xs) = length-append (le_bytes w x) (bytes_each w xs) ∙ (omega (arith, each_length w xs, length_le_bytes w x))

listed_back : (xs : List ℕ) (s : List ℕ) (at : ℕ) → Numbers xs → At s at (bytes_each 2 xs) → listed (length xs) s at ≡ xs
listed_back [] s at f a = refl
listed_back (x ∷ xs) s at f a =
    let e : le 2 s at ≡ x = le_at 2 x at (omega (arith, f 0)) s (first s at (le_bytes 2 x) (bytes_each 2 xs) a) in
    let b : At s (at + 2) (bytes_each 2 xs) = second s at (le_bytes 2 x) (bytes_each 2 xs) a in
    rw (e, listed_back xs s (at + 2) (λ i. f (suc i)) b)

-- a run of bytes that stands at a position
run_back : (b s : List ℕ) (at n : ℕ) → At s at b → n ≤ length b → take n (drop at s) ≡ take n b
run_back b s at n a h =
    ap (λ (l : List ℕ). take n (drop at l)) a.2
    ∙ ap (take n) (drop_at a.0 (b ++ a.1) at a.3)
    ∙ take-append-le n b a.1 h

-- a byte
byte_back : (s : List ℕ) (at x : ℕ) → At s at (le_bytes 1 x) → x < 256 → get_or s at 0 ≡ x
byte_back s at x a h =
    let e : le 1 s at ≡ x = le_at 1 x at (omega arith) s a in
    omega (arith, e)

most_bound : (most n : ℕ) → at_most most n ≤ most
most_bound most n = by_bool _ (ltb most n) (λ b. rw b (omega arith)) (λ b. rw b (omega (arith, ltb-false most n b)))

most_twice : (most n : ℕ) → at_most most (at_most most n) ≡ at_most most n
most_twice most n = rw (le-ltb most (at_most most n) (most_bound most n))

module _ (c : Config) (r : List ℕ) (f : FitsConfig c) (h : 146 ≤ length r) where
  abbrev counts : List ℕ
  counts = le_bytes 1 (at_most MOST_WRITERS c.writers) ++ le_bytes 1 (at_most MOST_FIELDS c.fields)

  abbrev bytes : List ℕ
  bytes = config_bytes c

  abbrev s : List ℕ
  s = laid r 0 bytes

  abbrev with_ids : List ℕ
  with_ids = counts ++ bytes_each 2 c.ids

  abbrev with_sizes : List ℕ
  with_sizes = with_ids ++ bytes_each 2 c.sizes

  abbrev with_starts : List ℕ
  with_starts = with_sizes ++ c.starts

  ids_end : length with_ids ≡ 34
  ids_end = length-append counts (bytes_each 2 c.ids) ∙ (omega (arith, each_length 2 c.ids, f.ids.0))

  sizes_end : length with_sizes ≡ 66
  sizes_end = length-append with_ids (bytes_each 2 c.sizes) ∙ (omega (arith, ids_end, each_length 2 c.sizes, f.sizes.0))

  starts_end : length with_starts ≡ 82
  starts_end = length-append with_sizes c.starts ∙ (omega (arith, sizes_end, f.starts))

  whole : length bytes ≡ 146
  whole = length-append with_starts c.types ∙ (omega (arith, starts_end, f.types))

  stored : s ≡ bytes ++ drop (length bytes) r
  stored = rw (le-leb (0 + length bytes) (length r) (omega (arith, whole))) (front bytes r (omega (arith, whole)))

  long : 146 ≤ length s
  long = omega (arith, ap length stored, length-append bytes (drop (length bytes) r), whole)

  at_types : At s 0 (with_starts ++ c.types)
  at_types = ([], drop (length bytes) r, stored, refl)

  at_starts : At s 0 (with_sizes ++ c.starts)
  at_starts = first s 0 with_starts c.types at_types

  at_sizes : At s 0 (with_ids ++ bytes_each 2 c.sizes)
  at_sizes = first s 0 with_sizes c.starts at_starts

  at_ids : At s 0 (counts ++ bytes_each 2 c.ids)
  at_ids = first s 0 with_ids (bytes_each 2 c.sizes) at_sizes

  at_counts : At s 0 counts
  at_counts = first s 0 counts (bytes_each 2 c.ids) at_ids

  placed : (a b : List ℕ) (n : ℕ) → length a ≡ n → At s 0 (a ++ b) → At s n b
  placed a b n e t = subst (λ (i : ℕ). At s i b) (zero-add (length a) ∙ e) (second s 0 a b t)

  writers_count : get_or s 0 0 ≡ at_most MOST_WRITERS c.writers
  writers_count =
      byte_back s 0 (at_most MOST_WRITERS c.writers)
      (first s 0 (le_bytes 1 (at_most MOST_WRITERS c.writers)) (le_bytes 1 (at_most MOST_FIELDS c.fields)) at_counts)
      (omega (arith, most_bound 16 c.writers))

  fields_count : get_or s 1 0 ≡ at_most MOST_FIELDS c.fields
  fields_count =
      byte_back s 1 (at_most MOST_FIELDS c.fields)
      (placed (le_bytes 1 (at_most MOST_WRITERS c.writers)) (le_bytes 1 (at_most MOST_FIELDS c.fields)) 1 refl at_counts)
      (omega (arith, most_bound 64 c.fields))

  short : ltb (length s) 146 ≡ false
  short = le-ltb (length s) 146 long

  writers : writers_in s ≡ at_most MOST_WRITERS c.writers
  writers = rw (short, writers_count) (most_twice 16 c.writers)

  fields : fields_in s ≡ at_most MOST_FIELDS c.fields
  fields = rw (short, fields_count) (most_twice 64 c.fields)

  list_back : (xs : List ℕ) (at : ℕ) → length xs ≡ 16 → Numbers xs → At s at (bytes_each 2 xs) → sixteen at s ≡ xs
  list_back xs at l n a = rw short (ap (λ (k : ℕ). listed k s at) (sym l) ∙ listed_back xs s at n a)

  pub config_back : ConfigBack s c
  config_back = record {
    ids = ap (λ (n : ℕ). take n (sixteen 2 s)) writers
        ∙ ap (take (at_most MOST_WRITERS c.writers)) (list_back c.ids 2 f.ids.0 f.ids.1 (placed counts (bytes_each 2 c.ids) 2 refl at_ids));
    sizes = ap (λ (n : ℕ). take n (sixteen 34 s)) writers
        ∙ ap (take (at_most MOST_WRITERS c.writers)) (list_back c.sizes 34 f.sizes.0 f.sizes.1 (placed with_ids (bytes_each 2 c.sizes) 34 ids_end at_sizes));
    starts = ap (λ (n : ℕ). take n (drop 66 s)) writers
        ∙ run_back c.starts s 66 (at_most MOST_WRITERS c.writers) (placed with_sizes c.starts 66 sizes_end at_starts) (omega (arith, f.starts, most_bound 16 c.writers));
    types = ap (λ (n : ℕ). take n (drop 82 s)) fields
        ∙ run_back c.types s 82 (at_most MOST_FIELDS c.fields) (placed with_starts c.types 82 starts_end at_types) (omega (arith, f.types, most_bound 64 c.fields));
  }
