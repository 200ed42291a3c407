-- A probe record that was stored is read back: the probe, and the cursor before its first id or string.
-- Assumes nothing.
use Rattle.std.specs.Prelude.{Option, Some, None}
use Prim.Native.Nat.{ℕ, ◌^◌, ◌≤◌, ◌<◌}
use mathlib.Core.Path.{◌≡◌, refl, ap, sym, subst, ◌∙◌}
use mathlib.Core.Bool.{Bool, true, ◌&&◌}
use mathlib.Core.List.{List, []}
use native.Mathlib.Omega.{arith}
use native.Mathlib.Nat.{zero-add}
use borrow.Author.Tests.{le-leb, ltb-false}
use lib.Dec.{eqb, leb, ltb}
use lib.ListN.{length, get_or, drop}
use Rattle.wire.proofs.Cases.{by_bool}
use Rattle.wire_writer.specs.Store.{laid}
use Rattle.wire_writer.proofs.Trip.{At}
use Rattle.config.specs.Writers.{at_most}
use Rattle.probe.specs.declared.body.Probe.{Probe}
use Rattle.probe.specs.Body.{information_rule}
use Rattle.probe.specs.Items.{count_in, item_count}
use Rattle.probe.specs.Put.{information_of, FitsProbe}
use Rattle.records.specs.Numbers.{number_at, number_bytes}
use Rattle.records.specs.Items.{fits_item}
use Rattle.records.proofs.Storing.{bytes_length}
use Rattle.records.proofs.ReadBack.{AllFit, number_read, stored_at, at_most_same}
use Rattle.envelope_record.specs.Probe.{null_number, probe_null, list_start, list_place, probe_group, include_groups, include_writers, probe_numbers, list_given, probe_by, probe_in, information_refusal, probe_fits, ProbeRecordBack}

-- ---- each number fits a record's
information_bound : (p : Probe) → information_of p < 256 ^ 8
information_bound (Probe.MetaData l) = omega arith
information_bound (Probe.Writers l) = omega arith
information_bound (Probe.Group g b) = omega arith
information_bound (Probe.Connections l g w) = omega arith

list_bound : (l : Option ℕ) → null_number l < 256 ^ 8
list_bound None = omega arith
list_bound (Some n) = omega arith

null_bound : (p : Probe) → probe_null p < 256 ^ 8
null_bound (Probe.MetaData l) = list_bound l
null_bound (Probe.Writers l) = list_bound l
null_bound (Probe.Group g b) = omega arith
null_bound (Probe.Connections l g w) = list_bound l

place_of_bound : (p : Probe) (start : ℕ) → start ≤ 65535 → list_start p start < 256 ^ 8
place_of_bound (Probe.MetaData l) start h = omega arith
place_of_bound (Probe.Writers l) start h = omega arith
place_of_bound (Probe.Group g b) start h = omega arith
place_of_bound (Probe.Connections l g w) start h = omega arith

place_bound : (p : Probe) (start : ℕ) → list_place p start < 256 ^ 8
place_bound p start = by_bool _ (ltb 65535 start) (λ b. rw b (omega arith)) (λ b. rw b (place_of_bound p start (ltb-false 65535 start b)))

group_bound : (p : Probe) → FitsProbe p → probe_group p < 65536
group_bound (Probe.MetaData l) f = omega arith
group_bound (Probe.Writers l) f = omega arith
group_bound (Probe.Group g b) f = f.0
group_bound (Probe.Connections l g w) f = omega arith

groups_bound : (p : Probe) → FitsProbe p → include_groups p < 256
groups_bound (Probe.MetaData l) f = omega arith
groups_bound (Probe.Writers l) f = omega arith
groups_bound (Probe.Group g b) f = omega arith
groups_bound (Probe.Connections l g w) f = f.0

writers_bound : (p : Probe) → FitsProbe p → include_writers p < 256
writers_bound (Probe.MetaData l) f = omega arith
writers_bound (Probe.Writers l) f = omega arith
writers_bound (Probe.Group g b) f = f.1
writers_bound (Probe.Connections l g w) f = f.1

-- ---- each part, from its numbers
list_back : (l : Option ℕ) → list_given (null_number l) (count_in l) ≡ l
list_back None = refl
list_back (Some n) = refl

probe_back : (p : Probe) → FitsProbe p
    → probe_by (information_of p) (list_given (probe_null p) (item_count p)) (at_most 65535 (probe_group p)) (at_most 255 (include_groups p)) (at_most 255 (include_writers p)) ≡ p
probe_back (Probe.MetaData l) f = ap Probe.MetaData (list_back l)
probe_back (Probe.Writers l) f = ap Probe.Writers (list_back l)
probe_back (Probe.Group g b) f = rw (at_most_same 65535 g (omega (arith, f.0)), at_most_same 255 b (omega (arith, f.1)))
probe_back (Probe.Connections l g w) f = rw (list_back l, at_most_same 255 g (omega (arith, f.0)), at_most_same 255 w (omega (arith, f.1)))

type_back : (p : Probe) → information_rule (at_most 255 (information_of p)) ≡ 0
type_back (Probe.MetaData l) = refl
type_back (Probe.Writers l) = refl
type_back (Probe.Group g b) = refl
type_back (Probe.Connections l g w) = refl

abbrev all_fit : ℕ → ℕ → ℕ → ℕ → Bool
all_fit t g a b = fits_item (eqb t 4) 65535 g && (fits_item (eqb t 5) 255 a && fits_item (leb 4 t) 255 b)

fits_back : (p : Probe) → FitsProbe p → all_fit (information_of p) (probe_group p) (include_groups p) (include_writers p) ≡ true
fits_back (Probe.MetaData l) f = refl
fits_back (Probe.Writers l) f = refl
fits_back (Probe.Group g b) f = rw (le-leb g 65535 (omega (arith, f.0)), le-leb b 255 (omega (arith, f.1)))
fits_back (Probe.Connections l g w) f = rw (le-leb g 255 (omega (arith, f.0)), le-leb w 255 (omega (arith, f.1)))

-- ---- the record
module _ (p : Probe) (start : ℕ) (r : List ℕ) (f : FitsProbe p) (c : item_count p < 256 ^ 8) (h : 128 ≤ length r) where
  abbrev numbers : List ℕ
  numbers = probe_numbers p start

  abbrev s : List ℕ
  s = laid r 0 (number_bytes numbers)

  long : length (number_bytes numbers) ≡ 128
  long = bytes_length numbers

  at : At s 0 (number_bytes numbers)
  at = ([], drop (length (number_bytes numbers)) r, stored_at r (number_bytes numbers) (omega (arith, long)), refl)

  fit : AllFit numbers
  fit = (
    information_bound p,
    (
      null_bound p,
      (
        c,
        (
          place_bound p start,
          (
            omega (arith, group_bound p f),
            (
              omega (arith, groups_bound p f),
              (
                omega (arith, writers_bound p f),
                (
                  omega arith,
                  (
                    place_bound p start,
                    (omega arith, (omega arith, (omega arith, (omega arith, (omega arith, (omega arith, (omega arith, tt))))))),
                  ),
                ),
              ),
            ),
          ),
        ),
      ),
    ),
  )

  read : (i : ℕ) → i < 16 → number_at s i ≡ get_or numbers i 0
  read i l = ap (number_at s) (sym (zero-add i)) ∙ number_read numbers 0 s at fit i l

  record_back : ProbeRecordBack s p start
  record_back =
      let n0 = read 0 (omega arith) in
      let n1 = read 1 (omega arith) in
      let n2 = read 2 (omega arith) in
      let n4 = read 4 (omega arith) in
      let n5 = read 5 (omega arith) in
      let n6 = read 6 (omega arith) in
      let n7 = read 7 (omega arith) in
      let n8 = read 8 (omega arith) in
      let whole : probe_in s ≡ probe_by (information_of p) (list_given (probe_null p) (item_count p)) (at_most 65535 (probe_group p))
      (at_most 255 (include_groups p)) (at_most 255 (include_writers p)) =
      λ i. probe_by (n0 i) (list_given (n1 i) (n2 i)) (at_most 65535 (n4 i)) (at_most 255 (n5 i)) (at_most 255 (n6 i)) in
      let type : information_refusal s ≡ information_rule (at_most 255 (information_of p)) = λ i. information_rule (at_most 255 (n0 i)) in
      let fitting : probe_fits s ≡ all_fit (information_of p) (probe_group p) (include_groups p) (include_writers p) = λ i. all_fit (n0 i) (n4 i) (n5 i) (n6 i) in
      record {
        probe = whole ∙ probe_back p f;
        type = type ∙ type_back p;
        fitting = fitting ∙ fits_back p f;
        cursor = λ i. record { index = n7 i; at = n8 i };
      }

-- what is stored, and what is read of it
pub stored_back : (p : Probe) (start : ℕ) (r exit : List ℕ) → FitsProbe p → item_count p < 256 ^ 8 → exit ≡ laid r 0 (number_bytes (probe_numbers p start))
    → (exit ≡ laid r 0 (number_bytes (probe_numbers p start))) × (128 ≤ length r → ProbeRecordBack exit p start)
stored_back p start r exit f c e = (e, λ h. subst (λ (s : List ℕ). ProbeRecordBack s p start) (sym e) (record_back p start r f c h))
