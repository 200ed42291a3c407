-- A head record that was stored is read back: the header and the cursor.
-- Assumes nothing.
use Prim.Native.Nat.{ℕ, ◌+◌, ◌*◌, ◌^◌, ◌≤◌, ◌<◌}
use mathlib.Core.Path.{◌≡◌, refl, ap, sym, ◌∙◌}
use mathlib.Core.Bool.{Bool, not, ◌&&◌}
use mathlib.Core.List.{List, []}
use native.Mathlib.Omega.{arith}
use lib.Dec.{eqb}
use native.Mathlib.Nat.{zero-add}
use lib.ListN.{length, get_or, drop}
use Rattle.wire.specs.Answer.{bit, bits}
use Rattle.wire_writer.specs.Store.{laid}
use Rattle.wire_writer.proofs.Trip.{At}
use Rattle.dataset_header.specs.Flags.{valid, encoding_number, kind_number}
use Rattle.dataset_header.specs.declared.flags.Encoding.{Encoding}
use Rattle.dataset_header.specs.declared.flags.Kind.{Kind}
use Rattle.dataset_header.specs.declared.header.Header.{Header}
use Rattle.dataset_message.specs.Message.{Message}
use Rattle.records.specs.Numbers.{number_at, number_bytes}
use Rattle.records.specs.Items.{has_item, given16, given32, given_i64, fits_item}
use Rattle.records.proofs.Storing.{bytes_length}
use Rattle.wire.specs.Number.{le_bytes}
use Rattle.dataset_fields.specs.declared.fields.Cursor.{Cursor}
use Rattle.records.proofs.ReadBack.{AllFit, number_laid, number_kept, laid_length, number_read, stored_at, given16_back, given32_back, given_i64_back, fits16_back, fits32_back, told, is_on_flag, flag_fits, has_bound, value16_bound, value32_bound, value_i64_bound}
use Rattle.message_record.specs.Message.{encoding_in, kind_in, items_number, head_numbers, cursor_in, cursor_laid, header_in, head_fits, FitsHead, HeadBack}

-- two arguments that are the same
both : {A B D : Type 0} (g : A → B → D) {a x : A} {b y : B} → a ≡ x → b ≡ y → g a b ≡ g x y
both g p q z = g (p z) (q z)

encoding_back : (e : Encoding) → encoding_in (encoding_number e) ≡ e
encoding_back Encoding.Variant = refl
encoding_back Encoding.RawData = refl
encoding_back Encoding.DataValue = refl

kind_back : (k : Kind) → kind_in (kind_number k) ≡ k
kind_back Kind.Key = refl
kind_back Kind.Delta = refl
kind_back Kind.Event = refl
kind_back Kind.KeepAlive = refl

encoding_bound : (e : Encoding) → encoding_number e < 3
encoding_bound Encoding.Variant = omega arith
encoding_bound Encoding.RawData = omega arith
encoding_bound Encoding.DataValue = omega arith

kind_bound : (k : Kind) → kind_number k < 4
kind_bound Kind.Key = omega arith
kind_bound Kind.Delta = omega arith
kind_bound Kind.Event = omega arith
kind_bound Kind.KeepAlive = omega arith

module _ (m : Message) (r : List ℕ) (f : FitsHead m) (h : 160 ≤ length r) where
  abbrev header : Header
  header = m.header

  abbrev numbers : List ℕ
  numbers = head_numbers (valid m)

  abbrev s : List ℕ
  s = laid r 0 (number_bytes numbers)

  long : length (number_bytes numbers) ≡ 160
  long = bytes_length numbers

  at : At s 0 (number_bytes numbers)
  at = ([], drop (length (number_bytes numbers)) r, stored_at r (number_bytes numbers) (omega (arith, long)), refl)

  items : items_number header < 64
  items = omega (
    arith,
    has_bound header.sequence,
    has_bound header.timestamp,
    has_bound header.picoseconds,
    has_bound header.status,
    has_bound header.major,
    has_bound header.minor,
  )

  fit : AllFit numbers
  fit = (
    omega arith,
    (
      omega (arith, encoding_bound header.encoding),
      (
        omega (arith, kind_bound header.kind),
        (
          omega (arith, items),
          (
            omega (arith, value16_bound header.sequence f.header.sequence),
            (
              value_i64_bound header.timestamp f.header.timestamp,
              (
                omega (arith, value16_bound header.picoseconds f.header.picoseconds),
                (
                  omega (arith, value16_bound header.status f.header.status),
                  (
                    omega (arith, value32_bound header.major f.header.major),
                    (
                      omega (arith, value32_bound header.minor f.header.minor),
                      (
                        omega (arith, encoding_bound m.cursor.encoding),
                        (
                          flag_fits m.cursor.delta,
                          (
                            f.next,
                            (
                              f.count,
                              (
                                f.at,
                                (
                                  f.end,
                                  (
                                    omega arith,
                                    (
                                      omega arith,
                                      (
                                        omega arith,
                                        (
                                          omega arith,
                                          tt,
                                        ),
                                      ),
                                    ),
                                  ),
                                ),
                              ),
                            ),
                          ),
                        ),
                      ),
                    ),
                  ),
                ),
              ),
            ),
          ),
        ),
      ),
    ),
  )

  read : (i : ℕ) → i < 20 → number_at s i ≡ get_or numbers i 0
  read i l = ap (number_at s) (sym (zero-add i)) ∙ number_read numbers 0 s at fit i l

  -- the bits of the items that are present
  item_bit : (k x : ℕ) (on : Bool) → bits k 1 (items_number header) ≡ x → eqb x 1 ≡ on → bit k (number_at s 3) ≡ on
  item_bit k x on e t = ap (bit k) (read 3 (omega arith)) ∙ ap (λ (n : ℕ). eqb n 1) e ∙ t

  pub head_back : HeadBack s m
  head_back =
      let q = has_bound header.sequence in
      let t = has_bound header.timestamp in
      let p = has_bound header.picoseconds in
      let u = has_bound header.status in
      let a = has_bound header.major in
      let i = has_bound header.minor in
      let b0 = item_bit 0 (has_item header.sequence) _ (omega (arith, q, t, p, u, a, i)) (told header.sequence) in
      let b1 = item_bit 1 (has_item header.timestamp) _ (omega (arith, q, t, p, u, a, i)) (told header.timestamp) in
      let b2 = item_bit 2 (has_item header.picoseconds) _ (omega (arith, q, t, p, u, a, i)) (told header.picoseconds) in
      let b3 = item_bit 3 (has_item header.status) _ (omega (arith, q, t, p, u, a, i)) (told header.status) in
      let b4 = item_bit 4 (has_item header.major) _ (omega (arith, q, t, p, u, a, i)) (told header.major) in
      let b5 = item_bit 5 (has_item header.minor) _ (omega (arith, q, t, p, u, a, i)) (told header.minor) in
      let e = ap encoding_in (read 1 (omega arith)) ∙ encoding_back header.encoding in
      let k = ap kind_in (read 2 (omega arith)) ∙ kind_back header.kind in
      let h0 = both given16 b0 (read 4 (omega arith)) ∙ given16_back header.sequence f.header.sequence in
      let h1 = both given_i64 b1 (read 5 (omega arith)) ∙ given_i64_back header.timestamp f.header.timestamp in
      let h2 = both given16 b2 (read 6 (omega arith)) ∙ given16_back header.picoseconds f.header.picoseconds in
      let h3 = both given16 b3 (read 7 (omega arith)) ∙ given16_back header.status f.header.status in
      let h4 = both given32 b4 (read 8 (omega arith)) ∙ given32_back header.major f.header.major in
      let h5 = both given32 b5 (read 9 (omega arith)) ∙ given32_back header.minor f.header.minor in
      let ce = ap encoding_in (read 10 (omega arith)) ∙ encoding_back m.cursor.encoding in
      let cd = ap (λ (n : ℕ). not (eqb n 0)) (read 11 (omega arith)) ∙ is_on_flag m.cursor.delta in
      let cn = read 12 (omega arith) in
      let cc = read 13 (omega arith) in
      let ca = read 14 (omega arith) in
      let f0 = both (λ (o : Bool) (v : ℕ). fits_item o 65535 v) b0 (read 4 (omega arith)) ∙ fits16_back header.sequence f.header.sequence in
      let f2 = both (λ (o : Bool) (v : ℕ). fits_item o 65535 v) b2 (read 6 (omega arith)) ∙ fits16_back header.picoseconds f.header.picoseconds in
      let f3 = both (λ (o : Bool) (v : ℕ). fits_item o 65535 v) b3 (read 7 (omega arith)) ∙ fits16_back header.status f.header.status in
      let f4 = both (λ (o : Bool) (v : ℕ). fits_item o 4294967295 v) b4 (read 8 (omega arith)) ∙ fits32_back header.major f.header.major in
      let f5 = both (λ (o : Bool) (v : ℕ). fits_item o 4294967295 v) b5 (read 9 (omega arith)) ∙ fits32_back header.minor f.header.minor in
      record {
        fits = f;
        fitting = rw (f0, f2, f3, f4, f5) refl;
        header = λ z. record { encoding = e z; kind = k z; sequence = h0 z; timestamp = h1 z; picoseconds = h2 z; status = h3 z; major = h4 z; minor = h5 z };
        cursor = λ z. record { encoding = ce z; delta = cd z; next = cn z; count = cc z; at = ca z };
      }

-- ---- a cursor that is stored is read back, with the encoding, the indices and the count that the record had; the header stays
module _ (c : Cursor) (r : List ℕ) (h : 160 ≤ length r) where
  abbrev once : List ℕ
  once = laid r (8 * 12) (le_bytes 8 c.next)

  once_long : 8 * 14 + 8 ≤ length once
  once_long = omega (arith, laid_length r (8 * 12) (le_bytes 8 c.next))

  kept : (j : ℕ) → (j ≡ 12 → ⊥) → (j ≡ 14 → ⊥) → number_at (cursor_laid c r) j ≡ number_at r j
  kept j p q = number_kept once 14 c.at once_long j q ∙ number_kept r 12 c.next (omega arith) j p

  pub cursor_moved : c.next < 256 ^ 8 → c.at < 256 ^ 8 → c.encoding ≡ (cursor_in r).encoding → c.delta ≡ (cursor_in r).delta → c.count ≡ (cursor_in r).count
      → cursor_in (cursor_laid c r) ≡ c
  cursor_moved n a e d k =
      let z10 = ap encoding_in (kept 10 (λ p. omega arith) (λ q. omega arith)) ∙ sym e in
      let z11 = ap (λ (x : ℕ). not (eqb x 0)) (kept 11 (λ p. omega arith) (λ q. omega arith)) ∙ sym d in
      let z12 = number_kept once 14 c.at once_long 12 (λ q. omega arith) ∙ number_laid r 12 c.next (omega arith) n in
      let z13 = kept 13 (λ p. omega arith) (λ q. omega arith) ∙ sym k in
      let z14 = number_laid once 14 c.at once_long a in
      λ i. record { encoding = z10 i; delta = z11 i; next = z12 i; count = z13 i; at = z14 i }

  pub header_stays : (header_in (cursor_laid c r) ≡ header_in r) × (head_fits (cursor_laid c r) ≡ head_fits r)
  header_stays =
      let k1 = kept 1 (λ p. omega arith) (λ q. omega arith) in
      let k2 = kept 2 (λ p. omega arith) (λ q. omega arith) in
      let k3 = kept 3 (λ p. omega arith) (λ q. omega arith) in
      let k4 = kept 4 (λ p. omega arith) (λ q. omega arith) in
      let k5 = kept 5 (λ p. omega arith) (λ q. omega arith) in
      let k6 = kept 6 (λ p. omega arith) (λ q. omega arith) in
      let k7 = kept 7 (λ p. omega arith) (λ q. omega arith) in
      let k8 = kept 8 (λ p. omega arith) (λ q. omega arith) in
      let k9 = kept 9 (λ p. omega arith) (λ q. omega arith) in (
        λ i.
            record {
              encoding = encoding_in (k1 i);
              kind = kind_in (k2 i);
              sequence = given16 (bit 0 (k3 i)) (k4 i);
              timestamp = given_i64 (bit 1 (k3 i)) (k5 i);
              picoseconds = given16 (bit 2 (k3 i)) (k6 i);
              status = given16 (bit 3 (k3 i)) (k7 i);
              major = given32 (bit 4 (k3 i)) (k8 i);
              minor = given32 (bit 5 (k3 i)) (k9 i);
            },
        λ i.
            fits_item (bit 0 (k3 i)) 65535 (k4 i)
            && (fits_item (bit 2 (k3 i)) 65535 (k6 i)
            && (fits_item (bit 3 (k3 i)) 65535 (k7 i) && (fits_item (bit 4 (k3 i)) 4294967295 (k8 i) && fits_item (bit 5 (k3 i)) 4294967295 (k9 i)))),
      )
