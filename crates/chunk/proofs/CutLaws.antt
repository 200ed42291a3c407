-- Laws of cutting: its rules, its bytes as they are stored, and one law for each way out.
-- Assumes nothing.
use Rattle.wire_writer.proofs.Stores.{sets_append}
use Prim.Native.Nat.{ℕ, ◌+◌, ◌*◌, ◌-◌, ◌/◌, ◌≤◌, ◌<◌}
use mathlib.Core.Path.{◌≡◌, refl, sym, ap, ap₂, ◌∙◌}
use mathlib.Core.Bool.{Bool, true, false, cond}
use mathlib.Core.List.{List, ◌++◌, append_assoc}
use native.Mathlib.Nat.{div-lt_iff_lt-mul, zero-add}
use native.Mathlib.Omega.{arith}
use lib.Dec.{leb, ltb, eqb}
use lib.ListN.{length, take, drop, length-append, length-take, length-drop}
use lib.Seq.{sets, sets-eq, take-append_seam, drop-append_seam, length-sets}
use borrow.Author.Tests.{le-leb, leb-true, leb-false, lt-ltb, le-ltb, ltb-false, eq-eqb, ne_eqb, eqb-true, eqb-false}
use Rattle.wire.specs.Number.{le_bytes}
use Rattle.wire_writer.specs.Store.{laid}
use Rattle.wire.proofs.Numbers.{length_le_bytes}
use Rattle.chunk.specs.Cutting.{payload_bytes, cut_data, chunk_bytes, cut_rule, cut_fault, cut_answer, cut_buffer}
use Rattle.std.specs.Prelude.{Result, Ok, Err}
use Rattle.wire.specs.Answer.{Answer, got, refused}
use Rattle.wire.specs.Refusal.{reason_number}
use Rattle.wire.specs.declared.refusal.Reason.{Reason}
use Rattle.wire.proofs.Reading.{got_next, not_got, some_number}
use Rattle.wire_writer.specs.Writing.{answer_written}

-- ---- the rules
module _ (total size k : ℕ) (a : size ≡ 0 → ⊥) (b : total ≡ 0 → ⊥) where
  pub past_yes : (total - 1) / size < k → leb total (k * size) ≡ true
  past_yes h =
      let z : 0 < size = omega (arith, a) in
      let l : total - 1 < k * size = (div-lt_iff_lt-mul {k = size} {x = total - 1} {y = k} z).0 h in
      le-leb total (k * size) (omega (arith, b))

  pub past_no : k ≤ (total - 1) / size → leb total (k * size) ≡ false
  past_no h = go (leb total (k * size)) refl
    where
      go : (t : Bool) → leb total (k * size) ≡ t → leb total (k * size) ≡ false
      go false e = e
      go true e =
          let l : total ≤ k * size = leb-true total (k * size) e in
          let m : total - 1 < k * size = omega (arith, b) in
          let z : 0 < size = omega (arith, a) in
          let q : (total - 1) / size < k = (div-lt_iff_lt-mul {k = size} {x = total - 1} {y = k} z).1 m in
          absurd (omega arith)

-- what a cut that breaks no rule tells
pub record Cuts (total size k : ℕ) : Type 0 where
  pub some : 1 ≤ size
  pub filled : 1 ≤ total
  pub small : total ≤ 16384
  pub inside : k * size < total

six_not : ◌≡◌ {A = ℕ} 6 0 → ⊥
six_not e = omega arith

ten_not : ◌≡◌ {A = ℕ} 10 0 → ⊥
ten_not e = omega arith

pub cuts : (total size k : ℕ) → cut_rule total size k ≡ 0 → Cuts total size k
unfolding cut_rule
cuts total size k e = go (eqb size 0) (eqb total 0) (ltb 16384 total) (leb total (k * size)) refl refl refl refl e
  where
    go : (a b c d : Bool) → eqb size 0 ≡ a → eqb total 0 ≡ b → ltb 16384 total ≡ c → leb total (k * size) ≡ d
        → ◌≡◌ {A = ℕ} (cond a 6 (cond b 6 (cond c 10 (cond d 10 0)))) 0 → Cuts total size k
    go true b c d p q r s e = absurd (six_not e)
    go false true c d p q r s e = absurd (six_not e)
    go false false true d p q r s e = absurd (ten_not e)
    go false false false true p q r s e = absurd (ten_not e)
    go false false false false p q r s e = record {
      some = omega (arith, eqb-false size 0 p);
      filled = omega (arith, eqb-false total 0 q);
      small = ltb-false 16384 total r;
      inside = leb-false total (k * size) s;
    }

-- ---- the data of chunk k: it reaches to the next chunk, or to the payload's end
module _ (p : List ℕ) (size k : ℕ) where
  pub data_most : length (cut_data p size k) ≤ length p - k * size
  data_most = omega (arith, length-take size (drop (k * size) p), length-drop (k * size) p)

  pub data_full : (i : ℕ) → i < size → k * size + i < length p → i < length (cut_data p size k)
  data_full i h l = omega (arith, length-take size (drop (k * size) p), length-drop (k * size) p)

-- ---- the bytes
pub length_payload : (number offset total : ℕ) (d : List ℕ) → length (payload_bytes number offset total d) ≡ 14 + length d
length_payload number offset total d =
    let z = le_bytes 4 (length d) ++ d in
    let c = le_bytes 4 total ++ z in
    let b = le_bytes 4 offset ++ c in
    omega (
      arith,
      length-append (le_bytes 2 number) b,
      length-append (le_bytes 4 offset) c,
      length-append (le_bytes 4 total) z,
      length-append (le_bytes 4 (length d)) d,
      length_le_bytes 2 number,
      length_le_bytes 4 offset,
      length_le_bytes 4 total,
      length_le_bytes 4 (length d),
    )

-- bytes stored after those stored from the start
module _ (l : List ℕ) where
  laid_is : (x : List ℕ) → length x ≤ length l → laid l 0 x ≡ sets l 0 x
  laid_is x h = rw (le-leb (0 + length x) (length l) (omega arith))

  laid_next : (x y l₁ l₂ : List ℕ) (n : ℕ) → length x ≡ n → n + length y ≤ length l → l₁ ≡ laid l 0 x → l₂ ≡ laid l₁ n y → l₂ ≡ laid l 0 (x ++ y)
  laid_next x y l₁ l₂ n e h a b =
      let i : l₁ ≡ sets l 0 x = a ∙ laid_is x (omega arith) in
      let m : n + length y ≤ length (sets l 0 x) = rw (length-sets l 0 x) h in
      let k : length (x ++ y) ≤ length l = omega (arith, length-append x y) in
      b ∙ ap (λ (z : List ℕ). laid z n y) i
      ∙ rw (le-leb (n + length y) (length (sets l 0 x)) m) (ap (λ (j : ℕ). sets (sets l 0 x) j y) (sym e ∙ sym (zero-add (length x))) ∙ sets_append x y l 0)
      ∙ sym (laid_is (x ++ y) k)

  -- a chunk's payload, item by item
  pub laid_payload : (number offset total : ℕ) (d l₁ l₂ l₃ l₄ l₅ : List ℕ) → 14 + length d ≤ length l
      → l₁ ≡ laid l 0 (le_bytes 2 number) → l₂ ≡ laid l₁ 2 (le_bytes 4 offset) → l₃ ≡ laid l₂ 6 (le_bytes 4 total) → l₄ ≡ laid l₃ 10 (le_bytes 4 (length d)) → l₅ ≡ laid l₄ 14 d
      → l₅ ≡ laid l 0 (payload_bytes number offset total d)
  laid_payload number offset total d l₁ l₂ l₃ l₄ l₅ h e₁ e₂ e₃ e₄ e₅ =
      let a = le_bytes 2 number in
      let b = le_bytes 4 offset in
      let c = le_bytes 4 total in
      let z = le_bytes 4 (length d) in
      let na : length a ≡ 2 = length_le_bytes 2 number in
      let nb : length b ≡ 4 = length_le_bytes 4 offset in
      let nc : length c ≡ 4 = length_le_bytes 4 total in
      let nz : length z ≡ 4 = length_le_bytes 4 (length d) in
      let nab : length (a ++ b) ≡ 6 = length-append a b ∙ omega arith in
      let nabc : length ((a ++ b) ++ c) ≡ 10 = length-append (a ++ b) c ∙ omega arith in
      let nabcz : length (((a ++ b) ++ c) ++ z) ≡ 14 = length-append ((a ++ b) ++ c) z ∙ omega arith in
      let q₂ : l₂ ≡ laid l 0 (a ++ b) = laid_next a b l₁ l₂ 2 na (omega arith) e₁ e₂ in
      let q₃ : l₃ ≡ laid l 0 ((a ++ b) ++ c) = laid_next (a ++ b) c l₂ l₃ 6 nab (omega arith) q₂ e₃ in
      let q₄ : l₄ ≡ laid l 0 (((a ++ b) ++ c) ++ z) = laid_next ((a ++ b) ++ c) z l₃ l₄ 10 nabc (omega arith) q₃ e₄ in
      let q₅ : l₅ ≡ laid l 0 ((((a ++ b) ++ c) ++ z) ++ d) = laid_next (((a ++ b) ++ c) ++ z) d l₄ l₅ 14 nabcz h q₄ e₅ in
      q₅ ∙ ap (laid l 0) (append_assoc ((a ++ b) ++ c) z d ∙ append_assoc (a ++ b) c (z ++ d) ∙ append_assoc a b (c ++ (z ++ d)))

-- ---- the ways out
module _ (p : List ℕ) (number size k : ℕ) (out : List ℕ) where
  abbrev pub Way : Result ℕ Reason → List ℕ → Type 0
  Way r exit = (answer_written r ≡ cut_answer p number size k (length out)) × (exit ≡ cut_buffer p number size k out)

  -- by the fault
  refused_by : (reason : Reason) → cut_fault p size k (length out) ≡ reason_number reason → Way (Err reason) out
  unfolding cut_answer cut_buffer
  refused_by reason e =
      let z = ne_eqb (reason_number reason) 0 (some_number reason) in
      (rw (e, z), rw (e, z))

  fault_rule : (cut_rule (length p) size k ≡ 0 → ⊥) → cut_fault p size k (length out) ≡ cut_rule (length p) size k
  unfolding cut_fault
  fault_rule h = rw (ne_eqb (cut_rule (length p) size k) 0 h)

  fault_short : cut_rule (length p) size k ≡ 0 → length out < 14 + length (cut_data p size k) → cut_fault p size k (length out) ≡ 11
  unfolding cut_fault
  fault_short e h = rw (eq-eqb (cut_rule (length p) size k) 0 e, lt-ltb (length out) (14 + length (cut_data p size k)) h)

  fault_none : cut_rule (length p) size k ≡ 0 → 14 + length (cut_data p size k) ≤ length out → cut_fault p size k (length out) ≡ 0
  unfolding cut_fault
  fault_none e h = rw (eq-eqb (cut_rule (length p) size k) 0 e, le-ltb (length out) (14 + length (cut_data p size k)) h)

  pub refused_way : (reason : Reason) → reason_number reason ≡ cut_rule (length p) size k → Way (Err reason) out
  refused_way reason e = refused_by reason (fault_rule (λ q. some_number reason (e ∙ q)) ∙ sym e)

  pub short_way : cut_rule (length p) size k ≡ 0 → length out < 14 + length (cut_data p size k) → Way (Err Reason.NoRoom) out
  short_way e h = refused_by Reason.NoRoom (fault_short e h)

  pub done_way : cut_rule (length p) size k ≡ 0 → (b exit : List ℕ) → b ≡ cut_data p size k → 14 + length b ≤ length out → exit ≡ laid out 0 (payload_bytes number (k * size) (length p) b)
      → Way (Ok (14 + length b)) exit
  unfolding cut_answer cut_buffer
  done_way e b exit eb h q =
      let f = fault_none e (rw eb at h) in (
        rw f (ap (λ (n : ℕ). got tt n) (ap (λ (d : List ℕ). 14 + length d) eb ∙ sym (length_payload number (k * size) (length p) (cut_data p size k)))),
        rw f (q ∙ ap (λ (d : List ℕ). laid out 0 (payload_bytes number (k * size) (length p) d)) eb),
      )

  -- ---- what an accepted cut leaves in the buffer: the chunk's payload, and after it what was there
  fault_zero : cut_fault p size k (length out) ≡ 0 → (cut_rule (length p) size k ≡ 0) × (14 + length (cut_data p size k) ≤ length out)
  unfolding cut_fault
  fault_zero e = go (eqb (cut_rule (length p) size k) 0) (ltb (length out) (14 + length (cut_data p size k))) refl refl e
    where
      go : (a b : Bool) → eqb (cut_rule (length p) size k) 0 ≡ a → ltb (length out) (14 + length (cut_data p size k)) ≡ b
          → ◌≡◌ {A = ℕ} (cond a (cond b 11 0) (cut_rule (length p) size k)) 0 → (cut_rule (length p) size k ≡ 0) × (14 + length (cut_data p size k) ≤ length out)
      go true true q r e = absurd (omega arith)
      go true false q r e = (eqb-true (cut_rule (length p) size k) 0 q, ltb-false (length out) (14 + length (cut_data p size k)) r)
      go false b q r e = absurd (eqb-false (cut_rule (length p) size k) 0 q e)

  answer_zero : (n : ℕ) → cut_answer p number size k (length out) ≡ got tt n → (cut_fault p size k (length out) ≡ 0) × (length (chunk_bytes p number size k) ≡ n)
  unfolding cut_answer
  answer_zero n e = go (eqb (cut_fault p size k (length out)) 0) refl e
    where
      go : (a : Bool) → eqb (cut_fault p size k (length out)) 0 ≡ a
          → cond {A = Answer (Unit {0})} a (got tt (length (chunk_bytes p number size k))) (refused (cut_fault p size k (length out)) 0) ≡ got tt n
          → (cut_fault p size k (length out) ≡ 0) × (length (chunk_bytes p number size k) ≡ n)
      go true q e = (eqb-true (cut_fault p size k (length out)) 0 q, got_next e)
      go false q e = absurd (not_got e)

  buffer_is : cut_fault p size k (length out) ≡ 0 → cut_buffer p number size k out ≡ laid out 0 (chunk_bytes p number size k)
  unfolding cut_buffer
  buffer_is e = rw e

  pub record Wrote (n : ℕ) : Type 0 where
    pub bytes : take n (cut_buffer p number size k out) ≡ chunk_bytes p number size k
    pub rest : drop n (cut_buffer p number size k out) ≡ drop n out
    pub rule : cut_rule (length p) size k ≡ 0

  pub cut_wrote : (n : ℕ) → cut_answer p number size k (length out) ≡ got tt n → Wrote n
  cut_wrote n e =
      let a = answer_zero n e in
      let f = fault_zero a.0 in
      let b = chunk_bytes p number size k in
      let h : length b ≤ length out = omega (arith, length_payload number (k * size) (length p) (cut_data p size k), f.1) in
      let h₂ : 0 + length b ≤ length out = omega arith in
      let x : 0 + length b ≡ length b = omega arith in
      let q : cut_buffer p number size k out ≡ b ++ drop (length b) out = buffer_is a.0 ∙ laid_is out b h ∙ sets-eq b out 0 h₂ ∙ ap (λ (j : ℕ). b ++ drop j out) x in
      record {
        bytes = ap₂ take (sym a.1) q ∙ take-append_seam b (drop (length b) out);
        rest = ap₂ drop (sym a.1) q ∙ drop-append_seam b (drop (length b) out) ∙ ap (λ (j : ℕ). drop j out) a.1;
        rule = f.0;
      }
