-- The ways out of a writer: each answer and what it leaves in the buffer; and what an answer tells.
-- Assumes nothing.
use mathlib.Core.Path.{◌≡◌, refl, ap, sym, subst, ◌∙◌}
use mathlib.Core.Bool.{Bool, true, false, cond}
use mathlib.Core.List.{List, ◌++◌}
use Prim.Native.Nat.{ℕ, ◌≤◌}
use lib.Dec.{eqb, ltb}
use lib.ListN.{length, take, drop}
use lib.Seq.{take_at, drop_at}
use borrow.Author.Tests.{ne_eqb, eqb-true, le-ltb, ltb-false}
use Rattle.wire.specs.Answer.{Answer, got, refused}
use Rattle.std.specs.Prelude.{Result, Ok, Err}
use Rattle.wire.specs.declared.refusal.Reason.{Reason}
use Rattle.wire.specs.Refusal.{reason_number}
use Rattle.wire.proofs.Reading.{not_got, got_next, some_number}
use Rattle.wire_writer.specs.Writing.{room_refusal, Output, writing, refusing, unless, after_reading, written_of, answer_written, buffer_after, Writes, Puts}
use Rattle.wire_writer.proofs.Putting.{whole}
use Rattle.wire_writer.proofs.Refusals.{passed}

-- where bytes are not refused, they are within the limit and the buffer has room
pub roomy : (size room : ℕ) → room_refusal size room ≡ 0 → (size ≤ 65535) × (size ≤ room)
roomy size room e =
    let a = passed (ltb 65535 size) 9 (cond (ltb room size) 11 0) e in
    (ltb-false 65535 size a.0, ltb-false room size (passed (ltb room size) 10 0 a.1).0)

pub fitting : (size room : ℕ) → size ≤ 65535 → size ≤ room → room_refusal size room ≡ 0
fitting size room h k = rw (le-ltb 65535 size h, le-ltb room size k)

-- what the code answers where it wrote
accepted : (r : Result ℕ Reason) {n : ℕ} → answer_written r ≡ got tt n → r ≡ Ok n
accepted (Ok m) e = ap Ok (got_next e)
accepted (Err reason) e = absurd (not_got e)

-- of bytes whose writer's own refusal is n
module _ (n : ℕ) (bytes out : List ℕ) where
  pub refused_by : (reason : Reason) → reason_number reason ≡ n → Writes (unless n bytes) out out (Err reason)
  refused_by reason e = rw (sym e, ne_eqb (reason_number reason) 0 (some_number reason)) (record { answer = refl; buffer = refl })

  module _ (e : n ≡ 0) where
    pub no_room : (reason : Reason) → reason_number reason ≡ room_refusal (length bytes) (length out) → Writes (unless n bytes) out out (Err reason)
    no_room reason l =
        let z = ne_eqb (reason_number reason) 0 (some_number reason) in
        rw e (record { answer = rw (sym l, z); buffer = rw (sym l, z) })

    pub written : 0 ≡ room_refusal (length bytes) (length out) → (size next : ℕ) (exit : List ℕ) → size ≡ length bytes → Puts bytes out 0 exit next
        → Writes (unless n bytes) out exit (Ok size)
    written l size next exit q p =
        let y = sym l in
        rw e (record { answer = rw (y, q); buffer = rw y (whole p (roomy (length bytes) (length out) y).1).0 })

-- after reading
pub reading_accepts : {A : Type 0} (f : A → Output) {x : Answer A} {a : A} {next : ℕ} {entry exit : List ℕ} {r : Result ℕ Reason} → x ≡ got a next
    → Writes (f a) entry exit r → Writes (after_reading x f) entry exit r
reading_accepts {A} f {entry = entry} {exit = exit} {r = r} q w = subst (λ (y : Answer A). Writes (after_reading y f) entry exit r) (sym q) w

pub reading_refuses : {A : Type 0} (f : A → Output) {x : Answer A} {n place : ℕ} {entry : List ℕ} → x ≡ refused n place
    → (reason : Reason) → reason_number reason ≡ n → Writes (after_reading x f) entry entry (Err reason)
reading_refuses {A} f {n = n} {entry = entry} q reason e =
    subst (λ (y : Answer A). Writes (after_reading y f) entry entry (Err reason)) (sym q) (record { answer = rw e; buffer = refl })

-- a refusal leaves the whole buffer as it was
pub unchanged : (o : Output) {entry exit : List ℕ} {reason : Reason} → Writes o entry exit (Err reason) → exit ≡ entry
unchanged (refusing k) w = w.buffer
unchanged (writing bytes) {entry} {exit} {reason} w = go (eqb (room_refusal (length bytes) (length entry)) 0) refl
  where
    go : (t : Bool) → eqb (room_refusal (length bytes) (length entry)) 0 ≡ t → exit ≡ entry
    go true t =
        let e : refused (reason_number reason) 0 ≡ got tt (length bytes) = w.answer ∙ rw t in
        absurd (not_got e)
    go false t = w.buffer ∙ rw t

-- bytes that fit are written: all of them from the buffer's start, and the buffer goes on as it was
pub fitting_written : {bytes entry exit : List ℕ} {r : Result ℕ Reason} → length bytes ≤ 65535 → length bytes ≤ length entry → Writes (writing bytes) entry exit r
    → (r ≡ Ok (length bytes)) × (exit ≡ bytes ++ drop (length bytes) entry)
fitting_written {bytes} {entry} {r = r} h k w =
    let z = fitting (length bytes) (length entry) h k in
    (accepted r (w.answer ∙ rw z), w.buffer ∙ rw z)

-- What a writer's answer of n bytes tells: it refuses nothing, the first n bytes are those that it was to write, and the others are as they were.
pub record Reported (k : ℕ) (bytes entry exit : List ℕ) (n : ℕ) : Type 0 where
  pub number : k ≡ 0
  pub limit : length bytes ≤ 65535
  pub front : take n exit ≡ bytes
  pub rest : drop n exit ≡ drop n entry

module _ (k : ℕ) (bytes entry exit : List ℕ) (n : ℕ) where
  all_written : (t : Bool) → eqb (room_refusal (length bytes) (length entry)) 0 ≡ t → k ≡ 0
      → answer_written (Ok n) ≡ cond t (got tt (length bytes)) (refused (room_refusal (length bytes) (length entry)) 0)
      → exit ≡ cond t (bytes ++ drop (length bytes) entry) entry → Reported k bytes entry exit n
  all_written true t z a b =
      let l : length bytes ≡ n = sym (got_next a) in
      let f : exit ≡ bytes ++ drop n entry = b ∙ ap (λ (i : ℕ). bytes ++ drop i entry) l in
      record {
        number = z;
        limit = (roomy (length bytes) (length entry) (eqb-true (room_refusal (length bytes) (length entry)) 0 t)).0;
        front = ap (take n) f ∙ take_at bytes (drop n entry) n l;
        rest = ap (drop n) f ∙ drop_at bytes (drop n entry) n l;
      }
  all_written false t z a b = absurd (not_got (sym a))

  pub reported : Writes (unless k bytes) entry exit (Ok n) → Reported k bytes entry exit n
  reported w = go (eqb k 0) refl w.answer w.buffer
    where
      go : (t : Bool) → eqb k 0 ≡ t → answer_written (Ok n) ≡ written_of (length entry) (cond t (writing bytes) (refusing k))
          → exit ≡ buffer_after entry (cond t (writing bytes) (refusing k)) → Reported k bytes entry exit n
      go true t a b = all_written (eqb (room_refusal (length bytes) (length entry)) 0) refl (eqb-true k 0 t) a b
      go false t a b = absurd (not_got (sym a))
