-- Reading Strings and names is steady: the answer lies within the slice, depends on the bytes read only, and moves with them.
-- Assumes nothing.
use mathlib.Core.Path.{refl}
use Prim.Native.Nat.{ℕ}
use native.Mathlib.Omega.{arith}
use lib.Dec.{eqb, ltb}
use Rattle.wire.specs.Answer.{Reader, bit}
use Rattle.wire.specs.declared.Length.{Length}
use Rattle.wire.proofs.Steady.{Steady, Onward, steadily, refusing, pure_steady, length_item_steady, run_steady, onward_steady, bind_steady, then_steady, cond_steady, Fair, fair, fair_cond, when_steady, ruled_steady}
use Rattle.plain_value.specs.Plain.{passing, bytes, after_length, by_length, string, qualified_name, text_mask_rule, localized_text, text}

-- the rule of a mask refuses by no 1
text_mask_fair : (m : ℕ) → Fair (text_mask_rule m)
text_mask_fair m = fair_cond (ltb 3 m) (fair 3 refl) (fair 0 refl)

pub passing_steady : {A : Type 0} {r : Reader A} → Steady r → Steady (passing r)
passing_steady f = then_steady f (pure_steady tt)

pub bytes_steady : (n : ℕ) → Steady (bytes n)
bytes_steady n = passing_steady (run_steady n)

pub by_length_steady : {A : Type 0} {null : Reader A} {counted : ℕ → Reader A} → Steady null → ((n : ℕ) → Steady (counted n)) → Steady (by_length null counted)
by_length_steady {A} {null} {counted} f h = onward_steady length_item_steady onward
  where
    onward : (l : Length) → Onward (λ p. after_length null counted p l)
    onward Length.Null = steadily f
    onward (Length.Of n) = steadily (h n)
    onward Length.Negative = refusing 5 (omega arith)

pub string_steady : Steady string
unfolding string
string_steady = by_length_steady (pure_steady tt) bytes_steady

-- names

qualified_name_steady : Steady qualified_name
unfolding qualified_name
qualified_name_steady = then_steady (bytes_steady 2) string_steady

localized_text_steady : Steady localized_text
unfolding localized_text
localized_text_steady = bind_steady (ruled_steady 1 text_mask_rule text_mask_fair) (λ m. then_steady (when_steady (bit 0 m) tt string_steady) (when_steady (bit 1 m) tt string_steady))

pub text_steady : (t : ℕ) → Steady (text t)
unfolding text
text_steady t = cond_steady (eqb t 20) qualified_name_steady (cond_steady (eqb t 21) localized_text_steady string_steady)
