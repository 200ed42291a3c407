-- Laws of items stored one after the other.
-- Assumes nothing.
use mathlib.Core.Path.{◌≡◌, refl, ap, sym, subst, ◌∙◌}
use mathlib.Core.Bool.{Bool, true, false, cond, not}
use mathlib.Core.List.{List, [], ◌++◌}
use Prim.Native.Nat.{ℕ, ◌+◌, ◌≤◌}
use native.Mathlib.Nat.{add-zero, zero-add}
use native.Mathlib.Omega.{arith}
use lib.Dec.{leb}
use lib.IntN.{ℤ}
use lib.ListN.{length, drop, length-append}
use lib.Seq.{sets, sets-eq, length-sets}
use borrow.Author.Tests.{le-leb, leb-true, not-true, not-false}
use mir.Syntax.{w64}
use mir.Val.{SFits, to_z, of_z}
use mir.ValLaws.{to_z-of_z}
use Rattle.wire.specs.Number.{le_bytes, unsigned}
use Rattle.wire_writer.specs.Store.{Stored}
use Rattle.wire_writer.proofs.Stores.{stored_none, sets_append}
use Rattle.wire_writer.specs.Writing.{Puts}

pub stored_nothing : (entry : List ℕ) (at : ℕ) → Stored [] entry at entry at
stored_nothing entry at = record { stored = go (leb (at + 0) (length entry)); after = here (leb (at + 0) (length entry)) }
  where
    go : (b : Bool) → entry ≡ cond b entry entry
    go true = refl
    go false = refl

    here : (b : Bool) → at ≡ cond b (at + 0) at
    here true = sym (add-zero at)
    here false = refl

-- a signed number, as the code's machine number has it
pub stored_signed : (z : ℤ) {entry exit : List ℕ} {at next : ℕ} → SFits w64 z → Stored (le_bytes 8 (unsigned 8 (to_z w64 (of_z w64 z)))) entry at exit next
    → Stored (le_bytes 8 (unsigned 8 z)) entry at exit next
stored_signed z {entry} {exit} {at} {next} f s = subst (λ (y : ℤ). Stored (le_bytes 8 (unsigned 8 y)) entry at exit next) (to_z-of_z w64 z f) s

-- what a put function did, where there is room
pub puts : {b entry exit : List ℕ} {at next : ℕ} → Stored b entry at exit next → Puts b entry at exit next
puts {b} {entry} {exit} {at} {next} s =
    record {
      stored = λ h. s.stored ∙ ap (λ (t : Bool). cond t (sets entry at b) entry) (le-leb (at + length b) (length entry) h);
      after = λ h. s.after ∙ ap (λ (t : Bool). cond t (at + length b) at) (le-leb (at + length b) (length entry) h);
    }

-- all or nothing: what a put function did that tests first whether there is room for all n bytes, and stores none where there is not
pub none_of : (b entry : List ℕ) (at : ℕ) {n : ℕ} {room : Bool} → n ≡ length b → room ≡ leb (at + n) (length entry) → not room ≡ true → Stored b entry at entry at
none_of b entry at {n} {room} e r t = stored_none b entry at (ap (λ (m : ℕ). leb (at + m) (length entry)) (sym e) ∙ sym r ∙ not-true room t)

pub all_of : {b entry exit : List ℕ} {at n next : ℕ} {room : Bool} → n ≡ length b → room ≡ leb (at + n) (length entry) → not room ≡ false
    → Puts b entry at exit next → Stored b entry at exit next
all_of {b} {entry} {exit} {at} {n} {next} {room} e r t p =
    let fits : leb (at + length b) (length entry) ≡ true = ap (λ (m : ℕ). leb (at + m) (length entry)) (sym e) ∙ sym r ∙ not-false room t in
    let h : at + length b ≤ length entry = leb-true (at + length b) (length entry) fits in
    record {
      stored = p.stored h ∙ ap (λ (q : Bool). cond q (sets entry at b) entry) (sym fits);
      after = p.after h ∙ ap (λ (q : Bool). cond q (at + length b) at) (sym fits);
    }

pub nothing : (entry : List ℕ) (at : ℕ) → Puts [] entry at entry at
nothing entry at = record { stored = λ h. refl; after = λ h. sym (add-zero at) }

-- one part after another
pub then : {x y entry mid exit : List ℕ} {at n next : ℕ} → Puts x entry at mid n → Puts y mid n exit next → Puts (x ++ y) entry at exit next
then {x} {y} {entry} {mid} {exit} {at} {n} {next} a b = record { stored = stored; after = after }
  where
    fits : at + length (x ++ y) ≤ length entry → at + length x ≤ length entry
    fits h = omega (arith, length-append x y)

    rest : at + length (x ++ y) ≤ length entry → n + length y ≤ length mid
    rest h =
        let e : length mid ≡ length entry = ap length (a.stored (fits h)) ∙ length-sets entry at x in
        omega (arith, length-append x y, a.after (fits h))

    stored : at + length (x ++ y) ≤ length entry → exit ≡ sets entry at (x ++ y)
    stored h =
        b.stored (rest h) ∙ ap (λ (i : ℕ). sets mid i y) (a.after (fits h)) ∙ ap (λ (q : List ℕ). sets q (at + length x) y) (a.stored (fits h))
        ∙ sets_append x y entry at

    after : at + length (x ++ y) ≤ length entry → next ≡ at + length (x ++ y)
    after h = omega (arith, a.after (fits h), b.after (rest h), length-append x y)

-- all of it, from the buffer's start: the bytes, and then the buffer's own rest
pub front : (xs l : List ℕ) → length xs ≤ length l → sets l 0 xs ≡ xs ++ drop (length xs) l
front xs l h = sets-eq xs l 0 (rw zero-add h) ∙ ap (λ (n : ℕ). xs ++ drop n l) (zero-add (length xs))

pub whole : {b entry exit : List ℕ} {next : ℕ} → Puts b entry 0 exit next → length b ≤ length entry → (exit ≡ b ++ drop (length b) entry) × (next ≡ length b)
whole {b} {entry} p h =
    let k : 0 + length b ≤ length entry = omega arith in
    (p.stored k ∙ front b entry h, p.after k ∙ zero-add (length b))
