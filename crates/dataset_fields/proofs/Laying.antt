-- Laws of storing: a delta's fields one by one, padding, and how long the parts are.
-- Assumes nothing.
use mathlib.Core.Path.{◌≡◌, refl, ap, sym, ◌∙◌}
use mathlib.Core.Bool.{Bool, true, false, cond}
use mathlib.Core.List.{List, [], ◌∷◌, ◌++◌}
use Prim.Native.Nat.{ℕ, suc, ◌+◌, ◌-◌, ◌≤◌, ◌<◌}
use native.Mathlib.Nat.{add-zero}
use native.Mathlib.Omega.{arith}
use borrow.Author.Tests.{leb-true, leb-false}
use lib.Dec.{leb}
use lib.ListN.{length, get_or, take, drop, set, replicate, length-replicate, length-append, length-drop, take-append-drop}
use lib.Seq.{sets, get_or-drop, drop-drop, length-take-le, take_all}
use Rattle.wire.specs.Lists.{total}
use Rattle.wire.specs.Number.{le_bytes}
use Rattle.wire_writer.specs.Store.{Stored}
use Rattle.wire_writer.proofs.Stores.{stored_fits, stored_none, put_in}
use Rattle.dataset_fields.specs.Fields.{values_of, fields_bytes, zeros}
use Rattle.dataset_fields.proofs.Judging.{past_end, forward_to, values_cons}

-- a delta's field k and the fields after it
pub delta_step : (values lengths indices : List ℕ) (k start start' n i : ℕ) (v : List ℕ) → k < length lengths → n ≡ get_or lengths k 0
    → v ≡ take n (drop start values) → start' ≡ forward_to (length values) start n → i ≡ get_or indices k 0
    → fields_bytes true (drop k indices) (values_of (drop k lengths) (drop start values))
    ≡ le_bytes 2 i ++ (v ++ fields_bytes true (drop (k + 1) indices) (values_of (drop (k + 1) lengths) (drop start' values)))
unfolding fields_bytes
delta_step values lengths indices k start start' n i v h e q r g =
    let j : get_or (drop k indices) 0 0 ≡ i = get_or-drop k indices 0 0 ∙ ap (λ (m : ℕ). get_or indices m 0) (add-zero k) ∙ sym g in
    rw (values_cons lengths values k start start' n v h e q r, j, drop-drop 1 k indices)

pub delta_done : (values lengths indices : List ℕ) (k start : ℕ) → length lengths ≤ k → fields_bytes true (drop k indices) (values_of (drop k lengths) (drop start values)) ≡ []
unfolding values_of fields_bytes
delta_done values lengths indices k start h = rw (past_end lengths k h)

-- where the next value starts, as far as there are any
reach : (values : List ℕ) (start n start' : ℕ) → start ≤ length values → start' ≡ forward_to (length values) start n
    → (start + length (take n (drop start values)) ≡ start') × (start' ≤ length values)
reach values start n start' h r = go (leb (start + n) (length values)) refl
  where
    d : length (drop start values) ≡ length values - start
    d = length-drop start values

    go : (b : Bool) → leb (start + n) (length values) ≡ b → (start + length (take n (drop start values)) ≡ start') × (start' ≤ length values)
    go true e =
        let l : start + n ≤ length values = leb-true (start + n) (length values) e in
        let q : start' ≡ start + n = r ∙ ap (λ (b : Bool). cond b (start + n) (length values)) e in
        let t : length (take n (drop start values)) ≡ n = length-take-le n (drop start values) (omega (arith, d)) in
        (omega (arith, d), omega (arith, d))
    go false e =
        let l : length values < start + n = leb-false (start + n) (length values) e in
        let q : start' ≡ length values = r ∙ ap (λ (b : Bool). cond b (start + n) (length values)) e in
        let t : length (take n (drop start values)) ≡ length (drop start values) = ap length (take_all n (drop start values) (omega (arith, d))) in
        (omega (arith, d), omega (arith, d))

-- how many bytes a delta's field k and the fields after it take
pub delta_sizes : (values lengths : List ℕ) (k start start' n : ℕ) → k < length lengths → n ≡ get_or lengths k 0 → start ≤ length values
    → start' ≡ forward_to (length values) start n
    → (start' ≤ length values)
    × ((indices : List ℕ) → start + length (fields_bytes true (drop k indices) (values_of (drop k lengths) (drop start values)))
    ≡ 2 + (start' + length (fields_bytes true (drop (k + 1) indices) (values_of (drop (k + 1) lengths) (drop start' values)))))
delta_sizes values lengths k start start' n h e l r = (a.1, go)
  where
    v : List ℕ
    v = take n (drop start values)

    a : (start + length v ≡ start') × (start' ≤ length values)
    a = reach values start n start' l r

    go : (indices : List ℕ) → start + length (fields_bytes true (drop k indices) (values_of (drop k lengths) (drop start values)))
        ≡ 2 + (start' + length (fields_bytes true (drop (k + 1) indices) (values_of (drop (k + 1) lengths) (drop start' values))))
    go indices =
        let after : List ℕ = fields_bytes true (drop (k + 1) indices) (values_of (drop (k + 1) lengths) (drop start' values)) in
        let s = ap length (delta_step values lengths indices k start start' n (get_or indices k 0) v h e refl r refl) in
        omega (arith, s, length-append v after, a.0)

-- zeros

-- n zeros are one and then the others
zeros_step : (n i : ℕ) → i < n → zeros (n - i) ≡ 0 ∷ zeros (n - (i + 1))
zeros_step n i h = let e : n - i ≡ suc (n - (i + 1)) = omega arith in ap zeros e

-- what storing them byte by byte leaves to store
pub fill_step : (out : List ℕ) (at n i : ℕ) → i < n → sets out (at + i) (zeros (n - i)) ≡ sets (set out (at + i) 0) (at + (i + 1)) (zeros (n - (i + 1)))
fill_step out at n i h =
    let e : suc (at + i) ≡ at + (i + 1) = omega arith in
    ap (λ (z : List ℕ). sets out (at + i) z) (zeros_step n i h) ∙ ap (λ (m : ℕ). sets (set out (at + i) 0) m (zeros (n - (i + 1)))) e

-- so many zeros put in place of as many bytes
pub zeros_in : (n : ℕ) (l : List ℕ) (at k : ℕ) → k ≡ n → at + n ≤ length l
    → take at l ++ (replicate (length (take k (drop at l))) 0 ++ drop k (drop at l)) ≡ sets l at (zeros n)
zeros_in n l at k e h =
    let z : length (zeros n) ≡ n = length-replicate n 0 in
    let m : length (take k (drop at l)) ≡ n = length-take-le k (drop at l) (let d = length-drop at l in omega arith) ∙ e in
    rw m (put_in (zeros n) l at k (e ∙ sym z) (rw z h))

pub zeros_put : (n : ℕ) (entry : List ℕ) (at : ℕ) (exit : List ℕ) → leb (at + n) (length entry) ≡ true → exit ≡ sets entry at (zeros n)
    → Stored (zeros n) entry at exit (at + n)
zeros_put n entry at exit t e = stored_fits (zeros n) entry at (ap (λ (m : ℕ). at + m) (sym (length-replicate n 0))) t e

pub zeros_lack : (n : ℕ) (entry : List ℕ) (at : ℕ) → leb (at + n) (length entry) ≡ false → Stored (zeros n) entry at entry at
zeros_lack n entry at e = stored_none (zeros n) entry at (ap (λ (m : ℕ). leb (at + m) (length entry)) (length-replicate n 0) ∙ e)

-- how long the parts are

-- the values one after the other are all of them, where the lengths add up
pub values_whole : (lengths values indices : List ℕ) → total lengths ≡ length values → fields_bytes false indices (values_of lengths values) ≡ values
unfolding values_of fields_bytes
values_whole [] [] indices h = refl
values_whole [] (x ∷ values) indices h = absurd (omega arith)
values_whole (n ∷ lengths) values indices h =
    let e : total lengths ≡ length (drop n values) = simp length-drop (omega arith) in
    ap (λ (l : List ℕ). take n values ++ l) (values_whole lengths (drop n values) (drop 1 indices) e) ∙ take-append-drop n values

-- a delta's indices add two bytes to each
pub delta_length : (lengths values indices : List ℕ) → total lengths ≡ length values
    → length (fields_bytes true indices (values_of lengths values)) ≡ length lengths + (length lengths + length values)
unfolding values_of fields_bytes
delta_length [] values indices h = omega arith
delta_length (n ∷ lengths) values indices h =
    let e : total lengths ≡ length (drop n values) = simp length-drop (omega arith) in
    let ih = delta_length lengths (drop n values) (drop 1 indices) e in
    let t : length (take n values) ≡ n = length-take-le n values (omega arith) in
    let d : length (drop n values) ≡ length values - n = length-drop n values in
    let a = length-append (take n values) (fields_bytes true (drop 1 indices) (values_of lengths (drop n values))) in
    omega arith
