-- Reading a probe is steady: its answer lies within the slice, depends on the bytes read only, and moves with them; of a whole body too.
-- Assumes nothing.
use Rattle.std.specs.Prelude.{Option, Some, None}
use mathlib.Core.Path.{◌≡◌, refl, sym, ap, ◌∙◌}
use mathlib.Core.Bool.{Bool, true, false, cond}
use mathlib.Core.List.{List, ◌++◌}
use Prim.Native.Nat.{ℕ, ◌+◌, ◌*◌, ◌≤◌}
use native.Mathlib.Nat.{add-zero}
use native.Mathlib.Omega.{arith}
use lib.Dec.{eqb, ltb}
use lib.ListN.{length, take, drop, length-append, take-append-drop}
use lib.Seq.{length-take-le}
use borrow.Author.Tests.{eqb-true, eqb-false, eq-eqb, ne_eqb}
use Rattle.wire.specs.Answer.{Answer, got, refused, and_then, each}
use Rattle.wire.proofs.Reading.{got_next, not_got, invert}
use Rattle.wire.proofs.Places.{moved_by, after}
use Rattle.wire.proofs.Steady.{Steady, pure_steady, item_steady, run_steady, bind_steady, then_steady, cond_steady, each_steady, ruled_steady, Fair, fair, fair_cond}
use Rattle.plain_value.specs.Plain.{string}
use Rattle.plain_value.proofs.Steadily.{by_length_steady, string_steady}
use Rattle.probe.specs.declared.body.Probe.{Probe}
use Rattle.probe.specs.Body.{probe_type_rule, information_rule, id_list_at, string_list_at, includes_at, group_probe_at, probe_of, probe_at, body_ends, probe_body_at}

pub strings_steady : (n : ℕ) → Steady (each string n)
strings_steady n = each_steady string_steady n

id_list_steady : Steady id_list_at
id_list_steady = by_length_steady (pure_steady None) (λ n. then_steady (run_steady (2 * n)) (pure_steady (Some n)))

string_list_steady : Steady string_list_at
string_list_steady = by_length_steady (pure_steady None) (λ n. then_steady (strings_steady n) (pure_steady (Some n)))

group_steady : Steady group_probe_at
group_steady = bind_steady (item_steady 2) (λ g. bind_steady (item_steady 1) (λ b. pure_steady (Probe.Group g b)))

includes_steady : (l : Option ℕ) → Steady (includes_at l)
includes_steady l = bind_steady (item_steady 1) (λ g. bind_steady (item_steady 1) (λ w. pure_steady (Probe.Connections l g w)))

probe_of_steady : (t : ℕ) → Steady (probe_of t)
probe_of_steady t =
    cond_steady (eqb t 2) (bind_steady id_list_steady (λ l. pure_steady (Probe.MetaData l)))
    (cond_steady (eqb t 3) (bind_steady id_list_steady (λ l. pure_steady (Probe.Writers l)))
    (cond_steady (eqb t 4) group_steady (bind_steady string_list_steady includes_steady)))

-- no rule of a type refuses by 1

type_fair : (t : ℕ) → Fair (probe_type_rule t)
type_fair t = fair_cond (eqb t 1) (fair 0 refl) (fair_cond (eqb t 2) (fair 4 refl) (fair 3 refl))

information_fair : (t : ℕ) → Fair (information_rule t)
information_fair t = fair_cond (eqb t 1) (fair 4 refl) (fair_cond (ltb t 2) (fair 3 refl) (fair_cond (ltb 5 t) (fair 3 refl) (fair 0 refl)))

pub probe_steady : Steady probe_at
unfolding probe_at
probe_steady = then_steady (ruled_steady 1 probe_type_rule type_fair) (bind_steady (ruled_steady 1 information_rule information_fair) probe_of_steady)

-- two numbers moved alike
eqb_moved : (d a b : ℕ) → eqb (d + a) (d + b) ≡ eqb a b
eqb_moved d a b = go (eqb a b) refl
  where
    go : (t : Bool) → eqb a b ≡ t → eqb (d + a) (d + b) ≡ t
    go true e = eq-eqb (d + a) (d + b) (ap (λ (x : ℕ). d + x) (eqb-true a b e))
    go false e = ne_eqb (d + a) (d + b) (λ q. eqb-false a b e (omega (arith, q)))

-- a body that starts in the middle of a slice
pub body_after : (pre s : List ℕ) (at : ℕ) → probe_body_at (pre ++ s) (length pre + at) ≡ moved_by (length pre) (probe_body_at s at)
body_after pre s at = ap (λ (x : Answer Probe). and_then x (body_ends (pre ++ s))) (after probe_steady pre s at) ∙ go (probe_at s at)
  where
    ends : (p : Probe) (n : ℕ) (t : Bool) → eqb n (length s) ≡ t
        → cond (eqb (length pre + n) (length (pre ++ s))) (got p (length pre + n)) (refused 7 (length pre + n)) ≡ moved_by (length pre) (cond t (got p n) (refused 7 n))
    ends p n true e = rw (length-append pre s, eqb_moved (length pre) n (length s), e)
    ends p n false e = rw (length-append pre s, eqb_moved (length pre) n (length s), e)

    go : (x : Answer Probe) → and_then (moved_by (length pre) x) (body_ends (pre ++ s)) ≡ moved_by (length pre) (and_then x (body_ends s))
    go (got p n) = ends p n (eqb n (length s)) refl
    go (refused n place) = refl

-- a body at a position is that of the bytes from there on
pub body_tail : (s : List ℕ) (at : ℕ) → at ≤ length s → probe_body_at s at ≡ moved_by at (probe_body_at (drop at s) 0)
body_tail s at h =
    let n : length (take at s) ≡ at = length-take-le at s h in
    ap (λ (x : List ℕ). probe_body_at x at) (sym (take-append-drop at s)) ∙ ap (probe_body_at (take at s ++ drop at s)) (sym n ∙ sym (add-zero (length (take at s))))
    ∙ body_after (take at s) (drop at s) 0 ∙ ap (λ (d : ℕ). moved_by d (probe_body_at (drop at s) 0)) n

-- an accepted body is an accepted probe that ends where the slice ends
pub body_ended : (s : List ℕ) (at : ℕ) (p : Probe) (n : ℕ) → probe_body_at s at ≡ got p n → (probe_at s at ≡ got p n) × (n ≡ length s)
body_ended s at p n h =
    let x = invert (probe_at s at) (body_ends s) h in
    go x.0 x.1 x.2 (eqb x.1 (length s)) refl x.3
  where
    go : (q : Probe) (m : ℕ) → probe_at s at ≡ got q m → (t : Bool) → eqb m (length s) ≡ t → cond t (got q m) (refused 7 m) ≡ got p n → (probe_at s at ≡ got p n) × (n ≡ length s)
    go q m e true t k = (e ∙ k, sym (got_next k) ∙ eqb-true m (length s) t)
    go q m e false t k = absurd (not_got k)
