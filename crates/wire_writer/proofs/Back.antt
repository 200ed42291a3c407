-- Writing what was read: from an answer back to the bytes that stand there.
-- Assumes nothing.
use Rattle.std.specs.Prelude.{Option, Some, None, is_some, ℤ}
use mathlib.Core.Path.{◌≡◌, refl, ap, sym, ◌∙◌, subst}
use mathlib.Core.List.{List, [], ◌∷◌, ◌++◌, append_assoc}
use mathlib.Core.Bool.{Bool, true, false, cond}
use Prim.Native.Nat.{ℕ, zero, suc, ◌+◌, ◌-◌, ◌*◌, ◌/◌, ◌%◌, ◌^◌, ◌≤◌, ◌<◌}
use native.Mathlib.Nat.{add-zero, zero-add, pow-suc}
use native.Mathlib.Numerals.{add-one}
use native.Mathlib.Omega.{arith}
use lib.ListN.{length, get_or, take, drop, length-append, length-drop, take-append-drop}
use lib.Seq.{drop-cons, drop_at, take_at, length-take-le, sets, sets-eq, length-sets}
use lib.Dec.{leb, eqb}
use borrow.Author.Tests.{leb-true, eqb-true, le-leb}
use Rattle.wire.specs.Number.{le, le_bytes, signed, unsigned}
use Rattle.wire.specs.Answer.{Answer, got, refused, Reader, item, signed_item, ruled, run, pure, when_on, and_then, ◌>>=◌}
use Rattle.wire.specs.Items.{guid, guid_bytes}
use Rattle.wire.specs.Optional.{optional16, optional32, optional_i64, picoseconds_read, picoseconds_at}
use Rattle.wire.specs.declared.Guid.{Guid}
use Rattle.wire.proofs.Reading.{got_value, got_next, not_got, invert, signed_is}
use Rattle.wire.proofs.Numbers.{unsigned_signed}
use Rattle.wire_writer.specs.Writing.{picoseconds_rule, picoseconds_refusal, picoseconds_held, optional16_bytes, optional32_bytes, optional_i64_bytes}
use Rattle.wire_writer.proofs.Trip.{At, fits_at}
use Rattle.wire_writer.specs.Fits.{Bytes}

-- the bytes b stand at position at of s, and end at next
abbrev pub Back : List ℕ → ℕ → List ℕ → ℕ → Type 0
Back s at b next = At s at b × (next ≡ at + length b)

pub empty : (s : List ℕ) (at : ℕ) → at ≤ length s → Back s at [] at
empty s at h = ((take at s, drop at s, sym (take-append-drop at s), length-take-le at s h), sym (add-zero at))

-- one run after another
pub join : (s : List ℕ) (m : ℕ) (b : List ℕ) (n : ℕ) (c : List ℕ) (k : ℕ) → Back s m b n → Back s n c k → Back s m (b ++ c) k
join s m b n c k x y =
    let pre = x.0.0 in
    let r1 = x.0.1 in
    let e1 : drop n s ≡ r1 =
    ap (λ (l : List ℕ). drop n l) (x.0.2 ∙ sym (append_assoc pre b r1))
    ∙ drop_at (pre ++ b) r1 n (length-append pre b ∙ ap (λ (j : ℕ). j + length b) x.0.3 ∙ sym x.1) in
    let e2 : drop n s ≡ c ++ y.0.1 = ap (λ (l : List ℕ). drop n l) y.0.2 ∙ drop_at y.0.0 (c ++ y.0.1) n y.0.3 in (
      (pre, y.0.1, x.0.2 ∙ ap (λ (l : List ℕ). pre ++ (b ++ l)) (sym e1 ∙ e2) ∙ ap (λ (l : List ℕ). pre ++ l) (sym (append_assoc b c y.0.1)), x.0.3),
      omega (arith, x.1, y.1, length-append b c),
    )

-- what follows a position, from what stands there
pub rest_is : (s : List ℕ) (at : ℕ) (b : List ℕ) (next : ℕ) → Back s at b next → drop at s ≡ b ++ drop next s
rest_is s at b next x =
    let pre = x.0.0 in
    let r = x.0.1 in
    let e : drop at s ≡ b ++ r = ap (λ (l : List ℕ). drop at l) x.0.2 ∙ drop_at pre (b ++ r) at x.0.3 in
    let k : drop next s ≡ r =
    ap (λ (l : List ℕ). drop next l) (x.0.2 ∙ sym (append_assoc pre b r))
    ∙ drop_at (pre ++ b) r next (length-append pre b ∙ ap (λ (j : ℕ). j + length b) x.0.3 ∙ sym x.1) in
    e ∙ ap (λ (l : List ℕ). b ++ l) (sym k)

pub end_fits : (s : List ℕ) (at : ℕ) (c : List ℕ) (next : ℕ) → Back s at c next → next ≤ length s
end_fits s at c next x = omega (arith, fits_at s at c x.0, x.1)

-- a part of s stands where it is
pub part_at : (s : List ℕ) (at n : ℕ) → at + n ≤ length s → Back s at (take n (drop at s)) (at + n)
part_at s at n h =
    let k : n ≤ length (drop at s) = omega (arith, length-drop at s) in
    let l : length (take n (drop at s)) ≡ n = length-take-le n (drop at s) k in (
      (take at s, drop n (drop at s), sym (ap (λ (r : List ℕ). take at s ++ r) (take-append-drop n (drop at s)) ∙ take-append-drop at s), length-take-le at s (omega arith)),
      ap (λ (j : ℕ). at + j) (sym l),
    )

-- the n bytes of s before a position
abbrev pub before : List ℕ → ℕ → ℕ → List ℕ
before s end n = take n (drop (end - n) s)

pub run_part : (s : List ℕ) (at n next : ℕ) → next ≡ at + n → at + n ≤ length s → Back s at (before s next n) next
run_part s at n next e h =
    let z : at + n - n ≡ at = omega arith in
    rw (e, z) (part_at s at n h)

le_bound : (w : ℕ) (s : List ℕ) (at : ℕ) → Bytes s → le w s at < 256 ^ w
le_bound zero s at b = omega arith
le_bound (suc w) s at b = omega (arith, b at, le_bound w s (at + 1) b, pow-suc 256 w)

-- the bytes of the number that bytes make
pub bytes_of : (w : ℕ) (s : List ℕ) (at : ℕ) → Bytes s → at + w ≤ length s → le_bytes w (le w s at) ≡ take w (drop at s)
bytes_of zero s at b h = refl
bytes_of (suc w) s at b h =
    let i : at < length s = omega arith in
    let k : at + 1 + w ≤ length s = omega arith in
    let r = le w s (at + 1) in
    let x : (get_or s at 0 + 256 * r) % 256 ≡ get_or s at 0 = omega (arith, b at) in
    let y : (get_or s at 0 + 256 * r) / 256 ≡ r = omega (arith, b at) in
    let q : le_bytes w r ≡ take w (drop (suc at) s) = bytes_of w s (at + 1) b k ∙ ap (λ (j : ℕ). take w (drop j s)) (add-one at) in
    rw (x, y, drop-cons s at 0 i) (ap (λ (l : List ℕ). get_or s at 0 ∷ l) q)

-- an item
pub item_back : (w : ℕ) (s : List ℕ) (at v next : ℕ) → Bytes s → item w s at ≡ got v next → Back s at (le_bytes w v) next × (v < 256 ^ w)
item_back w s at v next b h = go (leb (at + w) (length s)) refl h
  where
    go : (t : Bool) → leb (at + w) (length s) ≡ t → cond t (got (le w s at) (at + w)) (refused 1 at) ≡ got v next → Back s at (le_bytes w v) next × (v < 256 ^ w)
    go true e q =
        let k : at + w ≤ length s = leb-true (at + w) (length s) e in
        let z : le w s at ≡ v = got_value q in
        let n : at + w ≡ next = got_next q in
        rw (sym z, sym n, bytes_of w s at b k) (part_at s at w k, le_bound w s at b)
    go false e q = absurd (not_got q)

-- a run
pub run_back : (n : ℕ) (s : List ℕ) (at v next : ℕ) → run n s at ≡ got v next → (v ≡ n) × (next ≡ at + n) × (at + n ≤ length s)
run_back n s at v next h = go (leb (at + n) (length s)) refl h
  where
    go : (t : Bool) → leb (at + n) (length s) ≡ t → cond t (got n (at + n)) (refused 1 at) ≡ got v next → (v ≡ n) × (next ≡ at + n) × (at + n ≤ length s)
    go true e q = (sym (got_value q), sym (got_next q), leb-true (at + n) (length s) e)
    go false e q = absurd (not_got q)

-- an item under a rule
pub ruled_back : (w : ℕ) (rule : ℕ → ℕ) (s : List ℕ) (at v next : ℕ) → ruled w rule s at ≡ got v next → (item w s at ≡ got v next) × (rule v ≡ 0)
ruled_back w rule s at v next h =
    let p = invert (item w s at) (λ u n. cond (eqb (rule u) 0) (got u n) (refused (rule u) at)) h in
    let q = go (rule p.0) p.0 p.1 (eqb (rule p.0) 0) refl p.3 in
    (p.2 ∙ q.0, subst (λ (u : ℕ). rule u ≡ 0) (got_value q.0) q.1)
  where
    go : (r u n : ℕ) (t : Bool) → eqb r 0 ≡ t → cond t (got u n) (refused r at) ≡ got v next → (got u n ≡ got v next) × (r ≡ 0)
    go r u n true e q = (q, eqb-true r 0 e)
    go r u n false e q = absurd (not_got q)

-- a part with a function of its value
pub map_back : {A B : Type 0} (r : Reader A) (h : A → B) (s : List ℕ) (at : ℕ) (y : B) (z : ℕ) → (r >>= λ a. pure (h a)) s at ≡ got y z → (x : A) × (r s at ≡ got x z) × (h x ≡ y)
map_back r h s at y z e =
    let p = invert (r s at) (λ a n. got (h a) n) e in
    (p.0, p.2 ∙ ap (λ (n : ℕ). got p.0 n) (got_next p.3), got_value p.3)

number_there : (w : ℕ) (s : List ℕ) (at : ℕ) → Bytes s → at + w ≤ length s → Back s at (le_bytes w (le w s at)) (at + w)
number_there w s at b h = (item_back w s at (le w s at) (at + w) b (rw (le-leb (at + w) (length s) h))).0

-- an item of 16 bytes
pub guid_back : (s : List ℕ) (at : ℕ) (g : Guid) (next : ℕ) → Bytes s → guid s at ≡ got g next → Back s at (guid_bytes g) next × (g.low < 256 ^ 8) × (g.high < 256 ^ 8)
guid_back s at g next b h = go (leb (at + 16) (length s)) refl h
  where
    go : (t : Bool) → leb (at + 16) (length s) ≡ t
        → cond {A = Answer Guid} t (got (record { low = le 8 s at; high = le 8 s (at + 8) }) (at + 16)) (refused 1 at) ≡ got g next
        → Back s at (guid_bytes g) next × (g.low < 256 ^ 8) × (g.high < 256 ^ 8)
    go true e q =
        let k : at + 16 ≤ length s = leb-true (at + 16) (length s) e in
        let k1 : at + 8 ≤ length s = omega arith in
        let k2 : at + 8 + 8 ≤ length s = omega arith in
        let z : at + 8 + 8 ≡ at + 16 = omega arith in
        rw (sym (got_value q), sym (got_next q)) (
          subst (λ (n : ℕ). Back s at (le_bytes 8 (le 8 s at) ++ le_bytes 8 (le 8 s (at + 8))) n) z
              (join s at (le_bytes 8 (le 8 s at)) (at + 8) (le_bytes 8 (le 8 s (at + 8))) (at + 8 + 8) (number_there 8 s at b k1) (number_there 8 s (at + 8) b k2)),
          le_bound 8 s at b,
          le_bound 8 s (at + 8) b,
        )
    go false e q = absurd (not_got q)

-- items that a flag announces

absent : {A : Type 0} (bytes : A → List ℕ) (on : A → Bool) (x a : A) (s : List ℕ) (at next : ℕ) → bytes a ≡ [] → on a ≡ false → at ≤ length s → got a at ≡ got x next
    → Back s at (bytes x) next × (on x ≡ false)
absent bytes on x a s at next e o l h = rw (sym (got_value h), sym (got_next h), e, o) (empty s at l, refl)

pub optional16_back : (on : Bool) (s : List ℕ) (at : ℕ) (x : Option ℕ) (next : ℕ) → Bytes s → at ≤ length s → optional16 on s at ≡ got x next → Back s at (optional16_bytes x) next × (is_some x ≡ on)
optional16_back true s at x next b l h =
    let y = map_back (item 2) Some s at x next h in
    rw (sym y.2) ((item_back 2 s at y.0 next b y.1).0, refl)
optional16_back false s at x next b l h = absent optional16_bytes is_some x None s at next refl refl l h

pub optional32_back : (on : Bool) (s : List ℕ) (at : ℕ) (x : Option ℕ) (next : ℕ) → Bytes s → at ≤ length s → optional32 on s at ≡ got x next → Back s at (optional32_bytes x) next × (is_some x ≡ on)
optional32_back true s at x next b l h =
    let y = map_back (item 4) Some s at x next h in
    rw (sym y.2) ((item_back 4 s at y.0 next b y.1).0, refl)
optional32_back false s at x next b l h = absent optional32_bytes is_some x None s at next refl refl l h

pub optional_i64_back : (on : Bool) (s : List ℕ) (at : ℕ) (x : Option ℤ) (next : ℕ) → Bytes s → at ≤ length s → optional_i64 on s at ≡ got x next → Back s at (optional_i64_bytes x) next
    × (is_some x ≡ on)
optional_i64_back true s at x next b l h =
    let y = map_back (signed_item 8) Some s at x next h in
    let m = map_back (item 8) (signed 8) s at y.0 next (sym (signed_is 8 s at) ∙ y.1) in
    let i = item_back 8 s at m.0 next b m.1 in
    let z : unsigned 8 (signed 8 m.0) ≡ m.0 = unsigned_signed 8 m.0 i.1 in
    rw (sym y.2, sym m.2, z) (i.0, refl)
optional_i64_back false s at x next b l h = absent optional_i64_bytes is_some x None s at next refl refl l h

-- an optional number of 2 bytes under a rule
pub ruled16_back : (rule : ℕ → ℕ) (on : Bool) (s : List ℕ) (at : ℕ) (x : Option ℕ) (next : ℕ) → Bytes s → at ≤ length s
    → when_on on None (ruled 2 rule >>= λ v. pure (Some v)) s at ≡ got x next → Back s at (optional16_bytes x) next × (is_some x ≡ on)
ruled16_back rule true s at x next b l h =
    let y = map_back (ruled 2 rule) Some s at x next h in
    rw (sym y.2) ((item_back 2 s at y.0 next b (ruled_back 2 rule s at y.0 next y.1).0).0, refl)
ruled16_back rule false s at x next b l h = absent optional16_bytes is_some x None s at next refl refl l h

-- what picoseconds read as the writers do not refuse
read_kept : (v : ℕ) → picoseconds_rule (picoseconds_read v) ≡ 0
read_kept v = go (leb 10000 v) refl
  where
    go : (b : Bool) → leb 10000 v ≡ b → picoseconds_rule (cond b 9999 v) ≡ 0
    go true e = refl
    go false e = rw e

pub picoseconds_kept : (on : Bool) (s : List ℕ) (at : ℕ) (x : Option ℕ) (next : ℕ) → picoseconds_at on s at ≡ got x next → picoseconds_refusal x ≡ 0
picoseconds_kept true s at x next h =
    let y = map_back (item 2) (λ v. Some (picoseconds_read v)) s at x next h in
    subst (λ (x : Option ℕ). picoseconds_refusal x ≡ 0) y.2 (read_kept y.0)
picoseconds_kept false s at x next h = subst (λ (x : Option ℕ). picoseconds_refusal x ≡ 0) (got_value h) refl

-- an item of 2 bytes that is there
pub two_bytes : (x : Option ℕ) → is_some x ≡ true → length (optional16_bytes x) ≡ 2
two_bytes None e = let z : ◌≡◌ {A = ℕ} 0 1 = cc in absurd (omega arith)
two_bytes (Some v) e = refl

-- What picoseconds that were read tell: whether they are there, where they end, and that the bytes with them held are all before them,
-- their own bytes as they were read, and all behind them.
pub record PicosecondsBack (on : Bool) (s : List ℕ) (at : ℕ) (x : Option ℕ) (next : ℕ) : Type 0 where
  pub there : is_some x ≡ on
  pub ends : next ≡ at + length (optional16_bytes x)
  pub fits : next ≤ length s
  pub held : picoseconds_held x at s ≡ take at s ++ (optional16_bytes x ++ drop next s)

number_held : (s : List ℕ) (at : ℕ) → Bytes s → at + 2 ≤ length s → picoseconds_held (Some 0) at s ≡ take at s ++ (le_bytes 2 (picoseconds_read (le 2 s at)) ++ drop (at + 2) s)
number_held s at b h = go (leb 10000 (le 2 s at))
  where
    go : (t : Bool) → cond t (sets s at (le_bytes 2 9999)) s ≡ take at s ++ (le_bytes 2 (cond t 9999 (le 2 s at)) ++ drop (at + 2) s)
    go true = sets-eq (le_bytes 2 9999) s at h ∙ append_assoc (take at s) (le_bytes 2 9999) (drop (at + 2) s)
    go false = sym (take-append-drop at s) ∙ ap (λ (l : List ℕ). take at s ++ l) (rest_is s at (le_bytes 2 (le 2 s at)) (at + 2) (number_there 2 s at b h))

pub picoseconds_back : (on : Bool) (s : List ℕ) (at : ℕ) (x : Option ℕ) (next : ℕ) → Bytes s → at ≤ length s → picoseconds_at on s at ≡ got x next → PicosecondsBack on s at x next
picoseconds_back true s at x next b l h = go (leb (at + 2) (length s)) refl h
  where
    go : (t : Bool) → leb (at + 2) (length s) ≡ t
        → and_then (cond t (got (le 2 s at) (at + 2)) (refused 1 at)) (λ v n. got (Some (picoseconds_read v)) n) ≡ got x next → PicosecondsBack true s at x next
    go true e q =
        let k : at + 2 ≤ length s = leb-true (at + 2) (length s) e in
        rw (sym (got_value q), sym (got_next q)) (record { there = refl; ends = refl; fits = k; held = number_held s at b k })
    go false e q = absurd (not_got q)
picoseconds_back false s at x next b l h =
    rw (sym (got_value h), sym (got_next h)) (record { there = refl; ends = sym (add-zero at); fits = l; held = sym (take-append-drop at s) })

-- with the bytes before them at hand, from the start
pub front_is : (s : List ℕ) (b : List ℕ) (n : ℕ) → Back s 0 b n → take n s ≡ b
front_is s b n x =
    ap (take n) (rest_is s 0 b n x) ∙ take_at b (drop n s) n (sym (zero-add (length b)) ∙ sym x.1)

-- Behind a front f, the picoseconds as they were read and a part behind them, with all that follows it, are the bytes with them held.
pub held_between : {on : Bool} (s f : List ℕ) (at : ℕ) (x : Option ℕ) (k : ℕ) (c : List ℕ) (next : ℕ) → Back s 0 f at → PicosecondsBack on s at x k → Back s k c next
    → f ++ (optional16_bytes x ++ (c ++ drop next s)) ≡ picoseconds_held x at s
held_between s f at x k c next a p y =
    sym (p.held ∙ ap (λ (l : List ℕ). l ++ (optional16_bytes x ++ drop k s)) (front_is s f at a) ∙ ap (λ (l : List ℕ). f ++ (optional16_bytes x ++ l)) (rest_is s k c next y))

-- they are held by storing them as they were read
pub held_stored : {on : Bool} (s : List ℕ) (at : ℕ) (x : Option ℕ) (next : ℕ) → PicosecondsBack on s at x next → sets s at (optional16_bytes x) ≡ picoseconds_held x at s
held_stored s at x next p =
    let b = optional16_bytes x in
    let fits : at + length b ≤ length s = omega (arith, p.ends, p.fits) in
    sets-eq b s at fits ∙ append_assoc (take at s) b (drop (at + length b) s) ∙ ap (λ (k : ℕ). take at s ++ (b ++ drop k s)) (sym p.ends) ∙ sym p.held

pub held_length : (x : Option ℕ) (at : ℕ) (s : List ℕ) → length (picoseconds_held x at s) ≡ length s
held_length None at s = refl
held_length (Some v) at s = go (leb 10000 (le 2 s at))
  where
    go : (t : Bool) → length (cond t (sets s at (le_bytes 2 9999)) s) ≡ length s
    go true = length-sets s at (le_bytes 2 9999)
    go false = refl
