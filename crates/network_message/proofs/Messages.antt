-- Laws of walking over the messages of a payload, and the theorem that the messages of an accepted payload tile it.
-- Assumes nothing.
use Prim.Native.Nat.{ℕ, zero, suc, ◌+◌, ◌≤◌, ◌<◌}
use mathlib.Core.Path.{◌≡◌, refl, ap, sym, ◌∙◌}
use mathlib.Core.Bool.{Bool, true, false}
use mathlib.Core.List.{List, [], ◌∷◌}
use native.Mathlib.Nat.{not-suc-le-zero}
use native.Mathlib.Numerals.{add-one}
use native.Mathlib.Omega.{arith}
use lib.Dec.{leb}
use lib.ListN.{length, take, get_or}
use borrow.Author.Tests.{le-leb, lt-leb, leb-true, leb-false}
use Rattle.wire.specs.Lists.{total}
use Rattle.network_message.specs.Payload.{size_of_message, place_of_message, pass_at}
use Rattle.network_message.specs.declared.payload.Payload.{Payload}
use Rattle.network_message.specs.declared.payload.MessagePlace.{MessagePlace}
use Rattle.wire.specs.Answer.{got, refused, run}
use Rattle.wire.proofs.Reading.{not_got}
use Rattle.network_message.proofs.Tallies.{total_next}

module _ (p : Payload) (sizes s : List ℕ) (at : ℕ) where
  pub pass_none : pass_at p sizes 0 s at ≡ got tt at
  unfolding pass_at
  pass_none = refl

  -- one message more is passed
  pub pass_step : (i q n : ℕ) (m : MessagePlace) → pass_at p sizes i s at ≡ got tt q → place_of_message p sizes i s q ≡ got m n → pass_at p sizes (i + 1) s at ≡ got tt n
  unfolding pass_at
  pass_step i q n m e f = rw (add-one, e, f)

  step_refused_lem : (i q n place : ℕ) → pass_at p sizes i s at ≡ got tt q → place_of_message p sizes i s q ≡ refused n place → pass_at p sizes (suc i) s at ≡ refused n place
  unfolding pass_at
  step_refused_lem i q n place e f = rw (e, f)

  stays_refused : (k n place : ℕ) → pass_at p sizes k s at ≡ refused n place → pass_at p sizes (suc k) s at ≡ refused n place
  unfolding pass_at
  stays_refused k n place e = rw e

  -- a message that is refused refuses every later one
  pub pass_stop : (i k q n place : ℕ) → i < k → pass_at p sizes i s at ≡ got tt q → place_of_message p sizes i s q ≡ refused n place → pass_at p sizes k s at ≡ refused n place
  pass_stop i zero q n place h e f = absurd (not-suc-le-zero h)
  pass_stop i (suc k) q n place h e f = go (λ l. pass_stop i k q n place l e f) (leb k i) refl
    where
      go : (i < k → pass_at p sizes k s at ≡ refused n place) → (b : Bool) → leb k i ≡ b → pass_at p sizes (suc k) s at ≡ refused n place
      go ih true t =
          let l : k ≤ i = leb-true k i t in
          let z : i ≡ k = omega arith in
          ap (λ (j : ℕ). pass_at p sizes (suc j) s at) (sym z) ∙ step_refused_lem i q n place e f
      go ih false t = stays_refused k n place (ih (leb-false k i t))

-- an accepted message is one of the payload's
pub message_counted : (p : Payload) (sizes : List ℕ) (k : ℕ) (s : List ℕ) (at : ℕ) (m : MessagePlace) (n : ℕ) → place_of_message p sizes k s at ≡ got m n → k < p.count
message_counted p sizes k s at m n e = go (leb p.count k) refl
  where
    go : (b : Bool) → leb p.count k ≡ b → k < p.count
    go true t = absurd (not_got (rw t at e))
    go false t = leb-false p.count k t

-- a run that fits
run_here : (n : ℕ) (s : List ℕ) (at : ℕ) → at + n ≤ length s → run n s at ≡ got n (at + n)
run_here n s at h = rw (le-leb (at + n) (length s) h)

abbrev place : ℕ → ℕ → ℕ → MessagePlace
place k at n = record { index = k; offset = at; length = n }

-- the sum of the first k sizes
abbrev pub before : List ℕ → ℕ → ℕ
before zs k = total (take k zs)

before_suc : (zs : List ℕ) (k : ℕ) → k < length zs → before zs (suc k) ≡ before zs k + get_or zs k 0
before_suc zs k h = ap (before zs) (sym (add-one k)) ∙ total_next zs k h

before_all : (zs : List ℕ) (k : ℕ) → k ≤ length zs → before zs k ≤ total zs
before_all [] zero h = omega arith
before_all [] (suc k) h = absurd (not-suc-le-zero h)
before_all (x ∷ zs) zero h = omega arith
before_all (x ∷ zs) (suc k) h = omega (arith, before_all zs k (omega arith))

-- What "tile" says of a payload whose messages have the sizes zs: each stands where those before it end and has at least a
-- byte, and the last ends where the datagram ends.
pub record Tiles (p : Payload) (sizes s zs : List ℕ) : Type 0 where
  pub many : length zs ≡ p.count
  pub whole : p.first + total zs ≡ length s
  pub some : (k : ℕ) → k < length zs → 0 < get_or zs k 0
  pub here : (k : ℕ) → k < length zs → size_of_message p.sizes sizes k s (p.first + before zs k) ≡ get_or zs k 0

module _ {p : Payload} {sizes s zs : List ℕ} (t : Tiles p sizes s zs) where
  -- message k, where those before it end
  pub tile : (k : ℕ) → k < length zs → place_of_message p sizes k s (p.first + before zs k) ≡ got (place k (p.first + before zs k) (get_or zs k 0)) (p.first + before zs (suc k))
  tile k h =
      let c : k < p.count = omega (arith, t.many) in
      let b = before_suc zs k h in
      let u : before zs (suc k) ≤ total zs = before_all zs (suc k) h in
      let f : p.first + before zs k + get_or zs k 0 ≤ length s = omega (arith, t.whole) in
      let e : p.first + before zs k + get_or zs k 0 ≡ p.first + before zs (suc k) = omega arith in
      rw (lt-leb p.count k c, t.here k h, run_here (get_or zs k 0) s (p.first + before zs k) f)
      (ap (λ (n : ℕ). got (place k (p.first + before zs k) (get_or zs k 0)) n) e)

  -- and so on from the first to the last
  pub tiled : (k : ℕ) → k ≤ length zs → pass_at p sizes k s p.first ≡ got tt (p.first + before zs k)
  tiled zero h = pass_none p sizes s p.first ∙ ap (λ (n : ℕ). got tt n) (omega arith)
  tiled (suc k) h =
      ap (λ (j : ℕ). pass_at p sizes j s p.first) (sym (add-one k))
      ∙ pass_step p sizes s p.first k (p.first + before zs k) (p.first + before zs (suc k)) _ (tiled k (omega arith)) (tile k h)
