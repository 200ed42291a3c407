-- Equal partials are those that document 01 calls equal. Assumes nothing.
use Prim.Native.Nat.{ℕ}
use mathlib.Core.Path.{◌≡◌, refl, sym, ap, ap₂, ◌∙◌, fun_ext}
use mathlib.Core.Bool.{Bool, true, false, false≢true}
use mathlib.Core.List.{List}
use mathlib.Core.Logic.{◌↔◌, inl, inr}
use mathlib.Core.Option
use mathlib.Core.Option.{Option}
use lib.ListN.{get_or}
use Rattle.marks.specs.Marks.{Layout, marked_below}
use Rattle.reassembly.specs.Views.{has, is_some, only_if}
use Rattle.reassembly.specs.Areas.{marked_view}
use Rattle.reassembly.specs.Record.{Identity, Partial}
use Rattle.reassembly.specs.Machine.{State, view_in, view_of, state_of}
use Rattle.reassembly.specs.Machine.State.{idle, held}
use Rattle.reassembly.specs.Judge.{covered, Equal}
use Rattle.reassembly_laws.specs.Equality.{EqualStarted, EqualInWords}
use Rattle.wire.proofs.Cases.{by_bool}

-- ---- what is covered, and the bytes there
pub view_by : (L : Layout) (t : ℕ) (p m : List ℕ) (i : ℕ) → marked_view L t p m i ≡ only_if (has (marked_view L t p m) i) (get_or p i 0)
unfolding marked_view
view_by L t p m i = pick (marked_below L t m i) (get_or p i 0)
  where
    pick : (b : Bool) (x : ℕ) → only_if b x ≡ only_if (is_some (only_if b x)) x
    pick true x = refl
    pick false x = refl

module _ (a b : Partial) where
  -- where a byte is covered, it is the byte of the area; else it is none
  byte_of : (s : Partial) (i : ℕ) → s.rec.started ≡ true → view_of s i ≡ only_if (covered s i) (get_or s.payload i 0)
  byte_of s i e = rw e (view_by s.layout s.rec.message.total s.payload s.marks i)

  is_held : State → Bool
  is_held idle = false
  is_held (held m v) = true

  same_held : (m k : Identity) (v w : ℕ → Option ℕ) → held m v ≡ held k w → m ≡ k
  same_held m k v w e = ap (λ (s : State). message_of s) e
    where
      message_of : State → Identity
      message_of idle = m
      message_of (held j u) = j

  to_words : Equal a b → EqualInWords a b
  unfolding is_held
  to_words w =
      let q = w.states in
      by_bool _ a.rec.started
      (λ e. by_bool _ b.rec.started
      (λ f. inr (record {
        first = e;
        second = f;
        records = same_held _ _ _ _ (rw (e, f) at q);
        places = λ i. ap (λ (s : State). has (view_in s) i) q;
        numbers = w.numbers e;
        bytes = λ i c. bytes_there w.states i e f c;
      }))
      (λ f. absurd (false≢true (sym (rw (e, f) at (ap is_held q))))))
      (λ e. by_bool _ b.rec.started
      (λ f. absurd (false≢true (rw (e, f) at (ap is_held q))))
      (λ f. inl (e, f)))
    where
      bytes_there : state_of a ≡ state_of b → (i : ℕ) → a.rec.started ≡ true → b.rec.started ≡ true → covered a i ≡ true → get_or a.payload i 0 ≡ get_or b.payload i 0
      bytes_there q i e f c =
          let d : covered b i ≡ true = ap (λ (s : State). has (view_in s) i) (sym q) ∙ c in
          let v : view_of a i ≡ view_of b i = rw (e, f) at (ap (λ (s : State). view_in s i) q) in
          let x : view_of a i ≡ only_if true (get_or a.payload i 0) = byte_of a i e ∙ ap (λ (t : Bool). only_if t (get_or a.payload i 0)) c in
          let y : view_of b i ≡ only_if true (get_or b.payload i 0) = byte_of b i f ∙ ap (λ (t : Bool). only_if t (get_or b.payload i 0)) d in
          ap (λ (o : Option ℕ). Option.get_or o 0) (sym x ∙ v ∙ y)

  from_started : EqualStarted a b → Equal a b
  from_started w = record { states = rw (w.first, w.second) (ap₂ held w.records (fun_ext same_byte)); numbers = λ t. w.numbers }
    where
      only_same : (t u : Bool) (x y : ℕ) → t ≡ u → (t ≡ true → x ≡ y) → only_if t x ≡ only_if u y
      only_same true true x y e h = ap (only_if true) (h refl)
      only_same false false x y e h = refl
      only_same true false x y e h = absurd (false≢true (sym e))
      only_same false true x y e h = absurd (false≢true e)

      same_byte : (i : ℕ) → view_of a i ≡ view_of b i
      same_byte i =
          byte_of a i w.first ∙ only_same (covered a i) (covered b i) (get_or a.payload i 0) (get_or b.payload i 0) (w.places i) (w.bytes i)
          ∙ sym (byte_of b i w.second)

  from_words : EqualInWords a b → Equal a b
  from_words (inl e) = record { states = rw (e.0, e.1); numbers = λ t. absurd (false≢true (sym e.0 ∙ t)) }
  from_words (inr w) = from_started w

  -- ---- EQUAL IN DOCUMENT 01'S WORDS
  pub equal_exactly : Equal a b ↔ EqualInWords a b
  equal_exactly = (to_words, from_words)
