-- What the plain machine keeps is what was brought since the last emptying. Assumes nothing.
use Prim.Native.Nat.{ℕ, ◌≤◌, ◌<◌}
use mathlib.Core.Path.{◌≡◌, refl, sym, ap, subst, ◌∙◌}
use mathlib.Core.Logic.{◌↔◌, ◌⊎◌, inl, inr, ⊎_elim}
use mathlib.Core.Bool.{true, false, false≢true}
use mathlib.Core.List.{List, [], ◌∷◌}
use mathlib.Core.Option
use mathlib.Core.Option.{Option, some, none, or_else, none-ne-some}
use native.Mathlib.Omega.{arith}
use lib.ListN.{length, get_or}
use lib.Seq.{ext_get_or}
use Rattle.reassembly.specs.Views.{View, is_some, differs, clash, both_views, nowhere, bytes_below}
use Rattle.reassembly.specs.Record.{Identity, Partial, sound}
use Rattle.reassembly.specs.Reading.{Reading, reading_at, GoodReading}
use Rattle.reassembly.specs.Reading.Reading.{chunk, refusal}
use Rattle.reassembly.specs.Machine.{State, view_in, judge, accept, is_complete, state_of, alone, reading_verdict, Call, Delivery, verdict_of, keeps, if_accepted, whole, machine_final, with_delivery, brought_by, brought, OneHas, AllOf}
use Rattle.reassembly.specs.Machine.State.{idle, held}
use Rattle.reassembly.specs.Machine.Call.{Empty, Take, Combine, Ask, HandOut}
use Rattle.reassembly.specs.Verdict.{Verdict, Done, Refused}
use Rattle.wire.proofs.Cases.{by_bool, by_lt}
use Rattle.reassembly.proofs.ViewLaws.{length_tab, get_d_tab, full_some, none_clash, data_above, first_known, differs_none}
use Rattle.reassembly.proofs.AreaLaws.{marked_above}
use Rattle.reassembly.proofs.SameLaws.{same_message_true}
use Rattle.reassembly.proofs.JudgeLaws.{refused_done, sound_some, judge_meets, meet_same, meet_free, reading_proper}

-- no byte at or above total
abbrev pub Bounded : State → Type 0
Bounded idle = Unit {0}
Bounded (held m v) = (i : ℕ) → m.total ≤ i → v i ≡ none

pub bounded : (s : Partial) → Bounded (state_of s)
bounded s =
    by_bool _ s.rec.started (λ e. rw e (λ i h. marked_above s.layout s.rec.message.total s.payload s.marks i h)) (λ e. rw e tt)

alone_bounded : (x : Reading) → GoodReading x → Bounded (alone x)
alone_bounded (chunk m at d) o = λ i h. data_above at d i (omega (arith, o.fits))
alone_bounded (refusal n p) o = tt

-- a message of total 1 or more, where one is held
abbrev pub Filled : State → Type 0
Filled idle = Unit {0}
Filled (held m v) = 1 ≤ m.total

pub filled : (s : Partial) → sound s ≡ true → Filled (state_of s)
filled s ok = by_bool _ s.rec.started (λ e. rw e (sound_some s ok e)) (λ e. rw e tt)

-- every delivery is of the message
abbrev AllAre : Identity → List Delivery → Type 0
AllAre m [] = Unit {0}
AllAre m (b ∷ l) = (b.message ≡ m) × AllAre m l

abbrev Messages : State → List Delivery → Type 0
Messages idle l = l ≡ []
Messages (held m v) l = AllAre m l

-- the covered bytes are those brought, and all that was brought is of the message held
pub record Log (s : State) (l : List Delivery) : Type 0 where
  pub bytes : (i x : ℕ) → (view_in s i ≡ some x) ↔ OneHas l i x
  pub messages : Messages s l

pub log_none : Log idle []
log_none = record { bytes = λ i x. (λ e. none-ne-some x e, λ e. absurd e); messages = refl }

first_cases : (o p : Option ℕ) (x : ℕ) → or_else o p ≡ some x → (o ≡ some x) ⊎ (p ≡ some x)
unfolding or_else
first_cases (some y) p x e = inl e
first_cases none p x e = inr e

first_of : (o p : Option ℕ) (x : ℕ) → o ≡ some x → or_else o p ≡ some x
unfolding or_else
first_of o p x e = rw e

-- the bytes of an accepted view
log_bytes : (w v : View) (l : List Delivery) (m : Identity) → ((i : ℕ) → differs (w i) (v i) ≡ false) → ((i x : ℕ) → (w i ≡ some x) ↔ OneHas l i x) → (i x : ℕ)
    → (both_views w v i ≡ some x) ↔ OneHas (record { message = m; bytes = v } ∷ l) i x
log_bytes w v l m free old i x = (
  λ e. ⊎_elim (λ q. inr ((old i x).0 q)) (λ q. inl q) (first_cases (w i) (v i) x e),
  λ k. ⊎_elim
      (λ q. ap (or_else (w i)) q ∙ first_known (w i) x (ap (differs (w i)) (sym q) ∙ free i))
      (λ q. first_of (w i) (v i) x ((old i x).1 q))
      k,
)

log_accept : (n : ℕ) (s : State) (l : List Delivery) (m : Identity) (v : View) → Bounded (held m v) → Log s l → judge n s (held m v) ≡ Done
    → Log (accept s (held m v)) (record { message = m; bytes = v } ∷ l)
unfolding or_else
log_accept n idle l m v b g e = record {
  bytes = log_bytes nowhere v l m (λ i. refl) g.bytes;
  messages = (refl, subst (AllAre m) (sym g.messages) tt);
}
log_accept n (held k w) l m v b g e =
    let met = judge_meets n (held k w) m v e in
    let t : k ≡ m = same_message_true k m (meet_same k m w v met) in
    let c : clash k.total w v ≡ false = meet_free k m w v met in
    record {
      bytes = log_bytes w v l m
          (λ i. by_lt _ i k.total (λ h. none_clash k.total w v c i h) (λ h. let q : k.total ≡ m.total = ap (λ (z : Identity). z.total) t in rw (b i (omega arith)) (differs_none (w i))))
          g.bytes;
      messages = (sym t, g.messages);
    }

-- a call that brings t, judged by v
log_step : (n : ℕ) (s : State) (l : List Delivery) (v : Verdict) (t : State) → Bounded t → (v ≡ Done → judge n s t ≡ Done) → Log s l → Log (if_accepted v s (accept s t)) (with_delivery v t l)
log_step n s l (Refused x y) t b d g = g
log_step n s l Done idle b d g = g
log_step n s l Done (held m v) b d g = log_accept n s l m v b g (d refl)

reading_done : (n : ℕ) (s : State) (x : Reading) → reading_verdict n s x ≡ Done → judge n s (alone x) ≡ Done
reading_done n s (chunk m at d) e = e
reading_done n s (refusal k p) e = absurd (refused_done k p e)

source_done : (n : ℕ) (s : State) (f : Partial) → verdict_of n (Combine f) s ≡ Done → judge n s (state_of f) ≡ Done
source_done n s f e = by_bool _ (sound f) (λ t. rw t at e) (λ t. absurd (refused_done 12 0 (rw t at e)))

log_turn : (n : ℕ) (k : Call) (s : State) (l : List Delivery) → Log s l → Log (keeps n k s) (brought_by n k s l)
log_turn n Empty s l g = log_none
log_turn n (Take d sizes) s l g =
    log_step n s l _ _ (alone_bounded (reading_at sizes d) (reading_proper sizes d)) (reading_done n s (reading_at sizes d)) g
log_turn n (Combine f) s l g = log_step n s l _ _ (bounded f) (source_done n s f) g
log_turn n Ask s l g = g
log_turn n HandOut s l g = g

pub log_all : (n : ℕ) (ks : List Call) (s : State) (l : List Delivery) → Log s l → Log (machine_final n ks s) (brought n ks s l)
log_all n [] s l g = g
log_all n (k ∷ ks) s l g = log_all n ks (keeps n k s) (brought_by n k s l) (log_turn n k s l g)

-- ---- one payload
of_bytes : (p : List ℕ) (l : List Delivery) (i x : ℕ) → AllOf p l → OneHas l i x → get_or p i 0 ≡ x
of_bytes p [] i x a k = absurd k
of_bytes p (b ∷ l) i x a k = ⊎_elim (λ q. (a.0 i x q).there i x q) (λ q. of_bytes p l i x a.1 q) k

-- what brought a byte tells how long the payload is
of_long : (p : List ℕ) (m : Identity) (l : List Delivery) (i x : ℕ) → AllOf p l → AllAre m l → OneHas l i x → length p ≡ m.total
of_long p m [] i x a s k = absurd k
of_long p m (b ∷ l) i x a s k =
    ⊎_elim (λ q. (a.0 i x q).long ∙ ap (λ (z : Identity). z.total) s.0) (λ q. of_long p m l i x a.1 s.1 q) k

some_of : (o : Option ℕ) → is_some o ≡ true → o ≡ some (Option.get_or o 0)
some_of (some x) e = refl
some_of none e = absurd (false≢true e)

pub whole_of : (p : List ℕ) (l : List Delivery) (s : State) → AllOf p l → Log s l → Filled s → is_complete s ≡ true → whole s ≡ p
whole_of p l idle a g f e = absurd (false≢true e)
whole_of p l (held m v) a g f e =
    let has : (i : ℕ) → i < m.total → OneHas l i (Option.get_or (v i) 0) = λ i k. (g.bytes i (Option.get_or (v i) 0)).0 (some_of (v i) (full_some m.total v e i k)) in
    let t : length p ≡ m.total = of_long p m l 0 (Option.get_or (v 0) 0) a g.messages (has 0 f) in
    ext_get_or 0 (bytes_below m.total v) p (length_tab m.total _ ∙ sym t)
    (λ i k.
    let j : i < m.total = rw (length_tab m.total (λ i. Option.get_or (v i) 0)) at k in
    get_d_tab m.total (λ i. Option.get_or (v i) 0) i 0 j ∙ sym (of_bytes p l i (Option.get_or (v i) 0) a (has i j)))
