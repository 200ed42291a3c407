-- The combining laws of the plain machine's states: order, sameness, grouping. Assumes nothing.
use Prim.Native.Nat.{ℕ}
use mathlib.Core.Path.{◌≡◌, refl, sym, ap, ap₂, ◌∙◌, fun_ext}
use mathlib.Core.Bool.{false}
use Rattle.reassembly.specs.Views.{clash, differs}
use Rattle.reassembly.specs.Record.{Identity, same_message}
use Rattle.reassembly.specs.Machine.{State, between, accept}
use Rattle.reassembly.specs.Machine.State.{idle, held}
use Rattle.reassembly.specs.Verdict.{Done}
use Rattle.wire.proofs.Cases.{by_bool, by_lt}
use Rattle.reassembly.proofs.ViewLaws.{clash_none, none_clash}
use Rattle.reassembly.proofs.SameLaws.{same_message_true, same_message_yes, same_message_comm}
use Rattle.reassembly.proofs.JudgeLaws.{meet_same, meet_free}
use Rattle.reassembly.proofs.Bringing.{Bounded}
use Rattle.reassembly_laws.proofs.JoinLaws.{clash_comm, differs_refl, differs_comm, first_comm, first_assoc, differs_first, differs_left, differs_right}

-- the same message, and no byte differs
abbrev pub Agree : State → State → Type 0
Agree idle t = Unit {0}
Agree (held k w) idle = Unit {0}
Agree (held k w) (held m v) = (k ≡ m) × ((i : ℕ) → differs (w i) (v i) ≡ false)

pub agree_done : (s t : State) → Agree s t → between s t ≡ Done
agree_done idle idle a = refl
agree_done idle (held m v) a = refl
agree_done (held k w) idle a = refl
agree_done (held k w) (held m v) a = rw (same_message_yes k m a.0, clash_none k.total w v (λ i h. a.1 i))

pub done_agree : (s t : State) → Bounded s → between s t ≡ Done → Agree s t
done_agree idle idle b e = tt
done_agree idle (held m v) b e = tt
done_agree (held k w) idle b e = tt
done_agree (held k w) (held m v) b e = (
  same_message_true k m (meet_same k m w v e),
  λ i. by_lt _ i k.total (λ l. none_clash k.total w v (meet_free k m w v e) i l) (λ l. rw (b i l)),
)

-- ---- order
pub between_comm : (s t : State) → between s t ≡ between t s
between_comm idle idle = refl
between_comm idle (held m v) = refl
between_comm (held k w) idle = refl
between_comm (held k w) (held m v) =
    by_bool _ (same_message k m)
    (λ e.
    let q : k ≡ m = same_message_true k m e in
    let x : clash k.total w v ≡ clash m.total v w = clash_comm k.total w v ∙ ap (λ (z : Identity). clash z.total v w) q in
    rw (sym (same_message_comm k m) ∙ e, e, x))
    (λ e. rw (sym (same_message_comm k m) ∙ e, e))

pub accept_comm : (s t : State) → Agree s t → accept s t ≡ accept t s
accept_comm idle idle a = refl
accept_comm idle (held m v) a = refl
accept_comm (held k w) idle a = refl
accept_comm (held k w) (held m v) a = ap₂ held a.0 (fun_ext (λ i. first_comm (w i) (v i) (a.1 i)))

pub agree_refl : (s : State) → Agree s s
agree_refl idle = tt
agree_refl (held k w) = (refl, λ i. differs_refl (w i))

pub agree_comm : (s t : State) → Agree s t → Agree t s
agree_comm idle idle a = tt
agree_comm idle (held m v) a = tt
agree_comm (held k w) idle a = tt
agree_comm (held k w) (held m v) a = (sym a.0, λ i. differs_comm (v i) (w i) ∙ a.1 i)

-- ---- grouping
pub accept_assoc : (s t u : State) → accept (accept s t) u ≡ accept s (accept t u)
accept_assoc s t idle = refl
accept_assoc s idle (held m v) = refl
accept_assoc idle (held k w) (held m v) = refl
accept_assoc (held j x) (held k w) (held m v) = ap (held j) (fun_ext (λ i. first_assoc (x i) (w i) (v i)))

pub agree_both : (s t u : State) → Agree s u → Agree t u → Agree (accept s t) u
agree_both s idle u a b = a
agree_both idle (held k w) u a b = b
agree_both (held j x) (held k w) idle a b = tt
agree_both (held j x) (held k w) (held m v) a b = (a.0, λ i. differs_first (x i) (w i) (v i) (a.1 i) (b.1 i))

pub agree_left : (s t u : State) → Agree (accept s t) u → Agree s u
agree_left s idle u a = a
agree_left idle (held k w) u a = tt
agree_left (held j x) (held k w) idle a = tt
agree_left (held j x) (held k w) (held m v) a = (a.0, λ i. differs_left (x i) (w i) (v i) (a.1 i))

pub agree_right : (s t u : State) → Agree s t → Agree (accept s t) u → Agree t u
agree_right s idle u d a = tt
agree_right idle (held k w) u d a = a
agree_right (held j x) (held k w) idle d a = tt
agree_right (held j x) (held k w) (held m v) d a = (sym d.0 ∙ a.0, λ i. differs_right (x i) (w i) (v i) (d.1 i) (a.1 i))
