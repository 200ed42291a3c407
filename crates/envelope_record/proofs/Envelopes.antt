-- The envelope of an envelope record, from what the functions that make its parts promise.
-- Assumes nothing.
use Rattle.std.specs.Prelude.{Option, ℤ}
use Rattle.wire.specs.declared.Guid.{Guid}
use Rattle.network_header.specs.declared.group.GroupFields.{GroupFields}
use Prim.Native.Nat.{ℕ}
use mathlib.Core.Bool.{Bool}
use mathlib.Core.Path.{◌≡◌, ap, ◌∙◌}
use mathlib.Core.List.{List}
use Rattle.publisher_id.specs.declared.publisher.PublisherId.{PublisherId}
use Rattle.network_header.specs.declared.header.PayloadHeader.{PayloadHeader}
use Rattle.network_header.specs.declared.envelope.Envelope.{Envelope}
use Rattle.records.specs.Publisher.{publisher_given}
use Rattle.records.specs.Numbers.{number_at}
use Rattle.records.specs.Items.{is_on, given16, given_i64}
use Rattle.envelope_record.specs.Envelope.{class_in, group_in, payload_header_by, promoted_in, envelope_in}

-- a function of two things, each of which is another
of_two : {A B C : Type 0} (f : A → B → C) {a a₁ : A} {b b₁ : B} → a ≡ a₁ → b ≡ b₁ → f a b ≡ f a₁ b₁
of_two {A} {B} f {a} {a₁} {b} {b₁} p q = ap (λ (x : A). f x b) p ∙ ap (λ (y : B). f a₁ y) q

abbrev made : PublisherId → Option Guid → Option GroupFields → Bool → PayloadHeader → Option ℤ → Option ℕ → Option ℕ → Envelope
made p k g c h t o m =
    record {
      publisher = p;
      class_id = k;
      group = g;
      chunk = c;
      payload_header = h;
      timestamp = t;
      picoseconds = o;
      promoted = m;
    }

-- an envelope, changed part by part
envelope_made : {p p₁ : PublisherId} {k k₁ : Option Guid} {g g₁ : Option GroupFields} {c c₁ : Bool} {h h₁ : PayloadHeader} {t t₁ : Option ℤ}
    {o o₁ : Option ℕ} {m m₁ : Option ℕ} → p ≡ p₁ → k ≡ k₁ → g ≡ g₁ → c ≡ c₁ → h ≡ h₁ → t ≡ t₁ → o ≡ o₁ → m ≡ m₁
    → made p k g c h t o m ≡ made p₁ k₁ g₁ c₁ h₁ t₁ o₁ m₁
envelope_made {p} {p₁} {k} {k₁} {g} {g₁} {c} {c₁} {h} {h₁} {t} {t₁} {o} {o₁} {m} {m₁} ep ek eg ec eh et eo em =
    ap (λ (x : PublisherId). made x k g c h t o m) ep ∙ ap (λ (x : Option Guid). made p₁ x g c h t o m) ek
    ∙ ap (λ (x : Option GroupFields). made p₁ k₁ x c h t o m) eg ∙ ap (λ (x : Bool). made p₁ k₁ g₁ x h t o m) ec
    ∙ ap (λ (x : PayloadHeader). made p₁ k₁ g₁ c₁ x t o m) eh ∙ ap (λ (x : Option ℤ). made p₁ k₁ g₁ c₁ h₁ x o m) et
    ∙ ap (λ (x : Option ℕ). made p₁ k₁ g₁ c₁ h₁ t₁ x m) eo ∙ ap (λ (x : Option ℕ). made p₁ k₁ g₁ c₁ h₁ t₁ o₁ x) em

-- the record's envelope, from its numbers
pub envelope_read : (s : List ℕ) (n₀ n₁ n₃ n₄ n₅ n₆ n₁₁ n₁₂ n₁₃ n₁₅ n₁₆ n₁₇ n₁₈ n₁₉ n₂₀ : ℕ) (c b d : Bool) (p : PublisherId) (k : Option Guid)
    (g : Option GroupFields) (h : PayloadHeader) (t : Option ℤ) (o : Option ℕ) (m : Option ℕ) → n₀ ≡ number_at s 0 → n₁ ≡ number_at s 1
    → n₃ ≡ number_at s 3 → n₄ ≡ number_at s 4 → n₅ ≡ number_at s 5 → n₆ ≡ number_at s 6 → n₁₁ ≡ number_at s 11 → n₁₂ ≡ number_at s 12
    → n₁₃ ≡ number_at s 13 → n₁₅ ≡ number_at s 15 → n₁₆ ≡ number_at s 16 → n₁₇ ≡ number_at s 17 → n₁₈ ≡ number_at s 18 → n₁₉ ≡ number_at s 19
    → n₂₀ ≡ number_at s 20 → c ≡ is_on n₁₁ → b ≡ is_on n₁₅ → d ≡ is_on n₁₇ → p ≡ publisher_given n₀ n₁ → k ≡ class_in n₃ n₄ n₅ → g ≡ group_in s n₆
    → h ≡ payload_header_by n₁₂ n₁₃ → t ≡ given_i64 b n₁₆ → o ≡ given16 d n₁₈ → m ≡ promoted_in n₁₉ n₂₀ → made p k g c h t o m ≡ envelope_in s
envelope_read s n₀ n₁ n₃ n₄ n₅ n₆ n₁₁ n₁₂ n₁₃ n₁₅ n₁₆ n₁₇ n₁₈ n₁₉ n₂₀ c b d p k g h t o m e₀ e₁ e₃ e₄ e₅ e₆ e₁₁ e₁₂ e₁₃ e₁₅ e₁₆ e₁₇ e₁₈ e₁₉ e₂₀
    ec eb ed ep ek eg eh et eo em =
    let on : (n m : ℕ) → n ≡ m → is_on n ≡ is_on m = λ n m e. ap (λ (x : ℕ). is_on x) e in
    envelope_made
    (ep ∙ of_two publisher_given e₀ e₁)
    (ek ∙ ap (λ (x : ℕ). class_in x n₄ n₅) e₃ ∙ of_two (class_in (number_at s 3)) e₄ e₅)
    (eg ∙ ap (λ (x : ℕ). group_in s x) e₆)
    (ec ∙ on n₁₁ (number_at s 11) e₁₁)
    (eh ∙ of_two payload_header_by e₁₂ e₁₃)
    (et ∙ of_two given_i64 (eb ∙ on n₁₅ (number_at s 15) e₁₅) e₁₆)
    (eo ∙ of_two given16 (ed ∙ on n₁₇ (number_at s 17) e₁₇) e₁₈)
    (em ∙ of_two promoted_in e₁₉ e₂₀)
