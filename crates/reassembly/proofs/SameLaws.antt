-- The tests of sameness decide equality, and one law for each way out of them. Assumes nothing.
use mathlib.Core.Path.{◌≡◌, refl, sym, ap, ◌∙◌}
use mathlib.Core.Bool.{true, false, ◌&&◌, true≢false}
use lib.Dec.{eqb}
use borrow.Author.Tests.{eq-eqb, ne_eqb, eqb-true}
use Rattle.publisher_id.specs.PublisherRecord.{same_publisher}
use Rattle.publisher_id.proofs.Equality.{same_publisher_true, same_publisher_refl}
use Rattle.reassembly.specs.Record.{same_group, Origin, same_origin, Identity, same_message}
use Rattle.std.specs.Prelude.{Option, Some, None, ℕ}
use Rattle.wire.proofs.Cases.{by_bool}
use Rattle.wire.proofs.Facts.{and_left, and_right}

-- ---- group ids
same_group_true : (a b : Option ℕ) → same_group a b ≡ true → a ≡ b
same_group_true None None e = refl
same_group_true None (Some y) e = absurd (true≢false (sym e))
same_group_true (Some x) None e = absurd (true≢false (sym e))
same_group_true (Some x) (Some y) e = ap Some (eqb-true x y e)

same_group_refl : (a : Option ℕ) → same_group a a ≡ true
same_group_refl None = refl
same_group_refl (Some x) = eq-eqb x x refl

-- ---- origins
same_origin_true : (a b : Origin) → same_origin a b ≡ true → a ≡ b
unfolding same_origin
same_origin_true a b e =
    let t₃ = eqb a.number b.number in
    let t₂ = eqb a.writer b.writer && t₃ in
    let t₁ = same_group a.group b.group && t₂ in
    let e₁ = and_right (same_publisher a.publisher b.publisher) t₁ e in
    let e₂ = and_right (same_group a.group b.group) t₂ e₁ in
    let p : a.publisher ≡ b.publisher = same_publisher_true _ _ (and_left (same_publisher a.publisher b.publisher) t₁ e) in
    let g : a.group ≡ b.group = same_group_true _ _ (and_left (same_group a.group b.group) t₂ e₁) in
    let q : a.writer ≡ b.writer = eqb-true _ _ (and_left (eqb a.writer b.writer) t₃ e₂) in
    let r : a.number ≡ b.number = eqb-true _ _ (and_right (eqb a.writer b.writer) t₃ e₂) in
    λ i. record { publisher = p i; group = g i; writer = q i; number = r i }

same_origin_refl : (a : Origin) → same_origin a a ≡ true
unfolding same_origin
same_origin_refl a =
    rw (same_publisher_refl a.publisher, same_group_refl a.group, eq-eqb a.writer a.writer refl) (eq-eqb a.number a.number refl)

pub same_origin_number : (a b : Origin) → same_publisher a.publisher b.publisher ≡ true → same_group a.group b.group ≡ true → a.writer ≡ b.writer
    → same_origin a b ≡ eqb a.number b.number
unfolding same_origin
same_origin_number a b e g f = rw (e, g, eq-eqb a.writer b.writer f)

-- ---- messages
pub same_message_true : (a b : Identity) → same_message a b ≡ true → a ≡ b
unfolding same_message
same_message_true a b e =
    let o : a.origin ≡ b.origin = same_origin_true _ _ (and_left (same_origin a.origin b.origin) (eqb a.total b.total) e) in
    let t : a.total ≡ b.total = eqb-true _ _ (and_right (same_origin a.origin b.origin) (eqb a.total b.total) e) in
    λ i. record { origin = o i; total = t i }

same_message_refl : (a : Identity) → same_message a a ≡ true
unfolding same_message
same_message_refl a = rw (same_origin_refl a.origin) (eq-eqb a.total a.total refl)

pub same_message_yes : (a b : Identity) → a ≡ b → same_message a b ≡ true
same_message_yes a b e = rw e (same_message_refl b)

same_message_no : (a b : Identity) → (a ≡ b → ⊥) → same_message a b ≡ false
same_message_no a b ne = by_bool _ (same_message a b) (λ e. absurd (ne (same_message_true a b e))) (λ e. e)

pub same_message_comm : (a b : Identity) → same_message a b ≡ same_message b a
same_message_comm a b =
    by_bool _ (same_message a b) (λ e. e ∙ sym (same_message_yes b a (sym (same_message_true a b e))))
    (λ e. e ∙ sym (same_message_no b a (λ q. true≢false (sym (same_message_yes a b (sym q)) ∙ e))))

pub same_message_total : (a b : Identity) → same_origin a.origin b.origin ≡ true → same_message a b ≡ eqb a.total b.total
unfolding same_message
same_message_total a b e = rw e

-- ---- one law for each way out of a comparison item by item
module _ (a b : Identity) where
  pub other_publisher : same_publisher a.origin.publisher b.origin.publisher ≡ false → same_message a b ≡ false
  unfolding same_message same_origin
  other_publisher e = rw e

  module _ (e : same_publisher a.origin.publisher b.origin.publisher ≡ true) where
    pub other_group : same_group a.origin.group b.origin.group ≡ false → same_message a b ≡ false
    unfolding same_message same_origin
    other_group f = rw (e, f)

    module _ (f : same_group a.origin.group b.origin.group ≡ true) where
      pub other_writer : (a.origin.writer ≡ b.origin.writer → ⊥) → same_message a b ≡ false
      unfolding same_message same_origin
      other_writer ne = rw (e, f, ne_eqb a.origin.writer b.origin.writer ne)

      module _ (g : a.origin.writer ≡ b.origin.writer) where
        pub other_number : (a.origin.number ≡ b.origin.number → ⊥) → same_message a b ≡ false
        unfolding same_message same_origin
        other_number ne = rw (e, f, eq-eqb a.origin.writer b.origin.writer g, ne_eqb a.origin.number b.origin.number ne)

        pub same_but_total : a.origin.number ≡ b.origin.number → same_message a b ≡ eqb a.total b.total
        same_but_total h =
            same_message_total a b (same_origin_number a.origin b.origin e f g ∙ eq-eqb a.origin.number b.origin.number h)
