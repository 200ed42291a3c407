-- The test of two publishers decides their equality, and one law for each way out of it.
-- Assumes nothing.
use Prim.Native.Nat.{ℕ}
use Rattle.std.specs.Cmp.Lexicographic.{pointwise}
use Rattle.std.specs.Prelude.{nat_eq}
use mathlib.Core.Path.{◌≡◌, refl, ap, ◌∙◌}
use mathlib.Core.Bool.{Bool, true, false, ◌&&◌, false≢true}
use mathlib.Core.List.{List, [], ◌∷◌}
use lib.Dec.{eqb}
use borrow.Author.Tests.{eq-eqb, ne_eqb, eqb-true}
use Rattle.publisher_id.specs.PublisherRecord.{Publisher, code_of, id_number_of, text_length_of, publisher_of, same_text, same_publisher}
use Rattle.publisher_id.specs.declared.publisher.PublisherId.{PublisherId}
use Rattle.publisher_id.specs.declared.publisher_record.PublisherRecord.{PublisherRecord}
use Rattle.wire.proofs.Facts.{and_left, and_right}

-- what the library's equality of slices says
pub same_text_is : (a b : List ℕ) → pointwise nat_eq a b ≡ same_text a b
unfolding same_text
same_text_is [] [] = refl
same_text_is [] (y ∷ ys) = refl
same_text_is (x ∷ xs) [] = refl
same_text_is (x ∷ xs) (y ∷ ys) = ap (λ (b : Bool). eqb x y && b) (same_text_is xs ys)

same_text_true : (a b : List ℕ) → same_text a b ≡ true → a ≡ b
unfolding same_text
same_text_true [] [] e = refl
same_text_true [] (y ∷ ys) e = absurd (false≢true e)
same_text_true (x ∷ xs) [] e = absurd (false≢true e)
same_text_true (x ∷ xs) (y ∷ ys) e =
    let p : x ≡ y = eqb-true x y (and_left (eqb x y) (same_text xs ys) e) in
    let q : xs ≡ ys = same_text_true xs ys (and_right (eqb x y) (same_text xs ys) e) in
    cc

same_text_refl : (a : List ℕ) → same_text a a ≡ true
unfolding same_text
same_text_refl [] = refl
same_text_refl (x ∷ xs) = rw (eq-eqb x x refl) (same_text_refl xs)

pub same_publisher_true : (a b : Publisher) → same_publisher a b ≡ true → a ≡ b
unfolding same_publisher
same_publisher_true a b e =
    let t₂ = same_text a.text b.text in
    let t₁ = eqb a.value b.value && t₂ in
    let e₁ = and_right (eqb a.code b.code) t₁ e in
    let p : a.code ≡ b.code = eqb-true _ _ (and_left (eqb a.code b.code) t₁ e) in
    let q : a.value ≡ b.value = eqb-true _ _ (and_left (eqb a.value b.value) t₂ e₁) in
    let r : a.text ≡ b.text = same_text_true _ _ (and_right (eqb a.value b.value) t₂ e₁) in
    λ i. record { code = p i; value = q i; text = r i }

pub same_publisher_refl : (a : Publisher) → same_publisher a a ≡ true
unfolding same_publisher
same_publisher_refl a = rw (eq-eqb a.code a.code refl, eq-eqb a.value a.value refl) (same_text_refl a.text)

pub same_publisher_code : (a b : Publisher) → (a.code ≡ b.code → ⊥) → same_publisher a b ≡ false
unfolding same_publisher
same_publisher_code a b ne = rw (ne_eqb a.code b.code ne)

pub same_publisher_value : (a b : Publisher) → a.code ≡ b.code → (a.value ≡ b.value → ⊥) → same_publisher a b ≡ false
unfolding same_publisher
same_publisher_value a b e ne = rw (eq-eqb a.code b.code e, ne_eqb a.value b.value ne)

pub same_publisher_text : (a b : Publisher) → a.code ≡ b.code → a.value ≡ b.value → same_publisher a b ≡ same_text a.text b.text
unfolding same_publisher
same_publisher_text a b e f = rw (eq-eqb a.code b.code e, eq-eqb a.value b.value f)

-- an id that is no string has no text
no_text : (id : PublisherId) → (code_of id ≡ 5 → ⊥) → text_length_of id ≡ 0
no_text PublisherId.Absent ne = refl
no_text (PublisherId.Byte v) ne = refl
no_text (PublisherId.UInt16 v) ne = refl
no_text (PublisherId.UInt32 v) ne = refl
no_text (PublisherId.UInt64 v) ne = refl
no_text (PublisherId.Text n) ne = absurd (ne refl)

-- ids that are no strings, of one type and number
pub same_publisher_plain : (a b : PublisherRecord) → code_of a.id ≡ code_of b.id → id_number_of a.id ≡ id_number_of b.id → (code_of a.id ≡ 5 → ⊥)
    → same_publisher (publisher_of a) (publisher_of b) ≡ true
same_publisher_plain a b e f ne =
    same_publisher_text (publisher_of a) (publisher_of b) e f
    ∙ rw (no_text a.id ne, no_text b.id (λ h. ne (e ∙ h))) (same_text_refl [])
