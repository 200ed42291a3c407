-- Laws of a record's numbers stored one after the other, at any width.
-- Assumes nothing.
use Prim.Native.Nat.{ℕ, suc, ◌+◌, ◌*◌, ◌-◌, ◌≤◌, ◌<◌}
use mathlib.Core.Path.{◌≡◌, refl, ap, sym, ◌∙◌}
use mathlib.Core.Bool.{true}
use mathlib.Core.List.{List, [], ◌∷◌, ◌++◌, append_assoc}
use native.Mathlib.Numerals.{add-one}
use native.Mathlib.Omega.{arith}
use borrow.Author.Tests.{le-leb, lt-leb, le-ltb, lt-ltb}
use Rattle.std.specs.Prelude.{min}
use Rattle.wire.proofs.Cases.{by_lt}
use lib.Dec.{leb}
use lib.ListN.{length, get_or, drop, set, length-append, drop_of_length-le}
use lib.Seq.{sets, drop-cons, length-sets}
use Rattle.wire.specs.Number.{le, le_bytes}
use Rattle.wire_writer.specs.Store.{laid, Stored}
use Rattle.wire.proofs.Numbers.{length_le_bytes}
use Rattle.wire_writer.proofs.Stores.{sets_append}
use Rattle.network_message.specs.Payload.{listed}
use Rattle.config.specs.declared.Config.{Config}
use Rattle.config.specs.Writers.{at_most}
use Rattle.records.specs.Numbers.{all_bytes, bytes_each, number_bytes}
use Rattle.records.specs.Writers.{config_bytes}

pub bytes_length : (xs : List ℕ) → length (number_bytes xs) ≡ 8 * length xs
bytes_length [] = refl
bytes_length (x ∷ xs) = omega (arith, length-append (le_bytes 8 x) (number_bytes xs), length_le_bytes 8 x, bytes_length xs)

pub bytes_length_2 : (xs : List ℕ) → length (bytes_each 2 xs) ≡ 2 * length xs
bytes_length_2 [] = refl
bytes_length_2 (x ∷ xs) = omega (arith, length-append (le_bytes 2 x) (bytes_each 2 xs), length_le_bytes 2 x, bytes_length_2 xs)

-- one item more is stored, and those after it are left
module _ {A : Type 0} (bytes : A → List ℕ) (xs : List A) (x : A) (l r e : List ℕ) (i at next : ℕ) (within : i < length xs) (here : x ≡ get_or xs i x)
    (put : Stored (bytes x) l at e next) (room : at + length (all_bytes bytes (drop i xs)) ≤ length l)
    (stored : sets l at (all_bytes bytes (drop i xs)) ≡ r) where
  abbrev rest : List ℕ
  rest = all_bytes bytes (drop (i + 1) xs)

  parts : all_bytes bytes (drop i xs) ≡ bytes x ++ rest
  parts = rw add-one (ap (all_bytes bytes) (drop-cons xs i x within) ∙ ap (λ (y : A). bytes y ++ all_bytes bytes (drop (suc i) xs)) (sym here))

  sizes : length (all_bytes bytes (drop i xs)) ≡ length (bytes x) + length rest
  sizes = ap length parts ∙ length-append (bytes x) rest

  fits : leb (at + length (bytes x)) (length l) ≡ true
  fits = le-leb (at + length (bytes x)) (length l) (omega (arith, sizes, room))

  exit : e ≡ sets l at (bytes x)
  exit = rw fits at put.stored

  after : next ≡ at + length (bytes x)
  after = rw fits at put.after

  pub put_room : next + length rest ≤ length e
  put_room = omega (arith, sizes, room, after, ap length exit, length-sets l at (bytes x))

  pub put_next : sets e next rest ≡ r
  put_next =
      ap (λ (y : List ℕ). sets y next rest) exit ∙ ap (λ (k : ℕ). sets (sets l at (bytes x)) k rest) after
      ∙ sets_append (bytes x) rest l at ∙ ap (sets l at) (sym parts) ∙ stored

pub put_end : {A : Type 0} (bytes : A → List ℕ) (xs : List A) (l r : List ℕ) (i at : ℕ) → length xs ≤ i → sets l at (all_bytes bytes (drop i xs)) ≡ r → l ≡ r
put_end bytes xs l r i at h v = ap (λ (y : List _). sets l at (all_bytes bytes y)) (sym (drop_of_length-le xs h)) ∙ v

-- numbers that fit, and numbers that do not
pub put_fits : (xs l e : List ℕ) (at : ℕ) → at + 8 * length xs ≤ length l → e ≡ sets l at (number_bytes xs) → e ≡ laid l at (number_bytes xs)
put_fits xs l e at h q = rw (le-leb (at + length (number_bytes xs)) (length l) (omega (arith, bytes_length xs))) q

pub put_none : (xs l : List ℕ) (at : ℕ) → length l < at + 8 * length xs → l ≡ laid l at (number_bytes xs)
put_none xs l at h = rw (lt-leb (at + length (number_bytes xs)) (length l) (omega (arith, bytes_length xs)))

-- bytes stored after others that were stored from the start
pub store_next : (l e f x y : List ℕ) (at : ℕ) → at ≡ length x → at + length y ≤ length l → e ≡ sets l 0 x → f ≡ laid e at y → f ≡ sets l 0 (x ++ y)
store_next l e f x y at a room q v =
    let n : length e ≡ length l = ap (λ (k : List ℕ). length k) q ∙ length-sets l 0 x in
    let t : leb (at + length y) (length e) ≡ true = le-leb (at + length y) (length e) (omega arith) in
    let s : f ≡ sets e at y = rw t at v in
    let b : at ≡ 0 + length x = omega arith in
    s ∙ ap (λ (k : List ℕ). sets k at y) q ∙ ap (λ (k : ℕ). sets (sets l 0 x) k y) b ∙ sets_append x y l 0

-- 16 numbers of 2 bytes read one after the other
pub list_next : (s l r : List ℕ) (i p v : ℕ) → i < 16 → v ≡ le 2 s p → sets l i (listed (16 - i) s p) ≡ r
    → sets (set l i v) (i + 1) (listed (16 - (i + 1)) s (p + 2)) ≡ r
list_next s l r i p v h e w =
    let q : 16 - i ≡ suc (16 - (i + 1)) = omega arith in
    let z : sets l i (listed (suc (16 - (i + 1))) s p) ≡ r = ap (λ (k : ℕ). sets l i (listed k s p)) (sym q) ∙ w in
    ap (λ (x : ℕ). sets (set l i x) (i + 1) (listed (16 - (i + 1)) s (p + 2))) e
    ∙ ap (λ (k : ℕ). sets (set l i (le 2 s p)) k (listed (16 - (i + 1)) s (p + 2))) (add-one i) ∙ z

pub list_end : (s l r : List ℕ) (i p : ℕ) → 16 ≤ i → sets l i (listed (16 - i) s p) ≡ r → l ≡ r
list_end s l r i p h w =
    let q : 16 - i ≡ 0 = omega arith in
    ap (λ (k : ℕ). sets l i (listed k s p)) (sym q) ∙ w

store_next_sets : (l e f x y : List ℕ) (at : ℕ) → at ≡ length x → at + length y ≤ length l → e ≡ sets l 0 x → f ≡ sets e at y → f ≡ sets l 0 (x ++ y)
store_next_sets l e f x y at a room q v =
    let n : length e ≡ length l = ap (λ (k : List ℕ). length k) q ∙ length-sets l 0 x in
    store_next l e f x y at a room q (rw (le-leb (at + length y) (length e) (omega arith)) v)

-- the smaller of a number and the most that it may be
pub least_most : (most n r : ℕ) → r ≡ min n most → r ≡ at_most most n
least_most most n r e = by_lt _ most n (λ h. rw (lt-ltb most n h) (omega (arith, e))) (λ h. rw (le-ltb most n h) (omega (arith, e)))

-- a configuration record is 146 bytes long
pub config_length : (c : Config) → length c.ids ≡ 16 → length c.sizes ≡ 16 → length c.starts ≡ 16 → length c.types ≡ 64 → length (config_bytes c) ≡ 146
config_length c a b d e =
    let b₁ : List ℕ = le_bytes 1 (at_most 16 c.writers) in
    let b₂ : List ℕ = b₁ ++ le_bytes 1 (at_most 64 c.fields) in
    let b₃ : List ℕ = b₂ ++ bytes_each 2 c.ids in
    let b₄ : List ℕ = b₃ ++ bytes_each 2 c.sizes in
    let b₅ : List ℕ = b₄ ++ c.starts in
    let p₁ : length b₁ ≡ 1 = length_le_bytes 1 (at_most 16 c.writers) in
    let p₂ : length (le_bytes 1 (at_most 64 c.fields)) ≡ 1 = length_le_bytes 1 (at_most 64 c.fields) in
    let p₃ : length b₂ ≡ length b₁ + length (le_bytes 1 (at_most 64 c.fields)) = length-append b₁ (le_bytes 1 (at_most 64 c.fields)) in
    let p₄ : length b₃ ≡ length b₂ + length (bytes_each 2 c.ids) = length-append b₂ (bytes_each 2 c.ids) in
    let p₅ : length b₄ ≡ length b₃ + length (bytes_each 2 c.sizes) = length-append b₃ (bytes_each 2 c.sizes) in
    let p₆ : length b₅ ≡ length b₄ + length c.starts = length-append b₄ c.starts in
    length-append b₅ c.types ∙ omega (arith, bytes_length_2 c.ids, bytes_length_2 c.sizes)

-- a configuration record put in its parts
pub config_none : (c : Config) (l : List ℕ) → length c.ids ≡ 16 → length c.sizes ≡ 16 → length c.starts ≡ 16 → length c.types ≡ 64
    → length l < 146 → l ≡ laid l 0 (config_bytes c)
config_none c l a b d e h = rw (lt-leb (0 + length (config_bytes c)) (length l) (omega (arith, config_length c a b d e)))

pub config_put : (c : Config) (l e₁ e₂ e₃ e₄ e₅ e₆ : List ℕ) (w f : ℕ) → length c.ids ≡ 16 → length c.sizes ≡ 16 → length c.starts ≡ 16
    → length c.types ≡ 64 → 146 ≤ length l → w ≡ at_most 16 c.writers → f ≡ at_most 64 c.fields → e₁ ≡ laid l 0 (le_bytes 1 w)
    → e₂ ≡ laid e₁ 1 (le_bytes 1 f) → e₃ ≡ sets e₂ 2 (bytes_each 2 c.ids) → e₄ ≡ sets e₃ 34 (bytes_each 2 c.sizes) → e₅ ≡ laid e₄ 66 c.starts
    → e₆ ≡ laid e₅ 82 c.types → e₆ ≡ laid l 0 (config_bytes c)
config_put c l e₁ e₂ e₃ e₄ e₅ e₆ w f na nb nd ne h qw qf q₁ q₂ q₃ q₄ q₅ q₆ =
    let m : ℕ = at_most 16 c.writers in
    let k₂ : ℕ = at_most 64 c.fields in
    let lw : length (le_bytes 1 m) ≡ 1 = length_le_bytes 1 m in
    let lf : length (le_bytes 1 k₂) ≡ 1 = length_le_bytes 1 k₂ in
    let li : length (bytes_each 2 c.ids) ≡ 32 = bytes_length_2 c.ids ∙ ap (λ (k : ℕ). 2 * k) na in
    let lz : length (bytes_each 2 c.sizes) ≡ 32 = bytes_length_2 c.sizes ∙ ap (λ (k : ℕ). 2 * k) nb in
    let b₁ : List ℕ = le_bytes 1 m in
    let b₂ : List ℕ = b₁ ++ le_bytes 1 k₂ in
    let b₃ : List ℕ = b₂ ++ bytes_each 2 c.ids in
    let b₄ : List ℕ = b₃ ++ bytes_each 2 c.sizes in
    let b₅ : List ℕ = b₄ ++ c.starts in
    let l₂ : length b₂ ≡ 2 = length-append b₁ (le_bytes 1 k₂) ∙ (omega arith) in
    let l₃ : length b₃ ≡ 34 = length-append b₂ (bytes_each 2 c.ids) ∙ (omega arith) in
    let l₄ : length b₄ ≡ 66 = length-append b₃ (bytes_each 2 c.sizes) ∙ (omega arith) in
    let l₅ : length b₅ ≡ 82 = length-append b₄ c.starts ∙ (omega arith) in
    let t : leb (0 + length b₁) (length l) ≡ true = le-leb (0 + length b₁) (length l) (omega arith) in
    let z₁ : e₁ ≡ laid l 0 b₁ = q₁ ∙ ap (λ (k : ℕ). laid l 0 (le_bytes 1 k)) qw in
    let s₁ : e₁ ≡ sets l 0 b₁ = rw t at z₁ in
    let z₂ : e₂ ≡ laid e₁ 1 (le_bytes 1 k₂) = q₂ ∙ ap (λ (k : ℕ). laid e₁ 1 (le_bytes 1 k)) qf in
    let s₂ : e₂ ≡ sets l 0 b₂ = store_next l e₁ e₂ b₁ (le_bytes 1 k₂) 1 (sym lw) (omega arith) s₁ z₂ in
    let s₃ : e₃ ≡ sets l 0 b₃ = store_next_sets l e₂ e₃ b₂ (bytes_each 2 c.ids) 2 (sym l₂) (omega arith) s₂ q₃ in
    let s₄ : e₄ ≡ sets l 0 b₄ = store_next_sets l e₃ e₄ b₃ (bytes_each 2 c.sizes) 34 (sym l₃) (omega arith) s₃ q₄ in
    let s₅ : e₅ ≡ sets l 0 b₅ = store_next l e₄ e₅ b₄ c.starts 66 (sym l₄) (omega arith) s₄ q₅ in
    let s₆ : e₆ ≡ sets l 0 (config_bytes c) = store_next l e₅ e₆ b₅ c.types 82 (sym l₅) (omega arith) s₅ q₆ in
    rw (le-leb (0 + length (config_bytes c)) (length l) (omega (arith, config_length c na nb nd ne))) s₆

-- a record's numbers, each equal to what its definition says
pub also : {x y : ℕ} {xs ys : List ℕ} → x ≡ y → xs ≡ ys → (x ∷ xs) ≡ (y ∷ ys)
also {x} {y} {xs} {ys} p q = ap (λ (k : ℕ). k ∷ xs) p ∙ ap (λ (k : List ℕ). y ∷ k) q

pub put_same : (l : List ℕ) (at : ℕ) {xs ys e : List ℕ} → xs ≡ ys → e ≡ laid l at (number_bytes xs) → e ≡ laid l at (number_bytes ys)
put_same l at {xs} {ys} {e} p q = q ∙ ap (λ (k : List ℕ). laid l at (number_bytes k)) p

-- a record's numbers stored in two parts
bytes_append : (xs ys : List ℕ) → number_bytes (xs ++ ys) ≡ number_bytes xs ++ number_bytes ys
bytes_append [] ys = refl
bytes_append (x ∷ xs) ys =
    ap (λ (k : List ℕ). le_bytes 8 x ++ k) (bytes_append xs ys) ∙ sym (append_assoc (le_bytes 8 x) (number_bytes xs) (number_bytes ys))

pub put_both : (xs ys l e f : List ℕ) (at : ℕ) → at ≡ 8 * length xs → at + 8 * length ys ≤ length l → e ≡ laid l 0 (number_bytes xs)
    → f ≡ laid e at (number_bytes ys) → f ≡ laid l 0 (number_bytes (xs ++ ys))
put_both xs ys l e f at a room p q =
    let t : leb (0 + length (number_bytes xs)) (length l) ≡ true =
    le-leb (0 + length (number_bytes xs)) (length l) (omega (arith, bytes_length xs)) in
    let s : e ≡ sets l 0 (number_bytes xs) = rw t at p in
    let z : f ≡ sets l 0 (number_bytes xs ++ number_bytes ys) =
    store_next l e f (number_bytes xs) (number_bytes ys) at (omega (arith, bytes_length xs)) (omega (arith, bytes_length ys)) s q in
    put_fits (xs ++ ys) l f 0 (omega (arith, length-append xs ys)) (z ∙ ap (λ (k : List ℕ). sets l 0 k) (sym (bytes_append xs ys)))
