-- What is read from a configuration text, as lists, is what the text means.
-- Assumes nothing.
use mathlib.Core.Path.{◌≡◌, refl, sym, ◌∙◌, ap}
use mathlib.Core.Bool.{Bool, true, false, cond}
use mathlib.Core.List.{List, [], ◌∷◌, ◌++◌, append_assoc, append-nil}
use Prim.Native.Nat.{ℕ, suc, ◌+◌, ◌-◌, ◌<◌}
use native.Mathlib.Nat.{add-zero}
use native.Mathlib.Numerals.{add-one}
use native.Mathlib.Omega.{arith}
use lib.Dec.{eqb}
use lib.ListN.{length, get_or, take, drop, set, length-append, length-set}
use lib.Seq.{take-suc-set, drop_at}
use Rattle.text.specs.Words.{contains, index_of}
use Rattle.config_text.specs.Line.{Says, writer, field, bad}
use Rattle.config_text.specs.Config.{TextLine, lines_of, line_says, may_follow, with, config_number, config_in, read_lines, config_of}
use Rattle.config_text.specs.Meaning.{all_say, types_under, writers_said, meaning_of, writer_ids, writer_sizes, types_by_id}
use Rattle.config.specs.Writers.{empty_config, fields_of, fields_of_id}
use Rattle.config.specs.declared.Config.{Config}
use Rattle.config_text.proofs.Turns.{new_within, field_within}

-- ---- the lists that the lines give: where each writer's fields start, after f of them; and the types of all fields
abbrev starts_from : ℕ → List Says → List ℕ
starts_from f [] = []
starts_from f (writer id size ∷ ls) = f ∷ starts_from f ls
starts_from f (field t ∷ ls) = starts_from (f + 1) ls
starts_from f (bad ∷ ls) = starts_from f ls

abbrev types_in : List Says → List ℕ
types_in [] = []
types_in (writer id size ∷ ls) = types_in ls
types_in (field t ∷ ls) = t ∷ types_in ls
types_in (bad ∷ ls) = types_in ls

-- the next writer's fields start after those under this one
next_start : (ls : List Says) (f e : ℕ) → e ≡ f + length (types_in ls) → get_or (starts_from f ls) 0 e ≡ f + length (types_under ls)
next_start [] f e h = h
next_start (writer id size ∷ ls) f e h = sym (add-zero f)
next_start (field t ∷ ls) f e h = next_start ls (f + 1) e (omega arith) ∙ omega arith
next_start (bad ∷ ls) f e h = next_start ls f e h

under_first : (ls : List Says) → take (length (types_under ls)) (types_in ls) ≡ types_under ls
under_first [] = refl
under_first (writer id size ∷ ls) = refl
under_first (field t ∷ ls) = ap (λ (u : List ℕ). t ∷ u) (under_first ls)
under_first (bad ∷ ls) = under_first ls

-- the fields by a writer's id, after those of the writers before
types_by_id_lem : (ls : List Says) (p : List ℕ) (f id : ℕ) → length p ≡ f
    → fields_of_id (writer_ids (writers_said ls)) (starts_from f ls) (p ++ types_in ls) id ≡ types_by_id (writers_said ls) id
types_by_id_lem [] p f id h = refl
types_by_id_lem (field t ∷ ls) p f id h =
    let k : length (p ++ (t ∷ [])) ≡ f + 1 = length-append p (t ∷ []) ∙ omega arith in
    ap (λ (u : List ℕ). fields_of_id (writer_ids (writers_said ls)) (starts_from (f + 1) ls) u id) (sym (append_assoc p (t ∷ []) (types_in ls)))
    ∙ types_by_id_lem ls (p ++ (t ∷ [])) (f + 1) id k
types_by_id_lem (bad ∷ ls) p f id h = types_by_id_lem ls p f id h
types_by_id_lem (writer i size ∷ ls) p f id h = go (eqb i id) refl (types_by_id_lem ls p f id h)
  where
    all : List ℕ
    all = p ++ types_in ls

    own : take (get_or (starts_from f ls) 0 (length all) - f) (drop f all) ≡ types_under ls
    own =
        let start = next_start ls f (length all) (length-append p (types_in ls) ∙ ap (λ (n : ℕ). n + length (types_in ls)) h) in
        let size : get_or (starts_from f ls) 0 (length all) - f ≡ length (types_under ls) = omega (arith, start) in
        ap (λ (n : ℕ). take n (drop f all)) size ∙ ap (take (length (types_under ls))) (drop_at p (types_in ls) f h) ∙ under_first ls

    go : (b : Bool) → eqb i id ≡ b → fields_of_id (writer_ids (writers_said ls)) (starts_from f ls) all id ≡ types_by_id (writers_said ls) id
        → fields_of_id (i ∷ writer_ids (writers_said ls)) (f ∷ starts_from f ls) all id ≡ cond (eqb i id) (types_under ls) (types_by_id (writers_said ls) id)
    go true e more = rw e own
    go false e more =
        let k : suc (index_of id (writer_ids (writers_said ls))) + 1 ≡ suc (index_of id (writer_ids (writers_said ls)) + 1) = omega arith in
        let same : fields_of (f ∷ starts_from f ls) all (suc (index_of id (writer_ids (writers_said ls)))) ≡ fields_of (starts_from f ls) all (index_of id (writer_ids (writers_said ls))) = rw k in
        rw e (ap (λ (u : List ℕ). cond (contains id (writer_ids (writers_said ls))) u []) same ∙ more)

-- ---- the record that is read
pub record Lists (c : Config) (ids sizes starts types : List ℕ) : Type 0 where
  pub ids_are : take c.writers c.ids ≡ ids
  pub sizes_are : take c.writers c.sizes ≡ sizes
  pub starts_are : take c.writers c.starts ≡ starts
  pub types_are : take c.fields c.types ≡ types

-- arrays of 16 and of 64
record Arrays (c : Config) : Type 0 where
  ids_long : length c.ids ≡ 16
  sizes_long : length c.sizes ≡ 16
  starts_long : length c.starts ≡ 16
  types_long : length c.types ≡ 64

one_more : (l xs : List ℕ) (n x : ℕ) → n < length l → take (n + 1) (set l n x) ++ xs ≡ take n l ++ (x ∷ xs)
one_more l xs n x h =
    ap (λ (k : ℕ). take k (set l n x) ++ xs) (add-one n) ∙ ap (λ (u : List ℕ). u ++ xs) (take-suc-set l n x h)
    ∙ append_assoc (take n l) (x ∷ []) xs

arrays_with : (c : Config) (y : Says) → Arrays c → Arrays (with c y)
arrays_with c (writer id size) a =
    record {
      ids_long = length-set c.ids c.writers id ∙ a.ids_long;
      sizes_long = length-set c.sizes c.writers size ∙ a.sizes_long;
      starts_long = length-set c.starts c.writers c.fields ∙ a.starts_long;
      types_long = a.types_long;
    }
arrays_with c (field t) a =
    record { ids_long = a.ids_long; sizes_long = a.sizes_long; starts_long = a.starts_long; types_long = length-set c.types c.fields t ∙ a.types_long }
arrays_with c bad a = a

-- what is read from some lines comes after what was read before
abbrev After : Config → Config → List Says → Type 0
After c r ys =
    Lists r (take c.writers c.ids ++ writer_ids (writers_said ys)) (take c.writers c.sizes ++ writer_sizes (writers_said ys))
    (take c.writers c.starts ++ starts_from c.fields ys) (take c.fields c.types ++ types_in ys)

after_one : (c r : Config) (y : Says) (ys : List Says) → Arrays c → may_follow c y ≡ true → After (with c y) r ys → After c r (y ∷ ys)
after_one c r (writer id size) ys a p m =
    let h = new_within c.ids c.writers id p in
    record {
      ids_are = m.ids_are ∙ one_more c.ids (writer_ids (writers_said ys)) c.writers id (omega (arith, a.ids_long, h));
      sizes_are = m.sizes_are ∙ one_more c.sizes (writer_sizes (writers_said ys)) c.writers size (omega (arith, a.sizes_long, h));
      starts_are = m.starts_are ∙ one_more c.starts (starts_from c.fields ys) c.writers c.fields (omega (arith, a.starts_long, h));
      types_are = m.types_are;
    }
after_one c r (field t) ys a p m =
    let h = field_within c p in
    record {
      ids_are = m.ids_are;
      sizes_are = m.sizes_are;
      starts_are = m.starts_are;
      types_are = m.types_are ∙ one_more c.types (types_in ys) c.fields t (omega (arith, a.types_long, h));
    }
after_one c r bad ys a p m = let z : ◌≡◌ {A = Bool} false true = p in let n : ◌≡◌ {A = ℕ} 0 1 = cc in absurd (omega arith)

lines_mean : (ls : List TextLine) (c : Config) (n : ℕ) → Arrays c → config_number (read_lines c n ls) ≡ 0 → After c (config_in (read_lines c n ls)) (all_say ls)
lines_mean [] c n a h =
    record {
      ids_are = sym (append-nil (take c.writers c.ids));
      sizes_are = sym (append-nil (take c.writers c.sizes));
      starts_are = sym (append-nil (take c.writers c.starts));
      types_are = sym (append-nil (take c.fields c.types));
    }
lines_mean (l ∷ ls) c n a h = go (may_follow c (line_says l)) refl (lines_mean ls (with c (line_says l)) (n + 1) (arrays_with c (line_says l) a))
  where
    go : (b : Bool) → may_follow c (line_says l) ≡ b
        → (config_number (read_lines (with c (line_says l)) (n + 1) ls) ≡ 0 → After (with c (line_says l)) (config_in (read_lines (with c (line_says l)) (n + 1) ls)) (all_say ls))
        → After c (config_in (read_lines c n (l ∷ ls))) (line_says l ∷ all_say ls)
    go true p more = rw p (after_one c _ (line_says l) (all_say ls) a p (more (rw p at h)))
    go false p more = let z : ◌≡◌ {A = ℕ} 16 0 = rw p at h in absurd (omega arith)

-- an accepted text: its ids and sizes, and the types by each id
pub config_means : (t : List ℕ) → config_number (config_of t) ≡ 0 → (starts : List ℕ)
    × (types : List ℕ) × Lists (config_in (config_of t)) (writer_ids (meaning_of t)) (writer_sizes (meaning_of t)) starts types
    × ((id : ℕ) → fields_of_id (writer_ids (meaning_of t)) starts types id ≡ types_by_id (meaning_of t) id)
unfolding config_of
config_means t h =
    let ys = all_say (lines_of t) in (
      starts_from 0 ys,
      types_in ys,
      lines_mean (lines_of t) empty_config 1 (record { ids_long = refl; sizes_long = refl; starts_long = refl; types_long = refl }) h,
      λ id. types_by_id_lem ys [] 0 id refl,
    )
