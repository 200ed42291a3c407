-- By which numbers salvaging refuses.
-- Assumes nothing.
use Prim.Native.Nat.{ℕ, ◌+◌, ◌/◌, ◌≤◌}
use mathlib.Core.Path.{◌≡◌, refl, sym, ap, subst, ◌∙◌}
use mathlib.Core.Bool.{Bool, true, false, cond, false≢true}
use mathlib.Core.List.{List, [], ◌++◌}
use mathlib.Core.Logic.{◌⊎◌, inl, inr}
use native.Mathlib.Omega.{arith}
use lib.Dec.{ltb}
use lib.ListN.{length, take}
use lib.Seq.{length-take-le, get_or-take}
use Rattle.wire.proofs.Cases.{by_lt, by_bool}
use Rattle.wire.specs.Constants.{NO_ROOM}
use Rattle.wire.specs.Answer.{refused}
use Rattle.wire_writer.specs.Store.{laid}
use Rattle.dataset_message.specs.Message.{message_at}
use Rattle.records.specs.Numbers.{number_bytes}
use Rattle.reassembly.specs.Record.{Partial, sound}
use Rattle.reassembly.specs.Operations.{progress_of}
use Rattle.reassembly.specs.Verdict.{Progress}
use Rattle.salvage.specs.Front.{Promise, Salvage, salvaged, refusal}
use Rattle.salvage.specs.Whole.{TellsOf}
use Rattle.salvage.specs.declared.holes.Hole.{Hole}
use Rattle.partial_record.specs.List.{hole_entries, field_entries, entries_put, told_numbers, SavedPut, saved_put, put_saved, salvage_in, holes_in, front_end, open_in, encoding_told}
use Rattle.std.specs.Prelude.{Result, Ok, Err}
use Rattle.acceptance.proofs.Reasons.{number_of, place_of, is_refused}
use Rattle.uadp_c.specs.Reassembling.{partial_of}
use Rattle.uadp_c.specs.Salvaging.{salvage_types, salvage_by, salvage_lent}
use Rattle.acceptance.specs.Refusals.{Refusal, salvage_refusals}
use Rattle.acceptance.proofs.Refusals.{told, wider}
use Rattle.acceptance.proofs.RefusedMessages.{message_tells}
use Rattle.acceptance.proofs.Salvage.{salvaging, total_fits}

-- no place: 11 and 12
nowhere_refusal : (bytes n place : ℕ) (a : Result ℕ (ℕ × ℕ)) → a ≡ Err (n, place) → (number_of a ≡ 11) ⊎ (number_of a ≡ 12) → place_of a ≡ 0 → Refusal salvage_refusals n place bytes
nowhere_refusal bytes n place a e (inl q) z =
    let i : n ≡ 11 = sym (ap number_of e) ∙ q in
    let j : place ≡ 0 = sym (ap place_of e) ∙ z in
    rw (i, j) (record { one = refl; nowhere = λ _. refl; inside = omega arith })
nowhere_refusal bytes n place a e (inr q) z =
    let i : n ≡ 12 = sym (ap number_of e) ∙ q in
    let j : place ≡ 0 = sym (ap place_of e) ∙ z in
    rw (i, j) (record { one = refl; nowhere = λ _. refl; inside = omega arith })

abbrev refuses_all : Salvage → Bool
refuses_all (salvaged p fs) = false
refuses_all (refusal a b) = true

none_refused : {p : Promise} {n place : ℕ} → refusal n place ≡ salvaged p [] → ⊥
none_refused q = false≢true (sym (ap refuses_all q))

module _ (types payload marks : List ℕ) (total : ℕ) (room : total ≤ length payload) where
  -- a refusal of the front is that of the area's first bytes, read as a message
  own_number : (n place : ℕ) → salvage_in types payload marks total ≡ refusal n place → message_at types (take total payload) ≡ refused n place
  own_number n place e =
      by_lt _ 0 total
      (λ l. subst (λ (v : Salvage). TellsOf v types (take total payload)) e
      (salvaging.tells types payload marks total (take total payload) (omega arith) room
      (record { long = length-take-le total payload room; same = λ i u m. get_or-take total payload i 0 u })))
      (λ l. let z : total ≡ 0 = omega arith in absurd (none_refused (sym (rw z at e))))

  own_refusal_lem : (n place : ℕ) → message_at types (take total payload) ≡ refused n place → Refusal salvage_refusals n place (length payload)
  own_refusal_lem n place e =
      let r = told (message_tells types (take total payload)) e in
      let l : length (take total payload) ≤ length payload = let q = length-take-le total payload room in omega (arith, q, room) in
      let w = wider {ys = salvage_refusals} refl r in
      record { one = w.one; nowhere = w.nowhere; inside = omega (arith, w.inside, l) }

  put_refusal : (hs : List Hole) (front encoding : ℕ) (told₀ list : List ℕ) (v : Salvage) (n place : ℕ) → salvage_in types payload marks total ≡ v
      → (put_saved hs front total encoding told₀ list v).answer ≡ Err (n, place) → Refusal salvage_refusals n place (length payload)
  put_refusal hs front encoding told₀ list (refusal a b) n place q e =
      let i : a ≡ n = ap number_of e in
      let j : b ≡ place = ap place_of e in
      own_refusal_lem n place (own_number n place (q ∙ rw (i, j)))
  put_refusal hs front encoding told₀ list (salvaged p fs) n place q e =
      go (ltb (length told₀) 64) (ltb (length list / 64) (length hs + length fs))
      (saved_put (Ok (length hs + length fs)) (laid told₀ 0 (number_bytes (told_numbers (length hs) (length fs) p front total encoding)))
      (entries_put 0 (hole_entries hs ++ field_entries fs) list))
      (length hs + length fs) refl e
    where
      go : (a b : Bool) (w : SavedPut) (k : ℕ) → w.answer ≡ Ok k
          → (cond a (saved_put (Err (NO_ROOM, 0)) told₀ list) (cond b (saved_put (Err (NO_ROOM, 0)) told₀ list) w)).answer ≡ Err (n, place)
          → Refusal salvage_refusals n place (length payload)
      go true b w k j i = nowhere_refusal (length payload) n place (Err (11, 0)) i (inl refl) refl
      go false true w k j i = nowhere_refusal (length payload) n place (Err (11, 0)) i (inl refl) refl
      go false false w k j i = absurd (false≢true (ap is_refused (sym j ∙ i)))

-- ---- what progress tells of a partial
abbrev refuses_progress : Progress → Bool
refuses_progress (Progress.Is a b) = false
refuses_progress (Progress.Unknown a b) = true

abbrev first_of : Progress → ℕ
first_of (Progress.Is a b) = a
first_of (Progress.Unknown a b) = a

abbrev second_of : Progress → ℕ
second_of (Progress.Is a b) = b
second_of (Progress.Unknown a b) = b

unsound_number : (s : Partial) (a b : ℕ) → progress_of s ≡ Progress.Unknown a b → (a ≡ 12) × (b ≡ 0)
unfolding progress_of
unsound_number s a b e = go (sound s) s.rec.started e
  where
    go : (x y : Bool) → cond x (cond y (Progress.Is s.rec.covered s.rec.message.total) (Progress.Is 0 0)) (Progress.Unknown 12 0) ≡ Progress.Unknown a b
        → (a ≡ 12) × (b ≡ 0)
    go true true q = absurd (false≢true (ap refuses_progress q))
    go true false q = absurd (false≢true (ap refuses_progress q))
    go false y q = (sym (ap first_of q), sym (ap second_of q))

total_within : (s : Partial) (covered total : ℕ) → progress_of s ≡ Progress.Is covered total → total ≤ length s.payload
unfolding progress_of
total_within s covered total e = go (sound s) refl s.rec.started refl e
  where
    go : (x : Bool) → sound s ≡ x → (y : Bool) → s.rec.started ≡ y
        → cond x (cond y (Progress.Is s.rec.covered s.rec.message.total) (Progress.Is 0 0)) (Progress.Unknown 12 0) ≡ Progress.Is covered total
        → total ≤ length s.payload
    go true ok true on q =
        let z : s.rec.message.total ≡ total = ap second_of q in
        let f = total_fits s.rec (length s.payload) (length s.marks) s.layout ok on in
        omega (arith, z, f.1)
    go true ok false on q = let z : 0 ≡ total = ap second_of q in omega (arith, z)
    go false ok y on q = absurd (false≢true (sym (ap refuses_progress q)))

pub salvage_told : (rec payload marks config told₀ list : List ℕ) (n place : ℕ)
    → (salvage_lent rec payload marks config told₀ list).answer ≡ Err (n, place) → Refusal salvage_refusals n place (length payload)
salvage_told rec payload marks config told₀ list n place e =
    by_bool _ (ltb (length rec) 144)
    (λ b. nowhere_refusal (length payload) n place (Err (12, 0)) (rw b at e) (inr refl) refl)
    (λ b. go (progress_of (partial_of rec payload marks)) refl (rw b at e))
  where
    types : List ℕ
    types = salvage_types config rec

    go : (p : Progress) → progress_of (partial_of rec payload marks) ≡ p → (salvage_by p types payload marks told₀ list).answer ≡ Err (n, place)
        → Refusal salvage_refusals n place (length payload)
    go (Progress.Unknown a b) q i =
        let u = unsound_number (partial_of rec payload marks) a b q in
        nowhere_refusal (length payload) n place (Err (a, b)) i (inr u.0) u.1
    go (Progress.Is covered total) q i =
        put_refusal types payload marks total (total_within (partial_of rec payload marks) covered total q) (holes_in types payload marks total) (front_end types payload marks total)
        (encoding_told (open_in types payload marks total)) told₀ list (salvage_in types payload marks total) n place refl i
