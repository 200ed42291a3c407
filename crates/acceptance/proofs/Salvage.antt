-- Salvaging: a value of specs/Salvage.antt.
-- Assumes nothing.
use Prim.Native.Nat.{ℕ, ◌+◌, ◌/◌, ◌≤◌, ◌<◌, ◌%◌}
use mathlib.Core.Path.{◌≡◌, refl, sym, ap, subst, ◌∙◌}
use mathlib.Core.Bool.{Bool, true, false, cond, not, ◌&&◌, ◌||◌, false≢true}
use mathlib.Core.Option.{Option, some, none}
use mathlib.Core.List.{List, ◌++◌}
use mathlib.Core.Logic.{◌⊎◌, inl, inr}
use native.Mathlib.Nat.{le_refl, zero-add}
use native.Mathlib.Omega.{arith}
use borrow.Author.Tests.{leb-true, lt-ltb, ne_eqb, not-false}
use lib.Dec.{leb, ltb, eqb}
use lib.ListN.{length, get_or, take}
use lib.Seq.{length-take-le, get_or-take}
use Rattle.wire.proofs.Cases.{by_lt}
use Rattle.wire.proofs.Steady.{Fronts}
use Rattle.wire.specs.Constants.{NO_ROOM}
use Rattle.wire_writer.specs.Store.{laid}
use Rattle.records.specs.Numbers.{number_bytes}
use Rattle.records.specs.Result.{result_of}
use Rattle.marks.specs.Marks.{Layout, in_use, marked, marked_below, marks_for}
use Rattle.marks.proofs.NextLaws.{Next, next_next}
use Rattle.reassembly.specs.Record.{identity_of, Partial, sound, sound_by}
use Rattle.reassembly.specs.Areas.{marked_view}
use Rattle.reassembly.specs.Views.{only_if}
use Rattle.reassembly.specs.Machine.{Call, State, state_of, view_in, view_of}
use Rattle.reassembly.specs.Machine.State.{held}
use Rattle.reassembly.specs.Calls.{final}
use Rattle.reassembly.specs.Operations.{progress_of}
use Rattle.reassembly.specs.declared.record.PartialRecord.{PartialRecord}
use Rattle.reassembly.specs.Verdict.{Progress}
use Rattle.salvage.specs.Front.{Salvage, salvaged, refusal, salvage_at}
use Rattle.salvage.specs.Whole.{TellsOf}
use Rattle.salvage.specs.declared.holes.Hole.{Hole}
use Rattle.salvage.proofs.Told.{salvage_tells}
use Rattle.salvage.proofs.Tiling.{holes_tile, holes_longest}
use Rattle.partial_record.specs.List.{hole_entries, field_entries, entries_put, told_numbers, SavedPut, saved_put, put_saved, salvage_in, front_end, front_bytes, area_bytes}
use Rattle.std.specs.Prelude.{Ok, Err}
use Rattle.uadp_c.specs.Reassembling.{partial_of}
use Rattle.uadp_c.specs.Salvaging.{salvaged_result, salvage_types, salvage_by, salvage_lent, Salvages}
use Rattle.acceptance.specs.Salvage.{NoEmptying, HasCovered, Salvaging}
use Rattle.acceptance.proofs.Kept.{all_calls}

-- ---- every message that has the covered bytes
module _ (types payload marks : List ℕ) (total : ℕ) (message : List ℕ) (room : total ≤ length payload) (has : HasCovered payload marks total message) where
  front_next : Next (λ i. not (marked in_use marks i)) total 0 (front_end types payload marks total)
  front_next = next_next (λ i. not (marked in_use marks i)) total 0

  front_upto : front_end types payload marks total ≤ total
  front_upto =
      by_lt _ total (front_end types payload marks total) (λ l. let q = front_next.upto l in omega arith) (λ l. l)

  front_length : length (front_bytes types payload marks total) ≡ front_end types payload marks total
  front_length = length-take-le (front_end types payload marks total) payload (let u = front_upto in omega arith)

  area_length : length (area_bytes types payload marks total) ≡ total
  area_length = length-take-le total payload room

  front_byte : (i : ℕ) → i < front_end types payload marks total → get_or (front_bytes types payload marks total) i 0 ≡ get_or payload i 0
  front_byte i l = get_or-take (front_end types payload marks total) payload i 0 l

  fronts : Fronts (front_bytes types payload marks total) (area_bytes types payload marks total) message
  fronts =
      let u = front_upto in
      let lf = front_length in
      let la = area_length in
      let lm = has.long in
      record {
        one = record {
          first = le_refl (length (front_bytes types payload marks total));
          second = omega (arith, u, lf, la);
          same = λ i l.
              ap (λ (k : ℕ). get_or (area_bytes types payload marks total) k 0) (zero-add i) ∙ get_or-take total payload i 0 (omega (arith, u, lf, l))
              ∙ sym (front_byte i (omega (arith, lf, l)));
        };
        other = record {
          first = le_refl (length (front_bytes types payload marks total));
          second = omega (arith, u, lf, lm);
          same = λ i l.
              ap (λ (k : ℕ). get_or message k 0) (zero-add i)
              ∙ has.same i (omega (arith, u, lf, l)) (not-false (marked in_use marks i) (front_next.none i (omega arith) (omega (arith, lf, l))))
              ∙ sym (front_byte i (omega (arith, lf, l)));
        };
        long = la ∙ sym lm;
      }

  tells_of : 1 ≤ total → TellsOf (salvage_in types payload marks total) types message
  tells_of h =
      let e : eqb total 0 ≡ false = ne_eqb total 0 (λ z. absurd (omega arith)) in
      let q : length message ≡ length (area_bytes types payload marks total) = has.long ∙ sym area_length in
      let t : TellsOf (salvage_at (length message) types (front_bytes types payload marks total) (area_bytes types payload marks total)) types message =
      salvage_tells types (front_bytes types payload marks total) (area_bytes types payload marks total) message fronts in
      rw e (subst (λ (n : ℕ). TellsOf (salvage_at n types (front_bytes types payload marks total) (area_bytes types payload marks total)) types message) q t)

-- ---- covered bytes stay, without emptying

-- a byte that is covered is the payload area's
covered_is : (t : Partial) (i x : ℕ) → view_in (state_of t) i ≡ some x → get_or t.payload i 0 ≡ x
unfolding marked_view
covered_is t i x e = go t.rec.started refl
  where
    only : (b : Bool) (y : ℕ) → only_if b y ≡ some x → y ≡ x
    only true y q = cc
    only false y q = absurd (false≢true (ap known q))
      where
        known : Option ℕ → Bool
        known (some z) = true
        known none = false

    go : (b : Bool) → t.rec.started ≡ b → get_or t.payload i 0 ≡ x
    go true q = only (marked_below t.layout t.rec.message.total t.marks i) (get_or t.payload i 0) (rw q at e)
    go false q = absurd (false≢true (ap known (rw q at e)))
      where
        known : Option ℕ → Bool
        known (some z) = true
        known none = false

covered_some : (L : Layout) (total i : ℕ) (p m : List ℕ) → i < total → marked L m i ≡ true → marked_view L total p m i ≡ some (get_or p i 0)
unfolding marked_view
covered_some L total i p m l e = rw (lt-ltb i total l, e)

sound_parts : (a st c d e : Bool) → (a && (not st || (c && (d && e)))) ≡ true → st ≡ true → (c ≡ true) × (d ≡ true)
sound_parts true true true true e q h = (refl, refl)
sound_parts true true true false e q h = absurd (false≢true q)
sound_parts true true false d e q h = absurd (false≢true q)
sound_parts true false c d e q h = absurd (false≢true h)
sound_parts false st c d e q h = absurd (false≢true q)

pub total_fits : (r : PartialRecord) (n k : ℕ) (L : Layout) → sound_by L r n k ≡ true → r.started ≡ true → (1 ≤ r.message.total) × (r.message.total ≤ n)
unfolding sound_by
total_fits r n k L e h =
    let a = sound_parts (eqb (marks_for L n) k) r.started (leb 1 r.message.total) (leb r.message.total n) _ e h in
    (leb-true 1 r.message.total a.0, leb-true r.message.total n a.1)

later_has : (ks : List Call) (s : Partial) → sound s ≡ true → s.layout ≡ in_use → s.rec.started ≡ true → NoEmptying ks
    → HasCovered s.payload s.marks s.rec.message.total (take s.rec.message.total (final ks s).payload)
later_has ks s ok lay on h =
    let total = s.rec.message.total in
    let fits = total_fits s.rec (length s.payload) (length s.marks) s.layout ok on in
    let st : state_of s ≡ held (identity_of s.rec.message) (view_of s) = rw on refl in
    let (kept, room) = all_calls ks s (identity_of s.rec.message) (view_of s) h st in
    let (w, e, stays) = kept in
    record {
      long = length-take-le total (final ks s).payload (omega (arith, fits.1, room));
      same = λ i l q.
          get_or-take total (final ks s).payload i 0 l
          ∙ covered_is (final ks s) i (get_or s.payload i 0)
          (ap (λ (t : State). view_in t i) e ∙ stays i (get_or s.payload i 0)
          (covered_some s.layout total i s.payload s.marks l (subst (λ (L : Layout). marked L s.marks i ≡ true) (sym lay) q)));
    }

-- ---- a refusal leaves the buffers

-- entries were put, or nothing
abbrev Either : SavedPut → List ℕ → List ℕ → Type 0
Either x told list = ((n : ℕ) × (x.answer ≡ Ok n)) ⊎ ((x.told ≡ told) × (x.list ≡ list))

by_room : (told list : List ℕ) (a b : Bool) (w : SavedPut) (n : ℕ) → w.answer ≡ Ok n
    → Either (cond a (saved_put (Err (NO_ROOM, 0)) told list) (cond b (saved_put (Err (NO_ROOM, 0)) told list) w)) told list
by_room told list true b w n e = inr (refl, refl)
by_room told list false true w n e = inr (refl, refl)
by_room told list false false w n e = inl (n, e)

either_saved : (hs : List Hole) (front total encoding : ℕ) (told list : List ℕ) (v : Salvage) → Either (put_saved hs front total encoding told list v) told list
either_saved hs front total encoding told list (refusal n place) = inr (refl, refl)
either_saved hs front total encoding told list (salvaged p fs) =
    by_room told list (ltb (length told) 64) (ltb (length list / 64) (length hs + length fs))
    (saved_put (Ok (length hs + length fs)) (laid told 0 (number_bytes (told_numbers (length hs) (length fs) p front total encoding)))
    (entries_put 0 (hole_entries hs ++ field_entries fs) list))
    (length hs + length fs) refl

lent_either : (rec payload marks config told list : List ℕ) → Either (salvage_lent rec payload marks config told list) told list
lent_either rec payload marks config told list = go (ltb (length rec) 144) (progress_of (partial_of rec payload marks))
  where
    by : (p : Progress) → Either (salvage_by p (salvage_types config rec) payload marks told list) told list
    by (Progress.Unknown n place) = inr (refl, refl)
    by (Progress.Is covered total) = either_saved _ _ total _ told list (salvage_in (salvage_types config rec) payload marks total)

    go : (b : Bool) (p : Progress) → Either (cond b (saved_put (Err (12, 0)) told list) (salvage_by p (salvage_types config rec) payload marks told list)) told list
    go true p = inr (refl, refl)
    go false p = by p

refused_lent : (x : SavedPut) (told list : List ℕ) → Either x told list → (r : ℕ) (a b : List ℕ) → Salvages x r a b → (r % 256 ≡ 0 → ⊥) → (a ≡ told) × (b ≡ list)
refused_lent x told list (inr (t, l)) r a b s h = (s.told ∙ t, s.list ∙ l)
refused_lent x told list (inl (n, e)) r a b s h =
    let q : r ≡ result_of 0 n = s.result ∙ ap salvaged_result e in
    absurd (h (let z : result_of 0 n % 256 ≡ 0 = omega arith in ap (λ (k : ℕ). k % 256) q ∙ z))

pub salvaging : Salvaging
salvaging =
    record {
      tells = λ types payload marks total message h room has. tells_of types payload marks total message room has h;
      later = later_has;
      tells_later = λ types ks s ok lay on h.
          let fits = total_fits s.rec (length s.payload) (length s.marks) s.layout ok on in
          tells_of types s.payload s.marks s.rec.message.total (take s.rec.message.total (final ks s).payload) fits.1 (later_has ks s ok lay on h) fits.0;
      holes_tile = λ types payload marks total i l. holes_tile (marked in_use marks) total i l;
      holes_longest = λ types payload marks total. holes_longest (marked in_use marks) total;
      lent_refused = λ rec payload marks config told list r a b s h.
          refused_lent (salvage_lent rec payload marks config told list) told list (lent_either rec payload marks config told list) r a b s h;
    }
