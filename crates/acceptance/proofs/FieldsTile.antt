-- The fields of an accepted DataSetMessage tile it.
-- Assumes nothing.
use Prim.Native.Nat.{ℕ, ◌+◌, ◌-◌, ◌≤◌, ◌<◌}
use mathlib.Core.Path.{◌≡◌, refl, sym, ap, subst, ◌∙◌}
use mathlib.Core.Bool.{Bool, true, false, cond}
use mathlib.Core.List.{List}
use native.Mathlib.Numerals.{add-one}
use native.Mathlib.Nat.{add-zero}
use native.Mathlib.Omega.{arith}
use lib.Dec.{leb}
use lib.ListN.{length}
use Rattle.wire.specs.Answer.{Answer, got, refused}
use Rattle.wire.proofs.Reading.{got_value, got_next, not_got, invert}
use Rattle.wire.proofs.Cases.{by_bool}
use Rattle.dataset_header.specs.Flags.{valid}
use Rattle.dataset_header.specs.declared.flags.Encoding.{Encoding}
use Rattle.dataset_fields.specs.Fields.{index_at, encoded_at, field_at, fields_at}
use Rattle.dataset_fields.specs.declared.fields.Field.{Field}
use Rattle.dataset_fields.proofs.FieldsTrip.{zeros_back}
use Rattle.dataset_message.specs.Message.{Message, message_at}
use Rattle.dataset_message.proofs.Agreement.{message_read, message_agrees}
use Rattle.acceptance.proofs.Refusals.{Tells}
use Rattle.acceptance.proofs.RefusedMessages.{message_tells}
use Rattle.acceptance.specs.Tiles.{FieldTile, FieldsTile}

-- where an accepted field's value starts
index_end : (delta : Bool) (k : ℕ) (s : List ℕ) (q i o : ℕ) → index_at delta k s q ≡ got i o → o ≡ q + cond delta 2 0
index_end true k s q i o e = by_bool _ (leb (q + 2) (length s)) (λ b. sym (got_next (rw b at e))) (λ b. absurd (not_got (rw b at e)))
index_end false k s q i o e = sym (got_next e) ∙ sym (add-zero q)

field_offset : (delta : Bool) (encoding : Encoding) (types : List ℕ) (k : ℕ) (s : List ℕ) (q : ℕ) (f : Field) (e : ℕ) → field_at delta encoding types k s q ≡ got f e
    → f.offset ≡ q + cond delta 2 0
field_offset delta encoding types k s q f e h =
    let a = invert (index_at delta k s q) (λ i o. _) h in
    let b = invert (encoded_at encoding types k s a.1) (λ m z. _) a.3 in
    sym (ap (λ (x : Field). x.offset) (got_value b.3)) ∙ index_end delta k s q a.0 a.1 a.2

-- an accepted answer ends within the bytes
ended : {A : Type 0} {others : List ℕ} {hi n : ℕ} {a : A} {x : Answer A} → Tells others hi x → x ≡ got a n → n ≤ hi
ended {A} {others} {hi} t e = of (subst (Tells others hi) e t)
  where
    of : {n : ℕ} {a : A} → Tells {A = A} others hi (got a n) → n ≤ hi
    of (Tells.gives h) = h

-- where the reading of some fields ended
abbrev reached_by : Answer (Unit {0}) → ℕ
reached_by (got x n) = n
reached_by (refused n place) = 0

module _ (types s : List ℕ) (m : Message) (e : ℕ) (h : message_at types s ≡ got (valid m) e) where
  abbrev start : ℕ → ℕ
  start k = reached_by (fields_at m.cursor.delta m.cursor.encoding types k 0 s m.cursor.at)

  start_first : start 0 ≡ m.cursor.at
  unfolding fields_at
  start_first = refl

  tile : (k : ℕ) → k < m.cursor.count → FieldTile types s m k (start k) (start (k + 1))
  tile k l =
      let a = message_agrees types s m e h k l in
      let q : a.at ≡ start k = sym (ap reached_by a.passed) in
      let z : a.end ≡ start (k + 1) = sym (ap reached_by a.passed_too) ∙ ap start (sym (add-one k)) in
      let y = field_offset m.cursor.delta m.cursor.encoding types k s a.at a.place a.end a.read in
      subst (λ (n : ℕ). FieldTile types s m k n (start (k + 1))) q
      (subst (λ (n : ℕ). FieldTile types s m k a.at n) z
      (record { field = a.place; offset = y; ends = a.inside.value; some = a.inside.some; looked_up = rw h a.looked_up; stepped = a.stepped }))

  pub fields_tile : FieldsTile types s m
  fields_tile =
      let r = message_read types s m e h in
      let l : m.end ≤ length s = omega (arith, r.ends, ended (message_tells types s) h) in
      record {
        starts = start;
        first = start_first;
        last = ap reached_by r.passed;
        fields = tile;
        padding = zeros_back (length s - m.end) s m.end r.padding.0 (omega arith) r.padding.1;
      }
