-- The ways out of a function that fills one record.
-- Assumes nothing.
use Prim.Native.Nat.{ℕ, ◌+◌, ◌^◌, ◌≤◌, ◌<◌}
use mathlib.Core.Path.{◌≡◌, refl, ap, sym, subst, ◌∙◌}
use mathlib.Core.Bool.{Bool, true, false}
use mathlib.Core.List.{List}
use native.Mathlib.Omega.{arith}
use borrow.Author.Tests.{le-leb, lt-leb}
use lib.Dec.{leb}
use lib.ListN.{length, get_or}
use mir.Syntax.{w8}
use mir.Val.{Fits}
use Rattle.wire.specs.Answer.{Answer, got, refused}
use Rattle.wire_writer.specs.Store.{laid}
use Rattle.std.specs.Prelude.{Result, Ok, Err}
use Rattle.config.specs.declared.Config.{Config}
use Rattle.wire.specs.Refusal.{reason_number}
use Rattle.wire.specs.declared.refusal.Refusal.{Refusal}
use Rattle.config_text.specs.Config.{config_of}
use Rattle.dataset_header.specs.Flags.{Valid}
use Rattle.dataset_message.specs.Message.{Message, message_to, whole_or_front, ended_at, field_place_at}
use Rattle.dataset_fields.specs.declared.fields.Cursor.{Cursor}
use Rattle.dataset_fields.specs.declared.fields.Field.{Field}
use Rattle.message_record.specs.Message.{cursor_in}
use Rattle.records.specs.Result.{result_of, Filling, result_in, filled_in}
use Rattle.records.specs.Writers.{types_for, config_filling, config_bytes}
use Rattle.network_message.proofs.Lent.{bytes}
use Rattle.uadp_c.specs.ByCalls.{HeadFilled}
use Rattle.uadp_c.specs.Fields.{head_filling, HeadReads, field_filling, end_result}

abbrev pub Ends : Answer Filling → List ℕ → ℕ → List ℕ → Type 0
Ends a out x e = (x ≡ result_in a out) × (e ≡ filled_in a out)

pub fill_refused : (a : Answer Filling) (out : List ℕ) (n p x : ℕ) → refused n p ≡ a → x ≡ result_of n p → Ends a out x out
fill_refused a out n p x q h = subst (λ (y : Answer Filling). Ends y out x out) q (h, refl)

pub fill_none : (a : Answer Filling) (out : List ℕ) (v : Filling) (next m x : ℕ) → got v next ≡ a → length v.bytes ≡ m → length out < m → x ≡ result_of 11 0
    → Ends a out x out
fill_none a out v next m x q l h r =
    let t : leb (length v.bytes) (length out) ≡ false = lt-leb (length v.bytes) (length out) (omega arith) in
    let u : leb (0 + length v.bytes) (length out) ≡ false = lt-leb (0 + length v.bytes) (length out) (omega arith) in
    subst (λ (y : Answer Filling). Ends y out x out) q (rw t r, rw u refl)

pub fill_done : (a : Answer Filling) (out e : List ℕ) (v : Filling) (next m x : ℕ) → got v next ≡ a → length v.bytes ≡ m → m ≤ length out
    → x ≡ result_of 0 v.value → e ≡ laid out 0 v.bytes → Ends a out x e
fill_done a out e v next m x q l h r s =
    let t : leb (length v.bytes) (length out) ≡ true = le-leb (length v.bytes) (length out) (omega arith) in
    subst (λ (y : Answer Filling). Ends y out x e) q (rw t r, s)

-- what is filled in, from what was read
pub config_bad : (t : List ℕ) (r : Result Config Refusal) (x : Refusal) → r ≡ config_of t → r ≡ Err x → refused (reason_number x.reason) x.place ≡ config_filling (config_of t)
config_bad t r x q e = ap config_filling (sym e ∙ q)

pub config_good : (t : List ℕ) (r : Result Config Refusal) (c : Config) → r ≡ config_of t → r ≡ Ok c
    → got (record { value = 0; bytes = config_bytes c }) 0 ≡ config_filling (config_of t)
config_good t r c q e = ap config_filling (sym e ∙ q)

-- a message read whole, or its front, by its field types
abbrev pub head_by : Bool → List ℕ → List ℕ → Answer (Valid Message)
head_by whole s types = message_to (length s) (whole_or_front whole) types s

pub head_read : (reading : List ℕ → Answer (Valid Message)) (c ty : List ℕ) (w : ℕ) (y : Answer (Valid Message)) → ty ≡ types_for c w → y ≡ reading ty
    → head_filling y ≡ head_filling (reading (types_for c w))
head_read reading c ty w y e q = ap (λ (a : Answer (Valid Message)). head_filling a) (q ∙ ap reading e)

-- what filling a head record promises, with what is known of the message; `reading` is how it was read, by the field types
pub head_filled : (reading : List ℕ → Answer (Valid Message)) (c s ty : List ℕ) (w : ℕ) (y : Answer (Valid Message)) (entry exit : List ℕ) (x : ℕ)
    → ((i : ℕ) → Fits w8 (get_or s i 0)) → length s < 2 ^ 64 → ty ≡ types_for c w → y ≡ reading ty → Ends (head_filling (reading (types_for c w))) entry x exit
    → HeadReads y entry exit → HeadFilled (reading (types_for c w)) s entry x exit
head_filled reading c s ty w y entry exit x known long e q f h = record {
  answer = f.0;
  filled = f.1;
  reads = subst (λ (a : Answer (Valid Message)). HeadReads a entry exit) (q ∙ ap reading e) h;
  bytes = bytes s known;
  size = omega (arith, long);
}

-- the end of a message by the cursor of a head record
pub end_told : (h s : List ℕ) (c : Cursor) (a : Answer (Unit {0})) (x : ℕ) → c ≡ cursor_in h → a ≡ ended_at c s → x ≡ end_result a h → x ≡ end_result (ended_at (cursor_in h) s) h
end_told h s c a x e q r = r ∙ ap (λ (y : Answer (Unit {0})). end_result y h) (q ∙ ap (λ (d : Cursor). ended_at d s) e)

pub field_read : (c s ty : List ℕ) (w k : ℕ) (y : Answer Field) → ty ≡ types_for c w → y ≡ field_place_at ty k s
    → field_filling y ≡ field_filling (field_place_at (types_for c w) k s)
field_read c s ty w k y e q = ap (λ (a : Answer Field). field_filling a) (q ∙ ap (λ (t : List ℕ). field_place_at t k s) e)
