-- The ways out of the functions that tell values and chunks, and put values.
-- Assumes nothing.
use Prim.Native.Nat.{ℕ, ◌<◌}
use mathlib.Core.Path.{◌≡◌, refl, ap, sym, subst, ◌∙◌}
use mathlib.Core.List.{List}
use lib.ListN.{take}
use native.Mathlib.Omega.{arith}
use borrow.Author.Tests.{le-ltb, ne_eqb}
use Rattle.wire.specs.Answer.{Answer, map_answer}
use Rattle.wire_writer.specs.Writing.{buffer_after}
use Rattle.chunk.specs.Datagram.{chunk_at}
use Rattle.chunk.specs.declared.datagram.ChunkPlace.{ChunkPlace}
use Rattle.dataset_header.specs.declared.flags.Encoding.{Encoding}
use Rattle.records.specs.Result.{result_of}
use Rattle.records.specs.Writers.{writers_in, sixteen, sizes_in}
use Rattle.message_record.specs.Message.{encoding_in}
use Rattle.value_parts.specs.Told.{told_element_at}
use Rattle.value_parts.specs.DataValue.{alone_parts, told_field_at, answer_field_told}
use Rattle.value_parts.specs.Put.{variant_output}
use Rattle.value_parts.specs.PutName.{name_output}
use Rattle.value_parts.specs.PutMatrix.{matrix_output}
use Rattle.value_parts.specs.declared.data_value.FieldParts.{FieldParts}
use Rattle.std.specs.Prelude.{Result}
use Rattle.wire.specs.declared.refusal.Refusal.{Refusal}
use Rattle.value_parts.specs.declared.put.Form.{Form}
use Rattle.uadp_c.specs.Values.{value_filling, type_in}
use Rattle.uadp_c.specs.Chunks.{chunk_filling}
use Rattle.uadp_c.specs.Writing.{output_result}
use Rattle.uadp_c.proofs.Filling.{Ends}
use Rattle.uadp_c.proofs.Wrote.{of_writers}

-- what a telling function answered
pub was_told : (s : List ℕ) {x y : Result FieldParts Refusal} → x ≡ y → value_filling s (answer_field_told y) ≡ value_filling s (answer_field_told x)
was_told s q = ap (λ (z : Result FieldParts Refusal). value_filling s (answer_field_told z)) (sym q)

-- the same in other words
pub filled_as : (s out : List ℕ) {a b : Answer FieldParts} {x : ℕ} {e : List ℕ} → a ≡ b → Ends (value_filling s a) out x e → Ends (value_filling s b) out x e
filled_as s out {x = x} {e = e} q h = subst (λ (y : Answer FieldParts). Ends (value_filling s y) out x e) q h

pub field_told : (s : List ℕ) (at n k : ℕ) {t : ℕ} {e : Encoding} {a : Answer FieldParts} → e ≡ encoding_in n → t ≡ type_in k → a ≡ told_field_at e t s at
    → a ≡ told_field_at (encoding_in n) (type_in k) s at
field_told s at n k {t} p q h = h ∙ ap (λ (x : Encoding). told_field_at x t s at) p ∙ ap (λ (x : ℕ). told_field_at (encoding_in n) x s at) q

pub element_told : (s : List ℕ) (at n k j : ℕ) {t : ℕ} {a : Answer FieldParts} → t ≡ type_in j → a ≡ map_answer alone_parts (told_element_at t n k s at)
    → a ≡ map_answer alone_parts (told_element_at (type_in j) n k s at)
element_told s at n k j q h = h ∙ ap (λ (x : ℕ). map_answer alone_parts (told_element_at x n k s at)) q

-- a type above its bits
pub not_put : (t : ℕ) (f : Form) (b out : List ℕ) {x : ℕ} → 63 < t → x ≡ result_of 4 0
    → (x ≡ output_result out (variant_output t f b)) × (out ≡ buffer_after out (variant_output t f b))
not_put t f b out h r = rw (le-ltb t 64 h) (r, refl)

pub no_name_put : (t n : ℕ) (locale text out : List ℕ) {x : ℕ} → 63 < t → x ≡ result_of 4 0
    → (x ≡ output_result out (name_output t n locale text)) × (out ≡ buffer_after out (name_output t n locale text))
no_name_put t n locale text out h r = rw (ne_eqb t 20 (λ e. omega (arith, h, e)), ne_eqb t 21 (λ e. omega (arith, h, e))) (r, refl)

pub no_matrix_put : (t : ℕ) (sizes b out : List ℕ) {x : ℕ} → 63 < t → x ≡ result_of 4 0
    → (x ≡ output_result out (matrix_output t sizes b)) × (out ≡ buffer_after out (matrix_output t sizes b))
no_matrix_put t sizes b out h r = rw (le-ltb t 64 h) (r, refl)

pub chunk_read : (c s z l : List ℕ) (n : ℕ) (y : Answer ChunkPlace) → n ≡ writers_in c → l ≡ sixteen 34 c → z ≡ take n l → y ≡ chunk_at z s
    → chunk_filling y ≡ chunk_filling (chunk_at (sizes_in c) s)
chunk_read c s z l n y a b d q = ap (λ (x : Answer ChunkPlace). chunk_filling x) (q ∙ ap (λ (t : List ℕ). chunk_at t s) (of_writers 34 c l z n a b d))
