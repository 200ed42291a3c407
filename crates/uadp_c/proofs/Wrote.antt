-- The ways out of the writing functions, from what the writers promise.
-- Assumes nothing.
use Rattle.wire.specs.declared.refusal.Reason.{Reason}
use Rattle.std.specs.Prelude.{Result, Option}
use Prim.Native.Nat.{ℕ}
use mathlib.Core.Path.{◌≡◌, refl, ap, subst, ◌∙◌}
use mathlib.Core.Bool.{Bool, true, false, cond}
use lib.Dec.{eqb}
use mathlib.Core.List.{List}
use lib.ListN.{take}
use Rattle.wire_writer.specs.Writing.{answer_written, Output, writing, refusing, unless, or_else, buffer_after, Writes}
use Rattle.dataset_header.specs.declared.header.Header.{Header}
use Rattle.network_header.specs.declared.envelope.Envelope.{Envelope}
use Rattle.network_message.specs.Writer as datagram
use Rattle.dataset_message.specs.Writer as message
use Rattle.walk.specs.Lines.{Writers, writers, listing_of}
use Rattle.listing.specs.Text.{lines_text, text_written, text_after, length_in}
use Rattle.records.specs.Writers.{writers_in, sixteen, ids_in, sizes_in, starts_in, types_in, types_for}
use Rattle.message_record.specs.Message.{header_in}
use Rattle.envelope_record.specs.Envelope.{envelope_in}
use Rattle.uadp_c.specs.Listings.{listing_text, length_result, MOST_VALUE}
use Rattle.walk_records.specs.Walk.{answer_walked, records_put, walk_records, walk_of}
use Rattle.wire.specs.declared.refusal.Refusal.{Refusal}
use Rattle.uadp_c.specs.Walks.{configured, walk_result}
use Rattle.uadp_c.specs.Writing.{writer_result, output_result, fitting}
use Rattle.records.specs.Result.{result_of}

-- as many numbers of a configuration record as there are writers: its sizes from 34 on, its ids from 2 on
pub of_writers : (at : ℕ) (c l configured : List ℕ) (n : ℕ) → n ≡ writers_in c → l ≡ sixteen at c → configured ≡ take n l
    → configured ≡ take (writers_in c) (sixteen at c)
of_writers at c l configured n a b d = d ∙ ap (λ (x : ℕ). take x l) a ∙ ap (λ (x : List ℕ). take (writers_in c) x) b

-- what a writer promises, as the result and the buffer of the C function around it, whose output is the same in other words
pub wrote : (out e : List ℕ) (o o' : Output) (w : Result ℕ Reason) (r : ℕ) → o ≡ o' → Writes o out e w → r ≡ writer_result (answer_written w)
    → (r ≡ output_result out o') × (e ≡ buffer_after out o')
wrote out e o o' w r q a h =
    subst (λ (y : Output). (r ≡ output_result out y) × (e ≡ buffer_after out y)) q (h ∙ ap writer_result a.answer, a.buffer)

-- the same of a record whose numbers all fit
pub wrote_fitting : (out e : List ℕ) (o o' : Output) (w : Result ℕ Reason) (r : ℕ) (b : Bool) → b ≡ true → o ≡ o' → Writes o out e w → r ≡ writer_result (answer_written w)
    → (r ≡ output_result out (fitting b o')) × (e ≡ buffer_after out (fitting b o'))
wrote_fitting out e o o' w r b t q a h = rw t (wrote out e o o' w r q a h)

-- and of one with a number that does not fit: nothing is written
pub refused_not_fitting : (out : List ℕ) (n k r : ℕ) (bytes : List ℕ) (o : Output) (b : Bool) → b ≡ false → n ≡ k → unless k bytes ≡ o → r ≡ result_of (or_else n 6) 0
    → (r ≡ output_result out (fitting b o)) × (out ≡ buffer_after out (fitting b o))
refused_not_fitting out n k r bytes o b t q z h =
    subst (λ (y : Output). (r ≡ output_result out (fitting b y)) × (out ≡ buffer_after out (fitting b y))) z
    (rw t (go (eqb k 0) (h ∙ ap (λ (m : ℕ). result_of (or_else m 6) 0) q)))
  where
    go : (d : Bool) → r ≡ result_of (cond d 6 k) 0
        → (r ≡ output_result out (fitting false (cond d (writing bytes) (refusing k)))) × (out ≡ buffer_after out (fitting false (cond d (writing bytes) (refusing k))))
    go true p = (p, refl)
    go false p = (p, refl)

-- the outputs under a configuration record
pub message_output_lem : (c head types values lengths indices : List ℕ) (writer padding : ℕ) (b : Bool) (h : Header) → h ≡ header_in head → types ≡ types_for c writer
    → message.message_output types (message.given_message h b values lengths indices padding)
    ≡ message.message_output (types_for c writer) (message.given_message (header_in head) b values lengths indices padding)
message_output_lem c head types values lengths indices writer padding b h p q =
    ap (λ (y : List ℕ). message.message_output y (message.given_message h b values lengths indices padding)) q
    ∙ ap (λ (y : Header). message.message_output (types_for c writer) (message.given_message y b values lengths indices padding)) p

pub datagram_output_lem : (c envelope sizes ids : List ℕ) (g : datagram.GivenDatagram) (x : Envelope) → x ≡ envelope_in envelope → sizes ≡ sizes_in c → ids ≡ ids_in c
    → datagram.datagram_output g x sizes ids ≡ datagram.datagram_output g (envelope_in envelope) (sizes_in c) (ids_in c)
datagram_output_lem c envelope sizes ids g x p q i =
    ap (λ (y : List ℕ). datagram.datagram_output g x y ids) q ∙ ap (λ (y : List ℕ). datagram.datagram_output g x (sizes_in c) y) i
    ∙ ap (λ (y : Envelope). datagram.datagram_output g y (sizes_in c) (ids_in c)) p

-- the listing's text under a configuration's parts
abbrev parts_text : List ℕ → List ℕ → List ℕ → List ℕ → List ℕ → List ℕ
parts_text ids sizes starts types d = lines_text d (listing_of 0 0 (writers ids sizes starts types) d)

parts_same : (c d ids sizes starts types : List ℕ) → ids ≡ ids_in c → sizes ≡ sizes_in c → starts ≡ starts_in c → types ≡ types_in c
    → parts_text ids sizes starts types d ≡ listing_text c d
parts_same c d ids sizes starts types i z s t =
    ap (λ (x : List ℕ). parts_text x sizes starts types d) i ∙ ap (λ (x : List ℕ). parts_text (ids_in c) x starts types d) z
    ∙ ap (λ (x : List ℕ). parts_text (ids_in c) (sizes_in c) x types d) s ∙ ap (λ (x : List ℕ). parts_text (ids_in c) (sizes_in c) (starts_in c) x d) t

-- its length
pub measured : (c d ids sizes starts types : List ℕ) (r : ℕ) (x : Option ℕ) → ids ≡ ids_in c → sizes ≡ sizes_in c → starts ≡ starts_in c → types ≡ types_in c
    → x ≡ length_in MOST_VALUE (parts_text ids sizes starts types d) → r ≡ length_result x → r ≡ length_result (length_in MOST_VALUE (listing_text c d))
measured c d ids sizes starts types r x i z s t a h =
    h ∙ ap length_result (a ∙ ap (length_in MOST_VALUE) (parts_same c d ids sizes starts types i z s t))

pub listed : (c d ids sizes starts types out e : List ℕ) (w : Result ℕ Reason) (r : ℕ) → ids ≡ ids_in c → sizes ≡ sizes_in c → starts ≡ starts_in c → types ≡ types_in c
    → (w ≡ text_written out (parts_text ids sizes starts types d)) × (e ≡ text_after out (parts_text ids sizes starts types d))
    → r ≡ writer_result (answer_written w)
    → (r ≡ writer_result (answer_written (text_written out (listing_text c d)))) × (e ≡ text_after out (listing_text c d))
listed c d ids sizes starts types out e w r i z s t a h =
    let same = parts_same c d ids sizes starts types i z s t in (
      h ∙ ap (λ (x : Result ℕ Reason). writer_result (answer_written x)) a.0 ∙ ap (λ (x : List ℕ). writer_result (answer_written (text_written out x))) same,
      a.1 ∙ ap (λ (x : List ℕ). text_after out x) same,
    )

-- a walk, under the writers of a configuration record
pub walks : (c d ids sizes starts types out e : List ℕ) (v : Result ℕ Refusal) (r : ℕ) → ids ≡ ids_in c → sizes ≡ sizes_in c → starts ≡ starts_in c → types ≡ types_in c
    → (answer_walked v ≡ walk_of (writers ids sizes starts types) d) × (e ≡ records_put 0 (walk_records (writers ids sizes starts types) d) out) → r ≡ walk_result (answer_walked v)
    → (r ≡ walk_result (walk_of (configured c) d)) × (e ≡ records_put 0 (walk_records (configured c) d) out)
walks c d ids sizes starts types out e v r i z s t a h =
    let w : writers ids sizes starts types ≡ configured c =
    ap (λ (x : List ℕ). writers x sizes starts types) i ∙ ap (λ (x : List ℕ). writers (ids_in c) x starts types) z
    ∙ ap (λ (x : List ℕ). writers (ids_in c) (sizes_in c) x types) s ∙ ap (λ (x : List ℕ). writers (ids_in c) (sizes_in c) (starts_in c) x) t in
    (h ∙ ap walk_result a.0 ∙ ap (λ (x : Writers). walk_result (walk_of x d)) w, a.1 ∙ ap (λ (x : Writers). records_put 0 (walk_records x d) out) w)
