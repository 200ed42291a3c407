-- What is located is the part that the definitions of reading name.
use mathlib.Core.Path.{◌≡◌, refl, ap, sym, ◌∙◌}
use Prim.Native.Nat.{ℕ}
use mathlib.Core.List.{List, []}
use Rattle.wire.specs.Answer.{Answer, got, refused}
use Rattle.dataset_fields.specs.declared.fields.Field.{Field}
use Rattle.dataset_message.specs.Message.{field_bytes}
use Rattle.network_message.specs.declared.payload.MessagePlace.{MessagePlace}
use Rattle.network_message.specs.Envelope.{message_bytes}
use Rattle.chunk.specs.declared.datagram.ChunkPlace.{ChunkPlace}
use Rattle.chunk.specs.Datagram.{chunk_data}
use Rattle.reassembly.specs.Record.{Partial}
use Rattle.reassembly.specs.Operations.{judge_hand_out, hand_out, if_done}
use Rattle.reassembly.specs.Verdict.{Verdict, Done, Refused}
use lib.ListN.{take, drop}
use Rattle.std.specs.Prelude.{Ok, Err}
use Rattle.wire.specs.Refusal.{reason_number}
use Rattle.wire.specs.declared.refusal.Refusal.{Refusal}
use Rattle.parts.specs.declared.part.Span.{Span}
use Rattle.parts.specs.Part.{Located, located, part_at, part_of, field_located, message_located, chunk_located, payload_located}

pub field_bytes_lem : (a : Answer Field) (s : List ℕ) → part_of (field_located a) s ≡ field_bytes a s
field_bytes_lem (got f next) s = refl
field_bytes_lem (refused n p) s = refl

pub message_bytes_lem : (a : Answer MessagePlace) (s : List ℕ) → part_of (message_located a) s ≡ message_bytes a s
message_bytes_lem (got m next) s = refl
message_bytes_lem (refused n p) s = refl

pub chunk_bytes : (a : Answer ChunkPlace) (s : List ℕ) → part_of (chunk_located a) s ≡ chunk_data a s
chunk_bytes (got c next) s = refl
chunk_bytes (refused n p) s = refl

verdict_bytes : (v : Verdict) (total : ℕ) (s : List ℕ) → part_of (payload_located total v) s ≡ if_done v (take total s)
verdict_bytes Done total s = refl
verdict_bytes (Refused n p) total s = refl

pub payload_bytes_lem : (s : Partial) → part_of (payload_located s.rec.message.total (judge_hand_out s)) s.payload ≡ hand_out s
unfolding hand_out
payload_bytes_lem s = verdict_bytes (judge_hand_out s) s.rec.message.total s.payload

-- a refusal has no part, and what is located has the bytes that the definition names
pub no_part : (x : Located) (bytes s : List ℕ) (r : Refusal) → part_of x s ≡ bytes → located (Err r) ≡ x
    → part_at x bytes ≡ record { number = reason_number r.reason; place = r.place; bytes = [] }
no_part x bytes s r b e =
    ap (λ (y : Located). part_at y bytes) (sym e)
    ∙ ap (λ (l : List ℕ). part_at (located (Err r)) l) (sym b ∙ ap (λ (y : Located). part_of y s) (sym e))

pub whole_part : (x : Located) (bytes s d : List ℕ) (l : Span) → part_of x s ≡ bytes → located (Ok l) ≡ x → d ≡ take l.length (drop l.offset s)
    → record { number = 0; place = 0; bytes = d } ≡ part_at x bytes
whole_part x bytes s d l b e q =
    ap (λ (k : List ℕ). part_at (located (Ok l)) k) (q ∙ ap (λ (y : Located). part_of y s) e ∙ b) ∙ ap (λ (y : Located). part_at y bytes) e
