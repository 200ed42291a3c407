use borrow.Author.Rules.{rules}
use Rattle.reassembly.proofs.JudgeLaws.{take_unsound, take_refusal, handed_proper, handed_taken}
use Rattle.reassembly.specs.Reading.{reading_at}
use Rattle.reassembly.specs.Record.{partial}
use Rattle.wire.specs.Refusal.{answer}
use Rattle.wire.proofs.Reading.{told}
use borrow.Author.Tests.{not-true, not-false}
use mathlib.Core.Path.{sym, ◌∙◌}
use Rattle.reassembly.proofs.operations.taken.Goals as goal

pub returns-then-not-is_sound : goal.returns-then-not-is_sound
returns-then-not-is_sound c =
    let a = c.args in
    let s = partial a.rec a.payload.now a.marks.now in
    rw (take_unsound s (reading_at a.sizes.now a.datagram.now) (sym c.is_sound.ensures ∙ not-true _ c.if-not-is_sound.true-raw)) (search rules)

pub returns-in_err-c : goal.returns-in_err-c
returns-in_err-c c =
    let a = c.args in
    let s = partial a.rec a.payload.now a.marks.now in
    rw (take_refusal s a.sizes.now a.datagram.now (sym c.is_sound.ensures ∙ not-false _ c.if-not-is_sound.false-raw) _ _ (sym (told answer c.read.ensures c.in_err-c.was)))
    (search rules)

pub take_chunk-requires : goal.take_chunk-requires
take_chunk-requires c =
    let a = c.args in (
      sym c.is_sound.ensures ∙ not-false _ c.if-not-is_sound.false-raw,
      handed_proper (partial a.rec a.payload.now a.marks.now) a.sizes.now a.datagram.now _ _ (sym (told answer c.read.ensures c.in_ok-c.was)) _ _
          c.message_of-message.ensures c.part-bytes.ensures,
    )

pub returns : goal.returns
returns c =
    let a = c.args in
    c.take_chunk.ensures
    ∙ handed_taken (partial a.rec a.payload.now a.marks.now) a.sizes.now a.datagram.now _ _
    (sym (told answer c.read.ensures c.in_ok-c.was)) _ _ c.message_of-message.ensures c.part-bytes.ensures
