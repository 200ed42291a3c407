use borrow.Author.Rules.{rules}
use Rattle.reassembly.proofs.QuickLaws.{sound_held}
use Rattle.reassembly.proofs.JudgeLaws.{take_unsound, take_refusal, handed_proper, handed_taken}
use Rattle.reassembly.specs.Quick.{held_record}
use Rattle.reassembly.specs.Reading.{reading_at}
use Rattle.reassembly.specs.Record.{partial}
use Rattle.wire.specs.Refusal.{answer}
use Rattle.wire.proofs.Reading.{told}
use borrow.Author.Tests.{not-true, not-false}
use mathlib.Core.Path.{refl, sym, ◌∙◌}
use Rattle.reassembly.proofs.quick.take_more.Goals as goal

pub returns-then-not-is_sound : goal.returns-then-not-is_sound
returns-then-not-is_sound c =
    let args = c.args in
    rw (take_unsound (partial (held_record args.held args.text.now) args.payload.now args.marks.now)
    (reading_at args.sizes.now args.datagram.now)
    (sound_held args.held args.text.now _ _ _ _ _ _ c.without_text.ensures c.is_sound.ensures (not-true _ c.if-not-is_sound.true-raw))) (search rules)

pub add_chunk-requires : goal.add_chunk-requires
add_chunk-requires c =
    let args = c.args in (
      sound_held args.held args.text.now _ _ _ _ _ _ c.without_text.ensures c.is_sound.ensures (not-false _ c.if-not-is_sound.false-raw),
      handed_proper (partial (held_record args.held args.text.now) args.payload.now args.marks.now) args.sizes.now
          args.datagram.now _ _ (sym (told answer c.read.ensures c.in_ok-c.was)) _ _ refl refl,
    )

pub returns-in_err-c : goal.returns-in_err-c
returns-in_err-c c =
    let args = c.args in
    rw (take_refusal (partial (held_record args.held args.text.now) args.payload.now args.marks.now) args.sizes.now
    args.datagram.now (sound_held args.held args.text.now _ _ _ _ _ _ c.without_text.ensures c.is_sound.ensures (not-false _ c.if-not-is_sound.false-raw)) _ _
    (sym (told answer c.read.ensures c.in_err-c.was))) (search rules)

pub returns : goal.returns
returns c =
    let args = c.args in
    c.add_chunk.ensures
    ∙ handed_taken (partial (held_record args.held args.text.now) args.payload.now args.marks.now) args.sizes.now
    args.datagram.now _ _ (sym (told answer c.read.ensures c.in_ok-c.was)) _ _ refl refl
