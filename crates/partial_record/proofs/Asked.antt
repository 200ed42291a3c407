-- How far a partial is, and whether it is handed out, does not depend on its text, group, writer and message number. Assumes nothing.
use mathlib.Core.Path.{◌≡◌, refl}
use mathlib.Core.List.{List}
use Prim.Native.Nat.{ℕ}
use Rattle.publisher_id.specs.PublisherRecord.{publisher_fits}
use Rattle.reassembly.specs.Record.{partial, sound_by}
use Rattle.reassembly.specs.Operations.{ask_complete, progress_of, judge_hand_out}
use Rattle.partial_record.specs.Partial.{partial_in, asked_in}

pub asked_complete : (r p m : List ℕ) → ask_complete (partial (asked_in r) p m) ≡ ask_complete (partial (partial_in r) p m)
unfolding ask_complete sound_by publisher_fits
asked_complete r p m = refl

pub asked_progress : (r p m : List ℕ) → progress_of (partial (asked_in r) p m) ≡ progress_of (partial (partial_in r) p m)
unfolding progress_of sound_by publisher_fits
asked_progress r p m = refl

pub asked_hand : (r p m : List ℕ) → judge_hand_out (partial (asked_in r) p m) ≡ judge_hand_out (partial (partial_in r) p m)
unfolding judge_hand_out sound_by publisher_fits
asked_hand r p m = refl
