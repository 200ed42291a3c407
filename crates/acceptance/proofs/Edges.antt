-- Document 01's twelve edge readings hold.
-- Assumes nothing.
use mathlib.Core.Path.{refl}
use Rattle.plain_value.specs.Plain.{plain}
use Rattle.value.specs.Value.{variant_rule, array, value_at}
use Rattle.plain_value.specs.Width.{width_of}
use Rattle.publisher_id.specs.PublisherRecord.{same_text, same_publisher, publisher_fits}
use Rattle.reassembly.specs.Views.{data_view, clash, full, overlaid}
use Rattle.marks.specs.Marks.{marks_for, capacity, marked, mark_at, cleared, mark_all, count_marked, new_marks}
use Rattle.reassembly.specs.Areas.{marked_view}
use Rattle.reassembly.specs.Record.{same_origin, same_message, sound_by}
use Rattle.reassembly.specs.Reading.{reading_at}
use Rattle.reassembly.specs.Judge.{judge_reading}
use Rattle.reassembly.specs.Operations.{put, take_in, ask_complete, judge_hand_out, hand_out}
use mathlib.Core.Option.{or_else}
use Rattle.acceptance.specs.Edges.{table, AllHold}

-- Every entry of the table holds.
pub edge_readings : AllHold table
unfolding width_of plain variant_rule array value_at or_else overlaid data_view clash full marks_for capacity marked mark_at
    cleared mark_all marked_view same_text same_publisher publisher_fits same_origin same_message sound_by count_marked new_marks reading_at judge_reading put take_in
    ask_complete judge_hand_out hand_out
edge_readings = (refl, (refl, (refl, (refl, (refl, (refl, (refl, (refl, (refl, (refl, (refl, (refl, tt))))))))))))
