-- Demand 3 holds: each field by the theorem that proves it. Assumes nothing.
use Prim.Native.Nat.{ℕ, ◌≤◌}
use mathlib.Core.Path.{◌≡◌, ap, sym, subst, ◌∙◌}
use mathlib.Core.List.{List}
use lib.ListN.{length}
use Rattle.marks.proofs.MarkLaws.{layout_laws}
use Rattle.reassembly_laws.proofs.Demand3 as laws
use Rattle.reassembly_laws.proofs.Equality as Equality
use Rattle.reassembly_laws.proofs.Numbers as Numbers
use Rattle.reassembly_laws.proofs.Refusing as Refusing
use Rattle.reassembly_laws.proofs.Cutting as Cutting
use Rattle.reassembly_laws.proofs.Layouts as Layouts
use Rattle.config_text.specs.Config.{config_of, config_number, config_in}
use Rattle.records.specs.Result.{filled_in}
use Rattle.records.specs.Sizes.{CONFIG_SIZE, PARTIAL_SIZE}
use Rattle.reassembly.specs.Record.{Right}
use Rattle.uadp_c.specs.Reassembling.{Lent}
use Rattle.uadp_c.specs.History.{LentCall, call_of, held_in, Called}
use Rattle.records.specs.Writers.{ConfigBack, FitsConfig, config_filling}
use Rattle.std.specs.Prelude.{Result, Ok, Err}
use Rattle.config.specs.declared.Config.{Config}
use Rattle.wire.specs.declared.refusal.Refusal.{Refusal}
use Rattle.wire.proofs.Reading.{some_number}
use Rattle.records.proofs.ConfigBack.{config_back}
use Rattle.records.proofs.ConfigFits.{config_fits}
use Rattle.partial_record.specs.Partial.{partial_in}
use Rattle.partial_record.proofs.Back as Back
use Rattle.uadp_c.proofs.Demand3 as lent
use Rattle.uadp_c.proofs.ByCalls.{fields_by_calls, opened_fields, opened_by_calls}
use Rattle.uadp_c.proofs.MessagesByCalls.{messages_by_calls}
use Rattle.uadp_c.proofs.WrittenAgain as again
use Rattle.acceptance.specs.Demand3.{Demand3}
use Rattle.acceptance.proofs.RefusedCalls.{placed}

-- the record of an accepted configuration text
config_read : (text r : List ℕ) → config_number (config_of text) ≡ 0 → CONFIG_SIZE ≤ length r → ConfigBack (filled_in (config_filling (config_of text)) r) (config_in (config_of text))
config_read text r e h = go (config_of text) (config_fits text) e
  where
    go : (x : Result Config Refusal) → FitsConfig (config_in x) → config_number x ≡ 0 → ConfigBack (filled_in (config_filling x) r) (config_in x)
    go (Ok c) f e = config_back c r f h
    go (Err x) f e = absurd (some_number x.reason e)

lent_right : (k : LentCall) (b a : Lent) → PARTIAL_SIZE ≤ length b.rec → Called k b a → Right (held_in b) → Right (held_in a)
lent_right k b a h w r = subst Right (sym (lent.one b a h k w).left) (Numbers.right_stays (call_of k) (held_in b) r)

pub demand_3 : Demand3
demand_3 = record {
  any_list = laws.any_list;
  complete_exactly = laws.complete_exactly;
  handed_out_exactly = laws.hand_out_exactly;
  number_stays_right = Numbers.right_stays;
  complete_by_number = laws.complete_by_number;
  lent_number_stays_right = lent_right;
  either_order = λ a b ga gb e. laws.combine_order a b (laws.equal_areas a b ga gb e);
  equal_changes_nothing = laws.combine_equal;
  not_started_changes_nothing = laws.combine_not_started;
  either_grouping = λ a b c ga gb gc ab bc. laws.combine_groupings a b c (laws.three_equal_areas a b c ga gb gc ab bc);
  equal_exactly = Equality.equal_exactly;
  chunk_alone_lem = laws.datagram_alone;
  take_in_is_combine = laws.datagram_is_combine;
  take_in_as_combine = laws.datagram_as_partial;
  chunks_restore = Cutting.all_chunks_restore;
  cut_and_restored = Cutting.all_cuts_restore;
  refused_leaves = laws.refused_leaves;
  refused_hands_nothing = laws.handed_nothing;
  refused_by = Refusing.may_refuse;
  refused_place = λ k s n place e. placed k n place (Refusing.may_refuse k s n place e);
  any_lent_list = lent.lent_list;
  lent_refused = lent.lent_refused;
  record_read_back = λ k entry exit p h. ap partial_in p.0 ∙ Back.partial_back k entry p.1 h;
  config_read_back = config_read;
  messages_by_calls = messages_by_calls;
  fields_by_calls = fields_by_calls;
  opened_fields_by_calls = opened_fields;
  opened_by_calls = opened_by_calls;
  datagram_again_by_calls = again.datagram_again_lem;
  message_again_by_calls = again.message_again_lem;
  laws_of_layouts = layout_laws;
  same_in_layouts = Layouts.same_from_emptying;
  like_in_layout = Layouts.in_layout_same;
}
