use Rattle.std.proofs.Common.{rules}
use Rattle.wire.proofs.Reading.{some_number}
use mathlib.Core.Path.{sym, ◌∙◌}
use Rattle.dataset_message.proofs.Whole.{own_refuses, lists_refuse, layout_refuses, counts_refuse}
use Rattle.dataset_message.specs.Writer.{given_message}
use Rattle.dataset_message.proofs.writer.refusal.Goals as goal

pub returns-in_err-own_refusal : goal.returns-in_err-own_refusal
returns-in_err-own_refusal c =
    let args = c.args in
    let g = given_message args.header args.heartbeat args.values.now args.lengths.now args.indices.now args.padding in
    let kind = c.in_ok-kind_rule.ensures in
    let pico = c.in_ok-optional_picoseconds_rule.ensures in
    let own = rw c.has_fields-fielded.ensures at c.in_err-own_refusal.ensures in
    rw (own_refuses args.types.now g kind pico own (some_number _)) (search rules)

pub returns-in_err-agreement_rule : goal.returns-in_err-agreement_rule
returns-in_err-agreement_rule c =
    let args = c.args in
    let g = given_message args.header args.heartbeat args.values.now args.lengths.now args.indices.now args.padding in
    let kind = c.in_ok-kind_rule.ensures in
    let pico = c.in_ok-optional_picoseconds_rule.ensures in
    let own = rw c.has_fields-fielded.ensures at c.in_ok-own_refusal.ensures in
    let lists = rw (c.lists_agree.ensures, c.is_delta.ensures) at c.in_err-agreement_rule.ensures in
    rw (lists_refuse args.types.now g kind pico own lists (some_number _)) (search rules)

pub returns-in_err-layout_refusal : goal.returns-in_err-layout_refusal
returns-in_err-layout_refusal c =
    let args = c.args in
    let g = given_message args.header args.heartbeat args.values.now args.lengths.now args.indices.now args.padding in
    let kind = c.in_ok-kind_rule.ensures in
    let pico = c.in_ok-optional_picoseconds_rule.ensures in
    let own = rw c.has_fields-fielded.ensures at c.in_ok-own_refusal.ensures in
    let lists = rw (c.lists_agree.ensures, c.is_delta.ensures) at c.in_ok-agreement_rule.ensures in
    let layout = rw (c.has_fields-fielded.ensures, c.is_raw-raw.ensures, c.is_key-key.ensures) at c.in_err-layout_refusal.ensures in
    rw (layout_refuses args.types.now g kind pico own lists layout (some_number _)) (search rules)

pub returns : goal.returns
returns c =
    let args = c.args in
    let g = given_message args.header args.heartbeat args.values.now args.lengths.now args.indices.now args.padding in
    let kind = c.in_ok-kind_rule.ensures in
    let pico = c.in_ok-optional_picoseconds_rule.ensures in
    let own = rw c.has_fields-fielded.ensures at c.in_ok-own_refusal.ensures in
    let lists = rw (c.lists_agree.ensures, c.is_delta.ensures) at c.in_ok-agreement_rule.ensures in
    let layout = rw (c.has_fields-fielded.ensures, c.is_raw-raw.ensures, c.is_key-key.ensures) at c.in_ok-layout_refusal.ensures in
    let counts = rw (c.counts_agree.ensures, c.has_fields-fielded.ensures, c.is_raw-raw.ensures, c.is_key-key.ensures) at c.agreement_rule-2.ensures in
    counts ∙ sym (counts_refuse args.types.now g kind pico own lists layout)
