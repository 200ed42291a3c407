use mathlib.Core.Path.{refl, sym, ap, subst, ◌∙◌}
use mathlib.Core.Bool.{true, false}
use Prim.Native.Nat.{ℕ}
use Rattle.std.specs.Prelude.{Result, Ok}
use Rattle.salvage.specs.Front.{numbered}
use Rattle.salvage.specs.declared.front.Opening.{Opening}
use Rattle.wire.proofs.Reading.{told}
use Rattle.partial_record.specs.Steps.{Finds}
use Rattle.partial_record.proofs.Saving.{none_found, some_found}
use Rattle.partial_record.proofs.salvage_record.find.Goals as goal

pub returns-in-Missing : goal.returns-in-Missing
returns-in-Missing c =
    let args = c.args in
    none_found args.types.now args.front.now args.area.now false _ _ _ (ap Ok (sym c.in-Missing.is) ∙ told numbered c.open_in.ensures c.in_ok-open_in.was) c.none_at-nothing.ensures refl refl

pub returns-in-NotValid : goal.returns-in-NotValid
returns-in-NotValid c =
    let args = c.args in
    none_found args.types.now args.front.now args.area.now true _ _ _ (ap Ok (sym c.in-NotValid.is) ∙ told numbered c.open_in.ensures c.in_ok-open_in.was) c.none_at-nothing.ensures refl refl

pub returns-in_ok-fields-in-At : goal.returns-in_ok-fields-in-At
returns-in_ok-fields-in-At c =
    let args = c.args in
    subst (λ (o : Result Opening (ℕ × ℕ)). Finds args.types.now args.front.now args.area.now o (Ok (record { known = true; first = c.in-At.first; fields = c.in_ok-fields-in-At.fields })))
    (ap Ok (sym c.in-At.is) ∙ told numbered c.open_in.ensures c.in_ok-open_in.was)
    (some_found args.types.now args.front.now args.area.now _ _ (told numbered c.count_fields.ensures c.in_ok-fields-in-At.was))
