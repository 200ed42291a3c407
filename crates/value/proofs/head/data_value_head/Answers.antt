use Rattle.wire.specs.Answer.{when_on, bit}
use Rattle.plain_value.specs.Plain.{passing}
use Rattle.value.specs.Value.{measure}
use Rattle.plain_value.specs.Parts.{parts}
use Rattle.value.specs.declared.Shape.{Shape}
use Rattle.value.proofs.Heads.{lowest_each, pass_after}
use Rattle.value.proofs.head.data_value_head.Goals as goal

pub returns : goal.returns
returns c =
    let a = c.args in
    λ nested s. rw (c.if-m.false, lowest_each (nested 24) a.m s a.next)
    (pass_after (when_on (bit 0 a.m) tt (passing (nested 24)) s a.next) (parts a.m s) (measure 23 Shape.Scalar))
