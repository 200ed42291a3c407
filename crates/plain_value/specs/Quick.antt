-- What quick looks at a value and at a dimensions list say. No part of document 01.
use Rattle.std.specs.Prelude.{ℕ, ◌≡◌, Option, Some, None}
use Rattle.wire.specs.Answer.{Answer, got}

-- what a look says of what reading answers; where it does not tell, nothing
abbrev pub EndTells : Option ℕ → Answer (Unit {0}) → Type 0
EndTells (Some next) a = a ≡ got tt next
EndTells None a = Unit {0}

-- the same of a dimensions list: it has two
abbrev pub TwoTells : Option ℕ → Answer ℕ → Type 0
TwoTells (Some next) a = a ≡ got 2 next
TwoTells None a = Unit {0}
