-- What a salvage says of every message that has the front: "A field handed out is the one that the walk over the complete message, if
-- accepted, gives there".
use Rattle.std.specs.Prelude.{ℕ, List, ◌≡◌, length, take}
use Rattle.wire.specs.Answer.{got, refused}
use Rattle.dataset_header.specs.Flags.{valid}
use Rattle.dataset_fields.specs.declared.fields.Field.{Field}
use Rattle.dataset_fields.specs.Fields.{walked}
use Rattle.dataset_message.specs.Message.{Message, message_at}
use Rattle.salvage.specs.Front.{Promise, missing, promised, Salvage, salvaged, refusal}

-- the fields of a message that was read, by the walk over it
abbrev pub walked_fields : List ℕ → List ℕ → Message → List Field
walked_fields types s m = walked m.cursor.delta m.cursor.encoding types m.cursor.count 0 s m.cursor.at

-- a number that is promised is the message's
abbrev pub PromiseKept : Promise → ℕ → Type 0
PromiseKept missing n = Unit {0}
PromiseKept (promised k) n = k ≡ n

-- a refusal is the message's own; of an accepted message the promised number is its number of fields, and the fields handed out are its
-- first
abbrev pub TellsOf : Salvage → List ℕ → List ℕ → Type 0
TellsOf (refusal n place) types s = message_at types s ≡ refused n place
TellsOf (salvaged p fs) types s =
    (m : Message) (end : ℕ) → message_at types s ≡ got (valid m) end → PromiseKept p m.cursor.count
    × (fs ≡ take (length fs) (walked_fields types s m))
