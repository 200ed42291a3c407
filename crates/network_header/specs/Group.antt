-- The group header (document 01, "The envelope").
use Rattle.std.specs.Prelude.{Option, Some, None, is_some}
use Rattle.std.specs.Prelude.{ℕ, ◌+◌, ◌*◌, Bool, cond, leb, eqb, List, [], ◌++◌}
use Rattle.wire.specs.Constants.{NOT_PERMITTED}
use Rattle.wire.specs.Answer.{Reader, ruled, when_on, pure, ◌>>=◌, bit}
use Rattle.wire.specs.Optional.{optional16, optional32}
use Rattle.wire.specs.Number.{le_bytes}
use Rattle.network_header.specs.declared.group.GroupFields.{GroupFields}
use Rattle.wire_writer.specs.Writing.{num, optional16_bytes, optional32_bytes}
use Rattle.wire_writer.specs.Fits.{Fits16, Fits32}

-- "NetworkMessageNumber 2 (value 0 is 3)"
abbrev pub number_rule : ℕ → ℕ
number_rule v = cond (eqb v 0) NOT_PERMITTED 0

abbrev pub message_number_at : Bool → Reader (Option ℕ)
message_number_at on = when_on on None (ruled 2 number_rule >>= λ v. pure (Some v))

-- "GroupFlags (bits 4-7 set is 3)"
abbrev pub group_flags_rule : ℕ → ℕ
group_flags_rule v = cond (leb 16 v) NOT_PERMITTED 0

-- "then by bits 0 to 3: WriterGroupId 2, GroupVersion 4, NetworkMessageNumber 2, SequenceNumber 2"
abbrev pub group_fields_at : ℕ → Reader (Option GroupFields)
group_fields_at flags = do
  w ← optional16 (bit 0 flags)
  v ← optional32 (bit 1 flags)
  n ← message_number_at (bit 2 flags)
  q ← optional16 (bit 3 flags)
  pure (Some (record { writer_group = w; version = v; number = n; sequence = q }))

abbrev pub group_at : Bool → Reader (Option GroupFields)
group_at on = when_on on None (ruled 1 group_flags_rule >>= group_fields_at)

-- "GroupFlags .. then by bits 0 to 3: WriterGroupId 2, GroupVersion 4, NetworkMessageNumber 2, SequenceNumber 2"
abbrev pub group_flags_of : GroupFields → ℕ
group_flags_of g =
    num (is_some g.writer_group) + (2 * num (is_some g.version) + (4 * num (is_some g.number) + 8 * num (is_some g.sequence)))

abbrev pub group_fields_bytes : GroupFields → List ℕ
group_fields_bytes g =
    optional16_bytes g.writer_group ++ (optional32_bytes g.version ++ (optional16_bytes g.number ++ optional16_bytes g.sequence))

abbrev pub group_bytes : Option GroupFields → List ℕ
group_bytes None = []
group_bytes (Some g) = le_bytes 1 (group_flags_of g) ++ group_fields_bytes g

-- what reading refuses: "NetworkMessageNumber 2 (value 0 is 3)"
abbrev pub number_refusal : Option ℕ → ℕ
number_refusal None = 0
number_refusal (Some v) = number_rule v

abbrev pub group_refusal : Option GroupFields → ℕ
group_refusal None = 0
group_refusal (Some g) = number_refusal g.number

abbrev pub FitsFields : GroupFields → Type 0
FitsFields g = Fits16 g.writer_group × Fits32 g.version × Fits16 g.number × Fits16 g.sequence

abbrev pub FitsGroup : Option GroupFields → Type 0
FitsGroup None = Unit
FitsGroup (Some g) = FitsFields g
