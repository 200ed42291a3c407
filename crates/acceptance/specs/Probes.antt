-- The contract by which a probe is written, and what one that was written reads back as.
use Rattle.wire.specs.declared.refusal.Reason.{Reason}
use Rattle.std.specs.Prelude.{Result}
use Rattle.std.specs.Prelude.{ℕ, ◌≡◌, List, length}
use Rattle.wire.specs.Answer.{got}
use Rattle.wire_writer.specs.Writing.{Writes}
use Rattle.network_header.specs.declared.envelope.Envelope.{Envelope}
use Rattle.probe.specs.declared.body.Probe.{Probe}
use Rattle.probe.specs.Body.{probe_body_at}
use Rattle.probe.specs.Put.{FitsProbe, list_in, probe_output}
use Rattle.network_message.specs.ProbeMessage.{ProbeMessage, probe_message_at}
use Rattle.network_message.specs.Writer.{GivenDatagram}
use Rattle.round_trip.specs.NetworkMessage.{places_of}

-- the contract of `probe::put::write`, of the buffer before and after and its answer
abbrev pub WroteProbe : List ℕ → Probe → List ℕ → List ℕ → Result ℕ Reason → Type 0
WroteProbe list p entry exit r = FitsProbe p × Writes (probe_output list p) entry exit r

-- The bytes d are a probe's body that was written from p and this list.
pub record ProbeBack (list : List ℕ) (p : Probe) (d : List ℕ) : Type 0 where
  pub whole : probe_body_at d 0 ≡ got p (length d)
  pub same : list_in d 0 p ≡ list

-- what was written, as reading a probe answers it
abbrev pub written_probe : Probe → GivenDatagram → Envelope → ProbeMessage
written_probe p g x = record { envelope = x; places = places_of g x; probe = p }

-- The bytes d are a datagram that was written from this envelope, with that body.
pub record ProbeDatagramBack (list : List ℕ) (p : Probe) (g : GivenDatagram) (x : Envelope) (sizes d : List ℕ) : Type 0 where
  pub whole : probe_message_at sizes d ≡ got (written_probe p g x) (places_of g x).payload
  pub same : list_in d (places_of g x).payload p ≡ list
