-- A datagram that is a probe (document 02, Req 01).
use Rattle.std.specs.Prelude.{ℕ, cond, List}
use Rattle.std.specs.Prelude.{Result, Ok, Err}
use Rattle.wire.specs.Refusal.{reason_number}
use Rattle.wire.specs.declared.refusal.Refusal.{Refusal}
use Rattle.wire.specs.Constants.{NOT_TAKEN}
use Rattle.wire.specs.Answer.{Answer, got, refused, and_then}
use Rattle.network_header.specs.declared.envelope.Envelope.{Envelope}
use Rattle.network_header.specs.declared.envelope.Places.{Places}
use Rattle.network_header.specs.Header.{probe_on}
use Rattle.probe.specs.declared.body.Probe.{Probe}
use Rattle.probe.specs.Body.{probe_body_at}
use Rattle.network_message.specs.Envelope.{network_message_at}

-- what is read: the envelope, where its variable parts end and the probe starts, and the probe
pub record ProbeMessage : Type 0 where
  pub envelope : Envelope
  pub places : Places
  pub probe : Probe

-- the probe of an accepted datagram; another one is 4 at 0
abbrev pub probe_from : Envelope → Places → List ℕ → Answer ProbeMessage
probe_from e w s =
    cond (probe_on e.payload_header)
    (and_then (probe_body_at s w.payload) (λ p next. got (record { envelope = e; places = w; probe = p }) w.payload))
    (refused NOT_TAKEN 0)

-- a reader of probes alone: the datagram's own numbers, the body's too, come first
abbrev pub probe_message_at : List ℕ → List ℕ → Answer ProbeMessage
probe_message_at sizes s = and_then (network_message_at sizes s) (λ m next. probe_from m.envelope m.places s)

-- what the answer of the code says
abbrev pub answer_probe_message : Result (Envelope × Places × Probe) Refusal → Answer ProbeMessage
answer_probe_message (Ok (e, w, p)) = got (record { envelope = e; places = w; probe = p }) w.payload
answer_probe_message (Err r) = refused (reason_number r.reason) r.place
