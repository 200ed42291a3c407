use Rattle.envelope_record.proofs.Put.{envelope_put}
use Rattle.envelope_record.proofs.Back.{envelope_back}
use Rattle.envelope_record.proofs.Fitting.{fits_envelope_record}
use Rattle.envelope_record.specs.Envelope.{EnvelopeBack}
use Rattle.network_message.specs.Envelope.{NetworkMessage}
use Prim.Native.Nat.{ℕ}
use mathlib.Core.Path.{sym, subst}
use mathlib.Core.List.{List}
use native.Mathlib.Omega.{arith}
use Rattle.envelope_record.proofs.put_envelope.Goals as goal

pub returns : goal.returns
returns c =
    let args = c.args in
    let m : NetworkMessage = record { envelope = args.e; places = args.places; payload = args.payload } in
    let fits = fits_envelope_record args.e args.places args.payload _ _ _ c.well_formed.1.0 c.well_formed.1.1.0 c.well_formed.1.1.1.0 in
    let stored =
    envelope_put args.e args.places args.payload args.out.now _ _ (omega arith) c.put_start.ensures c.put_rest.ensures in
    (stored, λ l. subst (λ (s : List ℕ). EnvelopeBack s m) (sym stored) (envelope_back m args.out.now fits l))
