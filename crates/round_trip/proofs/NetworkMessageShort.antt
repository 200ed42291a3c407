-- An accepted datagram is not too long.
-- Assumes nothing.
use mathlib.Core.Path.{◌≡◌, refl}
use mathlib.Core.Bool.{Bool, true, false}
use mathlib.Core.List.{List}
use Prim.Native.Nat.{ℕ, ◌≤◌}
use lib.Dec.{ltb}
use lib.ListN.{length}
use borrow.Author.Tests.{ltb-false}
use Rattle.wire.specs.Answer.{got}
use Rattle.wire.proofs.Reading.{not_got}
use Rattle.network_message.specs.Envelope.{NetworkMessage, network_message_at}

pub accepted_short : (sizes s : List ℕ) (m : NetworkMessage) (n : ℕ) → network_message_at sizes s ≡ got m n → length s ≤ 65535
accepted_short sizes s m n e = go (ltb 65535 (length s)) refl
  where
    go : (b : Bool) → ltb 65535 (length s) ≡ b → length s ≤ 65535
    go true t = absurd (not_got (rw t at e))
    go false t = ltb-false 65535 (length s) t
