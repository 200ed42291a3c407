-- What demand 3's one claim says of a list of calls on a partial. `replies` and `final` are what the contracts of
-- reassembly/src/operations.rt say of the code, call by call; the rest is the plain machine of reassembly/specs/Machine.antt.
use Rattle.std.specs.Prelude.{ℕ, List, [], ◌∷◌, ◌++◌, ◌≡◌, ◌⊎◌, ◌↔◌, length, get_or}
use Rattle.wire.specs.Constants.{NOT_COMPLETE}
use Rattle.reassembly.specs.Record.{Partial, room_of, Good}
use Rattle.reassembly.specs.Machine.{Call, Reply, state_of, machine_replies, machine_final, brought, OneHas, AllOf}
use Rattle.reassembly.specs.Machine.State.{idle}
use Rattle.reassembly.specs.Machine.Call.{HandOut}
use Rattle.reassembly.specs.Machine.Reply.{done, handed, refused}
use Rattle.reassembly.specs.Judge.{Covers}
use Rattle.reassembly.specs.Calls.{replies, final}

-- the reply at a place of the list
abbrev pub reply_at : List Reply → ℕ → Reply
reply_at l i = get_or l i done

-- the payload p, or 15: no other payload
abbrev pub HandsOut : List ℕ → Reply → Type 0
HandsOut p r = (r ≡ handed p) ⊎ (r ≡ refused NOT_COMPLETE 0)

pub record AnyList (ks : List Call) (s : Partial) : Type 0 where
  -- "Every answer in the list is the machine's,"
  pub replies_are : replies ks s ≡ machine_replies (room_of s) ks idle
  -- "and the partial afterwards is equal to what the machine keeps."
  pub partial_is : state_of (final ks s) ≡ machine_final (room_of s) ks idle
  -- "The partial stays sound."
  pub stays_good : Good (final ks s)
  -- The machine "keeps the area's length", and so does the partial.
  pub room_stays : room_of (final ks s) ≡ room_of s
  -- A byte is covered exactly if one accepted since the last emptying brought it, and then it has the value brought.
  pub covered_exactly : (i x : ℕ) → Covers (final ks s) i x ↔ OneHas (brought (room_of s) ks idle []) i x
  -- If all that brought bytes since then are of one payload, that payload is what a handing out hands out, wherever it stands in the list.
  pub one_payload : (before after : List Call) (p : List ℕ) → ks ≡ before ++ (HandOut ∷ after)
      → AllOf p (brought (room_of s) before idle []) → HandsOut p (reply_at (replies ks s) (length before))
