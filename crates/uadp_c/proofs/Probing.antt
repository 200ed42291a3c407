-- The ways out of the functions that read a probe, step over its ids and strings, and write its body.
-- Assumes nothing.
use Prim.Native.Nat.{ℕ, ◌≤◌, ◌<◌}
use mathlib.Core.Path.{◌≡◌, refl, ap, sym, subst, ◌∙◌}
use mathlib.Core.List.{List}
use lib.ListN.{length, get_or, take}
use mir.Syntax.{w8}
use mir.Val.{Fits}
use native.Mathlib.Omega.{arith}
use borrow.Author.Tests.{ne_eqb, eq-eqb, lt-ltb, le-ltb}
use Rattle.wire.specs.Answer.{Answer, got, refused}
use Rattle.wire_writer.specs.Store.{laid}
use Rattle.wire_writer.specs.Writing.{buffer_after}
use Rattle.network_header.specs.declared.envelope.Envelope.{Envelope}
use Rattle.network_header.specs.declared.envelope.Places.{Places}
use Rattle.network_message.specs.ProbeMessage.{ProbeMessage, probe_message_at}
use Rattle.probe.specs.declared.body.Probe.{Probe}
use Rattle.probe.specs.declared.items.ProbeCursor.{ProbeCursor}
use Rattle.probe.specs.declared.items.ProbeItem.{ProbeItem}
use Rattle.probe.specs.Items.{ItemStepped, item_step_at}
use Rattle.probe.specs.Put.{probe_output}
use Rattle.records.specs.Numbers.{number_bytes}
use Rattle.records.specs.Result.{result_of, result_in, filled_in}
use Rattle.records.specs.Sizes.{PROBE_SIZE, ITEM_SIZE}
use Rattle.records.specs.Writers.{writers_in, sixteen, sizes_in}
use Rattle.records.proofs.Storing.{bytes_length}
use Rattle.envelope_record.specs.Probe.{probe_numbers, probe_in, information_refusal, probe_fits, item_cursor_in, item_cursor_laid, item_numbers, ProbeRecordBack}
use Rattle.uadp_c.specs.Writing.{output_result, fitting}
use Rattle.network_message.proofs.Lent.{bytes}
use Rattle.uadp_c.specs.Probes.{probe_filling, ProbeReads, ProbeRead, item_step, item_result, probe_after, item_after, probe_put}
use Rattle.uadp_c.proofs.Filling.{fill_none, fill_done}
use Rattle.uadp_c.proofs.Wrote.{of_writers}

-- ---- a probe read
pub probe_read : (c s z l : List ℕ) (n : ℕ) (y : Answer ProbeMessage) → n ≡ writers_in c → l ≡ sixteen 34 c → z ≡ take n l → y ≡ probe_message_at z s → y ≡ probe_message_at (sizes_in c) s
probe_read c s z l n y a b d q = q ∙ ap (λ (t : List ℕ). probe_message_at t s) (of_writers 34 c l z n a b d)

abbrev pub Probed : Answer ProbeMessage → List ℕ → ℕ → List ℕ → Type 0
Probed a entry x exit = (x ≡ result_in (probe_filling a) entry) × (exit ≡ filled_in (probe_filling a) entry) × ProbeReads a entry exit

-- with what is known of the datagram, it is what `uadp_probe` promises
pub probe_told : (d config entry : List ℕ) (x : ℕ) (exit : List ℕ) → ((i : ℕ) → Fits w8 (get_or d i 0)) → Probed (probe_message_at (sizes_in config) d) entry x exit
    → ProbeRead d config entry x exit
probe_told d config entry x exit h f = record { answer = f.0; filled = f.1; reads = f.2; bytes = bytes d h }

pub probed_refused : (a : Answer ProbeMessage) (entry : List ℕ) (n p x : ℕ) → refused n p ≡ a → x ≡ result_of n p → Probed a entry x entry
probed_refused a entry n p x q h = subst (λ (y : Answer ProbeMessage). Probed y entry x entry) q (h, refl, tt)

module _ (e : Envelope) (w : Places) (p : Probe) where
  abbrev found : ProbeMessage
  found = record { envelope = e; places = w; probe = p }

  pub probed_short : (a : Answer ProbeMessage) (entry : List ℕ) (next x : ℕ) → got found next ≡ a → length entry < PROBE_SIZE → x ≡ result_of 11 0 → Probed a entry x entry
  probed_short a entry next x q l r =
      let f = fill_none (probe_filling (got found next)) entry _ next 128 x refl (bytes_length (probe_numbers p w.payload)) l r in
      subst (λ (y : Answer ProbeMessage). Probed y entry x entry) q (f.0, f.1, λ h. absurd (omega (arith, l, h)))

  pub probed_done : (a : Answer ProbeMessage) (entry exit : List ℕ) (next x : ℕ) → got found next ≡ a → PROBE_SIZE ≤ length entry → x ≡ result_of 0 w.payload
      → exit ≡ laid entry 0 (number_bytes (probe_numbers p w.payload)) → (PROBE_SIZE ≤ length entry → ProbeRecordBack exit p w.payload) → Probed a entry x exit
  probed_done a entry exit next x q l r s b =
      let f = fill_done (probe_filling (got found next)) entry exit _ next 128 x refl (bytes_length (probe_numbers p w.payload)) l r s in
      subst (λ (y : Answer ProbeMessage). Probed y entry x exit) q (f.0, f.1, b)

-- ---- a step
pub item_stepped : (probe d : List ℕ) (p : Probe) (c : ProbeCursor) (y : Answer ItemStepped) → p ≡ probe_in probe → c ≡ item_cursor_in probe → y ≡ item_step_at p c d → y ≡ item_step probe d
item_stepped probe d p c y a b q = q ∙ ap (λ (z : Probe). item_step_at z c d) a ∙ ap (λ (z : ProbeCursor). item_step_at (probe_in probe) z d) b

abbrev pub ItemSteps : Answer ItemStepped → List ℕ → List ℕ → ℕ → List ℕ → List ℕ → Type 0
ItemSteps a probe item x p i = (x ≡ item_result a probe item) × (p ≡ probe_after a probe item) × (i ≡ item_after a probe item)

pub item_refused : (a : Answer ItemStepped) (probe item : List ℕ) (n p x : ℕ) → refused n p ≡ a → x ≡ result_of n p → ItemSteps a probe item x probe item
item_refused a probe item n p x q h = subst (λ (y : Answer ItemStepped). ItemSteps y probe item x probe item) q (h, refl, refl)

module _ (v : ProbeItem) (k : ProbeCursor) where
  abbrev stepped : ItemStepped
  stepped = record { item = v; cursor = k }

  pub item_no_probe : (a : Answer ItemStepped) (probe item : List ℕ) (next x : ℕ) → got stepped next ≡ a → length probe < PROBE_SIZE → x ≡ result_of 11 0 → ItemSteps a probe item x probe item
  item_no_probe a probe item next x q h r =
      subst (λ (y : Answer ItemStepped). ItemSteps y probe item x probe item) q (rw (lt-ltb (length probe) PROBE_SIZE h) (r, refl, refl))

  pub item_no_item : (a : Answer ItemStepped) (probe item : List ℕ) (next x : ℕ) → got stepped next ≡ a → PROBE_SIZE ≤ length probe → length item < ITEM_SIZE → x ≡ result_of 11 0
      → ItemSteps a probe item x probe item
  item_no_item a probe item next x q g h r =
      subst (λ (y : Answer ItemStepped). ItemSteps y probe item x probe item) q
      (rw (le-ltb (length probe) PROBE_SIZE g, lt-ltb (length item) ITEM_SIZE h) (r, refl, refl))

  pub item_done : (a : Answer ItemStepped) (probe item p₁ i₁ : List ℕ) (next x : ℕ) → got stepped next ≡ a → PROBE_SIZE ≤ length probe → ITEM_SIZE ≤ length item → x ≡ result_of 0 v.index
      → p₁ ≡ item_cursor_laid k probe → i₁ ≡ laid item 0 (number_bytes (item_numbers v)) → ItemSteps a probe item x p₁ i₁
  item_done a probe item p₁ i₁ next x q g h r s t =
      subst (λ (y : Answer ItemStepped). ItemSteps y probe item x p₁ i₁) q
      (rw (le-ltb (length probe) PROBE_SIZE g, le-ltb (length item) ITEM_SIZE h) (r, s, t))

-- ---- a body written
pub type_refused : (probe list out : List ℕ) (n r : ℕ) → n ≡ information_refusal probe → (n ≡ 0 → ⊥) → r ≡ result_of n 0
    → (r ≡ output_result out (probe_put probe list)) × (out ≡ buffer_after out (probe_put probe list))
type_refused probe list out n r e h q = rw (sym e, ne_eqb n 0 h) (q, refl)

pub type_taken : (probe list out exit : List ℕ) (n r : ℕ) → n ≡ information_refusal probe → n ≡ 0
    → (r ≡ output_result out (fitting (probe_fits probe) (probe_output list (probe_in probe)))) × (exit ≡ buffer_after out (fitting (probe_fits probe) (probe_output list (probe_in probe))))
    → (r ≡ output_result out (probe_put probe list)) × (exit ≡ buffer_after out (probe_put probe list))
type_taken probe list out exit n r e h w = rw (sym e, eq-eqb n 0 h) w
