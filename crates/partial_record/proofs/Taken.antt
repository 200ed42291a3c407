-- The record of a partial read in its parts.
-- Assumes nothing.
use Prim.Native.Nat.{ℕ, ◌%◌}
use mathlib.Core.Path.{◌≡◌, sym, ap, ◌∙◌}
use mathlib.Core.Bool.{true}
use mathlib.Core.List.{List}
use lib.Dec.{eqb}
use lib.ListN.{take, drop, replicate}
use Rattle.std.specs.Prelude.{Option, None}
use Rattle.wire_writer.specs.Store.{laid}
use Rattle.publisher_id.specs.declared.publisher.PublisherId.{PublisherId}
use Rattle.publisher_id.specs.declared.publisher_record.PublisherRecord.{PublisherRecord}
use Rattle.reassembly.specs.Quick.{held_record}
use Rattle.reassembly.specs.declared.quick.Held.{Held}
use Rattle.reassembly.specs.declared.record.Message.{Message}
use Rattle.reassembly.specs.declared.record.PartialRecord.{PartialRecord}
use Rattle.records.specs.Numbers.{number_at}
use Rattle.records.specs.Publisher.{publisher_by}
use Rattle.partial_record.specs.Partial.{publisher_in, group_id_in, message_in, partial_in, started_in, text_in, asked_in}

abbrev pub publisher_with : PublisherId → List ℕ → PublisherRecord
publisher_with i t = record { id = i; text = t }

abbrev pub message_with : PublisherRecord → Option ℕ → ℕ → ℕ → ℕ → Message
message_with p g a b d = record { origin = record { publisher = p; group = g; writer = a % 65536; number = b % 65536 }; total = d }

abbrev pub partial_with : ℕ → Message → ℕ → PartialRecord
partial_with n m c = record { started = eqb n 1; message = m; covered = c }

pub publisher_taken : (s p u : List ℕ) (id : PublisherId) (a b : ℕ) → p ≡ take 64 (drop 80 s) → u ≡ laid (replicate 64 0) 0 p → a ≡ number_at s 1 → b ≡ number_at s 2
    → id ≡ publisher_by a b → publisher_with id u ≡ publisher_in s
publisher_taken s p u id a b qp qu qa qb qi =
    ap (λ (i : PublisherId). publisher_with i u) (qi ∙ ap (λ (x : ℕ). publisher_by x b) qa ∙ ap (λ (x : ℕ). publisher_by (number_at s 1) x) qb)
    ∙ ap (λ (t : List ℕ). publisher_with (publisher_by (number_at s 1) (number_at s 2)) t) (qu ∙ ap (λ (x : List ℕ). laid (replicate 64 0) 0 x) qp)

pub message_taken : (s : List ℕ) (p : PublisherRecord) (g : Option ℕ) (a b d : ℕ) → p ≡ publisher_in s → g ≡ group_id_in s → a ≡ number_at s 3 → b ≡ number_at s 4
    → d ≡ number_at s 5 → message_with p g a b d ≡ message_in s
message_taken s p g a b d qp qg qa qb qd =
    ap (λ (x : PublisherRecord). message_with x g a b d) qp ∙ ap (λ (x : Option ℕ). message_with (publisher_in s) x a b d) qg
    ∙ ap (λ (x : ℕ). message_with (publisher_in s) (group_id_in s) x b d) qa ∙ ap (λ (x : ℕ). message_with (publisher_in s) (group_id_in s) (number_at s 3) x d) qb
    ∙ ap (λ (x : ℕ). message_with (publisher_in s) (group_id_in s) (number_at s 3) (number_at s 4) x) qd

pub partial_taken : (s : List ℕ) (n : ℕ) (m : Message) (c : ℕ) → n ≡ number_at s 0 → m ≡ message_in s → c ≡ number_at s 8 → partial_with n m c ≡ partial_in s
partial_taken s n m c qn qm qc =
    ap (λ (x : ℕ). partial_with x m c) qn ∙ ap (λ (x : Message). partial_with (number_at s 0) x c) qm ∙ ap (λ (x : ℕ). partial_with (number_at s 0) (message_in s) x) qc

abbrev pub asked_with : ℕ → PublisherId → ℕ → ℕ → PartialRecord
asked_with n i d c = partial_with n (message_with (publisher_with i (replicate 64 0)) None 0 0 d) c

pub asked_taken : (s : List ℕ) (id : PublisherId) (a b d n c : ℕ) → id ≡ publisher_by a b → a ≡ number_at s 1 → b ≡ number_at s 2 → d ≡ number_at s 5 → n ≡ number_at s 0 → c ≡ number_at s 8
    → asked_with n id d c ≡ asked_in s
asked_taken s id a b d n c qi qa qb qd qn qc =
    ap (λ (i : PublisherId). asked_with n i d c) (qi ∙ ap (λ (x : ℕ). publisher_by x b) qa ∙ ap (λ (x : ℕ). publisher_by (number_at s 1) x) qb)
    ∙ ap (λ (x : ℕ). asked_with n (publisher_by (number_at s 1) (number_at s 2)) x c) qd
    ∙ ap (λ (x : ℕ). asked_with x (publisher_by (number_at s 1) (number_at s 2)) (number_at s 5) c) qn
    ∙ ap (λ (x : ℕ). asked_with (number_at s 0) (publisher_by (number_at s 1) (number_at s 2)) (number_at s 5) x) qc

-- ---- the record of a started one, its text lent
abbrev pub started_with : PublisherId → Option ℕ → ℕ → ℕ → ℕ → ℕ → Held
started_with i g w n d c = record { publisher = i; group = g; writer = w % 65536; number = n % 65536; total = d; covered = c }

pub started_taken : (s : List ℕ) (id : PublisherId) (g : Option ℕ) (a b w n d c : ℕ) → id ≡ publisher_by a b → a ≡ number_at s 1 → b ≡ number_at s 2 → g ≡ group_id_in s → w ≡ number_at s 3
    → n ≡ number_at s 4 → d ≡ number_at s 5 → c ≡ number_at s 8 → started_with id g w n d c ≡ started_in s
started_taken s id g a b w n d c qi qa qb qg qw qn qd qc =
    let q : id ≡ publisher_by (number_at s 1) (number_at s 2) = qi ∙ ap (λ (x : ℕ). publisher_by x b) qa ∙ ap (λ (x : ℕ). publisher_by (number_at s 1) x) qb in
    λ i. started_with (q i) (qg i) (qw i) (qn i) (qd i) (qc i)

-- with its text it is the record
pub started_whole : (s : List ℕ) → (partial_in s).started ≡ true → held_record (started_in s) (text_in s) ≡ partial_in s
started_whole s e = λ i. record { started = sym e i; message = message_in s; covered = number_at s 8 }
