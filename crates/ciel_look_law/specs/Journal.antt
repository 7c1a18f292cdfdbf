-- What is told is a journal's own, said of its entries alone.
use Rattle.std.specs.Prelude.{◌≡◌, ℕ, List, [], ◌∷◌, length}
use Rattle.sha1.specs.Sha1.{sha1}
use Rattle.sky_base.specs.Res.{Object}
use Rattle.sky_base.specs.declared.object.TaskId.{TaskId}
use Rattle.ciel_name.specs.Object.{object_bytes}
use Rattle.ciel_journal.specs.Entries.{Entry}
use Rattle.ciel_journal.specs.Job.{Digest, Task, of, show}
use Rattle.ciel_look_told.specs.Told as told
use Rattle.ciel_look_told.specs.Told.{Outcome, Told}
use Rattle.ciel_master_board.specs.Follows.{OneByOne}

abbrev pub id_of : Task Digest → TaskId
id_of show = TaskId.Show
id_of (of name) = TaskId.Of name

-- so much weighs an object with the mark of this one that was made
abbrev pub Weighs : ℕ → Digest × Digest → Type 0
Weighs weight made = (o : Object (List ℕ)) × (sha1 (object_bytes o) ≡ made.1) × (weight ≡ told.weight o)

-- a task came to its end: with the objects that were made, or the root task, which makes none, with an answer or a fault
abbrev pub IsEnd : Outcome → List (Digest × Digest) → Type 0
IsEnd (told.made weights) made = OneByOne Weighs weights made
IsEnd (told.answered weight) made = made ≡ []
IsEnd (told.failed fault) made = made ≡ []
IsEnd _ made = ⊥

-- it is told of this entry
abbrev pub IsOf : Told → Entry → Type 0
IsOf (told.started k w from task) (Entry.Start number worker t i) = (k ≡ number) × (w ≡ worker) × (task ≡ id_of t) × (from ≡ i)
IsOf (told.ended k spawned names how) (Entry.Done number made copied) = (k ≡ number) × (names ≡ copied) × IsEnd how made
IsOf (told.ended k spawned names how) (Entry.Saved number j mark) =
    (k ≡ number) × (names ≡ []) × ((stack : List ℕ) × (sha1 stack ≡ mark) × (how ≡ told.saved j (length stack)))
IsOf (told.ended k spawned names how) (Entry.Missed number name loss) = (k ≡ number) × (names ≡ []) × (how ≡ told.missing name loss)
IsOf (told.lost w c) (Entry.Lost worker closes) = (w ≡ worker) × (c ≡ closes)
IsOf _ _ = ⊥

-- entry by entry, with late reports between them
pub data IsJournal : List Told → List Entry → Type 0 where
  ends : IsJournal [] []
  late : {ts : List Told} {es : List Entry} (k : ℕ) → IsJournal ts es → IsJournal (told.late k ∷ ts) es
  tells : {ts : List Told} {es : List Entry} (t : Told) (e : Entry) → IsOf t e → IsJournal ts es → IsJournal (t ∷ ts) (e ∷ es)
