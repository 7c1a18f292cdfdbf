-- What is known of a run's descriptions, by what is told of it.
use Rattle.std.specs.Prelude.{◌≡◌, ℕ, List, [], ◌∷◌, ◌++◌, Bool, Option, None, cond, flat_map, map}
use Rattle.sky_base.specs.Name.{canon}
use Rattle.sky_base.specs.Val.{Desc, call, input, no_pairs, no_vals}
use Rattle.sky_base.specs.declared.object.TaskId.{TaskId}
use Rattle.ciel_name.specs.Names.{first_output}
use Rattle.ciel_look_told.specs.Head.{Head, short}
use Rattle.ciel_look_told.specs.Told as told
use Rattle.ciel_look_told.specs.Told.{Told}
use Rattle.ciel_look_words.specs.Named.{digest_of, name_of}
use Rattle.ciel_look_words.specs.declared.known.Known.{Known}
use Rattle.ciel_look_tasks.specs.Known.{Named, known_as, knowns, makers, with_known}
use Rattle.ciel_look_tasks.specs.Tasks.{same_task}

-- an input, by its key
abbrev pub input_desc : List ℕ × List ℕ → Desc (List ℕ)
input_desc i = input i.0

-- the main call, and the inputs
abbrev pub given : Head → List (Desc (List ℕ))
given h = call [] no_pairs no_vals ∷ map input_desc h.1.1.1.1.1

-- what was spawned by the order that ended
abbrev pub spawned : Told → List (Desc (List ℕ))
spawned (told.started number worker from task) = []
spawned (told.ended number descs copied how) = descs
spawned (told.lost worker after) = []
spawned (told.late number) = []

-- the descriptions of a run, in the order in which they were learned
abbrev pub descs : Head → List Told → List (Desc (List ℕ))
descs h ts = given h ++ flat_map spawned ts

abbrev pub with_name : Bool → Desc (List ℕ) → Named
with_name short d = (name_of short d, d)

-- descriptions more, each unless its name is known
abbrev pub learned : Bool → List Named → List (Desc (List ℕ)) → List Named
learned short ks [] = ks
learned short ks (d ∷ ds) = learned short (with_known ks (with_name short d)) ds

-- what is known under names
abbrev pub known : Head → List Told → List Named
known h ts = learned (short h) [] (descs h ts)

-- the task that makes what a description stands for
abbrev pub maker : Bool → Desc (List ℕ) → TaskId
maker short d = TaskId.Of (digest_of short (canon (first_output d)))

-- a name, and the task that makes what it names
abbrev pub made_by : Bool → Named → List ℕ × TaskId
made_by short k = (k.0, maker short k.1)

-- the code's have such tasks
abbrev pub AreMade : Bool → List Known → Type 0
AreMade short ks = makers ks ≡ map (made_by short) (knowns ks)

-- ---- of tasks

-- the description of a task, where it is known
abbrev pub own_known : List Named → TaskId → Option (Desc (List ℕ))
own_known ks TaskId.Show = None
own_known ks (TaskId.Of n) = known_as n ks

-- as it is known where the task is first started, if it is
abbrev pub described : Bool → List Named → List Told → TaskId → Option (Desc (List ℕ))
described short ks [] t = None
described short ks (told.started number worker from task ∷ ts) t = cond (same_task t task) (own_known ks t) (described short ks ts t)
described short ks (told.ended number descs copied how ∷ ts) t = described short (learned short ks descs) ts t
described short ks (told.lost worker after ∷ ts) t = described short ks ts t
described short ks (told.late number ∷ ts) t = described short ks ts t

abbrev pub desc_of : Head → List Told → TaskId → Option (Desc (List ℕ))
desc_of h ts t = described (short h) (learned (short h) [] (given h)) ts t
