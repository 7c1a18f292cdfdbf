-- What is told of a history: one entry for each of its events, in order, and between them reports that came too late.
use Rattle.std.specs.Prelude.{◌≡◌, ℕ, List, [], ◌∷◌, ◌++◌, true, false, None, Some, map}
use Rattle.sky_base.specs.KitView.{Gives}
use Rattle.sky_base.specs.Name.{canon}
use Rattle.sky_base.specs.See as s
use Rattle.sky_base.specs.Val.{Desc}
use Rattle.sky_base.specs.declared.fault.Fault.{Fault}
use Rattle.ciel_name.specs.Descs.{fault_bytes}
use Rattle.ciel_journal.specs.Entries.{low_names}
use Rattle.ciel_journal.specs.History.{Event, OpenStart, Plan, Standing, done, find_open, lost, missed, names_of, saved, standing, start}
use Rattle.ciel_journal.specs.Job.{Job}
use Rattle.ciel_journal.specs.Turns.{FirstDue, NothingDue}
use Rattle.ciel_log.specs.Logs.{IsDone, IsStackOf}
use Rattle.ciel_log_records.specs.Records.{HowEnded, failed}
use Rattle.ciel_look_told.specs.Told as told
use Rattle.ciel_look_told.specs.Told.{Outcome, Told, outcome}
use Rattle.ciel_task_order.specs.Named.{by_names, shop_job}
use Rattle.ciel_want.specs.History.{task_id}

-- ---- of one event

-- how an order ended, as it is told: with these weights; a fault has the same bytes
abbrev pub IsOutcome : HowEnded → Outcome → Type 0
IsOutcome (failed fault) x = (f : Fault) × (fault_bytes f ≡ fault_bytes fault) × (x ≡ told.failed f)
IsOutcome how x = x ≡ outcome how

-- the end of an order, as it is told: what was spawned has the same canonical bytes
pub record EndTold (k : ℕ) (spawned : List (Desc (List ℕ))) (copied : List (List ℕ)) (how : HowEnded) (t : Told) : Type 0 where
  pub descs : List (Desc (List ℕ))
  pub same : map canon descs ≡ map canon spawned
  pub end : Outcome
  pub ended : IsOutcome how end
  pub is : t ≡ told.ended k descs copied end

-- the job of a script over its inputs, with executors that give so, and the digest that gives the names
module _ (digest : List ℕ → List ℕ) (job : s.Job) (gives : Gives) where
  abbrev J : Job s.Desc
  J = shop_job digest job gives

  -- of the open Start with this number, behind a history
  abbrev OfOpen : List (Event s.Desc) → ℕ → (OpenStart s.Desc → Type 0) → Type 0
  OfOpen past k P = (o : OpenStart s.Desc) × (find_open J k (standing J past).orders ≡ Some o) × P o

  -- of an event behind a history: the objects of a task's outputs, its state at a wait and what the job means are those of the model
  abbrev pub EventTold : List (Event s.Desc) → Event s.Desc → Told → Type 0
  EventTold past (start k w t from) x = x ≡ told.started k w from (task_id J t)
  EventTold past (done k made copied spawned) x =
      OfOpen past k (λ o. (how : HowEnded) × IsDone digest job gives o.task (names_of made) how
      × EndTold k (map (by_names digest) spawned) (low_names J copied) how x)
  EventTold past (saved k j mark refs holds spawned) x =
      OfOpen past k (λ o. (stack : List ℕ) × IsStackOf digest job gives o.task j stack
      × EndTold k (map (by_names digest) spawned) [] (HowEnded.saved j stack) x)
  EventTold past (missed k d loss) x = EndTold k [] [] (HowEnded.missing (J.name d) loss) x
  EventTold past (lost w closes) x = x ≡ told.lost w closes

  -- ---- of a history

  -- these events behind a history are told so, and between them reports that are late: of no open Start
  pub data AllTold : List (Event s.Desc) → List (Event s.Desc) → List Told → Type 0 where
    ends : {past : List (Event s.Desc)} → AllTold past [] []
    late : {past es : List (Event s.Desc)} {ts : List Told} (k : ℕ) → find_open J k (standing J past).orders ≡ None → AllTold past es ts
        → AllTold past es (told.late k ∷ ts)
    tells : {past es : List (Event s.Desc)} {ts : List Told} (e : Event s.Desc) (t : Told) → EventTold past e t
        → AllTold (past ++ e ∷ []) es ts → AllTold past (e ∷ es) (t ∷ ts)

-- ---- losses that are due at its end

-- after so many closes, with these workers lost, these are lost one after another, each by the first loss that is due, and then none is
module _ (losses : List (ℕ × ℕ)) (closes : ℕ) where
  pub data AllLost : List ℕ → List ℕ → Type 0 where
    rests : {gone : List ℕ} → NothingDue losses closes gone → AllLost gone []
    loses : {gone ws : List ℕ} (loss w : ℕ) → FirstDue losses closes gone loss w → AllLost (gone ++ w ∷ []) ws → AllLost gone (w ∷ ws)

-- these workers are lost where this stands; none is where the root task is done
pub record DueThere {D : Type 0} (p : Plan) (v : Standing D) (ws : List ℕ) : Type 0 where
  pub done : v.over ≡ true → ws ≡ []
  pub due : v.over ≡ false → AllLost p.losses v.closes v.gone ws
