-- What the teller's parts stand for, and how a story grows.
use Rattle.std.specs.Prelude.{◌≡◌, ◌≤◌, ◌+◌, ℕ, List, [], ◌∷◌, ◌++◌, cond, length, map, nat_eq}
use Rattle.std.specs.BTreeMap.{get}
use Rattle.std.specs.List.{list_any}
use Rattle.std.specs.Ordering.{nat_cmp}
use Rattle.sky_base_law.specs.Tasks.{Each}
use Rattle.ciel_log_read.specs.Recorded.{IsRecord, Recorded, record_bytes}
use Rattle.ciel_look_story.specs.Story.{Stand, StandUpTo, Story, before_all}
use Rattle.ciel_look_told.specs.Told.{Told as ToldSeen}
use Rattle.ciel_look_told.specs.View.{told_view}
use Rattle.ciel_look_story.specs.declared.teller.Teller.{Teller}
use Rattle.ciel_look_told.specs.declared.told.Told.{Told}

abbrev pub stand_of : Teller → Stand
stand_of t = record { worker_of = λ k. get nat_cmp t.worker_of k; gone = t.gone.items; closes = t.closes; over = t.over }

-- how many losses are of workers that aren't lost
abbrev pub left : List (ℕ × ℕ) → List ℕ → ℕ
left [] gone = 0
left (x ∷ xs) gone = cond (list_any (nat_eq x.1) gone) (left xs gone) (left xs gone + 1)

-- From one state to the other these records are told, behind what was told before: whatever story comes then, it is one from the first state
pub record Goes (planned : List (ℕ × ℕ)) (v : Stand) (rs : List Recorded) (before after : List ToldSeen) (w : Stand) : Type 0 where
  pub told : List ToldSeen
  pub grew : after ≡ before ++ told
  pub path : (more : List Recorded) (then : List ToldSeen) → Story planned w more then → Story planned v (rs ++ more) (told ++ then)

-- the records behind a header, told up to a place
pub record Progress (planned : List (ℕ × ℕ)) (log : List ℕ) (first : ℕ) (t : Teller) (told : List Told) (at : ℕ) : Type 0 where
  pub rs : List Recorded
  pub whole : Each IsRecord rs
  pub there : StandUpTo log first (map record_bytes rs) at
  pub goes : Goes planned before_all rs [] (map told_view told) (stand_of t)
  pub closes : t.closes ≤ at
  pub within : at ≤ length log
