-- How far the result has come: the value at a wave, and how many waves are left before the one above 100.
use Rattle.std.specs.Prelude.{◌≡◌, ℕ, List, Some}
use Rattle.sky_base.specs.Val as v
use Rattle.sky_base.specs.Name.{low}
use Rattle.sky_base.specs.See.{Val, Job, Around, wave, round, job_answer}
use Rattle.sky_base.specs.Res.{Object}
use Rattle.sky_base_law.specs.Tasks.{In}
use Rattle.sky_base_law.proofs.SeenLaw.{on}
use Rattle.std.specs.Prelude.{Option}
use Rattle.sky_base_known.specs.Walk.{Row, known_of}
use Rattle.sky_base_known.specs.Number.{tag_of, Grown}
use Rattle.sky_plain.specs.Stand.{spell}

module _ (job : Job) (around : Around) where
  -- at n the value of wave j is u, and the answer is what the k waves from there on come to
  pub record Reached (n j k : ℕ) (u : Val) : Type 0 where
    pub wave_is : wave job around n j ≡ Some u
    pub answer_is : job_answer job around n ≡ round job around n k u

  -- v is the value of wave j
  abbrev pub Stage : List Row → ℕ → ℕ → v.Val (List ℕ) → Type 0
  Stage rows j k a = (later : List Row) → Grown rows later → (n : ℕ) × (u : Val) × (low spell (tag_of later) u ≡ a)
      × ((m : ℕ) → Reached (on m n) j k u)

-- each reference of a value is known
abbrev pub AllKnown : List (Option (Object (List ℕ))) → List Row → Type 0
AllKnown objects ds = (d : Row) → In d ds → (o : Object (List ℕ)) × (known_of objects d ≡ Some o)
