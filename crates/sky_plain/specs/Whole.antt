-- What a sequential run of a job answers.
use Rattle.std.specs.Prelude.{◌≡◌, ◌<◌, ◌≤◌, ℕ, List, [], ◌∷◌, length, Option}
use Rattle.sky_base.specs.Val.{known}
use Rattle.sky_base.specs.See.{Desc, Job, Around, Answered, Means}
use Rattle.sky_base_law.specs.Tasks.{In}
use Rattle.sky_base_known.specs.Walk.{Obj}
use Rattle.sky_base_known.specs.Walk.{Row, number_of, most_rows}
use Rattle.sky_plain.specs.Needs.{Chain, MakesMany}
use Rattle.sky_plain.specs.Stand.{Opens, Standing}
use Rattle.sky_plain.specs.Stage.{AllKnown}
use Rattle.sky_plain.specs.Settle.{most_open}
use Rattle.sky_plain.specs.declared.settle.Settled.{Settled}
use Rattle.sky_plain.specs.declared.plain.Answer.{Answer}

module _ (job : Job) (around : Around) where
  -- each of these is held, and may be the first of a chain
  abbrev pub OpensAll : List Row → List Row → Type 0
  OpensAll rows ds = (n : List ℕ) → In (known n) ds → (number_of n < length rows) × Opens job around rows (number_of n ∷ [])

  abbrev pub GatheredSo : List Row → List Row → List (Option Obj) → Settled → Type 0
  GatheredSo ds rows objects Settled.Known = Standing job around rows objects × AllKnown objects ds × (length objects ≤ 65536)
  GatheredSo ds rows objects Settled.TooDeep = (d : Desc) × Chain job around most_open d
  GatheredSo ds rows objects Settled.Full = MakesMany job around 65537

  -- a text and a fault are what the job means; else it has a chain of 4,096 descriptions, or makes 65,537
  abbrev pub AnswersSo : Answer → Type 0
  AnswersSo (Answer.Text b) = Means job around (Answered.bytes b)
  AnswersSo (Answer.Fault f) = Means job around (Answered.fault f)
  AnswersSo (Answer.TooDeepPlain depth) = (depth ≡ most_open) × ((d : Desc) × Chain job around most_open d)
  AnswersSo (Answer.TooMany held) = (held ≡ most_rows) × MakesMany job around 65537
