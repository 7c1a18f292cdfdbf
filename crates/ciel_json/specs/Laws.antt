-- What is asked of the reading of data, wherever values are made from it.
use Rattle.sky_base.specs.KitView.{Gives}
use Rattle.sky_base.specs.Tree.{Script}
use Rattle.sky_base_law.specs.Refers.{PlainReads}
use Rattle.sky_base_law.specs.Sound.{SoundReads}
use Rattle.ciel_json.specs.Around.{json_around}

-- data that is read keeps the limits and names functions of the script alone, since it names none
abbrev pub ReadsAreSound : Type 0
ReadsAreSound = (sc : Script) (gives : Gives) → SoundReads sc (json_around gives)

-- it refers to nothing
abbrev pub ReadsArePlain : Type 0
ReadsArePlain = (gives : Gives) → PlainReads (json_around gives)
