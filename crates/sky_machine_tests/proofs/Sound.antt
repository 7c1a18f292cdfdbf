-- Objects that are sound for whatever script.
use Rattle.std.proofs.Common.{List, [], ◌∷◌, ◌++◌}
use Rattle.sky_base.specs.declared.object.Object.{Object}
use Rattle.sky_machine.specs.Onward.{AnswersSound}
use Rattle.sky_machine_tests.specs.Rows.{SoundAnywhere}

pub sound_both : (xs ys : List Object) → SoundAnywhere xs → SoundAnywhere ys → SoundAnywhere (xs ++ ys)
sound_both xs ys h k sc = both xs (h sc)
  where
    both : (zs : List Object) → AnswersSound sc zs → AnswersSound sc (zs ++ ys)
    both [] i = k sc
    both (z ∷ zs) i = (i.0, both zs i.1)
