-- What it means of values, descriptions and variables over names that they are sound.
use Rattle.std.proofs.Common.{List, ℕ}
use Rattle.sky_base.specs.Val.{Val, Pairs, Desc, no_pairs, pair}
use Rattle.sky_base.specs.Eval.{World}
use Rattle.sky_base_law.specs.Sound.{Sound, SoundDesc, SoundVars}
use Rattle.sky_base_law.proofs.FineLaw.{PairsOk}

module _ (w : World (List ℕ)) where
  abbrev pub P : Val (List ℕ) → Type 0
  P v = Sound w.script v

  abbrev pub Q : Desc (List ℕ) → Type 0
  Q d = SoundDesc w.script d

  abbrev pub V : Pairs (List ℕ) → Type 0
  V ps = PairsOk w P Q ps

  pub vars_in : (ps : Pairs (List ℕ)) → SoundVars w.script ps → V ps
  vars_in no_pairs h = tt
  vars_in (pair k u ps) h = (h.0, vars_in ps h.1)

  pub vars_out : (ps : Pairs (List ℕ)) → V ps → SoundVars w.script ps
  vars_out no_pairs h = tt
  vars_out (pair k u ps) h = (h.0, vars_out ps h.1)
