-- What is asked of a run over names, and of its ends.
use Rattle.std.specs.Prelude.{◌≡◌, ℕ, List, Option, Some, None, Ok}
use Rattle.sky_base.specs.Val.{Val, Desc, list, ref, refs_to}
use Rattle.sky_base.specs.Tree.{Script}
use Rattle.sky_base.specs.Res.{End, St, Wait, one_of, all_of}
use Rattle.sky_base.specs.Eval.{World}
use Rattle.sky_base_law.specs.Sound.{Sound, SoundDesc}

-- what is read as data is sound, and so is what stands for a description that is made
pub record SoundWorld (w : World (List ℕ)) : Type 0 where
  pub reads : (b : List ℕ) (v : Val (List ℕ)) → w.reads b ≡ Ok v → Sound w.script v
  pub make : (d : Desc (List ℕ)) → SoundDesc w.script d → SoundDesc w.script (w.make d)

module _ {N : Type 0} (sc : Script) where
  -- an end whose value, if it has one, is sound
  abbrev pub SoundEnd : End N → Type 0
  SoundEnd End.goes = Unit {0}
  SoundEnd (End.got v) = Sound sc v
  SoundEnd (End.returned v) = Sound sc v
  SoundEnd (End.failed f) = Unit {0}

  -- such an end, where a run comes to one
  abbrev pub EndsSound : Option (End N × St N) → Type 0
  EndsSound None = Unit {0}
  EndsSound (Some e) = SoundEnd e.0

-- the value that the innermost form keeps while it waits
abbrev pub asked : {N : Type 0} → Wait N → Val N
asked (one_of p d) = ref d
asked (all_of ds) = list (refs_to ds)
