-- Where the names come from that a step leaves behind.
use Rattle.std.specs.Prelude.{◌≡◌, ℕ, List, [], ◌∷◌, ◌++◌, map, flat_map, ◌⊎◌}
use Rattle.sky_base.specs.Val.{Desc, call, out, input, known, refs, vals_refs, pairs_refs}
use Rattle.sky_base.specs.Name.{digested}
use Rattle.sky_base.specs.Res.{Object, object_refs}
use Rattle.sky_base.specs.ObjectView.{object_view}
use Rattle.sky_base_law.specs.Tasks.{In, Each}
use Rattle.sky_state.specs.Pending.{all_refs}
use Rattle.sky_state.specs.Stand.{Stand}
use Rattle.sky_machine_resume.specs.Comes.{with_name}
use Rattle.sky_machine.specs.Steps.{Spawned}
use Rattle.sky_machine.specs.declared.step.Step.{Step}

module _ {N : Type 0} where
  -- what stands inside a description
  abbrev pub inside_refs : Desc N → List (Desc N)
  inside_refs (call f c vs) = pairs_refs c ++ vals_refs vs
  inside_refs (out x a n i) = refs a
  inside_refs (input k) = []
  inside_refs (known b) = []

-- the state had this reference, or one of the objects has it
abbrev pub CameWith : Stand (List ℕ) → List (Object (List ℕ)) → Desc (List ℕ) → Type 0
CameWith old os d = In d (all_refs old) ⊎ In d (flat_map object_refs os)

module _ (digest : List ℕ → List ℕ) (base : Desc (List ℕ) → Type 0) where
  -- a reference that there was, or one by its name to a description that was made
  abbrev pub Known : List (Desc (List ℕ)) → Desc (List ℕ) → Type 0
  Known made d = base d ⊎ In d (map (λ m. known (digested digest m)) made)

  -- the end refers to what is known alone, and so does the state at a wait
  abbrev pub LeavesKnown : List (Desc (List ℕ)) → Step → Stand (List ℕ) → Type 0
  LeavesKnown made (Step.Ended o) new = Each (Known made) (object_refs (object_view o))
  LeavesKnown made Step.Waits new = Each (Known made) (all_refs new)
  LeavesKnown made (Step.Shown s) new = Unit {0}

  -- what was spawned grew by what was made, each with its name; what is made refers to what was known before it was made
  pub record KnowsNames (s : Step) (new : Stand (List ℕ)) (before after : Spawned) : Type 0 where
    pub made : List (Desc (List ℕ))
    pub grew : after ≡ before ++ map (with_name digest) made
    pub within : (earlier later : List (Desc (List ℕ))) (m : Desc (List ℕ)) → made ≡ earlier ++ m ∷ later → Each (Known earlier) (inside_refs m)
    pub leaves : LeavesKnown made s new
