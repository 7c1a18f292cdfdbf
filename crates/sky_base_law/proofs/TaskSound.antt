-- All that a needed task makes or waits for has its task; data without functions and references is sound.
use Rattle.std.proofs.Common.{◌≡◌, ℕ, zero, suc, ◌-◌, List, [], ◌∷◌, Ok, Err, true, inl, inr, refl}
use Rattle.sky_base.specs.Val.{null, truth, num, text, list, dict, fun, ref, no_vals, val, no_pairs, pair, is_plain, vals_plain, pairs_plain, Pairs}
use Rattle.sky_base.specs.Op.{Answer}
use Rattle.sky_base.specs.Tree.{Script}
use Rattle.sky_base.specs.Read.{Act, made, waited}
use Rattle.sky_base.specs.See.{Val, Vals, Desc, Job, Around}
use Rattle.sky_base.specs.Needed.{Task, task_of, WaitOf, Needed}
use Rattle.sky_base_law.specs.Tasks.{In, maker, after_wait, made_before, made_in, acts_of, made_between, made_after}
use Rattle.sky_base.specs.Kept.{Kept}
use Rattle.sky_base_law.specs.Sound.{RefsSound, ValsSound, PairsSound, SoundDesc, SoundRead, SoundReads}
use Rattle.sky_base.proofs.Exact.{both_first, both_second}
use Rattle.sky_base_law.proofs.TaskOutputs.{in_each}
use Rattle.sky_base_law.proofs.SoundJobs.{made_sound, wait_sound, needed_sound, sound_maker}

module _ (sc : Script) where
  mutual
    -- a value without functions and references refers to nothing
    pub plain_sound : (a : Val) → is_plain a ≡ true → RefsSound sc a
    plain_sound null e = tt
    plain_sound (truth b) e = tt
    plain_sound (num z) e = tt
    plain_sound (text t) e = tt
    plain_sound (list vs) e = plain_vals vs e
    plain_sound (dict ps) e = plain_pairs ps e
    plain_sound (fun f c) e = absurd cc
    plain_sound (ref d) e = absurd cc

    plain_vals : (vs : Vals) → vals_plain vs ≡ true → ValsSound sc vs
    plain_vals no_vals e = tt
    plain_vals (val a vs) e =
        (plain_sound a (both_first (is_plain a) (vals_plain vs) e), plain_vals vs (both_second (is_plain a) (vals_plain vs) e))

    plain_pairs : (ps : Pairs ⊥) → pairs_plain ps ≡ true → PairsSound sc ps
    plain_pairs no_pairs e = tt
    plain_pairs (pair k a ps) e =
        (plain_sound a (both_first (is_plain a) (pairs_plain ps) e), plain_pairs ps (both_second (is_plain a) (pairs_plain ps) e))

  -- where all data is plain and keeps the limits, what is read is sound
  pub plain_reads : (around : Around) → ((b : List ℕ) (a : Val) → around.reads b ≡ Ok a → Kept a × (is_plain a ≡ true)) → SoundReads sc around
  plain_reads around h b = go (around.reads b) (h b)
    where
      go : (x : Answer ⊥) → ((a : Val) → x ≡ Ok a → Kept a × (is_plain a ≡ true)) → SoundRead sc x
      go (Ok a) i = ((i a refl).0, plain_sound a (i a refl).1)
      go (Err k) i = tt

-- ---- what is made between two waits is among all that is made

before_in : (d : Desc) (k : ℕ) (done : List (Act ⊥)) → In d (made_before k done) → In d (made_in done)
before_in d zero done h = absurd h
before_in d (suc k) [] h = absurd h
before_in d (suc k) (made x ∷ done) (inl e) = inl e
before_in d (suc k) (made x ∷ done) (inr h) = inr (before_in d (suc k) done h)
before_in d (suc k) (waited ds ∷ done) h = before_in d k done h

after_in : (d : Desc) (j : ℕ) (done : List (Act ⊥)) → In d (made_in (after_wait j done)) → In d (made_in done)
after_in d zero done h = h
after_in d (suc j) [] h = h
after_in d (suc j) (made x ∷ done) h = inr (after_in d (suc j) done h)
after_in d (suc j) (waited ds ∷ done) h = after_in d j done h

module _ (job : Job) (around : Around) where
  pub between_in : (n : ℕ) (t : Task) (j i : ℕ) (d : Desc) → In d (made_between job around n t j i) → In d (made_in (acts_of job around n t))
  between_in n t j i d h =
      after_in d j (acts_of job around n t) (before_in d (i - j) (after_wait j (acts_of job around n t)) h)

  pub later_in : (n : ℕ) (t : Task) (j : ℕ) (d : Desc) → In d (made_after job around n t j) → In d (made_in (acts_of job around n t))
  later_in n t j d h = after_in d j (acts_of job around n t) h

  module _ (reads : SoundReads job.script around) where
    -- each description that a needed task makes is of the task that it names: its index is below the number of outputs
    pub made_maker : (n : ℕ) (t : Task) (d : Desc) → Needed job around t → In d (made_in (acts_of job around n t)) → maker d ≡ task_of d
    made_maker n t d need i = sound_maker job.script d (made_sound job around reads n t d (needed_sound job around reads t need) i)

    -- and so is each that it waits for
    pub waited_maker : (t : Task) (j : ℕ) (ds : List Desc) (d : Desc) → Needed job around t → WaitOf job around t j ds → In d ds → maker d ≡ task_of d
    waited_maker t j ds d need wait i =
        sound_maker job.script d (in_each (SoundDesc job.script) ds d
        (wait_sound job around reads t j ds (needed_sound job around reads t need) wait) i)
