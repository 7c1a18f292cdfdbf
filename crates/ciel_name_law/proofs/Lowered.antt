-- What a run makes can be spelled, with names in place of the descriptions that it refers to.
use Rattle.std.proofs.Common.{◌≡◌, ℕ, List, [], ◌∷◌, map, length, sym, subst, ◌⊎◌}
use Rattle.sky_base.specs.Name.{low, low_vals, low_pairs, low_desc, name}
use Rattle.sky_base.specs.Needed.{Task, WaitOf, Needed}
use Rattle.sky_base.specs.KitView.{Gives}
use Rattle.sky_base.specs.See as see
use Rattle.sky_base.specs.Tree.{Script}
use Rattle.sky_base.specs.Val.{Val, Vals, Pairs, Desc, null, truth, num, text, list, dict, fun, ref, no_vals, val, no_pairs, pair, call, out, input}
use Rattle.sky_base.specs.Val.{known, refs, vals_refs, pairs_refs, Rising, RisingFrom}
use Rattle.sky_base_law.specs.Lower.{low_ref}
use Rattle.sky_base_law.specs.NamesLaws.{Tag, no_name}
use Rattle.sky_base_law.specs.Sound.{SoundDesc, SoundReads}
use Rattle.sky_base_law.specs.Tasks.{In, Each, acts_of, made_in}
use Rattle.sky_base_law.specs.Typed.{EachTyped, Typed, TypedDesc, TypedJob, ValsTyped}
use Rattle.sky_base_law.proofs.RefsLow.{refs_low, vals_refs_low, pairs_refs_low}
use Rattle.sky_base_law.proofs.SoundJobs.{made_sound, needed_sound, wait_sound}
use Rattle.sky_base_law.proofs.SoundLow.{sound_desc_low}
use Rattle.sky_base_law.proofs.TypedJobs.{made_typed, needed_typed, waits_typed}
use Rattle.sky_parse.specs.Source.{IsScript}
use Rattle.ciel_json.specs.Around.{json_around}
use Rattle.ciel_json.proofs.ReadLaw.{json_reads_sound}
use Rattle.ciel_name.specs.Laws.{SpelledDesc}
use Rattle.ciel_name.specs.Spelled.{IsName}
use Rattle.ciel_name_law.specs.Laws.{OfBytes, named}
use Rattle.ciel_name_law.specs.Typed.{DescOverNames, GivesNames, NamedUseNothing}
use Rattle.ciel_name_law.proofs.Bare.{sound_spelled}
use Rattle.ciel_name_law.proofs.JsonTyped.{json_reads_typed}
use Rattle.ciel_name_law.proofs.Made.{script_uses}
use Rattle.ciel_name_law.proofs.Scripts.{script_typed}

abbrev NoName : ⊥ → Type 0
NoName n = Unit {0}

abbrev Any : List ℕ → Type 0
Any n = Unit {0}

module _ (tag : Tag) where
  -- ---- types stay

  rising_from : (k : List ℕ) (ps : Pairs ⊥) → RisingFrom k ps → RisingFrom k (low_pairs no_name tag ps)
  rising_from k no_pairs r = tt
  rising_from k (pair l a ps) r = (r.0, rising_from l ps r.1)

  rising_low : (ps : Pairs ⊥) → Rising ps → Rising (low_pairs no_name tag ps)
  rising_low no_pairs r = tt
  rising_low (pair k a ps) r = rising_from k ps r

  mutual
    typed_low : (a : Val ⊥) → Typed a → Typed (low no_name tag a)
    typed_low null h = tt
    typed_low (truth b) h = tt
    typed_low (num z) h = h
    typed_low (text t) h = h
    typed_low (list vs) h = vals_typed_low vs h
    typed_low (dict ps) h = (pairs_typed_low ps h.0, rising_low ps h.1)
    typed_low (fun f c) h = (h.0, pairs_typed_low c h.1, rising_low c h.2)
    typed_low (ref d) h = tt

    vals_typed_low : (vs : Vals ⊥) → ValsTyped NoName vs → ValsTyped Any (low_vals no_name tag vs)
    vals_typed_low no_vals h = tt
    vals_typed_low (val a vs) h = (typed_low a h.0, vals_typed_low vs h.1)

    pairs_typed_low : (ps : Pairs ⊥) → EachTyped NoName ps → EachTyped Any (low_pairs no_name tag ps)
    pairs_typed_low no_pairs h = tt
    pairs_typed_low (pair k a ps) h = (h.0, typed_low a h.1, pairs_typed_low ps h.2)

  typed_desc_low : (d : Desc ⊥) → TypedDesc d → TypedDesc (low_desc no_name tag d)
  typed_desc_low (call f c vs) h = (h.0, pairs_typed_low c h.1, rising_low c h.2, vals_typed_low vs h.3)
  typed_desc_low (out x a n i) h = (h.0, typed_low a h.1)
  typed_desc_low (input k) h = h
  typed_desc_low (known b) h = absurd b

  -- ---- all that is referred to are names

  module _ (gives : GivesNames tag) where
    name_given : (d : Desc ⊥) → (length (name no_name tag d) ≡ 20) ⊎ (length (name no_name tag d) ≡ 32)
    name_given (call f c vs) = gives (call f (low_pairs no_name tag c) (low_vals no_name tag vs))
    name_given (out x a n i) = gives (out x (low no_name tag a) n i)
    name_given (input k) = gives (input k)
    name_given (known b) = absurd b

    each_name : (ds : List (Desc ⊥)) → Each IsName (map (low_ref no_name tag) ds)
    each_name [] = tt
    each_name (d ∷ ds) = (name_given d, each_name ds)

    over_names : (d : Desc ⊥) → DescOverNames (low_desc no_name tag d)
    over_names (call f c vs) = (
      subst (Each IsName) (sym (pairs_refs_low no_name tag c)) (each_name (pairs_refs c)),
      subst (Each IsName) (sym (vals_refs_low no_name tag vs)) (each_name (vals_refs vs)),
    )
    over_names (out x a n i) = subst (Each IsName) (sym (refs_low no_name tag a)) (each_name (refs a))
    over_names (input k) = tt
    over_names (known b) = absurd b

    spelled_low : (sc : Script) → NamedUseNothing sc.funs → (d : Desc ⊥) → SoundDesc sc d → TypedDesc d → SpelledDesc (named tag d)
    spelled_low sc bare d s t =
        sound_spelled sc bare (low_desc no_name tag d) (typed_desc_low d t) (over_names d) (sound_desc_low no_name tag sc d s)

    -- ---- the descriptions of a run

    module _ (job : see.Job) (gives_of : Gives) (of_bytes : OfBytes job) where
      abbrev around : see.Around
      around = json_around gives_of

      sound : SoundReads job.script around
      sound = json_reads_sound job.script gives_of

      start : TypedJob job around
      start =
          record { script = script_typed of_bytes.0 of_bytes.1 job.script of_bytes.2; reads = json_reads_typed gives_of; sound = sound }

      bare : NamedUseNothing job.script.funs
      bare = go of_bytes.2
        where
          go : IsScript of_bytes.0 of_bytes.1 job.script → NamedUseNothing job.script.funs
          go (ts, tops, found, valid, is) = subst (λ (sc : Script). NamedUseNothing sc.funs) (sym is) (script_uses of_bytes.1 tops)

      pub made_spelled : (n : ℕ) (t : Task) (d : see.Desc) → Needed job around t → In d (made_in (acts_of job around n t)) → SpelledDesc (named tag d)
      made_spelled n t d need i =
          spelled_low job.script bare d (made_sound job around sound n t d (needed_sound job around sound t need) i)
          (made_typed job around start n t d need i)

      each_spelled : (ds : List see.Desc) → Each (SoundDesc job.script) ds → Each TypedDesc ds → Each (λ d. SpelledDesc (named tag d)) ds
      each_spelled [] s t = tt
      each_spelled (d ∷ ds) s t = (spelled_low job.script bare d s.0 t.0, each_spelled ds s.1 t.1)

      pub waited_spelled : (t : Task) (j : ℕ) (ds : List see.Desc) → Needed job around t → WaitOf job around t j ds
          → Each (λ d. SpelledDesc (named tag d)) ds
      waited_spelled t j ds need wait =
          each_spelled ds (wait_sound job around sound t j ds (needed_sound job around sound t need) wait)
          (waits_typed job around start t j ds need wait)

      pub needed_spelled : (d : see.Desc) → Needed job around (Task.of d) → SpelledDesc (named tag d)
      needed_spelled d need =
          spelled_low job.script bare d (needed_sound job around sound (Task.of d) need) (needed_typed job around start (Task.of d) need)
