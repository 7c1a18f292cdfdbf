-- A value is told by its form over names and by what it refers to, in order: put those in, and it is there again.
use Rattle.std.proofs.Common.{◌≡◌, ℕ, List, [], ◌∷◌, ◌++◌, append_assoc, length, drop, refl, ap, sym, ◌∙◌, map}
use Rattle.std.proofs.lemmas.List.{append-nil, length-map, map-append}
use Rattle.std.proofs.Math.Seq.{drop-append_seam}
use Rattle.sky_base.specs.Name.{low, low_desc, low_pairs, low_vals, name}
use Rattle.sky_base.specs.Needed as n
use Rattle.sky_base.specs.See as s
use Rattle.sky_base.specs.Val.{Val, Vals, Pairs, Desc, null, truth, num, text, list, dict, fun, ref, no_vals, val, no_pairs, pair, call, out, input}
use Rattle.sky_base.specs.Val.{known, refs, vals_refs, pairs_refs}
use Rattle.sky_base_law.specs.Lower.{low_ref}
use Rattle.sky_base_law.specs.NamesLaws.{no_name}
use Rattle.sky_base_law.proofs.RefsLow.{refs_low, vals_refs_low, pairs_refs_low}
use Rattle.ciel_journal.specs.Entries.{low_names}
use Rattle.ciel_journal.specs.Job.{Digest, Job}
use Rattle.ciel_journal_job.specs.Inner.{inside, real_inner}
use Rattle.ciel_journal_job.specs.Real.{real_job}
use Rattle.ciel_journal_job.specs.Report.{Exact}

module _ (tag : Desc (List ℕ) → List ℕ) where
  abbrev Whole : Type 0
  Whole = Desc ⊥

  abbrev first : List Whole → Whole
  first [] = input []
  first (d ∷ ds) = d

  abbrev mutual
    fill : List Whole → Val (List ℕ) → Val ⊥
    fill ds null = null
    fill ds (truth b) = truth b
    fill ds (num z) = num z
    fill ds (text t) = text t
    fill ds (list vs) = list (fill_vals ds vs)
    fill ds (dict ps) = dict (fill_pairs ds ps)
    fill ds (fun f c) = fun f (fill_pairs ds c)
    fill ds (ref d) = ref (first ds)

    fill_vals : List Whole → Vals (List ℕ) → Vals ⊥
    fill_vals ds no_vals = no_vals
    fill_vals ds (val a vs) = val (fill ds a) (fill_vals (drop (length (refs a)) ds) vs)

    fill_pairs : List Whole → Pairs (List ℕ) → Pairs ⊥
    fill_pairs ds no_pairs = no_pairs
    fill_pairs ds (pair k a ps) = pair k (fill ds a) (fill_pairs (drop (length (refs a)) ds) ps)

  as_long : (a : Val ⊥) → length (refs (low no_name tag a)) ≡ length (refs a)
  as_long a = ap length (refs_low no_name tag a) ∙ length-map (refs a) (low_ref no_name tag)

  -- behind what one value refers to comes what the others do
  behind : (a : Val ⊥) (xs more : List Whole) → drop (length (refs (low no_name tag a))) ((refs a ++ xs) ++ more) ≡ xs ++ more
  behind a xs more =
      ap (λ k. drop k ((refs a ++ xs) ++ more)) (as_long a)
      ∙ (ap (drop (length (refs a))) (append_assoc (refs a) xs more) ∙ drop-append_seam (refs a) (xs ++ more))

  same_vals : (a b : Val ⊥) (us vs : Vals ⊥) → a ≡ b → us ≡ vs → val a us ≡ val b vs
  same_vals a b us vs e f = ap (λ z. val z us) e ∙ ap (val b) f

  same_pairs : (k : List ℕ) (a b : Val ⊥) (us vs : Pairs ⊥) → a ≡ b → us ≡ vs → pair k a us ≡ pair k b vs
  same_pairs k a b us vs e f = ap (λ z. pair k z us) e ∙ ap (pair k b) f

  mutual
    filled : (a : Val ⊥) (more : List Whole) → fill (refs a ++ more) (low no_name tag a) ≡ a
    filled null more = refl
    filled (truth b) more = refl
    filled (num z) more = refl
    filled (text t) more = refl
    filled (list vs) more = ap list (filled_vals vs more)
    filled (dict ps) more = ap dict (filled_pairs ps more)
    filled (fun f c) more = ap (fun f) (filled_pairs c more)
    filled (ref d) more = refl

    filled_vals : (vs : Vals ⊥) (more : List Whole) → fill_vals (vals_refs vs ++ more) (low_vals no_name tag vs) ≡ vs
    filled_vals no_vals more = refl
    filled_vals (val a vs) more =
        same_vals (fill ((refs a ++ vals_refs vs) ++ more) (low no_name tag a)) a
        (fill_vals (drop (length (refs (low no_name tag a))) ((refs a ++ vals_refs vs) ++ more)) (low_vals no_name tag vs)) vs
        (ap (λ ds. fill ds (low no_name tag a)) (append_assoc (refs a) (vals_refs vs) more) ∙ filled a (vals_refs vs ++ more))
        (ap (λ ds. fill_vals ds (low_vals no_name tag vs)) (behind a (vals_refs vs) more) ∙ filled_vals vs more)

    filled_pairs : (ps : Pairs ⊥) (more : List Whole) → fill_pairs (pairs_refs ps ++ more) (low_pairs no_name tag ps) ≡ ps
    filled_pairs no_pairs more = refl
    filled_pairs (pair k a ps) more =
        same_pairs k (fill ((refs a ++ pairs_refs ps) ++ more) (low no_name tag a)) a
        (fill_pairs (drop (length (refs (low no_name tag a))) ((refs a ++ pairs_refs ps) ++ more)) (low_pairs no_name tag ps)) ps
        (ap (λ ds. fill ds (low no_name tag a)) (append_assoc (refs a) (pairs_refs ps) more) ∙ filled a (pairs_refs ps ++ more))
        (ap (λ ds. fill_pairs ds (low_pairs no_name tag ps)) (behind a (pairs_refs ps) more) ∙ filled_pairs ps more)

  -- a description, again
  abbrev again : List Whole → Desc (List ℕ) → Whole
  again ds (call f c vs) = call f (fill_pairs ds c) (fill_vals (drop (length (pairs_refs c)) ds) vs)
  again ds (out x a n i) = out x (fill ds a) n i
  again ds (input k) = input k
  again ds (known b) = input []

  pairs_as_long : (c : Pairs ⊥) → length (pairs_refs (low_pairs no_name tag c)) ≡ length (pairs_refs c)
  pairs_as_long c = ap length (pairs_refs_low no_name tag c) ∙ length-map (pairs_refs c) (low_ref no_name tag)

  is_again : (d : Whole) → again (inside d) (low_desc no_name tag d) ≡ d
  is_again (call f c vs) =
      let left : fill_pairs (pairs_refs c ++ vals_refs vs) (low_pairs no_name tag c) ≡ c = filled_pairs c (vals_refs vs) in
      let rest : drop (length (pairs_refs (low_pairs no_name tag c))) (pairs_refs c ++ vals_refs vs) ≡ vals_refs vs ++ [] =
      ap (λ k. drop k (pairs_refs c ++ vals_refs vs)) (pairs_as_long c)
      ∙ (drop-append_seam (pairs_refs c) (vals_refs vs) ∙ sym (append-nil (vals_refs vs))) in
      ap (λ z. call f z (fill_vals (drop (length (pairs_refs (low_pairs no_name tag c))) (pairs_refs c ++ vals_refs vs))
      (low_vals no_name tag vs))) left ∙ ap (call f c) (ap (λ ds. fill_vals ds (low_vals no_name tag vs)) rest ∙ filled_vals vs [])
  is_again (out x a n i) =
      ap (λ z. out x z n i) (ap (λ ds. fill ds (low no_name tag a)) (sym (append-nil (refs a))) ∙ filled a [])
  is_again (input k) = refl
  is_again (known b) = absurd b

  -- the names of what stands inside, as they stand in it
  abbrev held : List (Desc (List ℕ)) → List (List ℕ)
  held [] = []
  held (call f c vs ∷ ds) = [] ∷ held ds
  held (out x a n i ∷ ds) = [] ∷ held ds
  held (input k ∷ ds) = [] ∷ held ds
  held (known b ∷ ds) = b ∷ held ds

  abbrev inside_names : Desc (List ℕ) → List (Desc (List ℕ))
  inside_names (call f c vs) = pairs_refs c ++ vals_refs vs
  inside_names (out x a n i) = refs a
  inside_names (input k) = []
  inside_names (known b) = []

  module _ (job : s.Job) (around : s.Around) (mark : s.Obj → Digest) (frozen : n.State → Digest) where
    abbrev the : Job Whole
    the = real_job job around (name no_name tag) mark frozen

    names_held : (ds : List Whole) → held (map (low_ref no_name tag) ds) ≡ low_names the ds
    names_held [] = refl
    names_held (d ∷ ds) = ap (λ z. name no_name tag d ∷ z) (names_held ds)

    inside_low : (d : Whole) → inside_names (low_desc no_name tag d) ≡ map (low_ref no_name tag) (inside d)
    inside_low (call f c vs) =
        ap (λ z. z ++ vals_refs (low_vals no_name tag vs)) (pairs_refs_low no_name tag c)
        ∙ (ap (λ z. map (low_ref no_name tag) (pairs_refs c) ++ z) (vals_refs_low no_name tag vs)
        ∙ sym (map-append (low_ref no_name tag) (pairs_refs c) (vals_refs vs)))
    inside_low (out x a n i) = refs_low no_name tag a
    inside_low (input k) = refl
    inside_low (known b) = absurd b

    own : (d : Whole) → tag (low_desc no_name tag d) ≡ name no_name tag d
    own (call f c vs) = refl
    own (out x a n i) = refl
    own (input k) = refl
    own (known b) = absurd b

    within : (d e : Whole) → low_desc no_name tag d ≡ low_desc no_name tag e → low_names the (inside d) ≡ low_names the (inside e)
    within d e q =
        sym (names_held (inside d)) ∙ (ap held (sym (inside_low d))
        ∙ (ap (λ z. held (inside_names z)) q ∙ (ap held (inside_low e) ∙ names_held (inside e))))

    only : (d e : Whole) → low_desc no_name tag d ≡ low_desc no_name tag e → inside d ≡ inside e → d ≡ e
    only d e q i =
        sym (is_again d) ∙ (ap (λ z. again z (low_desc no_name tag d)) i ∙ (ap (again (inside e)) q ∙ is_again e))

    pub real_exact : Exact the (real_inner job around) (low_desc no_name tag) tag
    real_exact = record { own = own; within = within; only = only }
