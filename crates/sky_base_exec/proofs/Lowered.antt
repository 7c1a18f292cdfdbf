-- What an executor task makes over names is what is seen of its outputs.
use Rattle.std.proofs.Common.{◌≡◌, ℕ, zero, suc, ◌+◌, List, [], ◌∷◌, length, map, Option, Some, Result, Ok, Err, inl, inr, refl, sym, ap, ap₂, ◌∙◌}
use Rattle.std.proofs.lemmas.List.{length-map}
use Rattle.sky_base.specs.Val as v
use Rattle.sky_base.specs.Val.{null, truth, num, text, list, dict, fun, ref, no_vals, val, no_pairs, pair, out, refs}
use Rattle.sky_base.specs.Name.{low, low_vals, low_pairs}
use Rattle.sky_base.specs.Res.{Object}
use Rattle.sky_base.specs.See as m
use Rattle.sky_base.specs.See.{Val, Vals, Desc, Obj, Job, Around, Gathered, gather, gather_on, gather_one, as_bytes, written, executed_on, replaced}
use Rattle.sky_base.specs.See.{vals_replaced, pairs_replaced, see}
use Rattle.sky_base.specs.declared.fault.FaultKind.{FaultKind}
use Rattle.sky_base.specs.declared.fault.Fault.{Fault}
use Rattle.sky_base_law.specs.Lower.{low_ref, low_obj}
use Rattle.sky_base_law.specs.NamesLaws.{Tag, no_name}
use Rattle.sky_base_law.proofs.RefsLow.{refs_low}
use Rattle.sky_base_known.specs.Walk.{Row}
use Rattle.sky_base_waves.specs.Seen.{Sees, SeenAsKnown}
use Rattle.sky_base_exec.specs.Perform.{bytes_of, bytes_seen, one_more, all_bytes, in_slot, output_at, output_of, without_place, made_of, made}

-- ---- slots take no notice of what they replace

module _ (tag : Tag) where
  same_refs : (a : Val) → length (refs (low no_name tag a)) ≡ length (refs a)
  same_refs a = ap length (refs_low no_name tag a) ∙ length-map (refs a) (low_ref no_name tag)

  mutual
    slots_low : (i : ℕ) (a : Val) → replaced in_slot i (low no_name tag a) ≡ replaced in_slot i a
    slots_low i null = refl
    slots_low i (truth b) = refl
    slots_low i (num z) = refl
    slots_low i (text t) = refl
    slots_low i (list vs) = ap list (vals_slots_low i vs)
    slots_low i (dict ps) = ap dict (pairs_slots_low i ps)
    slots_low i (fun f c) = ap (fun f) (pairs_slots_low i c)
    slots_low i (ref d) = refl

    vals_slots_low : (i : ℕ) (vs : Vals) → vals_replaced in_slot i (low_vals no_name tag vs) ≡ vals_replaced in_slot i vs
    vals_slots_low i no_vals = refl
    vals_slots_low i (val a vs) =
        ap₂ val (slots_low i a) (ap (λ n. vals_replaced in_slot (i + n) (low_vals no_name tag vs)) (same_refs a)
        ∙ vals_slots_low (i + length (refs a)) vs)

    pairs_slots_low : (i : ℕ) (ps : v.Pairs ⊥) → pairs_replaced in_slot i (low_pairs no_name tag ps) ≡ pairs_replaced in_slot i ps
    pairs_slots_low i no_pairs = refl
    pairs_slots_low i (pair k a ps) =
        ap₂ (pair k) (slots_low i a) (ap (λ n. pairs_replaced in_slot (i + n) (low_pairs no_name tag ps)) (same_refs a)
        ∙ pairs_slots_low (i + length (refs a)) ps)

  output_low : (bs : List (List ℕ)) (i : ℕ) → low_obj no_name tag (m.output_at bs i) ≡ output_at bs i
  output_low [] i = refl
  output_low (b ∷ bs) zero = refl
  output_low (b ∷ bs) (suc i) = output_low bs i

  run_output_low : (r : Result (List (List ℕ)) FaultKind) (i : ℕ) → low_obj no_name tag (m.run_output r i) ≡ output_of (without_place r) i
  run_output_low (Ok bs) i = output_low bs i
  run_output_low (Err k) i = refl

abbrev gathered : Result (List (List ℕ)) Fault → Gathered (List ℕ)
gathered (Ok bs) = Gathered.all bs
gathered (Err f) = Gathered.faulty f

gathered_more : (r : Result (List ℕ) Fault) (rest : Result (List (List ℕ)) Fault) → gather_on r (gathered rest) ≡ gathered (one_more r rest)
gathered_more (Err f) (Err e) = refl
gathered_more (Err f) (Ok bs) = refl
gathered_more (Ok b) (Err e) = refl
gathered_more (Ok b) (Ok bs) = refl

module _ (job : Job) (around : Around) (writes : v.Val (List ℕ) → Option (List ℕ)) (tag : Tag)
    (writes_alike : (a : Val) → writes (low no_name tag a) ≡ around.writes a) where
  bytes_low : (o : Obj) → bytes_of writes (low_obj no_name tag o) ≡ as_bytes around o
  bytes_low (Object.bytes b) = refl
  bytes_low (Object.data_of a) = ap written (writes_alike a)
  bytes_low (Object.fault f) = refl

  module _ (n : ℕ) (knows : Row → Option (Object (List ℕ))) where
    gather_is : (ds : List Desc) → SeenAsKnown job around tag n knows ds → gather (see job around n) (as_bytes around) ds
        ≡ gathered (all_bytes writes knows (map (low_ref no_name tag) ds))
    gather_is [] s = refl
    gather_is (d ∷ ds) s = go (s d (inl refl)) (gather_is ds (λ c i. s c (inr i)))
      where
        rest : Result (List (List ℕ)) Fault
        rest = all_bytes writes knows (map (low_ref no_name tag) ds)

        go : (o : Object (List ℕ)) × (knows (low_ref no_name tag d) ≡ Some o) × Sees job around tag n d o
            → gather (see job around n) (as_bytes around) ds ≡ gathered rest → gather (see job around n) (as_bytes around) (d ∷ ds)
            ≡ gathered (one_more (bytes_seen writes (knows (low_ref no_name tag d))) rest)
        go (o, k, (p, e, l)) h =
            ap₂ (λ x r. gather_one x (as_bytes around) r) e h ∙ ap (λ x. gather_on x (gathered rest)) (sym (bytes_low p))
            ∙ gathered_more (bytes_of writes (low_obj no_name tag p)) rest
            ∙ ap (λ x. gathered (one_more x rest)) (ap (bytes_of writes) l ∙ ap (bytes_seen writes) (sym k))

    executed_is : (x : List ℕ) (a : Val) (c i : ℕ) (r : Result (List (List ℕ)) Fault) → (p : Obj)
        × (executed_on around x a c i (gathered r) ≡ Some p)
        × (low_obj no_name tag p ≡ output_of (made_of around.runs x (low no_name tag a) c r) i)
    executed_is x a c i (Err f) = (Object.fault f, refl, refl)
    executed_is x a c i (Ok bs) = (
      m.run_output (around.runs x (replaced in_slot 0 a) bs c) i,
      refl,
      run_output_low tag (around.runs x (replaced in_slot 0 a) bs c) i
          ∙ ap (λ s. output_of (without_place (around.runs x s bs c)) i) (sym (slots_low tag 0 a)),
    )

    -- so each output is seen one step later as what the task makes
    pub sees_out : (x : List ℕ) (a : Val) (c i : ℕ) → SeenAsKnown job around tag n knows (refs a)
        → Sees job around tag (suc n) (out x a c i) (output_of (made around.runs writes knows x (low no_name tag a) c) i)
    unfolding see
    sees_out x a c i s = go (executed_is x a c i collected)
      where
        collected : Result (List (List ℕ)) Fault
        collected = all_bytes writes knows (map (low_ref no_name tag) (refs a))

        go : (p : Obj) × (executed_on around x a c i (gathered collected) ≡ Some p)
            × (low_obj no_name tag p ≡ output_of (made_of around.runs x (low no_name tag a) c collected) i)
            → Sees job around tag (suc n) (out x a c i) (output_of (made around.runs writes knows x (low no_name tag a) c) i)
        go (p, e, l) = (
          p,
          ap (executed_on around x a c i) (gather_is (refs a) s) ∙ e,
          l
              ∙ ap (λ ds. output_of (made_of around.runs x (low no_name tag a) c (all_bytes writes knows ds)) i)
              (sym (refs_low no_name tag a)),
        )
