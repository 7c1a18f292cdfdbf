-- What a run over numbers refers to is held.
use Rattle.std.proofs.Common.{◌≡◌, ℕ, List, [], ◌∷◌, Option, Some, None, ◌⊎◌, inl, inr, refl, sym, subst}
use Rattle.sky_base.specs.Val.{Val, Vals, Pairs, Desc, null, truth, num, text, list, dict, fun, ref, no_vals, val, no_pairs, pair, call, out, input}
use Rattle.sky_base.specs.Val.{known}
use Rattle.sky_base.specs.Tree.{Script}
use Rattle.sky_base.specs.Res.{Object, Res, Fin, Tell, Ask}
use Rattle.sky_base.specs.Eval.{World}
use Rattle.sky_base.specs.Read.{refs_of}
use Rattle.sky_base_law.specs.Tasks.{In, Each}
use Rattle.sky_base_law.specs.Sound.{RefsOver, ValsOver, PairsOver, DescOver, SoundOver}
use Rattle.sky_base_law.proofs.FineLaw.{Fine, ObjectOk, EndOk}
use Rattle.sky_base_law.proofs.WrittenLaw.{any_made}
use Rattle.sky_base_known.proofs.Learn.{Learned, learned_new}
use Rattle.sky_base_known.specs.Walk.{Row, is_held, Seen, seen_one, Stop, Walked, learn_to, on_learned, on_seen, look, walk}

-- ---- more names may stand inside

module _ {N : Type 0} (sc : Script) (K L : N → Type 0) (more : (b : N) → K b → L b) where
  mutual
    pub refs_over : (v : Val N) → RefsOver K sc v → RefsOver L sc v
    refs_over null h = tt
    refs_over (truth b) h = tt
    refs_over (num z) h = tt
    refs_over (text t) h = tt
    refs_over (list vs) h = vals_over vs h
    refs_over (dict ps) h = pairs_over ps h
    refs_over (fun f c) h = (h.0, pairs_over c h.1)
    refs_over (ref d) h = desc_over d h

    pub vals_over : (vs : Vals N) → ValsOver K sc vs → ValsOver L sc vs
    vals_over no_vals h = tt
    vals_over (val v vs) h = (refs_over v h.0, vals_over vs h.1)

    pub pairs_over : (ps : Pairs N) → PairsOver K sc ps → PairsOver L sc ps
    pairs_over no_pairs h = tt
    pairs_over (pair k v ps) h = (refs_over v h.0, pairs_over ps h.1)

    pub desc_over : (d : Desc N) → DescOver K sc d → DescOver L sc d
    desc_over (call f c vs) h = (h.0, h.1, vals_over vs h.2, pairs_over c h.3, h.4)
    desc_over (out x v n i) h = (h.0, h.1, refs_over v h.2, h.3, h.4)
    desc_over (input k) h = h
    desc_over (known b) h = more b h

  pub sound_over : (v : Val N) → SoundOver K sc v → SoundOver L sc v
  sound_over v h = (h.0, refs_over v h.1)

-- ---- what a run comes to

module _ (w : World (List ℕ)) (P : Val (List ℕ) → Type 0) (Q : Row → Type 0) (V : Pairs (List ℕ) → Type 0)
    (knows : Row → Option (Object (List ℕ))) (known_ok : (d : Row) (o : Object (List ℕ)) → Q d → knows d ≡ Some o → ObjectOk w P Q o) where
  abbrev pub StopOk : Stop → Type 0
  StopOk (Stop.ended e st) = EndOk w P Q e
  StopOk (Stop.waits e) = Q e
  StopOk (Stop.full e) = Q e

  pub record WalkOk (rows : List Row) (done : Walked) : Type 0 where
    pub rows_ok : (e : Row) → In e done.rows → In e rows ⊎ Q e
    pub stop_ok : StopOk done.stop

  abbrev SeenOk : Seen → Type 0
  SeenOk (Seen.all os) = Each (ObjectOk w P Q) os
  SeenOk (Seen.lacks e) = Q e

  seen_one_ok : (d : Row) (x : Option (Object (List ℕ))) (s : Seen) → Q d → knows d ≡ x → SeenOk s → SeenOk (seen_one x d s)
  seen_one_ok d None s q e h = q
  seen_one_ok d (Some o) (Seen.all os) q e h = (known_ok d o q e, h)
  seen_one_ok d (Some o) (Seen.lacks c) q e h = h

  look_ok : (ds : List Row) → Each Q ds → SeenOk (look knows ds)
  look_ok [] h = tt
  look_ok (d ∷ ds) h = seen_one_ok d (knows d) (look knows ds) h.0 refl (look_ok ds h.1)

  told_ok : (rows : List Row) (d : Row) (h : Res (List ℕ)) (x : Option (List Row)) → Q d → ((more : List Row) → WalkOk more (walk knows more h))
      → Learned rows d x → WalkOk rows (on_learned x rows d (λ more. walk knows more h))
  told_ok rows d h None q next from = record { rows_ok = λ e i. inl i; stop_ok = q }
  told_ok rows d h (Some more) q next from =
      record { rows_ok = λ e i. go e ((next more).rows_ok e i); stop_ok = (next more).stop_ok }
    where
      either : (e : Row) → In e rows ⊎ (e ≡ d) → In e rows ⊎ Q e
      either e (inl i) = inl i
      either e (inr g) = inr (subst Q (sym g) q)

      go : (e : Row) → In e more ⊎ Q e → In e rows ⊎ Q e
      go e (inl i) = either e (from e i)
      go e (inr m) = inr m

  asked_ok : (rows : List Row) (k : List (Object (List ℕ)) → Res (List ℕ)) (s : Seen)
      → ((os : List (Object (List ℕ))) → Each (ObjectOk w P Q) os → WalkOk rows (walk knows rows (k os))) → SeenOk s
      → WalkOk rows (on_seen s rows (λ os. walk knows rows (k os)))
  asked_ok rows k (Seen.all os) next h = next os h
  asked_ok rows k (Seen.lacks e) next h = record { rows_ok = λ c i. inl i; stop_ok = h }

  asked : ((d : Row) → P (ref d) → Q d) → (ds : List Row) → Each (λ d. P (ref d)) ds → Each Q ds
  asked to [] h = tt
  asked to (d ∷ ds) h = (to d h.0, asked to ds h.1)

  pub walk_ok : ((d : Row) → P (ref d) → Q d) → (q : Res (List ℕ)) (d : ℕ) (rows : List Row) → Fine w P Q V any_made d q
      → WalkOk rows (walk knows rows q)
  walk_ok to (Fin e st) d rows h = record { rows_ok = λ c i. inl i; stop_ok = h.0 }
  walk_ok to (Tell o r) d rows h =
      told_ok rows o r (learn_to rows o) h.0 (λ more. walk_ok to r d more (h.1 tt)) (learned_new (is_held o rows) rows o)
  walk_ok to (Ask q fr st k) d rows h =
      asked_ok rows k (look knows (refs_of q)) (λ os each. walk_ok to (k os) d rows (h.1 os each)) (look_ok (refs_of q) (asked to (refs_of q) h.0.0))
