-- What a run over numbers shows of the run over whole descriptions, where what is known is what is seen.
use Rattle.std.proofs.Common.{◌≡◌, ℕ, zero, suc, List, [], ◌∷◌, map, Option, Some, None, ◌⊎◌, inl, inr, refl, sym, ap, ap₂, subst, ◌∙◌}
use Rattle.sky_base.specs.Name.{low_desc}
use Rattle.sky_base.specs.Res.{Object, End, St, Wait, one_of, all_of, Res, Fin, Tell, Ask}
use Rattle.sky_base.specs.Read.{ended, Halt, refs_of, see_all, joined, on_seen, halts_seen, acts_seen, outcome, halt, acts}
use Rattle.sky_base_law.specs.Lower.{low_ref, low_obj, low_end, low_st, low_wait}
use Rattle.sky_base.specs.See.{Desc, Obj, Job, Around, see}
use Rattle.sky_base_law.specs.Tasks.{In, made_in}
use Rattle.sky_base_law.proofs.LowLaw.{Rel}
use Rattle.sky_plain.specs.Stand.{spell}
use Rattle.sky_base_waves.specs.Seen.{Sees}
use Rattle.sky_base_known.proofs.Learn.{Learned, learned_new}
use Rattle.sky_base_known.specs.Walk as w
use Rattle.sky_base_known.specs.Walk.{Row, is_held, Seen, seen_one, Stop, Walked, learn_to, on_learned, look, walk}

module _ (job : Job) (around : Around) (tag : Row → List ℕ) (n : ℕ) where
  -- the run makes what is lowered to this
  abbrev pub MadeBy : Res ⊥ → Row → Type 0
  MadeBy r e = (d : Desc) × In d (made_in (acts (see job around n) r)) × (low_desc spell tag d ≡ e)

  abbrev pub StopIs : Res ⊥ → Stop → Type 0
  StopIs r (Stop.ended e st) = (x : End ⊥) × (y : St ⊥) × (outcome (see job around n) r ≡ ended x y) × (low_end spell tag x ≡ e)
      × (low_st spell tag y ≡ st)
  StopIs r (Stop.waits e) = (j : ℕ) × (h : Halt ⊥) × (d : Desc) × (halt (see job around n) j r ≡ Some h) × In d (refs_of h.wait)
      × (low_ref spell tag d ≡ e)
  StopIs r (Stop.full e) = MadeBy r e

  pub record Sim (r : Res ⊥) (rows : List Row) (done : Walked) : Type 0 where
    pub rows_from : (e : Row) → In e done.rows → In e rows ⊎ MadeBy r e
    pub stop_is : StopIs r done.stop

  module _ (knows : Row → Option (Object (List ℕ)))
      (right : (d : Desc) (o : Object (List ℕ)) → knows (low_ref spell tag d) ≡ Some o → Sees job around tag n d o) where
    abbrev Looked : List Desc → Seen → Type 0
    Looked ds (Seen.all os) = (ps : List Obj) × (see_all (see job around n) ds ≡ Some ps) × (map (low_obj spell tag) ps ≡ os)
    Looked ds (Seen.lacks e) = (d : Desc) × In d ds × (low_ref spell tag d ≡ e)

    looked_more : (d : Desc) (ds : List Desc) (x : Option (Object (List ℕ))) (s : Seen) → knows (low_ref spell tag d) ≡ x → Looked ds s
        → Looked (d ∷ ds) (seen_one x (low_ref spell tag d) s)
    looked_more d ds None s e h = (d, inl refl, refl)
    looked_more d ds (Some o) (Seen.lacks c) e (b, i, g) = (b, inr i, g)
    looked_more d ds (Some o) (Seen.all os) e (ps, g, h) = more (right d o e)
      where
        more : Sees job around tag n d o → Looked (d ∷ ds) (Seen.all (o ∷ os))
        more (p, f, l) = (p ∷ ps, ap₂ joined f g, ap₂ (λ a b. a ∷ b) l h)

    looked : (ds : List Desc) → Looked ds (look knows (map (low_ref spell tag) ds))
    looked [] = ([], refl, refl)
    looked (d ∷ ds) = looked_more d ds (knows (low_ref spell tag d)) (look knows (map (low_ref spell tag) ds)) refl (looked ds)

    refs_low : (q : Wait ⊥) → refs_of (low_wait spell tag q) ≡ map (low_ref spell tag) (refs_of q)
    refs_low (one_of p d) = refl
    refs_low (all_of ds) = refl

    more_made : (d : Desc) (r : Res ⊥) (e : Row) → MadeBy r e → MadeBy (Tell d r) e
    more_made d r e (b, i, g) = (b, inr i, g)

    stop_told : (d : Desc) (r : Res ⊥) (s : Stop) → StopIs r s → StopIs (Tell d r) s
    stop_told d r (Stop.ended e st) h = h
    stop_told d r (Stop.waits e) h = h
    stop_told d r (Stop.full e) h = more_made d r e h

    -- what was seen goes on
    stop_seen : (q : Wait ⊥) (fr : _) (st : St ⊥) (k : List Obj → Res ⊥) (ps : List Obj) (s : Stop) → see_all (see job around n) (refs_of q)
        ≡ Some ps → StopIs (k ps) s → StopIs (Ask q fr st k) s
    stop_seen q fr st k ps (Stop.ended e u) g (x, y, o, h, l) = (x, y, ap (λ z. on_seen z (λ os. outcome (see job around n) (k os))) g ∙ o, h, l)
    stop_seen q fr st k ps (Stop.waits e) g (j, h, d, o, i, l) =
        (suc j, h, d, ap (λ z. halts_seen z (λ os. halt (see job around n) j (k os))) g ∙ o, i, l)
    stop_seen q fr st k ps (Stop.full e) g (d, i, l) =
        (d, subst (λ z. In d (made_in (acts_seen z (λ os. acts (see job around n) (k os))))) (sym g) i, l)

    made_seen : (q : Wait ⊥) (fr : _) (st : St ⊥) (k : List Obj → Res ⊥) (ps : List Obj) (e : Row) → see_all (see job around n) (refs_of q)
        ≡ Some ps → MadeBy (k ps) e → MadeBy (Ask q fr st k) e
    made_seen q fr st k ps e g h = stop_seen q fr st k ps (Stop.full e) g h

    told : (d : Desc) (r : Res ⊥) (h : Res (List ℕ)) (rows : List Row) (x : Option (List Row))
        → ((more : List Row) → Sim r more (walk knows more h)) → Learned rows (low_desc spell tag d) x
        → Sim (Tell d r) rows (on_learned x rows (low_desc spell tag d) (λ more. walk knows more h))
    told d r h rows None next from = record { rows_from = λ e i. inl i; stop_is = (d, inl refl, refl) }
    told d r h rows (Some more) next from =
        record { rows_from = λ e i. go e ((next more).rows_from e i); stop_is = stop_told d r _ (next more).stop_is }
      where
        either : (e : Row) → In e rows ⊎ (e ≡ low_desc spell tag d) → In e rows ⊎ MadeBy (Tell d r) e
        either e (inl i) = inl i
        either e (inr g) = inr (d, inl refl, sym g)

        go : (e : Row) → In e more ⊎ MadeBy r e → In e rows ⊎ MadeBy (Tell d r) e
        go e (inl i) = either e (from e i)
        go e (inr m) = inr (more_made d r e m)

    asked : (q : Wait ⊥) (fr : _) (st : St ⊥) (k : List Obj → Res ⊥) (h : List (Object (List ℕ)) → Res (List ℕ)) (rows : List Row) (s : Seen)
        → ((ps : List Obj) → Sim (k ps) rows (walk knows rows (h (map (low_obj spell tag) ps)))) → Looked (refs_of q) s
        → Sim (Ask q fr st k) rows (w.on_seen s rows (λ os. walk knows rows (h os)))
    asked q fr st k h rows (Seen.lacks e) next (d, i, g) =
        record { rows_from = λ c j. inl j; stop_is = (zero, record { wait = q; forms = fr; st = st }, d, refl, i, g) }
    asked q fr st k h rows (Seen.all os) next (ps, g, l) =
        subst (λ z. Sim (Ask q fr st k) rows (walk knows rows (h z))) l
        (record { rows_from = λ e i. go e ((next ps).rows_from e i); stop_is = stop_seen q fr st k ps _ g (next ps).stop_is })
      where
        go : (e : Row) → In e rows ⊎ MadeBy (k ps) e → In e rows ⊎ MadeBy (Ask q fr st k) e
        go e (inl i) = inl i
        go e (inr m) = inr (made_seen q fr st k ps e g m)

    pub sim : (r : Res ⊥) (q : Res (List ℕ)) (rows : List Row) → Rel spell tag r q → Sim r rows (walk knows rows q)
    sim (Fin e st) q rows g =
        subst (λ z. Sim (Fin e st) rows (walk knows rows z)) (sym g) (record { rows_from = λ c i. inl i; stop_is = (e, st, refl, refl, refl) })
    sim (Tell d r) q rows (h, g, rel) =
        subst (λ z. Sim (Tell d r) rows (walk knows rows z)) (sym g)
        (told d r h rows (learn_to rows (low_desc spell tag d)) (λ more. sim r h more rel)
        (learned_new (is_held (low_desc spell tag d) rows) rows (low_desc spell tag d)))
    sim (Ask y fr st k) q rows (h, g, rel) =
        subst (λ z. Sim (Ask y fr st k) rows (walk knows rows z)) (sym g)
        (asked y fr st k h rows (look knows (refs_of (low_wait spell tag y)))
        (λ ps. sim (k ps) (h (map (low_obj spell tag) ps)) rows (rel ps))
        (subst (λ z. Looked (refs_of y) (look knows z)) (sym (refs_low y)) (looked (refs_of y))))
