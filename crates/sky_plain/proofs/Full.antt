-- A description is one too many only where so many are held and it is not among them.
use Rattle.std.proofs.Common.{◌≡◌, List, [], ◌∷◌, ℕ, Option, Some, None, refl, sym, ap, ◌∙◌}
use Rattle.sky_base.specs.Res.{Object, Res, Fin, Tell, Ask}
use Rattle.sky_base.specs.Read.{refs_of}
use Rattle.sky_base_known.specs.Walk as w
use Rattle.sky_base_known.specs.Walk.{Row, Seen, seen_one, Stop, Walked, learn_to, on_learned, look, walk}

abbrev pub FullAt : Walked → Type 0
FullAt done = (e : Row) → done.stop ≡ Stop.full e → learn_to done.rows e ≡ None

module _ (knows : Row → Option (Object (List ℕ))) where
  told_full : (rows : List Row) (d : Row) (h : Res (List ℕ)) (x : Option (List Row)) → learn_to rows d ≡ x
      → ((more : List Row) → FullAt (walk knows more h)) → FullAt (on_learned x rows d (λ more. walk knows more h))
  told_full rows d h None e next c q = ap (learn_to rows) (sym full_is) ∙ e
    where
      full_is : d ≡ c
      full_is = cc
  told_full rows d h (Some more) e next c q = next more c q

  asked_full : (rows : List Row) (k : List (Object (List ℕ)) → Res (List ℕ)) (s : Seen)
      → ((os : List (Object (List ℕ))) → FullAt (walk knows rows (k os))) → FullAt (w.on_seen s rows (λ os. walk knows rows (k os)))
  asked_full rows k (Seen.all os) next c q = next os c q
  asked_full rows k (Seen.lacks d) next c q = absurd cc

  pub walk_full : (q : Res (List ℕ)) (rows : List Row) → FullAt (walk knows rows q)
  walk_full (Fin e st) rows c q = absurd cc
  walk_full (Tell d r) rows c q = told_full rows d r (learn_to rows d) refl (λ more. walk_full r more) c q
  walk_full (Ask y fr st k) rows c q = asked_full rows k (look knows (refs_of y)) (λ os. walk_full (k os) rows) c q

-- ---- a run waits only for what isn't known

abbrev pub WaitsAt : (Row → Option (Object (List ℕ))) → Walked → Type 0
WaitsAt knows done = (e : Row) → done.stop ≡ Stop.waits e → knows e ≡ None

module _ (knows : Row → Option (Object (List ℕ))) where
  abbrev Lacking : Seen → Type 0
  Lacking (Seen.all os) = Unit {0}
  Lacking (Seen.lacks d) = knows d ≡ None

  lacking_one : (d : Row) (x : Option (Object (List ℕ))) (s : Seen) → knows d ≡ x → Lacking s → Lacking (seen_one x d s)
  lacking_one d None s e h = e
  lacking_one d (Some o) (Seen.all os) e h = tt
  lacking_one d (Some o) (Seen.lacks c) e h = h

  lacking : (ds : List Row) → Lacking (look knows ds)
  lacking [] = tt
  lacking (d ∷ ds) = lacking_one d (knows d) (look knows ds) refl (lacking ds)

  told_waits : (rows : List Row) (d : Row) (h : Res (List ℕ)) (x : Option (List Row)) → ((more : List Row) → WaitsAt knows (walk knows more h))
      → WaitsAt knows (on_learned x rows d (λ more. walk knows more h))
  told_waits rows d h None next c q = absurd cc
  told_waits rows d h (Some more) next c q = next more c q

  asked_waits : (rows : List Row) (k : List (Object (List ℕ)) → Res (List ℕ)) (s : Seen) → Lacking s
      → ((os : List (Object (List ℕ))) → WaitsAt knows (walk knows rows (k os)))
      → WaitsAt knows (w.on_seen s rows (λ os. walk knows rows (k os)))
  asked_waits rows k (Seen.all os) l next c q = next os c q
  asked_waits rows k (Seen.lacks d) l next c q = ap knows (sym waits_is) ∙ l
    where
      waits_is : d ≡ c
      waits_is = cc

  pub walk_waits : (q : Res (List ℕ)) (rows : List Row) → WaitsAt knows (walk knows rows q)
  walk_waits (Fin e st) rows c q = absurd cc
  walk_waits (Tell d r) rows c q = told_waits rows d r (learn_to rows d) (λ more. walk_waits r more) c q
  walk_waits (Ask y fr st k) rows c q =
      asked_waits rows k (look knows (refs_of y)) (lacking (refs_of y)) (λ os. walk_waits (k os) rows) c q
