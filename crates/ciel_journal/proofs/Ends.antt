-- Which workers are lost after a history, and where the root task is done.
use Rattle.std.proofs.Common.{◌≡◌, ℕ, List, [], ◌∷◌, ◌++◌, Bool, true, false, Option, Some, None, ◌⊎◌, ◌↔◌, inl, inr, refl, ap, sym, ◌∙◌, subst}
use Rattle.ciel_journal.specs.Job.{Digest, Task, show, of, Job, In, IsJob}
use Rattle.ciel_journal.specs.History.{Event, start, done, saved, missed, lost, OpenStart, Plan, Standing, after, after_all, before_all, close_with}
use Rattle.ciel_journal.specs.History.{done_with, ends_show, saved_with, missed_with, find_open, standing}
use Rattle.ciel_journal.specs.Lawful.{Lawful, LawfulFrom}
use Rattle.ciel_journal.specs.Live.{LostIn}
use Rattle.ciel_journal.specs.Laws.{ShowDone}
use Rattle.ciel_journal.proofs.Good.{after_done}
use Rattle.ciel_journal.proofs.Numbers.{in_left, in_last, last_in}

module _ {D : Type 0} (job : Job D) where
  abbrev Lost : Standing D → List (Event D) → ℕ → Type 0
  Lost v h w = In w v.gone ⊎ LostIn h w

  skip : (e : Event D) (es : List (Event D)) (w : ℕ) → LostIn es w → LostIn (e ∷ es) w
  skip e es w l = (l.0, inr l.1)

  gone_after : (v : Standing D) (h : List (Event D)) (w : ℕ) → In w (after_all job v h).gone → Lost v h w
  gone_after v [] w i = inl i
  gone_after v (start k u t from ∷ es) w i = pick (gone_after (after job v (start k u t from)) es w i)
    where
      pick : Lost (after job v (start k u t from)) es w → Lost v (start k u t from ∷ es) w
      pick (inl j) = inl j
      pick (inr l) = inr (skip (start k u t from) es w l)
  gone_after v (done k ms copied spawned ∷ es) w i = pick (find_open job k v.orders) (gone_after (after job v (done k ms copied spawned)) es w i)
    where
      pick : (x : Option (OpenStart D)) → In w (close_with job (done_with job ms copied spawned) v k x).gone ⊎ LostIn es w
          → Lost v (done k ms copied spawned ∷ es) w
      pick None (inl j) = inl j
      pick (Some o) (inl j) = inl j
      pick x (inr l) = inr (skip (done k ms copied spawned) es w l)
  gone_after v (saved k j mark refs holds spawned ∷ es) w i =
      pick (find_open job k v.orders) (gone_after (after job v (saved k j mark refs holds spawned)) es w i)
    where
      pick : (x : Option (OpenStart D)) → In w (close_with job (saved_with job j refs holds spawned) v k x).gone ⊎ LostIn es w
          → Lost v (saved k j mark refs holds spawned ∷ es) w
      pick None (inl j) = inl j
      pick (Some o) (inl j) = inl j
      pick x (inr l) = inr (skip (saved k j mark refs holds spawned) es w l)
  gone_after v (missed k d loss ∷ es) w i = pick (find_open job k v.orders) (gone_after (after job v (missed k d loss)) es w i)
    where
      pick : (x : Option (OpenStart D)) → In w (close_with job (missed_with job) v k x).gone ⊎ LostIn es w → Lost v (missed k d loss ∷ es) w
      pick None (inl j) = inl j
      pick (Some o) (inl j) = inl j
      pick x (inr l) = inr (skip (missed k d loss) es w l)
  gone_after v (lost u c ∷ es) w i = pick (gone_after (after job v (lost u c)) es w i)
    where
      last : (In w v.gone ⊎ (w ≡ u)) → Lost v (lost u c ∷ es) w
      last (inl j) = inl j
      last (inr s) = inr (c, inl (ap (λ z. lost z c) s))

      pick : Lost (after job v (lost u c)) es w → Lost v (lost u c ∷ es) w
      pick (inl j) = last (in_last w v.gone u j)
      pick (inr l) = inr (skip (lost u c) es w l)

  gone_stays : (v : Standing D) (e : Event D) (w : ℕ) → In w v.gone → In w (after job v e).gone
  gone_stays v (start k u t from) w i = i
  gone_stays v (done k ms copied spawned) w i = go (find_open job k v.orders)
    where
      go : (x : Option (OpenStart D)) → In w (close_with job (done_with job ms copied spawned) v k x).gone
      go None = i
      go (Some o) = i
  gone_stays v (saved k j mark refs holds spawned) w i = go (find_open job k v.orders)
    where
      go : (x : Option (OpenStart D)) → In w (close_with job (saved_with job j refs holds spawned) v k x).gone
      go None = i
      go (Some o) = i
  gone_stays v (missed k d loss) w i = go (find_open job k v.orders)
    where
      go : (x : Option (OpenStart D)) → In w (close_with job (missed_with job) v k x).gone
      go None = i
      go (Some o) = i
  gone_stays v (lost u c) w i = in_left w v.gone (u ∷ []) i

  gone_before : (v : Standing D) (h : List (Event D)) (w : ℕ) → Lost v h w → In w (after_all job v h).gone
  gone_before v [] w (inl i) = i
  gone_before v [] w (inr l) = absurd l.1
  gone_before v (e ∷ es) w (inl i) = gone_before (after job v e) es w (inl (gone_stays v e w i))
  gone_before v (e ∷ es) w (inr l) = pick (λ a. gone_before (after job v e) es w a) l.1
    where
      pick : (Lost (after job v e) es w → In w (after_all job (after job v e) es).gone) → ((lost w l.0 ≡ e) ⊎ In (lost w l.0) es)
          → In w (after_all job (after job v e) es).gone
      pick on (inl s) = on (inl (subst (λ z. In w (after job v z).gone) s (last_in v.gone w)))
      pick on (inr i) = on (inr (l.0, i))

  pub gone_told : (h : List (Event D)) (w : ℕ) → In w (standing job h).gone ↔ LostIn h w
  gone_told h w = (there, λ l. gone_before (before_all job) h w (inr l))
    where
      pick : Lost (before_all job) h w → LostIn h w
      pick (inl i) = absurd i
      pick (inr l) = l

      there : In w (standing job h).gone → LostIn h w
      there i = pick (gone_after (before_all job) h w i)

module _ {D : Type 0} (job : Job D) (laws : IsJob job) (p : Plan) where
  -- nothing comes after the root task is done
  after_over : (v : Standing D) (es : List (Event D)) → v.over ≡ true → LawfulFrom job p v es → es ≡ []
  after_over v [] o l = refl
  after_over v (e ∷ es) o l = let g = l.0.going in let bad : true ≡ false = sym o ∙ g in cc

  shown : (t : Task D) → ends_show job t ≡ true → t ≡ show
  shown show e = refl
  shown (of d) e = cc

  -- from what stands, these events end with the Done of the root task
  abbrev DoneFrom : Standing D → List (Event D) → Type 0
  DoneFrom v h =
      (g : List (Event D)) × (k : ℕ) × (ms : List (D × Digest)) × (copied : List D) × (spawned : List D)
      × (h ≡ g ++ done k ms copied spawned ∷ []) × (o : OpenStart D) × (find_open job k (after_all job v g).orders ≡ Some o)
      × (o.task ≡ show)

  longer : (v : Standing D) (e : Event D) (es : List (Event D)) → DoneFrom (after job v e) es → DoneFrom v (e ∷ es)
  longer v e es q = (e ∷ q.0, q.1, q.2, q.3, q.4, ap (λ z. e ∷ z) q.5, q.6, q.7, q.8)

  over_after : (v : Standing D) (h : List (Event D)) → v.over ≡ false → LawfulFrom job p v h → (after_all job v h).over ≡ true → DoneFrom v h
  over_after v [] g l o = let bad : false ≡ true = sym g ∙ o in cc
  over_after v (start k w t from ∷ es) g l o =
      longer v (start k w t from) es (over_after (after job v (start k w t from)) es g l.1 o)
  over_after v (done k ms copied spawned ∷ es) g l o =
      pick (λ e. over_after (after job v (done k ms copied spawned)) es e l.1 o) (after job v (done k ms copied spawned)).over refl
    where
      a : (x : OpenStart D) × (find_open job k v.orders ≡ Some x)
      a = (l.0.allowed.0, l.0.allowed.1)

      is : (after job v (done k ms copied spawned)).over ≡ ends_show job a.0.task
      is = ap (λ (u : Standing D). u.over) (after_done job laws v k ms copied spawned a.0 a.1)

      pick : ((after job v (done k ms copied spawned)).over ≡ false → DoneFrom (after job v (done k ms copied spawned)) es) → (b : Bool)
          → (after job v (done k ms copied spawned)).over ≡ b → DoneFrom v (done k ms copied spawned ∷ es)
      pick on false e = longer v (done k ms copied spawned) es (on e)
      pick on true e =
          let s = after_over (after job v (done k ms copied spawned)) es e l.1 in
          ([], k, ms, copied, spawned, ap (λ z. done k ms copied spawned ∷ z) s, a.0, a.1, shown a.0.task (sym is ∙ e))
  over_after v (saved k j mark refs holds spawned ∷ es) g l o =
      longer v (saved k j mark refs holds spawned) es
      (over_after (after job v (saved k j mark refs holds spawned)) es (same (find_open job k v.orders)) l.1 o)
    where
      same : (x : Option (OpenStart D)) → (close_with job (saved_with job j refs holds spawned) v k x).over ≡ false
      same None = g
      same (Some q) = g
  over_after v (missed k d loss ∷ es) g l o =
      longer v (missed k d loss) es (over_after (after job v (missed k d loss)) es (same (find_open job k v.orders)) l.1 o)
    where
      same : (x : Option (OpenStart D)) → (close_with job (missed_with job) v k x).over ≡ false
      same None = g
      same (Some q) = g
  over_after v (lost w c ∷ es) g l o = longer v (lost w c) es (over_after (after job v (lost w c)) es g l.1 o)

  over_before : (v : Standing D) (g : List (Event D)) (k : ℕ) (ms : List (D × Digest)) (copied spawned : List D) (o : OpenStart D)
      → find_open job k (after_all job v g).orders ≡ Some o → o.task ≡ show → (after_all job v (g ++ done k ms copied spawned ∷ [])).over ≡ true
  over_before v [] k ms copied spawned o f s =
      ap (λ (u : Standing D). u.over) (after_done job laws v k ms copied spawned o f) ∙ ap (ends_show job) s
  over_before v (e ∷ es) k ms copied spawned o f s = over_before (after job v e) es k ms copied spawned o f s

  pub over_told : (h : List (Event D)) → Lawful job p h → ((standing job h).over ≡ true) ↔ ShowDone job h
  over_told h l = (there, back)
    where
      there : (standing job h).over ≡ true → ShowDone job h
      there o =
          let q = over_after (before_all job) h refl l o in
          record { before = q.0; number = q.1; made = q.2; copied = q.3; spawned = q.4; last = q.5; order = q.6; is_open = q.7; root = q.8 }

      back : ShowDone job h → (standing job h).over ≡ true
      back q =
          subst (λ z. (standing job z).over ≡ true) (sym q.last)
          (over_before (before_all job) q.before q.number q.made q.copied q.spawned q.order q.is_open q.root)
