-- Who has a description, said of the whole history at once.
use Rattle.std.proofs.Common.{◌≡◌, ℕ, ◌+◌, ◌<◌, List, [], ◌∷◌, ◌++◌, append_assoc, append-nil, Bool, true, false, not, cond, ◌||◌, nat_eq, ◌⊎◌, inl}
use Rattle.std.proofs.Common.{inr, refl, ap, sym, ◌∙◌, subst, arith, filter, eqb-true, eq-eqb, ◌↔◌}
use Rattle.std.specs.List.{list_any}
use Rattle.ciel_journal.specs.Job.{Digest, In, IsJob, Job, Task}
use Rattle.ciel_journal.specs.History.{Event, OpenStart, Plan, Standing, after, after_all, before_all, done, lost, missed, names_of, order_of, placed}
use Rattle.ciel_journal.specs.History.{saved, start}
use Rattle.ciel_journal.specs.Live.{Published, LostIn}
use Rattle.ciel_journal.specs.Lawful.{Lawful, LawfulFrom, Step}
use Rattle.ciel_journal.proofs.Members.{bool_cases, or_true}
use Rattle.ciel_journal.proofs.Good.{after_done, after_saved, after_missed}
use Rattle.ciel_journal.proofs.Booked.{any_join_left, any_join_last, any_join_cases}
use Rattle.ciel_journal.proofs.Numbers.{Numbered, numbered_step, in_left, last_in, in_last, in_filter, found_in}

module _ {D : Type 0} where
  abbrev pub Has : (D → List ℕ) → ℕ → D → Type 0
  Has f w d = list_any (nat_eq w) (f d) ≡ true

module _ {D : Type 0} (job : Job D) (laws : IsJob job) where
  -- who has a description after names were placed
  pub placed_cases : (ns : List D) (u : ℕ) (f : D → List ℕ) (w : ℕ) (d : D) → Has (placed job ns u f) w d → Has f w d ⊎ ((w ≡ u) × In d ns)
  placed_cases [] u f w d h = inl h
  placed_cases (n ∷ ns) u f w d h = turn (placed_cases ns u (λ e. cond (job.same n e) (f e ++ u ∷ []) (f e)) w d h)
    where
      one : (b : Bool) → job.same n d ≡ b → list_any (nat_eq w) (cond b (f d ++ u ∷ []) (f d)) ≡ true → Has f w d ⊎ ((w ≡ u) × In d (n ∷ ns))
      one false e h = inl h
      one true e h = split (any_join_cases (nat_eq w) (f d) u h)
        where
          split : ((list_any (nat_eq w) (f d) ≡ true) ⊎ (nat_eq w u ≡ true)) → Has f w d ⊎ ((w ≡ u) × In d (n ∷ ns))
          split (inl a) = inl a
          split (inr b) = inr (eqb-true w u b, inl (sym (laws.same_exact n d e)))

      turn : (Has (λ e. cond (job.same n e) (f e ++ u ∷ []) (f e)) w d ⊎ ((w ≡ u) × In d ns)) → Has f w d ⊎ ((w ≡ u) × In d (n ∷ ns))
      turn (inr x) = inr (x.0, inr x.1)
      turn (inl h) = one (job.same n d) refl h

  placed_keeps : (ns : List D) (u : ℕ) (f : D → List ℕ) (w : ℕ) (d : D) → Has f w d → Has (placed job ns u f) w d
  placed_keeps [] u f w d h = h
  placed_keeps (n ∷ ns) u f w d h = placed_keeps ns u (λ e. cond (job.same n e) (f e ++ u ∷ []) (f e)) w d (one (job.same n d))
    where
      one : (b : Bool) → list_any (nat_eq w) (cond b (f d ++ u ∷ []) (f d)) ≡ true
      one true = any_join_left (nat_eq w) (f d) (u ∷ []) h
      one false = h

  placed_has : (ns : List D) (u : ℕ) (f : D → List ℕ) (d : D) → In d ns → Has (placed job ns u f) u d
  placed_has [] u f d i = absurd i
  placed_has (n ∷ ns) u f d (inr i) = placed_has ns u (λ e. cond (job.same n e) (f e ++ u ∷ []) (f e)) d i
  placed_has (n ∷ ns) u f d (inl s) =
      placed_keeps ns u (λ e. cond (job.same n e) (f e ++ u ∷ []) (f e)) u d
      (ap (λ b. list_any (nat_eq u) (cond b (f d ++ u ∷ []) (f d))) (subst (λ x. job.same x d ≡ true) s (laws.same_refl d))
      ∙ any_join_last (nat_eq u) (f d) u (eq-eqb u u refl))

  pub filter_has : (v w : ℕ) (xs : List ℕ) → list_any (nat_eq w) (filter (λ u. not (nat_eq v u)) xs) ≡ true → (list_any (nat_eq w) xs ≡ true)
      × (v ≡ w → ⊥)
  filter_has v w [] h = cc
  filter_has v w (x ∷ xs) h = pick (bool_cases (nat_eq v x)) (filter_has v w xs)
    where
      pick : ((nat_eq v x ≡ true) ⊎ (nat_eq v x ≡ false))
          → (list_any (nat_eq w) (filter (λ u. not (nat_eq v u)) xs) ≡ true → (list_any (nat_eq w) xs ≡ true) × (v ≡ w → ⊥))
          → (nat_eq w x || list_any (nat_eq w) xs ≡ true) × (v ≡ w → ⊥)
      pick (inl e) r = let q = r (sym
          (ap (λ b. list_any (nat_eq w) (cond (not b) (x ∷ filter (λ u. not (nat_eq v u)) xs) (filter (λ u. not (nat_eq v u)) xs))) e) ∙ h) in
          (or_true (nat_eq w x) _ q.0, q.1)
      pick (inr e) r = turn (bool_cases (nat_eq w x))
          (sym (ap (λ b. list_any (nat_eq w) (cond (not b) (x ∷ filter (λ u. not (nat_eq v u)) xs) (filter (λ u. not (nat_eq v u)) xs))) e) ∙ h)
        where
          turn : ((nat_eq w x ≡ true) ⊎ (nat_eq w x ≡ false)) → nat_eq w x || list_any (nat_eq w) (filter (λ u. not (nat_eq v u)) xs) ≡ true
              → (nat_eq w x || list_any (nat_eq w) xs ≡ true) × (v ≡ w → ⊥)
          turn (inl t) k = (ap (λ b. b || list_any (nat_eq w) xs) t, λ s. let q : nat_eq v x ≡ true = subst (λ z. nat_eq z x ≡ true) (sym s) t in cc)
          turn (inr f) k = let q = r (sym (ap (λ b. b || list_any (nat_eq w) (filter (λ u. not (nat_eq v u)) xs)) f) ∙ k) in
              (or_true (nat_eq w x) _ q.0, q.1)

  has_filter : (v w : ℕ) (xs : List ℕ) → list_any (nat_eq w) xs ≡ true → (v ≡ w → ⊥) → list_any (nat_eq w) (filter (λ u. not (nat_eq v u)) xs) ≡ true
  has_filter v w [] h n = h
  has_filter v w (x ∷ xs) h n = turn (bool_cases (nat_eq w x)) (bool_cases (nat_eq v x)) (has_filter v w xs)
    where
      F : List ℕ
      F = filter (λ u. not (nat_eq v u)) xs

      turn : ((nat_eq w x ≡ true) ⊎ (nat_eq w x ≡ false)) → ((nat_eq v x ≡ true) ⊎ (nat_eq v x ≡ false))
          → (list_any (nat_eq w) xs ≡ true → (v ≡ w → ⊥) → list_any (nat_eq w) (filter (λ u. not (nat_eq v u)) xs) ≡ true)
          → list_any (nat_eq w) (cond (not (nat_eq v x)) (x ∷ filter (λ u. not (nat_eq v u)) xs) (filter (λ u. not (nat_eq v u)) xs)) ≡ true
      turn (inl t) (inl e) r = absurd (n (eqb-true v x e ∙ sym (eqb-true w x t)))
      turn (inl t) (inr e) r = ap (λ b. list_any (nat_eq w)
          (cond (not b) (x ∷ filter (λ u. not (nat_eq v u)) xs) (filter (λ u. not (nat_eq v u)) xs))) e
          ∙ ap (λ b. b || list_any (nat_eq w) (filter (λ u. not (nat_eq v u)) xs)) t
      turn (inr f) (inl e) r = ap (λ b. list_any (nat_eq w)
          (cond (not b) (x ∷ filter (λ u. not (nat_eq v u)) xs) (filter (λ u. not (nat_eq v u)) xs))) e
          ∙ r (sym (ap (λ b. b || list_any (nat_eq w) xs) f) ∙ h) n
      turn (inr f) (inr e) r = ap (λ b. list_any (nat_eq w)
          (cond (not b) (x ∷ filter (λ u. not (nat_eq v u)) xs) (filter (λ u. not (nat_eq v u)) xs))) e
          ∙ or_true (nat_eq w x) _ (r (sym (ap (λ b. b || list_any (nat_eq w) xs) f) ∙ h) n)

  abbrev pub Same : Event D → Event D → Type 0
  Same a b = a ≡ b

  pub record Says (g : List (Event D)) (v : Standing D) : Type 0 where
    pub numbered : Numbered job laws v
    pub told : (w : ℕ) (d : D) → Has v.places w d → Published g w d × (LostIn g w → ⊥)
    pub stands : (w : ℕ) (d : D) → Published g w d → (LostIn g w → ⊥) → Has v.places w d
    pub orders : (o : OpenStart D) → In o v.orders → In (start o.number o.worker o.task o.from) g × (LostIn g o.worker → ⊥)
    pub below : (k w : ℕ) (t : Task D) (f : ℕ) → In (start k w t f) g → k < v.starts
    pub closes : (k : ℕ) (made : List (D × Digest)) (copied spawned : List D) → In (done k made copied spawned) g → k < v.starts
    pub one : (k w : ℕ) (t : Task D) (f u : ℕ) (s : Task D) (i : ℕ) → In (start k w t f) g → In (start k u s i) g → w ≡ u
    pub one_task : (k w : ℕ) (t : Task D) (f u : ℕ) (s : Task D) (i : ℕ) → In (start k w t f) g → In (start k u s i) g → t ≡ s
    pub gone : (w : ℕ) → LostIn g w → list_any (nat_eq w) v.gone ≡ true

  pub more : (g : List (Event D)) (e x : Event D) → In x g → In x (g ++ e ∷ [])
  more g e x i = in_left x g (e ∷ []) i

  pub_more : (g : List (Event D)) (e : Event D) (w : ℕ) (d : D) → Published g w d → Published (g ++ e ∷ []) w d
  pub_more g e w d p =
      record {
        number = p.number;
        task = p.task;
        from = p.from;
        begun = more g e _ p.begun;
        made = p.made;
        copied = p.copied;
        spawned =
            p.spawned;
        ended = more g e _ p.ended;
        has = p.has;
      }

  -- an event that is no loss adds none
  abbrev pub NotLost : Event D → Type 0
  NotLost e = (w c : ℕ) → lost w c ≡ e → ⊥

  pub lost_back : (g : List (Event D)) (e : Event D) → NotLost e → (w : ℕ) → LostIn (g ++ e ∷ []) w → LostIn g w
  lost_back g e n w l = pick (in_last (lost w l.0) g e l.1)
    where
      pick : (In (lost w l.0) g ⊎ (lost w l.0 ≡ e)) → LostIn g w
      pick (inl i) = (l.0, i)
      pick (inr s) = absurd (n w l.0 s)

  pub lost_on : (g : List (Event D)) (e : Event D) (w : ℕ) → LostIn g w → LostIn (g ++ e ∷ []) w
  lost_on g e w l = (l.0, more g e _ l.1)

  -- what is neither a Start nor a Done publishes nothing
  abbrev pub Quiet : Event D → Type 0
  Quiet e = ((k w : ℕ) (t : Task D) (f : ℕ) → start k w t f ≡ e → ⊥) × ((k : ℕ) (m : List (D × Digest)) (c s : List D) → done k m c s ≡ e → ⊥)

  quiet_start : (g : List (Event D)) (e : Event D) → Quiet e → (k w : ℕ) (t : Task D) (f : ℕ) → In (start k w t f) (g ++ e ∷ [])
      → In (start k w t f) g
  quiet_start g e q k w t f i = pick (in_last (start k w t f) g e i)
    where
      pick : (In (start k w t f) g ⊎ (start k w t f ≡ e)) → In (start k w t f) g
      pick (inl j) = j
      pick (inr s) = absurd (q.0 k w t f s)

  quiet_done : (g : List (Event D)) (e : Event D) → Quiet e → (k : ℕ) (m : List (D × Digest)) (c s : List D) → In (done k m c s) (g ++ e ∷ [])
      → In (done k m c s) g
  quiet_done g e q k m c s i = pick (in_last (done k m c s) g e i)
    where
      pick : (In (done k m c s) g ⊎ (done k m c s ≡ e)) → In (done k m c s) g
      pick (inl j) = j
      pick (inr h) = absurd (q.1 k m c s h)

  quiet_back : (g : List (Event D)) (e : Event D) → Quiet e → (w : ℕ) (d : D) → Published (g ++ e ∷ []) w d → Published g w d
  quiet_back g e q w d p =
      record {
        number = p.number;
        task = p.task;
        from = p.from;
        begun = quiet_start g e q p.number w p.task p.from p.begun;
        made = p.made;
        copied = p.copied;
        spawned = p.spawned;
        ended = quiet_done g e q p.number p.made p.copied p.spawned p.ended;
        has = p.has;
      }

  -- a step that only takes open Starts away
  says_less : (g : List (Event D)) (e : Event D) (v u : Standing D) → Says g v → NotLost e → Quiet e → Numbered job laws u → u.places ≡ v.places
      → u.starts ≡ v.starts → u.gone ≡ v.gone → ((o : OpenStart D) → In o u.orders → In o v.orders) → Says (g ++ e ∷ []) u
  says_less g e v u s n q num pl st go ou =
      record {
        numbered = num;
        told = λ w d h. let a = s.told w d (subst (λ f. Has f w d) pl h) in (pub_more g e w d a.0, λ l. a.1 (lost_back g e n w l));
        stands = λ w d p l. subst (λ f. Has f w d) (sym pl) (s.stands w d (quiet_back g e q w d p) (λ x. l (lost_on g e w x)));
        orders = λ o i. let a = s.orders o (ou o i) in (more g e _ a.0, λ l. a.1 (lost_back g e n o.worker l));
        below = λ k w t f i. subst (λ m. k < m) (sym st) (s.below k w t f (quiet_start g e q k w t f i));
        closes = λ k m c x i. subst (λ y. k < y) (sym st) (s.closes k m c x (quiet_done g e q k m c x i));
        one = λ k w t f y z i a b. s.one k w t f y z i (quiet_start g e q k w t f a) (quiet_start g e q k y z i b);
        one_task = λ k w t f y z i a b. s.one_task k w t f y z i (quiet_start g e q k w t f a) (quiet_start g e q k y z i b);
        gone = λ w l. subst (λ ws. list_any (nat_eq w) ws ≡ true) (sym go) (s.gone w (lost_back g e n w l));
      }

  says_done : (p : Plan) (g : List (Event D)) (v : Standing D) (k : ℕ) (made : List (D × Digest)) (copied spawned : List D) → Says g v
      → Step job p v (done k made copied spawned) → Says (g ++ done k made copied spawned ∷ []) (after job v (done k made copied spawned))
  says_done p g v k made copied spawned s step =
      subst (Says (g ++ done k made copied spawned ∷ [])) (sym (after_done job laws v k made copied spawned step.allowed.0 step.allowed.1))
      (record {
        numbered = subst (Numbered job laws) (after_done job laws v k made copied spawned step.allowed.0 step.allowed.1)
            (numbered_step job laws p v (done k made copied spawned) s.numbered step);
        told = told;
        stands = stands;
        orders = λ o i. let a = s.orders o (in_filter (λ (q : OpenStart D). not (nat_eq k q.number)) o v.orders i) in
            (more g e _ a.0, λ l. a.1 (lost_back g e no o.worker l));
        below = λ j w t f i. s.below j w t f (starts j w t f i);
        closes = λ j m c x i. closes j m c x (in_last (done j m c x) g e i);
        one = λ j w t f y z i a b. s.one j w t f y z i (starts j w t f a) (starts j y z i b);
        one_task = λ j w t f y z i a b. s.one_task j w t f y z i (starts j w t f a) (starts j y z i b);
        gone = λ w l. s.gone w (lost_back g e no w l);
      })
    where
      e : Event D
      e = done k made copied spawned

      no : NotLost (done k made copied spawned)
      no w c h = cc

      starts : (j w : ℕ) (t : Task D) (f : ℕ) → In (start j w t f) (g ++ done k made copied spawned ∷ []) → In (start j w t f) g
      starts j w t f i = pick (in_last (start j w t f) g (done k made copied spawned) i)
        where
          pick : (In (start j w t f) g ⊎ (start j w t f ≡ done k made copied spawned)) → In (start j w t f) g
          pick (inl a) = a
          pick (inr b) = cc

      here : In (start k step.allowed.0.worker step.allowed.0.task step.allowed.0.from) g × (LostIn g step.allowed.0.worker → ⊥)
      here =
          let f = found_in job laws k v.orders step.allowed.0 step.allowed.1 in
          let a = s.orders step.allowed.0 f.0 in
          (subst (λ n. In (start n step.allowed.0.worker step.allowed.0.task step.allowed.0.from) g) (sym f.1) a.0, a.1)

      closes : (j : ℕ) (m : List (D × Digest)) (c x : List D) → (In (done j m c x) g ⊎ (done j m c x ≡ done k made copied spawned)) → j < v.starts
      closes j m c x (inl i) = s.closes j m c x i
      closes j m c x (inr h) = let q : j ≡ k = cc in subst (λ n. n < v.starts) (sym q) (s.below k _ _ _ here.0)

      fresh : (d : D) → (In d (names_of made) ⊎ In d copied) → Published (g ++ done k made copied spawned ∷ []) step.allowed.0.worker d
      fresh d h =
          record {
            number = k;
            task = step.allowed.0.task;
            from = step.allowed.0.from;
            begun = more g (done k made copied spawned) _ here.0;
            made = made;
            copied = copied;
            spawned = spawned;
            ended = last_in g (done k made copied spawned);
            has = h;
          }

      told : (w : ℕ) (d : D) → Has (placed job copied step.allowed.0.worker (placed job (names_of made) step.allowed.0.worker v.places)) w d
          → Published (g ++ done k made copied spawned ∷ []) w d × (LostIn (g ++ done k made copied spawned ∷ []) w → ⊥)
      told w d h = pick (placed_cases copied step.allowed.0.worker (placed job (names_of made) step.allowed.0.worker v.places) w d h)
        where
          new : (w ≡ step.allowed.0.worker) → (In d (names_of made) ⊎ In d copied) → Published (g ++ done k made copied spawned ∷ []) w d
              × (LostIn (g ++ done k made copied spawned ∷ []) w → ⊥)
          new q i = (
            subst (λ x. Published (g ++ done k made copied spawned ∷ []) x d) (sym q) (fresh d i),
            λ l. here.1 (subst (LostIn g) q (lost_back g (done k made copied spawned) no w l)),
          )

          deep : (Has v.places w d ⊎ ((w ≡ step.allowed.0.worker) × In d (names_of made))) → Published (g ++ done k made copied spawned ∷ []) w d
              × (LostIn (g ++ done k made copied spawned ∷ []) w → ⊥)
          deep (inl a) = let b = s.told w d a in (
            pub_more g (done k made copied spawned) w d b.0,
            λ l. b.1 (lost_back g (done k made copied spawned) no w l),
          )
          deep (inr a) = new a.0 (inl a.1)

          pick : (Has (placed job (names_of made) step.allowed.0.worker v.places) w d ⊎ ((w ≡ step.allowed.0.worker) × In d copied))
              → Published (g ++ done k made copied spawned ∷ []) w d × (LostIn (g ++ done k made copied spawned ∷ []) w → ⊥)
          pick (inl a) = deep (placed_cases (names_of made) step.allowed.0.worker v.places w d a)
          pick (inr a) = new a.0 (inr a.1)

      stands : (w : ℕ) (d : D) → Published (g ++ done k made copied spawned ∷ []) w d → (LostIn (g ++ done k made copied spawned ∷ []) w → ⊥)
          → Has (placed job copied step.allowed.0.worker (placed job (names_of made) step.allowed.0.worker v.places)) w d
      stands w d q l = pick (in_last (done q.number q.made q.copied q.spawned) g (done k made copied spawned) q.ended)
        where
          begun : In (start q.number w q.task q.from) g
          begun = starts q.number w q.task q.from q.begun

          at : (w ≡ step.allowed.0.worker) → (In d (names_of made) ⊎ In d copied)
              → Has (placed job copied step.allowed.0.worker (placed job (names_of made) step.allowed.0.worker v.places)) w d
          at h (inl i) = subst (λ x. Has (placed job copied step.allowed.0.worker (placed job (names_of made) step.allowed.0.worker v.places)) x
              d) (sym h) (placed_keeps copied step.allowed.0.worker (placed job (names_of made) step.allowed.0.worker v.places)
              step.allowed.0.worker d (placed_has (names_of made) step.allowed.0.worker v.places d i))
          at h (inr i) = subst (λ x. Has (placed job copied step.allowed.0.worker (placed job (names_of made) step.allowed.0.worker v.places)) x
              d) (sym h) (placed_has copied step.allowed.0.worker (placed job (names_of made) step.allowed.0.worker v.places) d i)

          pick : (In (done q.number q.made q.copied q.spawned) g ⊎ (done q.number q.made q.copied q.spawned ≡ done k made copied spawned))
              → Has (placed job copied step.allowed.0.worker (placed job (names_of made) step.allowed.0.worker v.places)) w d
          pick (inl i) =
              placed_keeps copied step.allowed.0.worker (placed job (names_of made) step.allowed.0.worker v.places) w d
              (placed_keeps (names_of made) step.allowed.0.worker v.places w d
              (s.stands w d (record {
                number = q.number;
                task = q.task;
                from = q.from;
                begun = begun;
                made = q.made;
                copied = q.copied;
                spawned =
                    q.spawned;
                ended = i;
                has = q.has;
              }) (λ x. l (lost_on g (done k made copied spawned) w x))))
          pick (inr h) =
              let n : q.number ≡ k = cc in
              let m : q.made ≡ made = cc in
              let c : q.copied ≡ copied = cc in
              let same : w ≡ step.allowed.0.worker = s.one q.number w q.task q.from step.allowed.0.worker step.allowed.0.task step.allowed.0.from
              begun (subst (λ x. In (start x step.allowed.0.worker step.allowed.0.task step.allowed.0.from) g) (sym n) here.0) in
              at same (subst (λ x. In d (names_of x) ⊎ In d copied) m (subst (λ x. In d (names_of q.made) ⊎ In d x) c q.has))

  says_start : (p : Plan) (g : List (Event D)) (v : Standing D) (k w : ℕ) (t : Task D) (from : ℕ) → Says g v → Step job p v (start k w t from)
      → Says (g ++ start k w t from ∷ []) (after job v (start k w t from))
  says_start p g v k w t from s step =
      record {
        numbered = numbered_step job laws p v (start k w t from) s.numbered step;
        told = λ x d h. let a = s.told x d h in (pub_more g (start k w t from) x d a.0, λ l. a.1 (lost_back g (start k w t from) no x l));
        stands = stands;
        orders = λ o i. orders o (in_last o v.orders (order_of job v k w t from) i);
        below = λ j x u f i. below j x u f (in_last (start j x u f) g (start k w t from) i);
        closes = λ j m c x i. let a = s.closes j m c x (dones j m c x i) in omega (arith, a);
        one = λ j x u f y z i a b. one j x u f y z i (in_last (start j x u f) g (start k w t from) a)
            (in_last (start j y z i) g (start k w t from) b);
        one_task = λ j x u f y z i a b. one_task j x u f y z i (in_last (start j x u f) g (start k w t from) a)
            (in_last (start j y z i) g (start k w t from) b);
        gone = λ x l. s.gone x (lost_back g (start k w t from) no x l);
      }
    where
      no : NotLost (start k w t from)
      no x c h = cc

      dones : (j : ℕ) (m : List (D × Digest)) (c x : List D) → In (done j m c x) (g ++ start k w t from ∷ []) → In (done j m c x) g
      dones j m c x i = pick (in_last (done j m c x) g (start k w t from) i)
        where
          pick : (In (done j m c x) g ⊎ (done j m c x ≡ start k w t from)) → In (done j m c x) g
          pick (inl a) = a
          pick (inr h) = cc

      stands : (x : ℕ) (d : D) → Published (g ++ start k w t from ∷ []) x d → (LostIn (g ++ start k w t from ∷ []) x → ⊥) → Has v.places x d
      stands x d q l = pick (in_last (start q.number x q.task q.from) g (start k w t from) q.begun)
        where
          ended : In (done q.number q.made q.copied q.spawned) g
          ended = dones q.number q.made q.copied q.spawned q.ended

          pick : (In (start q.number x q.task q.from) g ⊎ (start q.number x q.task q.from ≡ start k w t from)) → Has v.places x d
          pick (inl i) = s.stands x d (record {
            number = q.number;
            task = q.task;
            from = q.from;
            begun = i;
            made = q.made;
            copied = q.copied;
            spawned = q.spawned;
            ended = ended;
            has = q.has;
          }) (λ y. l (lost_on g (start k w t from) x y))
          pick (inr h) =
              let n : q.number ≡ k = cc in
              let a = s.closes q.number q.made q.copied q.spawned ended in
              let b = step.allowed.number in absurd (omega (arith, n, a, b))

      orders : (o : OpenStart D) → (In o v.orders ⊎ (o ≡ order_of job v k w t from))
          → In (start o.number o.worker o.task o.from) (g ++ start k w t from ∷ []) × (LostIn (g ++ start k w t from ∷ []) o.worker → ⊥)
      orders o (inl i) = let a = s.orders o i in (more g (start k w t from) _ a.0, λ l. a.1 (lost_back g (start k w t from) no o.worker l))
      orders o (inr h) =
          subst (λ (q : OpenStart D). In (start q.number q.worker q.task q.from) (g ++ start k w t from ∷ [])
          × (LostIn (g ++ start k w t from ∷ []) q.worker → ⊥)) (sym h) (
            last_in g (start k w t from),
            λ l. let a = s.gone w (lost_back g (start k w t from) no w l) in let b = step.allowed.here in
                let bad : true ≡ false = sym a ∙ b in cc,
          )

      below : (j x : ℕ) (u : Task D) (f : ℕ) → (In (start j x u f) g ⊎ (start j x u f ≡ start k w t from)) → j < v.starts + 1
      below j x u f (inl i) = let a = s.below j x u f i in omega (arith, a)
      below j x u f (inr h) = let n : j ≡ k = cc in let b = step.allowed.number in omega (arith, n, b)

      one : (j x : ℕ) (u : Task D) (f y : ℕ) (z : Task D) (i : ℕ) → (In (start j x u f) g ⊎ (start j x u f ≡ start k w t from))
          → (In (start j y z i) g ⊎ (start j y z i ≡ start k w t from)) → x ≡ y
      one j x u f y z i (inl a) (inl b) = s.one j x u f y z i a b
      one j x u f y z i (inl a) (inr b) = let n : j ≡ k = cc in let c = s.below j x u f a in let e = step.allowed.number in
          absurd (omega (arith, n, c, e))
      one j x u f y z i (inr a) (inl b) = let n : j ≡ k = cc in let c = s.below j y z i b in let e = step.allowed.number in
          absurd (omega (arith, n, c, e))
      one j x u f y z i (inr a) (inr b) = let p : x ≡ w = cc in let q : y ≡ w = cc in p ∙ sym q

      one_task : (j x : ℕ) (u : Task D) (f y : ℕ) (z : Task D) (i : ℕ) → (In (start j x u f) g ⊎ (start j x u f ≡ start k w t from))
          → (In (start j y z i) g ⊎ (start j y z i ≡ start k w t from)) → u ≡ z
      one_task j x u f y z i (inl a) (inl b) = s.one_task j x u f y z i a b
      one_task j x u f y z i (inl a) (inr b) = let n : j ≡ k = cc in let c = s.below j x u f a in let e = step.allowed.number in
          absurd (omega (arith, n, c, e))
      one_task j x u f y z i (inr a) (inl b) = let n : j ≡ k = cc in let c = s.below j y z i b in let e = step.allowed.number in
          absurd (omega (arith, n, c, e))
      one_task j x u f y z i (inr a) (inr b) = let p : u ≡ t = cc in let q : z ≡ t = cc in p ∙ sym q

  says_lost : (p : Plan) (g : List (Event D)) (v : Standing D) (w c : ℕ) → Says g v → Step job p v (lost w c)
      → Says (g ++ lost w c ∷ []) (after job v (lost w c))
  says_lost p g v w c s step =
      record {
        numbered = numbered_step job laws p v (lost w c) s.numbered step;
        told = λ x d h. let a = filter_has w x (v.places d) h in let b = s.told x d a.0 in
            (pub_more g (lost w c) x d b.0, λ l. cases x a.1 b.1 (in_last (lost x l.0) g (lost w c) l.1));
        stands = λ x d q l. has_filter w x (v.places d) (s.stands x d (quiet_back g (lost w c) quiet x d q) (λ y. l (lost_on g (lost w c) x y)))
            (λ e. l (c, subst (λ y. In (lost y c) (g ++ lost w c ∷ [])) e (last_in g (lost w c))));
        orders = λ o i. let a = s.orders o (in_filter (λ (q : OpenStart D). not (nat_eq w q.worker)) o v.orders i) in
            (more g (lost w c) _ a.0, λ l. cases o.worker (apart o v.orders i) a.1 (in_last (lost o.worker l.0) g (lost w c) l.1));
        below = λ k x t f i. s.below k x t f (quiet_start g (lost w c) quiet k x t f i);
        closes = λ k m y x i. s.closes k m y x (quiet_done g (lost w c) quiet k m y x i);
        one = λ k x t f y z i a b. s.one k x t f y z i (quiet_start g (lost w c) quiet k x t f a) (quiet_start g (lost w c) quiet k y z i b);
        one_task = λ k x t f y z i a b. s.one_task k x t f y z i (quiet_start g (lost w c) quiet k x t f a)
            (quiet_start g (lost w c) quiet k y z i b);
        gone = λ x l. gone x (in_last (lost x l.0) g (lost w c) l.1);
      }
    where
      quiet : Quiet (lost w c)
      quiet = ((λ k x t f h. cc), (λ k m y z h. cc))

      cases : (x : ℕ) {n : ℕ} → (w ≡ x → ⊥) → (LostIn g x → ⊥) → (In (lost x n) g ⊎ Same (lost x n) (lost w c)) → ⊥
      cases x {n} a b (inl i) = b (n, i)
      cases x {n} a b (inr h) = let q : w ≡ x = cc in a q

      gone : (x : ℕ) {n : ℕ} → (In (lost x n) g ⊎ Same (lost x n) (lost w c)) → list_any (nat_eq x) (v.gone ++ w ∷ []) ≡ true
      gone x {n} (inl i) = any_join_left (nat_eq x) v.gone (w ∷ []) (s.gone x (n, i))
      gone x {n} (inr h) = let q : x ≡ w = cc in any_join_last (nat_eq x) v.gone w (eq-eqb x w q)

      apart : (o : OpenStart D) (os : List (OpenStart D)) → In o (filter (λ (q : OpenStart D). not (nat_eq w q.worker)) os) → w ≡ o.worker → ⊥
      apart o [] i e = absurd i
      apart o (y ∷ ys) i e = pick (bool_cases (nat_eq w y.worker)) (apart o ys)
        where
          F : Bool → List (OpenStart D)
          F b = cond (not b) (y ∷ filter (λ (q : OpenStart D). not (nat_eq w q.worker)) ys) (filter (λ (q : OpenStart D). not (nat_eq w q.worker)) ys)

          pick : ((nat_eq w y.worker ≡ true) ⊎ (nat_eq w y.worker ≡ false))
              → (In o (filter (λ (q : OpenStart D). not (nat_eq w q.worker)) ys) → w ≡ o.worker → ⊥) → ⊥
          pick (inl t) r = r (subst (λ b. In o (cond (not b) (y ∷ filter (λ (q : OpenStart D). not (nat_eq w q.worker)) ys)
              (filter (λ (q : OpenStart D). not (nat_eq w q.worker)) ys))) t i) e
          pick (inr f) r = turn (subst (λ b. In o (cond (not b) (y ∷ filter (λ (q : OpenStart D). not (nat_eq w q.worker)) ys)
              (filter (λ (q : OpenStart D). not (nat_eq w q.worker)) ys))) f i)
            where
              turn : ((o ≡ y) ⊎ In o (filter (λ (q : OpenStart D). not (nat_eq w q.worker)) ys)) → ⊥
              turn (inl h) = let q : nat_eq w y.worker ≡ true = eq-eqb w y.worker (e ∙ ap (λ (z : OpenStart D). z.worker) h) in cc
              turn (inr j) = r j e

  pub says_step : (p : Plan) (g : List (Event D)) (v : Standing D) (e : Event D) → Says g v → Step job p v e → Says (g ++ e ∷ []) (after job v e)
  says_step p g v (start k w t from) s step = says_start p g v k w t from s step
  says_step p g v (done k made copied spawned) s step = says_done p g v k made copied spawned s step
  says_step p g v (saved k j mark refs holds spawned) s step =
      let a = after_saved job laws v k j mark refs holds spawned step.allowed.0 step.allowed.1 in
      subst (Says (g ++ saved k j mark refs holds spawned ∷ [])) (sym a)
      (says_less g (saved k j mark refs holds spawned) v _ s (λ w c h. cc) ((λ x w t f h. cc), (λ x m c z h. cc))
      (subst (Numbered job laws) a (numbered_step job laws p v (saved k j mark refs holds spawned) s.numbered step)) refl refl refl
      (λ o i. in_filter (λ (q : OpenStart D). not (nat_eq k q.number)) o v.orders i))
  says_step p g v (missed k d loss) s step =
      let a = after_missed job laws v k d loss step.allowed.0 step.allowed.1 in
      subst (Says (g ++ missed k d loss ∷ [])) (sym a)
      (says_less g (missed k d loss) v _ s (λ w c h. cc) ((λ x w t f h. cc), (λ x m c z h. cc))
      (subst (Numbered job laws) a (numbered_step job laws p v (missed k d loss) s.numbered step)) refl refl refl
      (λ o i. in_filter (λ (q : OpenStart D). not (nat_eq k q.number)) o v.orders i))
  says_step p g v (lost w c) s step = says_lost p g v w c s step

  says_all : (p : Plan) (g : List (Event D)) (v : Standing D) (h : List (Event D)) → Says g v → LawfulFrom job p v h
      → Says (g ++ h) (after_all job v h)
  says_all p g v [] s l = subst (λ x. Says x v) (sym (append-nil g)) s
  says_all p g v (e ∷ es) s l =
      subst (λ x. Says x (after_all job (after job v e) es)) (append_assoc g (e ∷ []) es)
      (says_all p (g ++ e ∷ []) (after job v e) es (says_step p g v e s l.0) l.1)

  pub says_start_none : Says [] (before_all job)
  says_start_none =
      record {
        numbered = record { below = tt; one = λ a b i j q. absurd i };
        told = λ w d a. cc;
        stands = λ w d q n. absurd q.begun;
        orders = λ o i. absurd i;
        below = λ k w t f i. absurd i;
        closes = λ k m c x i. absurd i;
        one = λ k w t f u s i a b. absurd a;
        one_task = λ k w t f u s i a b. absurd a;
        gone = λ w l. absurd l.1;
      }

  pub says_lawful : (p : Plan) (h : List (Event D)) → Lawful job p h → Says h (after_all job (before_all job) h)
  says_lawful p h l =
      says_all p [] (before_all job) h says_start_none l

  -- who has a description after a lawful history is who has a Done with it and no Lost
  pub places_text : (p : Plan) (h : List (Event D)) → Lawful job p h → (w : ℕ) (d : D)
      → Has (after_all job (before_all job) h).places w d ↔ (Published h w d × (LostIn h w → ⊥))
  places_text p h l w d = let s = says_lawful p h l in (s.told w d, λ q. s.stands w d q.0 q.1)
