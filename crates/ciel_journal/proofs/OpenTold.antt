-- Which Starts are open and which waits are saved, said of the whole history.
use Rattle.std.proofs.Common.{◌≡◌, ℕ, ◌<◌, List, [], ◌∷◌, ◌++◌, Bool, true, false, not, nat_eq, Some, ◌⊎◌, inl, inr, refl, ap, sym, ◌∙◌, subst}
use Rattle.std.proofs.Common.{arith, filter, eqb-true, eq-eqb, append-nil, append_assoc, ◌↔◌}
use Rattle.ciel_journal.specs.Job.{Digest, Task, Job, In, IsJob}
use Rattle.ciel_journal.specs.History.{Event, OpenStart, Plan, Save, Standing, after, after_all, before_all, closed, done, done_with, find_open, lost}
use Rattle.ciel_journal.specs.History.{missed, order_of, saved, saved_with, standing, start}
use Rattle.ciel_journal.specs.Lawful.{Lawful, LawfulFrom, Step}
use Rattle.ciel_journal.specs.Live.{ClosedIn, LostIn, OpenIn, SavedIn, closer}
use Rattle.ciel_journal.proofs.Members.{bool_cases, each_of}
use Rattle.ciel_journal.proofs.Good.{after_done, after_missed, after_saved}
use Rattle.ciel_journal.proofs.Numbers.{filter_in, found_in, in_filter, in_last, in_left, kept_test, last_in}
use Rattle.ciel_journal.proofs.Text.{Says, says_start_none, says_step}

module _ {D : Type 0} where
  closed_on : (g : List (Event D)) (e : Event D) (k : ℕ) → ClosedIn g k → ClosedIn (g ++ e ∷ []) k
  closed_on g e k c = (c.0, in_left c.0 g (e ∷ []) c.1, c.2)

  closed_now : (g : List (Event D)) (e : Event D) (k : ℕ) → closer e ≡ Some k → ClosedIn (g ++ e ∷ []) k
  closed_now g e k h = (e, last_in g e, h)

  closed_back : (g : List (Event D)) (e : Event D) (k : ℕ) → ClosedIn (g ++ e ∷ []) k → ClosedIn g k ⊎ (closer e ≡ Some k)
  closed_back g e k c = pick (in_last c.0 g e c.1)
    where
      pick : (In c.0 g ⊎ (c.0 ≡ e)) → ClosedIn g k ⊎ (closer e ≡ Some k)
      pick (inl i) = inl (c.0, i, c.2)
      pick (inr s) = inr (sym (ap closer s) ∙ c.2)

  abbrev save_of : Task D → (j worker : ℕ) → (refs holds : List D) → Save D
  save_of t j w r h = record { task = t; j = j; worker = w; refs = r; holds = h }

  abbrev Same : Event D → Event D → Type 0
  Same a b = a ≡ b

  abbrev OrderOf : Standing D → ℕ → ℕ → Task D → ℕ → Type 0
  OrderOf v k w t f =
      (o : OpenStart D) × In o v.orders × (o.number ≡ k) × (o.worker ≡ w) × (o.task ≡ t) × (o.from ≡ f)

not_not : (b : Bool) → not b ≡ true → b ≡ false
not_not true h = cc
not_not false h = refl

other : (k n : ℕ) → (k ≡ n → ⊥) → not (nat_eq k n) ≡ true
other k n h = pick (bool_cases (nat_eq k n))
  where
    pick : ((nat_eq k n ≡ true) ⊎ (nat_eq k n ≡ false)) → not (nat_eq k n) ≡ true
    pick (inl e) = absurd (h (eqb-true k n e))
    pick (inr e) = ap not e

differ : (k n : ℕ) → not (nat_eq k n) ≡ true → k ≡ n → ⊥
differ k n h e = let a : nat_eq k n ≡ true = eq-eqb k n e in let b : false ≡ true = sym (ap not a) ∙ h in cc

module _ {D : Type 0} (job : Job D) (laws : IsJob job) where
  pub record Tells (g : List (Event D)) (v : Standing D) : Type 0 where
    pub says : Says job laws g v
    pub unclosed : (o : OpenStart D) → In o v.orders → ClosedIn g o.number → ⊥
    pub opened : (k w : ℕ) (t : Task D) (f : ℕ) → OpenIn g k w t f → OrderOf v k w t f
    pub below : (k : ℕ) → ClosedIn g k → k < v.starts
    pub told : (s : Save D) → In s v.saves → SavedIn g s.worker s.task s.j s.refs s.holds
    pub stands : (w : ℕ) (t : Task D) (j : ℕ) (r h : List D) → SavedIn g w t j r h
        → In (record { task = t; j = j; worker = w; refs = r; holds = h }) v.saves

  saved_on : (g : List (Event D)) (e : Event D) → ((w c : ℕ) → lost w c ≡ e → ⊥) → (w : ℕ) (t : Task D) (j : ℕ) (r h : List D)
      → SavedIn g w t j r h → SavedIn (g ++ e ∷ []) w t j r h
  saved_on g e n w t j r h s =
      record {
        number = s.number;
        from = s.from;
        mark = s.mark;
        spawned = s.spawned;
        begun = in_left _ g (e ∷ []) s.begun;
        ended =
            in_left _ g (e ∷ []) s.ended;
        here = λ l. s.here (back l);
      }
    where
      back : LostIn (g ++ e ∷ []) w → LostIn g w
      back l = pick (in_last (lost w l.0) g e l.1)
        where
          pick : (In (lost w l.0) g ⊎ (lost w l.0 ≡ e)) → LostIn g w
          pick (inl i) = (l.0, i)
          pick (inr q) = absurd (n w l.0 q)

  -- the order that an entry closes has the number that it names
  closing : (g : List (Event D)) (v : Standing D) (k : ℕ) (o : OpenStart D) → Tells g v → find_open job k v.orders ≡ Some o → k < v.starts
  closing g v k o s f =
      let q = found_in job laws k v.orders o f in
      let b = each_of (λ (x : OpenStart D). x.number < v.starts) o v.orders q.0 s.says.numbered.below in
      subst (λ n. n < v.starts) (sym q.1) b

  -- an entry that closes a Start
  tells_close : (g : List (Event D)) (e : Event D) (v u : Standing D) (k : ℕ) (o : OpenStart D) → Tells g v → Says job laws (g ++ e ∷ []) u
      → closer e ≡ Some k → find_open job k v.orders ≡ Some o → u.orders ≡ filter (λ (x : OpenStart D). not (nat_eq k x.number)) v.orders
      → u.starts ≡ v.starts → ((n w : ℕ) (t : Task D) (f : ℕ) → start n w t f ≡ e → ⊥) → ((w c : ℕ) → lost w c ≡ e → ⊥)
      → ((x : Save D) → In x u.saves → SavedIn (g ++ e ∷ []) x.worker x.task x.j x.refs x.holds)
      → ((w : ℕ) (t : Task D) (j : ℕ) (r h : List D) → SavedIn (g ++ e ∷ []) w t j r h
      → In (record { task = t; j = j; worker = w; refs = r; holds = h }) u.saves) → Tells (g ++ e ∷ []) u
  tells_close g e v u k o s says c f os st ns nl told stands =
      record { says = says; unclosed = unclosed; opened = opened; below = below; told = told; stands = stands }
    where
      unclosed : (x : OpenStart D) → In x u.orders → ClosedIn (g ++ e ∷ []) x.number → ⊥
      unclosed x i z = pick (closed_back g e x.number z)
        where
          i' : In x (filter (λ (y : OpenStart D). not (nat_eq k y.number)) v.orders)
          i' = subst (In x) os i

          pick : (ClosedIn g x.number ⊎ (closer e ≡ Some x.number)) → ⊥
          pick (inl y) = s.unclosed x (in_filter (λ (y : OpenStart D). not (nat_eq k y.number)) x v.orders i') y
          pick (inr y) =
              let a : Some k ≡ Some x.number = sym c ∙ y in
              let b : k ≡ x.number = cc in
              differ k x.number (kept_test (λ (y : OpenStart D). not (nat_eq k y.number)) x v.orders i') b

      opened : (n w : ℕ) (t : Task D) (f' : ℕ) → OpenIn (g ++ e ∷ []) n w t f' → OrderOf u n w t f'
      opened n w t f' y =
          let i = begun (in_last (start n w t f') g e y.begun) in
          let q = s.opened n w t f' (record {
            begun = i;
            unclosed = λ z. y.unclosed (closed_on g e n z);
            here =
                λ z. y.here (z.0, in_left (lost w z.0) g (e ∷ []) z.1);
          }) in (
            q.0,
            subst (In q.0) (sym os) (filter_in (λ (x : OpenStart D). not (nat_eq k x.number)) q.0 v.orders q.1
                (other k q.0.number (λ z. y.unclosed (closed_now g e n (c ∙ ap Some (z ∙ q.2)))))),
            q.2,
            q.3,
            q.4,
            q.5,
          )
        where
          begun : (In (start n w t f') g ⊎ (start n w t f' ≡ e)) → In (start n w t f') g
          begun (inl i) = i
          begun (inr z) = absurd (ns n w t f' z)

      below : (n : ℕ) → ClosedIn (g ++ e ∷ []) n → n < u.starts
      below n z = subst (λ m. n < m) (sym st) (pick (closed_back g e n z))
        where
          pick : (ClosedIn g n ⊎ (closer e ≡ Some n)) → n < v.starts
          pick (inl y) = s.below n y
          pick (inr y) =
              let a : Some k ≡ Some n = sym c ∙ y in
              let b : k ≡ n = cc in
              subst (λ m. m < v.starts) b (closing g v k o s f)

  -- a Done or a Missed saves nothing
  same_told : (g : List (Event D)) (e : Event D) (v : Standing D) → Tells g v → ((w c : ℕ) → lost w c ≡ e → ⊥) → (x : Save D) → In x v.saves
      → SavedIn (g ++ e ∷ []) x.worker x.task x.j x.refs x.holds
  same_told g e v s nl x i = saved_on g e nl x.worker x.task x.j x.refs x.holds (s.told x i)

  same_stands : (g : List (Event D)) (e : Event D) (v : Standing D) → Tells g v → ((n w : ℕ) (t : Task D) (f : ℕ) → start n w t f ≡ e → ⊥)
      → ((n j : ℕ) (m : Digest) (r h sp : List D) → saved n j m r h sp ≡ e → ⊥) → (w : ℕ) (t : Task D) (j : ℕ) (r h : List D)
      → SavedIn (g ++ e ∷ []) w t j r h → In (record { task = t; j = j; worker = w; refs = r; holds = h }) v.saves
  same_stands g e v s ns nv w t j r h x =
      s.stands w t j r h (record {
        number = x.number;
        from = x.from;
        mark = x.mark;
        spawned = x.spawned;
        begun = a (in_last _ g e x.begun);
        ended = b (in_last _ g e x.ended);
        here = λ l. x.here (l.0, in_left (lost w l.0) g (e ∷ []) l.1);
      })
    where
      a : (In (start x.number w t x.from) g ⊎ (start x.number w t x.from ≡ e)) → In (start x.number w t x.from) g
      a (inl i) = i
      a (inr q) = absurd (ns x.number w t x.from q)

      b : (In (saved x.number j x.mark r h x.spawned) g ⊎ (saved x.number j x.mark r h x.spawned ≡ e)) → In (saved x.number j x.mark r h x.spawned) g
      b (inl i) = i
      b (inr q) = absurd (nv x.number j x.mark r h x.spawned q)

  tells_step : (p : Plan) (g : List (Event D)) (v : Standing D) (e : Event D) → Tells g v → Step job p v e → Tells (g ++ e ∷ []) (after job v e)
  tells_step p g v (start k w t f) s step =
      record {
        says = says_step job laws p g v (start k w t f) s.says step;
        unclosed = λ o i. unclosed o (in_last o v.orders (order_of job v k w t f) i);
        opened = opened;
        below = λ n z. let a = s.below n (back n z) in omega (arith, a);
        told = λ x i. saved_on g (start k w t f) (λ a c h. cc) x.worker x.task x.j x.refs x.holds (s.told x i);
        stands = stands;
      }
    where
      back : (n : ℕ) → ClosedIn (g ++ start k w t f ∷ []) n → ClosedIn g n
      back n z = pick (closed_back g (start k w t f) n z)
        where
          pick : (ClosedIn g n ⊎ (closer (start k w t f) ≡ Some n)) → ClosedIn g n
          pick (inl y) = y
          pick (inr y) = cc

      fresh : ClosedIn g k → ⊥
      fresh z = let a = s.below k z in let b = step.allowed.number in omega (arith, a, b)

      unclosed : (o : OpenStart D) → (In o v.orders ⊎ (o ≡ order_of job v k w t f)) → ClosedIn (g ++ start k w t f ∷ []) o.number → ⊥
      unclosed o (inl i) z = s.unclosed o i (back o.number z)
      unclosed o (inr q) z = fresh (subst (ClosedIn g) (ap (λ (x : OpenStart D). x.number) q) (back o.number z))

      opened : (n x : ℕ) (u : Task D) (f' : ℕ) → OpenIn (g ++ start k w t f ∷ []) n x u f' → OrderOf (after job v (start k w t f)) n x u f'
      opened n x u f' y = pick (in_last (start n x u f') g (start k w t f) y.begun)
        where
          pick : (In (start n x u f') g ⊎ (start n x u f' ≡ start k w t f)) → OrderOf (after job v (start k w t f)) n x u f'
          pick (inl i) =
              let q = s.opened n x u f' (record {
                begun = i;
                unclosed = λ z. y.unclosed (closed_on g (start k w t f) n z);
                here =
                    λ z. y.here (z.0, in_left (lost x z.0) g (start k w t f ∷ []) z.1);
              }) in
              (q.0, in_left q.0 v.orders (order_of job v k w t f ∷ []) q.1, q.2, q.3, q.4, q.5)
          pick (inr h) =
              let a : n ≡ k = cc in
              let b : x ≡ w = cc in
              let c : u ≡ t = cc in
              let d : f' ≡ f = cc in
              (order_of job v k w t f, last_in v.orders (order_of job v k w t f), sym a, sym b, sym c, sym d)

      stands : (x : ℕ) (u : Task D) (j : ℕ) (r h : List D) → SavedIn (g ++ start k w t f ∷ []) x u j r h
          → In (record { task = u; j = j; worker = x; refs = r; holds = h }) v.saves
      stands x u j r h y = pick (in_last (start y.number x u y.from) g (start k w t f) y.begun)
        where
          ended : (In (saved y.number j y.mark r h y.spawned) g ⊎ (saved y.number j y.mark r h y.spawned ≡ start k w t f))
              → In (saved y.number j y.mark r h y.spawned) g
          ended (inl i) = i
          ended (inr q) = cc

          old : In (saved y.number j y.mark r h y.spawned) g
          old = ended (in_last (saved y.number j y.mark r h y.spawned) g (start k w t f) y.ended)

          pick : (In (start y.number x u y.from) g ⊎ (start y.number x u y.from ≡ start k w t f))
              → In (record { task = u; j = j; worker = x; refs = r; holds = h }) v.saves
          pick (inl i) =
              s.stands x u j r h (record {
                number = y.number;
                from = y.from;
                mark = y.mark;
                spawned = y.spawned;
                begun = i;
                ended = old;
                here =
                    λ l. y.here (l.0, in_left (lost x l.0) g (start k w t f ∷ []) l.1);
              })
          pick (inr q) =
              let a : y.number ≡ k = cc in
              absurd (fresh (saved y.number j y.mark r h y.spawned, old, ap Some a))
  tells_step p g v (done k made copied spawned) s step =
      let a = step.allowed in
      let e = after_done job laws v k made copied spawned a.0 a.1 in
      subst (Tells (g ++ done k made copied spawned ∷ [])) (sym e)
      (tells_close g (done k made copied spawned) v (done_with job made copied spawned a.0 (closed job v k)) k a.0 s
      (subst (Says job laws (g ++ done k made copied spawned ∷ [])) e (says_step job laws p g v (done k made copied spawned) s.says step))
      refl a.1 refl refl (λ n w t f h. cc) (λ w c h. cc) (same_told g (done k made copied spawned) v s (λ w c h. cc))
      (same_stands g (done k made copied spawned) v s (λ n w t f h. cc) (λ n j m r h sp q. cc)))
  tells_step p g v (missed k d loss) s step =
      let a = step.allowed in
      let e = after_missed job laws v k d loss a.0 a.1 in
      subst (Tells (g ++ missed k d loss ∷ [])) (sym e)
      (tells_close g (missed k d loss) v (closed job v k) k a.0 s
      (subst (Says job laws (g ++ missed k d loss ∷ [])) e (says_step job laws p g v (missed k d loss) s.says step)) refl a.1 refl refl
      (λ n w t f h. cc) (λ w c h. cc) (same_told g (missed k d loss) v s (λ w c h. cc))
      (same_stands g (missed k d loss) v s (λ n w t f h. cc) (λ n j m r h sp q. cc)))
  tells_step p g v (saved k j mark refs holds spawned) s step =
      let a = step.allowed in
      let e = after_saved job laws v k j mark refs holds spawned a.0 a.1 in
      subst (Tells (g ++ saved k j mark refs holds spawned ∷ [])) (sym e)
      (tells_close g (saved k j mark refs holds spawned) v (saved_with job j refs holds spawned a.0 (closed job v k)) k a.0 s
      (subst (Says job laws (g ++ saved k j mark refs holds spawned ∷ [])) e
      (says_step job laws p g v (saved k j mark refs holds spawned) s.says step)) refl a.1 refl refl (λ n w t f h. cc) (λ w c h. cc)
      (λ x i. told x (in_last x v.saves (record { task = a.0.task; j = j; worker = a.0.worker; refs = refs; holds = holds }) i)) stands)
    where
      order : In step.allowed.0 v.orders
      order = (found_in job laws k v.orders step.allowed.0 step.allowed.1).0

      begun : In (start k step.allowed.0.worker step.allowed.0.task step.allowed.0.from) g × (LostIn g step.allowed.0.worker → ⊥)
      begun =
          let f = found_in job laws k v.orders step.allowed.0 step.allowed.1 in
          let x = s.says.orders step.allowed.0 f.0 in
          (subst (λ n. In (start n step.allowed.0.worker step.allowed.0.task step.allowed.0.from) g) (sym f.1) x.0, x.1)

      lost_of : (w : ℕ) → LostIn (g ++ saved k j mark refs holds spawned ∷ []) w → LostIn g w
      lost_of w l = pick (in_last (lost w l.0) g (saved k j mark refs holds spawned) l.1)
        where
          pick : (In (lost w l.0) g ⊎ (lost w l.0 ≡ saved k j mark refs holds spawned)) → LostIn g w
          pick (inl i) = (l.0, i)
          pick (inr q) = cc

      new : SavedIn (g ++ saved k j mark refs holds spawned ∷ []) step.allowed.0.worker step.allowed.0.task j refs holds
      new =
          record {
            number = k;
            from = step.allowed.0.from;
            mark = mark;
            spawned = spawned;
            begun =
                in_left _ g (saved k j mark refs holds spawned ∷ []) begun.0;
            ended = last_in g (saved k j mark refs holds spawned);
            here =
                λ l. begun.1 (lost_of step.allowed.0.worker l);
          }

      told : (x : Save D) → (In x v.saves
          ⊎ (x ≡ record { task = step.allowed.0.task; j = j; worker = step.allowed.0.worker; refs = refs; holds = holds }))
          → SavedIn (g ++ saved k j mark refs holds spawned ∷ []) x.worker x.task x.j x.refs x.holds
      told x (inl i) =
          saved_on g (saved k j mark refs holds spawned) (λ w c h. cc) x.worker x.task x.j x.refs x.holds (s.told x i)
      told x (inr q) =
          subst (λ (y : Save D). SavedIn (g ++ saved k j mark refs holds spawned ∷ []) y.worker y.task y.j y.refs y.holds) (sym q) new

      stands : (w : ℕ) (t : Task D) (i : ℕ) (r h : List D) → SavedIn (g ++ saved k j mark refs holds spawned ∷ []) w t i r h
          → In (record { task = t; j = i; worker = w; refs = r; holds = h })
          (v.saves ++ record { task = step.allowed.0.task; j = j; worker = step.allowed.0.worker; refs = refs; holds = holds } ∷ [])
      stands w t i r h x = pick (in_last (saved x.number i x.mark r h x.spawned) g (saved k j mark refs holds spawned) x.ended)
        where
          start_old : (In (start x.number w t x.from) g ⊎ (start x.number w t x.from ≡ saved k j mark refs holds spawned))
              → In (start x.number w t x.from) g
          start_old (inl y) = y
          start_old (inr y) = cc

          old : In (start x.number w t x.from) g
          old = start_old (in_last (start x.number w t x.from) g (saved k j mark refs holds spawned) x.begun)

          pick : (In (saved x.number i x.mark r h x.spawned) g ⊎ (saved x.number i x.mark r h x.spawned ≡ saved k j mark refs holds spawned))
              → In (record { task = t; j = i; worker = w; refs = r; holds = h })
              (v.saves ++ record { task = step.allowed.0.task; j = j; worker = step.allowed.0.worker; refs = refs; holds = holds } ∷ [])
          pick (inl y) =
              in_left _ v.saves (record { task = step.allowed.0.task; j = j; worker = step.allowed.0.worker; refs = refs; holds = holds } ∷ [])
              (s.stands w t i r h (record {
                number = x.number;
                from = x.from;
                mark = x.mark;
                spawned = x.spawned;
                begun = old;
                ended = y;
                here =
                    λ l. x.here (l.0, in_left (lost w l.0) g (saved k j mark refs holds spawned ∷ []) l.1);
              }))
          pick (inr y) =
              let n : x.number ≡ k = cc in
              let a : i ≡ j = cc in
              let b : r ≡ refs = cc in
              let c : h ≡ holds = cc in
              let mine : In (start x.number step.allowed.0.worker step.allowed.0.task step.allowed.0.from) g =
              subst (λ m. In (start m step.allowed.0.worker step.allowed.0.task step.allowed.0.from) g) (sym n) begun.0 in
              let ww : w ≡ step.allowed.0.worker = s.says.one x.number w t x.from step.allowed.0.worker step.allowed.0.task step.allowed.0.from
              old mine in
              let tw : t ≡ step.allowed.0.task = s.says.one_task x.number w t x.from step.allowed.0.worker step.allowed.0.task
              step.allowed.0.from old mine in
              subst (λ z. In z (v.saves ++ record {
                task = step.allowed.0.task;
                j = j;
                worker = step.allowed.0.worker;
                refs = refs;
                holds =
                    holds;
              } ∷ [])) (sym (same_save tw a ww b c))
              (last_in v.saves (record { task = step.allowed.0.task; j = j; worker = step.allowed.0.worker; refs = refs; holds = holds }))
            where
              same_save : {t u : Task D} {i l w x : ℕ} {r q h z : List D} → t ≡ u → i ≡ l → w ≡ x → r ≡ q → h ≡ z → save_of t i w r h
                  ≡ save_of u l x q z
              same_save a b c d e = cc
  tells_step p g v (lost w c) s step =
      record {
        says = says_step job laws p g v (lost w c) s.says step;
        unclosed = λ o i z. s.unclosed o (in_filter (λ (x : OpenStart D). not (nat_eq w x.worker)) o v.orders i) (back o.number z);
        opened = opened;
        below = λ n z. s.below n (back n z);
        told = told;
        stands = stands;
      }
    where
      back : (n : ℕ) → ClosedIn (g ++ lost w c ∷ []) n → ClosedIn g n
      back n z = pick (closed_back g (lost w c) n z)
        where
          pick : (ClosedIn g n ⊎ (closer {D = D} (lost w c) ≡ Some n)) → ClosedIn g n
          pick (inl y) = y
          pick (inr y) = cc

      apart : (x : ℕ) → (LostIn (g ++ lost w c ∷ []) x → ⊥) → w ≡ x → ⊥
      apart x n q = n (c, subst (λ y. In (lost y c) (g ++ lost w c ∷ [])) q (last_in g (lost w c)))

      opened : (n x : ℕ) (u : Task D) (f : ℕ) → OpenIn (g ++ lost w c ∷ []) n x u f → OrderOf (after job v (lost w c)) n x u f
      opened n x u f y =
          let q = s.opened n x u f (record {
            begun = old (in_last (start n x u f) g (lost w c) y.begun);
            unclosed =
                λ z. y.unclosed (closed_on g (lost w c) n z);
            here = λ z. y.here (z.0, in_left (lost x z.0) g (lost w c ∷ []) z.1);
          }) in (
            q.0,
            filter_in (λ (o : OpenStart D). not (nat_eq w o.worker)) q.0 v.orders q.1 (other w q.0.worker (λ z. apart x y.here (z ∙ q.3))),
            q.2,
            q.3,
            q.4,
            q.5,
          )
        where
          old : (In (start n x u f) g ⊎ (start n x u f ≡ lost w c)) → In (start n x u f) g
          old (inl i) = i
          old (inr h) = cc

      told : (x : Save D) → In x (filter (λ (y : Save D). not (nat_eq w y.worker)) v.saves)
          → SavedIn (g ++ lost w c ∷ []) x.worker x.task x.j x.refs x.holds
      told x i =
          let y = s.told x (in_filter (λ (y : Save D). not (nat_eq w y.worker)) x v.saves i) in
          record {
            number = y.number;
            from = y.from;
            mark = y.mark;
            spawned = y.spawned;
            begun = in_left _ g (lost w c ∷ []) y.begun;
            ended =
                in_left _ g (lost w c ∷ []) y.ended;
            here = λ l. here y.here (in_last (lost x.worker l.0) g (lost w c) l.1);
          }
        where
          here : {n : ℕ} → (LostIn g x.worker → ⊥) → (In (lost x.worker n) g ⊎ Same {D = D} (lost x.worker n) (lost w c)) → ⊥
          here {n} h (inl j) = h (n, j)
          here {n} h (inr q) =
              let a : w ≡ x.worker = cc in differ w x.worker (kept_test (λ (y : Save D). not (nat_eq w y.worker)) x v.saves i) a

      stands : (x : ℕ) (t : Task D) (j : ℕ) (r h : List D) → SavedIn (g ++ lost w c ∷ []) x t j r h
          → In (record { task = t; j = j; worker = x; refs = r; holds = h }) (filter (λ (y : Save D). not (nat_eq w y.worker)) v.saves)
      stands x t j r h y =
          filter_in (λ (z : Save D). not (nat_eq w z.worker)) (record { task = t; j = j; worker = x; refs = r; holds = h }) v.saves
          (same_stands g (lost w c) v s (λ n u q f e. cc) (λ n i m a b sp q. cc) x t j r h y)
          (other w x (apart x y.here))

  tells_all : (p : Plan) (g : List (Event D)) (v : Standing D) (h : List (Event D)) → Tells g v → LawfulFrom job p v h
      → Tells (g ++ h) (after_all job v h)
  tells_all p g v [] s l = subst (λ x. Tells x v) (sym (append-nil g)) s
  tells_all p g v (e ∷ es) s l =
      subst (λ x. Tells x (after_all job (after job v e) es)) (append_assoc g (e ∷ []) es)
      (tells_all p (g ++ e ∷ []) (after job v e) es (tells_step p g v e s l.0) l.1)

  tells_lawful : (p : Plan) (h : List (Event D)) → Lawful job p h → Tells h (standing job h)
  tells_lawful p h l =
      tells_all p [] (before_all job) h (record {
        says = says_start_none job laws;
        unclosed = λ o i. absurd i;
        opened = λ k w t f o. absurd o.begun;
        below = λ k z. absurd z.1;
        told = λ s i. absurd i;
        stands = λ w t j r h s. absurd s.begun;
      }) l

  pub open_told : (p : Plan) (h : List (Event D)) → Lawful job p h → (k w : ℕ) (t : Task D) (from : ℕ)
      → OrderOf (standing job h) k w t from ↔ OpenIn h k w t from
  open_told p h l k w t from = (there, (tells_lawful p h l).opened k w t from)
    where
      there : OrderOf (standing job h) k w t from → OpenIn h k w t from
      there q =
          let s = tells_lawful p h l in
          let a = s.says.orders q.0 q.1 in
          record {
            begun = subst (λ n. In (start n w t from) h) q.2
                (subst (λ x. In (start q.0.number x t from) h) q.3
                (subst (λ u. In (start q.0.number q.0.worker u from) h) q.4
                (subst (λ f. In (start q.0.number q.0.worker q.0.task f) h) q.5 a.0)));
            unclosed = λ z. s.unclosed q.0 q.1 (subst (ClosedIn h) (sym q.2) z);
            here = λ z. a.1 (subst (LostIn h) (sym q.3) z);
          }

  pub saved_told : (p : Plan) (h : List (Event D)) → Lawful job p h → (s : Save D)
      → In s (standing job h).saves ↔ SavedIn h s.worker s.task s.j s.refs s.holds
  saved_told p h l s = ((tells_lawful p h l).told s, λ x. (tells_lawful p h l).stands s.worker s.task s.j s.refs s.holds x)
