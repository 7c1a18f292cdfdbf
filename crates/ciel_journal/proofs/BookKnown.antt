-- All that tasks wait for and hold is in the book, where the job tells where it comes from.
use Rattle.std.proofs.Common.{◌≡◌, ℕ, zero, suc, ◌-◌, ◌≤◌, ◌<◌, List, [], ◌∷◌, ◌++◌, append_assoc, length, Bool, true, false, not, cond, ◌||◌, Option}
use Rattle.std.proofs.Common.{Some, None, ◌⊎◌, inl, inr, refl, ap, sym, ◌∙◌, subst, arith, nat_eq, nat_lt, eq-eqb}
use Rattle.std.specs.List.{list_any}
use Rattle.ciel_journal.specs.Job.{Task, show, of, Job, In, Each, IsJob, WaitOf, after_wait, made_before, made_in, waits_in}
use Rattle.ciel_journal.specs.History.{Event, start, done, saved, missed, lost, OpenStart, Plan, Save, Standing, after, after_all, before_all, better}
use Rattle.ciel_journal.specs.History.{last, last_save, learned, live_if, live_in, names_of, needs, order_of, placed, same_task, wait_number}
use Rattle.ciel_journal.specs.Lawful.{Copied, Given, LawfulFrom, NextEnd, NextWait, SpawnedTo, SpawnedToEnd, Allowed, own_name}
use Rattle.ciel_journal.specs.Known.{Around, Begins, HandedTo, HandedToEnd, HeadsFirst, Inner, Knows, TellsTo, TellsToEnd, Whole}
use Rattle.ciel_journal.proofs.Members.{any_in, in_any, each_of, bool_cases}
use Rattle.ciel_journal.proofs.Batches.{WithOutputs, book_heads, end_whole, segment_whole}
use Rattle.ciel_journal.proofs.Booked.{each_more, learned_cases, one_has}
use Rattle.ciel_journal.proofs.Bound.{task_exact}
use Rattle.ciel_journal.proofs.Circle.{wait_at_end}
use Rattle.ciel_journal.proofs.Good.{SavesOk, each_join, after_done, after_saved, after_missed, last_ok, saves_step}
use Rattle.ciel_journal.proofs.Near.{each_all}
use Rattle.ciel_journal.proofs.Numbers.{found_in, in_filter, in_last}
use Rattle.ciel_journal.proofs.Shelved.{Shelved, least_has, learned_in, made_output, shelved_start, shelved_step, started_own}
use Rattle.ciel_journal.proofs.Text.{Has, filter_has, placed_cases}
use Rattle.ciel_journal.proofs.Splits.{get_short, made_split, before_split, later_part, part_before}
use Rattle.ciel_journal.proofs.Unique.{spawned_end_unique, spawned_to_unique}

module _ {D : Type 0} (job : Job D) (laws : IsJob job) where
  pub learned_has : (book ds : List D) (d : D) → In d ds → In d (learned job book ds)
  learned_has book [] d i = absurd i
  learned_has book (e ∷ es) d (inl s) =
      learned_in job laws (cond (list_any (job.same e) book) book (book ++ e ∷ [])) es d
      (subst (λ x. In x (cond (list_any (job.same e) book) book (book ++ e ∷ []))) (sym s)
      (any_in job.same laws.same_exact e (cond (list_any (job.same e) book) book (book ++ e ∷ [])) (one_has job laws book e)))
  learned_has book (e ∷ es) d (inr i) = learned_has (cond (list_any (job.same e) book) book (book ++ e ∷ [])) es d i

  pub learned_from : (book ds : List D) (d : D) → In d (learned job book ds) → In d book ⊎ In d ds
  learned_from book ds d i = pick (learned_cases job laws book ds d (in_any job.same laws.same_refl d (learned job book ds) i))
    where
      pick : ((list_any (job.same d) book ≡ true) ⊎ In d ds) → In d book ⊎ In d ds
      pick (inl h) = inl (any_in job.same laws.same_exact d book h)
      pick (inr j) = inr j

module _ {D : Type 0} (job : Job D) (laws : IsJob job) (inner : Inner D) (knows : Knows job inner) where
  pub record OrderKnown (S : List D) (o : OpenStart D) : Type 0 where
    pub told : TellsTo job inner S o.task o.from
    pub had : (d : D) (w : ℕ) → Has o.had w d → (n : ℕ) (e : D) → In e (inner.carries n d) → In e S
    pub met : (ds : List D) → WaitOf job o.task o.from ds → Each (λ d. live_in job o.had d ≡ true) ds
    pub here : (ds : List D) × WaitOf job o.task o.from ds

  pub record SaveKnown (S : List D) (s : Save D) : Type 0 where
    pub refs : Each (λ d. In d S) s.refs
    pub told : TellsTo job inner S s.task s.j

  pub record Informed (v : Standing D) : Type 0 where
    pub shelved : Shelved job laws v
    pub saves_ok : SavesOk job laws v
    pub whole : (d : D) → In d v.book → Whole job inner v.book d
    pub heads : HeadsFirst job [] v.book
    pub carried : (d : D) (w : ℕ) → Has v.places w d → (n : ℕ) (e : D) → In e (inner.carries n d) → In e v.book
    pub saves : (s : Save D) → In s v.saves → SaveKnown v.book s
    pub orders : (o : OpenStart D) → In o v.orders → OrderKnown v.book o

  -- ---- the book as it grows

  abbrev Grows : List D → List D → Type 0
  Grows S T = (d : D) → In d S → In d T

  whole_more : (S T : List D) → Grows S T → (d : D) → Whole job inner S d → Whole job inner T d
  whole_more S T g d w =
      (each_more (λ e. In e S) (λ e. In e T) g (inner.inside d) w.0, λ t e. each_more (λ x. In x S) (λ x. In x T) g (job.outputs t) (w.1 t e))

  begins_more : (S T : List D) → Grows S T → (t : Task D) → Begins job inner S t → Begins job inner T t
  begins_more S T g show b = g job.main b
  begins_more S T g (of d) b = each_more (λ e. In e S) (λ e. In e T) g (inner.inside d) b

  tells_more : (S T : List D) → Grows S T → (t : Task D) (i : ℕ) → TellsTo job inner S t i → TellsTo job inner T t i
  tells_more S T g t i k =
      record {
        handed = record { begins = begins_more S T g t k.handed.begins; reads = λ j ds d e n l w x c. g e (k.handed.reads j ds d e n l w x c) };
        makes = λ n l. each_more (λ d. In d S) (λ d. In d T) g (made_before i (job.acts n t)) (k.makes n l);
      }

  pub order_more : (S T : List D) → Grows S T → (o : OpenStart D) → OrderKnown S o → OrderKnown T o
  order_more S T g o k =
      record { told = tells_more S T g o.task o.from k.told; had = λ d w h n e i. g e (k.had d w h n e i); met = k.met; here = k.here }

  save_more : (S T : List D) → Grows S T → (s : Save D) → SaveKnown S s → SaveKnown T s
  save_more S T g s k =
      record { refs = each_more (λ d. In d S) (λ d. In d T) g s.refs k.refs; told = tells_more S T g s.task s.j k.told }

  -- where each of these has around it what stands there before it, and all stand in S, each has what is in S
  made_around : (S ds : List D) → Each (λ e. In e S) ds
      → ((before after : List D) (d : D) → ds ≡ before ++ d ∷ after → Each (λ e. In e S) before → Around job inner S d)
      → Each (Around job inner S) ds
  made_around S ds all f = go [] ds tt all (λ before after d e k. f before after d e k)
    where
      go : (front rest : List D) → Each (λ e. In e S) front → Each (λ e. In e S) rest
          → ((before after : List D) (d : D) → front ++ rest ≡ before ++ d ∷ after → Each (λ e. In e S) before → Around job inner S d)
          → Each (Around job inner S) rest
      go front [] a b h = tt
      go front (x ∷ xs) a b h = (
        h front xs x refl a,
        go (front ++ x ∷ []) xs (each_join (λ e. In e S) front (x ∷ []) a (b.0, tt)) b.1
            (λ before after d e k. h before after d (sym (append_assoc front (x ∷ []) xs) ∙ e) k),
      )

  -- what was spawned is whole, where what stands inside is in the book and the outputs of its tasks were spawned too
  new_whole : (book ds : List D) → Each (Around job inner (learned job book ds)) ds → ((x : D) → In x ds → WithOutputs job laws ds x)
      → Each (Whole job inner (learned job book ds)) ds
  new_whole book ds a w =
      each_all (Whole job inner (learned job book ds)) ds
      (λ x i. (
        each_of (Around job inner (learned job book ds)) x ds i a,
        λ t e. each_more (λ o. In o ds) (λ o. In o (learned job book ds)) (λ o k. learned_has job laws book ds o k) (job.outputs t)
            (w x i t e),
      ))

  -- ---- what an order brings along

  pub live_carried : (S : List D) (o : OpenStart D) → OrderKnown S o → (d : D) → live_in job o.had d ≡ true → (n : ℕ) (e : D)
      → In e (inner.carries n d) → In e S
  live_carried S o k d l n e i = pick (job.task_of d) refl l
    where
      some_has : (ws : List ℕ) (t : Task D) → live_if job (Some t) ws ≡ true → (w : ℕ) × (list_any (nat_eq w) ws ≡ true)
      some_has [] t h = cc
      some_has (w ∷ ws) t h = (w, ap (λ b. b || list_any (nat_eq w) ws) (eq-eqb w w refl))

      pick : (x : Option (Task D)) → job.task_of d ≡ x → live_if job x (o.had d) ≡ true → In e S
      pick None h m = absurd (subst (In e) (knows.input_carries d n h) i)
      pick (Some t) h m = let w = some_has (o.had d) t m in k.had d w.0 w.1 n e i

  cases : (a b : ℕ) → (b < a) ⊎ (a ≡ b) ⊎ (a < b)
  cases a b = grind arith

  -- the task comes to the wait from which the order goes on
  pub comes_to : (o : OpenStart D) (ds : List D) (n : ℕ) → WaitOf job o.task o.from ds → job.ended n o.task ≡ true
      → o.from ≤ length (waits_in (job.acts n o.task))
  comes_to o ds n w e = go o.from w
    where
      go : (j : ℕ) → WaitOf job o.task j ds → j ≤ length (waits_in (job.acts n o.task))
      go zero h = omega arith
      go (suc j) h = get_short (waits_in (job.acts n o.task)) j ds (wait_at_end job laws n o.task j ds e h)

  -- what the objects hold that the task of an order waits for at its wait or later
  later_read : (S : List D) (o : OpenStart D) → OrderKnown S o → (k : ℕ) (ds : List D) (d e : D) (n : ℕ) → (o.from < k → Each (Given job o) ds)
      → WaitOf job o.task k ds → In d ds → In e (inner.carries n d) → In e S
  later_read S o known k ds d e n given w i c = pick (cases o.from k)
    where
      pick : ((k < o.from) ⊎ (o.from ≡ k) ⊎ (o.from < k)) → In e S
      pick (inl l) = known.told.handed.reads k ds d e n l w i c
      pick (inr (inl s)) =
          live_carried S o known d (each_of (λ x. live_in job o.had x ≡ true) d ds i
          (known.met ds (subst (λ j. WaitOf job o.task j ds) (sym s) w))) n e c
      pick (inr (inr l)) = live_carried S o known d (each_of (Given job o) d ds i (given l)).1 n e c

  -- what the task of an order was handed before its end, or before its next wait
  pub handed_end : (S : List D) (o : OpenStart D) → OrderKnown S o → NextEnd job (Given job o) o.task o.from → HandedToEnd job inner S o.task
  handed_end S o known next =
      record { begins = known.told.handed.begins; reads = λ k ds d e n w i c. later_read S o known k ds d e n (λ l. next.met k ds l w) w i c }

  pub handed_to : (S : List D) (o : OpenStart D) (j : ℕ) (refs : List D) → OrderKnown S o → NextWait job (Given job o) o.task o.from j refs
      → HandedTo job inner S o.task j
  handed_to S o j refs known next =
      record { begins = known.told.handed.begins; reads = λ k ds d e n u w i c. later_read S o known k ds d e n (λ l. next.met k ds l u w) w i c }

  tells_end : (S : List D) (o : OpenStart D) (spawned : List D) → OrderKnown S o → NextEnd job (Given job o) o.task o.from
      → SpawnedToEnd job o spawned → Each (λ d. In d S) spawned → TellsToEnd job inner S o.task
  tells_end S o spawned known next spawns all =
      record {
        handed = handed_end S o known next;
        makes = λ n e. let s = spawned_end_unique job laws o (made_in (after_wait o.from (job.acts n o.task))) spawned (n, e, refl) spawns in
            subst (Each (λ d. In d S)) (sym (made_split o.from (job.acts n o.task)))
            (each_join (λ d. In d S) (made_before o.from (job.acts n o.task)) (made_in (after_wait o.from (job.acts n o.task)))
            (known.told.makes n (comes_to o known.here.0 n known.here.1 e)) (subst (Each (λ d. In d S)) (sym s) all));
      }

  tells_to : (S : List D) (o : OpenStart D) (j : ℕ) (refs spawned : List D) → OrderKnown S o → NextWait job (Given job o) o.task o.from j refs
      → SpawnedTo job o j spawned → Each (λ d. In d S) spawned → TellsTo job inner S o.task j
  tells_to S o j refs spawned known next spawns all =
      record {
        handed = handed_to S o j refs known next;
        makes = λ n e. let s = spawned_to_unique job laws o j (made_before (j - o.from) (after_wait o.from (job.acts n o.task))) spawned
            next.later (n, e, refl) spawns in
            let l = next.later in
            subst (Each (λ d. In d S)) (sym (before_split o.from j (job.acts n o.task) (omega (arith, l))))
            (each_join (λ d. In d S) (made_before o.from (job.acts n o.task)) (made_before (j - o.from) (after_wait o.from (job.acts n o.task)))
            (known.told.makes n (omega (arith, l, e))) (subst (Each (λ d. In d S)) (sym s) all));
      }

  -- ---- each event

  pub informed_start : Informed (before_all job)
  informed_start =
      record {
        shelved = shelved_start job laws;
        saves_ok = tt;
        whole = whole;
        heads = (λ e k. inl (knows.main_own e k), tt);
        carried =
            λ d w h. cc;
        saves = λ s i. absurd i;
        orders = λ o i. absurd i;
      }
    where
      whole : (d : D) → In d (job.main ∷ []) → Whole job inner (job.main ∷ []) d
      whole d (inr i) = absurd i
      whole d (inl s) = subst (Whole job inner (job.main ∷ [])) (sym s) (
        subst (Each (λ e. In e (job.main ∷ []))) (sym knows.main_inside) tt,
        λ t e. subst (Each (λ x. In x (job.main ∷ []))) (sym (knows.main_outputs t e)) (inl refl, tt),
      )

  -- the last save of a task is one of its saves, or there is none
  pub last_cases : (t : Task D) (ss : List (Save D)) → (last_save job t ss ≡ None)
      ⊎ ((s : Save D) × In s ss × (s.task ≡ t) × (last_save job t ss ≡ Some s))
  last_cases t [] = inl refl
  last_cases t (s ∷ ss) = pick (bool_cases (same_task job t s.task)) (last_save job t ss) refl (last_cases t ss)
    where
      step : (b : Bool) (o : Option (Save D)) → same_task job t s.task ≡ b → last_save job t ss ≡ o → last_save job t (s ∷ ss)
          ≡ cond b (better job s o) o
      step b o e h = ap (λ c. cond c (better job s (last_save job t ss)) (last_save job t ss)) e ∙ ap (λ x. cond b (better job s x) x) h

      mine : same_task job t s.task ≡ true → last_save job t (s ∷ ss) ≡ Some s → (last_save job t (s ∷ ss) ≡ None)
          ⊎ ((x : Save D) × In x (s ∷ ss) × (x.task ≡ t) × (last_save job t (s ∷ ss) ≡ Some x))
      mine e h = inr (s, inl refl, sym (task_exact job laws t s.task e), h)

      later : (q : Save D) → ((last_save job t ss ≡ None) ⊎ ((x : Save D) × In x ss × (x.task ≡ t) × (last_save job t ss ≡ Some x)))
          → last_save job t ss ≡ Some q → last_save job t (s ∷ ss) ≡ Some q → (last_save job t (s ∷ ss) ≡ None)
          ⊎ ((x : Save D) × In x (s ∷ ss) × (x.task ≡ t) × (last_save job t (s ∷ ss) ≡ Some x))
      later q (inl n) h k = let bad : None ≡ Some q = sym n ∙ h in cc
      later q (inr x) h k =
          let e : Some x.0 ≡ Some q = sym x.3 ∙ h in
          let f : x.0 ≡ q = cc in inr (x.0, inr x.1, x.2, k ∙ ap (λ (z : Save D). Some z) (sym f))

      turn : (b : Bool) (q : Save D) → nat_lt q.j s.j ≡ b → same_task job t s.task ≡ true → last_save job t ss ≡ Some q
          → ((last_save job t ss ≡ None) ⊎ ((x : Save D) × In x ss × (x.task ≡ t) × (last_save job t ss ≡ Some x)))
          → (last_save job t (s ∷ ss) ≡ None) ⊎ ((x : Save D) × In x (s ∷ ss) × (x.task ≡ t) × (last_save job t (s ∷ ss) ≡ Some x))
      turn true q l e h r = mine e (step true (Some q) e h ∙ ap (λ c. cond c (Some s) (Some q)) l)
      turn false q l e h r = later q r h (step true (Some q) e h ∙ ap (λ c. cond c (Some s) (Some q)) l)

      pick : ((same_task job t s.task ≡ true) ⊎ (same_task job t s.task ≡ false)) → (o : Option (Save D)) → last_save job t ss ≡ o
          → ((last_save job t ss ≡ None) ⊎ ((x : Save D) × In x ss × (x.task ≡ t) × (last_save job t ss ≡ Some x)))
          → (last_save job t (s ∷ ss) ≡ None) ⊎ ((x : Save D) × In x (s ∷ ss) × (x.task ≡ t) × (last_save job t (s ∷ ss) ≡ Some x))
      pick (inl e) None h r = mine e (step true None e h)
      pick (inl e) (Some q) h r = turn (nat_lt q.j s.j) q refl e h r
      pick (inr e) None h r = inl (step false None e h)
      pick (inr e) (Some q) h r = later q r h (step false (Some q) e h)

  -- before a task starts, the book has all that it was told up to the wait from which it goes on
  pub start_known : (v : Standing D) → Informed v → (t : Task D) → In (own_name job t) v.book → TellsTo job inner v.book t (last job v t)
  start_known v inf t own = pick (last_cases t v.saves)
    where
      begun : (u : Task D) → In (own_name job u) v.book → Begins job inner v.book u
      begun show o = o
      begun (of x) o = (inf.whole x o).0

      pick : ((last_save job t v.saves ≡ None) ⊎ ((s : Save D) × In s v.saves × (s.task ≡ t) × (last_save job t v.saves ≡ Some s)))
          → TellsTo job inner v.book t (last job v t)
      pick (inl n) =
          subst (TellsTo job inner v.book t) (sym (ap (wait_number job) n))
          (record { handed = record { begins = begun t own; reads = λ k ds d e m l w i c. absurd (omega (arith, l)) }; makes = λ m l. tt })
      pick (inr x) =
          subst (λ u. TellsTo job inner v.book u (last job v t)) x.2
          (subst (TellsTo job inner v.book x.0.task) (sym (ap (wait_number job) x.3)) (inf.saves x.0 x.1).told)

  pub informed_step : (p : Plan) (v : Standing D) (e : Event D) → Informed v → Allowed job p v e → Informed (after job v e)
  informed_step p v (start k w t from) inf step =
      record {
        shelved = shelved_step job laws p v (start k w t from) inf.shelved step;
        saves_ok = inf.saves_ok;
        whole = inf.whole;
        heads = inf.heads;
        carried = inf.carried;
        saves = inf.saves;
        orders = λ o i. pick o (in_last o v.orders (order_of job v k w t from) i);
      }
    where
      new : OrderKnown v.book (order_of job v k w t from)
      new =
          record {
            told = subst (TellsTo job inner v.book t) (sym step.from_last)
                (start_known v inf t (started_own job laws p v inf.shelved k w t from step));
            had = inf.carried;
            met = step.met;
            here = (needs job v t, subst (λ j. WaitOf job t j (needs job v t)) (sym step.from_last) (last_ok job laws t v.saves inf.saves_ok));
          }

      pick : (o : OpenStart D) → (In o v.orders ⊎ (o ≡ order_of job v k w t from)) → OrderKnown v.book o
      pick o (inl i) = inf.orders o i
      pick o (inr s) = subst (OrderKnown v.book) (sym s) new
  informed_step p v (done k made copied spawned) inf step =
      let a = step in
      let sh = shelved_step job laws p v (done k made copied spawned) inf.shelved step in
      subst Informed (sym (after_done job laws v k made copied spawned a.0 a.1))
      (record {
        shelved = subst (Shelved job laws) (after_done job laws v k made copied spawned a.0 a.1) sh;
        saves_ok = subst (SavesOk job laws) (after_done job laws v k made copied spawned a.0 a.1)
            (saves_step job laws p v (done k made copied spawned) inf.saves_ok step);
        whole = whole;
        heads = book_heads job laws v.book spawned inf.heads ends.1;
        carried = carried;
        saves = λ s i. save_more v.book (learned job v.book spawned) grow s (inf.saves s i);
        orders = λ o i. order_more v.book (learned job v.book spawned) grow o
            (inf.orders o (in_filter (λ (x : OpenStart D). not (nat_eq k x.number)) o v.orders i));
      })
    where
      grow : Grows v.book (learned job v.book spawned)
      grow = learned_in job laws v.book spawned

      order : In step.0 v.orders
      order = (found_in job laws k v.orders step.0 step.1).0

      known : OrderKnown (learned job v.book spawned) step.0
      known = order_more v.book (learned job v.book spawned) grow step.0 (inf.orders step.0 order)

      tells : TellsToEnd job inner (learned job v.book spawned) step.0.task
      tells =
          tells_end (learned job v.book spawned) step.0 spawned known step.2.next step.2.spawns
          (each_all (λ d. In d (learned job v.book spawned)) spawned (learned_has job laws v.book spawned))

      ends : ((x : D) → In x spawned → WithOutputs job laws spawned x) × HeadsFirst job [] spawned
      ends =
          let s = step.2.spawns in
          end_whole job laws step.0.from (job.acts s.0 step.0.task) spawned (knows.batches s.0 step.0.task) s.2

      new : Each (Whole job inner (learned job v.book spawned)) spawned
      new =
          let s = step.2.spawns in
          new_whole v.book spawned (later_part (Around job inner (learned job v.book spawned)) (job.acts s.0 step.0.task) step.0.from spawned s.2
          (made_around (learned job v.book spawned) (made_in (job.acts s.0 step.0.task)) (tells.makes s.0 s.1)
          (λ before after d e k. knows.end_told (learned job v.book spawned) step.0.task s.0 before after d tells.handed e k)))
          ends.0

      whole : (d : D) → In d (learned job v.book spawned) → Whole job inner (learned job v.book spawned) d
      whole d i = pick (learned_from job laws v.book spawned d i)
        where
          pick : (In d v.book ⊎ In d spawned) → Whole job inner (learned job v.book spawned) d
          pick (inl j) = whole_more v.book (learned job v.book spawned) grow d (inf.whole d j)
          pick (inr j) = each_of (Whole job inner (learned job v.book spawned)) d spawned j new

      carried : (d : D) (w : ℕ) → Has (placed job copied step.0.worker (placed job (names_of made) step.0.worker v.places)) w d → (n : ℕ) (e : D)
          → In e (inner.carries n d) → In e (learned job v.book spawned)
      carried d w h n e c =
          pick (placed_cases job laws copied step.0.worker (placed job (names_of made) step.0.worker v.places) w d h)
        where
          turn : (Has v.places w d ⊎ ((w ≡ step.0.worker) × In d (names_of made))) → In e (learned job v.book spawned)
          turn (inl b) = grow e (inf.carried d w b n e c)
          turn (inr b) =
              each_of (λ x. In x (learned job v.book spawned)) e (inner.carries n d) c
              (knows.object_told (learned job v.book spawned) step.0.task n d tells
              (made_output job laws (job.outputs step.0.task) made step.2.marked d b.1))

          pick : (Has (placed job (names_of made) step.0.worker v.places) w d ⊎ ((w ≡ step.0.worker) × In d copied))
              → In e (learned job v.book spawned)
          pick (inl b) = turn (placed_cases job laws (names_of made) step.0.worker v.places w d b)
          pick (inr b) =
              let f = each_of (Copied job step.0) d copied b.1 step.2.fetched in
              known.had d f.1.0 (least_has job laws (step.0.had d) f.1.0 f.1.1.0) n e c
  informed_step p v (saved k j mark refs holds spawned) inf step =
      let a = step in
      let sh = shelved_step job laws p v (saved k j mark refs holds spawned) inf.shelved step in
      subst Informed (sym (after_saved job laws v k j mark refs holds spawned a.0 a.1))
      (record {
        shelved = subst (Shelved job laws) (after_saved job laws v k j mark refs holds spawned a.0 a.1) sh;
        saves_ok = subst (SavesOk job laws) (after_saved job laws v k j mark refs holds spawned a.0 a.1)
            (saves_step job laws p v (saved k j mark refs holds spawned) inf.saves_ok step);
        whole = whole;
        heads = book_heads job laws v.book spawned inf.heads part.1;
        carried = λ d w h n e c. grow e (inf.carried d w h n e c);
        saves = λ s i. turn s (in_last s v.saves (record { task = a.0.task; j = j; worker = a.0.worker; refs = refs; holds = holds }) i);
        orders = λ o i. order_more v.book (learned job v.book spawned) grow o
            (inf.orders o (in_filter (λ (x : OpenStart D). not (nat_eq k x.number)) o v.orders i));
      })
    where
      grow : Grows v.book (learned job v.book spawned)
      grow = learned_in job laws v.book spawned

      order : In step.0 v.orders
      order = (found_in job laws k v.orders step.0 step.1).0

      known : OrderKnown (learned job v.book spawned) step.0
      known = order_more v.book (learned job v.book spawned) grow step.0 (inf.orders step.0 order)

      tells : TellsTo job inner (learned job v.book spawned) step.0.task j
      tells =
          tells_to (learned job v.book spawned) step.0 j refs spawned known step.2.next step.2.spawns
          (each_all (λ d. In d (learned job v.book spawned)) spawned (learned_has job laws v.book spawned))

      part : ((x : D) → In x spawned → WithOutputs job laws spawned x) × HeadsFirst job [] spawned
      part =
          let s = step.2.spawns in
          segment_whole job laws step.0.from (j - step.0.from) (job.acts s.0 step.0.task) spawned (knows.batches s.0 step.0.task) s.2

      new : Each (Whole job inner (learned job v.book spawned)) spawned
      new =
          let s = step.2.spawns in
          let l = step.2.next.later in
          new_whole v.book spawned (part_before (Around job inner (learned job v.book spawned)) (job.acts s.0 step.0.task) step.0.from j spawned
          (omega (arith, l)) s.2 (made_around (learned job v.book spawned) (made_before j (job.acts s.0 step.0.task)) (tells.makes s.0 s.1)
          (λ before after d e k. knows.made_told (learned job v.book spawned) step.0.task j s.0 before after d tells.handed e k)))
          part.0

      whole : (d : D) → In d (learned job v.book spawned) → Whole job inner (learned job v.book spawned) d
      whole d i = pick (learned_from job laws v.book spawned d i)
        where
          pick : (In d v.book ⊎ In d spawned) → Whole job inner (learned job v.book spawned) d
          pick (inl q) = whole_more v.book (learned job v.book spawned) grow d (inf.whole d q)
          pick (inr q) = each_of (Whole job inner (learned job v.book spawned)) d spawned q new

      turn : (s : Save D) → (In s v.saves ⊎ (s ≡ record { task = step.0.task; j = j; worker = step.0.worker; refs = refs; holds = holds }))
          → SaveKnown (learned job v.book spawned) s
      turn s (inl i) = save_more v.book (learned job v.book spawned) grow s (inf.saves s i)
      turn s (inr e) =
          subst (SaveKnown (learned job v.book spawned)) (sym e)
          (record {
            refs = knows.waits_told (learned job v.book spawned) step.0.task j refs tells step.2.next.waits;
            told = tells;
          })
  informed_step p v (missed k d loss) inf step =
      let a = step in
      let sh = shelved_step job laws p v (missed k d loss) inf.shelved step in
      subst Informed (sym (after_missed job laws v k d loss a.0 a.1))
      (record {
        shelved = subst (Shelved job laws) (after_missed job laws v k d loss a.0 a.1) sh;
        saves_ok = subst (SavesOk job laws) (after_missed job laws v k d loss a.0 a.1) (saves_step job laws p v (missed k d loss) inf.saves_ok step);
        whole = inf.whole;
        heads = inf.heads;
        carried = inf.carried;
        saves = inf.saves;
        orders = λ o i. inf.orders o (in_filter (λ (x : OpenStart D). not (nat_eq k x.number)) o v.orders i);
      })
  informed_step p v (lost w closes) inf step =
      record {
        shelved = shelved_step job laws p v (lost w closes) inf.shelved step;
        saves_ok = saves_step job laws p v (lost w closes) inf.saves_ok step;
        whole = inf.whole;
        heads = inf.heads;
        carried = λ d u h n e c. inf.carried d u (filter_has job laws w u (v.places d) h).0 n e c;
        saves = λ s i. inf.saves s (in_filter (λ (x : Save D). not (nat_eq w x.worker)) s v.saves i);
        orders = λ o i. inf.orders o (in_filter (λ (x : OpenStart D). not (nat_eq w x.worker)) o v.orders i);
      }

  pub informed_all : (p : Plan) (v : Standing D) (h : List (Event D)) → Informed v → LawfulFrom job p v h → Informed (after_all job v h)
  informed_all p v [] s l = s
  informed_all p v (e ∷ es) s l = informed_all p (after job v e) es (informed_step p v e s l.0.allowed) l.1
