-- What is open and saved is of needed tasks that go by a name of the book, and each description of the book was made by one.
use Rattle.std.proofs.Common.{◌≡◌, ℕ, ◌-◌, List, [], ◌∷◌, not, ◌⊎◌, inl, inr, sym, subst, nat_eq}
use Rattle.ciel_journal.specs.Job.{Digest, Task, Job, In, IsJob, Needed, StateOf, made_in}
use Rattle.ciel_journal.specs.History.{Event, start, done, saved, missed, lost, OpenStart, Plan, Save, Standing, after, after_all, before_all}
use Rattle.ciel_journal.specs.History.{learned, order_of}
use Rattle.ciel_journal.specs.Lawful.{Allowed, LawfulFrom, own_name}
use Rattle.ciel_journal.proofs.BookKnown.{learned_from}
use Rattle.ciel_journal.proofs.Good.{after_done, after_saved, after_missed}
use Rattle.ciel_journal.proofs.Numbers.{found_in, in_filter, in_last}
use Rattle.ciel_journal.proofs.Shelved.{Shelved, learned_in, shelved_start, shelved_step, started_own}
use Rattle.ciel_journal.proofs.Splits.{made_after_in, made_between_in}

module _ {D : Type 0} (job : Job D) (laws : IsJob job) where
  abbrev pub Made : D → Type 0
  Made d = (d ≡ job.main) ⊎ ((t : Task D) × Needed job t × (n : ℕ) × In d (made_in (job.acts n t)))

  abbrev pub OrderTraced : List D → OpenStart D → Type 0
  OrderTraced S o = Needed job o.task × In (own_name job o.task) S

  abbrev pub SaveTraced : List D → Save D → Type 0
  SaveTraced S s =
      Needed job s.task × In (own_name job s.task) S × (mark : Digest) × StateOf job s.task s.j (record { names = s.holds; mark = mark })

  pub record Traced (v : Standing D) : Type 0 where
    pub shelved : Shelved job laws v
    pub book : (d : D) → In d v.book → Made d
    pub orders : (o : OpenStart D) → In o v.orders → OrderTraced v.book o
    pub saves : (s : Save D) → In s v.saves → SaveTraced v.book s

  order_later : (book ds : List D) (o : OpenStart D) → OrderTraced book o → OrderTraced (learned job book ds) o
  order_later book ds o k = (k.0, learned_in job laws book ds (own_name job o.task) k.1)

  save_later : (book ds : List D) (s : Save D) → SaveTraced book s → SaveTraced (learned job book ds) s
  save_later book ds s k = (k.0, learned_in job laws book ds (own_name job s.task) k.1, k.2, k.3)

  -- what was spawned was made by a needed task
  book_later : (book ds : List D) → ((d : D) → In d book → Made d) → ((d : D) → In d ds → Made d) → (d : D) → In d (learned job book ds) → Made d
  book_later book ds old new d i = pick (learned_from job laws book ds d i)
    where
      pick : (In d book ⊎ In d ds) → Made d
      pick (inl j) = old d j
      pick (inr j) = new d j

  traced_start : Traced (before_all job)
  traced_start =
      record { shelved = shelved_start job laws; book = first; orders = λ o i. absurd i; saves = λ s i. absurd i }
    where
      first : (d : D) → In d (job.main ∷ []) → Made d
      first d (inl e) = inl e
      first d (inr i) = absurd i

  traced_step : (p : Plan) (v : Standing D) (e : Event D) → Traced v → Allowed job p v e → Traced (after job v e)
  traced_step p v (start k w t from) kept step =
      record {
        shelved = shelved_step job laws p v (start k w t from) kept.shelved step;
        book = kept.book;
        orders = λ o i. pick o (in_last o v.orders (order_of job v k w t from) i);
        saves = kept.saves;
      }
    where
      pick : (o : OpenStart D) → (In o v.orders ⊎ (o ≡ order_of job v k w t from)) → OrderTraced v.book o
      pick o (inl i) = kept.orders o i
      pick o (inr s) =
          subst (OrderTraced v.book) (sym s) (step.needed, started_own job laws p v kept.shelved k w t from step)
  traced_step p v (done k made copied spawned) kept step =
      let a = step in
      let sh = shelved_step job laws p v (done k made copied spawned) kept.shelved step in
      subst Traced (sym (after_done job laws v k made copied spawned a.0 a.1))
      (record {
        shelved = subst (Shelved job laws) (after_done job laws v k made copied spawned a.0 a.1) sh;
        book = book_later v.book spawned kept.book new;
        orders = λ o i. order_later v.book spawned o (kept.orders o (in_filter (λ (x : OpenStart D). not (nat_eq k x.number)) o v.orders i));
        saves = λ s i. save_later v.book spawned s (kept.saves s i);
      })
    where
      new : (d : D) → In d spawned → Made d
      new d i =
          let a = step in
          let s = a.2.spawns in
          inr (
            a.0.task,
            (kept.orders a.0 (found_in job laws k v.orders a.0 a.1).0).0,
            s.0,
            made_after_in a.0.from (job.acts s.0 a.0.task) d (subst (In d) s.2 i),
          )
  traced_step p v (saved k j mark refs holds spawned) kept step =
      let a = step in
      let sh = shelved_step job laws p v (saved k j mark refs holds spawned) kept.shelved step in
      subst Traced (sym (after_saved job laws v k j mark refs holds spawned a.0 a.1))
      (record {
        shelved = subst (Shelved job laws) (after_saved job laws v k j mark refs holds spawned a.0 a.1) sh;
        book = book_later v.book spawned kept.book new;
        orders = λ o i. order_later v.book spawned o (kept.orders o (in_filter (λ (x : OpenStart D). not (nat_eq k x.number)) o v.orders i));
        saves = λ s i. pick s (in_last s v.saves (record { task = a.0.task; j = j; worker = a.0.worker; refs = refs; holds = holds }) i);
      })
    where
      order : In step.0 v.orders
      order = (found_in job laws k v.orders step.0 step.1).0

      new : (d : D) → In d spawned → Made d
      new d i =
          let a = step in
          let s = a.2.spawns in
          inr (a.0.task, (kept.orders a.0 order).0, s.0, made_between_in a.0.from (j - a.0.from) (job.acts s.0 a.0.task) d (subst (In d) s.2 i))

      pick : (s : Save D) → (In s v.saves ⊎ (s ≡ record { task = step.0.task; j = j; worker = step.0.worker; refs = refs; holds = holds }))
          → SaveTraced (learned job v.book spawned) s
      pick s (inl i) = save_later v.book spawned s (kept.saves s i)
      pick s (inr e) =
          let k = kept.orders step.0 order in
          subst (SaveTraced (learned job v.book spawned)) (sym e)
          (k.0, learned_in job laws v.book spawned (own_name job step.0.task) k.1, mark, step.2.frozen)
  traced_step p v (missed k d loss) kept step =
      let a = step in
      let sh = shelved_step job laws p v (missed k d loss) kept.shelved step in
      subst Traced (sym (after_missed job laws v k d loss a.0 a.1))
      (record {
        shelved = subst (Shelved job laws) (after_missed job laws v k d loss a.0 a.1) sh;
        book = kept.book;
        orders = λ o i. kept.orders o (in_filter (λ (x : OpenStart D). not (nat_eq k x.number)) o v.orders i);
        saves = kept.saves;
      })
  traced_step p v (lost w closes) kept step =
      record {
        shelved = shelved_step job laws p v (lost w closes) kept.shelved step;
        book = kept.book;
        orders = λ o i. kept.orders o (in_filter (λ (x : OpenStart D). not (nat_eq w x.worker)) o v.orders i);
        saves = λ s i. kept.saves s (in_filter (λ (x : Save D). not (nat_eq w x.worker)) s v.saves i);
      }

  traced_all : (p : Plan) (v : Standing D) (h : List (Event D)) → Traced v → LawfulFrom job p v h → Traced (after_all job v h)
  traced_all p v [] s l = s
  traced_all p v (e ∷ es) s l = traced_all p (after job v e) es (traced_step p v e s l.0.allowed) l.1

  pub traced : (p : Plan) (h : List (Event D)) → LawfulFrom job p (before_all job) h → Traced (after_all job (before_all job) h)
  traced p h l = traced_all p (before_all job) h traced_start l
