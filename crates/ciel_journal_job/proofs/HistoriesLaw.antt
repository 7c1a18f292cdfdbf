-- The laws of histories, of the real job in the meaning's words.
use Rattle.sky_base.specs.Val as v
use Rattle.sky_base_law.specs.Tasks as t
use Rattle.sky_base.specs.See as s
use Rattle.sky_base.specs.Needed as n
use Rattle.sky_base_law.proofs.MoreFuel.{seen_stays}
use Rattle.sky_base_law.proofs.WorkLaw.{means_work}
use Rattle.sky_base_law.specs.Refers.{PlainReads}
use Rattle.sky_base_law.specs.Sound.{SoundReads}
use Rattle.std.proofs.Common.{◌≡◌, ℕ, zero, suc, ◌+◌, ◌*◌, ◌<◌, ◌≤◌, ◌⊎◌, List, [], true, Some, inl, inr, ap, sym, ◌∙◌, subst, arith}
use Rattle.sky_base_law.proofs.Lists.{some_is}
use Rattle.ciel_journal.specs.Job.{Digest, Ends, Needed, Task, show, of, Held, Job, In, IsJob, StateOf, made_in}
use Rattle.ciel_journal.specs.History.{Event, OpenStart, Plan, done, saved, standing, start}
use Rattle.ciel_journal.specs.Known.{Knows}
use Rattle.ciel_journal.specs.Lawful.{Lawful}
use Rattle.ciel_journal.specs.Turns.{CircleAtRest}
use Rattle.ciel_journal.specs.Work.{losses_of, starts_of}
use Rattle.ciel_journal.proofs.Ends.{over_told}
use Rattle.ciel_journal.proofs.Good.{lawful_circle}
use Rattle.ciel_journal.proofs.Published.{in_split, lawful_step, publishes, saved_task}
use Rattle.ciel_journal.proofs.Started.{few_starts, started}
use Rattle.ciel_journal.proofs.Traced.{traced}
use Rattle.ciel_journal_job.specs.Histories.{SavedAs, SeenAs}
use Rattle.ciel_journal_job.specs.Inner.{real_inner}
use Rattle.ciel_journal_job.specs.Real.{back, real_job}
use Rattle.ciel_journal_job.proofs.AlikeLaw.{answer_alike, finite, made_is, needed_to, never_alike, objects_alike, states_alike, wait_to, is_one}
use Rattle.ciel_journal_job.proofs.KnownLaw.{real_knows}
use Rattle.ciel_journal_job.proofs.RealLaw.{in_from, real_laws}

module _ (job : s.Job) (around : s.Around) (name : s.Desc → Digest) (mark : s.Obj → Digest) (frozen : n.State → Digest) where
  abbrev the : Job s.Desc
  the = real_job job around name mark frozen

  pub laws : IsJob the
  laws = real_laws job around name mark frozen

  -- what is seen is one object
  one_seen : (d : s.Desc) (k i : ℕ) (o x : s.Obj) → s.see job around k d ≡ Some o → s.see job around i d ≡ Some x → x ≡ o
  one_seen d k i o x e f =
      let a = seen_stays job around k (k + i) d o (omega arith) e in
      let b = seen_stays job around i (k + i) d x (omega arith) f in
      some_is x o (sym b ∙ a)

  -- only what has states is saved
  has_states : (u : Task s.Desc) (j : ℕ) (a : Held s.Desc) → 0 < j → StateOf the u j a → (x : n.State) × n.StandsAt job around (back u) j x
      × (a ≡ record { names = t.held x; mark = frozen x })
  has_states show j a l h = (states_alike job around name mark frozen n.Task.show tt j a).0 h
  has_states (of (v.call f c vs)) j a l h = (states_alike job around name mark frozen (n.Task.of (v.call f c vs)) tt j a).0 h
  has_states (of (v.out x b m i)) zero a l h = absurd (omega (arith, l))
  has_states (of (v.out x b m i)) (suc j) a l (k, e) = cc
  has_states (of (v.input y)) j a l (k, e) = cc
  has_states (of (v.known b)) j a l h = absurd b

  module _ (p : Plan) (h : List (Event s.Desc)) (l : Lawful the p h) where
    start_needed : (k w : ℕ) (u : Task s.Desc) (from : ℕ) → In (start k w u from) h → Needed the u
    start_needed k w u from i =
        let q = in_split (start k w u from) h i in
        (started the laws p q.0 q.1 k w u from (subst (Lawful the p) q.2 l)).0

    pub starts_needed : (k w : ℕ) (u : Task s.Desc) (from : ℕ) → In (start k w u from) h → n.Needed job around (back u)
    starts_needed k w u from i = needed_to job around name mark frozen u (start_needed k w u from i)

    pub starts_few : SoundReads job.script around → (a : s.Answered) → s.Means job around a → (m : ℕ) × n.Work job around m
        × (starts_of the h ≤ (losses_of the h + 1) * m)
    starts_few reads a means =
        let w = means_work job around a means in
        (w.0, w.1, few_starts the laws w.0 (finite job around name mark frozen reads w.0 w.1) p h l)

    pub ends_in_answer : (standing the h).over ≡ true → (a : s.Answered) × s.Means job around a
    ends_in_answer o =
        let q = (over_told the laws p h l).0 o in
        let st = lawful_step the laws p h q.before [] (done q.number q.made q.copied q.spawned) q.last l in
        let a = st.1.allowed in
        let e : Some a.0 ≡ Some q.order = sym a.1 ∙ q.is_open in
        let same : a.0 ≡ q.order = same_open a.0 q.order e in
        (answer_alike job around name mark frozen).0 (subst (λ u. Ends the u) (ap (λ (x : OpenStart s.Desc). x.task) same ∙ q.root) a.2.next.ends)
      where
        same_open : (a b : OpenStart s.Desc) → Some a ≡ Some b → a ≡ b
        same_open a b e = cc

    pub circles_never : (ds : List s.Desc) → CircleAtRest the (standing the h) ds → s.Never job around
    circles_never ds c = (never_alike job around name mark frozen).0 (lawful_circle the laws p h l ds c)

    pub made_seen : (k : ℕ) (made : List (s.Desc × Digest)) (copied spawned : List s.Desc) (d : s.Desc) (m : Digest)
        → In (done k made copied spawned) h → In (d, m) made → In d (standing the h).book × ((o : s.Obj) × SeenAs job around d o × (m ≡ mark o))
    made_seen k made copied spawned d m i j =
        let q = publishes the laws p h l k made copied spawned d m i j in
        let o = (objects_alike job around name mark frozen d m).0 q.seen in
        (q.known, (o.0, record { seen = o.1; only = λ z x e. one_seen d o.1.0 z o.0 x o.1.1 e }, o.2))

    pub saved_stands : (k w : ℕ) (u : Task s.Desc) (from : ℕ) → In (start k w u from) h → (j : ℕ) (m : Digest) (refs holds spawned : List s.Desc)
        → In (saved k j m refs holds spawned) h → SavedAs job around frozen (back u) j m refs holds
    saved_stands k w u from st j m refs holds spawned i =
        let q = saved_task the laws p h l k j m refs holds spawned i w u from st in
        let x = has_states u j (record { names = holds; mark = m }) q.2 q.0 in
        record {
          state = x.0;
          stands = x.1;
          marked = ap (λ (a : Held s.Desc). a.mark) x.2;
          held = ap (λ (a : Held s.Desc). a.names) x.2;
          waits = wait_to job around name mark frozen u (is_one job around name mark frozen u (start_needed k w u from st)) j refs q.1;
        }

    pub book_made : (d : s.Desc) → In d (standing the h).book → (d ≡ s.main_call)
        ⊎ ((u : n.Task) × n.Needed job around u × (k : ℕ) × t.In d (t.made_in (t.acts_of job around k u)))
    book_made d i = pick ((traced the laws p h l).book d i)
      where
        pick : ((d ≡ s.main_call) ⊎ ((u : Task s.Desc) × Needed the u × (k : ℕ) × In d (made_in (the.acts k u)))) → (d ≡ s.main_call)
            ⊎ ((u : n.Task) × n.Needed job around u × (k : ℕ) × t.In d (t.made_in (t.acts_of job around k u)))
        pick (inl e) = inl e
        pick (inr x) =
            inr (
              back x.0,
              needed_to job around name mark frozen x.0 x.1,
              x.2,
              in_from d (t.made_in (t.acts_of job around x.2 (back x.0))) (subst (In d) (made_is (t.acts_of job around x.2 (back x.0))) x.3),
            )

  pub knows : PlainReads around → Knows the (real_inner job around)
  knows plain = real_knows job around name mark frozen plain
