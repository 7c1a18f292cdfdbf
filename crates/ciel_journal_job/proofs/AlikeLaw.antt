-- The functions of the real job are the meaning's.
use Rattle.sky_base.specs.Val as v
use Rattle.sky_base_law.specs.Tasks as t
use Rattle.sky_base.specs.See as s
use Rattle.sky_base.specs.Read as r
use Rattle.sky_base.specs.Needed as n
use Rattle.sky_base_law.proofs.TaskFuel as fuel
use Rattle.sky_base_law.proofs.TaskOutputs as outs
use Rattle.sky_base_law.proofs.TaskSound as sound
use Rattle.sky_base_law.proofs.NeededEnds as ends
use Rattle.sky_base_law.proofs.WorkLaw.{means_work}
use Rattle.sky_base_law.specs.Sound.{SoundReads}
use Rattle.std.proofs.Common.{◌≡◌, ◌≢◌, ℕ, zero, suc, ◌+◌, ◌-◌, ◌≤◌, ◌<◌, ◌↔◌, List, [], ◌∷◌, map, Bool, true, false, Option, Some, None, slice_get}
use Rattle.std.proofs.Common.{sum_by, Contains, inl, inr, refl, ap, ap₂, sym, ◌∙◌, subst, arith, nat_lt}
use Rattle.std.proofs.lemmas.List.Sums.{sum_by-cons}
use Rattle.std.specs.Option.{option_map}
use Rattle.sky_base_law.proofs.Lists.{some_is}
use Rattle.ciel_journal.specs.Job.{Digest, Task, show, of, Held, Job, In, WaitOf, Needed, waits_in, after_wait, made_before, made_in}
use Rattle.ciel_journal.specs.Work.{Work, total}
use Rattle.ciel_journal_job.specs.Real.{back, forth, forth_if, acts_of, held_if, mark_if, real_job}
use Rattle.ciel_journal_job.specs.RealLaws.{IsTask, WaitsAlike, OutputsAlike, EndsAlike, NeverAlike, AnswerAlike, ObjectsAlike, StatesAlike, MadeAlike}
use Rattle.ciel_journal_job.specs.RealLaws.{NeededAlike, WorkIsFinite}
use Rattle.ciel_journal_job.proofs.RealLaw.{in_to, in_from, back_forth, made_of, waits_are}

forth_back : (w : Task s.Desc) → forth (back w) ≡ w
forth_back show = refl
forth_back (of d) = refl

pub after_is : (j : ℕ) (es : List (r.Act ⊥)) → after_wait j (acts_of es) ≡ acts_of (t.after_wait j es)
after_is zero es = refl
after_is (suc j) [] = refl
after_is (suc j) (r.made d ∷ es) = after_is (suc j) es
after_is (suc j) (r.waited ds ∷ es) = after_is j es

pub before_is : (j : ℕ) (es : List (r.Act ⊥)) → made_before j (acts_of es) ≡ t.made_before j es
before_is zero es = refl
before_is (suc j) [] = refl
before_is (suc j) (r.made d ∷ es) = ap (λ ds. d ∷ ds) (before_is (suc j) es)
before_is (suc j) (r.waited ds ∷ es) = before_is j es

pub made_is : (es : List (r.Act ⊥)) → made_in (acts_of es) ≡ t.made_in es
made_is [] = refl
made_is (r.made d ∷ es) = ap (λ ds. d ∷ ds) (made_is es)
made_is (r.waited ds ∷ es) = made_is es

maker_task : (d : s.Desc) (u : n.Task) → t.maker d ≡ Some u → n.task_of d ≡ Some u
maker_task (v.call f c vs) u e = e
maker_task (v.out x a m i) u e = go (nat_lt i m) e
  where
    go : (b : Bool) → n.only_if b (Some (n.Task.of (v.out x a m 0))) ≡ Some u → n.task_of (v.out x a m i) ≡ Some u
    go true q = q
    go false q = cc
maker_task (v.input k) u e = cc
maker_task (v.known b) u e = absurd b

-- ---- lists of tasks with their waits

abbrev forth_with : n.Task × ℕ → Task s.Desc × ℕ
forth_with p = (forth p.0, p.1)

get_forth : (ps : List (n.Task × ℕ)) (i : ℕ) → slice_get (map forth_with ps) i ≡ option_map forth_with (slice_get ps i)
get_forth [] i = refl
get_forth (p ∷ ps) zero = refl
get_forth (p ∷ ps) (suc i) = get_forth ps i

got_back : (o : Option (n.Task × ℕ)) (w : Task s.Desc) (a : ℕ) → option_map forth_with o ≡ Some (w, a) → o ≡ Some (back w, a)
got_back None w a e = cc
got_back (Some p) w a e =
    let q : forth_with p ≡ (w, a) = some_is (forth_with p) (w, a) e in
    let k : p.0 ≡ back w = sym (back_forth p.0) ∙ ap (λ x. back x.0) q in
    let m : p.1 ≡ a = ap (λ x. x.1) q in
    ap₂ (λ x y. Some (x, y)) k m

in_forth : (ps : List (n.Task × ℕ)) (u : n.Task) (k : ℕ) → In (u, k) ps → In (forth u, k) (map forth_with ps)
in_forth [] u k i = absurd i
in_forth (p ∷ ps) u k (inl e) = inl (ap forth_with e)
in_forth (p ∷ ps) u k (inr i) = inr (in_forth ps u k i)

in_back : (ps : List (n.Task × ℕ)) (w : Task s.Desc) (k : ℕ) → In (w, k) (map forth_with ps) → In (back w, k) ps
in_back [] w k i = absurd i
in_back (p ∷ ps) w k (inl e) = inl (ap₂ (λ x y. (x, y)) (ap (λ x. back x.0) e ∙ back_forth p.0) (ap (λ x. x.1) e))
in_back (p ∷ ps) w k (inr i) = inr (in_back ps w k i)

total_is : (j : Job s.Desc) (ps : List (n.Task × ℕ)) → total j (map forth_with ps) ≡ sum_by (λ p. 1 + p.1) ps
total_is j [] = refl
total_is j (p ∷ ps) = omega (arith, total_is j ps, sum_by-cons (λ (x : n.Task × ℕ). 1 + x.1) p ps)

module _ (job : s.Job) (around : s.Around) (name : s.Desc → Digest) (mark : s.Obj → Digest) (frozen : n.State → Digest) where
  abbrev the : Job s.Desc
  the = real_job job around name mark frozen

  abbrev IsOne : n.Task → Type 0
  IsOne u = IsTask job around name mark frozen u

  -- ---- waits

  pub wait_is : (k : ℕ) (w : Task s.Desc) (j : ℕ) → slice_get (waits_in (the.acts k w)) j ≡ n.wait_at job around k (back w) (suc j)
  wait_is k w j =
      ap (λ xs. slice_get xs j) (waits_are (t.acts_of job around k (back w))) ∙ fuel.waits_at job around k (back w) j

  first_is : (k : ℕ) (u : n.Task) → IsOne u → n.wait_at job around k u 0 ≡ Some (t.first_of u)
  first_is k u (inl e) = subst (λ x. n.wait_at job around k x 0 ≡ Some (t.first_of x)) (sym e) refl
  first_is k u (inr (d, e)) = fuel.first_waits job around k d u e

  pub wait_to : (w : Task s.Desc) → IsOne (back w) → (j : ℕ) (ds : List s.Desc) → WaitOf the w j ds → n.WaitOf job around (back w) j ds
  wait_to w one zero ds e = (0, first_is 0 (back w) one ∙ ap Some (sym e))
  wait_to w one (suc j) ds (k, e) = (k, sym (wait_is k w j) ∙ e)

  pub wait_from : (w : Task s.Desc) → IsOne (back w) → (j : ℕ) (ds : List s.Desc) → n.WaitOf job around (back w) j ds → WaitOf the w j ds
  wait_from w one zero ds (k, e) = some_is ds (t.first_of (back w)) (sym e ∙ first_is k (back w) one)
  wait_from w one (suc j) ds (k, e) = (k, wait_is k w j ∙ e)

  pub waits_alike : WaitsAlike job around name mark frozen
  waits_alike u one j ds =
      let q : back (forth u) ≡ u = back_forth u in
      let o : IsOne (back (forth u)) = subst IsOne (sym q) one in (
        λ h. subst (λ x. n.WaitOf job around x j ds) q (wait_to (forth u) o j ds h),
        λ h. wait_from (forth u) o j ds (subst (λ x. n.WaitOf job around x j ds) (sym q) h),
      )

  pub outputs_alike : OutputsAlike job around name mark frozen
  outputs_alike u = ap t.outputs_of (back_forth u)

  -- ---- ends

  pub ends_alike : EndsAlike job around name mark frozen
  ends_alike u =
      let q : back (forth u) ≡ u = back_forth u in
      (λ (k, e). (k, ap (t.ended job around k) (sym q) ∙ e), λ (k, e). (k, ap (t.ended job around k) q ∙ e))

  no_answer : (a : s.Answered) → t.is_answer a ≡ false → a ≡ s.Answered.not_yet
  no_answer s.Answered.not_yet e = refl
  no_answer (s.Answered.bytes b) e = cc
  no_answer (s.Answered.fault f) e = cc

  some_answer : (a : s.Answered) → t.is_answer a ≡ true → a ≢ s.Answered.not_yet
  some_answer s.Answered.not_yet e q = cc
  some_answer (s.Answered.bytes b) e q = cc
  some_answer (s.Answered.fault f) e q = cc

  pub never_alike : NeverAlike job around name mark frozen
  never_alike = (λ h k. no_answer (s.job_answer job around k) (h k), λ h k. ap t.is_answer (h k))

  pub answer_alike : AnswerAlike job around name mark frozen
  answer_alike =
      (λ (k, e). (s.job_answer job around k, (k, refl, some_answer (s.job_answer job around k) e)), λ (a, h). ends.means_ends job around a h)

  -- ---- objects and states

  object_to : (d : s.Desc) (m : Digest) (k : ℕ) (o : Option s.Obj) → s.see job around k d ≡ o → mark_if job around name mark frozen o ≡ Some m
      → (x : s.Obj) × ((i : ℕ) × (s.see job around i d ≡ Some x)) × (m ≡ mark x)
  object_to d m k None e h = cc
  object_to d m k (Some x) e h = (x, (k, e), sym (some_is (mark x) m h))

  pub objects_alike : ObjectsAlike job around name mark frozen
  objects_alike d m =
      (λ (k, h). object_to d m k (s.see job around k d) refl h, λ (x, (k, e), q). (k, ap (mark_if job around name mark frozen) e ∙ ap Some (sym q)))

  abbrev state_held : n.State → Held s.Desc
  state_held x = record { names = t.held x; mark = frozen x }

  state_to : (u : n.Task) (j k : ℕ) (a : Held s.Desc) (o : Option n.State) → n.stands_at job around k u j ≡ o
      → held_if job around name mark frozen o ≡ Some a → (x : n.State) × n.StandsAt job around u j x × (a ≡ state_held x)
  state_to u j k a None e h = cc
  state_to u j k a (Some x) e h = (x, (k, e), sym (some_is (state_held x) a h))

  state_from : (u : n.Task) (j k : ℕ) (a : Held s.Desc) (x : n.State) → n.stands_at job around k u j ≡ Some x → a ≡ state_held x
      → held_if job around name mark frozen (n.stands_at job around k u j) ≡ Some a
  state_from u j k a x e q = ap (held_if job around name mark frozen) e ∙ ap Some (sym q)

  pub states_alike : StatesAlike job around name mark frozen
  states_alike n.Task.show has j a = (
    λ (k, h). state_to n.Task.show j k a (n.stands_at job around k n.Task.show j) refl h,
    λ (x, (k, e), q). (k, state_from n.Task.show j k a x e q),
  )
  states_alike (n.Task.of (v.call f c vs)) has j a = (
    λ (k, h). state_to (n.Task.of (v.call f c vs)) j k a (n.stands_at job around k (n.Task.of (v.call f c vs)) j) refl h,
    λ (x, (k, e), q). (k, state_from (n.Task.of (v.call f c vs)) j k a x e q),
  )
  states_alike (n.Task.of (v.out x b m i)) has j a = absurd has
  states_alike (n.Task.of (v.input y)) has j a = absurd has
  states_alike (n.Task.of (v.known b)) has j a = absurd b

  -- ---- what is made

  pub made_alike : MadeAlike job around name mark frozen
  made_alike =
      record {
        between = λ k u j i. ap (λ x. made_before (i - j) (after_wait j (acts_of (t.acts_of job around k x)))) (back_forth u)
            ∙ ap (made_before (i - j)) (after_is j (t.acts_of job around k u)) ∙ before_is (i - j) (t.after_wait j (t.acts_of job around k u));
        after = λ k u j. ap (λ x. made_in (after_wait j (acts_of (t.acts_of job around k x)))) (back_forth u)
            ∙ ap made_in (after_is j (t.acts_of job around k u)) ∙ made_is (t.after_wait j (t.acts_of job around k u));
      }

  -- ---- which tasks are needed

  pub is_one : (w : Task s.Desc) → Needed the w → IsOne (back w)
  is_one show Needed.root = inl refl
  is_one u (Needed.waited need j ds d wait i e) = inr (d, made_of d u e)

  pub needed_to : (w : Task s.Desc) → Needed the w → n.Needed job around (back w)
  needed_to show Needed.root = n.root
  needed_to u (Needed.waited {t = w} need j ds d wait i e) =
      n.Needed.waited (needed_to w need) j ds d (wait_to w (is_one w need) j ds wait) (outs.contains_in d ds (in_from d ds i))
      (maker_task d (back u) (made_of d u e))

  module _ (reads : SoundReads job.script around) where
    made_so : (u w : n.Task) (j : ℕ) (ds : List s.Desc) (d : s.Desc) → n.Needed job around u → n.WaitOf job around u j ds → Contains ds d
        → n.task_of d ≡ Some w → t.maker d ≡ Some w
    made_so u w j ds d need wait among is =
        sound.waited_maker job around reads u j ds d need wait (outs.in_contains d ds among) ∙ is

    one_of_needed : (u : n.Task) → n.Needed job around u → IsOne u
    one_of_needed n.Task.show n.root = inl refl
    one_of_needed u (n.Needed.waited {t = w} need j ds d wait among is) = inr (d, made_so w u j ds d need wait among is)

    needed_from : (u : n.Task) → n.Needed job around u → Needed the (forth u)
    needed_from n.Task.show n.root = Needed.root
    needed_from u (n.Needed.waited {t = w} need j ds d wait among is) =
        Needed.waited (needed_from w need) j ds d ((waits_alike w (one_of_needed w need) j ds).1 wait) (in_to d ds (outs.in_contains d ds among))
        (ap forth_if (made_so w u j ds d need wait among is))

    -- ---- work

    work_waits : (w : Task s.Desc) (k : ℕ) → n.Needed job around (back w) → n.Waits job around (back w) k → (j : ℕ) → 0 < j
        → (j ≤ k) ↔ ((ds : List s.Desc) × WaitOf the w j ds)
    work_waits w k need waits j pos =
        let one = one_of_needed (back w) need in
        (λ le. let p = (waits.each j pos).0 le in (p.0, wait_from w one j p.0 p.1), λ (ds, h). (waits.each j pos).1 (ds, wait_to w one j ds h))

    pub finite : (m : ℕ) → n.Work job around m → Work the m
    finite m w =
        record {
          tasks = map forth_with w.tasks;
          apart = λ i j u a b e f. w.apart i j (back u) a b (got_back (slice_get w.tasks i) u a (sym (get_forth w.tasks i) ∙ e))
              (got_back (slice_get w.tasks j) u b (sym (get_forth w.tasks j) ∙ f));
          needed = λ u. (
            λ need. let p = (w.needed (back u)).0 (needed_to u need) in (
              p.0,
              subst (λ x. In (x, p.0) (map forth_with w.tasks)) (forth_back u)
                  (in_forth w.tasks (back u) p.0 (in_to (back u, p.0) w.tasks (outs.in_contains (back u, p.0) w.tasks p.1))),
            ),
            λ (k, i). subst (Needed the) (forth_back u)
                (needed_from (back u) ((w.needed (back u)).1
                (k, outs.contains_in (back u, k) w.tasks (in_from (back u, k) w.tasks (in_back w.tasks u k i))))),
          );
          waits = λ u k i j pos. let c = outs.contains_in (back u, k) w.tasks (in_from (back u, k) w.tasks (in_back w.tasks u k i)) in
              work_waits u k ((w.needed (back u)).1 (k, c)) (w.waits (back u) k c) j pos;
          sum = total_is the w.tasks ∙ w.total;
        }

  pub needed_alike : NeededAlike job around name mark frozen
  needed_alike reads u =
      (λ h. subst (n.Needed job around) (back_forth u) (needed_to (forth u) h), needed_from reads u)

  pub work_is_finite : WorkIsFinite job around name mark frozen
  work_is_finite reads a h = let p = means_work job around a h in (p.0, finite reads p.0 p.1)
