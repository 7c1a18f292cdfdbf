-- The record of an event of a job's history can be read.
use Rattle.std.proofs.Common.{◌≡◌, ◌≤◌, ◌<◌, ◌^◌, ◌+◌, ◌-◌, ℕ, zero, suc, List, [], ◌∷◌, map, length, Bool, true, false, cond, not, nat_eq, nat_lt}
use Rattle.std.proofs.Common.{Option, Some, None, inl, inr, refl, sym, ◌∙◌, subst, arith}
use Rattle.std.proofs.lemmas.Option.{slice_get_within}
use Rattle.sky_base.specs.KitView.{Gives}
use Rattle.sky_base.specs.Name.{digested}
use Rattle.sky_base.specs.Needed as n
use Rattle.sky_base.specs.Res.{Object}
use Rattle.sky_base.specs.See as s
use Rattle.sky_base_law.specs.Tasks as t
use Rattle.sky_base_law.proofs.Lists.{some_is}
use Rattle.sky_frozen_bytes.specs.Codes.{Fits32}
use Rattle.ciel_journal.specs.Entries.{low_names}
use Rattle.ciel_journal.specs.History.{Event, OpenStart, Plan, Save, Standing, after, before_all, better, close_with, done, done_with}
use Rattle.ciel_journal.specs.History.{find_open, last_save, lost, missed, missed_with, names_of, same_task, saved, saved_with, standing, start, wait_number}
use Rattle.ciel_journal.specs.Job.{Act, Each, In, IsJob, Job, Needed, Task, after_wait, made, made_before, made_in, of, show, wait}
use Rattle.ciel_journal.specs.Lawful.{Lawful, Step}
use Rattle.ciel_journal.proofs.Begins.{began}
use Rattle.ciel_journal.proofs.Good.{each_filter, each_join}
use Rattle.ciel_journal.proofs.Numbers.{Numbered, each_at, found_in, numbered_all}
use Rattle.ciel_journal.proofs.Started.{started}
use Rattle.ciel_journal_job.specs.Real.{back}
use Rattle.ciel_name.specs.Descs.{IsDescData, IsObjectData}
use Rattle.ciel_log.specs.Logs.{IsDone, IsObjectOf, RecordOf}
use Rattle.ciel_log_follows.specs.Begins.{ReadsEvent}
use Rattle.ciel_log_follows.proofs.Told.{marked_names}
use Rattle.ciel_log_read.specs.Recorded.{IsEnd, IsNamed, IsTask}
use Rattle.ciel_log_records.specs.Records.{HowEnded, end_bytes, report_record}
use Rattle.ciel_master_board.specs.Follows.{OneByOne}
use Rattle.ciel_name_law.specs.Typed.{GivesNames}
use Rattle.ciel_task_order.specs.Named.{by_names}
use Rattle.ciel_want.specs.History.{task_id}
use Rattle.ciel_log_readable.specs.Readable.{OfShortBytes}
use Rattle.ciel_log_readable.proofs.Jobs as jobs
use Rattle.ciel_log_read.proofs.Reports.{answered_fits, end_short, made_fits, report_fits, saved_fits}
use Rattle.ciel_log_read.proofs.Sizes.{Short}

module _ {D : Type 0} where
  -- ---- what is made in a part of what a task does

  made_after : (i : ℕ) (xs : List (Act D)) (d : D) → In d (made_in (after_wait i xs)) → In d (made_in xs)
  made_after zero xs d h = h
  made_after (suc i) [] d h = h
  made_after (suc i) (made e ∷ xs) d h = inr (made_after (suc i) xs d h)
  made_after (suc i) (wait ds ∷ xs) d h = made_after i xs d h

  made_till : (i : ℕ) (xs : List (Act D)) (d : D) → In d (made_before i xs) → In d (made_in xs)
  made_till zero xs d h = absurd h
  made_till (suc i) [] d h = h
  made_till (suc i) (made e ∷ xs) d (inl q) = inl q
  made_till (suc i) (made e ∷ xs) d (inr h) = inr (made_till (suc i) xs d h)
  made_till (suc i) (wait ds ∷ xs) d h = made_till i xs d h

  -- ---- the waits that are saved

  -- their numbers have 32 bits
  abbrev pub SavesFit : Standing D → Type 0
  SavesFit v = Each (λ (q : Save D). Fits32 q.j) v.saves

  abbrev pub SavedFits : Event D → Type 0
  SavedFits (start k w u from) = Unit {0}
  SavedFits (done k ms copied spawned) = Unit {0}
  SavedFits (saved k j mark refs holds spawned) = Fits32 j
  SavedFits (missed k d loss) = Unit {0}
  SavedFits (lost w closes) = Unit {0}

module _ {D : Type 0} (job : Job D) where
  last_fits : (u : Task D) (qs : List (Save D)) → Each (λ (q : Save D). Fits32 q.j) qs → Fits32 (wait_number job (last_save job u qs))
  last_fits u [] h = let lt : 0 < 4294967296 = omega arith in lt
  last_fits u (q ∷ qs) h = pick (same_task job u q.task) (last_save job u qs) (last_fits u qs h.1)
    where
      greater : (b : Bool) (r : Save D) → Fits32 r.j → Fits32 (wait_number job (cond b (Some q) (Some r)))
      greater true r l = h.0
      greater false r l = l

      pick : (b : Bool) (o : Option (Save D)) → Fits32 (wait_number job o) → Fits32 (wait_number job (cond b (better job q o) o))
      pick true None l = h.0
      pick true (Some r) l = greater (nat_lt r.j q.j) r l
      pick false o l = l

  pub saves_on : (v : Standing D) (e : Event D) → SavesFit v → SavedFits e → SavesFit (after job v e)
  saves_on v (start k w u from) h i = h
  saves_on v (done k ms copied spawned) h i = go (find_open job k v.orders)
    where
      go : (o : Option (OpenStart D)) → SavesFit (close_with job (done_with job ms copied spawned) v k o)
      go None = h
      go (Some o) = h
  saves_on v (saved k j mark refs holds spawned) h i = go (find_open job k v.orders)
    where
      go : (o : Option (OpenStart D)) → SavesFit (close_with job (saved_with job j refs holds spawned) v k o)
      go None = h
      go (Some o) = each_join (λ (q : Save D). Fits32 q.j) v.saves
          (record { task = o.task; j = j; worker = o.worker; refs = refs; holds = holds } ∷ []) h (i, tt)
  saves_on v (missed k d loss) h i = go (find_open job k v.orders)
    where
      go : (o : Option (OpenStart D)) → SavesFit (close_with job (missed_with job) v k o)
      go None = h
      go (Some o) = h
  saves_on v (lost w closes) h i = each_filter (λ (q : Save D). Fits32 q.j) (λ q. not (nat_eq w q.worker)) v.saves h

  -- an event starts one at most, and a loss none
  pub starts_on : (v : Standing D) (e : Event D) → (after job v e).starts ≤ v.starts + 1
  starts_on v (start k w u from) = omega arith
  starts_on v (done k ms copied spawned) = go (find_open job k v.orders)
    where
      go : (o : Option (OpenStart D)) → (close_with job (done_with job ms copied spawned) v k o).starts ≤ v.starts + 1
      go None = omega arith
      go (Some o) = omega arith
  starts_on v (saved k j mark refs holds spawned) = go (find_open job k v.orders)
    where
      go : (o : Option (OpenStart D)) → (close_with job (saved_with job j refs holds spawned) v k o).starts ≤ v.starts + 1
      go None = omega arith
      go (Some o) = omega arith
  starts_on v (missed k d loss) = go (find_open job k v.orders)
    where
      go : (o : Option (OpenStart D)) → (close_with job (missed_with job) v k o).starts ≤ v.starts + 1
      go None = omega arith
      go (Some o) = omega arith
  starts_on v (lost w closes) = omega arith

module _ (digest : List ℕ → List ℕ) (job : s.Job) (gives : Gives) (script : OfShortBytes job) (names : GivesNames (digested digest)) (p : Plan)
    (workers : p.workers < 2 ^ 32) (losses : length p.losses < 2 ^ 32) where
  abbrev the : Job s.Desc
  the = jobs.the digest job gives script names

  laws : IsJob the
  laws = jobs.laws digest job gives script names

  module _ (past : List (Event s.Desc)) (lawful : Lawful the p past) (small : (standing the past).starts < 2 ^ 64) where
    abbrev v : Standing s.Desc
    v = standing the past

    -- ---- the open Start that an event closes

    module _ (k : ℕ) (o : OpenStart s.Desc) (found : find_open the k v.orders ≡ Some o) where
      at : In o v.orders × (k ≡ o.number)
      at = found_in the laws k v.orders o found

      number_fits : k < 2 ^ 64
      number_fits =
          let all : Numbered the laws v =
          numbered_all the laws p (before_all the) past (record { below = tt; one = λ a b i. absurd i }) lawful in
          let below = each_at (λ (q : OpenStart s.Desc). q.number < v.starts) o v.orders at.0 all.below in
          let few : v.starts < 18446744073709551616 = small in
          let same = at.1 in
          let lt : k < 18446744073709551616 = omega (arith, below, few, same) in
          lt

      need : Needed the o.task
      need =
          let m = began the past o at.0 in
          (started the laws p m.before m.rest o.number o.worker o.task o.from (subst (Lawful the p) m.whole lawful)).0

    -- ---- what is told of it

    each_made : (u : Task s.Desc) → Needed the u → (ds : List s.Desc) → ((d : s.Desc) → In d ds → (i : ℕ) × In d (made_in (the.acts i u)))
        → t.Each IsDescData (map (by_names digest) ds)
    each_made u w [] f = tt
    each_made u w (d ∷ ds) f =
        let m = f d (inl refl) in
        (jobs.made_data digest job gives script names u w m.0 d m.1, each_made u w ds (λ e i. f e (inr i)))

    each_named : (ds : List s.Desc) → t.Each IsNamed (low_names the ds)
    each_named [] = tt
    each_named (d ∷ ds) = (jobs.named digest job gives script names d, each_named ds)

    each_object : (u : Task s.Desc) → Needed the u → (ds : List s.Desc) → ((d : s.Desc) → In d ds → In d (the.outputs u))
        → (os : List (Object (List ℕ))) → OneByOne (IsObjectOf digest job gives) ds os → t.Each IsObjectData os
    each_object u w [] f [] h = tt
    each_object u w [] f (x ∷ xs) h = absurd h
    each_object u w (d ∷ ds) f [] h = absurd h
    each_object u w (d ∷ ds) f (x ∷ xs) h =
        let (k, y, seen, is) = h.0 in (
          subst IsObjectData (sym is) (jobs.output_data digest job gives script names u w d (f d (inl refl)) k y seen),
          each_object u w ds (λ e i. f e (inr i)) xs h.1,
        )

    end_fits : (u : Task s.Desc) → Needed the u → (outputs : List s.Desc) → outputs ≡ the.outputs u → (how : HowEnded)
        → IsDone digest job gives u outputs how → Short (end_bytes how) → IsEnd how
    end_fits show w outputs e (HowEnded.answered text) h l = answered_fits text l
    end_fits show w outputs e (HowEnded.failed fault) h l = jobs.meant_fits digest job gives script names fault h
    end_fits show w outputs e (HowEnded.made os) h l = absurd h
    end_fits show w outputs e (HowEnded.saved j stack) h l = absurd h
    end_fits show w outputs e (HowEnded.missing name loss) h l = absurd h
    end_fits (of d) w outputs e how (os, h, is) l =
        subst IsEnd (sym is) (made_fits os (each_object (of d) w outputs (λ x i. subst (In x) e i) os h) (subst (λ z. Short (end_bytes z)) is l))

    -- ---- events

    done_read : (k : ℕ) (ms : List (s.Desc × List ℕ)) (copied spawned : List s.Desc) → Step the p v (done k ms copied spawned) → (bytes : List ℕ)
        → (r : RecordOf digest job gives past (done k ms copied spawned) bytes) → Short bytes
        → ReadsEvent digest job gives past (done k ms copied spawned) bytes r
    done_read k ms copied spawned step bytes (o, found, (how, ended, is)) l =
        let same : step.allowed.0 ≡ o = some_is step.allowed.0 o (sym step.allowed.1 ∙ found) in
        let ok = step.allowed.2 in
        let w = need k step.allowed.0 step.allowed.1 in
        let short : Short (report_record k (map (by_names digest) spawned) (low_names the copied) how) = subst Short is l in
        let (i, full, makes) = ok.spawns in
        report_fits k (map (by_names digest) spawned) (low_names the copied) how (number_fits k o found)
        (each_made step.allowed.0.task w spawned
        (λ d there. (i, made_after step.allowed.0.from (the.acts i step.allowed.0.task) d (subst (In d) makes there))))
        (each_named copied)
        (end_fits step.allowed.0.task w (names_of ms) (marked_names the (the.outputs step.allowed.0.task) ms ok.marked) how
        (subst (λ (q : OpenStart s.Desc). IsDone digest job gives q.task (names_of ms) how) (sym same) ended)
        (end_short k (map (by_names digest) spawned) (low_names the copied) how short)) short

    saved_read : (k j : ℕ) (mark : List ℕ) (refs holds spawned : List s.Desc) → Step the p v (saved k j mark refs holds spawned) → (bytes : List ℕ)
        → (r : RecordOf digest job gives past (saved k j mark refs holds spawned) bytes) → Short bytes
        → ReadsEvent digest job gives past (saved k j mark refs holds spawned) bytes r × Fits32 j
    saved_read k j mark refs holds spawned step bytes (o, found, (stack, (m, a, stood, frozen), is)) l =
        let same : step.allowed.0 ≡ o = some_is step.allowed.0 o (sym step.allowed.1 ∙ found) in
        let ok = step.allowed.2 in
        let w = need k step.allowed.0 step.allowed.1 in
        let short : Short (report_record k (map (by_names digest) spawned) [] (HowEnded.saved j stack)) = subst Short is l in
        let (i, till, makes) = ok.spawns in
        let stands = subst (λ (q : OpenStart s.Desc). n.StandsAt job (jobs.around digest job gives script names) (back q.task) j a) (sym same) (m, stood) in
        let number = jobs.wait_fits digest job gives script names step.allowed.0.task w j refs ok.next.waits a stands in
        let end = saved_fits j stack number (end_short k (map (by_names digest) spawned) [] (HowEnded.saved j stack) short) in (
          (
            report_fits k (map (by_names digest) spawned) [] (HowEnded.saved j stack) (number_fits k o found)
                (each_made step.allowed.0.task w spawned
                (λ d there. (
                  i,
                  made_after step.allowed.0.from (the.acts i step.allowed.0.task) d
                      (made_till (j - step.allowed.0.from) (after_wait step.allowed.0.from (the.acts i step.allowed.0.task)) d (subst (In d) makes there)),
                )))
                tt end short,
            jobs.stack_spelled digest job gives script names step.allowed.0.task w j refs ok.next.waits a stands (subst Short frozen end.1),
          ),
          number,
        )

    missed_read : (k : ℕ) (d : s.Desc) (loss : ℕ) → Step the p v (missed k d loss) → (bytes : List ℕ)
        → (r : RecordOf digest job gives past (missed k d loss) bytes) → Short bytes → ReadsEvent digest job gives past (missed k d loss) bytes r
    missed_read k d loss step bytes is l =
        let (count, planned) = step.allowed.2.planned in
        let within = slice_get_within p.losses loss (count, step.allowed.2.worker) planned in
        let few : length p.losses < 4294967296 = losses in
        let fits : loss < 4294967296 = omega (arith, within, few) in
        report_fits k [] [] (HowEnded.missing (the.name d) loss) (number_fits k step.allowed.0 step.allowed.1) tt tt
        (jobs.named digest job gives script names d, fits) (subst Short is l)

    task_named : (u : Task s.Desc) → IsTask (task_id the u)
    task_named show = tt
    task_named (of d) = jobs.named digest job gives script names d

    start_read : SavesFit v → (k w : ℕ) (u : Task s.Desc) (from : ℕ) → Step the p v (start k w u from) → (bytes : List ℕ)
        → (r : RecordOf digest job gives past (start k w u from) bytes) → ReadsEvent digest job gives past (start k w u from) bytes r
    start_read saves k w u from step bytes r =
        let a = step.allowed in
        let few : v.starts < 18446744073709551616 = small in
        let same = a.number in
        let number : k < 18446744073709551616 = omega (arith, few, same) in
        let worker = a.worker in
        let most : p.workers < 4294967296 = workers in
        let fits : w < 4294967296 = omega (arith, worker, most) in
        (number, (fits, (subst Fits32 (sym a.from_last) (last_fits the u v.saves saves), task_named u)))

    -- so it is, and the number of a saved wait has 32 bits
    pub event_read : SavesFit v → (e : Event s.Desc) → Step the p v e → (bytes : List ℕ) → (r : RecordOf digest job gives past e bytes) → Short bytes
        → ReadsEvent digest job gives past e bytes r × SavedFits e
    event_read saves (start k w u from) step bytes r l = (start_read saves k w u from step bytes r, tt)
    event_read saves (done k ms copied spawned) step bytes r l = (done_read k ms copied spawned step bytes r l, tt)
    event_read saves (saved k j mark refs holds spawned) step bytes r l = saved_read k j mark refs holds spawned step bytes r l
    event_read saves (missed k d loss) step bytes r l = (missed_read k d loss step bytes r l, tt)
    event_read saves (lost w closes) step bytes r l = absurd r
