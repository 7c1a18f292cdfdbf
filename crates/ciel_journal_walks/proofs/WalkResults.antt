-- What a walk came to says what the job does.
use Rattle.sky_base.specs.Val as v
use Rattle.sky_base.specs.Needed as n
use Rattle.sky_base.specs.See as s
use Rattle.sky_base_law.specs.Tasks as t
use Rattle.std.proofs.Common.{◌≡◌, ◌≢◌, ℕ, zero, suc, ◌+◌, ◌-◌, ◌<◌, ◌≤◌, List, [], ◌∷◌, ◌++◌, append_assoc, map, length, Bool, true, false, Option}
use Rattle.std.proofs.Common.{Some, None, is_some, slice_get, ◌⊎◌, inl, inr, refl, sym, ap, ◌∙◌, subst, arith}
use Rattle.std.specs.List.{IsDistinct}
use Rattle.std.proofs.lemmas.List.{append-nil, map-append}
use Rattle.sky_base.specs.Val.{call, out, input, known, distinct, same_text}
use Rattle.sky_base.specs.Name.{low_desc, name}
use Rattle.sky_base.specs.Res.{Object}
use Rattle.sky_base.specs.Read.{run_of_halt}
use Rattle.sky_base.specs.See.{Answered, see, job_answer}
use Rattle.sky_base.specs.Needed.{StandsAt, WaitOf, stands_at, wait_at}
use Rattle.sky_base_law.specs.Lower.{low_obj, low_ref}
use Rattle.sky_base_law.specs.NamesLaws.{NoClash, Tag, no_name}
use Rattle.sky_base_law.specs.Refers.{PlainReads}
use Rattle.sky_base_law.specs.Tasks.{Each, MadeBetween, ended, held, is_answer, made_after, made_between}
use Rattle.sky_base_law.proofs.ApartLaw.{waits_apart}
use Rattle.sky_base_law.proofs.Lists.{some_is, none_some, below_or_same, above_or}
use Rattle.sky_base_law.proofs.MoreFuel.{ended_stays_to}
use Rattle.sky_base_law.proofs.TaskOutputs.{apart_refs, distinct_in, each_in, in_each}
use Rattle.sky_state.specs.Pending.{pending_in, stand_wait}
use Rattle.sky_state.specs.Stand.{Stand, low_state}
use Rattle.sky_state.specs.Stands.{Stands}
use Rattle.sky_state.proofs.HeldLaw.{stands_holds, stands_pending}
use Rattle.sky_base_law.specs.EndsLaws.{AllSeen, ComesToEnd}
use Rattle.sky_base_law.proofs.Nexts.{next_there}
use Rattle.sky_state_law.specs.Moves.{EndsAs, SeenAs, ShowsAs, Step, Stop, WaitsNoMore}
use Rattle.sky_state_law.proofs.Before.{seen_before}
use Rattle.sky_state_law.proofs.MadeSegments.{after_between, after_last, between_two, see_to, stands_to, wait_to}
use Rattle.ciel_journal.specs.History.{OpenStart}
use Rattle.ciel_journal.specs.Job as journal
use Rattle.ciel_journal.specs.Job.{Digest, Held, Job, Task, show, of, In}
use Rattle.ciel_journal.specs.Entries.{low_names}
use Rattle.ciel_journal.specs.Lawful.{Given, Marked, NextEnd, NextWait, SpawnedTo, SpawnedToEnd}
use Rattle.ciel_journal_job.specs.Inner.{real_inner}
use Rattle.ciel_journal_job.specs.Real.{back, mark_if}
use Rattle.ciel_journal_job.proofs.AlikeLaw.{after_is, before_is, made_is, wait_is}
use Rattle.ciel_journal_job.proofs.RealLaw.{in_to}
use Rattle.ciel_journal_job.specs.Report as report
use Rattle.ciel_journal_job.specs.Report.{Clear, End, MadeIs, Met, Says, Spawns, StoppedIs, Tells, at_end, at_wait}
use Rattle.ciel_journal.specs.Known.{Inner}
use Rattle.ciel_journal_walks.specs.Laws.{Begins, CameTo, SaysAnd, WaitsAt, end_of, names_of, object_made, the, to_end, to_wait}
use Rattle.ciel_journal_walks.specs.Walk.{AreFound, PassedIn, StopsAt, Walk, last, more}
use Rattle.ciel_journal_walks.proofs.Right as right
use Rattle.ciel_journal_walks.proofs.Right.{Clashes, D, Further, Have, R, Right, answered, begun, equal_or, first_met, firsts_apart, further, goes}
use Rattle.ciel_journal_walks.proofs.Right.{have_first, have_or, have_seen, haves_apart, held_of, low, nm, once, u}
use Rattle.ciel_journal_walks.proofs.ReportContents.{clear_both, clear_met, not_clear, tells_all, tells_astray}
use Rattle.sky_state.proofs.WaitLaw.{stands_wait_is}
use Rattle.sky_state_law.proofs.HeldDescriptions.{held_at_is}

true_not : false ≡ true → ⊥
true_not e = cc

-- ---- lists

module _ {A : Type 0} where
  each_to : (P : A → Type 0) (xs : List A) → Each P xs → journal.Each P xs
  each_to P [] h = tt
  each_to P (x ∷ xs) h = (h.0, each_to P xs h.1)

  long : (xs : List A) (i : ℕ) (x : A) → slice_get xs i ≡ Some x → suc i ≤ length xs
  long [] i x e = absurd (none_some x e)
  long (y ∷ xs) zero x e = omega arith
  long (y ∷ xs) (suc i) x e = let h : suc i ≤ length xs = long xs i x e in omega (arith, h)

names_held : (tag : Tag) (ds : List s.Desc) → names_of (map (λ d. low_ref no_name tag d) ds) ≡ map (name no_name tag) ds
names_held tag [] = refl
names_held tag (d ∷ ds) = ap (λ xs. name no_name tag d ∷ xs) (names_held tag ds)

names_low : (job : Job s.Desc) (ds : List s.Desc) → low_names job ds ≡ map job.name ds
names_low job [] = refl
names_low job (d ∷ ds) = ap (λ xs. job.name d ∷ xs) (names_low job ds)

-- what it says alone, and with something else
module _ {D B : Type 0} (j : Job D) (i : Inner D) (low : D → B) (o : OpenStart D) (r : report.Report B) where
  pub only_says : (Q : Type 0) → SaysAnd j i low o r Q → Says j i low o r
  only_says Q (to_end ds nx sp tl g) = at_end ds nx sp tl (λ k. (g k).0)
  only_says Q (to_wait n rs ds nx sp tl g) = at_wait n rs ds nx sp tl (λ k. (g k).0)

  pub says_more : (Q P : Type 0) → (Q → P) → SaysAnd j i low o r Q → SaysAnd j i low o r P
  says_more Q P f (to_end ds nx sp tl g) = to_end ds nx sp tl (λ k. ((g k).0, f (g k).1))
  says_more Q P f (to_wait n rs ds nx sp tl g) = to_wait n rs ds nx sp tl (λ k. ((g k).0, f (g k).1))

none_twice : (same : s.Desc → s.Desc → Bool) → IsDistinct same []
unfolding IsDistinct
none_twice same = tt

module _ (tag : Tag) (mark : Object (List ℕ) → Digest) (frozen : Stand (List ℕ) → Digest) (job : s.Job) (around : s.Around)
    (plain : PlainReads around) (o : OpenStart s.Desc) (finds : v.Desc (List ℕ) → Option (Object (List ℕ))) (r0 : Stand (List ℕ))
    (b : Begins tag mark frozen job around o finds r0) where
  abbrev J : Job s.Desc
  J = the tag mark frozen job around

  abbrev inner : Inner s.Desc
  inner = real_inner job around

  abbrev w : n.Task
  w = back o.task

  abbrev L : s.Desc → v.Desc (List ℕ)
  L d = low_desc no_name tag d

  abbrev Met' : s.Desc → Type 0
  Met' d = Met J inner L o d

  abbrev Right' : Stand (List ℕ) → ℕ → List s.Desc → Type 0
  Right' r j xs = Right tag mark frozen job around plain o finds r0 b r j xs

  abbrev Have' : s.Desc → Type 0
  Have' d = Given J o d

  abbrev D' : List s.Desc → s.Desc → Type 0
  D' xs d = D tag mark frozen job around plain o finds r0 b xs d

  abbrev says : List (v.Desc (List ℕ)) → End → Type 0
  says bs e = Says J inner L o (record { number = o.number; spawned = bs; end = e })

  abbrev says_and : List (v.Desc (List ℕ)) → End → Type 0 → Type 0
  says_and bs e Q = SaysAnd J inner L o (record { number = o.number; spawned = bs; end = e }) Q

  -- ---- waits, ends and what is made, as the journal has them

  wait_to_job : (j : ℕ) (ds : List s.Desc) → o.from < j → WaitOf job around w j ds → journal.WaitOf J o.task j ds
  wait_to_job zero ds lt x = absurd (omega (arith, lt))
  wait_to_job (suc j) ds lt (k, e) =
      (k, wait_is job around (name no_name tag) (λ x. mark (low_obj no_name tag x)) (λ y. frozen (low_state tag y)) k o.task j ∙ e)

  wait_from_job : (j : ℕ) (ds : List s.Desc) → o.from < j → journal.WaitOf J o.task j ds → WaitOf job around w j ds
  wait_from_job zero ds lt x = absurd (omega (arith, lt))
  wait_from_job (suc j) ds lt (k, e) =
      (k, sym (wait_is job around (name no_name tag) (λ x. mark (low_obj no_name tag x)) (λ y. frozen (low_state tag y)) k o.task j) ∙ e)

  made_to_wait : (j : ℕ) (ds : List s.Desc) → o.from < j → MadeBetween job around w o.from j ds → SpawnedTo J o j ds
  made_to_wait zero ds lt m = absurd (omega (arith, lt))
  made_to_wait (suc j) ds lt (k, (es, e), is) =
      let there : slice_get (journal.waits_in (J.acts k o.task)) j ≡ Some es =
      wait_is job around (name no_name tag) (λ x. mark (low_obj no_name tag x)) (λ y. frozen (low_state tag y)) k o.task j ∙ e in (
        k,
        long (journal.waits_in (J.acts k o.task)) j es there,
        sym (ap (journal.made_before (suc j - o.from)) (after_is o.from (t.acts_of job around k w))
            ∙ (before_is (suc j - o.from) (t.after_wait o.from (t.acts_of job around k w)) ∙ is)),
      )

  made_to_end : (k : ℕ) (ds : List s.Desc) → ended job around k w ≡ true → made_after job around k w o.from ≡ ds → SpawnedToEnd J o ds
  made_to_end k ds e is =
      (k, e, sym (ap journal.made_in (after_is o.from (t.acts_of job around k w)) ∙ (made_is (t.after_wait o.from (t.acts_of job around k w)) ∙ is)))

  -- ---- where something that was made clashes, whatever comes behind it

  abbrev picks_of : (d : s.Desc) → Have' d ⊎ (Have' d → ⊥) → Bool
  picks_of d (inl h) = true
  picks_of d (inr no_have) = false

  abbrev picks : s.Desc → Bool
  picks d = picks_of d (have_or tag mark frozen job around plain o finds r0 b d)

  picked : (d : s.Desc) (x : Have' d ⊎ (Have' d → ⊥)) → picks_of d x ≡ true → Have' d
  picked d (inl h) e = h
  picked d (inr no_have) e = absurd (true_not e)

  picks_it : (d : s.Desc) (x : Have' d ⊎ (Have' d → ⊥)) → Have' d → picks_of d x ≡ true
  picks_it d (inl h) g = refl
  picks_it d (inr no_have) g = absurd (no_have g)

  have_picked : (d : s.Desc) → picks d ≡ true → Have' d
  have_picked d e = picked d (have_or tag mark frozen job around plain o finds r0 b d) e

  pick_have : (d : s.Desc) → Have' d → picks d ≡ true
  pick_have d h = picks_it d (have_or tag mark frozen job around plain o finds r0 b d) h

  -- all that the order brings along is seen with one number
  record SeenFor : Type 0 where
    k : ℕ
    seen : (d : s.Desc) → Have' d → see job around k d ≢ None

  some_seen : (ds : List s.Desc) → (k : ℕ) × ((d : s.Desc) → t.In d ds → Have' d → see job around k d ≢ None)
  some_seen [] = (0, λ d i h. absurd i)
  some_seen (e ∷ ds) = go (have_or tag mark frozen job around plain o finds r0 b e) (some_seen ds)
    where
      some_not : {A : Type 0} (a : A) → Some a ≢ None
      some_not a q = cc

      more_fuel : (k m : ℕ) (d : s.Desc) → k ≤ m → see job around k d ≢ None → see job around m d ≢ None
      more_fuel k m d le h q = at (see job around k d) refl
        where
          at : (x : Option s.Obj) → see job around k d ≡ x → ⊥
          at None z = h z
          at (Some x) z = some_not x (sym (see_to job around k m d x le z) ∙ q)

      go : Have' e ⊎ (Have' e → ⊥) → (k : ℕ) × ((d : s.Desc) → t.In d ds → Have' d → see job around k d ≢ None) → (k : ℕ)
          × ((d : s.Desc) → t.In d (e ∷ ds) → Have' d → see job around k d ≢ None)
      go (inr no_have) (k, f) = (k, both)
        where
          both : (d : s.Desc) → t.In d (e ∷ ds) → Have' d → see job around k d ≢ None
          both d (inl q) h = absurd (no_have (subst Have' q h))
          both d (inr i) h = f d i h
      go (inl g) (k, f) = (x.0 + k, both)
        where
          x : (m : ℕ) × (see job around m e ≢ None)
          x = let y = (b.brings.given e g).1 in (y.0, λ q. some_not y.1 (sym y.2 ∙ q))

          both : (d : s.Desc) → t.In d (e ∷ ds) → Have' d → see job around (x.0 + k) d ≢ None
          both d (inl q) h = more_fuel x.0 (x.0 + k) d (omega arith) (subst (λ z. see job around x.0 z ≢ None) (sym q) x.1)
          both d (inr i) h = more_fuel k (x.0 + k) d (omega arith) (f d i h)

  seen_for : SeenFor
  seen_for =
      let f = some_seen (held b.stands.0) in
      record { k = f.0; seen = λ d h. f.1 d (right.of_held tag mark frozen job around plain o finds r0 b o.from b.stands.0 d b.stands.1 h.0) h }

  -- what comes next of the task from the order's wait, with what is brought along
  abbrev Next' : Type 0
  Next' = ComesToEnd job around picks w o.from ⊎ ((i : ℕ) × t.NextWait job around (λ d. picks d ≡ true) w o.from i)

  -- where all that is waited for at the order's wait was brought along
  next_is : ((ds : List s.Desc) → WaitOf job around w o.from ds → Each Have' ds) → Next'
  next_is first = next_there job around n0 w o.from picks (λ d e. seen d (have_picked d e)) before
    where
      n0 : ℕ
      n0 = seen_for.k + b.stands.1.0

      more_fuel : (k m : ℕ) (d : s.Desc) → k ≤ m → see job around k d ≢ None → see job around m d ≢ None
      more_fuel k m d le h q = at (see job around k d) refl
        where
          some_not : {A : Type 0} (a : A) → Some a ≢ None
          some_not a z = cc

          at : (x : Option s.Obj) → see job around k d ≡ x → ⊥
          at None z = h z
          at (Some x) z = some_not x (sym (see_to job around k m d x le z) ∙ q)

      seen : (d : s.Desc) → Have' d → see job around n0 d ≢ None
      seen d h = more_fuel seen_for.k n0 d (omega arith) (seen_for.seen d h)

      before : (k : ℕ) (ds : List s.Desc) → k ≤ o.from → wait_at job around n0 w k ≡ Some ds → AllSeen job around n0 ds
      before k ds le e = go (below_or_same k o.from le)
        where
          go : (k < o.from) ⊎ (k ≡ o.from) → AllSeen job around n0 ds
          go (inl lt) = seen_before job around n0 w o.from b.stands.0
              (stands_to job around b.stands.1.0 n0 w o.from b.stands.0 (omega arith) b.stands.1.1) k ds lt e
          go (inr is) =
              each_in (λ d. see job around n0 d ≢ None) ds
              (λ d i. seen d (in_each Have' ds d (first ds (n0, ap (wait_at job around n0 w) (sym is) ∙ e)) i))

  -- what the journal says of it
  passes_job : (i : ℕ) (es : List s.Desc) → o.from < i → journal.WaitOf J o.task i es
      → (WaitOf job around w i es → Each (λ d. picks d ≡ true) es) → journal.Each Have' es
  passes_job i es lt x f =
      let all = f (wait_from_job i es lt x) in
      each_to Have' es (each_in Have' es (λ d k. have_picked d (in_each (λ d. picks d ≡ true) es d all k)))

  end_job : (c : ComesToEnd job around picks w o.from) → NextEnd J Have' o.task o.from
  end_job c =
      record { ends = c.ends; met = λ k es lt x. passes_job k es lt x (λ y. c.passes (suc k) k es lt (omega arith) y) }

  wait_job : (i : ℕ) (x : t.NextWait job around (λ d. picks d ≡ true) w o.from i) → NextWait J Have' o.task o.from i x.waits
  wait_job i x =
      record {
        later = x.above;
        waits = wait_to_job i x.waits x.above x.waited;
        unmet = (x.missing, in_to x.missing x.waits x.is_waited, λ h. x.is_missing (pick_have x.missing h));
        met = λ k es lt m y. passes_job k es lt y (λ z. x.passes k es lt m z);
      }

  -- ---- nothing is told where something is missing

  pub says_missing : ((ds : List s.Desc) → WaitOf job around w o.from ds → Each Have' ds) → (name : Digest) (loss : ℕ)
      → says [] (report.missing name loss)
  says_missing first name loss = go (next_is first)
    where
      go : Next' → says [] (report.missing name loss)
      go (inl c) =
          at_end (made_after job around c.ends.0 w o.from) (end_job c) (made_to_end c.ends.0 _ c.ends.1 refl) refl (λ k. tt)
      go (inr (i, x)) =
          let k = x.waited.0 in
          at_wait i x.waits (made_between job around k w o.from i) (wait_job i x) (made_to_wait i _ x.above (k, (x.waits, x.waited.1), refl))
          refl (λ q. tt)

  -- ---- where something that was made clashes

  -- the end isn't that something is missing
  abbrev Told : End → Type 0
  Told (report.missing name loss) = ⊥
  Told _ = Unit {0}

  spawns_of : (ds : List s.Desc) (bs : List (v.Desc (List ℕ))) (e : End) → Told e → Tells J inner L Met' ds bs → Spawns J inner L o ds bs e
  spawns_of ds bs (report.missing name loss) h x = absurd h
  spawns_of ds bs (report.made objects copied) h x = x
  spawns_of ds bs (report.stopped j m refs holds) h x = x

  pub says_astray : ((ds : List s.Desc) → WaitOf job around w o.from ds → Each Have' ds)
      → (j : ℕ) (front : List s.Desc) (rest : List (v.Desc (List ℕ))) (e : End) → o.from < j → MadeBetween job around w o.from j front
      → ((i : ℕ) (ds : List s.Desc) → o.from < i → i < j → WaitOf job around w i ds → Each Have' ds)
      → Clashes tag mark frozen job around plain o finds r0 b front → Told e → (Q : Type 0) → says_and (map L front ++ rest) e Q
  says_astray first j front rest e lt m passed c told Q = go (next_is first)
    where
      same : (k : ℕ) (ds : List s.Desc) → wait_at job around k w j ≡ Some ds → made_between job around k w o.from j ≡ front
      same k ds x = right.made_once job around w o.from j front (omega (arith, lt)) m k ds x

      go : Next' → says_and (map L front ++ rest) e Q
      go (inl x) =
          let k = x.ends.0 + m.0 in
          let wait : wait_at job around k w j ≡ Some m.1.0 = wait_to job around m.0 k w j m.1.0 (omega arith) m.1.1 in
          let over : ended job around k w ≡ true = (ended_stays_to job around x.ends.0 k w (omega arith) x.ends.1).0 in
          let tail = made_after job around k w j in
          let full : made_after job around k w o.from ≡ front ++ tail = after_between job around k w o.from j (omega (arith, lt))
          ∙ ap (λ xs. xs ++ tail) (same k m.1.0 wait) in
          to_end (front ++ tail) (end_job x) (made_to_end k (front ++ tail) over full)
          (spawns_of (front ++ tail) (map L front ++ rest) e told (tells_astray J inner L Met' front tail rest c))
          (λ q. absurd (not_clear J inner L Met' front tail c q))
      go (inr (i, x)) = at_next (not_before i x)
        where
          -- it isn't before the wait up to which all was brought along
          not_before : (i : ℕ) (x : t.NextWait job around (λ d. picks d ≡ true) w o.from i) → j ≤ i
          not_before i x = least (above_or j i)
            where
              least : (j ≤ i) ⊎ (i < j) → j ≤ i
              least (inl h) = h
              least (inr h) =
                  absurd (x.is_missing (pick_have x.missing (in_each Have' x.waits x.missing (passed i x.waits x.above h x.waited) x.is_waited)))

          at_next : j ≤ i → says_and (map L front ++ rest) e Q
          at_next le =
              let k = x.waited.0 + m.0 in
              let wait : wait_at job around k w j ≡ Some m.1.0 = wait_to job around m.0 k w j m.1.0 (omega arith) m.1.1 in
              let there : wait_at job around k w i ≡ Some x.waits = wait_to job around x.waited.0 k w i x.waits (omega arith) x.waited.1 in
              let tail = made_between job around k w j i in
              let full : made_between job around k w o.from i ≡ front ++ tail = between_two job around k w o.from j i (omega (arith, lt)) le
              ∙ ap (λ xs. xs ++ tail) (same k m.1.0 wait) in
              to_wait i x.waits (front ++ tail) (wait_job i x) (made_to_wait i (front ++ tail) x.above (k, (x.waits, there), full))
              (spawns_of (front ++ tail) (map L front ++ rest) e told (tells_astray J inner L Met' front tail rest c))
              (λ q. absurd (not_clear J inner L Met' front tail c q))

  -- ---- where nothing clashes

  -- the marks of what is made at the end
  marked_call : (d : s.Desc) (x : Object (List ℕ)) → SeenAs tag job around d x → Marked J (d ∷ []) ((d, mark x) ∷ [])
  marked_call d x (k, y, e, is) =
      (refl, (k, ap (mark_of J d k) refl ∙ seen_mark k y e is), tt)
    where
      mark_of : Job s.Desc → s.Desc → ℕ → Option Digest → Option Digest
      mark_of j d k m = m

      seen_mark : (k : ℕ) (y : s.Obj) → see job around k d ≡ Some y → x ≡ low_obj no_name tag y → J.object k d ≡ Some (mark x)
      seen_mark k y e is = ap (mark_if job around (name no_name tag) (λ z. mark (low_obj no_name tag z)) (λ z. frozen (low_state tag z))) e
          ∙ ap (λ z. Some (mark z)) (sym is)

  -- of a task that has states
  HasStates : n.Task → Type 0
  HasStates n.Task.show = Unit {0}
  HasStates (n.Task.of (call f c vs)) = Unit {0}
  HasStates (n.Task.of d) = ⊥

  made_end : (task : Task s.Desc) (j : ℕ) (a : n.State) (x : Object (List ℕ)) → StandsAt job around (back task) j a → task ≡ o.task
      → EndsAs tag job around (back task) x → MadeIs J inner L o (report.made (object_made tag mark frozen job around task x) [])
  made_end show j a x st is e = absurd e
  made_end (of (call f c vs)) j a x st is e = (
    ((call f c vs, mark x) ∷ []),
    [],
    subst (λ z. Marked J (J.outputs z) ((call f c vs, mark x) ∷ [])) is (marked_call (call f c vs) x e),
    tt,
    none_twice J.same,
    refl,
    refl,
  )
  made_end (of (out y z m i)) j a x st is e = absurd (none_some a st.1)
  made_end (of (input y)) j a x st is e = absurd (none_some a st.1)
  made_end (of (known z)) j a x st is e = absurd z

  shown_end : (task : Task s.Desc) (x : Answered) → task ≡ o.task → ShowsAs tag job around (back task) x → MadeIs J inner L o (report.made [] [])
  shown_end show x is e = ([], [], subst (λ z. Marked J (J.outputs z) []) is tt, tt, none_twice J.same, refl, refl)
  shown_end (of d) x is e = absurd e

  ends_of : (task : n.Task) (x : Object (List ℕ)) → EndsAs tag job around task x → t.Ends job around task
  ends_of n.Task.show x h = absurd h
  ends_of (n.Task.of d) x (k, y, e, g) = (k, ap is_some (see_to job around k (suc k) d y (omega arith) e))

  is_told : (a : Answered) → a ≢ Answered.not_yet → is_answer a ≡ true
  is_told Answered.not_yet ne = absurd (ne refl)
  is_told (Answered.bytes x) ne = refl
  is_told (Answered.fault f) ne = refl

  shows_of : (task : n.Task) (a : Answered) → ShowsAs tag job around task a → t.Ends job around task
  shows_of n.Task.show a (k, e, ne) = (k, ap is_answer e ∙ is_told a ne)
  shows_of (n.Task.of d) a h = absurd h

  -- the end of the task, with no wait after the wait j
  record AtEnd (j : ℕ) (xs : List s.Desc) (ms : List (v.Desc (List ℕ))) : Type 0 where
    seg : List s.Desc
    names : ms ≡ map L seg
    next : NextEnd J Have' o.task o.from
    spawns : SpawnedToEnd J o (xs ++ seg)

  no_wait : (j k : ℕ) → WaitsNoMore tag job around w j → wait_at job around k w (suc j) ≡ None
  no_wait j k h = go (wait_at job around k w (suc j)) refl
    where
      go : (x : Option (List s.Desc)) → wait_at job around k w (suc j) ≡ x → wait_at job around k w (suc j) ≡ None
      go None e = e
      go (Some ds) e = absurd (h (suc j) ds (omega arith) (k, e))

  ends_at : (r : Stand (List ℕ)) (j : ℕ) (xs : List s.Desc) (os : List (Object (List ℕ))) (ms : List (v.Desc (List ℕ))) (e : Stop)
      → Right' r j xs → AreFound tag job around w finds r os → Step tag job around w r os ms e → t.Ends job around w
      → WaitsNoMore tag job around w j → AtEnd j xs ms
  ends_at r j xs os ms e g found st ends none =
      let ans = answered tag mark frozen job around plain o finds r0 b r j xs os g found in
      let k = ans.k + (ends.0 + (g.has.1.0 + g.makes.0)) in
      let over : ended job around k w ≡ true = (ended_stays_to job around ends.0 k w (omega arith) ends.1).0 in
      let wait : wait_at job around k w j ≡ Some g.has.0 = wait_to job around g.has.1.0 k w j g.has.0 (omega arith) g.has.1.1 in
      let seg = made_between job around k w j (suc j) in
      let front : made_between job around k w o.from j ≡ xs = right.made_once job around w o.from j xs g.from g.makes k g.has.0 wait in
      let rest : made_after job around k w j ≡ seg = after_between job around k w j (suc j) (omega arith)
      ∙ ap (λ ds. seg ++ ds) (after_last job around k w j (no_wait j k none)) ∙ append-nil seg in
      record {
        seg = seg;
        names = st.makes j k g.stands (ans.from_there k (omega arith));
        next = record { ends = ends; met = λ i es lt x. each_to Have' es (met i es lt (wait_from_job i es lt x) (above_or i j)) };
        spawns = made_to_end k (xs ++ seg) over (after_between job around k w o.from j g.from ∙ (λ q. front q ++ rest q));
      }
    where
      met : (i : ℕ) (es : List s.Desc) → o.from < i → WaitOf job around w i es → (i ≤ j) ⊎ (j < i) → Each Have' es
      met i es lt x (inl le) = g.passes i es (omega (arith, lt)) le x
      met i es lt x (inr above) = absurd (none i es above x)

  -- the names of what is waited for and held at a wait
  module _ (xs : List s.Desc) (clear : Clear J inner L Met' xs) where
    d_apart : (d e : s.Desc) → D' xs d → D' xs e → name no_name tag d ≡ name no_name tag e → d ≡ e
    d_apart d e (inl f) (inl g) q = firsts_apart tag mark frozen job around plain o finds r0 b d e f g q
    d_apart d e (inl f) (inr i) q = clear_met J inner L equal_or Met' xs clear e d (in_to e xs i)
        (first_met tag mark frozen job around plain o finds r0 b d f) q
    d_apart d e (inr i) (inl g) q =
        sym (clear_met J inner L equal_or Met' xs clear d e (in_to d xs i) (first_met tag mark frozen job around plain o finds r0 b e g) (sym q))
    d_apart d e (inr i) (inr k) q = clear_both J inner L equal_or Met' xs clear d e (in_to d xs i) (in_to e xs k) q

    all_apart : (ds : List s.Desc) → Each (D' xs) ds → NoClash tag ds
    all_apart ds h d e i k q = d_apart d e (in_each (D' xs) ds d h i) (in_each (D' xs) ds e h k) q

    stopped_is : (q : Stand (List ℕ)) (j : ℕ) (ds : List s.Desc) (st : Stands job around tag q w j) → WaitOf job around w j ds → Each (D' xs) ds
        → Each (D' xs) (held st.0) → StoppedIs J inner L o j ds (end_of tag mark frozen job around o.task (Stop.waits q))
    stopped_is q j ds st wt waited kept = (
      stands_wait_is job around tag q w j st,
      (
        record { names = held st.0; mark = frozen (low_state tag st.0) },
        (st.1.0, right.at_is tag mark frozen job around plain o finds r0 b w st.1.0 j st.0 st.1.1),
        ap frozen st.2,
        ap names_of (stands_holds tag job around q w j (held st.0) st (held_at_is job around w j st.0 st.1) (all_apart (held st.0) kept))
            ∙ names_held tag (held st.0) ∙ sym (names_low J (held st.0)),
      ),
      ap names_of (stands_pending tag job around q w j ds st wt (all_apart ds waited)
          ∙ ap (map (λ d. low_ref no_name tag d)) (apart_refs ds (waits_apart job around wt.0 w j ds wt.1))) ∙ names_held tag ds
          ∙ sym (names_low J ds),
    )

  all_told : (xs seg : List s.Desc) (ms : List (v.Desc (List ℕ))) → ms ≡ map L seg → Tells J inner L Met' (xs ++ seg) (map L xs ++ ms)
  all_told xs seg ms e =
      subst (Tells J inner L Met' (xs ++ seg)) (map-append L xs seg ∙ ap (λ ys. map L xs ++ ys) (sym e)) (tells_all J inner L Met' (xs ++ seg))

  -- where it goes on it is right
  waits_at : (r : Stand (List ℕ)) (j : ℕ) (xs : List s.Desc) → Right' r j xs → WaitsAt tag mark frozen job around o r
  waits_at r j xs g =
      record { j = j; from = g.from; stands = g.stands; ds = g.has.0; waits = g.has.1; given = g.passes j g.has.0 g.from (omega arith) g.has.1 }

  abbrev Came : Stop → Type 0
  Came e = CameTo tag mark frozen job around o.task e

  abbrev Passed : (r : Stand (List ℕ)) (ms : List (v.Desc (List ℕ))) (e : Stop) → Walk tag job around w finds r ms e → Type 0
  Passed r ms e walk = (q : Stand (List ℕ)) → PassedIn tag job around w finds r ms e walk q → WaitsAt tag mark frozen job around o q

  -- the last step
  last_says : (r : Stand (List ℕ)) (j : ℕ) (xs : List s.Desc) (os : List (Object (List ℕ))) (ms : List (v.Desc (List ℕ))) (e : Stop)
      → Right' r j xs → AreFound tag job around w finds r os → Step tag job around w r os ms e → StopsAt tag job around w finds e
      → says_and (map L xs ++ ms) (end_of tag mark frozen job around o.task e) (Came e)
  last_says r j xs os ms (Stop.ended x) g found st stop =
      let to = st.steps j (answered tag mark frozen job around plain o finds r0 b r j xs os g found).k g.stands
      ((answered tag mark frozen job around plain o finds r0 b r j xs os g found).from_there _ (omega arith)) in
      let z = ends_at r j xs os ms (Stop.ended x) g found st (ends_of w x to.0) to.1 in
      to_end (xs ++ z.seg) z.next z.spawns (all_told xs z.seg ms z.names) (λ k. (made_end o.task j g.stands.0 x g.stands.1 refl to.0, to.0))
  last_says r j xs os ms (Stop.shown a) g found st stop =
      let to = st.steps j (answered tag mark frozen job around plain o finds r0 b r j xs os g found).k g.stands
      ((answered tag mark frozen job around plain o finds r0 b r j xs os g found).from_there _ (omega arith)) in
      let z = ends_at r j xs os ms (Stop.shown a) g found st (shows_of w a to.0) to.1 in
      to_end (xs ++ z.seg) z.next z.spawns (all_told xs z.seg ms z.names) (λ k. (shown_end o.task a refl to.0, to.0))
  last_says r j xs os ms (Stop.waits q) g found st lacks =
      let f = further tag mark frozen job around plain o finds r0 b r j xs os ms q g found st in
      let lt : o.from < suc j = omega (arith, g.from) in
      to_wait (suc j) f.ds (xs ++ f.seg) (next f lt) (made_to_wait (suc j) (xs ++ f.seg) lt f.makes) (all_told xs f.seg ms f.names)
      (λ k. (stopped_is (xs ++ f.seg) k q (suc j) f.ds f.stands f.waits f.waited f.holds, stands_there f.stands))
    where
      -- its number tells at which wait it stands
      stands_there : Stands job around tag q w (suc j) → Stands job around tag q w (stand_wait q)
      stands_there st = subst (Stands job around tag q w) (sym (stands_wait_is job around tag q w (suc j) st)) st

      all_or : (ds : List s.Desc) → Each Have' ds ⊎ ((d : s.Desc) × t.In d ds × (Have' d → ⊥))
      all_or [] = inl tt
      all_or (d ∷ ds) = one (have_or tag mark frozen job around plain o finds r0 b d) (all_or ds)
        where
          one : Have' d ⊎ (Have' d → ⊥) → Each Have' ds ⊎ ((e : s.Desc) × t.In e ds × (Have' e → ⊥)) → Each Have' (d ∷ ds)
              ⊎ ((e : s.Desc) × t.In e (d ∷ ds) × (Have' e → ⊥))
          one (inl h) (inl rest) = inl (h, rest)
          one (inl h) (inr x) = inr (x.0, inr x.1, x.2)
          one (inr no_have) rest = inr (d, inl refl, no_have)

      unmet : (f : Further tag mark frozen job around plain o finds r0 b r j xs q ms) → Each Have' f.ds
          ⊎ ((d : s.Desc) × t.In d f.ds × (Have' d → ⊥)) → (d : s.Desc) × In d f.ds × (Have' d → ⊥)
      unmet f (inr x) = (x.0, in_to x.0 f.ds x.1, x.2)
      unmet f (inl all) =
          let pending = stands_pending tag job around q w (suc j) f.ds f.stands f.waits
          (haves_apart tag mark frozen job around plain o finds r0 b f.ds all) in
          let back_to = right.from_map (λ d. low_ref no_name tag d) (distinct (λ a c. true) f.ds) lacks.0 (subst (t.In lacks.0) pending lacks.1) in
          let there = distinct_in (λ a c. true) (λ a c z. absurd a) (λ a. absurd a) f.ds back_to.0 back_to.1 in
          let have = in_each Have' f.ds back_to.0 all there in
          absurd (none_some (b.brings.given back_to.0 have).0 (sym lacks.2 ∙ (ap finds back_to.2 ∙ (b.brings.given back_to.0 have).2)))

      next : (f : Further tag mark frozen job around plain o finds r0 b r j xs q ms) → o.from < suc j → NextWait J Have' o.task o.from (suc j) f.ds
      next f lt =
          record {
            later = lt;
            waits = wait_to_job (suc j) f.ds lt f.waits;
            unmet = unmet f (all_or f.ds);
            met = λ k es up under x. each_to Have' es (g.passes k es (omega (arith, up)) (omega (arith, under)) (wait_from_job k es up x));
          }

  -- ---- the whole walk

  first_of : (r : Stand (List ℕ)) (ms : List (v.Desc (List ℕ))) (e : Stop) → Walk tag job around w finds r ms e → (os : List (Object (List ℕ)))
      × AreFound tag job around w finds r os
  first_of r ms e (last t os ns x found st stop) = (os, found)
  first_of r ms e (more t q os ns rest x found st walk) = (os, found)

  told_end : (e : Stop) → Told (end_of tag mark frozen job around o.task e)
  told_end (Stop.ended x) = tt
  told_end (Stop.shown a) = tt
  told_end (Stop.waits q) = tt

  walk_says : ((ds : List s.Desc) → WaitOf job around w o.from ds → Each Have' ds)
      → (r : Stand (List ℕ)) (j : ℕ) (xs : List s.Desc) (ms : List (v.Desc (List ℕ))) (e : Stop) → Right' r j xs
      → (walk : Walk tag job around w finds r ms e)
      → says_and (map L xs ++ ms) (end_of tag mark frozen job around o.task e) (Came e × Passed r ms e walk)
  walk_says first r j xs ms e g (last t os ns x found st stop) =
      says_more J inner L o _ (Came x) (Came x × Passed t ns x (last t os ns x found st stop))
      (λ c. (c, λ q p. subst (WaitsAt tag mark frozen job around o) (sym p) (waits_at t j xs g))) (last_says t j xs os ns x g found st stop)
  walk_says first r j xs ms e g (more t q os ns rest x found st walk) =
      let f = further tag mark frozen job around plain o finds r0 b t j xs os ns q g found st in
      let next = first_of q rest x walk in
      on f (goes tag mark frozen job around plain o finds r0 b t j xs ns q next.0 g f next.1)
      (λ h. walk_says first q (suc j) (xs ++ f.seg) rest x h walk)
    where
      joined : (f : Further tag mark frozen job around plain o finds r0 b t j xs q ns) → map L xs ++ (ns ++ rest) ≡ map L (xs ++ f.seg) ++ rest
      joined f =
          ap (λ ys. map L xs ++ (ys ++ rest)) f.names ∙ sym (append_assoc (map L xs) (map L f.seg) rest)
          ∙ ap (λ ys. ys ++ rest) (sym (map-append L xs f.seg))

      Whole : Type 0
      Whole = Came x × Passed t (ns ++ rest) x (more t q os ns rest x found st walk)

      both : Came x × Passed q rest x walk → Whole
      both (c, p) = (c, all)
        where
          all : Passed t (ns ++ rest) x (more t q os ns rest x found st walk)
          all y (inl h) = subst (WaitsAt tag mark frozen job around o) (sym h) (waits_at t j xs g)
          all y (inr h) = p y h

      on : (f : Further tag mark frozen job around plain o finds r0 b t j xs q ns) → Right' q (suc j) (xs ++ f.seg)
          ⊎ Clashes tag mark frozen job around plain o finds r0 b (xs ++ f.seg)
          → (Right' q (suc j) (xs ++ f.seg) → says_and (map L (xs ++ f.seg) ++ rest) (end_of tag mark frozen job around o.task x)
          (Came x × Passed q rest x walk)) → says_and (map L xs ++ (ns ++ rest)) (end_of tag mark frozen job around o.task x) Whole
      on f (inl h) go = subst (λ bs. says_and bs (end_of tag mark frozen job around o.task x) Whole) (sym (joined f))
          (says_more J inner L o _ (Came x × Passed q rest x walk) Whole both (go h))
      on f (inr c) go =
          subst (λ bs. says_and bs (end_of tag mark frozen job around o.task x) Whole) (sym (joined f))
          (says_astray first (suc j) (xs ++ f.seg) rest (end_of tag mark frozen job around o.task x) (omega (arith, g.from)) f.makes
          (λ i ds up under wt. g.passes i ds (omega (arith, up)) (omega (arith, under)) wt) c (told_end x) Whole)

  pub walks_true : (ms : List (v.Desc (List ℕ))) (e : Stop) → (walk : Walk tag job around w finds r0 ms e)
      → says_and ms (end_of tag mark frozen job around o.task e) (Came e × Passed r0 ms e walk)
  walks_true ms e walk =
      let f = first_of r0 ms e walk in
      walk_says (right.first_have tag mark frozen job around plain o finds r0 b f.0 f.1) r0 o.from [] ms e
      (begun tag mark frozen job around plain o finds r0 b f.0 f.1) walk

  pub walks : (ms : List (v.Desc (List ℕ))) (e : Stop) → Walk tag job around w finds r0 ms e → says ms (end_of tag mark frozen job around o.task e)
  walks ms e walk = only_says J inner L o _ _ (walks_true ms e walk)

  pub missing_one : ((d : v.Desc (List ℕ)) → t.In d (pending_in same_text r0) → (x : Object (List ℕ)) × (finds d ≡ Some x))
      → (name : Digest) (loss : ℕ) → says [] (report.missing name loss)
  missing_one found name loss = says_missing (right.have_all tag mark frozen job around plain o finds r0 b found) name loss
