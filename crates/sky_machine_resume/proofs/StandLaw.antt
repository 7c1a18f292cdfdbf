-- The stack of a state that stands for a call is that of the call's run over names at its wait, and it goes on as the call does.
use Rattle.std.proofs.Common.{◌≡◌, ◌-◌, ◌++◌, ℕ, zero, suc, List, [], ◌∷◌, map, true, is_some, Option, Some, None, refl, sym, ap, ◌∙◌, subst, arith}
use Rattle.std.specs.Option.{option_map}
use Rattle.sky_base.specs.Val as v
use Rattle.sky_base.specs.Val.{call, known, null, distinct}
use Rattle.sky_base.specs.Name.{digested, low_desc, low_pairs, low_vals}
use Rattle.sky_base.specs.Tree.{Script, nowhere}
use Rattle.sky_base.specs.Res.{bodies, others, Object, End, St, Entry, Res, Fin, Tell, Ask, Wait}
use Rattle.sky_base.specs.Eval.{World, body_of, body_at, plug}
use Rattle.sky_base.specs.Read.{ended, Run, Halt, refs_of, see_all, halts_seen, outcome, acts, halt, segment, segment_from, first_end, first_halt}
use Rattle.sky_base.specs.Read.{rest_of, run_of_halt}
use Rattle.sky_base.specs.See.{Vals, Pairs, Desc, Obj, Job, Around, see, run_of, world_of, start_st, object_of}
use Rattle.sky_base.specs.Needed.{Task, State, halt_state, halt_refs, wait_at}
use Rattle.sky_base.specs.ObjectView.{object_view}
use Rattle.sky_base.specs.declared.object.Object as rust
use Rattle.sky_base_law.specs.Lower.{low_entry, low_wait, low_obj, low_end, low_st, low_halt, low_run, low_stop}
use Rattle.sky_base_law.specs.NamesLaws.{no_name, ReadsAlike}
use Rattle.sky_base_law.specs.Nodes.{node_at}
use Rattle.sky_base_law.specs.Opened.{Node}
use Rattle.sky_base_law.specs.Tasks.{after_wait, made_before, made_between}
use Rattle.sky_base_law.proofs.LowLaw.{Rel}
use Rattle.sky_base_law.proofs.LowStack.{job_low, stack_low}
use Rattle.sky_base_law.proofs.NodesLaw.{has_script}
use Rattle.sky_base_law.proofs.OpenLaw as law
use Rattle.sky_base_law.proofs.OpenLaw.{Opens, opens_call}
use Rattle.sky_base_law.proofs.SeenLaw.{stands_one}
use Rattle.sky_base_law.proofs.TaskFuel.{made_next}
use Rattle.sky_base_law.proofs.TaskLaw.{halt_is, task_ends, task_halts, resume_halts, resume_makes, resume_ends}
use Rattle.sky_base_law.proofs.Lists.{some_is, none_some}
use Rattle.sky_base_known.specs.Data.{data_of}
use Rattle.sky_state.specs.Stand.{Stand, low_state}
use Rattle.sky_state.specs.Stands.{Stands}
use Rattle.sky_state.specs.Chained.{body_places, Chained, AllOpened}
use Rattle.sky_state.proofs.LinkLaw.{Linked, linked_call}
use Rattle.sky_machine_waits.specs.Waits.{wait_at as waits_at}
use Rattle.sky_machine_waits.proofs.AskLaw.{Asks, asks_call}
use Rattle.sky_machine_resume.specs.Comes.{over_names, with_name, LeftAt, object_at, Comes}
use Rattle.sky_machine_resume.specs.Standing.{StandsOn, GoesOnAs, MakesAs}
use Rattle.sky_machine_resume.specs.declared.on.Came.{Came}
use Rattle.sky_machine_resume.proofs.Later.{no_later}
use Rattle.sky_machine_resume.proofs.OnceLaw.{see_whole, ends_once}

all_opened : {N : Type 0} (w : World N) (at : ℕ → Option Node) (fr : List (Entry N)) → law.AllOpened w at fr → AllOpened at fr
all_opened w at [] h = tt
all_opened w at (en ∷ fr) h = (h.0, all_opened w at fr h.1)

pub mapped : {A B : Type 0} (g : A → B) (o : Option A) (y : B) → Some y ≡ option_map g o → (x : A) × (o ≡ Some x) × (y ≡ g x)
mapped g None y e = absurd (none_some y (sym e))
mapped g (Some x) y e = (x, refl, some_is y (g x) e)

pub end_outcome : (look : Desc → Option Obj) (r : Res ⊥) (s : End ⊥ × St ⊥) → first_end r ≡ Some s → outcome look r ≡ ended s.0 s.1
end_outcome look (Fin e st) s is = ap (λ x. ended x.0 x.1) (some_is (e, st) s is)
end_outcome look (Tell d r) s is = end_outcome look r s is
end_outcome look (Ask q fr st k) s is = absurd (none_some s is)

-- what a call makes from one wait up to the next
pub made_one : (job : Job) (around : Around) (n : ℕ) (f : List ℕ) (c : Pairs) (vs : Vals) (j : ℕ)
    → made_between job around n (Task.of (call f c vs)) j (suc j) ≡ segment_from (see job around n) j (run_of job around f c vs)
made_one job around n f c vs j =
    let one : suc j - j ≡ 1 = omega arith in
    ap (λ k. made_before k (after_wait j (acts (see job around n) (run_of job around f c vs)))) one
    ∙ made_next (see job around n) j (run_of job around f c vs)

-- a run that comes to its end before any wait stands at none
pub end_no_halt : (r : Res ⊥) (s : End ⊥ × St ⊥) → first_end r ≡ Some s → (look : Desc → Option Obj) (k : ℕ) → halt look k r ≡ None
end_no_halt (Fin e st) s is look k = refl
end_no_halt (Tell d r) s is look k = end_no_halt r s is look k
end_no_halt (Ask q fr st g) s is look k = absurd (none_some s is)

module _ (digest : List ℕ → List ℕ) where
  pub same_run : (r : Run (List ℕ)) (s : Run ⊥) (a : State) → Stand.run r ≡ low_state (digested digest) a → State.run s ≡ a → r
      ≡ low_run no_name (digested digest) s
  same_run r s a e g = inner (e ∙ ap (low_state (digested digest)) (sym g))
    where
      inner : Stand.run r ≡ Stand.run (low_run no_name (digested digest) s) → r ≡ low_run no_name (digested digest) s
      inner i = cc

  -- the object of an end, over descriptions and over names
  pub end_object : (e : End ⊥) (st : St ⊥) → (x : Obj) × (object_of (ended e st) ≡ Some x)
      × (object_at (low_end no_name (digested digest) e) ≡ low_obj no_name (digested digest) x)
  end_object End.goes st = (Object.data_of null, refl, refl)
  end_object (End.got u) st = (Object.data_of u, refl, refl)
  end_object (End.returned u) st = (Object.data_of u, refl, refl)
  end_object (End.failed g) st = (Object.fault g, refl, refl)

module _ (digest : List ℕ → List ℕ) (job : Job) (around : Around) (alike : ReadsAlike (digested digest) around data_of) where
  abbrev W : World (List ℕ)
  W = over_names digest job.script

  abbrev At : ℕ → Option Node
  At i = node_at job.script i

  -- what holds of forms over names
  pub record Found (ps : List ℕ) (h : Halt (List ℕ)) : Type 0 where
    pub opened : AllOpened At h.forms
    pub follow : Chained job.script At ps h.forms
    pub wait : waits_at At h.forms ≡ Some h.wait

  pub record Fit (ps : List ℕ) (q : Res (List ℕ)) : Type 0 where
    pub opens : Opens W At q
    pub links : Linked W At ps q
    pub asks : Asks W At q

  module _ (look : Desc → Option Obj) (ps : List ℕ) where
    on_seen : (x : Option (List Obj)) (k : List Obj → Option (Halt ⊥)) (h : Halt ⊥)
        → ((os : List Obj) → k os ≡ Some h → Found ps (low_halt no_name (digested digest) h)) → halts_seen x k ≡ Some h
        → Found ps (low_halt no_name (digested digest) h)
    on_seen None k h g e = absurd (none_some h e)
    on_seen (Some os) k h g e = g os e

    tell_fit : (d : v.Desc (List ℕ)) (q : Res (List ℕ)) → Fit ps (Tell d q) → Fit ps q
    tell_fit d q f = record { opens = f.opens.1; links = f.links.1; asks = f.asks.1 }

    ask_fit : (y : Wait (List ℕ)) (fr : List (Entry (List ℕ))) (st : St (List ℕ)) (k : List (Object (List ℕ)) → Res (List ℕ))
        (os : List (Object (List ℕ))) → Fit ps (Ask y fr st k) → Fit ps (k os)
    ask_fit y fr st k os f = record { opens = f.opens.1 os; links = f.links.1 os; asks = f.asks.1 os }

    ask_found : (y : Wait (List ℕ)) (fr : List (Entry (List ℕ))) (st : St (List ℕ)) (k : List (Object (List ℕ)) → Res (List ℕ))
        → Fit ps (Ask y fr st k) → Found ps (record { wait = y; forms = fr; st = st })
    ask_found y fr st k f = record { opened = all_opened W At fr f.opens.0; follow = f.links.0; wait = f.asks.0 }

    walk : (j : ℕ) (r : Res ⊥) (q : Res (List ℕ)) (h : Halt ⊥) → Rel no_name (digested digest) r q → Fit ps q → halt look j r ≡ Some h
        → Found ps (low_halt no_name (digested digest) h)
    walk j (Fin e st) q h g f is = absurd (none_some h is)
    walk j (Tell d r) q h g f is =
        walk j r g.0 h g.2 (tell_fit (low_desc no_name (digested digest) d) g.0 (subst (Fit ps) g.1 f)) is
    walk zero (Ask y fr st k) q h g f is =
        subst (λ x. Found ps (low_halt no_name (digested digest) x)) (some_is (record { wait = y; forms = fr; st = st }) h is)
        (ask_found (low_wait no_name (digested digest) y) (map (low_entry no_name (digested digest)) fr)
        (low_st no_name (digested digest) st) g.0 (subst (Fit ps) g.1 f))
    walk (suc j) (Ask y fr st k) q h g f is =
        on_seen (see_all look (refs_of y)) (λ os. halt look j (k os)) h
        (λ os e. walk j (k os) (g.0 (map (low_obj no_name (digested digest)) os)) h (g.2 os)
        (ask_fit (low_wait no_name (digested digest) y) (map (low_entry no_name (digested digest)) fr) (low_st no_name (digested digest) st)
        g.0 (map (low_obj no_name (digested digest)) os) (subst (Fit ps) g.1 f)) e) is

  module _ (f : List ℕ) (c : Pairs) (vs : Vals) where
    abbrev Low : Res (List ℕ)
    Low = body_at W bodies f (low_pairs no_name (digested digest) c) (low_vals no_name (digested digest) vs) nowhere start_st

    low_fits : Fit (body_places (body_of f job.script)) Low
    low_fits = record {
      opens = opens_call W At bodies f (low_pairs no_name (digested digest) c) (low_vals no_name (digested digest) vs) nowhere start_st
          (has_script job.script);
      links = linked_call W At bodies f (low_pairs no_name (digested digest) c) (low_vals no_name (digested digest) vs) nowhere start_st
          (has_script job.script);
      asks = asks_call W At bodies f (low_pairs no_name (digested digest) c) (low_vals no_name (digested digest) vs) nowhere start_st
          (has_script job.script);
    }

    -- the forms at a wait of the call, over names
    found : (n j : ℕ) (h : Halt ⊥) → halt (see job around n) j (run_of job around f c vs) ≡ Some h
        → Found (body_places (body_of f job.script)) (low_halt no_name (digested digest) h)
    found n j h is =
        walk (see job around n) (body_places (body_of f job.script)) j (run_of job around f c vs) Low h
        (job_low job around (digested digest) data_of alike f c vs) low_fits is

    -- the wait at which a stack stands
    pub record Standing (n j : ℕ) (ds : List Desc) (r : Run (List ℕ)) : Type 0 where
      pub at : Halt ⊥
      pub is : halt (see job around n) j (run_of job around f c vs) ≡ Some at
      pub refs : refs_of at.wait ≡ ds
      pub left : LeftAt job.script f (low_halt no_name (digested digest) at) r
      pub waits : r.waits ≡ suc j

    standing : (n j : ℕ) (ds : List Desc) (r : Run (List ℕ)) → wait_at job around n (Task.of (call f c vs)) (suc j) ≡ Some ds
        → Stands job around (digested digest) (Stand.run r) (Task.of (call f c vs)) (suc j) → Standing n j ds r
    standing n j ds r w s = go (halt (see job around n) j (run_of job around f c vs)) refl w
      where
        go : (x : Option (Halt ⊥)) → halt (see job around n) j (run_of job around f c vs) ≡ x → halt_refs x ≡ Some ds → Standing n j ds r
        go None e g = absurd (none_some ds g)
        go (Some h) e g =
            let same : State.run (run_of_halt f (suc j) h) ≡ s.0 =
            stands_one job around (Task.of (call f c vs)) (suc j) (State.run (run_of_halt f (suc j) h)) s.0 (n, ap (halt_state f (suc j)) e)
            s.1 in
            let stack : r ≡ run_of_halt f (suc j) (low_halt no_name (digested digest) h) =
            same_run digest r (run_of_halt f (suc j) h) s.0 s.2 same ∙ sym (stack_low no_name (digested digest) f (suc j) h) in
            let there = found n j h e in
            record {
              at = h;
              is = e;
              refs = some_is (refs_of h.wait) ds g;
              left = record {
                frames = ap (λ (x : Run (List ℕ)). x.frames) (sym stack);
                count = ap (λ (x : Run (List ℕ)). x.count) (sym stack);
                follow = there.follow;
                opened = there.opened;
                wait = there.wait;
              };
              waits = ap (λ (x : Run (List ℕ)). x.waits) stack;
            }

    -- ---- how it goes on

    abbrev pub Onward : Halt ⊥ → List Obj → Res (List ℕ)
    Onward h os = rest_of W others (low_halt no_name (digested digest) h) (map (low_obj no_name (digested digest)) os)

    module _ (n j : ℕ) (ds : List Desc) (os : List Obj) (r : Run (List ℕ)) (s : Standing n j ds r)
        (seen : see_all (see job around n) ds ≡ Some os) where
      at_seen : see_all (see job around n) (refs_of s.at.wait) ≡ Some os
      at_seen = ap (see_all (see job around n)) s.refs ∙ seen

      halts : first_halt (Onward s.at os) ≡ option_map (low_halt no_name (digested digest))
          (halt (see job around n) (suc j) (run_of job around f c vs))
      halts = resume_halts job around (see job around n) f c vs j s.at os s.is at_seen (digested digest) data_of alike

      pub goes_on : (o : Came) (new : Run (List ℕ)) → Comes f r.waits (Onward s.at os) o new → StandsOn digest job around (call f c vs) (suc j) o new
      unfolding see
      goes_on (Came.Ended o) new (e, is, object) =
          let look = see job around n in
          let rest = rest_of (world_of job.script around) others s.at os in
          let over = mapped (low_stop no_name (digested digest)) (first_end rest) e
          (sym is ∙ resume_ends job around look f c vs j s.at os s.is at_seen (digested digest) data_of alike) in
          let x = end_object digest over.0.0 over.0.1 in
          let out : see job around (suc n) (call f c vs) ≡ Some x.0 =
          ap object_of (task_ends job around look f c vs j s.at os s.is at_seen ∙ end_outcome look rest over.0 over.1) ∙ x.1 in
          let gone : halt look (suc j) (run_of job around f c vs) ≡ None = task_halts job around look f c vs j s.at os s.is at_seen
          ∙ sym (halt_is look rest) ∙ end_no_halt rest over.0 over.1 look 0 in (
            (suc n, x.0, out, object ∙ ap (λ (y : End (List ℕ) × St (List ℕ)). object_at y.0) over.2 ∙ x.2),
            no_later (digested digest) job around n (Task.of (call f c vs)) (suc j) (ap is_some out) (ap halt_refs gone),
          )
      goes_on Came.Waits new (h, is, stack) =
          let next = mapped (low_halt no_name (digested digest)) (halt (see job around n) (suc j) (run_of job around f c vs)) h (sym is ∙ halts) in
          let run : new ≡ low_run no_name (digested digest) (run_of_halt f (suc (suc j)) next.0) = stack
          ∙ ap (λ x. run_of_halt f (suc r.waits) x) next.2
          ∙ ap (λ k. run_of_halt f (suc k) (low_halt no_name (digested digest) next.0)) s.waits
          ∙ stack_low no_name (digested digest) f (suc (suc j)) next.0 in
          (State.run (run_of_halt f (suc (suc j)) next.0), (n, ap (halt_state f (suc (suc j))) next.1), ap Stand.run run)

      pub makes_on : segment (Onward s.at os) ≡ map (low_desc no_name (digested digest))
          (made_between job around n (Task.of (call f c vs)) (suc j) (suc (suc j)))
      makes_on =
          resume_makes job around (see job around n) f c vs j s.at os s.is at_seen (digested digest) data_of alike
          ∙ ap (map (low_desc no_name (digested digest))) (sym (made_one job around n f c vs (suc j)))

  -- a stack that stands for a call
  pub stand_of : (f : List ℕ) (c : Pairs) (vs : Vals) (n j : ℕ) (ds : List Desc) (r : Run (List ℕ))
      → wait_at job around n (Task.of (call f c vs)) (suc j) ≡ Some ds
      → Stands job around (digested digest) (Stand.run r) (Task.of (call f c vs)) (suc j) → Standing f c vs n j ds r
  stand_of f c vs n j ds r w s = standing f c vs n j ds r w s

-- ---- what is said of all jobs

abbrev Named : (List ℕ → List ℕ) → Halt ⊥ → Halt (List ℕ)
Named digest h = low_halt no_name (digested digest) h

abbrev Objects : (List ℕ → List ℕ) → List Obj → List (Object (List ℕ))
Objects digest os = map (low_obj no_name (digested digest)) os

-- the rest from a wait is the same where each description is answered once
rest_once : (digest : List ℕ → List ℕ) (sc : Script) (look : Desc → Option Obj) (h : Halt ⊥) (os xs : List Obj)
    → see_all look (distinct (λ a b. true) (refs_of h.wait)) ≡ Some os → see_all look (refs_of h.wait) ≡ Some xs
    → rest_of (over_names digest sc) others (Named digest h) (Objects digest os)
    ≡ rest_of (over_names digest sc) others (Named digest h) (Objects digest xs)
rest_once digest sc look h os xs e g =
    let w = over_names digest sc in
    ap (λ x. plug w others (Named digest h).forms (Fin x (Named digest h).st)) (ends_once look w (digested digest) h.wait os xs e g)

pub goes_as : (digest : List ℕ → List ℕ) (sc : Script) (old new : Run (List ℕ)) (answers : List rust.Object) (came : Came)
    → ((f : List ℕ) (h : Halt (List ℕ)) → LeftAt sc f h old
    → Comes f old.waits (rest_of (over_names digest sc) others h (map object_view answers)) came new) → (j : ℕ)
    → GoesOnAs digest (suc j) sc old answers came new
goes_as digest sc old new answers came comes j = λ job around f c vs n is alike s a.
    let st = stand_of digest job around alike f c vs n j a.0 old a.2 s in
    let look = see job around n in
    let all = see_whole look a.0 a.1 a.3 in
    let once : see_all look (distinct (λ a b. true) (refs_of st.at.wait)) ≡ Some a.1 =
    ap (λ ds. see_all look (distinct (λ a b. true) ds)) st.refs ∙ a.3 in
    let whole : see_all look (refs_of st.at.wait) ≡ Some all.0 = ap (see_all look) st.refs ∙ all.1 in
    let here = subst (λ x. LeftAt x f (Named digest st.at) old
    → Comes f old.waits (rest_of (over_names digest x) others (Named digest st.at) (map object_view answers)) came new) (sym is)
    (comes f (Named digest st.at)) st.left in
    let rest = ap (rest_of (over_names digest job.script) others (Named digest st.at)) a.4
    ∙ rest_once digest job.script look st.at a.1 all.0 once whole in
    goes_on digest job around alike f c vs n j a.0 all.0 old st all.1 came new (subst (λ q. Comes f old.waits q came new) rest here)

pub makes_as : (digest : List ℕ → List ℕ) (sc : Script) (stack : Run (List ℕ)) (answers : List rust.Object)
    (old new : List (List ℕ × v.Desc (List ℕ)))
    → ((f : List ℕ) (h : Halt (List ℕ)) → LeftAt sc f h stack → new ≡ old
    ++ map (with_name digest) (segment (rest_of (over_names digest sc) others h (map object_view answers)))) → (j : ℕ)
    → MakesAs digest (suc j) sc stack answers old new
makes_as digest sc stack answers old new made j = λ job around f c vs n is alike s a.
    let st = stand_of digest job around alike f c vs n j a.0 stack a.2 s in
    let look = see job around n in
    let all = see_whole look a.0 a.1 a.3 in
    let once : see_all look (distinct (λ a b. true) (refs_of st.at.wait)) ≡ Some a.1 =
    ap (λ ds. see_all look (distinct (λ a b. true) ds)) st.refs ∙ a.3 in
    let whole : see_all look (refs_of st.at.wait) ≡ Some all.0 = ap (see_all look) st.refs ∙ all.1 in
    let rest = ap (rest_of (over_names digest job.script) others (Named digest st.at)) a.4
    ∙ rest_once digest job.script look st.at a.1 all.0 once whole in
    let here = subst (λ x. LeftAt x f (Named digest st.at) stack → new ≡ old
    ++ map (with_name digest) (segment (rest_of (over_names digest x) others (Named digest st.at) (map object_view answers)))) (sym is)
    (made f (Named digest st.at)) st.left in
    here
    ∙ ap (λ q. old ++ map (with_name digest) (segment q)) rest
    ∙ ap (λ ds. old ++ map (with_name digest) ds) (makes_on digest job around alike f c vs n j a.0 all.0 stack st all.1)
