-- The real job as a job of journals.
use Rattle.sky_base.specs.Val as v
use Rattle.sky_base_law.specs.Tasks as t
use Rattle.sky_base.specs.See as s
use Rattle.sky_base.specs.Read as r
use Rattle.sky_base.specs.Needed as n
use Rattle.std.specs.Prelude.{ℕ, zero, suc, ◌+◌, List, [], ◌∷◌, Option, Some, None}
use Rattle.ciel_journal.specs.Job.{Digest, Task, show, of, Act, made, wait, Held, Job}

abbrev pub back : Task s.Desc → n.Task
back show = n.Task.show
back (of d) = n.Task.of d

abbrev pub forth : n.Task → Task s.Desc
forth n.Task.show = show
forth (n.Task.of d) = of d

abbrev pub forth_if : Option n.Task → Option (Task s.Desc)
forth_if None = None
forth_if (Some t) = Some (forth t)

abbrev pub act_of : r.Act ⊥ → Act s.Desc
act_of (r.made d) = made d
act_of (r.waited ds) = wait ds

abbrev pub acts_of : List (r.Act ⊥) → List (Act s.Desc)
acts_of [] = []
acts_of (a ∷ as_) = act_of a ∷ acts_of as_

-- `mark` is the mark of an object, `frozen` that of a state
module _ (job : s.Job) (around : s.Around) (name : s.Desc → Digest) (mark : s.Obj → Digest) (frozen : n.State → Digest) where
  abbrev pub held_if : Option n.State → Option (Held s.Desc)
  held_if None = None
  held_if (Some a) = Some (record { names = t.held a; mark = frozen a })

  -- an executor's task has no state: at its start it holds what its arguments refer to
  abbrev pub at_of : ℕ → n.Task → ℕ → Option (Held s.Desc)
  at_of k n.Task.show j = held_if (n.stands_at job around k n.Task.show j)
  at_of k (n.Task.of (v.call f c vs)) j = held_if (n.stands_at job around k (n.Task.of (v.call f c vs)) j)
  at_of k (n.Task.of (v.out x a m i)) zero = Some (record { names = n.distinct_refs a; mark = [] })
  at_of k (n.Task.of (v.out x a m i)) (suc j) = None
  at_of k (n.Task.of (v.input y)) j = None
  at_of k (n.Task.of (v.known b)) j = absurd b

  abbrev pub mark_if : Option s.Obj → Option Digest
  mark_if None = None
  mark_if (Some o) = Some (mark o)

  abbrev pub real_job : Job s.Desc
  real_job =
      record {
        same = t.same;
        name = name;
        main = s.main_call;
        task_of = λ d. forth_if (t.maker d);
        outputs = λ u. t.outputs_of (back u);
        first = λ u. t.first_of (back u);
        acts = λ k u. acts_of (t.acts_of job around k (back u));
        ended = λ k u. t.ended job around k (back u);
        at = λ k u j. at_of k (back u) j;
        object = λ k d. mark_if (s.see job around k d);
      }

-- how deep descriptions stand inside one another
abbrev mutual
  pub rank : v.Val ⊥ → ℕ
  rank v.null = 0
  rank (v.truth b) = 0
  rank (v.num z) = 0
  rank (v.text t) = 0
  rank (v.list vs) = ranks vs
  rank (v.dict ps) = pair_ranks ps
  rank (v.fun f c) = pair_ranks c
  rank (v.ref d) = desc_rank d

  pub ranks : v.Vals ⊥ → ℕ
  ranks v.no_vals = 0
  ranks (v.val x vs) = rank x + ranks vs

  pub pair_ranks : v.Pairs ⊥ → ℕ
  pair_ranks v.no_pairs = 0
  pair_ranks (v.pair k x ps) = rank x + pair_ranks ps

  pub desc_rank : v.Desc ⊥ → ℕ
  desc_rank (v.call f c vs) = suc (pair_ranks c + ranks vs)
  desc_rank (v.out x a n i) = suc (rank a)
  desc_rank (v.input k) = 0
  desc_rank (v.known b) = 0
