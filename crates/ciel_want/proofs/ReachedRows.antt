-- The rows to which the root task leads are those of the reached tasks.
use Rattle.std.proofs.Common.{◌≡◌, ℕ, zero, suc, ◌<◌, List, [], ◌∷◌, Bool, true, false, cond, not, filter, length, slice_get, refl, ap, sym, ◌∙◌}
use Rattle.std.proofs.Common.{subst, ◌⊎◌, inl, inr, arith, Option, Some, None, IfSome}
use Rattle.std.specs.Option.{option_map_or}
use Rattle.sky_base.specs.declared.object.TaskId.{TaskId}
use Rattle.ciel_journal.specs.Graph.{Led, root, through}
use Rattle.ciel_journal.specs.Job.{In}
use Rattle.ciel_want.specs.Search.{Among, IsWithin, LedTo, first, further, unmet}
use Rattle.ciel_table.specs.Seen.{TableSeen, Known, find, row_name}
use Rattle.ciel_table.specs.declared.row.Row.{Row}
use Rattle.ciel_want.specs.Board.{IsFlagged, blockers_of, is_set, leads, never, task_at, task_row}
use Rattle.ciel_want.specs.Marked.{Flagged}
use Rattle.ciel_want.specs.Waited.{Whole, graph, is_in, needs}
use Rattle.ciel_want.proofs.WaitedRows.{Blocks, all_in, among_here, among_more, blocker_of, blockers_from, blockers_has, blocks_known, blocks_of}
use Rattle.ciel_want.proofs.WaitedRows.{dead_of, maker_of, needs_known}
use Rattle.ciel_want.proofs.Rows.{item_at}

pub keep_all : (es : List ℕ) → filter (λ e. not (never e)) es ≡ es
keep_all [] = refl
keep_all (e ∷ es) = ap (λ xs. e ∷ xs) (keep_all es)

-- so many numbers
abbrev pub upto : ℕ → List ℕ
upto zero = []
upto (suc n) = n ∷ upto n

pub upto_long : (n : ℕ) → length (upto n) ≡ n
upto_long zero = refl
upto_long (suc n) = ap suc (upto_long n)

pub upto_has : (n e : ℕ) → e < n → Among e (upto n)
upto_has zero e l = absurd (omega (arith, l))
upto_has (suc n) e l = pick (cases e n (omega (arith, l))) (upto_has n e)
  where
    cases : (a b : ℕ) → a < suc b → (a ≡ b) ⊎ (a < b)
    cases a b k = grind (arith, k)

    pick : ((e ≡ n) ⊎ (e < n)) → (e < n → Among e (upto n)) → Among e (n ∷ upto n)
    pick (inl s) r = subst (λ x. Among x (n ∷ upto n)) (sym s) (among_here n (upto n))
    pick (inr k) r = among_more e n (upto n) (r k)

module _ {P : Type 0} (main : List ℕ) (t : TableSeen P) (out : List TaskId) where
  -- from a row to the rows of what blocks its task
  leads_of : (from : Option ℕ) (e : ℕ) → Among e (unmet (leads t main out) never from) → (is_in out (task_at t from) ≡ false)
      × ((n : List ℕ) × In n (needs main t (task_at t from)) × Blocks t n e)
  leads_of from e a = turn (is_in out (task_at t from)) refl (subst (Among e) (keep_all (leads t main out from)) a)
    where
      found : Among e (blockers_of t (needs main t (task_at t from))) → (n : List ℕ) × In n (needs main t (task_at t from)) × Blocks t n e
      found h =
          let q = blockers_from t (needs main t (task_at t from)) e h in (q.0, q.1, blocks_of t q.0 e q.2)

      turn : (b : Bool) → is_in out (task_at t from) ≡ b → Among e (cond b [] (blockers_of t (needs main t (task_at t from))))
          → (is_in out (task_at t from) ≡ false) × ((n : List ℕ) × In n (needs main t (task_at t from)) × Blocks t n e)
      turn true q h = cc
      turn false q h = (q, found h)

  leads_has : (from : Option ℕ) (task : TaskId) (n : List ℕ) (e : ℕ) → task_at t from ≡ task → is_in out task ≡ false → In n (needs main t task)
      → Blocks t n e → Among e (unmet (leads t main out) never from)
  leads_has from task n e s o i b =
      let h = blockers_has t (needs main t task) n e i (blocker_of t n e b) in
      let k : leads t main out from ≡ blockers_of t (needs main t task) = ap (λ x. cond (is_in out x) [] (blockers_of t (needs main t x))) s
      ∙ ap (λ c. cond c [] (blockers_of t (needs main t task))) o in
      subst (Among e) (sym (keep_all (leads t main out from) ∙ k)) h

  -- each row to which one leads is one of the table
  pub leads_below : (from : Option ℕ) (e : ℕ) → Among e (unmet (leads t main out) never from) → e < length t.rows
  leads_below from e a =
      let q = (leads_of from e a).1 in
      (item_at row_name (q.2).task t.rows e (q.2).own).within

  pub led_below : (e : ℕ) → LedTo (leads t main out) never e → e < length t.rows
  led_below e (first e' h) = leads_below None e h
  led_below e (further d e' l h) = leads_below (Some d) e h

  pub led_within : IsWithin (leads t main out) never (length t.rows)
  led_within =
      (upto (length t.rows), upto_long (length t.rows), λ e l. upto_has (length t.rows) e (led_below e l))

  pub at_own : (m : List ℕ) (e : ℕ) → find m t ≡ Some e → task_at t (Some e) ≡ TaskId.Of m
  at_own m e h =
      let q = item_at row_name m t.rows e h in
      ap (λ (o : Option (Row P)). TaskId.Of (option_map_or row_name o [])) q.there ∙ ap (λ k. TaskId.Of k) q.named

  -- a row to which one leads, and the task of its name
  pub record Stands (e : ℕ) : Type 0 where
    pub task : List ℕ
    pub own : find task t ≡ Some e
    pub led : Led (graph main t out) (TaskId.Of task)

  step : (from : Option ℕ) (task : TaskId) (e : ℕ) → task_at t from ≡ task → Led (graph main t out) task
      → Among e (unmet (leads t main out) never from) → Stands e
  step from task e s l a =
      let q = leads_of from e a in
      let b = q.1.2 in
      record {
        task = b.task;
        own = b.own;
        led = through l (ap (is_in out) (sym s) ∙ q.0) q.1.0 (subst (λ k. In q.1.0 (needs main t k)) s q.1.1) (dead_of t q.1.0 e b)
            (maker_of t q.1.0 e b);
      }

  pub row_led : (e : ℕ) → LedTo (leads t main out) never e → Stands e
  row_led e (first e' h) = step None TaskId.Show e refl root h
  row_led e (further d e' l h) = next (row_led d l)
    where
      next : Stands d → Stands e
      next q = step (Some d) (TaskId.Of q.task) e (at_own q.task d q.own) q.led h

  module _ (whole : Whole main t) where
    -- a reached task is the root task, or one of a row to which one leads
    pub record Reaches (task : TaskId) : Type 0 where
      pub from : Option ℕ
      pub is : task_at t from ≡ task
      pub own : (task ≡ TaskId.Show) ⊎ ((e : ℕ) × (m : List ℕ) × (from ≡ Some e) × (task ≡ TaskId.Of m) × (find m t ≡ Some e)
          × LedTo (leads t main out) never e)

    pub led_row : (task : TaskId) → Led (graph main t out) task → Reaches task
    led_row task (root) = record { from = None; is = refl; own = inl refl }
    led_row task (through {t = from} l o n i v k) = next (led_row from l)
      where
        here : (e : ℕ) (b : Blocks t n e) → task ≡ TaskId.Of b.task → LedTo (leads t main out) never e → Reaches task
        here e b s h =
            record {
              from = Some e;
              is = at_own b.task e b.own ∙ sym s;
              own = inr (e, b.task, refl, s, b.own, h);
            }

        led : (q : Reaches from) (e : ℕ) → Among e (unmet (leads t main out) never q.from) → LedTo (leads t main out) never e
        led q e a = turn q.own
          where
            at_root : from ≡ TaskId.Show → (f : Option ℕ) → task_at t f ≡ from → Among e (unmet (leads t main out) never f)
                → LedTo (leads t main out) never e
            at_root s None x h = first e h
            at_root s (Some y) x h = let z = x ∙ s in cc

            turn : ((from ≡ TaskId.Show) ⊎ ((d : ℕ) × (m : List ℕ) × (q.from ≡ Some d) × (from ≡ TaskId.Of m) × (find m t ≡ Some d)
                × LedTo (leads t main out) never d)) → LedTo (leads t main out) never e
            turn (inl s) = at_root s q.from q.is a
            turn (inr r) = further r.0 e r.5 (subst (λ f. Among e (unmet (leads t main out) never f)) r.2 a)

        next : Reaches from → Reaches task
        next q =
            let b = blocks_known t main whole n (all_in (Known t) (needs main t from) n (needs_known t main whole out from l) i) v in
            let s : Some task ≡ Some (TaskId.Of b.1.task) = sym k ∙ maker_of t n b.0 b.1 in
            let same : task ≡ TaskId.Of b.1.task = cc in
            here b.0 b.1 same (led q b.0 (leads_has q.from from n b.0 q.is o i b.1))

    -- flags of the rows to which one leads are those of the reached tasks
    module _ (flags : List Bool) (all : (e : ℕ) → LedTo (leads t main out) never e → Flagged flags e)
        (only : (e : ℕ) → Flagged flags e → LedTo (leads t main out) never e) where
      pub led_flagged : (task : TaskId) → Led (graph main t out) task → IsFlagged t flags true task
      led_flagged task l = turn (led_row task l).own
        where
          turn : ((task ≡ TaskId.Show) ⊎ ((e : ℕ) × (m : List ℕ) × ((led_row task l).from ≡ Some e) × (task ≡ TaskId.Of m) × (find m t ≡ Some e)
              × LedTo (leads t main out) never e)) → IsFlagged t flags true task
          turn (inl s) = inl (s, refl)
          turn (inr r) =
              inr (ap (λ k. is_set flags (task_row t k)) r.3
              ∙ (ap (is_set flags) r.4
              ∙ ap (λ o. option_map_or (λ b. b) o false) (all r.0 r.5)))

      pub flagged_led : (task : TaskId) → IsFlagged t flags true task → Led (graph main t out) task
      flagged_led task (inl s) = subst (Led (graph main t out)) (sym s.0) root
      flagged_led TaskId.Show (inr h) = cc
      flagged_led (TaskId.Of m) (inr h) = turn (find m t) refl h
        where
          set : (o : Option Bool) → option_map_or (λ b. b) o false ≡ true → o ≡ Some true
          set None e = cc
          set (Some true) e = refl
          set (Some false) e = cc

          turn : (o : Option ℕ) → find m t ≡ o → is_set flags o ≡ true → Led (graph main t out) (TaskId.Of m)
          turn None q k = cc
          turn (Some e) q k =
              let s = row_led e (only e (set (slice_get flags e) k)) in
              subst (Led (graph main t out)) (sym (at_own s.task e s.own) ∙ at_own m e q) s.led

-- ---- the row of a task's name

module _ {P : Type 0} (t : TableSeen P) where
  pub task_row_within : (task : TaskId) → IfSome (task_row t task) (λ e. e < length t.rows)
  task_row_within TaskId.Show = tt
  task_row_within (TaskId.Of n) = turn (find n t) refl
    where
      turn : (o : Option ℕ) → find n t ≡ o → IfSome o (λ e. e < length t.rows)
      turn None h = tt
      turn (Some e) h = (item_at row_name n t.rows e h).within
