-- A table that is a history's agrees with what stands after it.
use Rattle.std.proofs.Common.{◌≡◌, ℕ, List, [], ◌∷◌, Bool, true, false, cond, ◌||◌, map, refl, ap, sym, ◌∙◌, subst, ◌⊎◌, inl, inr, Option, Some, None}
use Rattle.std.specs.List.{list_any}
use Rattle.std.specs.Option.{option_map, option_and_then}
use Rattle.sky_base.specs.Val.{same_text}
use Rattle.sky_base.specs.declared.object.TaskId.{TaskId}
use Rattle.sky_base.proofs.Exact.{exact_text, self_text}
use Rattle.ciel_journal.specs.Graph.{Picks, Runnable, SeenAs, root, standing_graph, through}
use Rattle.ciel_journal.specs.History.{OpenStart, Standing, is_out, needs as needs_after, same_task}
use Rattle.ciel_journal.specs.Job.{In, IsJob, Job, Task, of, show}
use Rattle.ciel_journal.specs.Turns.{Reached, Ready, is_first, tasks_of}
use Rattle.ciel_journal.proofs.Members.{each_of}
use Rattle.ciel_journal.proofs.SeenAs.{circle_here, led_here, led_there, runs_here, runs_there}
use Rattle.ciel_table.specs.Named.{found}
use Rattle.ciel_table.specs.Seen.{TableSeen, row_name, row_named}
use Rattle.ciel_table.specs.declared.row.Row.{Row}
use Rattle.ciel_table.proofs.Lists.{bool_cases}
use Rattle.ciel_want.specs.History.{Agree, AreRowsOf, IsHistory, IsRowOf, Listed, own, own_if, task_id}
use Rattle.ciel_want.specs.Waited.{graph, is_in, made_by, maker, same_id, tasks_after, unless}
use Rattle.ciel_want.proofs.Listed.{same_exact}

-- ---- two lists that are picked side by side

module _ {A B : Type 0} (P : A → Type 0) (Q : B → Type 0) (f : A → B) where
  abbrev Beside : List A → List B → Type 0
  Beside xs ys = (us : List A) (ts : List B) → Picks P xs us → Picks Q ys ts → ts ≡ map f us

  both_heads : (x : A) (y : B) (xs : List A) (ys : List B) → y ≡ f x → (P x → Q y) → (Q y → P x) → Beside xs ys → Beside (x ∷ xs) (y ∷ ys)
  both_heads x y xs ys e to from r us ts (inl p) (inl q) =
      q.1.1
      ∙ (ap (λ z. z ∷ q.1.0) e ∙ (ap (λ zs. f x ∷ zs) (r p.1.0 q.1.0 p.1.2 q.1.2) ∙ ap (map f) (sym p.1.1)))
  both_heads x y xs ys e to from r us ts (inl p) (inr q) = absurd (q.0 (to p.0))
  both_heads x y xs ys e to from r us ts (inr p) (inl q) = absurd (p.0 (from q.0))
  both_heads x y xs ys e to from r us ts (inr p) (inr q) = r us ts p.1 q.1

  one_head : (y : B) (xs : List A) (ys : List B) → (Q y → ⊥) → Beside xs ys → Beside xs (y ∷ ys)
  one_head y xs ys none r us ts p (inl q) = absurd (none q.0)
  one_head y xs ys none r us ts p (inr q) = r us ts p q.1

or_true : (b c : Bool) → c ≡ true → b || c ≡ true
or_true true c h = refl
or_true false c h = h

or_cases : (b c : Bool) → b || c ≡ true → (b ≡ true) ⊎ (c ≡ true)
or_cases true c h = inl refl
or_cases false c h = inr h

self_id : (x : TaskId) → same_id x x ≡ true
self_id TaskId.Show = refl
self_id (TaskId.Of n) = self_text n

is_true : (b : Bool) → (b ≡ true → ⊥) → b ≡ false
is_true true h = absurd (h refl)
is_true false h = refl

module _ {D P : Type 0} (job : Job D) (laws : IsJob job) (v : Standing D) (main : List ℕ) (t : TableSeen P) (out : List TaskId)
    (his : IsHistory job v main t out) where
  -- ---- the row of a description

  row_of : (ds : List D) (rs : List (Row P)) → AreRowsOf job ds rs → ((x : D) → In x ds → In x v.book) → (d : D) → In d v.book → In d ds
      → (r : Row P) × (found row_name (job.name d) rs ≡ Some r) × IsRowOf job d (job.task_of d) r
  row_of [] [] a w d b i = absurd i
  row_of [] (r ∷ rs) a w d b i = absurd i
  row_of (e ∷ es) [] a w d b i = absurd a
  row_of (e ∷ es) (r ∷ rs) a w d b i =
      turn (bool_cases (same_text (job.name d) r.name)) i (λ j. row_of es rs a.1 (λ x k. w x (inr k)) d b j)
    where
      Found : List (Row P) → Type 0
      Found xs = (q : Row P) × (found row_name (job.name d) xs ≡ Some q) × IsRowOf job d (job.task_of d) q

      named : (o : Option (Task D)) → IsRowOf job e o r → r.name ≡ job.name e
      named None q = q.0
      named (Some u) q = q.0

      turn : ((same_text (job.name d) r.name ≡ true) ⊎ (same_text (job.name d) r.name ≡ false)) → In d (e ∷ es) → (In d es → Found rs)
          → Found (r ∷ rs)
      turn (inl s) j go =
          let same : d ≡ e = his.apart d e b (w e (inl refl)) (exact_text (job.name d) r.name s ∙ named (job.task_of e) a.0) in
          (r, ap (λ c. cond c (Some r) (found row_name (job.name d) rs)) s, subst (λ x. IsRowOf job x (job.task_of x) r) (sym same) a.0)
      turn (inr s) (inl j) go =
          let y : same_text (job.name d) r.name ≡ true =
          subst (λ n. same_text (job.name d) n ≡ true) (ap job.name j ∙ sym (named (job.task_of e) a.0)) (self_text (job.name d)) in
          let bad : true ≡ false = sym y ∙ s in
          cc
      turn (inr s) (inr j) go =
          let q = go j in
          (q.0, ap (λ c. cond c (Some r) (found row_name (job.name d) rs)) s ∙ q.1, q.2)

  book_row : (d : D) → In d v.book → (r : Row P) × (row_named (job.name d) t ≡ Some r) × IsRowOf job d (job.task_of d) r
  book_row d b = row_of v.book t.rows his.rows (λ x i. i) d b b

  maker_of : (d : D) → In d v.book → maker t (job.name d) ≡ option_map (task_id job) (job.task_of d)
  maker_of d b =
      let q = book_row d b in ap (option_and_then (made_by t)) q.1 ∙ made (job.task_of d) q.0 q.2
    where
      made : (o : Option (Task D)) (r : Row P) → IsRowOf job d o r → made_by t r ≡ option_map (task_id job) o
      made None r q = ap (λ i. cond i None (Some r.task)) q.1
      made (Some u) r q = ap (λ i. cond i None (Some r.task)) q.1 ∙ ap (λ x. Some x) q.2

  -- ---- what tasks go by

  own_in : (past ds : List D) → Listed job past ds → (d : D) → In d ds → In (own job d) ds ⊎ In (own job d) past
  own_in past [] l d i = absurd i
  own_in past (e ∷ es) l d (inl s) = here l.1
    where
      here : ((own job e ≡ e) ⊎ In (own job e) past) → In (own job d) (e ∷ es) ⊎ In (own job d) past
      here (inl k) = inl (inl (ap (own job) s ∙ k))
      here (inr k) = inr (subst (λ x. In (own job x) past) (sym s) k)
  own_in past (e ∷ es) l d (inr i) = later (own_in (e ∷ past) es l.2 d i)
    where
      later : (In (own job d) es ⊎ In (own job d) (e ∷ past)) → In (own job d) (e ∷ es) ⊎ In (own job d) past
      later (inl k) = inl (inr k)
      later (inr (inl k)) = inl (inl k)
      later (inr (inr k)) = inr k

  own_known : (d : D) → In d v.book → In (own job d) v.book
  own_known d b = turn (own_in [] v.book his.listed d b)
    where
      turn : (In (own job d) v.book ⊎ In (own job d) []) → In (own job d) v.book
      turn (inl k) = k
      turn (inr k) = absurd k

  task_known : (d e : D) → job.task_of d ≡ Some (of e) → In d v.book → In e v.book
  task_known d e k b = subst (λ o. In (own_if job d o) v.book) k (own_known d b)

  reached_known : (u : Task D) → Reached job v u → (e : D) → u ≡ of e → In e v.book × (job.task_of e ≡ Some (of e))
  reached_known u (root) e s = cc
  reached_known u (through {t = w} l o d i n k) e s =
      let m : job.task_of d ≡ Some (of e) = k ∙ ap (λ x. Some x) s in
      (task_known d e m (each_of (λ x. In x v.book) d (needs_after job v w) i (his.known w l)), laws.own e d m)

  -- ---- the graphs

  seen : SeenAs (standing_graph job v) (graph main t out) (task_id job) job.name
  seen =
      record {
        root = refl;
        out = his.outs;
        needs = his.waits;
        live = λ u d l i. his.lives d (each_of (λ x. In x v.book) d (needs_after job v u) i (his.known u l));
        maker = λ u d l i n. maker_of d (each_of (λ x. In x v.book) d (needs_after job v u) i (his.known u l));
      }

  tasks_apart : (a b : Task D) → Reached job v a → Reached job v b → task_id job a ≡ task_id job b → a ≡ b
  tasks_apart show show x y e = refl
  tasks_apart show (of c) x y e = cc
  tasks_apart (of c) show x y e = cc
  tasks_apart (of c) (of d) x y e =
      let s : job.name c ≡ job.name d = cc in
      ap (λ z. of z) (his.apart c d (reached_known (of c) x c refl).0 (reached_known (of d) y d refl).0 s)

  abbrev Waited : D → Type 0
  Waited d = (u : Task D) × Reached job v u × In d (needs_after job v u)

  waited_known : (d : D) → Waited d → In d v.book
  waited_known d w = each_of (λ x. In x v.book) d (needs_after job v w.0) w.2 (his.known w.0 w.1)

  -- ---- the lists

  abbrev Runs : TaskId → Type 0
  Runs x = Runnable (graph main t out) x

  -- a name of the book that stands for a task that can run is that of a ready task
  runs_of : (d : D) → In d v.book → Runs (TaskId.Of (job.name d)) → Ready job v (of d) × (job.task_of d ≡ Some (of d))
  runs_of d b r = next (runs_here (standing_graph job v) (graph main t out) (task_id job) job.name seen (TaskId.Of (job.name d)) r)
    where
      next : ((u : Task D) × (task_id job u ≡ TaskId.Of (job.name d)) × Ready job v u) → Ready job v (of d) × (job.task_of d ≡ Some (of d))
      next (show, s, k) = cc
      next (of e, s, k) =
          let q = reached_known (of e) k.reached e refl in
          let n : job.name e ≡ job.name d = cc in
          let same : e ≡ d = his.apart e d q.0 b n in
          (subst (λ x. Ready job v (of x)) same k, subst (λ x. job.task_of x ≡ Some (of x)) same q.1)

  runs_root : Runs TaskId.Show → Ready job v show
  runs_root r = next (runs_here (standing_graph job v) (graph main t out) (task_id job) job.name seen TaskId.Show r)
    where
      next : ((u : Task D) × (task_id job u ≡ TaskId.Show) × Ready job v u) → Ready job v show
      next (show, s, k) = k
      next (of e, s, k) = cc

  -- the task of a row
  row_task : (d : D) (r : Row P) → IsRowOf job d (job.task_of d) r → r.task ≡ TaskId.Of (job.name (own job d))
  row_task d r q = turn (job.task_of d) refl q
    where
      turn : (o : Option (Task D)) → job.task_of d ≡ o → IsRowOf job d o r → r.task ≡ TaskId.Of (job.name (own_if job d o))
      turn None e k = k.2 ∙ ap (λ n. TaskId.Of n) k.0
      turn (Some show) e k = absurd (subst (In d) laws.outputs_show (laws.made_by d show e))
      turn (Some (of x)) e k = k.2

  own_own : (d : D) → own job (own job d) ≡ own job d
  own_own d = turn (job.task_of d) refl
    where
      turn : (o : Option (Task D)) → job.task_of d ≡ o → own job (own_if job d o) ≡ own_if job d o
      turn None e = ap (own_if job d) e
      turn (Some show) e = ap (own_if job d) e
      turn (Some (of x)) e = ap (own_if job x) (laws.own x d e)

  -- the tasks before are those of the descriptions that are past, and the root task
  record Before (past : List D) (before : List TaskId) : Type 0 where
    pub has_root : is_in before TaskId.Show ≡ true
    pub has : (d : D) → In d past → is_in before (TaskId.Of (job.name (own job d))) ≡ true
    pub only : (n : List ℕ) → is_in before (TaskId.Of n) ≡ true → (d : D) × In d past × (n ≡ job.name (own job d))
    pub closed : (d : D) → In d past → In (own job d) past
    pub inside : (d : D) → In d past → In d v.book

  start : Before [] (TaskId.Show ∷ [])
  start =
      record { has_root = refl; has = λ d i. absurd i; only = λ n e. cc; closed = λ d i. absurd i; inside = λ d i. absurd i }

  more : (past : List D) (before : List TaskId) (d : D) (x : TaskId) → Before past before → In d v.book → ((own job d ≡ d) ⊎ In (own job d) past)
      → x ≡ TaskId.Of (job.name (own job d)) → Before (d ∷ past) (x ∷ before)
  more past before d x b k o s =
      record {
        has_root = or_true (same_id TaskId.Show x) (is_in before TaskId.Show) b.has_root;
        has = has;
        only = only;
        closed = closed o;
        inside = inside;
      }
    where
      has : (e : D) → In e (d ∷ past) → is_in (x ∷ before) (TaskId.Of (job.name (own job e))) ≡ true
      has e (inl y) =
          let q : TaskId.Of (job.name (own job e)) ≡ x = ap (λ z. TaskId.Of (job.name (own job z))) y ∙ sym s in
          ap (λ c. c || is_in before (TaskId.Of (job.name (own job e))))
          (subst (λ z. same_id (TaskId.Of (job.name (own job e))) z ≡ true) q (self_id (TaskId.Of (job.name (own job e)))))
      has e (inr i) =
          or_true (same_id (TaskId.Of (job.name (own job e))) x) (is_in before (TaskId.Of (job.name (own job e)))) (b.has e i)

      only : (n : List ℕ) → is_in (x ∷ before) (TaskId.Of n) ≡ true → (e : D) × In e (d ∷ past) × (n ≡ job.name (own job e))
      only n h = turn (or_cases (same_id (TaskId.Of n) x) (is_in before (TaskId.Of n)) h)
        where
          turn : ((same_id (TaskId.Of n) x ≡ true) ⊎ (is_in before (TaskId.Of n) ≡ true)) → (e : D) × In e (d ∷ past) × (n ≡ job.name (own job e))
          turn (inl y) =
              let q : TaskId.Of n ≡ TaskId.Of (job.name (own job d)) = same_exact (TaskId.Of n) x y ∙ s in
              let m : n ≡ job.name (own job d) = cc in
              (d, inl refl, m)
          turn (inr y) = let q = b.only n y in (q.0, inr q.1, q.2)

      closed : ((own job d ≡ d) ⊎ In (own job d) past) → (e : D) → In e (d ∷ past) → In (own job e) (d ∷ past)
      closed (inl y) e (inl z) = inl (ap (own job) z ∙ y)
      closed (inr y) e (inl z) = inr (subst (λ w. In (own job w) past) (sym z) y)
      closed y e (inr i) = inr (b.closed e i)

      inside : (e : D) → In e (d ∷ past) → In e v.book
      inside e (inl z) = subst (λ w. In w v.book) (sym z) k
      inside e (inr i) = b.inside e i

  abbrev Lists : List (Task D) → List TaskId → Type 0
  Lists xs ys = Beside (Ready job v) Runs (task_id job) xs ys

  -- one description and its row
  step : (past : List D) (before : List TaskId) (d : D) (ds : List D) (r : Row P) (rs : List (Row P)) → Before past before → In d v.book
      → IsRowOf job d (job.task_of d) r → (In d past → ⊥) → ((own job d ≡ d) ⊎ In (own job d) past)
      → Lists (tasks_of job ds) (tasks_after (r.task ∷ before) rs) → Lists (tasks_of job (d ∷ ds)) (tasks_after before (r ∷ rs))
  step past before d ds r rs b k q new o rec = turn o
    where
      Goal : Bool → Bool → Type 0
      Goal first seen_before =
          Lists (cond first (of d ∷ tasks_of job ds) (tasks_of job ds)) (unless seen_before r.task (tasks_after (r.task ∷ before) rs))

      task : r.task ≡ TaskId.Of (job.name (own job d))
      task = row_task d r q

      answer : (first seen_before : Bool) → is_first job d (job.task_of d) ≡ first → is_in before r.task ≡ seen_before → Goal first seen_before
          → Goal (is_first job d (job.task_of d)) (is_in before r.task)
      answer first seen_before x y g =
          subst (λ c. Goal c (is_in before r.task)) (sym x) (subst (Goal first) (sym y) g)

      -- its task came before
      later : In (own job d) past → Goal (is_first job d (job.task_of d)) (is_in before r.task)
      later i = answer false true (is_true (is_first job d (job.task_of d)) (λ y. new (subst (λ z. In z past) (sym (first_own y)) i))) there rec
        where
          first_own : is_first job d (job.task_of d) ≡ true → d ≡ own job d
          first_own y = go (job.task_of d) refl y
            where
              go : (z : Option (Task D)) → job.task_of d ≡ z → is_first job d z ≡ true → d ≡ own_if job d z
              go None e h = cc
              go (Some show) e h = cc
              go (Some (of x)) e h = laws.same_exact d x h

          there : is_in before r.task ≡ true
          there =
              ap (is_in before) task
              ∙ (ap (λ z. is_in before (TaskId.Of (job.name z))) (sym (own_own d)) ∙ b.has (own job d) i)

      -- its task is new
      fresh : own job d ≡ d → is_in before r.task ≡ false
      fresh s = is_true (is_in before r.task) (λ y. clash (b.only (job.name (own job d)) (ap (is_in before) (sym task) ∙ y)))
        where
          clash : ((e : D) × In e past × (job.name (own job d) ≡ job.name (own job e))) → ⊥
          clash c =
              let i = b.closed c.0 c.1 in
              let same : own job d ≡ own job c.0 = his.apart (own job d) (own job c.0) (own_known d k) (b.inside (own job c.0) i) c.2 in
              new (subst (λ z. In z past) (sym same ∙ s) i)

      at : own job d ≡ d → TaskId.Of (job.name (own job d)) ≡ TaskId.Of (job.name d)
      at s = ap (λ z. TaskId.Of (job.name z)) s

      here : own job d ≡ d → Goal (is_first job d (job.task_of d)) (is_in before r.task)
      here s = go (job.task_of d) refl
        where
          go : (z : Option (Task D)) → job.task_of d ≡ z → Goal (is_first job d (job.task_of d)) (is_in before r.task)
          go None e =
              answer false false (ap (is_first job d) e) (fresh s)
              (one_head (Ready job v) Runs (task_id job) r.task (tasks_of job ds) (tasks_after (r.task ∷ before) rs)
              (λ y. let w = (runs_of d k (subst Runs (task ∙ at s) y)).1 in cc) rec)
          go (Some show) e = absurd (subst (In d) laws.outputs_show (laws.made_by d show e))
          go (Some (of x)) e =
              let same : x ≡ d = sym (ap (own_if job d) e) ∙ s in
              answer true false (ap (is_first job d) e ∙ subst (λ w. job.same d w ≡ true) (sym same) (laws.same_refl d)) (fresh s)
              (both_heads (Ready job v) Runs (task_id job) (of d) r.task (tasks_of job ds) (tasks_after (r.task ∷ before) rs) (task ∙ at s)
              (λ y. subst Runs (sym (task ∙ at s)) (runs_there (standing_graph job v) (graph main t out) (task_id job) job.name seen (of d)
              y)) (λ y. (runs_of d k (subst Runs (task ∙ at s) y)).0) rec)

      turn : ((own job d ≡ d) ⊎ In (own job d) past) → Goal (is_first job d (job.task_of d)) (is_in before r.task)
      turn (inl s) = here s
      turn (inr i) = later i

  lists : (past : List D) (before : List TaskId) (ds : List D) (rs : List (Row P)) → Before past before → ((x : D) → In x ds → In x v.book)
      → AreRowsOf job ds rs → Listed job past ds → Lists (tasks_of job ds) (tasks_after before rs)
  lists past before [] [] b w a l =
      both_heads (Ready job v) Runs (task_id job) show TaskId.Show [] [] refl
      (λ y. runs_there (standing_graph job v) (graph main t out) (task_id job) job.name seen show y) runs_root
      (λ us ts p q. q ∙ ap (map (task_id job)) (sym p))
  lists past before [] (r ∷ rs) b w a l = absurd a
  lists past before (d ∷ ds) [] b w a l = absurd a
  lists past before (d ∷ ds) (r ∷ rs) b w a l =
      step past before d ds r rs b (w d (inl refl)) a.0 l.0 l.1
      (lists (d ∷ past) (r.task ∷ before) ds rs (more past before d r.task b (w d (inl refl)) l.1 (row_task d r a.0)) (λ x i. w x (inr i))
      a.1 l.2)

  none_is_out : v.orders ≡ [] → (u : Task D) → is_out job v u ≡ false
  none_is_out e u = ap (λ os. list_any (λ (o : OpenStart D). same_task job u o.task) os) e

  pub history_agrees : Agree job v main t out
  history_agrees =
      record {
        reached = led_there (standing_graph job v) (graph main t out) (task_id job) job.name seen;
        only = led_here (standing_graph job v) (graph main t out) (task_id job) job.name seen;
        ready = lists [] (TaskId.Show ∷ []) v.book t.rows start (λ x i. i) his.rows his.listed;
        circle = λ e ns c. let q = circle_here (standing_graph job v) (graph main t out) (task_id job) job.name seen (none_is_out e) tasks_apart
            (λ d e a b n. his.apart d e (waited_known d a) (waited_known e b) n) ns c in (q.0, q.1, (e, q.2));
      }
