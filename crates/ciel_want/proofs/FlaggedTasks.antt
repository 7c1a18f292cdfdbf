-- Listing the flagged tasks, each at its first row.
use Rattle.std.proofs.Common.{◌≡◌, ℕ, zero, suc, ◌<◌, ◌≤◌, List, [], ◌∷◌, ◌++◌, Bool, true, false, cond, ◌||◌, drop, get_or, length, length-set, set}
use Rattle.std.proofs.Common.{slice_get, append_assoc, append-nil, refl, ap, sym, ◌∙◌, subst, ◌⊎◌, inl, inr, arith, Option, Some, None, nat_eq}
use Rattle.std.proofs.Common.{eqb-true}
use Rattle.std.specs.Option.{option_map_or}
use Rattle.sky_base.specs.Val.{same_text}
use Rattle.sky_base.specs.declared.object.TaskId.{TaskId}
use Rattle.sky_base.proofs.Exact.{exact_text, self_text}
use Rattle.ciel_journal.specs.Graph.{Picks}
use Rattle.ciel_table.specs.Seen.{TableSeen, find, row_name}
use Rattle.ciel_table.specs.declared.row.Row.{Row}
use Rattle.ciel_table.proofs.Lists.{bool_cases}
use Rattle.ciel_want.specs.Board.{IsFlagged, cleared, is_set, maker_at, task_row}
use Rattle.ciel_want.specs.Waited.{is_in, tasks_after, tasks_in_order, unless}
use Rattle.ciel_want.proofs.SeenFlags.{set_other}
use Rattle.ciel_want.proofs.Rows.{item_at}

clear_here : (flags : List Bool) (e : ℕ) → is_set (set flags e false) (Some e) ≡ false
clear_here [] e = refl
clear_here (f ∷ fs) zero = refl
clear_here (f ∷ fs) (suc e) = clear_here fs e

clear_other : (flags : List Bool) (e k : ℕ) → nat_eq k e ≡ false → is_set (set flags e false) (Some k) ≡ is_set flags (Some k)
clear_other flags e k h = ap (λ o. option_map_or (λ b. b) o false) (set_other flags e k false h)

pub drop_at : {A : Type 0} (xs : List A) (i : ℕ) (x : A) → slice_get xs i ≡ Some x → drop i xs ≡ x ∷ drop (suc i) xs
drop_at [] i x e = cc
drop_at (y ∷ ys) zero x e = let s : y ≡ x = cc in ap (λ z. z ∷ ys) s
drop_at (y ∷ ys) (suc i) x e = drop_at ys i x e

pub drop_end : {A : Type 0} (xs : List A) (i : ℕ) → length xs ≤ i → drop i xs ≡ []
drop_end [] zero l = refl
drop_end [] (suc i) l = refl
drop_end (x ∷ xs) zero l = absurd (omega (arith, l))
drop_end (x ∷ xs) (suc i) l = drop_end xs i (omega (arith, l))

pub held_at : {A : Type 0} (xs : List A) (i : ℕ) → i < length xs → (x : A) × (slice_get xs i ≡ Some x)
held_at [] i l = absurd (omega (arith, l))
held_at (x ∷ xs) zero l = (x, refl)
held_at (x ∷ xs) (suc i) l = held_at xs i (omega (arith, l))

-- a flag that was read
pub flag_is : (flags : List Bool) (i : ℕ) (x : Bool) → i < length flags → x ≡ get_or flags i x → is_set flags (Some i) ≡ x
flag_is [] i x l e = absurd (omega (arith, l))
flag_is (f ∷ fs) zero x l e = sym e
flag_is (f ∷ fs) (suc i) x l e = flag_is fs i x (omega (arith, l)) e

module _ {P : Type 0} (t : TableSeen P) (first : List Bool) (root : Bool) where
  -- after so many rows: those listed, and the flags that are left
  pub record Listing (flags : List Bool) (tasks : List TaskId) (i : ℕ) : Type 0 where
    pub before : List TaskId
    pub picks : (rest : List TaskId) → Picks (IsFlagged t first root) (tasks_after before (drop i t.rows)) rest
        → Picks (IsFlagged t first root) (tasks_in_order t) (tasks ++ rest)
    pub long : length flags ≡ length t.rows
    pub root_in : is_in before TaskId.Show ≡ true
    pub left : (m : List ℕ) (e : ℕ) → find m t ≡ Some e → is_set flags (Some e) ≡ cond (is_in before (TaskId.Of m)) false (is_set first (Some e))

  pub list_start : length first ≡ length t.rows → Listing first [] 0
  list_start l =
      record {
        before = TaskId.Show ∷ [];
        picks = λ rest p. p;
        long = l;
        root_in = refl;
        left = λ m e h. refl;
      }

  -- the next task is none of those flagged, or comes now
  abbrev Next : List TaskId → List (Row P) → TaskId → List TaskId → List TaskId → Type 0
  Next before rs task tasks after =
      (rest : List TaskId) → Picks (IsFlagged t first root) (tasks_after (task ∷ before) rs) rest → (more : List TaskId)
      × (after ++ rest ≡ tasks ++ more) × Picks (IsFlagged t first root) (unless (is_in before task) task (tasks_after (task ∷ before) rs))
      more

  skip : (before : List TaskId) (rs : List (Row P)) (task : TaskId) (tasks after : List TaskId) → after ≡ tasks
      → ((is_in before task ≡ true) ⊎ (IsFlagged t first root task → ⊥)) → Next before rs task tasks after
  skip before rs task tasks after s h rest p =
      (rest, ap (λ ts. ts ++ rest) s, turn (bool_cases (is_in before task)) h)
    where
      turn : ((is_in before task ≡ true) ⊎ (is_in before task ≡ false)) → ((is_in before task ≡ true) ⊎ (IsFlagged t first root task → ⊥))
          → Picks (IsFlagged t first root) (unless (is_in before task) task (tasks_after (task ∷ before) rs)) rest
      turn (inl y) h =
          subst (λ b. Picks (IsFlagged t first root) (unless b task (tasks_after (task ∷ before) rs)) rest) (sym y) p
      turn (inr n) (inl y) = let e : true ≡ false = sym y ∙ n in cc
      turn (inr n) (inr f) =
          subst (λ b. Picks (IsFlagged t first root) (unless b task (tasks_after (task ∷ before) rs)) rest) (sym n) (inr (f, p))

  take_it : (before : List TaskId) (rs : List (Row P)) (task : TaskId) (tasks after : List TaskId) → after ≡ tasks ++ task ∷ []
      → is_in before task ≡ false → IsFlagged t first root task → Next before rs task tasks after
  take_it before rs task tasks after s n f rest p = (
    task ∷ rest,
    ap (λ ts. ts ++ rest) s ∙ append_assoc tasks (task ∷ []) rest,
    subst (λ b. Picks (IsFlagged t first root) (unless b task (tasks_after (task ∷ before) rs)) (task ∷ rest)) (sym n)
        (inl (f, (rest, refl, p))),
  )

  not_root : (m : List ℕ) → TaskId.Of m ≡ TaskId.Show → ⊥
  not_root m e = cc

  unflagged : (m : List ℕ) → is_set first (find m t) ≡ false → IsFlagged t first root (TaskId.Of m) → ⊥
  unflagged m h (inl s) = not_root m s.0
  unflagged m h (inr s) = let e : true ≡ false = sym s ∙ h in cc

  next_of : (flags : List Bool) (tasks after : List TaskId) (i : ℕ) (task : TaskId) (rs : List (Row P)) → (s : Listing flags tasks i) → after
      ≡ cond (is_set flags (task_row t task)) (tasks ++ task ∷ []) tasks → Next s.before rs task tasks after
  next_of flags tasks after i TaskId.Show rs s a =
      skip s.before rs TaskId.Show tasks after a (inl s.root_in)
  next_of flags tasks after i (TaskId.Of m) rs s a = place (find m t) refl
    where
      none : find m t ≡ None → after ≡ tasks
      none q = a ∙ ap (λ o. cond (is_set flags o) (tasks ++ TaskId.Of m ∷ []) tasks) q

      test : (e : ℕ) → find m t ≡ Some e → (b : Bool) → is_set flags (Some e) ≡ b → after ≡ cond b (tasks ++ TaskId.Of m ∷ []) tasks
      test e q b h =
          a ∙ (ap (λ o. cond (is_set flags o) (tasks ++ TaskId.Of m ∷ []) tasks) q ∙ ap (λ c. cond c (tasks ++ TaskId.Of m ∷ []) tasks) h)

      known : (e : ℕ) → find m t ≡ Some e → ((is_in s.before (TaskId.Of m) ≡ true) ⊎ (is_in s.before (TaskId.Of m) ≡ false))
          → ((is_set first (Some e) ≡ true) ⊎ (is_set first (Some e) ≡ false)) → Next s.before rs (TaskId.Of m) tasks after
      known e q (inl y) f =
          skip s.before rs (TaskId.Of m) tasks after (test e q false (s.left m e q ∙ ap (λ b. cond b false (is_set first (Some e))) y)) (inl y)
      known e q (inr n) (inl y) =
          take_it s.before rs (TaskId.Of m) tasks after (test e q true (s.left m e q ∙ (ap (λ b. cond b false (is_set first (Some e))) n ∙ y))) n
          (inr (ap (is_set first) q ∙ y))
      known e q (inr n) (inr f) =
          skip s.before rs (TaskId.Of m) tasks after (test e q false (s.left m e q ∙ (ap (λ b. cond b false (is_set first (Some e))) n ∙ f)))
          (inr (unflagged m (ap (is_set first) q ∙ f)))

      place : (o : Option ℕ) → find m t ≡ o → Next s.before rs (TaskId.Of m) tasks after
      place None q =
          skip s.before rs (TaskId.Of m) tasks after (none q) (inr (unflagged m (ap (is_set first) q)))
      place (Some e) q =
          known e q (bool_cases (is_in s.before (TaskId.Of m))) (bool_cases (is_set first (Some e)))

  -- the flags that are left after a task
  left_of : (flags : List Bool) (tasks : List TaskId) (i : ℕ) (task : TaskId) → (s : Listing flags tasks i) → (m : List ℕ) (e : ℕ) → find m t
      ≡ Some e → is_set (cleared (task_row t task) flags) (Some e) ≡ cond (is_in (task ∷ s.before) (TaskId.Of m)) false (is_set first (Some e))
  left_of flags tasks i TaskId.Show s m e h = s.left m e h
  left_of flags tasks i (TaskId.Of k) s m e h = turn (bool_cases (same_text m k))
    where
      or_in : Bool → Bool
      or_in b = cond (b || is_in s.before (TaskId.Of m)) false (is_set first (Some e))

      apart : (o : Option ℕ) → find k t ≡ o → same_text m k ≡ false → is_set (cleared o flags) (Some e) ≡ is_set flags (Some e)
      apart None q f = refl
      apart (Some d) q f = clear_other flags d e (differ (bool_cases (nat_eq e d)))
        where
          differ : ((nat_eq e d ≡ true) ⊎ (nat_eq e d ≡ false)) → nat_eq e d ≡ false
          differ (inr n) = n
          differ (inl y) =
              let x = item_at row_name m t.rows e h in
              let z = item_at row_name k t.rows d q in
              let same : Some x.item ≡ Some z.item = sym x.there ∙ (ap (slice_get t.rows) (eqb-true e d y) ∙ z.there) in
              let item : x.item ≡ z.item = cc in
              let names : m ≡ k = sym x.named ∙ (ap row_name item ∙ z.named) in
              let t : true ≡ false = sym (subst (λ n. same_text m n ≡ true) names (self_text m)) ∙ f in
              cc

      turn : ((same_text m k ≡ true) ⊎ (same_text m k ≡ false)) → is_set (cleared (find k t) flags) (Some e) ≡ or_in (same_text m k)
      turn (inl y) =
          ap (λ o. is_set (cleared o flags) (Some e)) (ap (λ n. find n t) (sym (exact_text m k y)) ∙ h)
          ∙ (clear_here flags e ∙ sym (ap or_in y))
      turn (inr f) =
          apart (find k t) refl f ∙ (s.left m e h ∙ sym (ap or_in f))

  cleared_long : (o : Option ℕ) (flags : List Bool) → length (cleared o flags) ≡ length flags
  cleared_long None flags = refl
  cleared_long (Some e) flags = length-set flags e false

  pub list_step : (flags after : List Bool) (tasks more : List TaskId) (i : ℕ) (r : Row P) → Listing flags tasks i → slice_get t.rows i ≡ Some r
      → more ≡ cond (is_set flags (task_row t r.task)) (tasks ++ r.task ∷ []) tasks → after ≡ cleared (task_row t r.task) flags
      → Listing after more (suc i)
  list_step flags after tasks more i r s g a f =
      record {
        before = r.task ∷ s.before;
        picks = λ rest p. picked rest (next_of flags tasks more i r.task (drop (suc i) t.rows) s a rest p);
        long = ap length f ∙ (cleared_long (task_row t r.task) flags ∙ s.long);
        root_in = root_more r.task;
        left = λ m e h. subst (λ fs. is_set fs (Some e) ≡ cond (is_in (r.task ∷ s.before) (TaskId.Of m)) false (is_set first (Some e))) (sym f)
            (left_of flags tasks i r.task s m e h);
      }
    where
      root_more : (k : TaskId) → is_in (k ∷ s.before) TaskId.Show ≡ true
      root_more TaskId.Show = refl
      root_more (TaskId.Of m) = s.root_in

      picked : (rest : List TaskId) → ((ts : List TaskId) × (more ++ rest ≡ tasks ++ ts)
          × Picks (IsFlagged t first root) (unless (is_in s.before r.task) r.task (tasks_after (r.task ∷ s.before) (drop (suc i) t.rows))) ts)
          → Picks (IsFlagged t first root) (tasks_in_order t) (more ++ rest)
      picked rest q =
          subst (Picks (IsFlagged t first root) (tasks_in_order t)) (sym q.1)
          (s.picks q.0 (subst (λ rs. Picks (IsFlagged t first root) (tasks_after s.before rs) q.0) (sym (drop_at t.rows i r g)) q.2))

  -- the same for the row of this number
  pub list_at : (flags after : List Bool) (tasks more : List TaskId) (i : ℕ) → Listing flags tasks i → i < length t.rows → more
      ≡ cond (is_set flags (task_row t (maker_at t (Some i)))) (tasks ++ maker_at t (Some i) ∷ []) tasks → after
      ≡ cleared (task_row t (maker_at t (Some i))) flags → Listing after more (suc i)
  list_at flags after tasks more i s l a f =
      let r = held_at t.rows i l in
      let m : maker_at t (Some i) ≡ r.0.task = ap (λ (o : Option (Row P)). option_map_or (λ (r : Row P). r.task) o TaskId.Show) r.1 in
      list_step flags after tasks more i r.0 s r.1 (subst (λ k. more ≡ cond (is_set flags (task_row t k)) (tasks ++ k ∷ []) tasks) m a)
      (subst (λ k. after ≡ cleared (task_row t k) flags) m f)

  pub list_end : (flags : List Bool) (tasks : List TaskId) (i : ℕ) → Listing flags tasks i → length t.rows ≤ i → root ≡ true
      → Picks (IsFlagged t first root) (tasks_in_order t) (tasks ++ TaskId.Show ∷ [])
  list_end flags tasks i s l y =
      s.picks (TaskId.Show ∷ []) (subst (λ rs. Picks (IsFlagged t first root) (tasks_after s.before rs) (TaskId.Show ∷ []))
      (sym (drop_end t.rows i l)) (inl (inl (refl, y), ([], refl, refl))))

  pub list_end_without : (flags : List Bool) (tasks : List TaskId) (i : ℕ) → Listing flags tasks i → length t.rows ≤ i → root ≡ false
      → Picks (IsFlagged t first root) (tasks_in_order t) tasks
  list_end_without flags tasks i s l n =
      subst (Picks (IsFlagged t first root) (tasks_in_order t)) (append-nil tasks)
      (s.picks [] (subst (λ rs. Picks (IsFlagged t first root) (tasks_after s.before rs) []) (sym (drop_end t.rows i l))
      (inr (unasked, refl))))
    where
      unasked : IsFlagged t first root TaskId.Show → ⊥
      unasked (inl s) = let e : true ≡ false = sym s.1 ∙ n in cc
      unasked (inr s) = cc
