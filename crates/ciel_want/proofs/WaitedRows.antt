-- What the tasks of a table wait for, and the rows to which it leads.
use Rattle.std.proofs.Common.{◌≡◌, ℕ, List, [], ◌∷◌, ◌++◌, Bool, true, false, cond, ◌||◌, refl, ap, sym, ◌∙◌, subst, ◌⊎◌, inl, inr, Option, Some}
use Rattle.std.proofs.Common.{None, nat_eq, eq-eqb, nat_lt}
use Rattle.std.specs.List.{AllByRecursion, list_any}
use Rattle.std.specs.Option.{option_map_or, option_and_then}
use Rattle.sky_base.specs.Names.{known_of}
use Rattle.sky_base.specs.declared.object.TaskId.{TaskId}
use Rattle.ciel_journal.specs.Graph.{Led, root, through}
use Rattle.ciel_journal.specs.Job.{In}
use Rattle.ciel_want.specs.Search.{Among}
use Rattle.ciel_want.proofs.SearchInvariants.{among_head}
use Rattle.ciel_table.specs.Seen.{TableSeen, Known, find, has_place, is_input, is_live, is_live_row, later, latest, row_name, row_named}
use Rattle.ciel_table.specs.declared.row.Row.{Row}
use Rattle.ciel_table.specs.declared.wait.Wait.{Wait}
use Rattle.ciel_want.specs.Board.{blocker, blockers_of, blocking, task_row, with_some}
use Rattle.ciel_want.specs.Waited.{RowWhole, TaskKnown, Whole, graph, made_by, maker, names_of, needs}
use Rattle.ciel_want.proofs.Rows.{all_found, item_at, some_place}

pub all_in : {A : Type 0} (Q : A → Type 0) (xs : List A) (x : A) → AllByRecursion Q xs → In x xs → Q x
all_in Q [] x a i = absurd i
all_in Q (y ∷ ys) x a (inl s) = subst Q (sym s) a.0
all_in Q (y ∷ ys) x a (inr i) = all_in Q ys x a.1 i

pub among_here : (e : ℕ) (xs : List ℕ) → Among e (e ∷ xs)
among_here e xs = ap (λ b. b || list_any (nat_eq e) xs) (eq-eqb e e refl)

pub among_more : (e x : ℕ) (xs : List ℕ) → Among e xs → Among e (x ∷ xs)
among_more e x xs a = turn (nat_eq e x)
  where
    turn : (b : Bool) → b || list_any (nat_eq e) xs ≡ true
    turn true = refl
    turn false = a

-- a list of names, and of what is known by them
pub names_known : (ns : List (List ℕ)) → names_of (known_of ns) ≡ ns
names_known [] = refl
names_known (n ∷ ns) = ap (λ ms. n ∷ ms) (names_known ns)

pub with_split : (o : Option ℕ) (es : List ℕ) → with_some o es ≡ with_some o [] ++ es
with_split None es = refl
with_split (Some e) es = refl

or_false : (a b : Bool) → a || b ≡ false → (a ≡ false) × (b ≡ false)
or_false true b e = cc
or_false false b e = (refl, e)

module _ {P : Type 0} where
  -- the greatest is one of them
  pub latest_all : (Q : Wait P → Type 0) (ws : List (Wait P)) (w : Wait P) → AllByRecursion Q ws → latest ws ≡ Some w → Q w
  latest_all Q [] w a e = cc
  latest_all Q (v ∷ vs) w a e = turn (latest vs) refl e (latest_all Q vs w a.1)
    where
      turn : (o : Option (Wait P)) → latest vs ≡ o → later v o ≡ Some w → (latest vs ≡ Some w → Q w) → Q w
      turn None q h r = let s : v ≡ w = cc in subst Q s a.0
      turn (Some u) q h r = pick (nat_lt u.j v.j) h
        where
          pick : (b : Bool) → cond b (Some v) (Some u) ≡ Some w → Q w
          pick true k = let s : v ≡ w = cc in subst Q s a.0
          pick false k = r (q ∙ k)

module _ {P : Type 0} (t : TableSeen P) where
  -- ---- a name that isn't live, and the row of its task

  pub record Blocks (n : List ℕ) (e : ℕ) : Type 0 where
    pub row : Row P
    pub named : row_named n t ≡ Some row
    pub dead : is_live_row row ≡ false
    pub task : List ℕ
    pub is : row.task ≡ TaskId.Of task
    pub own : find task t ≡ Some e

  pub blocks_of : (n : List ℕ) (e : ℕ) → blocker t n ≡ Some e → Blocks n e
  blocks_of n e h = turn (row_named n t) refl h
    where
      task : (r : Row P) → row_named n t ≡ Some r → is_live_row r ≡ false → (k : TaskId) → r.task ≡ k → task_row t k ≡ Some e → Blocks n e
      task r q d TaskId.Show s h = cc
      task r q d (TaskId.Of m) s h = record { row = r; named = q; dead = d; task = m; is = s; own = h }

      row : (r : Row P) → row_named n t ≡ Some r → (b : Bool) → is_live_row r ≡ b → cond b None (task_row t r.task) ≡ Some e → Blocks n e
      row r q true d h = cc
      row r q false d h = task r q d r.task refl h

      turn : (o : Option (Row P)) → row_named n t ≡ o → option_and_then (blocking t) o ≡ Some e → Blocks n e
      turn None q h = cc
      turn (Some r) q h = row r q (is_live_row r) refl h

  pub blocker_of : (n : List ℕ) (e : ℕ) → Blocks n e → blocker t n ≡ Some e
  blocker_of n e b =
      ap (option_and_then (blocking t)) b.named
      ∙ (ap (λ l. cond l None (task_row t b.row.task)) b.dead ∙ (ap (task_row t) b.is ∙ b.own))

  pub dead_of : (n : List ℕ) (e : ℕ) → Blocks n e → is_live n t ≡ false
  dead_of n e b = ap (λ (o : Option (Row P)). option_map_or is_live_row o false) b.named ∙ b.dead

  pub maker_of : (n : List ℕ) (e : ℕ) (b : Blocks n e) → maker t n ≡ Some (TaskId.Of b.task)
  maker_of n e b =
      ap (option_and_then (made_by t)) b.named
      ∙ (ap (λ i. cond i None (Some b.row.task)) (or_false (is_input b.row.desc) (has_place b.row.places) b.dead).0
      ∙ ap (λ k. Some k) b.is)

  -- ---- the rows to which names lead

  with_among : (o : Option ℕ) (e : ℕ) (es : List ℕ) → Among e es → Among e (with_some o es)
  with_among None e es a = a
  with_among (Some x) e es a = among_more e x es a

  pub blockers_has : (ns : List (List ℕ)) (n : List ℕ) (e : ℕ) → In n ns → blocker t n ≡ Some e → Among e (blockers_of t ns)
  blockers_has [] n e i h = absurd i
  blockers_has (m ∷ ms) n e (inl s) h =
      subst (λ o. Among e (with_some o (blockers_of t ms))) (sym (ap (blocker t) (sym s) ∙ h)) (among_here e (blockers_of t ms))
  blockers_has (m ∷ ms) n e (inr i) h =
      with_among (blocker t m) e (blockers_of t ms) (blockers_has ms n e i h)

  pub blockers_from : (ns : List (List ℕ)) (e : ℕ) → Among e (blockers_of t ns) → (n : List ℕ) × In n ns × (blocker t n ≡ Some e)
  blockers_from [] e a = cc
  blockers_from (m ∷ ms) e a = turn (blocker t m) refl a (blockers_from ms e)
    where
      more : ((n : List ℕ) × In n ms × (blocker t n ≡ Some e)) → (n : List ℕ) × In n (m ∷ ms) × (blocker t n ≡ Some e)
      more q = (q.0, inr q.1, q.2)

      one : (x : ℕ) → blocker t m ≡ Some x → ((e ≡ x) ⊎ Among e (blockers_of t ms))
          → (Among e (blockers_of t ms) → (n : List ℕ) × In n ms × (blocker t n ≡ Some e)) → (n : List ℕ) × In n (m ∷ ms)
          × (blocker t n ≡ Some e)
      one x q (inl s) r = (m, inl refl, q ∙ ap (λ y. Some y) (sym s))
      one x q (inr k) r = more (r k)

      turn : (o : Option ℕ) → blocker t m ≡ o → Among e (with_some o (blockers_of t ms))
          → (Among e (blockers_of t ms) → (n : List ℕ) × In n ms × (blocker t n ≡ Some e)) → (n : List ℕ) × In n (m ∷ ms)
          × (blocker t n ≡ Some e)
      turn None q h r = more (r h)
      turn (Some x) q h r = one x q (among_head e x (blockers_of t ms) h) r

  -- ---- what a whole table says

  module _ (main : List ℕ) where
    row_whole : (r : Row P) → RowWhole main t (is_input r.desc) r → is_input r.desc ≡ false → TaskKnown t r.task
        × AllByRecursion (Known t) (needs main t r.task)
    row_whole r h e = subst (λ b. RowWhole main t b r) e h

    module _ (whole : Whole main t) where
      -- what a reached task waits for has a row
      pub needs_known : (out : List TaskId) (task : TaskId) → Led (graph main t out) task → AllByRecursion (Known t) (needs main t task)
      needs_known out task (root) = whole.root
      needs_known out task (through l o n i v k) = found_row (row_named n t) refl k
        where
          made : (r : Row P) → row_named n t ≡ Some r → (b : Bool) → is_input r.desc ≡ b → cond b None (Some r.task) ≡ Some task
              → AllByRecursion (Known t) (needs main t task)
          made r q true d h = cc
          made r q false d h =
              let s : r.task ≡ task = cc in
              let w = row_whole r (all_found row_name (λ (x : Row P). RowWhole main t (is_input x.desc) x) n t.rows r whole.rows q) d in
              subst (λ x. AllByRecursion (Known t) (needs main t x)) s w.1

          found_row : (o : Option (Row P)) → row_named n t ≡ o → option_and_then (made_by t) o ≡ Some task
              → AllByRecursion (Known t) (needs main t task)
          found_row None q h = cc
          found_row (Some r) q h = made r q (is_input r.desc) refl h

      -- where that isn't live, it blocks
      pub blocks_known : (n : List ℕ) → Known t n → is_live n t ≡ false → (e : ℕ) × Blocks n e
      blocks_known n k l =
          let p = some_place row_name n t.rows k in
          let q = item_at row_name n t.rows p.0 p.1 in
          let dead : is_live_row q.item ≡ false = sym (ap (λ (o : Option (Row P)). option_map_or is_live_row o false) q.is_found) ∙ l in
          let w = row_whole q.item (all_found row_name (λ (x : Row P). RowWhole main t (is_input x.desc) x) n t.rows q.item whole.rows
          q.is_found) (or_false (is_input q.item.desc) (has_place q.item.places) dead).0 in
          task q.item q.is_found dead q.item.task refl w.0
        where
          task : (r : Row P) → row_named n t ≡ Some r → is_live_row r ≡ false → (k : TaskId) → r.task ≡ k → TaskKnown t k → (e : ℕ) × Blocks n e
          task r q d TaskId.Show s w = absurd w
          task r q d (TaskId.Of m) s w =
              let p = some_place row_name m t.rows w in
              (p.0, record { row = r; named = q; dead = d; task = m; is = s; own = p.1 })
