-- What is found in the table is found after the history.
use Rattle.std.proofs.Common.{◌≡◌, List, [], ◌∷◌, Bool, true, false, cond, map, ◌⊎◌, inl, inr, refl, sym, ◌∙◌, subst}
use Rattle.sky_base.specs.declared.object.TaskId.{TaskId}
use Rattle.ciel_journal.specs.Graph.{Circle, Led, Picks, Runnable}
use Rattle.ciel_journal.specs.History.{Event, OpenStart, Standing, live, needs as needs_after, standing}
use Rattle.ciel_journal.specs.Job.{Digest, Each, In, Never, Task, of}
use Rattle.ciel_journal.specs.Journals.{CircleOf}
use Rattle.ciel_journal.specs.Lawful.{own_name}
use Rattle.ciel_journal.specs.Turns.{IsReadyList, Reached, Ready, is_first, tasks_of}
use Rattle.ciel_journal.proofs.Bound.{task_exact}
use Rattle.ciel_journal.proofs.Good.{lawful_circle}
use Rattle.ciel_journal.proofs.Members.{any_in, bool_cases, each_of, in_any}
use Rattle.ciel_journal.proofs.Picked.{picks_in}
use Rattle.ciel_table.specs.Seen.{is_live}
use Rattle.ciel_want.specs.History.{task_id}
use Rattle.ciel_want.specs.Waited.{is_in, same_id, tasks_in_order}
use Rattle.ciel_want.proofs.Listed.{led_listed, same_exact}
use Rattle.ciel_master_board.specs.Board.{Board, board_graph, tasks_out}
use Rattle.ciel_master_board.specs.Follows.{Follows, OneByOne, OutIs}
use Rattle.ciel_master_board.specs.Setting.{IsSetting, Setting}
use Rattle.ciel_master_board.specs.Sound.{Sound}
use Rattle.ciel_master_board.proofs.EventsFollowed.{low_is}
use Rattle.ciel_master_board.proofs.FollowsLemmas.{agrees, apart, informed, known, made, rises, table_holds, traced}
use Rattle.ciel_master_board.proofs.TableContents as holding
use Rattle.ciel_master_board.proofs.TableLookups.{same_named}
use Rattle.ciel_master_board.proofs.SoundLemmas.{same_self}
use Rattle.ciel_master_board.proofs.StartsByName as starting

-- each that is picked has the property
pub picked_has : {A : Type 0} (Q : A → Type 0) (xs ts : List A) → Picks Q xs ts → (t : A) → In t ts → Q t
picked_has Q [] ts p t i = absurd (subst (In t) p i)
picked_has Q (x ∷ xs) ts (inr p) t i = picked_has Q xs ts p.1 t i
picked_has Q (x ∷ xs) ts (inl p) t i = pick (subst (In t) p.1.1 i) (picked_has Q xs p.1.0 p.1.2 t)
  where
    pick : In t (x ∷ p.1.0) → (In t p.1.0 → Q t) → Q t
    pick (inl s) r = subst Q (sym s) p.0
    pick (inr j) r = r j

-- where it can be told of each, those that have it can be listed
all_picked : {A : Type 0} (Q : A → Type 0) (xs : List A) → ((x : A) → In x xs → Q x ⊎ (Q x → ⊥)) → (ts : List A) × Picks Q xs ts
all_picked Q [] d = ([], refl)
all_picked Q (x ∷ xs) d = pick (d x (inl refl)) (all_picked Q xs (λ y i. d y (inr i)))
  where
    pick : (Q x ⊎ (Q x → ⊥)) → ((ts : List _) × Picks Q xs ts) → (ts : List _) × Picks Q (x ∷ xs) ts
    pick (inl q) r = (x ∷ r.0, inl (q, (r.0, refl, r.1)))
    pick (inr n) r = (r.0, inr (n, r.1))

module _ {D P B : Type 0} (s : Setting D P B) (is : IsSetting s) (h : List (Event D)) (b : Board P) (sound : Sound s.digest s.at b)
    (f : Follows s h b) where
  abbrev v : Standing D
  v = standing s.job h

  -- two reached tasks of one name are one
  pub reached_one : (u t : Task D) → In (own_name s.job u) v.book → In (own_name s.job t) v.book → task_id s.job u ≡ task_id s.job t → u ≡ t
  reached_one u t i j e =
      task_exact s.job is.laws u t (sym (same_named s is v.book (apart s is h b sound f) u t i j)
      ∙ subst (λ z. same_id (task_id s.job u) z ≡ true) e (same_self (task_id s.job u)))

  pub reached_book : (u : Task D) → Reached s.job v u → In (own_name s.job u) v.book
  reached_book u r =
      holding.reached_booked s is v (informed s is h b sound f) (apart s is h b sound f) (made s is h b sound f) b sound f.stands
      (known s is h b sound f) u r

  -- a task of the book's list goes by a name of the book
  listed_book : (ds : List D) → ((d : D) → In d ds → In d v.book) → (u : Task D) → In u (tasks_of s.job ds) → In (own_name s.job u) v.book
  listed_book [] all u (inl e) = subst (λ t. In (own_name s.job t) v.book) (sym e) (informed s is h b sound f).shelved.main
  listed_book [] all u (inr i) = absurd i
  listed_book (d ∷ ds) all u i = pick (is_first s.job d (s.job.task_of d)) i (listed_book ds (λ x j. all x (inr j)) u)
    where
      pick : (c : Bool) → In u (cond c (of d ∷ tasks_of s.job ds) (tasks_of s.job ds))
          → (In u (tasks_of s.job ds) → In (own_name s.job u) v.book) → In (own_name s.job u) v.book
      pick true (inl e) r = subst (λ t. In (own_name s.job t) v.book) (sym e) (all d (inl refl))
      pick true (inr j) r = r j
      pick false j r = r j

  abbrev can_run : TaskId → Type 0
  can_run x = Runnable (board_graph b) x

  -- a task that can run is ready
  pub ready_of : (u : Task D) → In (own_name s.job u) v.book → can_run (task_id s.job u) → Ready s.job v u
  ready_of u i r = pick ((agrees s is h b sound f).only (task_id s.job u) r.reached)
    where
      pick : ((t : Task D) × (task_id s.job t ≡ task_id s.job u) × Reached s.job v t) → Ready s.job v u
      pick q =
          let same : q.0 ≡ u = reached_one q.0 u (reached_book q.0 q.2) i q.1 in
          starting.ready s is v (informed s is h b sound f) (apart s is h b sound f) (made s is h b sound f) (traced s is h b sound f) (rises s is h b sound f) b sound
          f.stands (known s is h b sound f) u (subst (Reached s.job v) same q.2) r

  -- and a ready one can run
  runs_of : (u : Task D) → Ready s.job v u → can_run (task_id s.job u)
  runs_of u r =
      let i = reached_book u r.reached in
      let own = holding.reached_own s is v (informed s is h b sound f) (apart s is h b sound f) (made s is h b sound f) b sound f.stands
      (known s is h b sound f) u r.reached in
      record {
        reached = (agrees s is h b sound f).reached u r.reached;
        not_out = (table_holds s is h b sound f).outs u r.reached ∙ r.not_out;
        met = subst (Each (λ n. is_live n b.table ≡ true)) (sym ((table_holds s is h b sound f).waits u r.reached))
            (each_named (needs_after s.job v u) (λ d j. each_of (λ x. In x v.book) d (needs_after s.job v u) j
            (known s is h b sound f u r.reached)) r.met);
      }
    where
      each_named : (ds : List D) → ((d : D) → In d ds → In d v.book) → Each (λ d. live s.job v d ≡ true) ds
          → Each (λ n. is_live n b.table ≡ true) (map s.job.name ds)
      each_named [] g e = tt
      each_named (d ∷ ds) g e =
          ((table_holds s is h b sound f).lives d (g d (inl refl)) ∙ e.0, each_named ds (λ x j. g x (inr j)) e.1)

  pub led_reached : (x : TaskId) → Led (board_graph b) x → (u : Task D) × (task_id s.job u ≡ x) × Reached s.job v u
  led_reached x l = (agrees s is h b sound f).only x l

  pub runnable_ready : (ts : List TaskId) → Picks (Runnable (board_graph b)) (tasks_in_order b.table) ts → (us : List (Task D))
      × IsReadyList s.job v us × (ts ≡ map (task_id s.job) us)
  runnable_ready ts p =
      let all = all_picked (Ready s.job v) (tasks_of s.job v.book) decide in
      (all.0, all.1, (agrees s is h b sound f).ready all.0 ts all.1 p)
    where
      decide : (u : Task D) → In u (tasks_of s.job v.book) → Ready s.job v u ⊎ (Ready s.job v u → ⊥)
      decide u i = pick (bool_cases (is_in ts (task_id s.job u)))
        where
          pick : ((is_in ts (task_id s.job u) ≡ true) ⊎ (is_in ts (task_id s.job u) ≡ false)) → Ready s.job v u ⊎ (Ready s.job v u → ⊥)
          pick (inl t) =
              inl (ready_of u (listed_book v.book (λ d j. j) u i)
              (picked_has (Runnable (board_graph b)) (tasks_in_order b.table) ts p (task_id s.job u)
              (any_in same_id same_exact (task_id s.job u) ts t)))
          pick (inr t) = inr (λ r. clash (runs_of u r))
            where
              clash : can_run (task_id s.job u) → ⊥
              clash r =
                  let j = picks_in (Runnable (board_graph b)) (tasks_in_order b.table) ts p (task_id s.job u)
                  (led_listed b.main b.table (tasks_out b.orders) (task_id s.job u) r.reached) r in
                  let z : is_in ts (task_id s.job u) ≡ true = in_any same_id same_self (task_id s.job u) ts j in
                  let bad : true ≡ false = sym z ∙ t in
                  cc

  none_open : b.orders ≡ [] → v.orders ≡ []
  none_open e = pick v.orders (subst (OneByOne (OutIs s) v.orders) e f.stands.orders)
    where
      pick : (os : List (OpenStart D)) → OneByOne (OutIs s) os [] → os ≡ []
      pick [] k = refl
      pick (o ∷ os) k = absurd k

  pub circle_follows : b.orders ≡ [] → (ns : List Digest) → Circle (board_graph b) ns → CircleOf s.job b.plan b.journal ns × Never s.job
  circle_follows e ns c =
      let q = (agrees s is h b sound f).circle (none_open e) ns c in (
        (h, record { lawful = f.lawful; journal = sym f.journal }, q.0, q.2, low_is s.job q.0 ∙ sym q.1),
        lawful_circle s.job is.laws b.plan h f.lawful q.0 q.2,
      )
