-- The table of a state that follows a history holds what stands after it.
use Rattle.std.proofs.Common.{◌≡◌, ℕ, List, [], ◌∷◌, true, false, ◌||◌, map, Option, Some, None, inl, inr, refl, ap, sym, ◌∙◌, subst}
use Rattle.std.specs.List.{AllByRecursion}
use Rattle.std.specs.Option.{option_map_or}
use Rattle.sky_base.specs.Name.{digested}
use Rattle.sky_base.specs.ObjectView.{desc_view}
use Rattle.sky_base.specs.declared.object.Desc1.{Desc1}
use Rattle.sky_base.specs.declared.object.TaskId.{TaskId}
use Rattle.ciel_journal.specs.Graph.{root, through}
use Rattle.ciel_journal.specs.History.{Save, Standing, is_out, last_save, live, live_if, needs as needs_after, needs_of}
use Rattle.ciel_journal.specs.Job.{Each, In, Job, Task, of, show}
use Rattle.ciel_journal.specs.Lawful.{NoClash, own_name}
use Rattle.ciel_journal.specs.Turns.{Reached}
use Rattle.ciel_journal.proofs.BookKnown.{Informed}
use Rattle.ciel_journal.proofs.Members.{each_of}
use Rattle.ciel_journal.proofs.SavesRise.{EachRises}
use Rattle.ciel_name.specs.Names.{first_output}
use Rattle.ciel_table.specs.Seen.{has_place, is_input, is_live, is_live_row, last_wait, row_named, waits_of}
use Rattle.ciel_table.specs.declared.row.Row.{Row}
use Rattle.ciel_table.specs.declared.wait.Wait.{Wait}
use Rattle.ciel_table.proofs.Lists.{all_more}
use Rattle.ciel_want.specs.History.{AreRowsOf, Holds, IsRowOf, task_id}
use Rattle.ciel_want.specs.Waited.{first_needs, first_refs, is_in, needs, needs_at}
use Rattle.ciel_master_board.specs.Board.{Board, tasks_out}
use Rattle.ciel_master_board.specs.Follows.{OneByOne, RowIs, StandsFor}
use Rattle.ciel_master_board.specs.Setting.{IsMade, IsSetting, Setting, input_number}
use Rattle.ciel_master_board.specs.Sound.{RowSound, Sound}
use Rattle.ciel_master_board.proofs.TableLookups.{BothWaits, Titled, last_both, outs, row_at, row_title}

-- an input goes by itself
input_itself : (x : Desc1) → is_input x ≡ true → first_output (desc_view x) ≡ desc_view x
input_itself (Desc1.Call f c vs) e = refl
input_itself (Desc1.Exec x v n i) e = cc
input_itself (Desc1.Input k) e = refl

some_live : {D P : Type 0} (job : Job D) (at : P → ℕ) (u : Task D) (ps : List P) → has_place ps ≡ live_if job (Some u) (map at ps)
some_live job at u [] = refl
some_live job at u (p ∷ ps) = refl

module _ {D P B : Type 0} (s : Setting D P B) (is : IsSetting s) where
  abbrev Informed' : Standing D → Type 0
  Informed' = Informed s.job is.laws s.inner is.knows

  -- what has a key is an input
  pub input_is : (x : Desc1) → (i : ℕ) × (input_number s.keys x ≡ Some i) → is_input x ≡ true
  input_is (Desc1.Call f c vs) (i, e) = cc
  input_is (Desc1.Exec x v n k) (i, e) = cc
  input_is (Desc1.Input k) (i, e) = refl

  no_root : (d : D) → s.job.task_of d ≡ Some show → ⊥
  no_root d h = subst (In d) is.laws.outputs_show (is.laws.made_by d show h)

  module _ (v : Standing D) (inf : Informed' v) (apart : NoClash s.job v.book) (made : (d : D) → In d v.book → IsMade s d) (b : Board P)
      (sound : Sound s.digest s.at b) (st : StandsFor s v b) where
    titled : AllByRecursion (Titled s is) b.table.rows
    titled = all_more (RowSound s.digest b.table) (Titled s is) (λ r k. k.name) b.table.rows sound.rows

    pub row_of : (d : D) → In d v.book → (r : Row P) × (row_named (s.job.name d) b.table ≡ Some r) × RowIs s v.places d r
    row_of d i = row_at s is v.places v.book b.table.rows st.rows titled d (λ x j n. apart x d j i n) i

    pub inside_apart : (d : D) → In d v.book → NoClash s.job (s.inner.inside d)
    inside_apart d i x y j k n =
        apart x y (each_of (λ e. In e v.book) x (s.inner.inside d) j (inf.whole d i).0)
        (each_of (λ e. In e v.book) y (s.inner.inside d) k (inf.whole d i).0) n

    -- ---- rows

    input_row : (d : D) (r : Row P) → IsMade s d → RowIs s v.places d r → RowSound s.digest b.table r → (o : Option (Task D)) → s.job.task_of d
        ≡ o → IsRowOf s.job d o r
    input_row d r m q k None e =
        let i : is_input r.desc ≡ true = input_is r.desc (is.tells.input r.desc d q.spells m e) in
        (row_title s is v.places d r q k.name, i, k.task ∙ ap (λ n. TaskId.Of n) (ap (digested s.digest) (input_itself r.desc i) ∙ sym k.name))
    input_row d r m q k (Some show) e = absurd (no_root d e)
    input_row d r m q k (Some (of x)) e =
        let i = is.tells.made r.desc d x q.spells e in (
          row_title s is v.places d r q k.name,
          i.0,
          k.task
              ∙ ap (λ n. TaskId.Of n) (ap (λ z. digested s.digest (first_output z)) q.spells ∙ (ap (digested s.digest) i.1 ∙ is.exact.own x)),
        )

    rows_are : (ds : List D) (rs : List (Row P)) → ((d : D) → In d ds → IsMade s d) → OneByOne (RowIs s v.places) ds rs
        → AllByRecursion (RowSound s.digest b.table) rs → AreRowsOf s.job ds rs
    rows_are [] [] m h k = tt
    rows_are [] (r ∷ rs) m h k = absurd h
    rows_are (d ∷ ds) [] m h k = absurd h
    rows_are (d ∷ ds) (r ∷ rs) m h k =
        (input_row d r (m d (inl refl)) h.0 k.0 (s.job.task_of d) refl, rows_are ds rs (λ x i. m x (inr i)) h.1 k.1)

    -- ---- what is live

    live_row : (d : D) (r : Row P) → IsMade s d → RowIs s v.places d r → (o : Option (Task D)) → s.job.task_of d ≡ o → is_live_row r
        ≡ live_if s.job o (v.places d)
    live_row d r m q None e = ap (λ c. c || has_place r.places) (input_is r.desc (is.tells.input r.desc d q.spells m e))
    live_row d r m q (Some show) e = absurd (no_root d e)
    live_row d r m q (Some (of x)) e =
        ap (λ c. c || has_place r.places) (is.tells.made r.desc d x q.spells e).0
        ∙ (some_live s.job s.at (of x) r.places ∙ ap (live_if s.job (Some (of x))) q.places)

    pub lives : (d : D) → In d v.book → is_live (s.job.name d) b.table ≡ live s.job v d
    lives d i =
        let q = row_of d i in
        ap (λ o. option_map_or is_live_row o false) q.1 ∙ live_row d q.0 (made d i) q.2 (s.job.task_of d) refl

    -- ---- tasks

    -- the task goes by its own name
    abbrev pub Own : Task D → Type 0
    Own u = (d : D) → u ≡ of d → s.job.task_of d ≡ Some (of d)

    pub task_own : (d : D) (u : Task D) → s.job.task_of d ≡ Some u → Own u
    task_own d u e x q = is.laws.own x d (e ∙ ap (λ z. Some z) q)

    pub task_booked : (d : D) (u : Task D) → In d v.book → s.job.task_of d ≡ Some u → In (own_name s.job u) v.book
    task_booked d show i e = absurd (no_root d e)
    task_booked d (of x) i e =
        each_of (λ y. In y v.book) x (s.job.outputs (of x)) (is.laws.made_by x (of x) (is.laws.own x d e)) ((inf.whole d i).1 (of x) e)

    module _ (known : (u : Task D) → Reached s.job v u → Each (λ d. In d v.book) (needs_after s.job v u)) where
      pub reached_booked : (u : Task D) → Reached s.job v u → In (own_name s.job u) v.book
      reached_booked u root = inf.shelved.main
      reached_booked u (through {t = t} r o d i n e) =
          task_booked d u (each_of (λ x. In x v.book) d (needs_after s.job v t) i (known t r)) e

      pub reached_own : (u : Task D) → Reached s.job v u → Own u
      reached_own u root d q = cc
      reached_own u (through r o d i n e) x q = task_own d u e x q

    pub last_is : EachRises v.saves → (u : Task D) → In (own_name s.job u) v.book
        → BothWaits s is (last_save s.job u v.saves) (last_wait (task_id s.job u) b.table)
    last_is rises u i = last_both s is u v.saves (waits_of (task_id s.job u) b.table) rises (st.waits u i)

    first_is : (u : Task D) → In (own_name s.job u) v.book → Own u → first_needs b.main b.table (task_id s.job u) ≡ map s.job.name (s.job.first u)
    first_is show i o = ap (λ n. n ∷ []) st.main ∙ ap (map s.job.name) (sym is.laws.first_show)
    first_is (of d) i o =
        let q = row_of d i in
        ap (λ r. option_map_or (λ (r : Row P). first_refs r.desc) r []) q.1
        ∙ is.tells.first q.0.desc d q.2.spells (o d refl) (inside_apart d i)

    pub needs_are : EachRises v.saves → (u : Task D) → In (own_name s.job u) v.book → Own u
        → needs b.main b.table (task_id s.job u) ≡ map s.job.name (needs_after s.job v u)
    needs_are rises u i o = pick (last_save s.job u v.saves) (last_wait (task_id s.job u) b.table) (last_is rises u i)
      where
        pick : (x : Option (Save D)) (y : Option (Wait P)) → BothWaits s is x y → needs_at b.main b.table y (task_id s.job u)
            ≡ map s.job.name (needs_of s.job u x)
        pick None None k = first_is u i o
        pick None (Some w) k = absurd k
        pick (Some q) None k = absurd k
        pick (Some q) (Some w) k = k.refs

    pub outs_are : (u : Task D) → In (own_name s.job u) v.book → is_in (tasks_out b.orders) (task_id s.job u) ≡ is_out s.job v u
    outs_are u i = outs s is v.book apart u i v.orders b.orders st.orders inf.shelved.own

    pub table_holds : EachRises v.saves → ((u : Task D) → Reached s.job v u → Each (λ d. In d v.book) (needs_after s.job v u))
        → Holds s.job v b.main b.table (tasks_out b.orders)
    table_holds rises known =
        record {
          rows = rows_are v.book b.table.rows made st.rows sound.rows;
          lives = lives;
          waits = λ u r. needs_are rises u (reached_booked known u r) (reached_own known u r);
          outs = λ u r. outs_are u (reached_booked known u r);
        }
