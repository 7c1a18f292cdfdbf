-- What is looked up in the table of a state that stands for a history: rows, saved waits, orders.
use Rattle.std.proofs.Common.{◌≡◌, ℕ, List, [], ◌∷◌, Bool, true, false, cond, ◌||◌, nat_lt, Option, Some, None, ◌⊎◌, inl, inr, refl, ap, sym, ◌∙◌}
use Rattle.std.proofs.Common.{subst}
use Rattle.std.specs.List.{AllByRecursion, list_any}
use Rattle.sky_base.specs.Name.{digested}
use Rattle.sky_base.specs.ObjectView.{desc_view}
use Rattle.sky_base.specs.Val.{same_text}
use Rattle.sky_base.proofs.Exact.{exact_text, self_text}
use Rattle.ciel_journal.specs.History.{OpenStart, Save, better, last_save, same_task}
use Rattle.ciel_journal.specs.Job.{Each, In, Task, of, show}
use Rattle.ciel_journal.specs.Lawful.{NoClash, own_name}
use Rattle.ciel_journal.proofs.Members.{agree, bool_cases}
use Rattle.ciel_journal.proofs.SavesRise.{EachRises}
use Rattle.ciel_table.specs.Named.{found}
use Rattle.ciel_table.specs.Seen.{later, latest, row_name}
use Rattle.ciel_table.specs.declared.row.Row.{Row}
use Rattle.ciel_table.specs.declared.wait.Wait.{Wait}
use Rattle.ciel_want.specs.History.{task_id}
use Rattle.ciel_want.specs.Waited.{is_in, same_id}
use Rattle.ciel_master_board.specs.Board.{OrderOut, tasks_out}
use Rattle.ciel_master_board.specs.Follows.{OneByOne, OutIs, RowIs, WaitIs, saves_of, standing_saves}
use Rattle.ciel_master_board.specs.Setting.{IsSetting, Setting}
use Rattle.ciel_master_board.proofs.StandingSaves.{best, last_standing}

module _ {D P B : Type 0} (s : Setting D P B) (is : IsSetting s) where
  -- it has the name of its description
  abbrev pub Titled : Row P → Type 0
  Titled r = r.name ≡ digested s.digest (desc_view r.desc)

  pub row_title : (had : D → List ℕ) (d : D) (r : Row P) → RowIs s had d r → Titled r → r.name ≡ s.job.name d
  row_title had d r q t = t ∙ (ap (digested s.digest) q.spells ∙ is.exact.own d)

  -- the row of a name
  pub row_at : (had : D → List ℕ) (ds : List D) (rs : List (Row P)) → OneByOne (RowIs s had) ds rs → AllByRecursion Titled rs → (d : D)
      → ((x : D) → In x ds → s.job.name x ≡ s.job.name d → x ≡ d) → In d ds → (r : Row P) × (found row_name (s.job.name d) rs ≡ Some r)
      × RowIs s had d r
  row_at had [] [] h t d apart i = absurd i
  row_at had [] (r ∷ rs) h t d apart i = absurd h
  row_at had (e ∷ es) [] h t d apart i = absurd h
  row_at had (e ∷ es) (r ∷ rs) h t d apart i =
      turn (bool_cases (same_text (s.job.name d) r.name)) i (row_at had es rs h.1 t.1 d (λ x j. apart x (inr j)))
    where
      title : r.name ≡ s.job.name e
      title = row_title had e r h.0 t.0

      Found : List (Row P) → Type 0
      Found xs = (q : Row P) × (found row_name (s.job.name d) xs ≡ Some q) × RowIs s had d q

      turn : ((same_text (s.job.name d) r.name ≡ true) ⊎ (same_text (s.job.name d) r.name ≡ false)) → In d (e ∷ es) → (In d es → Found rs)
          → Found (r ∷ rs)
      turn (inl y) j go =
          let same : e ≡ d = apart e (inl refl) (sym title ∙ sym (exact_text (s.job.name d) r.name y)) in
          (r, ap (λ c. cond c (Some r) (found row_name (s.job.name d) rs)) y, subst (λ x. RowIs s had x r) same h.0)
      turn (inr n) (inl j) go =
          let y : same_text (s.job.name d) r.name ≡ true =
          subst (λ m. same_text (s.job.name d) m ≡ true) (ap s.job.name j ∙ sym title) (self_text (s.job.name d)) in
          let bad : true ≡ false = sym y ∙ n in
          cc
      turn (inr n) (inr j) go =
          let q = go j in
          (q.0, ap (λ c. cond c (Some r) (found row_name (s.job.name d) rs)) n ∙ q.1, q.2)

  -- ---- the last saved wait

  -- both have one and they agree, or none has
  abbrev pub BothWaits : Option (Save D) → Option (Wait P) → Type 0
  BothWaits None None = Unit {0}
  BothWaits None (Some w) = ⊥
  BothWaits (Some q) None = ⊥
  BothWaits (Some q) (Some w) = WaitIs s q w

  latest_best : (qs : List (Save D)) (ws : List (Wait P)) → OneByOne (WaitIs s) qs ws → BothWaits (best s.job qs) (latest ws)
  latest_best [] [] h = tt
  latest_best [] (w ∷ ws) h = absurd h
  latest_best (q ∷ qs) [] h = absurd h
  latest_best (q ∷ qs) (w ∷ ws) h = pick (best s.job qs) (latest ws) (latest_best qs ws h.1)
    where
      pick : (x : Option (Save D)) (y : Option (Wait P)) → BothWaits x y → BothWaits (better s.job q x) (later w y)
      pick None None k = h.0
      pick None (Some v) k = absurd k
      pick (Some r) None k = absurd k
      pick (Some r) (Some v) k =
          turn (nat_lt r.j q.j) (nat_lt v.j w.j) (ap (λ n. nat_lt n q.j) (sym k.j) ∙ ap (nat_lt v.j) (sym h.0.j))
        where
          turn : (b c : Bool) → b ≡ c → BothWaits (cond b (Some q) (Some r)) (cond c (Some w) (Some v))
          turn true true e = h.0
          turn true false e = cc
          turn false true e = cc
          turn false false e = k

  pub last_both : (u : Task D) (qs : List (Save D)) (ws : List (Wait P)) → EachRises qs
      → OneByOne (WaitIs s) (standing_saves (saves_of s.job u qs)) ws → BothWaits (last_save s.job u qs) (latest ws)
  last_both u qs ws r h =
      subst (λ o. BothWaits o (latest ws)) (sym (last_standing s.job is.laws u qs r)) (latest_best (standing_saves (saves_of s.job u qs)) ws h)

  -- ---- tasks by their names

  -- two tasks that go by names of a book in which no two names clash are one where their names are
  pub same_named : (book : List D) → NoClash s.job book → (u t : Task D) → In (own_name s.job u) book → In (own_name s.job t) book
      → same_id (task_id s.job u) (task_id s.job t) ≡ same_task s.job u t
  same_named book apart show show i j = refl
  same_named book apart show (of e) i j = refl
  same_named book apart (of d) show i j = refl
  same_named book apart (of d) (of e) i j =
      agree (same_text (s.job.name d) (s.job.name e)) (s.job.same d e)
      (λ h. subst (λ x. s.job.same d x ≡ true) (apart d e i j (exact_text (s.job.name d) (s.job.name e) h)) (is.laws.same_refl d))
      (λ h. subst (λ x. same_text (s.job.name d) (s.job.name x) ≡ true) (is.laws.same_exact d e h) (self_text (s.job.name d)))

  -- the tasks that are out have open Starts
  pub outs : (book : List D) → NoClash s.job book → (u : Task D) → In (own_name s.job u) book → (os : List (OpenStart D)) (xs : List OrderOut)
      → OneByOne (OutIs s) os xs → Each (λ (o : OpenStart D). In (own_name s.job o.task) book) os → is_in (tasks_out xs) (task_id s.job u)
      ≡ list_any (λ (o : OpenStart D). same_task s.job u o.task) os
  outs book apart u i [] [] h k = refl
  outs book apart u i [] (x ∷ xs) h k = absurd h
  outs book apart u i (o ∷ os) [] h k = absurd h
  outs book apart u i (o ∷ os) (x ∷ xs) h k =
      ap (λ c. c || is_in (tasks_out xs) (task_id s.job u)) (ap (same_id (task_id s.job u)) h.0.task ∙ same_named book apart u o.task i k.0)
      ∙ ap (λ c. same_task s.job u o.task || c) (outs book apart u i os xs h.1 k.1)
