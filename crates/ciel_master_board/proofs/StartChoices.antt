-- Who can work, and what can be started.
use Rattle.std.proofs.Common.{◌≡◌, ℕ, zero, suc, ◌+◌, ◌*◌, ◌%◌, ◌≤◌, ◌<◌, List, ◌∷◌, length, Bool, true, false, not, cond, ◌&&◌, nat_eq, nat_lt}
use Rattle.std.proofs.Common.{eq-eqb, eqb-true, ◌⊎◌, inl, inr, refl, ap, sym, ◌∙◌, subst, arith}
use Rattle.std.specs.List.{list_any}
use Rattle.std.proofs.lemmas.Bool.{lt-ltb, ltb-false, ltb-true}
use Rattle.ciel_journal.specs.Graph.{Runnable}
use Rattle.ciel_journal.specs.Job.{In}
use Rattle.ciel_journal.specs.Turns.{draw, idle_from, is_idle}
use Rattle.ciel_journal.proofs.Members.{bool_cases}
use Rattle.ciel_want.specs.Waited.{tasks_in_order}
use Rattle.ciel_want.proofs.Listed.{led_listed}
use Rattle.ciel_want.proofs.PickedLists.{picks_none}
use Rattle.ciel_master_board.specs.Board.{board_graph, idle_of, tasks_out, workers_out}
use Rattle.ciel_master_board.proofs.DueEvents.{got_in}
use Rattle.ciel_master_board.proofs.SearchResults.{picked_has}
use Rattle.ciel_master_board.proofs.SoundLemmas.{idle_in}
use Rattle.ciel_master_board.specs.TurnsLaws.{IdleIsListed, NoneCanRun, PickedCanStart, SomeIsIdle}

idle_listed : (gone busy : List ℕ) (w a n : ℕ) → a ≤ w → w < a + n → is_idle gone busy w ≡ true → In w (idle_from gone busy a n)
idle_listed gone busy w a zero l m e = absurd (omega (arith, l, m))
idle_listed gone busy w a (suc n) l m e =
    pick (bool_cases (nat_eq w a)) (λ k. idle_listed gone busy w (a + 1) n k (omega (arith, m)) e)
  where
    rest : In w (idle_from gone busy (a + 1) n) → In w (idle_from gone busy a (suc n))
    rest i = turn (is_idle gone busy a)
      where
        turn : (b : Bool) → In w (cond b (a ∷ idle_from gone busy (a + 1) n) (idle_from gone busy (a + 1) n))
        turn true = inr i
        turn false = i

    pick : ((nat_eq w a ≡ true) ⊎ (nat_eq w a ≡ false)) → (a + 1 ≤ w → In w (idle_from gone busy (a + 1) n)) → In w (idle_from gone busy a (suc n))
    pick (inl t) r =
        let s : w ≡ a = eqb-true w a t in
        subst (λ b. In w (cond b (a ∷ idle_from gone busy (a + 1) n) (idle_from gone busy (a + 1) n)))
        (sym (subst (λ z. is_idle gone busy z ≡ true) s e)) (inl s)
    pick (inr f) r = rest (r (above (λ s. clash (eq-eqb w a s))))
      where
        clash : nat_eq w a ≡ true → ⊥
        clash t = let bad : true ≡ false = sym t ∙ f in cc

        above : (w ≡ a → ⊥) → a + 1 ≤ w
        above d = split (bool_cases (nat_lt a w))
          where
            split : ((nat_lt a w ≡ true) ⊎ (nat_lt a w ≡ false)) → a + 1 ≤ w
            split (inl t) = let k = ltb-true a w t in omega (arith, k)
            split (inr f) = let k = ltb-false a w f in absurd (d (omega (arith, k, l)))

and_true : (a b : Bool) → a && b ≡ true → (a ≡ true) × (b ≡ true)
and_true true b e = (refl, e)
and_true false b e = cc

true_and : (a b : Bool) → a ≡ true → b ≡ true → a && b ≡ true
true_and true true e f = refl
true_and true false e f = cc
true_and false b e f = cc

module _ {P : Type 0} where
  pub idle_is_listed : IdleIsListed P
  idle_is_listed b w = (to, from)
    where
      to : nat_lt w b.plan.workers && is_idle b.table.gone (workers_out b.orders) w ≡ true → In w (idle_of b)
      to e =
          let q = and_true (nat_lt w b.plan.workers) (is_idle b.table.gone (workers_out b.orders) w) e in
          let l = ltb-true w b.plan.workers q.0 in
          idle_listed b.table.gone (workers_out b.orders) w 0 b.plan.workers (omega arith) (omega (arith, l)) q.1

      from : In w (idle_of b) → nat_lt w b.plan.workers && is_idle b.table.gone (workers_out b.orders) w ≡ true
      from i =
          let q = idle_in b.table.gone (workers_out b.orders) 0 b.plan.workers w i in
          let l = q.0 in
          true_and (nat_lt w b.plan.workers) (is_idle b.table.gone (workers_out b.orders) w) (lt-ltb w b.plan.workers (omega (arith, l))) q.1

  pub some_is_idle : SomeIsIdle P
  some_is_idle b none w l here e = subst (In w) e
      (idle_listed b.table.gone (workers_out b.orders) w 0 b.plan.workers (omega arith) (omega (arith, l)) idle)
    where
      pick : ((list_any (nat_eq w) b.table.gone ≡ true) ⊎ (list_any (nat_eq w) b.table.gone ≡ false)) → list_any (nat_eq w) b.table.gone ≡ false
      pick (inl t) = absurd (here t)
      pick (inr f) = f

      idle : is_idle b.table.gone (workers_out b.orders) w ≡ true
      idle =
          subst (λ os. is_idle b.table.gone (workers_out os) w ≡ true) (sym none)
          (ap (λ c. not c && true) (pick (bool_cases (list_any (nat_eq w) b.table.gone))))

  pub picked_can_start : PickedCanStart P
  picked_can_start b x w p = (
    picked_has (Runnable (board_graph b)) (tasks_in_order b.table) p.tasks p.runnable x
        (got_in p.tasks (draw b.plan.seed (2 * b.starts) % length p.tasks) x p.task),
    got_in (idle_of b) (draw b.plan.seed (2 * b.starts + 1) % length (idle_of b)) w p.worker,
  )

  pub none_can_run : NoneCanRun P
  none_can_run digest at b sound none x r =
      picks_none (Runnable (board_graph b)) (tasks_in_order b.table) none x (led_listed b.main b.table (tasks_out b.orders) x r.reached) r
