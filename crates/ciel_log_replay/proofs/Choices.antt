-- The draws choose one Start.
use Rattle.std.proofs.Common.{◌≡◌, ℕ, zero, suc, ◌+◌, ◌*◌, ◌%◌, ◌<◌, nat_eq, arith, List, [], ◌⊎◌, inl, inr, length, Bool, true, false, Option, Some, None, is_some, IfNone, IfSome, slice_get, ap, sym, ◌∙◌, subst}
use Rattle.std.proofs.lemmas.List.{nil_from_length}
use Rattle.sky_base.specs.declared.object.TaskId.{TaskId}
use Rattle.ciel_journal.specs.Graph.{Runnable}
use Rattle.ciel_journal.specs.Turns.{draw}
use Rattle.ciel_journal.proofs.Picked.{picks_unique}
use Rattle.ciel_master_board.specs.Board.{Board, board_graph, idle_of}
use Rattle.ciel_master_board.specs.Driving.{CanRun, Picked, RestsNow}
use Rattle.ciel_master.specs.Orders.{ready_of}
use Rattle.ciel_want.specs.Waited.{tasks_in_order}
use Rattle.ciel_want_ready.specs.Seen.{CanRunMany}

pub above : (n : ℕ) → nat_eq n 0 ≡ false → 0 < n
above zero e = cc
above (suc n) e = omega arith

module _ {P : Type 0} (b : Board P) where
  one_list : (ts us : List TaskId) → CanRun b ts → CanRun b us → ts ≡ us
  one_list ts us x y = picks_unique (Runnable (board_graph b)) (tasks_in_order b.table) ts us x y

  pub picked_one : (x y : TaskId) (w u : ℕ) → Picked b x w → Picked b y u → (x ≡ y) × (w ≡ u)
  picked_one x y w u p q = (tasks, workers)
    where
      tasks : x ≡ y
      tasks =
          let e = one_list p.tasks q.tasks p.runnable q.runnable in
          let a : slice_get q.tasks (draw b.plan.seed (2 * b.starts) % length q.tasks) ≡ Some x =
          subst (λ ts. slice_get ts (draw b.plan.seed (2 * b.starts) % length ts) ≡ Some x) e p.task in
          let c : Some x ≡ Some y = sym a ∙ q.task in cc

      workers : w ≡ u
      workers = let c : Some w ≡ Some u = sym p.worker ∙ q.worker in cc

  -- none, where nothing can be started
  pub rests_picks_none : (x : TaskId) (w : ℕ) → RestsNow b → Picked b x w → ⊥
  rests_picks_none x w r p = pick r.1
    where
      pick : (CanRun b [] ⊎ (idle_of b ≡ [])) → ⊥
      pick (inl c) =
          let e = one_list p.tasks [] p.runnable c in
          let a : slice_get [] (draw b.plan.seed (2 * b.starts) % length p.tasks) ≡ Some x =
          subst (λ ts. slice_get ts (draw b.plan.seed (2 * b.starts) % length p.tasks) ≡ Some x) e p.task in cc
      pick (inr e) =
          let a : slice_get [] (draw b.plan.seed (2 * b.starts + 1) % length (idle_of b)) ≡ Some w =
          subst (λ ws. slice_get ws (draw b.plan.seed (2 * b.starts + 1) % length (idle_of b)) ≡ Some w) e p.worker in cc

  -- so many can run: none, or not none
  pub none_can_run : {n : ℕ} → CanRunMany (ready_of b) n → n ≡ 0 → CanRun b []
  none_can_run many none = subst (CanRun b) (nil_from_length many.0 (many.2 ∙ none)) many.1

  some_can_run : {n : ℕ} → CanRunMany (ready_of b) n → (n ≡ 0 → ⊥) → CanRun b [] → ⊥
  some_can_run many some none = some (sym many.2 ∙ ap length (one_list many.0 [] many.1 none))

  -- with somebody idle besides, something can be started
  pub some_can_start : {n : ℕ} → CanRunMany (ready_of b) n → nat_eq n 0 ≡ false → 0 < length (idle_of b) → RestsNow b → ⊥
  some_can_start {n} many some idlers r = pick r.1
    where
      pick : (CanRun b [] ⊎ (idle_of b ≡ [])) → ⊥
      pick (inl c) = some_can_run many (λ e. let l = above n some in omega (arith, e, l)) c
      pick (inr e) = let l = ap length e in omega (arith, idlers, l)

-- there is one
pub some_of : {A : Type 0} {P : A → Type 0} (o : Option A) {t : Bool} → t ≡ is_some o → t ≡ true → IfSome o P → (x : A) × P x
some_of None e f h = let bad : false ≡ true = sym e ∙ f in cc
some_of (Some x) e f h = (x, h)

pub none_of : {A : Type 0} {P : Type 0} (o : Option A) {t : Bool} → t ≡ is_some o → t ≡ false → IfNone o P → P
none_of None e f h = h
none_of (Some x) e f h = let bad : true ≡ false = sym e ∙ f in cc
