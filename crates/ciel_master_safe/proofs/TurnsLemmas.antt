-- The turns: each leaves less to do.
use Rattle.std.proofs.Common.{◌≡◌, ℕ, suc, ◌+◌, ◌*◌, ◌≤◌, ◌<◌, List, [], ◌∷◌, length, replicate, Bool, true, false, cond, ◌||◌}
use Rattle.std.proofs.Common.{slice_get, slice_set, Option, Some, None, ◌⊎◌, inl, inr, refl, ap, sym, ◌∙◌, subst, arith}
use Rattle.std.specs.List.{list_any}
use Rattle.std.specs.Option.{option_map_or}
use Rattle.sky_base.specs.Res.{visits}
use Rattle.sky_base.specs.Tree.{Script}
use Rattle.sky_base.specs.Val.{no_pairs, no_vals, same_text}
use Rattle.sky_base.specs.declared.object.Desc1.{Desc1}
use Rattle.sky_base.specs.declared.object.Named.{Named}
use Rattle.sky_base.specs.declared.object.TaskId.{TaskId}
use Rattle.sky_base_law.specs.Tasks as t
use Rattle.sky_state.specs.Fits as state
use Rattle.sky_state.specs.Pending.{stand_wait}
use Rattle.sky_state.specs.Stand.{Stand}
use Rattle.ciel_master_board.specs.Board.{Board, Brought, Order, OrderOut, Spot, board_graph, find_order, held, idle_of, shelf, spot_of, stack_at}
use Rattle.ciel_master_board.specs.Moves.{accepted, is_root, lost_at, missed_at, opened, order_for, started, with_outputs, without}
use Rattle.ciel_master_board.specs.Reports as rep
use Rattle.ciel_master_board.specs.Reports.{AllLearned, End, IsNamed, learned_all}
use Rattle.ciel_master_board.specs.Sound.{MissingFits, Sound, own_name}
use Rattle.ciel_master_board.proofs.EventsFollowed.{room_all}
use Rattle.ciel_master_board.proofs.LearnedNames.{grown}
use Rattle.ciel_master_board.proofs.PlacedRows.{copies_same, outputs_same}
use Rattle.ciel_master_board.proofs.SoundLemmas.{order_in}
use Rattle.ciel_journal.specs.Graph.{Runnable}
use Rattle.ciel_journal.specs.History.{Plan}
use Rattle.ciel_journal.specs.Job.{Digest, In}
use Rattle.ciel_journal.specs.Turns.{FirstDue}
use Rattle.ciel_store.specs.Seen.{ShelvesSeen}
use Rattle.ciel_table.specs.Seen.{last_wait}
use Rattle.ciel_table.specs.declared.wait.Saves.{Saves}
use Rattle.ciel_table.specs.declared.wait.Wait.{Wait}
use Rattle.ciel_table.proofs.Lists.{all_more}
use Rattle.ciel_task_order.specs.Orders.{HasStack}
use Rattle.ciel_task_order.specs.Views.{P}
use Rattle.ciel_task_order.specs.declared.block.Block as rust
use Rattle.ciel_master_board.specs.TurnsLaws.{IsMissing}
use Rattle.ciel_master_board.specs.Left.{Has, Slots, all_left, busy, gone_spot, is_gone, is_stale, losses_left, one_if, stale}
use Rattle.ciel_master_board.proofs.SlotCounts.{count_set, one_of, set_long}
use Rattle.ciel_master_board.proofs.HandedLemmas.{closed_handed, free, lost_handed, opened_handed, start_handed, thrown_handed}
use Rattle.ciel_master_board.proofs.FewerStarts.{Early, Within, done_less, saved_less, start_less}
use Rattle.ciel_master_board.proofs.StartSums.{all_most}
use Rattle.ciel_master_board.proofs.WorkMeasure.{fewer_big, fewer_losses, work_big, work_small}
use Rattle.ciel_master_board.specs.Waited.{same_id}
use Rattle.ciel_master_safe.specs.Reports.{FitsSafely}
use Rattle.ciel_master_safe.specs.Safe.{IsStackOf, Safe, SavesSafe, W, WaitSafe}
use Rattle.ciel_master_safe.specs.Turns.{AtWork, Turned, most_waits}
use Rattle.ciel_master_safe.proofs.SafeLemmas.{loss_safe, opened_safe, report_safe, start_safe}
use Rattle.ciel_master_safe.proofs.LiveOutputs.{rows_live}
use Rattle.ciel_master_safe.proofs.SoundOrders.{IsFor, SpotGood, brought_for, spot_good, wait_in}

-- ---- what a report leaves as it was

module _ (digest : List ℕ → List ℕ) (b : Board P) (x : OrderOut) (spawned : List Named) where
  pub plan_same : (e : End P) → (accepted digest W b x spawned e).plan ≡ b.plan
  plan_same (rep.made ms cs) = refl
  plan_same (rep.saved q) = refl
  plan_same (rep.missing name loss) = refl

  pub starts_same : (e : End P) → (accepted digest W b x spawned e).starts ≡ b.starts
  starts_same (rep.made ms cs) = refl
  starts_same (rep.saved q) = refl
  starts_same (rep.missing name loss) = refl

  orders_same : (e : End P) → (accepted digest W b x spawned e).orders ≡ without x.number b.orders
  orders_same (rep.made ms cs) = refl
  orders_same (rep.saved q) = refl
  orders_same (rep.missing name loss) = refl

  gone_same : (e : End P) → (accepted digest W b x spawned e).table.gone ≡ b.table.gone
  gone_same (rep.made ms cs) =
      let t = learned_all digest spawned b.table in
      (copies_same cs (with_outputs ms t)).gone ∙ ((outputs_same ms t).gone ∙ (grown digest spawned b.table).gone)
  gone_same (rep.saved q) = (grown digest spawned b.table).gone
  gone_same (rep.missing name loss) = refl

  limit_same : (e : End P) → (accepted digest W b x spawned e).table.limit ≡ b.table.limit
  limit_same (rep.made ms cs) =
      let t = learned_all digest spawned b.table in
      (copies_same cs (with_outputs ms t)).limit ∙ ((outputs_same ms t).limit ∙ (grown digest spawned b.table).limit)
  limit_same (rep.saved q) = (grown digest spawned b.table).limit
  limit_same (rep.missing name loss) = refl

-- a stack that fits has no more waits than this
stand_within : (sc : Script) (a : Stand (List ℕ)) → state.Fits sc a → stand_wait a ≤ visits
unfolding visits
stand_within sc (Stand.run r) f = let a = f.waits in
    let c = f.count in omega (arith, a, c)
stand_within sc (Stand.show_at v w) f = let a = f.wave in omega (arith, a)

-- ---- the beginning

pub opened_works : (digest : List ℕ → List ℕ) (shelves : ShelvesSeen) (sc : Script) (p : Plan) (main : Named) → 1 ≤ p.limit
    → IsNamed digest main → main.desc ≡ Desc1.Call [] no_pairs no_vals → p.workers ≤ length shelves.rows
    → AtWork digest shelves sc (length sc.keys) (opened digest p sc.keys main) (replicate p.workers None)
opened_works digest shelves sc p main one named desc wide =
    record {
      going = refl;
      safe = opened_safe digest shelves sc p main one named desc wide;
      handed = opened_handed (opened digest p sc.keys main) refl;
    }

module _ (digest : List ℕ → List ℕ) (shelves : ShelvesSeen) (sc : Script) (inputs : ℕ) (b : Board P) (slots : Slots P)
    (a : AtWork digest shelves sc inputs b slots) where
  abbrev Sb : Sound digest W b
  Sb = a.safe.sound

  wait_within : (task : TaskId) (w : Wait P) → WaitSafe digest shelves sc b.table task w → w.j ≤ most_waits
  wait_within task w k = go w.place.at.value k.stack
    where
      go : (x : rust.Block) → HasStack (IsStackOf sc task w.j w.refs w.holds) x → w.j ≤ most_waits
      go (rust.Block.Object o) h = absurd h
      go (rust.Block.Frozen z) h = subst (λ n. n ≤ most_waits) h.2 (stand_within sc z h.0)

  within : Within most_waits b.table
  within =
      record {
        shown = all_more (WaitSafe digest shelves sc b.table TaskId.Show) (λ (w : Wait P). w.j ≤ most_waits) (wait_within TaskId.Show) b.table.shown
            a.safe.table.shown;
        saved = all_more (SavesSafe digest shelves sc b.table) (λ (s : Saves P). Early most_waits s.waits)
            (λ s k. all_more (WaitSafe digest shelves sc b.table (TaskId.Of s.name)) (λ (w : Wait P). w.j ≤ most_waits) (wait_within (TaskId.Of s.name)) s.waits
            k.waits) b.table.saved a.safe.table.saved;
      }

  -- ---- a loss

  pub loss_turns : (loss w : ℕ) → FirstDue b.plan.losses b.closes b.table.gone loss w → Turned digest shelves sc inputs b slots (lost_at W w b) slots
  loss_turns loss w due =
      let safe = loss_safe digest shelves sc inputs b a.safe w in
      record {
        at_work = record {
          going = a.going;
          safe = safe;
          handed = lost_handed b slots a.handed (lost_at W w b) w refl refl refl refl;
        };
        less = work_big W most_waits b (lost_at W w b) slots slots refl refl
            (fewer_big W most_waits b (lost_at W w b) slots slots refl refl
            (fewer_losses b.plan.losses b.table.gone loss due.count w due.due.planned due.due.here)) (all_most most_waits (lost_at W w b) safe.sound.room);
      }

  -- ---- a start

  module _ (task : TaskId) (w : ℕ) (run : Runnable (board_graph b) task) (idle : In w (idle_of b)) where
    abbrev new : Order P
    new = order_for W b task w

    abbrev sending : Slots P
    sending = slice_set slots w (Some new)

    none : slice_get slots w ≡ Some None
    none = free b slots a.handed W task w idle

    -- nothing that it brings along is at a worker that is lost
    spot_here : (u : Spot P) → SpotGood digest shelves sc inputs b a.safe u → gone_spot W b.table.gone u ≡ false
    spot_here (Spot.shelf p) o = o.here
    spot_here (Spot.input i) o = refl

    all_here : (xs : List (Brought P)) → t.Each (IsFor b.keys w b.table) xs → list_any (λ (y : Brought P). gone_spot W b.table.gone y.spot) xs ≡ false
    all_here [] k = refl
    all_here (y ∷ ys) k =
        ap (λ c. c || list_any (λ (z : Brought P). gone_spot W b.table.gone z.spot) ys)
        (spot_here y.spot (spot_good digest shelves sc inputs b a.safe w y.name y.spot k.0).0) ∙ all_here ys k.1

    stack_here : (o : Option (Wait P)) → last_wait task b.table ≡ o → option_map_or (is_gone W b.table.gone) (stack_at o) false ≡ false
    stack_here None e = refl
    stack_here (Some x) e = (wait_in digest shelves sc inputs b a.safe task x e).0.here

    not_stale : is_stale W b.table.gone new ≡ false
    not_stale =
        ap (λ c. c || option_map_or (is_gone W b.table.gone) new.stack false)
        (all_here new.inputs (brought_for b.keys w b.table (held b.main b.table task))) ∙ stack_here (last_wait task b.table) refl

    big : losses_left b.plan.losses b.table.gone * suc (length sending) + stale W b.table.gone sending ≤ losses_left b.plan.losses b.table.gone
        * suc (length slots) + stale W b.table.gone slots
    big =
        let t = count_set (is_stale W b.table.gone) slots w None (Some new) none in
        let z : one_of (is_stale W b.table.gone) (Some new) ≡ 0 = ap one_if not_stale in
        let n : losses_left b.plan.losses b.table.gone * suc (length sending) ≡ losses_left b.plan.losses b.table.gone * suc (length slots) =
        ap (λ m. losses_left b.plan.losses b.table.gone * suc m) (set_long slots w (Some new)) in
        sums (losses_left b.plan.losses b.table.gone * suc (length sending)) (losses_left b.plan.losses b.table.gone * suc (length slots))
        (stale W b.table.gone sending) (stale W b.table.gone slots) (one_of (is_stale W b.table.gone) (Some new)) n z t
      where
        sums : (m n t u c : ℕ) → m ≡ n → c ≡ 0 → t + 0 ≡ u + c → m + t ≤ n + u
        sums m n t u c e z k = omega (arith, e, z, k)

    small : 2 * all_left most_waits (started W b task w) + busy sending < 2 * all_left most_waits b + busy slots
    small =
        let t = count_set (λ y. true) slots w None (Some new) none in
        let l = start_less digest W most_waits b Sb within task w run.not_out run.reached in
        sums (all_left most_waits (started W b task w)) (all_left most_waits b) (busy sending) (busy slots) l t
      where
        sums : (m n t u : ℕ) → m < n → t + 0 ≡ u + 1 → 2 * m + t < 2 * n + u
        sums m n t u l k = omega (arith, l, k)

    pub start_turns : (slice_get slots w ≡ Some None) × Turned digest shelves sc inputs b slots (started W b task w) sending
    start_turns = (
      none,
      record {
        at_work = record {
          going = a.going;
          safe = start_safe digest shelves sc inputs b a.safe task w run idle;
          handed = start_handed b slots a.handed W task w idle;
        };
        less = work_small W most_waits b (started W b task w) slots sending (set_long slots w (Some new)) refl big small;
      },
    )

  -- ---- a slot less

  module _ (w : ℕ) (x : Order P) (i : Has slots w x) where
    abbrev taken : Slots P
    taken = slice_set slots w None

    long : length taken ≡ length slots
    long = set_long slots w None

    less_busy : busy taken < busy slots
    less_busy = let e = count_set (λ z. true) slots w (Some x) None i in omega (arith, e)

    less_stale : (gone : List ℕ) → stale W gone taken ≤ stale W gone slots
    less_stale gone = let e = count_set (is_stale W gone) slots w (Some x) None i in omega (arith, e)

    -- as many losses, and no more stale orders
    same_big : (c : Board P) → c.plan ≡ b.plan → c.table.gone ≡ b.table.gone
        → losses_left c.plan.losses c.table.gone * suc (length taken) + stale W c.table.gone taken ≤ losses_left b.plan.losses b.table.gone
        * suc (length slots) + stale W b.table.gone slots
    same_big c plan gone =
        sums (losses_left c.plan.losses c.table.gone * suc (length taken)) (losses_left b.plan.losses b.table.gone * suc (length slots))
        (stale W c.table.gone taken) (stale W b.table.gone slots)
        (ap (λ (q : Plan). losses_left q.losses c.table.gone * suc (length taken)) plan
        ∙ (ap (λ gs. losses_left b.plan.losses gs * suc (length taken)) gone
        ∙ ap (λ n. losses_left b.plan.losses b.table.gone * suc n) long))
        (subst (λ gs. stale W gs taken ≤ stale W b.table.gone slots) (sym gone) (less_stale b.table.gone))
      where
        sums : (m n t u : ℕ) → m ≡ n → t ≤ u → m + t ≤ n + u
        sums m n t u e k = omega (arith, e, k)

    same_small : (c : Board P) → all_left most_waits c ≤ all_left most_waits b → 2 * all_left most_waits c + busy taken < 2 * all_left most_waits b + busy slots
    same_small c k = sums (all_left most_waits c) (all_left most_waits b) (busy taken) (busy slots) k less_busy
      where
        sums : (m n t u : ℕ) → m ≤ n → t < u → 2 * m + t < 2 * n + u
        sums m n t u k j = omega (arith, k, j)

    pub thrown_turns : find_order x.out.number b.orders ≡ None → Turned digest shelves sc inputs b slots b taken
    thrown_turns nothing =
        record {
          at_work = record {
            going = a.going;
            safe = a.safe;
            handed = thrown_handed b slots a.handed w x i nothing;
          };
          less = work_small W most_waits b b slots taken long refl (same_big b refl refl) (same_small b (omega arith));
        }

    module _ (found : find_order x.out.number b.orders ≡ Some x.out) where
      there : In x.out b.orders
      there = order_in x.out.number b.orders x.out found

      -- ---- something is missing

      spot_stale : (n : Digest) (p : P) (xs : List (Brought P)) → spot_of n xs ≡ Some (shelf p) → is_gone W b.table.gone p ≡ true
          → list_any (λ (y : Brought P). gone_spot W b.table.gone y.spot) xs ≡ true
      spot_stale n p [] e g = cc
      spot_stale n p (y ∷ ys) e g = pick (same_text n y.name) e (spot_stale n p ys)
        where
          here : y.spot ≡ shelf p → gone_spot W b.table.gone y.spot || list_any (λ (z : Brought P). gone_spot W b.table.gone z.spot) ys ≡ true
          here q =
              ap (λ c. c || list_any (λ (z : Brought P). gone_spot W b.table.gone z.spot) ys) (ap (gone_spot W b.table.gone) q ∙ g)

          pick : (c : Bool) → cond c (Some y.spot) (spot_of n ys) ≡ Some (shelf p)
              → (spot_of n ys ≡ Some (shelf p) → is_gone W b.table.gone p ≡ true
              → list_any (λ (z : Brought P). gone_spot W b.table.gone z.spot) ys ≡ true) → gone_spot W b.table.gone y.spot
              || list_any (λ (z : Brought P). gone_spot W b.table.gone z.spot) ys ≡ true
          pick true q k = let z : y.spot ≡ shelf p = cc in here z
          pick false q k = either (gone_spot W b.table.gone y.spot) (k q g)
            where
              either : (c : Bool) → list_any (λ (z : Brought P). gone_spot W b.table.gone z.spot) ys ≡ true → c
                  || list_any (λ (z : Brought P). gone_spot W b.table.gone z.spot) ys ≡ true
              either true t = refl
              either false t = t

      missing_stale : (name : Digest) (loss : ℕ) → MissingFits digest W b x name loss → is_stale W b.table.gone x ≡ true
      missing_stale name loss m = pick m.given
        where
          both : (c d : Bool) → (c ≡ true) ⊎ (d ≡ true) → c || d ≡ true
          both true d q = refl
          both false d (inl q) = cc
          both false d (inr q) = q

          pick : ((spot_of name x.inputs ≡ Some (shelf m.place)) ⊎ ((x.stack ≡ Some m.place) × (name ≡ own_name digest W b.main x.out.task)))
              → is_stale W b.table.gone x ≡ true
          pick (inl e) =
              both (list_any (λ (y : Brought P). gone_spot W b.table.gone y.spot) x.inputs) (option_map_or (is_gone W b.table.gone) x.stack false)
              (inl (spot_stale name m.place x.inputs e m.lost))
          pick (inr e) =
              both (list_any (λ (y : Brought P). gone_spot W b.table.gone y.spot) x.inputs) (option_map_or (is_gone W b.table.gone) x.stack false)
              (inr (ap (λ o. option_map_or (is_gone W b.table.gone) o false) e.0 ∙ m.lost))

      pub missed_turns : (name : Digest) (loss : ℕ) → MissingFits digest W b x name loss
          → Turned digest shelves sc inputs b slots (missed_at digest b x.out name loss) taken
      missed_turns name loss m =
          let e = count_set (is_stale W b.table.gone) slots w (Some x) None i in
          record {
            at_work = record {
              going = a.going;
              safe = safe;
              handed = closed_handed b slots a.handed w x i then refl refl refl there refl;
            };
            less = work_big W most_waits b then slots taken long refl
                (sums (losses_left b.plan.losses b.table.gone * suc (length taken)) (losses_left b.plan.losses b.table.gone * suc (length slots))
                (stale W b.table.gone taken) (stale W b.table.gone slots) (one_of (is_stale W b.table.gone) (Some x))
                (ap (λ n. losses_left b.plan.losses b.table.gone * suc n) long) (ap one_if (missing_stale name loss m)) e)
                (all_most most_waits then safe.sound.room);
          }
        where
          then : Board P
          then = missed_at digest b x.out name loss

          safe : Safe digest shelves sc inputs (missed_at digest b x.out name loss)
          safe =
              report_safe digest shelves sc inputs b a.safe x x.out.number found [] (rep.missing name loss)
              (record {
                fits = record { named = tt; missed = m; learned = λ k. record { inside = tt; tasks = tt; end = tt } };
                safe = record { serves = tt; whole = tt; end = tt };
              }) tt

          sums : (m n t u o : ℕ) → m ≡ n → o ≡ 1 → t + o ≡ u + 0 → m + t < n + u
          sums m n t u o e k j = omega (arith, e, k, j)

      -- ---- a report

      module _ (spawned : List Named) (how : End P) (f : FitsSafely digest shelves sc b x spawned how) (all : AllLearned digest spawned b.table) where
        turned_with : (accepted digest W b x.out spawned how).stopped ≡ false → all_left most_waits (accepted digest W b x.out spawned how) ≤ all_left most_waits b
            → Turned digest shelves sc inputs b slots (accepted digest W b x.out spawned how) taken
        turned_with going m =
            let c = accepted digest W b x.out spawned how in
            let plan = plan_same digest b x.out spawned how in
            let gone = gone_same digest b x.out spawned how in
            record {
              at_work = record {
                going = going;
                safe = report_safe digest shelves sc inputs b a.safe x x.out.number found spawned how f all;
                handed = closed_handed b slots a.handed w x i (accepted digest W b x.out spawned how) plan
                    (starts_same digest b x.out spawned how) gone there (orders_same digest b x.out spawned how);
              };
              less = work_small W most_waits b (accepted digest W b x.out spawned how) slots taken long (limit_same digest b x.out spawned how)
                  (same_big (accepted digest W b x.out spawned how) plan gone) (same_small (accepted digest W b x.out spawned how) m);
            }

      pub report_turns : (spawned : List Named) (how : End P) → FitsSafely digest shelves sc b x spawned how → (IsMissing how → ⊥)
          → AllLearned digest spawned b.table → (accepted digest W b x.out spawned how).stopped ≡ false
          → Turned digest shelves sc inputs b slots (accepted digest W b x.out spawned how) taken
      report_turns spawned (rep.missing name loss) f other all going = absurd (other tt)
      report_turns spawned (rep.saved q) f other all going =
          turned_with spawned (rep.saved q) f all going
          (saved_less digest W most_waits b Sb x.out there spawned (room_all digest spawned b.table all Sb.room) q (f.fits.learned all).end.later)
      report_turns spawned (rep.made ms cs) f other all going =
          turned_with spawned (rep.made ms cs) f all going
          (done_less digest W most_waits b Sb x.out there spawned (room_all digest spawned b.table all Sb.room) ms cs (not_root x.out.task going)
          (rows_live digest shelves sc inputs b a.safe x x.out.number found spawned ms cs f all))
        where
          not_root : (t : TaskId) → is_root t ≡ false → same_id TaskId.Show t ≡ false
          not_root TaskId.Show e = cc
          not_root (TaskId.Of n) e = refl
