-- What a run came to, as a report tells it.
use Rattle.std.proofs.Common.{◌≡◌, ℕ, List, [], sym, ap, subst, ◌∙◌}
use Rattle.sky_base.specs.Tree.{Script}
use Rattle.sky_base.specs.Val.{Desc, same_text}
use Rattle.sky_base.specs.declared.object.TaskId.{TaskId}
use Rattle.ciel_task_call.specs.Steps.{Spawned}
use Rattle.ciel_task_call.specs.Step.{Step}
use Rattle.sky_state.specs.Stand.{Stand}
use Rattle.ciel_task_call.specs.Found.{SameKind}
use Rattle.ciel_task_call.specs.Through.{asked_in}
use Rattle.ciel_journal.proofs.Members.{distinct_none}
use Rattle.ciel_master_board.specs.Sound.{own_name}
use Rattle.ciel_store.specs.Seen.{SeatSeen, ShelvesSeen}
use Rattle.ciel_store.specs.declared.loss.Loss.{Loss}
use Rattle.ciel_task_order.specs.Orders.{OfKind, names_in}
use Rattle.ciel_task_order.specs.Views.{P}
use Rattle.ciel_task_order.specs.declared.block.Held.{Held}
use Rattle.ciel_task_order.specs.declared.order.Order.{Order}
use Rattle.ciel_task_order.specs.declared.report.End.{End}
use Rattle.ciel_task_order.specs.declared.report.Report.{Report}
use Rattle.ciel_task_inputs.specs.Copies.{Copies}
use Rattle.ciel_task_inputs.specs.Fetched.{TellsFetched, fetched}
use Rattle.ciel_task_call.specs.Finds.{IsLost}
use Rattle.ciel_task_call.specs.Begins.{BeginsAt, StackIsLost}
use Rattle.ciel_task_call.specs.Ends.{CameSo, EndIs, StepOf, TellsMissing, told_copies}
use Rattle.ciel_task_call.specs.Runs.{CameThrough, Ran, Went, brings, lost, spawned_in, stack}

-- a call comes to an object, the root task to an answer
pub step_kind : (task : TaskId) (x new : Stand (List ℕ)) (step : Step) → OfKind task x → SameKind x step new → StepOf task step
step_kind TaskId.Show (Stand.show_at u i) new (Step.Ended o) k s = absurd s
step_kind TaskId.Show (Stand.run q) new step k s = absurd k
step_kind TaskId.Show (Stand.show_at u i) new Step.Waits k s = tt
step_kind TaskId.Show (Stand.show_at u i) new (Step.Shown a) k s = tt
step_kind (TaskId.Of n) (Stand.run q) new (Step.Shown a) k s = absurd s
step_kind (TaskId.Of n) (Stand.show_at u i) new step k s = absurd k
step_kind (TaskId.Of n) (Stand.run q) new (Step.Ended o) k s = tt
step_kind (TaskId.Of n) (Stand.run q) new Step.Waits k s = tt

module _ (digest : List ℕ → List ℕ) (shelves : ShelvesSeen) (sc : Script) (inputs : List (List ℕ × List ℕ)) (order : Order)
    (x new : Stand (List ℕ)) (r : Report) where
  -- what is told of what was copied lies on the own shelf too
  told : (step : Step) (cs : List Held) → Copies shelves order.worker inputs order.inputs.items cs
      → Copies shelves order.worker inputs order.inputs.items (told_copies step cs)
  told (Step.Ended o) cs c = c
  told Step.Waits cs c = (tt, distinct_none same_text)
  told (Step.Shown a) cs c = c

  -- it is just what was fetched
  fetched_told : (task : TaskId) (step : Step) (e : End) (ds : List (Desc (List ℕ))) (cs ks : List Held) → EndIs shelves order.worker task step new e
      → ks ≡ told_copies step cs → names_in cs ≡ fetched order.worker order.inputs.items ds → TellsFetched order.worker order.inputs.items ds e ks
  fetched_told task (Step.Ended o) (End.Made ms) ds cs ks is e f = ap names_in e ∙ f
  fetched_told task Step.Waits (End.Saved p j refs holds mark) ds cs ks is e f = e
  fetched_told TaskId.Show (Step.Shown a) (End.Shown b) ds cs ks is e f = ap names_in e ∙ f
  fetched_told (TaskId.Of n) (Step.Shown a) (End.Shown b) ds cs ks is e f = ap names_in e ∙ f
  fetched_told task (Step.Ended o) (End.Saved p j refs holds mark) ds cs ks is e f = absurd is
  fetched_told task (Step.Ended o) (End.Shown b) ds cs ks is e f = absurd is
  fetched_told task (Step.Ended o) (End.Missing n l s) ds cs ks is e f = absurd is
  fetched_told task Step.Waits (End.Made ms) ds cs ks is e f = absurd is
  fetched_told task Step.Waits (End.Shown b) ds cs ks is e f = absurd is
  fetched_told task Step.Waits (End.Missing n l s) ds cs ks is e f = absurd is
  fetched_told task (Step.Shown a) (End.Made ms) ds cs ks is e f = absurd is
  fetched_told task (Step.Shown a) (End.Saved p j refs holds mark) ds cs ks is e f = absurd is
  fetched_told task (Step.Shown a) (End.Missing n l s) ds cs ks is e f = absurd is

  pub went_of : (step : Step) (spawned : Spawned) (cs : List Held) → CameThrough digest shelves sc inputs order x new spawned step cs
      → CameSo shelves order step new spawned cs r → Went digest shelves sc inputs order x r
  went_of step spawned cs came so = go (subst (λ z. CameThrough digest shelves sc inputs order x new z step cs) (sym so.spawned) came)
    where
      go : CameThrough digest shelves sc inputs order x new (spawned_in digest shelves sc inputs order r) step cs
          → Went digest shelves sc inputs order x r
      go c =
          record {
            step = step;
            new = new;
            of = so.of;
            through = c.through;
            fits = c.fits;
            kind = c.kind;
            sound = c.sound;
            whole = c.whole;
            knows = c.knows;
            further = c.further;
            typed = so.typed;
            end = so.end;
            copies = subst (Copies shelves order.worker inputs order.inputs.items) (sym so.copied) (told step cs c.copies);
            tells = fetched_told order.task step r.end
                (asked_in (brings digest shelves sc inputs order) digest sc x new step [] (spawned_in digest shelves sc inputs order r) c.through)
                cs r.copied.items so.end so.copied c.fetches;
          }

-- ---- something was lost

module _ (digest : List ℕ → List ℕ) (shelves : ShelvesSeen) (sc : Script) (inputs : List (List ℕ × List ℕ)) (order : Order) (r : Report)
    (loss : Loss) (old now : SeatSeen) (same : now ≡ old) where
  -- what the order has of a name
  pub ran_lost : (x : Stand (List ℕ)) → BeginsAt sc order x → (name : List ℕ) → IsLost order.inputs.items name loss old
      → TellsMissing order name loss old r → Ran digest shelves sc inputs order now r
  ran_lost x b name l told = subst (λ z. Ran digest shelves sc inputs order z r) (sym same) (lost x b name loss l told)

  -- or its stack
  pub ran_stack : (name : List ℕ) → name ≡ own_name digest (λ (p : P). p.worker) order.main order.task → StackIsLost order loss old
      → TellsMissing order name loss old r → Ran digest shelves sc inputs order now r
  ran_stack name e l told = subst (λ z. Ran digest shelves sc inputs order z r) (sym same)
      (stack loss l (subst (λ n. TellsMissing order n loss old r) e told))
