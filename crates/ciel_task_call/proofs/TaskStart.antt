-- From the start of its task an order goes on.
use Rattle.std.proofs.Common.{◌≡◌, ℕ, List, [], ◌∷◌, ◌++◌, Option, Some, None, inl, inr, refl, sym, ap, subst, ◌∙◌}
use Rattle.sky_base.specs.Eval.{Body, body_of}
use Rattle.sky_base.specs.Name.{held_name}
use Rattle.sky_base.specs.Names.{known_of}
use Rattle.sky_base.specs.Tree.{Script}
use Rattle.sky_base.specs.Val.{Desc, Pairs, Vals, known, ref, same_text}
use Rattle.sky_base.specs.declared.object.Desc1.{Desc1}
use Rattle.sky_base.specs.declared.object.TaskId.{TaskId}
use Rattle.sky_base.proofs.Exact.{exact_text, self_text}
use Rattle.sky_base_law.specs.Tasks.{Each, In}
use Rattle.sky_base_law.proofs.TaskOutputs.{distinct_in}
use Rattle.ciel_task_call.proofs.Knows.{from_each}
use Rattle.sky_state.specs.Fits.{Fits}
use Rattle.sky_state.specs.Pending.{pending_in, stand_wait}
use Rattle.sky_state.specs.Stand.{Stand}
use Rattle.sky_state.specs.Start.{StartsCall, StartsIn}
use Rattle.sky_state.specs.Stands.{StandsForCall}
use Rattle.ciel_store.specs.Seen.{ShelvesSeen}
use Rattle.ciel_task_order.specs.Orders.{Describes, OfKind, OrderSound, Saved, ShowsMain, names_in}
use Rattle.ciel_task_order.specs.Views.{P}
use Rattle.ciel_task_order.specs.declared.order.Order.{Order}
use Rattle.ciel_task_inputs.specs.JournalWalksLaws.{names_of}
use Rattle.ciel_task_call.specs.Begins.{BeginsAt, CanStartAt, HasState, IsFrom, IsStartOf}

pub in_end : {A : Type 0} (xs : List A) (y : A) → In y (xs ++ y ∷ [])
in_end [] y = inl refl
in_end (x ∷ xs) y = inr (in_end xs y)

pub names_known : (ns : List (List ℕ)) → names_of (known_of ns) ≡ ns
names_known [] = refl
names_known (n ∷ ns) = ap (λ ms. n ∷ ms) (names_known ns)

-- the state of a call at its start
pub starts_call : (sc : Script) (main : List ℕ) (desc : Option Desc1) (d : Desc1) → desc ≡ Some d
    → (f : List ℕ) (c : Pairs (List ℕ)) (vs : Vals (List ℕ)) → d ≡ Desc1.Call f c vs → (s : Stand (List ℕ)) → StartsCall sc f c vs s
    → StandsForCall sc f c vs s → IsStartOf sc main desc s
starts_call sc main desc d some f c vs call s start stands =
    subst (λ z. IsStartOf sc main z s) (sym some) (subst (λ z. IsStartOf sc main (Some z) s) (sym call) (start, stands))

-- what a sound order's task may be started with
pub can_start : (digest : List ℕ → List ℕ) (sc : Script) (given : List (List ℕ)) (task : TaskId) (desc : Option Desc1) → HasState desc
    → Describes digest sc given task desc → CanStartAt sc desc
can_start digest sc given task None h d = tt
can_start digest sc given TaskId.Show (Some (Desc1.Call f c vs)) h d = absurd d
can_start digest sc given (TaskId.Of n) (Some (Desc1.Call f c vs)) h d = d.1
can_start digest sc given task (Some (Desc1.Exec x a n i)) h d = absurd h
can_start digest sc given task (Some (Desc1.Input k)) h d = absurd h

module _ (digest : List ℕ → List ℕ) (shelves : ShelvesSeen) (sc : Script) (inputs : ℕ) (order : Order) (x : Stand (List ℕ)) where
  -- at a start nothing is waited for but the main call, by the root task
  record AtStart (task : TaskId) : Type 0 where
    kind : OfKind task x
    wait : stand_wait x ≡ 0
    pending : Each (λ d. In (held_name d) (names_in order.inputs.items)) (pending_in same_text x)

  call_start : (n : List ℕ) (f : List ℕ) (c : Pairs (List ℕ)) (vs : Vals (List ℕ)) (b : Option Body) → StartsIn b f c vs x → AtStart (TaskId.Of n)
  call_start n f c vs None s = absurd s
  call_start n f c vs (Some b) s = record {
    kind = subst (OfKind (TaskId.Of n)) (sym s) tt;
    wait = ap stand_wait s;
    pending = subst (λ z. Each (λ d. In (held_name d) (names_in order.inputs.items)) (pending_in same_text z)) (sym s) tt;
  }

  one_known : (main : List ℕ) → In main (names_in order.inputs.items) → (d : Desc (List ℕ)) → In d (known main ∷ [])
      → In (held_name d) (names_in order.inputs.items)
  one_known main h d (inl e) = subst (λ z. In (held_name z) (names_in order.inputs.items)) (sym e) h
  one_known main h d (inr i) = absurd i

  starts : (task : TaskId) (desc : Option Desc1) → HasState desc → Describes digest sc (names_in order.inputs.items) task desc
      → ShowsMain order task → IsStartOf sc order.main desc x → AtStart task
  starts TaskId.Show None h d main s = record {
    kind = subst (OfKind TaskId.Show) (sym s.0) tt;
    wait = ap stand_wait s.0;
    pending = subst (λ z. Each (λ d. In (held_name d) (names_in order.inputs.items)) (pending_in same_text z)) (sym s.0)
        (from_each (λ d. In (held_name d) (names_in order.inputs.items)) (pending_in same_text (Stand.show_at (ref (known order.main)) 0))
        (λ e i. one_known order.main main e (distinct_in same_text exact_text self_text (known order.main ∷ []) e i)));
  }
  starts (TaskId.Of n) None h d main s = absurd d
  starts TaskId.Show (Some (Desc1.Call f c vs)) h d main s = absurd d
  starts (TaskId.Of n) (Some (Desc1.Call f c vs)) h d main s = call_start n f c vs (body_of f sc) s.0
  starts task (Some (Desc1.Exec y a n i)) h d main s = absurd h
  starts task (Some (Desc1.Input k)) h d main s = absurd h

  pub start_begins : OrderSound digest shelves sc inputs order → HasState order.desc → order.saved ≡ None → IsStartOf sc order.main order.desc x
      → Fits sc x → BeginsAt sc order x
  start_begins sound state none s fits =
      let saved : Saved shelves sc order None = subst (Saved shelves sc order) none sound.saved in
      let z = starts order.task order.desc state sound.describes saved.1 s in
      record {
        fits = fits;
        kind = z.kind;
        wait = z.wait ∙ sym saved.0;
        pending = z.pending;
        from =
            subst (λ (p : Option P). IsFrom sc order p x) (sym none) s;
      }
