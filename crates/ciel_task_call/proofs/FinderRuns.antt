-- What the run of an order came to, by what its finder says.
use Rattle.std.proofs.Common.{◌≡◌, ◌<◌, ℕ, List, [], ◌∷◌, length, Result, Ok, Err, IfErr, IfOk, refl, sym, ap, subst, ◌∙◌}
use Rattle.sky_base.specs.Name.{held_name, held_name as name_of_desc}
use Rattle.sky_base.specs.Tree.{Script}
use Rattle.sky_base.specs.Val.{Desc, known, same_text}
use Rattle.sky_base_law.specs.Tasks.{Each, In}
use Rattle.sky_base_law.proofs.TaskOutputs.{in_each}
use Rattle.ciel_task_call.specs.Exactly.{FitsAfter}
use Rattle.ciel_task_call.specs.Knows.{KnowsNames}
use Rattle.ciel_task_call.specs.Onward.{GrewSoundly}
use Rattle.ciel_task_call.specs.Steps.{Spawned}
use Rattle.ciel_task_call.specs.Step.{Step}
use Rattle.sky_state.specs.Pending.{pending_in}
use Rattle.sky_state.specs.Stand.{Stand}
use Rattle.ciel_task_call.specs.Found.{CameFrom, FindsSound, Further, GrewWhole, HasAll, SameKind}
use Rattle.ciel_task_call.specs.Asked.{told_after}
use Rattle.ciel_task_call.specs.Through.{GoesAsking, asked_in}
use Rattle.ciel_journal.proofs.Members.{distinct_none}
use Rattle.ciel_store.specs.Seen.{SeatSeen, ShelvesSeen}
use Rattle.ciel_table.specs.Inside.{IsIndex}
use Rattle.ciel_task_order.specs.Orders.{SpotSound, names_in}
use Rattle.ciel_task_order.specs.declared.block.Held.{Held}
use Rattle.ciel_task_order.specs.declared.order.Order.{Order}
use Rattle.ciel_task_inputs.specs.Brought.{lies_known}
use Rattle.ciel_task_inputs.specs.Copies.{Copies}
use Rattle.ciel_task_inputs.specs.Fetched.{fetched, fetched_after}
use Rattle.ciel_task_call.specs.Finds.{CanBring, IsLost}
use Rattle.ciel_task_call.specs.Stays.{Stays, Tells, tells_next}
use Rattle.ciel_task_call.specs.declared.brought.Lost.{Lost}
use Rattle.ciel_task_call.specs.declared.copied.Copied.{Copied}
use Rattle.ciel_task_call.proofs.FoundInputs.{known_sound, named_there}
use Rattle.ciel_task_inputs.specs.Lies.{held_name as name_of_held}
use Rattle.ciel_task_call.specs.Begins.{BeginsAt}
use Rattle.ciel_task_call.specs.Runs.{CameThrough, WentThrough, brings}

-- the finder of what an order brings along, which is this list
module _ (shelves : ShelvesSeen) (sc : Script) (inputs : List (List ℕ × List ℕ)) (order : Order)
    (spots : Each (λ (h : Held). SpotSound shelves sc (length inputs) h.at) order.inputs.items) (held : List Held)
    (same : held ≡ order.inputs.items) where
  -- finds what is sound
  pub finds_sound : (code : Script) → code ≡ sc → FindsSound (lies_known inputs held) code
  finds_sound code e = subst (FindsSound (lies_known inputs held)) (sym e)
      (subst (λ z. FindsSound (lies_known inputs z) sc) (sym same) (known_sound shelves sc inputs order.inputs.items spots))

  -- and all that its task waits for
  pub all_there : (x : Stand (List ℕ)) → BeginsAt sc order x → HasAll (lies_known inputs held) x
  all_there x b = subst (λ z. HasAll (lies_known inputs z) x) (sym same)
      (λ n i. named_there shelves sc inputs order.inputs.items spots n
      (in_each (λ d. In (held_name d) (names_in order.inputs.items)) (pending_in same_text x) (known n) b.pending i))

  -- it stands where nothing was copied yet
  pub can_bring : (w : ℕ) → w < length shelves.rows → (eye : SeatSeen) → eye.of ≡ shelves.of → (copied : Copied)
      → copied.items.items ≡ [] → IsIndex name_of_held copied.places [] → CanBring shelves w sc inputs held eye copied
  can_bring w worker eye of copied none empty = record {
    spots = subst (Each (λ (h : Held). SpotSound shelves sc (length inputs) h.at)) (sym same) spots;
    eye = of;
    worker = worker;
    copied = record {
      copies = subst (Copies shelves w inputs held) (sym none) (tt, distinct_none same_text);
      places =
          subst (IsIndex name_of_held copied.places) (sym none) empty;
    };
  }

-- what such a finder tells
abbrev pub tells : ℕ → List Held → List Held → Tells
tells w held cs = record { worker = w; held = held; names = names_in cs }

-- after some are asked for it tells the names of what was fetched
fetches : (t : Tells) (ds : List (Desc (List ℕ))) → (told_after tells_next t ds).names ≡ fetched_after t.worker t.held t.names ds
fetches t [] = refl
fetches t (d ∷ ds) = fetches (tells_next t (name_of_desc d)) ds

module _ (digest : List ℕ → List ℕ) (x new : Stand (List ℕ)) (step : Step) (spawned : Spawned) where
  -- the run through what this finder has, for this script, on these shelves
  pub record Gone (sc : Script) (inputs : List (List ℕ × List ℕ)) (held : List Held) (shelves : ShelvesSeen) (w : ℕ) (before : Spawned)
      (was is : List Held) : Type 0 where
    pub last : Tells
    pub named : last.names ≡ names_in is
    pub asks : GoesAsking (lies_known inputs held) digest sc tells_next (tells w held was) last x new step before spawned
    pub fits : FitsAfter sc new step
    pub kind : SameKind x step new
    pub further : Further x step new
    pub sound : GrewSoundly digest sc before spawned
    pub whole : GrewWhole digest before spawned
    pub knows : KnowsNames digest (CameFrom (lies_known inputs held) x) step new before spawned
    pub copies : Copies shelves w inputs held is

  -- nothing was copied or spawned before
  pub came_through : (sc : Script) (inputs : List (List ℕ × List ℕ)) (shelves : ShelvesSeen) (order : Order) (is : List Held)
      → Gone sc inputs order.inputs.items shelves order.worker [] [] is → CameThrough digest shelves sc inputs order x new spawned step is
  came_through sc inputs shelves order is g = record {
    through = g.asks.through;
    fits = g.fits;
    kind = g.kind;
    further = g.further;
    sound = g.sound;
    whole = g.whole;
    knows = g.knows;
    copies = g.copies;
    fetches = sym g.named ∙ (ap (λ (t : Tells). t.names) g.asks.tells
        ∙ fetches (tells order.worker order.inputs.items [])
        (asked_in (brings digest shelves sc inputs order) digest sc x new step [] spawned g.asks.through));
  }

-- of the same eye, with the same copied
pub went_same : (digest : List ℕ → List ℕ) (shelves : ShelvesSeen) (sc : Script) (inputs : List (List ℕ × List ℕ)) (order : Order)
    (x new : Stand (List ℕ)) (spawned : Spawned) (eye now : SeatSeen) (r : Result Step Lost) (is to : List Held) → eye ≡ now → is ≡ to
    → WentThrough digest shelves sc inputs order x new spawned eye r is → WentThrough digest shelves sc inputs order x new spawned now r to
went_same digest shelves sc inputs order x new spawned eye now r is to e c w =
    subst (λ z. WentThrough digest shelves sc inputs order x new spawned z r to) e
    (subst (WentThrough digest shelves sc inputs order x new spawned eye r) c w)

-- what the run says of a finder that is the same
module _ (digest : List ℕ → List ℕ) (shelves : ShelvesSeen) (sc : Script) (inputs : List (List ℕ × List ℕ)) (order : Order)
    (x new : Stand (List ℕ)) (spawned : Spawned) (eye : SeatSeen) (is : List Held) where
  pub passed : (r : Result Step Lost) → (code : Script) → code ≡ sc → (held : List Held) → held ≡ order.inputs.items → (before : Spawned)
      → before ≡ [] → (was : List Held) → was ≡ []
      → (s t : Stays) → s ≡ t → t.shelves ≡ shelves → t.worker ≡ order.worker → t.inputs ≡ inputs → t.held ≡ held
      → Copies s.shelves s.worker s.inputs s.held is
      → IfErr r (λ l. IsLost s.held l.name l.loss eye)
      → IfOk r (λ p. GoesAsking (lies_known inputs held) digest code tells_next (tells order.worker held was) (tells s.worker s.held is) x new p
      before spawned)
      → IfOk r (λ p. FitsAfter code new p) → IfOk r (λ p. SameKind x p new) → IfOk r (λ p. Further x p new)
      → IfOk r (λ p. GrewSoundly digest code before spawned) → IfOk r (λ p. GrewWhole digest before spawned)
      → IfOk r (λ p. KnowsNames digest (CameFrom (lies_known inputs held) x) p new before spawned)
      → WentThrough digest shelves sc inputs order x new spawned eye r is
  passed (Ok p) code c held h before b was w s t e sh wk ins hs copies refusal asks fits kind further sound whole knows =
      let copied : Copies shelves order.worker inputs held is =
      subst (λ z. Copies shelves order.worker inputs z is) hs
      (subst (λ z. Copies shelves order.worker z t.held is) ins
      (subst (λ z. Copies shelves z t.inputs t.held is) wk
      (subst (λ z. Copies z t.worker t.inputs t.held is) sh
      (subst (λ (z : Stays). Copies z.shelves z.worker z.inputs z.held is) e copies)))) in
      let gone : Gone digest x new p spawned code inputs held shelves order.worker before was is =
      record { last = tells s.worker s.held is; named = refl; asks = asks; fits = fits; kind = kind; further = further; sound = sound; whole = whole; knows = knows; copies = copied } in
      came_through digest x new p spawned sc inputs shelves order is
      (subst (λ z. Gone digest x new p spawned z inputs order.inputs.items shelves order.worker [] [] is) c
      (subst (λ z. Gone digest x new p spawned code inputs z shelves order.worker [] [] is) h
      (subst (λ z. Gone digest x new p spawned code inputs held shelves order.worker z [] is) b
      (subst (λ z. Gone digest x new p spawned code inputs held shelves order.worker before z is) w gone))))
  passed (Err l) code c held h before b was w s t e sh wk ins hs copies refusal asks fits kind further sound whole knows =
      subst (λ z. IsLost z l.name l.loss eye) h
      (subst (λ z. IsLost z l.name l.loss eye) hs
      (subst (λ (z : Stays). IsLost z.held l.name l.loss eye) e refusal))
