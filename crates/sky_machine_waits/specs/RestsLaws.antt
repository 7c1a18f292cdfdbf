-- What a stack that fits comes to where its wait has ended.
use Rattle.std.specs.Prelude.{◌≡◌, ℕ, List, Some}
use Rattle.sky_base.specs.Res.{End, St, Entry, Fin}
use Rattle.sky_base.specs.Eval.{World, body_of, plug}
use Rattle.sky_base.specs.Read.{Halt, first_halt}
use Rattle.sky_base_law.specs.Nodes.{node_at}
use Rattle.sky_state.specs.Chained.{body_places, Chained, AllOpened}
use Rattle.sky_machine_waits.specs.Taken.{AllTaken}

module _ (w : World (List ℕ)) where
  -- forms under way that follow each other as a saved stack does, from the block of a function's body on
  abbrev pub Follow : List ℕ → List (Entry (List ℕ)) → Type 0
  Follow f fr = Chained w.script (λ i. node_at w.script i) (body_places (body_of f w.script)) fr

-- where such forms, each opened by what is saved of it, go on from any end of their innermost part, those at the next wait follow
-- each other so too
abbrev pub RestFollows : Type 0
RestFollows =
    (w : World (List ℕ)) (d : ℕ) (f : List ℕ) (fr : List (Entry (List ℕ))) (e : End (List ℕ)) (st : St (List ℕ)) (h : Halt (List ℕ))
    → Follow w f fr → AllOpened (λ i. node_at w.script i) fr → first_halt (plug w d fr (Fin e st)) ≡ Some h → Follow w f h.forms

-- where such forms go on, no `for` of theirs and none at the next wait has taken more elements than its list has
abbrev pub RestTakes : Type 0
RestTakes =
    (w : World (List ℕ)) (d : ℕ) (f : List ℕ) (fr : List (Entry (List ℕ))) (e : End (List ℕ)) (st : St (List ℕ)) (h : Halt (List ℕ))
    → Follow w f fr → AllOpened (λ i. node_at w.script i) fr → first_halt (plug w d fr (Fin e st)) ≡ Some h → AllTaken fr × AllTaken h.forms
