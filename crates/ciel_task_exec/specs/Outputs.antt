-- The outputs of an executor's task on a worker's shelf.
use Rattle.std.specs.Prelude.{◌≡◌, ℕ, suc, List, [], ◌∷◌, length, map, Result, Some}
use Rattle.sha1.specs.Sha1.{sha1}
use Rattle.ciel_json.specs.Text.{text_of as writes}
use Rattle.sky_base.specs.Name.{digested}
use Rattle.sky_base.specs.Res.{Object}
use Rattle.sky_base.specs.KitView.{Gives}
use Rattle.sky_base.specs.Names.{known_of}
use Rattle.sky_base.specs.ObjectView.{object_view}
use Rattle.sky_base.specs.Val.{Desc, Val, out}
use Rattle.sky_base.specs.declared.object.Object as rust
use Rattle.sky_base.specs.declared.fault.Fault.{Fault}
use Rattle.sky_base_exec.specs.Perform.{made, output_of}
use Rattle.ciel_task_order.specs.Given.{given_for}
use Rattle.ciel_name.specs.Object.{object_bytes}
use Rattle.ciel_store.specs.Seen.{IsPlaceOf, ShelvesSeen}
use Rattle.ciel_task_inputs.specs.Lies.{object_in}
use Rattle.ciel_task_order.specs.declared.report.Made.{Made}

module _ (digest : List ℕ → List ℕ) (shelves : ShelvesSeen) (w : ℕ) where
  -- what was made for this description, whose object is this: its name, its place on the worker's shelf, and the object's mark
  pub record IsMade (d : Desc (List ℕ)) (o : Object (List ℕ)) (m : Made) : Type 0 where
    pub name : m.name ≡ digested digest d
    pub place : IsPlaceOf shelves m.place
    pub worker : m.place.worker ≡ w
    pub object : object_in m.place.at.value ≡ Some o
    pub mark : m.mark ≡ sha1 (object_bytes o)

  -- these are outputs of a task from output i on
  abbrev pub OutputsFrom : List ℕ → Val (List ℕ) → ℕ → Result (List (List ℕ)) Fault → ℕ → List Made → Type 0
  OutputsFrom x a n made i [] = Unit {0}
  OutputsFrom x a n made i (m ∷ ms) = IsMade (out x a n i) (output_of made i) m × OutputsFrom x a n made (suc i) ms

  -- all outputs, in order
  abbrev pub AreOutputs : List ℕ → Val (List ℕ) → ℕ → Result (List (List ℕ)) Fault → List Made → Type 0
  AreOutputs x a n made ms = (length ms ≡ n) × OutputsFrom x a n made 0 ms
