use Rattle.std.proofs.Common.{◌≡◌, ◌+◌, ◌<◌, ℕ, List, Bool, Some, cond, ap, ◌∙◌, sym, drop, length, nat_eq, slice_index_or}
use Rattle.std.proofs.lemmas.List.{at_drop_more}
use Rattle.std.specs.List.{list_any}
use Rattle.ciel_look_tasks.specs.ObjectPlaces.{first_run, place_run}
use Rattle.ciel_look_tasks.specs.declared.places.Place.{Place}
use Rattle.ciel_look_tasks.proofs.places.first_there.Goals as goal

-- one place on
one_on : (gone : List ℕ) (places : List Place) (i : ℕ) (d : Place) → i < length places
    → first_run gone (drop i places) ≡ cond (list_any (λ worker. nat_eq worker (slice_index_or places i d).worker) gone) (first_run gone (drop (i + 1) places)) (Some (place_run (slice_index_or places i d)))
one_on gone places i d within = at_drop_more (first_run gone) places i d within

pub returns-then-not-contains : goal.returns-then-not-contains
returns-then-not-contains c =
    let i = c.loop-place.place-index in
    let here = one_on c.args.gone.now c.args.places.now i (record { worker = 0; run = 0 }) c.loop-place-test.true in
    let rest = first_run c.args.gone.now (drop (i + 1) c.args.places.now) in
    let run = Some (place_run (slice_index_or c.args.places.now i (record { worker = 0; run = 0 }))) in
    sym (c.loop-place.invariant ∙ here ∙ ap (λ (b : Bool). cond b rest run) (sym c.contains.ensures.value ∙ c.if-not-contains.true))

pub loop-place-preserved : goal.loop-place-preserved
loop-place-preserved c =
    let i = c.loop-place.place-index in
    let here = one_on c.args.gone.now c.args.places.now i (record { worker = 0; run = 0 }) c.loop-place-test.true in
    let rest = first_run c.args.gone.now (drop (i + 1) c.args.places.now) in
    let run = Some (place_run (slice_index_or c.args.places.now i (record { worker = 0; run = 0 }))) in
    c.loop-place.invariant ∙ here ∙ ap (λ (b : Bool). cond b rest run) (sym c.contains.ensures.value ∙ c.if-not-contains.false)
