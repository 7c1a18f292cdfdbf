-- The first, if there is one.
use Rattle.std.proofs.Common.{None, Some, ◌∷◌, ◌++◌, [], ap, slice_get, ◌∙◌}
use Rattle.ciel_look_tasks.proofs.KnownSteps.{get_is}
use Rattle.ciel_look_text.proofs.Replaying.{first_none, first_of}
use Rattle.ciel_look_text.proofs.replay.first_known.Goals as goal

pub returns-in_ok-push-in-Some : goal.returns-in_ok-push-in-Some
returns-in_ok-push-in-Some c =
    let ks = c.args.scene.now.known.all.items in
    let there = get_is c.deref.result.now 0 (Some c.in-Some.main) c.in-Some.ensures.lookup ∙ ap (λ xs. slice_get xs 0) c.deref.ensures.value in
    record {
      names = c.in_ok-push-in-Some.ensures.pushed ∙ ap (λ ns. ns ++ c.in-Some.main.now.name ∷ []) c.new-names.ensures.items
          ∙ first_of ks c.in-Some.main.now there;
    }

pub returns-in-None : goal.returns-in-None
returns-in-None c =
    let ks = c.args.scene.now.known.all.items in
    let there = get_is c.deref.result.now 0 None c.in-None.ensures.lookup ∙ ap (λ xs. slice_get xs 0) c.deref.ensures.value in
    record { names = c.new-names.ensures.items ∙ first_none ks there }
