-- What was read has a story, or the cause is told.
use Rattle.std.proofs.Common.{◌≡◌, ap, map, sym, ◌∙◌, subst, IfSome, Option, Err, List, ℕ}
use Rattle.ciel_look_told.specs.Head.{Head}
use Rattle.ciel_look_told.specs.Told.{Told}
use Rattle.ciel_look_told.specs.View.{head_view, told_view}
use Rattle.ciel_look_story.specs.Story.{Tells}
use Rattle.ciel_look_tasks.specs.Seen.{IsSeenOf}
use Rattle.ciel_look_tasks.specs.SceneView.{scene_view}
use Rattle.ciel_look_run.proofs.SceneParts.{scene_told}
use Rattle.ciel_look_run.proofs.EndLemmas.{of_file, unread, unread_writes_nothing, untold, untold_writes_nothing}
use Rattle.ciel_look_run.proofs.look.read_scene.Goals as goal

pub returns-in-Err-clause-refused : goal.returns-in-Err-clause-refused
returns-in-Err-clause-refused g c =
    λ asked. unread _ _ _ c.args.path.now asked c.in-Err.refusal c.why_unread.result (λ e. c.read.ensures.cause (c.in-Err.is ∙ ap Err e))
    c.in-Err.ensures.too_long c.in-Err.ensures.beyond c.why_unread.ensures

pub returns-in-Err-clause-unwritten : goal.returns-in-Err-clause-unwritten
returns-in-Err-clause-unwritten g c = unread_writes_nothing c.args.path.now c.in-Err.refusal c.why_unread.result c.why_unread.ensures

pub returns-in-Err-read_story-clause-refused : goal.returns-in-Err-read_story-clause-refused
returns-in-Err-read_story-clause-refused g c =
    let content : Option (List ℕ) = g.F.Files.content c.args.files.now c.args.path.now in
    let found : IfSome content (λ file. c.as_slice.result.now ≡ file) =
    subst (λ b. IfSome content (λ file. b ≡ file)) (sym c.as_slice.ensures) c.in-Ok.ensures.found in
    λ asked. untold content _ _ c.args.path.now asked c.in-Err-read_story.refusal c.why_untold.result c.as_slice.result.now found
    c.in-Err-read_story.ensures.refused c.why_untold.ensures

pub returns-in-Err-read_story-clause-unwritten : goal.returns-in-Err-read_story-clause-unwritten
returns-in-Err-read_story-clause-unwritten g c =
    untold_writes_nothing c.args.path.now c.in-Err-read_story.refusal c.why_untold.result c.why_untold.ensures

pub returns-in-Ok-scene_of-clause-story : goal.returns-in-Ok-scene_of-clause-story
returns-in-Ok-scene_of-clause-story g c =
    let s = c.in-Ok-read_story.story in
    let told : List Told = map told_view s.told.items in
    let content : Option (List ℕ) = g.F.Files.content c.args.files.now c.args.path.now in
    let found : IfSome content (λ file. c.as_slice.result.now ≡ file) =
    subst (λ b. IfSome content (λ file. b ≡ file)) (sym c.as_slice.ensures) c.in-Ok.ensures.found in
    let same : IsSeenOf (head_view s.header) told (scene_view c.in-Ok-scene_of.scene) =
    scene_told c.in-Ok-scene_of.scene (head_view s.header) told c.in-Ok-scene_of.ensures.tasks
    c.in-Ok-scene_of.ensures.descs c.in-Ok-scene_of.ensures.rows
    c.in-Ok-scene_of.ensures.starts c.in-Ok-scene_of.ensures.agains c.in-Ok-scene_of.ensures.orders c.in-Ok-scene_of.ensures.took c.in-Ok-scene_of.ensures.outputs
    c.in-Ok-scene_of.ensures.losses c.in-Ok-scene_of.ensures.cuts c.in-Ok-scene_of.ensures.stacked c.in-Ok-scene_of.ensures.stacks
    c.in-Ok-scene_of.ensures.objects
    c.in-Ok-scene_of.ensures.known c.in-Ok-scene_of.ensures.made c.in-Ok-scene_of.ensures.happened in
    of_file content c.as_slice.result.now
    (λ log. (head : Head) × (ts : List Told) × Tells log head ts × IsSeenOf head ts (scene_view c.in-Ok-scene_of.scene))
    found (head_view s.header, told, c.in-Ok-read_story.ensures.told, same)
