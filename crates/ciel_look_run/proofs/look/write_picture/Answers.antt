-- The picture was put, or a first part of it.
use Rattle.std.proofs.Common.{sym, subst}
use Rattle.ciel_look_sheet.specs.Picture.{IsPicture}
use Rattle.ciel_look_run.specs.Ends.{IsOf}
use Rattle.ciel_look_run.specs.Line as seen
use Rattle.ciel_look_tasks.specs.SceneView.{scene_view}
use Rattle.ciel_look_tasks.specs.View.{ids}
use Rattle.ciel_look_run.proofs.EndLemmas.{put_ends, put_wrote}
use Rattle.ciel_look_run.proofs.look.write_picture.Goals as goal

pub returns-clause-ends : goal.returns-clause-ends
returns-clause-ends g c = put_ends _ _ _ _ (ids c.args.scene.now.roll.tasks.items) seen.picture c.as_slice.result.now tt c.put.result c.put.ensures.put

pub returns-clause-wrote : goal.returns-clause-wrote
returns-clause-wrote g c =
    put_wrote _ _ _ _ seen.picture (IsOf seen.picture (scene_view c.args.scene.now)) c.as_slice.result.now
    (subst IsPicture (sym c.as_slice.ensures.value) c.in-Ok.ensures.picture)
    (subst (IsOf seen.picture (scene_view c.args.scene.now)) (sym c.as_slice.ensures.value) c.in-Ok.ensures.shows) c.put.result c.put.ensures.put
