use Rattle.std.proofs.Common.{map}
use Rattle.sky_base.specs.ObjectView.{object_view}
use Rattle.sky_base.specs.View.{view}
use Rattle.sky_machine_show.proofs.Nexts.{fits_came}
use Rattle.sky_machine_show.proofs.Stage.{shows_came}
use Rattle.sky_machine_show.proofs.show.go_on.Goals as goal

pub returns : goal.returns
returns c =
    record {
      comes = c.in_ok-came.ensures;
      stands = shows_came (view c.args.value.now) c.args.wave (map object_view c.args.answers.now) c.in_ok-came.came c.in_ok-came.ensures;
      fits = fits_came (map object_view c.args.answers.now) (view c.args.value.now) c.args.wave c.in_ok-came.came c.in_ok-came.ensures;
    }
