use Rattle.std.proofs.Common.{◌∙◌}
use Rattle.ciel_steal_ready.proofs.ready.other_of.Goals as goal

pub pass-pass-requires : goal.pass-pass-requires
pass-pass-requires g c = g.met.P.Keeps.admits
