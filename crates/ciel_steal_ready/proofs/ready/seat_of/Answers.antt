use Rattle.std.proofs.Common.{◌∙◌}
use Rattle.ciel_steal_ready.proofs.Tallying.{fresh}
use Rattle.ciel_steal_ready.proofs.ready.seat_of.Goals as goal

pub pass-pass-requires : goal.pass-pass-requires
pass-pass-requires g c = g.met.P.Keeps.admits

pub invariant_of-result : goal.invariant_of-result
invariant_of-result g c = fresh _ _ c.args.owned.fresh (c.pass-pass.ensures.1 ∙ g.met.P.Keeps.guest_is) c.args.row.fresh c.in_ok-log.ensures
