use Rattle.std.proofs.Common.{ap, ◌∙◌, ◌++◌, ◌∷◌, [], Some}
use Rattle.ciel_crew_lanes.specs.Seen.{known, DeskSeen}
use Rattle.ciel_crew_lanes.proofs.DeskSteps.{none_out, seen_put, is_put}
use Rattle.ciel_crew_lanes.proofs.desk.Desk.put.Goals as goal

pub send-requires-clause-may : goal.send-requires-clause-may
send-requires-clause-may g c =
    let n = none_out (known c.self.inside.pass) c.self.invariant.2 (ap (λ x. x.out) c.self.view_is ∙ c.requires.none) in
    (c.self.invariant.2.0, n, c.requires.takes)

pub invariant_of-self : goal.invariant_of-self
invariant_of-self g c =
    let n = none_out (known c.self.inside.pass) c.self.invariant.2 (ap (λ x. x.out) c.self.view_is ∙ c.requires.none) in (
      c.send.ensures.seat,
      c.self.invariant.1,
      is_put (known c.self.inside.pass) (known c.send.new.pass) c.args.job c.self.invariant.2.0 n
          c.send.ensures.put,
    )

pub returns : goal.returns
returns g c =
    let n = none_out (known c.self.inside.pass) c.self.invariant.2 (ap (λ x. x.out) c.self.view_is ∙ c.requires.none) in record {
      put = seen_put (known c.self.inside.pass) (known c.send.new.pass) c.args.job n c.send.ensures.put
          ∙ ap (λ (x : DeskSeen g.row.W-In.Denot). record { put = x.put ++ c.args.job ∷ []; out = Some c.args.job; back = x.back }) c.self.view_is;
    }
