use Rattle.std.proofs.Common.{◌≡◌, ◌≤◌, ℕ, ◌+◌, List, length}
use Rattle.sky_base.specs.Res.{visits, others}
use Rattle.sky_base.specs.Eval.{World}
use Rattle.sky_base_law.specs.Nodes.{pre_script}
use Rattle.sky_machine_entries.specs.Config.{config, opened}
use Rattle.sky_machine_entries.specs.Entries.{forms}
use Rattle.sky_machine_entries.specs.Falls.{work}
use Rattle.sky_machine_entries.specs.Ready.{AllReady, Goes}
use Rattle.sky_machine_parts.specs.Made.{whole, RunsOn}
use Rattle.sky_machine_loop.proofs.run.run_on.Given as goal

abbrev pub invariant-steps : goal.invariant-steps
invariant-steps g l = record {
  same : (w : World (List ℕ)) → RunsOn w l.ground.code.now (g.N.Namer.digest l.ground.namer.now)
      → whole (g.N.Namer.digest l.ground.namer.now) l.made.items (config w l.entries.items l.control l.state)
      ≡ whole (g.N.Namer.digest l.ground.namer.now) l.fn.made.items (config w l.fn.entries.items l.fn.control l.fn.state);
  ready : AllReady l.ground.code.now l.entries.items;
  goes : Goes l.ground.code.now l.control;
  room : opened (forms l.entries.items) + l.left ≡ others;
  within : l.state.count ≤ visits;
}

abbrev pub decreases-steps : goal.decreases-steps
decreases-steps g l = work (length (pre_script l.ground.code.now)) l.entries.items l.control l.state.count
