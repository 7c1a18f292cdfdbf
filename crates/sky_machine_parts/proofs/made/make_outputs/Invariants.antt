use Rattle.std.proofs.Common.{◌≡◌, ◌-◌, ◌++◌, map, length}
use Rattle.sky_base.specs.Names.{known_of}
use Rattle.sky_base.specs.View.{view}
use Rattle.sky_base.specs.Res.{tell_all}
use Rattle.sky_base.specs.Eval.{outputs}
use Rattle.sky_machine_entries.specs.Config.{Run}
use Rattle.sky_machine_parts.specs.Made.{whole}
use Rattle.sky_machine_parts.proofs.Told.{named_by}
use Rattle.sky_machine_parts.proofs.made.make_outputs.Given as goal

abbrev pub invariant-loop-index : goal.invariant-loop-index
invariant-loop-index g l = record {
  count : length l.names ≡ l.index;
  told : (r : Run) → whole (g.N.Namer.digest l.ground.namer.now) l.made.items
      (tell_all (outputs l.executor (view l.args) l.n l.index (l.n - l.index)) r)
      ≡ whole (g.N.Namer.digest l.ground.namer.now) l.fn.made.items (tell_all (outputs l.executor (view l.args) l.n 0 l.n) r);
  refs : known_of l.names ++ map (named_by (g.N.Namer.digest l.ground.namer.now)) (outputs l.executor (view l.args) l.n l.index (l.n - l.index))
      ≡ map (named_by (g.N.Namer.digest l.ground.namer.now)) (outputs l.executor (view l.args) l.n 0 l.n);
}
