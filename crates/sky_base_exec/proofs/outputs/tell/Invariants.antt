use Rattle.sky_base.specs.View.{view}
use Rattle.sky_base_exec.specs.Perform.{listed}
use Rattle.sky_base_exec.specs.Outputs.{Keeps, InRoom, OnlyOutputs, KnownOutputs}
use Rattle.sky_base_exec.proofs.outputs.tell.Given as goal

abbrev pub invariant-loop-index : goal.invariant-loop-index
invariant-loop-index l = record {
  kept : Keeps l.fn.objects l.objects;
  only : OnlyOutputs l.rows l.executor (view l.args) l.outputs (listed l.made) l.index l.fn.objects l.objects;
  known : KnownOutputs l.rows l.executor (view l.args) l.outputs l.index l.objects;
  room : InRoom l.rows l.fn.objects l.objects;
}
