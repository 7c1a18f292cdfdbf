-- The crew has what was sent so far, and the others can be sent.
use Rattle.std.proofs.Common.{◌≡◌, true}
use Rattle.ciel_journal.specs.Job.{Each}
use Rattle.ciel_log_file.specs.Sending.{CanSend, sent_to}
use Rattle.ciel_run_onward.proofs.Told.{SentSo}
use Rattle.ciel_task_crew.specs.Crews.{Takes}
use Rattle.ciel_run_onward.proofs.gates.send_all.Given as goal

abbrev pub invariant-loop-order : goal.invariant-loop-order
invariant-loop-order g l = record {
  shop : g.C.Crew.shop l.crew ≡ g.C.Crew.shop l.initial.crew;
  sound : g.C.Crew.is_sound l.crew ≡ true;
  takes : Each (Takes g.K.Kit.gives g.N.Namer.digest (g.C.Crew.shop l.crew)) l.order-iterator.rest.items;
  sends : CanSend (g.C.Crew.out l.crew) l.order-iterator.rest.items;
  out : sent_to (g.C.Crew.out l.crew) l.order-iterator.rest.items ≡ sent_to (g.C.Crew.out l.initial.crew) l.fn.orders.items;
  told : SentSo l.fn.orders.items l.order-iterator.rest.items (g.C.Crew.told l.initial.crew) (g.C.Crew.told l.crew);
}
