use Rattle.std.proofs.Common.{refl, subst, ◌∙◌}
use Rattle.ciel_run_drive.proofs.Over.{ended_on}
use Rattle.ciel_run_drive.proofs.ToldLemmas.{none_fades, tells_both, tells_none}
use Rattle.ciel_task_order.specs.declared.shop.Shop.{Shop}
use Rattle.ciel_run_drive.specs.Moved.{Does, Ends}
use Rattle.ciel_run_drive.specs.Kept.{Kept}
use Rattle.ciel_run_drive.proofs.MovedLemmas.{does_both, does_none, does_under, ends_after, ends_under}
use Rattle.ciel_run_drive.proofs.drive.drive.Goals as goal

pub run-init : goal.run-init
run-init g c =
    let told = g.C.Crew.told c.args.crew.now in
    let journal = c.args.master.now.board.journal in
    record {
      working = c.requires.working;
      model = λ k. k;
      plan = refl;
      shop = refl;
      stays = refl;
      told = tells_none journal journal told told refl (none_fades told);
      does =
          does_none g.K.Kit.gives g.N.Namer.digest (g.C.Crew.shop c.args.crew.now) _ g.C.Crew.goes (g.C.Crew.record_of c.args.crew.now)
          c.args.master.now.board;
    }

pub run-preserved : goal.run-preserved
run-preserved g c =
    let v = c.run.invariant in
    let n = c.in-Ok.ensures in
    record {
      working = n.working;
      model = λ k. n.model (v.model k);
      plan = n.plan ∙ v.plan;
      shop = n.shop ∙ v.shop;
      stays = n.stays ∙ v.stays;
      told =
          tells_both c.args.master.now.board.journal c.run.master.board.journal c.turn.new.master.board.journal (g.C.Crew.told c.args.crew.now)
          (g.C.Crew.told c.run.crew) (g.C.Crew.told c.turn.new.crew) v.told n.told;
      does =
          does_both g.K.Kit.gives g.N.Namer.digest (g.C.Crew.shop c.args.crew.now) _ g.C.Crew.goes v.does
          (does_under g.K.Kit.gives g.N.Namer.digest (g.C.Crew.shop c.args.crew.now) v.model g.C.Crew.goes
          (subst (λ (a : Shop _ _). Does g.K.Kit.gives g.N.Namer.digest a (Kept g.K.Kit.gives g.N.Namer.digest (g.C.Crew.shop c.run.crew)
          (g.C.Crew.is_sound c.run.crew) c.run.master (g.C.Crew.out c.run.crew) c.run.state) g.C.Crew.goes (g.C.Crew.record_of c.run.crew)
          c.run.master.board (g.C.Crew.record_of c.turn.new.crew) c.turn.new.master.board) v.shop n.does));
    }

pub run-smaller : goal.run-smaller
run-smaller g c = c.in-Ok.ensures.less

pub returns-in-Err-clause-end : goal.returns-in-Err-clause-end
returns-in-Err-clause-end g c k =
    let v = c.run.invariant in
    ended_on g.K.Kit.gives g.N.Namer.digest c.turn.new.master.board.journal c.in-Err.end v.shop v.plan (c.in-Err.ensures.end (v.model k))

pub returns-in-Err-clause-told : goal.returns-in-Err-clause-told
returns-in-Err-clause-told g c n =
    let v = c.run.invariant in
    tells_both c.args.master.now.board.journal c.run.master.board.journal c.turn.new.master.board.journal (g.C.Crew.told c.args.crew.now)
    (g.C.Crew.told c.run.crew) (g.C.Crew.told c.turn.new.crew) v.told (c.in-Err.ensures.last n)

pub returns-in-Err-clause-calls : goal.returns-in-Err-clause-calls
returns-in-Err-clause-calls g c =
    let v = c.run.invariant in
    ends_after g.K.Kit.gives g.N.Namer.digest (g.C.Crew.shop c.args.crew.now) _ g.C.Crew.goes (g.C.Crew.record_of c.args.crew.now)
    c.args.master.now.board (g.C.Crew.record_of c.run.crew) c.run.master.board (g.C.Crew.record_of c.turn.new.crew)
    c.turn.new.master.board.journal v.does c.in-Err.end
    (ends_under g.K.Kit.gives g.N.Namer.digest (g.C.Crew.shop c.args.crew.now) v.model g.C.Crew.goes (g.C.Crew.record_of c.run.crew)
    c.run.master.board (g.C.Crew.record_of c.turn.new.crew) c.turn.new.master.board.journal c.in-Err.end
    (subst (λ (a : Shop _ _). Ends g.K.Kit.gives g.N.Namer.digest a (Kept g.K.Kit.gives g.N.Namer.digest (g.C.Crew.shop c.run.crew)
    (g.C.Crew.is_sound c.run.crew) c.run.master (g.C.Crew.out c.run.crew) c.run.state) g.C.Crew.goes (g.C.Crew.record_of c.run.crew)
    c.run.master.board (g.C.Crew.record_of c.turn.new.crew) c.turn.new.master.board.journal c.in-Err.end) v.shop c.in-Err.ensures.ends))
