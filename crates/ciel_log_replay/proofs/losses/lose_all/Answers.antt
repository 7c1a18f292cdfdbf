use Rattle.std.proofs.Common.{◌≡◌, [], ◌∷◌, ◌++◌, ap, sym, subst}
use Rattle.ciel_journal.specs.Entries.{Entry}
use Rattle.ciel_log_replay.specs.Between.{job_of}
use Rattle.ciel_log_replay.specs.Steps.{LostBy, loses, stays}
use Rattle.ciel_log_replay.proofs.LostLemmas.{left_by, must_more, none_must}
use Rattle.ciel_master.specs.Seen.{MasterSeen}
use Rattle.ciel_log_replay.proofs.losses.lose_all.Goals as goal

pub losses-init : goal.losses-init
losses-init g c =
    record {
      working = c.requires.working;
      lost = ([], stays);
      model = λ k. k;
      must =
          λ k es e. none_must (job_of g.K.Kit.gives g.N.Namer.digest c.args.shop.now) c.args.master.now.board.plan c.args.master.now.board.journal es e;
    }

pub losses-preserved : goal.losses-preserved
losses-preserved g c =
    let v = c.losses.invariant in
    let n = c.lose_one.ensures in
    let due = n.lost in
    let was = left_by v.lost.1 in
    let entry : Entry = Entry.Lost due.0 c.losses.master.board.closes in
    let now : c.lose_one.new.master.board.journal ≡ c.losses.master.board.journal ++ entry ∷ [] =
    ap (λ (m : MasterSeen _). m.board.journal) due.2 in
    record {
      working = n.working;
      lost = (
        v.lost.0 ++ entry ∷ [],
        subst (LostBy c.args.master.now.board (v.lost.0 ++ entry ∷ [])) (sym (ap (λ (m : MasterSeen _). m.board) due.2))
            (loses c.in-Some.loss due.0 v.lost.1 due.1),
      );
      model = λ k. n.model (v.model k);
      must =
          λ k es e. must_more (job_of g.K.Kit.gives g.N.Namer.digest c.args.shop.now) c.args.master.now.board.plan c.losses.master.board.plan
          c.args.master.now.board.journal c.losses.master.board.journal c.lose_one.new.master.board.journal v.lost.0 entry was.journal now was.plan
          (v.must k v.lost.0 was.journal) (n.must (v.model k) entry now) es e;
    }

pub losses-smaller : goal.losses-smaller
losses-smaller g c = c.lose_one.ensures.less

pub returns-in-None-clause-working : goal.returns-in-None-clause-working
returns-in-None-clause-working g c = c.losses.invariant.working

pub returns-in-None-clause-lost : goal.returns-in-None-clause-lost
returns-in-None-clause-lost g c = c.losses.invariant.lost

pub returns-in-None-clause-model : goal.returns-in-None-clause-model
returns-in-None-clause-model g c = c.losses.invariant.model

pub returns-in-None-clause-must : goal.returns-in-None-clause-must
returns-in-None-clause-must g c = c.losses.invariant.must
