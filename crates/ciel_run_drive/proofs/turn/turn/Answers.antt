use Rattle.std.proofs.Common.{IfErr, ap, refl, subst, sym, ◌∙◌, arith, eqb-true}
use Rattle.std.proofs.lemmas.List.{nil_from_length}
use Rattle.ciel_master.specs.Seen.{MasterSeen}
use Rattle.ciel_run_drive.proofs.Names.{some_busy}
use Rattle.ciel_run_drive.proofs.Over.{all_lost}
use Rattle.ciel_run_drive.proofs.ToldLemmas.{none_fades, tells_none}
use Rattle.ciel_run_drive.specs.Kept.{Kept}
use Rattle.ciel_run_drive.specs.Moved.{Ends}
use Rattle.ciel_run_drive.proofs.MovedLemmas.{ends_none}
use Rattle.ciel_run_drive.proofs.turn.turn.Goals as goal

pub returns-then-all_lost-clause-end : goal.returns-then-all_lost-clause-end
returns-then-all_lost-clause-end g c k = all_lost k (c.all_lost.ensures.all c.if-all_lost.true)

pub take_one-requires-clause-some_out : goal.take_one-requires-clause-some_out
take_one-requires-clause-some_out g c =
    let idle = c.in-Ok.idle in
    let none = nil_from_length idle.items (omega (arith, idle.ok.0, eqb-true _ 0 (sym c.is_empty.ensures ∙ c.if-is_empty.true))) in
    some_busy c.requires.working (c.all_lost.ensures.some c.if-all_lost.false) c.in-Ok.ensures.idle none

pub returns-then-is_at_rest-clause-last : goal.returns-then-is_at_rest-clause-last
returns-then-is_at_rest-clause-last g c _ =
    let told = g.C.Crew.told c.args.crew.now in
    tells_none c.args.master.now.board.journal c.count.new.self.board.journal told told
    (ap (λ (m : MasterSeen _). m.board.journal) c.count.ensures.same) (none_fades told)

pub returns-then-all_lost-clause-ends : goal.returns-then-all_lost-clause-ends
returns-then-all_lost-clause-ends g c =
    ends_none g.K.Kit.gives g.N.Namer.digest (g.C.Crew.shop c.args.crew.now) _ g.C.Crew.goes (g.C.Crew.record_of c.args.crew.now)
    c.args.master.now.board c.args.master.now.board.journal refl

pub returns-then-is_at_rest-clause-ends : goal.returns-then-is_at_rest-clause-ends
returns-then-is_at_rest-clause-ends g c =
    let shop = g.C.Crew.shop c.args.crew.now in
    let at = g.C.Crew.record_of c.args.crew.now in
    subst (λ (m : MasterSeen _). Ends g.K.Kit.gives g.N.Namer.digest shop
    (Kept g.K.Kit.gives g.N.Namer.digest shop (g.C.Crew.is_sound c.args.crew.now) m (g.C.Crew.out c.args.crew.now) c.args.state.now) g.C.Crew.goes
    at m.board at c.count.new.self.board.journal c.come_round.result) c.count.ensures.same c.come_round.ensures.ends

pub returns-clause-ends : goal.returns-clause-ends
returns-clause-ends g c =
    let shop = g.C.Crew.shop c.args.crew.now in
    subst (λ (m : MasterSeen _). IfErr c.take_one-2.result (λ e. Ends g.K.Kit.gives g.N.Namer.digest shop
    (Kept g.K.Kit.gives g.N.Namer.digest shop (g.C.Crew.is_sound c.args.crew.now) m (g.C.Crew.out c.args.crew.now) c.args.state.now) g.C.Crew.goes
    (g.C.Crew.record_of c.args.crew.now) m.board (g.C.Crew.record_of c.take_one-2.new.crew) c.take_one-2.new.master.board.journal e))
    c.count.ensures.same c.take_one-2.ensures.ends
