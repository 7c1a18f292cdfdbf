-- Each order that is sent is one more that the crew has, and one less that is left.
use Rattle.std.proofs.Common.{◌≡◌, ◌∙◌, List, ap, length, refl, subst, sym}
use Rattle.ciel_journal.specs.Job.{Each}
use Rattle.ciel_log_file.specs.Sending.{CanSend, sent_to}
use Rattle.ciel_run_onward.proofs.Told.{SentSo, all_sent, none_left, none_sent, one_sent}
use Rattle.ciel_task_crew.specs.Crews.{Takes}
use Rattle.ciel_task_order.specs.declared.order.Order.{Order}
use Rattle.ciel_run_onward.proofs.gates.send_all.Goals as goal

pub loop-order-init : goal.loop-order-init
loop-order-init g c =
    let all = c.into_iter-order-iterator.ensures.into_iter_gives.0 in
    let crew = c.args.crew.now in
    record {
      shop = refl;
      sound = c.requires.sound;
      takes = subst (Each (Takes g.K.Kit.gives g.N.Namer.digest (g.C.Crew.shop crew))) (sym all) c.requires.takes;
      sends = subst (CanSend (g.C.Crew.out crew)) (sym all) c.requires.sends;
      out = ap (sent_to (g.C.Crew.out crew)) all;
      told = subst (λ (r : List Order). SentSo c.args.orders.items r (g.C.Crew.told crew) (g.C.Crew.told crew)) (sym all)
          (none_sent c.args.orders.items (g.C.Crew.told crew));
    }

pub send-requires-clause-worker : goal.send-requires-clause-worker
send-requires-clause-worker g c = (subst (CanSend (g.C.Crew.out c.loop-order.crew)) c.in-Some.ensures.steps.0 c.loop-order.invariant.sends).0

pub send-requires-clause-free : goal.send-requires-clause-free
send-requires-clause-free g c = (subst (CanSend (g.C.Crew.out c.loop-order.crew)) c.in-Some.ensures.steps.0 c.loop-order.invariant.sends).1

pub send-requires-clause-takes : goal.send-requires-clause-takes
send-requires-clause-takes g c =
    (subst (Each (Takes g.K.Kit.gives g.N.Namer.digest (g.C.Crew.shop c.loop-order.crew))) c.in-Some.ensures.steps.0 c.loop-order.invariant.takes).0

pub loop-order-preserved : goal.loop-order-preserved
loop-order-preserved g c =
    let i = c.loop-order.invariant in
    let s = c.in-Some.ensures.steps.0 in
    let rest = c.next.new.self.rest.items in
    let takes = subst (Each (Takes g.K.Kit.gives g.N.Namer.digest (g.C.Crew.shop c.loop-order.crew))) s i.takes in
    let sends = subst (CanSend (g.C.Crew.out c.loop-order.crew)) s i.sends in
    record {
      shop = c.send.ensures.shop ∙ i.shop;
      sound = c.in_ok-send.ensures.sound;
      takes = subst (λ x. Each (Takes g.K.Kit.gives g.N.Namer.digest x) rest) (sym c.send.ensures.shop) takes.1;
      sends = subst (λ o. CanSend o rest) (sym c.in_ok-send.ensures.out) sends.2;
      out =
          ap (λ o. sent_to o rest) c.in_ok-send.ensures.out ∙ sym (ap (sent_to (g.C.Crew.out c.loop-order.crew)) s) ∙ i.out;
      told = one_sent c.args.orders.items c.loop-order.order-iterator.rest.items rest c.in-Some.order (g.C.Crew.told c.args.crew.now)
          (g.C.Crew.told c.loop-order.crew) (g.C.Crew.told c.send.new.self) s i.told c.in_ok-send.ensures.told;
    }

pub returns-clause-out : goal.returns-clause-out
returns-clause-out g c =
    let none : length c.loop-order.order-iterator.rest.items ≡ 0 = sym c.loop-order.order-iterator.rest.ok.0 ∙ c.in-None.ensures.steps.0 in
    subst (λ (r : List Order). sent_to (g.C.Crew.out c.loop-order.crew) r ≡ sent_to (g.C.Crew.out c.args.crew.now) c.args.orders.items)
    (none_left c.loop-order.order-iterator.rest.items none) c.loop-order.invariant.out

pub returns-clause-told : goal.returns-clause-told
returns-clause-told g c =
    let none : length c.loop-order.order-iterator.rest.items ≡ 0 = sym c.loop-order.order-iterator.rest.ok.0 ∙ c.in-None.ensures.steps.0 in
    all_sent c.args.orders.items (g.C.Crew.told c.args.crew.now) (g.C.Crew.told c.loop-order.crew)
    (subst (λ (r : List Order). SentSo c.args.orders.items r (g.C.Crew.told c.args.crew.now) (g.C.Crew.told c.loop-order.crew))
    (none_left c.loop-order.order-iterator.rest.items none) c.loop-order.invariant.told)
