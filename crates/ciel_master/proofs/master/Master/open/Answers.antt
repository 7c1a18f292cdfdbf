-- A master that knows the main call alone is sound.
use Rattle.std.proofs.Common.{◌≡◌, ◌≤◌, ℕ, ◌∙◌, ap, arith, vec_capacity}
use Rattle.std.specs.Arc.{arc_value}
use Rattle.ciel_master_board.specs.Moves.{empty}
use Rattle.ciel_want_ready.specs.Seen.{ReadySeen}
use Rattle.ciel_task_order.specs.Views.{P}
use Rattle.ciel_table.specs.Learning.{learned}
use Rattle.ciel_master.specs.Seen.{most_descriptions}
use Rattle.ciel_master.proofs.Kept.{open_going, open_gone, open_ready, open_room}
use Rattle.ciel_master.proofs.MarkedLosses.{open_marked}
use Rattle.ciel_master.proofs.master.Master.open.Goals as goal

wide_of : {m n : ℕ} → m ≡ n → m ≤ n
wide_of e = omega (arith, e)

pub invariant_of-result : goal.invariant_of-result
invariant_of-result g c =
    let d = g.N.Namer.digest (arc_value c.args.shop).namer in
    let keys = (arc_value c.args.shop).job.script.keys in
    let ready = c.in_ok-ready.ready in
    λ going. (
      open_going d (arc_value c.args.shop).shelves (arc_value c.args.shop).job.script c.args.plan c.args.main ready.table c.new.result.items c.in_ok-journal.journal.items
          (ap (λ (r : ReadySeen P). r.table) c.in_ok-ready.ensures
          ∙ ap (λ s. learned (g.N.Namer.digest s.namer) c.args.main (empty most_descriptions)) c.deref.ensures) c.new.ensures.items
          c.in_ok-journal.ensures.empty c.requires.keys (wide_of c.requires.workers) c.requires.named c.requires.main,
      open_gone d c.args.main ready.table c.in_ok-lost.lost.items
          (ap (λ (r : ReadySeen P). r.table) c.in_ok-ready.ensures
          ∙ ap (λ s. learned (g.N.Namer.digest s.namer) c.args.main (empty most_descriptions)) c.deref.ensures) c.in_ok-lost.ensures.empty,
      open_room c.args.plan.losses c.in_ok-lost.lost.items c.in_ok-journal.journal.items c.len-losses.result
          (vec_capacity c.in_ok-journal.journal) (vec_capacity c.in_ok-lost.lost) c.in_ok-lost.ensures.empty c.in_ok-journal.ensures.empty
          c.len-losses.ensures.len c.in_ok-journal.ensures.room c.in_ok-lost.ensures.room,
      open_marked c.args.plan.losses c.in_ok-lost.lost.items (arc_value c.args.shop).shelves c.args.marker c.args.plan.workers c.requires.of
          c.requires.unmarked c.in_ok-lost.ensures.empty c.requires.workers c.requires.losses,
      open_ready c.args.main c.args.plan keys _ c.new.result.items c.in_ok-journal.journal.items ready c.in_ok-ready.ensures
          c.new.ensures.items,
    )
