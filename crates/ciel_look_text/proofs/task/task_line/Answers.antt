-- Piece by piece.
use Rattle.std.proofs.Common.{◌≡◌, ◌-◌, arith, codes, length, map, refl, subst, sym, take}
use Rattle.std.proofs.lemmas.Simd.{map-map}
use Rattle.ciel_look_tasks.specs.Known.{knowns}
use Rattle.ciel_look_tasks.specs.SceneView.{order_view, picked}
use Rattle.ciel_look_text.specs.Runs.{run_said}
use Rattle.ciel_look_text.specs.Says.{Says}
use Rattle.ciel_look_text.specs.Text.{more_starts, order_said}
use Rattle.ciel_look_text.specs.Words.{led}
use Rattle.ciel_look_text.proofs.Saying.{first_eight, says_all, says_four}
use Rattle.ciel_look_text.proofs.task.task_line.Goals as goal

pub returns : goal.returns
returns c =
    let s = c.args.scene.now in
    let known = knowns s.known.all.items in
    let runs = c.args.task.now.runs in
    let told = c.min-told.result in
    let eight : take told runs.items ≡ take 8 runs.items = first_eight runs.items c.len.result told (omega (arith, c.len.ensures, runs.ok.0)) c.min-told.ensures in
    let others : c.len-2.result - told ≡ length runs.items - 8 =
    omega (arith, c.len.ensures, c.len-2.ensures, c.min-told.ensures, runs.ok.0) in
    let orders : Says c.say_own.new.line (led (codes ": ") (codes "; ") (map (order_said known) (map order_view (picked s.runs.items (take 8 runs.items)))))
    c.say_orders.new.line =
    subst (λ xs. Says c.say_own.new.line (led (codes ": ") (codes "; ") xs) c.say_orders.new.line)
    (sym (map-map (order_said known) order_view (picked s.runs.items (take 8 runs.items))))
    (subst (λ places. Says c.say_own.new.line (led (codes ": ") (codes "; ") (map (run_said known) (picked s.runs.items places))) c.say_orders.new.line)
    eight
    (subst (λ xs. Says c.say_own.new.line (led (codes ": ") (codes "; ") (map (run_said known) (picked s.runs.items (take told xs)))) c.say_orders.new.line)
    c.deref.ensures.value c.in_ok-say_orders.ensures.said)) in
    record {
      line = says_all _ _ c.say_more.new.line c.new-line.ensures
          (says_four _ _ _ _ _ _ _ _ _ c.in_ok-say_task.ensures.said c.in_ok-say_own.ensures.said orders
          (subst (λ n. Says c.say_orders.new.line (more_starts n) c.say_more.new.line) others c.in_ok-say_more.ensures.said));
    }
