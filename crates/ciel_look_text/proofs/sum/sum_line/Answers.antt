-- Of these numbers.
use Rattle.std.proofs.Common.{◌≡◌, ℕ, List, arith, length, ap, map, sym, ◌∙◌}
use Rattle.std.proofs.lemmas.List.{length-map}
use Rattle.ciel_look_shown.specs.Plain.{shown}
use Rattle.ciel_look_tasks.specs.SceneView.{order_view, row_view, taken_view}
use Rattle.ciel_look_text.proofs.Saying.{says_all, says_two}
use Rattle.ciel_look_text.proofs.Sums.{same_sum}
use Rattle.std.specs.List.{filter, sum}
use Rattle.ciel_look_tasks.specs.declared.scene.Run.{Run}
use Rattle.ciel_look_text.specs.Text.{capped, is_again, made_of}
use Rattle.ciel_look_text.proofs.sum.sum_line.Goals as goal

abbrev again_number : List Run → ℕ
again_number rs = length (filter is_again (map order_view rs))

abbrev bytes_number : List Run → ℕ
bytes_number rs = capped (sum (map made_of (map order_view rs)))

pub returns : goal.returns
returns c =
    let s = c.args.scene.now in
    let starts : c.len-starts.result ≡ length s.runs.items = omega (arith, c.len-starts.ensures, s.runs.ok.0) in
    let tasks : c.len-tasks.result ≡ length s.roll.tasks.items = omega (arith, c.len-tasks.ensures, s.roll.tasks.ok.0) in
    let losses : c.len-losses.result ≡ length s.losses.items = omega (arith, c.len-losses.ensures, s.losses.ok.0) in
    let copies : c.len-copies.result ≡ length s.copies.items = omega (arith, c.len-copies.ensures, s.copies.ok.0) in
    record {
      line = says_all _ _ c.say_rest.new.line c.new-line.ensures
          (says_two _ _ _ _ _ c.in_ok-say_starts.ensures.said c.in_ok-say_rest.ensures.said)
          ∙ ap shown (same_sum _ _ _ _ _ _ _ _ _ _ _ _ (starts ∙ sym (length-map s.runs.items order_view))
          (tasks ∙ sym (length-map s.roll.tasks.items (row_view s)))
          (c.again_of-again.ensures ∙ ap (λ rs. again_number rs) c.as_slice.ensures.value)
          (losses ∙ sym (length-map s.losses.items (taken_view s))) copies
          (c.bytes_of-bytes.ensures ∙ ap (λ rs. bytes_number rs) c.as_slice-2.ensures.value));
    }
