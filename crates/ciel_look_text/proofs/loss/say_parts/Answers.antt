-- Three parts, one behind the other.
use Rattle.std.proofs.Common.{◌≡◌, [], ◌++◌, arith, codes, length, map, subst, true}
use Rattle.ciel_look_tasks.specs.Known.{knowns}
use Rattle.ciel_look_tasks.specs.SceneView.{picked}
use Rattle.ciel_look_tasks.specs.View.{run_number}
use Rattle.ciel_look_text.specs.Says.{SaysSome}
use Rattle.ciel_look_text.specs.Text.{cut_part, objects_part, stacks_part}
use Rattle.ciel_look_text.proofs.Parts.{some_two}
use Rattle.ciel_look_text.proofs.loss.say_parts.Goals as goal

pub returns : goal.returns
returns c =
    let loss = c.args.loss.now in
    let known = knowns c.args.scene.now.known.all.items in
    let runs = c.args.scene.now.runs.items in
    let line = c.args.line.now in
    let first = c.say_objects.new.line in
    let second = c.say_stacks.new.line in
    let third = c.say_cut.new.line in
    let a = c.in_ok-first.first in
    let b = c.in_ok-first-2.first in
    let d = c.in_ok-first-3.first in
    let count : c.len.result ≡ length loss.stacks.items = omega (arith, c.len.ensures, loss.stacks.ok.0) in
    let objects =
    subst (λ ns. SaysSome [] (codes "; ") true line (objects_part known ns) first a) c.as_slice.ensures.value c.in_ok-first.ensures.said in
    let stacks = subst (λ n. SaysSome [] (codes "; ") a first (stacks_part n) second b) count c.in_ok-first-2.ensures.said in
    let cut =
    subst (λ ps. SaysSome [] (codes "; ") b second (cut_part (map run_number (picked runs ps))) third d) c.as_slice-2.ensures.value
    c.in_ok-first-3.ensures.said in
    record {
      said = some_two [] (codes "; ") true a d line first third (objects_part known loss.objects.items)
          (stacks_part (length loss.stacks.items) ++ cut_part (map run_number (picked runs loss.runs.items))) objects
          (some_two [] (codes "; ") a b d first second third (stacks_part (length loss.stacks.items))
          (cut_part (map run_number (picked runs loss.runs.items))) stacks cut);
    }
