use Rattle.std.proofs.Common.{◌≡◌, ◌++◌, ◌∷◌, [], length, sym, ap, ◌∙◌, arith}
use Rattle.std.specs.Vec.{vec_len}
use Rattle.sky_base.specs.ScriptView.{fun_view, funs_view}
use Rattle.sky_base_law.specs.Nodes.{pre_funs, pre_block}
use Rattle.sky_machine_code.specs.Numbers.{starts_from}
use Rattle.sky_machine_numbers.proofs.FilledLemmas.{left_next, left_done, no_more, starts_next}
use Rattle.sky_machine_numbers.proofs.code.number_funs.Goals as goal

pub loop-fun-preserved : goal.loop-fun-preserved
loop-fun-preserved c =
    let l = c.loop-fun in
    let now = l.ends.items in
    let mid = c.number_block.new.ends.items in
    let f = c.in-Some.fun.now in
    let more = c.in-Some.more.now in
    let many : vec_len l.ends ≡ length now = omega (arith, l.ends.ok.0) in
    let pushed = c.in-Ok.ensures.items ∙ ap (λ k. l.starts.items ++ k ∷ []) (c.len.ensures ∙ many) in
    record {
      left = left_next c.args.ends.now.items now mid (pre_funs (funs_view c.args.funs.now)) (pre_funs (funs_view l.rest.now)) (pre_block f.body)
          (pre_funs (funs_view more)) (ap (λ fs. pre_funs (funs_view fs)) c.in-Some.ensures.cases.0) c.in_ok-number_block.ensures
          l.invariant.left;
      starts = starts_next l.starts.items c.push.new.self.items now mid (fun_view f) (funs_view more) pushed c.in_ok-number_block.ensures
          ∙ ap (λ fs. l.starts.items ++ starts_from (funs_view fs) (length now)) (sym c.in-Some.ensures.cases.0) ∙ l.invariant.starts;
    }

pub returns-clause-ends : goal.returns-clause-ends
returns-clause-ends c =
    let l = c.loop-fun in
    left_done c.args.ends.now.items l.ends.items (pre_funs (funs_view c.args.funs.now)) (pre_funs (funs_view l.rest.now))
    (ap (λ fs. pre_funs (funs_view fs)) (no_more l.rest.now c.in_default.ensures.cases)) l.invariant.left
