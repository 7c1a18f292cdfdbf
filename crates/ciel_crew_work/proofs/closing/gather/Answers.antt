use Rattle.std.proofs.Common.{List, Option, Some, ◌≡◌, ◌+◌, ◌≤◌, ◌++◌, ◌∷◌, ◌∙◌, ap, arith, length, subst, sym}
use Rattle.std.specs.Prelude.{option_to_list}
use Rattle.ciel_crew_work.specs.Crewed.{gathered}
use Rattle.ciel_crew_work.specs.declared.performing.Tools.{Tools}
use Rattle.ciel_crew_work.proofs.Gathered.{all_there, keeps_first, none_left, none_one, room_grows, some_one}
use Rattle.ciel_crew_work.proofs.closing.gather.Goals as goal
use Rattle.ciel_crew_work.proofs.closing.gather.Goals.{in-None-tools, in-Some-tools}

pub loop-tools-preserved : goal.loop-tools-preserved
loop-tools-preserved g c =
    let i = c.loop-tools.invariant in
    let s = c.in-Some.ensures.steps.0 in
    let rest = c.next.new.self.rest.items in
    let outs = c.loop-tools.outs.rest.items in
    let left = c.match-tools.outs.rest.items in
    let was = subst (λ (r : List (Option (Tools g.row.G.Denot))). c.loop-tools.gates.items ++ gathered r outs
    ≡ gathered c.args.idle.items c.args.done.items) s i.0 in
    let n = ap length s in
    let one : gathered (c.in-Some.tools ∷ rest) outs ≡ option_to_list c.match-tools.gate ++ gathered rest left =
    elim c.match-tools.branch [
      | in-Some-tools w ↦ some_one rest outs left c.in-Some.tools c.match-tools.gate w.in-Some-tools.tools w.in-Some-tools.is
          (w.gate-is ∙ ap Some w.gate_of.ensures.gate) (ap (λ x. x.rest.items) w.outs-is)
      | in-None-tools w ↦ none_one rest outs w.next-in-None-tools.new.self.rest.items left c.in-Some.tools w.next-in-None-tools.result
          c.match-tools.gate w.last_gate-gate.result w.in-None-tools.is w.next-in-None-tools.ensures.items w.last_gate-gate.ensures.gate
          w.gate-is (ap (λ x. x.rest.items) w.outs-is)
          (none_left w.next-in-None-tools.result (c.loop-tools.outs.rest.len ≡ 0) w.next-in-None-tools.new.self.rest.len
          w.next-in-None-tools.new.self.rest.items _ w.next-in-None-tools.new.self.rest.ok.0 w.next-in-None-tools.ensures.cases)
    ] in (
      keeps_first c.loop-tools.gates.items c.keep.new.gates.items c.in-Some.tools c.match-tools.gate rest outs left
          (gathered c.args.idle.items c.args.done.items) one was c.keep.ensures.items,
      subst (λ x. length c.keep.new.gates.items + length rest ≤ x) (sym c.keep.ensures.capacity)
          (room_grows c.loop-tools.gates.items c.keep.new.gates.items c.match-tools.gate _ (length rest) c.keep.ensures.items
          (omega (arith, i.1, n))),
    )

pub returns : goal.returns
returns g c =
    let none : length c.loop-tools.tools-iterator.rest.items ≡ 0 = sym c.loop-tools.tools-iterator.rest.ok.0 ∙ c.in-None.ensures.steps.0 in
    record {
      gates = all_there c.loop-tools.gates.items c.loop-tools.tools-iterator.rest.items c.loop-tools.outs.rest.items
          (gathered c.args.idle.items c.args.done.items) c.loop-tools.invariant.0 none;
    }
