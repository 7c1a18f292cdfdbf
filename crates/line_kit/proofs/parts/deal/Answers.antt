-- The output whose turn it is gets the line, the others stay as they are.
use Rattle.std.proofs.Common.{◌≡◌, ◌+◌, ◌<◌, ℕ, List, [], ◌∷◌, length, set, get_or, Option, Some, None, sym, ap, subst, ◌∙◌, arith, rules, IfOk}
use Rattle.std.proofs.lemmas.List.{get_or-replicate, get_or_default, length-replicate}
use Rattle.std.proofs.Math.ListN.{length-set}
use Rattle.sky_base.specs.KitView.{RunsSo}
use Rattle.line_kit.specs.Lines.{joined, ended, all_lines}
use Rattle.line_kit.specs.Parts.{every, dealt}
use Rattle.line_kit.specs.Gives.{Answer}
use Rattle.line_kit.specs.Written.{capped, extended, finished}
use Rattle.line_kit.proofs.WrittenLaw.{extended-start, closed_with}
use Rattle.line_kit.proofs.PartsLaw.{every-turn, dealt_on, filled}
use Rattle.line_kit.proofs.parts.deal.Goals as goal

pub loop-line-init : goal.loop-line-init
loop-line-init c =
    let n = c.args.outputs in
    record {
      count = ap length c.in_ok-all.ensures ∙ length-replicate n (Some []);
      turn = c.requires;
      dealt = λ i h.
          let empty : get_or c.in_ok-all.all.items i None ≡ Some [] = ap (λ (os : List (Option (List ℕ))). get_or os i None) c.in_ok-all.ensures
          ∙ get_or-replicate n i (Some []) None h in
          ap (λ (o : Option (List ℕ)). extended o (joined (every n i 0 c.new-lines.result))) empty
          ∙ extended-start (joined (every n i 0 c.new-lines.result))
          ∙ ap (λ (ls : List (List ℕ)). capped (joined (every n i 0 ls))) c.new-lines.ensures;
    }

pub loop-line-preserved-then-turn-len : goal.loop-line-preserved-then-turn-len
loop-line-preserved-then-turn-len c =
    let n = c.args.outputs in
    let all = c.loop-line.all.items in
    let turn = c.loop-line.turn in
    let more = c.next_line.new.self in
    let whole = λ (i : ℕ). capped (joined (every n i 0 (all_lines c.args.inputs.now))) in
    let put : c.put_line.new.self ≡ extended (get_or all turn None) (ended c.in-Some.line.now) =
    c.in_ok-put_line.ensures ∙ ap (λ (o : Option (List ℕ)). extended o (ended c.in-Some.line.now))
    (c.index_mut.ensures.value ∙ get_or_default all turn c.index_mut.result.now None
    (omega (arith, c.loop-line.invariant.count, c.loop-line.invariant.turn))) in
    let each : (i : ℕ) → i < n → extended (get_or all i None) (joined (every n i turn (c.in-Some.line.now ∷ more))) ≡ whole i =
    λ i h. ap (λ (ls : List (List ℕ)). extended (get_or all i None) (joined (every n i turn ls))) (sym c.in-Some.ensures)
    ∙ c.loop-line.invariant.dealt i h in
    let round : turn + 1 ≡ n + 0 = omega (arith, c.if-turn-len.true, c.len.ensures, c.loop-line.invariant.count) in
    record {
      count = length-set all turn c.put_line.new.self ∙ c.loop-line.invariant.count;
      turn = c.requires;
      dealt = λ i h.
          ap (λ (ls : List (List ℕ)). extended (get_or (set all turn c.put_line.new.self) i None) (joined ls))
          (sym (ap (λ (t : ℕ). every n i t more) round ∙ every-turn n i 0 more))
          ∙ dealt_on n turn all c.put_line.new.self c.in-Some.line.now more whole c.loop-line.invariant.count c.loop-line.invariant.turn put each i h;
    }

pub loop-line-preserved : goal.loop-line-preserved
loop-line-preserved c =
    let n = c.args.outputs in
    let all = c.loop-line.all.items in
    let turn = c.loop-line.turn in
    let more = c.next_line.new.self in
    let whole = λ (i : ℕ). capped (joined (every n i 0 (all_lines c.args.inputs.now))) in
    let put : c.put_line.new.self ≡ extended (get_or all turn None) (ended c.in-Some.line.now) =
    c.in_ok-put_line.ensures ∙ ap (λ (o : Option (List ℕ)). extended o (ended c.in-Some.line.now))
    (c.index_mut.ensures.value ∙ get_or_default all turn c.index_mut.result.now None
    (omega (arith, c.loop-line.invariant.count, c.loop-line.invariant.turn))) in
    let each : (i : ℕ) → i < n → extended (get_or all i None) (joined (every n i turn (c.in-Some.line.now ∷ more))) ≡ whole i =
    λ i h. ap (λ (ls : List (List ℕ)). extended (get_or all i None) (joined (every n i turn ls))) (sym c.in-Some.ensures)
    ∙ c.loop-line.invariant.dealt i h in
    record {
      count = length-set all turn c.put_line.new.self ∙ c.loop-line.invariant.count;
      turn = omega (arith, c.if-turn-len.false, c.len.ensures, c.loop-line.invariant.count, c.loop-line.invariant.turn);
      dealt = dealt_on n turn all c.put_line.new.self c.in-Some.line.now more whole c.loop-line.invariant.count c.loop-line.invariant.turn put each;
    }

pub returns : goal.returns
returns c =
    let n = c.args.outputs in
    let all = c.loop-line.all.items in
    let lines = all_lines c.args.inputs.now in
    let empty : c.loop-line.lines ≡ [] = search rules in
    let each : (i : ℕ) → i < n → finished (get_or all i None) ≡ capped (joined (every n i 0 lines)) =
    λ i h. ap (λ (ls : List (List ℕ)). extended (get_or all i None) (joined (every n i c.loop-line.turn ls))) (sym empty)
    ∙ c.loop-line.invariant.dealt i h in
    subst (λ (a : Answer). IfOk c.close.result (λ r. RunsSo r a))
    (closed_with all (dealt n lines) (filled all (λ i. every n i 0 lines) n c.loop-line.invariant.count each)) c.close.ensures
