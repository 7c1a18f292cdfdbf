use Rattle.std.proofs.Common.{◌≡◌, ℕ, List, [], ◌++◌, length, sym, ap, subst, ◌∙◌, arith, append-nil, length-append}
use Rattle.line_kit.specs.Lines.{lines, joined}
use Rattle.line_flow.specs.Kept.{HasPair, at_input}
use Rattle.line_flow.proofs.Results.{on_ok}
use Rattle.line_flow.proofs.PairLaw.{first_more, at_none}
use Rattle.line_flow.specs.declared.pair.Pair.{Pair}
use Rattle.line_flow.proofs.pair.Pair.take.Goals as goal

pub returns-then-input-eq0-clause-ok : goal.returns-then-input-eq0-clause-ok
returns-then-input-eq0-clause-ok c =
    let p = c.args.self.now in
    let block = c.args.block.now in
    let zero : c.args.input ≡ 0 = c.if-input-eq0.true in
    on_ok c.put_lines.result
    (λ a put first second none h.
    let more = first_more p.differs p.at p.first.items c.put_lines.new.bytes.items block first second (none zero) put h.kept h.closed h.within
    h.compared in
    let q : Pair = record { first = c.put_lines.new.bytes; at = p.at; differs = p.differs } in
    let whole : HasPair q (first ++ lines block) second = record {
      kept = more.0;
      closed = more.1;
      within = omega (arith, h.within, ap length put, length-append p.first.items (joined (lines block)));
      compared = more.2;
    } in
    subst (λ (i : ℕ). HasPair q (first ++ at_input i 0 (lines block)) (second ++ at_input i 1 (lines block))) (sym zero)
    (subst (HasPair q (first ++ lines block)) (sym (append-nil second)) whole))
    c.put_lines.ensures.ok

pub returns-else-input-eq1-clause-ok : goal.returns-else-input-eq1-clause-ok
returns-else-input-eq1-clause-ok c first second none h =
    let block = c.args.block.now in
    let p = c.args.self.now in
    let zeroth : at_input c.args.input 0 (lines block) ≡ [] = at_none c.args.input 0 (lines block) (λ e. c.if-input-eq0.false e) in
    let other : at_input c.args.input 1 (lines block) ≡ [] = at_none c.args.input 1 (lines block) (λ e. c.if-input-eq1.false e) in
    subst (λ (ls : List (List ℕ)). HasPair p ls (second ++ at_input c.args.input 1 (lines block)))
    (sym (ap (λ (ls : List (List ℕ)). first ++ ls) zeroth ∙ append-nil first))
    (subst (HasPair p first) (sym (ap (λ (ls : List (List ℕ)). second ++ ls) other ∙ append-nil second)) h)
