use Rattle.std.proofs.Common.{◌≡◌, ◌+◌, ◌*◌, ℕ, List, [], ◌∷◌, ◌++◌, length, map, take, drop, Option, sym, ap, ap₂, subst, ◌∙◌, arith, rules, IfOk}
use Rattle.std.specs.List.{range_with_len}
use Rattle.std.proofs.lemmas.List.{map-append, drop-drop}
use Rattle.std.proofs.lemmas.List.FromFn.{map-range_with_len_more}
use Rattle.std.proofs.lemmas.Simd.{map-map}
use Rattle.sky_base.specs.KitView.{RunsSo}
use Rattle.line_kit.specs.Lines.{joined, all_lines}
use Rattle.line_kit.specs.Parts.{share, cut}
use Rattle.line_kit.specs.Gives.{Answer}
use Rattle.line_kit.specs.Written.{capped, extended, finished}
use Rattle.line_kit.proofs.WrittenLaw.{extended-start, closed_with}
use Rattle.line_kit.proofs.parts.copy_out.Goals as goal

more_times : (k q : ℕ) → k * q + q ≡ (k + 1) * q
more_times k q = grind arith

pub loop-k-preserved : goal.loop-k-preserved
loop-k-preserved c =
    let lines = all_lines c.args.inputs.now in
    let k = c.loop-k._k in
    let q = c.share-part.result in
    let f = λ (i : ℕ). capped (joined (take q (drop (i * q) lines))) in
    let out : finished c.put_some.new.out ≡ f k =
    c.in_ok-put_some.ensures.out ∙ ap₂ (λ (o : Option (List ℕ)) (ls : List (List ℕ)). extended o (joined (take q ls))) c.new-out.ensures
    c.loop-k.invariant.left
    ∙ extended-start (joined (take q (drop (k * q) lines))) in
    let pushed : c.push.new.self.items ≡ c.loop-k.all.items ++ c.put_some.new.out ∷ [] = search rules in
    record {
      cut =
          ap (map finished) pushed ∙ map-append finished c.loop-k.all.items (c.put_some.new.out ∷ [])
          ∙ ap₂ (λ (xs : List (Option (List ℕ))) (x : Option (List ℕ)). xs ++ x ∷ []) c.loop-k.invariant.cut out
          ∙ sym (map-range_with_len_more f 0 k k (omega arith));
      left = c.in_ok-put_some.ensures.lines ∙ ap (drop q) c.loop-k.invariant.left ∙ drop-drop q (k * q) lines
          ∙ ap (λ (m : ℕ). drop m lines) (more_times k q);
    }

pub returns : goal.returns
returns c =
    let lines = all_lines c.args.inputs.now in
    let n = c.args.outputs in
    let q = c.share-part.result in
    let part : q ≡ share (length lines) n = c.share-part.ensures ∙ ap (λ m. share m n) c.line_count.ensures.value in
    let cut_so : map finished c.loop-k.all.items ≡ map (λ l. capped (joined l)) (cut n lines) =
    c.loop-k.invariant.cut ∙ ap (λ (p : ℕ). map (λ i. capped (joined (take p (drop (i * p) lines)))) (range_with_len 0 c.loop-k._k)) part
    ∙ ap (λ (m : ℕ). map (λ i. capped (joined (take (share (length lines) n) (drop (i * share (length lines) n) lines)))) (range_with_len 0 m))
    (search rules)
    ∙ sym (map-map (λ l. capped (joined l)) (λ i. take (share (length lines) n) (drop (i * share (length lines) n) lines)) (range_with_len 0 n)) in
    subst (λ (a : Answer). IfOk c.close.result (λ r. RunsSo r a)) (closed_with c.loop-k.all.items (cut n lines) cut_so) c.close.ensures
