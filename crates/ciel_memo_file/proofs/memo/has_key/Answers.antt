-- Inputs of the same lengths in keys of the same bytes are the same.
use Rattle.std.proofs.Common.{rules, ◌≡◌, ◌==◌, ◌&&◌, Bool, true, false, List, ℕ, ap, ap₂, arith, length, sym, ◌∙◌}
use Rattle.std.proofs.lemmas.Bool.{true≢false}
use Rattle.sky_base.specs.View.{view}
use Rattle.sky_base.specs.Val.{same_text, same_val}
use Rattle.ciel_memo_file.specs.Entries.{Entry, entry_view}
use Rattle.ciel_memo_file.specs.Steps.{same_lengths}
use Rattle.ciel_memo_file.proofs.Keys.{beside_has, not_as_long}
use Rattle.ciel_memo_file.proofs.memo.has_key.Goals as goal
use Rattle.ciel_memo_file.proofs.memo.has_key.Goals.{then-eq, else-eq}

pub returns-then-not-are_as_long : goal.returns-then-not-are_as_long
returns-then-not-are_as_long c =
    let e : Entry = entry_view c.args.entry.now in
    let no : c.are_as_long.result ≡ false = search rules in
    let long : same_lengths e.inputs c.args.inputs.now ≡ false =
    ap (λ (b : List (List ℕ)). same_lengths b c.args.inputs.now) (sym c.as_slice.ensures.value) ∙ sym c.are_as_long.ensures ∙ no in
    sym (not_as_long c.args.executor.now (view c.args.args.now) c.args.inputs.now c.args.outputs e long)

last : (a b : Bool) (c : Bool) → a ≡ true → b ≡ true → c ≡ (a && (b && c))
last a b c h g = ap₂ (λ x y. x && (y && c)) (sym h) (sym g)

pub returns-then-is_same : goal.returns-then-is_same
returns-then-is_same c =
    let x = c.args.executor.now in
    let args = view c.args.args.now in
    let inputs = c.args.inputs.now in
    let n = c.args.outputs in
    let e : Entry = entry_view c.args.entry.now in
    let yes : c.are_as_long.result ≡ true = search rules in
    let long : same_lengths e.inputs inputs ≡ true =
    ap (λ (b : List (List ℕ)). same_lengths b inputs) (sym c.as_slice.ensures.value) ∙ sym c.are_as_long.ensures ∙ yes in
    elim c.if-eq.branch [
      | then-eq w ↦
          let first : same_text e.executor x ≡ true = search rules in
          let second : same_val same_text e.args args ≡ true = search rules in
          let many : c.len.result ≡ length e.made = omega (arith, c.len.ensures, c.args.entry.now.made.ok.0) in
          ap (λ (m : ℕ). m == n) many ∙ last (same_text e.executor x) (same_val same_text e.args args) (length e.made == n) first second
          ∙ beside_has x args inputs n e c.requires long
      | else-eq w ↦ absurd (true≢false (sym c.if-is_same.true ∙ w.value-is ∙ w.if-eq.false))
    ]
