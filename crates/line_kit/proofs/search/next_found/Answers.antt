-- The line around the first place of the text is the first line that has it.
use Rattle.std.proofs.Common.{◌≡◌, ◌≢◌, ℕ, ◌+◌, ◌-◌, ◌<◌, ◌≤◌, List, ◌∷◌, true, length, take, drop, slice_index, None, sym, ap, ◌∙◌, arith}
use Rattle.std.proofs.Common.{length-take, length-drop}
use Rattle.std.proofs.lemmas.List.{take_all, drop-drop, get_or-drop}
use Rattle.std.proofs.lemmas.Slice.Eq.{bytes_eq-Decides}
use Rattle.memchr.proofs.lemmas.MatchLemmas.{OccursAt-part}
use Rattle.line_kit.specs.Lines.{with_text, lines, contains}
use Rattle.line_kit.proofs.Found.{contains-found}
use Rattle.line_kit.proofs.FindLaw.{first_in, begins-first_in, NotBefore, none_with, line_has, first_line_of, keep_first, skipped}
use Rattle.line_kit.proofs.search.next_found.Goals as goal

pub returns-in-None : goal.returns-in-None
returns-in-None c = none_with c.args.bytes.now c.args.finder.now (sym (contains-found c.args.bytes.now c.args.finder.now None c.in-None.ensures))

pub returns-in-Some : goal.returns-in-Some
returns-in-Some c =
    let xs = c.args.bytes.now in
    let n = c.args.finder.now in
    let at = c.in-Some.at in
    let s = c.line_start.result in
    let line = c.first_line.result.0.now in
    let after = c.first_line.result.1.now in
    let none : NotBefore xs n at = λ k l occurs. c.in-Some.ensures.0.before k (omega arith) l occurs in
    let inside : at ≤ length xs = omega (arith, c.in-Some.ensures.1.fits) in
    let whole : take (length xs - s) (drop s xs) ≡ drop s xs = take_all (length xs - s) (drop s xs) (omega (arith, length-drop s xs)) in
    let cut : lines (drop s xs) ≡ line ∷ lines after = sym (ap lines whole) ∙ c.first_line.ensures.cut in
    let clean : (k : ℕ) → k < at - s → slice_index (drop s xs) k ≢ 10 =
    λ k l same. c.line_start.ensures.clean (s + k) (omega arith) (omega arith) (sym (get_or-drop s xs k 0) ∙ same) in
    let place : drop (at - s) (drop s xs) ≡ drop at xs =
    drop-drop (at - s) s xs ∙ ap (λ (m : ℕ). drop m xs) (omega (arith, c.line_start.ensures.bound)) in
    let there : first_in n (drop (at - s) (drop s xs)) ≡ true =
    ap (first_in n) place ∙ sym (begins-first_in (drop at xs) n)
    ∙ (bytes_eq-Decides (take (length n) (drop at xs)) n).1 (OccursAt-part xs n at c.in-Some.ensures.1) in
    let has : contains line n ≡ true =
    ap (λ (l : List ℕ). contains l n) (first_line_of (drop s xs) line (lines after) cut)
    ∙ line_has (drop s xs) n (at - s) c.requires (omega (arith, length-drop s xs, inside)) clean there in (
      skipped xs n at s inside c.line_start.ensures.bound none c.line_start.ensures.behind_feed ∙ ap (with_text n) cut
          ∙ keep_first n line (lines after) has,
      omega (arith, c.first_line.ensures.shorter, length-take (length xs - s) (drop s xs), length-drop s xs),
    )
