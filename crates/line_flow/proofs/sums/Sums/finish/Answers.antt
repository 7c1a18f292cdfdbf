use Rattle.std.proofs.Common.{◌≡◌, ℕ, List, [], ◌∷◌, Bor, Bool, true, false, ◌||◌, nat_lt, refl, sym, ap, subst, ◌∙◌}
use Rattle.std.specs.List.{list_any}
use Rattle.sky_base.specs.KitView.{RunsSo}
use Rattle.line_kit.specs.Numbers.{counted}
use Rattle.line_kit.specs.Gives.{one, summed}
use Rattle.line_kit.specs.Totals.{totals}
use Rattle.line_kit.proofs.SumsLaw.{count_lines, summed-over, summed-lines}
use Rattle.line_flow.specs.Entries.{lent}
use Rattle.line_flow.specs.Kept.{Unread, SumsUp}
use Rattle.line_flow.proofs.Results.{on_ok, when_true, when_false}
use Rattle.line_flow.proofs.ReadLaw.{unread_all}
use Rattle.line_flow.proofs.sums.Sums.finish.Goals as goal

abbrev above : List (List ℕ × ℕ) → Bool
above es = list_any (λ (e : List ℕ × ℕ). nat_lt 9223372036854775807 e.1) es

pub returns-then-self : goal.returns-then-self
returns-then-self c ls h = ap summed (unread_all counted ls (when_true (SumsUp c.args.self ls) c.args.self.bad c.if-self.true h))

-- the sums in order, and the question about them
seen-above : (sums : List (Bor (List ℕ) × ℕ)) → list_any (λ s. nat_lt 9223372036854775807 s.1) sums ≡ above (lent sums)
seen-above [] = refl
seen-above (s ∷ sums) = ap (λ b. nat_lt 9223372036854775807 s.1 || b) (seen-above sums)

pub returns-then-is_any_above : goal.returns-then-is_any_above
returns-then-is_any_above c ls h =
    let w = when_false (Unread counted ls) c.args.self.bad c.if-self.false h in
    let sums = c.as_slice.result.now in
    let seen : lent sums ≡ totals w.0 = ap lent c.as_slice.ensures.value ∙ c.in_ok-sums.ensures ∙ w.2 in
    let over : above (totals w.0) ≡ true = ap above (sym seen) ∙ sym (seen-above sums) ∙ sym c.if-is_any_above.ensures in
    ap summed w.1 ∙ summed-over w.0 over

pub returns : goal.returns
returns c =
    on_ok c.written_sums.result
    (λ r run ls h.
    let w = when_false (Unread counted ls) c.args.self.bad c.if-self.false h in
    let sums = c.as_slice.result.now in
    let seen : lent sums ≡ totals w.0 = ap lent c.as_slice.ensures.value ∙ c.in_ok-sums.ensures ∙ w.2 in
    let under : above (totals w.0) ≡ false = ap above (sym seen) ∙ sym (seen-above sums) ∙ sym c.if-is_any_above.ensures in
    let put : lent c.as_slice-2.result.now ≡ totals w.0 = ap lent c.as_slice-2.ensures.value ∙ c.in_ok-sums.ensures ∙ w.2 in
    subst (RunsSo r) (ap (λ (es : List (List ℕ × ℕ)). one (count_lines es)) put ∙ sym (summed-lines w.0 under) ∙ sym (ap summed w.1)) run)
    c.written_sums.ensures
