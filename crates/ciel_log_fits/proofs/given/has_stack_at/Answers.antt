use Rattle.std.proofs.Common.{◌≡◌, ◌∙◌, subst, sym, true}
use Rattle.std.specs.Cmp.Lexicographic.{texts_ties}
use Rattle.sky_base.specs.Val.{same_text}
use Rattle.sky_base.proofs.Exact.{exact_text, self_text}
use Rattle.ciel_log_fits.proofs.Places.{no_both}
use Rattle.ciel_log_fits.proofs.given.has_stack_at.Goals as goal

pub returns-then-worker-clause-yes : goal.returns-then-worker-clause-yes
returns-then-worker-clause-yes c = λ t digest.
    let name = c.args.name.now in
    let own = c.own_name.result in
    let same : same_text name own ≡ true = sym (texts_ties name own) ∙ (sym c.eq.ensures ∙ t) in (
      c.in-Some.place,
      c.in-Some.is,
      exact_text name own same ∙ c.own_name.ensures.name digest,
      sym c.worker.ensures.worker ∙ c.if-worker.true,
    )

pub returns-then-worker-clause-no : goal.returns-then-worker-clause-no
returns-then-worker-clause-no c = λ t digest h.
    let name = c.args.name.now in
    let own = c.own_name.result in
    let is : name ≡ own = h.2 ∙ sym (c.own_name.ensures.name digest) in
    let same : same_text name own ≡ true = subst (λ m. same_text name m ≡ true) is (self_text name) in
    no_both c.eq.result (c.eq.ensures ∙ texts_ties name own ∙ same) t
