use Rattle.std.proofs.Common.{◌≡◌, ap, eq-eqb, eqb-true, false, length, sym, true, ◌∙◌}
use Rattle.std.proofs.lemmas.List.{nil_from_length}
use Rattle.ciel_log_report.proofs.ends.has_none.Goals as goal

pub returns : goal.returns
returns c =
    record {
      none = λ t. nil_from_length c.args.names.now (eqb-true (length c.args.names.now) 0 (sym c.is_empty.ensures ∙ t));
      some = λ f e. let bad : true ≡ false = sym (eq-eqb (length c.args.names.now) 0 (ap length e)) ∙ (sym c.is_empty.ensures ∙ f) in cc;
    }
