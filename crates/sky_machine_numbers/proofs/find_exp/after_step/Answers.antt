use Rattle.std.proofs.Common.{ℕ, sym, subst}
use Rattle.sky_base_law.specs.Nodes.{node_at}
use Rattle.sky_base_law.specs.Opened.{HasExps}
use Rattle.sky_machine_numbers.specs.Standing.{HasStep}
use Rattle.sky_machine_numbers.proofs.find_exp.after_step.Goals as goal

pub after_args-requires : goal.after_args-requires
after_args-requires c =
    let at = λ (i : ℕ). node_at c.args.code.now i in
    subst (λ es. HasExps at es c.args.node) (sym c.as_slice.ensures) (subst (λ s. HasStep at s c.args.node) c.in-Call.is c.requires)
