use Rattle.std.proofs.Common.{sym, ap, ◌∙◌, arith}
use Rattle.sky_base.specs.Val.{list, refs_to}
use Rattle.sky_base.specs.Names.{known_of}
use Rattle.sky_base_forms.proofs.FormLaw.{refs_end, refs_kept}
use Rattle.sky_base_forms.proofs.forms.references.Goals as goal

pub returns-clause-kept : goal.returns-clause-kept
returns-clause-kept c =
    refs_kept c.args.names.now (list c.loop-name.refs) c.requires
    (ap list (sym (refs_end c.loop-name.refs c.as_slice-name-items.result.now c.loop-name.name-index (omega arith)) ∙ c.loop-name.invariant
    ∙ ap (λ ns. refs_to (known_of ns)) c.as_slice-name-items.ensures))
