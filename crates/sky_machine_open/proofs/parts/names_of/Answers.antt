use Rattle.std.proofs.Common.{◌≡◌, suc, ◌+◌, ◌++◌, ◌∷◌, drop, sym, ap, ◌∙◌, arith, add-one, drop-cons}
use Rattle.std.specs.Option.{option_map}
use Rattle.sky_base.specs.Names.{known_of}
use Rattle.sky_base.specs.View.{vals_of}
use Rattle.sky_base.specs.declared.value.Value.{Value}
use Rattle.sky_base_law.specs.Opened.{descs_of}
use Rattle.sky_machine_open.proofs.Lists.{refs_step}
use Rattle.sky_machine_open.proofs.parts.names_of.Goals as goal

pub loop-value-preserved : goal.loop-value-preserved
loop-value-preserved c =
    let l = c.loop-value in
    let xs = c.args.values.now in
    let i = l.value-index in
    let x = c.value-item.result in
    let rest = drop (i + 1) xs in
    let more : drop i xs ≡ x ∷ drop (i + 1) xs =
    rw (add-one i) (drop-cons xs i x (omega arith) ∙ ap (λ y. y ∷ drop (suc i) xs) (sym c.value-item.is)) in
    l.invariant ∙ ap (λ ys. option_map (λ ds. known_of l.names ++ ds) (descs_of (vals_of ys))) (more ∙ ap (λ (y : Value). y ∷ rest) c.in-Ref.is)
    ∙ refs_step l.names c.in-Ref.name (descs_of (vals_of rest))
    ∙ ap (λ ns. option_map (λ ds. known_of ns ++ ds) (descs_of (vals_of rest))) (sym c.in_ok-push.ensures.ok)
