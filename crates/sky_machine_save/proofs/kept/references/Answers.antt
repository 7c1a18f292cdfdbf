use Rattle.std.proofs.Common.{◌≡◌, ◌+◌, ◌++◌, [], ◌∷◌, take, sym, ap, ◌∙◌, arith, add-one, take-suc}
use Rattle.sky_base.specs.Val.{ref, known, add_val, refs_to}
use Rattle.sky_base.specs.Names.{known_of}
use Rattle.sky_machine_save.proofs.Fronts.{refs_push}
use Rattle.sky_machine_save.proofs.kept.references.Goals as goal

pub loop-name-preserved : goal.loop-name-preserved
loop-name-preserved c =
    let xs = c.as_slice-name-items.result.now in
    let i = c.loop-name.name-index in
    let x = c.name-item.result in
    let more : take (i + 1) xs ≡ take i xs ++ x ∷ [] =
    rw (add-one i) (take-suc xs i x (omega arith) ∙ ap (λ y. take i xs ++ y ∷ []) (sym c.name-item.is)) in
    c.in_ok-push.ensures.ok
    ∙ ap (λ vs. add_val vs (ref (known x))) c.loop-name.invariant
    ∙ sym (refs_push (take i xs) x)
    ∙ ap (λ ns. refs_to (known_of ns)) (sym more)
