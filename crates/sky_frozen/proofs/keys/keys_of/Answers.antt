use Rattle.std.proofs.Common.{◌≡◌, ◌+◌, ◌∷◌, suc, ◌||◌, is_some, drop, sym, ap, ◌∙◌, add-one, drop-cons, arith}
use Rattle.sky_base.specs.Val.{null}
use Rattle.sky_base.specs.Op.{put, find}
use Rattle.sky_base.specs.Eval.{is_one_of}
use Rattle.sky_frozen.proofs.UsesLaw.{find_put, one_of_more, turned}
use Rattle.sky_frozen.proofs.keys.keys_of.Goals as goal

pub loop-name-preserved : goal.loop-name-preserved
loop-name-preserved c = λ k.
    let ns = c.args.names.now in
    let i = c.loop-name.name-index in
    let x = c.name-item.result in
    let keys = c.loop-name.keys in
    let rest = drop (i + 1) ns in
    let cut : drop i ns ≡ x ∷ rest = rw (add-one i) (drop-cons ns i x (omega arith) ∙ ap (λ y. y ∷ drop (suc i) ns) (sym c.name-item.is)) in
    let new : c.insert.new.self ≡ put x null keys = c.in_ok-insert.ensures.ok ∙ ap (λ y. put y null keys) c.in_ok-share.ensures in
    ap (λ ps. is_some (find k ps) || is_one_of k rest) new
    ∙ ap (λ b. b || is_one_of k rest) (find_put k x null keys)
    ∙ turned _ (is_some (find k keys)) (is_one_of k rest)
    ∙ ap (λ b. is_some (find k keys) || b) (sym (one_of_more k x rest))
    ∙ ap (λ ys. is_some (find k keys) || is_one_of k ys) (sym cut)
    ∙ c.loop-name.invariant k
