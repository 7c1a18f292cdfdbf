use Rattle.std.proofs.Common.{◌≡◌, ◌++◌, ◌∷◌, [], arith, refl, sym, subst, length-set, List, Bool, true, set}
use Rattle.std.proofs.lemmas.Grind.{common_steps}
use Rattle.ciel_want.specs.Marked.{Marked}
use Rattle.ciel_want.proofs.SeenFlags.{marked_more}
use Rattle.ciel_want.proofs.search.add_row.Goals as goal

pub returns-clause-marked : goal.returns-clause-marked
returns-clause-marked c =
    let flags : List Bool = c.args.flags.now.items in
    let grew : c.push.new.rows.items ≡ c.args.seen.now.items ++ c.args.row ∷ [] = grind (arith, common_steps) in
    subst (Marked (set flags c.args.row true)) (sym grew)
    (marked_more flags (set flags c.args.row true) c.args.seen.now.items c.args.row c.requires.marked c.requires.below refl
    (length-set flags c.args.row true))
