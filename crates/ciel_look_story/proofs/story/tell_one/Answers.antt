-- What is due comes first, and then the record.
use Rattle.std.proofs.Common.{◌≡◌, ◌∷◌, ◌++◌, [], ℕ, List, ap, map, sym, ◌∙◌, subst}
use Rattle.ciel_log_read.specs.View.{record_view}
use Rattle.ciel_look_story.specs.Inside.{Goes, stand_of}
use Rattle.ciel_look_story.specs.Story.{Stand, after}
use Rattle.ciel_look_told.specs.Told as seen
use Rattle.ciel_look_told.specs.View.{told_view}
use Rattle.ciel_look_story.proofs.Tellings.{goes_record}
use Rattle.ciel_look_story.proofs.story.tell_one.Goals as goal

pub returns-clause-goes : goal.returns-clause-goes
returns-clause-goes c =
    let planned : List (ℕ × ℕ) = c.args.losses.now in
    let v : Stand = stand_of c.args.teller.now in
    let before : List seen.Told = map told_view c.args.told.now.items in
    let told : map told_view c.put.new.told.items ≡ map told_view c.tell_losses.new.told.items ++ told_view c.in_ok-one.one ∷ [] =
    c.in_ok-put.ensures in
    let r = record_view c.args.next in
    let g = goes_record planned c.in_ok-tell_losses.ensures.goes r c.in_ok-tell_losses.ensures.rests in
    subst (Goes planned v (r ∷ []) before (map told_view c.put.new.told.items)) (sym c.in_ok-one.ensures.stand)
    (subst (λ ts. Goes planned v (r ∷ []) before ts (after (stand_of c.tell_losses.new.teller) r))
    (sym (told ∙ ap (λ t. map told_view c.tell_losses.new.told.items ++ t ∷ []) c.in_ok-one.ensures.told)) g)
