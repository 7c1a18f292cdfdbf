-- One name after another.
use Rattle.std.proofs.Common.{ℕ, List, Bool, ◌||◌, arith, ap, drop, refl, sym, ◌+◌, ◌∙◌}
use Rattle.std.specs.List.{list_any}
use Rattle.ciel_look_tasks.specs.Known.{maker_as, makers}
use Rattle.ciel_look_text.specs.Why.{is_maker}
use Rattle.ciel_look_text.proofs.Going.{same_end, same_here, same_next}
use Rattle.ciel_look_text.proofs.why.takes_object.Goals as goal

pub loop-name-init : goal.loop-name-init
loop-name-init c = refl

pub loop-name-preserved : goal.loop-name-preserved
loop-name-preserved c =
    let l = c.loop-name in
    let test : List ℕ → Bool = λ n. is_maker c.args.id.now (maker_as n (makers c.args.scene.now.known.all.items)) in
    same_next (list_any test) c.args.names.now l.name-index c.name-item.result (omega arith) c.name-item.is
    (ap (λ b. b || list_any test (drop (l.name-index + 1) c.args.names.now)) (sym c.is_made.ensures ∙ c.if-is_made.false)) l.invariant

pub returns-then-is_made : goal.returns-then-is_made
returns-then-is_made c =
    let l = c.loop-name in
    let test : List ℕ → Bool = λ n. is_maker c.args.id.now (maker_as n (makers c.args.scene.now.known.all.items)) in
    sym (same_here (list_any test) c.args.names.now l.name-index c.name-item.result (omega arith) c.name-item.is l.invariant
    ∙ ap (λ b. b || list_any test (drop (l.name-index + 1) c.args.names.now)) (sym c.is_made.ensures ∙ c.if-is_made.true))

pub returns : goal.returns
returns c =
    let l = c.loop-name in
    let test : List ℕ → Bool = λ n. is_maker c.args.id.now (maker_as n (makers c.args.scene.now.known.all.items)) in
    sym (same_end (list_any test) c.args.names.now l.name-index (omega arith) l.invariant)
