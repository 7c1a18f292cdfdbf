use Rattle.std.proofs.Common.{◌∙◌, ◌++◌, ◌∷◌, ap, sym, subst, [], false, true, set, not, ◌||◌, nat_eq, ◌≡◌, ℕ, refl}
use Rattle.ciel_want_marks.specs.Lists.{at, flag}
use Rattle.ciel_journal.specs.Job.{In}
use Rattle.ciel_want_marks.specs.Marks.{MarksSeen, Stands}
use Rattle.ciel_want_marks.specs.Moves.{MakesDead}
use Rattle.ciel_want_marks.proofs.Slots.{not_both}
use Rattle.ciel_want_marks.proofs.ClosedNode.{closes_ended, closes_open, closes_unwanted, not_open, not_open_touched, open_not, open_why}
use Rattle.ciel_want_marks.proofs.marks.Marks.close.Goals as goal

pub returns-then-not-is_wanted-clause-stands : goal.returns-then-not-is_wanted-clause-stands
returns-then-not-is_wanted-clause-stands c =
    λ e needs was r. let m = c.args.self.now in
    let u = c.args.node in
    let z = ap (λ (x : MarksSeen). flag x.wanted u) (sym c.set_out.ensures) ∙ (sym c.is_wanted.ensures ∙ c.if-not-is_wanted.true) in
    subst (λ x. Stands x needs [] []) (sym c.set_out.ensures) (closes_unwanted m u needs r was z)

pub returns-then-goes_on-clause-stands : goal.returns-then-goes_on-clause-stands
returns-then-goes_on-clause-stands c =
    λ e needs was r. let m = c.args.self.now in
    let u = c.args.node in
    let n = c.set_out.new.self in
    let z = sym c.goes_on.ensures ∙ c.if-goes_on.true in
    let t = open_why u (flag m.touched u) (subst (λ (x : MarksSeen). nat_eq u 0 || not (flag x.touched u) ≡ true) c.set_out.ensures z) in
    let p = c.in_ok-open.ensures.opened ∙ ap (λ (x : MarksSeen). record x { todo = x.todo ++ u ∷ [] }) c.set_out.ensures in
    subst (λ x. Stands x needs [] []) (sym p) (closes_open m u needs r was t)

pub returns-clause-stands : goal.returns-clause-stands
returns-clause-stands c =
    λ e needs was r. let m = c.args.self.now in
    let u = c.args.node in
    let z = sym c.goes_on.ensures ∙ c.if-goes_on.false in
    let p = c.forget.ensures ∙ ap (λ (x : MarksSeen). record x { wanted = set x.wanted u false; touched = set x.touched u false })
    c.set_out.ensures in
    let all = subst (λ (x : MarksSeen). (r : ℕ) → In r (at x.makes u) → flag x.live r ≡ true) c.set_out.ensures
    (c.all_live.ensures.all c.if-not-all_live.false) in
    subst (λ x. Stands x needs [] []) (sym p) (closes_ended m u needs r was (not_open u (flag c.set_out.new.self.touched u) z) all)

pub returns-then-not-is_wanted-clause-cause : goal.returns-then-not-is_wanted-clause-cause
returns-then-not-is_wanted-clause-cause c =
    let u = c.args.node in
    let z = ap (λ (x : MarksSeen). flag x.wanted u) (sym c.set_out.ensures) ∙ (sym c.is_wanted.ensures ∙ c.if-not-is_wanted.true) in
    (λ e. cc, λ q. not_both (flag c.args.self.now.wanted u) q.0 z)

pub returns-then-goes_on-clause-cause : goal.returns-then-goes_on-clause-cause
returns-then-goes_on-clause-cause c =
    let m = c.args.self.now in
    let u = c.args.node in
    let t = subst (λ (x : MarksSeen). nat_eq u 0 || not (flag x.touched u) ≡ true) c.set_out.ensures
    (sym c.goes_on.ensures ∙ c.if-goes_on.true) in
    (λ e. cc, λ q. absurd (open_not u (flag m.touched u) t q.1 q.2))

pub returns-then-not-all_live-clause-cause : goal.returns-then-not-all_live-clause-cause
returns-then-not-all_live-clause-cause c =
    let m = c.args.self.now in
    let u = c.args.node in
    let w = ap (λ (x : MarksSeen). flag x.wanted u) (sym c.set_out.ensures) ∙ (sym c.is_wanted.ensures ∙ c.if-not-is_wanted.false) in
    let t = subst (λ (x : MarksSeen). nat_eq u 0 || not (flag x.touched u) ≡ false) c.set_out.ensures
    (sym c.goes_on.ensures ∙ c.if-goes_on.false) in
    let d = subst (MakesDead u) c.set_out.ensures (c.all_live.ensures.dead c.if-not-all_live.true) in
    (λ e. (w, not_open u (flag m.touched u) t, not_open_touched u (flag m.touched u) t, d), λ q. refl)

pub returns-clause-cause : goal.returns-clause-cause
returns-clause-cause c =
    let m = c.args.self.now in
    let all = subst (λ (x : MarksSeen). (r : ℕ) → In r (at x.makes c.args.node) → flag x.live r ≡ true) c.set_out.ensures
    (c.all_live.ensures.all c.if-not-all_live.false) in
    (λ e. cc, λ q. not_both (flag m.live q.3.0) (all q.3.0 q.3.1) q.3.2)
