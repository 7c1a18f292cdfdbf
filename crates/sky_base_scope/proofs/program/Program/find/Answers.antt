use Rattle.std.proofs.Common.{◌≡◌, Some, sym, ap, ◌∙◌, arith, ltb-false, length}
use Rattle.sky_base.specs.Eval.{find_fun}
use Rattle.sky_base.specs.ScriptView.{funs_view}
use Rattle.sky_base_scope.specs.FunPlace.{fun_place}
use Rattle.sky_base_scope.proofs.FunPlaces.{place_none, found_within, found_at}
use Rattle.sky_base_scope.proofs.program.Program.find.Goals as goal

pub returns-in-Some-get : goal.returns-in-Some-get
returns-in-Some-get c =
    let x = c.args.name.now in
    let fs = c.as_slice.result.now in
    let k = c.in-Some.place in
    let same = c.as_slice.ensures ∙ c.funs.ensures in
    let e : fun_place x (funs_view fs) ≡ Some k = ap (fun_place x) same ∙ sym (c.self.invariant x) ∙ sym c.in-Some.ensures in
    ap (λ sc. find_fun x sc.funs) (sym c.self.view_is) ∙ ap (find_fun x) (sym same)
    ∙ found_at x fs k c.in-Some-get.fun.now e c.in-Some-get.ensures.lookup.1

pub returns-in-None-get : goal.returns-in-None-get
returns-in-None-get c =
    let x = c.args.name.now in
    let fs = c.as_slice.result.now in
    let k = c.in-Some.place in
    let same = c.as_slice.ensures ∙ c.funs.ensures in
    let e : fun_place x (funs_view fs) ≡ Some k = ap (fun_place x) same ∙ sym (c.self.invariant x) ∙ sym c.in-Some.ensures in
    absurd (omega (arith, ltb-false k (length fs) (sym c.in-None-get.ensures.lookup.0), found_within x fs k e))

pub returns-in-None : goal.returns-in-None
returns-in-None c =
    let x = c.args.name.now in
    ap (λ sc. find_fun x sc.funs) (sym c.self.view_is) ∙ place_none x c.self.inside.script.now.funs (sym (c.self.invariant x) ∙ sym c.in-None.ensures)
