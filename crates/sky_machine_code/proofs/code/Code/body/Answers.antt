use Rattle.std.proofs.Common.{◌≡◌, ◌≢◌, [], Some, sym, ap, ◌∙◌, slice_index, arith, ltb-false, length, rules}
use Rattle.sky_base.specs.Eval.{find_fun, body_of}
use Rattle.sky_base.specs.ScriptView.{fun_view}
use Rattle.sky_base_scope.specs.FunPlace.{fun_place}
use Rattle.sky_base_scope.proofs.FunPlaces.{found_at, found_within}
use Rattle.sky_machine_code.proofs.Bodies.{body_none, body_some}
use Rattle.sky_machine_code.proofs.code.Code.body.Goals as goal

pub returns-in_default : goal.returns-in_default
returns-in_default c =
    let there : c.args.name.now ≢ [] = search rules in
    ap (body_of c.args.name.now) (sym c.self.view_is) ∙ body_none c.args.name.now c.self.inside.program there (sym c.place.ensures ∙ c.in_default.is)

pub returns-in_default-get : goal.returns-in_default-get
returns-in_default-get c =
    let at = ap (fun_place c.args.name.now) c.funs.ensures ∙ sym c.place.ensures ∙ c.in-Some.is in
    absurd (omega (
      arith,
      ltb-false c.in-Some.place (length c.funs.result.now) (sym c.in_default-get.ensures.lookup.0),
      found_within c.args.name.now c.funs.result.now c.in-Some.place at,
    ))

pub returns : goal.returns
returns c =
    let there : c.args.name.now ≢ [] = search rules in
    let x = c.args.name.now in
    let sc = c.self.inside.program in
    let f = c.in-Some-get.fun.now in
    let at = ap (fun_place x) c.funs.ensures ∙ sym c.place.ensures ∙ c.in-Some.is in
    let found : find_fun x sc.funs ≡ Some (fun_view f) = ap (find_fun x) (sym c.funs.ensures)
    ∙ found_at x c.funs.result.now c.in-Some.place f at c.in-Some-get.ensures.lookup.1 in
    let node = c.number_at.ensures ∙ ap (λ ns. slice_index ns c.in-Some.place) c.self.invariant.1 in
    ap (body_of x) (sym c.self.view_is) ∙ body_some x sc c.in-Some.place (fun_view f) there (sym c.place.ensures ∙ c.in-Some.is) found
    ∙ ap (λ n. Some (record { params = f.params; block = f.body; node = n })) (sym node)
    ∙ ap (λ ps. Some (record { params = ps; block = f.body; node = c.number_at.result })) (sym c.as_slice.ensures)
