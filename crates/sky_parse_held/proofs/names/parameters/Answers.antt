use Rattle.std.proofs.Common.{◌∙◌, ap, ◌++◌, ◌∷◌, [], List, ℕ, ◌≡◌, sym, ◌+◌, drop, arith}
use Rattle.sky_base.specs.TreeView.{at}
use Rattle.sky_base.specs.Eval.{is_one_of}
use Rattle.sky_parse_grammar.specs.Source.{Param}
use Rattle.sky_parse_grammar.specs.Nesting.{place_of}
use Rattle.sky_parse_held.specs.Params.{params_view}
use Rattle.sky_parse_held.proofs.NamesLaw.{known_more, param_at, names_read, same_read}
use Rattle.sky_parse_held.proofs.names.parameters.Goals as goal

pub loop-param-preserved : goal.loop-param-preserved
loop-param-preserved c =
    let l = c.loop-param in
    let x = c.param-item.result in
    let p : Param = record { name = x.name; place = at x.line x.col } in
    let all = c.args.params.now in
    let next = param_at all l.param-index x (omega arith) c.param-item.is in
    let items : c.push.new.self.items ≡ l.items.items ++ x.name ∷ [] = c.in-Ok.ensures.items
    ∙ ap (λ (n : List ℕ). l.items.items ++ n ∷ []) c.in_ok-share.ensures in
    record {
      names = names_read l.items.items c.push.new.self.items p (params_view (drop l.param-index all))
          (params_view (drop (l.param-index + 1) all)) (params_view all) next items l.invariant.names;
      known = λ z. known_more x.name l.known c.put.new.self l.items.items c.in_ok-twice.ensures.keys l.invariant.known z
          ∙ ap (is_one_of z) (sym items);
      same = same_read (place_of l.same) (place_of c.noted-same.result) c.in_ok-twice.twice l.items.items c.push.new.self.items p
          (params_view (drop l.param-index all)) (params_view (drop (l.param-index + 1) all)) (params_view all) next items
          (c.in_ok-twice.ensures.was ∙ l.invariant.known x.name) c.noted-same.ensures l.invariant.same;
    }
