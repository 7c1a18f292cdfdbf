use Rattle.std.proofs.Common.{ℕ, List, [], ◌∷◌, ◌++◌, refl, sym, ap, subst, ◌∙◌}
use Rattle.std.specs.Prelude.{replicate}
use Rattle.sky_base.specs.View.{view, pairs_of}
use Rattle.line_flow.specs.Told.{grow}
use Rattle.line_flow.specs.Kept.{Keeps}
use Rattle.line_flow.proofs.GrownInputs.{grow-nothing, ends-start}
use Rattle.line_flow.proofs.StandsLaw.{seen-start}
use Rattle.line_flow.proofs.flow.begin.Goals as goal

pub returns : goal.returns
returns c right inputs =
    let all = replicate inputs [] ++ [] ∷ [] in
    record {
      kind = c.args.kind;
      pairs = pairs_of c.args.pairs.now;
      settled = all;
      right = right;
      executor = c.in_ok-share.ensures;
      args = ap view c.in_ok-copy.ensures;
      outputs = refl;
      last = refl;
      fed = sym (grow-nothing 0 all) ∙ ap (λ (ys : List ℕ). grow 0 ys all) (sym c.new.ensures.items);
      ends = ends-start inputs;
      keeps = subst (Keeps c.in_ok-nothing.field-0 c.args.kind (pairs_of c.args.pairs.now) c.args.outputs (replicate c.args.outputs []))
          (sym (seen-start inputs)) c.in_ok-nothing.ensures;
    }
