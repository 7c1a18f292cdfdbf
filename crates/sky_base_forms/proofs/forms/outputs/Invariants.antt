use Rattle.std.proofs.Common.{◌≡◌, ◌-◌, List, ◌++◌, length}
use Rattle.sky_base.specs.Names.{known_of as known_names}
use Rattle.sky_base.specs.View.{view}
use Rattle.sky_base.specs.Eval.{outputs}
use Rattle.sky_base_known.specs.Walk.{Row}
use Rattle.sky_base_scope.specs.Plain.{Out, learn_all}
use Rattle.sky_base_forms.proofs.forms.outputs.Given as goal

abbrev pub invariant-loop-index : goal.invariant-loop-index
invariant-loop-index l = record {
  count : length l.names ≡ l.index;
  same : (k : List Row → List Row → Out) → learn_all (outputs l.executor (view l.args) l.n 0 l.n) l.fn.rows k
      ≡ learn_all (outputs l.executor (view l.args) l.n l.index (l.n - l.index)) l.rows (λ ns last. k (known_names l.names ++ ns) last);
}
