use Rattle.std.proofs.Common.{sym, subst}
use Rattle.sky_base.specs.Tree.{Script}
use Rattle.sky_base_law.specs.Tasks.{Each}
use Rattle.sky_parse_law.specs.Orderly.{Orderly}
use Rattle.sky_parse_law.proofs.NonemptyNames.{tops_named}
use Rattle.sky_parse_law.proofs.Ordered.{script_orderly}
use Rattle.sky_parse_law.proofs.law.functions_are_orderly.Goals as goal

pub returns : goal.returns
returns c = record {
  orderly = λ source keys script is. subst (λ (s : Script). Each Orderly s.funs) (sym is.4)
      (script_orderly keys is.1 (tops_named source is.0 is.1 is.2 is.3.0.1) is.3.2);
}
