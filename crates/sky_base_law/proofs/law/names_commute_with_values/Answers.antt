use Rattle.std.proofs.Common.{true}
use Rattle.sky_base_law.specs.NamesLaws.{no_name}
use Rattle.sky_base_law.proofs.Low.{plus_low, minus_low, times_low, over_low, rest_low, compare_low, index_low, set_at_low, append_low}
use Rattle.sky_base_law.proofs.RefsLow.{refs_low, distinct_refs_low}
use Rattle.sky_base_law.proofs.law.names_commute_with_values.Goals as goal

pub returns-clause-operators : goal.returns-clause-operators
returns-clause-operators c tag =
    record {
      plus = plus_low no_name tag;
      minus = minus_low no_name tag;
      times = times_low no_name tag;
      over = over_low no_name tag;
      rest =
          rest_low no_name tag;
      compare = compare_low no_name tag;
      index = index_low no_name tag;
      set_at = set_at_low no_name tag;
      append =
          append_low no_name tag;
    }

pub returns-clause-refs : goal.returns-clause-refs
returns-clause-refs c tag a = refs_low no_name tag a

pub returns-clause-distinct : goal.returns-clause-distinct
returns-clause-distinct c tag a apart = distinct_refs_low no_name tag (λ m n. true) (λ m n e. absurd m) (λ m. absurd m) a apart
