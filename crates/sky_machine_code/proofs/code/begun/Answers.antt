use Rattle.std.proofs.Common.{◌≡◌, leb, true, false, leb-true, leb-false, rules, arith}
use Rattle.std.specs.List.Sorted.{IsPartitionPoint}
use Rattle.std.proofs.lemmas.List.Sorted.{IsPartitionedBy-leb, IsPartitionPoint-from_clause}
use Rattle.sky_machine_code.proofs.code.begun.Goals as goal

pub returns-clause-first : goal.returns-clause-first
returns-clause-first c = λ k h.
    let n = c.args.number in
    let point : IsPartitionPoint (λ y. leb y n ≡ true) (λ y. leb y n ≡ false) c.args.starts.now c.partition_point.result =
    IsPartitionPoint-from_clause (λ y. leb y n) c.args.starts.now c.partition_point.result c.partition_point.ensures.partitioned
    (IsPartitionedBy-leb (λ y. y) c.args.starts.now n c.requires) (λ a r f' called. search rules) in
    leb-true _ _ (point.0 k 0 (omega arith) h)

pub returns-clause-others : goal.returns-clause-others
returns-clause-others c = λ k h l.
    let n = c.args.number in
    let point : IsPartitionPoint (λ y. leb y n ≡ true) (λ y. leb y n ≡ false) c.args.starts.now c.partition_point.result =
    IsPartitionPoint-from_clause (λ y. leb y n) c.args.starts.now c.partition_point.result c.partition_point.ensures.partitioned
    (IsPartitionedBy-leb (λ y. y) c.args.starts.now n c.requires) (λ a r f' called. search rules) in
    leb-false _ _ (point.1 k 0 h l)
