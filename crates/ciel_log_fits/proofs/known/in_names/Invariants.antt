-- All are known exactly where those that are left are.
use Rattle.std.proofs.Common.{◌≡◌, ℕ, List, drop, true}
use Rattle.std.specs.List.{AllByRecursion}
use Rattle.ciel_log_fits.specs.Known.{knows}
use Rattle.ciel_log_fits.proofs.known.in_names.Given as goal

abbrev pub invariant-loop-name : goal.invariant-loop-name
invariant-loop-name g l =
    (AllByRecursion (λ (n : List ℕ). knows l.after n ≡ true) (drop l.name-index l.names)
    → AllByRecursion (λ (n : List ℕ). knows l.after n ≡ true) l.names)
    × (AllByRecursion (λ (n : List ℕ). knows l.after n ≡ true) l.names
    → AllByRecursion (λ (n : List ℕ). knows l.after n ≡ true) (drop l.name-index l.names))
