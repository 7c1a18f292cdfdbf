-- The first input and those behind it.
use Rattle.std.proofs.Common.{◌≡◌, ℕ, List, ◌∷◌, Err, IfErr, map, sym, subst}
use Rattle.ciel_io.specs.Faults.{HasRisen}
use Rattle.ciel_io.specs.Tells.{TellsPart}
use Rattle.ciel_run_load.specs.Line.{Input, path_in}
use Rattle.ciel_run_load.specs.Reading.{UnreadOf, AsksEach, StopsSo}
use Rattle.ciel_run_load.proofs.Taken.{asks_first, asks_more, results_later, risen_before, stops_first, stops_later}
use Rattle.ciel_run_load.proofs.inputs.+read_on.Goals as goal

abbrev Named : Type 0
Named = List ℕ × List ℕ

pub returns-then-is_err-clause-asks : goal.returns-then-is_err-clause-asks
returns-then-is_err-clause-asks g t c =
    let first : c.args.inputs.now ≡ c.in-Some.first.now ∷ c.in-Some.more.now = c.in-Some.ensures.cases.0 in
    subst (λ (is : List Named). TellsPart (g.F.Files.asked c.args.files.now) (g.F.Files.asked c.input.new.files) (map path_in is)) (sym first)
    (1, c.in-Ok.ensures.asks)

pub returns-clause-unread : goal.returns-clause-unread
returns-clause-unread g t c =
    let first : c.args.inputs.now ≡ c.in-Some.first.now ∷ c.in-Some.more.now = c.in-Some.ensures.cases.0 in
    let later = subst (λ (content : List ℕ → _). IfErr c.read_on.result
    (UnreadOf content c.in-Some.more.now (HasRisen (g.F.Files.faults c.input.new.files) (g.F.Files.faults c.read_on.new.files))))
    c.in-Ok.ensures.kept c.read_on.ensures.unread in
    subst (λ (is : List Named). IfErr c.read_on.result
    (UnreadOf (g.F.Files.content c.args.files.now) is (HasRisen (g.F.Files.faults c.args.files.now) (g.F.Files.faults c.read_on.new.files))))
    (sym first)
    (results_later (g.F.Files.content c.args.files.now) c.in-Some.first.now c.in-Some.more.now c.in-Ok.input
    (HasRisen (g.F.Files.faults c.input.new.files) (g.F.Files.faults c.read_on.new.files))
    (HasRisen (g.F.Files.faults c.args.files.now) (g.F.Files.faults c.read_on.new.files)) c.read_on.result
    (risen_before (g.F.Files.faults c.args.files.now) (g.F.Files.faults c.input.new.files) (g.F.Files.faults c.read_on.new.files)
    c.in-Ok.ensures.never_falls) c.in-Ok.ensures.read later)

pub returns-clause-asks : goal.returns-clause-asks
returns-clause-asks g t c =
    let first : c.args.inputs.now ≡ c.in-Some.first.now ∷ c.in-Some.more.now = c.in-Some.ensures.cases.0 in
    subst (λ (is : List Named). AsksEach c.read_on.result (map path_in is) (g.F.Files.asked c.args.files.now)
    (g.F.Files.asked c.read_on.new.files)) (sym first)
    (asks_more c.read_on.result (g.F.Files.asked c.args.files.now) (g.F.Files.asked c.input.new.files) (g.F.Files.asked c.read_on.new.files)
    (path_in c.in-Some.first.now) (map path_in c.in-Some.more.now) c.in-Ok.ensures.asks c.read_on.ensures.asks)

pub returns-in-Err-clause-asks : goal.returns-in-Err-clause-asks
returns-in-Err-clause-asks g t c =
    let first : c.args.inputs.now ≡ c.in-Some.first.now ∷ c.in-Some.more.now = c.in-Some.ensures.cases.0 in
    subst (λ (is : List Named). AsksEach {A = Unit {0}} (Err c.in-Err.why) (map path_in is) (g.F.Files.asked c.args.files.now)
    (g.F.Files.asked c.input.new.files)) (sym first)
    (asks_first Input (Unit {0}) c.in-Err.why (g.F.Files.asked c.args.files.now) (g.F.Files.asked c.input.new.files)
    (path_in c.in-Some.first.now) (map path_in c.in-Some.more.now) c.in-Err.ensures.asks)

pub returns-clause-order : goal.returns-clause-order
returns-clause-order g t c =
    let first : c.args.inputs.now ≡ c.in-Some.first.now ∷ c.in-Some.more.now = c.in-Some.ensures.cases.0 in
    let later = subst (λ (content : List ℕ → _). IfErr c.read_on.result
    (StopsSo content c.in-Some.more.now (g.F.Files.asked c.input.new.files) (g.F.Files.asked c.read_on.new.files))) c.in-Ok.ensures.kept
    c.read_on.ensures.order in
    subst (λ (is : List Named). IfErr c.read_on.result
    (StopsSo (g.F.Files.content c.args.files.now) is (g.F.Files.asked c.args.files.now) (g.F.Files.asked c.read_on.new.files))) (sym first)
    (stops_later (g.F.Files.content c.args.files.now) c.in-Some.first.now c.in-Some.more.now c.in-Ok.input (g.F.Files.asked c.args.files.now)
    (g.F.Files.asked c.input.new.files) (g.F.Files.asked c.read_on.new.files) c.read_on.result c.in-Ok.ensures.read c.in-Ok.ensures.asks later)

pub returns-in-Err-clause-order : goal.returns-in-Err-clause-order
returns-in-Err-clause-order g t c =
    let first : c.args.inputs.now ≡ c.in-Some.first.now ∷ c.in-Some.more.now = c.in-Some.ensures.cases.0 in
    subst (λ (is : List Named). StopsSo (g.F.Files.content c.args.files.now) is (g.F.Files.asked c.args.files.now)
    (g.F.Files.asked c.input.new.files) c.in-Err.why) (sym first)
    (stops_first Input (g.F.Files.content c.args.files.now) c.in-Some.first.now c.in-Some.more.now c.in-Err.why
    (g.F.Files.asked c.args.files.now) (g.F.Files.asked c.input.new.files) c.in-Err.ensures.asks)
