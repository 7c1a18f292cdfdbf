-- All that a line names was read, or the first that wasn't is told.
use Rattle.std.proofs.Common.{◌≡◌, ◌++◌, ◌∙◌, ℕ, List, [], Option, ap, sym, subst}
use Rattle.std.specs.Prelude.{IfSome}
use Rattle.std.proofs.lemmas.List.{append_assoc}
use Rattle.sky_base.specs.JobView.{job_view}
use Rattle.ciel_io.specs.Faults.{HasRisen}
use Rattle.ciel_io.specs.Tells.{Tells}
use Rattle.ciel_io.proofs.Joined.{tells_more}
use Rattle.ciel_log.specs.Logging.{most}
use Rattle.ciel_run_line.specs.Answering.{NoLogBy, NoMemoBy, Unread}
use Rattle.ciel_run_line.specs.Causes.{HasJob}
use Rattle.ciel_run_line.specs.Given.{IsRecalled}
use Rattle.ciel_run_line.specs.Line.{files_of, named, paths_in}
use Rattle.ciel_run_line.proofs.Comes.{of_job}
use Rattle.ciel_run_line.proofs.Last.{risen_later}
use Rattle.ciel_run_line.proofs.Named.{before_none, log_asks, log_job, log_order, memo_asks, memo_job, memo_order}
use Rattle.ciel_run_line.proofs.Recalled.{never_bad}
use Rattle.ciel_run_line.proofs.lines.read_line.Goals as goal

-- ---- the job wasn't read

pub returns-in-Err-clause-none : goal.returns-in-Err-clause-none
returns-in-Err-clause-none g c =
    before_none (g.F.Files.content c.args.files.now) c.args.line.now
    (HasRisen (g.F.Files.faults c.args.files.now) (g.F.Files.faults c.job_of.new.files)) c.in-Err.why c.in-Err.ensures.none

pub returns-in-Err-clause-before : goal.returns-in-Err-clause-before
returns-in-Err-clause-before g c = λ path bytes at named there bad. c.in-Err.ensures.none

-- ---- the memo wasn't read

pub returns-in-Err-recall-clause-none : goal.returns-in-Err-recall-clause-none
returns-in-Err-recall-clause-none g c =
    let content = g.F.Files.content c.args.files.now in
    let w = c.args.line.now in
    let f0 = g.F.Files.faults c.args.files.now in
    let f1 = g.F.Files.faults c.job_of.new.files in
    let f2 = g.F.Files.faults c.recall.new.files in
    let has : HasJob content w =
    (λ source inputs st. let here = c.in-Ok.ensures.job source inputs st in
    (here.0, of_job source inputs (job_view c.in-Ok.loaded.job) (λ j. Unit {0}) here.1 tt)) in
    before_none content w (HasRisen f0 f2) c.in-Err-recall.why
    (memo_job content w (HasRisen f1 f2) (HasRisen f0 f2) (risen_later f0 f1 f2 c.job_of.ensures.never_falls) has c.in-Err-recall.why
    (subst (λ (k : List ℕ → Option (List ℕ)). NoMemoBy k w.memo (HasRisen f1 f2) c.in-Err-recall.why) c.job_of.ensures.kept c.in-Err-recall.ensures.none))

pub returns-in-Err-recall-clause-before : goal.returns-in-Err-recall-clause-before
returns-in-Err-recall-clause-before g c = λ path bytes at named there bad.
    let content = g.F.Files.content c.args.files.now in
    let w = c.args.line.now in
    let f0 = g.F.Files.faults c.args.files.now in
    let f1 = g.F.Files.faults c.job_of.new.files in
    let f2 = g.F.Files.faults c.recall.new.files in
    let has : HasJob content w =
    (λ source inputs st. let here = c.in-Ok.ensures.job source inputs st in
    (here.0, of_job source inputs (job_view c.in-Ok.loaded.job) (λ j. Unit {0}) here.1 tt)) in
    memo_job content w (HasRisen f1 f2) (HasRisen f0 f2) (risen_later f0 f1 f2 c.job_of.ensures.never_falls) has c.in-Err-recall.why
    (subst (λ (k : List ℕ → Option (List ℕ)). NoMemoBy k w.memo (HasRisen f1 f2) c.in-Err-recall.why) c.job_of.ensures.kept c.in-Err-recall.ensures.none)

pub returns-in-Err-recall-clause-asks : goal.returns-in-Err-recall-clause-asks
returns-in-Err-recall-clause-asks g c =
    let content = g.F.Files.content c.args.files.now in
    let w = c.args.line.now in
    let ps = paths_in (files_of w) in
    let b = g.F.Files.asked c.args.files.now in
    let m = g.F.Files.asked c.job_of.new.files in
    let n = g.F.Files.asked c.recall.new.files in
    let f0 = g.F.Files.faults c.args.files.now in
    let f1 = g.F.Files.faults c.job_of.new.files in
    let f2 = g.F.Files.faults c.recall.new.files in
    memo_asks content w (HasRisen f1 f2) ps b m n c.in-Ok.ensures.asked c.in-Err-recall.why
    (subst (λ (k : List ℕ → Option (List ℕ)). NoMemoBy k w.memo (HasRisen f1 f2) c.in-Err-recall.why) c.job_of.ensures.kept c.in-Err-recall.ensures.none)
    c.in-Err-recall.ensures.asks

pub returns-in-Err-recall-clause-order : goal.returns-in-Err-recall-clause-order
returns-in-Err-recall-clause-order g c =
    let content = g.F.Files.content c.args.files.now in
    let w = c.args.line.now in
    let ps = paths_in (files_of w) in
    let b = g.F.Files.asked c.args.files.now in
    let m = g.F.Files.asked c.job_of.new.files in
    let n = g.F.Files.asked c.recall.new.files in
    let f0 = g.F.Files.faults c.args.files.now in
    let f1 = g.F.Files.faults c.job_of.new.files in
    let f2 = g.F.Files.faults c.recall.new.files in
    memo_order content (files_of w) w (HasRisen f1 f2) b m n c.in-Ok.ensures.asked c.in-Ok.ensures.all c.in-Err-recall.why
    (subst (λ (k : List ℕ → Option (List ℕ)). NoMemoBy k w.memo (HasRisen f1 f2) c.in-Err-recall.why) c.job_of.ensures.kept c.in-Err-recall.ensures.none)
    c.in-Err-recall.ensures.asks

-- ---- the log wasn't read

pub returns-in-Err-read_named-clause-none : goal.returns-in-Err-read_named-clause-none
returns-in-Err-read_named-clause-none g c =
    let content = g.F.Files.content c.args.files.now in
    let w = c.args.line.now in
    let ps = paths_in (files_of w) in
    let b = g.F.Files.asked c.args.files.now in
    let m = g.F.Files.asked c.job_of.new.files in
    let n = g.F.Files.asked c.recall.new.files in
    let f0 = g.F.Files.faults c.args.files.now in
    let f1 = g.F.Files.faults c.job_of.new.files in
    let f2 = g.F.Files.faults c.recall.new.files in
    let z = g.F.Files.asked c.read_named.new.files in
    let f3 = g.F.Files.faults c.read_named.new.files in
    let later = λ (r : HasRisen f2 f3). risen_later f0 f1 f3 c.job_of.ensures.never_falls (risen_later f1 f2 f3 c.recall.ensures.never_falls r) in
    let both = tells_more b m n ps (named w.memo) c.in-Ok.ensures.asked c.in-Ok-recall.ensures.asked in
    let has : HasJob content w =
    (λ source inputs st. let here = c.in-Ok.ensures.job source inputs st in
    (here.0, of_job source inputs (job_view c.in-Ok.loaded.job) (λ j. Unit {0}) here.1 tt)) in
    log_job content w (HasRisen f2 f3) (HasRisen f0 f3) later has c.in-Err-read_named.why
    (subst (λ (k : List ℕ → Option (List ℕ)). Unread k w.resume most (HasRisen f2 f3) c.in-Err-read_named.why)
    (c.recall.ensures.content ∙ c.job_of.ensures.kept) c.in-Err-read_named.ensures.none)

pub returns-in-Err-read_named-clause-before : goal.returns-in-Err-read_named-clause-before
returns-in-Err-read_named-clause-before g c = λ path bytes at named there bad.
    absurd (never_bad (g.F.Files.content c.args.files.now) c.args.line.now.memo path bytes at c.files_are_told_in_one_way.ensures.both named there bad
    (subst (λ (k : List ℕ → Option (List ℕ)). IsRecalled k c.args.line.now.memo) c.job_of.ensures.kept c.in-Ok-recall.ensures.recalled))

pub returns-in-Err-read_named-clause-asks : goal.returns-in-Err-read_named-clause-asks
returns-in-Err-read_named-clause-asks g c =
    let content = g.F.Files.content c.args.files.now in
    let w = c.args.line.now in
    let ps = paths_in (files_of w) in
    let b = g.F.Files.asked c.args.files.now in
    let m = g.F.Files.asked c.job_of.new.files in
    let n = g.F.Files.asked c.recall.new.files in
    let f0 = g.F.Files.faults c.args.files.now in
    let f1 = g.F.Files.faults c.job_of.new.files in
    let f2 = g.F.Files.faults c.recall.new.files in
    let z = g.F.Files.asked c.read_named.new.files in
    let f3 = g.F.Files.faults c.read_named.new.files in
    let later = λ (r : HasRisen f2 f3). risen_later f0 f1 f3 c.job_of.ensures.never_falls (risen_later f1 f2 f3 c.recall.ensures.never_falls r) in
    let both = tells_more b m n ps (named w.memo) c.in-Ok.ensures.asked c.in-Ok-recall.ensures.asked in
    log_asks content w most (HasRisen f2 f3) ps b n z both c.in-Err-read_named.why
    (subst (λ (k : List ℕ → Option (List ℕ)). Unread k w.resume most (HasRisen f2 f3) c.in-Err-read_named.why)
    (c.recall.ensures.content ∙ c.job_of.ensures.kept) c.in-Err-read_named.ensures.none)
    c.in-Err-read_named.ensures.asks

pub returns-in-Err-read_named-clause-order : goal.returns-in-Err-read_named-clause-order
returns-in-Err-read_named-clause-order g c =
    let content = g.F.Files.content c.args.files.now in
    let w = c.args.line.now in
    let ps = paths_in (files_of w) in
    let b = g.F.Files.asked c.args.files.now in
    let m = g.F.Files.asked c.job_of.new.files in
    let n = g.F.Files.asked c.recall.new.files in
    let f0 = g.F.Files.faults c.args.files.now in
    let f1 = g.F.Files.faults c.job_of.new.files in
    let f2 = g.F.Files.faults c.recall.new.files in
    let z = g.F.Files.asked c.read_named.new.files in
    let f3 = g.F.Files.faults c.read_named.new.files in
    let later = λ (r : HasRisen f2 f3). risen_later f0 f1 f3 c.job_of.ensures.never_falls (risen_later f1 f2 f3 c.recall.ensures.never_falls r) in
    let both = tells_more b m n ps (named w.memo) c.in-Ok.ensures.asked c.in-Ok-recall.ensures.asked in
    log_order content (files_of w) w most (HasRisen f2 f3) b n z both c.in-Ok.ensures.all
    (subst (λ (k : List ℕ → Option (List ℕ)). IsRecalled k w.memo) c.job_of.ensures.kept c.in-Ok-recall.ensures.recalled) c.in-Err-read_named.why
    (subst (λ (k : List ℕ → Option (List ℕ)). Unread k w.resume most (HasRisen f2 f3) c.in-Err-read_named.why)
    (c.recall.ensures.content ∙ c.job_of.ensures.kept) c.in-Err-read_named.ensures.none)
    c.in-Err-read_named.ensures.asks

-- ---- all was read

pub returns-in-Ok-read_named-clause-asked : goal.returns-in-Ok-read_named-clause-asked
returns-in-Ok-read_named-clause-asked g c =
    let content = g.F.Files.content c.args.files.now in
    let w = c.args.line.now in
    let ps = paths_in (files_of w) in
    let b = g.F.Files.asked c.args.files.now in
    let m = g.F.Files.asked c.job_of.new.files in
    let n = g.F.Files.asked c.recall.new.files in
    let f0 = g.F.Files.faults c.args.files.now in
    let f1 = g.F.Files.faults c.job_of.new.files in
    let f2 = g.F.Files.faults c.recall.new.files in
    let z = g.F.Files.asked c.read_named.new.files in
    let f3 = g.F.Files.faults c.read_named.new.files in
    let later = λ (r : HasRisen f2 f3). risen_later f0 f1 f3 c.job_of.ensures.never_falls (risen_later f1 f2 f3 c.recall.ensures.never_falls r) in
    let both = tells_more b m n ps (named w.memo) c.in-Ok.ensures.asked c.in-Ok-recall.ensures.asked in
    subst (Tells b z) (append_assoc ps (named w.memo) (named w.resume))
    (tells_more b n z (ps ++ named w.memo) (named w.resume) both c.in-Ok-read_named.ensures.asked)

pub returns-in-Ok-read_named-clause-recalled : goal.returns-in-Ok-read_named-clause-recalled
returns-in-Ok-read_named-clause-recalled g c =
    subst (λ (k : List ℕ → Option (List ℕ)). IsRecalled k c.args.line.now.memo) c.job_of.ensures.kept c.in-Ok-recall.ensures.recalled

pub returns-in-Ok-read_named-clause-found : goal.returns-in-Ok-read_named-clause-found
returns-in-Ok-read_named-clause-found g c =
    subst (λ (k : List ℕ → Option (List ℕ)). IfSome c.in-Ok-read_named.log (λ b. IfSome c.args.line.now.resume (λ path. IfSome (k path) (λ file. b ≡ file))))
    (c.recall.ensures.content ∙ c.job_of.ensures.kept) c.in-Ok-read_named.ensures.found
