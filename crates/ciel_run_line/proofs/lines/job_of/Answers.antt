-- The job that was loaded is that of the line.
use Rattle.std.proofs.Common.{◌≡◌, ℕ, List, [], map, subst, sym}
use Rattle.sky_base.specs.JobView.{job_view}
use Rattle.ciel_io.specs.Faults.{HasRisen}
use Rattle.ciel_run_load.specs.Line.{keys_of, name_in}
use Rattle.ciel_run_load.specs.Line as files
use Rattle.ciel_run_load.specs.Loading.{AllRead, AsksJob, IsLoaded, NotLoaded, StopsJob}
use Rattle.ciel_run_line.specs.Asked.{AsksFor, StopsFor}
use Rattle.ciel_run_line.specs.Causes.{NoneBefore}
use Rattle.ciel_run_line.specs.Line.{behind_job, files_of, paths_in}
use Rattle.ciel_run_line.proofs.Named.{few_inputs, loaded_all, loaded_of, not_loaded_asks, not_loaded_of, not_loaded_order, short_keys}
use Rattle.ciel_run_line.proofs.lines.job_of.Goals as goal

pub returns-in-Ok-clause-job : goal.returns-in-Ok-clause-job
returns-in-Ok-clause-job g c =
    loaded_of (g.F.Files.content c.args.files.now) c.args.line.now c.in-Some.path c.in-Ok.loaded.source (job_view c.in-Ok.loaded.job) c.in-Some.is
    (subst (λ (is : List (List ℕ × List ℕ)). IsLoaded (g.F.Files.content c.args.files.now) (record { script = c.in-Some.path; inputs = is })
    c.in-Ok.loaded.source (job_view c.in-Ok.loaded.job))
    c.as_slice.ensures c.in-Ok.ensures.job)

pub returns-in-Ok-clause-keys : goal.returns-in-Ok-clause-keys
returns-in-Ok-clause-keys g c =
    let named = subst (λ (is : List (List ℕ × List ℕ)). keys_of (job_view c.in-Ok.loaded.job).inputs ≡ map name_in is) c.as_slice.ensures
    c.in-Ok.ensures.job.read.named in
    short_keys c.args.line.now.inputs (job_view c.in-Ok.loaded.job).inputs named c.requires.line.keys

pub returns-in-Ok-clause-few : goal.returns-in-Ok-clause-few
returns-in-Ok-clause-few g c =
    let named = subst (λ (is : List (List ℕ × List ℕ)). keys_of (job_view c.in-Ok.loaded.job).inputs ≡ map name_in is) c.as_slice.ensures
    c.in-Ok.ensures.job.read.named in
    few_inputs c.args.line.now.inputs (job_view c.in-Ok.loaded.job).inputs named c.requires.line.inputs

pub returns-in-Err-clause-none : goal.returns-in-Err-clause-none
returns-in-Err-clause-none g c =
    let content = g.F.Files.content c.args.files.now in
    let risen = HasRisen (g.F.Files.faults c.args.files.now) (g.F.Files.faults c.load.new.files) in
    subst (NoneBefore content c.args.line.now risen []) (sym c.why_no_job.ensures)
    (not_loaded_of content c.args.line.now risen c.in-Some.path c.in-Err.no c.in-Some.is
    (subst (λ (is : List (List ℕ × List ℕ)). NotLoaded content (record { script = c.in-Some.path; inputs = is }) risen c.in-Err.no)
    c.as_slice.ensures c.in-Err.ensures.refused))

pub returns-in-Ok-clause-all : goal.returns-in-Ok-clause-all
returns-in-Ok-clause-all g c =
    loaded_all (g.F.Files.content c.args.files.now) c.args.line.now c.in-Some.path c.in-Some.is
    (subst (λ (is : List (List ℕ × List ℕ)). AllRead (g.F.Files.content c.args.files.now) (record { script = c.in-Some.path; inputs = is }))
    c.as_slice.ensures c.in-Ok.ensures.read)

pub returns-in-Err-clause-asks : goal.returns-in-Err-clause-asks
returns-in-Err-clause-asks g c =
    let w = c.args.line.now in
    let b = g.F.Files.asked c.args.files.now in
    let n = g.F.Files.asked c.load.new.files in
    subst (λ y. AsksFor y (paths_in (files_of w)) (behind_job w) b n) (sym c.why_no_job.ensures)
    (not_loaded_asks (g.F.Files.content c.args.files.now) w c.in-Some.path c.in-Err.no (behind_job w) b n c.in-Some.is
    (subst (λ (is : List (List ℕ × List ℕ)). AsksJob c.in-Err.no (files.paths_of (record { script = c.in-Some.path; inputs = is })) b n)
    c.as_slice.ensures c.in-Err.ensures.asks))

pub returns-in-Err-clause-order : goal.returns-in-Err-clause-order
returns-in-Err-clause-order g c =
    let w = c.args.line.now in
    let content = g.F.Files.content c.args.files.now in
    let b = g.F.Files.asked c.args.files.now in
    let n = g.F.Files.asked c.load.new.files in
    subst (StopsFor content (files_of w) w.memo w.resume b n) (sym c.why_no_job.ensures)
    (not_loaded_order content w c.in-Some.path c.in-Err.no b n c.in-Some.is
    (subst (λ (is : List (List ℕ × List ℕ)). StopsJob content (record { script = c.in-Some.path; inputs = is }) b n c.in-Err.no)
    c.as_slice.ensures c.in-Err.ensures.order))
