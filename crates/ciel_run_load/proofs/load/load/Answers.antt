-- What was read is the job that the line names, or tells why there is none.
use Rattle.std.proofs.Common.{◌≡◌, ℕ, List, [], ◌∷◌, Option, Err, IfSome, map, sym, subst}
use Rattle.ciel_io.specs.Faults.{HasRisen}
use Rattle.ciel_io.specs.Tells.{Tells}
use Rattle.sky_parse.specs.Source.{IsScript}
use Rattle.ciel_run_load.specs.Found.{limit}
use Rattle.ciel_run_load.specs.Line.{Input, Line, paths_of}
use Rattle.ciel_run_load.specs.Reading.{AsksEach, ReadAll, StopsSo, UnreadOf, UnreadSo}
use Rattle.ciel_run_load.specs.Loading.{AsksJob, NotLoaded, StopsJob, unread}
use Rattle.ciel_run_load.specs.declared.load.NoJob.{NoJob}
use Rattle.ciel_run_load.proofs.Taken.{risen_before}
use Rattle.ciel_run_load.proofs.Loaded.{all_asked, all_fit, input_asked, input_stops, input_unread, loaded, script_asked, script_part, script_stops}
use Rattle.ciel_run_load.proofs.Loaded.{script_unread, syntax_is}
use Rattle.ciel_run_load.proofs.load.load.Goals as goal

pub returns-in-Err-clause-refused : goal.returns-in-Err-clause-refused
returns-in-Err-clause-refused g c =
    let risen = HasRisen (g.F.Files.faults c.args.files.now) (g.F.Files.faults c.read.new.files) in
    subst (NotLoaded (g.F.Files.content c.args.files.now) (record { script = c.args.path.now; inputs = c.args.named.now }) risen)
    (sym c.unread.ensures)
    (script_unread (g.F.Files.content c.args.files.now) c.args.path.now c.args.named.now risen c.in-Err.why
    (subst (λ (p : List ℕ). UnreadSo (g.F.Files.content c.args.files.now) p limit risen c.in-Err.why) c.in-Ok-share.ensures c.in-Err.ensures.unread))

pub returns-in-Err-clause-asks : goal.returns-in-Err-clause-asks
returns-in-Err-clause-asks g c =
    subst (λ (why : NoJob). AsksJob why (paths_of (record { script = c.args.path.now; inputs = c.args.named.now }))
    (g.F.Files.asked c.args.files.now) (g.F.Files.asked c.read.new.files)) (sym c.unread.ensures)
    (script_asked (g.F.Files.content c.args.files.now) c.args.path.now c.args.named.now (List ℕ) c.in-Err.why (g.F.Files.asked c.args.files.now)
    (g.F.Files.asked c.read.new.files)
    (subst (λ (p : List ℕ). AsksEach {A = List ℕ} (Err c.in-Err.why) (p ∷ []) (g.F.Files.asked c.args.files.now)
    (g.F.Files.asked c.read.new.files)) c.in-Ok-share.ensures c.in-Err.ensures.asks))

pub returns-in-Err-Memory-clause-asks : goal.returns-in-Err-Memory-clause-asks
returns-in-Err-Memory-clause-asks g c =
    let at : c.in-Ok-share.path ≡ c.args.path.now = c.in-Ok-share.ensures in
    script_part (g.F.Files.content c.args.files.now) c.args.path.now c.args.named.now (g.F.Files.asked c.args.files.now)
    (g.F.Files.asked c.read.new.files)
    (subst (λ (p : List ℕ). Tells (g.F.Files.asked c.args.files.now) (g.F.Files.asked c.read.new.files) (p ∷ [])) at c.in-Ok-read.ensures.asks)

pub returns-in-Ok-inputs-clause-job : goal.returns-in-Ok-inputs-clause-job
returns-in-Ok-inputs-clause-job g c =
    let found : IfSome (g.F.Files.content c.args.files.now c.args.path.now) (λ file. c.in-Ok-read.source ≡ file) =
    subst (λ (p : List ℕ). IfSome (g.F.Files.content c.args.files.now p) (λ file. c.in-Ok-read.source ≡ file)) c.in-Ok-share.ensures
    c.in-Ok-read.ensures.found in
    let is = subst (λ (bytes : List ℕ). IsScript bytes c.in-Ok.keys c.in-Ok-script.script) c.as_slice.ensures c.in-Ok-script.ensures.script in
    let all = subst (λ (content : List ℕ → Option (List ℕ)). ReadAll content c.args.named.now c.in-Ok-inputs.inputs) c.read.ensures.kept
    c.in-Ok-inputs.ensures.read in
    loaded (g.F.Files.content c.args.files.now) c.args.path.now c.args.named.now
    (record { script = c.in-Ok-script.script; inputs = c.in-Ok-inputs.inputs }) c.in-Ok-read.source c.in-Ok.keys found
    c.in-Ok-read.ensures.within c.in-Ok.ensures is all

pub returns-in-Ok-inputs-clause-read : goal.returns-in-Ok-inputs-clause-read
returns-in-Ok-inputs-clause-read g c =
    let found : IfSome (g.F.Files.content c.args.files.now c.args.path.now) (λ file. c.in-Ok-read.source ≡ file) =
    subst (λ (p : List ℕ). IfSome (g.F.Files.content c.args.files.now p) (λ file. c.in-Ok-read.source ≡ file)) c.in-Ok-share.ensures
    c.in-Ok-read.ensures.found in
    let is = subst (λ (bytes : List ℕ). IsScript bytes c.in-Ok.keys c.in-Ok-script.script) c.as_slice.ensures c.in-Ok-script.ensures.script in
    let all = subst (λ (content : List ℕ → Option (List ℕ)). ReadAll content c.args.named.now c.in-Ok-inputs.inputs) c.read.ensures.kept
    c.in-Ok-inputs.ensures.read in
    all_fit (g.F.Files.content c.args.files.now) c.args.path.now c.args.named.now c.in-Ok-read.source c.in-Ok.keys c.in-Ok-script.script
    c.in-Ok-inputs.inputs found c.in-Ok-read.ensures.within c.in-Ok.ensures is all

pub returns-in-Ok-inputs-clause-asked : goal.returns-in-Ok-inputs-clause-asked
returns-in-Ok-inputs-clause-asked g c =
    let at : c.in-Ok-share.path ≡ c.args.path.now = c.in-Ok-share.ensures in
    all_asked (g.F.Files.content c.args.files.now) c.args.path.now c.args.named.now (g.F.Files.asked c.args.files.now)
    (g.F.Files.asked c.read.new.files) (g.F.Files.asked c.inputs.new.files)
    (subst (λ (p : List ℕ). Tells (g.F.Files.asked c.args.files.now) (g.F.Files.asked c.read.new.files) (p ∷ [])) at c.in-Ok-read.ensures.asks)
    c.in-Ok-inputs.ensures.asks

pub returns-in-Err-inputs-clause-refused : goal.returns-in-Err-inputs-clause-refused
returns-in-Err-inputs-clause-refused g c =
    let found : IfSome (g.F.Files.content c.args.files.now c.args.path.now) (λ file. c.in-Ok-read.source ≡ file) =
    subst (λ (p : List ℕ). IfSome (g.F.Files.content c.args.files.now p) (λ file. c.in-Ok-read.source ≡ file)) c.in-Ok-share.ensures
    c.in-Ok-read.ensures.found in
    let is = subst (λ (bytes : List ℕ). IsScript bytes c.in-Ok.keys c.in-Ok-script.script) c.as_slice.ensures c.in-Ok-script.ensures.script in
    let risen = HasRisen (g.F.Files.faults c.args.files.now) (g.F.Files.faults c.inputs.new.files) in
    let later = HasRisen (g.F.Files.faults c.read.new.files) (g.F.Files.faults c.inputs.new.files) in
    let why = subst (λ (content : List ℕ → Option (List ℕ)). UnreadOf content c.args.named.now later c.in-Err-inputs.why) c.read.ensures.kept
    c.in-Err-inputs.ensures.unread in
    subst (NotLoaded (g.F.Files.content c.args.files.now) (record { script = c.args.path.now; inputs = c.args.named.now }) risen)
    (sym c.unread-in-Err-inputs.ensures)
    (input_unread (g.F.Files.content c.args.files.now) c.args.path.now c.args.named.now later risen c.in-Err-inputs.why c.in-Ok-read.source
    c.in-Ok.keys c.in-Ok-script.script
    (risen_before (g.F.Files.faults c.args.files.now) (g.F.Files.faults c.read.new.files) (g.F.Files.faults c.inputs.new.files)
    c.in-Ok-read.ensures.never_falls)
    found c.in-Ok-read.ensures.within c.in-Ok.ensures is why)

pub returns-in-Err-inputs-clause-asks : goal.returns-in-Err-inputs-clause-asks
returns-in-Err-inputs-clause-asks g c =
    subst (λ (why : NoJob). AsksJob why (paths_of (record { script = c.args.path.now; inputs = c.args.named.now }))
    (g.F.Files.asked c.args.files.now) (g.F.Files.asked c.inputs.new.files)) (sym c.unread-in-Err-inputs.ensures)
    (input_asked (g.F.Files.content c.args.files.now) c.args.path.now c.args.named.now (List Input) c.in-Err-inputs.why
    (g.F.Files.asked c.args.files.now) (g.F.Files.asked c.read.new.files) (g.F.Files.asked c.inputs.new.files)
    (subst (λ (p : List ℕ). Tells (g.F.Files.asked c.args.files.now) (g.F.Files.asked c.read.new.files) (p ∷ [])) c.in-Ok-share.ensures
    c.in-Ok-read.ensures.asks) c.in-Err-inputs.ensures.asks)

pub returns-in-Err-clause-order : goal.returns-in-Err-clause-order
returns-in-Err-clause-order g c =
    subst (StopsJob (g.F.Files.content c.args.files.now) (record { script = c.args.path.now; inputs = c.args.named.now })
    (g.F.Files.asked c.args.files.now) (g.F.Files.asked c.read.new.files)) (sym c.unread.ensures)
    (script_stops (g.F.Files.content c.args.files.now) c.args.path.now c.args.named.now (List ℕ) c.in-Err.why (g.F.Files.asked c.args.files.now)
    (g.F.Files.asked c.read.new.files)
    (subst (λ (p : List ℕ). AsksEach {A = List ℕ} (Err c.in-Err.why) (p ∷ []) (g.F.Files.asked c.args.files.now)
    (g.F.Files.asked c.read.new.files)) c.in-Ok-share.ensures c.in-Err.ensures.asks))

pub returns-in-Err-inputs-clause-order : goal.returns-in-Err-inputs-clause-order
returns-in-Err-inputs-clause-order g c =
    let found : IfSome (g.F.Files.content c.args.files.now c.args.path.now) (λ file. c.in-Ok-read.source ≡ file) =
    subst (λ (p : List ℕ). IfSome (g.F.Files.content c.args.files.now p) (λ file. c.in-Ok-read.source ≡ file)) c.in-Ok-share.ensures
    c.in-Ok-read.ensures.found in
    let is = subst (λ (bytes : List ℕ). IsScript bytes c.in-Ok.keys c.in-Ok-script.script) c.as_slice.ensures c.in-Ok-script.ensures.script in
    let order = subst (λ (content : List ℕ → Option (List ℕ)). StopsSo content c.args.named.now (g.F.Files.asked c.read.new.files)
    (g.F.Files.asked c.inputs.new.files) c.in-Err-inputs.why) c.read.ensures.kept c.in-Err-inputs.ensures.order in
    subst (StopsJob (g.F.Files.content c.args.files.now) (record { script = c.args.path.now; inputs = c.args.named.now })
    (g.F.Files.asked c.args.files.now) (g.F.Files.asked c.inputs.new.files)) (sym c.unread-in-Err-inputs.ensures)
    (input_stops (g.F.Files.content c.args.files.now) c.args.path.now c.args.named.now c.in-Err-inputs.why (g.F.Files.asked c.args.files.now)
    (g.F.Files.asked c.read.new.files) (g.F.Files.asked c.inputs.new.files) c.in-Ok-read.source c.in-Ok.keys c.in-Ok-script.script found
    c.in-Ok-read.ensures.within c.in-Ok.ensures is
    (subst (λ (p : List ℕ). Tells (g.F.Files.asked c.args.files.now) (g.F.Files.asked c.read.new.files) (p ∷ [])) c.in-Ok-share.ensures
    c.in-Ok-read.ensures.asks) order)
