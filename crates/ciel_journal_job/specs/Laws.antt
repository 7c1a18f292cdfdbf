-- What the master may take a report for.
use Rattle.std.specs.Prelude.{◌≡◌, ◌≢◌, List, ◌∷◌, ◌++◌, Some, length, map}
use Rattle.ciel_journal.specs.Job.{Digest, Job, In, IsJob}
use Rattle.ciel_journal.specs.History.{Event, OpenStart, Plan, Standing, after, find_open, standing}
use Rattle.ciel_journal.specs.Known.{Inner, Knows}
use Rattle.ciel_journal.specs.Lawful.{Allowed, Lawful, NoClash}
use Rattle.ciel_journal.specs.Segment as segment
use Rattle.ciel_journal_job.specs.Report.{Exact, IsMissing, IsNew, Learns, Report, Says, report_of}

-- after a lawful history, the report of an order that is out, which says what the job does
pub record Reported {D B : Type 0} (job : Job D) (inner : Inner D) (lower : D → B) (p : Plan) (h : List (Event D)) (o : OpenStart D)
    (r : Report B) : Type 0 where
  pub lawful : Lawful job p h
  pub is_out : find_open job r.number (standing job h).orders ≡ Some o
  pub says : Says job inner lower o r

-- an allowed event that this report tells; no name stands for two descriptions after it, and these rows are the book
pub record TellsEvent {D B : Type 0} (job : Job D) (inner : Inner D) (lower : D → B) (p : Plan) (v : Standing D) (r : Report B)
    (rows : List B) : Type 0 where
  pub event : Event D
  pub report : report_of job inner lower event ≡ Some r
  pub allowed : Allowed job p v event
  pub apart : NoClash job (after job v event).book
  pub book : rows ≡ map lower (after job v event).book

-- what stood before this one in the report was learned, and these are the rows then
pub record Comes {D B : Type 0} (lower : D → B) (named : B → Digest) (v : Standing D) (r : Report B) (rows : List B) (given : B) : Type 0 where
  pub before : List B
  pub after : List B
  pub split : r.spawned ≡ before ++ given ∷ after
  pub learned : Learns named (map lower v.book) before rows

-- it says what the job does from an order on
abbrev pub SaidOf : {D B : Type 0} → (job : Job D) → Inner D → (D → B) → Standing D → Report B → Type 0
SaidOf job inner lower v r =
    (o : OpenStart _) × (find_open job r.number v.orders ≡ Some o) × Says job inner lower o r

-- its name stands for another one of these rows
pub record IsTaken {B : Type 0} (named : B → Digest) (rows : List B) (kept given : B) : Type 0 where
  pub there : In kept rows
  pub same : named kept ≡ named given
  pub other : kept ≢ given

-- two descriptions with these forms by names, of which an open Start makes the second next, where the first is known
pub record ClashTold {D B : Type 0} (job : Job D) (lower : D → B) (v : Standing D) (kept given : B) : Type 0 where
  pub first : D
  pub second : D
  pub is_kept : lower first ≡ kept
  pub is_given : lower second ≡ given
  pub clashes : segment.Clashes job v first second

-- a description with this form by names, which an open Start makes next, where so many are known
pub record OverflowTold {D B : Type 0} (job : Job D) (lower : D → B) (v : Standing D) (rows : List B) (given : B) : Type 0 where
  pub next : D
  pub is_given : lower next ≡ given
  pub overflows : segment.Overflows job v (length rows) next

module _ (D B : Type 0) where
  -- said of each job that tells where all comes from, with exact names, and of each such report
  abbrev OfReports : ((job : Job D) → Inner D → (D → B) → (B → Digest) → Plan → Standing D → Report B → Type 0) → Type 0
  OfReports P =
      (job : Job D) (inner : Inner D) (lower : D → B) (named : B → Digest)
      → IsJob job → Knows job inner → Exact job inner lower named
      → (p : Plan) (h : List (Event D)) (o : OpenStart D) (r : Report B) → Reported job inner lower p h o r
      → P job inner lower named p (standing job h) r

  -- where its spawned list is learned, it tells an event
  abbrev pub ReportsAreAllowed : Type 0
  ReportsAreAllowed =
      OfReports (λ job inner lower named p v r. (IsMissing r.end → ⊥)
      → (rows : List B) → Learns named (map lower v.book) r.spawned rows → TellsEvent job inner lower p v r rows)

  -- one that comes next and whose name is taken clashes with what has it
  abbrev pub ClashesAreTold : Type 0
  ClashesAreTold =
      OfReports (λ job inner lower named p v r. (rows : List B) (kept given : B)
      → Comes lower named v r rows given → IsTaken named rows kept given → ClashTold job lower v kept given)

  -- one that comes next and is new overflows where so many are known
  abbrev pub OverflowsAreTold : Type 0
  OverflowsAreTold =
      OfReports (λ job inner lower named p v r. (rows : List B) (given : B)
      → Comes lower named v r rows given → IsNew named rows given → OverflowTold job lower v rows given)

  -- each allowed event that closes a Start, but for a Missed, is said by the report that tells it
  abbrev pub AllowedIsSaid : Type 0
  AllowedIsSaid =
      (job : Job D) (inner : Inner D) (lower : D → B) (p : Plan) (v : Standing D) (e : Event D) (r : Report B)
      → Allowed job p v e → report_of job inner lower e ≡ Some r → (IsMissing r.end → ⊥) → SaidOf job inner lower v r
