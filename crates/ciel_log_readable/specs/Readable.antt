-- Logs each of whose records can be read.
use Rattle.std.specs.Prelude.{◌≤◌, ◌<◌, ◌^◌, ℕ, List, length}
use Rattle.sky_base.specs.KitView.{Gives}
use Rattle.sky_base.specs.Name.{digested}
use Rattle.sky_base.specs.See as s
use Rattle.sky_parse.specs.Source.{IsScript}
use Rattle.ciel_journal.specs.Entries.{Entry}
use Rattle.ciel_journal.specs.History.{Plan}
use Rattle.ciel_journal.specs.Job.{IsPrefix}
use Rattle.ciel_log.specs.Logs.{AllFit, Logs}
use Rattle.ciel_log_follows.specs.Begins.{AllReadable, BeginsLog}
use Rattle.ciel_log_read.specs.Recorded.{FitsBlock}
use Rattle.ciel_name_law.specs.Typed.{GivesNames}

-- the script is that of some bytes, at most 1,048,576
abbrev pub OfShortBytes : s.Job → Type 0
OfShortBytes job = (source : List ℕ) × (keys : List (List ℕ)) × IsScript source keys job.script × (length source ≤ 1048576)

-- nothing of a run of this job by this plan is too large for a record: its script is short, and names have 20 or 32 bytes
pub record IsWritable (digest : List ℕ → List ℕ) (job : s.Job) (p : Plan) : Type 0 where
  pub script : OfShortBytes job
  pub names : GivesNames (digested digest)
  pub workers : p.workers < 2 ^ 32
  pub losses : length p.losses < 2 ^ 32

module _ (digest : List ℕ → List ℕ) (job : s.Job) (gives : Gives) where
  -- the bytes begin a log of a journal, each of whose records has a length of four bytes, and which has itself one of eight
  pub record BeginsWritten (p : Plan) (header bytes : List ℕ) : Type 0 where
    pub journal : List Entry
    pub all : List ℕ
    pub log : Logs digest job gives p header journal all
    pub short : FitsBlock header
    pub fit : AllFit digest job gives log.records
    pub long : length all < 2 ^ 64
    pub prefix : IsPrefix bytes all

-- each record of such a log can be read
abbrev pub LogsAreReadable : Type 0
LogsAreReadable =
    (digest : List ℕ → List ℕ) (job : s.Job) (gives : Gives) (p : Plan) (header : List ℕ) (journal : List Entry) (all : List ℕ)
    → IsWritable digest job p → (l : Logs digest job gives p header journal all) → AllFit digest job gives l.records → length all < 2 ^ 64
    → AllReadable digest job gives l.records

-- so what begins such a log begins one that can be gone on from
abbrev pub BeginningsAreRead : Type 0
BeginningsAreRead =
    (digest : List ℕ → List ℕ) (job : s.Job) (gives : Gives) (p : Plan) (header bytes : List ℕ) → IsWritable digest job p
    → BeginsWritten digest job gives p header bytes → BeginsLog digest job gives p header bytes
