-- Descriptions by names, of the job that a script means.
use Rattle.std.specs.Prelude.{List, ℕ}
use Rattle.sky_base.specs.Name.{low_desc, name}
use Rattle.sky_base.specs.Needed as n
use Rattle.sky_base.specs.See as s
use Rattle.sky_base.specs.Val as v
use Rattle.sky_base_law.specs.NamesLaws.{no_name}
use Rattle.ciel_journal.specs.Job.{Digest}
use Rattle.ciel_journal_job.specs.Inner.{real_inner}
use Rattle.ciel_journal_job.specs.Real.{real_job}
use Rattle.ciel_journal_job.specs.Report.{Exact}

-- each tag of a description over names names the descriptions exactly
abbrev pub RealNamesAreExact : Type 0
RealNamesAreExact =
    (job : s.Job) (around : s.Around) (mark : s.Obj → Digest) (frozen : n.State → Digest) (tag : v.Desc (List ℕ) → Digest)
    → Exact (real_job job around (name no_name tag) mark frozen) (real_inner job around) (low_desc no_name tag) tag
