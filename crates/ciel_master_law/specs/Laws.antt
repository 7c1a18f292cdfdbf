-- The real job as the master knows it.
use Rattle.std.specs.Prelude.{ℕ, List, Option}
use Rattle.sky_base.specs.Name.{digested, low_desc, name}
use Rattle.sky_base.specs.Needed as n
use Rattle.sky_base.specs.See as s
use Rattle.sky_base_law.specs.NamesLaws.{no_name}
use Rattle.sky_base_law.specs.Refers.{PlainReads}
use Rattle.sky_base_law.specs.Sound.{SoundReads}
use Rattle.sky_base_law.specs.Tasks.{Each}
use Rattle.ciel_journal.specs.Job.{Digest, Task}
use Rattle.ciel_journal_job.specs.Inner.{real_inner}
use Rattle.ciel_journal_job.specs.Real.{real_job}
use Rattle.ciel_master_board.specs.Setting.{IsSetting, Setting}
use Rattle.sky_parse_law.specs.Orderly.{Orderly}

module _ {P B : Type 0} where
  -- the job that a script means, with the names of this digest, and whatever lies at places
  abbrev pub real_setting : (List ℕ → List ℕ) → s.Job → s.Around → (s.Obj → Digest) → (n.State → Digest) → (P → ℕ) → (P → B)
      → (ℕ → s.Desc → Option B) → (ℕ → Task s.Desc → ℕ → Option B) → Setting s.Desc P B
  real_setting digest job around mark frozen at block object state =
      record {
        job = real_job job around (name no_name (digested digest)) mark frozen;
        keys = job.script.keys;
        inner = real_inner job around;
        lower = low_desc no_name (digested digest);
        digest = digest;
        at = at;
        block = block;
        object = object;
        state = state;
      }

abbrev pub RealIsSetting : Type 0 → Type 0 → Type 0
RealIsSetting P B =
    (digest : List ℕ → List ℕ) (job : s.Job) (around : s.Around) (mark : s.Obj → Digest) (frozen : n.State → Digest)
    (at : P → ℕ) (block : P → B) (object : ℕ → s.Desc → Option B) (state : ℕ → Task s.Desc → ℕ → Option B)
    → PlainReads around → SoundReads job.script around → Each Orderly job.script.funs
    → IsSetting (real_setting digest job around mark frozen at block object state)
