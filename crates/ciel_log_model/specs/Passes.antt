-- What the job's own reports have, by names: what was spawned, objects, and what is waited for and held.
use Rattle.std.specs.Prelude.{ℕ, List, map}
use Rattle.sky_base.specs.Name.{held_name}
use Rattle.sky_base.specs.Res.{Object, object_refs}
use Rattle.sky_base.specs.Tree.{Script}
use Rattle.sky_base.specs.declared.object.Named.{Named}
use Rattle.sky_base_law.specs.Sound.{SoundDesc, SoundObject}
use Rattle.ciel_journal.specs.Job.{Each}
use Rattle.ciel_master_board.specs.Board.{start_refs}
use Rattle.ciel_master_board.specs.Reports.{learned_all, named_view}
use Rattle.ciel_master_safe.specs.Reports.{StandsWhole}
use Rattle.ciel_table.specs.Seen.{TableSeen}
use Rattle.ciel_want.specs.Waited.{AllKnown}

module _ {P : Type 0} (digest : List ℕ → List ℕ) (sc : Script) (t : TableSeen P) (ns : List Named) where
  -- each of these is allowed by the job, stands with all outputs of its task, and has inside it only what has a row once all are learned
  pub record SpawnedPasses : Type 0 where
    pub allowed : Each (λ (n : Named). SoundDesc sc (named_view n)) ns
    pub whole : Each (λ (n : Named). StandsWhole (map named_view ns) (named_view n)) ns
    pub inside : Each (λ (n : Named). AllKnown (learned_all digest ns t) (start_refs n.desc)) ns

  -- the object is allowed by the job, and all that it refers to has a row then
  pub record ObjectPasses (o : Object (List ℕ)) : Type 0 where
    pub allowed : SoundObject sc o
    pub known : AllKnown (learned_all digest ns t) (map held_name (object_refs o))
