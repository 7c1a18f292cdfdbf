-- The job of a shop, by the names and marks that are given there.
use Rattle.std.specs.Prelude.{ℕ, List}
use Rattle.sha1.specs.Sha1.{sha1}
use Rattle.sky_base.specs.KitView.{Gives}
use Rattle.sky_base.specs.Name.{digested, low_desc, name}
use Rattle.sky_base.specs.Needed as n
use Rattle.sky_base.specs.Res.{Object}
use Rattle.sky_base.specs.See as s
use Rattle.sky_base.specs.Val as v
use Rattle.ciel_master_board.specs.Lower.{low_obj}
use Rattle.ciel_master_board.specs.NamesLaws.{no_name}
use Rattle.ciel_master_board.specs.Job.{Digest, Job}
use Rattle.ciel_json.specs.Around.{json_around}
use Rattle.ciel_master_board.specs.Real.{real_job}
use Rattle.ciel_master_board.specs.Object.{object_bytes}
use Rattle.sky_frozen_bytes.specs.Bytes.{frozen_bytes}
use Rattle.sky_state.specs.Stand.{Stand, low_state}

module _ (digest : List ℕ → List ℕ) where
  -- a description by names
  abbrev pub by_names : s.Desc → v.Desc (List ℕ)
  by_names d = low_desc no_name (digested digest) d

  abbrev pub name_of : s.Desc → Digest
  name_of d = name no_name (digested digest) d

  -- an object by names
  abbrev pub object_by_names : s.Obj → Object (List ℕ)
  object_by_names o = low_obj no_name (digested digest) o

  -- a state by names
  abbrev pub state_by_names : n.State → Stand (List ℕ)
  state_by_names a = low_state (digested digest) a

  -- the mark of an object, and of a state
  abbrev pub mark_of : s.Obj → Digest
  mark_of o = sha1 (object_bytes (object_by_names o))

  abbrev pub frozen_mark : n.State → Digest
  frozen_mark a = sha1 (frozen_bytes (state_by_names a))

  -- the job of a script over its inputs, with executors that give so
  abbrev pub shop_job : s.Job → Gives → Job s.Desc
  shop_job job gives = real_job job (json_around gives) name_of mark_of frozen_mark
