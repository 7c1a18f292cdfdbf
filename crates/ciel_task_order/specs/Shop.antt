-- What a shop's job is to a master: descriptions by names, and what lies at places.
use Rattle.std.specs.Prelude.{◌≡◌, ℕ, List, map}
use Rattle.std.specs.Option.{option_map}
use Rattle.sky_base.specs.KitView.{Gives}
use Rattle.sky_base.specs.Needed as n
use Rattle.sky_base.specs.ObjectView.{object_view}
use Rattle.sky_base.specs.Res as logic
use Rattle.sky_base.specs.See as s
use Rattle.ciel_master_board.specs.Setting.{Setting}
use Rattle.ciel_json.specs.Around.{json_around}
use Rattle.ciel_master_board.specs.Inner.{real_inner}
use Rattle.ciel_master_board.specs.Real.{back}
use Rattle.ciel_store.specs.Seen.{PlaceSeen}
use Rattle.ciel_task_order.specs.Named.{by_names, object_by_names, shop_job, state_by_names}
use Rattle.ciel_task_order.specs.declared.block.Block as rust
use Rattle.sky_state.specs.Stand.{Stand}

-- the inputs of a job stand in the order of its script's keys
abbrev pub InputsInOrder : s.Job → Type 0
InputsInOrder job = map (λ (x : List ℕ × List ℕ). x.0) job.inputs ≡ job.script.keys

-- what lies at a place, by names: an object or a stack
pub data Block : Type 0 where
  object : logic.Object (List ℕ) → Block
  stack : Stand (List ℕ) → Block

abbrev pub block_view : rust.Block → Block
block_view (rust.Block.Object o) = Block.object (object_view o)
block_view (rust.Block.Frozen a) = Block.stack a

-- the job with the names that this digest gives, and the blocks of a shop
abbrev pub shop_setting : (List ℕ → List ℕ) → s.Job → Gives → Setting s.Desc (PlaceSeen rust.Block) Block
shop_setting digest job gives =
    record {
      job = shop_job digest job gives;
      keys = job.script.keys;
      inner = real_inner job (json_around gives);
      lower = by_names digest;
      digest = digest;
      at = λ p. p.worker;
      block = λ p. block_view p.at.value;
      object = λ k d. option_map (λ x. Block.object (object_by_names digest x)) (s.see job (json_around gives) k d);
      state = λ k t j. option_map (λ a. Block.stack (state_by_names digest a)) (n.stands_at job (json_around gives) k (back t) j);
    }
