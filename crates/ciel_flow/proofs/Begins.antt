-- What is begun is a stream of what the task reads.
use Rattle.std.proofs.Common.{◌≡◌, ℕ, List, [], true, Some, ap, sym, ◌∙◌}
use Rattle.std.specs.declared.alloc.Global.{Global}
use Rattle.sky_base.specs.JobView.{job_view}
use Rattle.sky_base.specs.View.{view}
use Rattle.sky_base.specs.declared.object.Desc1.{Desc1}
use Rattle.sky_base.specs.declared.value.Value.{Value}
use Rattle.sky_base_exec.specs.Perform.{slots}
use Rattle.line_kit.specs.Table.{executor_of}
use Rattle.ciel_master_safe.specs.Order.{Order}
use Rattle.ciel_master_safe.specs.Shop.{Shop}
use Rattle.ciel_task_crew.specs.Hints.{LeadsTo}
use Rattle.ciel_flow_pieces.specs.Pieces.{StreamSeen}
use Rattle.ciel_flow_pieces.specs.Source.{hands_out}
use Rattle.ciel_flow_work.specs.Flowing.{source_of}
use Rattle.ciel_flow.specs.Streaming.{IsBegun, ReadsOutput}

-- by the name that was handed on
pub handed : {consumer : Desc1} {y z : List ℕ} {read : Value} {m first : ℕ} → consumer ≡ Desc1.Exec y read m first → z ≡ y
    → consumer ≡ Desc1.Exec z read m first
handed {read = read} {m = m} {first = first} e same = e ∙ ap (λ x. Desc1.Exec x read m first) (sym same)

module _ {K N R : Type 0} (digest : N → List ℕ → List ℕ) (shop : Shop K N) (order : Order) (consumer : Desc1) (leads : LeadsTo digest shop order consumer)
    (x : List ℕ) (a : Value) (n i : ℕ) (desc : order.desc ≡ Some (Desc1.Exec x a n 0)) (hands : hands_out (executor_of x) ≡ true)
    (y : List ℕ) (read : Value) (m first : ℕ) (call : consumer ≡ Desc1.Exec y read m first) (reads : ReadsOutput (digest shop.namer) read x a n i) where
  pub begun_as : (lane : ℕ) (rt : R) (alloc : Global) (slotted : Value) (producer follower : StreamSeen) → view slotted ≡ slots (view read)
      → producer ≡ record { source = source_of (job_view shop.job).inputs order.inputs.items x a n i; pieces = [] } → follower ≡ producer
      → IsBegun digest shop order record {
        lane = lane;
        consumer = consumer;
        follow = record { rt = rt; alloc = alloc; executor = y; args = slotted; outputs = m; follower = follower };
        producer = producer;
        index = i;
      }
  begun_as lane rt alloc slotted producer follower put is taken =
      let source = ap (λ (s : StreamSeen). s.source) is in
      let fresh = ap (λ (s : StreamSeen). s.pieces) is in
      record {
        led = record {
          executor = x;
          args = a;
          outputs = n;
          desc = desc;
          led = record { source = source; hands = hands; fresh = fresh };
        };
        fresh = ap (λ (s : StreamSeen). s.pieces) taken ∙ fresh;
        reads = record {
          order = order;
          leads = leads;
          read = read;
          first = first;
          call = call;
          slotted = put;
          index = i;
          executor = x;
          args = a;
          outputs = n;
          desc = desc;
          reads = reads;
          source = ap (λ (s : StreamSeen). s.source) taken ∙ source;
        };
      }
