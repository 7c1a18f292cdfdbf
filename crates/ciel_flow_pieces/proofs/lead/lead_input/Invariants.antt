use Rattle.std.proofs.Common.{◌≡◌, length}
use Rattle.line_flow.specs.Told.{CanFeed, Told, grow}
use Rattle.ciel_flow_pieces.specs.Leads.{Leads, WasFed}
use Rattle.ciel_flow_pieces.specs.Pieces.{AllParts}
use Rattle.ciel_flow_pieces.proofs.lead.lead_input.Given as goal

abbrev pub invariant-loop-rest : goal.invariant-loop-rest
invariant-loop-rest g l = record {
  all : AllParts l.producer.pieces;
  source : l.producer.source ≡ l.fn.producer.source;
  on : (t : Told) → Leads l.fn.flow t l.fn.kept.items l.fn.producer → CanFeed t l.input
      → (u : Told) × Leads l.flow u l.kept.items l.producer × CanFeed u l.input × (grow l.input l.rest u.fed ≡ grow l.input l.bytes t.fed)
      × (u.executor ≡ t.executor) × (u.args ≡ t.args) × (u.outputs ≡ t.outputs);
}

abbrev pub decreases-loop-rest : goal.decreases-loop-rest
decreases-loop-rest g l = length l.rest
