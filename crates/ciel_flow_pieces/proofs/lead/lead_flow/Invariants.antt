use Rattle.std.proofs.Common.{◌≡◌, ◌≤◌, ◌-◌, [], ◌++◌, take}
use Rattle.std.specs.Prelude.{replicate}
use Rattle.line_flow.specs.Told.{Told}
use Rattle.ciel_flow_pieces.specs.Leads.{IsOf, Leads}
use Rattle.ciel_flow_pieces.specs.Pieces.{AllParts}
use Rattle.ciel_flow_pieces.proofs.lead.lead_flow.Given as goal

abbrev pub invariant-loop-input : goal.invariant-loop-input
invariant-loop-input g l = record {
  all : AllParts l.producer.pieces;
  source : l.producer.source ≡ l.fn.producer.source;
  on : (u : Told) × Leads l.flow u l.kept.items l.producer × IsOf l.producer.source u l.inputs
      × (u.fed ≡ take l.input l.inputs ++ replicate (l.count - l.input) []) × (u.last ≤ l.input);
}
