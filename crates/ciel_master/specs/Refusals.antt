-- Why a report isn't taken, by what learning refuses, and what the state is then.
use Rattle.std.specs.Prelude.{◌≡◌, ℕ, List, [], ◌∷◌, Err, cond, is_ok, true}
use Rattle.sky_base.specs.declared.object.Named.{Named}
use Rattle.ciel_master_board.specs.Board.{Board}
use Rattle.ciel_master_board.specs.Reports.{FirstRefused}
use Rattle.ciel_table.specs.Learning.{learn_answer, learned}
use Rattle.ciel_table.specs.Seen.{TableSeen}
use Rattle.ciel_table.specs.declared.refusal.Learn.{Learn}
use Rattle.ciel_master.specs.declared.stop.Stop.{Stop}

-- a stop that this refusal of a description gives
abbrev pub Stops : Learn → Named → Stop → Type 0
Stops (Learn.Clash kept given) n (Stop.NameClash k g) = (k ≡ kept) × (g ≡ given)
Stops (Learn.Full held) n (Stop.TooMany h g) = (h ≡ held) × (g ≡ n.desc)
Stops (Learn.Full held) n Stop.Memory = Unit {0}
Stops Learn.Memory n Stop.Memory = Unit {0}
Stops why n stop = ⊥

-- what holds of a stop, but for want of memory
abbrev pub UnlessMemory : Stop → Type 0 → Type 0
UnlessMemory (Stop.NameClash kept given) Q = Q
UnlessMemory (Stop.TooMany held given) Q = Q
UnlessMemory Stop.Memory Q = Unit {0}

module _ {P : Type 0} where
  -- but for want of memory, the table refuses this description so
  abbrev pub StopsAt : Named → TableSeen P → Stop → Type 0
  StopsAt n t (Stop.NameClash kept given) = learn_answer n t ≡ Err (Learn.Clash kept given)
  StopsAt n t (Stop.TooMany held given) = (learn_answer n t ≡ Err (Learn.Full held)) × (given ≡ n.desc)
  StopsAt n t Stop.Memory = Unit {0}

  -- but for want of memory, this is why the first that is refused of a list is
  abbrev pub FirstStops : (List ℕ → List ℕ) → List Named → TableSeen P → Stop → Type 0
  FirstStops digest ns t (Stop.NameClash kept given) = (n : Named) × FirstRefused digest ns t n (Learn.Clash kept given)
  FirstStops digest ns t (Stop.TooMany held given) = (n : Named) × FirstRefused digest ns t n (Learn.Full held) × (given ≡ n.desc)
  FirstStops digest ns t Stop.Memory = Unit {0}

  -- the table after these are learned in order, up to the first that is refused
  abbrev pub learned_before : (List ℕ → List ℕ) → List Named → TableSeen P → TableSeen P
  learned_before digest [] t = t
  learned_before digest (n ∷ ns) t = cond (is_ok (learn_answer n t)) (learned_before digest ns (learned digest n t)) t

  -- a report whose spawned list isn't learned whole: what comes before the first that is refused is learned, the run has stopped, and
  -- nothing else has changed
  abbrev pub refused_at : (List ℕ → List ℕ) → Board P → List Named → Board P
  refused_at digest b spawned = record b { table = learned_before digest spawned b.table; stopped = true }
