-- When a flow stands at what it was told.
use Rattle.std.specs.Prelude.{◌≡◌, ℕ, zero, suc, ◌<◌, false, List, [], ◌∷◌, ◌++◌, length, take, drop}
use Rattle.sky_base.specs.Val.{Pairs}
use Rattle.sky_base.specs.View.{view}
use Rattle.line_kit.specs.Lines.{is_open, lines}
use Rattle.line_kit.specs.declared.executor.Executor.{Executor}
use Rattle.line_flow.specs.Told.{Told, grow}
use Rattle.line_flow.specs.Refused.{Right}
use Rattle.line_flow.specs.Kept.{Keeps, Seen, seen_of, seen_more}
use Rattle.line_flow.specs.declared.flow.Flow.{Flow}

abbrev pub AllEmpty : List (List ℕ) → Type 0
AllEmpty [] = Unit {0}
AllEmpty (x ∷ xs) = (x ≡ []) × AllEmpty xs

-- there is an input of this number, its last line has a line feed, and later inputs are empty
abbrev pub EndsAt : ℕ → List (List ℕ) → Type 0
EndsAt i [] = ⊥
EndsAt zero (x ∷ xs) = (is_open x ≡ false) × AllEmpty xs
EndsAt (suc i) (x ∷ xs) = EndsAt i xs

-- the call is a right one, and what was fed is what is settled, with the rest behind it: the flow keeps what it has to
-- of the settled part (an input more, which is empty, stands behind all inputs)
pub record Stands (f : Flow) (t : Told) : Type 0 where
  pub kind : Executor
  pub pairs : Pairs (List ℕ)
  pub settled : List (List ℕ)
  pub right : Right t.executor t.args t.outputs kind pairs
  pub executor : f.executor ≡ t.executor
  pub args : view f.args ≡ t.args
  pub outputs : f.outputs ≡ t.outputs
  pub last : f.last ≡ t.last
  pub fed : t.fed ++ [] ∷ [] ≡ grow t.last f.rest.items settled
  pub ends : EndsAt t.last settled
  pub keeps : Keeps f.settled kind pairs t.outputs t.drained (seen_of settled)

-- all that was fed is settled
pub record IsWhole (f : Flow) (t : Told) : Type 0 where
  pub kind : Executor
  pub pairs : Pairs (List ℕ)
  pub right : Right t.executor t.args t.outputs kind pairs
  pub executor : f.executor ≡ t.executor
  pub args : view f.args ≡ t.args
  pub outputs : f.outputs ≡ t.outputs
  pub later : (i : ℕ) → t.last < i → i < length t.fed → EndsAt i (t.fed ++ [] ∷ [])
  pub rest : f.rest.items ≡ []
  pub keeps : Keeps f.settled kind pairs t.outputs t.drained (seen_of (t.fed ++ [] ∷ []))

-- so many bytes of the rest were settled, and all else is as it was
pub record Took (before after : Flow) (taken : ℕ) : Type 0 where
  pub rest : after.rest.items ≡ drop taken before.rest.items
  pub executor : after.executor ≡ before.executor
  pub args : after.args ≡ before.args
  pub outputs : after.outputs ≡ before.outputs
  pub last : after.last ≡ before.last
  pub keeps : (e : Executor) (args : Pairs (List ℕ)) (n : ℕ) (drained : List (List ℕ)) (seen : Seen) → 0 < n → (before.last ≡ 0 → seen.second ≡ [])
      → Keeps before.settled e args n drained seen
      → Keeps after.settled e args n drained (seen_more seen before.last (lines (take taken before.rest.items)))
