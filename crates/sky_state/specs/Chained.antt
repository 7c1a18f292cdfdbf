-- Forms under way that follow each other as a saved stack does: each stands on a part of the one below, and keeps what the
-- table says.
use Rattle.std.specs.Prelude.{◌≡◌, ℕ, List, [], ◌∷◌, length, Option, Some, None}
use Rattle.sky_base.specs.Val.{Val, Pairs}
use Rattle.sky_base.specs.Tree.{Script}
use Rattle.sky_base.specs.Res.{Entry, node_of, step_of, kept_of, opens}
use Rattle.sky_base.specs.Eval.{Body, body_of}
use Rattle.sky_base.specs.Read.{Frame, frames_of}
use Rattle.sky_base_law.specs.Opened.{Node, Opened}
use Rattle.sky_base_law.specs.Nodes.{node_at}
use Rattle.sky_base_law.specs.Tasks.{In}
use Rattle.sky_base_law.specs.Sound.{IsFun}
use Rattle.sky_state.specs.Table.{Row, part, turn, star, outputs, open_call, row, keeps}
use Rattle.sky_state.specs.Fits.{OfKinds, TakenFrom}

-- the node of the block with which a body begins
abbrev pub body_places : Option Body → List ℕ
body_places None = []
body_places (Some b) = b.node ∷ []

-- `at` gives the node of each number of the script
module _ {N : Type 0} (sc : Script) (at : ℕ → Option Node) where
  abbrev pub row_at : Entry N → Row
  row_at en = row (at (node_of en)) (node_of en) (step_of en)

  -- as many values as the row says, of its kinds
  pub record KeptBy (r : Row) (vs : List (Val N)) : Type 0 where
    pub as_many : length vs ≡ keeps r
    pub kinds : OfKinds r vs
    pub taken : TakenFrom r vs

  -- what stands above an entry, by its row and the call that it opens: nothing, or more on one of these nodes
  abbrev pub Above : Row → Option (List ℕ × Pairs N) → Type 0 → (List ℕ → Type 0) → Type 0
  Above (part k ms) None nothing more = more ms
  Above (turn m) None nothing more = more (m ∷ [])
  Above star None nothing more = nothing
  Above outputs None nothing more = nothing
  Above open_call (Some c) nothing more = IsFun sc c.0 × more (body_places (body_of c.0 sc))
  Above _ _ nothing more = ⊥

  -- the first of them stands on one of these nodes, and the last one waits
  abbrev pub Chained : List ℕ → List (Entry N) → Type 0
  Chained ps [] = ⊥
  Chained ps (en ∷ fr) =
      In (node_of en) ps × KeptBy (row_at en) (kept_of en) × Above (row_at en) (opens en) (fr ≡ []) (λ ms. Chained ms fr)

-- each form is what its node, its step and what it keeps open
abbrev pub AllOpened : {N : Type 0} → (ℕ → Option Node) → List (Entry N) → Type 0
AllOpened at [] = Unit {0}
AllOpened at (en ∷ fr) = Opened at en × AllOpened at fr

-- these frames are of forms under way that follow each other from one of these nodes on, each opened by what is saved of it; f is
-- the function of the bottom frame, and xs are the variables of the top one
pub record Formed {N : Type 0} (sc : Script) (ps f : List ℕ) (xs : Pairs N) (fs : List (Frame N)) : Type 0 where
  pub forms : List (Entry N)
  pub chained : Chained sc (λ i. node_at sc i) ps forms
  pub all_opened : AllOpened (λ i. node_at sc i) forms
  pub frames : frames_of forms f xs ≡ fs
