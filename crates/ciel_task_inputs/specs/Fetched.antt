-- What is told of what was fetched from other workers' shelves.
use Rattle.std.specs.Prelude.{◌≡◌, ℕ, List, [], ◌∷◌, ◌++◌, Bool, true, false, cond, Option, Some, None}
use Rattle.sky_base.specs.Name.{held_name}
use Rattle.sky_base.specs.Val.{Desc, same_text}
use Rattle.ciel_table.specs.Named.{found}
use Rattle.ciel_task_order.specs.Orders.{names_in}
use Rattle.ciel_task_order.specs.declared.block.Held.{Held}
use Rattle.ciel_task_order.specs.declared.report.End.{End}
use Rattle.ciel_task_inputs.specs.Lies.{held_name as name_of_held, is_elsewhere}

-- whether what is held lies on another worker's shelf
abbrev pub lies_elsewhere : ℕ → Option Held → Bool
lies_elsewhere w None = false
lies_elsewhere w (Some h) = is_elsewhere w h.at

-- whether the name is one of these
abbrev pub stands_in : List ℕ → List (List ℕ) → Bool
stands_in n [] = false
stands_in n (m ∷ ms) = cond (same_text n m) true (stands_in n ms)

-- for worker w, of what an order brings along
module _ (w : ℕ) (held : List Held) where
  -- the names that were told, and one more that is asked for: where the order has it on another worker's shelf it is told too, once
  abbrev pub told_next : List (List ℕ) → List ℕ → List (List ℕ)
  told_next ns n = cond (stands_in n ns) ns (cond (lies_elsewhere w (found name_of_held n held)) (ns ++ n ∷ []) ns)

  -- so it is of the names of these, in order
  abbrev pub fetched_after : List (List ℕ) → List (Desc (List ℕ)) → List (List ℕ)
  fetched_after ns [] = ns
  fetched_after ns (d ∷ ds) = fetched_after (told_next ns (held_name d)) ds

  -- the names of what was fetched from other workers' shelves, each once, in order of first fetch, where these were asked for in order
  abbrev pub fetched : List (Desc (List ℕ)) → List (List ℕ)
  fetched ds = fetched_after [] ds

  -- what a report tells of copies where these were asked for: just those that were fetched, in that order; none where the task was frozen
  -- or something was missing
  abbrev pub TellsFetched : List (Desc (List ℕ)) → End → List Held → Type 0
  TellsFetched ds (End.Made ms) cs = names_in cs ≡ fetched ds
  TellsFetched ds (End.Shown s) cs = names_in cs ≡ fetched ds
  TellsFetched ds (End.Saved p j refs holds mark) cs = cs ≡ []
  TellsFetched ds (End.Missing name loss seen) cs = cs ≡ []
