-- The numbers of a short script's nodes and steps have 32 bits.
use Rattle.std.proofs.Common.{◌≡◌, ◌≤◌, ◌<◌, ◌^◌, ℕ, List, length, Option, Some, None, refl, sym, subst, arith}
use Rattle.std.proofs.lemmas.Option.{slice_get_within}
use Rattle.sky_base.specs.Tree.{Script, script_nodes}
use Rattle.sky_base.specs.Read.{Todo}
use Rattle.sky_base_law.specs.Nodes.{node_at, pre_script}
use Rattle.sky_base_law.specs.Opened.{Node}
use Rattle.sky_base_law.proofs.NodesLaw.{script_count}
use Rattle.sky_parse_grammar.proofs.Counts.{script_fits}
use Rattle.sky_parse.specs.Source.{IsScript}
use Rattle.sky_parse_places.proofs.Tokens.{few_tokens}
use Rattle.sky_state.specs.Fits.{row_of}
use Rattle.sky_state.specs.Table.{IsStep, row}
use Rattle.sky_frozen_bytes.specs.Spelled.{TodoSpelled}
use Rattle.sky_machine_resume.specs.Comes.{StepsFit}
use Rattle.sky_machine.proofs.Onward.{steps_fit}

module _ (source : List ℕ) (keys : List (List ℕ)) (script : Script) (is : IsScript source keys script) (few : length source ≤ 1048576) where
  few_nodes : script_nodes script < 2 ^ 32
  few_nodes =
      let (ts, tops, found, valid, same) = is in
      let tokens = few_tokens source ts found in
      subst (λ (s : Script). script_nodes s < 2 ^ 32) (sym same) (script_fits tops ts keys valid.0 (omega (arith, tokens, few)))

  steps : StepsFit script
  steps = let small : length source < 2147483648 = omega (arith, few) in steps_fit source keys script is small

  -- the node and the step of a form that can be under way
  pub todo_fits : (t : Todo) → IsStep (row_of script t) → TodoSpelled t
  todo_fits t h = go (node_at script t.node) refl h
    where
      go : (o : Option Node) → node_at script t.node ≡ o → IsStep (row o t.node t.step) → TodoSpelled t
      go None e i = absurd i
      go (Some x) e i =
          let within = slice_get_within (pre_script script) t.node x e in
          let nodes : script_nodes script < 4294967296 = few_nodes in
          let node : t.node < 4294967296 = omega (arith, within, script_count script, nodes) in
          (node, steps x t.node t.step i e)
