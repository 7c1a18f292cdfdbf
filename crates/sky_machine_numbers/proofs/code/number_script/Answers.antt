use Rattle.std.proofs.Common.{◌<◌, ◌^◌, ◌++◌, [], length, sym, ap, ◌∙◌, subst, arith}
use Rattle.sky_base.specs.Tree.{script_nodes}
use Rattle.sky_base.specs.ScriptView.{funs_view}
use Rattle.sky_base_law.specs.Nodes.{pre_block, pre_funs}
use Rattle.sky_machine_code.specs.Numbers.{starts_from}
use Rattle.sky_machine_code.specs.Parts.{Parted}
use Rattle.sky_machine_numbers.specs.Filled.{Filled, Fits}
use Rattle.sky_machine_numbers.specs.Tabled.{TablesOf}
use Rattle.sky_machine_numbers.proofs.FilledLemmas.{fits_first, fits_more, script_fits, ends_are, starts_are}
use Rattle.sky_machine_numbers.proofs.code.number_script.Goals as goal

pub number_block-requires : goal.number_block-requires
number_block-requires c =
    let sc = c.args.script.now in
    let few : script_nodes sc < 2 ^ 32 = omega (arith, c.nodes-nodes.ensures, c.nodes-nodes.type_inv) in
    let first = fits_first [] (pre_block sc.main) (pre_funs sc.funs) (script_fits sc few) in
    subst (λ b. Fits c.new-ends.result.items (pre_block b)) (sym c.main.ensures)
    (subst (λ r. Fits r (pre_block sc.main)) (sym c.new-ends.ensures.items) first)

pub number_funs-requires : goal.number_funs-requires
number_funs-requires c =
    let sc = c.args.script.now in
    let few : script_nodes sc < 2 ^ 32 = omega (arith, c.nodes-nodes.ensures, c.nodes-nodes.type_inv) in
    let mid = c.number_block.new.ends.items in
    let main = subst (λ b. Filled [] mid (pre_block b)) c.main.ensures
    (subst (λ r. Filled r mid (pre_block c.main.result.now)) c.new-ends.ensures.items c.in_ok-number_block.ensures) in
    subst (λ fs. Fits mid (pre_funs fs)) (sym (c.as_slice.ensures ∙ c.funs.ensures))
    (fits_more [] mid (pre_block sc.main) (pre_funs sc.funs) main (script_fits sc few))

pub returns : goal.returns
returns c =
    let sc = c.args.script.now in
    let few : script_nodes sc < 2 ^ 32 = omega (arith, c.nodes-nodes.ensures, c.nodes-nodes.type_inv) in
    let mid = c.number_block.new.ends.items in
    let main = subst (λ b. Filled [] mid (pre_block b)) c.main.ensures
    (subst (λ r. Filled r mid (pre_block c.main.result.now)) c.new-ends.ensures.items c.in_ok-number_block.ensures) in
    let last = c.number_funs.new.ends.items in
    let are = c.as_slice.ensures ∙ c.funs.ensures in
    let funs = subst (λ fs. Filled mid last (pre_funs fs)) are c.in_ok-number_funs.ensures.ends in
    let starts = c.in_ok-number_funs.ensures.starts
    ∙ ap (λ xs. xs ++ starts_from (funs_view c.as_slice.result.now) (length mid)) c.new-starts.ensures.items
    ∙ ap (λ fs. starts_from fs (length mid)) are in
    subst (TablesOf sc) (sym c.of.ensures) (record {
      places = c.in_ok-places.ensures;
      ends = ends_are sc few mid last main funs;
      starts = starts_are sc few mid last main funs c.number_funs.new.starts.items starts;
      parts = subst (λ xs. Parted xs c.list_parts.new.firsts.items c.list_parts.new.parts.items) c.as_slice-2.ensures.value c.in_ok-list_parts.ensures;
    })
