use Rattle.std.proofs.Common.{◌<◌, ◌^◌, length, ap, subst, arith}
use Rattle.sky_base.specs.Tree.{Exp, steps_nodes}
use Rattle.sky_base.specs.TreeView.{steps_view}
use Rattle.sky_base_law.specs.Opened.{exp_node}
use Rattle.sky_machine_entries.specs.Ready.{steps_left}
use Rattle.sky_machine_open.proofs.LastSigns.{view_length}
use Rattle.sky_machine_restore.proofs.Fewer.{steps_few}
use Rattle.sky_machine_restore.proofs.few.few_steps.Goals as goal

pub returns-in-Prefix : goal.returns-in-Prefix
returns-in-Prefix c =
    let many : length c.in-Prefix.signs.items < 2 ^ 64 =
    omega (arith, c.how_many_signs-signs.ensures, c.how_many_signs-signs.type_inv, ap length c.as_slice.ensures.value) in
    rw c.in-Prefix.is (omega (arith, many, view_length c.in-Prefix.signs.items))

pub returns-in-Postfix : goal.returns-in-Postfix
returns-in-Postfix c =
    let xs = c.as_slice-in-Postfix.result.now in
    let ss = c.in-Postfix.rest in
    let e = c.in-Postfix.first in
    let has = rw c.in-Postfix.is at c.requires in
    let end = c.after-end.ensures (exp_node (Exp.postfix e ss)) has.0 in
    let few : steps_left (steps_view xs) < 2 ^ 65 =
    omega (
      arith,
      end,
      c.after-end.type_inv,
      ap steps_nodes c.as_slice-in-Postfix.ensures,
      c.how_many_steps-steps.ensures,
      c.how_many_steps-steps.type_inv,
      steps_few xs,
    ) in
    rw c.in-Postfix.is (subst (λ ys. steps_left ys < 2 ^ 65) c.as_slice-in-Postfix.ensures few)
