use Rattle.std.proofs.Common.{◌≡◌, map, sym, subst, ap, ◌∙◌}
use Rattle.sky_base.specs.JobView.{job_view}
use Rattle.sky_base.specs.Names.{known_of}
use Rattle.sky_base.specs.Val.{refs}
use Rattle.sky_base.specs.View.{view}
use Rattle.ciel_task_order.specs.Orders.{names_in}
use Rattle.ciel_task_inputs.specs.Gathers.{AllSound, CopiedUpTo, GatheredSo}
use Rattle.ciel_task_inputs.proofs.GatheredInputs.{lies, seen_of}
use Rattle.ciel_task_exec.proofs.Copied.{copied_refs, names_refer, names_there}
use Rattle.ciel_task_exec.proofs.GivenObjects.{bytes_lie, objects_kept}
use Rattle.ciel_task_exec.proofs.found.find_inputs.Goals as goal

pub gather-requires-clause-names : goal.gather-requires-clause-names
gather-requires-clause-names g c =
    names_there c.as_slice.result.now (refs (view c.args.args.now)) (ap known_of c.as_slice.ensures ∙ c.in_ok-names.ensures)
    (names_in c.args.held.now) c.requires.names

pub returns-in-Lost-clause-found : goal.returns-in-Lost-clause-found
returns-in-Lost-clause-found g c =
    let lost = subst (GatheredSo (job_view c.args.job.now).inputs c.args.held.now c.as_slice.result.now) c.in-Lost.is
    c.in_ok-gathered.ensures.gathered in (
      names_refer c.as_slice.result.now (refs (view c.args.args.now)) (ap known_of c.as_slice.ensures ∙ c.in_ok-names.ensures) c.in-Lost.name
          lost.0,
      lost.1,
      lost.2,
      lost.3,
    )

pub in_bytes-requires : goal.in_bytes-requires
in_bytes-requires g c =
    let sc = (job_view c.args.job.now).script in
    record {
      objects = objects_kept sc c.as_slice-in-All-2.result.now c.in-All.objects.items c.as_slice-in-All-2.ensures.value
          (subst (AllSound sc) c.in-All.is c.in_ok-gathered.ensures.sound);
    }

pub returns-clause-found : goal.returns-clause-found
returns-clause-found g c =
    let ins = (job_view c.args.job.now).inputs in
    let held = c.args.held.now in
    let ns = c.as_slice-in-All.result.now in
    let os = c.as_slice-in-All-2.result.now in
    let a = view c.args.args.now in
    let all = subst (GatheredSo ins held c.as_slice.result.now) c.in-All.is c.in_ok-gathered.ensures.gathered in
    let same = c.as_slice-in-All.ensures ∙ sym c.as_slice.ensures in
    let so : map (lies ins held) ns ≡ map (seen_of ins held) os = ap (map (lies ins held)) same ∙ all
    ∙ ap (map (seen_of ins held)) (sym c.as_slice-in-All-2.ensures.value) in
    let are = ap known_of c.as_slice-in-All.ensures ∙ c.in_ok-names.ensures in
    c.in_ok-inputs-in-All.ensures ∙ bytes_lie ins held a ns os are so

pub returns-clause-copied : goal.returns-clause-copied
returns-clause-copied g c =
    let ins = (job_view c.args.job.now).inputs in
    let held = c.args.held.now in
    let shelves = c.args.shelves.now in
    let ns = c.as_slice.result.now in
    let old = c.new-copied.result.items in
    let new = c.gather.new.copied.items in
    copied_refs shelves c.args.worker ins held ns (refs (view c.args.args.now)) (ap known_of c.as_slice.ensures ∙ c.in_ok-names.ensures) old new
    c.new-copied.ensures.items (subst (λ y. CopiedUpTo shelves c.args.worker ins held ns y old new) c.in-All.is
    c.in_ok-gathered.ensures.copied)
