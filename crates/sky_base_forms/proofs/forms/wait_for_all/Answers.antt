use Rattle.std.proofs.Common.{◌∙◌, [], sym, ap, arith}
use Rattle.sky_base.specs.Names.{known_of as known_names}
use Rattle.sky_base.specs.ObjectView.{object_view}
use Rattle.sky_base_known.specs.Walk.{look, known_of, Seen}
use Rattle.sky_base_scope.specs.Plain.{exec_seen}
use Rattle.sky_base_forms.proofs.Awaits.{seen_after, seen_start}
use Rattle.sky_base_forms.proofs.FormLaw.{waits_step, waits_stop, waits_end}
use Rattle.sky_base_forms.proofs.forms.wait_for_all.Goals as goal

pub loop-name-init : goal.loop-name-init
loop-name-init c = λ ds rows st. seen_start (look (known_of c.args.objects.now) (known_names c.as_slice-name-items.result.now)) ds rows st

pub loop-name-preserved : goal.loop-name-preserved
loop-name-preserved c = λ ds rows st.
    c.loop-name.invariant ds rows st ∙ rw c.fault_first-first.ensures
    (waits_step (known_of c.args.objects.now) ds rows st c.loop-name.first c.as_slice-name-items.result.now c.loop-name.name-index
    c.name-item.result (object_view c.in-Some.object.now) (omega arith) c.name-item.is c.in-Some.ensures.value)

pub returns-in_default : goal.returns-in_default
returns-in_default c = λ rows st.
    let ds = known_names c.args.names.now in
    ap (λ ns. exec_seen (look (known_of c.args.objects.now) (known_names ns)) ds rows st) (sym c.as_slice-name-items.ensures)
    ∙ c.loop-name.invariant ds rows st ∙ waits_stop (known_of c.args.objects.now) ds rows st c.loop-name.first
    c.as_slice-name-items.result.now c.loop-name.name-index c.name-item.result (omega arith) c.name-item.is c.in_default.ensures.value

pub returns-in-Some-first : goal.returns-in-Some-first
returns-in-Some-first c = λ rows st.
    let ds = known_names c.args.names.now in
    ap (λ ns. exec_seen (look (known_of c.args.objects.now) (known_names ns)) ds rows st) (sym c.as_slice-name-items.ensures)
    ∙ c.loop-name.invariant ds rows st ∙ waits_end (known_of c.args.objects.now) ds rows st c.loop-name.first
    c.as_slice-name-items.result.now c.loop-name.name-index (omega arith)
    ∙ ap (λ f. seen_after f (Seen.all []) ds rows st) c.in-Some-first.is

pub returns-in-None : goal.returns-in-None
returns-in-None c = λ rows st.
    let ds = known_names c.args.names.now in
    ap (λ ns. exec_seen (look (known_of c.args.objects.now) (known_names ns)) ds rows st) (sym c.as_slice-name-items.ensures)
    ∙ c.loop-name.invariant ds rows st ∙ waits_end (known_of c.args.objects.now) ds rows st c.loop-name.first
    c.as_slice-name-items.result.now c.loop-name.name-index (omega arith) ∙ ap (λ f. seen_after f (Seen.all []) ds rows st) c.in-None.is
