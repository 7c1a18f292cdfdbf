use Rattle.std.proofs.Common.{◌≡◌, ◌≤◌, ◌<◌, [], ◌∷◌, length, None, sym, ap, subst, ◌∙◌, arith}
use Rattle.std.specs.Option.{MatchOption}
use Rattle.sky_base.specs.JobView.{job_view}
use Rattle.sky_base_law.specs.Tasks.{In}
use Rattle.sky_base.specs.Val.{known, refs}
use Rattle.sky_base.specs.View.{view}
use Rattle.ciel_json.specs.Around.{json_around}
use Rattle.sky_base_known.specs.Walk.{known_of, number_of, object_at}
use Rattle.sky_plain.specs.Settle.{count, SettledSo}
use Rattle.sky_plain.specs.Stage.{AllKnown}
use Rattle.sky_plain.specs.Stand.{Opens}
use Rattle.sky_plain.proofs.Counts.{count_most, count_less}
use Rattle.sky_base_known.proofs.Learn.{most_is}
use Rattle.sky_plain.proofs.OpenWork.{begins_self, begins_over}
use Rattle.sky_plain.proofs.Rounds.{opens_all_grow}
use Rattle.sky_plain.proofs.plain.gather.Goals as goal

pub loop-name-init : goal.loop-name-init
loop-name-init g c =
    record {
      standing = c.requires.standing;
      grows = begins_self c.args.rows.now;
      small = c.requires.small;
      opens = c.requires.opens;
    }

pub settle-requires-clause-held : goal.settle-requires-clause-held
settle-requires-clause-held g c =
    let found = subst (λ o. MatchOption o (AllKnown c.loop-name.objects (refs (view c.args.value.now)))
    (λ m. In (known m) (refs (view c.args.value.now)) × (known_of c.loop-name.objects (known m) ≡ None))) c.in-Some.is
    c.in_ok-name.ensures in
    let at = c.loop-name.invariant.opens c.in-Some.name found.0 in
    let room : length c.loop-name.rows ≤ 65536 = subst (λ m. length c.loop-name.rows ≤ m) most_is c.len-held.ensures.room in
    let below : number_of c.in-Some.name < length c.loop-name.rows = at.0 in
    let is : c.number_of.result ≡ number_of c.in-Some.name = c.number_of.ensures (omega (arith, room, below)) in
    subst (λ j. j < length c.loop-name.rows) (sym is) at.0

pub settle-requires-clause-small : goal.settle-requires-clause-small
settle-requires-clause-small g c = c.loop-name.invariant.small

pub settle-requires-clause-standing : goal.settle-requires-clause-standing
settle-requires-clause-standing g c = c.loop-name.invariant.standing

pub settle-requires-clause-opens : goal.settle-requires-clause-opens
settle-requires-clause-opens g c =
    let found = subst (λ o. MatchOption o (AllKnown c.loop-name.objects (refs (view c.args.value.now)))
    (λ m. In (known m) (refs (view c.args.value.now)) × (known_of c.loop-name.objects (known m) ≡ None))) c.in-Some.is
    c.in_ok-name.ensures in
    let at = c.loop-name.invariant.opens c.in-Some.name found.0 in
    let room : length c.loop-name.rows ≤ 65536 = subst (λ m. length c.loop-name.rows ≤ m) most_is c.len-held.ensures.room in
    let below : number_of c.in-Some.name < length c.loop-name.rows = at.0 in
    let is : c.number_of.result ≡ number_of c.in-Some.name = c.number_of.ensures (omega (arith, room, below)) in
    subst (λ j. Opens (job_view c.args.job.now) (json_around (g.K.Kit.gives c.args.kit.now)) c.loop-name.rows (j ∷ [])) (sym is) at.1

pub loop-name-smaller : goal.loop-name-smaller
loop-name-smaller g c =
    let found = subst (λ o. MatchOption o (AllKnown c.loop-name.objects (refs (view c.args.value.now)))
    (λ m. In (known m) (refs (view c.args.value.now)) × (known_of c.loop-name.objects (known m) ≡ None))) c.in-Some.is
    c.in_ok-name.ensures in
    let at = c.loop-name.invariant.opens c.in-Some.name found.0 in
    let room : length c.loop-name.rows ≤ 65536 = subst (λ m. length c.loop-name.rows ≤ m) most_is c.len-held.ensures.room in
    let below : number_of c.in-Some.name < length c.loop-name.rows = at.0 in
    let is : c.number_of.result ≡ number_of c.in-Some.name = c.number_of.ensures (omega (arith, room, below)) in
    let settled = subst (SettledSo (job_view c.args.job.now) (json_around (g.K.Kit.gives c.args.kit.now)) c.number_of.result c.settle.new.rows
    c.loop-name.objects c.settle.new.objects) c.in-Known.is c.in_ok-settle.ensures.settled in
    let less : count c.loop-name.objects < count c.settle.new.objects =
    count_less c.number_of.result c.loop-name.objects c.settle.new.objects settled.2 (ap (object_at c.loop-name.objects) is ∙ found.1)
    settled.1 in
    let most : count c.settle.new.objects ≤ length c.settle.new.objects = count_most c.settle.new.objects in
    let small : length c.settle.new.objects ≤ 65536 = settled.3 in
    omega (arith, less, most, small)

pub loop-name-preserved : goal.loop-name-preserved
loop-name-preserved g c =
    let settled = subst (SettledSo (job_view c.args.job.now) (json_around (g.K.Kit.gives c.args.kit.now)) c.number_of.result c.settle.new.rows
    c.loop-name.objects c.settle.new.objects) c.in-Known.is c.in_ok-settle.ensures.settled in
    record {
      standing = settled.0;
      grows = begins_over c.args.rows.now c.loop-name.rows c.settle.new.rows c.loop-name.invariant.grows c.in_ok-settle.ensures.grows;
      small = settled.3;
      opens = opens_all_grow (job_view c.args.job.now) (g.K.Kit.gives c.args.kit.now) c.loop-name.rows c.settle.new.rows
          (refs (view c.args.value.now)) c.in_ok-settle.ensures.grows c.loop-name.invariant.opens;
    }

pub returns-in-TooDeep-clause-grows : goal.returns-in-TooDeep-clause-grows
returns-in-TooDeep-clause-grows g c =
    begins_over c.args.rows.now c.loop-name.rows c.settle.new.rows c.loop-name.invariant.grows c.in_ok-settle.ensures.grows

pub returns-in-Full-clause-grows : goal.returns-in-Full-clause-grows
returns-in-Full-clause-grows g c =
    begins_over c.args.rows.now c.loop-name.rows c.settle.new.rows c.loop-name.invariant.grows c.in_ok-settle.ensures.grows

pub returns-clause-grows : goal.returns-clause-grows
returns-clause-grows g c = c.loop-name.invariant.grows

pub returns-clause-gathered : goal.returns-clause-gathered
returns-clause-gathered g c = (
  c.loop-name.invariant.standing,
  subst (λ o. MatchOption o (AllKnown c.loop-name.objects (refs (view c.args.value.now)))
      (λ m. In (known m) (refs (view c.args.value.now)) × (known_of c.loop-name.objects (known m) ≡ None))) c.in_default.is
      c.in_ok-name.ensures,
  c.loop-name.invariant.small,
)
