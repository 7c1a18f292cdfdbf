use Rattle.std.proofs.Common.{◌≡◌, Ok, ◌+◌, drop, sym, ap, subst, ◌∙◌}
use Rattle.sky_base.specs.View.{view, vals_of, pairs_of}
use Rattle.sky_base.specs.Op.{put}
use Rattle.sky_base_known.specs.Data.{data_of}
use Rattle.sky_base_waves.specs.Wave.{value_seen, fill, fill_vals, fill_pairs, on_list}
use Rattle.sky_base_waves.specs.WaveView.{FilledBy}
use Rattle.sky_base_waves.proofs.Fills.{Filling, behind, behind_pairs, Meets, fill-step, pair-step, meets-step}
use Rattle.sky_base_waves.proofs.wave.+fill.Goals as goal

pub fill-returns-in-Ok : goal.fill-returns-in-Ok
fill-returns-in-Ok g t c =
    let G : Filling = λ d. value_seen data_of (g.K.Known.knows c.args.objects.now d) in
    ap (λ v. fill G (view v)) c.in-List.is ∙ ap on_list (ap (fill_vals G) (sym c.as_slice.ensures) ∙ c.in_ok-values-in-List.ensures ∙ c.in-Ok.is)

pub fill_pairs-loop-pair-preserved : goal.fill_pairs-loop-pair-preserved
fill_pairs-loop-pair-preserved g t c =
    let G : Filling = λ d. value_seen data_of (g.K.Known.knows c.args.objects.now d) in
    let filled : fill G (view c.pair-item.result.value) ≡ Ok (view c.in-Ok.value) =
    subst (λ r. FilledBy r (fill G (view c.pair-item.result.value))) c.in-Ok.is (c.in_ok-value.ensures) in
    let is_put : c.insert.new.self ≡ put c.pair-item.result.key (view c.in-Ok.value) c.loop-pair.filled = (c.in_ok-insert-in-Ok.ensures).ok
    ∙ ap (λ k. put k (view c.in-Ok.value) c.loop-pair.filled) (c.in_ok-share-in-Ok.ensures) in
    record {
      meets = subst (λ q. Meets q (pairs_of (drop (c.loop-pair.pair-index + 1) c.args.pairs.now))) (sym is_put)
          (meets-step G c.loop-pair.filled c.args.pairs.now c.loop-pair.pair-index c.pair-item.result (view c.in-Ok.value) c.loop-pair-test.true
          c.pair-item.is c.loop-pair.invariant.meets);
      rest = c.loop-pair.invariant.rest ∙ pair-step G c.loop-pair.filled c.args.pairs.now c.loop-pair.pair-index c.pair-item.result
          (view c.in-Ok.value) c.loop-pair-test.true c.pair-item.is c.loop-pair.invariant.meets filled
          ∙ ap (λ q. behind_pairs q (fill_pairs G (pairs_of (drop (c.loop-pair.pair-index + 1) c.args.pairs.now)))) (sym is_put);
    }

pub fill_vals-loop-value-preserved : goal.fill_vals-loop-value-preserved
fill_vals-loop-value-preserved g t c =
    let G : Filling = λ d. value_seen data_of (g.K.Known.knows c.args.objects.now d) in
    let filled : fill G (view c.value-item.result) ≡ Ok (view c.in-Ok.value) =
    subst (λ r. FilledBy r (fill G (view c.value-item.result))) c.in-Ok.is (c.in_ok-value.ensures) in
    record {
      rest = c.loop-value.invariant.rest ∙ fill-step G c.loop-value.filled c.args.values.now c.loop-value.value-index c.value-item.result
          (view c.in-Ok.value) c.loop-value-test.true c.value-item.is filled
          ∙ ap (λ q. behind q (fill_vals G (vals_of (drop (c.loop-value.value-index + 1) c.args.values.now))))
          (sym (c.in_ok-push-in-Ok.ensures).ok);
    }
