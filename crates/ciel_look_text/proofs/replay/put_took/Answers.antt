-- What it took along, if it ended.
use Rattle.std.proofs.Common.{◌≡◌, ◌++◌, append-nil, ap, subst, sym, ◌∙◌}
use Rattle.ciel_look_tasks.specs.SceneView.{took_at}
use Rattle.ciel_look_text.specs.Now.{have}
use Rattle.ciel_look_text.specs.Replays.{listed_at}
use Rattle.ciel_look_text.proofs.replay.put_took.Goals as goal

pub returns-in_ok-put_all-in-Some : goal.returns-in_ok-put_all-in-Some
returns-in_ok-put_all-in-Some c =
    record {
      put = λ n. subst (λ e. listed_at c.put_all.new.places n ≡ listed_at c.args.places.now n ++ have c.args.worker (took_at e) n) (sym c.in-Some.is)
          (c.in_ok-put_all-in-Some.ensures.put n ∙ ap (λ xs. listed_at c.args.places.now n ++ have c.args.worker xs n) c.as_slice.ensures.value);
    }

pub returns-in-None : goal.returns-in-None
returns-in-None c =
    record {
      put = λ n. subst (λ e. listed_at c.args.places.now n ≡ listed_at c.args.places.now n ++ have c.args.worker (took_at e) n) (sym c.in-None.is)
          (sym (append-nil (listed_at c.args.places.now n)));
    }
