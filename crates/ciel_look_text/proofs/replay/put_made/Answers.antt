-- What it made, if it ended so.
use Rattle.std.proofs.Common.{◌≡◌, ◌++◌, append-nil, ap, subst, sym, ◌∙◌}
use Rattle.ciel_look_tasks.specs.SceneView.{made_at, made_how}
use Rattle.ciel_look_text.specs.Now.{have}
use Rattle.ciel_look_text.specs.Replays.{listed_at}
use Rattle.ciel_look_text.proofs.replay.put_made.Goals as goal

pub returns-in_ok-put_all-in-Told : goal.returns-in_ok-put_all-in-Told
returns-in_ok-put_all-in-Told c =
    record {
      put = λ n. subst (λ e. listed_at c.put_all.new.places n ≡ listed_at c.args.places.now n ++ have c.args.worker (made_at e) n) (sym c.in-Some.is)
          (subst (λ h. listed_at c.put_all.new.places n ≡ listed_at c.args.places.now n ++ have c.args.worker (made_how h) n) (sym c.in-Told.is)
          (c.in_ok-put_all-in-Told.ensures.put n ∙ ap (λ xs. listed_at c.args.places.now n ++ have c.args.worker xs n) c.as_slice.ensures.value));
    }

pub returns-in-Lost : goal.returns-in-Lost
returns-in-Lost c =
    record {
      put = λ n. subst (λ e. listed_at c.args.places.now n ≡ listed_at c.args.places.now n ++ have c.args.worker (made_at e) n) (sym c.in-Some.is)
          (subst (λ h. listed_at c.args.places.now n ≡ listed_at c.args.places.now n ++ have c.args.worker (made_how h) n) (sym c.in-Lost.is)
          (sym (append-nil (listed_at c.args.places.now n))));
    }

pub returns-in-None : goal.returns-in-None
returns-in-None c =
    record {
      put = λ n. subst (λ e. listed_at c.args.places.now n ≡ listed_at c.args.places.now n ++ have c.args.worker (made_at e) n) (sym c.in-None.is)
          (sym (append-nil (listed_at c.args.places.now n)));
    }
