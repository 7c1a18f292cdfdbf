use Rattle.ciel_log_objects.proofs.Built.{lies_there}
use Rattle.ciel_log_objects.proofs.objects.put_object.Goals as goal

pub returns-then-not-is_allowed_object-clause-refused : goal.returns-then-not-is_allowed_object-clause-refused
returns-then-not-is_allowed_object-clause-refused g c p = c.is_allowed_object.ensures.no c.if-not-is_allowed_object.true p.sound

pub returns-then-not-has_all_of-clause-refused : goal.returns-then-not-has_all_of-clause-refused
returns-then-not-has_all_of-clause-refused g c p = c.has_all_of.ensures.no c.if-not-has_all_of.true (λ x. x) (p.known (λ x. x))

pub returns-in-Ok-clause-passes : goal.returns-in-Ok-clause-passes
returns-in-Ok-clause-passes g c =
    record {
      sound = c.is_allowed_object.ensures.yes c.if-not-is_allowed_object.false;
      known = c.has_all_of.ensures.yes c.if-not-has_all_of.false;
    }

pub returns-in-Ok-clause-lies : goal.returns-in-Ok-clause-lies
returns-in-Ok-clause-lies g c =
    lies_there c.args.shelves.now c.args.worker c.args.object.now c.in_ok-copy.copy c.in-Ok.place c.in_ok-copy.ensures c.in-Ok.ensures.put
