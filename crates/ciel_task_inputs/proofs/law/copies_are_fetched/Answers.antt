use Rattle.ciel_task_inputs.proofs.CopiedObjects.{copies_fit, copies_named, copies_sound, copy_fetched}
use Rattle.ciel_task_inputs.proofs.law.copies_are_fetched.Goals as goal

pub returns-clause-fetched : goal.returns-clause-fetched
returns-clause-fetched c digest job gives keyed o order is shelves one copy d a n =
    copy_fetched digest job gives o order is shelves one copy d a n

pub returns-clause-fit : goal.returns-clause-fit
returns-clause-fit c digest shelves inputs order cs copies t a =
    (copies_fit digest shelves inputs order t cs copies.0 a, copies_named digest shelves inputs order cs copies.0)

pub returns-clause-sound : goal.returns-clause-sound
returns-clause-sound c shelves w inputs held cs copies sc count spots = copies_sound shelves w inputs held sc count spots cs copies.0
