use Rattle.sky_machine_open.proofs.postfix.past.Goals as goal

pub after_exp-requires : goal.after_exp-requires
after_exp-requires c = let has = rw c.in-Index.is at c.requires in has.0
