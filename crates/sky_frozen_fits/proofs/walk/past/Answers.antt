use Rattle.sky_frozen_fits.proofs.walk.past.Goals as goal

pub after_exp-requires : goal.after_exp-requires
after_exp-requires c = let has = rw c.in-Index.is at c.requires.has in has.0
