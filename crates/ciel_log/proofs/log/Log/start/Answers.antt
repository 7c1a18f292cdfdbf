-- Where the log is whole, the record is put behind it.
use Rattle.std.proofs.Common.{◌∙◌, ap, sym}
use Rattle.ciel_log.specs.Logging.{LogKept}
use Rattle.ciel_log.proofs.Putting.{adds_whole, tried_of}
use Rattle.ciel_log.proofs.log.Log.start.Goals as goal

pub returns-in-Ok-clause-adds : goal.returns-in-Ok-clause-adds
returns-in-Ok-clause-adds g c =
    let whole = ap (λ (l : LogKept). l.seen.state) (sym c.self.view_is) ∙ c.in-Whole.is in
    adds_whole whole (tried_of (λ bytes is. is ∙ (c.as_slice.ensures ∙ c.in-Ok.ensures)) (c.put.ensures.tried whole))
