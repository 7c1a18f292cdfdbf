-- Where the log is whole, the record is put behind it.
use Rattle.std.proofs.Common.{◌≡◌, ◌∙◌, ℕ, List, subst, sym}
use Rattle.ciel_log.specs.Logging.{Adds, IsRecordOf, LogKept}
use Rattle.ciel_log.proofs.Putting.{adds_whole, tried_behind, tried_of}
use Rattle.ciel_log.proofs.log.Log.report.Goals as goal

pub returns-in-Ok-clause-adds : goal.returns-in-Ok-clause-adds
returns-in-Ok-clause-adds g c =
    let r = c.args.report.now in
    let seen = c.put.new.self.seen in
    let such : (bytes : List ℕ) → bytes ≡ c.as_slice.result.now → IsRecordOf r c.self.inside.eye.losses seen.losses bytes =
    λ bytes is. subst (λ ls. IsRecordOf r c.self.inside.eye.losses ls bytes) (sym c.put.ensures.losses)
    (subst (IsRecordOf r c.self.inside.eye.losses c.record_of.new.eye.losses) (sym (is ∙ c.as_slice.ensures)) c.in-Ok.ensures.record) in
    subst (λ (l : LogKept). Adds (IsRecordOf r l.seen.losses seen.losses) l.seen seen) c.self.view_is
    (adds_whole c.in-Whole.is (tried_behind c.record_of.new.eye.losses (tried_of such (c.put.ensures.tried c.in-Whole.is))))
