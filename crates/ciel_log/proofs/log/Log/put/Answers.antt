-- The record is put there, or it would be too long, or the keeper failed.
use Rattle.std.proofs.Common.{◌∙◌, refl, subst, ap, arith}
use Rattle.ciel_io.specs.Kept.{Appended, AppendedPart, Changes}
use Rattle.ciel_log.specs.Logging.{LogKept, failed, full, put}
use Rattle.ciel_log.proofs.Putting.{in_file_length, tried_from}
use Rattle.ciel_log.proofs.log.Log.put.Goals as goal

pub returns-then-length-self-clause-tried : goal.returns-then-length-self-clause-tried
returns-then-length-self-clause-tried g c whole =
    let long = in_file_length c.args.told.now in
    tried_from (ap (λ (l : LogKept). l.seen) c.self.view_is)
    (full c.args.told.now refl (omega (arith, long, c.if-length-self.true, c.self.invariant))
    (record { files = refl; asked = refl; faults = refl; held = refl }) refl)

pub returns-in-Ok-append-clause-tried : goal.returns-in-Ok-append-clause-tried
returns-in-Ok-append-clause-tried g c whole =
    let long = in_file_length c.args.told.now in
    let piece = c.as_slice.ensures.value ∙ c.in-Ok.ensures in
    let seen = ap (λ (l : LogKept). l.seen) c.self.view_is in
    tried_from seen
    (put c.args.told.now refl (omega (arith, long, c.if-length-self.false, c.self.invariant))
    (subst (λ p. Changes (g.D.Keep.files c.self.inside.keep.now) (g.D.Keep.files c.append.new.self) c.self.inside.path (Appended p)) piece
    c.in-Ok-append.ensures.appended)
    c.append.ensures.asks c.append.ensures.never_falls (omega (arith, long)) (ap (λ l. l.state) seen ∙ whole))

pub returns-clause-tried : goal.returns-clause-tried
returns-clause-tried g c whole =
    let long = in_file_length c.args.told.now in
    let piece = c.as_slice.ensures.value ∙ c.in-Ok.ensures in
    tried_from (ap (λ (l : LogKept). l.seen) c.self.view_is)
    (failed c.args.told.now refl (omega (arith, long, c.if-length-self.false, c.self.invariant))
    (subst (λ p. Changes (g.D.Keep.files c.self.inside.keep.now) (g.D.Keep.files c.append.new.self) c.self.inside.path (AppendedPart p)) piece
    c.in-Err.ensures.part)
    c.append.ensures.asks c.append.ensures.never_falls c.in-Err.ensures.cause refl refl)
