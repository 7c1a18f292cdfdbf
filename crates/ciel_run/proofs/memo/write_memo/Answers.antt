-- What is written is the memo's file.
use Rattle.std.proofs.Common.{◌≡◌, ◌⊎◌, ◌∙◌, inr, List, ℕ, subst, sym}
use Rattle.ciel_io.specs.Kept.{Replaced, ReplacedPart}
use Rattle.ciel_run.specs.Ending.{IsMemoWith}
use Rattle.ciel_run.proofs.Kept.{changes_as}
use Rattle.ciel_run.proofs.memo.write_memo.Goals as goal

pub returns-in-Ok-replace-clause-written : goal.returns-in-Ok-replace-clause-written
returns-in-Ok-replace-clause-written g c =
    let entries = c.args.kit.now.entries in
    changes_as (g.D.Keep.files c.args.keep.now) (g.D.Keep.files c.replace.new.self) c.args.path.now (Replaced c.as_slice.result.now)
    (λ old bytes. IsMemoWith entries bytes)
    (λ old bytes e. subst (IsMemoWith entries) (sym (e ∙ c.as_slice.ensures)) c.in-Ok.ensures.text) c.in-Ok-replace.ensures.replaced

pub returns-in-Ok-replace-clause-asked : goal.returns-in-Ok-replace-clause-asked
returns-in-Ok-replace-clause-asked g c = inr c.replace.ensures.asks

pub returns-in-Ok-replace-clause-changed : goal.returns-in-Ok-replace-clause-changed
returns-in-Ok-replace-clause-changed g c =
    inr (changes_as (g.D.Keep.files c.args.keep.now) (g.D.Keep.files c.replace.new.self) c.args.path.now (Replaced c.as_slice.result.now)
    (λ old bytes. Unit {0}) (λ old bytes e. tt) c.in-Ok-replace.ensures.replaced)

pub returns-clause-asked : goal.returns-clause-asked
returns-clause-asked g c = inr c.replace.ensures.asks

pub returns-clause-changed : goal.returns-clause-changed
returns-clause-changed g c =
    inr (changes_as (g.D.Keep.files c.args.keep.now) (g.D.Keep.files c.replace.new.self) c.args.path.now (ReplacedPart c.as_slice.result.now)
    (λ old bytes. Unit {0}) (λ old bytes e. tt) c.in-Err.ensures.part)
