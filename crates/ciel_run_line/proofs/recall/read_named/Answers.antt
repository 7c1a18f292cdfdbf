-- The file is the one that is named.
use Rattle.std.proofs.Common.{◌≡◌, ◌∙◌, List, ℕ, Some, ap, is_some, subst, sym}
use Rattle.std.specs.Prelude.{IfSome}
use Rattle.ciel_io.specs.Faults.{HasRisen}
use Rattle.ciel_io.specs.Tells.{Tells}
use Rattle.ciel_io.proofs.Joined.{tells_none}
use Rattle.ciel_run_line.specs.Line.{named}
use Rattle.ciel_run_line.proofs.Last.{last_all, last_asked, last_fault, last_long, last_part, none_of}
use Rattle.ciel_run_line.proofs.recall.read_named.Goals as goal

pub returns-in_default-clause-some : goal.returns-in_default-clause-some
returns-in_default-clause-some g c = ap is_some (sym (none_of c.args.path.now c.in_default.not-Some))

pub returns-in_default-clause-asked : goal.returns-in_default-clause-asked
returns-in_default-clause-asked g c =
    let b = g.F.Files.asked c.args.files.now in
    subst (λ o. Tells b b (named o)) (sym (none_of c.args.path.now c.in_default.not-Some)) (tells_none b)

pub returns-in-Ok-read-clause-some : goal.returns-in-Ok-read-clause-some
returns-in-Ok-read-clause-some g c = ap is_some (sym c.in-Some.is)

pub returns-in-Ok-read-clause-found : goal.returns-in-Ok-read-clause-found
returns-in-Ok-read-clause-found g c =
    let is = c.in-Some.is ∙ ap (λ (p : List ℕ). Some p) (sym c.in-Ok.ensures) in
    subst (λ o. IfSome o (λ path. IfSome (g.F.Files.content c.args.files.now path) (λ file. c.in-Ok-read.bytes ≡ file))) (sym is)
    c.in-Ok-read.ensures.found

pub returns-in-Ok-read-clause-asked : goal.returns-in-Ok-read-clause-asked
returns-in-Ok-read-clause-asked g c =
    last_all (g.F.Files.content c.args.files.now) c.args.path.now c.args.limit c.in-Ok.path
    (c.in-Some.is ∙ ap (λ (p : List ℕ). Some p) (sym c.in-Ok.ensures)) (g.F.Files.asked c.args.files.now) (g.F.Files.asked c.read.new.files)
    c.in-Ok-read.ensures.asks

pub returns-in-Err-Failed-clause-none : goal.returns-in-Err-Failed-clause-none
returns-in-Err-Failed-clause-none g c =
    last_fault (g.F.Files.content c.args.files.now) c.args.path.now c.args.limit c.in-Ok.path
    (c.in-Some.is ∙ ap (λ (p : List ℕ). Some p) (sym c.in-Ok.ensures))
    (HasRisen (g.F.Files.faults c.args.files.now) (g.F.Files.faults c.read.new.files)) c.in-Err-Failed.path (rw c.in-Err-Failed.field-0-is at c.in-Err-Failed.ensures.unread)

pub returns-in-Err-Failed-clause-asks : goal.returns-in-Err-Failed-clause-asks
returns-in-Err-Failed-clause-asks g c =
    last_asked (g.F.Files.content c.args.files.now) c.args.path.now c.args.limit c.in-Ok.path
    (c.in-Some.is ∙ ap (λ (p : List ℕ). Some p) (sym c.in-Ok.ensures)) (g.F.Files.asked c.args.files.now) (g.F.Files.asked c.read.new.files)
    c.in-Err-Failed.path (rw c.in-Err-Failed.field-0-is at c.in-Err-Failed.ensures.asks)

pub returns-in-Err-TooLong-clause-none : goal.returns-in-Err-TooLong-clause-none
returns-in-Err-TooLong-clause-none g c =
    last_long (g.F.Files.content c.args.files.now) c.args.path.now c.args.limit c.in-Ok.path
    (c.in-Some.is ∙ ap (λ (p : List ℕ). Some p) (sym c.in-Ok.ensures))
    (HasRisen (g.F.Files.faults c.args.files.now) (g.F.Files.faults c.read.new.files)) c.in-Err-TooLong.path c.in-Err-TooLong.limit
    (rw c.in-Err-TooLong.field-0-is at c.in-Err-TooLong.ensures.unread)

pub returns-in-Err-TooLong-clause-asks : goal.returns-in-Err-TooLong-clause-asks
returns-in-Err-TooLong-clause-asks g c =
    last_asked (g.F.Files.content c.args.files.now) c.args.path.now c.args.limit c.in-Ok.path
    (c.in-Some.is ∙ ap (λ (p : List ℕ). Some p) (sym c.in-Ok.ensures)) (g.F.Files.asked c.args.files.now) (g.F.Files.asked c.read.new.files)
    c.in-Err-TooLong.path (rw c.in-Err-TooLong.field-0-is at c.in-Err-TooLong.ensures.asks)

pub returns-in-Err-Memory-clause-asks : goal.returns-in-Err-Memory-clause-asks
returns-in-Err-Memory-clause-asks g c =
    last_part (g.F.Files.content c.args.files.now) c.args.path.now c.args.limit c.in-Ok.path
    (c.in-Some.is ∙ ap (λ (p : List ℕ). Some p) (sym c.in-Ok.ensures)) (g.F.Files.asked c.args.files.now) (g.F.Files.asked c.read.new.files)
    (rw c.in-Err-Memory.field-0-is at c.in-Err-Memory.ensures.asks)
