-- The memo is the one that the line begins or reads.
use Rattle.std.proofs.Common.{◌≡◌, ◌∙◌, ℕ, List, is_some, Option, ap, sym, subst}
use Rattle.std.specs.Prelude.{IfSome}
use Rattle.ciel_io.specs.Faults.{HasRisen}
use Rattle.ciel_run_line.specs.Line.{named}
use Rattle.ciel_run_line.proofs.Last.{none_of}
use Rattle.ciel_run_line.proofs.Recalled.{asks_last, bad_memo_by, begun_begins, begun_some, none_read, read_begins, some_at, unread_memo}
use Rattle.ciel_run_line.proofs.recall.memo_of.Goals as goal

-- it wasn't read

pub returns-in-Err-clause-none : goal.returns-in-Err-clause-none
returns-in-Err-clause-none g c =
    unread_memo (g.F.Files.content c.args.files.now) c.args.line.now.memo
    (HasRisen (g.F.Files.faults c.args.files.now) (g.F.Files.faults c.read_named.new.files)) c.in-Err.why c.in-Err.ensures.none

-- there is none that is read

pub returns-in_default-clause-entries : goal.returns-in_default-clause-entries
returns-in_default-clause-entries g c =
    begun_begins (g.F.Files.content c.args.files.now) c.args.line.now.memo c.memo_begun.result
    (none_read c.in-Ok.read c.args.line.now.memo (none_of c.in-Ok.read c.in_default.not-Some) c.in-Ok.ensures.some) c.memo_begun.ensures.entries

pub returns-in_default-clause-memo : goal.returns-in_default-clause-memo
returns-in_default-clause-memo g c =
    begun_some c.args.line.now.memo_new c.args.line.now.memo (is_some c.memo_begun.result)
    (none_read c.in-Ok.read c.args.line.now.memo (none_of c.in-Ok.read c.in_default.not-Some) c.in-Ok.ensures.some) c.memo_begun.ensures.memo

-- it was, and is one, or isn't

pub returns-in-Ok-memo_in-clause-entries : goal.returns-in-Ok-memo_in-clause-entries
returns-in-Ok-memo_in-clause-entries g c =
    let content = g.F.Files.content c.args.files.now in
    let memo = c.args.line.now.memo in
    read_begins content memo c.in-Some.bytes c.in-Ok-memo_in.memo (sym c.in-Ok.ensures.some ∙ ap is_some c.in-Some.is)
    (subst (λ (o : Option (List ℕ)). IfSome o (λ b. IfSome memo (λ p. IfSome (content p) (λ file. b ≡ file)))) c.in-Some.is c.in-Ok.ensures.found)
    c.in-Ok-memo_in.ensures.memo

pub returns-in-Ok-memo_in-clause-memo : goal.returns-in-Ok-memo_in-clause-memo
returns-in-Ok-memo_in-clause-memo g c =
    sym (some_at c.args.line.now.memo_new c.args.line.now.memo (sym c.in-Ok.ensures.some ∙ ap is_some c.in-Some.is))

pub returns-clause-none : goal.returns-clause-none
returns-clause-none g c =
    let content = g.F.Files.content c.args.files.now in
    let memo = c.args.line.now.memo in
    bad_memo_by content memo c.in-Some.bytes
    (HasRisen (g.F.Files.faults c.args.files.now) (g.F.Files.faults c.read_named.new.files))
    (subst (λ (o : Option (List ℕ)). IfSome o (λ b. IfSome memo (λ p. IfSome (content p) (λ file. b ≡ file)))) c.in-Some.is c.in-Ok.ensures.found)
    c.in-Err-memo_in.why c.in-Err-memo_in.ensures.bad

pub returns-clause-asks : goal.returns-clause-asks
returns-clause-asks g c =
    asks_last (named c.args.line.now.memo) (g.F.Files.asked c.args.files.now) (g.F.Files.asked c.read_named.new.files) c.in-Ok.ensures.asked
    c.in-Err-memo_in.why
