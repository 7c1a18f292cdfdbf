-- The line is what its values say, and where they say none there is no line.
use Rattle.std.proofs.Common.{◌≡◌, ◌∙◌, ℕ, Bool, List, Option, Some, None, ap, map, sym}
use Rattle.std.specs.Borrow.{Bor}
use Rattle.std.specs.Prelude.{◌||◌, is_some}
use Rattle.ciel_words.specs.Line.{files_in, kept_in, steal_in}
use Rattle.ciel_words.specs.Parts.{Text}
use Rattle.ciel_words.specs.Raw.{text_of}
use Rattle.ciel_words.specs.Values.{or_absent}
use Rattle.ciel_words.proofs.SaidBy.{says_line}
use Rattle.ciel_words.proofs.line.line_from.Goals as goal

pub returns-clause-line : goal.returns-clause-line
returns-clause-line c =
    let raw = c.args.raw.now in
    let stream = c.in-Some-streamed.stream in
    let alone : c.is_alone-alone.result ≡ (raw.plain || stream) = c.is_alone-alone.ensures in
    let log = c.in_ok-log.log in
    let memo_new = c.in_ok-memo_new.memo_new in
    says_line (text_of raw.workers) (text_of raw.seed) (text_of raw.lose) (text_of raw.names) (text_of raw.log) (text_of raw.resume)
    (text_of raw.steal) (text_of raw.memo_new) (text_of raw.memo) (text_of raw.generate) raw.trace raw.plain raw.stream
    (map (λ w. w.now) raw.words.items) c.in-Some.workers c.in-Some-number_or.seed c.in_ok-losses.losses c.in-Some-name_kind.names log
    c.in_ok-resume.resume stream c.in-Some-shared.steal memo_new c.in_ok-memo.memo c.in-Some-generated.generate
    (sym c.in-Some.ensures.value) (sym c.in-Some-number_or.ensures.value) c.in_ok-losses.ensures.losses (sym c.in-Some-name_kind.ensures)
    c.in_ok-log.ensures.path
    (ap (λ (b : Bool). or_absent None (kept_in (raw.plain || b)) (text_of raw.resume)) (sym c.is_some.ensures) ∙ c.in_ok-resume.ensures.path)
    (sym c.in-Some-streamed.ensures)
    (ap (λ (b : Bool). or_absent None (steal_in b) (text_of raw.steal)) (sym alone) ∙ sym c.in-Some-shared.ensures)
    (ap (λ (b : Bool). or_absent None (kept_in b) (text_of raw.memo_new)) (sym alone) ∙ c.in_ok-memo_new.ensures.path)
    (ap (λ (b : Bool). or_absent None (kept_in (b || is_some memo_new)) (text_of raw.memo)) (sym alone)
    ∙ (ap (λ (b : Bool). or_absent None (kept_in (c.is_alone-alone.result || b)) (text_of raw.memo)) (sym c.is_some-2.ensures) ∙ c.in_ok-memo.ensures.path))
    (sym c.in-Some-generated.ensures) (c.in_ok-script.script, c.in_ok-script.inputs)
    (ap (λ (ws : List (Bor Text)). files_in c.in-Some-generated.generate (map (λ w. w.now) ws)) (sym c.as_slice.ensures.value)
    ∙ c.in_ok-script.ensures.files)
