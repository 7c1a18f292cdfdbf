-- Where the words are a line, what is said of the line is said of them.
use Rattle.std.proofs.Common.{◌≡◌, inl, inr, refl, sym, subst, MatchOption, Some, None}
use Rattle.ciel_look_run.specs.Ends.{Because, IsNoLine, Wrote}
use Rattle.ciel_look_run.specs.Line.{line_of}
use Rattle.ciel_look_run.specs.View.{line_view}
use Rattle.ciel_look_run.specs.declared.ends.Why.{Why}
use Rattle.ciel_look_run.proofs.EndLemmas.{any_line}
use Rattle.ciel_look_run.proofs.look.look.Goals as goal

pub returns-in-Err-clause-because : goal.returns-in-Err-clause-because
returns-in-Err-clause-because g c = any_line (line_of c.args.words.now) _ _ (inr refl) (λ l. tt)

pub returns-in-Err-clause-wrote : goal.returns-in-Err-clause-wrote
returns-in-Err-clause-wrote g c = any_line (line_of c.args.words.now) _ _ refl (λ l. refl)

pub returns-in-Some-clause-because : goal.returns-in-Some-clause-because
returns-in-Some-clause-because g c =
    let e : line_of c.args.words.now ≡ Some (line_view c.in-Some.line) = rw c.in-Some.is at c.in-Ok.ensures in
    subst (λ o. MatchOption o (IsNoLine c.look_at.result) (λ l. Because (g.F.Files.content c.args.files.now l.0) (g.F.Files.faults c.args.files.now)
    (g.F.Files.faults c.look_at.new.files) l c.look_at.result)) (sym e) c.look_at.ensures.because

pub returns-in-Some-clause-wrote : goal.returns-in-Some-clause-wrote
returns-in-Some-clause-wrote g c =
    let e : line_of c.args.words.now ≡ Some (line_view c.in-Some.line) = rw c.in-Some.is at c.in-Ok.ensures in
    subst (λ o. MatchOption o (g.O.Sink.written c.look_at.new.out ≡ g.O.Sink.written c.args.out.now) (λ l.
    Wrote (g.F.Files.content c.args.files.now l.0) (g.O.Sink.written c.args.out.now) (g.O.Sink.written c.look_at.new.out)
    (g.O.Sink.faults c.args.out.now) (g.O.Sink.faults c.look_at.new.out) l.1 c.look_at.result)) (sym e) c.look_at.ensures.wrote

pub returns-in-None-clause-because : goal.returns-in-None-clause-because
returns-in-None-clause-because g c =
    let e : line_of c.args.words.now ≡ None = rw c.in-None.is at c.in-Ok.ensures in
    subst (λ o. MatchOption o (IsNoLine Why.Usage) (λ l. Because (g.F.Files.content c.args.files.now l.0) (g.F.Files.faults c.args.files.now)
    (g.F.Files.faults c.args.files.now) l Why.Usage)) (sym e) (inl refl)

pub returns-in-None-clause-wrote : goal.returns-in-None-clause-wrote
returns-in-None-clause-wrote g c =
    let e : line_of c.args.words.now ≡ None = rw c.in-None.is at c.in-Ok.ensures in
    subst (λ o. MatchOption o (g.O.Sink.written c.args.out.now ≡ g.O.Sink.written c.args.out.now) (λ l.
    Wrote (g.F.Files.content c.args.files.now l.0) (g.O.Sink.written c.args.out.now) (g.O.Sink.written c.args.out.now)
    (g.O.Sink.faults c.args.out.now) (g.O.Sink.faults c.args.out.now)
    l.1 Why.Usage)) (sym e) refl
