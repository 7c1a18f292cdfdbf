-- What a line's memo makes of the end of its run.
use Rattle.std.proofs.Common.{◌≡◌, ◌≢◌, ◌⊎◌, ◌∙◌, ◌∷◌, [], ⊎_elim, inl, inr, List, ℕ, Option, Some, None, ap, subst, sym}
use Rattle.std.specs.Prelude.{IfSome, option_map}
use Rattle.ciel_io.specs.Kept.{Changes}
use Rattle.ciel_io.specs.Tells.{Tells}
use Rattle.ciel_run_line.specs.Given.{memo_path}
use Rattle.ciel_run_line.proofs.Last.{none_of}
use Rattle.ciel_run.specs.Ending.{IsMemoWith}
use Rattle.ciel_run.proofs.Remembered.{at_path, both_at, each_without, none_there, remembers_at}
use Rattle.ciel_run.proofs.memo.remember.Goals as goal

-- there is none

pub returns-in_default-clause-written : goal.returns-in_default-clause-written
returns-in_default-clause-written g c = λ e. none_there c.args.memo _ (none_of c.args.memo c.in_default.not-Some)

pub returns-in_default-memo_path-clause-written : goal.returns-in_default-memo_path-clause-written
returns-in_default-memo_path-clause-written g c = λ e.
    each_without c.args.memo (memo_path c.args.line.now)
    (λ kit path. Changes (g.D.Keep.files c.args.keep.now) (g.D.Keep.files c.args.keep.now) path (λ old bytes. IsMemoWith kit.entries bytes))
    (sym c.memo_path.ensures ∙ ap (option_map (λ p. p.now)) (none_of c.memo_path.result c.in_default-memo_path.not-Some))

-- it is written

pub returns-clause-why : goal.returns-clause-why
returns-clause-why g c =
    let path = c.in-Some-memo_path.path.now in
    let named : memo_path c.args.line.now ≡ Some path = sym c.memo_path.ensures ∙ ap (option_map (λ p. p.now)) c.in-Some-memo_path.is in
    remembers_at (memo_path c.args.line.now) path c.args.why c.remember_at.result named c.remember_at.ensures.why

pub returns-clause-written : goal.returns-clause-written
returns-clause-written g c = λ e.
    let path = c.in-Some-memo_path.path.now in
    let named : memo_path c.args.line.now ≡ Some path = sym c.memo_path.ensures ∙ ap (option_map (λ p. p.now)) c.in-Some-memo_path.is in
    both_at c.args.memo c.in-Some.kit (memo_path c.args.line.now) path
    (λ kit p. Changes (g.D.Keep.files c.args.keep.now) (g.D.Keep.files c.remember_at.new.keep) p (λ old bytes. IsMemoWith kit.entries bytes))
    c.in-Some.is named (c.remember_at.ensures.written e)

pub returns-clause-asked : goal.returns-clause-asked
returns-clause-asked g c = λ some.
    let path = c.in-Some-memo_path.path.now in
    let named : memo_path c.args.line.now ≡ Some path = sym c.memo_path.ensures ∙ ap (option_map (λ p. p.now)) c.in-Some-memo_path.is in
    ⊎_elim (λ same. inl same)
    (λ tells. inr (at_path (memo_path c.args.line.now) path
    (λ p. Tells (g.D.Keep.asked c.args.keep.now) (g.D.Keep.asked c.remember_at.new.keep) (p ∷ [])) named tells))
    c.remember_at.ensures.asked

pub returns-clause-apart : goal.returns-clause-apart
returns-clause-apart g c =
    let path = c.in-Some-memo_path.path.now in
    let named : memo_path c.args.line.now ≡ Some path = sym c.memo_path.ensures ∙ ap (option_map (λ p. p.now)) c.in-Some-memo_path.is in
    ⊎_elim (λ same. inl same)
    (λ changes. inr (at_path (memo_path c.args.line.now) path
    (λ p. Changes (g.D.Keep.files c.args.keep.now) (g.D.Keep.files c.remember_at.new.keep) p (λ old bytes. Unit {0})) named changes))
    c.remember_at.ensures.changed

pub returns-clause-none : goal.returns-clause-none
returns-clause-none g c = λ none.
    let path = c.in-Some-memo_path.path.now in
    let named : memo_path c.args.line.now ≡ Some path = sym c.memo_path.ensures ∙ ap (option_map (λ p. p.now)) c.in-Some-memo_path.is in
    absurd (let bad : None ≡ Some path = sym none ∙ named in cc)
