-- What the executors of the line give is known by the entries of its memo.
use Rattle.std.proofs.Common.{◌≡◌, ◌∙◌, List, Option, Some, None, ap, sym, subst}
use Rattle.std.specs.Prelude.{IfSome, is_some}
use Rattle.ciel_io.proofs.Joined.{part_whole}
use Rattle.ciel_memo_file.specs.Entries.{Entry}
use Rattle.ciel_run_line.specs.Given.{BeginsWith}
use Rattle.ciel_run_line.specs.Line.{named}
use Rattle.ciel_run_line.proofs.Last.{none_of}
use Rattle.ciel_run_line.proofs.Recalled.{given_is, recalled_is}
use Rattle.ciel_run_line.proofs.recall.recall.Goals as goal

-- there is none

pub returns-in_default-clause-given : goal.returns-in_default-clause-given
returns-in_default-clause-given g c = λ h given.
    let none = none_of c.in-Ok.memo c.in_default.not-Some in
    given_is c.files_are_told_in_one_way.ensures.list (g.F.Files.content c.args.files.now) c.args.line.now.memo_new c.args.line.now.memo None
    (ap is_some (sym none) ∙ c.in-Ok.ensures.memo) tt h given

pub returns-in_default-clause-memo : goal.returns-in_default-clause-memo
returns-in_default-clause-memo g c =
    let none = none_of c.in-Ok.memo c.in_default.not-Some in
    ap is_some (sym none) ∙ c.in-Ok.ensures.memo

pub returns-in_default-clause-recalled : goal.returns-in_default-clause-recalled
returns-in_default-clause-recalled g c =
    let none = none_of c.in-Ok.memo c.in_default.not-Some in
    recalled_is (g.F.Files.content c.args.files.now) c.args.line.now.memo_new c.args.line.now.memo None
    (ap is_some (sym none) ∙ c.in-Ok.ensures.memo) tt

-- there is one

pub returns-in-Ok-kits-clause-given : goal.returns-in-Ok-kits-clause-given
returns-in-Ok-kits-clause-given g c = λ h given.
    let content = g.F.Files.content c.args.files.now in
    let begins = subst (λ (o : Option (List Entry)). IfSome o (BeginsWith content c.args.line.now.memo)) c.in-Some.is c.in-Ok.ensures.entries in
    given_is c.files_are_told_in_one_way.ensures.list content c.args.line.now.memo_new c.args.line.now.memo
    (Some c.in-Ok-kits.recalled.kit.entries) (ap is_some (sym c.in-Some.is) ∙ c.in-Ok.ensures.memo)
    (subst (BeginsWith content c.args.line.now.memo) (sym c.in-Ok-kits.ensures.entries) begins) h given

pub returns-in-Ok-kits-clause-entries : goal.returns-in-Ok-kits-clause-entries
returns-in-Ok-kits-clause-entries g c =
    let content = g.F.Files.content c.args.files.now in
    let begins = subst (λ (o : Option (List Entry)). IfSome o (BeginsWith content c.args.line.now.memo)) c.in-Some.is c.in-Ok.ensures.entries in
    subst (BeginsWith content c.args.line.now.memo) (sym c.in-Ok-kits.ensures.entries) begins

pub returns-in-Ok-kits-clause-memo : goal.returns-in-Ok-kits-clause-memo
returns-in-Ok-kits-clause-memo g c = ap is_some (sym c.in-Some.is) ∙ c.in-Ok.ensures.memo

pub returns-in-Ok-kits-clause-recalled : goal.returns-in-Ok-kits-clause-recalled
returns-in-Ok-kits-clause-recalled g c =
    let content = g.F.Files.content c.args.files.now in
    let begins = subst (λ (o : Option (List Entry)). IfSome o (BeginsWith content c.args.line.now.memo)) c.in-Some.is c.in-Ok.ensures.entries in
    recalled_is content c.args.line.now.memo_new c.args.line.now.memo (Some c.in-Some.memo)
    (ap is_some (sym c.in-Some.is) ∙ c.in-Ok.ensures.memo) begins

-- there was no memory for its kit

pub returns-in-Err-kits-clause-asks : goal.returns-in-Err-kits-clause-asks
returns-in-Err-kits-clause-asks g c =
    part_whole (g.F.Files.asked c.args.files.now) (g.F.Files.asked c.memo_of.new.files) (named c.args.line.now.memo) c.in-Ok.ensures.asked
