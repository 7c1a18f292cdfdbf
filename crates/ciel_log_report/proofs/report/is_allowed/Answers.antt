use Rattle.ciel_log_report.proofs.report.is_allowed.Goals as goal

pub returns-clause-inside : goal.returns-clause-inside
returns-clause-inside c t digest =
    let inside = c.is_closed.ensures.yes c.if-not-is_closed.false digest in
    rw c.requires.spawned at inside

pub returns-then-not-is_closed-clause-refused : goal.returns-then-not-is_closed-clause-refused
returns-then-not-is_closed-clause-refused c _ digest sound whole inside =
    let no = c.is_closed.ensures.no c.if-not-is_closed.true digest in
    let fails = rw c.requires.spawned at no in fails inside

pub returns-then-not-allowed-clause-refused : goal.returns-then-not-allowed-clause-refused
returns-then-not-allowed-clause-refused c _ digest sound whole inside = c.in_ok-allowed.ensures.no c.if-not-allowed.true sound

pub returns-clause-refused : goal.returns-clause-refused
returns-clause-refused c f digest sound whole inside = c.in_ok-whole.ensures.no f whole
