use Rattle.std.proofs.Common.{◌≡◌, true, rules}
use Rattle.line_flow.proofs.Results.{on_ok}
use Rattle.line_flow.proofs.StandsLaw.{ended_on}
use Rattle.line_flow.proofs.flow.Flow.end.Goals as goal

pub returns : goal.returns
returns c =
    let all : c.settle_all.result ≡ true = search rules in
    on_ok c.finish.result (λ r finish t s. ended_on c.settle_all.new.self t r finish (c.settle_all.ensures.all all t s)) c.finish.ensures
