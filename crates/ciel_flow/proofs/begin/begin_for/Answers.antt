use Rattle.std.proofs.Common.{ℕ, Option, length, subst}
use Rattle.std.specs.Prelude.{IfSome}
use Rattle.sky_base.specs.JobView.{job_view}
use Rattle.ciel_flow.specs.Streaming.{KeptDesc, ReadsOutput}
use Rattle.ciel_flow.proofs.Begins.{begun_as, handed}
use Rattle.ciel_flow.proofs.Hints.{kept_follower}
use Rattle.ciel_flow.proofs.begin.begin_for.Goals as goal

pub slots-requires : goal.slots-requires
slots-requires g c =
    let shop = c.args.shop.now in
    subst KeptDesc c.in-Exec.is
    (kept_follower (g.N.Namer.digest shop.namer) shop.shelves (job_view shop.job).script (length (job_view shop.job).inputs) c.args.order.now
    c.args.consumer c.requires.leads)

pub returns-clause-begun : goal.returns-clause-begun
returns-clause-begun g c =
    let x = c.args.executor.now in
    let reads = subst (λ (o : Option ℕ). IfSome o (ReadsOutput (g.N.Namer.digest c.args.shop.now.namer) c.in-Exec.read x c.args.args.now c.args.outputs))
    c.in-Some.is c.in_ok-index.ensures in
    let call = handed c.in-Exec.is c.in_ok-follower.ensures in
    begun_as g.N.Namer.digest c.args.shop.now c.args.order.now c.args.consumer c.requires.leads x c.args.args.now c.args.outputs c.in-Some.index
    c.requires.desc c.requires.hands c.in_ok-follower.follower c.in-Exec.read c.in-Exec.made _ call reads
    c.args.lane c.args.rt c.args.alloc c.in_ok-slotted.slotted c.in_ok-producer.producer c.in_ok-producer.pieces c.in_ok-slotted.ensures
    c.in_ok-producer.ensures.put c.in_ok-producer.ensures.taken
