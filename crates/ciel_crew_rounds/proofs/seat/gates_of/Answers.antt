use Rattle.std.proofs.Common.{List, ◌≡◌, ◌+◌, ◌≤◌, ◌++◌, ap, arith, length, subst, sym}
use Rattle.ciel_crew_work.proofs.Gathered.{room_grows}
use Rattle.ciel_crew_rounds.specs.Seats.{gates_in}
use Rattle.ciel_crew_rounds.specs.declared.seat.Seat.{Seat}
use Rattle.ciel_crew_rounds.proofs.Gates.{first_gate}
use Rattle.ciel_crew_rounds.proofs.seat.gates_of.Goals as goal

pub loop-seat-preserved : goal.loop-seat-preserved
loop-seat-preserved g c =
    let i = c.loop-seat.invariant in
    let s = c.in-Some.ensures.steps.0 in
    let rest = c.next.new.self.rest.items in
    let n = ap length s in
    let was = subst (λ (r : List (Seat g.row.K.Denot g.row.N.Denot g.row.G.Denot g.row.R.Denot)). c.loop-seat.gates.items ++ gates_in r
    ≡ gates_in c.args.seats.items) s i.0 in (
      first_gate c.loop-seat.gates.items c.keep.new.gates.items (gates_in c.args.seats.items) c.in-Some.seat rest c.into_gate.result was
          c.into_gate.ensures c.keep.ensures.items,
      subst (λ x. length c.keep.new.gates.items + length rest ≤ x) (sym c.keep.ensures.capacity)
          (room_grows c.loop-seat.gates.items c.keep.new.gates.items c.into_gate.result _ (length rest) c.keep.ensures.items
          (omega (arith, i.1, n))),
    )
