-- As much is kept as there is room for.
use Rattle.std.proofs.Common.{◌≡◌, ◌≤◌, ◌+◌, ◌-◌, ap, arith, length, subst, sym}
use Rattle.ciel_look_words.specs.Kept.{Puts}
use Rattle.ciel_look_words.proofs.KeptBytes.{puts_cut}
use Rattle.ciel_look_words.proofs.short.Short.put.Goals as goal

pub returns : goal.returns
returns c =
    let held = c.self.inside.held in
    let room : length c.args.self.now + (61 - c.len-room.result) ≡ 61 =
    omega (arith, ap length c.self.view_is, c.self.invariant, c.len-room.ensures, held.ok.0) in
    let less : 61 - c.len-room.result ≤ length c.args.bytes.now = omega (arith, c.if-bytes-room.false) in
    record {
      puts = subst (Puts c.args.self.now c.args.bytes.now) (sym c.in_ok-append-2.ensures.all)
          (puts_cut c.args.self.now c.args.bytes.now (61 - c.len-room.result) room less);
    }
