use Rattle.std.proofs.Common.{◌≡◌, ◌<◌, length, take, sym, ap, ◌∙◌, subst, true≢false}
use Rattle.std.specs.Cmp.Lexicographic.{bytes_decides}
use Rattle.ciel_io.proofs.Taken.{first_differ, too_many}
use Rattle.ciel_io.proofs.standing.next_standing.Goals as goal
use Rattle.ciel_io.proofs.standing.next_standing.Goals.{else-n-rest-via-then-n-rest+else-eq, else-n-rest-via-else-n-rest}

pub returns-else-n-rest-clause-differs : goal.returns-else-n-rest-clause-differs
returns-else-n-rest-clause-differs g c =
    let rest = c.args.rest.now in
    let given = take c.in_ok-n.n c.read.new.buf in
    let read = c.in_ok-n.ensures in
    let long = read.bound.1 in
    elim c.else-n-rest.branch [
      | else-n-rest-via-then-n-rest+else-eq w ↦
          first_differ _ _ rest given read.bytes.0 (λ same.
          let equal : given ≡ take c.in_ok-n.n rest = sym same ∙ ap (λ n. take n rest) (sym long) in
          true≢false (sym ((bytes_decides given (take c.in_ok-n.n rest)).1 equal) ∙ sym w.if-eq.ensures))
      | else-n-rest-via-else-n-rest w ↦ too_many _ _ rest given read.bytes.0 (subst (λ n. length rest < n) long w.if-n-rest.false)
    ]
