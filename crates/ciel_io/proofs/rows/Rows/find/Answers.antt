-- The row is found at the first place where it stands.
use Rattle.std.proofs.Common.{◌≡◌, ◌∙◌, ◌<◌, ◌≤◌, true, bytes_eq, get_or, [], length, ap, arith, sym}
use Rattle.ciel_io.proofs.RowsLaw.{found_at, length_cut, not_found}
use Rattle.ciel_io.proofs.rows.Rows.find.Goals as goal

pub returns-then-eq : goal.returns-then-eq
returns-then-eq c =
    let rows = c.args.self.now.rows in
    let row = c.args.row.now in
    let n = c.loop-place.place in
    let many = length_cut c.self.inside.lengths.items c.self.inside.bytes.items in
    let all = ap (λ r. length r.rows) c.self.view_is in
    let here : n < length rows = omega (arith, many, all, c.loop-place-test.true, c.len-place-end.ensures, c.self.inside.lengths.ok.0) in
    let same : bytes_eq (get_or rows n []) row ≡ true =
    ap (λ y. bytes_eq y row) (sym c.row.ensures) ∙ sym c.eq.ensures ∙ c.if-eq.true in
    sym (found_at rows row n here c.loop-place.invariant same)

pub returns : goal.returns
returns c =
    let rows = c.args.self.now.rows in
    let many = length_cut c.self.inside.lengths.items c.self.inside.bytes.items in
    let all = ap (λ r. length r.rows) c.self.view_is in
    let past : length rows ≤ c.loop-place.place = omega (arith, many, all, c.loop-place-test.false, c.len-place-end.ensures, c.self.inside.lengths.ok.0) in
    sym (not_found rows c.args.row.now c.loop-place.place past c.loop-place.invariant)
