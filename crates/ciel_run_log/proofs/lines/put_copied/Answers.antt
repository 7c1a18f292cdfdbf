-- The plus, and the digits behind it.
use Rattle.std.proofs.Common.{◌≡◌, ◌++◌, [], ap, codes, refl, sym}
use Rattle.hex.specs.Hex.{encode_lower}
use Rattle.ciel_run_log.specs.Text.{copied_text}
use Rattle.ciel_io.proofs.Joined.{on_err}
use Rattle.ciel_run_log.proofs.Puts.{on_err_to, part_at, part_first}
use Rattle.ciel_run_log.proofs.lines.put_copied.Goals as goal

pub returns-in_err-put-clause-part : goal.returns-in_err-put-clause-part
returns-in_err-put-clause-part g c =
    on_err c.from_residual.result (part_first _ _ (copied_text c.args.name.now) (codes " +") (encode_lower c.args.name.now ++ []) refl
    c.in_err-put.ensures.part)

pub returns-clause-part : goal.returns-clause-part
returns-clause-part g c =
    let whole : copied_text c.args.name.now ≡ codes " +" ++ (encode_lower c.bytes.result.now ++ []) = ap copied_text (sym c.bytes.ensures.bytes) in
    on_err_to c.put_hex.result c.put_hex.ensures.part
    (part_at _ _ _ _ (codes " +") (encode_lower c.bytes.result.now) [] whole c.in_ok-put.ensures.written)
