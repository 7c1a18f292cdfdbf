-- The name behind a space, and the mark behind a sign.
use Rattle.std.proofs.Common.{◌≡◌, ◌∙◌, ◌++◌, [], append_assoc, ap, ap₂, codes, refl, sym}
use Rattle.hex.specs.Hex.{encode_lower}
use Rattle.ciel_run_log.specs.Text.{made_text}
use Rattle.ciel_io.proofs.Joined.{on_err, tells_more}
use Rattle.ciel_run_log.proofs.Puts.{on_err_to, part_at, part_first}
use Rattle.ciel_run_log.proofs.lines.put_made.Goals as goal

pub returns-in_err-put-clause-part : goal.returns-in_err-put-clause-part
returns-in_err-put-clause-part g c =
    let made = c.args.made.now in
    on_err c.from_residual.result (part_first _ _ (made_text made) (codes " ")
    (encode_lower made.0 ++ (codes "=" ++ (encode_lower made.1 ++ []))) refl c.in_err-put.ensures.part)

pub returns-in_err-put_hex-clause-part : goal.returns-in_err-put_hex-clause-part
returns-in_err-put_hex-clause-part g c =
    let made = c.args.made.now in
    let name = c.bytes.result.now in
    let rest = codes "=" ++ (encode_lower made.1 ++ []) in
    let whole : made_text made ≡ codes " " ++ (encode_lower name ++ rest) =
    ap (λ t. codes " " ++ (encode_lower t ++ rest)) (sym c.bytes.ensures.bytes) in
    on_err c.from_residual-in_err-put_hex.result
    (part_at _ _ _ _ (codes " ") (encode_lower name) rest whole c.in_ok-put.ensures.written c.in_err-put_hex.ensures.part)

pub returns-in_err-put-2-clause-part : goal.returns-in_err-put-2-clause-part
returns-in_err-put-2-clause-part g c =
    let made = c.args.made.now in
    let name = c.bytes.result.now in
    let front = codes " " ++ encode_lower name in
    let rest = encode_lower made.1 ++ [] in
    let whole : made_text made ≡ front ++ (codes "=" ++ rest) =
    ap (λ t. codes " " ++ (encode_lower t ++ (codes "=" ++ rest))) (sym c.bytes.ensures.bytes)
    ∙ sym (append_assoc (codes " ") (encode_lower name) (codes "=" ++ rest)) in
    on_err c.from_residual-in_err-put-2.result
    (part_at _ _ _ _ front (codes "=") rest whole
    (tells_more _ _ _ (codes " ") (encode_lower name) c.in_ok-put.ensures.written c.in_ok-put_hex.ensures.written)
    c.in_err-put-2.ensures.part)

pub returns-clause-part : goal.returns-clause-part
returns-clause-part g c =
    let made = c.args.made.now in
    let name = c.bytes.result.now in
    let mark = c.as_slice.result.now in
    let front = (codes " " ++ encode_lower name) ++ codes "=" in
    let whole : made_text made ≡ front ++ (encode_lower mark ++ []) =
    ap₂ (λ t u. codes " " ++ (encode_lower t ++ (codes "=" ++ (encode_lower u ++ [])))) (sym c.bytes.ensures.bytes) (sym c.as_slice.ensures)
    ∙ sym (append_assoc (codes " ") (encode_lower name) (codes "=" ++ (encode_lower mark ++ [])))
    ∙ sym (append_assoc (codes " " ++ encode_lower name) (codes "=") (encode_lower mark ++ [])) in
    on_err_to c.put_hex-2.result c.put_hex-2.ensures.part
    (part_at _ _ _ _ front (encode_lower mark) [] whole
    (tells_more _ _ _ (codes " " ++ encode_lower name) (codes "=")
    (tells_more _ _ _ (codes " ") (encode_lower name) c.in_ok-put.ensures.written c.in_ok-put_hex.ensures.written)
    c.in_ok-put-2.ensures.written))
