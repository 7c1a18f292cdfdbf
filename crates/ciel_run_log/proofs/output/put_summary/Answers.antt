-- Each piece behind those before it.
use Rattle.std.proofs.Common.{◌≡◌, ◌++◌, ◌∷◌, [], ℕ, List, codes, decimal, length, ap, sym, ◌∙◌, append_assoc}
use Rattle.std.specs.List.{concat}
use Rattle.hex.specs.Hex.{encode_lower}
use Rattle.sha1.specs.Sha1.{sha1}
use Rattle.line_kit.specs.Lines.{lines}
use Rattle.ciel_io.proofs.Joined.{on_err, tells_more}
use Rattle.ciel_run_log.proofs.Puts.{part_at, part_first}
use Rattle.ciel_run_log.specs.Summary.{summary}
use Rattle.ciel_run_log.proofs.output.put_summary.Goals as goal

-- the pieces before the mark, and the mark
abbrev front : (count kinds : List ℕ) → List ℕ
front count kinds = concat (codes "lines " ∷ count ∷ codes " kinds " ∷ kinds ∷ codes " mark " ∷ [])

cut : (count : ℕ) (a c k m : List ℕ) (n : ℕ) → c ≡ decimal count → k ≡ decimal n → n ≡ length (lines a) → m ≡ sha1 a → summary count a
    ≡ front c k ++ (encode_lower m ++ codes "\n")
cut count a c k m n x y z u = λ i. front (sym x i) (sym (y ∙ ap decimal z) i) ++ (encode_lower (sym u i) ++ codes "\n")

pub returns-in_err-put_all-clause-part : goal.returns-in_err-put_all-clause-part
returns-in_err-put_all-clause-part g c =
    on_err c.from_residual.result
    (part_first _ _ _ (front c.format-count.result.now c.format-kinds.result.now) (encode_lower (sha1 c.args.answer.now) ++ codes "\n")
    (cut c.args.count c.args.answer.now _ _ _ c.lines_in.result c.format-count.ensures.text c.format-kinds.ensures.text c.lines_in.ensures.value
    (λ i. sha1 c.args.answer.now))
    c.in_err-put_all.ensures.part)

pub returns-in_err-put_hex-clause-part : goal.returns-in_err-put_hex-clause-part
returns-in_err-put_hex-clause-part g c =
    on_err c.from_residual-in_err-put_hex.result
    (part_at _ _ _ _ (front c.format-count.result.now c.format-kinds.result.now) (encode_lower c.mark.result) (codes "\n")
    (cut c.args.count c.args.answer.now _ _ _ c.lines_in.result c.format-count.ensures.text c.format-kinds.ensures.text c.lines_in.ensures.value
    c.mark.ensures.mark)
    c.in_ok-put_all.ensures.written c.in_err-put_hex.ensures.part)

pub returns-in_err-put-clause-part : goal.returns-in_err-put-clause-part
returns-in_err-put-clause-part g c =
    let whole = cut c.args.count c.args.answer.now _ _ _ c.lines_in.result c.format-count.ensures.text c.format-kinds.ensures.text
    c.lines_in.ensures.value c.mark.ensures.mark in
    let before = front c.format-count.result.now c.format-kinds.result.now in
    let digits = encode_lower c.mark.result in
    on_err c.from_residual-in_err-put.result
    (part_at _ _ _ _ (before ++ digits) (codes "\n") []
    (whole ∙ sym (append_assoc before digits (codes "\n")))
    (tells_more _ _ _ before digits c.in_ok-put_all.ensures.written c.in_ok-put_hex.ensures.written) c.in_err-put.ensures.part)
