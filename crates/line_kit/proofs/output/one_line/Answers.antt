use Rattle.std.proofs.Common.{[], ◌∷◌, Option, List, ℕ, ap, ◌∙◌}
use Rattle.line_kit.specs.Lines.{ended}
use Rattle.line_kit.specs.Written.{extended}
use Rattle.line_kit.proofs.WrittenLaw.{put_one}
use Rattle.line_kit.proofs.output.one_line.Goals as goal

pub returns : goal.returns
returns c =
    let line = c.args.line.now in
    c.alone.ensures (line ∷ []) (put_one c.put_line.new.self line
    (c.in_ok-put_line.ensures ∙ ap (λ (o : Option (List ℕ)). extended o (ended line)) c.new-out.ensures))
