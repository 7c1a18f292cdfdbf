-- The content of a text is UTF-8.
use Rattle.std.proofs.Common.{[], ◌+◌}
use Rattle.std.proofs.lemmas.Bool.{false≢true}
use Rattle.sky_text.proofs.TextUtf8.{content_utf8}
use Rattle.sky_text.proofs.scan.text.Goals as goal

pub unreachable-requires : goal.unreachable-requires
unreachable-requires c =
    let utf8 = content_utf8 c.args.quote (c.args.quote + 1) [] c.args.bytes.now (c.in_ok-content.content.items, c.in_ok-content.to)
    c.requires.utf8 c.in_ok-content.ensures.found in
    false≢true (c.in_default.ensures.succeeds utf8)
