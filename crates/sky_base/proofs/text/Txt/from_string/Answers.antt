-- The bytes of a string are text.
use Rattle.sky_base.proofs.text.Txt.from_string.Goals as goal

pub invariant_of-result : goal.invariant_of-result
invariant_of-result c = rw (c.in-Ok.ensures.ok, ← c.as_str-bytes.ensures.value) c.as_str-bytes.utf8
