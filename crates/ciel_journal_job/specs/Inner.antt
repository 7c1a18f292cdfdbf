-- What stands inside the real job's descriptions, and what its objects hold.
use Rattle.std.specs.Prelude.{List, [], ◌++◌, Option, Some, None}
use Rattle.sky_base.specs.Res.{object_refs}
use Rattle.sky_base.specs.Val.{call, out, input, known, refs, vals_refs, pairs_refs}
use Rattle.sky_base.specs.See.{Around, Desc, Job, Obj, see}
use Rattle.ciel_journal.specs.Known.{Inner}

-- what a description refers to: by its arguments, and by what its function captured
abbrev pub inside : Desc → List Desc
inside (call f c vs) = pairs_refs c ++ vals_refs vs
inside (out x a n i) = refs a
inside (input k) = []
inside (known b) = absurd b

-- what an object refers to, where it is seen
abbrev pub seen_refs : Option Obj → List Desc
seen_refs None = []
seen_refs (Some o) = object_refs o

abbrev pub real_inner : Job → Around → Inner Desc
real_inner job around = record { inside = inside; carries = λ n d. seen_refs (see job around n d) }
