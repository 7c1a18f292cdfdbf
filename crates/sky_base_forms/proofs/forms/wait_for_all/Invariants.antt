use Rattle.std.proofs.Common.{◌≡◌, List, drop}
use Rattle.sky_base.specs.Names.{known_of as known_names}
use Rattle.sky_base_known.specs.Walk.{Row, look, known_of}
use Rattle.sky_base_scope.specs.Plain.{Vars, exec_seen}
use Rattle.sky_base_forms.proofs.Awaits.{seen_after}
use Rattle.sky_base_forms.proofs.forms.wait_for_all.Given as goal

abbrev pub invariant-loop-name : goal.invariant-loop-name
invariant-loop-name l =
    (ds rows : List Row) (st : Vars) → exec_seen (look (known_of l.objects) (known_names l.name-items)) ds rows st
    ≡ seen_after l.first (look (known_of l.objects) (known_names (drop l.name-index l.name-items))) ds rows st
