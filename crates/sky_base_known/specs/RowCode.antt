-- A code for descriptions and their lists, by which a proof tells them apart.
use Rattle.std.proofs.Common.{sym, ap, ◌∙◌}
use Rattle.std.specs.Prelude.{List}
use Rattle.std.specs.Coded.{Coded, coded_list}
use Rattle.sky_base.specs.Code.{desc_code, desc_back, desc_same}
use Rattle.sky_base_known.specs.Walk.{Row}

abbrev pub row_code : Coded Row
row_code = record { code = desc_code; inj = λ x y e. sym (desc_same x) ∙ ap desc_back e ∙ desc_same y }

abbrev pub rows_code : Coded (List Row)
rows_code = coded_list row_code
