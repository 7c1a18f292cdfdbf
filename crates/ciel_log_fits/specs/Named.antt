-- Descriptions without their names.
use Rattle.sky_base.specs.declared.object.Desc1.{Desc1}
use Rattle.sky_base.specs.declared.object.Named.{Named}

abbrev pub desc_of : Named → Desc1
desc_of n = n.desc
