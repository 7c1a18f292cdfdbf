-- What lies around a job: executors that are handed in, and data that is read and written as JSON.
use Rattle.sky_base.specs.KitView.{Gives}
use Rattle.sky_base.specs.See.{Around}
use Rattle.ciel_json.specs.Read as json
use Rattle.ciel_json.specs.Text as json_text

abbrev pub json_around : Gives → Around
json_around gives = record { runs = gives; reads = λ bytes. json.reads bytes; writes = λ v. json_text.text_of v }
