-- The laws, each said of every script.
use Rattle.std.specs.Prelude.{ℕ, List}
use Rattle.sky_base.specs.Name.{low_desc}
use Rattle.sky_base.specs.Needed.{Task, WaitOf, Needed}
use Rattle.sky_base.specs.KitView.{Gives}
use Rattle.sky_base.specs.See as see
use Rattle.sky_base.specs.Tree.{Script}
use Rattle.sky_base.specs.Val.{Desc, Val}
use Rattle.sky_base_law.specs.NamesLaws.{Tag, no_name}
use Rattle.sky_base_law.specs.Sound.{Sound, SoundDesc}
use Rattle.sky_base_law.specs.Tasks.{In, Each, acts_of, made_in}
use Rattle.sky_base_law.specs.Typed.{Typed, TypedDesc, TypedReads, TypedScript}
use Rattle.sky_parse_grammar.specs.Tops.{Top, script_of}
use Rattle.sky_parse.specs.Source.{IsScript}
use Rattle.ciel_json.specs.Around.{json_around}
use Rattle.ciel_name.specs.Laws.{SpelledDesc}
use Rattle.ciel_name.specs.Spelled.{IsData}
use Rattle.ciel_name_law.specs.Typed.{NamedUseNothing, OverNames, DescOverNames, GivesNames}

-- in a script that functions and statements make, named functions use nothing
abbrev pub ScriptsUseSo : Type 0
ScriptsUseSo = (keys : List (List ℕ)) (tops : List Top) → NamedUseNothing (script_of keys tops).funs

-- the literals and names of a script that bytes are have the types
abbrev pub ScriptsAreTyped : Type 0
ScriptsAreTyped = (source : List ℕ) (keys : List (List ℕ)) (script : Script) → IsScript source keys script → TypedScript script

-- a sound and typed value over names is data
abbrev pub SoundIsData : Type 0
SoundIsData = (sc : Script) → NamedUseNothing sc.funs → (v : Val (List ℕ)) → Typed v → OverNames v → Sound sc v → IsData v

-- and such a description can be spelled
abbrev pub SoundIsSpelled : Type 0
SoundIsSpelled =
    (sc : Script) → NamedUseNothing sc.funs → (d : Desc (List ℕ)) → TypedDesc d → DescOverNames d → SoundDesc sc d → SpelledDesc d

-- what is read as data has the types
abbrev pub ReadsAreTyped : Type 0
ReadsAreTyped = (gives : Gives) → TypedReads (json_around gives)

-- ---- the descriptions of a run

-- a job's script is that of some bytes
abbrev pub OfBytes : see.Job → Type 0
OfBytes job = (source : List ℕ) × (keys : List (List ℕ)) × IsScript source keys job.script

-- a description with names in place of those that it refers to
abbrev pub named : Tag → see.Desc → Desc (List ℕ)
named tag d = low_desc no_name tag d

-- what a needed task makes can be spelled, by names of 20 or 32 bytes
abbrev pub MadeIsSpelled : Type 0
MadeIsSpelled =
    (job : see.Job) (gives : Gives) → OfBytes job → (tag : Tag) → GivesNames tag
    → (n : ℕ) (t : Task) (d : see.Desc) → Needed job (json_around gives) t
    → In d (made_in (acts_of job (json_around gives) n t)) → SpelledDesc (named tag d)

-- so can what it waits for
abbrev pub WaitedIsSpelled : Type 0
WaitedIsSpelled =
    (job : see.Job) (gives : Gives) → OfBytes job → (tag : Tag) → GivesNames tag
    → (t : Task) (j : ℕ) (ds : List see.Desc) → Needed job (json_around gives) t
    → WaitOf job (json_around gives) t j ds → Each (λ d. SpelledDesc (named tag d)) ds

-- and every needed task itself
abbrev pub NeededIsSpelled : Type 0
NeededIsSpelled =
    (job : see.Job) (gives : Gives) → OfBytes job → (tag : Tag) → GivesNames tag → (d : see.Desc) → Needed job (json_around gives) (Task.of d)
    → SpelledDesc (named tag d)
