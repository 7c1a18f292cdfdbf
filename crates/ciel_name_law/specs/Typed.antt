-- Functions that use nothing, and descriptions over names.
use Rattle.std.specs.Prelude.{◌≡◌, ◌⊎◌, ℕ, List, [], ◌∷◌, length, false}
use Rattle.sky_base.specs.Name.{is_anonymous}
use Rattle.sky_base.specs.Tree.{FunDef}
use Rattle.sky_base.specs.Val.{Val, Desc, call, out, input, known, refs, vals_refs, pairs_refs}
use Rattle.sky_base_law.specs.NamesLaws.{Tag}
use Rattle.sky_base_law.specs.Tasks.{Each}
use Rattle.ciel_name.specs.Spelled.{IsName}

-- each named function uses nothing of what stands around it
abbrev pub NamedUseNothing : List FunDef → Type 0
NamedUseNothing [] = Unit {0}
NamedUseNothing (f ∷ fs) = (is_anonymous f.name ≡ false → f.uses ≡ []) × NamedUseNothing fs

-- all that a value refers to are names of 20 or 32 bytes
abbrev pub OverNames : Val (List ℕ) → Type 0
OverNames v = Each IsName (refs v)

-- and all that a description does, which is a whole one itself
abbrev pub DescOverNames : Desc (List ℕ) → Type 0
DescOverNames (call f c vs) = Each IsName (pairs_refs c) × Each IsName (vals_refs vs)
DescOverNames (out x v n i) = OverNames v
DescOverNames (input k) = Unit {0}
DescOverNames (known n) = ⊥

-- what gives names gives 20 or 32 bytes
abbrev pub GivesNames : Tag → Type 0
GivesNames tag = (d : Desc (List ℕ)) → (length (tag d) ≡ 20) ⊎ (length (tag d) ≡ 32)
