-- What was made so far, together with the rest of the run.
use Rattle.std.specs.Prelude.{◌≡◌, ℕ, List, map, ◌++◌, Result, Ok, Err}
use Rattle.sky_base.specs.Val.{Desc, known}
use Rattle.sky_base.specs.Name.{digested}
use Rattle.sky_base.specs.Res.{tell_all, fails}
use Rattle.sky_base.specs.Eval.{World, outputs_of}
use Rattle.sky_base.specs.Read.{segment}
use Rattle.sky_base.specs.Tree.{Place, Script}
use Rattle.sky_base.specs.Names.{known_of}
use Rattle.sky_base.specs.ObjectView.{desc_view}
use Rattle.sky_base.specs.declared.fault.FaultKind.{FaultKind}
use Rattle.sky_base_scope.specs.Plain.{Val, Vars}
use Rattle.sky_base.specs.declared.object.Named.{Named}
use Rattle.sky_machine_entries.specs.Config.{Run, rest_in}
use Rattle.sky_machine_entries.specs.declared.entry.Entry.{Entry}

-- the descriptions, and their names
abbrev pub descs : List Named → List (Desc (List ℕ))
descs ns = map (λ n. desc_view n.desc) ns

abbrev pub names : List Named → List (List ℕ)
names ns = map (λ n. n.name) ns

-- what is made in the whole of a run of which this is the rest, and the names of all that is made up to its next wait
abbrev pub whole : (List ℕ → List ℕ) → List Named → Run → Run × List (List ℕ)
whole digest ns r = (tell_all (descs ns) r, names ns ++ map (digested digest) (segment r))

-- the script is this one, and a reference to what is made holds its name
pub record RunsOn (w : World (List ℕ)) (sc : Script) (digest : List ℕ → List ℕ) : Type 0 where
  pub script : w.script ≡ sc
  pub make : (d : Desc (List ℕ)) → w.make d ≡ known (digested digest d)

-- the outputs of an executor task that were made inside of these forms, or the fault in their place
abbrev pub OutputsSo : (List ℕ → List ℕ) → Script → (old new : List Named) → Val → Val → Val → Result (List (List ℕ)) FaultKind → Type 0
OutputsSo digest sc old new x a n (Ok ns) =
    (w : World (List ℕ)) (es : List Entry) (p : Place) (st : Vars) (k : List (Desc (List ℕ)) → Vars → Run) → RunsOn w sc digest
    → whole digest new (rest_in w es (k (known_of ns) st)) ≡ whole digest old (rest_in w es (outputs_of w x a n p st k))
OutputsSo digest sc old new x a n (Err e) =
    (new ≡ old) × ((w : World (List ℕ)) (p : Place) (st : Vars) (k : List (Desc (List ℕ)) → Vars → Run) → fails e p st ≡ outputs_of w x a n p st k)
