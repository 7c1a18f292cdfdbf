-- A run all of whose waits are seen comes to its end.
use Rattle.std.proofs.Common.{◌≡◌, ◌≢◌, ℕ, zero, suc, List, [], ◌∷◌, Option, Some, None, slice_get, refl, ap, sym, ◌∙◌}
use Rattle.sky_base.specs.Val as v
use Rattle.sky_base.specs.Res.{Object, Res, Fin, Tell, Ask}
use Rattle.sky_base.specs.Read.{Outcome, no_fuel, Act, refs_of, see_all, on_seen, acts_seen, outcome, acts}
use Rattle.sky_base_law.specs.Tasks.{Each, waits_in}
use Rattle.sky_base_law.proofs.GatheredObjects.{all_there}

module _ {N : Type 0} (see : v.Desc N → Option (Object N)) where
  -- each wait of these is for what is seen
  abbrev pub Seen : List (Act N) → Type 0
  Seen es = (i : ℕ) (ds : List (v.Desc N)) → slice_get (waits_in es) i ≡ Some ds → Each (λ d. see d ≢ None) ds

  on_there : (x : Option (List (Object N))) (k : List (Object N) → Res N) → x ≢ None → Seen (acts_seen x (λ os. acts see (k os)))
      → ((os : List (Object N)) → Seen (acts see (k os)) → outcome see (k os) ≢ no_fuel) → on_seen x (λ os. outcome see (k os)) ≢ no_fuel
  on_there None k ne h g = absurd (ne refl)
  on_there (Some os) k ne h g = g os h

  pub run_ends : (r : Res N) → Seen (acts see r) → outcome see r ≢ no_fuel
  run_ends (Fin e st) h = λ q. cc
  run_ends (Tell d r) h = run_ends r (λ i ds e. h i ds e)
  run_ends (Ask w fr st k) h =
      on_there (see_all see (refs_of w)) k (all_there see (refs_of w) (h 0 (refs_of w) refl)) (λ i ds e. h (suc i) ds e) (λ os g. run_ends (k os) g)
