-- Each step leaves less work.
use Rattle.std.proofs.Common.{◌≡◌, ℕ, suc, ◌+◌, ◌*◌, ◌-◌, ◌<◌, ◌≤◌, List, [], ◌∷◌, ◌++◌, length, ap, arith, ⊎_elim, length-append}
use Rattle.std.proofs.lemmas.Bool.{cases_lt}
use Rattle.std.proofs.Math.Nat.{mul-le-mul_right}
use Rattle.sky_base.specs.Res.{visits}
use Rattle.sky_machine_entries.specs.Falls.{load, faults, work, GoesIn, GoesOut}
use Rattle.sky_machine_entries.specs.declared.control.End.{End}
use Rattle.sky_machine_entries.specs.declared.control.Control.{Control}
use Rattle.sky_machine_entries.specs.declared.entry.Entry as rust

-- with no visit, what is left falls; each visit pays for one more
keeps : (k a b d x y : ℕ) → 1 ≤ k → b ≡ a + d → x < y + d → k * a + x < k * b + y
keeps k a b d x y pos is h = let more : 1 * d ≤ k * d = mul-le-mul_right d pos in rw is (omega (arith, more))

-- a visit pays for a node that is begun
drops : (k a b d x y : ℕ) → 1 ≤ k → b ≡ a + suc d → x < k + y + d → k * a + x < k * b + y
drops k a b d x y pos is h = let more : 1 * d ≤ k * d = mul-le-mul_right d pos in rw is (omega (arith, more))

module _ (nodes : ℕ) where
  -- from a node to one inside, or to the end of its visit
  pub begun : (n old new : ℕ) (es fs : List rust.Entry) (c : Control) → n < nodes → GoesIn n old es new fs c
      → work nodes fs c new < (10 * nodes + 20) * (visits - old) + (10 * (nodes - n) + (2 * length es + 0))
  begun n old new es fs (Control.Begin m e) within h =
      ⊎_elim (λ lt. drops _ _ _ (new - suc old) _ _ (omega arith) (omega arith) (omega arith))
      (λ le. keeps _ _ _ 0 _ _ (omega arith) (omega arith) (omega arith)) (cases_lt old new)
  begun n old new es fs (Control.Do m s) within h =
      ⊎_elim (λ lt. drops _ _ _ (new - suc old) _ _ (omega arith) (omega arith) (omega arith))
      (λ le. keeps _ _ _ 0 _ _ (omega arith) (omega arith) (omega arith)) (cases_lt old new)
  begun n old new es fs (Control.Wait q) within h = keeps _ _ _ (new - old) _ _ (omega arith) (omega arith) (omega arith)
  begun n old new es fs (Control.End End.Goes) within h =
      keeps _ _ _ (new - suc old) _ _ (omega arith) (omega arith) (omega arith)
  begun n old new es fs (Control.End (End.Got v)) within h =
      keeps _ _ _ (new - suc old) _ _ (omega arith) (omega arith) (omega arith)
  begun n old new es fs (Control.End (End.Returned v)) within h =
      keeps _ _ _ (new - suc old) _ _ (omega arith) (omega arith) (omega arith)
  begun n old new es fs (Control.End (End.Failed f)) within h =
      keeps _ _ _ (new - old) _ _ (omega arith) (omega arith) (omega arith)

  away : (old new w : ℕ) (fs : List rust.Entry) (c : Control) → new ≤ visits → old ≤ new → load fs c + old < w + new
      → work nodes fs c new < (10 * nodes + 20) * suc (visits - old) + (0 + w)
  away old new w fs (Control.Begin m e) top more light = drops _ _ _ (new - old) _ _ (omega arith) (omega arith) (omega arith)
  away old new w fs (Control.Do m s) top more light = drops _ _ _ (new - old) _ _ (omega arith) (omega arith) (omega arith)
  away old new w fs (Control.Wait q) top more light = drops _ _ _ (new - old) _ _ (omega arith) (omega arith) (omega arith)
  away old new w fs (Control.End End.Goes) top more light = keeps _ _ _ (new - old) _ _ (omega arith) (omega arith) (omega arith)
  away old new w fs (Control.End (End.Got v)) top more light = keeps _ _ _ (new - old) _ _ (omega arith) (omega arith) (omega arith)
  away old new w fs (Control.End (End.Returned v)) top more light =
      keeps _ _ _ (new - old) _ _ (omega arith) (omega arith) (omega arith)
  away old new w fs (Control.End (End.Failed f)) top more light =
      drops _ _ _ (new - old) _ _ (omega arith) (omega arith) (omega arith)

  fault_away : (old new w : ℕ) (fs : List rust.Entry) (c : Control) → new ≤ visits → old ≤ new → 1 ≤ faults c → load fs c + old < w + new
      → work nodes fs c new < (10 * nodes + 20) * (visits - old) + (0 + w)
  fault_away old new w fs (Control.Begin m e) top more fault light = absurd (omega arith)
  fault_away old new w fs (Control.Do m s) top more fault light = absurd (omega arith)
  fault_away old new w fs (Control.Wait q) top more fault light = absurd (omega arith)
  fault_away old new w fs (Control.End End.Goes) top more fault light = absurd (omega arith)
  fault_away old new w fs (Control.End (End.Got v)) top more fault light = absurd (omega arith)
  fault_away old new w fs (Control.End (End.Returned v)) top more fault light = absurd (omega arith)
  fault_away old new w fs (Control.End (End.Failed f)) top more fault light =
      keeps _ _ _ (new - old) _ _ (omega arith) (omega arith) (omega arith)

  -- from an end to a part that is begun, or to the end of a form that stands outside
  pub ended : (e : End) (old new : ℕ) (es mid fs : List rust.Entry) (en : rust.Entry) (c : Control) → es ≡ mid ++ en ∷ []
      → GoesOut e old mid new fs c → work nodes fs c new < work nodes es (Control.End e) old
  ended End.Goes old new es mid fs en c pop h =
      let one = simp length-append at (ap length pop) in away old new _ fs c h.1 h.0 (omega arith)
  ended (End.Got v) old new es mid fs en c pop h =
      let one = simp length-append at (ap length pop) in away old new _ fs c h.1 h.0 (omega arith)
  ended (End.Returned v) old new es mid fs en c pop h =
      let one = simp length-append at (ap length pop) in away old new _ fs c h.1 h.0 (omega arith)
  ended (End.Failed f) old new es mid fs en c pop h =
      let one = simp length-append at (ap length pop) in fault_away old new _ fs c h.1 h.0 h.2 (omega arith)
