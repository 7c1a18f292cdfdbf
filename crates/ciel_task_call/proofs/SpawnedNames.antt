-- What was spawned, with its names.
use Rattle.std.proofs.Common.{◌≡◌, ℕ, List, [], ◌∷◌, map, refl, ap, ap₂, sym, ◌∙◌}
use Rattle.sky_base.specs.Name.{digested}
use Rattle.sky_base.specs.Val.{Desc}
use Rattle.sky_base.specs.declared.object.Named.{Named}
use Rattle.sky_base_law.specs.Tasks.{Each}
use Rattle.sky_state.specs.StandView.{spawned_view}
use Rattle.ciel_task_call.specs.Comes.{with_name}
use Rattle.ciel_master_board.specs.Reports.{named_view}

module _ (digest : List ℕ → List ℕ) where
  head_is : (d : Named) (ns : List Named) (m : Desc (List ℕ)) (ms : List (Desc (List ℕ))) → spawned_view (d ∷ ns)
      ≡ map (with_name digest) (m ∷ ms) → (d.name, named_view d) ≡ with_name digest m
  head_is d ns m ms e = cc

  tail_is : (d : Named) (ns : List Named) (m : Desc (List ℕ)) (ms : List (Desc (List ℕ))) → spawned_view (d ∷ ns)
      ≡ map (with_name digest) (m ∷ ms) → spawned_view ns ≡ map (with_name digest) ms
  tail_is d ns m ms e = cc

  none_first : (m : Desc (List ℕ)) (ms : List (Desc (List ℕ))) → spawned_view [] ≡ map (with_name digest) (m ∷ ms) → ⊥
  none_first m ms e = cc

  none_second : (d : Named) (ns : List Named) → spawned_view (d ∷ ns) ≡ map (with_name digest) [] → ⊥
  none_second d ns e = cc

  pub same_made : (ns : List Named) (ms : List (Desc (List ℕ))) → spawned_view ns ≡ map (with_name digest) ms → map named_view ns ≡ ms
  same_made [] [] e = refl
  same_made [] (m ∷ ms) e = absurd (none_first m ms e)
  same_made (d ∷ ns) [] e = absurd (none_second d ns e)
  same_made (d ∷ ns) (m ∷ ms) e = ap₂ (λ y ys. y ∷ ys) (ap (λ (p : List ℕ × Desc (List ℕ)). p.1) (head_is d ns m ms e))
      (same_made ns ms (tail_is d ns m ms e))

  -- each has its name
  pub names_are : (ns : List Named) (ms : List (Desc (List ℕ))) → spawned_view ns ≡ map (with_name digest) ms
      → Each (λ (d : Named). d.name ≡ digested digest (named_view d)) ns
  names_are [] ms e = tt
  names_are (d ∷ ns) [] e = absurd (none_second d ns e)
  names_are (d ∷ ns) (m ∷ ms) e =
      let h = head_is d ns m ms e in (
        ap (λ (p : List ℕ × Desc (List ℕ)). p.0) h ∙ ap (digested digest) (sym (ap (λ (p : List ℕ × Desc (List ℕ)). p.1) h)),
        names_are ns ms (tail_is d ns m ms e),
      )
