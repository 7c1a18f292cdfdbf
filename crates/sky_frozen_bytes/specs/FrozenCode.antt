-- A code for what stands of a task, by which a proof tells two apart.
use Rattle.std.specs.Prelude.{◌≡◌, ℕ, List, ◌⊎◌}
use Rattle.std.proofs.Common.{refl, inl, inr}
use Rattle.std.specs.Coded.{Coded, code_by, coded×, coded⊎, coded_ℕ}
use Rattle.sky_base.specs.Val.{Val}
use Rattle.sky_base.specs.Code.{val_code}
use Rattle.sky_base.specs.Read.{Frame, Run}
use Rattle.sky_state.specs.Stand.{Stand}
use Rattle.sky_state.specs.StandCode.{frames_code}

abbrev pub run_code : Coded (Run (List ℕ))
run_code =
    code_by (List (Frame (List ℕ)) × (ℕ × ℕ)) (coded× frames_code (coded× coded_ℕ coded_ℕ)) (λ r. (r.frames, (r.count, r.waits)))
    (λ p. record { frames = p.0; count = p.1.0; waits = p.1.1 }) (λ _. refl)

abbrev pub Parts : Type 0
Parts = Run (List ℕ) ⊎ (Val (List ℕ) × ℕ)

abbrev pub parts_of : Stand (List ℕ) → Parts
parts_of (Stand.run r) = inl r
parts_of (Stand.show_at v w) = inr (v, w)

abbrev pub of_parts : Parts → Stand (List ℕ)
of_parts (inl r) = Stand.run r
of_parts (inr p) = Stand.show_at p.0 p.1

pub of_parts_of : (s : Stand (List ℕ)) → of_parts (parts_of s) ≡ s
of_parts_of (Stand.run r) = refl
of_parts_of (Stand.show_at v w) = refl

abbrev pub stand_code : Coded (Stand (List ℕ))
stand_code = code_by Parts (coded⊎ run_code (coded× val_code coded_ℕ)) parts_of of_parts of_parts_of
