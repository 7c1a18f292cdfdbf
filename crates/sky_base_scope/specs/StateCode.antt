-- A code for the variables and the count of a body, by which a proof tells them apart.
use Rattle.std.specs.Prelude.{ℕ, refl}
use Rattle.std.specs.Coded.{Coded, code_by, coded×, coded_ℕ}
use Rattle.sky_base.specs.Code.{pairs_code}
use Rattle.sky_base_scope.specs.Plain.{Pairs, Vars}

abbrev pub state_code : Coded Vars
state_code = code_by (Pairs × ℕ) (coded× pairs_code coded_ℕ) (λ s. (s.vars, s.count)) (λ p. record { vars = p.0; count = p.1 }) (λ _. refl)
