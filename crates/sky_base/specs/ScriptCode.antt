-- A code for functions and scripts, by which a proof tells them apart.
use Rattle.std.specs.Prelude.{ℕ, List, refl}
use Rattle.std.specs.Coded.{Coded, code_by, coded×, coded_ℕ, coded_list}
use Rattle.sky_base.specs.Tree.{Stms, FunDef, Script}
use Rattle.sky_base.specs.TreeCode.{stms_code}

abbrev pub text_code : Coded (List ℕ)
text_code = coded_list coded_ℕ

abbrev pub fun_code : Coded FunDef
fun_code =
    code_by (List ℕ × (List (List ℕ) × (Stms × ((ℕ × ℕ) × List (List ℕ)))))
    (coded× text_code (coded× (coded_list text_code) (coded× stms_code (coded× (coded× coded_ℕ coded_ℕ) (coded_list text_code)))))
    (λ f. (f.name, (f.params, (f.body, ((f.place.line, f.place.col), f.uses)))))
    (λ p. record { name = p.0; params = p.1.0; body = p.1.1.0; place = record { line = p.1.1.1.0.0; col = p.1.1.1.0.1 }; uses = p.1.1.1.1 })
    (λ _. refl)

abbrev pub funs_code : Coded (List FunDef)
funs_code = coded_list fun_code

abbrev pub script_code : Coded Script
script_code =
    code_by (List FunDef × (Stms × List (List ℕ))) (coded× funs_code (coded× stms_code (coded_list text_code)))
    (λ s. (s.funs, (s.main, s.keys))) (λ p. record { funs = p.0; main = p.1.0; keys = p.1.1 }) (λ _. refl)
