-- Where a run ends, and where it waits.
use Rattle.std.proofs.Common.{◌≡◌, ℕ, List, [], ◌∷◌, ◌++◌, Some, refl, ap}
use Rattle.sky_base.specs.Val.{Desc}
use Rattle.sky_base.specs.Res.{others, Object, Wait, Fin, Ask, then_do, tell_all}
use Rattle.sky_base.specs.Eval.{World, ask, wait_end, after, body_at, inside, plug}
use Rattle.sky_base.specs.Read.{segment, first_end, first_halt}
use Rattle.sky_base_scope.specs.Plain.{Vars}
use Rattle.sky_machine_entries.specs.Config.{Run, config}
use Rattle.sky_machine_entries.specs.Entries.{Form, end_of}
use Rattle.sky_machine_entries.specs.declared.control.End as rust_end
use Rattle.sky_machine_entries.specs.declared.control.Control.{Control}
use Rattle.sky_machine_entries.specs.declared.entry.Entry as rust

module _ (w : World (List ℕ)) where
  -- a wait shows all the forms under way
  pub plug_ask : (fr : List Form) (d : ℕ) (q : Wait (List ℕ)) (st : Vars) (k : List (Object (List ℕ)) → Run) → plug w d fr (Ask q [] st k)
      ≡ Ask q fr st (λ os. plug w d fr (k os))
  plug_ask [] d q st k = refl
  plug_ask (en ∷ fr) d q st k = ap (λ x. then_do x en (after w (body_at w d) en)) (plug_ask fr (inside w en d) q st k)

  pub waits_so : (fr : List Form) (q : Wait (List ℕ)) (st : Vars) → first_halt (plug w others fr (ask w q st))
      ≡ Some (record { wait = q; forms = fr; st = st })
  waits_so fr q st = ap first_halt (plug_ask fr others q st (λ os. Fin (wait_end w q os) st))

  pub makes_none : (fr : List Form) (q : Wait (List ℕ)) (st : Vars) → segment (plug w others fr (ask w q st)) ≡ []
  makes_none fr q st = ap segment (plug_ask fr others q st (λ os. Fin (wait_end w q os) st))

  -- an end with no form under way is the run's
  pub over_so : (es : List rust.Entry) (e : rust_end.End) (st : Vars) → es ≡ [] → first_end (config w es (Control.End e) st) ≡ Some (end_of e, st)
  over_so es e st is = rw is refl

  pub over_makes_none : (es : List rust.Entry) (e : rust_end.End) (st : Vars) → es ≡ [] → segment (config w es (Control.End e) st) ≡ []
  over_makes_none es e st is = rw is refl

-- ---- what was made before

pub segment_told : (ds : List (Desc (List ℕ))) (r : Run) → segment (tell_all ds r) ≡ ds ++ segment r
segment_told [] r = refl
segment_told (d ∷ ds) r = ap (λ xs. d ∷ xs) (segment_told ds r)

pub end_told : (ds : List (Desc (List ℕ))) (r : Run) → first_end (tell_all ds r) ≡ first_end r
end_told [] r = refl
end_told (d ∷ ds) r = end_told ds r

pub halt_told : (ds : List (Desc (List ℕ))) (r : Run) → first_halt (tell_all ds r) ≡ first_halt r
halt_told [] r = refl
halt_told (d ∷ ds) r = halt_told ds r
