-- The state with which a call starts.
use Rattle.std.proofs.Common.{◌≡◌, ℕ, ◌+◌, ◌⊎◌, inl, inr, Bool, true, false, List, [], ◌∷◌, Option, Some, None, refl, sym, subst}
use Rattle.sky_base.specs.Val.{Vals, Pairs, same_text}
use Rattle.sky_base.specs.Tree.{FunDef, Script, block_nodes}
use Rattle.sky_base.specs.Eval.{find_fun, find_fun_if, Body, find_body, find_body_if, body_of, bind}
use Rattle.sky_base.specs.Read.{Run}
use Rattle.sky_base_law.specs.Sound.{IsMain, CallsIf}
use Rattle.sky_state.specs.Stand.{Stand}
use Rattle.sky_state.specs.Start.{StartsIn, StartsCall, CanStart}
use Rattle.sky_state.specs.Fits.{Fits}
use Rattle.sky_state.specs.BodyView.{IsBody}
use Rattle.sky_state.specs.declared.start.Body as code
use Rattle.sky_state.proofs.StartLaw.{start_fits}

-- a function of the script has a body
body_if : (t : Bool) (g : FunDef) (i : ℕ) (o : Option Body) (p : Option FunDef) (d : FunDef) → find_fun_if t g p ≡ Some d → find_body_if t g i o
    ≡ None → (p ≡ Some d → o ≡ None → ⊥) → ⊥
body_if true g i o p d h e k = cc
body_if false g i o p d h e k = k h e

found_body : (x : List ℕ) (fs : List FunDef) (i : ℕ) (d : FunDef) → find_fun x fs ≡ Some d → find_body x fs i ≡ None → ⊥
found_body x [] i d h e = cc
found_body x (g ∷ fs) i d h e =
    body_if (same_text x g.name) g i (find_body x fs (i + block_nodes g.body)) (find_fun x fs) d h e
    (λ p q. found_body x fs (i + block_nodes g.body) d p q)

module _ (sc : Script) where
  main_body : (f : List ℕ) → f ≡ [] → body_of f sc ≡ None → ⊥
  main_body [] h e = cc
  main_body (x ∷ xs) h e = cc

module _ {N : Type 0} (sc : Script) where
  has_body : (f : List ℕ) (c : Pairs N) (vs : Vals N) (o : Option FunDef) → find_fun f sc.funs ≡ o → CallsIf o c vs → body_of f sc ≡ None → ⊥
  has_body f c vs None i h e = h
  has_body [] c vs (Some d) i h e = cc
  has_body (x ∷ xs) c vs (Some d) i h e = found_body (x ∷ xs) sc.funs (block_nodes sc.main) d i e

  -- a call that may be started has a body
  pub body_there : (f : List ℕ) (c : Pairs N) (vs : Vals N) → IsMain f c vs ⊎ CallsIf (find_fun f sc.funs) c vs → body_of f sc ≡ None → ⊥
  body_there f c vs (inl m) e = main_body sc f m.0 e
  body_there f c vs (inr h) e = has_body f c vs (find_fun f sc.funs) refl h e

  pub starts_fit : (f : List ℕ) (c : Pairs N) (vs : Vals N) (s : Stand N) → CanStart sc f c vs → StartsCall sc f c vs s → Fits sc s
  starts_fit f c vs s can h = go (body_of f sc) refl h
    where
      go : (o : Option Body) → body_of f sc ≡ o → StartsIn o f c vs s → Fits sc s
      go None e i = absurd i
      go (Some b) e i = subst (Fits sc) (sym i) (start_fits sc f c vs b can e)

-- the code's body, its parameters bound
abbrev pub begun : List ℕ → Pairs (List ℕ) → Vals (List ℕ) → code.Body → Run (List ℕ)
begun f c vs b =
    record {
      frames = record { fun = f; vars = bind b.params.now vs c; stack = []; todo = record { node = b.node; step = 0 } ∷ [] } ∷ [];
      count =
          0;
      waits = 0;
    }

pub starts_call : (sc : Script) (f : List ℕ) (c : Pairs (List ℕ)) (vs : Vals (List ℕ)) (b : code.Body) → CanStart sc f c vs
    → IsBody b (body_of f sc) → StartsCall sc f c vs (Stand.run (begun f c vs b))
starts_call sc f c vs b can h = go (body_of f sc) refl h
  where
    go : (o : Option Body) → body_of f sc ≡ o → IsBody b o → StartsIn o f c vs (Stand.run (begun f c vs b))
    go None e i = absurd (body_there sc f c vs can.call e)
    go (Some x) e i =
        λ k. Stand.run (record {
          frames = record { fun = f; vars = bind (i.0 k) vs c; stack = []; todo = record { node = i.1 k; step = 0 } ∷ [] }
              ∷ [];
          count = 0;
          waits = 0;
        })
