-- Waves of values that aren't one reference.
use Rattle.std.proofs.Common.{◌≡◌, ℕ, List, [], ◌∷◌, ◌++◌, length, Option, Some, None, Result, Ok, Err, refl, ap, ◌∙◌}
use Rattle.sky_base.specs.Val.{Val, list, dict, fun, refs, distinct, same_text}
use Rattle.sky_base.specs.Names.{known_of}
use Rattle.sky_base.specs.Op.{Answer}
use Rattle.sky_base.specs.Res.{Object}
use Rattle.sky_base.specs.View.{view}
use Rattle.sky_base.specs.declared.value.Value.{Value}
use Rattle.sky_base_known.specs.Walk.{Row}
use Rattle.sky_base.specs.See.{Answered, no_place, written, text_of}
use Rattle.sky_base.specs.declared.fault.FaultKind.{FaultKind}
use Rattle.sky_base.specs.declared.fault.Fault.{Fault}
use Rattle.sky_base_waves.specs.Wave.{turn_all, turn_refs, turn_at, last_at}

module _ (reads : List ℕ → Answer (List ℕ)) (writes : Val (List ℕ) → Option (List ℕ)) (knows : Row → Option (Object (List ℕ))) where
  list_turn : (ds : List Row) (vs : _) → (ds ≡ [] → ⊥) → turn_refs reads writes knows ds (list vs) ≡ turn_all reads writes knows (list vs)
  list_turn [] vs h = absurd (h refl)
  list_turn (d ∷ ds) vs h = refl

  dict_turn : (ds : List Row) (ps : _) → (ds ≡ [] → ⊥) → turn_refs reads writes knows ds (dict ps) ≡ turn_all reads writes knows (dict ps)
  dict_turn [] ps h = absurd (h refl)
  dict_turn (d ∷ ds) ps h = refl

  fun_turn : (ds : List Row) (f : List ℕ) (ps : _) → (ds ≡ [] → ⊥) → turn_refs reads writes knows ds (fun f ps)
      ≡ turn_all reads writes knows (fun f ps)
  fun_turn [] f ps h = absurd (h refl)
  fun_turn (d ∷ ds) f ps h = refl

  pub other_turn : (v : Value) → ((n : List ℕ) → v ≡ Value.Ref n → ⊥) → (refs (view v) ≡ [] → ⊥) → turn_at reads writes knows (view v)
      ≡ turn_all reads writes knows (view v)
  other_turn Value.Null isnt h = absurd (h refl)
  other_turn (Value.Bool b) isnt h = absurd (h refl)
  other_turn (Value.Int z) isnt h = absurd (h refl)
  other_turn (Value.Text t) isnt h = absurd (h refl)
  other_turn (Value.List vs) isnt h = list_turn (refs (list vs)) vs h
  other_turn (Value.Dict ps) isnt h = dict_turn (refs (dict ps)) ps h
  other_turn (Value.Fun f c) isnt h = fun_turn (refs (fun f c)) f c h
  other_turn (Value.Ref n) isnt h = absurd (isnt n refl)

no_names : (ns : List (List ℕ)) → known_of ns ≡ [] → length ns ≡ 0
no_names [] e = refl
no_names (n ∷ ns) e = absurd cc

-- a value whose distinct names are some refers to something
pub some_refs : (ns : List (List ℕ)) (ds : List Row) → known_of ns ≡ distinct same_text ds → (length ns ≡ 0 → ⊥) → ds ≡ [] → ⊥
some_refs ns ds e h q = h (no_names ns (e ∙ ap (distinct same_text) q))

pub last_some : (ds : List Row) (t : Option (List ℕ)) → (ds ≡ [] → ⊥) → last_at ds t ≡ Answered.fault (no_place FaultKind.TooDeep)
last_some [] t h = absurd (h refl)
last_some (d ∷ ds) t h = refl

-- ---- what is written as an input is the same as what is answered

pub written-text : (t : Option (List ℕ)) (b : List ℕ) → written t ≡ Ok b → text_of t ≡ Answered.bytes b
written-text None b e = absurd cc
written-text (Some s) b e = ap Answered.bytes (ok_is (s ++ 10 ∷ []) b e)
  where
    ok_is : (x y : List ℕ) → ◌≡◌ {A = Result (List ℕ) Fault} (Ok x) (Ok y) → x ≡ y
    ok_is x y q = cc

pub written-fault : (t : Option (List ℕ)) (f : Fault) → written t ≡ Err f → text_of t ≡ Answered.fault f
written-fault None f e = ap Answered.fault (err_is (no_place FaultKind.NotText) f e)
  where
    err_is : (x y : Fault) → ◌≡◌ {A = Result (List ℕ) Fault} (Err x) (Err y) → x ≡ y
    err_is x y q = cc
written-fault (Some s) f e = absurd cc

pub ruleset texts = (written-text, written-fault)
