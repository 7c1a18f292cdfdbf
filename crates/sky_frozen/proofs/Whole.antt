-- Lengths and references, as the test of a state finds them.
use Rattle.std.proofs.Common.{◌≡◌, ◌<◌, ℕ, suc, List, [], ◌∷◌, length, refl, ap, arith}
use Rattle.sky_base.specs.Val.{Desc, distinct, same_text}
use Rattle.sky_base.specs.Names.{known_of}
use Rattle.sky_state.specs.StandView.{frames_view}
use Rattle.sky_state.specs.declared.frame.Frame.{Frame}

-- there are names exactly where there are references
pub some_ref : (ds : List (Desc (List ℕ))) (ns : List (List ℕ)) → known_of ns ≡ distinct same_text ds → 0 < length ns → 0 < length ds
some_ref [] [] e h = h
some_ref [] (n ∷ ns) e h = absurd cc
some_ref (d ∷ ds) ns e h = omega arith

pub no_ref : (ds : List (Desc (List ℕ))) (ns : List (List ℕ)) → known_of ns ≡ distinct same_text ds → length ns ≡ 0 → 0 < length ds → ⊥
no_ref [] ns e z h = omega (arith, h)
no_ref (d ∷ ds) [] e z h = absurd cc
no_ref (d ∷ ds) (n ∷ ns) e z h = omega (arith, z)

pub ruleset references = (some_ref, no_ref)

pub frames_length : (fs : List Frame) → length (frames_view fs) ≡ length fs
frames_length [] = refl
frames_length (f ∷ fs) = ap suc (frames_length fs)

pub ruleset as_many = (frames_length)
