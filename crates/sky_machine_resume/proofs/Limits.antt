-- The limits of a stack in numbers.
use Rattle.std.proofs.Common.{◌≡◌, ◌≤◌, ◌<◌, ◌+◌, ◌-◌, ℕ, suc, List, [], ◌∷◌, length, refl, ap, arith}
use Rattle.sky_base.specs.Res.{visits, others, bodies}
use Rattle.sky_state.specs.StandView.{frames_view}
use Rattle.sky_state.specs.declared.frame.Frame.{Frame}

pub few_frames : {A : Type 0} (fs : List A) → length fs ≤ bodies → length fs ≤ 64
unfolding others
few_frames fs h = omega (arith, h)

pub room_left : (now frames many : ℕ) → now + 1 ≡ frames → frames ≤ 64 → many ≡ frames → now + (64 - many) ≡ others
unfolding others
room_left now frames many is few same = omega (arith, is, few, same)

pub few_waits : (waits count : ℕ) → waits ≤ count → count ≤ visits → waits < 4294967295
unfolding visits
few_waits waits count h few = omega (arith, h, few)

pub many_frames : (fs : List Frame) → length (frames_view fs) ≡ length fs
many_frames [] = refl
many_frames (f ∷ fs) = ap suc (many_frames fs)
