-- What follows from what a turn comes to.
use Rattle.std.proofs.Common.{◌≡◌, ◌≤◌, ◌<◌, ℕ, suc, List, [], ◌∷◌, length, Bool, true, false, cond, nat_lt, ltb-true, ltb-false, Some, refl, sym, ap}
use Rattle.std.proofs.Common.{subst, ◌∙◌, arith}
use Rattle.sky_base.specs.Val.{Val, distinct, refs, same_desc, same_text}
use Rattle.sky_base.specs.Names.{known_of}
use Rattle.sky_base.specs.Res.{Object}
use Rattle.sky_base.specs.See.{most_waves}
use Rattle.sky_base.specs.Tree.{Script}
use Rattle.sky_base.specs.View.{view}
use Rattle.ciel_json.specs.Text.{text_of as writes}
use Rattle.ciel_json.proofs.ReadLaw.{reads_sound}
use Rattle.sky_base_law.specs.Sound.{RefsOver, SoundObject}
use Rattle.sky_base_law.specs.Tasks.{Each}
use Rattle.sky_base_law.proofs.Lists.{some_is}
use Rattle.sky_base_known.specs.Data.{data_of}
use Rattle.sky_base_known.specs.Walk.{Obj, Row}
use Rattle.sky_state.specs.Fits.{FitsShow}
use Rattle.sky_base_waves.specs.Wave.{Turned, turn_at}
use Rattle.sky_base_waves.proofs.Sounds.{next_sound}
use Rattle.sky_machine_show.specs.Given.{given_for}
use Rattle.sky_machine_show.specs.Shows.{Next, waits_if, wave_if, after_turn, next_of, came_view}
use Rattle.sky_machine_show.specs.Standing.{FitsOn}
use Rattle.sky_machine_show.specs.declared.show.Came.{Came}

-- what a turn comes to over these references and objects
abbrev pub turn_over : List Row → List Obj → Val (List ℕ) → Turned
turn_over ds os v = turn_at data_of (λ u. writes u) (given_for ds os) v

pub next_over : (ds : List Row) (os : List Obj) (v : Val (List ℕ)) (w : ℕ) (t : Turned) → ds ≡ distinct same_text (refs v) → turn_over ds os v
    ≡ t → next_of os v w ≡ after_turn t (suc w)
next_over ds os v w t e q =
    ap (λ es. after_turn (turn_over es os v) (suc w)) (sym e) ∙ ap (λ x. after_turn x (suc w)) q

-- the same, where the code was handed these
pub next_turned : (g : List Row × List Obj) (ns : List (List ℕ)) (os : List Obj) (v : Val (List ℕ)) (w : ℕ) (t : Turned) → g ≡ (known_of ns, os)
    → known_of ns ≡ distinct same_text (refs v) → turn_over g.0 g.1 v ≡ t → next_of os v w ≡ after_turn t (suc w)
next_turned g ns os v w t e f q =
    next_over (known_of ns) os v w t f (ap (λ x. turn_over x.0 x.1 v) (sym e) ∙ q)

-- ---- where it waits next

pub waits_so : (w : ℕ) (v : Val (List ℕ)) → (refs v ≡ [] → ⊥) → suc w ≤ 100 → wave_if (nat_lt most_waves (suc w)) v ≡ Next.waits v
waits_so w v ne le = go (nat_lt most_waves (suc w)) refl
  where
    some : (ds : List Row) → refs v ≡ ds → waits_if ds v ≡ Next.waits v
    some [] e = absurd (ne e)
    some (d ∷ ds) e = refl

    go : (b : Bool) → nat_lt most_waves (suc w) ≡ b → wave_if b v ≡ Next.waits v
    go true e = let l : 100 < suc w = ltb-true 100 (suc w) e in absurd (omega (arith, le, l))
    go false e = some (refs v) refl

abbrev pub IsNext : Turned → ℕ → Val (List ℕ) → Type 0
IsNext t w u = (t ≡ Turned.next u) × (w ≤ most_waves) × (0 < length (refs u))

waits_is : (u v : Val (List ℕ)) → Next.waits u ≡ Next.waits v → u ≡ v
waits_is u v e = cc

pub next_waits : (t : Turned) (w : ℕ) (u : Val (List ℕ)) → after_turn t w ≡ Next.waits u → IsNext t w u
next_waits (Turned.ends a) w u e = absurd cc
next_waits (Turned.next v) w u e = go (nat_lt most_waves w) refl e
  where
    some : (ds : List Row) → refs v ≡ ds → waits_if ds v ≡ Next.waits u → w ≤ most_waves → IsNext (Turned.next v) w u
    some [] q e le = absurd cc
    some (d ∷ ds) q e le =
        let same : v ≡ u = waits_is v u e in
        (ap Turned.next same, le, subst (λ x. 0 < length (refs x)) same (subst (λ x. 0 < length x) (sym q) (omega arith)))

    go : (b : Bool) → nat_lt most_waves w ≡ b → wave_if b v ≡ Next.waits u → IsNext (Turned.next v) w u
    go true q e = absurd cc
    go false q e = some (refs v) refl e (ltb-false most_waves w q)

-- ---- it fits the script

abbrev any : List ℕ → Type 0
any n = Unit {0}

module _ (sc : Script) where
  given_sound : (ds : List Row) (os : List Obj) → Each (SoundObject sc) os → (d : Row) (v : Val (List ℕ)) → given_for ds os d
      ≡ Some (Object.data_of v) → RefsOver any sc v
  given_sound [] os h d v e = absurd cc
  given_sound (c ∷ ds) [] h d v e = absurd cc
  given_sound (c ∷ ds) (o ∷ os) h d v e = go (same_desc same_text d c) e (given_sound ds os h.1 d v)
    where
      go : (b : Bool) → cond b (Some o) (given_for ds os d) ≡ Some (Object.data_of v)
          → (given_for ds os d ≡ Some (Object.data_of v) → RefsOver any sc v) → RefsOver any sc v
      go true e later = (subst (SoundObject sc) (some_is o (Object.data_of v) e) h.0).1
      go false e later = later e

  pub fits_next : (os : List Obj) (v : Val (List ℕ)) (w : ℕ) (u : Val (List ℕ)) → next_of os v w ≡ Next.waits u → FitsShow sc v w
      → Each (SoundObject sc) os → FitsShow sc u (suc w)
  fits_next os v w u e fits sound =
      let ds : List Row = distinct same_text (refs v) in
      let is : IsNext (turn_over ds os v) (suc w) u = next_waits (turn_over ds os v) (suc w) u e in
      record {
        wave = is.1;
        value = next_sound any sc data_of (λ x. writes x) (given_for ds os) (λ b x q. (reads_sound any sc b x q).1) (given_sound ds os sound) v u
            fits.value is.0;
        refers = is.2;
      }

-- what the code came to
pub fits_came : (os : List Obj) (v : Val (List ℕ)) (w : ℕ) (c : Came) → next_of os v w ≡ came_view c → FitsOn v w os c
fits_came os v w (Came.Shown s) e = tt
fits_came os v w (Came.Next u) e = λ sc fits sound. fits_next sc os v w (view u) e fits sound
