-- A stack that fits goes on to one that fits.
use Rattle.std.proofs.Common.{◌≡◌, ℕ, suc, ◌+◌, ◌≤◌, List, [], ◌∷◌, length, Option, Some, None, Ok, Err, refl, subst, arith, ◌⊎◌, inr}
use Rattle.sky_base.specs.Val.{Desc, list, refs_to}
use Rattle.sky_base.specs.Op.{Answer}
use Rattle.sky_base.specs.Tree.{Place}
use Rattle.sky_base.specs.Res.{others, visits, Object, End, St, Fin, Wait, one_of, all_of}
use Rattle.sky_base.specs.Eval.{World, body_of, exec_end, read_end, plug, wait_end}
use Rattle.sky_base.specs.Read.{Halt, Frame, frames_of, run_of_halt, segment, first_end, first_halt, rest_of}
use Rattle.sky_base_law.specs.Sound.{IsFun, Sound, SoundDesc, SoundFrame, SoundObject}
use Rattle.sky_base_law.specs.Tasks.{Each}
use Rattle.sky_base_law.proofs.CountLaw.{Climbs}
use Rattle.sky_base_law.proofs.FineLaw.{Closed, EndOk, FormsOk, Fine}
use Rattle.sky_base_law.proofs.FineReads.{FrameOk, frames_ok, frames_left}
use Rattle.sky_base_law.proofs.FormsLaw.{Late, inner}
use Rattle.sky_base_law.proofs.SoundOps.{SoundAnswer, sound_closed}
use Rattle.sky_base_law.proofs.WrittenLaw.{any_lit, any_made, any_name}
use Rattle.sky_state.specs.Chained.{body_places}
use Rattle.sky_state.specs.Fits.{FitsFrame, FitsRun, FunsOf}
use Rattle.sky_state.proofs.SavedLaw.{saved_fits}
use Rattle.sky_machine_waits.specs.Taken.{AllTaken}
use Rattle.sky_machine_waits.proofs.FitTaken.{fit_taken}
use Rattle.sky_machine_waits.proofs.RestLaw.{rest_chained}
use Rattle.sky_machine_waits.specs.Waits.{wait_in}
use Rattle.sky_machine_waits.specs.RefitsLaws.{Saved}
use Rattle.sky_machine_waits.specs.Sounds.{SoundWorld, SoundEnd, EndsSound, asked}
use Rattle.sky_machine_waits.proofs.Asked.{forms_asked}
use Rattle.sky_machine_waits.proofs.Soundly.{P, Q, V, vars_in, vars_out}
use Rattle.sky_machine_waits.proofs.Back.{Keeps, bottom_fun, forms_back}
use Rattle.sky_machine_waits.proofs.Climb.{Higher, plug_climbs, first_higher}
use Rattle.sky_machine_waits.proofs.Fines.{FirstEndOk, FirstHaltOk, plug_fine, made_fine, end_fine, halt_fine}

pub any_all : (ds : List (Desc (List ℕ))) → Each any_made ds
any_all [] = tt
any_all (d ∷ ds) = (tt, any_all ds)

module _ (w : World (List ℕ)) (sound : SoundWorld w) where
  read_sound : (b : List ℕ) → SoundAnswer (List ℕ) (λ n. Unit {0}) w.script (w.reads b)
  read_sound b = go (w.reads b) refl
    where
      go : (a : Answer (List ℕ)) → w.reads b ≡ a → SoundAnswer (List ℕ) (λ n. Unit {0}) w.script a
      go (Ok v) e = sound.reads b v e
      go (Err k) e = tt

  pub closed : Closed w (P w) (Q w) (V w) any_made any_lit any_name
  closed = sound_closed (List ℕ) (λ n. Unit {0}) w.script w (λ f. refl) (λ k. refl) read_sound sound.make

  -- ---- ends

  read_ends : (a : Answer (List ℕ)) (p : Place) → SoundAnswer (List ℕ) (λ n. Unit {0}) w.script a → SoundEnd w.script (read_end a p)
  read_ends (Ok v) p h = h
  read_ends (Err k) p h = tt

  exec_ends : (ds : List (Desc (List ℕ))) (os : List (Object (List ℕ))) → Sound w.script (list (refs_to ds)) → SoundEnd w.script (exec_end ds os)
  exec_ends ds [] h = h
  exec_ends ds (Object.bytes b ∷ os) h = exec_ends ds os h
  exec_ends ds (Object.data_of v ∷ os) h = exec_ends ds os h
  exec_ends ds (Object.fault f ∷ os) h = tt

  one_ends : (p : Place) (d : Desc (List ℕ)) (os : List (Object (List ℕ))) → Each (SoundObject w.script) os
      → SoundEnd w.script (wait_end w (one_of p d) os)
  one_ends p d [] h = closed.null_ok
  one_ends p d (Object.bytes b ∷ os) h = read_ends (w.reads b) p (read_sound b)
  one_ends p d (Object.data_of v ∷ os) h = h.0
  one_ends p d (Object.fault f ∷ os) h = tt

  pub wait_ends : (q : Wait (List ℕ)) (os : List (Object (List ℕ))) → Sound w.script (asked q) → Each (SoundObject w.script) os
      → SoundEnd w.script (wait_end w q os)
  wait_ends (one_of p d) os s h = one_ends p d os h
  wait_ends (all_of ds) os s h = exec_ends ds os s

  end_ok : (e : End (List ℕ)) → SoundEnd w.script e → EndOk w (P w) (Q w) e
  end_ok End.goes h = tt
  end_ok (End.got v) h = h
  end_ok (End.returned v) h = h
  end_ok (End.failed f) h = tt

  pub ok_end : (o : Option (End (List ℕ) × St (List ℕ))) → FirstEndOk w (P w) (Q w) (V w) any_made closed o → EndsSound w.script o
  ok_end None h = tt
  ok_end (Some (End.goes, st)) h = tt
  ok_end (Some (End.got v, st)) h = h
  ok_end (Some (End.returned v, st)) h = h
  ok_end (Some (End.failed f, st)) h = tt

  late : (e : End (List ℕ)) (st : St (List ℕ)) → st.count ≤ visits → Late w st.count e st
  late End.goes st le = (omega arith, le)
  late (End.got v) st le = (omega arith, le)
  late (End.returned v) st le = (omega arith, le)
  late (End.failed f) st le = tt

  -- ---- the stack that goes on

  keeps : (fs : List (Frame (List ℕ))) → Each (FitsFrame w.script) fs → Each (Keeps w (P w) (Q w) (V w)) fs
  keeps [] h = tt
  keeps (f ∷ fs) h = ((vars_in w f.vars h.0.vars, h.0.values), keeps fs h.1)

  pub frames_sound : (fs : List (Frame (List ℕ))) → Each (FrameOk w (P w) (Q w) (V w)) fs → Each (SoundFrame w.script) fs
  frames_sound [] h = tt
  frames_sound (f ∷ fs) h = ((vars_out w f.vars h.0.0, h.0.1, h.0.2), frames_sound fs h.1)

  module _ (f : List ℕ) (j : ℕ) (h : Halt (List ℕ)) (saved : Saved w f j h) where
    few : length (frames_of h.forms f h.st.vars) ≤ suc others
    few = saved.fits.few_frames

    back : FormsOk w (P w) (Q w) (V w) others h.forms × V w h.st.vars
    back =
        forms_back w (P w) (Q w) (V w) h.forms others f h.st.vars (inr (body_places (body_of f w.script), saved.follow))
        (keeps (frames_of h.forms f h.st.vars) saved.fits.frames) few

    taken : AllTaken h.forms
    taken = fit_taken w.script h.forms (body_places (body_of f w.script)) saved.follow saved.all_opened

    is_fun : (f ≡ []) ⊎ IsFun w.script f
    is_fun =
        bottom_fun w (P w) (Q w) (V w) (λ x. (x ≡ []) ⊎ IsFun w.script x) h.forms f h.st.vars
        (λ g gs is. (subst (FunsOf w.script) is saved.fits.functions).0)

    module _ (e : End (List ℕ)) (ends : SoundEnd w.script e) where
      fine : Fine w (P w) (Q w) (V w) any_made others (plug w others h.forms (Fin e h.st))
      fine = plug_fine w (P w) (Q w) (V w) any_made closed h.forms others e h.st back.0 taken (end_ok e ends) back.1

      climbs : Climbs w h.st.count [] (plug w others h.forms (Fin e h.st))
      climbs = plug_climbs w h.forms others h.st.count e h.st (late e h.st saved.fits.count)

      pub makes_sound : Each (SoundDesc w.script) (segment (plug w others h.forms (Fin e h.st)))
      makes_sound = made_fine w (P w) (Q w) (V w) any_made closed (plug w others h.forms (Fin e h.st)) others fine (any_all _)

      pub ends_sound : EndsSound w.script (first_end (plug w others h.forms (Fin e h.st)))
      ends_sound =
          ok_end (first_end (plug w others h.forms (Fin e h.st)))
          (end_fine w (P w) (Q w) (V w) any_made closed (plug w others h.forms (Fin e h.st)) others fine (any_all _))

      pub fits_again : (g : Halt (List ℕ)) → first_halt (plug w others h.forms (Fin e h.st)) ≡ Some g → FitsRun w.script (run_of_halt f (suc j) g)
      fits_again g is =
          let ok : FirstHaltOk w (P w) (Q w) (V w) any_made closed others (Some g) =
          subst (FirstHaltOk w (P w) (Q w) (V w) any_made closed others) is
          (halt_fine w (P w) (Q w) (V w) any_made closed (plug w others h.forms (Fin e h.st)) others fine (any_all _)) in
          let higher : Higher w h.st.count (Some g) =
          subst (Higher w h.st.count) is (first_higher w (plug w others h.forms (Fin e h.st)) h.st.count [] climbs) in
          let left : length (frames_of g.forms f g.st.vars) + inner w g.forms others ≡ suc others =
          frames_left w (P w) (Q w) (V w) g.forms others f g.st.vars ok.0 in
          let before : j ≤ h.st.count = saved.fits.waits in
          let sounds : Each (SoundFrame w.script) (frames_of g.forms f g.st.vars) =
          frames_sound (frames_of g.forms f g.st.vars) (frames_ok w (P w) (Q w) (V w) g.forms others f g.st.vars ok.0 is_fun ok.1) in
          saved_fits w.script f (suc j) g (rest_chained w others f h.forms e h.st g saved.follow saved.all_opened is) sounds
          (omega (arith, left)) higher.1 (omega arith) (omega (arith, before, higher.0))

    -- ---- where objects answer

    module _ (os : List (Object (List ℕ))) (waits : wait_in w.script h.forms ≡ Some h.wait) (objects : Each (SoundObject w.script) os) where
      answered : SoundEnd w.script (wait_end w h.wait os)
      answered = wait_ends h.wait os (forms_asked w (P w) (Q w) (V w) h.forms others h.wait back.0 waits) objects

      pub fits_answered : (g : Halt (List ℕ)) → first_halt (rest_of w others h os) ≡ Some g → FitsRun w.script (run_of_halt f (suc j) g)
      fits_answered g is = fits_again (wait_end w h.wait os) answered g is

      pub makes_answered : Each (SoundDesc w.script) (segment (rest_of w others h os)) × EndsSound w.script (first_end (rest_of w others h os))
      makes_answered = (makes_sound (wait_end w h.wait os) answered, ends_sound (wait_end w h.wait os) answered)
