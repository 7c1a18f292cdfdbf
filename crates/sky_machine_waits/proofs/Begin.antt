-- A call that starts from a state that fits comes to one that fits.
use Rattle.std.proofs.Common.{◌≡◌, ℕ, ◌+◌, ◌≤◌, List, [], ◌∷◌, length, Option, Some, None, refl, sym, ap, ◌∙◌, subst, arith, ◌⊎◌}
use Rattle.sky_base.specs.Val.{Vals, Pairs, no_vals}
use Rattle.sky_base.specs.Tree.{Place, Stms, nowhere}
use Rattle.sky_base.specs.Res.{others, bodies, Res, St}
use Rattle.sky_base.specs.Eval.{World, Body, bind, body_of, in_body, body_at}
use Rattle.sky_base.specs.Read.{Frame, Run, Halt, frames_of, run_of_halt, segment, first_end, halt, first_halt}
use Rattle.sky_base.specs.See.{start_st}
use Rattle.sky_base_law.specs.Nodes.{node_at}
use Rattle.sky_base_law.specs.Opened.{Node}
use Rattle.sky_base_law.specs.Sound.{IsFun, SoundDesc, SoundFrame, SoundVars}
use Rattle.sky_base_law.specs.Tasks.{Each}
use Rattle.sky_base_law.proofs.CountLaw.{Climbs, climbs_call}
use Rattle.sky_base_law.proofs.FineLaw.{Fine, fine_call}
use Rattle.sky_base_law.proofs.FineReads.{frames_ok, frames_left}
use Rattle.sky_base_law.proofs.FormsLaw.{Within, inner}
use Rattle.sky_base_law.proofs.NodesLaw.{has_script}
use Rattle.sky_base_law.proofs.TaskLaw.{halt_is}
use Rattle.sky_base_law.proofs.WrittenLaw.{any_lit, any_made, any_name, written_any}
use Rattle.sky_state.specs.Chained.{body_places, Chained}
use Rattle.sky_state.specs.Fits.{FitsFrame, FitsRun, FunsOf}
use Rattle.sky_state.specs.Stand.{Stand}
use Rattle.sky_state.specs.Start.{StartsIn, StartsCall}
use Rattle.sky_state.proofs.FitsLaw.{ChainedHalt, chained_halt}
use Rattle.sky_state.proofs.LinkLaw.{linked_call}
use Rattle.sky_state.proofs.SavedLaw.{saved_fits}
use Rattle.sky_machine_waits.specs.Sounds.{SoundWorld, EndsSound}
use Rattle.sky_machine_waits.proofs.Again.{any_all, closed, ok_end, frames_sound}
use Rattle.sky_machine_waits.proofs.Soundly.{P, Q, V, vars_in}
use Rattle.sky_machine_waits.proofs.Climb.{Higher, first_higher}
use Rattle.sky_machine_waits.proofs.Fines.{FirstEndOk, FirstHaltOk, made_fine, end_fine, halt_fine}

-- ---- variables that are bound already

pub bind_none : (xs : List (List ℕ)) (ps : Pairs (List ℕ)) → bind xs no_vals ps ≡ ps
bind_none [] ps = refl
bind_none (x ∷ xs) ps = refl

body_bound : (w : World (List ℕ)) (o : Option Body) (b : Body) (c : Pairs (List ℕ)) (vs : Vals (List ℕ)) (p : Place) (st : St (List ℕ))
    (run : Stms → ℕ → St (List ℕ) → Res (List ℕ)) → o ≡ Some b → in_body w o (bind b.params vs c) no_vals p st run ≡ in_body w o c vs p st run
body_bound w None b c vs p st run e = absurd cc
body_bound w (Some x) b c vs p st run e =
    let same : b ≡ x = cc in
    ap (λ (y : Body). in_body w (Some x) (bind y.params vs c) no_vals p st run) same
    ∙ ap (λ xs. run x.block x.node (record { vars = xs; count = st.count })) (bind_none x.params (bind x.params vs c))

-- a call of a function with this body runs as one that captured all its variables and has no arguments
bound_call : (w : World (List ℕ)) (b : Body) (f : List ℕ) (c : Pairs (List ℕ)) (vs : Vals (List ℕ)) → body_of f w.script ≡ Some b
    → body_at w bodies f (bind b.params vs c) no_vals nowhere start_st ≡ body_at w bodies f c vs nowhere start_st
bound_call w b f c vs is = body_bound w (body_of f w.script) b c vs nowhere start_st _ is

same_run : (r s : Run (List ℕ)) → Stand.run r ≡ Stand.run s → r ≡ s
same_run r s e = cc

-- ---- the start of a body

abbrev pub started : List ℕ → Pairs (List ℕ) → Vals (List ℕ) → Body → Run (List ℕ)
started f c vs b = record {
  frames = record { fun = f; vars = bind b.params vs c; stack = []; todo = record { node = b.node; step = 0 } ∷ [] }
      ∷ [];
  count = 0;
  waits = 0;
}

module _ (w : World (List ℕ)) (sound : SoundWorld w) (f : List ℕ) (xs : Pairs (List ℕ)) (vars : SoundVars w.script xs)
    (is_fun : (f ≡ []) ⊎ IsFun w.script f) where
  abbrev At : ℕ → Option Node
  At i = node_at w.script i

  abbrev whole : Res (List ℕ)
  whole = body_at w bodies f xs no_vals nowhere start_st

  fine : Fine w (P w) (Q w) (V w) any_made others whole
  fine = fine_call w (P w) (Q w) (V w) any_made any_lit any_name (closed w sound) (written_any w.script) others f xs no_vals nowhere start_st tt
      (vars_in w xs vars) tt

  within : Within w 0 start_st
  within = (omega arith, omega arith)

  climbs : Climbs w 0 [] whole
  climbs = climbs_call w bodies f xs no_vals nowhere 0 start_st within

  makes : Each (SoundDesc w.script) (segment whole) × EndsSound w.script (first_end whole)
  makes = (
    made_fine w (P w) (Q w) (V w) any_made (closed w sound) whole others fine (any_all (segment whole)),
    ok_end w sound (first_end whole) (end_fine w (P w) (Q w) (V w) any_made (closed w sound) whole others fine (any_all (segment whole))),
  )

  chained : (g : Halt (List ℕ)) → first_halt whole ≡ Some g → Chained w.script At (body_places (body_of f w.script)) g.forms
  chained g is =
      subst (ChainedHalt w At (λ d. None) (body_places (body_of f w.script))) (halt_is (λ d. None) whole ∙ is)
      (chained_halt w At (λ d. None) (body_places (body_of f w.script)) whole 0
      (linked_call w At bodies f xs no_vals nowhere start_st (has_script w.script)))

  fits : (g : Halt (List ℕ)) → first_halt whole ≡ Some g → FitsRun w.script (run_of_halt f 1 g)
  fits g is =
      let ok : FirstHaltOk w (P w) (Q w) (V w) any_made (closed w sound) others (Some g) =
      subst (FirstHaltOk w (P w) (Q w) (V w) any_made (closed w sound) others) is
      (halt_fine w (P w) (Q w) (V w) any_made (closed w sound) whole others fine (any_all (segment whole))) in
      let higher : Higher w 0 (Some g) = subst (Higher w 0) is (first_higher w whole 0 [] climbs) in
      let left : length (frames_of g.forms f g.st.vars) + inner w g.forms others ≡ bodies =
      frames_left w (P w) (Q w) (V w) g.forms others f g.st.vars ok.0 in
      let sounds : Each (SoundFrame w.script) (frames_of g.forms f g.st.vars) =
      frames_sound w sound (frames_of g.forms f g.st.vars) (frames_ok w (P w) (Q w) (V w) g.forms others f g.st.vars ok.0 is_fun ok.1) in
      saved_fits w.script f 1 g (chained g is) sounds (omega (arith, left)) higher.1 (omega arith) (omega (arith, higher.0))

-- ---- a state that fits and is the start of a call

module _ (w : World (List ℕ)) (sound : SoundWorld w) (r : Run (List ℕ)) (fit : FitsRun w.script r) (f : List ℕ) (c : Pairs (List ℕ))
    (vs : Vals (List ℕ)) where
  module _ (b : Body) (is : body_of f w.script ≡ Some b) (start : Stand.run r ≡ Stand.run (started f c vs b)) where
    here : r ≡ started f c vs b
    here = same_run r (started f c vs b) start

    vars : SoundVars w.script (bind b.params vs c)
    vars = (subst (λ (x : Run (List ℕ)). Each (FitsFrame w.script) x.frames) here fit.frames).0.vars

    is_fun : (f ≡ []) ⊎ IsFun w.script f
    is_fun = (subst (λ (x : Run (List ℕ)). FunsOf w.script x.frames) here fit.functions).0

    fits_body : (g : Halt (List ℕ)) → first_halt (body_at w bodies f c vs nowhere start_st) ≡ Some g → FitsRun w.script (run_of_halt f 1 g)
    fits_body g e = fits w sound f (bind b.params vs c) vars is_fun g (ap first_halt (bound_call w b f c vs is) ∙ e)

    makes_body : Each (SoundDesc w.script) (segment (body_at w bodies f c vs nowhere start_st))
        × EndsSound w.script (first_end (body_at w bodies f c vs nowhere start_st))
    makes_body =
        subst (λ q. Each (SoundDesc w.script) (segment q) × EndsSound w.script (first_end q)) (bound_call w b f c vs is)
        (makes w sound f (bind b.params vs c) vars is_fun)

  pub start_fits : StartsCall w.script f c vs (Stand.run r) → (g : Halt (List ℕ)) → first_halt (body_at w bodies f c vs nowhere start_st)
      ≡ Some g → FitsRun w.script (run_of_halt f 1 g)
  start_fits s = go (body_of f w.script) refl s
    where
      go : (o : Option Body) → body_of f w.script ≡ o → StartsIn o f c vs (Stand.run r) → (g : Halt (List ℕ))
          → first_halt (body_at w bodies f c vs nowhere start_st) ≡ Some g → FitsRun w.script (run_of_halt f 1 g)
      go None e h g is = absurd h
      go (Some b) e h g is = fits_body b e h g is

  pub start_makes : StartsCall w.script f c vs (Stand.run r) → Each (SoundDesc w.script) (segment (body_at w bodies f c vs nowhere start_st))
      × EndsSound w.script (first_end (body_at w bodies f c vs nowhere start_st))
  start_makes s = go (body_of f w.script) refl s
    where
      go : (o : Option Body) → body_of f w.script ≡ o → StartsIn o f c vs (Stand.run r)
          → Each (SoundDesc w.script) (segment (body_at w bodies f c vs nowhere start_st))
          × EndsSound w.script (first_end (body_at w bodies f c vs nowhere start_st))
      go None e h = absurd h
      go (Some b) e h = makes_body b e h
