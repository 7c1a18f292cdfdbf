-- A call at its start.
use Rattle.std.proofs.Common.{◌≡◌, ◌+◌, ℕ, List, [], ◌∷◌, Option, Some, None, refl, sym, ap, ◌∙◌, subst}
use Rattle.sky_base.specs.Val.{Vals, Pairs, no_vals}
use Rattle.sky_base.specs.Tree.{Script, nowhere}
use Rattle.sky_base.specs.Res.{others, bodies, End, block_at}
use Rattle.sky_base.specs.Eval.{World, Body, bind, body_of, body_at, eval_block}
use Rattle.sky_base.specs.Read.{Frame, Run, Halt, halt, first_halt}
use Rattle.sky_base.specs.See.{start_st}
use Rattle.sky_base_law.specs.Nodes.{node_at}
use Rattle.sky_base_law.specs.Opened.{Node}
use Rattle.sky_base_law.specs.Tasks.{Each}
use Rattle.sky_base_law.proofs.NodesLaw.{has_script}
use Rattle.sky_base_law.proofs.TaskLaw.{halt_is}
use Rattle.sky_base_scope.specs.RunView.{KeptPairs}
use Rattle.sky_base_scope.specs.Plain.{Vars}
use Rattle.sky_machine_entries.specs.Config.{body_in, rest_in}
use Rattle.sky_machine_entries.specs.Entries.{forms}
use Rattle.sky_machine_entries.specs.Ready.{AreReady}
use Rattle.sky_machine_entries.specs.declared.entry.Entry.{Entry}
use Rattle.sky_machine_loop.proofs.Begun.{body_opened}
use Rattle.sky_machine_save.specs.Saving.{AllCanSave}
use Rattle.sky_state.specs.Stand.{Stand}
use Rattle.sky_state.specs.Start.{StartsIn, StartsCall}
use Rattle.sky_state.specs.Fits.{FitsFrame}
use Rattle.sky_state.specs.Chained.{body_places, Chained}
use Rattle.sky_state.proofs.LinkLaw.{linked_call}
use Rattle.sky_state.proofs.FitsLaw.{ChainedHalt, chained_halt}
use Rattle.sky_machine_restore.proofs.Walk.{vars_kept}
use Rattle.sky_machine_waits.proofs.TakeLaw.{rest_taken}
use Rattle.sky_machine_resume.specs.Comes.{StepsFit, over_names, bottom_fun, bottom_vars}
use Rattle.sky_machine_resume.proofs.Saves.{can_save}

-- the variables keep the limits
pub start_kept : (sc : Script) (fs : List (Frame (List ℕ))) → Each (FitsFrame sc) fs → KeptPairs (bottom_vars fs)
start_kept sc [] h = tt
start_kept sc (f ∷ fs) h = vars_kept sc f.vars h.0.vars

same_run : (r s : Run (List ℕ)) → Stand.run r ≡ Stand.run s → r ≡ s
same_run r s e = cc

abbrev Start : List ℕ → Pairs (List ℕ) → Vals (List ℕ) → Body → Run (List ℕ)
Start f c vs b = record {
  frames = record { fun = f; vars = bind b.params vs c; stack = []; todo = record { node = b.node; step = 0 } ∷ [] }
      ∷ [];
  count = 0;
  waits = 0;
}

pub start_fun : (o : Option Body) (f : List ℕ) (c : Pairs (List ℕ)) (vs : Vals (List ℕ)) (r : Run (List ℕ)) → StartsIn o f c vs (Stand.run r)
    → bottom_fun r.frames ≡ f
start_fun None f c vs r h = absurd h
start_fun (Some b) f c vs r h = ap (λ (x : Run (List ℕ)). bottom_fun x.frames) (same_run r (Start f c vs b) h)

pub start_vars : (b : Body) (f : List ℕ) (c : Pairs (List ℕ)) (vs : Vals (List ℕ)) (r : Run (List ℕ)) → StartsIn (Some b) f c vs (Stand.run r)
    → bottom_vars r.frames ≡ bind b.params vs c
start_vars b f c vs r h = ap (λ (x : Run (List ℕ)). bottom_vars x.frames) (same_run r (Start f c vs b) h)

-- the body of a function that begins with these variables
pub starts_so : (w : World (List ℕ)) (b : Body) (g f : List ℕ) (c : Pairs (List ℕ)) (vs : Vals (List ℕ)) (r : Run (List ℕ)) (st : Vars)
    → bottom_fun r.frames ≡ g → st ≡ record { vars = bottom_vars r.frames; count = 0 } → body_of g w.script ≡ Some b
    → StartsCall w.script f c vs (Stand.run r) → eval_block w (body_at w others) b.block b.node st ≡ body_at w bodies f c vs nowhere start_st
starts_so w b g f c vs r st fun vars is h =
    let name : g ≡ f = sym fun ∙ start_fun (body_of f w.script) f c vs r h in
    let there : body_of f w.script ≡ Some b = ap (λ x. body_of x w.script) (sym name) ∙ is in
    let bound : bottom_vars r.frames ≡ bind b.params vs c = start_vars b f c vs r (subst (λ o. StartsIn o f c vs (Stand.run r)) there h) in
    body_opened w bodies others others f c vs nowhere b start_st st refl refl there (vars ∙ (λ i. record { vars = bound i; count = 0 }))

-- what is begun with no form under way
pub begun : (w : World (List ℕ)) (old : List Entry) (b : Body) (st : Vars) → old ≡ []
    → rest_in w old (eval_block w (body_in w (forms old)) b.block b.node st) ≡ eval_block w (body_at w others) b.block b.node st
begun w old b st none = ap (λ es. rest_in w es (eval_block w (body_in w (forms es)) b.block b.node st)) none

no_body : (f : List ℕ) (c : Pairs (List ℕ)) (vs : Vals (List ℕ)) (s : Stand (List ℕ)) (o : Option Body) → o ≡ None → StartsIn o f c vs s → ⊥
no_body f c vs s None e h = h
no_body f c vs s (Some b) e h = absurd cc

pub never : (sc : Script) (g f : List ℕ) (c : Pairs (List ℕ)) (vs : Vals (List ℕ)) (r : Run (List ℕ)) → bottom_fun r.frames ≡ g → body_of g sc
    ≡ None → StartsCall sc f c vs (Stand.run r) → ⊥
never sc g f c vs r fun is h =
    let name : g ≡ f = sym fun ∙ start_fun (body_of f sc) f c vs r h in
    no_body f c vs (Stand.run r) (body_of f sc) (ap (λ x. body_of x sc) (sym name) ∙ is) h

-- ---- its forms can be saved

bind_none : (xs : List (List ℕ)) (ps : Pairs (List ℕ)) → ps ≡ bind xs no_vals ps
bind_none [] ps = refl
bind_none (x ∷ xs) ps = refl

at_first : (w : World (List ℕ)) (at : ℕ → Option Node) (ps : List ℕ) (x : Option (Halt (List ℕ))) (h : Halt (List ℕ))
    → ChainedHalt w at (λ d. None) ps x → x ≡ Some h → Chained w.script at ps h.forms
at_first w at ps x h c e = subst (ChainedHalt w at (λ d. None) ps) e c

pub start_saves : (digest : List ℕ → List ℕ) (sc : Script) (b : Body) (f : List ℕ) (st : Vars) (h : Halt (List ℕ)) → StepsFit sc → body_of f sc
    ≡ Some b → first_halt (eval_block (over_names digest sc) (body_at (over_names digest sc) others) b.block b.node st) ≡ Some h
    → AreReady (λ i. node_at sc i) h.forms → AllCanSave h.forms
start_saves digest sc b f st h steps there is ready =
    let w = over_names digest sc in
    let at = λ (i : ℕ). node_at sc i in
    let whole : eval_block w (body_at w others) b.block b.node st ≡ body_at w bodies f st.vars no_vals nowhere st =
    body_opened w bodies others others f st.vars no_vals nowhere b st st refl refl there
    (λ i. record { vars = bind_none b.params st.vars i; count = st.count }) in
    let first : halt (λ d. None) 0 (body_at w bodies f st.vars no_vals nowhere st) ≡ Some h =
    halt_is (λ d. None) (body_at w bodies f st.vars no_vals nowhere st) ∙ ap first_halt (sym whole) ∙ is in
    let chained = at_first w at (body_places (body_of f sc)) (halt (λ d. None) 0 (body_at w bodies f st.vars no_vals nowhere st)) h
    (chained_halt w at (λ d. None) (body_places (body_of f sc)) (body_at w bodies f st.vars no_vals nowhere st) 0
    (linked_call w at bodies f st.vars no_vals nowhere st (has_script sc))) first in
    can_save sc steps h.forms (body_places (body_of f sc)) chained
    (rest_taken w others (block_at b.node 0 (b.node + 1) b.block ∷ []) End.goes st h (tt, tt) is) ready
