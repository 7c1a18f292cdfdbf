-- A call goes on as the definition says.
use Rattle.std.proofs.Common.{◌≡◌, ◌<◌, ◌++◌, ℕ, List, [], ◌∷◌, map, Some, refl, sym, ap, ◌∙◌, subst}
use Rattle.sky_base.specs.Val.{Pairs, Desc}
use Rattle.sky_base.specs.Name.{digested}
use Rattle.sky_base.specs.Tree.{Script}
use Rattle.sky_base.specs.Res.{others, Object, Fin}
use Rattle.sky_base.specs.Eval.{World, wait_end, body_of, plug}
use Rattle.sky_base.specs.Read.{Run, Halt, first_halt, rest_of}
use Rattle.sky_base.specs.declared.object.Named.{Named}
use Rattle.sky_base_law.specs.Nodes.{node_at}
use Rattle.sky_base_scope.specs.Plain.{Vars}
use Rattle.sky_machine_entries.specs.Config.{config}
use Rattle.sky_machine_entries.specs.Entries.{forms, end_of}
use Rattle.sky_machine_entries.specs.Ready.{AreReady}
use Rattle.sky_machine_entries.specs.declared.control.End as rust
use Rattle.sky_machine_entries.specs.declared.control.Control.{Control}
use Rattle.sky_machine_entries.specs.declared.entry.Entry as held
use Rattle.sky_machine_loop.specs.Made.{descs, names, RunsOn}
use Rattle.sky_machine_save.specs.Saving.{AllCanSave}
use Rattle.sky_state.specs.Chained.{body_places, Formed}
use Rattle.sky_state.specs.StandView.{spawned_view}
use Rattle.sky_state.specs.Fits.{FitsRun}
use Rattle.sky_state.proofs.OpenFrames.{run_formed}
use Rattle.sky_machine_waits.proofs.FitTaken.{fit_taken}
use Rattle.sky_machine_waits.proofs.RestLaw.{rest_chained}
use Rattle.sky_machine_waits.proofs.TakeLaw.{rest_taken}
use Rattle.sky_machine_resume.specs.Comes.{StepsFit, over_names, with_name, LeftAt, bottom_fun}
use Rattle.sky_machine_resume.proofs.Saves.{can_save}
use Rattle.sky_machine_resume.proofs.Stacks.{bottom_of}

-- the world of names is one in which the machine runs
pub runs_on : (digest : List ℕ → List ℕ) (sc : Script) → RunsOn (over_names digest sc) sc digest
runs_on digest sc = record { script = refl; make = λ d. refl }

-- what is made, each with its name
pub grew_named : (digest : List ℕ → List ℕ) (old new : List Named) (ds : List (Desc (List ℕ))) → descs new ≡ descs old ++ ds → names new
    ≡ names old ++ map (digested digest) ds → spawned_view new ≡ spawned_view old ++ map (with_name digest) ds
grew_named digest [] [] [] e g = refl
grew_named digest [] [] (d ∷ ds) e g = cc
grew_named digest [] (n ∷ ns) [] e g = cc
grew_named digest [] (n ∷ ns) (d ∷ ds) e g =
    let more = grew_named digest [] ns ds (tail_of e) (tail_of g) in
    λ i. (head_of g i, head_of e i) ∷ more i
  where
    tail_of : {A : Type 0} {x y : A} {xs ys : List A} → (x ∷ xs) ≡ (y ∷ ys) → xs ≡ ys
    tail_of e = cc

    head_of : {A : Type 0} {x y : A} {xs ys : List A} → (x ∷ xs) ≡ (y ∷ ys) → x ≡ y
    head_of e = cc
grew_named digest (o ∷ os) [] ds e g = cc
grew_named digest (o ∷ os) (n ∷ ns) ds e g =
    let more = grew_named digest os ns ds (tail_of e) (tail_of g) in
    λ i. (head_of g i, head_of e i) ∷ more i
  where
    tail_of : {A : Type 0} {x y : A} {xs ys : List A} → (x ∷ xs) ≡ (y ∷ ys) → xs ≡ ys
    tail_of e = cc

    head_of : {A : Type 0} {x y : A} {xs ys : List A} → (x ∷ xs) ≡ (y ∷ ys) → x ≡ y
    head_of e = cc

-- what the machine's state means is the rest of the run from its wait on
pub rest_is : (w : World (List ℕ)) (es : List held.Entry) (e : rust.End) (st : Vars) (h : Halt (List ℕ)) (os : List (Object (List ℕ))) → forms es
    ≡ h.forms → end_of e ≡ wait_end w h.wait os → st.vars ≡ h.st.vars → st.count ≡ h.st.count → config w es (Control.End e) st
    ≡ rest_of w others h os
rest_is w es e st h os fr is vars count =
    (λ i. plug w others (fr i) (Fin (is i) (record { vars = vars i; count = count i })))

abbrev pub formed_of : (sc : Script) (f : List ℕ) (h : Halt (List ℕ)) (r : Run (List ℕ)) → LeftAt sc f h r
    → Formed sc (body_places (body_of f sc)) f h.st.vars r.frames
formed_of sc f h r l = record { forms = h.forms; chained = l.follow; all_opened = l.opened; frames = l.frames }

pub fun_of : (sc : Script) (f : List ℕ) (h : Halt (List ℕ)) (r : Run (List ℕ)) → LeftAt sc f h r → bottom_fun r.frames ≡ f
fun_of sc f h r l = ap bottom_fun (sym l.frames) ∙ bottom_of h.forms f h.st.vars

-- the forms at the next wait can be saved
pub saves : (digest : List ℕ → List ℕ) (sc : Script) (r : Run (List ℕ)) (es : List held.Entry) (e : rust.End) (st : Vars) → StepsFit sc
    → FitsRun sc r → 0 < r.waits → ((f : List ℕ) (xs : Pairs (List ℕ)) (g : Formed sc (body_places (body_of f sc)) f xs r.frames) → forms es
    ≡ g.forms) → (h : Halt (List ℕ)) → first_halt (config (over_names digest sc) es (Control.End e) st) ≡ Some h
    → AreReady (λ i. node_at sc i) h.forms → AllCanSave h.forms
saves digest sc r es e st steps fits waits same h is ready =
    let w = over_names digest sc in
    let o = run_formed sc r fits waits in
    let fr : forms es ≡ o.2.forms = same o.0 o.1 o.2 in
    let there : first_halt (plug w others o.2.forms (Fin (end_of e) st)) ≡ Some h =
    subst (λ xs. first_halt (plug w others xs (Fin (end_of e) st)) ≡ Some h) fr is in
    can_save sc steps h.forms (body_places (body_of o.0 sc))
    (rest_chained w others o.0 o.2.forms (end_of e) st h o.2.chained o.2.all_opened there)
    (rest_taken w others o.2.forms (end_of e) st h (fit_taken sc o.2.forms (body_places (body_of o.0 sc)) o.2.chained o.2.all_opened) there)
    ready
