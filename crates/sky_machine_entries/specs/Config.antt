-- What the state of a run means: the rest of the run.
use Rattle.std.specs.Prelude.{ℕ, suc, List, [], ◌∷◌}
use Rattle.sky_base.specs.Val.{Vals}
use Rattle.sky_base.specs.Tree.{Place}
use Rattle.sky_base.specs.TreeView.{exp_view}
use Rattle.sky_base.specs.StmtView.{stm_view}
use Rattle.sky_base.specs.Res.{others, call_open, End, Res, Fin}
use Rattle.sky_base.specs.Eval.{World, eval, eval_stm, ask, after, body_at, plug}
use Rattle.sky_base_law.proofs.FormsLaw.{inner}
use Rattle.sky_machine_code.specs.Plain.{Pairs, Vars}
use Rattle.sky_machine_entries.specs.Entries.{Form, forms, end_of, wait_of}
use Rattle.sky_machine_entries.specs.declared.entry.Entry as rust
use Rattle.sky_machine_entries.specs.declared.control.Control.{Control}

abbrev pub Run : Type 0
Run = Res (List ℕ)

-- how many bodies are open beside the task's own
abbrev pub opened : List Form → ℕ
opened [] = 0
opened (call_open n k m f xs ss ∷ fr) = suc (opened fr)
opened (_ ∷ fr) = opened fr

module _ (w : World (List ℕ)) where
  -- how many bodies may be opened inside of these forms
  abbrev pub room : List Form → ℕ
  room fr = inner w fr others

  -- a call inside of these forms
  abbrev pub body_in : List Form → List ℕ → Pairs → Vals (List ℕ) → Place → Vars → Run
  body_in fr = body_at w (room fr)

  -- what one of these forms, the innermost, does with the end of its part
  abbrev pub goes_on : List Form → Form → End (List ℕ) → Vars → Run
  goes_on fr en = after w (body_in fr) en

  -- what comes of what is to be done next inside of these forms
  abbrev pub start : List Form → Control → Vars → Run
  start fr (Control.Begin n e) st = eval w (body_in fr) (exp_view e.now) n st
  start fr (Control.Do n s) st = eval_stm w (body_in fr) (stm_view s.now) n st
  start fr (Control.End e) st = Fin (end_of e) st
  start fr (Control.Wait q) st = ask w (wait_of q) st

  -- the rest of a run inside of these forms
  abbrev pub rest_in : List rust.Entry → Run → Run
  rest_in es r = plug w others (forms es) r

  abbrev pub config : List rust.Entry → Control → Vars → Run
  config es c st = rest_in es (start (forms es) c st)
