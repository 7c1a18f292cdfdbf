-- A form under way that takes no such end ends so too, and leaves as many bodies open as there were.
use Rattle.std.proofs.Common.{◌≡◌, ◌≤◌, ℕ, List, [], ◌∷◌, refl, arith}
use Rattle.sky_base.specs.Val.{Val, Vals}
use Rattle.sky_base.specs.Tree.{Place}
use Rattle.sky_base.specs.Res as logic
use Rattle.sky_base.specs.Res.{Fin, on_got, on_goes}
use Rattle.sky_base.specs.Eval.{World, after}
use Rattle.sky_base.specs.declared.fault.Fault.{Fault}
use Rattle.sky_base.specs.declared.value.Value.{Value}
use Rattle.sky_base_scope.specs.Plain.{Pairs, Vars}
use Rattle.sky_machine_entries.specs.Config.{Run, opened}
use Rattle.sky_machine_entries.specs.Entries.{form_of, postfix_of, stmt_of, block_of, end_of}
use Rattle.sky_base.specs.Res.{visits}
use Rattle.sky_machine_entries.specs.Falls.{weigh, GoesOut}
use Rattle.sky_machine_entries.specs.declared.entry.Entry as rust
use Rattle.sky_machine_entries.specs.declared.control.End.{End}
use Rattle.sky_machine_entries.specs.declared.control.Control.{Control}
use Rattle.sky_machine_entries.specs.declared.entry.InForm.{InForm}
use Rattle.sky_machine_entries.specs.declared.entry.InPostfix.{InPostfix}
use Rattle.sky_machine_entries.specs.declared.entry.InStmt.{InStmt}
use Rattle.sky_machine_entries.specs.declared.entry.InBlock.{InBlock}
use Rattle.sky_machine_entries.specs.declared.entry.Open.{Open}
use Rattle.sky_machine_entries.specs.declared.entry.ArmTest.{ArmTest}
use Rattle.sky_machine_entries.specs.declared.entry.While.{While}
use Rattle.sky_machine_entries.specs.declared.entry.Repeat.{Repeat}
use Rattle.sky_machine_entries.specs.declared.entry.ForList.{ForList}
use Rattle.sky_machine_entries.specs.declared.entry.ForBody.{ForBody}
use Rattle.sky_machine_entries.specs.declared.entry.BlockAt.{BlockAt}

-- it is no value, and it is not that of a statement or a block which is done
abbrev pub NoValue : End → Type 0
NoValue e = (v : Value) → e ≡ End.Got v → ⊥

abbrev pub NotDone : End → Type 0
NotDone e = e ≡ End.Goes → ⊥

module _ (w : World (List ℕ)) (body : List ℕ → Pairs → Vals (List ℕ) → Place → Vars → Run) where
  no_value : (k : Val (List ℕ) → Vars → Run) (e : End) (st : Vars) → NoValue e → on_got k (end_of e) st ≡ Fin (end_of e) st
  no_value k End.Goes st other = refl
  no_value k (End.Got v) st other = absurd (other v refl)
  no_value k (End.Returned v) st other = refl
  no_value k (End.Failed f) st other = refl

  not_done : (k : Vars → Run) (e : End) (st : Vars) → NotDone e → on_goes k (end_of e) st ≡ Fin (end_of e) st
  not_done k End.Goes st other = absurd (other refl)
  not_done k (End.Got v) st other = refl
  not_done k (End.Returned v) st other = refl
  not_done k (End.Failed f) st other = refl

  pub form_passes : (x : InForm) (e : End) (st : Vars) → NoValue e → after w body (form_of x) (end_of e) st ≡ Fin (end_of e) st
  form_passes (InForm.Parens p) e st other = no_value _ e st other
  form_passes (InForm.Part p) e st other = no_value _ e st other
  form_passes (InForm.ChainFirst p) e st other = no_value _ e st other
  form_passes (InForm.ChainMore p) e st other = no_value _ e st other
  form_passes (InForm.Logic p) e st other = no_value _ e st other
  form_passes (InForm.Prefix p) e st other = no_value _ e st other
  form_passes (InForm.Star p) e st other = no_value _ e st other
  form_passes (InForm.ExecWait p) e st other = no_value _ e st other

  pub stmt_passes : (x : InStmt) (e : End) (st : Vars) → NoValue e → after w body (stmt_of x) (end_of e) st ≡ Fin (end_of e) st
  stmt_passes (InStmt.Set p) e st other = no_value _ e st other
  stmt_passes (InStmt.Add p) e st other = no_value _ e st other
  stmt_passes (InStmt.PutIndex p) e st other = no_value _ e st other
  stmt_passes (InStmt.PutValue p) e st other = no_value _ e st other
  stmt_passes (InStmt.Return p) e st other = no_value _ e st other
  stmt_passes (InStmt.Just p) e st other = no_value _ e st other

  pub block_passes : (x : InBlock) (e : End) (st : Vars) → NoValue e → NotDone e → after w body (block_of x) (end_of e) st ≡ Fin (end_of e) st
  block_passes (InBlock.Arm p) e st other undone = no_value _ e st other
  block_passes (InBlock.WhileTest p) e st other undone = no_value _ e st other
  block_passes (InBlock.WhileBody p) e st other undone = not_done _ e st undone
  block_passes (InBlock.RepeatBody p) e st other undone = not_done _ e st undone
  block_passes (InBlock.RepeatTest p) e st other undone = no_value _ e st other
  block_passes (InBlock.ForList p) e st other undone = no_value _ e st other
  block_passes (InBlock.ForBody p) e st other undone = not_done _ e st undone
  block_passes (InBlock.Block p) e st other undone = not_done _ e st undone

  -- a block that runs takes no value
  pub block_got : (x : InBlock) (v : Val (List ℕ)) (st : Vars) → ((p : ArmTest) → x ≡ InBlock.Arm p → ⊥)
      → ((p : While) → x ≡ InBlock.WhileTest p → ⊥) → ((p : Repeat) → x ≡ InBlock.RepeatTest p → ⊥) → ((p : ForList) → x ≡ InBlock.ForList p → ⊥)
      → after w body (block_of x) (logic.End.got v) st ≡ Fin (logic.End.got v) st
  block_got (InBlock.Arm p) v st a b c d = absurd (a p refl)
  block_got (InBlock.WhileTest p) v st a b c d = absurd (b p refl)
  block_got (InBlock.WhileBody p) v st a b c d = refl
  block_got (InBlock.RepeatBody p) v st a b c d = refl
  block_got (InBlock.RepeatTest p) v st a b c d = absurd (c p refl)
  block_got (InBlock.ForList p) v st a b c d = absurd (d p refl)
  block_got (InBlock.ForBody p) v st a b c d = refl
  block_got (InBlock.Block p) v st a b c d = refl

  -- an expression of a statement doesn't end as a block does
  pub block_goes : (x : InBlock) (st : Vars) → ((p : While) → x ≡ InBlock.WhileBody p → ⊥) → ((p : Repeat) → x ≡ InBlock.RepeatBody p → ⊥)
      → ((p : ForBody) → x ≡ InBlock.ForBody p → ⊥) → ((p : BlockAt) → x ≡ InBlock.Block p → ⊥) → after w body (block_of x) logic.End.goes st
      ≡ Fin logic.End.goes st
  block_goes (InBlock.Arm p) st a b c d = refl
  block_goes (InBlock.WhileTest p) st a b c d = refl
  block_goes (InBlock.WhileBody p) st a b c d = absurd (a p refl)
  block_goes (InBlock.RepeatBody p) st a b c d = absurd (b p refl)
  block_goes (InBlock.RepeatTest p) st a b c d = refl
  block_goes (InBlock.ForList p) st a b c d = refl
  block_goes (InBlock.ForBody p) st a b c d = absurd (c p refl)
  block_goes (InBlock.Block p) st a b c d = absurd (d p refl)

  pub postfix_goes : (x : InPostfix) (st : Vars) → ((p : Open) → x ≡ InPostfix.Open p → ⊥) → after w body (postfix_of x) logic.End.goes st
      ≡ Fin logic.End.goes st
  postfix_goes (InPostfix.First p) st other = refl
  postfix_goes (InPostfix.Index p) st other = refl
  postfix_goes (InPostfix.Arg p) st other = refl
  postfix_goes (InPostfix.Open p) st other = absurd (other p refl)

  pub postfix_returned : (x : InPostfix) (v : Val (List ℕ)) (st : Vars) → ((p : Open) → x ≡ InPostfix.Open p → ⊥)
      → after w body (postfix_of x) (logic.End.returned v) st ≡ Fin (logic.End.returned v) st
  postfix_returned (InPostfix.First p) v st other = refl
  postfix_returned (InPostfix.Index p) v st other = refl
  postfix_returned (InPostfix.Arg p) v st other = refl
  postfix_returned (InPostfix.Open p) v st other = absurd (other p refl)

  pub postfix_failed : (x : InPostfix) (f : Fault) (st : Vars) → ((p : Open) → x ≡ InPostfix.Open p → ⊥)
      → after w body (postfix_of x) (logic.End.failed f) st ≡ Fin (logic.End.failed f) st
  postfix_failed (InPostfix.First p) f st other = refl
  postfix_failed (InPostfix.Index p) f st other = refl
  postfix_failed (InPostfix.Arg p) f st other = refl
  postfix_failed (InPostfix.Open p) f st other = absurd (other p refl)

-- ---- no body is open in them

pub form_open : (x : InForm) → opened (form_of x ∷ []) ≡ 0
form_open (InForm.Parens p) = refl
form_open (InForm.Part p) = refl
form_open (InForm.ChainFirst p) = refl
form_open (InForm.ChainMore p) = refl
form_open (InForm.Logic p) = refl
form_open (InForm.Prefix p) = refl
form_open (InForm.Star p) = refl
form_open (InForm.ExecWait p) = refl

pub stmt_open : (x : InStmt) → opened (stmt_of x ∷ []) ≡ 0
stmt_open (InStmt.Set p) = refl
stmt_open (InStmt.Add p) = refl
stmt_open (InStmt.PutIndex p) = refl
stmt_open (InStmt.PutValue p) = refl
stmt_open (InStmt.Return p) = refl
stmt_open (InStmt.Just p) = refl

pub block_open : (x : InBlock) → opened (block_of x ∷ []) ≡ 0
block_open (InBlock.Arm p) = refl
block_open (InBlock.WhileTest p) = refl
block_open (InBlock.WhileBody p) = refl
block_open (InBlock.RepeatBody p) = refl
block_open (InBlock.RepeatTest p) = refl
block_open (InBlock.ForList p) = refl
block_open (InBlock.ForBody p) = refl
block_open (InBlock.Block p) = refl

pub postfix_open : (x : InPostfix) → ((p : Open) → x ≡ InPostfix.Open p → ⊥) → opened (postfix_of x ∷ []) ≡ 0
postfix_open (InPostfix.First p) other = refl
postfix_open (InPostfix.Index p) other = refl
postfix_open (InPostfix.Arg p) other = refl
postfix_open (InPostfix.Open p) other = absurd (other p refl)

pub weigh_few : (e : End) → weigh (Control.End e) ≤ 4
weigh_few End.Goes = omega arith
weigh_few (End.Got v) = omega arith
weigh_few (End.Returned v) = omega arith
weigh_few (End.Failed f) = omega arith

-- ---- it falls where a form ends

pub value_out : (v : Value) (old new : ℕ) (es : List rust.Entry) (e : End) → new ≡ old → old ≤ visits
    → GoesOut (End.Got v) old es new es (Control.End e)
value_out v old new es e is within =
    let few = weigh_few e in (omega arith, omega arith, omega arith, omega arith)

pub fault_out : (f : Fault) (old new : ℕ) (es : List rust.Entry) → new ≡ old → old ≤ visits
    → GoesOut (End.Failed f) old es new es (Control.End (End.Failed f))
fault_out f old new es is within = (omega arith, omega arith, omega arith, omega arith)

pub same_out : (e : End) (old : ℕ) (es : List rust.Entry) → old ≤ visits → GoesOut e old es old es (Control.End e)
same_out e old es within = (omega arith, within, omega arith, omega arith)
