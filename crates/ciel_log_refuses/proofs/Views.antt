-- What a record's bytes tell of a report: with the same bytes another one passes as well.
use Rattle.std.proofs.Common.{◌≡◌, ℕ, List, [], ◌∷◌, map, refl, ap, sym, ◌∙◌, subst}
use Rattle.std.specs.BTreeMap.{BTreeMap}
use Rattle.sky_base.specs.ObjectView.{desc_view, object_view}
use Rattle.sky_base.specs.Res as res
use Rattle.sky_base.specs.Tree.{Script}
use Rattle.sky_base.specs.Val.{Desc, Val, call, dict, fun, input, known, list, null, num, out, ref, text, truth}
use Rattle.sky_base.specs.View.{view}
use Rattle.sky_base.specs.declared.object.Desc1.{Desc1}
use Rattle.sky_base.specs.declared.object.Object.{Object}
use Rattle.sky_base.specs.declared.value.Value.{Value}
use Rattle.ciel_journal.specs.Job.{Digest}
use Rattle.ciel_log_fits.specs.Known.{AfterSeen}
use Rattle.ciel_log_follows.proofs.Reported.{same_reports}
use Rattle.ciel_log_read.specs.View.{end_view, report_view}
use Rattle.ciel_log_read.specs.declared.record.LoggedEnd.{LoggedEnd}
use Rattle.ciel_log_read.specs.declared.record.LoggedReport.{LoggedReport}
use Rattle.ciel_log_report.specs.Tests.{EndPasses, HasCome, OutputsPass, ReportPasses, StackPasses}
use Rattle.ciel_master_board.specs.Board.{Board}
use Rattle.ciel_task_order.specs.Views.{P}
use Rattle.ciel_task_order.specs.declared.order.Order.{Order}

-- ---- a value is told by what it stands for

abbrev back : Val (List ℕ) → Value
back null = Value.Null
back (truth b) = Value.Bool b
back (num z) = Value.Int z
back (text t) = Value.Text t
back (list vs) = Value.List vs
back (dict ps) = Value.Dict ps
back (fun f c) = Value.Fun f c
back (ref (known n)) = Value.Ref n
back (ref (call f c vs)) = Value.Null
back (ref (out x v m i)) = Value.Null
back (ref (input k)) = Value.Null

back_view : (v : Value) → back (view v) ≡ v
back_view Value.Null = refl
back_view (Value.Bool b) = refl
back_view (Value.Int z) = refl
back_view (Value.Text t) = refl
back_view (Value.List vs) = refl
back_view (Value.Dict ps) = refl
back_view (Value.Fun f c) = refl
back_view (Value.Ref n) = refl

one_value : (v u : Value) → view v ≡ view u → v ≡ u
one_value v u e = sym (back_view v) ∙ (ap back e ∙ back_view u)

abbrev desc_back : Desc (List ℕ) → Desc1
desc_back (call f c vs) = Desc1.Call f c vs
desc_back (out x v n i) = Desc1.Exec x (back v) n i
desc_back (input k) = Desc1.Input k
desc_back (known n) = Desc1.Input n

desc_back_view : (d : Desc1) → desc_back (desc_view d) ≡ d
desc_back_view (Desc1.Call f c vs) = refl
desc_back_view (Desc1.Exec x v n i) = ap (λ z. Desc1.Exec x z n i) (back_view v)
desc_back_view (Desc1.Input k) = refl

abbrev object_back : res.Object (List ℕ) → Object
object_back (res.Object.bytes b) = Object.Bytes b
object_back (res.Object.data_of v) = Object.Data (back v)
object_back (res.Object.fault f) = Object.Fault f

object_back_view : (o : Object) → object_back (object_view o) ≡ o
object_back_view (Object.Bytes b) = refl
object_back_view (Object.Data v) = ap Object.Data (back_view v)
object_back_view (Object.Fault f) = refl

all_back : {A C : Type 0} (f : A → C) (g : C → A) → ((x : A) → g (f x) ≡ x) → (xs : List A) → map g (map f xs) ≡ xs
all_back f g h [] = refl
all_back f g h (x ∷ xs) = ap (λ z. z ∷ map g (map f xs)) (h x) ∙ ap (λ zs. x ∷ zs) (all_back f g h xs)

same_descs : (xs ys : List Desc1) → map desc_view xs ≡ map desc_view ys → xs ≡ ys
same_descs xs ys e =
    sym (all_back desc_view desc_back desc_back_view xs) ∙ (ap (map desc_back) e ∙ all_back desc_view desc_back desc_back_view ys)

same_objects : (xs ys : List Object) → map object_view xs ≡ map object_view ys → xs ≡ ys
same_objects xs ys e =
    sym (all_back object_view object_back object_back_view xs)
    ∙ (ap (map object_back) e ∙ all_back object_view object_back object_back_view ys)

-- ---- an end

module _ (digest : List ℕ → List ℕ) (sc : Script) (b : Board P) (kept : BTreeMap Digest Object) (order : Order) where
  same_end : (after : AfterSeen P) (names : List Digest) (x y : LoggedEnd) → end_view x ≡ end_view y
      → EndPasses order sc after kept digest b names x → EndPasses order sc after kept digest b names y
  same_end after names (LoggedEnd.Made xs) (LoggedEnd.Made ys) e h =
      let views : map object_view xs.items ≡ map object_view ys.items = cc in
      subst (OutputsPass order sc after kept digest names) (same_objects xs.items ys.items views) h
  same_end after names (LoggedEnd.Saved j x) (LoggedEnd.Saved i y) e h =
      let waits : j ≡ i = cc in
      let bytes : x ≡ y = cc in
      subst (λ z. StackPasses order sc after names z y) waits (subst (StackPasses order sc after names j) bytes h)
  same_end after names (LoggedEnd.Answer x) (LoggedEnd.Answer y) e h = h
  same_end after names (LoggedEnd.Fault x) (LoggedEnd.Fault y) e h = h
  same_end after names (LoggedEnd.Missing n k) (LoggedEnd.Missing m l) e h =
      let same : LoggedEnd.Missing n k ≡ LoggedEnd.Missing m l = cc in
      subst (EndPasses order sc after kept digest b names) same h
  same_end after names (LoggedEnd.Made xs) (LoggedEnd.Saved i y) e h = cc
  same_end after names (LoggedEnd.Made xs) (LoggedEnd.Answer y) e h = cc
  same_end after names (LoggedEnd.Made xs) (LoggedEnd.Fault y) e h = cc
  same_end after names (LoggedEnd.Made xs) (LoggedEnd.Missing m l) e h = cc
  same_end after names (LoggedEnd.Saved j x) (LoggedEnd.Made ys) e h = cc
  same_end after names (LoggedEnd.Saved j x) (LoggedEnd.Answer y) e h = cc
  same_end after names (LoggedEnd.Saved j x) (LoggedEnd.Fault y) e h = cc
  same_end after names (LoggedEnd.Saved j x) (LoggedEnd.Missing m l) e h = cc
  same_end after names (LoggedEnd.Answer x) (LoggedEnd.Made ys) e h = cc
  same_end after names (LoggedEnd.Answer x) (LoggedEnd.Saved i y) e h = cc
  same_end after names (LoggedEnd.Answer x) (LoggedEnd.Fault y) e h = cc
  same_end after names (LoggedEnd.Answer x) (LoggedEnd.Missing m l) e h = cc
  same_end after names (LoggedEnd.Fault x) (LoggedEnd.Made ys) e h = cc
  same_end after names (LoggedEnd.Fault x) (LoggedEnd.Saved i y) e h = cc
  same_end after names (LoggedEnd.Fault x) (LoggedEnd.Answer y) e h = cc
  same_end after names (LoggedEnd.Fault x) (LoggedEnd.Missing m l) e h = cc
  same_end after names (LoggedEnd.Missing n k) (LoggedEnd.Made ys) e h = cc
  same_end after names (LoggedEnd.Missing n k) (LoggedEnd.Saved i y) e h = cc
  same_end after names (LoggedEnd.Missing n k) (LoggedEnd.Answer y) e h = cc
  same_end after names (LoggedEnd.Missing n k) (LoggedEnd.Fault y) e h = cc

  same_come : (x y : LoggedEnd) → end_view x ≡ end_view y → HasCome y → HasCome x
  same_come (LoggedEnd.Made xs) y e h = tt
  same_come (LoggedEnd.Saved j x) y e h = tt
  same_come (LoggedEnd.Answer x) y e h = tt
  same_come (LoggedEnd.Fault x) y e h = tt
  same_come (LoggedEnd.Missing n k) (LoggedEnd.Missing m l) e h = h
  same_come (LoggedEnd.Missing n k) (LoggedEnd.Made ys) e h = cc
  same_come (LoggedEnd.Missing n k) (LoggedEnd.Saved i y) e h = cc
  same_come (LoggedEnd.Missing n k) (LoggedEnd.Answer y) e h = cc
  same_come (LoggedEnd.Missing n k) (LoggedEnd.Fault y) e h = cc

  -- ---- a report

  pub same_passes : (x y : LoggedReport) → report_view x ≡ report_view y → ReportPasses digest sc b kept order x → ReportPasses digest sc b kept order y
  same_passes x y e p =
      let s = same_reports x.number y.number (map desc_view x.spawned.items) (map desc_view y.spawned.items) x.copied.items y.copied.items
      (end_view x.end) (end_view y.end) e in
      record {
        spawned = p.spawned;
        descs = p.descs ∙ same_descs x.spawned.items y.spawned.items s.spawned;
        named = p.named;
        passes = record {
          sound = λ come. p.passes.sound (same_come x.end y.end s.ends come);
          whole = λ come. p.passes.whole (same_come x.end y.end s.ends come);
          inside = λ come. p.passes.inside (same_come x.end y.end s.ends come);
          ends = subst (λ ns. EndPasses order sc (record { table = b.table; spawned = p.spawned }) kept digest b ns y.end) s.copied
              (same_end (record { table = b.table; spawned = p.spawned }) x.copied.items x.end y.end s.ends p.passes.ends);
        };
      }
