-- What the parts of a record are, and what is known of those of its report.
use Rattle.std.proofs.Common.{◌≡◌, ◌<◌, ℕ, List, [], ◌∷◌, map, ap, refl, subst, sym, ◌∙◌, length, Option, Some, None, IfSome, Vec, nat_eq, slice_get, true}
use Rattle.std.specs.BTreeMap.{BTreeMap}
use Rattle.std.specs.Global.{Global}
use Rattle.std.specs.List.{IsDistinct, list_any}
use Rattle.sha1.specs.Sha1.{sha1}
use Rattle.sky_base.specs.Tree.{Script}
use Rattle.sky_base.specs.Val.{same_text}
use Rattle.sky_base.specs.ObjectView.{desc_view}
use Rattle.sky_base.specs.declared.fault.Fault.{Fault}
use Rattle.sky_base.specs.declared.object.Desc1.{Desc1}
use Rattle.sky_base.specs.declared.object.Named.{Named}
use Rattle.sky_base.specs.declared.object.Object.{Object}
use Rattle.sky_base.specs.declared.object.TaskId.{TaskId}
use Rattle.sky_frozen_bytes.specs.Bytes.{frozen_bytes}
use Rattle.sky_frozen_bytes.specs.Spelled.{StandSpelled}
use Rattle.sky_state.specs.Stand.{Stand}
use Rattle.sky_state.specs.declared.shown.Shown.{Shown}
use Rattle.ciel_journal.specs.Job.{Digest, Each}
use Rattle.ciel_log_fits.specs.Given.{IsElsewhere, IsGivenAt}
use Rattle.ciel_log_fits.specs.Known.{AfterSeen}
use Rattle.ciel_log_read.specs.Recorded.{IsRecord, IsSpawned}
use Rattle.ciel_log_read.specs.View.{report_view}
use Rattle.ciel_log_read.specs.declared.record.LoggedEnd.{LoggedEnd}
use Rattle.ciel_log_read.specs.declared.record.LoggedReport.{LoggedReport}
use Rattle.ciel_log_report.specs.Comes.{KeepsOutputs}
use Rattle.ciel_log_report.specs.Ends.{CopiedSo, IsEndOf, IsMadeOf, IsMissedOf, IsSavedOf, IsShownOf}
use Rattle.ciel_log_objects.specs.Objects.{AreCopies, AreMade, KeepsEach}
use Rattle.ciel_master.specs.Seen.{MasterSeen}
use Rattle.ciel_master.specs.Taking.{now_of}
use Rattle.ciel_master.specs.declared.stop.Now.{Now}
use Rattle.ciel_master_board.specs.Board.{Board, OrderOut, find_order}
use Rattle.ciel_master_board.specs.Moves.{accepted}
use Rattle.ciel_master_board.specs.Reports.{IsNamed, learned_all, named_view}
use Rattle.ciel_master_law.specs.Ends.{worker_of}
use Rattle.ciel_master_safe.specs.Reports.{CanWait, outputs_of}
use Rattle.ciel_master_safe.specs.Safe.{IsStackOf}
use Rattle.ciel_master_safe.proofs.TurnsLemmas.{plan_same}
use Rattle.ciel_name.specs.Laws.{SpelledDesc}
use Rattle.ciel_store.specs.Seen.{IsPlaceOf, ShelvesSeen}
use Rattle.ciel_table.specs.Seen.{TableSeen}
use Rattle.ciel_task_order.specs.Orders.{HasStack}
use Rattle.ciel_task_order.specs.Performs.{IsMissing, OfTask}
use Rattle.ciel_task_order.specs.Views.{P, report_end}
use Rattle.ciel_task_order.specs.declared.block.Block.{Block}
use Rattle.ciel_task_order.specs.declared.block.Held.{Held}
use Rattle.ciel_task_order.specs.declared.order.Order.{Order}
use Rattle.ciel_task_order.specs.declared.report.End.{End}
use Rattle.ciel_task_order.specs.declared.report.Made.{Made}
use Rattle.ciel_task_order.specs.declared.report.Report.{Report}
use Rattle.ciel_want.specs.Waited.{AllKnown}

-- ---- what holds of what there is, if there is something

pub kept_so : {A : Type 0} (Q : Type 0) (o : Option A) → Q → IfSome o (λ _. Q)
kept_so Q None q = tt
kept_so Q (Some x) q = q

pub always : {A : Type 0} (P : A → Type 0) (Q : Type 0) (o : Option A) → Q → IfSome o (λ x. P x → Q)
always P Q None q = tt
always P Q (Some x) q = λ _. q

pub under : {A : Type 0} (P Q : A → Type 0) (o : Option A) → ((x : A) → P x → Q x) → IfSome o P → IfSome o Q
under P Q None f h = tt
under P Q (Some x) f h = f x h

-- ---- descriptions

spelled_each : (ds : List Desc1) → Each IsSpawned (map desc_view ds) → Each (λ (d : Desc1). SpelledDesc (desc_view d)) ds
spelled_each [] h = tt
spelled_each (d ∷ ds) h = (h.0.0.spelled, spelled_each ds h.1)

-- those of a record that can be read
pub spelled_in : (r : LoggedReport) → IsRecord (report_view r) → Each (λ (d : Desc1). SpelledDesc (desc_view d)) r.spawned.items
spelled_in r h = spelled_each r.spawned.items h.1.0.1

-- those that have their names
pub spelled_named : (digest : List ℕ → List ℕ) (ns : List Named) → Each (IsNamed digest) ns → Each (λ (n : Named). SpelledDesc (named_view n)) ns
spelled_named digest [] h = tt
spelled_named digest (n ∷ ns) h = (h.0.spelled, spelled_named digest ns h.1)

-- ---- what has a row

pub after_is : (a : AfterSeen P) (t : TableSeen P) (ns : List Named) → a.table ≡ t → a.spawned ≡ ns → a ≡ record { table = t; spawned = ns }
after_is a t ns p q = ap (λ z. record { table = z; spawned = a.spawned }) p ∙ ap (λ z. record { table = t; spawned = z }) q

-- ---- ends

module _ (order : Order) (shelves : ShelvesSeen) (sc : Script) (after : AfterSeen P) where
  pub copied_is : (kept : BTreeMap Digest Object) (names : List Digest) (o : Option (Vec Held Global)) → Each (IsElsewhere order) names
      → IsDistinct same_text names → IfSome o (λ hs. AreCopies shelves order.worker sc after kept names hs.items)
      → IfSome o (λ hs. CopiedSo order shelves sc after kept names hs.items)
  copied_is kept names o elsewhere distinct =
      under (λ (hs : Vec Held Global). AreCopies shelves order.worker sc after kept names hs.items)
      (λ (hs : Vec Held Global). CopiedSo order shelves sc after kept names hs.items) o
      (λ hs copies. record { copies = copies; elsewhere = elsewhere; distinct = distinct })

  pub made_is : (kept : BTreeMap Digest Object) (digest : List ℕ → List ℕ) (objects : List Object) (names listed : List Digest) (hs : List Held)
      (outputs : Vec Made Global) (n : Digest) → order.task ≡ TaskId.Of n → listed ≡ outputs_of digest order.desc
      → CopiedSo order shelves sc after kept names hs → AreMade shelves order.worker sc after listed objects outputs.items
      → IsMadeOf order shelves sc after kept digest objects names hs (End.Made outputs)
  made_is kept digest objects names listed hs outputs n task are copied made =
      record {
        outputs = outputs;
        is = refl;
        kind = subst (λ t. OfTask t (End.Made outputs)) (sym task) tt;
        copied = copied;
        made = subst (λ ns. AreMade shelves order.worker sc after ns objects outputs.items) are made;
      }

  pub shown_is : (kept : BTreeMap Digest Object) (shown : Shown) (names : List Digest) (hs : List Held) → order.task ≡ TaskId.Show
      → CopiedSo order shelves sc after kept names hs → IsShownOf order shelves sc after kept shown names hs (End.Shown shown)
  shown_is kept shown names hs task copied =
      record { is = refl; kind = subst (λ t. OfTask t (End.Shown shown)) (sym task) tt; copied = copied }

  pub saved_is : (j : ℕ) (bytes mark : List ℕ) (names : List Digest) (hs : List Held) (place : P) (refs holds : List Digest) (s : Stand (List ℕ))
      → IsPlaceOf shelves place × (place.worker ≡ order.worker) × (place.at.value ≡ Block.Frozen s) → mark ≡ sha1 bytes → names ≡ [] → hs ≡ []
      → CanWait order.task order.desc → order.from < j → IsStackOf sc order.task j refs holds s → frozen_bytes s ≡ bytes → StandSpelled s
      → ((digest : List ℕ → List ℕ) → AllKnown (learned_all digest after.spawned after.table) refs)
      → ((digest : List ℕ → List ℕ) → AllKnown (learned_all digest after.spawned after.table) holds)
      → IsSavedOf order shelves sc after j bytes names hs (End.Saved place j refs holds mark)
  saved_is j bytes mark names hs place refs holds s put marked no_names none can later stack same spelled refs_known holds_known =
      record {
        place = place;
        refs = refs;
        holds = holds;
        is = ap (End.Saved place j refs holds) marked;
        no_names = no_names;
        none = none;
        saved = record {
          can = can;
          later = later;
          place = put.0;
          here = put.1;
          stack = subst (λ b. HasStack (λ s. IsStackOf sc order.task j refs holds s × (frozen_bytes s ≡ bytes) × StandSpelled s) b) (sym put.2)
              (stack, same, spelled);
          refs_known = refs_known;
          holds_known = holds_known;
        };
      }

-- ---- something that was missing

pub missed_is : (order : Order) (digest : List ℕ → List ℕ) (b : Board P) (name : Digest) (number worker : ℕ) (losses : List (ℕ × ℕ)) (one : ℕ × ℕ)
    (names : List Digest) (hs : List Held) (spawned : ℕ) → spawned ≡ 0 → names ≡ [] → hs ≡ [] → IsGivenAt digest order name worker
    → slice_get losses number ≡ Some one → losses ≡ b.plan.losses → one.1 ≡ worker → list_any (nat_eq worker) b.table.gone ≡ true
    → IsMissedOf order digest b spawned name number names hs (End.Missing name (record { number = number; worker = worker }) None)
missed_is order digest b name number worker losses one names hs spawned nothing no_names none given there same here lost =
    record {
      loss = record { number = number; worker = worker };
      is = refl;
      is_loss = refl;
      no_names = no_names;
      none = none;
      nothing = nothing;
      given = given;
      planned = (one.0, ap (λ ls. slice_get ls number) (sym same) ∙ (there ∙ ap (λ w. Some (one.0, w)) here));
      lost = lost;
    }

pub is_missing : (order : Order) (digest : List ℕ → List ℕ) (b : Board P) (spawned : ℕ) (name : Digest) (number : ℕ) (names : List Digest)
    (hs : List Held) (end : End) → IsMissedOf order digest b spawned name number names hs end → IsMissing end
is_missing order digest b spawned name number names hs end x = subst IsMissing (sym x.is) tt

-- ---- the end that a record tells

module _ (order : Order) (shelves : ShelvesSeen) (sc : Script) (kept : BTreeMap Digest Object) (digest : List ℕ → List ℕ)
    (end : LoggedEnd) (names : List Digest) (o : Option (Vec Held Global × End)) where
  abbrev EndsSo : AfterSeen P → Board P → Vec Held Global × End → Type 0
  EndsSo after b t = IsEndOf order shelves sc after kept digest b end names t.0.items t.1

  -- something was missing
  pub missing_end : (after : AfterSeen P) (b : Board P) (name : Digest) (number : ℕ) (listed : List Digest) → end ≡ LoggedEnd.Missing name number
      → listed ≡ names → IfSome o (λ t. IsMissedOf order digest b (length after.spawned) name number listed t.0.items t.1)
      → IfSome o (EndsSo after b)
  missing_end after b name number listed is same =
      under (λ (t : Vec Held Global × End). IsMissedOf order digest b (length after.spawned) name number listed t.0.items t.1) (EndsSo after b) o
      (λ t m. subst (λ e. IsEndOf order shelves sc after kept digest b e names t.0.items t.1) (sym is)
      (subst (λ ns. IsMissedOf order digest b (length after.spawned) name number ns t.0.items t.1) same m))

  pub missing_none : (Q : Type 0) (b : Board P) (spawned : ℕ) (name : Digest) (number : ℕ) (listed : List Digest)
      → IfSome o (λ t. IsMissedOf order digest b spawned name number listed t.0.items t.1) → IfSome o (λ t. (IsMissing t.1 → ⊥) → Q)
  missing_none Q b spawned name number listed =
      under (λ (t : Vec Held Global × End). IsMissedOf order digest b spawned name number listed t.0.items t.1) (λ (t : Vec Held Global × End). (IsMissing t.1 → ⊥) → Q) o
      (λ t m none. absurd (none (is_missing order digest b spawned name number listed t.0.items t.1 m)))

  -- or not
  pub lasting_end : (known after : AfterSeen P) (listed : List Digest) (b : Board P) → known ≡ after → listed ≡ names
      → IfSome o (λ t. (b : Board P) → IsEndOf order shelves sc known kept digest b end listed t.0.items t.1) → IfSome o (EndsSo after b)
  lasting_end known after listed b is same =
      under (λ (t : Vec Held Global × End). (b : Board P) → IsEndOf order shelves sc known kept digest b end listed t.0.items t.1) (EndsSo after b) o
      (λ t f. subst (λ z. IsEndOf order shelves sc z kept digest b end names t.0.items t.1) is
      (subst (λ ns. IsEndOf order shelves sc known kept digest b end ns t.0.items t.1) same (f b)))

  module _ (after : AfterSeen P) where
    abbrev Lasts : Vec Held Global × End → Type 0
    Lasts t = (b : Board P) → IsEndOf order shelves sc after kept digest b end names t.0.items t.1

    pub made_ends : (objects : Vec Object Global) (listed : List Object) → end ≡ LoggedEnd.Made objects → listed ≡ objects.items
        → IfSome o (λ t. IsMadeOf order shelves sc after kept digest listed names t.0.items t.1) → IfSome o Lasts
    made_ends objects listed is same =
        under (λ (t : Vec Held Global × End). IsMadeOf order shelves sc after kept digest listed names t.0.items t.1) Lasts o
        (λ t m b. subst (λ e. IsEndOf order shelves sc after kept digest b e names t.0.items t.1) (sym is)
        (subst (λ os. IsMadeOf order shelves sc after kept digest os names t.0.items t.1) same m))

    pub saved_ends : (j : ℕ) (bytes listed : List ℕ) (fit : Script) → end ≡ LoggedEnd.Saved j bytes → listed ≡ bytes → fit ≡ sc
        → IfSome o (λ t. IsSavedOf order shelves fit after j listed names t.0.items t.1) → IfSome o Lasts
    saved_ends j bytes listed fit is same fits =
        under (λ (t : Vec Held Global × End). IsSavedOf order shelves fit after j listed names t.0.items t.1) Lasts o
        (λ t m b. subst (λ e. IsEndOf order shelves sc after kept digest b e names t.0.items t.1) (sym is)
        (subst (λ z. IsSavedOf order shelves z after j bytes names t.0.items t.1) fits
        (subst (λ bs. IsSavedOf order shelves fit after j bs names t.0.items t.1) same m)))

    pub answer_ends : (bytes text : List ℕ) → end ≡ LoggedEnd.Answer bytes → text ≡ bytes
        → IfSome o (λ t. IsShownOf order shelves sc after kept (Shown.Text text) names t.0.items t.1) → IfSome o Lasts
    answer_ends bytes text is same =
        under (λ (t : Vec Held Global × End). IsShownOf order shelves sc after kept (Shown.Text text) names t.0.items t.1) Lasts o
        (λ t m b. subst (λ e. IsEndOf order shelves sc after kept digest b e names t.0.items t.1) (sym is)
        (subst (λ x. IsShownOf order shelves sc after kept (Shown.Text x) names t.0.items t.1) same m))

    pub fault_ends : (fault : Fault) → end ≡ LoggedEnd.Fault fault
        → IfSome o (λ t. IsShownOf order shelves sc after kept (Shown.Fault fault) names t.0.items t.1) → IfSome o Lasts
    fault_ends fault is =
        under (λ (t : Vec Held Global × End). IsShownOf order shelves sc after kept (Shown.Fault fault) names t.0.items t.1) Lasts o
        (λ t m b. subst (λ e. IsEndOf order shelves sc after kept digest b e names t.0.items t.1) (sym is) m)

-- the objects that were made are kept
pub made_keeps : (order : Order) (digest : List ℕ → List ℕ) (end : LoggedEnd) (o : Option (Vec Held Global × End)) (objects : Vec Object Global)
    (listed : List Object) (before then : BTreeMap Digest Object) → end ≡ LoggedEnd.Made objects → listed ≡ objects.items
    → IfSome o (λ _. KeepsEach (outputs_of digest order.desc) listed before then) → IfSome o (λ _. KeepsOutputs digest order end before then)
made_keeps order digest end o objects listed before then is same =
    under (λ (_ : Vec Held Global × End). KeepsEach (outputs_of digest order.desc) listed before then)
    (λ (_ : Vec Held Global × End). KeepsOutputs digest order end before then) o
    (λ _ k. subst (λ e. KeepsOutputs digest order e before then) (sym is)
    (subst (λ os. KeepsEach (outputs_of digest order.desc) os before then) same k))

-- ---- what comes of a report

pub came_text : (e : End) (text : List ℕ) → Now.Answer text ≡ now_of e → e ≡ End.Shown (Shown.Text text)
came_text (End.Shown (Shown.Text t)) text q =
    let is : Now.Answer text ≡ Now.Answer t = q in
    let same : text ≡ t = cc in ap (λ z. End.Shown (Shown.Text z)) (sym same)
came_text (End.Shown (Shown.Fault f)) text q = let bad : Now.Answer text ≡ Now.Fault f = q in cc
came_text (End.Made ms) text q = let bad : Now.Answer text ≡ Now.Goes = q in cc
came_text (End.Saved p j refs holds mark) text q = let bad : Now.Answer text ≡ Now.Goes = q in cc
came_text (End.Missing name loss seen) text q = let bad : Now.Answer text ≡ Now.Goes = q in cc

pub came_fault : (e : End) (fault : Fault) → Now.Fault fault ≡ now_of e → e ≡ End.Shown (Shown.Fault fault)
came_fault (End.Shown (Shown.Text t)) fault q = let bad : Now.Fault fault ≡ Now.Answer t = q in cc
came_fault (End.Shown (Shown.Fault f)) fault q =
    let is : Now.Fault fault ≡ Now.Fault f = q in
    let same : fault ≡ f = cc in ap (λ z. End.Shown (Shown.Fault z)) (sym same)
came_fault (End.Made ms) fault q = let bad : Now.Fault fault ≡ Now.Goes = q in cc
came_fault (End.Saved p j refs holds mark) fault q = let bad : Now.Fault fault ≡ Now.Goes = q in cc
came_fault (End.Missing name loss seen) fault q = let bad : Now.Fault fault ≡ Now.Goes = q in cc

pub accepted_plan : {N : Type 0} (digest : List ℕ → List ℕ) (m then : MasterSeen N) (r : Report)
    → ((x : OrderOut) × (find_order r.number m.board.orders ≡ Some x)
    × (then ≡ record m { board = accepted digest worker_of m.board x r.spawned.items (report_end r) })) → then.board.plan ≡ m.board.plan
accepted_plan {N} digest m then r took =
    ap (λ (z : MasterSeen N). z.board.plan) took.2 ∙ plan_same digest m.board took.0 r.spawned.items (report_end r)
