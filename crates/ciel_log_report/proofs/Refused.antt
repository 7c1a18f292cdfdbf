-- What doesn't pass: the first test that fails is one of those that a report's record passes.
use Rattle.std.proofs.Common.{◌≡◌, ℕ, List, [], ◌∷◌, length, map, Option, Some, None, IfNone, refl, ap, sym, ◌∙◌, subst, slice_get, Vec}
use Rattle.std.specs.BTreeMap.{BTreeMap}
use Rattle.std.specs.Global.{Global}
use Rattle.sky_base.specs.Name.{digested}
use Rattle.sky_base.specs.Names.{known_of}
use Rattle.sky_base.specs.ObjectView.{desc_view}
use Rattle.sky_base.specs.Tree.{Script}
use Rattle.sky_base.specs.Val.{same_text}
use Rattle.sky_base.specs.declared.fault.Fault.{Fault}
use Rattle.sky_base.specs.declared.object.Named.{Named}
use Rattle.sky_base.specs.declared.object.Object.{Object}
use Rattle.sky_base.specs.declared.object.TaskId.{TaskId}
use Rattle.sky_frozen_bytes.specs.Bytes.{frozen_bytes}
use Rattle.sky_frozen_bytes.specs.Spelled.{StandSpelled}
use Rattle.sky_frozen_bytes.proofs.Parts.{one_state}
use Rattle.sky_state.specs.Pending.{held_in, pending_in}
use Rattle.sky_state.specs.Stand.{Stand}
use Rattle.ciel_journal.specs.Job.{Digest, Each}
use Rattle.ciel_log_fits.specs.Known.{AfterSeen}
use Rattle.ciel_log_fits.specs.Named.{desc_of}
use Rattle.ciel_log_read.specs.declared.record.LoggedEnd.{LoggedEnd}
use Rattle.ciel_log_read.specs.declared.record.LoggedReport.{LoggedReport}
use Rattle.ciel_log_report.specs.Accepts.{IsCame}
use Rattle.ciel_log_report.specs.Tests.{AllPass, EndPasses, HasCome, MissedPasses, OutputsPass, ReportPasses, ShownPasses, StackPasses}
use Rattle.ciel_log_report.specs.declared.take.Came.{Came}
use Rattle.ciel_master.specs.Marked.{IsPlanned}
use Rattle.ciel_master_board.specs.Board.{Board, start_refs}
use Rattle.ciel_master_board.specs.Reports.{IsNamed, learned_all, named_view}
use Rattle.ciel_master_safe.specs.Reports.{StandsWhole}
use Rattle.ciel_master_safe.specs.Safe.{IsStackOf}
use Rattle.ciel_store.specs.declared.loss.Loss.{Loss}
use Rattle.ciel_table.specs.Seen.{TableSeen}
use Rattle.ciel_task_order.specs.Views.{P}
use Rattle.ciel_task_order.specs.declared.order.Order.{Order}
use Rattle.ciel_task_order.specs.declared.report.End.{End}
use Rattle.ciel_want.specs.Waited.{AllKnown}
use Rattle.sky_base_law.specs.Sound.{SoundDesc}

-- where there is none
pub none_under : {A : Type 0} (P Q : Type 0) (o : Option A) → (P → Q) → IfNone o P → IfNone o Q
none_under P Q None f p = f p
none_under P Q (Some x) f p = tt

-- ---- a stack

known_one : (xs ys : List (List ℕ)) → known_of xs ≡ known_of ys → xs ≡ ys
known_one [] [] e = refl
known_one [] (y ∷ ys) e = cc
known_one (x ∷ xs) [] e = cc
known_one (x ∷ xs) (y ∷ ys) e =
    let one : x ≡ y = cc in
    let rest : known_of xs ≡ known_of ys = cc in
    ap (λ z. z ∷ xs) one ∙ ap (λ zs. y ∷ zs) (known_one xs ys rest)

-- the bytes tell it, and what it waits for and holds
module _ (sc : Script) (task : TaskId) (j : ℕ) (bytes : List ℕ) (s t : Stand (List ℕ)) (refs holds xs ys : List (List ℕ)) (s_spelled : StandSpelled s)
    (t_spelled : StandSpelled t) (s_bytes : frozen_bytes s ≡ bytes) (t_bytes : frozen_bytes t ≡ bytes) (s_is : IsStackOf sc task j refs holds s)
    (t_is : IsStackOf sc task j xs ys t) where
  same_stack : s ≡ t
  same_stack = one_state s t s_spelled t_spelled (s_bytes ∙ sym t_bytes)

  pub same_refs : refs ≡ xs
  same_refs = known_one refs xs (s_is.3 ∙ (ap (pending_in same_text) same_stack ∙ sym t_is.3))

  pub same_holds : holds ≡ ys
  same_holds = known_one holds ys (s_is.4 ∙ (ap (held_in same_text) same_stack ∙ sym t_is.4))

-- ---- something that was missing

some_worker : (x y : ℕ × ℕ) → Some x ≡ Some y → x.1 ≡ y.1
some_worker x y e = let same : x ≡ y = cc in ap (λ (z : ℕ × ℕ). z.1) same

none_some : (x : ℕ × ℕ) → Some x ≡ None → ⊥
none_some x e = cc

-- its loss is that of this number
pub missed_worker : (losses planned : List (ℕ × ℕ)) (number : ℕ) (one : ℕ × ℕ) (loss : Loss) → slice_get losses number ≡ Some one → losses ≡ planned
    → loss.number ≡ number → IsPlanned planned loss → loss.worker ≡ one.1
missed_worker losses planned number one loss there same is p =
    some_worker (p.0, loss.worker) one
    (sym p.1 ∙ (ap (slice_get planned) is ∙ (ap (λ ls. slice_get ls number) (sym same) ∙ there)))

pub none_planned : (losses planned : List (ℕ × ℕ)) (number : ℕ) (loss : Loss) → slice_get losses number ≡ None → losses ≡ planned
    → loss.number ≡ number → IsPlanned planned loss → ⊥
none_planned losses planned number loss there same is p =
    none_some (p.0, loss.worker)
    (sym p.1 ∙ (ap (slice_get planned) is ∙ (ap (λ ls. slice_get ls number) (sym same) ∙ there)))

-- ---- descriptions by their names

-- these are told by what they stand for
pub one_naming : (digest : List ℕ → List ℕ) (ns ms : List Named) → map desc_of ns ≡ map desc_of ms → Each (IsNamed digest) ns
    → Each (IsNamed digest) ms → ns ≡ ms
one_naming digest [] [] e x y = refl
one_naming digest [] (m ∷ ms) e x y = cc
one_naming digest (n ∷ ns) [] e x y = cc
one_naming digest (n ∷ ns) (m ∷ ms) e x y =
    let one : n.desc ≡ m.desc = cc in
    let rest : map desc_of ns ≡ map desc_of ms = cc in
    let name : n.name ≡ m.name = x.0.name ∙ (ap (λ d. digested digest (desc_view d)) one ∙ sym y.0.name) in
    let same : n ≡ m = ap (λ z. record { name = z; desc = n.desc }) name ∙ ap (λ z. record { name = m.name; desc = z }) one in
    ap (λ z. z ∷ ns) same ∙ ap (λ zs. m ∷ zs) (one_naming digest ns ms rest x.1 y.1)

-- ---- the end that a record tells

module _ (order : Order) (sc : Script) (after : AfterSeen P) (kept : BTreeMap Digest Object) (digest : List ℕ → List ℕ) (copied : List Digest)
    (end : LoggedEnd) where
  abbrev Fails : Type 0
  Fails = HasCome end → (b : Board P) → EndPasses order sc after kept digest b copied end → ⊥

  pub made_fails : (more : Vec Object Global) (listed : List Object) → end ≡ LoggedEnd.Made more → listed ≡ more.items
      → (OutputsPass order sc after kept digest copied listed → ⊥) → Fails
  made_fails more listed is same fails come b p =
      fails (subst (OutputsPass order sc after kept digest copied) (sym same) (subst (EndPasses order sc after kept digest b copied) is p))

  pub saved_fails : (j : ℕ) (bytes listed : List ℕ) (fit : Script) → end ≡ LoggedEnd.Saved j bytes → listed ≡ bytes → fit ≡ sc
      → (StackPasses order fit after copied j listed → ⊥) → Fails
  saved_fails j bytes listed fit is same fits fails come b p =
      fails (subst (λ z. StackPasses order z after copied j listed) (sym fits)
      (subst (StackPasses order sc after copied j) (sym same) (subst (EndPasses order sc after kept digest b copied) is p)))

  pub answer_fails : (bytes : List ℕ) → end ≡ LoggedEnd.Answer bytes → (ShownPasses order sc after kept copied → ⊥) → Fails
  answer_fails bytes is fails come b p = fails (subst (EndPasses order sc after kept digest b copied) is p)

  pub fault_fails : (fault : Fault) → end ≡ LoggedEnd.Fault fault → (ShownPasses order sc after kept copied → ⊥) → Fails
  fault_fails fault is fails come b p = fails (subst (EndPasses order sc after kept digest b copied) is p)

  pub missing_fails : (name : Digest) (number : ℕ) → end ≡ LoggedEnd.Missing name number → Fails
  missing_fails name number is come b p = absurd (subst HasCome is come)

-- ---- all that it tells

come_of : (end : LoggedEnd) → ((name : Digest) (number : ℕ) → end ≡ LoggedEnd.Missing name number → ⊥) → HasCome end
come_of (LoggedEnd.Made objects) fails = tt
come_of (LoggedEnd.Saved j bytes) fails = tt
come_of (LoggedEnd.Answer bytes) fails = tt
come_of (LoggedEnd.Fault fault) fails = tt
come_of (LoggedEnd.Missing name number) fails = absurd (fails name number refl)

module _ (digest : List ℕ → List ℕ) (sc : Script) (b : Board P) (kept : BTreeMap Digest Object) (order : Order) (spawned : List Named)
    (copied : List Digest) (end : LoggedEnd) where
  -- something was missing
  pub lack_fails : (listed : List Digest) (name : Digest) (number : ℕ) → end ≡ LoggedEnd.Missing name number → listed ≡ copied
      → (MissedPasses order digest b (length spawned) listed name number → ⊥) → AllPass digest sc b kept order spawned copied end → ⊥
  lack_fails listed name number is same fails p =
      fails (subst (λ ns. MissedPasses order digest b (length spawned) ns name number) (sym same)
      (subst (EndPasses order sc (record { table = b.table; spawned = spawned }) kept digest b copied) is p.ends))

  -- what was spawned isn't allowed
  pub spawned_fails : ((name : Digest) (number : ℕ) → end ≡ LoggedEnd.Missing name number → ⊥) → (table : TableSeen P) → table ≡ b.table
      → (Each (λ (n : Named). SoundDesc sc (named_view n)) spawned
      → Each (λ (n : Named). StandsWhole (map named_view spawned) (named_view n)) spawned
      → Each (λ (n : Named). AllKnown (learned_all digest spawned table) (start_refs n.desc)) spawned → ⊥)
      → AllPass digest sc b kept order spawned copied end → ⊥
  spawned_fails came table same fails p =
      let come = come_of end came in
      fails (p.sound come) (p.whole come)
      (subst (λ t. Each (λ (n : Named). AllKnown (learned_all digest spawned t) (start_refs n.desc)) spawned) (sym same) (p.inside come))

  -- the end doesn't pass
  pub end_fails : ((name : Digest) (number : ℕ) → end ≡ LoggedEnd.Missing name number → ⊥) → (known : AfterSeen P) (listed : List Digest)
      → known ≡ record { table = b.table; spawned = spawned } → listed ≡ copied
      → (HasCome end → (c : Board P) → EndPasses order sc known kept digest c listed end → ⊥) → AllPass digest sc b kept order spawned copied end → ⊥
  end_fails came known listed is same fails p =
      fails (come_of end came) b (subst (λ a. EndPasses order sc a kept digest b listed end) (sym is)
      (subst (λ ns. EndPasses order sc (record { table = b.table; spawned = spawned }) kept digest b ns end) (sym same) p.ends))

-- by any naming of what was spawned
pub report_fails : (digest : List ℕ → List ℕ) (sc : Script) (b : Board P) (kept : BTreeMap Digest Object) (order : Order) (logged : LoggedReport)
    (named : List Named) → map desc_of named ≡ logged.spawned.items → Each (IsNamed digest) named
    → (AllPass digest sc b kept order named logged.copied.items logged.end → ⊥) → ReportPasses digest sc b kept order logged → ⊥
report_fails digest sc b kept order logged named descs names fails p =
    let same : p.spawned ≡ named = one_naming digest p.spawned named (p.descs ∙ sym descs) p.named names in
    fails (subst (λ ns. AllPass digest sc b kept order ns logged.copied.items logged.end) same p.passes)

-- no report is refused by a master
pub not_refused : (came : Came) (end : End) → IsCame end came → came ≡ Came.Refused → ⊥
not_refused Came.Passed end is q = is
not_refused Came.Taken end is q = cc
not_refused (Came.Ends e) end is q = cc
not_refused Came.Refused end is q = is
