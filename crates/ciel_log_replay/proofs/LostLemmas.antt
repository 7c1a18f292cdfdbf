-- What losses make of the master's state.
use Rattle.std.proofs.Common.{◌≡◌, ℕ, List, [], ◌∷◌, ◌++◌, refl, ap, sym, ◌∙◌, subst}
use Rattle.std.proofs.lemmas.List.{append_assoc, append-nil, append_cancel_left}
use Rattle.sky_base.specs.declared.object.TaskId.{TaskId}
use Rattle.ciel_journal.specs.Entries.{Entry}
use Rattle.ciel_journal.specs.History.{Plan}
use Rattle.ciel_journal.specs.Job.{Digest, Job, Task}
use Rattle.ciel_log_replay.specs.Next.{MustGoOn, OnlyNext}
use Rattle.ciel_log_replay.specs.Steps.{LostBy, loses, stays}
use Rattle.ciel_log_replay.proofs.Alone.{must_last}
use Rattle.ciel_master_board.specs.Board.{Board, task_key}
use Rattle.ciel_task_order.specs.Views.{P}

-- ---- entries that are the same

pub one_same : (x y : Entry) → x ∷ [] ≡ y ∷ [] → x ≡ y
one_same x y e = cc

-- what a Start's entry says
pub record SameStart (k w from l u wait : ℕ) (t z : Task Digest) : Type 0 where
  pub numbers : k ≡ l
  pub workers : w ≡ u
  pub tasks : t ≡ z
  pub waits : from ≡ wait

pub same_start : (k w from l u wait : ℕ) (t z : Task Digest) → Entry.Start k w t from ≡ Entry.Start l u z wait → SameStart k w from l u wait t z
same_start k w from l u wait t z e =
    let one : k ≡ l = cc in
    let two : w ≡ u = cc in
    let three : t ≡ z = cc in
    let four : from ≡ wait = cc in
    record { numbers = one; workers = two; tasks = three; waits = four }

pub same_key : (a c : TaskId) → task_key a ≡ task_key c → a ≡ c
same_key TaskId.Show TaskId.Show e = refl
same_key TaskId.Show (TaskId.Of n) e = cc
same_key (TaskId.Of n) TaskId.Show e = cc
same_key (TaskId.Of n) (TaskId.Of l) e = let same : n ≡ l = cc in ap TaskId.Of same

-- ---- losses

-- what they leave, and what they write
pub record LeftBy (b : Board P) (es : List Entry) (c : Board P) : Type 0 where
  pub plan : c.plan ≡ b.plan
  pub starts : c.starts ≡ b.starts
  pub journal : c.journal ≡ b.journal ++ es

pub left_by : {b c : Board P} {es : List Entry} → LostBy b es c → LeftBy b es c
left_by (stays {b = b}) = record { plan = refl; starts = refl; journal = sym (append-nil b.journal) }
left_by {b = b} (loses {c = d} {es = fs} loss w l due) =
    let r = left_by l in
    record {
      plan = r.plan;
      starts = r.starts;
      journal = ap (λ z. z ++ Entry.Lost w d.closes ∷ []) r.journal ∙ append_assoc b.journal fs (Entry.Lost w d.closes ∷ []);
    }

-- nothing more is nothing
none_more : (J es : List Entry) → J ≡ J ++ es → es ≡ []
none_more J es e = append_cancel_left J es [] (sym e ∙ sym (append-nil J))

pub none_must : {D : Type 0} (job : Job D) (p : Plan) (J es : List Entry) → J ≡ J ++ es → MustGoOn job p J es
none_must job p J es e = subst (MustGoOn job p J) (sym (none_more J es e)) tt

-- with one entry more
pub must_more : {D : Type 0} (job : Job D) (p q : Plan) (J K N es : List Entry) (e : Entry) → K ≡ J ++ es → N ≡ K ++ e ∷ [] → q ≡ p
    → MustGoOn job p J es → OnlyNext job q K e → (all : List Entry) → N ≡ J ++ all → MustGoOn job p J all
must_more job p q J K N es e was now plan must one all is =
    let same : J ++ all ≡ J ++ (es ++ e ∷ []) =
    sym is ∙ (now ∙ (ap (λ z. z ++ e ∷ []) was ∙ append_assoc J es (e ∷ []))) in
    let last : OnlyNext job p (J ++ es) e = subst (λ z. OnlyNext job p z e) was (subst (λ z. OnlyNext job z K e) plan one) in
    subst (MustGoOn job p J) (sym (append_cancel_left J all (es ++ e ∷ []) same)) (must_last job p J es e must last)
