-- What gates are told by the orders that are sent again, and then by the run.
use Rattle.std.proofs.Common.{◌≡◌, ◌<◌, ◌∙◌, ℕ, suc, List, [], ◌∷◌, ◌++◌, Bool, true, false, cond, length, map, nat_eq, Option, refl, sym, ap, subst}
use Rattle.std.proofs.lemmas.List.{append-nil, append_assoc}
use Rattle.sky_base.specs.declared.object.TaskId.{TaskId}
use Rattle.ciel_journal.specs.Entries.{Entry}
use Rattle.ciel_journal.specs.Job.{Digest, Task}
use Rattle.ciel_journal.specs.Journals.{entered_in}
use Rattle.ciel_run_onward.specs.Open.{Begun, begun_of}
use Rattle.ciel_log_law.specs.RunDriveTold.{ToldBy, ToldOf, ToldOn}
use Rattle.ciel_run_drive.proofs.ToldLemmas.{none_fades, tells_both, tells_none, tells_start}
use Rattle.ciel_run_job.proofs.Lent.{told_then}
use Rattle.ciel_task_crew.specs.Crews.{FadesEach, TellsTask, told_at}
use Rattle.ciel_task_order.specs.declared.order.Order.{Order}
use Rattle.ciel_run_onward.specs.Gates.{LeavesOpen, ToldOpen, ToldSince, tasks_at}

abbrev Lists : Type 0
Lists = List (Option (List TaskId))

-- a Start as an entry
abbrev pub entry_of : Begun → Entry
entry_of o = Entry.Start o.0 o.1 o.2 0

entered_of : (w : ℕ) (os : List Begun) (more : List Entry) → entered_in w (map entry_of os ++ more) ≡ tasks_at w os ++ entered_in w more
entered_of w [] more = refl
entered_of w (o ∷ os) more = pick (nat_eq w o.1) (entered_of w os more)
  where
    pick : (b : Bool) → entered_in w (map entry_of os ++ more) ≡ tasks_at w os ++ entered_in w more
        → cond b (o.2 ∷ entered_in w (map entry_of os ++ more)) (entered_in w (map entry_of os ++ more))
        ≡ cond b (o.2 ∷ tasks_at w os) (tasks_at w os) ++ entered_in w more
    pick true h = ap (λ ts. o.2 ∷ ts) h
    pick false h = h

-- ---- while orders are sent: these were, and those are left

pub record SentSo (all : List Order) (rest : List Order) (before now : Lists) : Type 0 where
  pub sent : List Begun
  pub split : map begun_of all ≡ sent ++ map begun_of rest
  pub told : ToldOn [] (map entry_of sent) before now

pub none_sent : (all : List Order) (told : Lists) → SentSo all all told told
none_sent all told = record { sent = []; split = refl; told = tells_none [] [] told told refl (none_fades told) }

map_last : (os : List Begun) (o : Begun) → map entry_of (os ++ o ∷ []) ≡ map entry_of os ++ entry_of o ∷ []
map_last [] o = refl
map_last (x ∷ xs) o = ap (λ es. entry_of x ∷ es) (map_last xs o)

pub one_sent : (all rest next : List Order) (order : Order) (before now then : Lists) → rest ≡ order ∷ next → SentSo all rest before now
    → TellsTask order now then → SentSo all next before then
one_sent all rest next order before now then e s t = record {
  sent = s.sent ++ begun_of order ∷ [];
  split =
      s.split ∙ ap (λ (os : List Order). s.sent ++ map begun_of os) e
      ∙ sym (append_assoc s.sent (begun_of order ∷ []) (map begun_of next));
  told =
      tells_both [] (map entry_of s.sent) (map entry_of (s.sent ++ begun_of order ∷ [])) before now then s.told
      (tells_start order now (map entry_of s.sent) (map entry_of (s.sent ++ begun_of order ∷ [])) order.number 0 then
      (map_last s.sent (begun_of order)) t);
}

-- told by a list of entries is told by what it has at each worker
told_as : (es : List Entry) (os : List Begun) (more : List Entry) (before after : Lists) → es ≡ map entry_of os ++ more → ToldBy es before after
    → (length after ≡ length before)
    × ((w : ℕ) → w < length before → ToldOf (told_at before w) (tasks_at w os ++ entered_in w more) (told_at after w))
told_as es os more before after e t = (
  t.0,
  λ w below. subst (λ ts. ToldOf (told_at before w) ts (told_at after w)) (ap (entered_in w) e ∙ entered_of w os more) (t.1 w below),
)

nothing : (J new : List Entry) → new ≡ [] ++ J → new ≡ J
nothing J new e = e

pub all_sent : (all : List Order) (before now : Lists) → SentSo all [] before now → ToldOpen (map begun_of all) before now
all_sent all before now s =
    let same : map begun_of all ≡ s.sent = s.split ∙ append-nil s.sent in
    let t = told_as s.told.0 s.sent [] before now (sym s.told.1 ∙ sym (append-nil (map entry_of s.sent))) s.told.2 in
    subst (λ os. ToldOpen os before now) (sym same)
    (t.0, λ w below. subst (λ ts. ToldOf (told_at before w) ts (told_at now w)) (append-nil (tasks_at w s.sent)) (t.1 w below))

-- ---- and then by the run

open_told : (os : List Begun) (before now : Lists) → ToldOpen os before now → ToldBy (map entry_of os) before now
open_told os before now t = (
  t.0,
  λ w below. subst (λ ts. ToldOf (told_at before w) ts (told_at now w))
      (sym (append-nil (tasks_at w os)) ∙ sym (entered_of w os []) ∙ ap (entered_in w) (append-nil (map entry_of os))) (t.1 w below),
)

-- the orders that were sent are those that the journal leaves open
pub since : (R J : List Entry) (orders : List Order) (before now after : Lists) → LeavesOpen R orders → ToldOpen (map begun_of orders) before now
    → ToldOn R J now after → ToldSince R J before after
since R J orders before now after opens t on =
    let os : List Begun = map begun_of orders in
    let first : ToldOn [] (map entry_of os) before now = (map entry_of os, refl, open_told os before now t) in
    let then : ToldOn (map entry_of os) (map entry_of os ++ on.0) now after = (on.0, refl, on.2) in
    let both = tells_both [] (map entry_of os) (map entry_of os ++ on.0) before now after first then in
    let all = told_as both.0 os on.0 before after (sym both.1) both.2 in (
      on.0,
      on.1,
      all.0,
      λ w below. subst (λ (ts : List (Task Digest)). ToldOf (told_at before w) (ts ++ entered_in w on.0) (told_at after w)) (opens w) (all.1 w below),
    )

-- nothing came since, and the crew was closed
pub since_none : (R J : List Entry) (orders : List Order) (before now after : Lists) → LeavesOpen R orders → J ≡ R
    → ToldOpen (map begun_of orders) before now → FadesEach now after → ToldSince R J before after
since_none R J orders before now after opens same t f =
    since R J orders before now after opens t ([], same ∙ sym (append-nil R), told_then [] now now after (nothing_told now) f)
  where
    nothing_told : (x : Lists) → ToldBy [] x x
    nothing_told x =
        let n = tells_none [] [] x x refl (none_fades x) in
        subst (λ es. ToldBy es x x) (sym n.1) n.2

-- from what the crew was told at first
pub since_first : (R J : List Entry) (crew first after : Lists) → crew ≡ first → ToldSince R J crew after → ToldSince R J first after
since_first R J crew first after e t = subst (λ x. ToldSince R J x after) e t

-- from what a crew told at first to what the gates tell that it gave back when it was closed
pub on_closed : (R driven J : List Entry) (first opened then after : Lists) → opened ≡ first → J ≡ driven → ToldOn R driven opened then
    → FadesEach then after → ToldOn R J first after
on_closed R driven J first opened then after same whole t f =
    let u : ToldOn R driven first then = subst (λ (x : Lists). ToldOn R driven x then) same t in
    (u.0, whole ∙ u.1, told_then u.0 first then after u.2 f)

pub none_left : {A : Type 0} (xs : List A) → length xs ≡ 0 → xs ≡ []
none_left [] e = refl
none_left (x ∷ xs) e = let bad : suc (length xs) ≡ 0 = e in cc
