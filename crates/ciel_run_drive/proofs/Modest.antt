-- Runs that come to their answer.
use Rattle.std.proofs.Common.{◌≡◌, ℕ, List, [], ◌∷◌, Some, inl, inr, sym, subst, slice_get}
use Rattle.sky_base.specs.KitView.{Gives}
use Rattle.sky_base.specs.See as s
use Rattle.ciel_master_law.specs.Ends.{IsModest, IsOrderly}
use Rattle.ciel_master_law.proofs.ShopLaws.{modest_alike, shop_is}
use Rattle.ciel_journal.specs.Entries.{Entry, journal_of}
use Rattle.ciel_journal.specs.History.{Event, Plan, Standing, after, before_all, done, lost, missed, saved, start}
use Rattle.ciel_journal.specs.Job.{In, Job}
use Rattle.ciel_journal.specs.Turns.{DrivenFrom}
use Rattle.ciel_master.specs.declared.stop.RunEnd.{RunEnd}
use Rattle.ciel_task_order.specs.Performs.{the_shop}
use Rattle.ciel_task_order.specs.Shop as shop
use Rattle.ciel_task_order.specs.Views.{P}
use Rattle.ciel_master_board.specs.Setting.{Setting}
use Rattle.ciel_master_board.specs.Ends.{Modest}
use Rattle.ciel_master_board.proofs.EndsLemmas.{none_circles, none_clashes, none_overflows}
use Rattle.ciel_run_drive.specs.Ended.{EndsSo, HasAnswer, SomeStays}

-- a Lost in a driven history is of a loss of the plan
module _ {D : Type 0} (job : Job D) (p : Plan) where
  planned : (v : Standing D) (h : List (Event D)) (w c : ℕ) → DrivenFrom job p v h → In (Entry.Lost w c) (journal_of job h) → (loss : ℕ)
      × (count : ℕ) × (slice_get p.losses loss ≡ Some (count, w))
  planned v [] w c d i = absurd i
  planned v (e ∷ es) w c d (inr i) = planned (after job v e) es w c d.2 i
  planned v (start k u t from ∷ es) w c d (inl q) = cc
  planned v (done k made copied spawned ∷ es) w c d (inl q) = cc
  planned v (saved k j mark refs holds spawned ∷ es) w c d (inl q) = cc
  planned v (missed k x loss ∷ es) w c d (inl q) = cc
  planned v (lost u n ∷ es) w c d (inl q) =
      let a = d.0.allowed.planned in
      let same : u ≡ w = cc in
      (a.0, a.1, subst (λ z. slice_get p.losses a.0 ≡ Some (a.1, z)) same a.2)

module _ (digest : List ℕ → List ℕ) (job : s.Job) (gives : Gives) (orderly : IsOrderly digest job gives) (p : Plan)
    (m : IsModest digest job gives p.limit) (stays : SomeStays p) (J : List Entry) where
  abbrev S : Setting s.Desc P shop.Block
  S = the_shop digest job gives

  modest : Modest S p.limit
  modest = modest_alike digest job gives orderly p.limit m

  pub modest_answers : (end : RunEnd) → EndsSo digest job gives p J end → HasAnswer end
  modest_answers (RunEnd.Answer text) e = tt
  modest_answers (RunEnd.Fault fault) e = tt
  modest_answers (RunEnd.Endless names) e =
      none_circles S (shop_is digest job gives orderly) p J modest names e.cause.0
  modest_answers (RunEnd.TooMany held given) e =
      none_overflows S (shop_is digest job gives orderly) p J modest held e.cause.0 e.cause.2
  modest_answers RunEnd.AllLost e =
      let w = stays.0 in
      let l = e.cause w stays.1 in
      let d = e.driven in
      let q = planned S.job p (before_all S.job) d.0 w l.0 d.1 (subst (In (Entry.Lost w l.0)) (sym d.2) l.1) in
      stays.2 q.0 q.1 q.2
  modest_answers (RunEnd.NameClash kept given) e =
      none_clashes S (shop_is digest job gives orderly) p J modest kept given e.cause
  modest_answers RunEnd.Memory e = tt
