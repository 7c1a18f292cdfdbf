-- A report whose record tells a saved wait of the model: the stack with these bytes is the model's, and so are its names and its mark.
use Rattle.std.proofs.Common.{◌≡◌, ℕ, List, [], ◌∷◌, map, Some, refl, ap, sym, ◌∙◌, subst}
use Rattle.std.specs.Option.{option_map}
use Rattle.sha1.specs.Sha1.{sha1}
use Rattle.sky_base.specs.KitView.{Gives}
use Rattle.sky_base.specs.Name.{digested}
use Rattle.sky_base.specs.Names.{known_of}
use Rattle.sky_base.specs.Needed as n
use Rattle.sky_base.specs.See as s
use Rattle.sky_base.specs.Val.{call, input, known, out, same_text}
use Rattle.sky_base_law.specs.Lower.{low_ref}
use Rattle.sky_base_law.specs.NamesLaws as laws
use Rattle.sky_base_law.specs.NamesLaws.{no_name}
use Rattle.sky_base_law.specs.Tasks as t
use Rattle.sky_base_law.proofs.ApartLaw.{waits_apart}
use Rattle.sky_base_law.proofs.TaskOutputs.{apart_refs}
use Rattle.sky_frozen_bytes.specs.Bytes.{frozen_bytes}
use Rattle.sky_frozen_bytes.specs.Spelled.{StandSpelled}
use Rattle.sky_frozen_bytes.proofs.Parts.{one_state}
use Rattle.sky_state.specs.Pending.{held_in, pending_in}
use Rattle.sky_state.specs.Stand.{Stand}
use Rattle.sky_state.proofs.HeldLaw.{stands_holds, stands_pending}
use Rattle.ciel_journal.specs.Entries.{low_names}
use Rattle.ciel_journal.specs.History.{Event, OpenStart, Save, Standing, after, saved, standing}
use Rattle.ciel_journal.specs.Job.{Digest, Each, Held, In, Job, Needed, StateOf, Task, of, show}
use Rattle.ciel_journal.specs.Lawful.{Lawful, SavedAllowed, Step}
use Rattle.ciel_journal.proofs.Begins.{began}
use Rattle.ciel_journal.proofs.BookKnown.{SaveKnown, informed_step}
use Rattle.ciel_journal.proofs.Good.{after_saved}
use Rattle.ciel_journal.proofs.Members.{each_of}
use Rattle.ciel_journal.proofs.Numbers.{found_in, last_in}
use Rattle.ciel_journal.proofs.Started.{started}
use Rattle.ciel_journal.proofs.Unique.{state_unique}
use Rattle.ciel_journal_job.specs.Real.{back, held_if}
use Rattle.ciel_journal_job.proofs.AlikeLaw.{is_one, wait_to}
use Rattle.ciel_journal_job.proofs.RealLaw.{in_to}
use Rattle.ciel_json.specs.Around.{json_around}
use Rattle.ciel_master_board.specs.Board.{Board}
use Rattle.ciel_master_board.specs.Follows.{Follows}
use Rattle.ciel_master_board.specs.Setting.{HasState, IsSetting, Setting}
use Rattle.ciel_master_board.specs.Sound.{Sound}
use Rattle.ciel_master_board.proofs.FollowsLemmas.{informed}
use Rattle.ciel_master_law.specs.Ends.{IsOrderly, worker_of}
use Rattle.ciel_master_law.proofs.ShopLaws.{shop_is}
use Rattle.ciel_task_order.specs.Named.{frozen_mark, mark_of, name_of, state_by_names}
use Rattle.ciel_task_order.specs.Performs.{the_shop}
use Rattle.ciel_task_order.specs.Shop as shop
use Rattle.ciel_task_order.specs.Shop.{block_view}
use Rattle.ciel_task_order.specs.Views.{P}

-- names that stand as references
known_same : {D : Type 0} (job : Job D) (xs : List (List ℕ)) (ds : List D) → known_of xs ≡ map (λ d. known (job.name d)) ds → xs ≡ low_names job ds
known_same job [] [] e = refl
known_same job [] (d ∷ ds) e = cc
known_same job (x ∷ xs) [] e = cc
known_same job (x ∷ xs) (d ∷ ds) e =
    let one : x ≡ job.name d = cc in
    let rest : known_of xs ≡ map (λ z. known (job.name z)) ds = cc in
    ap (λ z. z ∷ xs) one ∙ ap (λ zs. job.name d ∷ zs) (known_same job xs ds rest)

known_low : {D : Type 0} (job : Job D) (ds : List D) → known_of (low_names job ds) ≡ map (λ d. known (job.name d)) ds
known_low job [] = refl
known_low job (d ∷ ds) = ap (λ z. known (job.name d) ∷ z) (known_low job ds)

module _ (digest : List ℕ → List ℕ) (job : s.Job) (gives : Gives) where
  abbrev S : Setting s.Desc P shop.Block
  S = the_shop digest job gives

  abbrev around : s.Around
  around = json_around gives

  abbrev tag : laws.Tag
  tag = digested digest

  -- the model's state of a task at a wait
  abbrev StandsAt : Task s.Desc → ℕ → n.State → Type 0
  StandsAt u j a = n.StandsAt job around (back u) j a

  -- is one for the journal too
  state_there : (u : Task s.Desc) (j : ℕ) (a : n.State) → StandsAt u j a
      → StateOf S.job u j (record { names = t.held a; mark = frozen_mark digest a })
  state_there show j a (k, e) = (k, ap (held_if job around (name_of digest) (mark_of digest) (frozen_mark digest)) e)
  state_there (of (call f c vs)) j a (k, e) = (k, ap (held_if job around (name_of digest) (mark_of digest) (frozen_mark digest)) e)
  state_there (of (out x w m i)) j a (k, e) = cc
  state_there (of (input y)) j a (k, e) = cc
  state_there (of (known z)) j a h = absurd z

  -- and holds what that state holds
  held_at : (u : Task s.Desc) (j : ℕ) (a : n.State) → StandsAt u j a → t.HeldAt job around (back u) j (t.held a)
  held_at show j a (k, e) = (k, ap (option_map t.held) e)
  held_at (of (call f c vs)) j a (k, e) = (k, ap (option_map t.held) e)
  held_at (of (out x w m i)) j a (k, e) = cc
  held_at (of (input y)) j a (k, e) = cc
  held_at (of (known z)) j a h = absurd z

  module _ (orderly : IsOrderly digest job gives) (h : List (Event s.Desc)) (b : Board P) (sound : Sound digest worker_of b) (f : Follows S h b)
      (k j : ℕ) (mark : Digest) (refs holds spawned : List s.Desc)
      (step : Step S.job b.plan (standing S.job h) (saved k j mark refs holds spawned)) where
    abbrev now : Standing s.Desc
    now = standing S.job h

    abbrev then : Standing s.Desc
    then = after S.job now (saved k j mark refs holds spawned)

    is : IsSetting S
    is = shop_is digest job gives orderly

    abbrev pub o : OpenStart s.Desc
    o = step.allowed.0

    abbrev ok : SavedAllowed S.job o j mark refs holds spawned
    ok = step.allowed.2

    needed : Needed S.job o.task
    needed =
        let m = began S.job h o (found_in S.job is.laws k now.orders o step.allowed.1).0 in
        (started S.job is.laws b.plan m.before m.rest o.number o.worker o.task o.from (subst (Lawful S.job b.plan) m.whole f.lawful)).0

    -- what is waited for and held is in the book then
    abbrev save : Save s.Desc
    save = record { task = o.task; j = j; worker = o.worker; refs = refs; holds = holds }

    save_known : SaveKnown S.job is.laws S.inner is.knows then.book save
    save_known =
        (informed_step S.job is.laws S.inner is.knows b.plan now (saved k j mark refs holds spawned) (informed S is h b sound f) step.allowed).saves
        save (subst (λ (u : Standing s.Desc). In save u.saves) (sym (after_saved S.job is.laws now k j mark refs holds spawned o step.allowed.1))
        (last_in now.saves save))

    holds_known : Each (λ d. In d then.book) holds
    holds_known =
        is.knows.holds_told then.book o.task j refs (record { names = holds; mark = mark }) save_known.told ok.next.waits ok.frozen

    pub refs_booked : Each (λ d. In d then.book) refs
    refs_booked = save_known.refs

    pub holds_booked : Each (λ d. In d then.book) holds
    holds_booked = holds_known

    clear : (ds : List s.Desc) → Each (λ d. In d then.book) ds → laws.NoClash tag ds
    clear ds all d e i q same =
        step.apart d e (each_of (λ x. In x then.book) d ds (in_to d ds i) all) (each_of (λ x. In x then.book) e ds (in_to e ds q) all) same

    module _ (a : n.State) (stands : StandsAt o.task j a) where
      -- its names and its mark are the event's
      abbrev told : Held s.Desc
      told = record { names = holds; mark = mark }

      abbrev there : Held s.Desc
      there = record { names = t.held a; mark = frozen_mark digest a }

      held_is : told ≡ there
      held_is = state_unique S.job is.laws o.task j told there ok.frozen (state_there o.task j a stands)

      names_is : holds ≡ t.held a
      names_is = ap (λ (x : Held s.Desc). x.names) held_is

      pub mark_is : mark ≡ sha1 (frozen_bytes (state_by_names digest a))
      mark_is = ap (λ (x : Held s.Desc). x.mark) held_is

      abbrev Q : Stand (List ℕ)
      Q = state_by_names digest a

      pub waits_at : n.WaitOf job around (back o.task) j refs
      waits_at =
          wait_to job around (name_of digest) (mark_of digest) (frozen_mark digest) o.task
          (is_one job around (name_of digest) (mark_of digest) (frozen_mark digest) o.task needed) j refs ok.next.waits

      pending : pending_in same_text Q ≡ map (λ d. known (S.job.name d)) refs
      pending =
          stands_pending tag job around Q (back o.task) j refs (a, stands, refl) waits_at (clear refs save_known.refs)
          ∙ ap (map (λ d. low_ref no_name tag d)) (apart_refs refs (waits_apart job around waits_at.0 (back o.task) j refs waits_at.1))

      held : held_in same_text Q ≡ map (λ d. known (S.job.name d)) holds
      held =
          stands_holds tag job around Q (back o.task) j holds (a, stands, refl)
          (subst (t.HeldAt job around (back o.task) j) (sym names_is) (held_at o.task j a stands)) (clear holds holds_known)

      pub refs_are : (ns : List (List ℕ)) → known_of ns ≡ pending_in same_text Q → ns ≡ low_names S.job refs
      refs_are ns e = known_same S.job ns refs (e ∙ pending)

      pub holds_are : (ns : List (List ℕ)) → known_of ns ≡ held_in same_text Q → ns ≡ low_names S.job holds
      holds_are ns e = known_same S.job ns holds (e ∙ held)

      pub refs_told : known_of (low_names S.job refs) ≡ pending_in same_text Q
      refs_told = known_low S.job refs ∙ sym pending

      pub holds_told : known_of (low_names S.job holds) ≡ held_in same_text Q
      holds_told = known_low S.job holds ∙ sym held

      -- the stack with its bytes is this one, where both can be spelled
      pub stack_is : (q : Stand (List ℕ)) → StandSpelled q → StandSpelled Q → frozen_bytes q ≡ frozen_bytes Q → q ≡ Q
      stack_is q x y e = one_state q Q x y e

      -- it lies at a place that has it
      pub has_state : (p : P) → block_view p.at.value ≡ shop.Block.stack Q → HasState S p o.task j
      has_state p e = (stands.0, ap (option_map (λ (x : n.State). shop.Block.stack (state_by_names digest x))) stands.1 ∙ ap (λ z. Some z) (sym e))
