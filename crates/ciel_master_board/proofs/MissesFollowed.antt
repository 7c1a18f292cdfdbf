-- A report that something is missing is an event that the state follows.
use Rattle.std.proofs.Common.{◌≡◌, ℕ, ◌+◌, ◌≤◌, List, [], ◌∷◌, ◌++◌, length, true, false, not, cond, filter, nat_eq, eqb-true, Option, Some, None}
use Rattle.std.proofs.Common.{◌⊎◌, inl, inr, refl, ap, sym, ◌∙◌, subst}
use Rattle.std.specs.List.{list_any}
use Rattle.std.specs.Option.{option_map}
use Rattle.sky_base.specs.Val.{same_text}
use Rattle.sky_base.proofs.Exact.{exact_text}
use Rattle.ciel_journal.specs.Entries.{Entry}
use Rattle.ciel_journal.specs.History.{Event, OpenStart, Save, Standing, before_all, find_open, last_save, lost, missed, order_of, stack_of, standing}
use Rattle.ciel_journal.specs.History.{start}
use Rattle.ciel_journal.specs.Job.{Digest, In, Task, of, show}
use Rattle.ciel_journal.specs.Lawful as lawful
use Rattle.ciel_journal.specs.Lawful.{FetchedFrom, HeldAt, Lawful, NoClash, least}
use Rattle.ciel_journal.proofs.Append.{lawful_split}
use Rattle.ciel_journal.proofs.Begins.{began}
use Rattle.ciel_journal.proofs.BookKnown.{last_cases}
use Rattle.ciel_journal.proofs.ByName.{placed_text}
use Rattle.ciel_journal.proofs.Ends.{gone_told}
use Rattle.ciel_journal.proofs.Good.{after_missed}
use Rattle.ciel_journal.proofs.Members.{any_in, bool_cases, each_of}
use Rattle.ciel_journal.proofs.Numbers.{found_in}
use Rattle.ciel_journal.proofs.OpenTold.{saved_told}
use Rattle.ciel_journal.proofs.Shelved.{least_has}
use Rattle.ciel_want.specs.History.{task_id}
use Rattle.ciel_master_board.specs.Board.{Board, Brought, Order, OrderOut, Spot, brought_names, find_order, shelf, spot_of}
use Rattle.ciel_master_board.specs.Follows.{BroughtFor, FetchedAt, Follows, OneByOne, OrderIs, OutIs, StandsFor, worker_for}
use Rattle.ciel_master_board.specs.Laws.{MissedAs}
use Rattle.ciel_master_board.specs.Moves.{missed_at, without}
use Rattle.ciel_master_board.specs.Setting.{IsSetting, Setting}
use Rattle.ciel_master_board.specs.Sound.{MissingFits, OrderSound, Sound, own_name}
use Rattle.ciel_master_board.proofs.EventsFollowed.{book_room, found_number}
use Rattle.ciel_master_board.proofs.FollowsLemmas.{apart, goes_on}
use Rattle.ciel_master_board.proofs.Pairs.{filtered}
use Rattle.ciel_master_board.proofs.SoundLemmas.{order_in}

-- what has a spot is brought
spot_named : {P : Type 0} (n : Digest) (xs : List (Brought P)) (q : Spot P) → spot_of n xs ≡ Some q → In n (brought_names xs)
spot_named n [] q e = cc
spot_named n (x ∷ xs) q e = pick (bool_cases (same_text n x.name)) (spot_named n xs q)
  where
    pick : ((same_text n x.name ≡ true) ⊎ (same_text n x.name ≡ false)) → (spot_of n xs ≡ Some q → In n (brought_names xs))
        → In n (x.name ∷ brought_names xs)
    pick (inl t) r = inl (exact_text n x.name t)
    pick (inr f) r = inr (r (sym (ap (λ b. cond b (Some x.spot) (spot_of n xs)) f) ∙ e))

module _ {D P B : Type 0} (s : Setting D P B) (is : IsSetting s) (h : List (Event D)) (b : Board P) (sound : Sound s.digest s.at b)
    (f : Follows s h b) where
  abbrev v : Standing D
  v = standing s.job h

  own_is : (u : Task D) → own_name s.digest s.at b.main (task_id s.job u) ≡ s.job.name (lawful.own_name s.job u)
  own_is show = f.stands.main
  own_is (of d) = refl

  module _ (x : Order P) (o : OpenStart D) (k : ℕ) (is_out : find_order k b.orders ≡ Some x.out) (is_open : find_open s.job k v.orders ≡ Some o)
      (order : OrderIs s o x) where
    open_in : In o v.orders
    open_in = (found_in s.job is.laws k v.orders o is_open).0

    -- a lost worker isn't the order's
    not_own : (w : ℕ) → list_any (nat_eq w) b.table.gone ≡ true → o.worker ≡ w → ⊥
    not_own w l e =
        let here = (each_of (OrderSound b) x.out b.orders (order_in k b.orders x.out is_out) sound.orders).here in
        let there : list_any (nat_eq x.out.worker) b.table.gone ≡ true =
        subst (λ z. list_any (nat_eq z) b.table.gone ≡ true) (sym (order.out.worker ∙ e)) l in
        let bad : true ≡ false = sym there ∙ here in
        cc

    -- ---- when the Start was made

    abbrev before : List (Event D)
    before = (began s.job h o open_in).before

    stood : o ≡ order_of s.job (standing s.job before) o.number o.worker o.task o.from
    stood = (began s.job h o open_in).stood

    lawful_then : Lawful s.job b.plan before
    lawful_then =
        (lawful_split s.job b.plan (before_all s.job) before (start o.number o.worker o.task o.from ∷ (began s.job h o open_in).rest)
        (subst (Lawful s.job b.plan) (began s.job h o open_in).whole f.lawful)).0

    not_gone : (w : ℕ) → (In w (standing s.job before).gone → ⊥) → list_any (nat_eq w) o.gone ≡ false
    not_gone w n =
        subst (λ (q : OpenStart D). list_any (nat_eq w) q.gone ≡ false) (sym stood)
        (pick (bool_cases (list_any (nat_eq w) (standing s.job before).gone)))
      where
        pick : ((list_any (nat_eq w) (standing s.job before).gone ≡ true) ⊎ (list_any (nat_eq w) (standing s.job before).gone ≡ false))
            → list_any (nat_eq w) (standing s.job before).gone ≡ false
        pick (inl t) = absurd (n (any_in nat_eq (λ a c e. eqb-true a c e) w (standing s.job before).gone t))
        pick (inr g) = g

    -- who had an object then wasn't lost
    had_here : (d : D) (w : ℕ) → list_any (nat_eq w) (o.had d) ≡ true → list_any (nat_eq w) o.gone ≡ false
    had_here d w t =
        let i : In w ((standing s.job before).places d) =
        any_in nat_eq (λ a c e. eqb-true a c e) w ((standing s.job before).places d)
        (subst (λ (q : OpenStart D). list_any (nat_eq w) (q.had d) ≡ true) stood t) in
        let live = (placed_text s.job is.laws b.plan before lawful_then d w).0 i in
        not_gone w (λ j. live.1 ((gone_told s.job before w).0 j))

    -- nor who had the stack
    stack_here : (w : ℕ) → o.stack ≡ Some w → list_any (nat_eq w) o.gone ≡ false
    stack_here w e =
        pick (last_cases s.job is.laws s.inner is.knows o.task (standing s.job before).saves) (sym (ap (λ (q : OpenStart D). q.stack) stood) ∙ e)
      where
        pick : ((last_save s.job o.task (standing s.job before).saves ≡ None)
            ⊎ ((q : Save D) × In q (standing s.job before).saves × (q.task ≡ o.task)
            × (last_save s.job o.task (standing s.job before).saves ≡ Some q)))
            → stack_of s.job (last_save s.job o.task (standing s.job before).saves) ≡ Some w → list_any (nat_eq w) o.gone ≡ false
        pick (inl n) g = let bad : None ≡ Some w = sym (ap (stack_of s.job) n) ∙ g in cc
        pick (inr q) g =
            let a : Some q.0.worker ≡ Some w = sym (ap (stack_of s.job) q.3) ∙ g in
            let c : q.0.worker ≡ w = cc in
            let saved = (saved_told s.job is.laws b.plan before lawful_then q.0).0 q.1 in
            not_gone w (λ j. saved.here (subst (λ z. (n : ℕ) × In (lost z n) before) (sym c) ((gone_told s.job before w).0 j)))

    -- ---- the reason

    -- what is missing
    record Lacks (name : Digest) (w : ℕ) : Type 0 where
      pub what : D
      pub named : s.job.name what ≡ name
      pub not_before : list_any (nat_eq w) o.gone ≡ false
      pub reason : (HeldAt s.job o.task o.from what × FetchedFrom s.job o what w) ⊎ ((what ≡ lawful.own_name s.job o.task) × (o.stack ≡ Some w))

    object_lacks : (name : Digest) (place : P) → spot_of name x.inputs ≡ Some (shelf place) → (o.worker ≡ s.at place → ⊥) → Lacks name (s.at place)
    object_lacks name place e other =
        let q = order.only name (spot_named name x.inputs (shelf place) e) in
        turn q.0 q.1 q.2 (subst (λ n. spot_of n x.inputs ≡ Some (shelf place)) q.2 e)
      where
        fetched : (d : D) → HeldAt s.job o.task o.from d → name ≡ s.job.name d → FetchedFrom s.job o d (s.at place) → Lacks name (s.at place)
        fetched d k n g =
            record {
              what = d;
              named = sym n;
              not_before = had_here d (s.at place) (least_has s.job is.laws (o.had d) (s.at place) g.0);
              reason =
                  inl (k, g);
            }

        from : (d : D) → HeldAt s.job o.task o.from d → name ≡ s.job.name d
            → ((list_any (nat_eq o.worker) (o.had d) ≡ true) ⊎ (list_any (nat_eq o.worker) (o.had d) ≡ false))
            → worker_for s.job o.worker (o.had d) ≡ Some (s.at place) → Lacks name (s.at place)
        from d k n (inl t) g =
            let a : Some o.worker ≡ Some (s.at place) = sym (ap (λ c. cond c (Some o.worker) (least s.job (o.had d))) t) ∙ g in
            let c : o.worker ≡ s.at place = cc in
            absurd (other c)
        from d k n (inr t) g = fetched d k n (sym (ap (λ c. cond c (Some o.worker) (least s.job (o.had d))) t) ∙ g, t)

        at : (d : D) → HeldAt s.job o.task o.from d → name ≡ s.job.name d → (u : Option ℕ) → worker_for s.job o.worker (o.had d) ≡ u
            → FetchedAt s d u (Some (shelf place)) → Lacks name (s.at place)
        at d k n None g c = cc
        at d k n (Some w) g c =
            let a : place ≡ c.0 = cc in
            from d k n (bool_cases (list_any (nat_eq o.worker) (o.had d))) (g ∙ ap (λ z. Some z) (sym c.2 ∙ ap s.at (sym a)))

        turn : (d : D) → HeldAt s.job o.task o.from d → name ≡ s.job.name d → spot_of (s.job.name d) x.inputs ≡ Some (shelf place)
            → Lacks name (s.at place)
        turn d k n g = pick (s.job.task_of d) (subst (BroughtFor s o d (s.job.task_of d)) g (order.inputs d k))
          where
            pick : (t : Option (Task D)) → BroughtFor s o d t (Some (shelf place)) → Lacks name (s.at place)
            pick None c = let bad : Some (shelf place) ≡ Some (Spot.input c.1) = c.4 in cc
            pick (Some u) c = at d k n (worker_for s.job o.worker (o.had d)) refl c

    stack_lacks : (name : Digest) (place : P) → x.stack ≡ Some place → name ≡ own_name s.digest s.at b.main x.out.task → Lacks name (s.at place)
    stack_lacks name place e n =
        let w : o.stack ≡ Some (s.at place) = sym order.stack ∙ ap (option_map s.at) e in
        record {
          what = lawful.own_name s.job o.task;
          named = sym (n ∙ (ap (own_name s.digest s.at b.main) order.out.task ∙ own_is o.task));
          not_before = stack_here (s.at place) w;
          reason = inr (refl, w);
        }

    pub missed_follows : b.stopped ≡ false → (name : Digest) (loss : ℕ) → MissingFits s.digest s.at b x name loss → MissedAs s h b x.out name loss
    missed_follows going name loss fits = turn (pick fits.given)
      where
        pick : ((spot_of name x.inputs ≡ Some (shelf fits.place))
            ⊎ ((x.stack ≡ Some fits.place) × (name ≡ own_name s.digest s.at b.main x.out.task))) → Lacks name (s.at fits.place)
        pick (inl e) = object_lacks name fits.place e (not_own (s.at fits.place) fits.lost)
        pick (inr e) = stack_lacks name fits.place e.0 e.1

        number : k ≡ x.out.number
        number = found_number k b.orders x.out is_out

        turn : Lacks name (s.at fits.place) → MissedAs s h b x.out name loss
        turn l =
            let now = after_missed s.job is.laws v k l.what loss o is_open in
            let stays : Follows s (h ++ missed k l.what loss ∷ []) (missed_at s.digest b x.out name loss) =
            goes_on s is h b sound f (missed k l.what loss) (missed_at s.digest b x.out name loss) refl
            (ap (λ n. b.journal ++ Entry.Missed n name loss ∷ []) (sym number)
            ∙ ap (λ n. b.journal ++ Entry.Missed k n loss ∷ []) (sym l.named)) (record {
              going = f.stands.going going;
              allowed = (
                o,
                is_open,
                record {
                  worker = s.at fits.place;
                  planned = fits.planned;
                  since =
                      subst (λ gs. list_any (nat_eq (s.at fits.place)) gs ≡ true) f.stands.gone fits.lost;
                  not_before = l.not_before;
                  reason =
                      l.reason;
                },
              );
              room = subst (λ (u : Standing D). length u.book ≤ b.plan.limit) (sym now) (book_room s is h b sound f);
              apart = subst (λ (u : Standing D). NoClash s.job u.book) (sym now) (apart s is h b sound f);
            }) (subst (λ u. StandsFor s u (missed_at s.digest b x.out name loss)) (sym now) (record {
              keys = f.stands.keys;
              main = f.stands.main;
              rows = f.stands.rows;
              waits = f.stands.waits;
              orders = subst (λ n. OneByOne (OutIs s) (filter (λ (q : OpenStart D). not (nat_eq k q.number)) v.orders) (without n b.orders))
                  number (filtered (OutIs s) (λ (q : OpenStart D). not (nat_eq k q.number)) (λ (y : OrderOut). not (nat_eq k y.number))
                  (λ q y e. ap (λ n. not (nat_eq k n)) (sym e.number)) v.orders b.orders f.stands.orders);
              gone = f.stands.gone;
              starts = f.stands.starts;
              closes = ap (λ n. n + 1) f.stands.closes;
              going = f.stands.going;
            })) in
            record {
              what = l.what;
              is = l.named;
              follows =
                  subst (λ n. Follows s (h ++ missed n l.what loss ∷ []) (missed_at s.digest b x.out name loss)) number stays;
            }
