-- A report whose record tells the end of a task in the model: what lies at its places is the model's, and its names and marks are.
use Rattle.std.proofs.Common.{◌≡◌, ℕ, zero, suc, List, [], ◌∷◌, length, map, Some, None, Option, inl, inr, refl, ap, sym, ◌∙◌, subst}
use Rattle.std.specs.BTreeMap.{BTreeMap}
use Rattle.std.specs.Option.{option_map}
use Rattle.sha1.specs.Sha1.{sha1}
use Rattle.sky_base.specs.Eval.{outputs}
use Rattle.sky_base.specs.KitView.{Gives}
use Rattle.sky_base.specs.Name.{digested, low}
use Rattle.sky_base.specs.ObjectView.{object_view}
use Rattle.sky_base.specs.Res as res
use Rattle.sky_base.specs.See as s
use Rattle.sky_base.specs.Tree.{Script}
use Rattle.sky_base.specs.Val.{Val, call, input, known, out}
use Rattle.sky_base.specs.View.{view}
use Rattle.sky_base.specs.declared.object.Desc1.{Desc1}
use Rattle.sky_base.specs.declared.object.Object.{Object}
use Rattle.sky_base_law.specs.NamesLaws.{no_name}
use Rattle.ciel_journal.specs.Entries.{low_made}
use Rattle.ciel_journal.specs.History.{Event, OpenStart, Standing, before_all, find_open, names_of, standing}
use Rattle.ciel_journal.specs.Job.{Digest, Each, In, IsJob, Job, ObjectOf, Task, of, show}
use Rattle.ciel_journal.specs.Lawful.{Copied, Marked, NoClash}
use Rattle.ciel_journal.proofs.Members.{each_of}
use Rattle.ciel_journal.proofs.Numbers.{found_in}
use Rattle.ciel_journal.proofs.Shelved.{Shelved, fetched_in, shelved_all, shelved_start}
use Rattle.ciel_journal.proofs.Unique.{object_unique}
use Rattle.ciel_journal_job.specs.Real.{mark_if}
use Rattle.ciel_json.specs.Around.{json_around}
use Rattle.ciel_log.specs.Logs.{IsObjectOf}
use Rattle.ciel_log_follows.specs.Keeping.{KeepsObjects}
use Rattle.ciel_log_objects.specs.Objects.{IsCopyOf}
use Rattle.ciel_log_fits.specs.Known.{AfterSeen}
use Rattle.ciel_master_board.specs.Board.{Board}
use Rattle.ciel_master_board.specs.Follows as follows
use Rattle.ciel_master_board.specs.Follows.{Follows, OneByOne}
use Rattle.ciel_master_board.specs.Laws.{CopyLies, OutputLies}
use Rattle.ciel_master_board.specs.Reports.{copy_names, made_keys}
use Rattle.ciel_master_board.specs.Setting.{HasObject, IsSetting, Setting}
use Rattle.ciel_master_law.specs.Ends.{IsOrderly}
use Rattle.ciel_master_law.proofs.ShopLaws.{shop_is}
use Rattle.ciel_master_safe.specs.Reports.{names_from, outputs_of}
use Rattle.ciel_name.specs.Object.{object_bytes}
use Rattle.ciel_store.specs.Seen.{ShelvesSeen}
use Rattle.ciel_task_order.specs.Named.{frozen_mark, mark_of, name_of, object_by_names}
use Rattle.ciel_task_order.specs.Orders.{names_in}
use Rattle.ciel_task_order.specs.Performs.{the_shop}
use Rattle.ciel_task_order.specs.Shop as shop
use Rattle.ciel_task_order.specs.Shop.{block_view}
use Rattle.ciel_task_order.specs.Views.{P, copies_view, copy_at, output_view}
use Rattle.ciel_task_order.specs.declared.block.Held.{Held}
use Rattle.ciel_task_order.specs.declared.report.Made.{Made}

heads : {A : Type 0} {x y : A} {xs ys : List A} → x ∷ xs ≡ y ∷ ys → x ≡ y
heads e = cc

tails : {A : Type 0} {x y : A} {xs ys : List A} → x ∷ xs ≡ y ∷ ys → xs ≡ ys
tails e = cc

-- what was made is the outputs
pub marked_names : {D : Type 0} (job : Job D) (ds : List D) (made : List (D × Digest)) → Marked job ds made → names_of made ≡ ds
marked_names job [] [] k = refl
marked_names job [] (m ∷ ms) k = absurd k
marked_names job (d ∷ ds) [] k = absurd k
marked_names job (d ∷ ds) (m ∷ ms) k = ap (λ e. e ∷ names_of ms) k.0 ∙ ap (λ es. d ∷ es) (marked_names job ds ms k.2)

-- copies have the names of what was copied
pub copied_names : (shelves : ShelvesSeen) (worker : ℕ) (sc : Script) (then : AfterSeen P) (kept : BTreeMap Digest Object) (hs : List Held)
    → Each (IsCopyOf shelves worker sc then kept) hs → copy_names (copies_view hs) ≡ names_in hs
copied_names shelves worker sc then kept [] k = refl
copied_names shelves worker sc then kept (c ∷ hs) k =
    ap (λ z. copy_names (copy_at c.name z (copies_view hs))) k.0.1
    ∙ ap (λ z. c.name ∷ z) (copied_names shelves worker sc then kept hs k.1)

-- ---- the names of outputs

module _ (digest : List ℕ → List ℕ) (job : s.Job) (gives : Gives) (orderly : IsOrderly digest job gives) where
  abbrev S : Setting s.Desc P shop.Block
  S = the_shop digest job gives

  is : IsSetting S
  is = shop_is digest job gives orderly

  same_out : (x y : List ℕ) (a b : Val (List ℕ)) (k m i j : ℕ) → out x a k i ≡ out y b m j → (x ≡ y) × (a ≡ b) × (k ≡ m)
  same_out x y a b k m i j e =
      let p : x ≡ y = cc in
      let q : a ≡ b = cc in
      let r : k ≡ m = cc in (p, q, r)

  outs_named : (x : List ℕ) (v : s.Val) (m j c : ℕ)
      → names_from digest x (low no_name (digested digest) v) m j c ≡ map S.job.name (outputs x v m j c)
  outs_named x v m j zero = refl
  outs_named x v m j (suc c) =
      ap (λ z. z ∷ names_from digest x (low no_name (digested digest) v) m (suc j) c) (is.exact.own (out x v m j))
      ∙ ap (λ zs. S.job.name (out x v m j) ∷ zs) (outs_named x v m (suc j) c)

  -- as many outputs as the task has, with the names that its order gives them, have the names of its outputs
  pub names_are : (t : Task s.Desc) (e : Option Desc1) → follows.GoesBy S t e → (ms : List Made)
      → map (λ (m : Made). m.name) ms ≡ outputs_of digest e → length ms ≡ length (S.job.outputs t)
      → map (λ (m : Made). m.name) ms ≡ map S.job.name (S.job.outputs t)
  names_are show None g ms n l = n
  names_are show (Some e) g ms n l = absurd g
  names_are (of d) None g ms n l = absurd g
  names_are (of (call f c vs)) (Some (Desc1.Call h k ws)) g ms n l =
      n ∙ ap (λ z. z ∷ []) (ap (digested digest) g ∙ is.exact.own (call f c vs))
  names_are (of (call f c vs)) (Some (Desc1.Exec y a m i)) g ms n l = cc
  names_are (of (call f c vs)) (Some (Desc1.Input y)) g ms n l = cc
  names_are (of (out x v m zero)) (Some (Desc1.Call h k ws)) g ms n l = cc
  names_are (of (out x v m zero)) (Some (Desc1.Exec y a k i)) g ms n l =
      let same = same_out y x (view a) (low no_name (digested digest) v) k m i 0 g in
      n ∙ (ap (λ z. names_from digest z (view a) k 0 k) same.0 ∙ (ap (λ z. names_from digest x z k 0 k) same.1
      ∙ (ap (λ z. names_from digest x (low no_name (digested digest) v) z 0 z) same.2 ∙ outs_named x v m 0 m)))
  names_are (of (out x v m zero)) (Some (Desc1.Input y)) g ms n l = cc
  names_are (of (out x v m (suc i))) (Some e) g [] n l = refl
  names_are (of (out x v m (suc i))) (Some e) g (y ∷ ys) n l = cc
  names_are (of (input y)) (Some (Desc1.Call h k ws)) g ms n l = cc
  names_are (of (input y)) (Some (Desc1.Exec z a k i)) g ms n l = cc
  names_are (of (input y)) (Some (Desc1.Input z)) g ms n l = n
  names_are (of (known z)) (Some e) g ms n l = absurd z

module _ (digest : List ℕ → List ℕ) (job : s.Job) (gives : Gives) (orderly : IsOrderly digest job gives) (h : List (Event s.Desc)) (b : Board P)
    (f : Follows (the_shop digest job gives) h b) (k : ℕ) (o : OpenStart s.Desc)
    (found : find_open (the_shop digest job gives).job k (standing (the_shop digest job gives).job h).orders ≡ Some o) where
  abbrev S_ : Setting s.Desc P shop.Block
  S_ = the_shop digest job gives

  abbrev v : Standing s.Desc
  v = standing S_.job h

  laws : IsJob S_.job
  laws = (shop_is digest job gives orderly).laws

  abbrev Object_ : s.Desc → res.Object (List ℕ) → Type 0
  Object_ = IsObjectOf digest job gives

  shelved : Shelved S_.job laws v
  shelved = shelved_all S_.job laws b.plan (before_all S_.job) h (shelved_start S_.job laws) f.lawful

  there : In o v.orders
  there = (found_in S_.job laws k v.orders o found).0

  -- an output is in the book, and what is fetched
  pub booked : (d : s.Desc) → In d (S_.job.outputs o.task) → In d v.book
  booked d i =
      each_of (λ e. In e v.book) d (S_.job.outputs o.task) i
      (each_of (λ (q : OpenStart s.Desc). Each (λ e. In e v.book) (S_.job.outputs q.task)) o v.orders there shelved.outputs)

  copied_booked : (d : s.Desc) → Copied S_.job o d → In d v.book
  copied_booked d c = fetched_in S_.job laws v shelved o there d c.1.0 c.1.1

  module _ (one : NoClash S_.job v.book) where
    -- ---- what lies at places

    has_object : (p : P) (d : s.Desc) (x : res.Object (List ℕ)) → Object_ d x → block_view p.at.value ≡ shop.Block.object x → HasObject S_ p d
    has_object p d x q e = (
      q.0,
      ap (option_map (λ y. shop.Block.object (object_by_names digest y))) q.2
          ∙ (ap (λ y. Some (shop.Block.object y)) (sym q.3) ∙ ap (λ y. Some y) (sym e)),
    )

    pub outputs_lie : (made : List (s.Desc × Digest)) (xs : List (res.Object (List ℕ))) (ms : List Made) → ((d : s.Desc) → In d (names_of made)
        → In d (S_.job.outputs o.task)) → OneByOne Object_ (names_of made) xs → map (λ (m : Made). m.name) ms ≡ map S_.job.name (names_of made)
        → map (λ (m : Made). block_view m.place.at.value) ms ≡ map shop.Block.object xs → Each (OutputLies S_ o) (map output_view ms)
    outputs_lie [] [] [] i a n q = tt
    outputs_lie [] [] (m ∷ ms) i a n q = cc
    outputs_lie [] (x ∷ xs) ms i a n q = absurd a
    outputs_lie (d ∷ made) [] ms i a n q = absurd a
    outputs_lie (d ∷ made) (x ∷ xs) [] i a n q = cc
    outputs_lie (d ∷ made) (x ∷ xs) (m ∷ ms) i a n q =
        let name : m.name ≡ S_.job.name d.0 = heads n in
        let block : block_view m.place.at.value ≡ shop.Block.object x = heads q in (
          λ c j e. subst (HasObject S_ m.place) (one d.0 c (booked d.0 (i d.0 (inl refl))) (booked c j) (sym name ∙ e))
              (has_object m.place d.0 x a.0 block),
          outputs_lie made xs ms (λ c j. i c (inr j)) a.1 (tails n) (tails q),
        )

    pub copies_lie : (shelves : ShelvesSeen) (worker : ℕ) (sc : Script) (then : AfterSeen P) (kept : BTreeMap Digest Object)
        → KeepsObjects digest job gives h kept → (hs : List Held) → Each (IsCopyOf shelves worker sc then kept) hs
        → Each (CopyLies S_ o) (copies_view hs)
    copies_lie shelves worker sc then kept holds [] q = tt
    copies_lie shelves worker sc then kept holds (c ∷ hs) q =
        let x = q.0 in
        let known = holds c.name x.2 x.3 in
        subst (λ z. Each (CopyLies S_ o) (copy_at c.name z (copies_view hs))) (sym x.1) (
          λ d w e. subst (HasObject S_ x.0) (one known.0 d known.1 (copied_booked d w) (sym known.2 ∙ e))
              (has_object x.0 known.0 (object_view x.2) known.3 x.5.block),
          copies_lie shelves worker sc then kept holds hs q.1,
        )

  -- ---- marks

  mark_seen : (d : s.Desc) (n : ℕ) (y : s.Obj) → s.see job (json_around gives) n d ≡ Some y → S_.job.object n d ≡ Some (mark_of digest y)
  mark_seen d n y e = ap (mark_if job (json_around gives) (name_of digest) (mark_of digest) (frozen_mark digest)) e

  pub keys_are : (made : List (s.Desc × Digest)) (ds : List s.Desc) (xs : List (res.Object (List ℕ))) (ms : List Made) → Marked S_.job ds made
      → OneByOne Object_ (names_of made) xs → map (λ (m : Made). m.name) ms ≡ map S_.job.name (names_of made)
      → map (λ (m : Made). m.mark) ms ≡ map (λ x. sha1 (object_bytes x)) xs → made_keys (map output_view ms) ≡ low_made S_.job made
  keys_are [] ds [] [] q a n e = refl
  keys_are [] ds [] (m ∷ ms) q a n e = cc
  keys_are [] ds (x ∷ xs) ms q a n e = absurd a
  keys_are (d ∷ made) ds [] ms q a n e = absurd a
  keys_are (d ∷ made) ds (x ∷ xs) [] q a n e = cc
  keys_are (d ∷ made) [] (x ∷ xs) (m ∷ ms) q a n e = absurd q
  keys_are (d ∷ made) (c ∷ ds) (x ∷ xs) (m ∷ ms) q a n e =
      let name : m.name ≡ S_.job.name d.0 = heads n in
      let mark : m.mark ≡ sha1 (object_bytes x) = heads e in
      let seen : ObjectOf S_.job d.0 (mark_of digest a.0.1) = (a.0.0, mark_seen d.0 a.0.0 a.0.1 a.0.2) in
      let marked : ObjectOf S_.job d.0 d.1 = subst (λ z. ObjectOf S_.job z d.1) (sym q.0) q.1 in
      let same : mark_of digest a.0.1 ≡ d.1 = object_unique S_.job laws d.0 (mark_of digest a.0.1) d.1 seen marked in
      let mark_is : m.mark ≡ d.1 = mark ∙ (ap (λ z. sha1 (object_bytes z)) a.0.3 ∙ same) in
      ap (λ z. (z, m.mark) ∷ made_keys (map output_view ms)) name
      ∙ (ap (λ z. (S_.job.name d.0, z) ∷ made_keys (map output_view ms)) mark_is
      ∙ ap (λ zs. (S_.job.name d.0, d.1) ∷ zs) (keys_are made ds xs ms q.2 a.1 (tails n) (tails e)))
