-- What the book of a history has, by names, once what an event spawned is learned.
use Rattle.std.proofs.Common.{◌≡◌, ℕ, suc, List, [], ◌∷◌, Bool, true, false, cond, ◌||◌, is_some, Option, Some, None, map, ◌⊎◌, inl, inr}
use Rattle.std.proofs.Common.{refl, sym, ap, ◌∙◌, subst}
use Rattle.std.specs.Option.{option_map}
use Rattle.sky_base.specs.KitView.{Gives}
use Rattle.sky_base.specs.Name.{digested}
use Rattle.sky_base.specs.See as s
use Rattle.sky_base.specs.Val.{Desc, same_text}
use Rattle.sky_base.specs.declared.object.Named.{Named}
use Rattle.sky_base.proofs.Exact.{self_text}
use Rattle.ciel_journal.specs.History.{Event, Standing, standing}
use Rattle.ciel_journal.specs.Job.{Each, In, Job}
use Rattle.ciel_journal.proofs.Members.{each_of, or_true}
use Rattle.ciel_master_board.specs.Board.{Board}
use Rattle.ciel_master_board.specs.Driving.{Runs}
use Rattle.ciel_master_board.specs.Follows.{RowIs}
use Rattle.ciel_master_board.specs.Reports.{IsNamed, learned_all, named_view}
use Rattle.ciel_master_board.specs.Setting.{IsSetting, Setting}
use Rattle.ciel_master_board.specs.Sound.{RowSound, Sound}
use Rattle.ciel_master_board.proofs.Pairs.{all_each, partner}
use Rattle.ciel_master_board.proofs.TableLookups.{Titled, row_title}
use Rattle.ciel_master_law.specs.Ends.{IsOrderly, worker_of}
use Rattle.ciel_master_law.proofs.ShopLaws.{shop_is}
use Rattle.ciel_table.specs.Named.{place_of}
use Rattle.ciel_table.specs.Seen.{Known, find, row_name}
use Rattle.ciel_table.specs.declared.row.Row.{Row}
use Rattle.ciel_task_order.specs.Performs.{the_shop}
use Rattle.ciel_task_order.specs.Shop.{Block}
use Rattle.ciel_task_order.specs.Views.{P}
use Rattle.ciel_log_fits.specs.Known.{is_named}
use Rattle.ciel_log_fits.proofs.Learned.{known_is}

-- a row has the name that one of them has
has_place : (n : List ℕ) (rs : List (Row P)) (r : Row P) → In r rs → r.name ≡ n → is_some (place_of (row_name {P = P}) n rs) ≡ true
has_place n [] r i e = absurd i
has_place n (x ∷ xs) r (inl q) e =
    let same : same_text n x.name ≡ true = subst (λ m. same_text n m ≡ true) (sym e ∙ ap (λ (z : Row P). z.name) q) (self_text n) in
    ap (λ c. is_some (cond c (Some 0) (option_map suc (place_of (row_name {P = P}) n xs)))) same
has_place n (x ∷ xs) r (inr j) e = turn (same_text n x.name) (place_of (row_name {P = P}) n xs) (has_place n xs r j e)
  where
    turn : (c : Bool) (o : Option ℕ) → is_some o ≡ true → is_some (cond c (Some 0) (option_map suc o)) ≡ true
    turn true o h = refl
    turn false None h = cc
    turn false (Some k) h = refl

or_first : (b c : Bool) → b ≡ true → b || c ≡ true
or_first b c e = ap (λ x. x || c) e

module _ (digest : List ℕ → List ℕ) (job : s.Job) (gives : Gives) (orderly : IsOrderly digest job gives) where
  abbrev pub S : Setting s.Desc P Block
  S = the_shop digest job gives

  abbrev pub J : Job s.Desc
  J = S.job

  pub is : IsSetting S
  is = shop_is digest job gives orderly

  -- these are the descriptions, each with its name
  pub record Tells (ns : List Named) (ds : List s.Desc) : Type 0 where
    pub views : map named_view ns ≡ map S.lower ds
    pub named : Each (IsNamed digest) ns

  is_there : (ns : List Named) (ds : List s.Desc) → map named_view ns ≡ map S.lower ds → Each (IsNamed digest) ns → (d : s.Desc) → In d ds
      → is_named (J.name d) ns ≡ true
  is_there ns [] e k d i = absurd i
  is_there [] (x ∷ xs) e k d i = cc
  is_there (n ∷ ns) (x ∷ xs) e k d (inl same) =
      let view : named_view n ≡ S.lower x = cc in
      let name : n.name ≡ J.name d = k.0.name ∙ (ap (digested digest) view ∙ (is.exact.own x ∙ ap J.name (sym same))) in
      or_first (same_text (J.name d) n.name) (is_named (J.name d) ns)
      (subst (λ m. same_text (J.name d) m ≡ true) (sym name) (self_text (J.name d)))
  is_there (n ∷ ns) (x ∷ xs) e k d (inr j) =
      let rest : map named_view ns ≡ map S.lower xs = cc in
      or_true (same_text (J.name d) n.name) (is_named (J.name d) ns) (is_there ns xs rest k.1 d j)

  module _ (h : List (Event s.Desc)) (b : Board P) (runs : Runs S h b) (sound : Sound digest worker_of b) where
    abbrev pub v : Standing s.Desc
    v = standing J h

    titled : (r : Row P) → In r b.table.rows → Titled S is r
    titled r i = (each_of (RowSound digest b.table) r b.table.rows i (all_each (RowSound digest b.table) b.table.rows sound.rows)).name

    -- what the book has has a row
    pub book_found : (d : s.Desc) → In d v.book → is_some (find (J.name d) b.table) ≡ true
    book_found d i =
        let q = partner (RowIs S v.places) v.book b.table.rows runs.follows.stands.rows d i in
        has_place (J.name d) b.table.rows q.0 q.1 (row_title S is v.places d q.0 q.2 (titled q.0 q.1))

    -- and so has what was spawned, once it is learned
    pub all_found : (ns : List Named) (ds : List s.Desc) → Tells ns ds → (d : s.Desc) → (In d v.book ⊎ In d ds)
        → Known (learned_all digest ns b.table) (J.name d)
    all_found ns ds t d (inl i) = known_is digest (J.name d) ns b.table ∙ or_first (is_some (find (J.name d) b.table)) (is_named (J.name d) ns) (book_found d i)
    all_found ns ds t d (inr i) =
        known_is digest (J.name d) ns b.table
        ∙ or_true (is_some (find (J.name d) b.table)) (is_named (J.name d) ns) (is_there ns ds t.views t.named d i)
