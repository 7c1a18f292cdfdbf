-- What a table by names learns is what the book does, where no two descriptions share a name.
use Rattle.std.proofs.Common.{◌≡◌, List, [], ◌∷◌, ◌++◌, true, false, cond, inl, inr, refl, ap, sym, ◌∙◌, subst, map, ◌⊎◌}
use Rattle.std.proofs.lemmas.List.{map-append}
use Rattle.std.specs.List.{list_any}
use Rattle.ciel_journal.specs.Job.{Digest, Job, In, IsJob}
use Rattle.ciel_journal.specs.History.{learned}
use Rattle.ciel_journal.specs.Known.{Inner}
use Rattle.ciel_journal.specs.Lawful.{NoClash}
use Rattle.ciel_journal.proofs.Members.{any_in, bool_cases, in_any}
use Rattle.ciel_journal.proofs.Numbers.{in_last, in_left, last_in}
use Rattle.ciel_journal_job.specs.Report.{Exact, IsNew, Learns}
use Rattle.ciel_journal_job.proofs.CleanLists.{in_map, map_in}

module _ {B : Type 0} (named : B → Digest) where
  abbrev pub Apart : List B → Type 0
  Apart rows = (a b : B) → In a rows → In b rows → named a ≡ named b → a ≡ b

  apart_more : (rows : List B) (b : B) → Apart rows → IsNew named rows b → Apart (rows ++ b ∷ [])
  apart_more rows b a new x y i j n = pick (in_last x rows b i) (in_last y rows b j)
    where
      pick : (In x rows ⊎ (x ≡ b)) → (In y rows ⊎ (y ≡ b)) → x ≡ y
      pick (inl p) (inl q) = a x y p q n
      pick (inl p) (inr q) = absurd (new x p (n ∙ ap named q))
      pick (inr p) (inl q) = absurd (new y q (sym n ∙ ap named p))
      pick (inr p) (inr q) = p ∙ sym q

  pub learns_apart : (rows bs new : List B) → Apart rows → Learns named rows bs new → Apart new
  learns_apart rows [] new a l = subst Apart (sym l) a
  learns_apart rows (b ∷ bs) new a (inl l) = learns_apart rows bs new a l.1
  learns_apart rows (b ∷ bs) new a (inr l) = learns_apart (rows ++ b ∷ []) bs new (apart_more rows b a l.0) l.1

  pub learns_keeps : (rows bs new : List B) → Learns named rows bs new → (c : B) → In c rows → In c new
  learns_keeps rows [] new l c i = subst (In c) (sym l) i
  learns_keeps rows (b ∷ bs) new (inl l) c i = learns_keeps rows bs new l.1 c i
  learns_keeps rows (b ∷ bs) new (inr l) c i = learns_keeps (rows ++ b ∷ []) bs new l.1 c (in_left c rows (b ∷ []) i)

  pub learns_has : (rows bs new : List B) → Learns named rows bs new → (c : B) → In c bs → In c new
  learns_has rows [] new l c i = absurd i
  learns_has rows (b ∷ bs) new (inl l) c (inl e) = learns_keeps rows bs new l.1 c (subst (λ z. In z rows) (sym e) l.0)
  learns_has rows (b ∷ bs) new (inl l) c (inr i) = learns_has rows bs new l.1 c i
  learns_has rows (b ∷ bs) new (inr l) c (inl e) =
      learns_keeps (rows ++ b ∷ []) bs new l.1 c (subst (λ z. In z (rows ++ b ∷ [])) (sym e) (last_in rows b))
  learns_has rows (b ∷ bs) new (inr l) c (inr i) = learns_has (rows ++ b ∷ []) bs new l.1 c i

module _ {D B : Type 0} (job : Job D) (laws : IsJob job) (inner : Inner D) (lower : D → B) (named : B → Digest)
    (exact : Exact job inner lower named) where
  pub book_apart_named : (L : List D) → NoClash job L → Apart named (map lower L)
  book_apart_named L clear a b i j n =
      let x = map_in lower a L i in
      let y = map_in lower b L j in
      sym x.2 ∙ (ap lower (clear x.0 y.0 x.1 y.1 (sym (exact.own x.0) ∙ (ap named x.2 ∙ (n ∙ (sym (ap named y.2) ∙ exact.own y.0))))) ∙ y.2)

  pub learned_rows : (C : List D) → NoClash job C → (L ds : List D) (rows : List B) → ((d : D) → In d L → In d C) → ((d : D) → In d ds → In d C)
      → Learns named (map lower L) (map lower ds) rows → rows ≡ map lower (learned job L ds)
  learned_rows C clear L [] rows here there l = l
  learned_rows C clear L (d ∷ ds) rows here there (inl l) =
      let x = map_in lower (lower d) L l.0 in
      let s : x.0 ≡ d = clear x.0 d (here x.0 x.1) (there d (inl refl)) (sym (exact.own x.0) ∙ (ap named x.2 ∙ exact.own d)) in
      let known : list_any (job.same d) L ≡ true = in_any job.same laws.same_refl d L (subst (λ z. In z L) s x.1) in
      learned_rows C clear L ds rows here (λ e i. there e (inr i)) l.1 ∙ ap (λ b. map lower (learned job (cond b L (L ++ d ∷ [])) ds)) (sym known)
  learned_rows C clear L (d ∷ ds) rows here there (inr l) =
      go (bool_cases (list_any (job.same d) L)) (learned_rows C clear (L ++ d ∷ []) ds rows more (λ e i. there e (inr i))
      (subst (λ z. Learns named z (map lower ds) rows) (sym (map-append lower L (d ∷ []))) l.1))
    where
      more : (e : D) → In e (L ++ d ∷ []) → In e C
      more e i = pick (in_last e L d i)
        where
          pick : (In e L ⊎ (e ≡ d)) → In e C
          pick (inl j) = here e j
          pick (inr s) = subst (λ z. In z C) (sym s) (there d (inl refl))

      go : ((list_any (job.same d) L ≡ true) ⊎ (list_any (job.same d) L ≡ false)) → rows ≡ map lower (learned job (L ++ d ∷ []) ds) → rows
          ≡ map lower (learned job L (d ∷ ds))
      go (inl k) r = absurd (l.0 (lower d) (in_map lower d L (any_in job.same laws.same_exact d L k)) refl)
      go (inr k) r = r ∙ ap (λ b. map lower (learned job (cond b L (L ++ d ∷ [])) ds)) (sym k)
