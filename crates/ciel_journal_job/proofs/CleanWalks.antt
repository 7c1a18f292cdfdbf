-- Along what a task makes: where the report has it and no two descriptions by names have one name, nothing clashes.
use Rattle.std.proofs.Common.{◌≡◌, List, [], ◌∷◌, ◌++◌, append_assoc, inl, inr, refl, ap, sym, ◌∙◌, subst, map}
use Rattle.std.proofs.lemmas.List.{append-nil}
use Rattle.ciel_journal.specs.Job.{Digest, Job, In, Each, IsJob}
use Rattle.ciel_journal.specs.Known.{Inner}
use Rattle.ciel_journal.proofs.Numbers.{in_left, last_in}
use Rattle.ciel_journal_job.specs.Report.{ClashAmong, Clear, Exact, Or, Tells}
use Rattle.ciel_journal_job.proofs.CleanLists.{Clean, Tabled, clean_more, tabled_more}

module _ {D B : Type 0} (job : Job D) (laws : IsJob job) (inner : Inner D) (lower : D → B) (named : B → Digest)
    (exact : Exact job inner lower named) where
  abbrev Clean' : List D → Type 0
  Clean' L = Clean job laws inner lower named exact L

  abbrev Tabled' : List B → List D → Type 0
  Tabled' T L = Tabled job laws inner lower named exact T L

  -- what stands inside each of these stands among L and those before it
  abbrev pub Inward : List D → List D → Type 0
  Inward L ds =
      (before after : List D) (d : D) → ds ≡ before ++ d ∷ after → Each (λ e. In e (L ++ before)) (inner.inside d)

  inward_first : (L ds : List D) (d : D) → Inward L (d ∷ ds) → Each (λ e. In e L) (inner.inside d)
  inward_first L ds d h = subst (λ z. Each (λ e. In e z) (inner.inside d)) (append-nil L) (h [] ds d refl)

  inward_rest : (L ds : List D) (d : D) → Inward L (d ∷ ds) → Inward (L ++ d ∷ []) ds
  inward_rest L ds d h before after x e =
      subst (λ z. Each (λ y. In y z) (inner.inside x)) (sym (append_assoc L (d ∷ []) before)) (h (d ∷ before) after x (ap (λ z. d ∷ z) e))

  -- what was met stands in L
  abbrev pub MetIn : (D → Type 0) → List D → Type 0
  MetIn met L = (d : D) → met d → In d L

  met_more : (met : D → Type 0) (L : List D) (d : D) → MetIn met L → MetIn (Or job inner lower met d) (L ++ d ∷ [])
  met_more met L d m e (inl s) = subst (λ z. In z (L ++ d ∷ [])) (sym s) (last_in L d)
  met_more met L d m e (inr k) = in_left e L (d ∷ []) (m e k)

  -- one that is known by names clashes with nothing
  no_clash : (T : List B) (met : D → Type 0) (L : List D) (d : D) → Clean' L → Tabled' T L → MetIn met L → Each (λ e. In e L) (inner.inside d)
      → In (lower d) T → ClashAmong job inner lower met d → ⊥
  no_clash T met L d clean tabled m whole there c =
      let next = clean_more job laws inner lower named exact T L d clean tabled whole there in
      c.3 (next.apart c.0 d (in_left c.0 L (d ∷ []) (m c.0 c.1)) (last_in L d) c.2)

  pub record Walked (met : D → Type 0) (L ds : List D) (bs : List B) : Type 0 where
    pub clear : Clear job inner lower met ds
    pub all : bs ≡ map lower ds
    pub clean : Clean' (L ++ ds)

  pub walk : (T : List B) (met : D → Type 0) (L ds : List D) (bs : List B) → Clean' L → Tabled' T L → Inward L ds → MetIn met L
      → ((b : B) → In b bs → In b T) → Tells job inner lower met ds bs → Walked met L ds bs
  walk T met L [] bs clean tabled inward m there t =
      record { clear = tt; all = t; clean = subst Clean' (sym (append-nil L)) clean }
  walk T met L (d ∷ ds) bs clean tabled inward m there t =
      let here : In (lower d) T = there (lower d) (subst (In (lower d)) (sym t.1) (inl refl)) in
      let whole = inward_first L ds d inward in
      let none = no_clash T met L d clean tabled m whole here in
      let w = walk T (Or job inner lower met d) (L ++ d ∷ []) ds t.0 (clean_more job laws inner lower named exact T L d clean tabled whole here)
      (tabled_more job laws inner lower named exact T L d tabled here) (inward_rest L ds d inward) (met_more met L d m)
      (λ b i. there b (subst (In b) (sym t.1) (inr i))) (t.2 none) in
      record {
        clear = (none, w.clear);
        all = t.1 ∙ ap (λ z. lower d ∷ z) w.all;
        clean = subst Clean' (append_assoc L (d ∷ []) ds) w.clean;
      }

  -- the first that isn't known by names is the next that is made
  pub record Stopped (L ds : List D) (before : List B) (given : B) : Type 0 where
    pub front : List D
    pub next : D
    pub back : List D
    pub split : ds ≡ front ++ next ∷ back
    pub told : before ≡ map lower front
    pub is : lower next ≡ given
    pub clean : Clean' (L ++ front)

  one_more : (L ds : List D) (d : D) (before : List B) (b given : B) → b ≡ lower d → Stopped (L ++ d ∷ []) ds before given
      → Stopped L (d ∷ ds) (b ∷ before) given
  one_more L ds d before b given f w =
      record {
        front = d ∷ w.front;
        next = w.next;
        back = w.back;
        split = ap (λ z. d ∷ z) w.split;
        told = ap (λ z. z ∷ before) f ∙ ap (λ z. lower d ∷ z) w.told;
        is = w.is;
        clean = subst Clean' (append_assoc L (d ∷ []) w.front) w.clean;
      }

  pub stops : (T : List B) (met : D → Type 0) (L ds : List D) (bs before after : List B) (given : B) → Clean' L → Tabled' T L → Inward L ds
      → MetIn met L → ((b : B) → In b before → In b T) → bs ≡ before ++ given ∷ after → Tells job inner lower met ds bs
      → Stopped L ds before given
  stops T met L [] bs [] after given clean tabled inward m there s t = let bad : [] ≡ given ∷ after = sym t ∙ s in cc
  stops T met L [] bs (b ∷ before) after given clean tabled inward m there s t =
      let bad : [] ≡ b ∷ (before ++ given ∷ after) = sym t ∙ s in cc
  stops T met L (d ∷ ds) bs [] after given clean tabled inward m there s t =
      let e : lower d ∷ t.0 ≡ given ∷ after = sym t.1 ∙ s in
      record { front = []; next = d; back = ds; split = refl; told = refl; is = cc; clean = subst Clean' (sym (append-nil L)) clean }
  stops T met L (d ∷ ds) bs (b ∷ before) after given clean tabled inward m there s t =
      let e : lower d ∷ t.0 ≡ b ∷ (before ++ given ∷ after) = sym t.1 ∙ s in
      let f : b ≡ lower d = cc in
      let g : t.0 ≡ before ++ given ∷ after = cc in
      let here : In (lower d) T = there (lower d) (inl (sym f)) in
      let whole = inward_first L ds d inward in
      let none = no_clash T met L d clean tabled m whole here in
      one_more L ds d before b given f (stops T (Or job inner lower met d) (L ++ d ∷ []) ds t.0 before after given
      (clean_more job laws inner lower named exact T L d clean tabled whole here)
      (tabled_more job laws inner lower named exact T L d tabled here) (inward_rest L ds d inward) (met_more met L d m)
      (λ x i. there x (inr i)) g (t.2 none))
