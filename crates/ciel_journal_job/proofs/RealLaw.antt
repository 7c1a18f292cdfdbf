-- The real job has the laws of a job.
use Rattle.sky_base.specs.Val as v
use Rattle.sky_base_law.specs.Tasks as t
use Rattle.sky_base.specs.See as s
use Rattle.sky_base.specs.Read as r
use Rattle.sky_base.specs.Needed as n
use Rattle.sky_base_law.proofs.TaskFuel as fuel
use Rattle.sky_base_law.proofs.TaskOutputs as outs
use Rattle.sky_base_law.proofs.SeenLaw as seen
use Rattle.std.proofs.Common.{◌≡◌, ◌≢◌, ℕ, zero, suc, ◌+◌, ◌≤◌, ◌<◌, List, [], ◌∷◌, ◌++◌, Bool, true, false, Option, Some, None, slice_get, inl, inr}
use Rattle.std.proofs.Common.{refl, ap, sym, ◌∙◌, subst, arith, nat_lt, ltb-true, lt-ltb}
use Rattle.ciel_journal.specs.Job.{Digest, Task, show, of, Held, Job, In, Each, IsJob, waits_in}
use Rattle.ciel_journal_job.specs.Real.{back, forth, forth_if, act_of, acts_of, held_if, at_of, mark_if, real_job, rank, ranks, pair_ranks, desc_rank}

pub in_to : {A : Type 0} (d : A) (xs : List A) → t.In d xs → In d xs
in_to d [] i = absurd i
in_to d (x ∷ xs) (inl s) = inl s
in_to d (x ∷ xs) (inr i) = inr (in_to d xs i)

pub in_from : {A : Type 0} (d : A) (xs : List A) → In d xs → t.In d xs
in_from d [] i = absurd i
in_from d (x ∷ xs) (inl s) = inl s
in_from d (x ∷ xs) (inr i) = inr (in_from d xs i)

pub back_forth : (u : n.Task) → back (forth u) ≡ u
back_forth n.Task.show = refl
back_forth (n.Task.of d) = refl

pub made_of : (d : s.Desc) (u : Task s.Desc) → forth_if (t.maker d) ≡ Some u → t.maker d ≡ Some (back u)
made_of d u h = pick (t.maker d) refl h
  where
    pick : (o : Option n.Task) → t.maker d ≡ o → forth_if o ≡ Some u → t.maker d ≡ Some (back u)
    pick None e k = cc
    pick (Some w) e k = let q : forth w ≡ u = cc in e ∙ ap Some (sym (back_forth w) ∙ ap back q)

pub of_made : (d : s.Desc) (u : Task s.Desc) → t.maker d ≡ Some (back u) → forth_if (t.maker d) ≡ Some u
of_made d show h = ap forth_if h
of_made d (of x) h = ap forth_if h

pub waits_are : (es : List (r.Act ⊥)) → waits_in (acts_of es) ≡ t.waits_in es
waits_are [] = refl
waits_are (r.made d ∷ es) = waits_are es
waits_are (r.waited ds ∷ es) = ap (λ xs. ds ∷ xs) (waits_are es)

acts_join : (xs ys : List (r.Act ⊥)) → acts_of (xs ++ ys) ≡ acts_of xs ++ acts_of ys
acts_join [] ys = refl
acts_join (x ∷ xs) ys = ap (λ zs. act_of x ∷ zs) (acts_join xs ys)

pick_in : (xs ys : List s.Desc) (d : s.Desc) (a b : ℕ) → (In d xs → desc_rank d ≤ a) → (In d ys → desc_rank d ≤ b) → In d (xs ++ ys)
    → desc_rank d ≤ a + b
pick_in [] ys d a b f g i = let l = g i in omega (arith, l)
pick_in (x ∷ xs) ys d a b f g (inl s) = let l = f (inl s) in omega (arith, l)
pick_in (x ∷ xs) ys d a b f g (inr i) = pick_in xs ys d a b (λ j. f (inr j)) g i

-- what stands in a value is no deeper than it
mutual
  rank_in : (x : v.Val ⊥) (d : s.Desc) → In d (v.refs x) → desc_rank d ≤ rank x
  rank_in v.null d i = absurd i
  rank_in (v.truth b) d i = absurd i
  rank_in (v.num z) d i = absurd i
  rank_in (v.text t) d i = absurd i
  rank_in (v.list vs) d i = ranks_in vs d i
  rank_in (v.dict ps) d i = pair_ranks_in ps d i
  rank_in (v.fun f c) d i = pair_ranks_in c d i
  rank_in (v.ref e) d (inl s) = let q = ap desc_rank s in omega (arith, q)
  rank_in (v.ref e) d (inr i) = absurd i

  ranks_in : (vs : v.Vals ⊥) (d : s.Desc) → In d (v.vals_refs vs) → desc_rank d ≤ ranks vs
  ranks_in v.no_vals d i = absurd i
  ranks_in (v.val x vs) d i = pick_in (v.refs x) (v.vals_refs vs) d (rank x) (ranks vs) (rank_in x d) (ranks_in vs d) i

  pair_ranks_in : (ps : v.Pairs ⊥) (d : s.Desc) → In d (v.pairs_refs ps) → desc_rank d ≤ pair_ranks ps
  pair_ranks_in v.no_pairs d i = absurd i
  pair_ranks_in (v.pair k x ps) d i = pick_in (v.refs x) (v.pairs_refs ps) d (rank x) (pair_ranks ps) (rank_in x d) (pair_ranks_in ps d) i

module _ (job : s.Job) (around : s.Around) (name : s.Desc → Digest) (mark : s.Obj → Digest) (frozen : n.State → Digest) where
  abbrev the : Job s.Desc
  the = real_job job around name mark frozen

  abbrev marked : Option s.Obj → Option Digest
  marked o = mark_if job around name mark frozen o

  mark_seen : (o : Option s.Obj) → o ≢ None → marked o ≢ None
  mark_seen None h e = h refl
  mark_seen (Some x) h e = cc

  seen_mark : (o : Option s.Obj) → marked o ≢ None → o ≢ None
  seen_mark None h e = h refl
  seen_mark (Some x) h e = cc

  marks_each : (k : ℕ) (ds : List s.Desc) → t.Each (λ d. s.see job around k d ≢ None) ds → Each (λ d. the.object k d ≢ None) ds
  marks_each k [] h = tt
  marks_each k (d ∷ ds) h = (mark_seen (s.see job around k d) h.0, marks_each k ds h.1)

  own : (d e : s.Desc) → t.maker e ≡ Some (n.Task.of d) → t.maker d ≡ Some (n.Task.of d)
  own d (v.call f c vs) h = let q : v.call f c vs ≡ d = cc in subst (λ x. t.maker x ≡ Some (n.Task.of x)) q refl
  own d (v.out x a m i) h = pick (nat_lt i m) refl h
    where
      pick : (b : Bool) → nat_lt i m ≡ b → n.only_if b (Some (n.Task.of (v.out x a m 0))) ≡ Some (n.Task.of d) → t.maker d ≡ Some (n.Task.of d)
      pick true e k =
          let q : v.out x a m 0 ≡ d = cc in
          let l = ltb-true i m e in
          subst (λ z. t.maker z ≡ Some (n.Task.of z)) q (ap (λ c. n.only_if c (Some (n.Task.of (v.out x a m 0)))) (lt-ltb 0 m (omega (arith, l))))
      pick false e k = cc
  own d (v.input k) h = cc
  own d (v.known b) h = absurd b

  smaller : (d e : s.Desc) (u : n.Task) → t.maker d ≡ Some u → In e (t.first_of u) → (u ≡ n.Task.show → ⊥) → desc_rank e < desc_rank d
  smaller d e n.Task.show h i nr = absurd (nr refl)
  smaller d e (n.Task.of (v.call f c vs)) h i nr = absurd i
  smaller d e (n.Task.of (v.out x a m j)) h i nr = go d h
    where
      below : desc_rank e ≤ rank a
      below = rank_in a e (in_to e (v.refs a) (outs.distinct_refs_in a e (in_from e (n.distinct_refs a) i)))

      out_go : (y : List ℕ) (b : v.Val ⊥) (k l : ℕ) (c : Bool) → n.only_if c (Some (n.Task.of (v.out y b k 0)))
          ≡ Some (n.Task.of (v.out x a m j)) → desc_rank e < suc (rank b)
      out_go y b k l true g = let q : a ≡ b = cc in let w = ap rank q in let z = below in omega (arith, w, z)
      out_go y b k l false g = cc

      go : (d : s.Desc) → t.maker d ≡ Some (n.Task.of (v.out x a m j)) → desc_rank e < desc_rank d
      go (v.call f c vs) g = cc
      go (v.out y b k l) g = out_go y b k l (nat_lt l k) g
      go (v.input k) g = cc
      go (v.known b) g = absurd b
  smaller d e (n.Task.of (v.input k)) h i nr = absurd i
  smaller d e (n.Task.of (v.known b)) h i nr = absurd b

  pub real_laws : IsJob the
  real_laws =
      record {
        same_refl = outs.same_refl;
        same_exact = outs.same_exact;
        first_show = refl;
        outputs_show = refl;
        made_by = λ d u h. in_to d (t.outputs_of (back u)) (outs.made_by d (back u) (made_of d u h));
        makes = λ d u i. of_made d u (outs.makes d (back u) (in_from d (t.outputs_of (back u)) i));
        own = λ d e h. of_made d (of d) (own d e (made_of e (of d) h));
        size = desc_rank;
        first_smaller = λ d e u h i nr. smaller d e (back u) (made_of d u h) i (λ z. nr (shown u z));
        more = λ k u. let p = fuel.more job around k (back u) in
            (acts_of p.0, sym (acts_join (t.acts_of job around k (back u)) p.0) ∙ ap acts_of (sym p.1));
        kept = λ k u h. let p = fuel.kept job around k (back u) h in (ap acts_of p.0, p.1);
        held_kept = λ k u j a h. at_more (back u) k j a h;
        object_kept = λ k d m h. object_more (s.see job around k d) (s.see job around (suc k) d) m (seen.see_kept job around k d) h;
        first_seen = λ k u h. marks_each k (t.first_of (back u)) (fuel.first_seen job around k (back u) h);
        later_seen = λ k u j ds h g. marks_each k ds
            (fuel.later_seen job around k (back u) j ds h (ap (λ xs. slice_get xs j) (sym (waits_are (t.acts_of job around k (back u)))) ∙ g));
        unseen = λ d u h. ap marked (fuel.unseen job around d);
        seen = λ k d u h ne. fuel.seen job around k d (back u) (made_of d u h) (seen_mark (s.see job around (suc k) d) ne);
      }
    where
      shown : (u : Task s.Desc) → back u ≡ n.Task.show → u ≡ show
      shown show z = refl
      shown (of d) z = cc

      held_more : (x y : Option n.State) (a : Held s.Desc) → seen.Kept None x y → held_if job around name mark frozen x ≡ Some a
          → held_if job around name mark frozen y ≡ Some a
      held_more x y a (inl e) h = let bad : None ≡ Some a = sym (ap (held_if job around name mark frozen) e) ∙ h in cc
      held_more x y a (inr e) h = ap (held_if job around name mark frozen) (sym e) ∙ h

      at_more : (u : n.Task) (k j : ℕ) (a : Held s.Desc) → at_of job around name mark frozen k u j ≡ Some a
          → at_of job around name mark frozen (suc k) u j ≡ Some a
      at_more n.Task.show k j a h =
          held_more (n.stands_at job around k n.Task.show j) (n.stands_at job around (suc k) n.Task.show j) a
          (seen.stands_kept job around n.Task.show j k) h
      at_more (n.Task.of (v.call f c vs)) k j a h =
          held_more (n.stands_at job around k (n.Task.of (v.call f c vs)) j) (n.stands_at job around (suc k) (n.Task.of (v.call f c vs)) j) a
          (seen.stands_kept job around (n.Task.of (v.call f c vs)) j k) h
      at_more (n.Task.of (v.out x b m i)) k zero a h = h
      at_more (n.Task.of (v.out x b m i)) k (suc j) a h = h
      at_more (n.Task.of (v.input y)) k j a h = h
      at_more (n.Task.of (v.known b)) k j a h = absurd b

      object_more : (x y : Option s.Obj) (m : Digest) → seen.Kept None x y → marked x ≡ Some m → marked y ≡ Some m
      object_more x y m (inl e) h = let bad : None ≡ Some m = sym (ap marked e) ∙ h in cc
      object_more x y m (inr e) h = ap marked (sym e) ∙ h
