-- Jobs with fixed lists have the laws of a job.
use Rattle.std.proofs.Common.{◌≡◌, ◌≢◌, ℕ, zero, suc, ◌≤◌, ◌<◌, List, [], ◌∷◌, length, length-append, Bool, true, false, cond, ◌&&◌, Option, Some}
use Rattle.std.proofs.Common.{None, slice_get, inl, inr, refl, ap, sym, ◌∙◌, subst, arith, nat_eq, nat_le, eqb-true, eq-eqb, leb-true, le-leb}
use Rattle.ciel_journal.specs.Job.{Task, show, of, Act, made, wait, Held, In, Each, IsPrefix, waits_in, IsJob}
use Rattle.ciel_journal.specs.Fixed.{Fixed, all_seen, until, passes, acts_by, ends_by, seen_by, seen_with, fixed_job, IsFixed, Piece, number}
use Rattle.ciel_journal.specs.Fixed.{piece_task, piece_outputs, piece_first, small_lists}
use Rattle.ciel_journal.specs.Fixed as f
use Rattle.ciel_journal.proofs.Circle.{waits_join}

and_parts : (b c : Bool) → b && c ≡ true → (b ≡ true) × (c ≡ true)
and_parts true c h = (refl, h)
and_parts false c h = cc

and_both : (b c : Bool) → b ≡ true → c ≡ true → b && c ≡ true
and_both b c h k = ap (λ x. x && c) h ∙ k

module _ {D : Type 0} (s r : D → Bool) (up : (d : D) → s d ≡ true → r d ≡ true) where
  all_more : (ds : List D) → all_seen s ds ≡ true → all_seen r ds ≡ true
  all_more [] h = refl
  all_more (d ∷ ds) h = let q = and_parts (s d) (all_seen s ds) h in and_both (r d) (all_seen r ds) (up d q.0) (all_more ds q.1)

  passes_more : (es : List (Act D)) → passes s es ≡ true → passes r es ≡ true
  passes_more [] h = refl
  passes_more (made d ∷ es) h = passes_more es h
  passes_more (wait ds ∷ es) h =
      let q = and_parts (all_seen s ds) (passes s es) h in and_both (all_seen r ds) (passes r es) (all_more ds q.0) (passes_more es q.1)

  until_more : (es : List (Act D)) → IsPrefix (until s es) (until r es)
  until_more [] = ([], refl)
  until_more (made d ∷ es) = let p = until_more es in (p.0, ap (λ xs. made d ∷ xs) p.1)
  until_more (wait ds ∷ es) = pick (all_seen s ds) refl (until_more es)
    where
      pick : (b : Bool) → all_seen s ds ≡ b → IsPrefix (until s es) (until r es)
          → IsPrefix (wait ds ∷ cond b (until s es) []) (wait ds ∷ cond (all_seen r ds) (until r es) [])
      pick true e p = (p.0, ap (λ xs. wait ds ∷ xs) (p.1 ∙ ap (λ b. cond b (until r es) []) (sym (all_more ds e))))
      pick false e p = (cond (all_seen r ds) (until r es) [], refl)

module _ {D : Type 0} (s : D → Bool) where
  -- where each wait is met, all is done
  until_all : (es : List (Act D)) → passes s es ≡ true → until s es ≡ es
  until_all [] h = refl
  until_all (made d ∷ es) h = ap (λ xs. made d ∷ xs) (until_all es h)
  until_all (wait ds ∷ es) h =
      let q = and_parts (all_seen s ds) (passes s es) h in
      ap (λ xs. wait ds ∷ xs) (ap (λ b. cond b (until s es) []) q.0 ∙ until_all es q.1)

  wait_seen : (es : List (Act D)) (j : ℕ) (ds : List D) → passes s es ≡ true → slice_get (waits_in es) j ≡ Some ds → all_seen s ds ≡ true
  wait_seen [] j ds h g = cc
  wait_seen (made d ∷ es) j ds h g = wait_seen es j ds h g
  wait_seen (wait xs ∷ es) zero ds h g =
      let e : xs ≡ ds = cc in subst (λ x. all_seen s x ≡ true) e (and_parts (all_seen s xs) (passes s es) h).0
  wait_seen (wait xs ∷ es) (suc j) ds h g = wait_seen es j ds (and_parts (all_seen s xs) (passes s es) h).1 g

module _ {D : Type 0} (f : Fixed D) (ok : IsFixed f) where
  ends_more : (s r : D → Bool) → ((d : D) → s d ≡ true → r d ≡ true) → (t : Task D) → ends_by f s t ≡ true → ends_by f r t ≡ true
  ends_more s r up t h =
      let q = and_parts (all_seen s (f.first t)) (passes s (f.script t)) h in
      and_both (all_seen r (f.first t)) (passes r (f.script t)) (all_more s r up (f.first t) q.0) (passes_more s r up (f.script t) q.1)

  seen_more : (n : ℕ) (d : D) → seen_with f n d ≡ true → seen_with f (suc n) d ≡ true
  seen_more zero d h = cc
  seen_more (suc n) d h = pick (f.task_of d) h (seen_more n)
    where
      pick : (o : Option (Task D)) → seen_by f (seen_with f n) o ≡ true → ((e : D) → seen_with f n e ≡ true → seen_with f (suc n) e ≡ true)
          → seen_by f (seen_with f (suc n)) o ≡ true
      pick None h up = refl
      pick (Some t) h up = ends_more (seen_with f n) (seen_with f (suc n)) up t h

  acts_more : (n : ℕ) (t : Task D) → IsPrefix (acts_by f (seen_with f n) t) (acts_by f (seen_with f (suc n)) t)
  acts_more n t = pick (all_seen (seen_with f n) (f.first t)) refl
    where
      pick : (b : Bool) → all_seen (seen_with f n) (f.first t) ≡ b
          → IsPrefix (cond b (until (seen_with f n) (f.script t)) []) (acts_by f (seen_with f (suc n)) t)
      pick true e =
          subst (λ b. IsPrefix (until (seen_with f n) (f.script t)) (cond b (until (seen_with f (suc n)) (f.script t)) []))
          (sym (all_more (seen_with f n) (seen_with f (suc n)) (seen_more n) (f.first t) e))
          (until_more (seen_with f n) (seen_with f (suc n)) (seen_more n) (f.script t))
      pick false e = (acts_by f (seen_with f (suc n)) t, refl)

  -- a task that has ended has done all
  acts_end : (s : D → Bool) (t : Task D) → ends_by f s t ≡ true → acts_by f s t ≡ f.script t
  acts_end s t h =
      let q = and_parts (all_seen s (f.first t)) (passes s (f.script t)) h in
      ap (λ b. cond b (until s (f.script t)) []) q.0 ∙ until_all s (f.script t) q.1

  cond_some : {A : Type 0} (b : Bool) (x y : A) → cond b (Some x) None ≡ Some y → b ≡ true
  cond_some true x y h = refl
  cond_some false x y h = cc

  cond_not : {A : Type 0} (b : Bool) (x : A) → cond b (Some x) None ≢ None → b ≡ true
  cond_not true x h = refl
  cond_not false x h = absurd (h refl)

  shown : {A : Type 0} (b : Bool) (x : A) → b ≡ true → cond b (Some x) None ≢ None
  shown b x e h = let k : Some x ≡ None = sym (ap (λ c. cond c (Some x) None) e) ∙ h in cc

  each_shown : (n : ℕ) (ds : List D) → all_seen (seen_with f n) ds ≡ true → Each (λ d. cond (seen_with f n d) (Some (f.object_mark d)) None ≢ None) ds
  each_shown n [] h = tt
  each_shown n (d ∷ ds) h =
      let q = and_parts (seen_with f n d) (all_seen (seen_with f n) ds) h in (shown (seen_with f n d) (f.object_mark d) q.0, each_shown n ds q.1)

  waits_more : (n : ℕ) (t : Task D) → length (waits_in (acts_by f (seen_with f n) t)) ≤ length (waits_in (acts_by f (seen_with f (suc n)) t))
  waits_more n t =
      let p = acts_more n t in
      let e = ap (λ xs. length (waits_in xs)) p.1 in
      let g = ap length (waits_join (acts_by f (seen_with f n) t) p.0) in
      let l = length-append (waits_in (acts_by f (seen_with f n) t)) (waits_in p.0) in
      omega (arith, e, g, l)

  held_more : (n : ℕ) (t : Task D) (j : ℕ) (a : Held D) → (fixed_job f).at n t j ≡ Some a → (fixed_job f).at (suc n) t j ≡ Some a
  held_more n t j a h =
      let x : Held D = record { names = f.holds t j; mark = f.state_mark t j } in
      let b = cond_some (nat_le j (length (waits_in (acts_by f (seen_with f n) t)))) x a h in
      let l = leb-true j (length (waits_in (acts_by f (seen_with f n) t))) b in
      let w = waits_more n t in
      let c : nat_le j (length (waits_in (acts_by f (seen_with f (suc n)) t))) ≡ true = le-leb j _ (omega (arith, l, w)) in
      ap (λ q. cond q (Some x) None) c ∙ (sym (ap (λ q. cond q (Some x) None) b) ∙ h)

  pub fixed_laws : IsJob (fixed_job f)
  fixed_laws =
      record {
        same_refl = ok.same_refl;
        same_exact = ok.same_exact;
        first_show = ok.first_show;
        outputs_show = ok.outputs_show;
        made_by = ok.made_by;
        makes = ok.makes;
        own = ok.own;
        size = ok.size;
        first_smaller = ok.first_smaller;
        more = acts_more;
        kept = λ n t h. let k = ends_more (seen_with f n) (seen_with f (suc n)) (seen_more n) t h in
            (acts_end (seen_with f (suc n)) t k ∙ sym (acts_end (seen_with f n) t h), k);
        held_kept = held_more;
        object_kept = λ n d m h. let b = cond_some (seen_with f n d) (f.object_mark d) m h in
            ap (λ c. cond c (Some (f.object_mark d)) None) (seen_more n d b) ∙ (sym (ap (λ c. cond c (Some (f.object_mark d)) None) b) ∙ h);
        first_seen = λ n t h. each_shown n (f.first t) (and_parts (all_seen (seen_with f n) (f.first t)) (passes (seen_with f n) (f.script t)) h).0;
        later_seen = λ n t j ds h g. each_shown n ds
            (wait_seen (seen_with f n) (f.script t) j ds
            (and_parts (all_seen (seen_with f n) (f.first t)) (passes (seen_with f n) (f.script t)) h).1
            (sym (ap (λ xs. slice_get (waits_in xs) j) (acts_end (seen_with f n) t h)) ∙ g));
        unseen = λ d t e. refl;
        seen = λ n d t e h. subst (λ o. seen_by f (seen_with f n) o ≡ true) e (cond_not (seen_with f (suc n) d) (f.object_mark d) h);
      }

-- ---- the small job

abbrev piece_of : ℕ → Option Piece
piece_of zero = Some f.main
piece_of (suc zero) = Some f.one
piece_of (suc (suc zero)) = Some f.two
piece_of (suc (suc (suc zero))) = Some f.left
piece_of (suc (suc (suc (suc zero)))) = Some f.right
piece_of (suc (suc (suc (suc (suc n))))) = Some f.text

piece_back : (d : Piece) → piece_of (number d) ≡ Some d
piece_back f.main = refl
piece_back f.one = refl
piece_back f.two = refl
piece_back f.left = refl
piece_back f.right = refl
piece_back f.text = refl

pub piece_exact : (d e : Piece) → nat_eq (number d) (number e) ≡ true → d ≡ e
piece_exact d e h =
    let k : Some d ≡ Some e = sym (piece_back d) ∙ (ap piece_of (eqb-true (number d) (number e) h) ∙ piece_back e) in cc

pub piece_made : (d : Piece) (t : Task Piece) → piece_task d ≡ Some t → In d (piece_outputs t)
piece_made f.main t h = let e : of f.main ≡ t = cc in subst (λ u. In f.main (piece_outputs u)) e (inl refl)
piece_made f.one t h = let e : of f.one ≡ t = cc in subst (λ u. In f.one (piece_outputs u)) e (inl refl)
piece_made f.two t h = let e : of f.two ≡ t = cc in subst (λ u. In f.two (piece_outputs u)) e (inl refl)
piece_made f.left t h = let e : of f.left ≡ t = cc in subst (λ u. In f.left (piece_outputs u)) e (inl refl)
piece_made f.right t h = let e : of f.left ≡ t = cc in subst (λ u. In f.right (piece_outputs u)) e (inr (inl refl))
piece_made f.text t h = cc

pub only : {A : Type 0} (P : A → Type 0) (d x : A) → In d (x ∷ []) → P x → P d
only P d x (inl s) h = subst P (sym s) h
only P d x (inr i) h = absurd i

pub piece_makes : (d : Piece) (t : Task Piece) → In d (piece_outputs t) → piece_task d ≡ Some t
piece_makes d show i = absurd i
piece_makes d (of f.main) i = only (λ x. piece_task x ≡ Some (of f.main)) d f.main i refl
piece_makes d (of f.one) i = only (λ x. piece_task x ≡ Some (of f.one)) d f.one i refl
piece_makes d (of f.two) i = only (λ x. piece_task x ≡ Some (of f.two)) d f.two i refl
piece_makes d (of f.left) (inl s) = subst (λ x. piece_task x ≡ Some (of f.left)) (sym s) refl
piece_makes d (of f.left) (inr i) = only (λ x. piece_task x ≡ Some (of f.left)) d f.right i refl
piece_makes d (of f.right) i = absurd i
piece_makes d (of f.text) i = absurd i

pub piece_own : (d e : Piece) → piece_task e ≡ Some (of d) → piece_task d ≡ Some (of d)
piece_own d f.main h = let s : f.main ≡ d = cc in subst (λ x. piece_task x ≡ Some (of x)) s refl
piece_own d f.one h = let s : f.one ≡ d = cc in subst (λ x. piece_task x ≡ Some (of x)) s refl
piece_own d f.two h = let s : f.two ≡ d = cc in subst (λ x. piece_task x ≡ Some (of x)) s refl
piece_own d f.left h = let s : f.left ≡ d = cc in subst (λ x. piece_task x ≡ Some (of x)) s refl
piece_own d f.right h = let s : f.left ≡ d = cc in subst (λ x. piece_task x ≡ Some (of x)) s refl
piece_own d f.text h = cc

abbrev pub piece_size : Piece → ℕ
piece_size f.main = 1
piece_size f.one = 1
piece_size f.two = 1
piece_size f.left = 1
piece_size f.right = 1
piece_size f.text = 0

pub piece_small : (d e : Piece) (t : Task Piece) → piece_task d ≡ Some t → In e (piece_first t) → (t ≡ show → ⊥) → piece_size e < piece_size d
piece_small d e show h i n = absurd (n refl)
piece_small d e (of f.main) h i n = absurd i
piece_small d e (of f.one) h i n = absurd i
piece_small d e (of f.two) h i n = absurd i
piece_small d e (of f.right) h i n = absurd i
piece_small d e (of f.text) h i n = absurd i
piece_small f.text e (of f.left) h i n = cc
piece_small f.main e (of f.left) h i n = only (λ x. piece_size x < 1) e f.text i (omega arith)
piece_small f.one e (of f.left) h i n = only (λ x. piece_size x < 1) e f.text i (omega arith)
piece_small f.two e (of f.left) h i n = only (λ x. piece_size x < 1) e f.text i (omega arith)
piece_small f.left e (of f.left) h i n = only (λ x. piece_size x < 1) e f.text i (omega arith)
piece_small f.right e (of f.left) h i n = only (λ x. piece_size x < 1) e f.text i (omega arith)

pub small_fixed : (reads : Bool) → IsFixed (small_lists reads)
small_fixed reads =
    record {
      same_refl = λ d. eq-eqb (number d) (number d) refl;
      same_exact = piece_exact;
      first_show = refl;
      outputs_show = refl;
      made_by = piece_made;
      makes = piece_makes;
      own = piece_own;
      size = piece_size;
      first_smaller = piece_small;
    }
