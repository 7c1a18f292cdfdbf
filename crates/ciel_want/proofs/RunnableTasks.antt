-- Which of the reached tasks can run.
use Rattle.std.proofs.Common.{◌≡◌, ℕ, List, [], ◌∷◌, Bool, true, false, ◌&&◌, ◌==◌, not, length, refl, ap, sym, ◌∙◌, subst, ◌⊎◌, inl, inr, arith}
use Rattle.std.proofs.Common.{eqb-true, Option, Some, None, IfSome, IfNone}
use Rattle.std.specs.List.{AllByRecursion}
use Rattle.sky_base.specs.declared.object.TaskId.{TaskId}
use Rattle.ciel_journal.specs.Graph.{Led, Runnable}
use Rattle.ciel_journal.specs.Job.{Each, In}
use Rattle.ciel_want.specs.Search.{Among}
use Rattle.ciel_journal.proofs.Members.{each_of}
use Rattle.ciel_table.specs.Seen.{TableSeen, Known, is_live}
use Rattle.ciel_table.proofs.Lists.{bool_cases}
use Rattle.ciel_want.specs.Board.{blockers_of, can_run_test, is_none}
use Rattle.ciel_want.specs.Waited.{Whole, graph, is_in, needs}
use Rattle.ciel_want.proofs.WaitedRows.{all_in, among_here, blocker_of, blockers_from, blockers_has, blocks_known, blocks_of, dead_of, needs_known}

pub if_some_more : {A : Type 0} (P Q : A → Type 0) → ((x : A) → P x → Q x) → (o : Option A) → IfSome o P → IfSome o Q
if_some_more P Q f None h = tt
if_some_more P Q f (Some x) h = f x h

pub if_some_all : {A : Type 0} (Q : A → Type 0) → ((x : A) → Q x) → (o : Option A) → IfSome o Q
if_some_all Q f None = tt
if_some_all Q f (Some x) = f x

pub if_none_more : {A : Type 0} {P Q : Type 0} → (P → Q) → (o : Option A) → IfNone o P → IfNone o Q
if_none_more f None h = f h
if_none_more f (Some x) h = tt

-- one of a list that isn't empty
pub some_of : {A : Type 0} (P : A → Type 0) (xs : List A) → (length xs ≡ 0 → ⊥) → AllByRecursion P xs → (x : A) × P x
some_of P [] e a = absurd (e refl)
some_of P (x ∷ xs) e a = (x, a.0)

pub none_of : {A : Type 0} (xs : List A) → length xs ≡ 0 → xs ≡ []
none_of [] e = refl
none_of (x ∷ xs) e = absurd (omega (arith, e))

pub none_is : (xs : List ℕ) → (length xs == 0) ≡ is_none xs
none_is [] = refl
none_is (x ∷ xs) = turn (bool_cases (length (x ∷ xs) == 0))
  where
    turn : ((length (x ∷ xs) == 0) ≡ true) ⊎ ((length (x ∷ xs) == 0) ≡ false) → (length (x ∷ xs) == 0) ≡ false
    turn (inl t) = absurd (let e = eqb-true (length (x ∷ xs)) 0 t in omega (arith, e))
    turn (inr f) = f

none_among : (e : ℕ) (es : List ℕ) → is_none es ≡ true → Among e es → ⊥
none_among e [] h a = cc
none_among e (x ∷ xs) h a = cc

and_parts : (a b : Bool) → a && b ≡ true → (a ≡ true) × (b ≡ true)
and_parts true b h = (refl, h)
and_parts false b h = cc

not_true : (b : Bool) → not b ≡ true → b ≡ false
not_true true e = cc
not_true false e = refl

module _ {P : Type 0} (main : List ℕ) (t : TableSeen P) (whole : Whole main t) (out : List TaskId) where
  pub test_runs : (task : TaskId) → Led (graph main t out) task → can_run_test main t out task ≡ true → Runnable (graph main t out) task
  test_runs task l h =
      let p = and_parts (not (is_in out task)) (is_none (blockers_of t (needs main t task))) h in
      record { reached = l; not_out = not_true (is_in out task) p.0; met = all (needs main t task) (λ n i. live n i p.1) }
    where
      live : (n : List ℕ) → In n (needs main t task) → is_none (blockers_of t (needs main t task)) ≡ true → is_live n t ≡ true
      live n i k = turn (bool_cases (is_live n t))
        where
          turn : ((is_live n t ≡ true) ⊎ (is_live n t ≡ false)) → is_live n t ≡ true
          turn (inl y) = y
          turn (inr d) =
              let b = blocks_known t main whole n (all_in (Known t) (needs main t task) n (needs_known t main whole out task l) i) d in
              absurd (none_among b.0 (blockers_of t (needs main t task)) k (blockers_has t (needs main t task) n b.0 i (blocker_of t n b.0 b.1)))

      all : (ns : List (List ℕ)) → ((n : List ℕ) → In n ns → is_live n t ≡ true) → Each (λ d. is_live d t ≡ true) ns
      all [] f = tt
      all (n ∷ ns) f = (f n (inl refl), all ns (λ m i. f m (inr i)))

  pub runs_test : (task : TaskId) → Runnable (graph main t out) task → can_run_test main t out task ≡ true
  runs_test task r = both (is_in out task) r.not_out (blockers_of t (needs main t task)) refl
    where
      empty : (es : List ℕ) → blockers_of t (needs main t task) ≡ es → is_none es ≡ true
      empty [] e = refl
      empty (x ∷ xs) e =
          let q = blockers_from t (needs main t task) x (subst (Among x) (sym e) (among_here x xs)) in
          let d = dead_of t q.0 x (blocks_of t q.0 x q.2) in
          let l = each_of (λ n. is_live n t ≡ true) q.0 (needs main t task) q.1 r.met in
          let c : true ≡ false = sym l ∙ d in
          cc

      both : (b : Bool) → b ≡ false → (es : List ℕ) → blockers_of t (needs main t task) ≡ es → not b
          && is_none (blockers_of t (needs main t task)) ≡ true
      both true e es q = cc
      both false e es q = ap is_none q ∙ empty es q
