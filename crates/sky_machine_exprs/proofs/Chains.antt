-- A part of a chain is begun.
use Rattle.std.proofs.Common.{◌≡◌, ◌≢◌, ◌<◌, ◌≤◌, ◌+◌, ℕ, List, [], ◌∷◌, length, Bool, true, false, Option, refl, sym, ◌∙◌, subst, arith}
use Rattle.sky_base.specs.Val.{Val, null, truth, num, text, list, dict, fun, ref}
use Rattle.sky_base.specs.Tree.{Place, Oper, Exp, Links, Ands, nodes}
use Rattle.sky_base.specs.TreeView.{ands_view}
use Rattle.sky_base.specs.declared.tree.Join.{Join}
use Rattle.sky_base.specs.Kept.{Kept}
use Rattle.sky_base.specs.Res.{chain_more, logic_at, then_do, gives, answer, visit}
use Rattle.sky_base.specs.Eval.{World, eval, eval_links, eval_ands, decide, truth_of, joins, after, body_at}
use Rattle.sky_base_law.specs.Opened.{Node, HasExp, HasLinks}
use Rattle.sky_base_scope.specs.Plain.{Vars}
use Rattle.sky_machine_code.specs.Shapes.{stops_at}
use Rattle.sky_machine_entries.specs.Config.{Run}
use Rattle.sky_machine_code.proofs.Bodies.{nodes_pos}

module _ (w : World (List ℕ)) (d d' : ℕ) (same : d' ≡ d) where
  pub link_begun : (n k m next : ℕ) (o : Oper) (p : Place) (v : Val (List ℕ)) (e : Exp) (ls xs : Links) (st : Vars) → next ≡ m + nodes e → xs
      ≡ Links.link o p e ls → then_do (eval w (body_at w d') e m st) (chain_more n k next o p v ls)
      (after w (body_at w d) (chain_more n k next o p v ls)) ≡ eval_links w (body_at w d) xs n k m v st
  link_begun n k m next o p v e ls xs st f g = rw (same, f, g) refl

pub links_none : (w : World (List ℕ)) (d n k m : ℕ) (v : Val (List ℕ)) (xs : Links) (st : Vars) → xs ≡ Links.no_links → gives v st
    ≡ eval_links w (body_at w d) xs n k m v st
links_none w d n k m v xs st g = rw g refl

module _ (at : ℕ → Option Node) where
  pub link_ready : (k m next : ℕ) (o : Oper) (p : Place) (v : Val (List ℕ)) (e : Exp) (ls xs : Links) → xs ≡ Links.link o p e ls
      → HasLinks at xs m → next ≡ m + nodes e → k ≤ m → Kept v → (k < next) × HasLinks at ls next × Kept v
  link_ready k m next o p v e ls xs g h f le kept =
      let hs = subst (λ (ys : Links). HasLinks at ys m) g h in (omega (arith, nodes_pos e), subst (HasLinks at ls) (sym f) hs.1, kept)

  pub link_has : (m : ℕ) (o : Oper) (p : Place) (e : Exp) (ls xs : Links) → xs ≡ Links.link o p e ls → HasLinks at xs m → HasExp at e m
  link_has m o p e ls xs g h = (subst (λ (ys : Links). HasLinks at ys m) g h).0

-- ---- truth values of a chain

pub joins_stop : (b stop : Bool) (v : Val (List ℕ)) (p : Place) (st : Vars) (k : Vars → Run) → v ≡ truth b → b ≡ stop
    → joins (stops_at stop) v p st k ≡ gives (truth stop) st
joins_stop true true v p st k e s = rw e refl
joins_stop false false v p st k e s = rw e refl
joins_stop true false v p st k e s = absurd cc
joins_stop false true v p st k e s = absurd cc

pub joins_on : (b stop : Bool) (v : Val (List ℕ)) (p : Place) (st : Vars) (k : Vars → Run) → v ≡ truth b → b ≢ stop
    → joins (stops_at stop) v p st k ≡ k st
joins_on true false v p st k e s = rw e refl
joins_on false true v p st k e s = rw e refl
joins_on true true v p st k e s = absurd (s refl)
joins_on false false v p st k e s = absurd (s refl)

-- what `decide` does with a truth value that is given as it is
pub truth_decides : (v : Val (List ℕ)) (p : Place) (st : Vars) → decide v p st (gives (truth true)) (gives (truth false))
    ≡ answer (truth_of v) p st gives
truth_decides (truth true) p st = refl
truth_decides (truth false) p st = refl
truth_decides null p st = refl
truth_decides (num z) p st = refl
truth_decides (text t) p st = refl
truth_decides (list vs) p st = refl
truth_decides (dict ps) p st = refl
truth_decides (fun f c) p st = refl
truth_decides (ref d) p st = refl

pub ands_none : (xs : List Join) → length xs ≡ 0 → ands_view xs ≡ Ands.no_ands
ands_none [] e = refl
ands_none (x ∷ xs) e = absurd (omega arith)

-- the next operand of a chain whose value so far doesn't decide it
pub and_next : (w : World (List ℕ)) (d d' : ℕ) (n k m next : ℕ) (stop b : Bool) (q p : Place) (v : Val (List ℕ)) (e : Exp) (ls xs : Ands)
    (st st' : Vars) → d' ≡ d → next ≡ m + nodes e → xs ≡ Ands.and p e ls → v ≡ truth b → b ≢ stop → ((K : Vars → Run) → visit p st K ≡ K st')
    → then_do (eval w (body_at w d') e m st') (logic_at n k next (stops_at stop) p ls)
    (after w (body_at w d) (logic_at n k next (stops_at stop) p ls)) ≡ eval_ands w (body_at w d) xs n k m (stops_at stop) q v st
and_next w d d' n k m next stop b q p v e ls xs st st' same f g t differ visited =
    begun ∙ sym (joins_on b stop v p st' on t differ) ∙ sym (visited (λ s. joins (stops_at stop) v p s on)) ∙ whole
  where
    on : Vars → Run
    on = λ z. then_do (eval w (body_at w d) e m z) (logic_at n k (m + nodes e) (stops_at stop) p ls)
        (after w (body_at w d) (logic_at n k (m + nodes e) (stops_at stop) p ls))

    begun : then_do (eval w (body_at w d') e m st') (logic_at n k next (stops_at stop) p ls)
        (after w (body_at w d) (logic_at n k next (stops_at stop) p ls)) ≡ on st'
    begun = rw (same, f) refl

    whole : visit p st (λ s. joins (stops_at stop) v p s on) ≡ eval_ands w (body_at w d) xs n k m (stops_at stop) q v st
    whole = rw g refl
