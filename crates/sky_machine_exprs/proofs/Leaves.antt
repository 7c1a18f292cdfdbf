-- Literals and names, gone through at once.
use Rattle.std.proofs.Common.{◌≡◌, ◌<◌, ◌≤◌, ◌+◌, ℕ, List, refl, ap, ◌∙◌, arith}
use Rattle.sky_base.specs.Val.{Val, Vals}
use Rattle.sky_base.specs.Tree.{Place, Oper, Exp, Links, nodes}
use Rattle.sky_base.specs.Res.{visits, Fin, chain_more, then_do, on_got, visit, answer}
use Rattle.sky_base.specs.Eval.{World, oper, eval, eval_links}
use Rattle.sky_base.specs.declared.value.Value.{Value}
use Rattle.sky_base_scope.specs.Plain.{Pairs, Vars}
use Rattle.sky_machine_entries.specs.Config.{Run}
use Rattle.sky_machine_entries.specs.Entries.{end_of}
use Rattle.sky_machine_entries.specs.Falls.{GoesIn}
use Rattle.sky_machine_entries.specs.declared.control.End.{End}
use Rattle.sky_machine_entries.specs.declared.control.Control.{Control}
use Rattle.sky_machine_entries.specs.declared.entry.Entry as rust
use Rattle.sky_machine_exprs.specs.declared.ahead.Ahead.{Ahead}
use Rattle.sky_machine_exprs.specs.Ahead.{HasVisited}
use Rattle.sky_machine_exprs.specs.AtOnce.{Visited}

-- an end that is no value ends the form too
pub not_got : (k : Val (List ℕ) → Vars → Run) (e : End) (st : Vars) → ((v : Value) → e ≡ End.Got v → ⊥) → on_got k (end_of e) st ≡ Fin (end_of e) st
not_got k End.Goes st other = refl
not_got k (End.Got v) st other = absurd (other v refl)
not_got k (End.Returned v) st other = refl
not_got k (End.Failed f) st other = refl

module _ (w : World (List ℕ)) (body : List ℕ → Pairs → Vals (List ℕ) → Place → Vars → Run) where
  abbrev link_on : Oper → Place → Exp → Links → (n k m : ℕ) → Val (List ℕ) → Val (List ℕ) → Vars → Run
  link_on o p e ls n k m v x s =
      visit p s (λ t. answer (oper o v x) p t (λ y u. eval_links w body ls n (k + 1) (m + nodes e) y u))

  pub link_else : (o : Oper) (p : Place) (e : Exp) (ls : Links) (n k m : ℕ) (v : Val (List ℕ)) (x : End) (st t : Vars) → eval w body e m st
      ≡ Fin (end_of x) t → ((u : Value) → x ≡ End.Got u → ⊥) → eval_links w body (Links.link o p e ls) n k m v st ≡ Fin (end_of x) t
  link_else o p e ls n k m v x st t is other =
      ap (λ r. then_do r (chain_more n k (m + nodes e) o p v ls) (on_got (link_on o p e ls n k m v))) is
      ∙ not_got (link_on o p e ls n k m v) x t other

-- ---- visits

pub end_visited : (n old new : ℕ) (es : List rust.Entry) (e : End) → GoesIn n old es new es (Control.End e) → Visited old new e
end_visited n old new es End.Goes h = omega (arith, h.0, h.2)
end_visited n old new es (End.Got v) h = omega (arith, h.0, h.2)
end_visited n old new es (End.Returned v) h = omega (arith, h.0, h.2)
end_visited n old new es (End.Failed f) h = h.0

pub visited : (old new : ℕ) (e : End) → old < new → Visited old new e
visited old new End.Goes h = h
visited old new (End.Got v) h = h
visited old new (End.Returned v) h = h
visited old new (End.Failed f) h = omega arith

pub has_visited : (old new : ℕ) (a : Ahead) → old < new → HasVisited old new a
has_visited old new (Ahead.Ended e) h = visited old new e h
has_visited old new (Ahead.Stands c) h = h

-- an end after what was visited
pub end_in : (n old new : ℕ) (es : List rust.Entry) (e : End) → Visited old new e → new ≤ visits → GoesIn n old es new es (Control.End e)
end_in n old new es End.Goes h top = (omega arith, top, omega arith, omega arith)
end_in n old new es (End.Got v) h top = (omega arith, top, omega arith, omega arith)
end_in n old new es (End.Returned v) h top = (omega arith, top, omega arith, omega arith)
end_in n old new es (End.Failed f) h top = (h, top, omega arith, omega arith)
