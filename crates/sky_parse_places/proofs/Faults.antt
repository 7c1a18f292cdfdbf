-- The faults of a job are at tokens of its script, or nowhere.
use Rattle.std.proofs.Common.{◌≡◌, ◌≤◌, ◌+◌, ℕ, List, Some, length, inl, inr, refl, sym, ap, subst, arith}
use Rattle.sky_base.specs.Res.{Object}
use Rattle.sky_base.specs.See.{Answered, Around, Desc, Job, Means, see}
use Rattle.sky_base.specs.Tree.{Place}
use Rattle.sky_base.specs.declared.fault.Fault.{Fault}
use Rattle.sky_base_law.proofs.TaskOutputs.{each_in, in_each}
use Rattle.sky_text.specs.declared.token.Token.{Token}
use Rattle.sky_parse_grammar.specs.Grammar.{place}
use Rattle.sky_parse.specs.Source.{IsScript}
use Rattle.sky_parse_places.specs.Laws.{IsAt, IsPlace}
use Rattle.sky_parse_places.specs.Placed.{Placed}
use Rattle.sky_parse_places.proofs.Seen.{meant_placed, seen_placed}
use Rattle.sky_parse_places.proofs.Tokens.{tokens_within}
use Rattle.sky_parse_places.proofs.Trees.{script_placed}

module _ (source : List ℕ) (keys : List (List ℕ)) (job : Job) (around : Around) (is : IsScript source keys job.script) where
  placed : Placed (IsPlace source) job.script
  placed =
      let (ts, tops, found, valid, same) = is in
      subst (Placed (IsPlace source)) (sym same)
      (script_placed (IsPlace source) keys tops ts valid.0.0 valid.0.1
      (each_in (λ t. IsPlace source (place t)) ts (λ t i. inr (ts, found, t, i, refl))))

  pub seen_at : (n : ℕ) (d : Desc) (f : Fault) → see job around n d ≡ Some (Object.fault f) → IsAt source f
  seen_at n d f e = seen_placed job around (IsPlace source) (inl refl) placed n d f e

  pub meant_at : (f : Fault) → Means job around (Answered.fault f) → IsAt source f
  meant_at f m = meant_placed job around (IsPlace source) (inl refl) placed f m

pub place_within : (source : List ℕ) (p : Place) → IsPlace source p → (p.line ≤ length source + 1) × (p.col ≤ length source + 1)
place_within source p (inl e) =
    let line : p.line ≡ 0 = ap (λ (q : Place). q.line) e in
    let col : p.col ≡ 0 = ap (λ (q : Place). q.col) e in
    (omega (arith, line), omega (arith, col))
place_within source p (inr (ts, found, t, i, e)) =
    let within = in_each (λ (t : Token). (t.line ≤ length source + 1) × (t.col ≤ length source + 1)) ts t (tokens_within source ts found) i in
    subst (λ (q : Place). (q.line ≤ length source + 1) × (q.col ≤ length source + 1)) (sym e) within
