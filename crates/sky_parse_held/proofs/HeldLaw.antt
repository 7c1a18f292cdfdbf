-- What is held behind one part and then another is what is held behind both.
use Rattle.std.proofs.Common.{◌≡◌, ℕ, ◌+◌, List, [], ◌∷◌, ◌++◌, length, length-append, append_assoc, append-nil, add-zero, zero-add, add_assoc, arith}
use Rattle.std.proofs.Common.{Option, Some, None, refl, sym, ap, ◌∙◌}
use Rattle.sky_base.specs.Tree as run
use Rattle.sky_base.specs.Tree.{Place}
use Rattle.sky_parse_grammar.specs.Source.{Exp, Exps, Links, Ands, Steps, Stm, Stms, Arms}
use Rattle.sky_parse_grammar.specs.Lifted.{count, exps_count, links_count, ands_count, steps_count, stm_count, stms_count, arms_count, made, exps_made}
use Rattle.sky_parse_grammar.specs.Lifted.{links_made, ands_made, steps_made, stm_made, stms_made, arms_made}
use Rattle.sky_parse_grammar.specs.Names.{first_of}
use Rattle.sky_parse_grammar.proofs.LiftedLaw.{fun_names, numbered, names_length, numbered_length, in_order, exps_in_order, links_in_order, ands_in_order}
use Rattle.sky_parse_grammar.proofs.LiftedLaw.{steps_in_order, stm_in_order, stms_in_order, arms_in_order}
use Rattle.sky_parse_held.specs.Held.{Held, Part, after, nothing, both, named_first, seen_name, exp_part, exps_part, links_part, ands_part}
use Rattle.sky_parse_held.specs.Held.{steps_part, stm_part, stms_part, arms_part}

pub first_assoc : (a b c : Option Place) → first_of (first_of a b) c ≡ first_of a (first_of b c)
first_assoc (Some p) b c = refl
first_assoc None b c = refl

pub first_none : (a : Option Place) → first_of a None ≡ a
first_none (Some p) = refl
first_none None = refl

-- a part makes as many functions as it says
abbrev pub Sized : Part → Type 0
Sized p = (n : ℕ) → length (p.made n) ≡ p.count

after_both : (h : Held) (p q : Part) → Sized p → after (after h p) q ≡ after h (both p q)
after_both h p q s =
    let fs = h.funs in
    let a = p.made (length fs) in
    let n : length (fs ++ a) ≡ length fs + p.count = length-append fs a ∙ ap (λ m. length fs + m) (s (length fs)) in
    let funs : (fs ++ a) ++ q.made (length (fs ++ a)) ≡ fs ++ (a ++ q.made (length fs + p.count)) = ap (λ m. (fs ++ a) ++ q.made m) n
    ∙ append_assoc fs a (q.made (length fs + p.count)) in
    λ i. record { funs = funs i; names = append_assoc h.names p.names q.names i; same = first_assoc h.same p.same q.same i }

pub join : (a : Held) {b c : Held} (p q : Part) → Sized p → b ≡ after a p → c ≡ after b q → c ≡ after a (both p q)
join a p q s e f = f ∙ ap (λ h. after h q) e ∙ after_both a p q s

pub number : (a : Held) {b : Held} (p : Part) → Sized p → b ≡ after a p → length b.funs ≡ length a.funs + p.count
number a p s e = ap (λ (h : Held). length h.funs) e ∙ length-append a.funs (p.made (length a.funs)) ∙ ap (λ m. length a.funs + m) (s (length a.funs))

pub after_nothing : (h : Held) → h ≡ after h nothing
after_nothing h = sym (λ i. record { funs = append-nil h.funs i; names = append-nil h.names i; same = first_none h.same i })

pub both_nothing : (p : Part) → both p nothing ≡ p
both_nothing p = λ i. record {
  count = add-zero p.count i;
  made = λ n. append-nil (p.made n) i;
  names = append-nil p.names i;
  same =
      first_none p.same i;
}

pub after_name : (x : List ℕ) (h : Held) → seen_name x h ≡ after h (named_first x nothing)
after_name x h = λ i. record { funs = sym (append-nil h.funs) i; names = h.names ++ x ∷ []; same = sym (first_none h.same) i }

pub named_then : (a : Held) {b c : Held} (x : List ℕ) (p : Part) → b ≡ seen_name x a → c ≡ after b p → c ≡ after a (named_first x p)
named_then a x p e f = f ∙ ap (λ h. after h p) e
    ∙ (λ i. record { funs = a.funs ++ p.made (length a.funs); names = append_assoc a.names (x ∷ []) p.names i; same = first_of a.same p.same })

sized_by : (fs : List run.FunDef) (n k : ℕ) → fun_names fs ≡ numbered n k → length fs ≡ k
sized_by fs n k e = names_length fs ∙ ap length e ∙ numbered_length n k

pub exp_sized : (e : Exp) → Sized (exp_part e)
exp_sized e = λ n. sized_by (made n e) n (count e) (in_order n e)

pub exps_sized : (es : Exps) → Sized (exps_part es)
exps_sized es = λ n. sized_by (exps_made n es) n (exps_count es) (exps_in_order n es)

pub links_sized : (ls : Links) → Sized (links_part ls)
links_sized ls = λ n. sized_by (links_made n ls) n (links_count ls) (links_in_order n ls)

pub ands_sized : (ls : Ands) → Sized (ands_part ls)
ands_sized ls = λ n. sized_by (ands_made n ls) n (ands_count ls) (ands_in_order n ls)

pub steps_sized : (ss : Steps) → Sized (steps_part ss)
steps_sized ss = λ n. sized_by (steps_made n ss) n (steps_count ss) (steps_in_order n ss)

pub stm_sized : (s : Stm) → Sized (stm_part s)
stm_sized s = λ n. sized_by (stm_made n s) n (stm_count s) (stm_in_order n s)

pub stms_sized : (ss : Stms) → Sized (stms_part ss)
stms_sized ss = λ n. sized_by (stms_made n ss) n (stms_count ss) (stms_in_order n ss)

pub arms_sized : (arms : Arms) → Sized (arms_part arms)
arms_sized arms = λ n. sized_by (arms_made n arms) n (arms_count arms) (arms_in_order n arms)

pub both_sized : (p q : Part) → Sized p → Sized q → Sized (both p q)
both_sized p q s t = λ n. length-append (p.made n) (q.made (n + p.count)) ∙ (λ i. s n i + t (n + p.count) i)

pub both_assoc : (p q r : Part) → both (both p q) r ≡ both p (both q r)
both_assoc p q r =
    let n : (m : ℕ) → m + (p.count + q.count) ≡ m + p.count + q.count = λ m. omega arith in
    λ i. record {
      count = add_assoc p.count q.count r.count i;
      made = λ m. ((λ j. (p.made m ++ q.made (m + p.count)) ++ r.made (n m j))
          ∙ append_assoc (p.made m) (q.made (m + p.count)) (r.made (m + p.count + q.count))) i;
      names = append_assoc p.names q.names r.names i;
      same = first_assoc p.same q.same r.same i;
    }

pub nothing_both : (p : Part) → both nothing p ≡ p
nothing_both p = λ i. record { count = zero-add p.count i; made = λ n. p.made (add-zero n i); names = p.names; same = p.same }
