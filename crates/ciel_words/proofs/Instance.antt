-- The command is one of options, flags and positional words: clap refuses words exactly where the grammar of rows does, and has its rows.
use Rattle.std.proofs.Common.{◌≡◌, ◌≢◌, Bool, true, false, ◌||◌, cond, List, [], ◌∷◌, Option, Some, None, MatchOption, fold, codes, refl, sym, ap}
use Rattle.std.proofs.Common.{subst, ◌∙◌, inl, inr, ◌⊎◌}
use Rattle.std.specs.Str.{bytes_eq}
use Rattle.std.proofs.lemmas.Slice.Eq.{bytes_eq-Decides}
use Rattle.clap.specs.Kinds.{Kinds}
use Rattle.clap.specs.Walk.{Row, Rule, Text, arg_by_long, has_row, idle, nothing_held, settled, with_default}
use Rattle.clap.specs.Simple.{Shape, built, filled, with_index}
use Rattle.clap.specs.Faults.{default_fault, defaults_fault, fault_of, level_fault, settle_fault, walk_fault}
use Rattle.clap.proofs.FaultLemmas.{leaf_fault}
use Rattle.clap.specs.declared.error.kind.ErrorKind.TheVariants as kind
use Rattle.ciel_words.specs.Command.{command, flag_rule, option_rule, rows, words_rule}
use Rattle.ciel_words.specs.Parts.{is_valued, is_unvalued}
use Rattle.ciel_words.proofs.Grammar.{closed}
use Rattle.ciel_words.proofs.Walks.{AreSpelled, Fine, both_empty, end, first_empty, second_empty, IsFlag, IsLine, IsOption, Verdict, W, walk_is_line}

abbrev pub top : Shape
top = (built command).top

abbrev pub option : Text → Rule
option name = filled (option_rule name)

abbrev pub flag : Text → Rule
flag name = filled (flag_rule name)

abbrev pub words : Rule
words = with_index 1 (filled words_rule)

rules_are : top.rules ≡ option (codes "workers") ∷ option (codes "seed") ∷ option (codes "lose") ∷ option (codes "names") ∷ option (codes "log")
    ∷ option (codes "resume") ∷ option (codes "steal") ∷ option (codes "memo-new") ∷ option (codes "memo") ∷ option (codes "generate")
    ∷ flag (codes "trace") ∷ flag (codes "plain") ∷ flag (codes "stream") ∷ words ∷ []
rules_are = refl

no_kind : (k : Kinds) → kind.InvalidValue ∷ k ≡ [] → ⊥
no_kind k e = cc

no_conflict : kind.ArgumentConflict ∷ [] ≡ [] → ⊥
no_conflict e = cc

-- ---- the rule of a name

pub data RuleOf (name : Text) (rule : Option Rule) (valued unvalued : Bool) : Type 0 where
  an_option : rule ≡ Some (option name) → IsOption top (option name) → valued ≡ true → RuleOf name rule valued unvalued
  a_flag : rule ≡ Some (flag name) → IsFlag top (flag name) → valued ≡ false → unvalued ≡ true → RuleOf name rule valued unvalued
  none : rule ≡ None → valued ≡ false → unvalued ≡ false → RuleOf name rule valued unvalued

workers_is : IsOption top (option (codes "workers"))
workers_is = record {
  takes = refl;
  most = refl;
  by_id = refl;
  same = refl;
  none = λ R. no_kind [];
  one = λ v R h. rw h refl;
  twice = λ v R h. rw h no_conflict;
}

seed_is : IsOption top (option (codes "seed"))
seed_is = record {
  takes = refl;
  most = refl;
  by_id = refl;
  same = refl;
  none = λ R. no_kind [];
  one = λ v R h. rw h refl;
  twice = λ v R h. rw h no_conflict;
}

lose_is : IsOption top (option (codes "lose"))
lose_is = record {
  takes = refl;
  most = refl;
  by_id = refl;
  same = refl;
  none = λ R. no_kind [];
  one = λ v R h. rw h refl;
  twice = λ v R h. rw h no_conflict;
}

names_is : IsOption top (option (codes "names"))
names_is = record {
  takes = refl;
  most = refl;
  by_id = refl;
  same = refl;
  none = λ R. no_kind [];
  one = λ v R h. rw h refl;
  twice = λ v R h. rw h no_conflict;
}

log_is : IsOption top (option (codes "log"))
log_is = record {
  takes = refl;
  most = refl;
  by_id = refl;
  same = refl;
  none = λ R. no_kind [];
  one = λ v R h. rw h refl;
  twice = λ v R h. rw h no_conflict;
}

resume_is : IsOption top (option (codes "resume"))
resume_is = record {
  takes = refl;
  most = refl;
  by_id = refl;
  same = refl;
  none = λ R. no_kind [];
  one = λ v R h. rw h refl;
  twice = λ v R h. rw h no_conflict;
}

steal_is : IsOption top (option (codes "steal"))
steal_is = record {
  takes = refl;
  most = refl;
  by_id = refl;
  same = refl;
  none = λ R. no_kind [];
  one = λ v R h. rw h refl;
  twice = λ v R h. rw h no_conflict;
}

memo_new_is : IsOption top (option (codes "memo-new"))
memo_new_is = record {
  takes = refl;
  most = refl;
  by_id = refl;
  same = refl;
  none = λ R. no_kind [];
  one = λ v R h. rw h refl;
  twice = λ v R h. rw h no_conflict;
}

memo_is : IsOption top (option (codes "memo"))
memo_is = record {
  takes = refl;
  most = refl;
  by_id = refl;
  same = refl;
  none = λ R. no_kind [];
  one = λ v R h. rw h refl;
  twice = λ v R h. rw h no_conflict;
}

generate_is : IsOption top (option (codes "generate"))
generate_is = record {
  takes = refl;
  most = refl;
  by_id = refl;
  same = refl;
  none = λ R. no_kind [];
  one = λ v R h. rw h refl;
  twice = λ v R h. rw h no_conflict;
}

trace_is : IsFlag top (flag (codes "trace"))
trace_is = record {
  takes = refl;
  one = λ R h. rw h refl;
  twice = λ R h. rw h no_conflict;
}

plain_is : IsFlag top (flag (codes "plain"))
plain_is = record {
  takes = refl;
  one = λ R h. rw h refl;
  twice = λ R h. rw h no_conflict;
}

stream_is : IsFlag top (flag (codes "stream"))
stream_is = record {
  takes = refl;
  one = λ R h. rw h refl;
  twice = λ R h. rw h no_conflict;
}

this_option : (m n : Text) → IsOption top (option m) → m ≡ n → (unvalued : Bool) → RuleOf n (Some (option m)) true unvalued
this_option m n is e u = subst (λ (t : Text). RuleOf t (Some (option m)) true u) e (an_option refl is refl)

this_flag : (m n : Text) → IsFlag top (flag m) → m ≡ n → RuleOf n (Some (flag m)) false true
this_flag m n is e = subst (λ (t : Text). RuleOf t (Some (flag m)) false true) e (a_flag refl is refl refl)

first : Bool → Rule → Option Rule → Option Rule
first b r o = cond (b || false) (Some r) o

-- by which of the names it equals
flags_of : (n : Text) (f g h : Bool) → (f ≡ true → codes "trace" ≡ n) → (g ≡ true → codes "plain" ≡ n) → (h ≡ true → codes "stream" ≡ n)
    → RuleOf n (first f (flag (codes "trace")) (first g (flag (codes "plain")) (first h (flag (codes "stream")) None))) false
    (f || (g || (h || false)))
unfolding first
flags_of n true g h hf hg hh = this_flag (codes "trace") n trace_is (hf refl)
flags_of n false true h hf hg hh = this_flag (codes "plain") n plain_is (hg refl)
flags_of n false false true hf hg hh = this_flag (codes "stream") n stream_is (hh refl)
flags_of n false false false hf hg hh = none refl refl refl

picked : (n : Text) (a b c d e f g h i j u : Bool) (o : Option Rule)
    → (a ≡ true → codes "workers" ≡ n)
    → (b ≡ true → codes "seed" ≡ n)
    → (c ≡ true → codes "lose" ≡ n)
    → (d ≡ true → codes "names" ≡ n)
    → (e ≡ true → codes "log" ≡ n)
    → (f ≡ true → codes "resume" ≡ n)
    → (g ≡ true → codes "steal" ≡ n)
    → (h ≡ true → codes "memo-new" ≡ n)
    → (i ≡ true → codes "memo" ≡ n)
    → (j ≡ true → codes "generate" ≡ n) → RuleOf n o false u
    → RuleOf n (first a (option (codes "workers")) (first b (option (codes "seed")) (first c (option (codes "lose"))
    (first d (option (codes "names")) (first e (option (codes "log"))
    (first f (option (codes "resume")) (first g (option (codes "steal"))
    (first h (option (codes "memo-new")) (first i (option (codes "memo"))
    (first j (option (codes "generate")) o))))))))))
    (a || (b || (c || (d || (e || (f || (g || (h || (i || (j || (false))))))))))) u
unfolding first
picked n true b c d e f g h i j u o ha hb hc hd he hf hg hh hi hj rest = this_option (codes "workers") n workers_is (ha refl) u
picked n false true c d e f g h i j u o ha hb hc hd he hf hg hh hi hj rest = this_option (codes "seed") n seed_is (hb refl) u
picked n false false true d e f g h i j u o ha hb hc hd he hf hg hh hi hj rest = this_option (codes "lose") n lose_is (hc refl) u
picked n false false false true e f g h i j u o ha hb hc hd he hf hg hh hi hj rest = this_option (codes "names") n names_is (hd refl) u
picked n false false false false true f g h i j u o ha hb hc hd he hf hg hh hi hj rest = this_option (codes "log") n log_is (he refl) u
picked n false false false false false true g h i j u o ha hb hc hd he hf hg hh hi hj rest = this_option (codes "resume") n resume_is (hf refl) u
picked n false false false false false false true h i j u o ha hb hc hd he hf hg hh hi hj rest = this_option (codes "steal") n steal_is (hg refl) u
picked n false false false false false false false true i j u o ha hb hc hd he hf hg hh hi hj rest = this_option (codes "memo-new") n memo_new_is (hh refl) u
picked n false false false false false false false false true j u o ha hb hc hd he hf hg hh hi hj rest = this_option (codes "memo") n memo_is (hi refl) u
picked n false false false false false false false false false true u o ha hb hc hd he hf hg hh hi hj rest = this_option (codes "generate") n generate_is (hj refl) u
picked n false false false false false false false false false false u o ha hb hc hd he hf hg hh hi hj rest = rest

is : (m n : Text) → bytes_eq m n ≡ true → m ≡ n
is m n e = (bytes_eq-Decides m n).0 e

pub rule_of_name : (n : Text) → RuleOf n (arg_by_long top.rules n) (is_valued n) (is_unvalued n)
unfolding first
rule_of_name n =
    picked n (bytes_eq (codes "workers") n) (bytes_eq (codes "seed") n) (bytes_eq (codes "lose") n) (bytes_eq (codes "names") n)
    (bytes_eq (codes "log") n) (bytes_eq (codes "resume") n) (bytes_eq (codes "steal") n) (bytes_eq (codes "memo-new") n)
    (bytes_eq (codes "memo") n) (bytes_eq (codes "generate") n)
    (is_unvalued n) _ (is _ n) (is _ n) (is _ n) (is _ n) (is _ n) (is _ n) (is _ n) (is _ n) (is _ n) (is _ n)
    (flags_of n (bytes_eq (codes "trace") n) (bytes_eq (codes "plain") n) (bytes_eq (codes "stream") n) (is _ n) (is _ n) (is _ n))

-- ---- the command is a line

some_same : (a b : Rule) → Some a ≡ Some b → a ≡ b
some_same a b e = cc

either : (n : Text) (o : Option Rule) (v u : Bool) → RuleOf n o v u → (a : Rule) → o ≡ Some a → IsOption top a ⊎ IsFlag top a
either n o v u (an_option e h t) a f = subst (λ (r : Rule). IsOption top r ⊎ IsFlag top r) (some_same _ _ (sym e ∙ f)) (inl h)
either n o v u (a_flag e h t w) a f = subst (λ (r : Rule). IsOption top r ⊎ IsFlag top r) (some_same _ _ (sym e ∙ f)) (inr h)
either n o v u (none e t w) a f = absurd (let bad : None ≡ Some a = sym e ∙ f in (cc))

line_is : IsLine top words
line_is = record {
  named = λ n a e. either n (arg_by_long top.rules n) (is_valued n) (is_unvalued n) (rule_of_name n) a e;
  at = refl;
  several = refl;
  appends = refl;
  trailing = refl;
  by_id = refl;
  one = λ v R. refl;
  no_short = λ x. refl;
}

or_true : (b : Bool) → (b || true) ≡ true
or_true true = refl
or_true false = refl

flag_default : (b : Bool) (n : Text) → cond (b || false) [] (default_fault [] (flag n)) ≡ []
flag_default true n = refl
flag_default false n = refl

-- no default is refused
defaults_none : (R : List Row) → defaults_fault R top.rules ≡ []
unfolding defaults_fault
defaults_none R =
    let by_workers = with_default R (option (codes "workers")) in
    let by_seed = with_default by_workers (option (codes "seed")) in
    let by_lose = with_default by_seed (option (codes "lose")) in
    let by_names = with_default by_lose (option (codes "names")) in
    let by_log = with_default by_names (option (codes "log")) in
    let by_resume = with_default by_log (option (codes "resume")) in
    let by_steal = with_default by_resume (option (codes "steal")) in
    let by_memo_new = with_default by_steal (option (codes "memo-new")) in
    let by_memo = with_default by_memo_new (option (codes "memo")) in
    let by_generate = with_default by_memo (option (codes "generate")) in
    let by_trace = with_default by_generate (flag (codes "trace")) in
    let by_plain = with_default by_trace (flag (codes "plain")) in
    let by_stream = with_default by_plain (flag (codes "stream")) in
    both_empty (default_fault R (option (codes "workers"))) _ (rw or_true refl)
    (both_empty (default_fault by_workers (option (codes "seed"))) _ (rw or_true refl)
    (both_empty (default_fault by_seed (option (codes "lose"))) _ (rw or_true refl)
    (both_empty (default_fault by_lose (option (codes "names"))) _ (rw or_true refl)
    (both_empty (default_fault by_names (option (codes "log"))) _ (rw or_true refl)
    (both_empty (default_fault by_log (option (codes "resume"))) _ (rw or_true refl)
    (both_empty (default_fault by_resume (option (codes "steal"))) _ (rw or_true refl)
    (both_empty (default_fault by_steal (option (codes "memo-new"))) _ (rw or_true refl)
    (both_empty (default_fault by_memo_new (option (codes "memo"))) _ (rw or_true refl)
    (both_empty (default_fault by_memo (option (codes "generate"))) _ (rw or_true refl)
    (both_empty (default_fault by_generate (flag (codes "trace"))) _ (flag_default (has_row (codes "trace") by_generate) (codes "trace"))
    (both_empty (default_fault by_trace (flag (codes "plain"))) _ (flag_default (has_row (codes "plain") by_trace) (codes "plain"))
    (both_empty (default_fault by_plain (flag (codes "stream"))) _ (flag_default (has_row (codes "stream") by_plain) (codes "stream"))
    (both_empty (default_fault by_stream words) [] (rw or_true refl) refl)))))))))))))

level_is : (ws : List Text) → fault_of command ws ≡ level_fault top [] nothing_held ws false []
level_is ws = leaf_fault (built command) nothing_held ws refl

accepted : (ws : List Text) → Fine top (W [] None idle false) ws → fault_of command ws ≡ []
accepted ws f =
    let last = (settled top.rules (end top (W [] None idle false) ws).held).rows in
    level_is ws ∙ both_empty (walk_fault top [] (W [] None idle false) ws) _ f.0
    (both_empty (settle_fault top.rules top.args_override_self (end top (W [] None idle false) ws).held) _ f.1
    (both_empty (defaults_fault last top.rules) _ (defaults_none last) refl))

accepts_only : (ws : List Text) → fault_of command ws ≡ [] → Fine top (W [] None idle false) ws
accepts_only ws e =
    let whole = sym (level_is ws) ∙ e in
    let walk_fine = first_empty (walk_fault top [] (W [] None idle false) ws) _ whole in (
      walk_fine,
      first_empty (settle_fault top.rules top.args_override_self (end top (W [] None idle false) ws).held) _
          (second_empty (walk_fault top [] (W [] None idle false) ws) _ walk_fine whole),
    )

from_verdict : (ws : List Text) (o : Option (List Row)) → Verdict top (W [] None idle false) ws o
    → MatchOption o (fault_of command ws ≢ []) (λ R. (fault_of command ws ≡ []) × (rows ws ≡ fold with_default R top.rules))
from_verdict ws None v = λ e. v (accepts_only ws e)
from_verdict ws (Some R) v = (accepted ws v.0, ap (λ (r : List Row). fold with_default r top.rules) v.1)

-- clap refuses the words exactly where they are no line, and its rows are the line's
pub reads_lines : (ws : List Text) → AreSpelled ws
    → MatchOption (closed top.rules words [] ws) (fault_of command ws ≢ [])
    (λ R. (fault_of command ws ≡ []) × (rows ws ≡ fold with_default R top.rules))
reads_lines ws sp = from_verdict ws (closed top.rules words [] ws) (walk_is_line top words line_is ws sp)
