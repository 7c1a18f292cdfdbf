-- How the machine reads a tree at its own level and at looser ones, and what stands behind it.
use Rattle.std.proofs.Common.{◌≡◌, ℕ, zero, suc, ◌≤◌, Bool, true, false, cond, List, [], ◌∷◌, length, Option, refl, sym, ap, subst, ◌∙◌, arith}
use Rattle.std.specs.Prelude.{if◌then◌else◌, ◌&&◌, ◌==◌, ◌%◌}
use Rattle.sky_base.specs.Op.{Order}
use Rattle.sky_base.specs.Tree.{Place, Lit, Form, Oper, Junction, SignAt}
use Rattle.sky_base.specs.Tree as tree
use Rattle.sky_parse_grammar.specs.Levels.{oper_level, junction_level}
use Rattle.sky_text.specs.declared.token.Sign.{Sign}
use Rattle.sky_text.specs.declared.token.TokenKind.{TokenKind}
use Rattle.sky_parse_grammar.specs.declared.level.Level.{Level}
use Rattle.sky_parse_grammar.specs.declared.parts.Shape.{Shape}
use Rattle.sky_parse_grammar.specs.Signs.{is}
use Rattle.sky_parse_grammar.specs.Levels.{rank, opens}
use Rattle.sky_parse_grammar.specs.Grammar.{Mark, sign, sign_at, prefix_sign, oper_sign, junction_sign, spell, spell_signs, spell_links, spell_ands}
use Rattle.sky_parse_grammar.specs.Grammar.{spell_steps, spell_others, spell_value, spell_other_pairs, valued, AreLinks, IsTree}
use Rattle.sky_parse_grammar.specs.Machine.{Item, Out, operand_of, again, tails, step, goes, run, kind, kinds_of}
use Rattle.sky_parse_grammar.specs.Source.{Exp, Exps, Links, Ands, level, links_enough, some_signs}

-- nothing that goes on a primary stands first
abbrev pub stops_steps : List Mark → Bool
stops_steps [] = true
stops_steps (m ∷ ms) = if is Sign.OpenSquare (kind m) then false else if is Sign.OpenRound (kind m) then false else true

-- no operator of the level does
abbrev pub stops_at : Level → List Mark → Bool
stops_at l [] = true
stops_at l (m ∷ ms) = if opens l (kind m) then false else true

-- nothing that goes on an expression of the level
abbrev pub stops : Level → List Mark → Bool
stops Level.Prefix ms = stops_steps ms
stops Level.Product ms = stops_at Level.Product ms && stops_steps ms
stops Level.Sum ms = stops_at Level.Sum ms && (stops_at Level.Product ms && stops_steps ms)
stops Level.Comparison ms = stops_at Level.Comparison ms && (stops_at Level.Sum ms && (stops_at Level.Product ms && stops_steps ms))
stops Level.Both ms = stops_at Level.Both ms
    && (stops_at Level.Comparison ms && (stops_at Level.Sum ms && (stops_at Level.Product ms && stops_steps ms)))
stops Level.Either ms = stops_at Level.Either ms
    && (stops_at Level.Both ms && (stops_at Level.Comparison ms && (stops_at Level.Sum ms && (stops_at Level.Product ms && stops_steps ms))))

left : (a b : Bool) → (a && b) ≡ true → a ≡ true
left true b e = refl
left false b e = absurd cc

right : (a b : Bool) → (a && b) ≡ true → b ≡ true
right true b e = e
right false b e = absurd cc

skip_two : {A : Type 0} (b c : Bool) (x y z : A) → cond b false (cond c false true) ≡ true → cond b x (cond c y z) ≡ z
skip_two true c x y z e = absurd cc
skip_two false true x y z e = absurd cc
skip_two false false x y z e = refl

skip_one : {A : Type 0} (b : Bool) (x z : A) → cond b false true ≡ true → cond b x z ≡ z
skip_one true x z e = absurd cc
skip_one false x z e = refl

pub skip_steps : (k : List Item) (more : List Mark) → stops_steps more ≡ true → run (Item.steps ∷ k) (kinds_of more) ≡ run k (kinds_of more)
skip_steps k [] s = refl
skip_steps k (m ∷ ms) s = ap (λ (o : Option (List Item)). goes o (λ l. run l (kinds_of ms)) (Out.stuck (suc (length (kinds_of ms)))))
    (skip_two (is Sign.OpenSquare (kind m)) (is Sign.OpenRound (kind m)) _ _ (step k (kind m)) s)

pub skip_tail : (l : Level) (k : List Item) (more : List Mark) → stops_at l more ≡ true → run (Item.tail l ∷ k) (kinds_of more)
    ≡ run k (kinds_of more)
skip_tail l k [] s = refl
skip_tail l k (m ∷ ms) s = ap (λ (o : Option (List Item)). goes o (λ l. run l (kinds_of ms)) (Out.stuck (suc (length (kinds_of ms)))))
    (skip_one (opens l (kind m)) _ (step k (kind m)) s)

pub level_is : (l : Level) (k : List Item) (ts : List TokenKind) → run (Item.level l ∷ k) ts ≡ run (Item.level Level.Prefix ∷ tails l k) ts
level_is l k [] = refl
level_is l k (t ∷ ts) = refl

-- a primary leaves what goes on it to be read
abbrev pub Primary : Exp → Type 0
Primary e = (k : List Item) (more : List Mark) → run (Item.level Level.Prefix ∷ k) (kinds_of (spell e more)) ≡ run (Item.steps ∷ k) (kinds_of more)

-- an expression that is read at a level, where nothing goes on it
abbrev pub Read : Level → Exp → Type 0
Read l e = (k : List Item) (more : List Mark) → stops l more ≡ true → run (Item.level Level.Prefix ∷ tails l k) (kinds_of (spell e more))
    ≡ run k (kinds_of more)

abbrev pub At : ℕ → Exp → Type 0
At zero e = Read Level.Either e
At (suc zero) e = Read Level.Both e
At (suc (suc zero)) e = Read Level.Comparison e
At (suc (suc (suc zero))) e = Read Level.Sum e
At (suc (suc (suc (suc zero)))) e = Read Level.Product e
At (suc (suc (suc (suc (suc zero))))) e = Read Level.Prefix e
At (suc (suc (suc (suc (suc (suc zero)))))) e = Read Level.Prefix e
At (suc (suc (suc (suc (suc (suc (suc n))))))) e = Primary e

abbrev pub Claim : Exp → Type 0
Claim e = At (level e) e

from_primary : (e : Exp) → Primary e → Read Level.Prefix e
from_primary e c = λ k more s. c k more ∙ skip_steps k more s

from_prefix : (e : Exp) → Read Level.Prefix e → Read Level.Product e
from_prefix e c = λ k more s. c (Item.tail Level.Product ∷ k) more (right (stops_at Level.Product more) (stops Level.Prefix more) s)
    ∙ skip_tail Level.Product k more (left (stops_at Level.Product more) (stops Level.Prefix more) s)

from_product : (e : Exp) → Read Level.Product e → Read Level.Sum e
from_product e c = λ k more s. c (Item.tail Level.Sum ∷ k) more (right (stops_at Level.Sum more) (stops Level.Product more) s)
    ∙ skip_tail Level.Sum k more (left (stops_at Level.Sum more) (stops Level.Product more) s)

from_sum : (e : Exp) → Read Level.Sum e → Read Level.Comparison e
from_sum e c = λ k more s. c (Item.tail Level.Comparison ∷ k) more (right (stops_at Level.Comparison more) (stops Level.Sum more) s)
    ∙ skip_tail Level.Comparison k more (left (stops_at Level.Comparison more) (stops Level.Sum more) s)

from_comparison : (e : Exp) → Read Level.Comparison e → Read Level.Both e
from_comparison e c = λ k more s. c (Item.tail Level.Both ∷ k) more (right (stops_at Level.Both more) (stops Level.Comparison more) s)
    ∙ skip_tail Level.Both k more (left (stops_at Level.Both more) (stops Level.Comparison more) s)

from_both : (e : Exp) → Read Level.Both e → Read Level.Either e
from_both e c = λ k more s. c (Item.tail Level.Either ∷ k) more (right (stops_at Level.Either more) (stops Level.Both more) s)
    ∙ skip_tail Level.Either k more (left (stops_at Level.Either more) (stops Level.Both more) s)

pub primary_at : (n : ℕ) (e : Exp) → 7 ≤ n → At n e → Primary e
primary_at zero e h c = absurd (omega arith)
primary_at (suc zero) e h c = absurd (omega arith)
primary_at (suc (suc zero)) e h c = absurd (omega arith)
primary_at (suc (suc (suc zero))) e h c = absurd (omega arith)
primary_at (suc (suc (suc (suc zero)))) e h c = absurd (omega arith)
primary_at (suc (suc (suc (suc (suc zero))))) e h c = absurd (omega arith)
primary_at (suc (suc (suc (suc (suc (suc zero)))))) e h c = absurd (omega arith)
primary_at (suc (suc (suc (suc (suc (suc (suc n))))))) e h c = c

pub prefix_at : (n : ℕ) (e : Exp) → 5 ≤ n → At n e → Read Level.Prefix e
prefix_at zero e h c = absurd (omega arith)
prefix_at (suc zero) e h c = absurd (omega arith)
prefix_at (suc (suc zero)) e h c = absurd (omega arith)
prefix_at (suc (suc (suc zero))) e h c = absurd (omega arith)
prefix_at (suc (suc (suc (suc zero)))) e h c = absurd (omega arith)
prefix_at (suc (suc (suc (suc (suc zero))))) e h c = c
prefix_at (suc (suc (suc (suc (suc (suc zero)))))) e h c = c
prefix_at (suc (suc (suc (suc (suc (suc (suc n))))))) e h c = from_primary e c

product_at : (n : ℕ) (e : Exp) → 4 ≤ n → At n e → Read Level.Product e
product_at zero e h c = absurd (omega arith)
product_at (suc zero) e h c = absurd (omega arith)
product_at (suc (suc zero)) e h c = absurd (omega arith)
product_at (suc (suc (suc zero))) e h c = absurd (omega arith)
product_at (suc (suc (suc (suc zero)))) e h c = c
product_at (suc (suc (suc (suc (suc n))))) e h c = from_prefix e (prefix_at (suc (suc (suc (suc (suc n))))) e (omega arith) c)

sum_at : (n : ℕ) (e : Exp) → 3 ≤ n → At n e → Read Level.Sum e
sum_at zero e h c = absurd (omega arith)
sum_at (suc zero) e h c = absurd (omega arith)
sum_at (suc (suc zero)) e h c = absurd (omega arith)
sum_at (suc (suc (suc zero))) e h c = c
sum_at (suc (suc (suc (suc n)))) e h c = from_product e (product_at (suc (suc (suc (suc n)))) e (omega arith) c)

comparison_at : (n : ℕ) (e : Exp) → 2 ≤ n → At n e → Read Level.Comparison e
comparison_at zero e h c = absurd (omega arith)
comparison_at (suc zero) e h c = absurd (omega arith)
comparison_at (suc (suc zero)) e h c = c
comparison_at (suc (suc (suc n))) e h c = from_sum e (sum_at (suc (suc (suc n))) e (omega arith) c)

both_at : (n : ℕ) (e : Exp) → 1 ≤ n → At n e → Read Level.Both e
both_at zero e h c = absurd (omega arith)
both_at (suc zero) e h c = c
both_at (suc (suc n)) e h c = from_comparison e (comparison_at (suc (suc n)) e (omega arith) c)

either_at : (n : ℕ) (e : Exp) → At n e → Read Level.Either e
either_at zero e c = c
either_at (suc n) e c = from_both e (both_at (suc n) e (omega arith) c)

-- a tree is read at its own level and at each looser one
pub at_level : (l : Level) (n : ℕ) (e : Exp) → rank l ≤ n → At n e → Read l e
at_level Level.Either n e h c = either_at n e c
at_level Level.Both n e h c = both_at n e h c
at_level Level.Comparison n e h c = comparison_at n e h c
at_level Level.Sum n e h c = sum_at n e h c
at_level Level.Product n e h c = product_at n e h c
at_level Level.Prefix n e h c = prefix_at n e h c

pub whole : (l : Level) (e : Exp) → rank l ≤ level e → Claim e → (k : List Item) (more : List Mark) → stops l more ≡ true
    → run (Item.level l ∷ k) (kinds_of (spell e more)) ≡ run k (kinds_of more)
whole l e h c k more s = level_is l k (kinds_of (spell e more)) ∙ at_level l (level e) e h c k more s

sign_claim : (s : tree.Sign) (p : Place) (k : List Item) (more : List Mark)
    → run (Item.level Level.Prefix ∷ k) (kinds_of (sign_at (prefix_sign s) p ∷ more)) ≡ run (Item.level Level.Prefix ∷ k) (kinds_of more)
sign_claim tree.Sign.not p k more = refl
sign_claim tree.Sign.minus p k more = refl
sign_claim tree.Sign.star p k more = refl

-- the signs of a prefix are read one by one
pub signs_claim : (ss : List SignAt) (k : List Item) (more : List Mark) → run (Item.level Level.Prefix ∷ k) (kinds_of (spell_signs ss more))
    ≡ run (Item.level Level.Prefix ∷ k) (kinds_of more)
signs_claim [] k more = refl
signs_claim (s ∷ ss) k more = sign_claim s.sign s.place k (spell_signs ss more) ∙ signs_claim ss k more

-- the level whose operator it is
abbrev pub level_of_oper : Oper → Level
level_of_oper Oper.plus = Level.Sum
level_of_oper Oper.minus = Level.Sum
level_of_oper Oper.times = Level.Product
level_of_oper Oper.over = Level.Product
level_of_oper Oper.rest = Level.Product
level_of_oper (Oper.compare o) = Level.Comparison

pub oper_stops : (o : Oper) (p : Place) (ms : List Mark) → stops (operand_of (level_of_oper o)) (sign_at (oper_sign o) p ∷ ms) ≡ true
oper_stops Oper.plus p ms = refl
oper_stops Oper.minus p ms = refl
oper_stops Oper.times p ms = refl
oper_stops Oper.over p ms = refl
oper_stops Oper.rest p ms = refl
oper_stops (Oper.compare Order.eq) p ms = refl
oper_stops (Oper.compare Order.ne) p ms = refl
oper_stops (Oper.compare Order.lt) p ms = refl
oper_stops (Oper.compare Order.le) p ms = refl
oper_stops (Oper.compare Order.gt) p ms = refl
oper_stops (Oper.compare Order.ge) p ms = refl

pub oper_opens : (o : Oper) → opens (level_of_oper o) (TokenKind.Sign (oper_sign o)) ≡ true
oper_opens Oper.plus = refl
oper_opens Oper.minus = refl
oper_opens Oper.times = refl
oper_opens Oper.over = refl
oper_opens Oper.rest = refl
oper_opens (Oper.compare Order.eq) = refl
oper_opens (Oper.compare Order.ne) = refl
oper_opens (Oper.compare Order.lt) = refl
oper_opens (Oper.compare Order.le) = refl
oper_opens (Oper.compare Order.gt) = refl
oper_opens (Oper.compare Order.ge) = refl

-- an operator of a chain is read, and its operand is to come
pub oper_read : (o : Oper) (p : Place) (k : List Item) (ms : List Mark)
    → run (Item.tail (level_of_oper o) ∷ k) (kinds_of (sign_at (oper_sign o) p ∷ ms))
    ≡ run (Item.level (operand_of (level_of_oper o)) ∷ again (level_of_oper o) k) (kinds_of ms)
oper_read o p k ms = rw (oper_opens o) refl

-- Chains: what is said here of the operands is handed in, and holds of the smaller trees by induction.
from_rank : ℕ → Level
from_rank zero = Level.Either
from_rank (suc zero) = Level.Both
from_rank (suc (suc zero)) = Level.Comparison
from_rank (suc (suc (suc zero))) = Level.Sum
from_rank (suc (suc (suc (suc zero)))) = Level.Product
from_rank (suc (suc (suc (suc (suc n))))) = Level.Prefix

rank_back : (l : Level) → from_rank (rank l) ≡ l
unfolding from_rank
rank_back Level.Either = refl
rank_back Level.Both = refl
rank_back Level.Comparison = refl
rank_back Level.Sum = refl
rank_back Level.Product = refl
rank_back Level.Prefix = refl

oper_back : (o : Oper) → from_rank (oper_level o) ≡ level_of_oper o
unfolding from_rank
oper_back Oper.plus = refl
oper_back Oper.minus = refl
oper_back Oper.times = refl
oper_back Oper.over = refl
oper_back Oper.rest = refl
oper_back (Oper.compare o) = refl

pub same_level : (o : Oper) (l : Level) → oper_level o ≡ rank l → level_of_oper o ≡ l
same_level o l e = sym (oper_back o) ∙ ap from_rank e ∙ rank_back l

pub oper_rank : (o : Oper) → rank (level_of_oper o) ≡ oper_level o
oper_rank Oper.plus = refl
oper_rank Oper.minus = refl
oper_rank Oper.times = refl
oper_rank Oper.over = refl
oper_rank Oper.rest = refl
oper_rank (Oper.compare o) = refl

pub rank_step : (l : Level) → rank (operand_of l) ≤ suc (rank l)
rank_step Level.Either = omega arith
rank_step Level.Both = omega arith
rank_step Level.Comparison = omega arith
rank_step Level.Sum = omega arith
rank_step Level.Product = omega arith
rank_step Level.Prefix = omega arith

tighter_stops : (l : Level) (more : List Mark) → stops l more ≡ true → stops (operand_of l) more ≡ true
tighter_stops Level.Either more s = right (stops_at Level.Either more) (stops Level.Both more) s
tighter_stops Level.Both more s = right (stops_at Level.Both more) (stops Level.Comparison more) s
tighter_stops Level.Comparison more s = right (stops_at Level.Comparison more) (stops Level.Sum more) s
tighter_stops Level.Sum more s = right (stops_at Level.Sum more) (stops Level.Product more) s
tighter_stops Level.Product more s = right (stops_at Level.Product more) (stops Level.Prefix more) s
tighter_stops Level.Prefix more s = s

pub stops_here : (l : Level) (more : List Mark) → stops l more ≡ true → stops_at l more ≡ true
stops_here Level.Either more s = left (stops_at Level.Either more) (stops Level.Both more) s
stops_here Level.Both more s = left (stops_at Level.Both more) (stops Level.Comparison more) s
stops_here Level.Comparison more s = left (stops_at Level.Comparison more) (stops Level.Sum more) s
stops_here Level.Sum more s = left (stops_at Level.Sum more) (stops Level.Product more) s
stops_here Level.Product more s = left (stops_at Level.Product more) (stops Level.Prefix more) s
stops_here Level.Prefix [] s = refl
stops_here Level.Prefix (m ∷ ms) s = refl

-- what stands behind an operand of a chain stops it
pub links_stop : (l : Level) (ls : Links) (more : List Mark) → AreLinks (rank l) ls → stops l more ≡ true
    → stops (operand_of l) (spell_links ls more) ≡ true
links_stop l Links.no_links more h s = tighter_stops l more s
links_stop l (Links.link o p e ls) more h s =
    subst (λ (m : Level). stops (operand_of m) (sign_at (oper_sign o) p ∷ spell e (spell_links ls more)) ≡ true) (same_level o l h.0)
    (oper_stops o p (spell e (spell_links ls more)))

-- an operator of the level is read
pub link_read : (l : Level) (o : Oper) (p : Place) (k : List Item) (ms : List Mark) → oper_level o ≡ rank l
    → run (Item.tail l ∷ k) (kinds_of (sign_at (oper_sign o) p ∷ ms)) ≡ run (Item.level (operand_of l) ∷ again l k) (kinds_of ms)
link_read l o p k ms h = subst (λ (m : Level). run (Item.tail m ∷ k) (kinds_of (sign_at (oper_sign o) p ∷ ms))
    ≡ run (Item.level (operand_of m) ∷ again m k) (kinds_of ms)) (same_level o l h) (oper_read o p k ms)

abbrev pub level_of_junction : Junction → Level
level_of_junction Junction.either = Level.Either
level_of_junction Junction.both = Level.Both

pub ands_stop : (j : Junction) (ls : Ands) (more : List Mark) → stops (level_of_junction j) more ≡ true
    → stops (operand_of (level_of_junction j)) (spell_ands j ls more) ≡ true
ands_stop Junction.either Ands.no_ands more s = tighter_stops Level.Either more s
ands_stop Junction.both Ands.no_ands more s = tighter_stops Level.Both more s
ands_stop Junction.either (Ands.and p e ls) more s = refl
ands_stop Junction.both (Ands.and p e ls) more s = refl

pub and_read : (j : Junction) (p : Place) (k : List Item) (ms : List Mark)
    → run (Item.tail (level_of_junction j) ∷ k) (kinds_of (sign_at (junction_sign j) p ∷ ms))
    ≡ run (Item.level (operand_of (level_of_junction j)) ∷ Item.tail (level_of_junction j) ∷ k) (kinds_of ms)
and_read Junction.either p k ms = refl
and_read Junction.both p k ms = refl

-- Signs that close what stands before them: no tree begins with one, and none goes on an expression.
pub data Closes : Sign → Type 0 where
  round : Closes Sign.CloseRound
  square : Closes Sign.CloseSquare
  curly : Closes Sign.CloseCurly
  semicolon : Closes Sign.Semicolon

abbrev pub begins : Sign → List TokenKind → Bool
begins s [] = true
begins s (t ∷ ts) = is s t

pub closes_stop : {s : Sign} → Closes s → (more : List Mark) → stops Level.Either (sign s ∷ more) ≡ true
closes_stop round more = refl
closes_stop square more = refl
closes_stop curly more = refl
closes_stop semicolon more = refl

sign_first : {s : Sign} → Closes s → (x : tree.Sign) → is s (TokenKind.Sign (prefix_sign x)) ≡ false
sign_first round tree.Sign.not = refl
sign_first round tree.Sign.minus = refl
sign_first round tree.Sign.star = refl
sign_first square tree.Sign.not = refl
sign_first square tree.Sign.minus = refl
sign_first square tree.Sign.star = refl
sign_first curly tree.Sign.not = refl
sign_first curly tree.Sign.minus = refl
sign_first curly tree.Sign.star = refl
sign_first semicolon tree.Sign.not = refl
sign_first semicolon tree.Sign.minus = refl
sign_first semicolon tree.Sign.star = refl

signs_first : {s : Sign} → Closes s → (ss : List SignAt) (more : List Mark) → some_signs ss ≡ true → begins s (kinds_of (spell_signs ss more)) ≡ false
signs_first c [] more h = absurd cc
signs_first c (x ∷ ss) more h = sign_first c x.sign

pub first : {s : Sign} → Closes s → (e : Exp) → IsTree e → (more : List Mark) → begins s (kinds_of (spell e more)) ≡ false
first c (Exp.literal Lit.null p) t more = refl
first c (Exp.literal (Lit.truth true) p) t more = refl
first c (Exp.literal (Lit.truth false) p) t more = refl
first c (Exp.literal (Lit.num z) p) t more = refl
first c (Exp.literal (Lit.text x) p) t more = refl
first c (Exp.name x p) t more = refl
first c (Exp.func p xs b) t more = refl
first round (Exp.parens e) t more = refl
first square (Exp.parens e) t more = refl
first curly (Exp.parens e) t more = refl
first semicolon (Exp.parens e) t more = refl
first round (Exp.parts Form.list p es) t more = refl
first square (Exp.parts Form.list p es) t more = refl
first curly (Exp.parts Form.list p es) t more = refl
first semicolon (Exp.parts Form.list p es) t more = refl
first round (Exp.parts Form.dict p es) t more = refl
first square (Exp.parts Form.dict p es) t more = refl
first curly (Exp.parts Form.dict p es) t more = refl
first semicolon (Exp.parts Form.dict p es) t more = refl
first c (Exp.parts Form.spawn p es) t more = refl
first c (Exp.parts Form.spawn_exec p es) t more = refl
first c (Exp.parts Form.exec p es) t more = refl
first c (Exp.parts Form.ref p es) t more = refl
first c (Exp.parts Form.len p es) t more = refl
first c (Exp.parts Form.keys p es) t more = refl
first c (Exp.parts Form.has p es) t more = refl
first c (Exp.parts Form.range p es) t more = refl
first c (Exp.chain e ls) t more = first c e t.0 (spell_links ls more)
first c (Exp.logic j e ls) t more = first c e t.0 (spell_ands j ls more)
first c (Exp.prefix ss e) t more = signs_first c ss (spell e more) t.2
first c (Exp.postfix e ss) t more = first c e t.0 (spell_steps ss more)

pub begins_many : (s : Sign) (k : List Item) (ts : List TokenKind) → begins s ts ≡ false → run (Item.parts (Shape.Many s) ∷ k) ts
    ≡ run (Item.level Level.Either ∷ Item.others (Shape.Many s) 1 ∷ k) ts
begins_many s k [] b = absurd cc
begins_many s k (t ∷ ts) b = rw b refl

pub begins_pairs : (k : List Item) (ts : List TokenKind) → begins Sign.CloseCurly ts ≡ false → run (Item.parts Shape.Pairs ∷ k) ts
    ≡ run (Item.level Level.Either ∷ Item.others Shape.Pairs 1 ∷ k) ts
begins_pairs k [] b = absurd cc
begins_pairs k (t ∷ ts) b = rw b refl

pub fixed_is : (m : ℕ) (s : Sign) (k : List Item) (ts : List TokenKind) → run (Item.parts (Shape.Fixed m s) ∷ k) ts
    ≡ run (Item.level Level.Either ∷ Item.others (Shape.Fixed m s) 1 ∷ k) ts
fixed_is m s k [] = refl
fixed_is m s k (t ∷ ts) = refl

pub none_inside : {s : Sign} → Closes s → (k : List Item) (more : List Mark) → run (Item.parts (Shape.Many s) ∷ k) (kinds_of (sign s ∷ more))
    ≡ run k (kinds_of more)
none_inside round k more = refl
none_inside square k more = refl
none_inside curly k more = refl
none_inside semicolon k more = refl

pub many_ends : {s : Sign} → Closes s → (n : ℕ) (k : List Item) (more : List Mark)
    → run (Item.others (Shape.Many s) n ∷ k) (kinds_of (sign s ∷ more)) ≡ run k (kinds_of more)
many_ends round n k more = refl
many_ends square n k more = refl
many_ends curly n k more = refl
many_ends semicolon n k more = refl

pub fixed_ends : {s : Sign} → Closes s → (m n : ℕ) (k : List Item) (more : List Mark) → (n == m) ≡ true
    → run (Item.others (Shape.Fixed m s) n ∷ k) (kinds_of (sign s ∷ more)) ≡ run k (kinds_of more)
fixed_ends round m n k more h = rw h refl
fixed_ends square m n k more h = rw h refl
fixed_ends curly m n k more h = rw h refl
fixed_ends semicolon m n k more h = rw h refl

pub fixed_goes : (s : Sign) (m n : ℕ) (k : List Item) (ms : List Mark) → (n == m) ≡ false
    → run (Item.others (Shape.Fixed m s) n ∷ k) (kinds_of (sign Sign.Comma ∷ ms))
    ≡ run (Item.level Level.Either ∷ Item.others (Shape.Fixed m s) (suc n) ∷ k) (kinds_of ms)
fixed_goes s m n k ms h = rw h refl

pub others_stop : {s : Sign} → Closes s → (es : Exps) (more : List Mark) → stops Level.Either (spell_others es (sign s ∷ more)) ≡ true
others_stop c Exps.no_exps more = closes_stop c more
others_stop c (Exps.exp e es) more = refl

pub value_goes : (n : ℕ) (k : List Item) (ms : List Mark) → (n % 2 == 1) ≡ true
    → run (Item.others Shape.Pairs n ∷ k) (kinds_of (sign Sign.Colon ∷ ms))
    ≡ run (Item.level Level.Either ∷ Item.others Shape.Pairs (suc n) ∷ k) (kinds_of ms)
value_goes n k ms h = rw h refl

pub pair_goes : (n : ℕ) (k : List Item) (ms : List Mark) → (n % 2 == 1) ≡ false
    → run (Item.others Shape.Pairs n ∷ k) (kinds_of (sign Sign.Comma ∷ ms))
    ≡ run (Item.level Level.Either ∷ Item.others Shape.Pairs (suc n) ∷ k) (kinds_of ms)
pair_goes n k ms h = rw h refl

pub pairs_end : (n : ℕ) (k : List Item) (more : List Mark) → (n % 2 == 1) ≡ false → (n % 2 == 0) ≡ true
    → run (Item.others Shape.Pairs n ∷ k) (kinds_of (sign Sign.CloseCurly ∷ more)) ≡ run k (kinds_of more)
pairs_end n k more h g = rw (h, g) refl

pub many_goes : (s : Sign) (n : ℕ) (k : List Item) (ms : List Mark) → run (Item.others (Shape.Many s) n ∷ k) (kinds_of (sign Sign.Comma ∷ ms))
    ≡ run (Item.level Level.Either ∷ Item.others (Shape.Many s) (suc n) ∷ k) (kinds_of ms)
many_goes s n k ms = refl

pub value_stop : (es : Exps) (more : List Mark) → valued es ≡ true → stops Level.Either (spell_value es more) ≡ true
value_stop Exps.no_exps more h = absurd cc
value_stop (Exps.exp v es) more h = refl

pub pairs_stop : (es : Exps) (more : List Mark) → stops Level.Either (spell_other_pairs es (sign Sign.CloseCurly ∷ more)) ≡ true
pairs_stop Exps.no_exps more = refl
pairs_stop (Exps.exp k es) more = refl

pub at_oper : (o : Oper) (e : Exp) → Read (level_of_oper o) e → At (oper_level o) e
at_oper Oper.plus e c = c
at_oper Oper.minus e c = c
at_oper Oper.times e c = c
at_oper Oper.over e c = c
at_oper Oper.rest e c = c
at_oper (Oper.compare o) e c = c

pub at_junction : (j : Junction) (e : Exp) → Read (level_of_junction j) e → At (junction_level j) e
at_junction Junction.either e c = c
at_junction Junction.both e c = c

pub tails_oper : (o : Oper) (k : List Item) → tails (level_of_oper o) k ≡ tails (operand_of (level_of_oper o)) (Item.tail (level_of_oper o) ∷ k)
tails_oper Oper.plus k = refl
tails_oper Oper.minus k = refl
tails_oper Oper.times k = refl
tails_oper Oper.over k = refl
tails_oper Oper.rest k = refl
tails_oper (Oper.compare o) k = refl

pub tails_junction : (j : Junction) (k : List Item) → tails (level_of_junction j) k
    ≡ tails (operand_of (level_of_junction j)) (Item.tail (level_of_junction j) ∷ k)
tails_junction Junction.either k = refl
tails_junction Junction.both k = refl

pub junction_rank : (j : Junction) → rank (level_of_junction j) ≡ junction_level j
junction_rank Junction.either = refl
junction_rank Junction.both = refl

-- the chain goes on, unless it is a comparison, which has one operator
abbrev pub Goes : Level → Links → List Item → List Mark → Type 0
Goes l ls k more = ((i : List Item) → again l i ≡ Item.tail l ∷ i) → run (Item.tail l ∷ k) (kinds_of (spell_links ls more)) ≡ run k (kinds_of more)

pub rest_read : (o : Oper) (p : Place) (f : Exp) (ls : Links) (k : List Item) (more : List Mark) → links_enough (Links.link o p f ls) ≡ true
    → Goes (level_of_oper o) ls k more → run (again (level_of_oper o) k) (kinds_of (spell_links ls more)) ≡ run k (kinds_of more)
rest_read Oper.plus p f ls k more h c = c (λ i. refl)
rest_read Oper.minus p f ls k more h c = c (λ i. refl)
rest_read Oper.times p f ls k more h c = c (λ i. refl)
rest_read Oper.over p f ls k more h c = c (λ i. refl)
rest_read Oper.rest p f ls k more h c = c (λ i. refl)
rest_read (Oper.compare o) p f Links.no_links k more h c = refl
rest_read (Oper.compare o) p f (Links.link q r g ls) k more h c = absurd cc
