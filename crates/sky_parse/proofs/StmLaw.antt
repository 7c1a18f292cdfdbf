-- Readings of statements from those of their parts.
use Rattle.std.proofs.Common.{◌≡◌, ℕ, ◌+◌, List, [], ◌∷◌, ◌++◌, append_assoc, append-nil, refl, sym, ap, subst, ◌∙◌, arith}
use Rattle.sky_base.specs.Tree as run
use Rattle.sky_base.specs.Tree.{Place}
use Rattle.sky_base.specs.TreeView.{at, exp_view}
use Rattle.sky_base.specs.StmtView.{arms_view}
use Rattle.sky_base.specs.declared.stmt.Arm.{Arm as Item}
use Rattle.sky_text.specs.declared.token.Sign.{Sign}
use Rattle.sky_text.specs.declared.token.Word.{Word}
use Rattle.sky_text.specs.declared.token.TokenKind.{TokenKind}
use Rattle.sky_text.specs.declared.token.Token.{Token}
use Rattle.sky_parse_grammar.specs.Source.{Stm, Stms, Arms, Else}
use Rattle.sky_parse_grammar.specs.Lifted.{tree, stms_tree, arms_tree, else_tree}
use Rattle.sky_parse_grammar.specs.Lifted as lifted
use Rattle.sky_parse_grammar.specs.Grammar.{Mark, sign, sign_at, word, word_at, name_at, place, spell, Fits, Spelled}
use Rattle.sky_parse_grammar.proofs.Means.{start_fits}
use Rattle.sky_parse_held.specs.Held.{Held, Part, both, seen_name, exp_part, stms_part, arms_part, else_part}
use Rattle.sky_parse_expr.specs.Reads.{ReadsExp, ReadsBlock}
use Rattle.sky_parse.specs.Statements.{ReadsEnded, ReadsTest, ReadsEach, ReadsStm, ReadsStms, ReadsArm, ReadsRest, Arm, ArmRun, Rest, RestRun}
use Rattle.sky_parse_held.proofs.HeldLaw.{Sized, exp_sized, stm_sized, stms_sized, both_sized, both_assoc, nothing_both, after_nothing}
use Rattle.sky_parse_expr.proofs.ReadsLaw.{at_front, behind, before, named, one, two}

pub read_ended : {e : run.Exp} {a b : Held} {ts mid rest : List Token} → ReadsExp 0 e a b ts mid
    → Spelled (λ more. sign Sign.Semicolon ∷ more) mid rest → ReadsEnded e a b ts rest
read_ended x f = one (λ s. s) (λ r. r) (λ s w. w.0) (λ n s w. refl) (λ s w. refl) (λ s w more. refl) (before (λ more. sign Sign.Semicolon ∷ more) x f)

pub read_test : {e : run.Exp} {a b : Held} {ts us mid rest : List Token} → Spelled (λ more. sign Sign.OpenRound ∷ more) ts us
    → ReadsExp 0 e a b us mid → Spelled (λ more. sign Sign.CloseRound ∷ more) mid rest → ReadsTest e a b ts rest
read_test f x g = one (λ s. s) (λ r. r) (λ s w. w.0) (λ n s w. refl) (λ s w. refl) (λ s w more. refl)
    (behind (λ more. sign Sign.OpenRound ∷ more) f (before (λ more. sign Sign.CloseRound ∷ more) x g))

pub read_each : (x : List ℕ) {e : run.Exp} {a b c : Held} {ts t1 t2 t3 t4 rest : List Token} → Spelled (λ more. sign Sign.OpenRound ∷ more) ts t1
    → Spelled (λ more. Mark.plain (TokenKind.Name x) ∷ more) t1 t2 → b ≡ seen_name x a → Spelled (λ more. word Word.In ∷ more) t2 t3
    → ReadsExp 0 e b c t3 t4
    → Spelled (λ more. sign Sign.CloseRound ∷ more) t4 rest → ReadsEach x e a c ts rest
read_each x f n e w y g =
    one (λ s. s) (λ r. r) (λ s v. v.0) (λ m s v. refl) (λ s v. refl) (λ s v more. refl)
    (behind (λ more. sign Sign.OpenRound ∷ Mark.plain (TokenKind.Name x) ∷ word Word.In ∷ more)
    (λ more h. f (Mark.plain (TokenKind.Name x) ∷ word Word.In ∷ more) (n (word Word.In ∷ more) (w more h)))
    (named x e (before (λ more. sign Sign.CloseRound ∷ more) y g)))

-- ---- statements

pub read_set : (x : List ℕ) (p : Place) {e : run.Exp} {h a b : Held} {ts us rest : List Token} (t : Token) → a ≡ seen_name x h
    → Fits (name_at x p) t → Spelled (λ more. sign Sign.Assign ∷ more) ts us → ReadsEnded e a b us rest
    → ReadsStm (run.Stm.set x p e) h b (t ∷ ts) rest
read_set x p t n fit f y = one (Stm.set x p) (run.Stm.set x p) (λ s w. w) (λ m s w. refl) (λ s w. refl) (λ s w more. refl)
    (behind (λ more. name_at x p ∷ sign Sign.Assign ∷ more) (λ more g. (fit, f more g)) (named x n y))

pub read_add : (x : List ℕ) (q p : Place) {e : run.Exp} {h a b : Held} {ts us rest : List Token} (t : Token) → a ≡ seen_name x h
    → Fits (name_at x q) t → Spelled (λ more. sign_at Sign.AddAssign p ∷ more) ts us → ReadsEnded e a b us rest
    → ReadsStm (run.Stm.add x q p e) h b (t ∷ ts) rest
read_add x q p t n fit f y = one (Stm.add x q p) (run.Stm.add x q p) (λ s w. w) (λ m s w. refl) (λ s w. refl) (λ s w more. refl)
    (behind (λ more. name_at x q ∷ sign_at Sign.AddAssign p ∷ more) (λ more g. (fit, f more g)) (named x n y))

pub read_put : (x : List ℕ) (q p : Place) {i e : run.Exp} {h a b c : Held} {ts t1 t2 t3 rest : List Token} (t u : Token) → a ≡ seen_name x h
    → Fits (name_at x q) t → Fits (sign_at Sign.OpenSquare p) u → ReadsExp 0 i a b ts t1 → Spelled (λ more. sign Sign.CloseSquare ∷ more) t1 t2
    → Spelled (λ more. sign Sign.Assign ∷ more) t2 t3
    → ReadsEnded e b c t3 rest → ReadsStm (run.Stm.put x q p i e) h c (t ∷ u ∷ ts) rest
read_put x q p t u n fit bracket y f g z =
    two exp_sized (Stm.put x q p) (run.Stm.put x q p) (λ s v w r. (w.0, r)) (λ m s v. refl) (λ s v. refl) (λ s v more. refl)
    (behind (λ more. name_at x q ∷ sign_at Sign.OpenSquare p ∷ more) (λ more k. (fit, (bracket, k)))
    (named x n (before (λ more. sign Sign.CloseSquare ∷ sign Sign.Assign ∷ more) y (λ more k. f (sign Sign.Assign ∷ more) (g more k))))) z

pub read_return : (p : Place) {e : run.Exp} {a b : Held} {ts rest : List Token} (t : Token) → Fits (word_at Word.Return p) t
    → ReadsEnded e a b ts rest → ReadsStm (run.Stm.return p e) a b (t ∷ ts) rest
read_return p {ts = ts} t fit y = one (Stm.return p) (run.Stm.return p) (λ s w. w) (λ m s w. refl) (λ s w. refl) (λ s w more. refl)
    (behind (λ more. word_at Word.Return p ∷ more) (at_front (word_at Word.Return p) t ts fit) y)

pub read_leave : (p : Place) (a : Held) {ts rest : List Token} (t : Token) → Fits (word_at Word.Return p) t
    → Spelled (λ more. sign Sign.Semicolon ∷ more) ts rest → ReadsStm (run.Stm.leave p) a a (t ∷ ts) rest
read_leave p a t fit f = record { text = Stm.leave p; well = tt; runs = refl; adds = after_nothing a; spelled = λ more g. (fit, f more g) }

pub read_just : (p : Place) {e : run.Exp} {a b : Held} {ts rest : List Token} (t : Token) → p ≡ place t → ReadsEnded e a b (t ∷ ts) rest
    → ReadsStm (run.Stm.just p e) a b (t ∷ ts) rest
read_just p {ts = ts} t eq y = record {
  text = Stm.just p y.text;
  well = y.well;
  runs = ap (run.Stm.just p) y.runs;
  adds = y.adds;
  spelled =
      λ more f. start_fits p (spell y.text (sign Sign.Semicolon ∷ more)) t ts eq (y.spelled more f);
}

pub read_while : (p : Place) {e : run.Exp} {d : run.Stms} {a b c : Held} {ts mid rest : List Token} (t : Token) → Fits (word_at Word.While p) t
    → ReadsTest e a b ts mid → ReadsBlock d b c mid rest → ReadsStm (run.Stm.while p e d) a c (t ∷ ts) rest
read_while p {ts = ts} t fit x y = two exp_sized (Stm.while p) (run.Stm.while p) (λ s v w r. (w, r)) (λ m s v. refl) (λ s v. refl)
    (λ s v more. refl) (behind (λ more. word_at Word.While p ∷ more) (at_front (word_at Word.While p) t ts fit) x) y

pub read_do : (p : Place) {e : run.Exp} {d : run.Stms} {a b c : Held} {ts t1 t2 t3 rest : List Token} (t : Token) → Fits (word_at Word.Do p) t
    → ReadsBlock d a b ts t1 → Spelled (λ more. word Word.While ∷ more) t1 t2 → ReadsTest e b c t2 t3
    → Spelled (λ more. sign Sign.Semicolon ∷ more) t3 rest
    → ReadsStm (run.Stm.repeat p d e) a c (t ∷ ts) rest
read_do p {ts = ts} t fit x f y g =
    two stms_sized (Stm.repeat p) (run.Stm.repeat p) (λ s v w r. (w, r)) (λ m s v. refl) (λ s v. refl) (λ s v more. refl)
    (behind (λ more. word_at Word.Do p ∷ more) (at_front (word_at Word.Do p) t ts fit) (before (λ more. word Word.While ∷ more) x f))
    (before (λ more. sign Sign.Semicolon ∷ more) y g)

pub read_for : (p : Place) (x : List ℕ) {e : run.Exp} {d : run.Stms} {a b c : Held} {ts mid rest : List Token} (t : Token)
    → Fits (word_at Word.For p) t → ReadsEach x e a b ts mid → ReadsBlock d b c mid rest → ReadsStm (run.Stm.for p x e d) a c (t ∷ ts) rest
read_for p x {ts = ts} t fit y z = two exp_sized (Stm.for p x) (run.Stm.for p x) (λ s v w r. (w, r)) (λ m s v. refl) (λ s v. refl)
    (λ s v more. refl) (behind (λ more. word_at Word.For p ∷ more) (at_front (word_at Word.For p) t ts fit) y) z

-- ---- blocks

pub read_no_stms : (a : Held) (ts : List Token) → ReadsStms run.Stms.no_stms a a ts ts
read_no_stms a ts = record { text = Stms.no_stms; well = tt; runs = refl; adds = after_nothing a; spelled = λ more f. f }

pub read_stms : {s : run.Stm} {ss : run.Stms} {a b c : Held} {ts mid rest : List Token} → ReadsStm s a b ts mid → ReadsStms ss b c mid rest
    → ReadsStms (run.Stms.stm s ss) a c ts rest
read_stms x y = two stm_sized Stms.stm run.Stms.stm (λ s v w r. (w, r)) (λ m s v. refl) (λ s v. refl) (λ s v more. refl) x y

pub read_block : {d : run.Stms} {a b : Held} {ts t1 t2 rest : List Token} → Spelled (λ more. sign Sign.OpenCurly ∷ more) ts t1
    → ReadsStms d a b t1 t2 → Spelled (λ more. sign Sign.CloseCurly ∷ more) t2 rest → ReadsBlock d a b ts rest
read_block f x g = behind (λ more. sign Sign.OpenCurly ∷ more) f (before (λ more. sign Sign.CloseCurly ∷ more) x g)

-- ---- choices

pub read_arm : {e : run.Exp} {d : run.Stms} {a b c : Held} {ts mid rest : List Token} → ReadsTest e a b ts mid → ReadsBlock d b c mid rest
    → ReadsArm e d a c ts rest
read_arm x y = two exp_sized (λ e b. record { test = e; body = b }) (λ e b. record { test = e; body = b }) (λ s v w r. (w, r)) (λ m s v. refl)
    (λ s v. refl) (λ s v more. refl) x y

arm_sized : (x : Arm) → Sized (both (exp_part x.test) (stms_part x.body))
arm_sized x = both_sized (exp_part x.test) (stms_part x.body) (exp_sized x.test) (stms_sized x.body)

-- an arm and what stands behind it
arms_parts : (e b r l : Part) → both (both e b) (both r l) ≡ both (both e (both b r)) l
arms_parts e b r l = both_assoc e b (both r l) ∙ ap (both e) (sym (both_assoc b r l)) ∙ sym (both_assoc e (both b r) l)

arms_behind : (n e b r : ℕ) → n + (e + b) + r ≡ n + (e + (b + r))
arms_behind n e b r = omega arith

arms_after : (n e b : ℕ) → n + (e + b) ≡ n + e + b
arms_after n e b = omega arith

abbrev cases_of : Place → Arm → Rest → Stm
cases_of p x y = Stm.cases p (Arms.arm p x.test x.body y.arms) y.last

abbrev cases_run : Place → ArmRun → RestRun → run.Stm
cases_run p x y = run.Stm.cases p (run.Arms.arm p x.test x.body y.arms) y.last

pub read_cases : (p : Place) {e : run.Exp} {d : run.Stms} {r : RestRun} {a b c : Held} {ts mid rest : List Token} (t : Token)
    → Fits (word_at Word.If p) t → ReadsArm e d a b ts mid → ReadsRest r b c mid rest
    → ReadsStm (cases_run p (record { test = e; body = d }) r) a c (t ∷ ts) rest
read_cases p {ts = ts} t fit x y =
    two arm_sized (cases_of p) (cases_run p) (λ s v w q. ((w.0, w.1, q.0), refl, q.1))
    (λ n s v. λ i. run.Stm.cases p (run.Arms.arm p (tree n s.test) (stms_tree (n + lifted.count s.test) s.body)
    (arms_tree (arms_after n (lifted.count s.test) (lifted.stms_count s.body) i) v.arms))
    (else_tree (arms_behind n (lifted.count s.test) (lifted.stms_count s.body) (lifted.arms_count v.arms) i) v.last))
    (λ s v. arms_parts (exp_part s.test) (stms_part s.body) (arms_part v.arms) (else_part v.last)) (λ s v more. refl)
    (behind (λ more. Mark.also p (word_at Word.If p) ∷ more) (at_front (Mark.also p (word_at Word.If p)) t ts (fit.1, fit)) x) y

pub read_else_if : (p : Place) {e : run.Exp} {d : run.Stms} {r : RestRun} {a b c : Held} {ts t1 t2 mid rest : List Token}
    → Spelled (λ more. word Word.Else ∷ more) ts t1 → Spelled (λ more. word_at Word.If p ∷ more) t1 t2 → ReadsArm e d a b t2 mid
    → ReadsRest r b c mid rest
    → ReadsRest (record { arms = run.Arms.arm p e d r.arms; last = r.last }) a c ts rest
read_else_if p f g x y =
    two arm_sized (λ (s : Arm) (v : Rest). record { arms = Arms.arm p s.test s.body v.arms; last = v.last })
    (λ (s : ArmRun) (v : RestRun). record { arms = run.Arms.arm p s.test s.body v.arms; last = v.last }) (λ s v w q. ((w.0, w.1, q.0), q.1))
    (λ n s v. λ i. record {
      arms = run.Arms.arm p (tree n s.test) (stms_tree (n + lifted.count s.test) s.body)
          (arms_tree (arms_after n (lifted.count s.test) (lifted.stms_count s.body) i) v.arms);
      last =
          else_tree (arms_behind n (lifted.count s.test) (lifted.stms_count s.body) (lifted.arms_count v.arms) i) v.last;
    })
    (λ s v. arms_parts (exp_part s.test) (stms_part s.body) (arms_part v.arms) (else_part v.last)) (λ s v more. refl)
    (behind (λ more. word Word.Else ∷ word_at Word.If p ∷ more) (λ more k. f (word_at Word.If p ∷ more) (g more k)) x) y

pub read_no_else : (a : Held) (ts : List Token) → ReadsRest (record { arms = run.Arms.no_arms; last = run.Else.no_else }) a a ts ts
read_no_else a ts = record {
  text = record { arms = Arms.no_arms; last = Else.no_else };
  well = (tt, tt);
  runs = refl;
  adds = after_nothing a;
  spelled = λ more f. f;
}

pub read_else : {d : run.Stms} {a b : Held} {ts mid rest : List Token} → Spelled (λ more. word Word.Else ∷ more) ts mid
    → ReadsBlock d a b mid rest → ReadsRest (record { arms = run.Arms.no_arms; last = run.Else.otherwise d }) a b ts rest
read_else f x =
    one (λ s. record { arms = Arms.no_arms; last = Else.otherwise s }) (λ r. record { arms = run.Arms.no_arms; last = run.Else.otherwise r })
    (λ s w. (tt, w)) (λ n s w. λ i. record { arms = run.Arms.no_arms; last = run.Else.otherwise (stms_tree (none n i) s) })
    (λ s w. sym (nothing_both (stms_part s))) (λ s w more. refl)
    (behind (λ more. word Word.Else ∷ more) f x)
  where
    none : (n : ℕ) → n ≡ n + 0
    none n = omega arith

-- the arms that were read so far
abbrev pub ChoiceSo : Place → List Item → Held → Held → List Token → List Token → Type 0
ChoiceSo p items a b ts rest = (t : Token) → Fits (word_at Word.If p) t → (ys : List Item) (el : run.Else) (c : Held) (end : List Token)
    → ReadsRest (record { arms = arms_view ys; last = el }) b c rest end
    → ReadsStm (run.Stm.cases p (arms_view (items ++ ys)) el) a c (t ∷ ts) end

pub choice_begun : (l c : ℕ) (items : List Item) (x : Item) (a b : Held) (ts mid : List Token) → items ≡ x ∷ [] → x.line ≡ l → x.col ≡ c
    → ReadsArm (exp_view x.test) x.body a b ts mid → ChoiceSo (at l c) items a b ts mid
choice_begun l c items x a b ts mid eq el ec r =
    subst (λ xs. ChoiceSo (at l c) xs a b ts mid) (sym eq) (λ t fit ys last d end y.
    subst (λ p. ReadsStm (run.Stm.cases (at l c) (run.Arms.arm p (exp_view x.test) x.body (arms_view ys)) last) a d (t ∷ ts) end)
    (λ i. at (sym el i) (sym ec i)) (read_cases (at l c) t fit r y))

pub choice_next : (p : Place) (items new : List Item) (x : Item) (u : Token) (a b c : Held) (ts rest t1 t2 next : List Token) → new ≡ items ++ x
    ∷ [] → x.line ≡ u.line → x.col ≡ u.col → Spelled (λ more. word Word.Else ∷ more) rest t1
    → Spelled (λ more. word_at Word.If (place u) ∷ more) t1 t2 → ReadsArm (exp_view x.test) x.body b c t2 next
    → ChoiceSo p items a b ts rest → ChoiceSo p new a c ts next
choice_next p items new x u a b c ts rest t1 t2 next eq el ec f g r so =
    subst (λ xs. ChoiceSo p xs a c ts next) (sym eq) (λ t fit ys last d end y.
    subst (λ zs. ReadsStm (run.Stm.cases p (arms_view zs) last) a d (t ∷ ts) end) (sym (append_assoc items (x ∷ []) ys)) (so t fit (x ∷ ys) last d end
    (subst (λ q. ReadsRest (record { arms = run.Arms.arm q (exp_view x.test) x.body (arms_view ys); last = last }) b d rest end)
    (λ i. at (sym el i) (sym ec i)) (read_else_if (place u) f g r y))))

pub choice_done : (p : Place) (items : List Item) (el : run.Else) (a b c : Held) (ts rest end : List Token)
    → ReadsRest (record { arms = run.Arms.no_arms; last = el }) b c rest end → ChoiceSo p items a b ts rest → (t : Token)
    → Fits (word_at Word.If p) t → ReadsStm (run.Stm.cases p (arms_view items) el) a c (t ∷ ts) end
choice_done p items el a b c ts rest end y so t fit =
    subst (λ zs. ReadsStm (run.Stm.cases p (arms_view zs) el) a c (t ∷ ts) end) (append-nil items) (so t fit [] el c end y)
