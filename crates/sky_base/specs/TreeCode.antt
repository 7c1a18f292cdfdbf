-- A code for the trees, by which a proof tells them apart.
use Rattle.std.specs.Prelude.{◌≡◌, ℕ, zero, suc, List, [], ◌∷◌, refl, pos, negsuc, Bool, true, false}
use Rattle.std.proofs.Common.{sym, ap, ◌∙◌}
use Rattle.std.specs.Coded.{Coded}
use base.Stored.{Gv, gnil, gnum, gcons}
use Rattle.sky_base.specs.Code.{bytes, bytes_back, bytes_same, num_back}
use Rattle.sky_base.specs.Op.{Order}
use Rattle.sky_base.specs.Tree.{Place, Lit, Oper, Junction, Form, Sign, SignAt, Exp, Exps, Links, Ands, Steps, Stm, Stms, Arms, Else}

abbrev pub nth : {A : Type 0} → ℕ → List A → A → A
nth n [] d = d
nth zero (x ∷ xs) d = x
nth (suc n) (x ∷ xs) d = nth n xs d

abbrev pub no_place : Place
no_place = record { line = 0; col = 0 }

abbrev pub place_code : Place → Gv
place_code p = gcons (gnum p.line) (gnum p.col)

abbrev pub place_back : Gv → Place
place_back gnil = no_place
place_back (gnum n) = no_place
place_back (gcons a b) = record { line = num_back a; col = num_back b }

abbrev pub place_same : (p : Place) → place_back (place_code p) ≡ p
place_same p = refl

abbrev pub lit_to : Lit → Gv
lit_to Lit.null = gnil
lit_to (Lit.truth false) = gnum 0
lit_to (Lit.truth true) = gnum 1
lit_to (Lit.num (pos n)) = gcons (gnum 0) (gnum n)
lit_to (Lit.num (negsuc n)) = gcons (gnum 1) (gnum n)
lit_to (Lit.text t) = gcons (gnum 2) (bytes t)

abbrev pub lit_bit : ℕ → Bool
lit_bit zero = false
lit_bit (suc n) = true

abbrev pub lit_from : Gv → Lit
lit_from gnil = Lit.null
lit_from (gnum n) = Lit.truth (lit_bit n)
lit_from (gcons t a) = nth (num_back t) (Lit.num (pos (num_back a)) ∷ Lit.num (negsuc (num_back a)) ∷ []) (Lit.text (bytes_back a))

pub lit_same : (x : Lit) → lit_from (lit_to x) ≡ x
lit_same Lit.null = refl
lit_same (Lit.truth false) = refl
lit_same (Lit.truth true) = refl
lit_same (Lit.num (pos n)) = refl
lit_same (Lit.num (negsuc n)) = refl
lit_same (Lit.text t) = ap Lit.text (bytes_same t)

abbrev pub oper_code : Oper → Gv
oper_code Oper.plus = gnum 0
oper_code Oper.minus = gnum 1
oper_code Oper.times = gnum 2
oper_code Oper.over = gnum 3
oper_code Oper.rest = gnum 4
oper_code (Oper.compare Order.eq) = gnum 5
oper_code (Oper.compare Order.ne) = gnum 6
oper_code (Oper.compare Order.lt) = gnum 7
oper_code (Oper.compare Order.le) = gnum 8
oper_code (Oper.compare Order.gt) = gnum 9
oper_code (Oper.compare Order.ge) = gnum 10

abbrev pub oper_back : Gv → Oper
oper_back g = nth (num_back g) (Oper.plus ∷ Oper.minus ∷ Oper.times ∷ Oper.over ∷ Oper.rest ∷ Oper.compare Order.eq ∷ Oper.compare Order.ne
    ∷ Oper.compare Order.lt ∷ Oper.compare Order.le ∷ Oper.compare Order.gt ∷ Oper.compare Order.ge ∷ []) Oper.plus

pub oper_same : (x : Oper) → oper_back (oper_code x) ≡ x
oper_same Oper.plus = refl
oper_same Oper.minus = refl
oper_same Oper.times = refl
oper_same Oper.over = refl
oper_same Oper.rest = refl
oper_same (Oper.compare Order.eq) = refl
oper_same (Oper.compare Order.ne) = refl
oper_same (Oper.compare Order.lt) = refl
oper_same (Oper.compare Order.le) = refl
oper_same (Oper.compare Order.gt) = refl
oper_same (Oper.compare Order.ge) = refl

abbrev pub junction_code : Junction → Gv
junction_code Junction.both = gnum 0
junction_code Junction.either = gnum 1

abbrev pub junction_back : Gv → Junction
junction_back g = nth (num_back g) (Junction.both ∷ Junction.either ∷ []) Junction.both

pub junction_same : (x : Junction) → junction_back (junction_code x) ≡ x
junction_same Junction.both = refl
junction_same Junction.either = refl

abbrev pub form_code : Form → Gv
form_code Form.list = gnum 0
form_code Form.dict = gnum 1
form_code Form.spawn = gnum 2
form_code Form.spawn_exec = gnum 3
form_code Form.exec = gnum 4
form_code Form.ref = gnum 5
form_code Form.len = gnum 6
form_code Form.keys = gnum 7
form_code Form.has = gnum 8
form_code Form.range = gnum 9

abbrev pub form_back : Gv → Form
form_back g = nth (num_back g) (Form.list ∷ Form.dict ∷ Form.spawn ∷ Form.spawn_exec ∷ Form.exec ∷ Form.ref ∷ Form.len ∷ Form.keys ∷ Form.has
    ∷ Form.range ∷ []) Form.list

pub form_same : (x : Form) → form_back (form_code x) ≡ x
form_same Form.list = refl
form_same Form.dict = refl
form_same Form.spawn = refl
form_same Form.spawn_exec = refl
form_same Form.exec = refl
form_same Form.ref = refl
form_same Form.len = refl
form_same Form.keys = refl
form_same Form.has = refl
form_same Form.range = refl

abbrev pub sign_code : Sign → Gv
sign_code Sign.not = gnum 0
sign_code Sign.minus = gnum 1
sign_code Sign.star = gnum 2

abbrev pub sign_back : Gv → Sign
sign_back g = nth (num_back g) (Sign.not ∷ Sign.minus ∷ Sign.star ∷ []) Sign.not

pub sign_same : (x : Sign) → sign_back (sign_code x) ≡ x
sign_same Sign.not = refl
sign_same Sign.minus = refl
sign_same Sign.star = refl

abbrev pub signs_code : List SignAt → Gv
signs_code [] = gnil
signs_code (s ∷ ss) = gcons (gcons (sign_code s.sign) (place_code s.place)) (signs_code ss)

abbrev pub signs_back : Gv → List SignAt
signs_back gnil = []
signs_back (gnum n) = []
signs_back (gcons (gcons a b) g) = record { sign = sign_back a; place = place_back b } ∷ signs_back g
signs_back (gcons gnil g) = []
signs_back (gcons (gnum n) g) = []

pub signs_same : (x : List SignAt) → signs_back (signs_code x) ≡ x
signs_same [] = refl
signs_same (s ∷ ss) = λ i. record { sign = sign_same s.sign i; place = s.place } ∷ signs_same ss i

abbrev mutual
  pub exp_to : Exp → Gv
  exp_to (Exp.literal x0 x1) = gcons (gnum 0) (gcons (lit_to x0) (gcons (place_code x1) gnil))
  exp_to (Exp.name x0 x1) = gcons (gnum 1) (gcons (bytes x0) (gcons (place_code x1) gnil))
  exp_to (Exp.func x0 x1) = gcons (gnum 5) (gcons (bytes x0) (gcons (place_code x1) gnil))
  exp_to (Exp.parens x0) = gcons (gnum 0) (gcons (exp_to x0) gnil)
  exp_to (Exp.parts x0 x1 x2) = gcons (gnum 0) (gcons (form_code x0) (gcons (place_code x1) (gcons (exps_to x2) gnil)))
  exp_to (Exp.chain x0 x1) = gcons (gnum 2) (gcons (exp_to x0) (gcons (links_to x1) gnil))
  exp_to (Exp.logic x0 x1 x2) = gcons (gnum 1) (gcons (junction_code x0) (gcons (exp_to x1) (gcons (ands_to x2) gnil)))
  exp_to (Exp.prefix x0 x1) = gcons (gnum 3) (gcons (signs_code x0) (gcons (exp_to x1) gnil))
  exp_to (Exp.postfix x0 x1) = gcons (gnum 4) (gcons (exp_to x0) (gcons (steps_to x1) gnil))

  pub exps_to : Exps → Gv
  exps_to Exps.no_exps = gcons (gnum 0) gnil
  exps_to (Exps.exp x0 x1) = gcons (gnum 0) (gcons (exp_to x0) (gcons (exps_to x1) gnil))

  pub links_to : Links → Gv
  links_to Links.no_links = gcons (gnum 0) gnil
  links_to (Links.link x0 x1 x2 x3) = gcons (gnum 0) (gcons (oper_code x0) (gcons (place_code x1) (gcons (exp_to x2) (gcons (links_to x3) gnil))))

  pub ands_to : Ands → Gv
  ands_to Ands.no_ands = gcons (gnum 0) gnil
  ands_to (Ands.and x0 x1 x2) = gcons (gnum 0) (gcons (place_code x0) (gcons (exp_to x1) (gcons (ands_to x2) gnil)))

  pub steps_to : Steps → Gv
  steps_to Steps.no_steps = gcons (gnum 0) gnil
  steps_to (Steps.index x0 x1 x2) = gcons (gnum 0) (gcons (exp_to x0) (gcons (place_code x1) (gcons (steps_to x2) gnil)))
  steps_to (Steps.call x0 x1 x2) = gcons (gnum 1) (gcons (exps_to x0) (gcons (place_code x1) (gcons (steps_to x2) gnil)))

abbrev mutual
  pub exp_from : Gv → Exp
  exp_from gnil = Exp.literal Lit.null no_place
  exp_from (gnum n) = Exp.literal Lit.null no_place
  exp_from (gcons t gnil) = Exp.literal Lit.null no_place
  exp_from (gcons t (gnum n)) = Exp.literal Lit.null no_place
  exp_from (gcons t (gcons x0 gnil)) = Exp.parens (exp_from x0)
  exp_from (gcons t (gcons x0 (gnum n))) = Exp.literal Lit.null no_place
  exp_from (gcons t (gcons x0 (gcons x1 gnil))) =
      nth (num_back t) ((Exp.literal (lit_from x0) (place_back x1)) ∷ (Exp.name (bytes_back x0) (place_back x1))
      ∷ (Exp.chain (exp_from x0) (links_from x1)) ∷ (Exp.prefix (signs_back x0) (exp_from x1)) ∷ (Exp.postfix (exp_from x0) (steps_from x1))
      ∷ (Exp.func (bytes_back x0) (place_back x1)) ∷ []) (Exp.literal Lit.null no_place)
  exp_from (gcons t (gcons x0 (gcons x1 (gnum n)))) = Exp.literal Lit.null no_place
  exp_from (gcons t (gcons x0 (gcons x1 (gcons x2 gnil)))) =
      nth (num_back t) ((Exp.parts (form_back x0) (place_back x1) (exps_from x2)) ∷ (Exp.logic (junction_back x0) (exp_from x1) (ands_from x2))
      ∷ []) (Exp.literal Lit.null no_place)
  exp_from (gcons t (gcons x0 (gcons x1 (gcons x2 (gnum n))))) = Exp.literal Lit.null no_place
  exp_from (gcons t (gcons x0 (gcons x1 (gcons x2 (gcons y z))))) = Exp.literal Lit.null no_place

  pub exps_from : Gv → Exps
  exps_from gnil = Exps.no_exps
  exps_from (gnum n) = Exps.no_exps
  exps_from (gcons t gnil) = Exps.no_exps
  exps_from (gcons t (gnum n)) = Exps.no_exps
  exps_from (gcons t (gcons x0 gnil)) = Exps.no_exps
  exps_from (gcons t (gcons x0 (gnum n))) = Exps.no_exps
  exps_from (gcons t (gcons x0 (gcons x1 gnil))) = Exps.exp (exp_from x0) (exps_from x1)
  exps_from (gcons t (gcons x0 (gcons x1 (gnum n)))) = Exps.no_exps
  exps_from (gcons t (gcons x0 (gcons x1 (gcons y z)))) = Exps.no_exps

  pub links_from : Gv → Links
  links_from gnil = Links.no_links
  links_from (gnum n) = Links.no_links
  links_from (gcons t gnil) = Links.no_links
  links_from (gcons t (gnum n)) = Links.no_links
  links_from (gcons t (gcons x0 gnil)) = Links.no_links
  links_from (gcons t (gcons x0 (gnum n))) = Links.no_links
  links_from (gcons t (gcons x0 (gcons x1 gnil))) = Links.no_links
  links_from (gcons t (gcons x0 (gcons x1 (gnum n)))) = Links.no_links
  links_from (gcons t (gcons x0 (gcons x1 (gcons x2 gnil)))) = Links.no_links
  links_from (gcons t (gcons x0 (gcons x1 (gcons x2 (gnum n))))) = Links.no_links
  links_from (gcons t (gcons x0 (gcons x1 (gcons x2 (gcons x3 gnil))))) = Links.link (oper_back x0) (place_back x1) (exp_from x2) (links_from x3)
  links_from (gcons t (gcons x0 (gcons x1 (gcons x2 (gcons x3 (gnum n)))))) = Links.no_links
  links_from (gcons t (gcons x0 (gcons x1 (gcons x2 (gcons x3 (gcons y z)))))) = Links.no_links

  pub ands_from : Gv → Ands
  ands_from gnil = Ands.no_ands
  ands_from (gnum n) = Ands.no_ands
  ands_from (gcons t gnil) = Ands.no_ands
  ands_from (gcons t (gnum n)) = Ands.no_ands
  ands_from (gcons t (gcons x0 gnil)) = Ands.no_ands
  ands_from (gcons t (gcons x0 (gnum n))) = Ands.no_ands
  ands_from (gcons t (gcons x0 (gcons x1 gnil))) = Ands.no_ands
  ands_from (gcons t (gcons x0 (gcons x1 (gnum n)))) = Ands.no_ands
  ands_from (gcons t (gcons x0 (gcons x1 (gcons x2 gnil)))) = Ands.and (place_back x0) (exp_from x1) (ands_from x2)
  ands_from (gcons t (gcons x0 (gcons x1 (gcons x2 (gnum n))))) = Ands.no_ands
  ands_from (gcons t (gcons x0 (gcons x1 (gcons x2 (gcons y z))))) = Ands.no_ands

  pub steps_from : Gv → Steps
  steps_from gnil = Steps.no_steps
  steps_from (gnum n) = Steps.no_steps
  steps_from (gcons t gnil) = Steps.no_steps
  steps_from (gcons t (gnum n)) = Steps.no_steps
  steps_from (gcons t (gcons x0 gnil)) = Steps.no_steps
  steps_from (gcons t (gcons x0 (gnum n))) = Steps.no_steps
  steps_from (gcons t (gcons x0 (gcons x1 gnil))) = Steps.no_steps
  steps_from (gcons t (gcons x0 (gcons x1 (gnum n)))) = Steps.no_steps
  steps_from (gcons t (gcons x0 (gcons x1 (gcons x2 gnil)))) =
      nth (num_back t) ((Steps.index (exp_from x0) (place_back x1) (steps_from x2)) ∷ (Steps.call (exps_from x0) (place_back x1) (steps_from x2))
      ∷ []) (Steps.no_steps)
  steps_from (gcons t (gcons x0 (gcons x1 (gcons x2 (gnum n))))) = Steps.no_steps
  steps_from (gcons t (gcons x0 (gcons x1 (gcons x2 (gcons y z))))) = Steps.no_steps

mutual
  pub exp_same : (x : Exp) → exp_from (exp_to x) ≡ x
  exp_same (Exp.literal x0 x1) = λ i. Exp.literal (lit_same x0 i) (place_same x1 i)
  exp_same (Exp.name x0 x1) = λ i. Exp.name (bytes_same x0 i) (place_same x1 i)
  exp_same (Exp.func x0 x1) = λ i. Exp.func (bytes_same x0 i) (place_same x1 i)
  exp_same (Exp.parens x0) = λ i. Exp.parens (exp_same x0 i)
  exp_same (Exp.parts x0 x1 x2) = λ i. Exp.parts (form_same x0 i) (place_same x1 i) (exps_same x2 i)
  exp_same (Exp.chain x0 x1) = λ i. Exp.chain (exp_same x0 i) (links_same x1 i)
  exp_same (Exp.logic x0 x1 x2) = λ i. Exp.logic (junction_same x0 i) (exp_same x1 i) (ands_same x2 i)
  exp_same (Exp.prefix x0 x1) = λ i. Exp.prefix (signs_same x0 i) (exp_same x1 i)
  exp_same (Exp.postfix x0 x1) = λ i. Exp.postfix (exp_same x0 i) (steps_same x1 i)

  pub exps_same : (x : Exps) → exps_from (exps_to x) ≡ x
  exps_same Exps.no_exps = refl
  exps_same (Exps.exp x0 x1) = λ i. Exps.exp (exp_same x0 i) (exps_same x1 i)

  pub links_same : (x : Links) → links_from (links_to x) ≡ x
  links_same Links.no_links = refl
  links_same (Links.link x0 x1 x2 x3) = λ i. Links.link (oper_same x0 i) (place_same x1 i) (exp_same x2 i) (links_same x3 i)

  pub ands_same : (x : Ands) → ands_from (ands_to x) ≡ x
  ands_same Ands.no_ands = refl
  ands_same (Ands.and x0 x1 x2) = λ i. Ands.and (place_same x0 i) (exp_same x1 i) (ands_same x2 i)

  pub steps_same : (x : Steps) → steps_from (steps_to x) ≡ x
  steps_same Steps.no_steps = refl
  steps_same (Steps.index x0 x1 x2) = λ i. Steps.index (exp_same x0 i) (place_same x1 i) (steps_same x2 i)
  steps_same (Steps.call x0 x1 x2) = λ i. Steps.call (exps_same x0 i) (place_same x1 i) (steps_same x2 i)

abbrev pub exp_code : Coded Exp
exp_code = record { code = exp_to; inj = λ x y e. sym (exp_same x) ∙ ap exp_from e ∙ exp_same y }

abbrev pub exps_code : Coded Exps
exps_code = record { code = exps_to; inj = λ x y e. sym (exps_same x) ∙ ap exps_from e ∙ exps_same y }

abbrev pub links_code : Coded Links
links_code = record { code = links_to; inj = λ x y e. sym (links_same x) ∙ ap links_from e ∙ links_same y }

abbrev pub ands_code : Coded Ands
ands_code = record { code = ands_to; inj = λ x y e. sym (ands_same x) ∙ ap ands_from e ∙ ands_same y }

abbrev pub steps_code : Coded Steps
steps_code = record { code = steps_to; inj = λ x y e. sym (steps_same x) ∙ ap steps_from e ∙ steps_same y }

abbrev mutual
  pub stm_to : Stm → Gv
  stm_to (Stm.set x0 x1 x2) = gcons (gnum 0) (gcons (bytes x0) (gcons (place_code x1) (gcons (exp_to x2) gnil)))
  stm_to (Stm.add x0 x1 x2 x3) = gcons (gnum 0) (gcons (bytes x0) (gcons (place_code x1) (gcons (place_code x2) (gcons (exp_to x3) gnil))))
  stm_to (Stm.put x0 x1 x2 x3 x4) = gcons (gnum 0)
      (gcons (bytes x0) (gcons (place_code x1) (gcons (place_code x2) (gcons (exp_to x3) (gcons (exp_to x4) gnil)))))
  stm_to (Stm.return x0 x1) = gcons (gnum 0) (gcons (place_code x0) (gcons (exp_to x1) gnil))
  stm_to (Stm.leave x0) = gcons (gnum 0) (gcons (place_code x0) gnil)
  stm_to (Stm.cases x0 x1 x2) = gcons (gnum 1) (gcons (place_code x0) (gcons (arms_to x1) (gcons (else_to x2) gnil)))
  stm_to (Stm.while x0 x1 x2) = gcons (gnum 2) (gcons (place_code x0) (gcons (exp_to x1) (gcons (stms_to x2) gnil)))
  stm_to (Stm.repeat x0 x1 x2) = gcons (gnum 3) (gcons (place_code x0) (gcons (stms_to x1) (gcons (exp_to x2) gnil)))
  stm_to (Stm.for x0 x1 x2 x3) = gcons (gnum 1) (gcons (place_code x0) (gcons (bytes x1) (gcons (exp_to x2) (gcons (stms_to x3) gnil))))
  stm_to (Stm.just x0 x1) = gcons (gnum 1) (gcons (place_code x0) (gcons (exp_to x1) gnil))

  pub stms_to : Stms → Gv
  stms_to Stms.no_stms = gcons (gnum 0) gnil
  stms_to (Stms.stm x0 x1) = gcons (gnum 0) (gcons (stm_to x0) (gcons (stms_to x1) gnil))

  pub arms_to : Arms → Gv
  arms_to Arms.no_arms = gcons (gnum 0) gnil
  arms_to (Arms.arm x0 x1 x2 x3) = gcons (gnum 0) (gcons (place_code x0) (gcons (exp_to x1) (gcons (stms_to x2) (gcons (arms_to x3) gnil))))

  pub else_to : Else → Gv
  else_to Else.no_else = gcons (gnum 0) gnil
  else_to (Else.otherwise x0) = gcons (gnum 0) (gcons (stms_to x0) gnil)

abbrev mutual
  pub stm_from : Gv → Stm
  stm_from gnil = Stm.leave no_place
  stm_from (gnum n) = Stm.leave no_place
  stm_from (gcons t gnil) = Stm.leave no_place
  stm_from (gcons t (gnum n)) = Stm.leave no_place
  stm_from (gcons t (gcons x0 gnil)) = Stm.leave (place_back x0)
  stm_from (gcons t (gcons x0 (gnum n))) = Stm.leave no_place
  stm_from (gcons t (gcons x0 (gcons x1 gnil))) =
      nth (num_back t) ((Stm.return (place_back x0) (exp_from x1)) ∷ (Stm.just (place_back x0) (exp_from x1)) ∷ []) (Stm.leave no_place)
  stm_from (gcons t (gcons x0 (gcons x1 (gnum n)))) = Stm.leave no_place
  stm_from (gcons t (gcons x0 (gcons x1 (gcons x2 gnil)))) =
      nth (num_back t) ((Stm.set (bytes_back x0) (place_back x1) (exp_from x2)) ∷ (Stm.cases (place_back x0) (arms_from x1) (else_from x2))
      ∷ (Stm.while (place_back x0) (exp_from x1) (stms_from x2)) ∷ (Stm.repeat (place_back x0) (stms_from x1) (exp_from x2)) ∷ [])
      (Stm.leave no_place)
  stm_from (gcons t (gcons x0 (gcons x1 (gcons x2 (gnum n))))) = Stm.leave no_place
  stm_from (gcons t (gcons x0 (gcons x1 (gcons x2 (gcons x3 gnil))))) =
      nth (num_back t) ((Stm.add (bytes_back x0) (place_back x1) (place_back x2) (exp_from x3))
      ∷ (Stm.for (place_back x0) (bytes_back x1) (exp_from x2) (stms_from x3)) ∷ []) (Stm.leave no_place)
  stm_from (gcons t (gcons x0 (gcons x1 (gcons x2 (gcons x3 (gnum n)))))) = Stm.leave no_place
  stm_from (gcons t (gcons x0 (gcons x1 (gcons x2 (gcons x3 (gcons x4 gnil)))))) =
      Stm.put (bytes_back x0) (place_back x1) (place_back x2) (exp_from x3) (exp_from x4)
  stm_from (gcons t (gcons x0 (gcons x1 (gcons x2 (gcons x3 (gcons x4 (gnum n))))))) = Stm.leave no_place
  stm_from (gcons t (gcons x0 (gcons x1 (gcons x2 (gcons x3 (gcons x4 (gcons y z))))))) = Stm.leave no_place

  pub stms_from : Gv → Stms
  stms_from gnil = Stms.no_stms
  stms_from (gnum n) = Stms.no_stms
  stms_from (gcons t gnil) = Stms.no_stms
  stms_from (gcons t (gnum n)) = Stms.no_stms
  stms_from (gcons t (gcons x0 gnil)) = Stms.no_stms
  stms_from (gcons t (gcons x0 (gnum n))) = Stms.no_stms
  stms_from (gcons t (gcons x0 (gcons x1 gnil))) = Stms.stm (stm_from x0) (stms_from x1)
  stms_from (gcons t (gcons x0 (gcons x1 (gnum n)))) = Stms.no_stms
  stms_from (gcons t (gcons x0 (gcons x1 (gcons y z)))) = Stms.no_stms

  pub arms_from : Gv → Arms
  arms_from gnil = Arms.no_arms
  arms_from (gnum n) = Arms.no_arms
  arms_from (gcons t gnil) = Arms.no_arms
  arms_from (gcons t (gnum n)) = Arms.no_arms
  arms_from (gcons t (gcons x0 gnil)) = Arms.no_arms
  arms_from (gcons t (gcons x0 (gnum n))) = Arms.no_arms
  arms_from (gcons t (gcons x0 (gcons x1 gnil))) = Arms.no_arms
  arms_from (gcons t (gcons x0 (gcons x1 (gnum n)))) = Arms.no_arms
  arms_from (gcons t (gcons x0 (gcons x1 (gcons x2 gnil)))) = Arms.no_arms
  arms_from (gcons t (gcons x0 (gcons x1 (gcons x2 (gnum n))))) = Arms.no_arms
  arms_from (gcons t (gcons x0 (gcons x1 (gcons x2 (gcons x3 gnil))))) = Arms.arm (place_back x0) (exp_from x1) (stms_from x2) (arms_from x3)
  arms_from (gcons t (gcons x0 (gcons x1 (gcons x2 (gcons x3 (gnum n)))))) = Arms.no_arms
  arms_from (gcons t (gcons x0 (gcons x1 (gcons x2 (gcons x3 (gcons y z)))))) = Arms.no_arms

  pub else_from : Gv → Else
  else_from gnil = Else.no_else
  else_from (gnum n) = Else.no_else
  else_from (gcons t gnil) = Else.no_else
  else_from (gcons t (gnum n)) = Else.no_else
  else_from (gcons t (gcons x0 gnil)) = Else.otherwise (stms_from x0)
  else_from (gcons t (gcons x0 (gnum n))) = Else.no_else
  else_from (gcons t (gcons x0 (gcons y z))) = Else.no_else

mutual
  pub stm_same : (x : Stm) → stm_from (stm_to x) ≡ x
  stm_same (Stm.set x0 x1 x2) = λ i. Stm.set (bytes_same x0 i) (place_same x1 i) (exp_same x2 i)
  stm_same (Stm.add x0 x1 x2 x3) = λ i. Stm.add (bytes_same x0 i) (place_same x1 i) (place_same x2 i) (exp_same x3 i)
  stm_same (Stm.put x0 x1 x2 x3 x4) = λ i. Stm.put (bytes_same x0 i) (place_same x1 i) (place_same x2 i) (exp_same x3 i) (exp_same x4 i)
  stm_same (Stm.return x0 x1) = λ i. Stm.return (place_same x0 i) (exp_same x1 i)
  stm_same (Stm.leave x0) = λ i. Stm.leave (place_same x0 i)
  stm_same (Stm.cases x0 x1 x2) = λ i. Stm.cases (place_same x0 i) (arms_same x1 i) (else_same x2 i)
  stm_same (Stm.while x0 x1 x2) = λ i. Stm.while (place_same x0 i) (exp_same x1 i) (stms_same x2 i)
  stm_same (Stm.repeat x0 x1 x2) = λ i. Stm.repeat (place_same x0 i) (stms_same x1 i) (exp_same x2 i)
  stm_same (Stm.for x0 x1 x2 x3) = λ i. Stm.for (place_same x0 i) (bytes_same x1 i) (exp_same x2 i) (stms_same x3 i)
  stm_same (Stm.just x0 x1) = λ i. Stm.just (place_same x0 i) (exp_same x1 i)

  pub stms_same : (x : Stms) → stms_from (stms_to x) ≡ x
  stms_same Stms.no_stms = refl
  stms_same (Stms.stm x0 x1) = λ i. Stms.stm (stm_same x0 i) (stms_same x1 i)

  pub arms_same : (x : Arms) → arms_from (arms_to x) ≡ x
  arms_same Arms.no_arms = refl
  arms_same (Arms.arm x0 x1 x2 x3) = λ i. Arms.arm (place_same x0 i) (exp_same x1 i) (stms_same x2 i) (arms_same x3 i)

  pub else_same : (x : Else) → else_from (else_to x) ≡ x
  else_same Else.no_else = refl
  else_same (Else.otherwise x0) = λ i. Else.otherwise (stms_same x0 i)

abbrev pub stms_code : Coded Stms
stms_code = record { code = stms_to; inj = λ x y e. sym (stms_same x) ∙ ap stms_from e ∙ stms_same y }

abbrev pub arms_code : Coded Arms
arms_code = record { code = arms_to; inj = λ x y e. sym (arms_same x) ∙ ap arms_from e ∙ arms_same y }
