-- Lists of references, waiting for several objects, and outputs one at a time.
use Rattle.std.proofs.Common.{◌≡◌, ℕ, zero, suc, ◌+◌, ◌*◌, ◌-◌, ◌<◌, ◌≤◌, List, [], ◌∷◌, ◌++◌, length, drop, true, ◌&&◌, Option, Some, None, refl}
use Rattle.std.proofs.Common.{sym, ap, ◌∙◌, arith, get_or, append-nil, pos, nat_lt}
use Rattle.std.proofs.lemmas.Bool.Decides.{nat_tests}
use Rattle.sky_base.specs.Val.{Val, Vals, sizes, count, num, list, ref}
use Rattle.sky_base.specs.Op.{join}
use Rattle.sky_base.specs.Val.{add_val, refs_to, depths, known, out}
use Rattle.sky_base.specs.Tree.{Place, Form}
use Rattle.sky_base.specs.Names.{known_of}
use Rattle.sky_base.specs.declared.fault.Fault.{Fault}
use Rattle.sky_base.specs.See.{slot}
use Rattle.sky_base.specs.Eval.{outputs}
use Rattle.sky_base.specs.Kept.{Kept}
use Rattle.sky_base_scope.specs.RunView.{fault_first, three_vals}
use Rattle.sky_base_forms.proofs.Awaits.{seen_after, seen_step}
use Rattle.sky_base.specs.Res.{visits, counted}
use Rattle.sky_base_known.specs.Walk as known
use Rattle.sky_base_known.specs.Walk.{Row, Seen, seen_one, look, learn_to}
use Rattle.sky_base_known.specs.Number.{index_of}
use Rattle.sky_base_scope.specs.Plain.{Vars, Cutoff, Out, learned, learn_all, Ground, outputs_count, outputs_if, outputs_of, exec_seen, exec_ask, visit}
use Rattle.sky_base_scope.specs.Plain.{visited, formed}
use Rattle.sky_base_known.specs.Walk.{Obj}
use Rattle.sky_base_scope.proofs.OpLaw.{join_step, join_end}

-- ---- references

pub refs_size : (ns : List (List ℕ)) → sizes (refs_to (known_of ns)) ≡ 32 * length ns
refs_size [] = refl
refs_size (n ∷ ns) = omega (arith, refs_size ns)

pub refs_depth : (ns : List (List ℕ)) → depths (refs_to (known_of ns)) ≤ 1
refs_depth [] = omega arith
refs_depth (n ∷ ns) = omega (arith, refs_depth ns)

pub refs_kept : (ns : List (List ℕ)) (v : Val (List ℕ)) → length ns ≤ 64 → v ≡ list (refs_to (known_of ns)) → Kept v
refs_kept ns v h e = rw e (record { deep = omega (arith, refs_depth ns); large = omega (arith, refs_size ns) })

names_at : (ns : List (List ℕ)) (i : ℕ) (d : List ℕ) → i < length ns → known_of (drop i ns) ≡ known (get_or ns i d) ∷ known_of (drop (i + 1) ns)
names_at [] i d h = absurd (omega arith)
names_at (n ∷ ns) zero d h = refl
names_at (n ∷ ns) (suc i) d h = let e : suc i + 1 ≡ suc (i + 1) = omega arith in rw e (names_at ns i d (omega arith))

names_past : (ns : List (List ℕ)) (i : ℕ) → length ns ≤ i → known_of (drop i ns) ≡ []
names_past [] zero h = refl
names_past [] (suc i) h = refl
names_past (n ∷ ns) zero h = absurd (omega arith)
names_past (n ∷ ns) (suc i) h = names_past ns i (omega arith)

pub refs_step : (vs : Vals (List ℕ)) (ns : List (List ℕ)) (i : ℕ) (d : List ℕ) → i < length ns
    → join (add_val vs (ref (known (get_or ns i d)))) (refs_to (known_of (drop (i + 1) ns))) ≡ join vs (refs_to (known_of (drop i ns)))
refs_step vs ns i d h =
    join_step vs (refs_to (known_of (drop (i + 1) ns))) (ref (known (get_or ns i d))) ∙ ap (λ ds. join vs (refs_to ds)) (sym (names_at ns i d h))

pub refs_end : (vs : Vals (List ℕ)) (ns : List (List ℕ)) (i : ℕ) → length ns ≤ i → join vs (refs_to (known_of (drop i ns))) ≡ vs
refs_end vs ns i h = ap (λ ds. join vs (refs_to ds)) (names_past ns i h) ∙ join_end vs

pub ruleset refs_list = (refs_kept, refs_step, refs_end)

-- ---- waiting for several objects

module _ (see : Row → Option Obj) (ds rows : List Row) (st : Vars) where
  pub waits_step : (f : Option Fault) (ns : List (List ℕ)) (i : ℕ) (d : List ℕ) (o : Obj) → i < length ns → d ≡ get_or ns i d → see (known d)
      ≡ Some o → seen_after f (look see (known_of (drop i ns))) ds rows st
      ≡ seen_after (fault_first f o) (look see (known_of (drop (i + 1) ns))) ds rows st
  waits_step f ns i d o h q e =
      let rest = known_of (drop (i + 1) ns) in
      let x = known (get_or ns i d) in
      ap (λ es. seen_after f (look see es) ds rows st) (names_at ns i d h)
      ∙ ap (λ z. seen_after f (seen_one z x (look see rest)) ds rows st) (ap (λ z. see (known z)) (sym q) ∙ e)
      ∙ seen_step f o (look see rest) ds rows st

  pub waits_stop : (f : Option Fault) (ns : List (List ℕ)) (i : ℕ) (d : List ℕ) → i < length ns → d ≡ get_or ns i d → see (known d) ≡ None
      → seen_after f (look see (known_of (drop i ns))) ds rows st ≡ Out.cut (Cutoff.waits (known d)) rows
  waits_stop f ns i d h q e =
      let rest = known_of (drop (i + 1) ns) in
      let x = known (get_or ns i d) in
      ap (λ es. seen_after f (look see es) ds rows st) (names_at ns i d h)
      ∙ ap (λ z. seen_after f (seen_one z x (look see rest)) ds rows st) (ap (λ z. see (known z)) (sym q) ∙ e)
      ∙ ap (λ z. Out.cut (Cutoff.waits (known z)) rows) (sym q)

  pub waits_end : (f : Option Fault) (ns : List (List ℕ)) (i : ℕ) → length ns ≤ i → seen_after f (look see (known_of (drop i ns))) ds rows st
      ≡ seen_after f (Seen.all []) ds rows st
  waits_end f ns i h = ap (λ es. seen_after f (look see es) ds rows st) (names_past ns i h)

-- ---- outputs, one at a time

module _ (x : List ℕ) (a : Val (List ℕ)) (n i : ℕ) (rows : List Row) (names : List (List ℕ)) (k : List Row → List Row → Out) where
  pub outputs_step : (more : List Row) (name : List ℕ) → i < n → learn_to rows (out x a n i) ≡ Some more → slot (index_of (out x a n i) more)
      ≡ name → learn_all (outputs x a n i (n - i)) rows (λ ns last. k (known_of names ++ ns) last)
      ≡ learn_all (outputs x a n (i + 1) (n - (i + 1))) more (λ ns last. k (known_of (names ++ name ∷ []) ++ ns) last)
  outputs_step more name h e f =
      let c : n - i ≡ suc (n - (i + 1)) = omega arith in
      let j : suc i ≡ i + 1 = omega arith in
      rw (c, j) (ap (λ q. learned q rows (out x a n i)
      (λ m more. learn_all (outputs x a n (i + 1) (n - (i + 1))) more (λ ns last. k (known_of names ++ m ∷ ns) last))) e
      ∙ ap (λ m. learn_all (outputs x a n (i + 1) (n - (i + 1))) more (λ ns last. k (known_of names ++ known m ∷ ns) last)) f
      ∙ ap (λ g. learn_all (outputs x a n (i + 1) (n - (i + 1))) more g) (λ t ns last. k (known_append names name ns t) last))
    where
      known_append : (names : List (List ℕ)) (name : List ℕ) (ns : List Row) → known_of names ++ known name ∷ ns ≡ known_of (names ++ name ∷ []) ++ ns
      known_append [] name ns = refl
      known_append (m ∷ names) name ns = ap (λ r. known m ∷ r) (known_append names name ns)

  pub outputs_full : i < n → learn_to rows (out x a n i) ≡ None
      → learn_all (outputs x a n i (n - i)) rows (λ ns last. k (known_of names ++ ns) last) ≡ Out.cut Cutoff.full rows
  outputs_full h e =
      let c : n - i ≡ suc (n - (i + 1)) = omega arith in
      rw c (ap (λ q. learned q rows (out x a n i)
      (λ m more. learn_all (outputs x a n (suc i) (n - (i + 1))) more (λ ns last. k (known_of names ++ m ∷ ns) last))) e)

  pub outputs_full_in : (more : List Row) → i < n → learn_to rows (out x a n i) ≡ None → more ≡ rows
      → learn_all (outputs x a n i (n - i)) rows (λ ns last. k (known_of names ++ ns) last) ≡ Out.cut Cutoff.full more
  outputs_full_in more h e f = outputs_full h e ∙ ap (λ r. Out.cut Cutoff.full r) (sym f)

  pub outputs_end : n ≤ i → learn_all (outputs x a n i (n - i)) rows (λ ns last. k (known_of names ++ ns) last) ≡ k (known_of names) rows
  outputs_end h = let c : n - i ≡ 0 = omega arith in rw c (ap (λ ns. k ns rows) (append-nil (known_of names)))

-- as many outputs as are asked for
pub outputs_are : (x : List ℕ) (a v : Val (List ℕ)) (p : Place) (rows : List Row) (k : List Row → List Row → Out) (n : ℕ) → v ≡ num (pos n)
    → (nat_lt 0 n && nat_lt n 65) ≡ true → outputs_count x a v p rows k ≡ learn_all (outputs x a n 0 n) rows k
outputs_are x a v p rows k n e h = rw e (ap (λ b. outputs_if b (outputs x a n 0 n) p rows k) h)

pub few_wanted : (n : ℕ) → (nat_lt 0 n && nat_lt n 65) ≡ true → n ≤ 64
few_wanted n h = grind (arith, nat_tests)

module _ (g : Ground) (p : Place) (rows more : List Row) (st : Vars) (x a n : Val (List ℕ)) (v : nat_lt st.count visits ≡ true) where
  pub exec_is : (names : List (List ℕ)) (o : Out) → ((k : List Row → List Row → Out) → outputs_of x a n p rows k ≡ k (known_of names) more)
      → exec_seen (look (known.known_of g.objects) (known_of names)) (known_of names) more (counted st) ≡ o
      → visit p rows st (λ s. formed g Form.exec (three_vals x a n) p rows s) ≡ o
  exec_is names o e h =
      ap (λ b. visited b p rows st (λ s. formed g Form.exec (three_vals x a n) p rows s)) v ∙ e (λ ds last. exec_ask g ds last (counted st)) ∙ h

  pub exec_cut : (c : Cutoff) → ((k : List Row → List Row → Out) → outputs_of x a n p rows k ≡ Out.cut c more)
      → visit p rows st (λ s. formed g Form.exec (three_vals x a n) p rows s) ≡ Out.cut c more
  exec_cut c e =
      ap (λ b. visited b p rows st (λ s. formed g Form.exec (three_vals x a n) p rows s)) v ∙ e (λ ds last. exec_ask g ds last (counted st))

  pub spawn_exec_is : (names : List (List ℕ)) → ((k : List Row → List Row → Out) → outputs_of x a n p rows k ≡ k (known_of names) more)
      → visit p rows st (λ s. formed g Form.spawn_exec (three_vals x a n) p rows s) ≡ Out.got (list (refs_to (known_of names))) more (counted st)
  spawn_exec_is names e =
      ap (λ b. visited b p rows st (λ s. formed g Form.spawn_exec (three_vals x a n) p rows s)) v
      ∙ e (λ ds last. Out.got (list (refs_to ds)) last (counted st))

  pub spawn_exec_cut : (c : Cutoff) → ((k : List Row → List Row → Out) → outputs_of x a n p rows k ≡ Out.cut c more)
      → visit p rows st (λ s. formed g Form.spawn_exec (three_vals x a n) p rows s) ≡ Out.cut c more
  spawn_exec_cut c e =
      ap (λ b. visited b p rows st (λ s. formed g Form.spawn_exec (three_vals x a n) p rows s)) v
      ∙ e (λ ds last. Out.got (list (refs_to ds)) last (counted st))
