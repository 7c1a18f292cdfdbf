-- One more description that is made.
use Rattle.std.proofs.Common.{◌≡◌, ◌<◌, ◌≤◌, ◌+◌, ◌-◌, ℕ, suc, List, [], ◌∷◌, ◌++◌, map, Some, length, true, ◌&&◌, nat_eq, nat_lt, pos, refl, sym, ap}
use Rattle.std.proofs.Common.{◌∙◌, arith, append-nil}
use Rattle.sky_base.specs.Val.{Val, Desc, num, text, list, fun, ref, known, call, out, count}
use Rattle.sky_base.specs.Name.{digested}
use Rattle.sky_base.specs.Res.{others, End, Fin, Tell, then_do, tell_all}
use Rattle.sky_base.specs.Eval.{World, after, body_at, inside, plug, find_fun, make_one, spawn_if, spawn_fun, spawned, outputs, outputs_if}
use Rattle.sky_base.specs.Eval.{outputs_count, outputs_of}
use Rattle.sky_base.specs.Read.{segment}
use Rattle.sky_base.specs.Tree.{Place, FunDef, Script}
use Rattle.sky_base.specs.Names.{known_of}
use Rattle.sky_base.specs.ObjectView.{desc_view}
use Rattle.sky_base.specs.declared.object.Named.{Named}
use Rattle.sky_base_scope.specs.Plain.{Pairs, Vals, Vars}
use Rattle.sky_machine_entries.specs.Config.{Run, rest_in}
use Rattle.sky_machine_entries.specs.Entries.{Form, forms}
use Rattle.sky_machine_entries.specs.declared.entry.Entry.{Entry}
use Rattle.sky_machine_parts.specs.Made.{descs, names, whole, RunsOn}

told_push : (ns : List Named) (n : Named) (r : Run) → tell_all (descs (ns ++ n ∷ [])) r ≡ tell_all (descs ns) (Tell (desc_view n.desc) r)
told_push [] n r = refl
told_push (m ∷ ns) n r = ap (Tell (desc_view m.desc)) (told_push ns n r)

names_push : (ns : List Named) (n : Named) (more : List (List ℕ)) → names (ns ++ n ∷ []) ++ more ≡ names ns ++ (n.name ∷ more)
names_push [] n more = refl
names_push (m ∷ ns) n more = ap (λ xs. m.name ∷ xs) (names_push ns n more)

pub whole_push : (digest : List ℕ → List ℕ) (ns : List Named) (n : Named) (r : Run) → n.name ≡ digested digest (desc_view n.desc)
    → whole digest (ns ++ n ∷ []) r ≡ whole digest ns (Tell (desc_view n.desc) r)
whole_push digest ns n r e =
    let q = names_push ns n (map (digested digest) (segment r)) ∙ ap (λ x. names ns ++ (x ∷ map (digested digest) (segment r))) e in
    λ i. (told_push ns n r i, q i)

pub made_one : (w : World (List ℕ)) (sc : Script) (digest : List ℕ → List ℕ) (d : Desc (List ℕ)) (n : List ℕ) (st : Vars) → RunsOn w sc digest
    → n ≡ digested digest d → Tell d (Fin (End.got (ref (known n))) st) ≡ make_one w d st
made_one w sc digest d n st h e = ap (λ x. Tell d (Fin (End.got (ref x)) st)) (ap known e ∙ sym (h.make d))

-- ---- inside of forms

module _ (w : World (List ℕ)) where
  plug_tell : (fr : List Form) (n : ℕ) (d : Desc (List ℕ)) (r : Run) → plug w n fr (Tell d r) ≡ Tell d (plug w n fr r)
  plug_tell [] n d r = refl
  plug_tell (en ∷ fr) n d r = ap (λ x. then_do x en (after w (body_at w n) en)) (plug_tell fr (inside w en n) d r)

  pub rest_tell : (es : List Entry) (d : Desc (List ℕ)) (r : Run) → rest_in w es (Tell d r) ≡ Tell d (rest_in w es r)
  rest_tell es d r = plug_tell (forms es) others d r

  pub rest_tells : (es : List Entry) (ds : List (Desc (List ℕ))) (r : Run) → rest_in w es (tell_all ds r) ≡ tell_all ds (rest_in w es r)
  rest_tells es [] r = refl
  rest_tells es (d ∷ ds) r = rest_tell es d (tell_all ds r) ∙ ap (Tell d) (rest_tells es ds r)

  -- a reference to what is made inside of forms
  pub made_in : (sc : Script) (digest : List ℕ → List ℕ) (es : List Entry) (d : Desc (List ℕ)) (n : List ℕ) (st : Vars) → RunsOn w sc digest → n
      ≡ digested digest d → Tell d (rest_in w es (Fin (End.got (ref (known n))) st)) ≡ rest_in w es (make_one w d st)
  made_in sc digest es d n st h e =
      sym (rest_tell es d (Fin (End.got (ref (known n))) st)) ∙ ap (rest_in w es) (made_one w sc digest d n st h e)

  pub spawned_one : (sc : Script) (f : List ℕ) (c : Pairs) (vs : Vals) (d : FunDef) (p : Place) (st : Vars) → w.script ≡ sc → find_fun f sc.funs
      ≡ Some d → nat_eq (length d.params) (count vs) ≡ true → spawned w (fun f c) (list vs) p st ≡ make_one w (call f c vs) st
  spawned_one sc f c vs d p st h e b =
      ap (λ s. spawn_fun w (find_fun f s.funs) f c vs p st) h ∙ ap (λ o. spawn_fun w o f c vs p st) e ∙ ap (λ x. spawn_if w x (call f c vs) p st) b

-- ---- the outputs of an executor task

pub outputs_next : (x : List ℕ) (a : Val (List ℕ)) (n i : ℕ) → i < n → outputs x a n i (n - i) ≡ out x a n i ∷ outputs x a n (i + 1) (n - (i + 1))
outputs_next x a n i h =
    let e : n - i ≡ suc (n - (i + 1)) = omega arith in
    let s : suc i ≡ i + 1 = omega arith in
    ap (outputs x a n i) e ∙ ap (λ k. out x a n i ∷ outputs x a n k (n - (i + 1))) s

pub outputs_last : (x : List ℕ) (a : Val (List ℕ)) (n i : ℕ) → n ≤ i → outputs x a n i (n - i) ≡ []
outputs_last x a n i h = let e : n - i ≡ 0 = omega arith in ap (outputs x a n i) e

abbrev pub named_by : (List ℕ → List ℕ) → Desc (List ℕ) → Desc (List ℕ)
named_by digest d = known (digested digest d)

pub made_all : (w : World (List ℕ)) (sc : Script) (digest : List ℕ → List ℕ) → RunsOn w sc digest → (ds : List (Desc (List ℕ)))
    → map (named_by digest) ds ≡ map w.make ds
made_all w sc digest h [] = refl
made_all w sc digest h (d ∷ ds) = ap (λ x. x ∷ map (named_by digest) ds) (sym (h.make d)) ∙ ap (λ xs. w.make d ∷ xs) (made_all w sc digest h ds)

known_push : (ns : List (List ℕ)) (n : List ℕ) (more : List (Desc (List ℕ))) → known_of (ns ++ n ∷ []) ++ more ≡ known_of ns ++ (known n ∷ more)
known_push [] n more = refl
known_push (m ∷ ns) n more = ap (λ xs. known m ∷ xs) (known_push ns n more)

-- one output more
pub outputs_step : (digest : List ℕ → List ℕ) (x : List ℕ) (a : Val (List ℕ)) (n i : ℕ) (ns : List (List ℕ)) (name : List ℕ) → i < n → name
    ≡ digested digest (out x a n i) → known_of (ns ++ name ∷ []) ++ map (named_by digest) (outputs x a n (i + 1) (n - (i + 1))) ≡ known_of ns
    ++ map (named_by digest) (outputs x a n i (n - i))
outputs_step digest x a n i ns name h e =
    known_push ns name (map (named_by digest) (outputs x a n (i + 1) (n - (i + 1))))
    ∙ ap (λ z. known_of ns ++ (known z ∷ map (named_by digest) (outputs x a n (i + 1) (n - (i + 1))))) e
    ∙ ap (λ ds. known_of ns ++ map (named_by digest) ds) (sym (outputs_next x a n i h))

pub outputs_done : (digest : List ℕ → List ℕ) (x : List ℕ) (a : Val (List ℕ)) (n i : ℕ) (ns : List (List ℕ)) → n ≤ i → known_of ns
    ++ map (named_by digest) (outputs x a n i (n - i)) ≡ known_of ns
outputs_done digest x a n i ns h = ap (λ ds. known_of ns ++ map (named_by digest) ds) (outputs_last x a n i h) ∙ append-nil (known_of ns)

-- all of them were made
pub outputs_made : (w : World (List ℕ)) (sc : Script) (digest : List ℕ → List ℕ) (x : List ℕ) (a c : Val (List ℕ)) (n : ℕ) (p : Place)
    (st : Vars) (k : List (Desc (List ℕ)) → Vars → Run) → RunsOn w sc digest → c ≡ num (pos n) → (nat_lt 0 n && nat_lt n 65) ≡ true
    → tell_all (outputs x a n 0 n) (k (map (named_by digest) (outputs x a n 0 n)) st) ≡ outputs_of w (text x) a c p st k
outputs_made w sc digest x a c n p st k h e b =
    ap (λ ds. tell_all (outputs x a n 0 n) (k ds st)) (made_all w sc digest h (outputs x a n 0 n))
    ∙ ap (λ z. outputs_if w z (outputs x a n 0 n) p st k) (sym b) ∙ ap (λ z. outputs_count w x a z p st k) (sym e)
