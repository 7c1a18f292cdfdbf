-- A walk along unmet needs: each name of the trail waits for the next one.
use Rattle.std.proofs.Common.{◌≡◌, ℕ, zero, suc, ◌-◌, ◌≤◌, List, [], ◌∷◌, ◌++◌, length, drop, Bool, true, false, ◌||◌, nat_eq, Option, Some, None}
use Rattle.std.proofs.Common.{slice_get, ◌⊎◌, inl, inr, refl, ap, sym, ◌∙◌, subst, arith, eqb-true, eq-eqb}
use Rattle.std.proofs.Math.ListN.{take}
use Rattle.std.proofs.Math.Seq.{take-length}
use Rattle.std.proofs.lemmas.List.{length-drop}
use Rattle.std.specs.List.{list_any, IsDistinct}
use Rattle.ciel_want.specs.Search.{Among, IsCircle, IsReached, IsWithin, LedTo, Links, SomeMet, first, further, unmet}
use Rattle.ciel_want.proofs.SearchInvariants.{distinct_last, distinct_nothing, few_of}
use Rattle.ciel_journal.proofs.Members.{bool_cases}

module _ (needs : Option ℕ → List ℕ) (live : ℕ → Bool) where
  -- from x on each name stands among what the one before waits for, up to the one at the end
  abbrev pub Path : Option ℕ → List ℕ → Option ℕ → Type 0
  Path x [] at = x ≡ at
  Path x (d ∷ ds) at = Among d (unmet needs live x) × Path (Some d) ds at

  pub record Walking (bound : ℕ) (trail : List ℕ) (next : Option ℕ) : Type 0 where
    pub at : Option ℕ
    pub path : Path None trail at
    pub is_next : next ≡ slice_get (unmet needs live at) 0
    pub distinct : IsDistinct nat_eq trail
    pub few : length trail ≤ bound

  path_last : (x : Option ℕ) (ds : List ℕ) (at : Option ℕ) (d : ℕ) → Path x ds at → Among d (unmet needs live at) → Path x (ds ++ d ∷ []) (Some d)
  path_last x [] at d p a = (subst (λ y. Among d (unmet needs live y)) (sym p) a, refl)
  path_last x (e ∷ es) at d p a = (p.0, path_last (Some e) es at d p.1 a)

  one_led : (x : Option ℕ) (d : ℕ) → IsReached needs live x → Among d (unmet needs live x) → LedTo needs live d
  one_led None d r a = first d a
  one_led (Some y) d r a = further y d (r y refl) a

  reached_some : (d : ℕ) → LedTo needs live d → IsReached needs live (Some d)
  reached_some d l e s = let t : d ≡ e = cc in subst (LedTo needs live) t l

  reached_none : IsReached needs live None
  reached_none e s = cc

  path_led : (x : Option ℕ) (ds : List ℕ) (at : Option ℕ) → IsReached needs live x → Path x ds at → (e : ℕ) → Among e ds → LedTo needs live e
  path_led x [] at r p e h = cc
  path_led x (d ∷ ds) at r p e h =
      pick (bool_cases (nat_eq e d)) (path_led (Some d) ds at (reached_some d (one_led x d r p.0)) p.1 e)
    where
      pick : ((nat_eq e d ≡ true) ⊎ (nat_eq e d ≡ false)) → (Among e ds → LedTo needs live e) → LedTo needs live e
      pick (inl t) go = subst (LedTo needs live) (sym (eqb-true e d t)) (one_led x d r p.0)
      pick (inr f) go = go (sym (ap (λ b. b || list_any (nat_eq e) ds) f) ∙ h)

  path_end : (x : Option ℕ) (ds : List ℕ) (at : Option ℕ) → IsReached needs live x → Path x ds at → IsReached needs live at
  path_end x [] at r p = subst (IsReached needs live) p r
  path_end x (d ∷ ds) at r p = path_end (Some d) ds at (reached_some d (one_led x d r p.0)) p.1

  next_among : (xs : List ℕ) (d : ℕ) → Some d ≡ slice_get xs 0 → Among d xs
  next_among [] d h = cc
  next_among (x ∷ xs) d h = let s : d ≡ x = cc in ap (λ b. b || list_any (nat_eq d) xs) (eq-eqb d x s)

  next_none : (xs : List ℕ) → None ≡ slice_get xs 0 → xs ≡ []
  next_none [] h = refl
  next_none (x ∷ xs) h = cc

  pub walk_start : (bound : ℕ) (trail : List ℕ) (next : Option ℕ) → trail ≡ [] → next ≡ slice_get (unmet needs live None) 0 → Walking bound trail next
  walk_start bound trail next e n =
      record {
        at = None;
        path = subst (λ ds. Path None ds None) (sym e) refl;
        is_next = n;
        distinct = subst (IsDistinct nat_eq) (sym e) distinct_nothing;
        few = let l : length trail ≡ 0 = ap length e in omega (arith, l);
      }

  pub walk_step : (bound : ℕ) (trail : List ℕ) (d : ℕ) (next : Option ℕ) → IsWithin needs live bound → Walking bound trail (Some d)
      → list_any (nat_eq d) trail ≡ false → next ≡ slice_get (unmet needs live (Some d)) 0 → Walking bound (trail ++ d ∷ []) next
  walk_step bound trail d next w s new n =
      let p = path_last None trail s.at d s.path (next_among (unmet needs live s.at) d s.is_next) in
      let dis = distinct_last trail d s.distinct new in
      record {
        at = Some d;
        path = p;
        is_next = n;
        distinct = dis;
        few = few_of needs live bound (trail ++ d ∷ []) w dis (path_led None (trail ++ d ∷ []) (Some d) reached_none p);
      }

  pub walk_met : (bound : ℕ) (trail : List ℕ) → Walking bound trail None → SomeMet needs live
  walk_met bound trail s =
      record { from = s.at; reached = path_end None trail s.at reached_none s.path; met = next_none (unmet needs live s.at) s.is_next }

  links_of : (front d : ℕ) (ds : List ℕ) (at : Option ℕ) → Path (Some d) ds at → Among front (unmet needs live at) → Links needs live front d ds
  links_of front d [] at p a = subst (λ y. Among front (unmet needs live y)) (sym p) a
  links_of front d (e ∷ es) at p a = (p.0, links_of front e es at p.1 a)

  abbrev Rest : Option ℕ → ℕ → List ℕ → Type 0
  Rest at d xs = (rest : List ℕ) × (xs ≡ d ∷ rest) × Path (Some d) rest at × LedTo needs live d

  path_split : (x : Option ℕ) (ds : List ℕ) (at : Option ℕ) (i d : ℕ) → IsReached needs live x → Path x ds at → slice_get ds i ≡ Some d
      → Rest at d (drop i ds)
  path_split x [] at i d r p g = cc
  path_split x (e ∷ es) at zero d r p g =
      let s : e ≡ d = cc in
      (es, ap (λ z. z ∷ es) s, subst (λ z. Path (Some z) es at) s p.1, subst (LedTo needs live) s (one_led x e r p.0))
  path_split x (e ∷ es) at (suc i) d r p g = path_split (Some e) es at i d (reached_some e (one_led x e r p.0)) p.1 g

  distinct_drop : (xs : List ℕ) (i : ℕ) → IsDistinct nat_eq xs → IsDistinct nat_eq (drop i xs)
  unfolding IsDistinct
  distinct_drop [] zero d = d
  distinct_drop [] (suc i) d = d
  distinct_drop (x ∷ xs) zero d = d
  distinct_drop (x ∷ xs) (suc i) d = distinct_drop xs i d.1

  pub walk_circle : (bound : ℕ) (trail : List ℕ) (d i : ℕ) → Walking bound trail (Some d) → slice_get trail i ≡ Some d
      → IsCircle needs live (drop i trail)
  walk_circle bound trail d i s g =
      let r = path_split None trail s.at i d reached_none s.path g in
      subst (IsCircle needs live) (sym r.1) (
        r.3,
        links_of d d r.0 s.at r.2 (next_among (unmet needs live s.at) d s.is_next),
        subst (IsDistinct nat_eq) r.1 (distinct_drop trail i s.distinct),
      )

-- all that is left from a place on
pub take_rest : (xs ys : List ℕ) (i : ℕ) → xs ≡ ys → take (length xs - i) (drop i xs) ≡ drop i ys
take_rest xs ys i e =
    ap (λ n. take n (drop i xs)) (sym (length-drop i xs)) ∙ (take-length (drop i xs) ∙ ap (drop i) e)
