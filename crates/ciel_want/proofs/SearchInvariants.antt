-- The search keeps that all it has seen is reached, and that what it has worked off leads nowhere new.
use Rattle.std.proofs.Common.{◌≡◌, ℕ, ◌≤◌, List, [], ◌∷◌, ◌++◌, length, append_assoc, append-nil, Bool, true, false, cond, ◌||◌, nat_eq, Option, Some}
use Rattle.std.proofs.Common.{None, ◌⊎◌, inl, inr, refl, ap, sym, ◌∙◌, subst, arith, eqb-true, eq-eqb}
use Rattle.std.specs.List.{list_any, IsDistinct, AllByRecursion}
use Rattle.std.proofs.lemmas.Map.Made.{length-le_from_is_member}
use Rattle.std.specs.Cmp.{IsEquivalence}
use Rattle.ciel_want.specs.Search.{Among, LedTo, unmet, first, further, news, IsWithin}

bool_cases : (b : Bool) → (b ≡ true) ⊎ (b ≡ false)
bool_cases true = inl refl
bool_cases false = inr refl

among_left : (e : ℕ) (xs ys : List ℕ) → Among e xs → Among e (xs ++ ys)
among_left e [] ys h = cc
among_left e (x ∷ xs) ys h = pick (nat_eq e x) (among_left e xs ys) h
  where
    pick : (b : Bool) → (Among e xs → Among e (xs ++ ys)) → b || list_any (nat_eq e) xs ≡ true → b || list_any (nat_eq e) (xs ++ ys) ≡ true
    pick true r h = refl
    pick false r h = r h

pub among_right : (e : ℕ) (xs ys : List ℕ) → Among e ys → Among e (xs ++ ys)
among_right e [] ys h = h
among_right e (x ∷ xs) ys h = pick (nat_eq e x) (among_right e xs ys h)
  where
    pick : (b : Bool) → Among e (xs ++ ys) → b || list_any (nat_eq e) (xs ++ ys) ≡ true
    pick true r = refl
    pick false r = r

pub among_cases : (e : ℕ) (xs ys : List ℕ) → Among e (xs ++ ys) → Among e xs ⊎ Among e ys
among_cases e [] ys h = inr h
among_cases e (x ∷ xs) ys h = pick (nat_eq e x) (among_cases e xs ys) h
  where
    pick : (b : Bool) → (Among e (xs ++ ys) → Among e xs ⊎ Among e ys) → b || list_any (nat_eq e) (xs ++ ys) ≡ true
        → (b || list_any (nat_eq e) xs ≡ true) ⊎ Among e ys
    pick true r h = inl refl
    pick false r h = r h

pub among_one : (e x : ℕ) → Among e (x ∷ []) → e ≡ x
among_one e x h = pick (bool_cases (nat_eq e x))
  where
    pick : ((nat_eq e x ≡ true) ⊎ (nat_eq e x ≡ false)) → e ≡ x
    pick (inl t) = eqb-true e x t
    pick (inr f) = let a : false ≡ true = sym (ap (λ b. b || false) f) ∙ h in cc

among_self : (e : ℕ) (xs : List ℕ) → Among e (e ∷ xs)
among_self e xs = ap (λ b. b || list_any (nat_eq e) xs) (eq-eqb e e refl)

pub among_head : (e x : ℕ) (xs : List ℕ) → Among e (x ∷ xs) → (e ≡ x) ⊎ Among e xs
among_head e x xs h = pick (bool_cases (nat_eq e x))
  where
    pick : ((nat_eq e x ≡ true) ⊎ (nat_eq e x ≡ false)) → (e ≡ x) ⊎ Among e xs
    pick (inl t) = inl (eqb-true e x t)
    pick (inr f) = inr (sym (ap (λ b. b || list_any (nat_eq e) xs) f) ∙ h)

-- all that was found is then seen
pub found_seen : (seen found : List ℕ) (e : ℕ) → Among e found → Among e (seen ++ news seen found)
found_seen seen [] e h = cc
found_seen seen (x ∷ xs) e h = pick (bool_cases (list_any (nat_eq x) seen)) (among_head e x xs h) (found_seen seen xs)
    (found_seen (seen ++ x ∷ []) xs)
  where
    pick : ((list_any (nat_eq x) seen ≡ true) ⊎ (list_any (nat_eq x) seen ≡ false)) → ((e ≡ x) ⊎ Among e xs)
        → ((e : ℕ) → Among e xs → Among e (seen ++ news seen xs))
        → ((e : ℕ) → Among e xs → Among e ((seen ++ x ∷ []) ++ news (seen ++ x ∷ []) xs))
        → Among e (seen ++ cond (list_any (nat_eq x) seen) (news seen xs) (x ∷ news (seen ++ x ∷ []) xs))
    pick (inl t) (inl s) r q = among_left e seen _ (subst (λ y. Among y seen) (sym s) t)
    pick (inl t) (inr a) r q = subst (λ b. Among e (seen ++ cond b (news seen xs) (x ∷ news (seen ++ x ∷ []) xs))) (sym t) (r e a)
    pick (inr f) (inl s) r q = subst (λ b. Among e (seen ++ cond b (news seen xs) (x ∷ news (seen ++ x ∷ []) xs))) (sym f)
        (among_right e seen _ (subst (λ y. Among y (x ∷ news (seen ++ x ∷ []) xs)) (sym s) (among_self x _)))
    pick (inr f) (inr a) r q = subst (λ b. Among e (seen ++ cond b (news seen xs) (x ∷ news (seen ++ x ∷ []) xs))) (sym f)
        (subst (Among e) (append_assoc seen (x ∷ []) (news (seen ++ x ∷ []) xs)) (q e a))

-- what is new was found
pub news_found : (seen found : List ℕ) (e : ℕ) → Among e (news seen found) → Among e found
news_found seen [] e h = h
news_found seen (x ∷ xs) e h = pick (list_any (nat_eq x) seen) h (news_found seen xs e) (news_found (seen ++ x ∷ []) xs e)
  where
    skip : (b : Bool) → Among e xs → b || list_any (nat_eq e) xs ≡ true
    skip true a = refl
    skip false a = a

    pick : (b : Bool) → Among e (cond b (news seen xs) (x ∷ news (seen ++ x ∷ []) xs)) → (Among e (news seen xs) → Among e xs)
        → (Among e (news (seen ++ x ∷ []) xs) → Among e xs) → Among e (x ∷ xs)
    pick true h r q = skip (nat_eq e x) (r h)
    pick false h r q = turn (among_head e x _ h)
      where
        turn : ((e ≡ x) ⊎ Among e (news (seen ++ x ∷ []) xs)) → Among e (x ∷ xs)
        turn (inl s) = subst (λ y. Among y (x ∷ xs)) (sym s) (among_self x xs)
        turn (inr a) = skip (nat_eq e x) (q a)

apart_last : (y : ℕ) (xs : List ℕ) (e : ℕ) → AllByRecursion (λ z. nat_eq y z ≡ false) xs → nat_eq y e ≡ false
    → AllByRecursion (λ z. nat_eq y z ≡ false) (xs ++ e ∷ [])
apart_last y [] e h k = (k, tt)
apart_last y (x ∷ xs) e h k = (h.0, apart_last y xs e h.1 k)

flip_false : (x e : ℕ) → nat_eq e x ≡ false → nat_eq x e ≡ false
flip_false x e h = pick (bool_cases (nat_eq x e))
  where
    pick : ((nat_eq x e ≡ true) ⊎ (nat_eq x e ≡ false)) → nat_eq x e ≡ false
    pick (inr f) = f
    pick (inl t) = let a : nat_eq e x ≡ true = eq-eqb e x (sym (eqb-true x e t)) in cc

false_parts : (b c : Bool) → b || c ≡ false → (b ≡ false) × (c ≡ false)
false_parts true c h = cc
false_parts false c h = (refl, h)

pub distinct_last : (xs : List ℕ) (e : ℕ) → IsDistinct nat_eq xs → list_any (nat_eq e) xs ≡ false → IsDistinct nat_eq (xs ++ e ∷ [])
unfolding IsDistinct
distinct_last [] e d h = (tt, tt)
distinct_last (x ∷ xs) e d h =
    let f = false_parts (nat_eq e x) (list_any (nat_eq e) xs) h in
    (apart_last x xs e d.0 (flip_false x e f.0), distinct_last xs e d.1 f.1)

pub distinct_nothing : IsDistinct nat_eq []
unfolding IsDistinct
distinct_nothing = tt

pub distinct_news : (seen found : List ℕ) → IsDistinct nat_eq seen → IsDistinct nat_eq (seen ++ news seen found)
distinct_news seen [] d = subst (IsDistinct nat_eq) (sym (append-nil seen)) d
distinct_news seen (x ∷ xs) d = pick (bool_cases (list_any (nat_eq x) seen)) (distinct_news seen xs d) (distinct_news (seen ++ x ∷ []) xs)
  where
    pick : ((list_any (nat_eq x) seen ≡ true) ⊎ (list_any (nat_eq x) seen ≡ false)) → IsDistinct nat_eq (seen ++ news seen xs)
        → (IsDistinct nat_eq (seen ++ x ∷ []) → IsDistinct nat_eq ((seen ++ x ∷ []) ++ news (seen ++ x ∷ []) xs))
        → IsDistinct nat_eq (seen ++ cond (list_any (nat_eq x) seen) (news seen xs) (x ∷ news (seen ++ x ∷ []) xs))
    pick (inl t) r q = subst (λ b. IsDistinct nat_eq (seen ++ cond b (news seen xs) (x ∷ news (seen ++ x ∷ []) xs))) (sym t) r
    pick (inr f) r q = subst (λ b. IsDistinct nat_eq (seen ++ cond b (news seen xs) (x ∷ news (seen ++ x ∷ []) xs))) (sym f)
        (subst (IsDistinct nat_eq) (append_assoc seen (x ∷ []) (news (seen ++ x ∷ []) xs)) (q (distinct_last seen x d f)))

same_laws : IsEquivalence nat_eq
same_laws =
    record {
      refl = λ a. eq-eqb a a refl;
      symm = λ a b. agree (nat_eq a b) (nat_eq b a) (λ h. eq-eqb b a (sym (eqb-true a b h))) (λ h. eq-eqb a b (sym (eqb-true b a h)));
      congr = λ a b c h. ap (λ d. nat_eq d c) (eqb-true a b h);
    }
  where
    agree : (b c : Bool) → (b ≡ true → c ≡ true) → (c ≡ true → b ≡ true) → b ≡ c
    agree true c f g = sym (f refl)
    agree false true f g = g refl
    agree false false f g = refl

pub record Searching (needs : Option ℕ → List ℕ) (live : ℕ → Bool) (bound : ℕ) (seen todo : List ℕ) : Type 0 where
  pub sound : (e : ℕ) → Among e seen → LedTo needs live e
  pub distinct : IsDistinct nat_eq seen
  pub started : (e : ℕ) → Among e (unmet needs live None) → Among e seen
  pub worked : (d : ℕ) → Among d seen → Among d todo ⊎ ((e : ℕ) → Among e (unmet needs live (Some d)) → Among e seen)
  pub listed : (d : ℕ) → Among d todo → Among d seen
  pub few : length seen ≤ bound

pub few_of : (needs : Option ℕ → List ℕ) (live : ℕ → Bool) (bound : ℕ) (seen : List ℕ) → IsWithin needs live bound → IsDistinct nat_eq seen
    → ((e : ℕ) → Among e seen → LedTo needs live e) → length seen ≤ bound
few_of needs live bound seen w d s =
    let l = length-le_from_is_member same_laws seen w.0 d (λ q h. w.2 q (s q h)) in
    let e = w.1 in omega (arith, l, e)

pub search_start : (needs : Option ℕ → List ℕ) (live : ℕ → Bool) (bound : ℕ) (found : List ℕ) → IsWithin needs live bound → found
    ≡ unmet needs live None → Searching needs live bound ([] ++ news [] found) ([] ++ news [] found)
search_start needs live bound found w f =
    let sound : (e : ℕ) → Among e (news [] found) → LedTo needs live e = λ e h. first e (subst (Among e) f (news_found [] found e h)) in
    let dis = distinct_news [] found distinct_nothing in
    record {
      sound = sound;
      distinct = dis;
      started = λ e h. found_seen [] found e (subst (Among e) (sym f) h);
      worked = λ d h. inl h;
      listed = λ d h. h;
      few = few_of needs live bound (news [] found) w dis sound;
    }

pub search_step : (needs : Option ℕ → List ℕ) (live : ℕ → Bool) (bound : ℕ) (seen todo rest found : List ℕ) (d : ℕ) → IsWithin needs live bound
    → Searching needs live bound seen todo → todo ≡ rest ++ d ∷ [] → found ≡ unmet needs live (Some d)
    → Searching needs live bound (seen ++ news seen found) (rest ++ news seen found)
search_step needs live bound seen todo rest found d w s t f =
    let here : Among d seen = s.listed d (subst (Among d) (sym t) (among_right d rest (d ∷ []) (among_self d []))) in
    let sound : (e : ℕ) → Among e (seen ++ news seen found) → LedTo needs live e = λ e h. sound_of e (among_cases e seen (news seen found) h) here in
    let dis = distinct_news seen found s.distinct in
    record {
      sound = sound;
      distinct = dis;
      started = λ e h. among_left e seen (news seen found) (s.started e h);
      worked = λ x h. worked_of x (among_cases x seen (news seen found) h);
      listed = λ x h. listed_of x (among_cases x rest (news seen found) h);
      few = few_of needs live bound (seen ++ news seen found) w dis sound;
    }
  where
    sound_of : (e : ℕ) → (Among e seen ⊎ Among e (news seen found)) → Among d seen → LedTo needs live e
    sound_of e (inl a) h = s.sound e a
    sound_of e (inr a) h = further d e (s.sound d h) (subst (Among e) f (news_found seen found e a))

    listed_of : (x : ℕ) → (Among x rest ⊎ Among x (news seen found)) → Among x (seen ++ news seen found)
    listed_of x (inl a) = among_left x seen (news seen found) (s.listed x (subst (Among x) (sym t) (among_left x rest (d ∷ []) a)))
    listed_of x (inr a) = among_right x seen (news seen found) a

    worked_of : (x : ℕ) → (Among x seen ⊎ Among x (news seen found)) → Among x (rest ++ news seen found)
        ⊎ ((e : ℕ) → Among e (unmet needs live (Some x)) → Among e (seen ++ news seen found))
    worked_of x (inr a) = inl (among_right x rest (news seen found) a)
    worked_of x (inl a) = turn (s.worked x a)
      where
        turn : (Among x todo ⊎ ((e : ℕ) → Among e (unmet needs live (Some x)) → Among e seen)) → Among x (rest ++ news seen found)
            ⊎ ((e : ℕ) → Among e (unmet needs live (Some x)) → Among e (seen ++ news seen found))
        turn (inr h) = inr (λ e q. among_left e seen (news seen found) (h e q))
        turn (inl h) = split (among_cases x rest (d ∷ []) (subst (Among x) t h))
          where
            split : (Among x rest ⊎ Among x (d ∷ [])) → Among x (rest ++ news seen found)
                ⊎ ((e : ℕ) → Among e (unmet needs live (Some x)) → Among e (seen ++ news seen found))
            split (inl a) = inl (among_left x rest (news seen found) a)
            split (inr a) = inr (λ e q. found_seen seen found e
                (subst (Among e) (sym f) (subst (λ y. Among e (unmet needs live (Some y))) (among_one x d a) q)))

-- where nothing is left to work off, all that is reached was seen
pub search_end : (needs : Option ℕ → List ℕ) (live : ℕ → Bool) (bound : ℕ) (seen : List ℕ) → Searching needs live bound seen [] → (e : ℕ)
    → LedTo needs live e → Among e seen
search_end needs live bound seen s e (first e' h) = s.started e h
search_end needs live bound seen s e (further d e' r h) = pick (s.worked d (search_end needs live bound seen s d r))
  where
    pick : (Among d [] ⊎ ((e : ℕ) → Among e (unmet needs live (Some d)) → Among e seen)) → Among e seen
    pick (inl a) = cc
    pick (inr q) = q e h

pub nothing : (xs : List ℕ) → length xs ≡ 0 → xs ≡ []
nothing [] h = refl
nothing (x ∷ xs) h = absurd (omega arith)
