-- How what is known grows, and what is found of it.
use Rattle.std.proofs.Common.{◌≡◌, ◌<◌, ◌+◌, ℕ, zero, suc, List, [], ◌∷◌, ◌++◌, Bool, true, false, cond, length, is_some, map, flat_map, Option, Some, None, option_map}
use Rattle.std.proofs.Common.{arith, get_or, take, refl, ap, sym, ◌∙◌, subst, append-nil, append_assoc, slice_get, MatchOption, Bor}
use Rattle.std.specs.BTreeMap.{BTreeMap, Updates, get}
use Rattle.std.specs.Option.{option_copied}
use Rattle.std.specs.Slice.{IsItemAt}
use Rattle.std.proofs.lemmas.Bool.{ltb-false, ltb-true}
use Rattle.std.proofs.lemmas.Grind.{flat_map-append}
use Rattle.std.proofs.lemmas.List.{map-append, length-map}
use Rattle.std.proofs.lemmas.Option.{slice_get-map, slice_get_past, slice_get_read}
use Rattle.sky_base.specs.NameOrder.{name_cmp}
use Rattle.sky_base.specs.ObjectView.{desc_view}
use Rattle.sky_base.specs.Val.{Desc, input, same_text}
use Rattle.sky_base.specs.declared.object.Desc1.{Desc1}
use Rattle.sky_base.specs.declared.object.TaskId.{TaskId}
use Rattle.ciel_look_told.specs.Head.{Head, short}
use Rattle.ciel_look_told.specs.View.{input_view, told_view}
use Rattle.ciel_look_told.specs.declared.header.Input.{Input}
use Rattle.ciel_look_told.specs.declared.told.Told.{Told}
use Rattle.ciel_look_words.specs.Named.{name_of}
use Rattle.ciel_look_words.specs.declared.known.Known.{Known}
use Rattle.ciel_look_tasks.specs.Known.{Named, known_as, known_view, knowns, maker_as, maker_view, makers, named_at, named_ids, place_of, with_known}
use Rattle.ciel_look_tasks.specs.Learned.{AreMade, given, input_desc, known, learned, made_by, maker, spawned, with_name}
use Rattle.ciel_look_tasks.specs.Tasks.{place_in}
use Rattle.ciel_look_tasks.proofs.TaskLists.{found_more}

abbrev id_of : Known → TaskId
id_of k = TaskId.Of k.name

-- the map has the place of one more
pub place_next : (xs ys : List Known) (x : Known) (n : ℕ) (old new : BTreeMap (List ℕ) ℕ) → ys ≡ xs ++ x ∷ [] → n ≡ length xs
    → place_of x.name xs ≡ None → ((q : List ℕ) → get name_cmp old q ≡ place_of q xs) → Updates name_cmp old new x.name (Some n)
    → (q : List ℕ) → get name_cmp new q ≡ place_of q ys
place_next xs ys x n old new p l none h u q =
    found_more old new (named_ids xs) x.name h none
    (subst (λ i. Updates name_cmp old new x.name (Some i)) (l ∙ sym (length-map xs id_of)) u) q
    ∙ sym (ap (place_of q) p ∙ ap (place_in (TaskId.Of q)) (map-append id_of xs (x ∷ [])))

-- ---- what is found

-- the element at a place, if there is one
pub get_is : {A : Type 0} (xs : List A) (p : ℕ) (r : Option (Bor A)) → IsItemAt xs p r → option_copied r ≡ slice_get xs p
get_is xs p None h = sym (slice_get_past xs p (ltb-false p (length xs) (sym h.0)))
get_is xs p (Some x) h = sym (slice_get_read xs (length xs) p x.now refl (ltb-true p (length xs) (sym h.0)) h.1)

abbrev desc_of : Known → Desc (List ℕ)
desc_of k = desc_view k.desc

abbrev by_place : Option ℕ → List Known → Option (Desc (List ℕ))
by_place None ks = None
by_place (Some p) ks = option_map desc_of (slice_get ks p)

known_place : (n : List ℕ) (ks : List Known) → known_as n (knowns ks) ≡ by_place (place_of n ks) ks
known_place n [] = refl
known_place n (k ∷ ks) = go (same_text n k.name) (place_of n ks) (known_place n ks)
  where
    go : (b : Bool) (o : Option ℕ) → known_as n (knowns ks) ≡ by_place o ks
        → cond b (Some (desc_of k)) (known_as n (knowns ks)) ≡ by_place (cond b (Some 0) (option_map suc o)) (k ∷ ks)
    go true o h = refl
    go false None h = h
    go false (Some p) h = h

pub found_there : (n : List ℕ) (ks : List Known) (p : ℕ) (r : Option (Bor Known)) → Some p ≡ place_of n ks → option_copied r ≡ slice_get ks p
    → MatchOption r (known_as n (knowns ks) ≡ None) (λ k. known_as n (knowns ks) ≡ Some (desc_view k.now.desc))
found_there n ks p None e g = known_place n ks ∙ ap (λ o. by_place o ks) (sym e) ∙ ap (option_map desc_of) (sym g)
found_there n ks p (Some k) e g = known_place n ks ∙ ap (λ o. by_place o ks) (sym e) ∙ ap (option_map desc_of) (sym g)

pub found_nowhere : (n : List ℕ) (ks : List Known) → None ≡ place_of n ks → known_as n (knowns ks) ≡ None
found_nowhere n ks e = known_place n ks ∙ ap (λ o. by_place o ks) (sym e)

-- the task that makes it

abbrev task_of : Known → TaskId
task_of k = k.task

abbrev task_by : Option ℕ → List Known → Option TaskId
task_by None ks = None
task_by (Some p) ks = option_map task_of (slice_get ks p)

maker_place : (n : List ℕ) (ks : List Known) → maker_as n (makers ks) ≡ task_by (place_of n ks) ks
maker_place n [] = refl
maker_place n (k ∷ ks) = go (same_text n k.name) (place_of n ks) (maker_place n ks)
  where
    go : (b : Bool) (o : Option ℕ) → maker_as n (makers ks) ≡ task_by o ks
        → cond b (Some k.task) (maker_as n (makers ks)) ≡ task_by (cond b (Some 0) (option_map suc o)) (k ∷ ks)
    go true o h = refl
    go false None h = h
    go false (Some p) h = h

pub maker_there : (n : List ℕ) (ks : List Known) (p : ℕ) (r : Option (Bor Known)) → Some p ≡ place_of n ks → option_copied r ≡ slice_get ks p
    → MatchOption r (maker_as n (makers ks) ≡ None) (λ k. maker_as n (makers ks) ≡ Some k.now.task)
maker_there n ks p None e g = maker_place n ks ∙ ap (λ o. task_by o ks) (sym e) ∙ ap (option_map task_of) (sym g)
maker_there n ks p (Some k) e g = maker_place n ks ∙ ap (λ o. task_by o ks) (sym e) ∙ ap (option_map task_of) (sym g)

pub maker_nowhere : (n : List ℕ) (ks : List Known) → None ≡ place_of n ks → maker_as n (makers ks) ≡ None
maker_nowhere n ks e = maker_place n ks ∙ ap (λ o. task_by o ks) (sym e)

pub named_there : (ks : List Known) (o : Option ℕ) (p : ℕ) (r : Option (Bor Known)) → o ≡ Some p → option_copied r ≡ slice_get ks p
    → MatchOption r (named_at ks o ≡ None) (λ k. named_at ks o ≡ Some (known_view k.now))
named_there ks o p None e g = ap (named_at ks) e ∙ slice_get-map known_view ks p ∙ ap (option_map known_view) (sym g)
named_there ks o p (Some k) e g = ap (named_at ks) e ∙ slice_get-map known_view ks p ∙ ap (option_map known_view) (sym g)

-- ---- the tasks that make it

pub made_none : (b : Bool) (ks : List Known) → ks ≡ [] → AreMade b ks
made_none b ks e = subst (AreMade b) (sym e) refl

pub made_push : (b : Bool) (xs ys : List Known) (x : Known) → ys ≡ xs ++ x ∷ [] → x.short ≡ b → AreMade b xs → AreMade b ys
made_push b xs ys x p e h =
    ap makers p ∙ map-append maker_view xs (x ∷ []) ∙ ap (λ z. z ++ maker_view x ∷ []) h
    ∙ ap (λ t. map (made_by b) (knowns xs) ++ (x.name, t) ∷ []) (x.made ∙ ap (λ c. maker c (desc_view x.desc)) e)
    ∙ sym (ap (λ zs. map (made_by b) (knowns zs)) p ∙ ap (map (made_by b)) (map-append known_view xs (x ∷ []))
    ∙ map-append (made_by b) (knowns xs) (known_view x ∷ []))

-- ---- what is learned

known_some : (n : List ℕ) (ks : List Known) → is_some (known_as n (knowns ks)) ≡ is_some (place_of n ks)
known_some n [] = refl
known_some n (k ∷ ks) = go (same_text n k.name) (place_of n ks) (known_some n ks)
  where
    go : (b : Bool) (o : Option ℕ) → is_some (known_as n (knowns ks)) ≡ is_some o
        → is_some (cond b (Some (desc_of k)) (known_as n (knowns ks))) ≡ is_some (cond b (Some 0) (option_map suc o))
    go true o h = refl
    go false None h = h
    go false (Some p) h = h

pub known_there : (ks : List Known) (k : Known) (p : ℕ) → Some p ≡ place_of k.name ks → with_known (knowns ks) (known_view k) ≡ knowns ks
known_there ks k p e =
    ap (λ b. cond b (knowns ks) (knowns ks ++ known_view k ∷ [])) (known_some k.name ks ∙ ap is_some (sym e))

pub known_new : (ks : List Known) (k : Known) → None ≡ place_of k.name ks → with_known (knowns ks) (known_view k) ≡ knowns ks ++ known_view k ∷ []
known_new ks k e =
    ap (λ b. cond b (knowns ks) (knowns ks ++ known_view k ∷ [])) (known_some k.name ks ∙ ap is_some (sym e))

pub knowns_push : (xs ys : List Known) (x : Known) → ys ≡ xs ++ x ∷ [] → knowns ys ≡ knowns xs ++ known_view x ∷ []
knowns_push xs ys x p = ap knowns p ∙ map-append known_view xs (x ∷ [])

pub view_named : (k : Known) (s : Bool) (d : Desc1) → k.short ≡ s → k.desc ≡ d → known_view k ≡ with_name s (desc_view d)
view_named k s d e f =
    ap (λ n. (n, desc_view k.desc)) k.named ∙ ap (λ b. (name_of b (desc_view k.desc), desc_view k.desc)) e
    ∙ ap (λ x. (name_of s (desc_view x), desc_view x)) f

pub learned_append : (s : Bool) (ks : List Named) (ds es : List (Desc (List ℕ))) → learned s ks (ds ++ es) ≡ learned s (learned s ks ds) es
learned_append s ks [] es = refl
learned_append s ks (d ∷ ds) es = learned_append s (with_known ks (with_name s d)) ds es

pub learned_push : (s : Bool) (ks ls ms : List Named) (ds : List (Desc (List ℕ))) (d : Desc (List ℕ)) → ls ≡ learned s ks ds
    → ms ≡ with_known ls (with_name s d) → ms ≡ learned s ks (ds ++ d ∷ [])
learned_push s ks ls ms ds d e f = f ∙ ap (λ l. with_known l (with_name s d)) e ∙ sym (learned_append s ks ds (d ∷ []))

-- an entry more is told
pub known_next : (h : Head) (ts : List Told) (e : Told) (ks ls : List Named) → ks ≡ known h (map told_view ts)
    → ls ≡ learned (short h) ks (spawned (told_view e)) → ls ≡ known h (map told_view (ts ++ e ∷ []))
known_next h ts e ks ls p q =
    let told = map told_view ts in
    let more = spawned (told_view e) in
    let all : flat_map spawned (map told_view (ts ++ e ∷ [])) ≡ flat_map spawned told ++ more =
    ap (flat_map spawned) (map-append told_view ts (e ∷ [])) ∙ flat_map-append spawned told (told_view e ∷ [])
    ∙ ap (λ z. flat_map spawned told ++ z) (append-nil more) in
    q ∙ ap (λ l. learned (short h) l more) p ∙ sym (learned_append (short h) [] (given h ++ flat_map spawned told) more)
    ∙ ap (learned (short h) []) (append_assoc (given h) (flat_map spawned told) more ∙ ap (λ z. given h ++ z) (sym all))

pub known_first : (h : Head) (ks : List Named) → ks ≡ learned (short h) [] (given h) → ks ≡ known h []
known_first h ks e = e ∙ ap (learned (short h) []) (sym (append-nil (given h)))

-- ---- what the code goes through

pub learned_next : (s : Bool) (ks ls ms : List Named) (xs : List Desc1) (x : Desc1) → ls ≡ learned s ks (map desc_view xs)
    → ms ≡ with_known ls (with_name s (desc_view x)) → ms ≡ learned s ks (map desc_view (xs ++ x ∷ []))
learned_next s ks ls ms xs x e f =
    learned_push s ks ls ms (map desc_view xs) (desc_view x) e f ∙ ap (learned s ks) (sym (map-append desc_view xs (x ∷ [])))

pub next_input : (xs : List Input) (i : ℕ) (x : Input) → i < length xs → x ≡ get_or xs i x
    → map input_desc (map input_view (take (i + 1) xs)) ≡ map input_desc (map input_view (take i xs)) ++ input_desc (input_view x) ∷ []
next_input [] i x h e = absurd (omega (arith, h))
next_input (y ∷ xs) zero x h e = ap (λ z. input_desc (input_view z) ∷ []) (sym e)
next_input (y ∷ xs) (suc i) x h e =
    let next : suc i + 1 ≡ suc (i + 1) = omega arith in
    rw next (ap (λ ys. input_desc (input_view y) ∷ ys) (next_input xs i x (omega (arith, h)) e))

pub input_learned : (s : Bool) (m : Desc (List ℕ)) (xs : List Input) (i : ℕ) (x : Input) (k : List ℕ) (ls ms : List Named) → i < length xs
    → x ≡ get_or xs i x → k ≡ x.key → ls ≡ learned s [] (m ∷ map input_desc (map input_view (take i xs)))
    → ms ≡ with_known ls (with_name s (input k)) → ms ≡ learned s [] (m ∷ map input_desc (map input_view (take (i + 1) xs)))
input_learned s m xs i x k ls ms h e q p f =
    learned_push s [] ls ms (m ∷ map input_desc (map input_view (take i xs))) (input k) p f
    ∙ ap (λ ds. learned s [] (m ∷ ds))
    (ap (λ n. map input_desc (map input_view (take i xs)) ++ input n ∷ []) q ∙ sym (next_input xs i x h e))
