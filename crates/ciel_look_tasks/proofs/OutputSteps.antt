-- The names of outputs, description by description.
use Rattle.std.proofs.Common.{◌≡◌, ◌≤◌, ◌<◌, ◌+◌, ◌-◌, ℕ, zero, suc, List, [], ◌∷◌, ◌++◌, Bool, true, false, ◌&&◌, cond, get_or, length, map, take, Option, Some, None, append_assoc, arith, refl, ap, sym, ◌∙◌, subst}
use Rattle.std.specs.Prelude.{nat_eq}
use Rattle.std.specs.BTreeMap.{BTreeMap, Updates, get}
use Rattle.std.specs.List.{cons_option}
use Rattle.std.specs.Option.{option_or}
use Rattle.std.proofs.lemmas.List.{map-append}
use Rattle.sky_base.specs.ObjectView.{desc_view}
use Rattle.sky_base.specs.Val.{Desc, Val, input, out, same_text}
use Rattle.sky_base.specs.declared.object.Desc1.{Desc1}
use Rattle.sky_base.specs.declared.object.TaskId.{TaskId}
use Rattle.ciel_look_told.specs.View.{input_view}
use Rattle.ciel_look_told.specs.declared.header.Input.{Input}
use Rattle.ciel_look_words.specs.Named.{name_of}
use Rattle.ciel_look_words.specs.declared.known.Known.{Known}
use Rattle.ciel_look_tasks.specs.Learned.{input_desc, maker}
use Rattle.ciel_look_tasks.specs.Origins.{origin_cmp}
use Rattle.ciel_look_tasks.specs.ReportView.{TellsOutputs, output_in}
use Rattle.ciel_look_tasks.specs.Reports.{is_output, output_name, outputs}
use Rattle.ciel_look_tasks.specs.Tasks.{same_task}
use Rattle.ciel_look_tasks.proofs.AgainSteps.{origin_test}
use Rattle.ciel_look_tasks.proofs.KnownSteps.{next_input}

-- one description more
name_push : (s : Bool) (ds : List (Desc (List ℕ))) (d : Desc (List ℕ)) (n : List ℕ) (i : ℕ)
    → output_name s (ds ++ d ∷ []) n i ≡ cond (is_output s n i d) (Some (name_of s d)) (output_name s ds n i)
name_push s [] d n i = refl
name_push s (e ∷ ds) d n i = ap (λ o. option_or o here) (name_push s ds d n i) ∙ go (is_output s n i d)
  where
    here : Option (List ℕ)
    here = cond (is_output s n i e) (Some (name_of s e)) None

    go : (b : Bool) → option_or (cond b (Some (name_of s d)) (output_name s ds n i)) here
        ≡ cond b (Some (name_of s d)) (option_or (output_name s ds n i) here)
    go true = refl
    go false = refl

pub output_put : (old new : BTreeMap (List ℕ × ℕ) (List ℕ)) (k x : List ℕ) (v : ℕ) → Updates origin_cmp old new (k, v) (Some x)
    → (n : List ℕ) (i : ℕ) → output_in new n i ≡ cond (same_text n k && nat_eq v i) (Some x) (output_in old n i)
output_put old new k x v u n i = u.0 (n, i) ∙ ap (λ b. cond b (Some x) (get origin_cmp old (n, i))) (origin_test k n v i)

outputs_put : (s : Bool) (old new : BTreeMap (List ℕ × ℕ) (List ℕ)) (ds : List (Desc (List ℕ))) (x : List ℕ) (v : Val (List ℕ)) (c j : ℕ)
    (task : TaskId) (name : List ℕ) → task ≡ maker s (out x v c j) → name ≡ name_of s (out x v c j)
    → ((n : List ℕ) (i : ℕ) → output_in new n i ≡ cond (same_task (TaskId.Of n) task && nat_eq j i) (Some name) (output_in old n i))
    → TellsOutputs s old ds → TellsOutputs s new (ds ++ out x v c j ∷ [])
outputs_put s old new ds x v c j task name e f p h n i =
    p n i ∙ ap (λ t. cond (same_task (TaskId.Of n) t && nat_eq j i) (Some name) (output_in old n i)) e
    ∙ ap (λ m. cond (is_output s n i (out x v c j)) (Some m) (output_in old n i)) f
    ∙ ap (cond (is_output s n i (out x v c j)) (Some (name_of s (out x v c j)))) (h n i) ∙ sym (name_push s ds (out x v c j) n i)

-- of an output
pub noted_output : (k : Known) (x : List ℕ) (v : Val (List ℕ)) (c j : ℕ) (old new : BTreeMap (List ℕ × ℕ) (List ℕ))
    → desc_view k.desc ≡ out x v c j
    → ((n : List ℕ) (i : ℕ) → output_in new n i ≡ cond (same_task (TaskId.Of n) k.task && nat_eq j i) (Some k.name) (output_in old n i))
    → (ds : List (Desc (List ℕ))) → TellsOutputs k.short old ds → TellsOutputs k.short new (ds ++ desc_view k.desc ∷ [])
noted_output k x v c j old new e p ds h =
    subst (λ d. TellsOutputs k.short new (ds ++ d ∷ [])) (sym e)
    (outputs_put k.short old new ds x v c j k.task k.name (k.made ∙ ap (maker k.short) e) (k.named ∙ ap (name_of k.short) e) p h)

-- of what is none
pub noted_other : (k : Known) (d : Desc (List ℕ)) (m : BTreeMap (List ℕ × ℕ) (List ℕ)) → desc_view k.desc ≡ d
    → ((n : List ℕ) (i : ℕ) → is_output k.short n i d ≡ false)
    → (ds : List (Desc (List ℕ))) → TellsOutputs k.short m ds → TellsOutputs k.short m (ds ++ desc_view k.desc ∷ [])
noted_other k d m e o ds h =
    subst (λ q. TellsOutputs k.short m (ds ++ q ∷ [])) (sym e)
    (λ n i. h n i ∙ sym (name_push k.short ds d n i ∙ ap (λ b. cond b (Some (name_of k.short d)) (output_name k.short ds n i)) (o n i)))

pub outputs_learned : (s t : Bool) (d e : Desc1) (old new : BTreeMap (List ℕ × ℕ) (List ℕ)) (ds : List (Desc (List ℕ))) → t ≡ s → e ≡ d
    → (TellsOutputs t old ds → TellsOutputs t new (ds ++ desc_view e ∷ [])) → TellsOutputs s old ds → TellsOutputs s new (ds ++ desc_view d ∷ [])
outputs_learned s t d e old new ds p q f h =
    subst (λ x. TellsOutputs s new (ds ++ desc_view x ∷ [])) q
    (subst (λ b. TellsOutputs b new (ds ++ desc_view e ∷ [])) p (f (subst (λ b. TellsOutputs b old ds) (sym p) h)))

-- descriptions more
pub outputs_next : (s t : Bool) (old mid new : BTreeMap (List ℕ × ℕ) (List ℕ)) (xs : List Desc1) (x : Desc1) (ds : List (Desc (List ℕ))) → t ≡ s
    → (TellsOutputs s old ds → TellsOutputs s mid (ds ++ map desc_view xs))
    → ((es : List (Desc (List ℕ))) → TellsOutputs t mid es → TellsOutputs t new (es ++ desc_view x ∷ []))
    → TellsOutputs s old ds → TellsOutputs s new (ds ++ map desc_view (xs ++ x ∷ []))
outputs_next s t old mid new xs x ds e f g h =
    let es = ds ++ map desc_view xs in
    subst (TellsOutputs s new)
    (append_assoc ds (map desc_view xs) (desc_view x ∷ []) ∙ ap (λ z. ds ++ z) (sym (map-append desc_view xs (x ∷ []))))
    (subst (λ b. TellsOutputs b new (es ++ desc_view x ∷ [])) e (g es (subst (λ b. TellsOutputs b mid es) (sym e) (f h))))

-- an input more
pub input_named : (s t : Bool) (old new : BTreeMap (List ℕ × ℕ) (List ℕ)) (m : Desc (List ℕ)) (xs : List Input) (i : ℕ) (x : Input) (k : List ℕ)
    → i < length xs → x ≡ get_or xs i x → k ≡ x.key → t ≡ s
    → ((es : List (Desc (List ℕ))) → TellsOutputs t old es → TellsOutputs t new (es ++ input k ∷ []))
    → TellsOutputs s old (m ∷ map input_desc (map input_view (take i xs))) → TellsOutputs s new (m ∷ map input_desc (map input_view (take (i + 1) xs)))
input_named s t old new m xs i x k l e q p f h =
    let es = m ∷ map input_desc (map input_view (take i xs)) in
    subst (λ z. TellsOutputs s new (m ∷ z))
    (ap (λ n. map input_desc (map input_view (take i xs)) ++ input n ∷ []) q ∙ sym (next_input xs i x l e))
    (subst (λ b. TellsOutputs b new (es ++ input k ∷ [])) p (f es (subst (λ b. TellsOutputs b old es) (sym p) h)))

-- ---- the outputs of a task, one by one

outputs_more : (s : Bool) (ds : List (Desc (List ℕ))) (n : List ℕ) (k i : ℕ)
    → outputs s ds n i (k + 1) ≡ outputs s ds n i k ++ cons_option (output_name s ds n (i + k)) []
outputs_more s ds n zero i =
    let here : i ≡ i + 0 = omega arith in
    ap (λ j. cons_option (output_name s ds n j) []) here
outputs_more s ds n (suc k) i =
    let next : suc k + 1 ≡ suc (k + 1) = omega arith in
    let later : suc i + k ≡ i + suc k = omega arith in
    rw next
    (ap (cons_option (output_name s ds n i))
    (outputs_more s ds n k (suc i) ∙ ap (λ j. outputs s ds n (suc i) k ++ cons_option (output_name s ds n j) []) later)
    ∙ go (output_name s ds n i) (outputs s ds n (suc i) k) (cons_option (output_name s ds n (i + suc k)) []))
  where
    go : (o : Option (List ℕ)) (xs ys : List (List ℕ)) → cons_option o (xs ++ ys) ≡ cons_option o xs ++ ys
    go None xs ys = refl
    go (Some x) xs ys = refl

pub next_output : (s : Bool) (m : BTreeMap (List ℕ × ℕ) (List ℕ)) (ds : List (Desc (List ℕ))) (n : List ℕ) (i : ℕ) (xs ys : List (List ℕ)) → 1 ≤ i
    → TellsOutputs s m ds → xs ≡ n ∷ outputs s ds n 1 (i - 1) → ys ≡ xs ++ cons_option (output_in m n i) []
    → ys ≡ n ∷ outputs s ds n 1 (i + 1 - 1)
next_output s m ds n i xs ys l h e f =
    let here : 1 + (i - 1) ≡ i = omega (arith, l) in
    let next : i - 1 + 1 ≡ i + 1 - 1 = omega (arith, l) in
    f ∙ ap (λ z. z ++ cons_option (output_in m n i) []) e
    ∙ ap (λ o. (n ∷ outputs s ds n 1 (i - 1)) ++ cons_option o []) (h n i)
    ∙ ap (λ j. (n ∷ outputs s ds n 1 (i - 1)) ++ cons_option (output_name s ds n j) []) (sym here)
    ∙ ap (λ z. n ∷ z) (sym (outputs_more s ds n (i - 1) 1)) ∙ ap (λ k. n ∷ outputs s ds n 1 k) next
