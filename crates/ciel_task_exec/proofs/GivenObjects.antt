-- What lies where an order says is what is given for the names.
use Rattle.std.proofs.Common.{◌≡◌, ℕ, zero, suc, ◌+◌, List, [], ◌∷◌, ◌++◌, length, map, Bool, true, false, cond, Option, Some, Result, Vec, Global}
use Rattle.std.proofs.Common.{slice_get, inl, inr, refl, sym, ap, ap₂, subst, ◌∙◌, arith}
use Rattle.sky_base.specs.KitView.{Gives}
use Rattle.sky_base.specs.Name.{digested, name}
use Rattle.sky_base.specs.Names.{known_of}
use Rattle.sky_base.specs.ObjectView.{object_view}
use Rattle.sky_base.specs.Res as logic
use Rattle.sky_base.specs.See as s
use Rattle.sky_base.specs.Tree.{Script}
use Rattle.sky_base.specs.Val.{Val, distinct, known, out, refs, same_text}
use Rattle.sky_base.specs.declared.fault.Fault.{Fault}
use Rattle.sky_base.specs.declared.object.Object.{Object}
use Rattle.sky_base.proofs.Exact.{exact_text, self_text}
use Rattle.ciel_json.specs.Around.{json_around}
use Rattle.ciel_json.specs.Text.{text_of as writes}
use Rattle.ciel_json.proofs.LowLaw.{text_named}
use Rattle.sky_base_law.specs.Sound.{SoundObject}
use Rattle.sky_base_law.specs.Tasks.{Each, In}
use Rattle.sky_base_law.proofs.Lists.{some_is}
use Rattle.sky_base_law.proofs.TaskOutputs.{in_distinct}
use Rattle.sky_base_known.specs.Known.{KeptObject}
use Rattle.sky_base_known.specs.Walk.{Row}
use Rattle.sky_base_waves.specs.Seen.{Sees}
use Rattle.ciel_task_order.specs.Given.{given_for}
use Rattle.sky_base_exec.specs.Perform.{all_bytes, bytes_seen, collect, one_more, output_of}
use Rattle.sky_base_exec.proofs.Lowered.{sees_out}
use Rattle.ciel_store.specs.Seen.{ShelvesSeen}
use Rattle.ciel_task_order.specs.declared.block.Held.{Held}
use Rattle.ciel_task_order.specs.declared.report.Made.{Made}
use Rattle.ciel_task_inputs.proofs.GatheredInputs.{lies, seen_of}
use Rattle.ciel_task_exec.specs.Outputs.{AreOutputs, IsMade, OutputsFrom}
use Rattle.ciel_task_inputs.specs.Brought.{lies_known}

true_false : true ≡ false → ⊥
true_false e = cc

-- ---- the objects that are given

module _ (inputs : List (List ℕ × List ℕ)) (held : List Held) where
  heads : (a b : Option (logic.Object (List ℕ))) (xs ys : List (Option (logic.Object (List ℕ)))) → a ∷ xs ≡ b ∷ ys → (a ≡ b) × (xs ≡ ys)
  heads a b xs ys e = (cc, cc)

  given_lies : (ns : List (List ℕ)) (os : List Object) → map (lies inputs held) ns ≡ map (seen_of inputs held) os → (n : List ℕ) → In n ns
      → given_for (known_of ns) (map object_view os) (known n) ≡ lies inputs held n
  given_lies [] os e n i = absurd i
  given_lies (m ∷ ns) [] e n i = absurd cc
  given_lies (m ∷ ns) (o ∷ os) e n i =
      go (same_text n m) refl (heads (lies inputs held m) (seen_of inputs held o) (map (lies inputs held) ns) (map (seen_of inputs held) os) e)
      (λ more j. given_lies ns os more n j)
    where
      later : In n (m ∷ ns) → same_text n m ≡ false → In n ns
      later (inl q) f = absurd (true_false (sym (ap (λ x. same_text n x) (sym q) ∙ self_text n) ∙ f))
      later (inr j) f = j

      go : (b : Bool) → same_text n m ≡ b → (lies inputs held m ≡ seen_of inputs held o)
          × (map (lies inputs held) ns ≡ map (seen_of inputs held) os)
          → (map (lies inputs held) ns ≡ map (seen_of inputs held) os → In n ns → given_for (known_of ns) (map object_view os) (known n)
          ≡ lies inputs held n) → given_for (known_of (m ∷ ns)) (map object_view (o ∷ os)) (known n) ≡ lies inputs held n
      go true t both rest =
          ap (λ b. cond b (Some (object_view o)) (given_for (known_of ns) (map object_view os) (known n))) t ∙ sym both.0
          ∙ ap (lies inputs held) (sym (exact_text n m t))
      go false f both rest =
          ap (λ b. cond b (Some (object_view o)) (given_for (known_of ns) (map object_view os) (known n))) f ∙ rest both.1 (later i f)

  among : (ns : List (List ℕ)) (d : Row) → In d (known_of ns) → (n : List ℕ) × In n ns × (d ≡ known n)
  among [] d i = absurd i
  among (n ∷ ns) d (inl e) = (n, inl refl, e)
  among (n ∷ ns) d (inr i) = go (among ns d i)
    where
      go : (m : List ℕ) × In m ns × (d ≡ known m) → (m : List ℕ) × In m (n ∷ ns) × (d ≡ known m)
      go (m, j, e) = (m, inr j, e)

  -- of each reference of the arguments
  given_known : (ns : List (List ℕ)) (os : List Object) (ds : List Row) → known_of ns ≡ distinct same_text ds → map (lies inputs held) ns
      ≡ map (seen_of inputs held) os → (d : Row) → In d ds → given_for (known_of ns) (map object_view os) d ≡ lies_known inputs held d
  given_known ns os ds e so d i =
      go (among ns d (subst (In d) (sym e) (in_distinct same_text exact_text self_text ds d i)))
    where
      go : (n : List ℕ) × In n ns × (d ≡ known n) → given_for (known_of ns) (map object_view os) d ≡ lies_known inputs held d
      go (n, j, q) =
          ap (given_for (known_of ns) (map object_view os)) q ∙ given_lies ns os so n j ∙ ap (lies_known inputs held) (sym q)

  collect_alike : (g h : Row → Result (List ℕ) Fault) (ds : List Row) → ((d : Row) → In d ds → g d ≡ h d) → collect g ds ≡ collect h ds
  collect_alike g h [] e = refl
  collect_alike g h (d ∷ ds) e = ap₂ one_more (e d (inl refl)) (collect_alike g h ds (λ c i. e c (inr i)))

  -- so the inputs are the same
  pub bytes_lie : (a : Val (List ℕ)) (ns : List (List ℕ)) (os : List Object) → known_of ns ≡ distinct same_text (refs a)
      → map (lies inputs held) ns ≡ map (seen_of inputs held) os
      → all_bytes (λ v. writes v) (given_for (known_of ns) (map object_view os)) (refs a) ≡ all_bytes (λ v. writes v) (lies_known inputs held) (refs a)
  bytes_lie a ns os e so =
      collect_alike (λ d. bytes_seen (λ v. writes v) (given_for (known_of ns) (map object_view os) d))
      (λ d. bytes_seen (λ v. writes v) (lies_known inputs held d)) (refs a)
      (λ d i. ap (bytes_seen (λ v. writes v)) (given_known ns os (refs a) e so d i))

-- ---- what was made for an output

pub outputs_push : (digest : List ℕ → List ℕ) (shelves : ShelvesSeen) (w : ℕ) (x : List ℕ) (a : Val (List ℕ)) (n : ℕ)
    (r : Result (List (List ℕ)) Fault) (i k : ℕ) (ms : List Made) (m : Made) → OutputsFrom digest shelves w x a n r i ms → i + length ms ≡ k
    → IsMade digest shelves w (out x a n k) (output_of r k) m → OutputsFrom digest shelves w x a n r i (ms ++ m ∷ [])
outputs_push digest shelves w x a n r i k [] m h e is =
    let at : k ≡ i = omega (arith, e) in (subst (λ y. IsMade digest shelves w (out x a n y) (output_of r y) m) at is, tt)
outputs_push digest shelves w x a n r i k (l ∷ ms) m h e is =
    let at : suc i + length ms ≡ k = omega (arith, e) in
    (h.0, outputs_push digest shelves w x a n r (suc i) k ms m h.1 at is)

-- ---- objects that are sound keep the limits

objects_sound : (sc : Script) (os : List Object) → Each (λ o. SoundObject sc (object_view o)) os → Each (λ o. KeptObject (object_view o)) os
objects_sound sc [] h = tt
objects_sound sc (o ∷ os) h = (kept (object_view o) h.0, objects_sound sc os h.1)
  where
    kept : (x : logic.Object (List ℕ)) → SoundObject sc x → KeptObject x
    kept (logic.Object.bytes b) h = tt
    kept (logic.Object.data_of v) h = h.0
    kept (logic.Object.fault f) h = tt

pub objects_kept : (sc : Script) (seen os : List Object) → seen ≡ os → Each (λ o. SoundObject sc (object_view o)) os
    → Each (λ o. KeptObject (object_view o)) seen
objects_kept sc seen os e h = subst (Each (λ o. KeptObject (object_view o))) (sym e) (objects_sound sc os h)
