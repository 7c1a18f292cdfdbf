-- What a table has rows for it keeps rows for, with the same descriptions; so what is safe in it stays so.
use Rattle.std.proofs.Common.{◌≡◌, ℕ, List, [], ◌∷◌, ◌++◌, Bool, true, false, cond, map, Option, Some, None, Ok, Err, ◌⊎◌, inl, inr, refl, ap, sym}
use Rattle.std.proofs.Common.{◌∙◌, subst}
use Rattle.std.specs.List.{AllByRecursion}
use Rattle.std.specs.Option.{option_map_or}
use Rattle.sky_base.specs.Name.{canon, digested}
use Rattle.sky_base.specs.ObjectView.{desc_view}
use Rattle.sky_base.specs.Tree.{Script}
use Rattle.sky_base.specs.Val.{Desc, call, input, known, out, same_text}
use Rattle.sky_base.specs.declared.object.Named.{Named}
use Rattle.sky_base.specs.declared.object.TaskId.{TaskId}
use Rattle.sky_base.proofs.Exact.{exact_text, self_text}
use Rattle.ciel_master_board.specs.Reports.{AllLearned, IsNamed, learned_all, named_view}
use Rattle.ciel_master_board.proofs.LearnedNames.{Comes, comes, new, there}
use Rattle.ciel_master_board.proofs.SoundLemmas.{all_keeps}
use Rattle.ciel_journal.specs.Job.{Each, In}
use Rattle.ciel_journal.proofs.Members.{bool_cases}
use Rattle.ciel_name.specs.Laws.{SpelledDesc}
use Rattle.ciel_name.proofs.Canon.{one_canon}
use Rattle.ciel_store.specs.Seen.{ShelvesSeen}
use Rattle.ciel_table.specs.Learning.{if_held, kept_bytes, learn_answer, learn_at, learned, new_row}
use Rattle.ciel_table.specs.Named.{changed, found}
use Rattle.ciel_table.specs.Seen.{Known, TableSeen, find, row_name, row_named}
use Rattle.ciel_table.specs.Sound.{Here}
use Rattle.ciel_table.specs.declared.refusal.Learn.{Learn}
use Rattle.ciel_table.specs.declared.row.Row.{Row}
use Rattle.ciel_table.specs.declared.wait.Saves.{Saves}
use Rattle.ciel_table.specs.declared.wait.Wait.{Wait}
use Rattle.ciel_table.proofs.ByName.{found_none}
use Rattle.ciel_table.proofs.Lists.{all_more, all_push}
use Rattle.ciel_task_order.specs.Views.{P}
use Rattle.ciel_master_board.specs.Waited.{AllKnown}
use Rattle.ciel_master_safe.specs.Safe.{HasDesc, HasOutputs, IsCall, ObjectLies, ObjectSafe, RowSafe, SavesSafe, WaitSafe}

-- ---- look-ups

module _ {X : Type 0} (name : X → List ℕ) where
  pub found_more : (n : List ℕ) (xs ys : List X) (x : X) → found name n xs ≡ Some x → found name n (xs ++ ys) ≡ Some x
  found_more n [] ys x e = cc
  found_more n (y ∷ xs) ys x e = pick (same_text n (name y)) e (found_more n xs ys x)
    where
      pick : (b : Bool) → cond b (Some y) (found name n xs) ≡ Some x → (found name n xs ≡ Some x → found name n (xs ++ ys) ≡ Some x)
          → cond b (Some y) (found name n (xs ++ ys)) ≡ Some x
      pick true h k = h
      pick false h k = k h

  pub found_end : (n : List ℕ) (xs : List X) (x : X) → found name n xs ≡ None → name x ≡ n → found name n (xs ++ x ∷ []) ≡ Some x
  found_end n [] x e q = ap (λ b. cond b (Some x) None) (subst (λ m. same_text n m ≡ true) (sym q) (self_text n))
  found_end n (y ∷ xs) x e q = pick (same_text n (name y)) e (λ h. found_end n xs x h q)
    where
      pick : (b : Bool) → cond b (Some y) (found name n xs) ≡ None → (found name n xs ≡ None → found name n (xs ++ x ∷ []) ≡ Some x)
          → cond b (Some y) (found name n (xs ++ x ∷ [])) ≡ Some x
      pick true h k = cc
      pick false h k = k h

  module _ (f : X → X) (keeps : (x : X) → name (f x) ≡ name x) where
    pub found_mapped : (n : List ℕ) (xs : List X) (x : X) → found name n xs ≡ Some x → found name n (map f xs) ≡ Some (f x)
    found_mapped n [] x e = cc
    found_mapped n (y ∷ xs) x e =
        subst (λ m. cond (same_text n m) (Some (f y)) (found name n (map f xs)) ≡ Some (f x)) (sym (keeps y))
        (pick (same_text n (name y)) e (found_mapped n xs x))
      where
        pick : (b : Bool) → cond b (Some y) (found name n xs) ≡ Some x → (found name n xs ≡ Some x → found name n (map f xs) ≡ Some (f x))
            → cond b (Some (f y)) (found name n (map f xs)) ≡ Some (f x)
        pick true h k = let q : y ≡ x = cc in ap (λ z. Some (f z)) q
        pick false h k = k h

    -- one that is changed, or not
    pub found_changed : (m n : List ℕ) (xs : List X) (x : X) → found name n xs ≡ Some x
        → (found name n (changed name f m xs) ≡ Some x) ⊎ (found name n (changed name f m xs) ≡ Some (f x))
    found_changed m n [] x e = cc
    found_changed m n (y ∷ xs) x e = turn (same_text m (name y)) (found_changed m n xs x)
      where
        here : (b : Bool) → cond b (Some y) (found name n xs) ≡ Some x → (cond b (Some (f y)) (found name n xs) ≡ Some x)
            ⊎ (cond b (Some (f y)) (found name n xs) ≡ Some (f x))
        here true h = let q : y ≡ x = cc in inr (ap (λ z. Some (f z)) q)
        here false h = inl h

        later : (b : Bool) → cond b (Some y) (found name n xs) ≡ Some x
            → (found name n xs ≡ Some x → (found name n (changed name f m xs) ≡ Some x) ⊎ (found name n (changed name f m xs) ≡ Some (f x)))
            → (cond b (Some y) (found name n (changed name f m xs)) ≡ Some x) ⊎ (cond b (Some y) (found name n (changed name f m xs)) ≡ Some (f x))
        later true h k = inl h
        later false h k = k h

        turn : (b : Bool)
            → (found name n xs ≡ Some x → (found name n (changed name f m xs) ≡ Some x) ⊎ (found name n (changed name f m xs) ≡ Some (f x)))
            → (found name n (cond b (f y ∷ xs) (y ∷ changed name f m xs)) ≡ Some x)
            ⊎ (found name n (cond b (f y ∷ xs) (y ∷ changed name f m xs)) ≡ Some (f x))
        turn true k =
            subst (λ z. (cond (same_text n z) (Some (f y)) (found name n xs) ≡ Some x) ⊎ (cond (same_text n z) (Some (f y)) (found name n xs) ≡ Some (f x)))
            (sym (keeps y)) (here (same_text n (name y)) e)
        turn false k = later (same_text n (name y)) e k

-- ---- growth

pub record Grows (t u : TableSeen P) : Type 0 where
  pub known : (n : List ℕ) → Known t n → Known u n
  pub found : (n : List ℕ) (r : Row P) → row_named n t ≡ Some r → (q : Row P) × (row_named n u ≡ Some q) × (q.desc ≡ r.desc)

pub grows_self : (t : TableSeen P) → Grows t t
grows_self t = record { known = λ n k. k; found = λ n r e. (r, e, refl) }

pub grows_join : (t u v : TableSeen P) → Grows t u → Grows u v → Grows t v
grows_join t u v g h =
    record {
      known = λ n k. h.known n (g.known n k);
      found = λ n r e. let a = g.found n r e in let b = h.found n a.0 a.1 in (b.0, b.1, b.2 ∙ a.2);
    }

module _ (digest : List ℕ → List ℕ) (t u : TableSeen P) (g : Grows t u) where
  pub desc_grows : (d : Desc (List ℕ)) → HasDesc digest t d → HasDesc digest u d
  desc_grows d h =
      let q = g.found (digested digest d) h.row h.found in record { row = q.0; found = q.1; same = ap desc_view q.2 ∙ h.same }

  pub outputs_grow : (d : Desc (List ℕ)) → HasOutputs digest t d → HasOutputs digest u d
  outputs_grow (call f c vs) h = desc_grows (call f c vs) h
  outputs_grow (out x a n i) h = (h.0, λ k lt. desc_grows (out x a n k) (h.1 k lt))
  outputs_grow (input k) h = tt
  outputs_grow (known b) h = h

module _ (digest : List ℕ → List ℕ) (shelves : ShelvesSeen) (sc : Script) (t u : TableSeen P) (g : Grows t u) where
  all_known : (ns : List (List ℕ)) → AllKnown t ns → AllKnown u ns
  all_known ns a = all_more (Known t) (Known u) g.known ns a

  pub lies_grows : (p : P) → ObjectLies digest shelves sc t p → ObjectLies digest shelves sc u p
  lies_grows p a = record { place = a.place; object = a.object; known = all_known _ a.known }

  module _ (gone : u.gone ≡ t.gone) where
    here_same : (w : ℕ) → Here t.gone w → Here u.gone w
    here_same w h = subst (λ gs. Here gs w) (sym gone) h

    pub object_grows : (p : P) → ObjectSafe digest shelves sc t p → ObjectSafe digest shelves sc u p
    object_grows p a = record { lies = lies_grows p a.lies; here = here_same p.worker a.here }

    pub row_grows : (keys : List (List ℕ)) (r : Row P) → RowSafe digest shelves sc keys t r → RowSafe digest shelves sc keys u r
    row_grows keys r a =
        record {
          serves = a.serves;
          outputs = outputs_grow digest t u g (desc_view r.desc) a.outputs;
          places = all_more (ObjectSafe digest shelves sc t) (ObjectSafe digest shelves sc u) object_grows r.places a.places;
        }

    pub wait_grows : (task : TaskId) (w : Wait P) → WaitSafe digest shelves sc t task w → WaitSafe digest shelves sc u task w
    wait_grows task w a = record { later = a.later; place = a.place; stack = a.stack; here = here_same w.place.worker a.here }

    pub saves_grows : (s : Saves P) → SavesSafe digest shelves sc t s → SavesSafe digest shelves sc u s
    saves_grows s a =
        let q = g.found s.name a.row a.found in
        record {
          row = q.0;
          found = q.1;
          call = subst IsCall (sym q.2) a.call;
          waits = all_more (WaitSafe digest shelves sc t (TaskId.Of s.name)) (WaitSafe digest shelves sc u (TaskId.Of s.name))
              (wait_grows (TaskId.Of s.name)) s.waits a.waits;
        }

-- ---- learning

module _ (digest : List ℕ → List ℕ) where
  -- one that is learned
  pub learned_grows : (n : Named) (t : TableSeen P) → Grows t (learned digest n t)
  learned_grows n t = record { known = λ m k. all_keeps digest (n ∷ []) t m k; found = λ m r e. pick m r e (comes digest n t) }
    where
      pick : (m : List ℕ) (r : Row P) → row_named m t ≡ Some r → Comes digest n t → (q : Row P) × (row_named m (learned digest n t) ≡ Some q)
          × (q.desc ≡ r.desc)
      pick m r e (there same x i k some f) = (r, subst (λ rs. found row_name m rs ≡ Some r) (sym same) e, refl)
      pick m r e (new grew none) =
          (r, subst (λ rs. found row_name m rs ≡ Some r) (sym grew) (found_more row_name m t.rows (new_row digest n ∷ []) r e), refl)

  pub all_grow : (ns : List Named) (t : TableSeen P) → Grows t (learned_all digest ns t)
  all_grow [] t = grows_self t
  all_grow (n ∷ ns) t =
      grows_join t (learned digest n t) (learned_all digest ns (learned digest n t)) (learned_grows n t) (all_grow ns (learned digest n t))

  -- where it has a row and is learned, the row has its description
  held_same : (n : Named) (t : TableSeen P) (r : Row P) → row_named n.name t ≡ Some r → (find n.name t ≡ None → ⊥) → SpelledDesc (desc_view r.desc)
      → IsNamed digest n → (id : ℕ) → learn_answer n t ≡ Ok id → desc_view r.desc ≡ named_view n
  held_same n t r f some k m id e = pick (find n.name t) refl e
    where
      turn : (i : ℕ) → ((same_text (kept_bytes n.name t) (canon (named_view n)) ≡ true)
          ⊎ (same_text (kept_bytes n.name t) (canon (named_view n)) ≡ false)) → if_held i (kept_bytes n.name t) (canon (named_view n)) ≡ Ok id
          → desc_view r.desc ≡ named_view n
      turn i (inl y) h =
          one_canon (desc_view r.desc) (named_view n) k m.spelled
          (sym (ap (λ o. option_map_or (λ (x : Row P). canon (desc_view x.desc)) o []) f)
          ∙ exact_text (kept_bytes n.name t) (canon (named_view n)) y)
      turn i (inr y) h =
          let bad : Err (Learn.Clash (kept_bytes n.name t) (canon (named_view n))) ≡ Ok id =
          sym (ap (λ b. cond b (Ok i) (Err (Learn.Clash (kept_bytes n.name t) (canon (named_view n))))) y) ∙ h in cc

      pick : (o : Option ℕ) → find n.name t ≡ o → learn_at o n t ≡ Ok id → desc_view r.desc ≡ named_view n
      pick None g h = absurd (some g)
      pick (Some i) g h = turn i (bool_cases (same_text (kept_bytes n.name t) (canon (named_view n)))) h

  abbrev Spells : Row P → Type 0
  Spells r = SpelledDesc (desc_view r.desc)

  all_in : (Q : Row P → Type 0) (rs : List (Row P)) (r : Row P) → AllByRecursion Q rs → In r rs → Q r
  all_in Q [] r a i = absurd i
  all_in Q (x ∷ xs) r a (inl e) = subst Q (sym e) a.0
  all_in Q (x ∷ xs) r a (inr i) = all_in Q xs r a.1 i

  learned_spells : (n : Named) (t : TableSeen P) → AllByRecursion Spells t.rows → IsNamed digest n → AllByRecursion Spells (learned digest n t).rows
  learned_spells n t a m = pick (comes digest n t)
    where
      pick : Comes digest n t → AllByRecursion Spells (learned digest n t).rows
      pick (there same x i k some f) = subst (AllByRecursion Spells) (sym same) a
      pick (new grew none) = subst (AllByRecursion Spells) (sym grew) (all_push Spells t.rows (new_row digest n) a m.spelled)

  -- what is learned has its own row
  learned_has : (n : Named) (t : TableSeen P) → AllByRecursion Spells t.rows → IsNamed digest n → (id : ℕ) → learn_answer n t ≡ Ok id
      → HasDesc digest (learned digest n t) (named_view n)
  learned_has n t a m id e = pick (comes digest n t)
    where
      pick : Comes digest n t → HasDesc digest (learned digest n t) (named_view n)
      pick (there same x i k some f) =
          record {
            row = x;
            found = subst (λ rs. found row_name (digested digest (named_view n)) rs ≡ Some x) (sym same)
                (subst (λ q. found row_name q t.rows ≡ Some x) m.name f);
            same = held_same n t x f some (all_in Spells t.rows x a i) m id e;
          }
      pick (new grew none) =
          record {
            row = new_row digest n;
            found = subst (λ rs. found row_name (digested digest (named_view n)) rs ≡ Some (new_row digest n)) (sym grew)
                (subst (λ q. found row_name q (t.rows ++ new_row digest n ∷ []) ≡ Some (new_row digest n)) m.name
                (found_end row_name n.name t.rows (new_row digest n) (found_none row_name n.name t.rows none) refl));
            same = refl;
          }

  pub all_have : (ns : List Named) (t : TableSeen P) → AllByRecursion (λ (r : Row P). SpelledDesc (desc_view r.desc)) t.rows → Each (IsNamed digest) ns
      → AllLearned digest ns t → Each (λ (n : Named). HasDesc digest (learned_all digest ns t) (named_view n)) ns
  all_have [] t a m l = tt
  all_have (n ∷ ns) t a m l = (
    desc_grows digest (learned digest n t) (learned_all digest ns (learned digest n t)) (all_grow ns (learned digest n t))
        (named_view n) (learned_has n t a m.0 l.0.0 l.0.1),
    all_have ns (learned digest n t) (learned_spells n t a m.0) m.1 l.1,
  )
