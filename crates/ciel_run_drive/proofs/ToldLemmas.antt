-- What gates are told from turn to turn.
use Rattle.std.proofs.Common.{◌≡◌, ◌≢◌, ℕ, ◌<◌, List, [], ◌∷◌, ◌++◌, length, map, Bool, true, false, cond, Option, Some, None, ◌⊎◌, inl, inr, refl}
use Rattle.std.proofs.Common.{ap, sym, ◌∙◌, subst, arith, nat_eq, eqb-true, set}
use Rattle.std.proofs.lemmas.Bool.{cases_eq}
use Rattle.std.proofs.lemmas.List.{append-nil, append_assoc, get_or-set_other, get_or-set_same, length-set, map-append}
use Rattle.sky_base.specs.declared.object.TaskId.{TaskId}
use Rattle.ciel_master_board.specs.Board.{task_key}
use Rattle.ciel_task_crew.specs.Crews.{Fades, FadesEach, TellsTask, extended, told_at}
use Rattle.ciel_journal.specs.Entries.{Entry}
use Rattle.ciel_journal.specs.Job.{Digest, Task}
use Rattle.ciel_journal.specs.Journals.{entered_in}
use Rattle.ciel_task_order.specs.declared.order.Order.{Order}
use Rattle.ciel_run_drive.specs.Told.{ToldOf, ToldOn}

-- ---- one worker's list

entered_both : (w : ℕ) (J K : List Entry) → entered_in w (J ++ K) ≡ entered_in w J ++ entered_in w K
entered_both w [] K = refl
entered_both w (Entry.Start k u t from ∷ es) K = go (nat_eq w u) (entered_both w es K)
  where
    go : (b : Bool) → entered_in w (es ++ K) ≡ entered_in w es ++ entered_in w K → cond b (t ∷ entered_in w (es ++ K)) (entered_in w (es ++ K))
        ≡ cond b (t ∷ entered_in w es) (entered_in w es) ++ entered_in w K
    go true e = ap (λ z. t ∷ z) e
    go false e = e
entered_both w (Entry.Done k made copied ∷ es) K = entered_both w es K
entered_both w (Entry.Saved k j mark ∷ es) K = entered_both w es K
entered_both w (Entry.Missed k name lost ∷ es) K = entered_both w es K
entered_both w (Entry.Lost u closes ∷ es) K = entered_both w es K

told_none : (o : Option (List TaskId)) → ToldOf o [] o
told_none None = tt
told_none (Some ts) = (ts, refl, [], sym (append-nil ts), refl)

told_one : (t : TaskId) (o : Option (List TaskId)) → ToldOf o (task_key t ∷ []) (extended o t)
told_one t None = tt
told_one t (Some ts) = (ts, refl, t ∷ [], refl, refl)

told_faded : (x : Option (List TaskId)) (tasks : List (Task Digest)) (y z : Option (List TaskId)) → ToldOf x tasks y → Fades y z → ToldOf x tasks z
told_faded x tasks y z g (inl e) = subst (ToldOf x tasks) (sym e) tt
told_faded x tasks y z g (inr e) = subst (ToldOf x tasks) (sym e) g

told_both : (x : Option (List TaskId)) (a : List (Task Digest)) (y : Option (List TaskId)) (b : List (Task Digest)) (z : Option (List TaskId))
    → ToldOf x a y → ToldOf y b z → ToldOf x (a ++ b) z
told_both x a y b None f g = tt
told_both x a y b (Some zs) f (was, e, more, whole, keys) = go (subst (ToldOf x a) e f)
  where
    go : ToldOf x a (Some was) → ToldOf x (a ++ b) (Some zs)
    go (first, e1, some, w1, k1) = (
      first,
      e1,
      some ++ more,
      whole ∙ (ap (λ l. l ++ more) w1 ∙ append_assoc first some more),
      map-append task_key some more
          ∙ (ap (λ l. l ++ map task_key more) k1 ∙ ap (λ l. a ++ l) keys),
    )

-- ---- all lists

-- an entry that is no Start
abbrev pub IsQuiet : Entry → Type 0
IsQuiet (Entry.Start k u t from) = ⊥
IsQuiet (Entry.Done k made copied) = Unit {0}
IsQuiet (Entry.Saved k j mark) = Unit {0}
IsQuiet (Entry.Missed k name lost) = Unit {0}
IsQuiet (Entry.Lost u closes) = Unit {0}

quiet_enters : (w : ℕ) (e : Entry) → IsQuiet e → entered_in w (e ∷ []) ≡ []
quiet_enters w (Entry.Start k u t from) q = absurd q
quiet_enters w (Entry.Done k made copied) q = refl
quiet_enters w (Entry.Saved k j mark) q = refl
quiet_enters w (Entry.Missed k name lost) q = refl
quiet_enters w (Entry.Lost u closes) q = refl

pub none_fades : (xs : List (Option (List TaskId))) → FadesEach xs xs
none_fades xs = (refl, λ k l. inr refl)

-- nothing was written
pub tells_none : (old new : List Entry) (x y : List (Option (List TaskId))) → new ≡ old → FadesEach x y → ToldOn old new x y
tells_none old new x y same f =
    ([], same ∙ sym (append-nil old), (f.0, λ w l. told_faded (told_at x w) [] (told_at x w) (told_at y w) (told_none (told_at x w)) (f.1 w l)))

-- something else than a Start
pub tells_quiet : (old new : List Entry) (e : Entry) (x y : List (Option (List TaskId))) → IsQuiet e → new ≡ old ++ e ∷ [] → FadesEach x y
    → ToldOn old new x y
tells_quiet old new e x y q same f = (
  e ∷ [],
  same,
  (
    f.0,
    λ w l. told_faded (told_at x w) (entered_in w (e ∷ [])) (told_at x w) (told_at y w)
        (subst (λ z. ToldOf (told_at x w) z (told_at x w)) (sym (quiet_enters w e q)) (told_none (told_at x w))) (f.1 w l),
  ),
)

-- a Start whose order was sent
module _ (order : Order) (x : List (Option (List TaskId))) where
  abbrev longer : List (Option (List TaskId))
  longer = set x order.worker (extended (told_at x order.worker) order.task)

  abbrev Grew : ℕ → Bool → Option (List TaskId) → Type 0
  Grew w b o = ToldOf (told_at x w) (cond b (task_key order.task ∷ []) []) o

  same_eq : (w : ℕ) → w ≡ order.worker → nat_eq w order.worker ≡ true
  same_eq w e = grind (arith, e)

  other_eq : (w : ℕ) → w ≢ order.worker → nat_eq w order.worker ≡ false
  other_eq w n = pick (nat_eq w order.worker) refl
    where
      pick : (b : Bool) → nat_eq w order.worker ≡ b → nat_eq w order.worker ≡ false
      pick true e = absurd (n (eqb-true w order.worker e))
      pick false e = e

  grew_at : (w : ℕ) → w < length x → Grew w (nat_eq w order.worker) (told_at longer w)
  grew_at w l = go (cases_eq w order.worker)
    where
      go : (w ≡ order.worker) ⊎ (w ≢ order.worker) → Grew w (nat_eq w order.worker) (told_at longer w)
      go (inl e) =
          let at : told_at longer w ≡ extended (told_at x w) order.task =
          ap (λ n. told_at (set x n (extended (told_at x n) order.task)) w) (sym e)
          ∙ get_or-set_same x w (extended (told_at x w) order.task) None l in
          subst (λ b. Grew w b (told_at longer w)) (sym (same_eq w e)) (subst (Grew w true) (sym at) (told_one order.task (told_at x w)))
      go (inr n) =
          subst (λ b. Grew w b (told_at longer w)) (sym (other_eq w n))
          (subst (Grew w false) (sym (get_or-set_other x order.worker w (extended (told_at x order.worker) order.task) None n))
          (told_none (told_at x w)))

  pub tells_start : (old new : List Entry) (k from : ℕ) (y : List (Option (List TaskId))) → new ≡ old
      ++ Entry.Start k order.worker (task_key order.task) from ∷ [] → TellsTask order x y → ToldOn old new x y
  tells_start old new k from y same f =
      (Entry.Start k order.worker (task_key order.task) from ∷ [], same, (f.0 ∙ wide, each))
    where
      wide : length longer ≡ length x
      wide = length-set x order.worker (extended (told_at x order.worker) order.task)

      each : (w : ℕ) → w < length x → ToldOf (told_at x w) (entered_in w (Entry.Start k order.worker (task_key order.task) from ∷ [])) (told_at y w)
      each w l =
          told_faded (told_at x w) (entered_in w (Entry.Start k order.worker (task_key order.task) from ∷ [])) (told_at longer w) (told_at y w)
          (grew_at w l) (f.1 w (subst (λ n. w < n) (sym wide) l))

-- one after another
pub tells_both : (old new last : List Entry) (x y z : List (Option (List TaskId))) → ToldOn old new x y → ToldOn new last y z → ToldOn old last x z
tells_both old new last x y z (es, grown, (all, each)) (fs, also, (still, then)) = (
  es ++ fs,
  also ∙ (ap (λ l. l ++ fs) grown ∙ append_assoc old es fs),
  (
    still ∙ all,
    λ w l. subst (λ t. ToldOf (told_at x w) t (told_at z w)) (sym (entered_both w es fs))
        (told_both (told_at x w) (entered_in w es) (told_at y w) (entered_in w fs) (told_at z w) (each w l)
        (then w (subst (λ n. w < n) (sym all) l))),
  ),
)
