-- Setting the flags of the tasks that are out, one after another.
use Rattle.std.proofs.Common.{◌≡◌, ℕ, zero, suc, ◌<◌, List, [], ◌∷◌, Bool, true, false, ◌||◌, length, nat_eq, eqb-true, replicate, set, slice_get}
use Rattle.std.proofs.Common.{refl, ap, sym, ◌∙◌, subst, ◌⊎◌, inl, inr, arith, Option, Some, None}
use Rattle.std.specs.Option.{option_map_or}
use Rattle.std.proofs.lemmas.List.{length-replicate}
use Rattle.sky_base.specs.Val.{same_text}
use Rattle.sky_base.specs.declared.object.TaskId.{TaskId}
use Rattle.sky_base.proofs.Exact.{exact_text, self_text}
use Rattle.ciel_table.specs.Named.{IsOnce}
use Rattle.ciel_table.specs.Seen.{TableSeen, find, row_name}
use Rattle.ciel_table.specs.declared.row.Row.{Row}
use Rattle.ciel_table.proofs.Lists.{bool_cases}
use Rattle.ciel_want.specs.Board.{IsSet, Outs, task_at}
use Rattle.ciel_want.specs.Waited.{is_in, same_id}
use Rattle.ciel_want.proofs.SeenFlags.{set_here, set_other}
use Rattle.ciel_want.proofs.Rows.{item_at, own_place}

or_nothing : (b : Bool) → b || false ≡ b
or_nothing true = refl
or_nothing false = refl

or_first : (b c d : Bool) → (b || c) || d ≡ b || (c || d)
or_first true c d = refl
or_first false c d = refl

module _ {P : Type 0} (t : TableSeen P) where
  -- a flag, or what is still to come, says whether a task is out
  pub record Flag (tasks rest : List TaskId) (x : TaskId) (flag : Option Bool) : Type 0 where
    pub set : Bool
    pub is : flag ≡ Some set
    pub says : set || is_in rest x ≡ is_in tasks x

  pub record Outing (tasks rest : List TaskId) (rows : List Bool) (root : Bool) : Type 0 where
    pub long : length rows ≡ length t.rows
    pub root_says : root || is_in rest TaskId.Show ≡ is_in tasks TaskId.Show
    pub rows_say : (e : ℕ) → e < length t.rows → Flag tasks rest (task_at t (Some e)) (slice_get rows e)

  unset : (n e : ℕ) → e < n → slice_get (replicate n false) e ≡ Some false
  unset zero e l = absurd (omega (arith, l))
  unset (suc n) zero l = refl
  unset (suc n) (suc e) l = unset n e (omega (arith, l))

  pub out_start : (tasks : List TaskId) (rows : List Bool) → rows ≡ replicate (length t.rows) false → Outing tasks tasks rows false
  out_start tasks rows e =
      record {
        long = ap length e ∙ length-replicate (length t.rows) false;
        root_says = refl;
        rows_say = λ k l. record { set = false; is = ap (λ fs. slice_get fs k) e ∙ unset (length t.rows) k l; says = refl };
      }

  flag_step : (tasks rest : List TaskId) (x task : TaskId) (old new : Option Bool) → Flag tasks (task ∷ rest) x old
      → IsSet (same_id x task) old new → Flag tasks rest x new
  flag_step tasks rest x task old new f h = turn (same_id x task) refl h
    where
      turn : (b : Bool) → same_id x task ≡ b → IsSet b old new → Flag tasks rest x new
      turn true q k =
          record {
            set = true;
            is = k;
            says = sym (or_any f.set (is_in rest x)) ∙ (ap (λ b. f.set || (b || is_in rest x)) (sym q) ∙ f.says);
          }
        where
          or_any : (b c : Bool) → b || (true || c) ≡ true
          or_any true c = refl
          or_any false c = refl
      turn false q k =
          record { set = f.set; is = k ∙ f.is; says = ap (λ b. f.set || (b || is_in rest x)) (sym q) ∙ f.says }

  pub out_step : (tasks rest : List TaskId) (task : TaskId) (rows after : List Bool) (root next : Bool) → Outing tasks (task ∷ rest) rows root
      → next ≡ root || same_id TaskId.Show task → length after ≡ length t.rows
      → ((e : ℕ) → e < length t.rows → IsSet (same_id (task_at t (Some e)) task) (slice_get rows e) (slice_get after e))
      → Outing tasks rest after next
  out_step tasks rest task rows after root next o n l h =
      record {
        long = l;
        root_says = ap (λ b. b || is_in rest TaskId.Show) n
            ∙ (or_first root (same_id TaskId.Show task) (is_in rest TaskId.Show) ∙ o.root_says);
        rows_say = λ e k. flag_step tasks rest (task_at t (Some e)) task (slice_get rows e) (slice_get after e) (o.rows_say e k) (h e k);
      }

  pub out_end : (tasks : List TaskId) (rows : List Bool) (root : Bool) → Outing tasks [] rows root → Outs t tasks rows root
  out_end tasks rows root o =
      record {
        long = o.long;
        root_is = sym (or_nothing root) ∙ o.root_says;
        rows_are = λ e l. (o.rows_say e l).is ∙ ap (λ b. Some b) (sym (or_nothing (o.rows_say e l).set) ∙ (o.rows_say e l).says);
      }

  -- ---- setting one flag

  got : {A : Type 0} (xs : List A) (e : ℕ) → e < length xs → (x : A) × (slice_get xs e ≡ Some x)
  got [] e l = absurd (omega (arith, l))
  got (x ∷ xs) zero l = (x, refl)
  got (x ∷ xs) (suc e) l = got xs e (omega (arith, l))

  abbrev name : ℕ → List ℕ
  name e = option_map_or row_name (slice_get t.rows e) []

  name_is : (e : ℕ) (r : Row P) → slice_get t.rows e ≡ Some r → name e ≡ r.name
  name_is e r g = ap (λ (o : Option (Row P)). option_map_or row_name o []) g

  -- a row of that name is its row
  own_row : IsOnce row_name t.rows → (m : List ℕ) (e : ℕ) → e < length t.rows → same_text (name e) m ≡ true → find m t ≡ Some e
  own_row once m e l s =
      let q = got t.rows e l in
      ap (λ n. find n t) (sym (exact_text (name e) m s) ∙ name_is e q.0 q.1)
      ∙ own_place row_name t.rows e q.0 once q.1

  pub flag_none : IsOnce row_name t.rows → (m : List ℕ) (e : ℕ) (old : Option Bool) → find m t ≡ None → e < length t.rows
      → IsSet (same_text (name e) m) old old
  flag_none once m e old f l = turn (bool_cases (same_text (name e) m))
    where
      turn : ((same_text (name e) m ≡ true) ⊎ (same_text (name e) m ≡ false)) → IsSet (same_text (name e) m) old old
      turn (inl s) = let a : Some e ≡ None = sym (own_row once m e l s) ∙ f in cc
      turn (inr s) = subst (λ b. IsSet b old old) (sym s) refl

  pub flag_some : IsOnce row_name t.rows → (m : List ℕ) (k e : ℕ) (flags : List Bool) → find m t ≡ Some k → length flags ≡ length t.rows
      → e < length t.rows → IsSet (same_text (name e) m) (slice_get flags e) (slice_get (set flags k true) e)
  flag_some once m k e flags f n l = turn (bool_cases (same_text (name e) m))
    where
      apart : same_text (name e) m ≡ false → ((nat_eq e k ≡ true) ⊎ (nat_eq e k ≡ false)) → nat_eq e k ≡ false
      apart s (inr y) = y
      apart s (inl y) =
          let q = item_at row_name m t.rows k f in
          let same : name e ≡ m = name_is e q.item (ap (slice_get t.rows) (eqb-true e k y) ∙ q.there) ∙ q.named in
          let b : true ≡ false = sym (subst (λ x. same_text x m ≡ true) (sym same) (self_text m)) ∙ s in
          cc

      turn : ((same_text (name e) m ≡ true) ⊎ (same_text (name e) m ≡ false))
          → IsSet (same_text (name e) m) (slice_get flags e) (slice_get (set flags k true) e)
      turn (inl s) =
          let a : Some k ≡ Some e = sym f ∙ own_row once m e l s in
          let same : k ≡ e = cc in
          let h : slice_get (set flags k true) e ≡ Some true = ap (λ i. slice_get (set flags i true) e) same
          ∙ set_here flags e true (omega (arith, n, l)) in
          subst (λ b. IsSet b (slice_get flags e) (slice_get (set flags k true) e)) (sym s) h
      turn (inr s) =
          subst (λ b. IsSet b (slice_get flags e) (slice_get (set flags k true) e)) (sym s)
          (set_other flags k e true (apart s (bool_cases (nat_eq e k))))
