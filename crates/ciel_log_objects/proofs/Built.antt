-- Lists of outputs and of copies, built one after another.
use Rattle.std.proofs.Common.{◌≡◌, ◌<◌, ◌≤◌, ◌+◌, ℕ, zero, suc, List, [], ◌∷◌, ◌++◌, drop, length, map, refl, ap, sym, ◌∙◌, subst, arith, append_assoc, drop-cons, slice_index_or, Some}
use Rattle.std.proofs.lemmas.List.{append-nil, map-append}
use Rattle.std.specs.BTreeMap.{BTreeMap, Updates, get}
use Rattle.sha1.specs.Sha1.{sha1}
use Rattle.sky_base.specs.NameOrder.{name_cmp}
use Rattle.sky_base.specs.ObjectView.{object_view}
use Rattle.sky_base.specs.Tree.{Script}
use Rattle.sky_base.specs.declared.object.Object.{Object}
use Rattle.ciel_journal.specs.Job.{Digest, Each}
use Rattle.ciel_name.specs.Object.{object_bytes}
use Rattle.ciel_store.specs.Seen.{IsPlaceOf, ShelvesSeen}
use Rattle.ciel_task_order.specs.Shop as shop
use Rattle.ciel_task_order.specs.Shop.{block_view}
use Rattle.ciel_task_order.specs.Views.{P}
use Rattle.ciel_task_order.specs.declared.block.Block.{Block}
use Rattle.ciel_task_order.specs.declared.block.Held.{Held}
use Rattle.ciel_task_order.specs.declared.block.Spot.{Spot}
use Rattle.ciel_task_order.specs.declared.report.Made.{Made}
use Rattle.ciel_log_fits.specs.Known.{AfterSeen}
use Rattle.ciel_log_objects.specs.Objects.{AreCopies, AreMade, IsCopyOf, KeepsEach, LiesThere, PassedThere, Passes, none, one}

-- ---- an object that was put

pub lies_there : (shelves : ShelvesSeen) (worker : ℕ) (o copy : Object) (p : P) → copy ≡ o
    → IsPlaceOf shelves p × (p.worker ≡ worker) × (p.at.value ≡ Block.Object copy) → LiesThere shelves worker (object_view o) p
lies_there shelves worker o copy p same h =
    record { place = h.0; here = h.1; block = ap block_view h.2 ∙ ap (λ z. shop.Block.object (object_view z)) same }

-- ---- one more at the end

each_more : {A : Type 0} (Q : A → Type 0) (xs : List A) (x : A) → Each Q xs → Q x → Each Q (xs ++ x ∷ [])
each_more Q [] x h q = (q, tt)
each_more Q (y ∷ ys) x h q = (h.0, each_more Q ys x h.1 q)

-- those so far, and those that are left
next_one : {A C : Type 0} (f : A → C) (xs : List A) (x : A) (ys : List C) (y : C) (i : ℕ) → map f xs ++ drop i ys ≡ ys → drop i ys ≡ y ∷ drop (i + 1) ys
    → f x ≡ y → map f (xs ++ x ∷ []) ++ drop (i + 1) ys ≡ ys
next_one f xs x ys y i e d q =
    ap (λ z. z ++ drop (i + 1) ys) (map-append f xs (x ∷ [])) ∙ (append_assoc (map f xs) (f x ∷ []) (drop (i + 1) ys)
    ∙ (ap (λ z. map f xs ++ z ∷ drop (i + 1) ys) q ∙ (ap (λ z. map f xs ++ z) (sym d) ∙ e)))

drop_past : {A : Type 0} (i : ℕ) (xs : List A) → length xs ≤ i → drop i xs ≡ []
drop_past zero [] l = refl
drop_past zero (x ∷ xs) l = absurd (omega (arith, l))
drop_past (suc i) [] l = refl
drop_past (suc i) (x ∷ xs) l = drop_past i xs (omega (arith, l))

all_there : {A C : Type 0} (f : A → C) (xs : List A) (ys : List C) (i : ℕ) → map f xs ++ drop i ys ≡ ys → length ys ≤ i → map f xs ≡ ys
all_there f xs ys i e l = sym (append-nil (map f xs)) ∙ (ap (λ z. map f xs ++ z) (sym (drop_past i ys l)) ∙ e)

drop_map : {A C : Type 0} (f : A → C) (i : ℕ) (xs : List A) → drop i (map f xs) ≡ map f (drop i xs)
drop_map f zero xs = refl
drop_map f (suc i) [] = refl
drop_map f (suc i) (x ∷ xs) = drop_map f i xs

long_map : {A C : Type 0} (f : A → C) (xs : List A) → length (map f xs) ≡ length xs
long_map f [] = refl
long_map f (x ∷ xs) = ap suc (long_map f xs)

-- what stands at a place, and what stands behind it
pub cut_there : {A : Type 0} (xs : List A) (i : ℕ) (x : A) → i < length xs → x ≡ slice_index_or xs i x → drop i xs ≡ x ∷ drop (i + 1) xs
cut_there xs i x l e =
    let next : suc i ≡ i + 1 = omega arith in
    drop-cons xs i x l ∙ (ap (λ y. y ∷ drop (suc i) xs) (sym e) ∙ ap (λ k. x ∷ drop k xs) next)

cut_map : {A C : Type 0} (f : A → C) (xs : List A) (i : ℕ) (x : A) → drop i xs ≡ x ∷ drop (i + 1) xs → drop i (map f xs) ≡ f x ∷ drop (i + 1) (map f xs)
cut_map f xs i x e = drop_map f i xs ∙ (ap (map f) e ∙ ap (λ z. f x ∷ z) (sym (drop_map f (i + 1) xs)))

-- ---- outputs

abbrev name_of : Made → Digest
name_of m = m.name

abbrev block_of : Made → shop.Block
block_of m = block_view m.place.at.value

abbrev mark_of : Made → Digest
mark_of m = m.mark

abbrev block_for : Object → shop.Block
block_for o = shop.Block.object (object_view o)

abbrev mark_for : Object → Digest
mark_for o = sha1 (object_bytes (object_view o))

module _ (shelves : ShelvesSeen) (worker : ℕ) (sc : Script) (after : AfterSeen P) (names : List Digest) (objects : List Object)
    (before : BTreeMap Digest Object) where
  -- so many of them, each of which is kept
  pub record MadeTo (i : ℕ) (ms : List Made) (kept : BTreeMap Digest Object) : Type 0 where
    pub named : map name_of ms ++ drop i names ≡ names
    pub blocks : map block_of ms ++ drop i (map block_for objects) ≡ map block_for objects
    pub marked : map mark_of ms ++ drop i (map mark_for objects) ≡ map mark_for objects
    pub passed : Each (λ (m : Made). PassedThere shelves worker sc after m.place) ms
    pub keeps : (then : BTreeMap Digest Object) → KeepsEach (drop i names) (drop i objects) kept then → KeepsEach names objects before then

  pub made_none : MadeTo 0 [] before
  made_none = record { named = refl; blocks = refl; marked = refl; passed = tt; keeps = λ then k. k }

  pub made_more : (i : ℕ) (ms : List Made) (m : Made) (name : Digest) (o : Object) (kept more : BTreeMap Digest Object) → MadeTo i ms kept
      → drop i names ≡ name ∷ drop (i + 1) names → drop i objects ≡ o ∷ drop (i + 1) objects → m.name ≡ name → m.mark ≡ mark_for o
      → Passes sc after (object_view o) → LiesThere shelves worker (object_view o) m.place → Updates name_cmp kept more name (Some o)
      → MadeTo (i + 1) (ms ++ m ∷ []) more
  made_more i ms m name o kept more k n d is mark passes lies keeps =
      record {
        named = next_one name_of ms m names name i k.named n is;
        blocks = next_one block_of ms m (map block_for objects) (block_for o) i k.blocks (cut_map block_for objects i o d) lies.block;
        marked = next_one mark_of ms m (map mark_for objects) (mark_for o) i k.marked (cut_map mark_for objects i o d) mark;
        passed = each_more (λ (z : Made). PassedThere shelves worker sc after z.place) ms m k.passed (object_view o, passes, lies);
        keeps = λ then t. k.keeps then (subst (λ xs. KeepsEach xs (drop i objects) kept then) (sym n)
            (subst (λ os. KeepsEach (name ∷ drop (i + 1) names) os kept then) (sym d) (one keeps t)));
      }

  pub all_kept : (i : ℕ) (ms : List Made) (kept : BTreeMap Digest Object) → MadeTo i ms kept → length names ≤ i → length objects ≤ i
      → KeepsEach names objects before kept
  all_kept i ms kept k n l =
      k.keeps kept (subst (λ xs. KeepsEach xs (drop i objects) kept kept) (sym (drop_past i names n))
      (subst (λ os. KeepsEach [] os kept kept) (sym (drop_past i objects l)) none))

  pub made_all : (i : ℕ) (ms : List Made) (kept : BTreeMap Digest Object) → MadeTo i ms kept → length names ≤ i → length objects ≤ i
      → AreMade shelves worker sc after names objects ms
  made_all i ms kept k n l =
      record {
        named = all_there name_of ms names i k.named n;
        blocks = all_there block_of ms (map block_for objects) i k.blocks (subst (λ z. z ≤ i) (sym (long_map block_for objects)) l);
        marked = all_there mark_of ms (map mark_for objects) i k.marked (subst (λ z. z ≤ i) (sym (long_map mark_for objects)) l);
        passed = k.passed;
      }

-- ---- copies

module _ (shelves : ShelvesSeen) (worker : ℕ) (sc : Script) (after : AfterSeen P) (kept : BTreeMap Digest Object) (names : List Digest) where
  abbrev held_name : Held → Digest
  held_name h = h.name

  pub record CopiesTo (i : ℕ) (hs : List Held) : Type 0 where
    pub named : map held_name hs ++ drop i names ≡ names
    pub each : Each (IsCopyOf shelves worker sc after kept) hs

  pub copies_none : CopiesTo 0 []
  copies_none = record { named = refl; each = tt }

  pub copies_more : (i : ℕ) (hs : List Held) (h : Held) (name : Digest) → CopiesTo i hs → drop i names ≡ name ∷ drop (i + 1) names → h.name ≡ name
      → IsCopyOf shelves worker sc after kept h → CopiesTo (i + 1) (hs ++ h ∷ [])
  copies_more i hs h name k d is copy =
      record {
        named = next_one held_name hs h names name i k.named d is;
        each = each_more (IsCopyOf shelves worker sc after kept) hs h k.each copy;
      }

  pub copies_all : (i : ℕ) (hs : List Held) → CopiesTo i hs → length names ≤ i → AreCopies shelves worker sc after kept names hs
  copies_all i hs k l = record { named = all_there held_name hs names i k.named l; each = k.each }

-- a copy of what is kept there
pub copy_of : (shelves : ShelvesSeen) (worker : ℕ) (sc : Script) (after : AfterSeen P) (kept : BTreeMap Digest Object) (h : Held) (o : Object) (p : P)
    → h.at ≡ Spot.Shelf p → get name_cmp kept h.name ≡ Some o → Passes sc after (object_view o)
    → LiesThere shelves worker (object_view o) p → IsCopyOf shelves worker sc after kept h
copy_of shelves worker sc after kept h o p is there passes lies = (p, is, o, there, passes, lies)
