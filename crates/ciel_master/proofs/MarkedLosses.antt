-- Losses that were carried out, and what an eye had seen of them.
use Rattle.std.proofs.Common.{◌≡◌, ℕ, zero, suc, ◌<◌, List, [], ◌∷◌, ◌++◌, length, true, false, ◌||◌, ◌==◌, ◌⊎◌, inl, inr, Option, Some, None, cond}
use Rattle.std.proofs.Common.{map, nat_eq, slice_get, eqb-true, eq-eqb, refl, ap, sym, ◌∙◌, subst, arith}
use Rattle.std.specs.List.{list_any}
use mathlib.Core.Option.{some}
use lib.ListN.{get_elem?}
use Rattle.ciel_master_board.specs.Board.{Board, Order}
use Rattle.ciel_master_board.specs.Sound.{MissFits}
use Rattle.ciel_master_bring.specs.Brings.{worker_of}
use Rattle.ciel_journal.specs.Job.{Each, In}
use Rattle.ciel_journal.proofs.Booked.{each_more}
use Rattle.ciel_journal.proofs.Members.{bool_cases, each_of, in_any}
use Rattle.ciel_store.specs.Seen.{SeatSeen, ShelvesSeen, is_lost, marked}
use Rattle.ciel_store.specs.Words.{AllIn, Has}
use Rattle.ciel_store.specs.declared.loss.Loss.{Loss}
use Rattle.ciel_task_order.specs.Performs.{HasSeen}
use Rattle.ciel_task_order.specs.Views.{P, how_view}
use Rattle.ciel_task_order.specs.declared.block.Held.{Held}
use Rattle.ciel_task_order.specs.declared.report.End.{End}
use Rattle.ciel_master.specs.Fitting.{IsMissedOf}
use Rattle.ciel_master.specs.Marked.{HasShelf, IsCarriedOut, IsFirstLoss, IsPlanned, Marked, WasMarked, worker_lost}

-- ---- two ways to say that it is in a list

same_some : (x y : Loss) → some x ≡ some y → y ≡ x
same_some x y e = cc

at_in : (ls : List Loss) (k : ℕ) (l : Loss) → get_elem? ls k ≡ some l → In l ls
at_in [] k l e = cc
at_in (y ∷ ys) zero l e = inl (same_some y l e)
at_in (y ∷ ys) (suc k) l e = inr (at_in ys k l e)

in_has : (ls : List Loss) (l : Loss) → In l ls → Has ls l
in_has [] l i = absurd i
in_has (y ∷ ys) l (inl e) = (0, ap some (sym e))
in_has (y ∷ ys) l (inr i) = let h = in_has ys l i in (suc h.0, h.1)

pub all_in : (seen own : List Loss) → AllIn seen own → (l : Loss) → In l seen → In l own
all_in seen own a l i =
    let h = a l (in_has seen l i) in at_in own h.0 l h.1

-- what an eye had seen is in the list that it was confirmed by
pub seen_is : (o : Option SeatSeen) (seen : SeatSeen) → o ≡ Some seen → (own : List Loss) → AllIn seen.losses own → (l : Loss) → HasSeen o l
    → In l own
seen_is o seen is own a l h = all_in seen.losses own a l (subst (λ z. HasSeen z l) is h)

pub nothing_seen : (o : Option SeatSeen) → o ≡ None → (own : List Loss) (l : Loss) → HasSeen o l → In l own
nothing_seen o is own l h = absurd (subst (λ z. HasSeen z l) is h)

-- ---- what is marked

member_lost : (ls : List Loss) (l : Loss) → In l ls → list_any (nat_eq l.worker) (map worker_lost ls) ≡ true
member_lost ls l i = in_any nat_eq (λ a. eq-eqb a a refl) l.worker (map worker_lost ls) (there ls i)
  where
    there : (ms : List Loss) → In l ms → In l.worker (map worker_lost ms)
    there [] i = absurd i
    there (m ∷ ms) (inl e) = inl (ap worker_lost e)
    there (m ∷ ms) (inr i) = inr (there ms i)

pub not_lost : (ls : List Loss) (w : ℕ) → list_any (nat_eq w) (map worker_lost ls) ≡ false → is_lost ls w ≡ false
not_lost [] w e = refl
not_lost (l ∷ ls) w e = pick (bool_cases (nat_eq w l.worker)) (bool_cases (l.worker == w)) (not_lost ls w)
  where
    pick : ((nat_eq w l.worker ≡ true) ⊎ (nat_eq w l.worker ≡ false)) → ((l.worker == w ≡ true) ⊎ (l.worker == w ≡ false))
        → (list_any (nat_eq w) (map worker_lost ls) ≡ false → is_lost ls w ≡ false) → is_lost (l ∷ ls) w ≡ false
    pick (inl y) k r = let a : true ≡ false = sym (ap (λ b. b || list_any (nat_eq w) (map worker_lost ls)) y) ∙ e in cc
    pick (inr n) (inl y) r =
        let a : true ≡ false = sym (eq-eqb w l.worker (sym (eqb-true l.worker w y))) ∙ n in cc
    pick (inr n) (inr m) r =
        ap (λ b. b || is_lost ls w) m ∙ r (sym (ap (λ b. b || list_any (nat_eq w) (map worker_lost ls)) n) ∙ e)

each_end : (Q : Loss → Type 0) (ls : List Loss) (l : Loss) → Each Q ls → Q l → Each Q (ls ++ l ∷ [])
each_end Q [] l e q = (q, tt)
each_end Q (m ∷ ms) l e q = (e.0, each_end Q ms l e.1 q)

map_end : (ls : List Loss) (l : Loss) → map worker_lost (ls ++ l ∷ []) ≡ map worker_lost ls ++ l.worker ∷ []
map_end [] l = refl
map_end (m ∷ ms) l = ap (λ xs. m.worker ∷ xs) (map_end ms l)

module _ (losses : List (ℕ × ℕ)) (lost : List ℕ) (shelves : ShelvesSeen) (marker : SeatSeen) (m : Marked losses lost shelves marker) where
  -- a worker that the plan names has a shelf
  pub has_shelf : (number count w : ℕ) → slice_get losses number ≡ Some (count, w) → w < length shelves.rows
  has_shelf number count w e = at losses number e m.shelved
    where
      at : (xs : List (ℕ × ℕ)) (k : ℕ) → slice_get xs k ≡ Some (count, w) → Each (HasShelf shelves) xs → w < length shelves.rows
      at [] k e a = cc
      at (x ∷ xs) zero e a = let s : x.1 ≡ w = same x e in omega (arith, s, a.0)
        where
          same : (x : ℕ × ℕ) → Some x ≡ Some (count, w) → x.1 ≡ w
          same x e = cc
      at (x ∷ xs) (suc k) e a = at xs k e a.1

  -- with a loss more
  pub marked_more : (l : Loss) → IsPlanned losses l → IsFirstLoss losses l → list_any (nat_eq l.worker) lost ≡ false → (more : List ℕ) → more ≡ lost ++ l.worker ∷ []
      → (now : SeatSeen) → now ≡ record { of = marker.of; losses = marked marker.losses l } → Marked losses more shelves now
  marked_more l planned first here more is now so =
      let fresh : is_lost marker.losses l.worker ≡ false =
      not_lost marker.losses l.worker (subst (λ ws. list_any (nat_eq l.worker) ws ≡ false) (sym m.workers) here) in
      let list : now.losses ≡ marker.losses ++ l ∷ [] = ap (λ (z : SeatSeen). z.losses) so
      ∙ ap (λ b. cond b marker.losses (marker.losses ++ l ∷ [])) fresh in
      record {
        of = ap (λ (z : SeatSeen). z.of) so ∙ m.of;
        workers = ap (map worker_lost) list ∙ (map_end marker.losses l ∙ (ap (λ ws. ws ++ l.worker ∷ []) m.workers ∙ sym is));
        planned = subst (Each (IsPlanned losses)) (sym list) (each_end (IsPlanned losses) marker.losses l m.planned planned);
        first = subst (Each (IsFirstLoss losses)) (sym list) (each_end (IsFirstLoss losses) marker.losses l m.first first);
        shelved = m.shelved;
      }

  -- what was marked was carried out
  pub carried_out : (b : Board P) → b.plan.losses ≡ losses → b.table.gone ≡ lost → (end : End) → WasMarked marker.losses end → IsCarriedOut b end
  carried_out b plan gone (End.Made ms) k = tt
  carried_out b plan gone (End.Saved p n refs holds mark) k = tt
  carried_out b plan gone (End.Shown s) k = tt
  carried_out b plan gone (End.Missing name loss seen) k =
      λ s. let i = k s in (
        subst (λ xs. IsPlanned xs loss) (sym plan) (each_of (IsPlanned losses) loss marker.losses i m.planned),
        subst (λ ws. list_any (nat_eq loss.worker) ws ≡ true) (m.workers ∙ sym gone) (member_lost marker.losses loss i),
      )

-- what is missing is so: its loss is one of the plan's, and was carried out
pub miss_fits : (digest : List ℕ → List ℕ) (b : Board P) (x : Order P) (copied : List Held) (end : End) → IsCarriedOut b end
    → IsMissedOf digest b x end → MissFits digest worker_of b x (how_view copied end)
miss_fits digest b x copied (End.Made ms) k m = tt
miss_fits digest b x copied (End.Saved p n refs holds mark) k m = tt
miss_fits digest b x copied (End.Shown s) k m = tt
miss_fits digest b x copied (End.Missing name loss seen) k m =
    let known = pick m.known in
    record {
      place = m.place;
      given = m.given;
      planned = (known.0.0, subst (λ w. slice_get b.plan.losses loss.number ≡ Some (known.0.0, w)) (sym m.worker) known.0.1);
      lost = subst (λ w. list_any (nat_eq w) b.table.gone ≡ true) (sym m.worker) known.1;
    }
  where
    Known : Type 0
    Known = IsPlanned b.plan.losses loss × (list_any (nat_eq loss.worker) b.table.gone ≡ true)

    pick : HasSeen seen loss ⊎ Known → Known
    pick (inl s) = k s
    pick (inr q) = q

-- at the beginning
pub open_marked : (losses : List (ℕ × ℕ)) (lost : List ℕ) (shelves : ShelvesSeen) (marker : SeatSeen) (workers : ℕ) → marker.of ≡ shelves.of
    → marker.losses ≡ [] → lost ≡ [] → workers ≡ length shelves.rows → Each (λ (loss : ℕ × ℕ). loss.1 < workers) losses
    → Marked losses lost shelves marker
open_marked losses lost shelves marker workers of none nothing many small =
    record {
      of = of;
      workers = ap (map worker_lost) none ∙ sym nothing;
      planned = subst (Each (IsPlanned losses)) (sym none) tt;
      first = subst (Each (IsFirstLoss losses)) (sym none) tt;
      shelved = each_more (λ (loss : ℕ × ℕ). loss.1 < workers) (HasShelf shelves) (λ loss l. omega (arith, many, l)) losses small;
    }
