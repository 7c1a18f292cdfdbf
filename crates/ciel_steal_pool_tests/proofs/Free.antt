-- Workers with no job out, and with one.
use Rattle.std.proofs.Common.{◌≡◌, ◌≢◌, ℕ, zero, suc, ◌<◌, List, [], ◌∷◌, length, Some, None, refl, ap, ◌∙◌, subst, sym, arith}
use Rattle.std.proofs.lemmas.List.{get_or-set_other, get_or-set_same}
use Rattle.std.specs.Prelude.{All, IsSome, slice_set}
use Rattle.ciel_crew_lanes.specs.Seen.{IsOut, LaneSeen, lane_at}

module _ {I : Type 0} where
  abbrev pub IsFresh : LaneSeen I → Type 0
  IsFresh l = l ≡ record { put = []; out = None }

  abbrev fresh : LaneSeen I
  fresh = record { put = []; out = None }

  pub free_at : (ls : List (LaneSeen I)) → All IsFresh ls → (k : ℕ) → (lane_at ls k).out ≡ None
  free_at [] all k = refl
  free_at (l ∷ ls) all zero = ap (λ (x : LaneSeen I). x.out) (all zero l (omega arith))
  free_at (l ∷ ls) all (suc k) = free_at ls (λ j d lt. all (suc j) d (omega (arith, lt))) k

  -- a job on another desk changes nothing here
  pub free_still : (ls ls' : List (LaneSeen I)) (w k : ℕ) (x : LaneSeen I) → ls' ≡ slice_set ls w x → k ≢ w → (lane_at ls k).out ≡ None
      → (lane_at ls' k).out ≡ None
  free_still ls ls' w k x e ne free =
      ap (λ (l : List (LaneSeen I)). (lane_at l k).out) e ∙ (ap (λ (l : LaneSeen I). l.out) (get_or-set_other ls w k x fresh ne) ∙ free)

  -- what is seen of a worker that was changed
  pub there : (ls ls' : List (LaneSeen I)) (w : ℕ) (x : LaneSeen I) → w < length ls → ls' ≡ slice_set ls w x → (lane_at ls' w).out ≡ x.out
  there ls ls' w x lt e =
      ap (λ (l : List (LaneSeen I)). (lane_at l w).out) e ∙ ap (λ (l : LaneSeen I). l.out) (get_or-set_same ls w x fresh lt)

  pub some_out : (ls ls' : List (LaneSeen I)) (w : ℕ) (put : List I) (job : I) → w < length ls
      → ls' ≡ slice_set ls w record { put = put; out = Some job } → IsOut ls'
  some_out ls ls' w put job lt e = (w, subst IsSome (sym (there ls ls' w (record { put = put; out = Some job }) lt e)) refl)
