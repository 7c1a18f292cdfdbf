-- The gates of the workers, and the others behind them.
use Rattle.std.proofs.Common.{◌≡◌, ◌≢◌, ◌⊎◌, ◌+◌, ℕ, zero, suc, ◌<◌, ◌≤◌, List, [], ◌∷◌, ◌++◌, length, map, take, drop, Option, Some, None}
use Rattle.std.proofs.Common.{inl, inr, refl, sym, ap, subst, ◌∙◌, arith, length-append}
use Rattle.std.proofs.lemmas.List.{length-map}
use Rattle.sky_base.specs.declared.object.TaskId.{TaskId}
use Rattle.ciel_run_drive.specs.Crews.{Fades, FadesEach, told_at}
use Rattle.ciel_run_drive.specs.Told.{ToldBy, ToldOf, ToldOn}
use Rattle.ciel_journal.specs.Entries.{Entry}
use Rattle.ciel_journal.specs.Job.{Digest, Task}
use Rattle.ciel_run_drive.specs.RunEnd.{RunEnd}
use Rattle.ciel_run_job.specs.Told.{told_of}

abbrev Told : Type 0
Told = Option (List TaskId)

-- what was told stays told, or is told no longer
fades_on : (before x after : Told) (tasks : List (Task Digest)) → ToldOf before tasks x → Fades x after → ToldOf before tasks after
fades_on before x None tasks t f = tt
fades_on before x (Some after) tasks t (inl n) = absurd cc
fades_on before x (Some after) tasks t (inr e) = subst (ToldOf before tasks) (sym e) t

pub told_then : (es : List Entry) (before x after : List Told) → ToldBy es before x → FadesEach x after → ToldBy es before after
told_then es before x after t f = (
  f.0 ∙ t.0,
  λ w below. let b = subst (λ n. w < n) (sym t.0) below in fades_on (told_at before w) (told_at x w) (told_at after w) _ (t.1 w below) (f.1 w b),
)

-- a journal that began empty is what it grew by
pub told_whole : (J : List Entry) (before after : List Told) → ToldOn [] J before after → ToldBy J before after
told_whole J before after t = subst (λ es. ToldBy es before after) (sym t.1) t.2

-- what a crew was told at first is what its gates told when it was opened
pub told_first : (es : List Entry) (crew first after : List Told) → crew ≡ first → ToldBy es crew after → ToldBy es first after
told_first es crew first after e t = subst (λ x. ToldBy es x after) e t

-- ---- the first so many of a list, and the others

pub take_append : {A : Type 0} (n : ℕ) (xs ys : List A) → length xs ≡ n → take n (xs ++ ys) ≡ xs
take_append zero [] ys e = refl
take_append zero (x ∷ xs) ys e = absurd (omega (arith, e))
take_append (suc n) [] ys e = absurd (omega (arith, e))
take_append (suc n) (x ∷ xs) ys e = ap (λ zs. x ∷ zs) (take_append n xs ys (omega (arith, e)))

pub drop_append : {A : Type 0} (n : ℕ) (xs ys : List A) → length xs ≡ n → drop n (xs ++ ys) ≡ ys
drop_append zero [] ys e = refl
drop_append zero (x ∷ xs) ys e = absurd (omega (arith, e))
drop_append (suc n) [] ys e = absurd (omega (arith, e))
drop_append (suc n) (x ∷ xs) ys e = drop_append n xs ys (omega (arith, e))

-- ---- after a run

-- from what the crew was told at first to what the gates tell that it gave back
pub told_after : (J0 J1 J2 : List Entry) (first b m a : List Told) → J0 ≡ [] → b ≡ first → J2 ≡ J1 → ToldOn J0 J1 b m → FadesEach m a
    → ToldBy J2 first a
told_after J0 J1 J2 first b m a none same whole t f =
    let u : ToldOn [] J1 first m = subst (λ (x : List Entry × List Told). ToldOn x.0 J1 x.1 m) (λ i. (none i, same i)) t in
    subst (λ es. ToldBy es first a) (sym whole) (told_then J1 first m a (told_whole J1 first m u) f)

pub many_after : {G : Type 0} (entered : G → Told) (es : List Entry) (first back : List G) → ToldBy es (map entered first) (map entered back)
    → length back ≡ length first
many_after entered es first back t = sym (length-map back entered) ∙ t.0 ∙ length-map first entered

-- an end that isn't want of memory was none before
pub still : (a b : RunEnd) → (a ≡ b) ⊎ (a ≡ RunEnd.Memory) → a ≢ RunEnd.Memory → b ≢ RunEnd.Memory
still a b (inl e) n = λ m. n (e ∙ m)
still a b (inr m) n = absurd (n m)

-- the workers' gates before the others
module _ {G : Type 0} (entered : G → Told) (w : ℕ) (old own others back new : List G) (own_is : own ≡ take w old)
    (others_is : others ≡ drop w old) (enough : w ≤ length old) (new_is : new ≡ back ++ others) (same : length back ≡ length own) where
  own_length : length own ≡ w
  own_length = ap length own_is ∙ taken w old enough
    where
      taken : (n : ℕ) (xs : List G) → n ≤ length xs → length (take n xs) ≡ n
      taken zero xs h = refl
      taken (suc n) [] h = absurd (omega (arith, h))
      taken (suc n) (x ∷ xs) h = ap suc (taken n xs (omega (arith, h)))

  back_taken : take w new ≡ back
  back_taken = ap (take w) new_is ∙ take_append w back others (same ∙ own_length)

  pub told_now : (es : List Entry) → ToldBy es (map entered own) (map entered back) → ToldBy es (told_of entered w old) (told_of entered w new)
  told_now es t =
      subst (λ (x : List G × List G). ToldBy es (map entered x.0) (map entered x.1)) (λ i. (own_is i, sym back_taken i)) t

  pub others_now : drop w new ≡ drop w old
  others_now = ap (drop w) new_is ∙ drop_append w back others (same ∙ own_length) ∙ others_is

  pub all_now : length new ≡ length old
  all_now =
      let n = ap length new_is ∙ length-append back others in
      let o = ap length others_is in
      let p = split w old in
      let s = same ∙ ap length own_is in
      omega (arith, n, o, p, s)
    where
      split : (n : ℕ) (xs : List G) → length (take n xs) + length (drop n xs) ≡ length xs
      split zero xs = omega arith
      split (suc n) [] = refl
      split (suc n) (x ∷ xs) = let r = split n xs in omega (arith, r)

-- of all gates, what a run says of those of its workers, after the others were put behind these again
module _ {G : Type 0} (entered : G → Told) (w : ℕ) (old own others back new : List G) (own_is : own ≡ take w old)
    (others_is : others ≡ drop w old) (enough : w ≤ length old) (ran after : RunEnd) (end : (after ≡ ran) ⊎ (after ≡ RunEnd.Memory))
    (put : after ≢ RunEnd.Memory → new ≡ back ++ others) (all : ran ≢ RunEnd.Memory → length back ≡ length own) where
  pub told_back : (es fs : List Entry) → fs ≡ es → (ran ≢ RunEnd.Memory → ToldBy es (map entered own) (map entered back)) → after ≢ RunEnd.Memory
      → ToldBy fs (told_of entered w old) (told_of entered w new)
  told_back es fs same told n =
      let m = still after ran end n in
      told_now entered w old own others back new own_is others_is enough (put n) (all m) fs
      (subst (λ x. ToldBy x (map entered own) (map entered back)) (sym same) (told m))

  pub others_back : after ≢ RunEnd.Memory → drop w new ≡ drop w old
  others_back n = others_now entered w old own others back new own_is others_is enough (put n) (all (still after ran end n))

  pub all_back : after ≢ RunEnd.Memory → length new ≡ length old
  all_back n = all_now entered w old own others back new own_is others_is enough (put n) (all (still after ran end n))
