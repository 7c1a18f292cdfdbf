-- The values of the waves of a result refer to what the objects refer to that were seen for them.
use Rattle.sky_base.specs.Val as v
use Rattle.sky_base_law.specs.Tasks as t
use Rattle.sky_base.specs.See as s
use Rattle.std.proofs.Common.{◌≡◌, ℕ, zero, suc, ◌+◌, List, [], ◌∷◌, length, Bool, true, false, Option, Some, None, Ok, Err, Result, refl, sym, subst}
use Rattle.std.specs.Str.{is_utf8}
use Rattle.sky_base.specs.Op.{Answer}
use Rattle.sky_base.specs.Res.{Object}
use Rattle.sky_base.specs.declared.fault.Fault.{Fault}
use Rattle.sky_base_law.specs.Refers.{PlainReads, Refers, PairsRefer, ValsRefer}
use Rattle.sky_base_law.proofs.FineReads.{SeenOk}
use Rattle.ciel_journal_job.proofs.ToldRun.{P, Q, w, each_refs}

module _ (job : s.Job) (around : s.Around) (plain : PlainReads around) (D : s.Desc → Type 0) where
  abbrev pub Seen : Option s.Obj → Type 0
  Seen o = SeenOk (w job around plain D) (P job around plain D) (Q job around plain D) o

  abbrev pub WaveTold : Option s.Val → Type 0
  WaveTold None = Unit {0}
  WaveTold (Some a) = Refers D a

  abbrev pub TurnTold : s.Turn → Type 0
  TurnTold (s.Turn.ends a) = Unit {0}
  TurnTold (s.Turn.next a) = Refers D a

  abbrev ResultTold : Result s.Val Fault → Type 0
  ResultTold (Ok a) = Refers D a
  ResultTold (Err f) = Unit {0}

  abbrev GatheredTold : s.Gathered s.Val → Type 0
  GatheredTold s.Gathered.not_yet = Unit {0}
  GatheredTold (s.Gathered.faulty f) = Unit {0}
  GatheredTold (s.Gathered.all us) = t.Each (λ a. Refers D a) us

  val_told : (us : List s.Val) (k : ℕ) → t.Each (λ a. Refers D a) us → Refers D (s.val_of us k)
  val_told [] k h = tt
  val_told (a ∷ us) zero h = h.0
  val_told (a ∷ us) (suc k) h = val_told us k h.1

  module _ (f : ℕ → s.Desc → s.Val) (h : (k : ℕ) (d : s.Desc) → Refers D (f k d)) where
    mutual
      replaced_told : (i : ℕ) (a : s.Val) → Refers D (s.replaced f i a)
      replaced_told i v.null = tt
      replaced_told i (v.truth b) = tt
      replaced_told i (v.num z) = tt
      replaced_told i (v.text x) = tt
      replaced_told i (v.list vs) = vals_replaced_told i vs
      replaced_told i (v.dict ps) = pairs_replaced_told i ps
      replaced_told i (v.fun g c) = pairs_replaced_told i c
      replaced_told i (v.ref d) = h i d

      vals_replaced_told : (i : ℕ) (vs : s.Vals) → ValsRefer D (s.vals_replaced f i vs)
      vals_replaced_told i v.no_vals = tt
      vals_replaced_told i (v.val a vs) = (replaced_told i a, vals_replaced_told (i + length (v.refs a)) vs)

      pairs_replaced_told : (i : ℕ) (ps : s.Pairs) → PairsRefer D (s.pairs_replaced f i ps)
      pairs_replaced_told i v.no_pairs = tt
      pairs_replaced_told i (v.pair k a ps) = (replaced_told i a, pairs_replaced_told (i + length (v.refs a)) ps)

  on_told : (x : Result s.Val Fault) (g : s.Gathered s.Val) → ResultTold x → GatheredTold g → GatheredTold (s.gather_on x g)
  on_told x s.Gathered.not_yet h i = tt
  on_told (Ok a) (s.Gathered.faulty f) h i = tt
  on_told (Ok a) (s.Gathered.all us) h i = (h, i)
  on_told (Err e) (s.Gathered.faulty f) h i = tt
  on_told (Err e) (s.Gathered.all us) h i = tt

  value_told : (o : s.Obj) → Seen (Some o) → ResultTold (s.as_value around o)
  value_told (Object.bytes b) h = go (around.reads b) refl
    where
      plain_text : (x : Bool) → ResultTold (s.text_if x b)
      plain_text true = tt
      plain_text false = tt

      go : (a : Answer ⊥) → around.reads b ≡ a → ResultTold (s.read_or_text a b)
      go (Ok x) e = each_refs D x (subst (t.Each D) (sym (plain b x e)) tt)
      go (Err k) e = plain_text (is_utf8 b)
  value_told (Object.data_of a) h = h
  value_told (Object.fault f) h = tt

  one_told : (o : Option s.Obj) (g : s.Gathered s.Val) → Seen o → GatheredTold g → GatheredTold (s.gather_one o (s.as_value around) g)
  one_told None g h i = tt
  one_told (Some o) g h i = on_told (s.as_value around o) g (value_told o h) i

  gather_told : (k : ℕ) (ds : List s.Desc) → t.Each (λ d. Seen (s.see job around k d)) ds
      → GatheredTold (s.gather (s.see job around k) (s.as_value around) ds)
  gather_told k [] h = tt
  gather_told k (d ∷ ds) h = one_told (s.see job around k d) (s.gather (s.see job around k) (s.as_value around) ds) h.0 (gather_told k ds h.1)

  within_told : (x y : Bool) (a : s.Val) → Refers D a → TurnTold (s.next_if x y a)
  within_told true y a h = tt
  within_told false true a h = tt
  within_told false false a h = h

  next_told : (g : s.Gathered s.Val) (a : s.Val) → GatheredTold g → TurnTold (s.next_value g a)
  next_told s.Gathered.not_yet a h = tt
  next_told (s.Gathered.faulty f) a h = tt
  next_told (s.Gathered.all us) a h =
      within_told _ _ (s.replaced (λ k d. s.val_of us k) 0 a) (replaced_told (λ k d. s.val_of us k) (λ k d. val_told us k h) 0 a)

  lone_told : (o : Option s.Obj) (x : s.Turn) → TurnTold x → TurnTold (s.lone o x)
  lone_told None x h = h
  lone_told (Some (Object.bytes b)) x h = tt
  lone_told (Some (Object.data_of a)) x h = h
  lone_told (Some (Object.fault f)) x h = h

  all_told : (k : ℕ) (a : s.Val) → t.Each (λ d. Seen (s.see job around k d)) (v.refs a) → TurnTold (s.turn_all job around k a)
  all_told k a h = next_told (s.gather (s.see job around k) (s.as_value around) (v.refs a)) a (gather_told k (v.refs a) h)

  turn_told : (k : ℕ) (ds : List s.Desc) (a : s.Val) → t.Each (λ d. Seen (s.see job around k d)) (v.refs a) → TurnTold (s.turn_refs job around k ds a)
  turn_told k [] a h = tt
  turn_told k (d ∷ ds) (v.ref e) h = lone_told (s.see job around k e) (s.turn_all job around k (v.ref e)) (all_told k (v.ref e) h)
  turn_told k (d ∷ ds) v.null h = all_told k v.null h
  turn_told k (d ∷ ds) (v.truth b) h = all_told k (v.truth b) h
  turn_told k (d ∷ ds) (v.num z) h = all_told k (v.num z) h
  turn_told k (d ∷ ds) (v.text x) h = all_told k (v.text x) h
  turn_told k (d ∷ ds) (v.list vs) h = all_told k (v.list vs) h
  turn_told k (d ∷ ds) (v.dict ps) h = all_told k (v.dict ps) h
  turn_told k (d ∷ ds) (v.fun f c) h = all_told k (v.fun f c) h

  pub next_wave : (k : ℕ) (o : Option s.Val) → ((a : s.Val) → o ≡ Some a → t.Each (λ d. Seen (s.see job around k d)) (v.refs a))
      → WaveTold (s.wave_on job around k (s.turn_of job around k o))
  next_wave k None h = tt
  next_wave k (Some a) h = go (s.turn job around k a) (turn_told k (v.refs a) a (h a refl))
    where
      go : (x : s.Turn) → TurnTold x → WaveTold (s.wave_on job around k (Some x))
      go (s.Turn.ends b) i = tt
      go (s.Turn.next b) i = i
