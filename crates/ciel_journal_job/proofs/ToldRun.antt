-- What a call waits for, holds and makes refers to what it began with, to what it saw, and to what it made before.
use Rattle.std.proofs.Common.{◌≡◌, ℕ, zero, suc, ◌<◌, List, [], ◌∷◌, ◌++◌, Option, Some, None, Ok, Err, refl, sym, subst, arith, slice_get}
use Rattle.sky_base.specs.Val.{null, truth, num, text, list, dict, fun, ref, no_vals, val, no_pairs, pair, call, out, input, known, refs, vals_refs}
use Rattle.sky_base.specs.Val.{pairs_refs, vals_of}
use Rattle.sky_base.specs.Op.{Answer, limited, dict_from, index, keys, has, len, negated, opposite}
use Rattle.sky_base.specs.Eval.{World, caught_by, oper, lit_val, inside}
use Rattle.sky_base.specs.Res.{Entry, Res, Fin, Tell, Ask, kept_of, opens}
use Rattle.sky_base.specs.Read.{Outcome, no_fuel, Halt, Todo, Frame, refs_of, joined, see_all, on_seen, acts_seen, halts_seen, outcome, acts, halt}
use Rattle.sky_base.specs.Read.{todo_of, in_front, frame_of, frames_of}
use Rattle.sky_base.specs.See.{Val, Vals, Pairs, Desc, Obj, Job, Around, world_of}
use Rattle.sky_base_law.specs.Tasks.{Each, made_before, made_in, waits_in}
use Rattle.sky_base_law.specs.Refers.{PlainReads, Refers, ValsRefer, PairsRefer}
use Rattle.sky_base_law.proofs.FineLaw.{Closed, AnswerOk, OptionOk, ValsOk, ObjectOk, EndOk, OpenOk, FormsOk, Fine}
use Rattle.sky_base_law.proofs.FineReads.{SeenOk}
use Rattle.sky_base_law.proofs.RefersOps.{AnswerRefers, OptionRefers, simple_refers, limited_refers, put_refers, find_refers, caught_refers, oper_refers}
use Rattle.sky_base_law.proofs.RefersOps.{index_refers, set_at_refers, grown_refers, len_refers, keys_refers, range_refers, list_refers, dict_refers}
use Rattle.sky_base_law.proofs.RefersOps.{lit_refers, refs_refers}
use Rattle.sky_base_law.proofs.SimpleOps.{negated_simple, opposite_simple, has_simple}
use Rattle.sky_base_law.proofs.WrittenLaw.{any_lit, any_name}

-- ---- references in lists and one by one

module _ (D : Desc → Type 0) where
  pub both : (xs ys : List Desc) → Each D xs → Each D ys → Each D (xs ++ ys)
  both [] ys h i = i
  both (x ∷ xs) ys h i = (h.0, both xs ys h.1 i)

  pub left : (xs ys : List Desc) → Each D (xs ++ ys) → Each D xs
  left [] ys h = tt
  left (x ∷ xs) ys h = (h.0, left xs ys h.1)

  pub right : (xs ys : List Desc) → Each D (xs ++ ys) → Each D ys
  right [] ys h = h
  right (x ∷ xs) ys h = right xs ys h.1

  mutual
    pub refs_each : (a : Val) → Refers D a → Each D (refs a)
    refs_each null h = tt
    refs_each (truth b) h = tt
    refs_each (num z) h = tt
    refs_each (text t) h = tt
    refs_each (list vs) h = vals_each vs h
    refs_each (dict ps) h = pairs_each ps h
    refs_each (fun f c) h = pairs_each c h
    refs_each (ref d) h = (h, tt)

    pub vals_each : (vs : Vals) → ValsRefer D vs → Each D (vals_refs vs)
    vals_each no_vals h = tt
    vals_each (val a vs) h = both (refs a) (vals_refs vs) (refs_each a h.0) (vals_each vs h.1)

    pub pairs_each : (ps : Pairs) → PairsRefer D ps → Each D (pairs_refs ps)
    pairs_each no_pairs h = tt
    pairs_each (pair k a ps) h = both (refs a) (pairs_refs ps) (refs_each a h.0) (pairs_each ps h.1)

  mutual
    pub each_refs : (a : Val) → Each D (refs a) → Refers D a
    each_refs null h = tt
    each_refs (truth b) h = tt
    each_refs (num z) h = tt
    each_refs (text t) h = tt
    each_refs (list vs) h = each_vals vs h
    each_refs (dict ps) h = each_pairs ps h
    each_refs (fun f c) h = each_pairs c h
    each_refs (ref d) h = h.0

    pub each_vals : (vs : Vals) → Each D (vals_refs vs) → ValsRefer D vs
    each_vals no_vals h = tt
    each_vals (val a vs) h =
        (each_refs a (left (refs a) (vals_refs vs) h), each_vals vs (right (refs a) (vals_refs vs) h))

    pub each_pairs : (ps : Pairs) → Each D (pairs_refs ps) → PairsRefer D ps
    each_pairs no_pairs h = tt
    each_pairs (pair k a ps) h =
        (each_refs a (left (refs a) (pairs_refs ps) h), each_pairs ps (right (refs a) (pairs_refs ps) h))

  -- what stands inside a description
  abbrev pub InsideRefers : Desc → Type 0
  InsideRefers (call f c vs) = PairsRefer D c × ValsRefer D vs
  InsideRefers (out x a n i) = Refers D a
  InsideRefers (input k) = Unit {0}
  InsideRefers (known b) = absurd b

module _ (job : Job) (around : Around) (plain : PlainReads around) (D : Desc → Type 0) where
  abbrev pub w : World ⊥
  w = world_of job.script around

  abbrev pub P : Val → Type 0
  P a = Refers D a

  abbrev pub Q : Desc → Type 0
  Q d = InsideRefers D d

  abbrev pub V : Pairs → Type 0
  V ps = PairsRefer D ps

  answered : (o : Answer ⊥) → AnswerRefers ⊥ D o → AnswerOk w P Q o
  answered (Ok a) h = h
  answered (Err k) h = tt

  found : (o : Option Val) → OptionRefers ⊥ D o → OptionOk w P Q o
  found (Some a) h = h
  found None h = tt

  pub vals_so : (vs : Vals) → ValsRefer D vs → ValsOk w P Q vs
  vals_so no_vals h = tt
  vals_so (val a vs) h = (h.0, vals_so vs h.1)

  read_so : (o : Answer ⊥) (b : List ℕ) → around.reads b ≡ o → AnswerOk w P Q o
  read_so (Ok a) b e = each_refs D a (subst (Each D) (sym (plain b a e)) tt)
  read_so (Err k) b e = tt

  pub closed : Closed w P Q V D any_lit any_name
  closed =
      record {
        null_ok = tt;
        truth_ok = λ b. tt;
        taken_ok = λ t vs h le. tt;
        lit_ok = λ l i. answered (limited (lit_val l)) (lit_refers ⊥ D l);
        put_ok = λ x a ps k h l. put_refers ⊥ D x a ps h l;
        find_ok = λ x ps l. found _ (find_refers ⊥ D x ps l);
        fun_ok = λ x k i. answered (limited (fun x no_pairs)) (limited_refers ⊥ D (fun x no_pairs) tt);
        closed_ok = λ f x ps k e l. answered (limited (fun x (caught_by f.uses ps)))
            (limited_refers ⊥ D (fun x (caught_by f.uses ps)) (caught_refers ⊥ D f.uses ps l));
        caught_ok = λ f ca h. h;
        list_ok = λ vs h. answered (limited (list (vals_of vs))) (list_refers ⊥ D vs h);
        dict_ok = λ vs h. answered (dict_from vs no_pairs) (dict_refers ⊥ D vs no_pairs h tt);
        oper_ok = λ o a b h i. answered (oper o a b) (oper_refers ⊥ D o a b h i);
        index_ok = λ a i h. answered (index a i) (index_refers ⊥ D a i h);
        set_ok = λ a i e h g r. answered _ (set_at_refers ⊥ D a i e h r);
        grown_ok = λ a e h i. answered _ (grown_refers ⊥ D a e h i);
        negated_ok = λ a. answered (negated a) (simple_refers ⊥ D (negated a) (negated_simple ⊥ a));
        opposite_ok = λ a. answered (opposite a) (simple_refers ⊥ D (opposite a) (opposite_simple ⊥ a));
        len_ok = λ a h. answered (len a) (len_refers ⊥ D a);
        keys_ok = λ a h. answered (keys a) (keys_refers ⊥ D a);
        has_ok = λ a k. answered (has a k) (simple_refers ⊥ D (has a k) (has_simple ⊥ a k));
        range_ok = λ a b h i. answered _ (range_refers ⊥ D a b);
        inside_ok = λ vs h. vals_so vs h;
        reads_ok = λ b. read_so (around.reads b) b refl;
        ref_ok = λ d h m. m;
        refs_ok = λ ds le h. refs_refers ⊥ D ds h;
        call_ok = λ f ca vs x e n z h. (z, h);
        out_ok = λ x a n i t h lt le. h;
        input_ok = λ k t e. tt;
      }

  -- ---- along a run, where what it saw and made so far refers to what is known

  module _ (look : Desc → Option Obj) where
    abbrev Seen : Desc → Type 0
    Seen d = SeenOk w P Q (look d)

    abbrev AllSeen : Option (List Obj) → Type 0
    AllSeen None = Unit {0}
    AllSeen (Some os) = Each (ObjectOk w P Q) os

    join_seen : (x : Option Obj) (y : Option (List Obj)) → SeenOk w P Q x → AllSeen y → AllSeen (joined x y)
    join_seen None y h i = tt
    join_seen (Some o) None h i = tt
    join_seen (Some o) (Some os) h i = (h, i)

    all_seen : (ds : List Desc) → Each Seen ds → AllSeen (see_all look ds)
    all_seen [] h = tt
    all_seen (d ∷ ds) h = join_seen (look d) (see_all look ds) h.0 (all_seen ds h.1)

    -- what was waited for at the first waits of these, as many as i
    abbrev pub SeenTo : ℕ → List (List Desc) → Type 0
    SeenTo i xs = (k : ℕ) (ds : List Desc) → k < i → slice_get xs k ≡ Some ds → Each Seen ds

    later : (i : ℕ) (xs : List (List Desc)) (ds : List Desc) → SeenTo (suc i) (ds ∷ xs) → SeenTo i xs
    later i xs ds h k es l e = h (suc k) es (omega (arith, l)) e

    abbrev pub HaltTold : ℕ → Option (Halt ⊥) → Type 0
    HaltTold d None = Unit {0}
    HaltTold d (Some h) = Each D (refs_of h.wait) × FormsOk w P Q V d h.forms × V h.st.vars

    on_halt : (x : Option (List Obj)) (k : List Obj → Res ⊥) (i d : ℕ) → AllSeen x
        → Each D (made_before (suc i) (acts_seen x (λ os. acts look (k os)))) → SeenTo i (waits_in (acts_seen x (λ os. acts look (k os))))
        → ((os : List Obj) → Each (ObjectOk w P Q) os → Each D (made_before (suc i) (acts look (k os))) → SeenTo i (waits_in (acts look (k os)))
        → HaltTold d (halt look i (k os))) → HaltTold d (halts_seen x (λ os. halt look i (k os)))
    on_halt None k i d h m s g = tt
    on_halt (Some os) k i d h m s g = g os h m s

    -- at the wait i, counted from 0
    pub halt_told : (i : ℕ) (r : Res ⊥) (d : ℕ) → Fine w P Q V D d r → Each D (made_before (suc i) (acts look r))
        → SeenTo i (waits_in (acts look r)) → HaltTold d (halt look i r)
    halt_told i (Fin e st) d g m s = tt
    halt_told i (Tell o r) d g m s = halt_told i r d (g.1 m.0) m.1 s
    halt_told zero (Ask q fr st k) d g m s = (g.0.0, g.0.1, g.0.2)
    halt_told (suc i) (Ask q fr st k) d g m s =
        on_halt (see_all look (refs_of q)) k i d (all_seen (refs_of q) (s 0 (refs_of q) (omega arith) refl)) m
        (later i (waits_in (acts_seen (see_all look (refs_of q)) (λ os. acts look (k os)))) (refs_of q) s)
        (λ os h n t. halt_told i (k os) d (g.1 os h) n t)

    none_made : (before after : List Desc) (x : Desc) → [] ≡ before ++ x ∷ after → Q x
    none_made [] after x e = cc
    none_made (b ∷ bs) after x e = cc

    on_made : (o : Option (List Obj)) (k : List Obj → Res ⊥) (i : ℕ) (before after : List Desc) (x : Desc) → AllSeen o
        → made_before (suc i) (acts_seen o (λ os. acts look (k os))) ≡ before ++ x ∷ after
        → SeenTo i (waits_in (acts_seen o (λ os. acts look (k os))))
        → ((os : List Obj) → Each (ObjectOk w P Q) os → made_before (suc i) (acts look (k os)) ≡ before ++ x ∷ after
        → SeenTo i (waits_in (acts look (k os))) → Q x) → Q x
    on_made None k i before after x h e n g = none_made before after x e
    on_made (Some os) k i before after x h e n g = g os h e n

    -- what stands inside a description that is made before the wait i, counted from 0, where what was made before it is told
    pub made_told : (i : ℕ) (r : Res ⊥) (d : ℕ) (before after : List Desc) (x : Desc) → Fine w P Q V D d r → made_before (suc i) (acts look r)
        ≡ before ++ x ∷ after → Each D before → SeenTo i (waits_in (acts look r)) → Q x
    made_told i (Fin e st) d [] after x g q m s = cc
    made_told i (Fin e st) d (b ∷ bs) after x g q m s = cc
    made_told i (Tell o r) d [] after x g q m s = let is : o ≡ x = cc in subst Q is g.0
    made_told i (Tell o r) d (b ∷ bs) after x g q m s =
        let is : b ≡ o = cc in
        let rest : made_before (suc i) (acts look r) ≡ bs ++ x ∷ after = cc in
        made_told i r d bs after x (g.1 (subst D is m.0)) rest m.1 s
    made_told zero (Ask y fr st k) d [] after x g q m s = cc
    made_told zero (Ask y fr st k) d (b ∷ bs) after x g q m s = cc
    made_told (suc i) (Ask y fr st k) d before after x g q m s =
        on_made (see_all look (refs_of y)) k i before after x (all_seen (refs_of y) (s 0 (refs_of y) (omega arith) refl)) q
        (later i (waits_in (acts_seen (see_all look (refs_of y)) (λ os. acts look (k os)))) (refs_of y) s)
        (λ os h e n. made_told i (k os) d before after x (g.1 os h) e m n)

    -- to the end
    abbrev pub SeenAll : List (List Desc) → Type 0
    SeenAll xs = (k : ℕ) (ds : List Desc) → slice_get xs k ≡ Some ds → Each Seen ds

    abbrev pub OutcomeTold : Outcome ⊥ → Type 0
    OutcomeTold (Outcome.ended e st) = EndOk w P Q e × V st.vars
    OutcomeTold no_fuel = Unit {0}

    on_end : (x : Option (List Obj)) (k : List Obj → Res ⊥) → AllSeen x → Each D (made_in (acts_seen x (λ os. acts look (k os))))
        → SeenAll (waits_in (acts_seen x (λ os. acts look (k os))))
        → ((os : List Obj) → Each (ObjectOk w P Q) os → Each D (made_in (acts look (k os))) → SeenAll (waits_in (acts look (k os)))
        → OutcomeTold (outcome look (k os))) → OutcomeTold (on_seen x (λ os. outcome look (k os)))
    on_end None k h m s g = tt
    on_end (Some os) k h m s g = g os h m s

    pub ends_told : (r : Res ⊥) (d : ℕ) → Fine w P Q V D d r → Each D (made_in (acts look r)) → SeenAll (waits_in (acts look r))
        → OutcomeTold (outcome look r)
    ends_told (Fin e st) d g m s = g
    ends_told (Tell o r) d g m s = ends_told r d (g.1 m.0) m.1 s
    ends_told (Ask q fr st k) d g m s =
        on_end (see_all look (refs_of q)) k (all_seen (refs_of q) (s 0 (refs_of q) refl)) m (λ i ds e. s (suc i) ds e)
        (λ os h n t. ends_told (k os) d (g.1 os h) n t)

    on_makes : (o : Option (List Obj)) (k : List Obj → Res ⊥) (before after : List Desc) (x : Desc) → AllSeen o
        → made_in (acts_seen o (λ os. acts look (k os))) ≡ before ++ x ∷ after → SeenAll (waits_in (acts_seen o (λ os. acts look (k os))))
        → ((os : List Obj) → Each (ObjectOk w P Q) os → made_in (acts look (k os)) ≡ before ++ x ∷ after → SeenAll (waits_in (acts look (k os)))
        → Q x) → Q x
    on_makes None k before after x h e n g = none_made before after x e
    on_makes (Some os) k before after x h e n g = g os h e n

    -- what stands inside a description that is made, where what was made before it is told
    pub makes_told : (r : Res ⊥) (d : ℕ) (before after : List Desc) (x : Desc) → Fine w P Q V D d r → made_in (acts look r) ≡ before ++ x ∷ after
        → Each D before → SeenAll (waits_in (acts look r)) → Q x
    makes_told (Fin e st) d [] after x g q m s = cc
    makes_told (Fin e st) d (b ∷ bs) after x g q m s = cc
    makes_told (Tell o r) d [] after x g q m s = let is : o ≡ x = cc in subst Q is g.0
    makes_told (Tell o r) d (b ∷ bs) after x g q m s =
        let is : b ≡ o = cc in
        let rest : made_in (acts look r) ≡ bs ++ x ∷ after = cc in
        makes_told r d bs after x (g.1 (subst D is m.0)) rest m.1 s
    makes_told (Ask y fr st k) d before after x g q m s =
        on_makes (see_all look (refs_of y)) k before after x (all_seen (refs_of y) (s 0 (refs_of y) refl)) q (λ i ds e. s (suc i) ds e)
        (λ os h e n. makes_told (k os) d before after x (g.1 os h) e m n)

  -- ---- frames

  abbrev pub FrameTold : Frame ⊥ → Type 0
  FrameTold f = V f.vars × Each P f.stack

  stacks : (xs ys : List Val) → Each P xs → Each P ys → Each P (xs ++ ys)
  stacks [] ys h i = i
  stacks (x ∷ xs) ys h i = (h.0, stacks xs ys h.1 i)

  front : (t : Todo) (vs : List Val) (fs : List (Frame ⊥)) → Each P vs → Each FrameTold fs → Each FrameTold (in_front t vs fs)
  front t vs [] h i = tt
  front t vs (f ∷ fs) h i = ((i.0.0, stacks vs f.stack h i.0.1), i.1)

  frame : (d : ℕ) (o : Option (List ℕ × Pairs)) (f : List ℕ) (t : Todo) (vs : List Val) (same : List (Frame ⊥)) (above : List ℕ → List (Frame ⊥))
      → OpenOk w P Q V d o → Each P vs → Each FrameTold same → ((g : List ℕ) → Each FrameTold (above g))
      → Each FrameTold (frame_of o f t vs same above)
  frame d None f t vs same above o h i g = front t vs same h i
  frame d (Some c) f t vs same above o h i g = ((o.2, h), g c.0)

  pub frames_told : (fr : List (Entry ⊥)) (d : ℕ) (f : List ℕ) (xs : Pairs) → FormsOk w P Q V d fr → V xs → Each FrameTold (frames_of fr f xs)
  frames_told [] d f xs h l = ((l, tt), tt)
  frames_told (en ∷ fr) d f xs h l =
      frame d (opens en) f (todo_of en) (kept_of en) (frames_of fr f xs) (λ g. frames_of fr g xs) h.0.1 h.0.0
      (frames_told fr (inside w en d) f xs h.1 l) (λ g. frames_told fr (inside w en d) g xs h.1 l)
