-- The frames of forms that follow each other: each begins with its body's block, and its entries and values are as the table says.
use Rattle.std.proofs.Common.{◌≡◌, ℕ, ◌+◌, inl, inr, List, [], ◌∷◌, ◌++◌, map, length, take, drop, Option, Some, None, refl, sym, ap, ◌∙◌, subst}
use Rattle.std.proofs.Common.{arith, append-nil}
use Rattle.std.proofs.lemmas.List.{take_at, drop_at}
use Rattle.std.proofs.lemmas.List.Sums.{sum_by-cons}
use Rattle.sky_base.specs.Val.{Val, Pairs}
use Rattle.sky_base.specs.Tree.{Script}
use Rattle.sky_base.specs.Res.{Entry, kept_of, opens}
use Rattle.sky_base.specs.Eval.{Body, body_of}
use Rattle.sky_base.specs.Read.{Todo, Frame, todo_of, in_front, frame_of, frames_of}
use Rattle.sky_base_law.specs.Nodes.{node_at}
use Rattle.sky_base_law.specs.Tasks.{In, Each}
use Rattle.sky_base_law.specs.Sound.{IsFun}
use Rattle.sky_state.specs.Table.{Row, part, turn, star, outputs, open_call, no_step, keeps, places, IsStep, IsOpenCall, IsWaiting}
use Rattle.sky_state.specs.Fits.{OfKinds, TakenFrom, shares, Last, Before, row_of, OnBody, Parts, kept_in_all}
use Rattle.sky_state.specs.Chained.{body_places, KeptBy, Above, Chained}

module _ (sc : Script) where
  -- the first entry is one of these nodes
  abbrev pub FirstIn : List ℕ → List Todo → Type 0
  FirstIn ps [] = ⊥
  FirstIn ps (t ∷ ts) = In t.node ps

  parts_first : (t : Todo) (ms : List ℕ) (ts : List Todo) → places (row_of sc t) ≡ ms → FirstIn ms ts → Parts sc ts → Parts sc (t ∷ ts)
  parts_first t ms [] e i h = absurd i
  parts_first t ms (u ∷ us) e i h = (subst (In u.node) (sym e) i, h)

  last_front : (P : Todo → Type 0) (ms : List ℕ) (t : Todo) (ts : List Todo) → FirstIn ms ts → Last P ts → Last P (t ∷ ts)
  last_front P ms t [] i h = absurd i
  last_front P ms t (u ∷ us) i h = h

  -- the bottom entry is the body's block
  pub on_body : (o : Option Body) (ts : List Todo) → FirstIn (body_places o) ts → OnBody sc o ts
  on_body None [] h = absurd h
  on_body None (t ∷ ts) h = absurd h
  on_body (Some b) [] h = absurd h
  on_body (Some b) (t ∷ ts) (inl e) = e
  on_body (Some b) (t ∷ ts) (inr e) = absurd e

  pub kept_more : (t : Todo) (ts : List Todo) → kept_in_all sc (t ∷ ts) ≡ keeps (row_of sc t) + kept_in_all sc ts
  kept_more t ts = sum_by-cons (λ u. keeps (row_of sc u)) t ts

module _ {N : Type 0} (sc : Script) where
  -- a frame whose entries begin at one of these nodes
  pub record Laid (ps : List ℕ) (f : Frame N) : Type 0 where
    pub first : FirstIn sc ps f.todo
    pub steps : Each (λ t. IsStep (row_of sc t)) f.todo
    pub parts : Parts sc f.todo
    pub as_many : length f.stack ≡ kept_in_all sc f.todo
    pub kinds : Each (λ s. OfKinds s.0 s.1) (shares (map (row_of sc) f.todo) f.stack)
    pub taken : Each (λ s. TakenFrom s.0 s.1) (shares (map (row_of sc) f.todo) f.stack)

  -- a frame of a function of the script, whose entries begin at the block of its body
  abbrev pub Called : Frame N → Type 0
  Called f = IsFun sc f.fun × Laid (body_places (body_of f.fun sc)) f

  abbrev pub LaidAll : List ℕ → List ℕ → List (Frame N) → Type 0
  LaidAll f ps [] = ⊥
  LaidAll f ps (g ∷ gs) = (g.fun ≡ f) × Laid ps g × Each Called gs

  pub record Stacked (f ps : List ℕ) (fs : List (Frame N)) : Type 0 where
    pub frames : LaidAll f ps fs
    pub calls : Before (λ g. Last (λ t. IsOpenCall (row_of sc t)) g.todo) fs
    pub top : Last (λ g. Last (λ t. IsWaiting (row_of sc t)) g.todo) fs

  abbrev Chain : List ℕ → List (Entry N) → Type 0
  Chain ps fr = Chained sc (λ i. node_at sc i) ps fr

  abbrev Keeps : Row → List (Val N) → Type 0
  Keeps r vs = KeptBy sc (λ i. node_at sc i) r vs

  -- ---- an entry in front of a frame's

  front_many : (n k m : ℕ) (vs ws : List (Val N)) → length vs ≡ n → length ws ≡ m → k ≡ n + m → length (vs ++ ws) ≡ k
  front_many n k m [] ws e f g = omega (arith, e, f, g)
  front_many n k m (v ∷ vs) ws e f g = omega (arith, e, f, g, front_many (length vs) (length vs + m) m vs ws refl f refl)

  -- an entry that stands below the others of its frame
  laid_front : (ps ms : List ℕ) (t : Todo) (vs : List (Val N)) (f : Frame N) → In t.node ps → IsStep (row_of sc t) → places (row_of sc t) ≡ ms
      → Keeps (row_of sc t) vs → Laid ms f → Laid ps (record { fun = f.fun; vars = f.vars; stack = vs ++ f.stack; todo = t ∷ f.todo })
  laid_front ps ms t vs f i s e k l =
      let here : take (keeps (row_of sc t)) (vs ++ f.stack) ≡ vs = take_at vs f.stack (keeps (row_of sc t)) k.as_many in
      let rest : drop (keeps (row_of sc t)) (vs ++ f.stack) ≡ f.stack = drop_at vs f.stack (keeps (row_of sc t)) k.as_many in
      record {
        first = i;
        steps = (s, l.steps);
        parts = parts_first sc t ms f.todo e l.first l.parts;
        as_many =
            front_many (keeps (row_of sc t)) (kept_in_all sc (t ∷ f.todo)) (kept_in_all sc f.todo) vs f.stack k.as_many l.as_many
            (kept_more sc t f.todo);
        kinds = (
          subst (OfKinds (row_of sc t)) (sym here) k.kinds,
          subst (λ ws. Each (λ s. OfKinds s.0 s.1) (shares (map (row_of sc) f.todo) ws)) (sym rest) l.kinds,
        );
        taken = (
          subst (TakenFrom (row_of sc t)) (sym here) k.taken,
          subst (λ ws. Each (λ s. TakenFrom s.0 s.1) (shares (map (row_of sc) f.todo) ws)) (sym rest) l.taken,
        );
      }

  front_stacked : (f ps ms : List ℕ) (t : Todo) (vs : List (Val N)) (fs : List (Frame N)) → In t.node ps → IsStep (row_of sc t)
      → places (row_of sc t) ≡ ms → Keeps (row_of sc t) vs → Stacked f ms fs → Stacked f ps (in_front t vs fs)
  front_stacked f ps ms t vs [] i s e k h = absurd h.frames
  front_stacked f ps ms t vs (g ∷ []) i s e k h =
      record {
        frames = (h.frames.0, laid_front ps ms t vs g i s e k h.frames.1, h.frames.2);
        calls = tt;
        top =
            last_front sc (λ u. IsWaiting (row_of sc u)) ms t g.todo h.frames.1.first h.top;
      }
  front_stacked f ps ms t vs (g ∷ x ∷ xs) i s e k h =
      record {
        frames = (h.frames.0, laid_front ps ms t vs g i s e k h.frames.1, h.frames.2);
        calls =
            (last_front sc (λ u. IsOpenCall (row_of sc u)) ms t g.todo h.frames.1.first h.calls.0, h.calls.1);
        top = h.top;
      }

  -- one entry alone
  alone : (ps : List ℕ) (f : List ℕ) (t : Todo) (vs : List (Val N)) (xs : Pairs N) → In t.node ps → IsStep (row_of sc t) → Keeps (row_of sc t) vs
      → Laid ps (record { fun = f; vars = xs; stack = vs; todo = t ∷ [] })
  alone ps f t vs xs i s k =
      let here : take (keeps (row_of sc t)) vs ≡ vs = ap (take (keeps (row_of sc t))) (sym (append-nil vs))
      ∙ take_at vs [] (keeps (row_of sc t)) k.as_many in
      record {
        first = i;
        steps = (s, tt);
        parts = tt;
        as_many = k.as_many ∙ omega arith ∙ sym (kept_more sc t []);
        kinds =
            (subst (OfKinds (row_of sc t)) (sym here) k.kinds, tt);
        taken = (subst (TakenFrom (row_of sc t)) (sym here) k.taken, tt);
      }

  waits_alone : (ps : List ℕ) (f : List ℕ) (t : Todo) (vs : List (Val N)) (xs : Pairs N) → In t.node ps → IsStep (row_of sc t)
      → IsWaiting (row_of sc t) → Keeps (row_of sc t) vs
      → Stacked f ps (in_front t vs (record { fun = f; vars = xs; stack = []; todo = [] } ∷ []))
  waits_alone ps f t vs xs i s wait k =
      record {
        frames = (
          refl,
          subst (λ ws. Laid ps (record { fun = f; vars = xs; stack = ws; todo = t ∷ [] })) (sym (append-nil vs))
              (alone ps f t vs xs i s k),
          tt,
        );
        calls = tt;
        top = wait;
      }

  -- a call above
  call_stacked : (ps : List ℕ) (f g : List ℕ) (t : Todo) (xs : Pairs N) (fs : List (Frame N)) → In t.node ps → IsStep (row_of sc t)
      → IsOpenCall (row_of sc t) → Keeps (row_of sc t) [] → IsFun sc g → Stacked g (body_places (body_of g sc)) fs
      → Stacked f ps (record { fun = f; vars = xs; stack = []; todo = t ∷ [] } ∷ fs)
  call_stacked ps f g t xs [] i s c k is h = absurd h.frames
  call_stacked ps f g t xs (x ∷ fs) i s c k is h =
      record {
        frames = (
          refl,
          alone ps f t [] xs i s k,
          ((subst (IsFun sc) (sym h.frames.0) is, subst (λ y. Laid (body_places (body_of y sc)) x) (sym h.frames.0) h.frames.1), h.frames.2),
        );
        calls = (c, h.calls);
        top = h.top;
      }

  kept_nothing : (vs : List (Val N)) → length vs ≡ 0 → vs ≡ []
  kept_nothing [] e = refl
  kept_nothing (v ∷ vs) e = absurd (omega (arith, e))

  nothing_above : (fr : List (Entry N)) (f : List ℕ) (xs : Pairs N) → fr ≡ [] → frames_of fr f xs
      ≡ record { fun = f; vars = xs; stack = []; todo = [] } ∷ []
  nothing_above fr f xs e = ap (λ (es : List (Entry N)). frames_of es f xs) e

  -- by the row of the entry, and the call that it opens
  stacked_on : (ps f : List ℕ) (t : Todo) (vs : List (Val N)) (fr : List (Entry N)) (xs : Pairs N) (r : Row) (o : Option (List ℕ × Pairs N))
      → row_of sc t ≡ r → In t.node ps → Keeps r vs → Above sc (λ i. node_at sc i) r o (fr ≡ []) (λ ms. Chain ms fr)
      → ((ms g : List ℕ) → Chain ms fr → Stacked g ms (frames_of fr g xs))
      → Stacked f ps (frame_of o f t vs (frames_of fr f xs) (λ g. frames_of fr g xs))
  stacked_on ps f t vs fr xs (part k ms) None e i h a go =
      front_stacked f ps ms t vs (frames_of fr f xs) i (rw e tt) (ap places e) (rw e h) (go ms f a)
  stacked_on ps f t vs fr xs (part k ms) (Some c) e i h a go = absurd a
  stacked_on ps f t vs fr xs (turn m) None e i h a go =
      front_stacked f ps (m ∷ []) t vs (frames_of fr f xs) i (rw e tt) (ap places e) (rw e h) (go (m ∷ []) f a)
  stacked_on ps f t vs fr xs (turn m) (Some c) e i h a go = absurd a
  stacked_on ps f t vs fr xs star None e i h a go =
      subst (λ fs. Stacked f ps (in_front t vs fs)) (sym (nothing_above fr f xs a)) (waits_alone ps f t vs xs i (rw e tt) (rw e tt) (rw e h))
  stacked_on ps f t vs fr xs star (Some c) e i h a go = absurd a
  stacked_on ps f t vs fr xs outputs None e i h a go =
      subst (λ fs. Stacked f ps (in_front t vs fs)) (sym (nothing_above fr f xs a)) (waits_alone ps f t vs xs i (rw e tt) (rw e tt) (rw e h))
  stacked_on ps f t vs fr xs outputs (Some c) e i h a go = absurd a
  stacked_on ps f t vs fr xs open_call None e i h a go = absurd a
  stacked_on ps f t vs fr xs open_call (Some c) e i h a go =
      subst (λ ws. Stacked f ps (record { fun = f; vars = c.1; stack = ws; todo = t ∷ [] } ∷ frames_of fr c.0 xs))
      (sym (kept_nothing vs h.as_many)) (call_stacked ps f c.0 t c.1 (frames_of fr c.0 xs) i (rw e tt) (rw e tt)
      (rw e (record { as_many = refl; kinds = tt; taken = tt })) a.0 (go (body_places (body_of c.0 sc)) c.0 a.1))
  stacked_on ps f t vs fr xs no_step None e i h a go = absurd a
  stacked_on ps f t vs fr xs no_step (Some c) e i h a go = absurd a

  -- the frames of forms that follow each other
  pub stacked : (fr : List (Entry N)) (ps f : List ℕ) (xs : Pairs N) → Chain ps fr → Stacked f ps (frames_of fr f xs)
  stacked [] ps f xs h = absurd h
  stacked (en ∷ fr) ps f xs h =
      stacked_on ps f (todo_of en) (kept_of en) fr xs (row_of sc (todo_of en)) (opens en) refl h.0 h.1 h.2 (λ ms g c. stacked fr ms g xs c)
