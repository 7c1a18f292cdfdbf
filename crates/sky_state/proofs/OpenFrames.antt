-- A stack that fits its script is that of forms under way, each of which is opened by what is saved of it.
use Rattle.std.proofs.Common.{◌≡◌, ℕ, ◌+◌, ◌<◌, ◌⊎◌, inl, inr, List, [], ◌∷◌, ◌++◌, map, length, take, drop, Option, Some, None, refl, sym, ap, ◌∙◌}
use Rattle.std.proofs.Common.{subst, arith, append-nil}
use Rattle.std.proofs.lemmas.List.{length-take-le, length-drop, take-append-drop, take_all}
use Rattle.sky_base.specs.Val.{Val, Pairs}
use Rattle.sky_base.specs.Tree.{Script}
use Rattle.sky_base.specs.Res.{Entry, node_of, step_of, kept_of, opens}
use Rattle.sky_base.specs.Eval.{Body, body_of}
use Rattle.sky_base.specs.Read.{Todo, Frame, Run, todo_of, in_front, frame_of, frames_of}
use Rattle.sky_base_law.specs.Opened.{Node, opened, Opened}
use Rattle.sky_base_law.specs.Nodes.{node_at}
use Rattle.sky_base_law.specs.Tasks.{In, Each}
use Rattle.sky_base_law.specs.Sound.{IsFun}
use Rattle.sky_state.specs.Table.{Row, part, turn, star, outputs, open_call, no_step, row, keeps, places, IsStep, IsOpenCall, IsWaiting}
use Rattle.sky_state.specs.Fits.{OfKinds, TakenFrom, shares, Last, Before, row_of, OnBody, Parts, kept_in_all, FitsFrame, FunsOf, IsStart, FitsRun}
use Rattle.sky_state.specs.Chained.{body_places, row_at, KeptBy, Above, Chained, Formed}
use Rattle.sky_state.proofs.OpenEntry.{call_if, Form_of, form_of}
use Rattle.sky_state.proofs.StackLaw.{kept_more}

last_map : (P Q : Todo → Type 0) → ((t : Todo) → P t → Q t) → (ts : List Todo) → Last P ts → Last Q ts
last_map P Q f [] h = absurd h
last_map P Q f (t ∷ []) h = f t h
last_map P Q f (t ∷ u ∷ us) h = last_map P Q f (u ∷ us) h

module _ (sc : Script) where
  abbrev At : ℕ → Option Node
  At i = node_at sc i

  -- from the body's block on
  on_body : (o : Option Body) (t : Todo) (ts : List Todo) → OnBody sc o (t ∷ ts) → In t.node (body_places o)
  on_body None t ts h = absurd h
  on_body (Some b) t ts h = inl h

  no_body : (o : Option Body) → OnBody sc o [] → ⊥
  no_body None h = h
  no_body (Some b) h = h

module _ {N : Type 0} (sc : Script) where
  abbrev Chain : List ℕ → List (Entry N) → Type 0
  Chain ps fr = Chained sc (At sc) ps fr

  abbrev Keeps : Row → List (Val N) → Type 0
  Keeps r vs = KeptBy sc (At sc) r vs

  -- ---- one entry

  -- a form whose entry this is
  record Entered (t : Todo) (vs : List (Val N)) (o : Option (List ℕ × Pairs N)) : Type 0 where
    form : Entry N
    is_opened : Opened (At sc) form
    todo : todo_of form ≡ t
    kept : kept_of form ≡ vs
    call : opens form ≡ o

  opened_as : (t : Node) (n k : ℕ) (vs : List (Val N)) (o : Option (List ℕ × Pairs N)) (f : Form_of t n k vs o)
      → opened t (node_of f.form) (step_of f.form) (kept_of f.form) (opens f.form) ≡ Some f.form
  opened_as t n k vs o f = (λ i. opened t (f.node i) (f.step i) (f.kept i) (f.call i)) ∙ f.is_opened

  entered : (c : List ℕ × Pairs N) (t : Todo) (vs : List (Val N)) → IsStep (row_of sc t) → Keeps (row_of sc t) vs
      → Entered t vs (call_if (row_of sc t) c)
  entered c t vs s k = go (node_at sc t.node) refl s k
    where
      go : (x : Option Node) → node_at sc t.node ≡ x → IsStep (row x t.node t.step) → Keeps (row x t.node t.step) vs
          → Entered t vs (call_if (row x t.node t.step) c)
      go None e s k = absurd s
      go (Some y) e s k =
          let f = form_of sc (At sc) c y t.node t.step vs s k in
          record {
            form = f.form;
            is_opened = (
              y,
              ap (At sc) f.node ∙ e,
              opened_as y t.node t.step vs (call_if (row (Some y) t.node t.step) c) f,
            );
            todo = λ i. record { node = f.node i; step = f.step i };
            kept = f.kept;
            call = f.call;
          }

  -- ---- the entries of a frame

  among : (x : ℕ) (ps : List ℕ) (fr : List (Entry N)) → In x ps → Chain (x ∷ []) fr → Chain ps fr
  among x ps [] i c = absurd c
  among x ps (en ∷ fr) i c = (go c.0, c.1, c.2)
    where
      go : In (node_of en) (x ∷ []) → In (node_of en) ps
      go (inl e) = subst (λ y. In y ps) (sym e) i
      go (inr h) = absurd h

  -- what a row with a place says of the forms above its entry
  over : (r : Row) (c : List ℕ × Pairs N) (x : ℕ) (fr : List (Entry N)) (nothing : Type 0) → In x (places r) → Chain (x ∷ []) fr
      → (call_if r c ≡ None) × Above {N = N} sc (At sc) r None nothing (λ ms. Chain ms fr)
  over (part k ms) c x fr n i h = (refl, among x ms fr i h)
  over (turn m) c x fr n i h = (refl, among x (m ∷ []) fr i h)
  over star c x fr n i h = absurd i
  over outputs c x fr n i h = absurd i
  over open_call c x fr n i h = absurd i
  over no_step c x fr n i h = absurd i

  chain_more : (t : Todo) (vs : List (Val N)) (o : Option (List ℕ × Pairs N)) (e : Entered t vs o) (fr : List (Entry N)) → Keeps (row_of sc t) vs
      → Above {N = N} sc (At sc) (row_of sc t) o (fr ≡ []) (λ ms. Chain ms fr) → Chain (t.node ∷ []) (e.form ∷ fr)
  chain_more t vs o e fr k a = (
    inl (ap (λ (u : Todo). u.node) e.todo),
    subst (λ ws. Keeps (row_at sc (At sc) e.form) ws) (sym e.kept)
        (subst (λ (u : Todo). Keeps (row_of sc u) vs) (sym e.todo) k),
    subst (λ x. Above {N = N} sc (At sc) (row_at sc (At sc) e.form) x (fr ≡ []) (λ ms. Chain ms fr)) (sym e.call)
        (subst (λ (u : Todo). Above {N = N} sc (At sc) (row_of sc u) o (fr ≡ []) (λ ms. Chain ms fr)) (sym e.todo) a),
  )

  module _ (f : List ℕ) (xs zs : Pairs N) (tail : List (Frame N)) (c : List ℕ × Pairs N) where
    abbrev F : List (Val N) → List Todo → Frame N
    F vs ts = record { fun = f; vars = zs; stack = vs; todo = ts }

    -- the last entry, with what is above
    abbrev Lasts : Todo → Type 0
    Lasts t = (vs : List (Val N)) → IsStep (row_of sc t) → Keeps (row_of sc t) vs → Formed sc (t.node ∷ []) f xs (F vs (t ∷ []) ∷ tail)

    front_is : (t : Todo) (vs ws : List (Val N)) (ts : List Todo) → in_front t vs (F ws ts ∷ tail) ≡ F (vs ++ ws) (t ∷ ts) ∷ tail
    front_is t vs ws ts = refl

    more : (t u : Todo) (us : List Todo) (vs : List (Val N)) → IsStep (row_of sc t) → Keeps (row_of sc t) (take (keeps (row_of sc t)) vs)
        → In u.node (places (row_of sc t)) → Formed sc (u.node ∷ []) f xs (F (drop (keeps (row_of sc t)) vs) (u ∷ us) ∷ tail)
        → Formed sc (t.node ∷ []) f xs (F vs (t ∷ u ∷ us) ∷ tail)
    more t u us vs s k i g =
        let n = keeps (row_of sc t) in
        let up = over (row_of sc t) c u.node g.forms (g.forms ≡ []) i g.chained in
        let e : Entered t (take n vs) None = subst (Entered t (take n vs)) up.0 (entered c t (take n vs) s k) in
        record {
          forms = e.form ∷ g.forms;
          chained = chain_more t (take n vs) None e g.forms k up.1;
          all_opened = (e.is_opened, g.all_opened);
          frames = (λ j. frame_of (e.call j) f (e.todo j) (e.kept j) (g.frames j) (λ h. frames_of g.forms h xs))
              ∙ ap (λ ws. F ws (t ∷ u ∷ us) ∷ tail) (take-append-drop n vs);
        }

    kept_first : (r : Row) (vs : List (Val N)) (m : ℕ) → length vs ≡ keeps r + m → OfKinds r (take (keeps r) vs)
        → TakenFrom r (take (keeps r) vs) → Keeps r (take (keeps r) vs)
    kept_first r vs m e k t = record { as_many = length-take-le (keeps r) vs (omega (arith, e)); kinds = k; taken = t }

    entries : (ts : List Todo) (t : Todo) (vs : List (Val N)) → Each (λ u. IsStep (row_of sc u)) (t ∷ ts) → Parts sc (t ∷ ts) → length vs
        ≡ kept_in_all sc (t ∷ ts) → Each (λ s. OfKinds s.0 s.1) (shares (map (row_of sc) (t ∷ ts)) vs)
        → Each (λ s. TakenFrom s.0 s.1) (shares (map (row_of sc) (t ∷ ts)) vs) → Last Lasts (t ∷ ts)
        → Formed sc (t.node ∷ []) f xs (F vs (t ∷ ts) ∷ tail)
    entries [] t vs s p m k h last =
        let e : length vs ≡ keeps (row_of sc t) + 0 = m ∙ kept_more sc t [] in
        let all : take (keeps (row_of sc t)) vs ≡ vs = take_all (keeps (row_of sc t)) vs (omega (arith, e)) in
        last vs s.0 (subst (λ ws. Keeps (row_of sc t) ws) all (kept_first (row_of sc t) vs 0 e k.0 h.0))
    entries (u ∷ us) t vs s p m k h last =
        let n = keeps (row_of sc t) in
        let e : length vs ≡ n + kept_in_all sc (u ∷ us) = m ∙ kept_more sc t (u ∷ us) in
        more t u us vs s.0 (kept_first (row_of sc t) vs (kept_in_all sc (u ∷ us)) e k.0 h.0) p.0
        (entries us u (drop n vs) s.1 p.1 (omega (arith, length-drop n vs, e)) k.1 h.1 last)

  -- ---- the last entry of a frame

  waits_none : (r : Row) (c : List ℕ × Pairs N) (nothing : Type 0) (more : List ℕ → Type 0) → IsWaiting r → nothing → (call_if r c ≡ None)
      × Above {N = N} sc (At sc) r None nothing more
  waits_none (part k ms) c n m w i = absurd w
  waits_none (turn x) c n m w i = absurd w
  waits_none star c n m w i = (refl, i)
  waits_none outputs c n m w i = (refl, i)
  waits_none open_call c n m w i = absurd w
  waits_none no_step c n m w i = absurd w

  calls_some : (r : Row) (c : List ℕ × Pairs N) (nothing : Type 0) (more : List ℕ → Type 0) → IsOpenCall r → IsFun sc c.0
      → more (body_places (body_of c.0 sc)) → (call_if r c ≡ Some c) × Above {N = N} sc (At sc) r (Some c) nothing more
  calls_some (part k ms) c n m w i h = absurd w
  calls_some (turn x) c n m w i h = absurd w
  calls_some star c n m w i h = absurd w
  calls_some outputs c n m w i h = absurd w
  calls_some open_call c n m w i h = (refl, (i, h))
  calls_some no_step c n m w i h = absurd w

  NoMore : List (Entry N) → Type 0
  NoMore fr = fr ≡ []

  -- in the top frame it waits
  top_last : (f : List ℕ) (xs : Pairs N) (c : List ℕ × Pairs N) (t : Todo) → IsWaiting (row_of sc t) → Lasts f xs xs [] c t
  unfolding NoMore
  top_last f xs c t w vs s k =
      let up = waits_none (row_of sc t) c (NoMore []) (λ ms. Chain ms []) w refl in
      let e : Entered t vs None = subst (Entered t vs) up.0 (entered c t vs s k) in
      record {
        forms = e.form ∷ [];
        chained = chain_more t vs None e [] k up.1;
        all_opened = (e.is_opened, tt);
        frames =
            (λ j. frame_of (e.call j) f (e.todo j) (e.kept j) (record { fun = f; vars = xs; stack = []; todo = [] } ∷ [])
            (λ h. record { fun = h; vars = xs; stack = []; todo = [] } ∷ []))
            ∙ ap (λ ws. record { fun = f; vars = xs; stack = ws; todo = t ∷ [] } ∷ []) (append-nil vs);
      }

  -- in each other one it is an open call of the next frame's function
  low_last : (f : List ℕ) (xs zs : Pairs N) (g : List ℕ) (gs : List (Frame N)) → IsFun sc g → Formed sc (body_places (body_of g sc)) g xs gs
      → (t : Todo) → IsOpenCall (row_of sc t) → Lasts f xs zs gs (g, zs) t
  low_last f xs zs g gs is h t w vs s k =
      let up = calls_some (row_of sc t) (g, zs) (h.forms ≡ []) (λ ms. Chain ms h.forms) w is h.chained in
      let e : Entered t vs (Some (g, zs)) = subst (Entered t vs) up.0 (entered (g, zs) t vs s k) in
      record {
        forms = e.form ∷ h.forms;
        chained = chain_more t vs (Some (g, zs)) e h.forms k up.1;
        all_opened = (e.is_opened, h.all_opened);
        frames = (λ j. frame_of (e.call j) f (e.todo j) (e.kept j) (frames_of h.forms f xs) (λ y. frames_of h.forms y xs))
            ∙ ap (λ fs. record { fun = f; vars = zs; stack = vs; todo = t ∷ [] } ∷ fs) h.frames;
      }

  -- ---- frames

  formed_from : (x : ℕ) (ps f : List ℕ) (xs : Pairs N) (fs : List (Frame N)) → In x ps → Formed sc (x ∷ []) f xs fs → Formed sc ps f xs fs
  formed_from x ps f xs fs i g =
      record { forms = g.forms; chained = among x ps g.forms i g.chained; all_opened = g.all_opened; frames = g.frames }

  one_frame : (f : List ℕ) (zs : Pairs N) (vs : List (Val N)) (ts : List Todo) (xs : Pairs N) (tail : List (Frame N)) (c : List ℕ × Pairs N)
      → FitsFrame sc (record { fun = f; vars = zs; stack = vs; todo = ts }) → Last (Lasts f xs zs tail c) ts
      → Formed sc (body_places (body_of f sc)) f xs (record { fun = f; vars = zs; stack = vs; todo = ts } ∷ tail)
  one_frame f zs vs [] xs tail c h last = absurd (no_body sc (body_of f sc) h.bottom)
  one_frame f zs vs (t ∷ ts) xs tail c h last =
      formed_from t.node (body_places (body_of f sc)) f xs _ (on_body sc (body_of f sc) t ts h.bottom)
      (entries f xs zs tail c ts t vs h.steps h.parts h.as_many h.kinds h.taken last)

  frames_formed : (fs : List (Frame N)) (f : Frame N) → FitsFrame sc f → Each (FitsFrame sc) fs → Each (λ g. IsFun sc g.fun) fs
      → Before (λ g. Last (λ t. IsOpenCall (row_of sc t)) g.todo) (f ∷ fs) → Last (λ g. Last (λ t. IsWaiting (row_of sc t)) g.todo) (f ∷ fs)
      → (xs : Pairs N) × Formed sc (body_places (body_of f.fun sc)) f.fun xs (f ∷ fs)
  frames_formed [] f h hs is calls top = (
    f.vars,
    one_frame f.fun f.vars f.stack f.todo f.vars [] (f.fun, f.vars) h
        (last_map (λ t. IsWaiting (row_of sc t)) (Lasts f.fun f.vars f.vars [] (f.fun, f.vars)) (top_last f.fun f.vars (f.fun, f.vars)) f.todo
        top),
  )
  frames_formed (g ∷ gs) f h hs is calls top =
      let up = frames_formed gs g hs.0 hs.1 is.1 calls.1 top in (
        up.0,
        one_frame f.fun f.vars f.stack f.todo up.0 (g ∷ gs) (g.fun, f.vars) h
            (last_map (λ t. IsOpenCall (row_of sc t)) (Lasts f.fun up.0 f.vars (g ∷ gs) (g.fun, f.vars))
            (low_last f.fun up.0 f.vars g.fun (g ∷ gs) is.0 up.1) f.todo calls.0),
      )

  bottom_fun : List (Frame N) → List ℕ
  bottom_fun [] = []
  bottom_fun (f ∷ fs) = f.fun

  -- the forms under way of a stack that waits and fits
  pub run_formed : (r : Run N) → FitsRun sc r → 0 < r.waits → (f : List ℕ) × (xs : Pairs N) × Formed sc (body_places (body_of f sc)) f xs r.frames
  run_formed r h w = go r.frames h.some_frame h.functions h.frames h.calls (waiting h.top)
    where
      waiting : Last (λ g. Last (λ t. IsWaiting (row_of sc t)) g.todo) r.frames ⊎ IsStart sc r
          → Last (λ g. Last (λ t. IsWaiting (row_of sc t)) g.todo) r.frames
      waiting (inl l) = l
      waiting (inr s) = absurd (omega (arith, s.waits, w))

      go : (fs : List (Frame N)) → 0 < length fs → FunsOf sc fs → Each (FitsFrame sc) fs
          → Before (λ g. Last (λ t. IsOpenCall (row_of sc t)) g.todo) fs → Last (λ g. Last (λ t. IsWaiting (row_of sc t)) g.todo) fs
          → (f : List ℕ) × (xs : Pairs N) × Formed sc (body_places (body_of f sc)) f xs fs
      go [] some is hs calls top = absurd (omega (arith, some))
      go (f ∷ fs) some is hs calls top = let up = frames_formed fs f hs.0 hs.1 is.1 calls top in (f.fun, up.0, up.1)
