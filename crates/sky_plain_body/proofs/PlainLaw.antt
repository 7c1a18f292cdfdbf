-- What a run does is the walk of its meaning, for whatever names the descriptions that are held at its end.
use Rattle.std.proofs.Common.{◌≡◌, ℕ, zero, suc, ◌+◌, List, [], ◌∷◌, ◌++◌, length, reverse, map, Bool, true, false, ◌&&◌, ◌||◌, Option, Some, None}
use Rattle.std.proofs.Common.{Ok, Err, nat_eq, nat_lt, refl, sym, ap, ◌∙◌, subst, append-nil, append_assoc}
use Rattle.std.specs.Prelude.{pos, negsuc, slice_get}
use Rattle.sky_base.specs.Val.{null, truth, num, text, list, dict, fun, ref, no_vals, val, no_pairs, call, input, known, count, vals_of, refs_to}
use Rattle.sky_base.specs.Val.{add_val, same_text, same_desc, stands_in}
use Rattle.sky_base.specs.Op as op
use Rattle.sky_base.specs.Op.{find}
use Rattle.sky_base.specs.Tree.{Place, nowhere, Junction, Sign, SignAt, Form, Exp, Exps, Links, Ands, Steps, Stm, Stms, Arms, Else, FunDef, nodes}
use Rattle.sky_base.specs.Tree.{stm_nodes, block_nodes, arms_nodes}
use Rattle.sky_base.specs.Res.{visits, Object, End, Entry, star_wait, exec_wait, one_of, all_of, Res, Fin, Tell, Ask, then_do, on_got, on_goes}
use Rattle.sky_base.specs.Res.{on_body, with_vars, fails, gives, counted, visited, visit, answer, tell_all}
use Rattle.sky_base.specs.Read.{refs_of}
use Rattle.sky_base.specs.See.{slot}
use Rattle.sky_base.specs.Eval as run
use Rattle.sky_base.specs.Eval.{World, find_fun, Body, body_of, bind, set_var, is_one_of, named, closed, lit_val, oper, outputs, truth_of, wait_end}
use Rattle.sky_base.specs.Eval.{exec_end, eval, eval_parts, eval_links, eval_ands, eval_steps, eval_args, eval_stm, eval_stms, eval_arms, eval_else}
use Rattle.sky_base.specs.Eval.{turns, repeats, each, each_of, decide, joins, signs, signed, deref, formed, called, in_body, body_at}
use Rattle.sky_base.specs.declared.fault.FaultKind.{FaultKind}
use Rattle.sky_base.proofs.Exact.{exact_desc, exact_text, self_desc, self_text}
use Rattle.sky_base_known.specs.Walk.{Row, Seen, Stop, Walked, stops, in_room, if_new, learn_to, is_held, on_learned, on_seen, seen_one, look, walk}
use Rattle.sky_base_known.specs.Walk.{known_of, Numbers}
use Rattle.sky_base_known.specs.Number.{index_if, index_of}
use Rattle.sky_base_scope.specs.Plain as plain
use Rattle.sky_base_scope.specs.Plain.{Val, Vals, Pairs, Vars, Answer, Ground, Cutoff, Out, value_of, on_listed, items, learned, learn, learn_all}
use Rattle.sky_base_known.specs.Walk.{Obj}

abbrev pub told_stop : Stop → List Row → Out
told_stop (Stop.ended End.goes st) rows = Out.goes rows st
told_stop (Stop.ended (End.got v) st) rows = Out.got v rows st
told_stop (Stop.ended (End.returned v) st) rows = Out.returned v rows st
told_stop (Stop.ended (End.failed f) st) rows = Out.cut (Cutoff.fault f) rows
told_stop (Stop.waits d) rows = Out.cut (Cutoff.waits d) rows
told_stop (Stop.full d) rows = Out.cut Cutoff.full rows

-- a walk, without the variables of a stop
abbrev pub told : Walked → Out
told w = told_stop w.stop w.rows

abbrev pub held : Out → List Row
held (Out.goes rows st) = rows
held (Out.got v rows st) = rows
held (Out.returned v rows st) = rows
held (Out.listed vs rows st) = rows
held (Out.cut c rows) = rows

never_listed : {P : Type 0} (s : Stop) (rows more : List Row) (vs : Vals) (st : Vars) → told_stop s rows ≡ Out.listed vs more st → P
never_listed (Stop.ended End.goes t) rows more vs st e = absurd cc
never_listed (Stop.ended (End.got v) t) rows more vs st e = absurd cc
never_listed (Stop.ended (End.returned v) t) rows more vs st e = absurd cc
never_listed (Stop.ended (End.failed f) t) rows more vs st e = absurd cc
never_listed (Stop.waits d) rows more vs st e = absurd cc
never_listed (Stop.full d) rows more vs st e = absurd cc

-- ---- names of descriptions

place_in_if : (b : Bool) (d e : Row) (es : List Row) (n : ℕ) → same_desc same_text d e ≡ b → (b ≡ false → slice_get es n ≡ Some d) → slice_get (e ∷ es) (index_if b n) ≡ Some d
place_in_if true d e es n h k = ap Some (sym (exact_desc same_text exact_text d e h))
place_in_if false d e es n h k = k refl

or_right : (a b : Bool) → a ≡ false → a || b ≡ true → b ≡ true
or_right true b e h = absurd cc
or_right false b e h = h

-- a description that is held stands at its first place
pub place_in : (d : Row) (es : List Row) → is_held d es ≡ true → slice_get es (index_of d es) ≡ Some d
place_in d [] h = absurd cc
place_in d (e ∷ es) h =
    place_in_if (same_desc same_text d e) d e es (index_of d es) refl (λ f. place_in d es (or_right (same_desc same_text d e) (stands_in same_text d es) f h))

or_true : (a : Bool) → a || true ≡ true
or_true true = refl
or_true false = refl

held_last : (d : Row) (es : List Row) → is_held d (es ++ d ∷ []) ≡ true
held_last d [] = ap (λ b. b || false) (self_desc same_text self_text d)
held_last d (e ∷ es) = ap (λ b. same_desc same_text d e || b) (held_last d es) ∙ or_true (same_desc same_text d e)

-- what a description that is made adds
pub record Learned (d : Row) (rows more : List Row) : Type 0 where
  pub is_in : is_held d more ≡ true
  pub keeps : (k : ℕ) (e : Row) → slice_get rows k ≡ Some e → slice_get more k ≡ Some e

keeps_front : (d : Row) (rows : List Row) (k : ℕ) (e : Row) → slice_get rows k ≡ Some e → slice_get (rows ++ d ∷ []) k ≡ Some e
keeps_front d [] k e h = absurd (none_in k e h)
  where
    none_in : (k : ℕ) (e : Row) → slice_get {X = Row} [] k ≡ Some e → ⊥
    none_in zero e h = cc
    none_in (suc k) e h = cc
keeps_front d (x ∷ rows) zero e h = h
keeps_front d (x ∷ rows) (suc k) e h = keeps_front d rows k e h

room_learned : (b : Bool) (d : Row) (rows more : List Row) → in_room b rows d ≡ Some more → Learned d rows more
room_learned true d rows more e = let f : rows ++ d ∷ [] ≡ more = cc in rw (← f) (record { is_in = held_last d rows; keeps = keeps_front d rows })
room_learned false d rows more e = absurd cc

new_learned : (b : Bool) (d : Row) (rows more : List Row) → is_held d rows ≡ b → if_new b rows d ≡ Some more → Learned d rows more
new_learned true d rows more h e = let f : rows ≡ more = cc in rw (← f) (record { is_in = h; keeps = λ k x g. g })
new_learned false d rows more h e = room_learned _ d rows more e

pub is_learned : (d : Row) (rows more : List Row) → learn_to rows d ≡ Some more → Learned d rows more
is_learned d rows more e = new_learned (is_held d rows) d rows more refl e

module _ (g : Ground) (make : Row → Row) where
  abbrev pub see : Row → Option Obj
  see = known_of g.objects

  abbrev pub world : World (List ℕ)
  world = record { make = make; reads = g.reads; script = g.script }

  -- the walk comes to this, and so do the numbers of descriptions that are held before, where those held then have their numbers
  pub record Agree (rows : List Row) (r : Res (List ℕ)) (o : Out) : Type 0 where
    pub back : Numbers (held o) make → Numbers rows make
    pub same : Numbers (held o) make → told (walk see rows r) ≡ o

  agree_to : (rows : List Row) (r : Res (List ℕ)) (o p : Out) → o ≡ p → Agree rows r o → Agree rows r p
  agree_to rows r o p e a = subst (λ q. Agree rows r q) e a

  -- ---- going on

  learned_then : (F : Out → Out) (f h : List Row → Walked) (o : Option (List Row)) (rows : List Row) (d : Row) → (F (Out.cut Cutoff.full rows) ≡ Out.cut Cutoff.full rows)
      → ((more : List Row) → told (f more) ≡ F (told (h more))) → told (on_learned o rows d f) ≡ F (told (on_learned o rows d h))
  learned_then F f h None rows d c e = sym c
  learned_then F f h (Some more) rows d c e = e more

  seen_then : (F : Out → Out) (f h : List Obj → Walked) (q : Seen) (rows : List Row) → ((c : Cutoff) → F (Out.cut c rows) ≡ Out.cut c rows) → ((os : List Obj) → told (f os) ≡ F (told (h os)))
      → told (on_seen q rows f) ≡ F (told (on_seen q rows h))
  seen_then F f h (Seen.lacks d) rows c e = sym (c (Cutoff.waits d))
  seen_then F f h (Seen.all os) rows c e = e os

  told_then : (r : Res (List ℕ)) (en : Entry (List ℕ)) (k : End (List ℕ) → Vars → Res (List ℕ)) (F : Out → Out) → ((c : Cutoff) (rows : List Row) → F (Out.cut c rows) ≡ Out.cut c rows)
      → ((e : End (List ℕ)) (st : Vars) (rows : List Row) → told (walk see rows (k e st)) ≡ F (told (stops rows (Stop.ended e st)))) → (rows : List Row) → told (walk see rows (then_do r en k))
      ≡ F (told (walk see rows r))
  told_then (Fin e st) en k F c h rows = h e st rows
  told_then (Tell d r) en k F c h rows =
      learned_then F _ _ (learn_to rows d) rows d (c Cutoff.full rows) (λ more. told_then r en k F c h more)
  told_then (Ask q fr st f) en k F c h rows =
      seen_then F _ _ (look see (refs_of q)) rows (λ x. c x rows) (λ os. told_then (f os) en k F c h rows)

  module _ (k : Val → Vars → Res (List ℕ)) where
    abbrev got_told : Out → Out
    got_told o = plain.on_got o (λ v more st. told (walk see more (k v st)))

    told_got : (r : Res (List ℕ)) (en : Entry (List ℕ)) (rows : List Row) → told (walk see rows (then_do r en (on_got k))) ≡ got_told (told (walk see rows r))
    told_got r en rows = told_then r en (on_got k) got_told (λ c rows. refl) ends rows
      where
        ends : (e : End (List ℕ)) (st : Vars) (rows : List Row) → told (walk see rows (on_got k e st)) ≡ got_told (told (stops rows (Stop.ended e st)))
        ends End.goes st rows = refl
        ends (End.got v) st rows = refl
        ends (End.returned v) st rows = refl
        ends (End.failed f) st rows = refl

    module _ (f : Val → List Row → Vars → Out) (h : (v : Val) (more : List Row) (st : Vars) → Agree more (k v st) (f v more st)) where
      got_back : (rows : List Row) (r : Res (List ℕ)) (o : Out) → Agree rows r o → Numbers (held (plain.on_got o f)) make → Numbers rows make
      got_back rows r (Out.goes more st) a n = a.back n
      got_back rows r (Out.got v more st) a n = a.back ((h v more st).back n)
      got_back rows r (Out.returned v more st) a n = a.back n
      got_back rows r (Out.listed vs more st) a n = a.back n
      got_back rows r (Out.cut c more) a n = a.back n

      got_same : (rows : List Row) (r : Res (List ℕ)) (o : Out) → Agree rows r o → Numbers (held (plain.on_got o f)) make → got_told (told (walk see rows r)) ≡ plain.on_got o f
      got_same rows r (Out.goes more st) a n = ap got_told (a.same n)
      got_same rows r (Out.got v more st) a n = ap got_told (a.same ((h v more st).back n)) ∙ (h v more st).same n
      got_same rows r (Out.returned v more st) a n = ap got_told (a.same n)
      got_same rows r (Out.listed vs more st) a n = never_listed (walk see rows r).stop (walk see rows r).rows more vs st (a.same n)
      got_same rows r (Out.cut c more) a n = ap got_told (a.same n)

      agree_got : (rows : List Row) (r : Res (List ℕ)) (o : Out) (en : Entry (List ℕ)) → Agree rows r o → Agree rows (then_do r en (on_got k)) (plain.on_got o f)
      agree_got rows r o en a = record { back = got_back rows r o a; same = λ n. told_got r en rows ∙ got_same rows r o a n }

    module _ (xs : Pairs) (f : Val → List Row → Vars → Out) (h : (v : Val) (more : List Row) (st : Vars) → Agree more (k v st) (f v more st)) where
      abbrev body_told : Out → Out
      body_told o = got_told (value_of xs o)

      told_body : (r : Res (List ℕ)) (en : Entry (List ℕ)) (rows : List Row) → told (walk see rows (then_do r en (on_body xs k))) ≡ body_told (told (walk see rows r))
      told_body r en rows = told_then r en (on_body xs k) body_told (λ c rows. refl) ends rows
        where
          ends : (e : End (List ℕ)) (st : Vars) (rows : List Row) → told (walk see rows (on_body xs k e st)) ≡ body_told (told (stops rows (Stop.ended e st)))
          ends End.goes st rows = refl
          ends (End.got v) st rows = refl
          ends (End.returned v) st rows = refl
          ends (End.failed x) st rows = refl

      body_back : (rows : List Row) (r : Res (List ℕ)) (o : Out) → Agree rows r o → Numbers (held (plain.on_got (value_of xs o) f)) make → Numbers rows make
      body_back rows r (Out.goes more st) a n = a.back ((h null more (with_vars xs st)).back n)
      body_back rows r (Out.got v more st) a n = a.back ((h v more (with_vars xs st)).back n)
      body_back rows r (Out.returned v more st) a n = a.back ((h v more (with_vars xs st)).back n)
      body_back rows r (Out.listed vs more st) a n = a.back n
      body_back rows r (Out.cut c more) a n = a.back n

      body_same : (rows : List Row) (r : Res (List ℕ)) (o : Out) → Agree rows r o → Numbers (held (plain.on_got (value_of xs o) f)) make → body_told (told (walk see rows r))
          ≡ plain.on_got (value_of xs o) f
      body_same rows r (Out.goes more st) a n = ap body_told (a.same ((h null more (with_vars xs st)).back n)) ∙ (h null more (with_vars xs st)).same n
      body_same rows r (Out.got v more st) a n = ap body_told (a.same ((h v more (with_vars xs st)).back n)) ∙ (h v more (with_vars xs st)).same n
      body_same rows r (Out.returned v more st) a n = ap body_told (a.same ((h v more (with_vars xs st)).back n)) ∙ (h v more (with_vars xs st)).same n
      body_same rows r (Out.listed vs more st) a n = never_listed (walk see rows r).stop (walk see rows r).rows more vs st (a.same n)
      body_same rows r (Out.cut c more) a n = ap body_told (a.same n)

      agree_body : (rows : List Row) (r : Res (List ℕ)) (o : Out) (en : Entry (List ℕ)) → Agree rows r o → Agree rows (then_do r en (on_body xs k)) (plain.on_got (value_of xs o) f)
      agree_body rows r o en a = record { back = body_back rows r o a; same = λ n. told_body r en rows ∙ body_same rows r o a n }

  module _ (k : Vars → Res (List ℕ)) (f : List Row → Vars → Out) (h : (more : List Row) (st : Vars) → Agree more (k st) (f more st)) where
    abbrev goes_told : Out → Out
    goes_told o = plain.on_goes o (λ more st. told (walk see more (k st)))

    told_goes : (r : Res (List ℕ)) (en : Entry (List ℕ)) (rows : List Row) → told (walk see rows (then_do r en (on_goes k))) ≡ goes_told (told (walk see rows r))
    told_goes r en rows = told_then r en (on_goes k) goes_told (λ c rows. refl) ends rows
      where
        ends : (e : End (List ℕ)) (st : Vars) (rows : List Row) → told (walk see rows (on_goes k e st)) ≡ goes_told (told (stops rows (Stop.ended e st)))
        ends End.goes st rows = refl
        ends (End.got v) st rows = refl
        ends (End.returned v) st rows = refl
        ends (End.failed x) st rows = refl

    goes_back : (rows : List Row) (r : Res (List ℕ)) (o : Out) → Agree rows r o → Numbers (held (plain.on_goes o f)) make → Numbers rows make
    goes_back rows r (Out.goes more st) a n = a.back ((h more st).back n)
    goes_back rows r (Out.got v more st) a n = a.back n
    goes_back rows r (Out.returned v more st) a n = a.back n
    goes_back rows r (Out.listed vs more st) a n = a.back n
    goes_back rows r (Out.cut c more) a n = a.back n

    goes_same : (rows : List Row) (r : Res (List ℕ)) (o : Out) → Agree rows r o → Numbers (held (plain.on_goes o f)) make → goes_told (told (walk see rows r)) ≡ plain.on_goes o f
    goes_same rows r (Out.goes more st) a n = ap goes_told (a.same ((h more st).back n)) ∙ (h more st).same n
    goes_same rows r (Out.got v more st) a n = ap goes_told (a.same n)
    goes_same rows r (Out.returned v more st) a n = ap goes_told (a.same n)
    goes_same rows r (Out.listed vs more st) a n = never_listed (walk see rows r).stop (walk see rows r).rows more vs st (a.same n)
    goes_same rows r (Out.cut c more) a n = ap goes_told (a.same n)

    agree_goes : (rows : List Row) (r : Res (List ℕ)) (o : Out) (en : Entry (List ℕ)) → Agree rows r o → Agree rows (then_do r en (on_goes k)) (plain.on_goes o f)
    agree_goes rows r o en a = record { back = goes_back rows r o a; same = λ n. told_goes r en rows ∙ goes_same rows r o a n }

  agree_fails : (x : FaultKind) (p : Place) (rows : List Row) (st : Vars) → Agree rows (fails x p st) (plain.fails x p rows)
  agree_fails x p rows st = record { back = λ n. n; same = λ n. refl }

  agree_gives : (v : Val) (rows : List Row) (st : Vars) → Agree rows (gives v st) (Out.got v rows st)
  agree_gives v rows st = record { back = λ n. n; same = λ n. refl }

  agree_end : (rows : List Row) (st : Vars) → Agree rows (Fin End.goes st) (Out.goes rows st)
  agree_end rows st = record { back = λ n. n; same = λ n. refl }

  agree_returned : (v : Val) (rows : List Row) (st : Vars) → Agree rows (Fin (End.returned v) st) (Out.returned v rows st)
  agree_returned v rows st = record { back = λ n. n; same = λ n. refl }

  agree_visited : (b : Bool) (p : Place) (rows : List Row) (st : Vars) (k : Vars → Res (List ℕ)) (f : Vars → Out) → ((s : Vars) → Agree rows (k s) (f s))
      → Agree rows (visited b p st k) (plain.visited b p rows st f)
  agree_visited true p rows st k f h = h (counted st)
  agree_visited false p rows st k f h = agree_fails FaultKind.TooLong p rows st

  agree_visit : (p : Place) (rows : List Row) (st : Vars) (k : Vars → Res (List ℕ)) (f : Vars → Out) → ((s : Vars) → Agree rows (k s) (f s)) → Agree rows (visit p st k) (plain.visit p rows st f)
  agree_visit p rows st k f h = agree_visited (nat_lt st.count visits) p rows st k f h

  agree_answer : (a : Answer) (p : Place) (rows : List Row) (st : Vars) (k : Val → Vars → Res (List ℕ)) (f : Val → Out) → ((v : Val) → Agree rows (k v st) (f v))
      → Agree rows (answer a p st k) (plain.answer a p rows f)
  agree_answer (Ok v) p rows st k f h = h v
  agree_answer (Err e) p rows st k f h = agree_fails e p rows st

  agree_decide : (v : Val) (p : Place) (rows : List Row) (st : Vars) (on off : Vars → Res (List ℕ)) (x y : Out) → Agree rows (on st) x → Agree rows (off st) y
      → Agree rows (decide v p st on off) (plain.decide v p rows x y)
  agree_decide (truth true) p rows st on off x y a b = a
  agree_decide (truth false) p rows st on off x y a b = b
  agree_decide null p rows st on off x y a b = agree_fails FaultKind.BadKind p rows st
  agree_decide (num z) p rows st on off x y a b = agree_fails FaultKind.BadKind p rows st
  agree_decide (text t) p rows st on off x y a b = agree_fails FaultKind.BadKind p rows st
  agree_decide (list vs) p rows st on off x y a b = agree_fails FaultKind.BadKind p rows st
  agree_decide (dict ps) p rows st on off x y a b = agree_fails FaultKind.BadKind p rows st
  agree_decide (fun s z) p rows st on off x y a b = agree_fails FaultKind.BadKind p rows st
  agree_decide (ref d) p rows st on off x y a b = agree_fails FaultKind.BadKind p rows st

  agree_joins : (j : Junction) (v : Val) (p : Place) (rows : List Row) (st : Vars) (k : Vars → Res (List ℕ)) (x : Out) → Agree rows (k st) x
      → Agree rows (joins j v p st k) (plain.joins j v p rows st x)
  agree_joins Junction.both v p rows st k x a = agree_decide v p rows st k (λ s. gives (truth false) s) x _ a (agree_gives (truth false) rows st)
  agree_joins Junction.either v p rows st k x a = agree_decide v p rows st (λ s. gives (truth true) s) k _ x (agree_gives (truth true) rows st) a

  -- ---- descriptions that are made

  numbers_back : (d : Row) (rows more : List Row) → learn_to rows d ≡ Some more → Numbers more make → Numbers rows make
  numbers_back d rows more e n = λ k x h. n k x ((is_learned d rows more e).keeps k x h)

  number_is : (d : Row) (rows more : List Row) → learn_to rows d ≡ Some more → Numbers more make → make d ≡ known (slot (index_of d more))
  number_is d rows more e n = n (index_of d more) d (place_in d more (is_learned d rows more e).is_in)

  module _ (d : Row) (f : Row → List Row → Out) (rows : List Row) where
    learned_back : (q : Option (List Row)) → ((more : List Row) → q ≡ Some more → learn_to rows d ≡ Some more) → ((m : Row) (more : List Row) → Numbers (held (f m more)) make → Numbers more make)
        → Numbers (held (learned q rows d f)) make → Numbers rows make
    learned_back None e b n = n
    learned_back (Some more) e b n = numbers_back d rows more (e more refl) (b (known (slot (index_of d more))) more n)

    learned_same : (q : Option (List Row)) (r : Res (List ℕ)) → ((more : List Row) → q ≡ Some more → learn_to rows d ≡ Some more)
        → ((m : Row) (more : List Row) → Numbers (held (f m more)) make → Numbers more make) → ((more : List Row) → Numbers (held (f (make d) more)) make → told (walk see more r) ≡ f (make d) more)
        → Numbers (held (learned q rows d f)) make → told (on_learned q rows d (λ more. walk see more r)) ≡ learned q rows d f
    learned_same None r e b h n = refl
    learned_same (Some more) r e b h n =
        let c = number_is d rows more (e more refl) (b (known (slot (index_of d more))) more n) in
        h more (subst (λ m. Numbers (held (f m more)) make) (sym c) n) ∙ ap (λ m. f m more) c

    agree_learn : (r : Res (List ℕ)) → ((m : Row) (more : List Row) → Numbers (held (f m more)) make → Numbers more make)
        → ((more : List Row) → Numbers (held (f (make d) more)) make → told (walk see more r) ≡ f (make d) more) → Agree rows (Tell d r) (learn d rows f)
    agree_learn r b h = record { back = learned_back (learn_to rows d) (λ more e. e) b; same = learned_same (learn_to rows d) r (λ more e. e) b h }

  agree_make : (d : Row) (rows : List Row) (st : Vars) → Agree rows (run.make_one world d st) (plain.make_one d rows st)
  agree_make d rows st = agree_learn d (λ m more. Out.got (ref m) more st) rows (gives (ref (make d)) st) (λ m more n. n) (λ more n. refl)

  all_back : (ds rows : List Row) (f : List Row → List Row → Out) → ((ms more : List Row) → Numbers (held (f ms more)) make → Numbers more make) → Numbers (held (learn_all ds rows f)) make
      → Numbers rows make
  all_back [] rows f b n = b [] rows n
  all_back (d ∷ ds) rows f b n =
      learned_back d (λ m more. learn_all ds more (λ ms last. f (m ∷ ms) last)) rows (learn_to rows d) (λ more e. e)
      (λ m more. all_back ds more (λ ms last. f (m ∷ ms) last) (λ ms last. b (m ∷ ms) last)) n

  all_same : (ds rows : List Row) (f : List Row → List Row → Out) (r : Res (List ℕ)) → ((ms more : List Row) → Numbers (held (f ms more)) make → Numbers more make)
      → ((more : List Row) → Numbers (held (f (map make ds) more)) make → told (walk see more r) ≡ f (map make ds) more) → Numbers (held (learn_all ds rows f)) make
      → told (walk see rows (tell_all ds r)) ≡ learn_all ds rows f
  all_same [] rows f r b h n = h rows n
  all_same (d ∷ ds) rows f r b h n =
      learned_same d (λ m more. learn_all ds more (λ ms last. f (m ∷ ms) last)) rows (learn_to rows d) (tell_all ds r) (λ more e. e)
      (λ m more. all_back ds more (λ ms last. f (m ∷ ms) last) (λ ms last. b (m ∷ ms) last)) (λ more. all_same ds more (λ ms last. f (make d ∷ ms) last) r (λ ms last. b (make d ∷ ms) last) h) n

  agree_all : (ds rows : List Row) (f : List Row → List Row → Out) (k : List Row → Res (List ℕ)) → ((ms more : List Row) → Agree more (k ms) (f ms more))
      → Agree rows (tell_all ds (k (map make ds))) (learn_all ds rows f)
  agree_all ds rows f k h =
      record { back = all_back ds rows f (λ ms more. (h ms more).back); same = all_same ds rows f (k (map make ds)) (λ ms more. (h ms more).back) (λ more. (h (map make ds) more).same) }

  -- ---- forms

  agree_spawn_if : (b : Bool) (d : Row) (p : Place) (rows : List Row) (st : Vars) → Agree rows (run.spawn_if world b d p st) (plain.spawn_if b d p rows st)
  agree_spawn_if true d p rows st = agree_make d rows st
  agree_spawn_if false d p rows st = agree_fails FaultKind.WrongCount p rows st

  agree_spawn_fun : (q : Option FunDef) (f : List ℕ) (c : Pairs) (vs : Vals) (p : Place) (rows : List Row) (st : Vars)
      → Agree rows (run.spawn_fun world q f c vs p st) (plain.spawn_fun q f c vs p rows st)
  agree_spawn_fun None f c vs p rows st = agree_fails FaultKind.BadKind p rows st
  agree_spawn_fun (Some d) f c vs p rows st = agree_spawn_if (nat_eq (length d.params) (count vs)) (call f c vs) p rows st

  agree_spawn_list : (f : List ℕ) (c : Pairs) (a : Val) (p : Place) (rows : List Row) (st : Vars) → Agree rows (run.spawn_list world f c a p st) (plain.spawn_list g f c a p rows st)
  agree_spawn_list f c null p rows st = agree_fails FaultKind.BadKind p rows st
  agree_spawn_list f c (truth b) p rows st = agree_fails FaultKind.BadKind p rows st
  agree_spawn_list f c (num z) p rows st = agree_fails FaultKind.BadKind p rows st
  agree_spawn_list f c (text t) p rows st = agree_fails FaultKind.BadKind p rows st
  agree_spawn_list f c (list vs) p rows st = agree_spawn_fun (find_fun f g.script.funs) f c vs p rows st
  agree_spawn_list f c (dict ps) p rows st = agree_fails FaultKind.BadKind p rows st
  agree_spawn_list f c (fun x z) p rows st = agree_fails FaultKind.BadKind p rows st
  agree_spawn_list f c (ref d) p rows st = agree_fails FaultKind.BadKind p rows st

  agree_spawned : (f a : Val) (p : Place) (rows : List Row) (st : Vars) → Agree rows (run.spawned world f a p st) (plain.spawned g f a p rows st)
  agree_spawned null a p rows st = agree_fails FaultKind.BadKind p rows st
  agree_spawned (truth b) a p rows st = agree_fails FaultKind.BadKind p rows st
  agree_spawned (num z) a p rows st = agree_fails FaultKind.BadKind p rows st
  agree_spawned (text t) a p rows st = agree_fails FaultKind.BadKind p rows st
  agree_spawned (list vs) a p rows st = agree_fails FaultKind.BadKind p rows st
  agree_spawned (dict ps) a p rows st = agree_fails FaultKind.BadKind p rows st
  agree_spawned (fun x z) a p rows st = agree_spawn_list x z a p rows st
  agree_spawned (ref d) a p rows st = agree_fails FaultKind.BadKind p rows st

  module _ (p : Place) (rows : List Row) (st : Vars) (k : List Row → Vars → Res (List ℕ)) (f : List Row → List Row → Out) (h : (ms more : List Row) → Agree more (k ms st) (f ms more)) where
    agree_outputs_if : (b : Bool) (ds : List Row) → Agree rows (run.outputs_if world b ds p st k) (plain.outputs_if b ds p rows f)
    agree_outputs_if true ds = agree_all ds rows f (λ ms. k ms st) h
    agree_outputs_if false ds = agree_fails FaultKind.BadCount p rows st

    agree_outputs_count : (x : List ℕ) (a n : Val) → Agree rows (run.outputs_count world x a n p st k) (plain.outputs_count x a n p rows f)
    agree_outputs_count x a null = agree_fails FaultKind.BadKind p rows st
    agree_outputs_count x a (truth b) = agree_fails FaultKind.BadKind p rows st
    agree_outputs_count x a (num (pos n)) = agree_outputs_if (nat_lt 0 n && nat_lt n 65) (outputs x a n 0 n)
    agree_outputs_count x a (num (negsuc n)) = agree_fails FaultKind.BadCount p rows st
    agree_outputs_count x a (text t) = agree_fails FaultKind.BadKind p rows st
    agree_outputs_count x a (list vs) = agree_fails FaultKind.BadKind p rows st
    agree_outputs_count x a (dict ps) = agree_fails FaultKind.BadKind p rows st
    agree_outputs_count x a (fun y z) = agree_fails FaultKind.BadKind p rows st
    agree_outputs_count x a (ref d) = agree_fails FaultKind.BadKind p rows st

    agree_outputs_of : (x a n : Val) → Agree rows (run.outputs_of world x a n p st k) (plain.outputs_of x a n p rows f)
    agree_outputs_of null a n = agree_fails FaultKind.BadKind p rows st
    agree_outputs_of (truth b) a n = agree_fails FaultKind.BadKind p rows st
    agree_outputs_of (num z) a n = agree_fails FaultKind.BadKind p rows st
    agree_outputs_of (text x) a n = agree_outputs_count x a n
    agree_outputs_of (list vs) a n = agree_fails FaultKind.BadKind p rows st
    agree_outputs_of (dict ps) a n = agree_fails FaultKind.BadKind p rows st
    agree_outputs_of (fun y z) a n = agree_fails FaultKind.BadKind p rows st
    agree_outputs_of (ref d) a n = agree_fails FaultKind.BadKind p rows st

  ended_exec : (ds : List Row) (os : List Obj) (rows : List Row) (st : Vars) → told (walk see rows (on_got gives (exec_end ds os) st)) ≡ plain.exec_end ds os rows st
  ended_exec ds [] rows st = refl
  ended_exec ds (Object.bytes b ∷ os) rows st = ended_exec ds os rows st
  ended_exec ds (Object.data_of v ∷ os) rows st = ended_exec ds os rows st
  ended_exec ds (Object.fault f ∷ os) rows st = refl

  exec_held : (ds : List Row) (os : List Obj) (rows : List Row) (st : Vars) → held (plain.exec_end ds os rows st) ≡ rows
  exec_held ds [] rows st = refl
  exec_held ds (Object.bytes b ∷ os) rows st = exec_held ds os rows st
  exec_held ds (Object.data_of v ∷ os) rows st = exec_held ds os rows st
  exec_held ds (Object.fault f ∷ os) rows st = refl

  exec_back : (q : Seen) (ds rows : List Row) (st : Vars) → Numbers (held (plain.exec_seen q ds rows st)) make → Numbers rows make
  exec_back (Seen.lacks d) ds rows st n = n
  exec_back (Seen.all os) ds rows st n = subst (λ r. Numbers r make) (exec_held ds os rows st) n

  exec_same : (q : Seen) (m : ℕ) (ds rows : List Row) (st : Vars) → told (on_seen q rows (λ os. walk see rows (then_do (Fin (wait_end world (all_of ds) os) st) (exec_wait m ds) (on_got gives))))
      ≡ plain.exec_seen q ds rows st
  exec_same (Seen.lacks d) m ds rows st = refl
  exec_same (Seen.all os) m ds rows st = ended_exec ds os rows st

  agree_exec : (m : ℕ) (ds rows : List Row) (st : Vars) → Agree rows (run.exec_ask world m ds st) (plain.exec_ask g ds rows st)
  agree_exec m ds rows st =
      record { back = exec_back (look see ds) ds rows st; same = λ n. exec_same (look see ds) m ds rows st }

  agree_input_if : (b : Bool) (k : List ℕ) (p : Place) (rows : List Row) (st : Vars) → Agree rows (run.input_if world b k p st) (plain.input_if b k p rows st)
  agree_input_if true k p rows st = agree_make (input k) rows st
  agree_input_if false k p rows st = agree_fails FaultKind.Unknown p rows st

  agree_input : (v : Val) (p : Place) (rows : List Row) (st : Vars) → Agree rows (run.input_of world v p st) (plain.input_of g v p rows st)
  agree_input null p rows st = agree_fails FaultKind.BadKind p rows st
  agree_input (truth b) p rows st = agree_fails FaultKind.BadKind p rows st
  agree_input (num z) p rows st = agree_fails FaultKind.BadKind p rows st
  agree_input (text k) p rows st = agree_input_if (is_one_of k g.script.keys) k p rows st
  agree_input (list vs) p rows st = agree_fails FaultKind.BadKind p rows st
  agree_input (dict ps) p rows st = agree_fails FaultKind.BadKind p rows st
  agree_input (fun x z) p rows st = agree_fails FaultKind.BadKind p rows st
  agree_input (ref d) p rows st = agree_fails FaultKind.BadKind p rows st

  agree_one : (vs : List Val) (p : Place) (rows : List Row) (st : Vars) (k : Val → Res (List ℕ)) (f : Val → Out) → ((a : Val) → Agree rows (k a) (f a))
      → Agree rows (run.with_one vs p st k) (plain.with_one (vals_of vs) p rows f)
  agree_one [] p rows st k f h = agree_fails FaultKind.BadKind p rows st
  agree_one (a ∷ []) p rows st k f h = h a
  agree_one (a ∷ b ∷ vs) p rows st k f h = agree_fails FaultKind.BadKind p rows st

  agree_two : (vs : List Val) (p : Place) (rows : List Row) (st : Vars) (k : Val → Val → Res (List ℕ)) (f : Val → Val → Out) → ((a b : Val) → Agree rows (k a b) (f a b))
      → Agree rows (run.with_two vs p st k) (plain.with_two (vals_of vs) p rows f)
  agree_two [] p rows st k f h = agree_fails FaultKind.BadKind p rows st
  agree_two (a ∷ []) p rows st k f h = agree_fails FaultKind.BadKind p rows st
  agree_two (a ∷ b ∷ []) p rows st k f h = h a b
  agree_two (a ∷ b ∷ c ∷ vs) p rows st k f h = agree_fails FaultKind.BadKind p rows st

  agree_three : (vs : List Val) (p : Place) (rows : List Row) (st : Vars) (k : Val → Val → Val → Res (List ℕ)) (f : Val → Val → Val → Out) → ((a b c : Val) → Agree rows (k a b c) (f a b c))
      → Agree rows (run.with_three vs p st k) (plain.with_three (vals_of vs) p rows f)
  agree_three [] p rows st k f h = agree_fails FaultKind.BadKind p rows st
  agree_three (a ∷ []) p rows st k f h = agree_fails FaultKind.BadKind p rows st
  agree_three (a ∷ b ∷ []) p rows st k f h = agree_fails FaultKind.BadKind p rows st
  agree_three (a ∷ b ∷ c ∷ []) p rows st k f h = h a b c
  agree_three (a ∷ b ∷ c ∷ d ∷ vs) p rows st k f h = agree_fails FaultKind.BadKind p rows st

  items_of : (vs : List Val) → items (vals_of vs) ≡ vs
  items_of [] = refl
  items_of (v ∷ vs) = ap (λ us. v ∷ us) (items_of vs)

  agree_op : (a : Answer) (p : Place) (rows : List Row) (st : Vars) → Agree rows (answer a p st gives) (plain.answer a p rows (λ v. Out.got v rows st))
  agree_op a p rows st = agree_answer a p rows st gives (λ v. Out.got v rows st) (λ v. agree_gives v rows st)

  agree_formed : (o : Form) (vs : List Val) (m : ℕ) (p : Place) (rows : List Row) (st : Vars) → Agree rows (formed world o vs m p st) (plain.formed g o (vals_of vs) p rows st)
  agree_formed Form.list vs m p rows st = agree_op (op.limited (list (vals_of vs))) p rows st
  agree_formed Form.dict vs m p rows st = rw (items_of vs) (agree_op (op.dict_from vs no_pairs) p rows st)
  agree_formed Form.spawn vs m p rows st = agree_two vs p rows st _ _ (λ f a. agree_spawned f a p rows st)
  agree_formed Form.spawn_exec vs m p rows st =
      agree_three vs p rows st _ _ (λ x a c. agree_outputs_of p rows st (λ ds s. gives (list (refs_to ds)) s) (λ ds more. Out.got (list (refs_to ds)) more st)
      (λ ds more. agree_gives (list (refs_to ds)) more st) x a c)
  agree_formed Form.exec vs m p rows st =
      agree_three vs p rows st _ _ (λ x a c. agree_outputs_of p rows st (λ ds s. run.exec_ask world m ds s) (λ ds more. plain.exec_ask g ds more st) (λ ds more. agree_exec m ds more st) x a c)
  agree_formed Form.ref vs m p rows st = agree_one vs p rows st _ _ (λ k. agree_input k p rows st)
  agree_formed Form.len vs m p rows st = agree_one vs p rows st _ _ (λ v. agree_op (op.len v) p rows st)
  agree_formed Form.keys vs m p rows st = agree_one vs p rows st _ _ (λ v. agree_op (op.keys v) p rows st)
  agree_formed Form.has vs m p rows st = agree_two vs p rows st _ _ (λ d k. agree_op (op.has d k) p rows st)
  agree_formed Form.range vs m p rows st = agree_two vs p rows st _ _ (λ a b. agree_op (op.range a b) p rows st)

  -- ---- signs

  module _ (d : Row) (p : Place) (rows : List Row) (st : Vars) (en : Entry (List ℕ)) (k : Val → Vars → Res (List ℕ)) (f : Val → Out) (h : (v : Val) → Agree rows (k v st) (f v)) where
    read_back : (a : Answer) → Numbers (held (plain.answer a p rows f)) make → Numbers rows make
    read_back (Ok v) n = (h v).back n
    read_back (Err e) n = n

    object_back : (q : Option Obj) → Numbers (held (plain.on_object g q d p rows f)) make → Numbers rows make
    object_back None n = n
    object_back (Some (Object.bytes b)) n = read_back (g.reads b) n
    object_back (Some (Object.data_of v)) n = (h v).back n
    object_back (Some (Object.fault x)) n = n

    read_same : (a : Answer) → Numbers (held (plain.answer a p rows f)) make → told (walk see rows (on_got k (run.read_end a p) st)) ≡ plain.answer a p rows f
    read_same (Ok v) n = (h v).same n
    read_same (Err e) n = refl

    object_same : (q : Option Obj) → Numbers (held (plain.on_object g q d p rows f)) make
        → told (on_seen (seen_one q d (Seen.all [])) rows (λ os. walk see rows (then_do (Fin (wait_end world (one_of p d) os) st) en (on_got k)))) ≡ plain.on_object g q d p rows f
    object_same None n = refl
    object_same (Some (Object.bytes b)) n = read_same (g.reads b) n
    object_same (Some (Object.data_of v)) n = (h v).same n
    object_same (Some (Object.fault x)) n = refl

    agree_object : Agree rows (then_do (run.ask world (one_of p d) st) en (on_got k)) (plain.on_object g (see d) d p rows f)
    agree_object = record { back = object_back (see d); same = object_same (see d) }

  module _ (m i : ℕ) (ss : List SignAt) (p : Place) (rows : List Row) (st : Vars) (k : Val → Vars → Res (List ℕ)) (f : Val → Out) (h : (v : Val) → Agree rows (k v st) (f v)) where
    agree_deref : (v : Val) → Agree rows (deref world v m i ss p st k) (plain.deref g v p rows f)
    agree_deref null = agree_fails FaultKind.BadKind p rows st
    agree_deref (truth b) = agree_fails FaultKind.BadKind p rows st
    agree_deref (num z) = agree_fails FaultKind.BadKind p rows st
    agree_deref (text t) = agree_fails FaultKind.BadKind p rows st
    agree_deref (list vs) = agree_fails FaultKind.BadKind p rows st
    agree_deref (dict ps) = agree_fails FaultKind.BadKind p rows st
    agree_deref (fun x z) = agree_fails FaultKind.BadKind p rows st
    agree_deref (ref d) = agree_object d p rows st (star_wait m i d ss) k f h

    agree_signed : (o : Sign) (v : Val) → Agree rows (signed world o v m i ss p st k) (plain.signed g o v p rows f)
    agree_signed Sign.not v = agree_answer (op.opposite v) p rows st k f h
    agree_signed Sign.minus v = agree_answer (op.negated v) p rows st k f h
    agree_signed Sign.star v = agree_deref v

  agree_signs : (ss : List SignAt) (m i : ℕ) (v : Val) (rows : List Row) (st : Vars) → Agree rows (signs world ss m i v st) (plain.signs g ss v rows st)
  agree_signs [] m i v rows st = agree_gives v rows st
  agree_signs (o ∷ ss) m i v rows st =
      agree_visit o.place rows st _ _ (λ s. agree_signed m i ss o.place rows s (λ u t. signs world ss m (i + 1) u t) (λ u. plain.signs g ss u rows s) (λ u. agree_signs ss m (i + 1) u rows s) o.sign v)

  -- ---- lists of values

  listed_got : (o : Out) (f : Val → List Row → Vars → Out) (k : Vals → List Row → Vars → Out) → plain.on_got o (λ v more s. on_listed (f v more s) k) ≡ on_listed (plain.on_got o f) k
  listed_got (Out.goes rows st) f k = refl
  listed_got (Out.got v rows st) f k = refl
  listed_got (Out.returned v rows st) f k = refl
  listed_got (Out.listed vs rows st) f k = refl
  listed_got (Out.cut c rows) f k = refl

  vals_more : (vs : List Val) (v : Val) → vals_of (vs ++ v ∷ []) ≡ add_val (vals_of vs) v
  vals_more [] v = refl
  vals_more (u ∷ vs) v = ap (val u) (vals_more vs v)

  -- ---- calls

  module _ (p : Place) (rows : List Row) (st : Vars) (k : List ℕ → Pairs → Res (List ℕ)) (f : List ℕ → Pairs → Out) (h : Val → List Row → Vars → Out)
      (a : (x : List ℕ) (c : Pairs) → Agree rows (k x c) (plain.on_got (f x c) h)) where
    agree_call_if : (b : Bool) (x : List ℕ) (c : Pairs) → Agree rows (run.call_if world b p st (k x c)) (plain.on_got (plain.call_if g b p rows (f x c)) h)
    agree_call_if true x c = a x c
    agree_call_if false x c = agree_fails FaultKind.WrongCount p rows st

    agree_call_fun : (q : Option FunDef) (vs : Vals) (x : List ℕ) (c : Pairs) → Agree rows (run.call_fun world q vs p st (k x c)) (plain.on_got (plain.call_fun g q vs p rows (f x c)) h)
    agree_call_fun None vs x c = agree_fails FaultKind.BadKind p rows st
    agree_call_fun (Some d) vs x c = agree_call_if (nat_eq (length d.params) (count vs)) x c

    agree_called : (v : Val) (vs : Vals) → Agree rows (called world v vs p st k) (plain.on_got (plain.called g v vs p rows f) h)
    agree_called null vs = agree_fails FaultKind.BadKind p rows st
    agree_called (truth b) vs = agree_fails FaultKind.BadKind p rows st
    agree_called (num z) vs = agree_fails FaultKind.BadKind p rows st
    agree_called (text t) vs = agree_fails FaultKind.BadKind p rows st
    agree_called (list us) vs = agree_fails FaultKind.BadKind p rows st
    agree_called (dict ps) vs = agree_fails FaultKind.BadKind p rows st
    agree_called (fun x z) vs = agree_call_fun (find_fun x g.script.funs) vs x z
    agree_called (ref d) vs = agree_fails FaultKind.BadKind p rows st

  -- ---- loops

  module _ (n m : ℕ) (p : Place) (e : Exp) (b : Stms) (test run : Vars → Res (List ℕ)) (tests runs : List Row → Vars → Out) (t : (rows : List Row) (st : Vars) → Agree rows (test st) (tests rows st))
      (r : (rows : List Row) (st : Vars) → Agree rows (run st) (runs rows st)) where
    agree_turns : (f : ℕ) (rows : List Row) (st : Vars) → Agree rows (turns f n m p e b test run st) (plain.turns f p tests runs rows st)
    agree_turns zero rows st = agree_fails FaultKind.TooLong p rows st
    agree_turns (suc f) rows st =
        agree_got _ _ (λ v more s. agree_decide v p more s _ _ _ _ (agree_goes (turns f n m p e b test run) (plain.turns f p tests runs) (agree_turns f) more (run s) (runs more s) _ (r more s))
        (agree_end more s)) rows (test st) (tests rows st) _ (t rows st)

    agree_repeats : (f : ℕ) (rows : List Row) (st : Vars) → Agree rows (repeats f n m p b e run test st) (plain.repeats f p runs tests rows st)
    agree_repeats zero rows st = agree_fails FaultKind.TooLong p rows st
    agree_repeats (suc f) rows st =
        agree_goes _ _ (λ more s. agree_got _ _ (λ v last u. agree_decide v p last u _ _ _ _ (agree_repeats f last u) (agree_end last u)) more (test s) (tests more s) _ (t more s)) rows (run st)
        (runs rows st) _ (r rows st)

  module _ (n m : ℕ) (p : Place) (x : List ℕ) (b : Stms) (run : Vars → Res (List ℕ)) (runs : List Row → Vars → Out) (r : (rows : List Row) (st : Vars) → Agree rows (run st) (runs rows st)) where
    agree_each : (vs : Vals) (t : ℕ) (whole : Vals) (rows : List Row) (st : Vars) → Agree rows (each vs n m t p x whole b run st) (plain.each vs p x runs rows st)
    agree_each no_vals t whole rows st = agree_end rows st
    agree_each (val v vs) t whole rows st =
        agree_visit p rows st _ _ (λ s. agree_goes _ _ (λ more u. agree_each vs (suc t) whole more u) rows (run (set_var x v s)) (runs rows (set_var x v s)) _ (r rows (set_var x v s)))

    agree_each_of : (v : Val) (rows : List Row) (st : Vars) → Agree rows (each_of v n m p x b run st) (plain.each_of v p x runs rows st)
    agree_each_of null rows st = agree_fails FaultKind.BadKind p rows st
    agree_each_of (truth c) rows st = agree_fails FaultKind.BadKind p rows st
    agree_each_of (num z) rows st = agree_fails FaultKind.BadKind p rows st
    agree_each_of (text t) rows st = agree_fails FaultKind.BadKind p rows st
    agree_each_of (list vs) rows st = agree_each vs 0 vs rows st
    agree_each_of (dict ps) rows st = agree_fails FaultKind.BadKind p rows st
    agree_each_of (fun y z) rows st = agree_fails FaultKind.BadKind p rows st
    agree_each_of (ref d) rows st = agree_fails FaultKind.BadKind p rows st

  agree_add : (q : Option Val) (x : List ℕ) (o p : Place) (e : Val) (rows : List Row) (st : Vars) → Agree rows (run.add_to q x o p e st) (plain.add_to q x o p e rows st)
  agree_add None x o p e rows st = agree_fails FaultKind.Unknown o rows st
  agree_add (Some v) x o p e rows st = agree_answer (op.grown v e) p rows st _ _ (λ u. agree_end rows (set_var x u st))

  agree_put : (q : Option Val) (x : List ℕ) (o p : Place) (i e : Val) (rows : List Row) (st : Vars) → Agree rows (run.put_in q x o p i e st) (plain.put_in q x o p i e rows st)
  agree_put None x o p i e rows st = agree_fails FaultKind.Unknown o rows st
  agree_put (Some v) x o p i e rows st = agree_answer (op.set_at v i e) p rows st _ _ (λ u. agree_end rows (set_var x u st))

  -- ---- trees

  parens_told : (s : Stop) (rows : List Row) → got_told gives (told_stop s rows) ≡ told_stop s rows
  parens_told (Stop.ended End.goes st) rows = refl
  parens_told (Stop.ended (End.got v) st) rows = refl
  parens_told (Stop.ended (End.returned v) st) rows = refl
  parens_told (Stop.ended (End.failed f) st) rows = refl
  parens_told (Stop.waits d) rows = refl
  parens_told (Stop.full d) rows = refl

  agree_parens : (rows : List Row) (r : Res (List ℕ)) (o : Out) (en : Entry (List ℕ)) → Agree rows r o → Agree rows (then_do r en (on_got gives)) o
  agree_parens rows r o en a =
      record { back = a.back; same = λ n. told_got gives r en rows ∙ parens_told (walk see rows r).stop (walk see rows r).rows ∙ a.same n }

  module _ (body : List ℕ → Pairs → Vals → Place → Vars → Res (List ℕ)) (bodies : List ℕ → Pairs → Vals → Place → List Row → ℕ → Out)
      (bs : (f : List ℕ) (c : Pairs) (vs : Vals) (p : Place) (rows : List Row) (st : Vars) → Agree rows (body f c vs p st) (bodies f c vs p rows st.count)) where
    mutual
      pub agree_exp : (e : Exp) (n : ℕ) (rows : List Row) (st : Vars) → Agree rows (eval world body e n st) (plain.exp g bodies e rows st)
      agree_exp (Exp.literal v p) n rows st = agree_visit p rows st _ _ (λ s. agree_op (op.limited (lit_val v)) p rows s)
      agree_exp (Exp.name x p) n rows st = agree_visit p rows st _ _ (λ s. agree_op (named (find x s.vars) x g.script.funs) p rows s)
      agree_exp (Exp.func x p) n rows st = agree_visit p rows st _ _ (λ s. agree_op (closed (find_fun x g.script.funs) x s.vars) p rows s)
      agree_exp (Exp.parens e) n rows st = agree_parens rows _ _ _ (agree_exp e (n + 1) rows st)
      agree_exp (Exp.parts o p es) n rows st = agree_parts es n 1 (n + 1) o p [] rows st
      agree_exp (Exp.chain e ls) n rows st =
          agree_got _ _ (λ v more s. agree_links ls n 2 (n + 1 + nodes e) v more s) rows _ _ _ (agree_exp e (n + 1) rows st)
      agree_exp (Exp.logic j e ls) n rows st =
          agree_got _ _ (λ v more s. agree_ands ls n 2 (n + 1 + nodes e) j nowhere v more s) rows _ _ _ (agree_exp e (n + 1) rows st)
      agree_exp (Exp.prefix ss e) n rows st =
          agree_got _ _ (λ v more s. agree_signs (reverse ss) n 2 v more s) rows _ _ _ (agree_exp e (n + 1) rows st)
      agree_exp (Exp.postfix e ss) n rows st =
          agree_got _ _ (λ v more s. agree_steps ss n 2 (n + 1 + nodes e) v more s) rows _ _ _ (agree_exp e (n + 1) rows st)

      agree_parts : (es : Exps) (n k m : ℕ) (o : Form) (p : Place) (vs : List Val) (rows : List Row) (st : Vars)
          → Agree rows (eval_parts world body es n k m o p vs st) (on_listed (plain.values g bodies es (vals_of vs) rows st) (λ us more s. plain.visit p more s (λ t. plain.formed g o us p more t)))
      agree_parts Exps.no_exps n k m o p vs rows st = agree_visit p rows st _ _ (λ s. agree_formed o vs n p rows s)
      agree_parts (Exps.exp e es) n k m o p vs rows st =
          agree_to rows _ _ _ (listed_got (plain.exp g bodies e rows st) (λ v more s. plain.values g bodies es (add_val (vals_of vs) v) more s) _)
          (agree_got _ _ (λ v more s. agree_to more _ _ _ (ap (λ us. on_listed (plain.values g bodies es us more s) (λ us last z. plain.visit p last z (λ t. plain.formed g o us p last t)))
          (vals_more vs v)) (agree_parts es n (k + 1) (m + nodes e) o p (vs ++ v ∷ []) more s)) rows _ _ _ (agree_exp e m rows st))

      agree_links : (ls : Links) (n k m : ℕ) (v : Val) (rows : List Row) (st : Vars) → Agree rows (eval_links world body ls n k m v st) (plain.links g bodies ls v rows st)
      agree_links Links.no_links n k m v rows st = agree_gives v rows st
      agree_links (Links.link o p e ls) n k m v rows st =
          agree_got _ _ (λ x more s. agree_visit p more s _ _ (λ t. agree_answer (oper o v x) p more t _ _ (λ y. agree_links ls n (k + 1) (m + nodes e) y more t))) rows _ _ _ (agree_exp e m rows st)

      agree_ands : (ls : Ands) (n k m : ℕ) (j : Junction) (q : Place) (v : Val) (rows : List Row) (st : Vars)
          → Agree rows (eval_ands world body ls n k m j q v st) (plain.ands g bodies ls j q v rows st)
      agree_ands Ands.no_ands n k m j q v rows st = agree_op (truth_of v) q rows st
      agree_ands (Ands.and p e ls) n k m j q v rows st =
          agree_visit p rows st _ _ (λ s. agree_joins j v p rows s _ _ (agree_got _ _ (λ x more t. agree_ands ls n (k + 1) (m + nodes e) j p x more t) rows _ _ _ (agree_exp e m rows s)))

      agree_steps : (ss : Steps) (n k m : ℕ) (v : Val) (rows : List Row) (st : Vars) → Agree rows (eval_steps world body ss n k m v st) (plain.steps g bodies ss v rows st)
      agree_steps Steps.no_steps n k m v rows st = agree_gives v rows st
      agree_steps (Steps.index e p ss) n k m v rows st =
          agree_got _ _ (λ x more s. agree_visit p more s _ _ (λ t. agree_answer (op.index v x) p more t _ _ (λ y. agree_steps ss n (k + 1) (m + nodes e) y more t))) rows _ _ _ (agree_exp e m rows st)
      agree_steps (Steps.call es p ss) n k m v rows st =
          agree_args es n k m p v [] ss _ (λ y last u. plain.steps g bodies ss y last u)
          (λ l i f c vs more s. agree_body (λ y u. eval_steps world body ss n (l + 1) i y u) s.vars (λ y last u. plain.steps g bodies ss y last u) (λ y last u. agree_steps ss n (l + 1) i y last u)
          more _ _ _ (bs f c vs p more s)) rows st

      agree_args : (es : Exps) (n k m : ℕ) (p : Place) (v : Val) (vs : List Val) (ss : Steps) (go : ℕ → ℕ → List ℕ → Pairs → Vals → Vars → Res (List ℕ)) (h : Val → List Row → Vars → Out)
          → ((l i : ℕ) (f : List ℕ) (c : Pairs) (us : Vals) (more : List Row) (s : Vars) → Agree more (go l i f c us s) (plain.on_got (value_of s.vars (bodies f c us p more s.count)) h))
          → (rows : List Row) (st : Vars) → Agree rows (eval_args world body es n k m p v vs ss go st)
          (on_listed (plain.values g bodies es (vals_of vs) rows st) (λ us more s. plain.visit p more s (λ t. plain.on_got (plain.opened g bodies v us p more t) h)))
      agree_args Exps.no_exps n k m p v vs ss go h a rows st =
          agree_visit p rows st _ _ (λ s. agree_called p rows s _ _ h (λ f c. a k m f c (vals_of vs) rows s) v (vals_of vs))
      agree_args (Exps.exp e es) n k m p v vs ss go h a rows st =
          agree_to rows _ _ _ (listed_got (plain.exp g bodies e rows st) (λ x more s. plain.values g bodies es (add_val (vals_of vs) x) more s) _)
          (agree_got _ _ (λ x more s. agree_to more _ _ _
          (ap (λ us. on_listed (plain.values g bodies es us more s) (λ us last z. plain.visit p last z (λ t. plain.on_got (plain.opened g bodies v us p last t) h))) (vals_more vs x))
          (agree_args es n (k + 1) (m + nodes e) p v (vs ++ x ∷ []) ss go h a more s)) rows _ _ _ (agree_exp e m rows st))

    mutual
      pub agree_stm : (a : Stm) (n : ℕ) (rows : List Row) (st : Vars) → Agree rows (eval_stm world body a n st) (plain.stm g bodies a rows st)
      agree_stm (Stm.set x p e) n rows st =
          agree_visit p rows st _ _ (λ s. agree_got _ _ (λ v more t. agree_end more (set_var x v t)) rows _ _ _ (agree_exp e (n + 1) rows s))
      agree_stm (Stm.add x q p e) n rows st =
          agree_visit p rows st _ _ (λ s. agree_got _ _ (λ v more t. agree_add (find x t.vars) x q p v more t) rows _ _ _ (agree_exp e (n + 1) rows s))
      agree_stm (Stm.put x q p i e) n rows st =
          agree_visit p rows st _ _ (λ s. agree_got _ _ (λ v more t. agree_got _ _ (λ y last u. agree_put (find x u.vars) x q p v y last u) more _ _ _ (agree_exp e (n + 1 + nodes i) more t)) rows _ _
          _ (agree_exp i (n + 1) rows s))
      agree_stm (Stm.return p e) n rows st =
          agree_visit p rows st _ _ (λ s. agree_got _ _ (λ v more t. agree_returned v more t) rows _ _ _ (agree_exp e (n + 1) rows s))
      agree_stm (Stm.leave p) n rows st = agree_visit p rows st _ _ (λ s. agree_returned null rows s)
      agree_stm (Stm.cases p all els) n rows st =
          agree_visit p rows st _ _ (λ s. agree_arms all n 1 (n + 1) (n + 1 + arms_nodes all) els _ _ (λ more t. agree_other els (n + 1 + arms_nodes all) more t) rows s)
      agree_stm (Stm.while p e b) n rows st =
          agree_visit p rows st _ _ (λ s. agree_turns n (n + 1 + nodes e) p e b (eval world body e (n + 1)) (eval_stms world body b (n + 1 + nodes e) 0 (n + 1 + nodes e + 1)) (plain.exp g bodies e)
          (plain.stms g bodies b) (agree_exp e (n + 1)) (agree_stms b (n + 1 + nodes e) 0 (n + 1 + nodes e + 1)) (suc visits) rows s)
      agree_stm (Stm.repeat p b e) n rows st =
          agree_visit p rows st _ _ (λ s. agree_repeats n (n + 1 + block_nodes b) p e b (eval world body e (n + 1 + block_nodes b)) (eval_stms world body b (n + 1) 0 (n + 1 + 1))
          (plain.exp g bodies e) (plain.stms g bodies b) (agree_exp e (n + 1 + block_nodes b)) (agree_stms b (n + 1) 0 (n + 1 + 1)) (suc visits) rows s)
      agree_stm (Stm.for p x e b) n rows st =
          agree_visit p rows st _ _ (λ s. agree_got _ _ (λ v more t. agree_each_of n (n + 1 + nodes e) p x b (eval_stms world body b (n + 1 + nodes e) 0 (n + 1 + nodes e + 1)) (plain.stms g bodies b)
          (agree_stms b (n + 1 + nodes e) 0 (n + 1 + nodes e + 1)) v more t) rows _ _ _ (agree_exp e (n + 1) rows s))
      agree_stm (Stm.just p e) n rows st =
          agree_visit p rows st _ _ (λ s. agree_got _ _ (λ v more t. agree_end more t) rows _ _ _ (agree_exp e (n + 1) rows s))

      pub agree_stms : (b : Stms) (n k m : ℕ) (rows : List Row) (st : Vars) → Agree rows (eval_stms world body b n k m st) (plain.stms g bodies b rows st)
      agree_stms Stms.no_stms n k m rows st = agree_end rows st
      agree_stms (Stms.stm a more) n k m rows st =
          agree_goes _ _ (λ last s. agree_stms more n (k + 1) (m + stm_nodes a) last s) rows _ _ _ (agree_stm a m rows st)

      agree_arms : (all : Arms) (n k m i : ℕ) (els : Else) (go : Vars → Res (List ℕ)) (h : List Row → Vars → Out) → ((more : List Row) (t : Vars) → Agree more (go t) (h more t))
          → (rows : List Row) (st : Vars) → Agree rows (eval_arms world body all n k m i els go st) (plain.arms g bodies all h rows st)
      agree_arms Arms.no_arms n k m i els go h a rows st = a rows st
      agree_arms (Arms.arm p e b all) n k m i els go h a rows st =
          agree_got _ _ (λ v more s. agree_decide v p more s _ _ _ _ (agree_stms b (m + nodes e) 0 (m + nodes e + 1) more s)
          (agree_arms all n (k + 1) (m + nodes e + block_nodes b) i els go h a more s)) rows _ _ _ (agree_exp e m rows st)

      agree_other : (els : Else) (n : ℕ) (rows : List Row) (st : Vars) → Agree rows (eval_else world body els n st) (plain.other g bodies els rows st)
      agree_other Else.no_else n rows st = agree_end rows st
      agree_other (Else.otherwise b) n rows st = agree_stms b n 0 (n + 1) rows st

  agree_in : (d : ℕ) → ((f : List ℕ) (c : Pairs) (vs : Vals) (p : Place) (rows : List Row) (st : Vars) → Agree rows (body_at world d f c vs p st) (plain.body_at g d f c vs p rows st.count))
      → (q : Option Body) (c : Pairs) (vs : Vals) (p : Place) (rows : List Row) (st : Vars)
      → Agree rows (in_body world q c vs p st (λ b n s. run.eval_block world (body_at world d) b n s)) (plain.in_body g q c vs p rows st.count (plain.stms g (plain.body_at g d)))
  agree_in d h None c vs p rows st = agree_fails FaultKind.BadKind p rows st
  agree_in d h (Some b) c vs p rows st =
      agree_stms (body_at world d) (plain.body_at g d) h b.block b.node 0 (b.node + 1) rows (with_vars (bind b.params vs c) st)

  -- a body, where so many may still be opened
  pub agree_call : (d : ℕ) (f : List ℕ) (c : Pairs) (vs : Vals) (p : Place) (rows : List Row) (st : Vars) → Agree rows (body_at world d f c vs p st) (plain.body_at g d f c vs p rows st.count)
  agree_call zero f c vs p rows st = agree_fails FaultKind.TooDeep p rows st
  agree_call (suc d) f c vs p rows st = agree_in d (agree_call d) (body_of f g.script) c vs p rows st

world_is : (g : Ground) (w : World (List ℕ)) → w.script ≡ g.script → w.reads ≡ g.reads → w ≡ world g w.make
world_is g w s r = λ i. record { make = w.make; reads = r i; script = s i }

-- In each world of this script and this reading that gives the descriptions held at the end their numbers, the walk of
-- a body comes to what the body does.
pub plain_walk : (g : Ground) (w : World (List ℕ)) → w.script ≡ g.script → w.reads ≡ g.reads → (d : ℕ) (f : List ℕ) (c : Pairs) (vs : Vals) (p : Place) (rows : List Row) (st : Vars)
    → Numbers (held (plain.body_at g d f c vs p rows st.count)) w.make → told (walk (known_of g.objects) rows (body_at w d f c vs p st)) ≡ plain.body_at g d f c vs p rows st.count
plain_walk g w s r d f c vs p rows st n =
    ap (λ x. told (walk (known_of g.objects) rows (body_at x d f c vs p st))) (world_is g w s r) ∙ (agree_call g w.make d f c vs p rows st).same n

-- ---- a walk only adds descriptions

abbrev pub Begins : List Row → List Row → Type 0
Begins xs ys = (zs : List Row) × (ys ≡ xs ++ zs)

begins_same : (rows : List Row) → Begins rows rows
begins_same rows = ([], sym (append-nil rows))

begins_step : (d : Row) (rows : List Row) → Begins rows (rows ++ d ∷ [])
begins_step d rows = (d ∷ [], refl)

begins_on : (xs ys zs : List Row) → Begins xs ys → Begins ys zs → Begins xs zs
begins_on xs ys zs a b = (a.0 ++ b.0, b.1 ∙ ap (λ us. us ++ b.0) a.1 ∙ append_assoc xs a.0 b.0)

room_begins : (b : Bool) (rows more : List Row) (d : Row) → in_room b rows d ≡ Some more → Begins rows more
room_begins true rows more d e = let f : rows ++ d ∷ [] ≡ more = cc in subst (λ r. Begins rows r) f (begins_step d rows)
room_begins false rows more d e = absurd cc

new_begins : (b : Bool) (rows more : List Row) (d : Row) → if_new b rows d ≡ Some more → Begins rows more
new_begins true rows more d e = let f : rows ≡ more = cc in subst (λ r. Begins rows r) f (begins_same rows)
new_begins false rows more d e = room_begins _ rows more d e

learned_begins : (q : Option (List Row)) (rows : List Row) (d : Row) (f : List Row → Walked) → ((more : List Row) → q ≡ Some more → Begins rows more) → ((more : List Row) → Begins more (f more).rows)
    → Begins rows (on_learned q rows d f).rows
learned_begins None rows d f a b = begins_same rows
learned_begins (Some more) rows d f a b = begins_on rows more (f more).rows (a more refl) (b more)

seen_begins : (q : Seen) (rows : List Row) (f : List Obj → Walked) → ((os : List Obj) → Begins rows (f os).rows) → Begins rows (on_seen q rows f).rows
seen_begins (Seen.lacks d) rows f a = begins_same rows
seen_begins (Seen.all os) rows f a = a os

pub walk_begins : (see : Row → Option Obj) (r : Res (List ℕ)) (rows : List Row) → Begins rows (walk see rows r).rows
walk_begins see (Fin e st) rows = begins_same rows
walk_begins see (Tell d r) rows =
    learned_begins (learn_to rows d) rows d (λ more. walk see more r) (λ more e. new_begins (is_held d rows) rows more d e) (λ more. walk_begins see r more)
walk_begins see (Ask q fr st k) rows = seen_begins (look see (refs_of q)) rows (λ os. walk see rows (k os)) (λ os. walk_begins see (k os) rows)

-- ---- how a walk stopped, from what is told of it

abbrev pub Ends : Out → Walked → Type 0
Ends (Out.goes rows st) w = w ≡ stops rows (Stop.ended End.goes st)
Ends (Out.got v rows st) w = w ≡ stops rows (Stop.ended (End.got v) st)
Ends (Out.returned v rows st) w = w ≡ stops rows (Stop.ended (End.returned v) st)
Ends (Out.listed vs rows st) w = ⊥
Ends (Out.cut (Cutoff.fault f) rows) w = (st : Vars) × (w ≡ stops rows (Stop.ended (End.failed f) st))
Ends (Out.cut (Cutoff.waits d) rows) w = w ≡ stops rows (Stop.waits d)
Ends (Out.cut Cutoff.full rows) w = (d : Row) × (w ≡ stops rows (Stop.full d))

stop_is : (s : Stop) (rows : List Row) → Ends (told_stop s rows) (stops rows s)
stop_is (Stop.ended End.goes st) rows = refl
stop_is (Stop.ended (End.got v) st) rows = refl
stop_is (Stop.ended (End.returned v) st) rows = refl
stop_is (Stop.ended (End.failed f) st) rows = (st, refl)
stop_is (Stop.waits d) rows = refl
stop_is (Stop.full d) rows = (d, refl)

-- the walk of a body stops as what the body does
pub plain_ends : (g : Ground) (w : World (List ℕ)) → w.script ≡ g.script → w.reads ≡ g.reads → (d : ℕ) (f : List ℕ) (c : Pairs) (vs : Vals) (p : Place) (rows : List Row) (st : Vars)
    → Numbers (held (plain.body_at g d f c vs p rows st.count)) w.make → Ends (plain.body_at g d f c vs p rows st.count) (walk (known_of g.objects) rows (body_at w d f c vs p st))
plain_ends g w s r d f c vs p rows st n =
    let x = walk (known_of g.objects) rows (body_at w d f c vs p st) in
    subst (λ o. Ends o x) (plain_walk g w s r d f c vs p rows st n) (stop_is x.stop x.rows)
