-- What a sequential run learns is what the meaning sees.
use Rattle.std.proofs.Common.{◌≡◌, ◌≤◌, ◌<◌, ℕ, suc, ◌+◌, List, ◌++◌, length, Option, Some, None, slice_get, ◌⊎◌, inl, inr, refl, sym, ap, subst, ◌∙◌}
use Rattle.std.proofs.Common.{arith}
use Rattle.std.proofs.lemmas.List.{append_assoc, length-append}
use Rattle.sky_base.specs.Val.{Vals, Pairs, call, out, input, known}
use Rattle.sky_base.specs.Name.{low_vals, low_pairs, low_desc}
use Rattle.sky_base.specs.Op.{Answer}
use Rattle.sky_base.specs.Tree.{nowhere}
use Rattle.sky_base.specs.Res.{bodies, Object, End, St}
use Rattle.sky_base.specs.Eval.{body_at}
use Rattle.sky_base.specs.Read.{ended, outcome}
use Rattle.sky_base_law.specs.Lower.{lower, low_ref, low_obj, low_end}
use Rattle.sky_base.specs.See.{Desc, Job, Around, see, run_of, object_of, world_of, start_st}
use Rattle.sky_base_law.proofs.LowLaw.{Rel, rel_call}
use Rattle.sky_base_law.proofs.SeenLaw.{see_kept}
use Rattle.sky_base_known.specs.Walk.{Row, Stop, stops, walk, known_of, object_at, Numbers, most_rows}
use Rattle.sky_base_known.specs.Number.{index_of, tag_of, numbered, Grown}
use Rattle.sky_base_known.proofs.Learn.{most_is}
use Rattle.sky_plain.specs.Stand.{spell, Puts, KnownAt, Knows}
use Rattle.sky_base_waves.specs.Seen.{Sees}
use Rattle.sky_plain_body.specs.Stops.{end_object, Runs, EndsAs}
use Rattle.sky_base_exec.proofs.Withs.{nat_same}
use Rattle.sky_plain.proofs.Full.{FullAt, walk_full}
use Rattle.sky_plain.proofs.Sim.{Sim, StopIs, sim}
use Rattle.sky_base_known.proofs.Numbers.{index_found, got_below, got_front, numbers_hold, numbers_front, number_slot}

-- a description's number is that of its place, or past the end
abbrev Later : List Row → List Row → ℕ → Type 0
Later rows later k = k < length rows → k < length later

later_length : (rows later : List Row) → Grown rows later → length rows ≤ length later
later_length rows later g =
    let h : length later ≡ length rows + length g.more = ap length g.begins ∙ length-append rows g.more in
    omega (arith, h)

pub index_most : (d : Row) (later : List Row) → length later ≤ most_rows → index_of d later < 4294967296
index_most d later room = go (index_found d later)
  where
    small : length later ≤ 65536
    small = subst (λ m. length later ≤ m) most_is room

    go : (slice_get later (index_of d later) ≡ Some d) ⊎ (index_of d later ≡ length later) → index_of d later < 4294967296
    go (inl h) = let l : index_of d later < length later = got_below later (index_of d later) d h in omega (arith, l, small)
    go (inr h) = omega (arith, h, small)

-- the description of a number that is held
pub held_at : (rows later : List Row) (d : Row) (k : ℕ) → Grown rows later → index_of d later ≡ k → k < length rows → slice_get rows k ≡ Some d
held_at rows later d k g i h = go (index_found d later)
  where
    front : slice_get later k ≡ Some d → slice_get rows k ≡ Some d
    front e = got_front rows g.more k d h (subst (λ x. slice_get x k ≡ Some d) g.begins e)

    go : (slice_get later (index_of d later) ≡ Some d) ⊎ (index_of d later ≡ length later) → slice_get rows k ≡ Some d
    go (inl e) = front (subst (λ x. slice_get later x ≡ Some d) i e)
    go (inr e) =
        let l : length rows ≤ length later = later_length rows later g in
        absurd (omega (arith, e, i, h, l))

pub grown_back : (rows more after later : List Row) → after ≡ rows ++ more → Grown after later → Grown rows later
grown_back rows more after later e g =
    record {
      more = more ++ g.more;
      begins = g.begins ∙ ap (λ x. x ++ g.more) e ∙ append_assoc rows more g.more;
      apart = g.apart;
      room = g.room;
    }

pub name_tag : (tag : Row → List ℕ) (d : Desc) → low_ref spell tag d ≡ known (tag (low_desc spell tag d))
name_tag tag (call f c vs) = refl
name_tag tag (out x v n i) = refl
name_tag tag (input k) = refl
name_tag tag (known b) = absurd b

-- what is known of a described reference is the object under its number
pub object_is : (objects : List (Option (Object (List ℕ)))) (later : List Row) (d : Desc) → length later ≤ most_rows
    → known_of objects (low_ref spell (tag_of later) d) ≡ object_at objects (index_of (low_desc spell (tag_of later) d) later)
object_is objects later d room =
    ap (known_of objects) (name_tag (tag_of later) d)
    ∙ ap (object_at objects) (number_slot (index_of (low_desc spell (tag_of later) d) later)
    (index_most (low_desc spell (tag_of later) d) later room))

pub from_call : (d : Desc) (tag : Row → List ℕ) (f : List ℕ) (ca : Pairs (List ℕ)) (us : Vals (List ℕ)) → low_desc spell tag d ≡ call f ca us
    → (cs : Pairs ⊥) × (vs : Vals ⊥) × (d ≡ call f cs vs) × (low_pairs spell tag cs ≡ ca) × (low_vals spell tag vs ≡ us)
from_call (call g cs vs) tag f ca us e = (
  cs,
  vs,
  ap (λ x. call x cs vs) (fun_is g f (low_pairs spell tag cs) ca (low_vals spell tag vs) us e),
  caught_are g f (low_pairs spell tag cs) ca (low_vals spell tag vs) us e,
  args_are g f (low_pairs spell tag cs) ca (low_vals spell tag vs) us e,
)
  where
    fun_is : (g f : List ℕ) (p q : Pairs (List ℕ)) (a b : Vals (List ℕ)) → call g p a ≡ call f q b → g ≡ f
    fun_is g f p q a b e = cc

    caught_are : (g f : List ℕ) (p q : Pairs (List ℕ)) (a b : Vals (List ℕ)) → call g p a ≡ call f q b → p ≡ q
    caught_are g f p q a b e = cc

    args_are : (g f : List ℕ) (p q : Pairs (List ℕ)) (a b : Vals (List ℕ)) → call g p a ≡ call f q b → a ≡ b
    args_are g f p q a b e = cc
from_call (out x v n i) tag f ca us e = absurd cc
from_call (input k) tag f ca us e = absurd cc
from_call (known b) tag f ca us e = absurd b

end_low : (tag : Row → List ℕ) (x : End ⊥) → low_obj spell tag (end_object x) ≡ end_object (low_end spell tag x)
end_low tag End.goes = refl
end_low tag (End.got v) = refl
end_low tag (End.returned v) = refl
end_low tag (End.failed f) = refl

end_seen : (x : End ⊥) (y : St ⊥) → object_of (ended x y) ≡ Some (end_object x)
end_seen End.goes y = refl
end_seen (End.got v) y = refl
end_seen (End.returned v) y = refl
end_seen (End.failed f) y = refl

module _ (job : Job) (around : Around) (reads : List ℕ → Answer (List ℕ))
    (alike : (tag : Row → List ℕ) (b : List ℕ) → reads b ≡ lower {N = ⊥} spell tag (around.reads b)) where
  task_rel : (rows : List Row) (f : List ℕ) (cs : Pairs ⊥) (vs : Vals ⊥)
      → Rel spell (tag_of rows) (run_of job around f cs vs)
      (body_at (numbered rows reads job.script) bodies f (low_pairs spell (tag_of rows) cs) (low_vals spell (tag_of rows) vs) nowhere start_st)
  task_rel rows f cs vs =
      rel_call spell (tag_of rows) (world_of job.script around) (λ d. known (tag_of rows d)) reads (λ d. sym (name_tag (tag_of rows) d))
      (alike (tag_of rows)) bodies f cs vs nowhere start_st

  -- a run over numbers shows the run of each description that stands for it
  pub ran : (rows after later : List Row) (objects : List (Option (Object (List ℕ)))) (n : ℕ) (f : List ℕ) (cs : Pairs ⊥) (vs : Vals ⊥)
      (S : Stop → Type 0) → Grown after later → KnownAt job around later objects n
      → Runs job.script reads objects rows f (low_pairs spell (tag_of later) cs) (low_vals spell (tag_of later) vs) after S → (s : Stop)
      × Sim job around (tag_of later) n (run_of job around f cs vs) rows (stops after s) × FullAt (stops after s) × S s
  ran rows after later objects n f cs vs S g kn run = go (run (numbered later reads job.script) refl refl numbers)
    where
      numbers : Numbers after (λ d. known (tag_of later d))
      numbers =
          numbers_front after g.more (λ d. known (tag_of later d))
          (subst (λ x. Numbers x (λ d. known (tag_of later d))) g.begins (numbers_hold later g.apart))

      go : (s : Stop) × (walk (known_of objects) rows
          (body_at (numbered later reads job.script) bodies f (low_pairs spell (tag_of later) cs) (low_vals spell (tag_of later) vs) nowhere
          start_st) ≡ stops after s) × S s → (s : Stop) × Sim job around (tag_of later) n (run_of job around f cs vs) rows (stops after s)
          × FullAt (stops after s) × S s
      go (s, e, is) = (
        s,
        subst (Sim job around (tag_of later) n (run_of job around f cs vs) rows) e
            (sim job around (tag_of later) n (known_of objects) kn (run_of job around f cs vs)
            (body_at (numbered later reads job.script) bodies f (low_pairs spell (tag_of later) cs) (low_vals spell (tag_of later) vs) nowhere
            start_st) rows (task_rel later f cs vs)),
        subst FullAt e (walk_full (known_of objects)
            (body_at (numbered later reads job.script) bodies f (low_pairs spell (tag_of later) cs) (low_vals spell (tag_of later) vs) nowhere
            start_st) rows),
        is,
      )

  sees_more : (tag : Row → List ℕ) (n : ℕ) (d : Desc) (o : Object (List ℕ)) → Sees job around tag n d o → Sees job around tag (suc n) d o
  sees_more tag n d o (p, e, l) = (p, go (see_kept job around n d), l)
    where
      go : (see job around n d ≡ None) ⊎ (see job around n d ≡ see job around (suc n) d) → see job around (suc n) d ≡ Some p
      go (inl h) = absurd cc
      go (inr h) = sym h ∙ e

  sees_call : (tag : Row → List ℕ) (n : ℕ) (d : Desc) (f : List ℕ) (cs : Pairs ⊥) (vs : Vals ⊥) (x : End ⊥) (y : St ⊥) → d ≡ call f cs vs
      → outcome (see job around n) (run_of job around f cs vs) ≡ ended x y → see job around (suc n) d ≡ Some (end_object x)
  unfolding see
  sees_call tag n d f cs vs x y e o = ap (see job around (suc n)) e ∙ (ap object_of o ∙ end_seen x y)

  -- ---- one more object is known

  -- what is seen of each description that a row stands for, once all that is known is seen at n
  abbrev pub SeenNext : List Row → List (Option (Object (List ℕ))) → Row → Object (List ℕ) → Type 0
  SeenNext later objects r o = (n : ℕ) → KnownAt job around later objects n → (d : Desc) → low_desc spell (tag_of later) d ≡ r
      → Sees job around (tag_of later) (suc n) d o

  -- this object under number k is what is seen of its description
  abbrev pub SeenAt : List Row → List (Option (Object (List ℕ))) → ℕ → Object (List ℕ) → Type 0
  SeenAt rows objects k u = (r : Row) × (slice_get rows k ≡ Some r) × ((later : List Row) → Grown rows later → SeenNext later objects r u)

  -- whatever is known besides is what is seen
  pub learns : (rows more after : List Row) (objects objects' : List (Option (Object (List ℕ)))) → Knows job around rows objects → after ≡ rows
      ++ more → ((k : ℕ) (u : Object (List ℕ)) → object_at objects' k ≡ Some u → (object_at objects k ≡ Some u) ⊎ SeenAt after objects k u)
      → Knows job around after objects'
  learns rows more after objects objects' knows begins from later g = go (knows later (grown_back rows more after later begins g))
    where
      tag : Row → List ℕ
      tag = tag_of later

      each : (n : ℕ) → KnownAt job around later objects n → (d : Desc) (u : Object (List ℕ)) → known_of objects' (low_ref spell tag d) ≡ Some u
          → Sees job around tag (suc n) d u
      each n kn d u h = of_from (from i u (sym (object_is objects' later d g.room) ∙ h))
        where
          i : ℕ
          i = index_of (low_desc spell tag d) later

          some_is : {A : Type 0} (a b : A) → Some a ≡ Some b → a ≡ b
          some_is a b q = cc

          of_from : (object_at objects i ≡ Some u) ⊎ SeenAt after objects i u → Sees job around tag (suc n) d u
          of_from (inl e) = sees_more tag n d u (kn d u (object_is objects later d g.room ∙ e))
          of_from (inr (r, at, seen)) =
              seen later g n kn d (some_is (low_desc spell tag d) r
              (sym (held_at after later (low_desc spell tag d) i g refl (got_below after i r at)) ∙ at))

      go : (n : ℕ) × KnownAt job around later objects n → (n : ℕ) × KnownAt job around later objects' n
      go (n, kn) = (suc n, each n kn)

  pub learns_one : (rows more after : List Row) (objects objects' : List (Option (Object (List ℕ)))) (k : ℕ) (r : Row) (o : Object (List ℕ))
      → Knows job around rows objects → after ≡ rows ++ more → slice_get after k ≡ Some r
      → ((later : List Row) → Grown after later → SeenNext later objects r o) → Puts objects k o objects' → Knows job around after objects'
  learns_one rows more after objects objects' k r o knows begins at seen puts = learns rows more after objects objects' knows begins from
    where
      some_is : (a b : Object (List ℕ)) → Some a ≡ Some b → a ≡ b
      some_is a b q = cc

      from : (j : ℕ) (u : Object (List ℕ)) → object_at objects' j ≡ Some u → (object_at objects j ≡ Some u) ⊎ SeenAt after objects j u
      from j u e = test (nat_same j k)
        where
          test : (j ≡ k) ⊎ (j ≡ k → ⊥) → (object_at objects j ≡ Some u) ⊎ SeenAt after objects j u
          test (inl q) =
              inr (
                r,
                ap (slice_get after) q ∙ at,
                subst (λ z. (later : List Row) → Grown after later → SeenNext later objects r z)
                    (some_is o u (sym puts.here ∙ ap (object_at objects') (sym q) ∙ e)) seen,
              )
          test (inr n) = inl (sym (puts.there j n) ∙ e)

  -- the end of a call's run is what is seen of it
  pub learns_call : (rows more after : List Row) (objects objects' : List (Option (Object (List ℕ)))) (k : ℕ) (f : List ℕ) (ca : Pairs (List ℕ))
      (us : Vals (List ℕ)) (o : Object (List ℕ)) → Knows job around rows objects → after ≡ rows ++ more → slice_get after k ≡ Some (call f ca us)
      → Runs job.script reads objects rows f ca us after (EndsAs o) → Puts objects k o objects' → Knows job around after objects'
  learns_call rows more after objects objects' k f ca us o knows begins at run puts =
      learns_one rows more after objects objects' k (call f ca us) o knows begins at seen puts
    where
      seen : (later : List Row) → Grown after later → SeenNext later objects (call f ca us) o
      seen later g n kn d row = of_call (from_call d (tag_of later) f ca us row)
        where
          of_end : (cs : Pairs ⊥) (vs : Vals ⊥) (s : Stop) → d ≡ call f cs vs → StopIs job around (tag_of later) n (run_of job around f cs vs) s
              → EndsAs o s → Sees job around (tag_of later) (suc n) d o
          of_end cs vs (Stop.ended e st) is (x, y, out_is, end_is, st_is) q =
              (end_object x, sees_call (tag_of later) n d f cs vs x y is out_is, end_low (tag_of later) x ∙ ap end_object end_is ∙ q)
          of_end cs vs (Stop.waits e) is h q = absurd q
          of_end cs vs (Stop.full e) is h q = absurd q

          of_call : (cs : Pairs ⊥) × (vs : Vals ⊥) × (d ≡ call f cs vs) × (low_pairs spell (tag_of later) cs ≡ ca)
              × (low_vals spell (tag_of later) vs ≡ us) → Sees job around (tag_of later) (suc n) d o
          of_call (cs, vs, is, caught, low) = of_run
              (ran rows after later objects n f cs vs (EndsAs o) g kn
              (subst (λ us. Runs job.script reads objects rows f (low_pairs spell (tag_of later) cs) us after (EndsAs o)) (sym low)
              (subst (λ ca. Runs job.script reads objects rows f ca us after (EndsAs o)) (sym caught) run)))
            where
              of_run : (s : Stop) × Sim job around (tag_of later) n (run_of job around f cs vs) rows (stops after s) × FullAt (stops after s)
                  × EndsAs o s → Sees job around (tag_of later) (suc n) d o
              of_run (s, sim, full, q) = of_end cs vs s is sim.stop_is q
