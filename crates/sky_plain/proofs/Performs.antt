-- What an executor task comes to over numbers is what is seen of its outputs.
use Rattle.std.proofs.Common.{◌≡◌, ◌<◌, ℕ, suc, List, [], ◌∷◌, length, Option, Some, slice_get, ◌⊎◌, inl, inr, refl, sym, ap, subst, ◌∙◌}
use Rattle.std.proofs.lemmas.List.{append-nil}
use Rattle.sky_base.specs.Val as v
use Rattle.sky_base.specs.Val.{call, out, input, known, refs}
use Rattle.sky_base.specs.Name.{low, low_desc}
use Rattle.sky_base.specs.Res.{Object}
use Rattle.sky_base.specs.Op.{Answer}
use Rattle.sky_base_law.specs.Lower.{lower, low_ref}
use Rattle.sky_base.specs.See as m
use Rattle.sky_base.specs.See.{Val, Desc, Job, Around, input_bytes, see}
use Rattle.sky_base.specs.Needed.{Task, task_of, distinct_refs}
use Rattle.sky_base_law.specs.Tasks.{In}
use Rattle.sky_base_law.proofs.RefsLow.{refs_low}
use Rattle.sky_base_law.proofs.TaskOutputs.{in_distinct_refs}
use Rattle.sky_base_known.specs.Walk.{Row, known_of, number_of, object_at}
use Rattle.sky_base_known.specs.Number.{tag_of, Grown}
use Rattle.sky_plain.specs.Stand.{spell, Knows, Puts, Opened, Opens}
use Rattle.sky_base_waves.specs.Seen.{Sees, SeenAsKnown}
use Rattle.sky_base_exec.proofs.Lowered.{sees_out}
use Rattle.sky_plain.specs.Stage.{AllKnown}
use Rattle.sky_base_exec.specs.Perform.{output_of, made}
use Rattle.sky_base_exec.specs.Outputs.{OnlyOutputs}
use Rattle.sky_plain.proofs.Knows.{SeenNext, SeenAt, learns, learns_one}
use Rattle.sky_plain.proofs.Chains.{held_ref, opened_at}
use Rattle.sky_base_known.proofs.Numbers.{got_more}
use Rattle.sky_plain.proofs.Stages.{in_map, map_in}

-- ---- rows of executor tasks and of inputs

from_out : (d : Desc) (tag : Row → List ℕ) (x : List ℕ) (us : v.Val (List ℕ)) (c i : ℕ) → low_desc spell tag d ≡ out x us c i → (a : Val)
    × (d ≡ out x a c i) × (low spell tag a ≡ us)
from_out (call f z vs) tag x us c i e = absurd cc
from_out (out y a b j) tag x us c i e = (
  a,
  (λ t. out (name_is y x (low spell tag a) us b c j i e t) a (many_is y x (low spell tag a) us b c j i e t)
      (at_is y x (low spell tag a) us b c j i e t)),
  args_is y x (low spell tag a) us b c j i e,
)
  where
    name_is : (y x : List ℕ) (u w : v.Val (List ℕ)) (b c j i : ℕ) → out y u b j ≡ out x w c i → y ≡ x
    name_is y x u w b c j i e = cc

    args_is : (y x : List ℕ) (u w : v.Val (List ℕ)) (b c j i : ℕ) → out y u b j ≡ out x w c i → u ≡ w
    args_is y x u w b c j i e = cc

    many_is : (y x : List ℕ) (u w : v.Val (List ℕ)) (b c j i : ℕ) → out y u b j ≡ out x w c i → b ≡ c
    many_is y x u w b c j i e = cc

    at_is : (y x : List ℕ) (u w : v.Val (List ℕ)) (b c j i : ℕ) → out y u b j ≡ out x w c i → j ≡ i
    at_is y x u w b c j i e = cc
from_out (input k) tag x us c i e = absurd cc
from_out (known b) tag x us c i e = absurd b

from_input : (d : Desc) (tag : Row → List ℕ) (key : List ℕ) → low_desc spell tag d ≡ input key → d ≡ input key
from_input (call f z vs) tag key e = absurd cc
from_input (out x a c i) tag key e = absurd cc
from_input (input k) tag key e = ap input (key_is k key e)
  where
    key_is : (k l : List ℕ) → ◌≡◌ {A = Row} (input k) (input l) → k ≡ l
    key_is k l e = cc
from_input (known b) tag key e = absurd b

module _ (job : Job) (around : Around) (reads : List ℕ → Answer (List ℕ))
    (alike : (tag : Row → List ℕ) (b : List ℕ) → reads b ≡ lower {N = ⊥} spell tag (around.reads b)) (writes : v.Val (List ℕ) → Option (List ℕ))
    (writes_alike : (tag : Row → List ℕ) (a : Val) → writes (low spell tag a) ≡ around.writes a) (rows : List Row)
    (objects : List (Option (Object (List ℕ)))) (knows : Knows job around rows objects) where
  -- outputs of an executor task whose inputs are known
  pub learns_outputs : (objects' : List (Option (Object (List ℕ)))) (x : List ℕ) (us : v.Val (List ℕ)) (c l : ℕ) → AllKnown objects (refs us)
      → OnlyOutputs rows x us c (made around.runs writes (known_of objects) x us c) l objects objects' → Knows job around rows objects'
  learns_outputs objects' x us c l all only = learns job around reads alike rows [] rows objects objects' knows (sym (append-nil rows)) from
    where
      output : ℕ → Object (List ℕ)
      output i = output_of (made around.runs writes (known_of objects) x us c) i

      seen : (i : ℕ) (later : List Row) → Grown rows later → SeenNext job around reads alike later objects (out x us c i) (output i)
      seen i later g n kn d row = of_out (from_out d (tag_of later) x us c i row)
        where
          tag : Row → List ℕ
          tag = tag_of later

          of_out : (a : Val) × (d ≡ out x a c i) × (low spell tag a ≡ us) → Sees job around tag (suc n) d (output i)
          of_out (a, is, l) =
              subst (λ z. Sees job around tag (suc n) z (output i)) (sym is)
              (subst (λ z. Sees job around tag (suc n) (out x a c i) (output_of (made around.runs writes (known_of objects) x z c) i)) l
              (sees_out job around writes tag (writes_alike tag) n (known_of objects) x a c i settled))
            where
              settled : SeenAsKnown job around tag n (known_of objects) (refs a)
              settled e h = of_known (all (low_ref spell tag e)
                  (subst (In (low_ref spell tag e)) (sym (refs_low spell tag a) ∙ ap refs l) (map_in (low_ref spell tag) e (refs a) h)))
                where
                  of_known : (o : Object (List ℕ)) × (known_of objects (low_ref spell tag e) ≡ Some o) → (o : Object (List ℕ))
                      × (known_of objects (low_ref spell tag e) ≡ Some o) × Sees job around tag n e o
                  of_known (o, q) = (o, q, kn e o q)

      from : (k : ℕ) (u : Object (List ℕ)) → object_at objects' k ≡ Some u → (object_at objects k ≡ Some u)
          ⊎ SeenAt job around reads alike rows objects k u
      from k u e = go (only k u e)
        where
          go : (object_at objects k ≡ Some u) ⊎ ((i : ℕ) × (i < l) × (slice_get rows k ≡ Some (out x us c i)) × (u ≡ output i))
              → (object_at objects k ≡ Some u) ⊎ SeenAt job around reads alike rows objects k u
          go (inl h) = inl h
          go (inr (i, h, at, is)) =
              inr (
                out x us c i,
                at,
                subst (λ z. (later : List Row) → Grown rows later
                    → SeenNext job around reads alike later objects (out x us c i) z) (sym is) (seen i),
              )

  sees_input : (tag : Row → List ℕ) (n : ℕ) (key : List ℕ) → Sees job around tag (suc n) (input key) (Object.bytes (input_bytes key job.inputs))
  unfolding see
  sees_input tag n key = (Object.bytes (input_bytes key job.inputs), refl, refl)

  -- an input
  pub learns_input : (objects' : List (Option (Object (List ℕ)))) (k : ℕ) (key : List ℕ) → slice_get rows k ≡ Some (input key)
      → Puts objects k (Object.bytes (input_bytes key job.inputs)) objects' → Knows job around rows objects'
  learns_input objects' k key at puts =
      learns_one job around reads alike rows [] rows objects objects' k (input key) (Object.bytes (input_bytes key job.inputs)) knows
      (sym (append-nil rows)) at (λ later g n kn d
      row. subst (λ z. Sees job around (tag_of later) (suc n) z (Object.bytes (input_bytes key job.inputs)))
      (sym (from_input d (tag_of later) key row)) (sees_input (tag_of later) n key)) puts

module _ (job : Job) (around : Around) where
  -- what an executor task has among its inputs goes on the chain
  pub opens_out : (rows : List Row) (k : ℕ) (ks : List ℕ) (x : List ℕ) (us : v.Val (List ℕ)) (c i : ℕ) (name : List ℕ) → slice_get rows k
      ≡ Some (out x us c i) → Opens job around rows (k ∷ ks) → In (known name) (refs us) → number_of name < length rows
      → Opens job around rows (number_of name ∷ k ∷ ks)
  opens_out rows k ks x us c i name at opens is below later g = go (opens later g)
    where
      tag : Row → List ℕ
      tag = tag_of later

      some_is : (a b : Row) → Some a ≡ Some b → a ≡ b
      some_is a b q = cc

      go : (d : Desc) × Opened job around later (k ∷ ks) d → (d : Desc) × Opened job around later (number_of name ∷ k ∷ ks) d
      go (d, od) = of_out (from_out d tag x us c i row)
        where
          row : low_desc spell tag d ≡ out x us c i
          row =
              some_is _ _ (sym (opened_at job around later k ks d od)
              ∙ subst (λ z. slice_get z k ≡ Some (out x us c i)) (sym g.begins) (got_more rows g.more k (out x us c i) at))

          of_out : (a : Val) × (d ≡ out x a c i) × (low spell tag a ≡ us) → (e : Desc) × Opened job around later (number_of name ∷ k ∷ ks) e
          of_out (a, d_is, l) = of_ref (in_map (low_ref spell tag) (known name) (refs a)
              (subst (In (known name)) (ap refs (sym l) ∙ refs_low spell tag a) is))
            where
              of_ref : (e : Desc) × In e (refs a) × (low_ref spell tag e ≡ known name) → (e : Desc)
                  × Opened job around later (number_of name ∷ k ∷ ks) e
              of_ref (e, h, q) = (
                e,
                (
                  held_ref job around rows later e name g below q,
                  (d, Task.of (out x a c 0), od, ap task_of d_is, (0, distinct_refs a, (0, refl), in_distinct_refs a e h)),
                ),
              )
