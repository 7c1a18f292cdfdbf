-- What is seen of a desk after a step.
use Rattle.std.proofs.Common.{◌≡◌, ℕ, ◌+◌, ◌==◌, ◌<◌, List, [], ◌∷◌, ◌++◌, length, sym, refl, ap, ◌∙◌, subst, arith, length-append, inl, inr, true}
use Rattle.std.proofs.Common.{false}
use Rattle.std.specs.Prelude.{Option, Some, None, IfSome, IsSome}
use Rattle.std.proofs.lemmas.Bool.Decides.{nat_tests}
use Rattle.ciel_crew_lanes.specs.declared.notes.Knows.{Knows}
use Rattle.ciel_crew_lanes.specs.declared.notes.Role.TheVariants.{Master}
use Rattle.ciel_crew_lanes.specs.Desk.{TakesOutput}
use Rattle.ciel_crew_lanes.specs.Seen.{DeskSeen, desk_seen, last_of, IsDesk}

pub last_snoc : {I : Type 0} (xs : List I) (x : I) → last_of (xs ++ x ∷ []) ≡ Some x
last_snoc [] x = refl
last_snoc (y ∷ []) x = refl
last_snoc (y ∷ z ∷ ys) x = last_snoc (z ∷ ys) x

last_some : {I : Type 0} (xs : List I) → 0 < length xs → last_of xs ≡ None → ⊥
last_some [] l e = omega arith
last_some (x ∷ []) l e = cc
last_some (x ∷ y ∷ ys) l e = last_some (y ∷ ys) (omega arith) e

none_some : false ≡ true → ⊥
none_some e = cc

same_same : (a b : ℕ) → a ≡ b → (a == b) ≡ true
same_same a b e = grind (arith, nat_tests)

apart : (a b : ℕ) → a + 1 ≡ b → (a == b) ≡ false
apart a b e = grind (arith, nat_tests)

module _ {I : Type 0} where
  pub none_out : (v : Knows I) → IsDesk v → (desk_seen v).out ≡ None → v.taken ≡ length v.put
  none_out v d e = elim d.1 [ inl x ↦ x | inr x ↦ absurd (last_some v.put (omega arith) (rw (apart v.taken (length v.put) x) at e)) ]

  pub out_is_last : (v : Knows I) → v.taken + 1 ≡ length v.put → (desk_seen v).out ≡ last_of v.put
  out_is_last v x = rw (apart v.taken (length v.put) x)

  pub some_out : (v : Knows I) → IsDesk v → IsSome (desk_seen v).out → v.taken + 1 ≡ length v.put
  some_out v d e = elim d.1 [ inl x ↦ absurd (none_some (rw (same_same v.taken (length v.put) x) at e)) | inr x ↦ x ]

  pub seen_put : (v w : Knows I) (job : I) → v.taken ≡ length v.put → w ≡ record v { put = v.put ++ job ∷ [] } → desk_seen w
      ≡ record { put = v.put ++ job ∷ []; out = Some job; back = v.back }
  seen_put v w job none e = rw e (let l : v.taken + 1 ≡ length (v.put ++ job ∷ []) = omega (arith, length-append v.put (job ∷ [])) in
      rw (apart v.taken (length (v.put ++ job ∷ [])) l)
      (ap (λ (o : Option I). record { put = v.put ++ job ∷ []; out = o; back = v.back }) (last_snoc v.put job)))

  pub is_put : (v w : Knows I) (job : I) → v.role ≡ Master → v.taken ≡ length v.put → w ≡ record v { put = v.put ++ job ∷ [] } → IsDesk w
  is_put v w job m none e = rw e (m, inr (omega (arith, length-append v.put (job ∷ []))))

  pub fitting : {O : Type 0} (good : I → Type 0) (ties : I → O → Type 0) (v w : Knows I) (o : O) → IsDesk v → IsSome (desk_seen v).out
      → TakesOutput good ties v o w → IfSome (desk_seen v).out (λ j. ties j o)
  fitting good ties v w o d s t =
      let e : (desk_seen v).out ≡ Some t.job = out_is_last v (some_out v d s) ∙ (ap (λ (l : List I). last_of l) t.put ∙ last_snoc t.before t.job) in
      subst (λ (x : Option I). IfSome x (λ j. ties j o)) (sym e) t.fits

  taken_none : (v w : Knows I) → v.taken + 1 ≡ length v.put → w ≡ record v { taken = v.taken + 1 } → desk_seen w
      ≡ record { put = v.put; out = None; back = v.back }
  taken_none v w one e = rw e (rw (same_same (v.taken + 1) (length v.put) one))

  pub after_take : {O : Type 0} (good : I → Type 0) (ties : I → O → Type 0) (v w : Knows I) (o : O) (s : DeskSeen I) → desk_seen v ≡ s → IsDesk v
      → IsSome s.out → TakesOutput good ties v o w
      → IfSome s.out (λ j. ties j o) × (desk_seen w ≡ record { put = s.put; out = None; back = s.back })
  after_take good ties v w o s e d is t =
      let was : IsSome (desk_seen v).out = subst (λ (x : DeskSeen I). IsSome x.out) (sym e) is in (
        subst (λ (x : DeskSeen I). IfSome x.out (λ j. ties j o)) e (fitting good ties v w o d was t),
        taken_none v w (some_out v d was) t.after ∙ ap (λ (x : DeskSeen I). record { put = x.put; out = None; back = x.back }) e,
      )
