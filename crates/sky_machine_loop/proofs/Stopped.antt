-- What a run has come to, and what it has made, when nothing is left to do.
use Rattle.std.proofs.Common.{◌≡◌, ℕ, List, [], ◌++◌, map, Some, sym, ap, ◌∙◌, append-nil}
use Rattle.sky_base.specs.Name.{digested}
use Rattle.sky_base.specs.Res.{End}
use Rattle.sky_base.specs.Read.{Halt, segment, first_end, first_halt}
use Rattle.sky_base.specs.declared.object.Named.{Named}
use Rattle.sky_base_scope.specs.Plain.{Vars}
use Rattle.sky_machine_entries.specs.Config.{Run}
use Rattle.sky_machine_parts.specs.Made.{descs, names, whole}
use Rattle.sky_machine_loop.specs.Stops.{Grew}
use Rattle.sky_machine_loop.proofs.Ends.{segment_told, end_told, halt_told}

module _ (digest : List ℕ → List ℕ) (old new : List Named) (x r : Run) (same : whole digest new x ≡ whole digest old r) where
  pub ends_so : (e : End (List ℕ)) (st : Vars) → first_end x ≡ Some (e, st) → first_end r ≡ Some (e, st)
  ends_so e st h =
      sym (end_told (descs old) r) ∙ sym (ap (λ p. first_end p.0) same) ∙ end_told (descs new) x ∙ h

  pub halts_so : (q : Halt (List ℕ)) → first_halt x ≡ Some q → first_halt r ≡ Some q
  halts_so q h =
      sym (halt_told (descs old) r) ∙ sym (ap (λ p. first_halt p.0) same) ∙ halt_told (descs new) x ∙ h

  pub grew_so : segment x ≡ [] → Grew digest old new r
  grew_so none =
      record {
        descs = sym (append-nil (descs new)) ∙ ap (λ ds. descs new ++ ds) (sym none) ∙ sym (segment_told (descs new) x)
            ∙ ap (λ p. segment p.0) same ∙ segment_told (descs old) r;
        names = sym (append-nil (names new)) ∙ ap (λ ds. names new ++ map (digested digest) ds) (sym none) ∙ ap (λ p. p.1) same;
      }
