-- The references in it.
use Rattle.std.proofs.Common.{Some, ap, flat_map, sym, ◌∙◌}
use Rattle.sky_base.specs.ObjectView.{desc_view}
use Rattle.ciel_look_text.specs.Now.{given_names, ref_name}
use Rattle.ciel_look_text.proofs.Replaying.{names_known}
use Rattle.ciel_look_text.proofs.replay.given_in.Goals as goal

pub returns-in_ok-names-in-Exec : goal.returns-in_ok-names-in-Exec
returns-in_ok-names-in-Exec c =
    record {
      names = c.in_ok-names-in-Exec.ensures.names ∙ c.as_slice.ensures ∙ sym (names_known c.in_ok-found-in-Exec.found)
          ∙ ap (flat_map ref_name) c.in_ok-found-in-Exec.ensures ∙ ap (λ d. given_names (Some (desc_view d))) (sym c.in-Exec.is);
    }

pub returns-in-Call : goal.returns-in-Call
returns-in-Call c = record { names = c.new.ensures.items ∙ ap (λ d. given_names (Some (desc_view d))) (sym c.in-Call.is) }

pub returns-in-Input : goal.returns-in-Input
returns-in-Input c = record { names = c.new-in-Input.ensures.items ∙ ap (λ d. given_names (Some (desc_view d))) (sym c.in-Input.is) }
