-- The state at the beginning follows the empty history.
use Rattle.std.proofs.Common.{◌≡◌, [], refl, ap, sym, ◌∙◌}
use Rattle.sky_base.specs.Name.{digested}
use Rattle.sky_base.specs.declared.object.Named.{Named}
use Rattle.ciel_journal.specs.History.{Plan}
use Rattle.ciel_journal.specs.Job.{Task, of, show}
use Rattle.ciel_table.specs.Seen.{waits_of}
use Rattle.ciel_want.specs.History.{task_id}
use Rattle.ciel_master_board.specs.Follows.{Follows, OneByOne, WaitIs, saves_of}
use Rattle.ciel_master_board.specs.Moves.{opened}
use Rattle.ciel_master_board.specs.Reports.{IsNamed, named_view}
use Rattle.ciel_master_board.specs.Setting.{IsSetting, Setting}

module _ {D P B : Type 0} (s : Setting D P B) (is : IsSetting s) where
  pub opened_follows : (p : Plan) (main : Named) → IsNamed s.digest main → s.lower s.job.main ≡ named_view main
      → Follows s [] (opened s.digest p s.keys main)
  opened_follows p main named e =
      record {
        lawful = tt;
        journal = refl;
        stands = record {
          keys = refl;
          main = named.name ∙ (ap (digested s.digest) (sym e) ∙ is.exact.own s.job.main);
          rows = (record { spells = sym e; places = refl; objects = tt }, tt);
          waits = λ u i. none u;
          orders = tt;
          gone = refl;
          starts = refl;
          closes = refl;
          going = λ g. refl;
        };
      }
    where
      none : (u : Task D) → OneByOne (WaitIs s) (saves_of s.job u []) (waits_of (task_id s.job u) (opened s.digest p s.keys main).table)
      none show = tt
      none (of d) = tt
