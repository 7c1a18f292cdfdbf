-- The laws of turns, of the job of a shop.
use Rattle.std.proofs.Common.{◌≡◌, ℕ, List, [], ◌∷◌, true, nat_eq, slice_get, Some, ◌⊎◌, inl, inr, ap, sym, subst}
use Rattle.std.specs.List.{list_any}
use Rattle.sky_base.specs.KitView.{Gives}
use Rattle.sky_base.specs.Name.{digested}
use Rattle.sky_base.specs.See as s
use Rattle.sky_base_law.specs.Tasks as t
use Rattle.sky_machine_show.specs.Shows.{shown_view}
use Rattle.ciel_journal.specs.History.{before_all, standing}
use Rattle.ciel_journal.specs.Job.{In}
use Rattle.ciel_journal.specs.Lawful.{Allowed, Step}
use Rattle.ciel_journal.proofs.Append.{lawful_split}
use Rattle.ciel_journal.proofs.ByName.{never_named}
use Rattle.ciel_json.specs.Around.{json_around}
use Rattle.ciel_json.proofs.ReadLaw.{json_reads_plain, json_reads_sound}
use Rattle.ciel_journal_job.specs.Real.{back}
use Rattle.ciel_journal_job.proofs.AlikeLaw.{answer_alike, made_is, needed_to, never_alike}
use Rattle.ciel_journal_job.proofs.KnownLaw.{real_knows}
use Rattle.ciel_journal_job.proofs.RealLaw.{in_from, real_laws}
use Rattle.ciel_journal_job.proofs.Filled.{real_exact}
use Rattle.ciel_master_board.specs.Board.{shelf, spot_of}
use Rattle.ciel_master_board.specs.Moves.{accepted}
use Rattle.ciel_master_board.specs.Reports as rep
use Rattle.ciel_master_board.specs.Setting.{IsMade, IsSetting, Setting}
use Rattle.ciel_master_board.specs.Sound.{own_name}
use Rattle.ciel_master_law.proofs.Binds.{all_bind}
use Rattle.ciel_master_law.proofs.DescriptionsTold.{tells}
use Rattle.ciel_task_order.specs.Named.{frozen_mark, mark_of, name_of}
use Rattle.ciel_task_order.specs.Performs.{AnswerIs, IsMissing, the_shop}
use Rattle.ciel_task_order.specs.Shop as shop
use Rattle.ciel_task_order.specs.Views.{P, copies_view, how_view, order_view, report_end}
use Rattle.ciel_master_board.specs.TurnsLaws.{Promised, RunEnded}
use Rattle.ciel_master_board.proofs.TurnEvents.{shown_ends}
use Rattle.ciel_master_law.specs.Ends.{CircleIsNever, MadeBy, MissedFits, ModestAlike, PerformsPromises, ShopIsSetting, ShownIsMeant, worker_of}

pub missed_fits : (digest : List ℕ → List ℕ) → MissedFits digest
missed_fits digest b order main name loss seen m count planned lost =
    record {
      place = m.place;
      given = given m.given;
      planned = (count, subst (λ w. slice_get b.plan.losses loss.number ≡ Some (count, w)) (sym m.worker) planned);
      lost = subst (λ w. list_any (nat_eq w) b.table.gone ≡ true) (sym m.worker) lost;
    }
  where
    given : ((spot_of name (order_view order).inputs ≡ Some (shelf m.place))
        ⊎ ((order.saved ≡ Some m.place) × (name ≡ own_name digest worker_of order.main order.task)))
        → (spot_of name (order_view order).inputs ≡ Some (shelf m.place))
        ⊎ ((order.saved ≡ Some m.place) × (name ≡ own_name digest worker_of b.main order.task))
    given (inl e) = inl e
    given (inr e) = inr (e.0, subst (λ z. name ≡ own_name digest worker_of z order.task) main e.1)

module _ (digest : List ℕ → List ℕ) (job : s.Job) (gives : Gives) where
  abbrev S : Setting s.Desc P shop.Block
  S = the_shop digest job gives

  abbrev around : s.Around
  around = json_around gives

  pub shop_is : ShopIsSetting digest job gives
  shop_is orderly =
      record {
        laws = real_laws job around (name_of digest) (mark_of digest) (frozen_mark digest);
        knows = real_knows job around (name_of digest) (mark_of digest) (frozen_mark digest) (json_reads_plain gives);
        exact = real_exact (digested digest) job around (mark_of digest) (frozen_mark digest);
        tells = tells digest job around (mark_of digest) (frozen_mark digest) S.at S.block S.object S.state (json_reads_sound job.script gives)
            (all_bind job.script.funs orderly);
      }

  pub performs_promises : PerformsPromises digest job gives
  performs_promises orderly h b going sound runs order out rows r p none =
      record {
        fits = p.fits b sound out.found rows none;
        says = λ o is apart. p.says o is apart;
        lies = λ o found is. p.lies h b.plan o runs.follows.lawful found is;
      }

  -- ---- what is shown

  pub shown_meant : ShownIsMeant digest job gives
  shown_meant orderly h b going sound runs order out rows rest root r p shown is_shown all =
      (means, ended)
    where
      is : IsSetting S
      is = shop_is orderly

      end_is : report_end r ≡ rep.made [] (copies_view r.copied.items)
      end_is = ap (how_view r.copied.items) is_shown

      none : IsMissing r.end → ⊥
      none m = subst IsMissing is_shown m

      promised : Promised S h b (order_view order) r.spawned.items (rep.made [] (copies_view r.copied.items))
      promised =
          subst (Promised S h b (order_view order) r.spawned.items) end_is (performs_promises orderly h b going sound runs order out rows r p none)

      ended : RunEnded S h (order_view order) r.spawned.items (report_end r) (accepted digest worker_of b (order_view order).out r.spawned.items (report_end r))
      ended =
          subst (λ e. RunEnded S h (order_view order) r.spawned.items e (accepted digest worker_of b (order_view order).out r.spawned.items e))
          (sym end_is) (shown_ends S is h b going sound runs (order_view order) out rest root r.spawned.items (copies_view r.copied.items)
          promised all)

      step : Step S.job (accepted digest worker_of b (order_view order).out r.spawned.items (report_end r)).plan (standing S.job h) ended.event
      step =
          (lawful_split S.job (accepted digest worker_of b (order_view order).out r.spawned.items (report_end r)).plan (before_all S.job) h
          (ended.event ∷ []) ended.runs.follows.lawful).1.0

      same_plan : (accepted digest worker_of b (order_view order).out r.spawned.items (report_end r)).plan ≡ b.plan
      same_plan = ap (λ e. (accepted digest worker_of b (order_view order).out r.spawned.items e).plan) end_is

      answer : AnswerIs digest job gives r.end
      answer =
          p.answers h b.plan out.start runs.follows.lawful out.is_open out.order ended.event ended.tells
          (subst (λ q. Allowed S.job q (standing S.job h) ended.event) same_plan step.allowed) step.apart

      means : s.Means job around (shown_view shown)
      means = subst (AnswerIs digest job gives) is_shown answer

  -- ---- other ends

  pub circle_never : CircleIsNever digest job gives
  circle_never orderly p J names c =
      (never_alike job around (name_of digest) (mark_of digest) (frozen_mark digest)).0 (never_named S.job (shop_is orderly).laws p J names c)

  made_by : (d : s.Desc) → IsMade S d → MadeBy digest job gives d
  made_by d (inl e) = inl e
  made_by d (inr x) =
      inr (
        back x.0,
        needed_to job around (name_of digest) (mark_of digest) (frozen_mark digest) x.0 x.1,
        x.2,
        in_from d (t.made_in (t.acts_of job around x.2 (back x.0))) (subst (In d) (made_is (t.acts_of job around x.2 (back x.0))) x.3),
      )

  pub modest_alike : ModestAlike digest job gives
  modest_alike orderly limit m =
      record {
        ends = (answer_alike job around (name_of digest) (mark_of digest) (frozen_mark digest)).1 (m.answer, m.means);
        all = m.all;
        made = λ d i. m.made d (made_by d i);
        few = m.few;
        apart = m.apart;
      }
