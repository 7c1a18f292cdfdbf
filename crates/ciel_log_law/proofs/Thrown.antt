-- The record of a report can be read where it is short, what the types of the code tell of it is told, and what it spawned and what lies at its
-- places are sound for a script.
use Rattle.std.proofs.Common.{◌≡◌, ◌<◌, ◌^◌, ℕ, List, [], ◌∷◌, map, subst, sym}
use Rattle.sky_base.specs.ObjectView.{desc_view, object_view}
use Rattle.sky_base.specs.declared.object.Named.{Named}
use Rattle.sky_base.specs.declared.object.TaskId.{TaskId}
use Rattle.sky_base.specs.Res.{Object}
use Rattle.sky_base.specs.Tree.{Script}
use Rattle.sky_base.specs.Val.{Desc, call, input, known, out}
use Rattle.sky_base_law.specs.Sound.{SoundDesc, SoundObject}
use Rattle.sky_base_law.specs.Tasks.{Each}
use Rattle.sky_base_law.proofs.SoundOps.{caught_kept}
use Rattle.ciel_name.specs.Descs.{IsDescData, IsObjectData, KeptDesc}
use Rattle.ciel_name_law.specs.Told.{DescTold, ObjectTold}
use Rattle.ciel_name_law.specs.Typed.{NamedUseNothing}
use Rattle.sky_state.specs.declared.shown.Shown.{Shown}
use Rattle.ciel_store.specs.Seen.{ShelvesSeen}
use Rattle.ciel_task_order.specs.Orders.{HasObject}
use Rattle.ciel_task_order.specs.Places.{EndAt, ObjectAt}
use Rattle.ciel_task_order.specs.Shop as shop
use Rattle.ciel_task_order.specs.Shop.{block_view}
use Rattle.ciel_task_order.specs.declared.block.Block.{Block}
use Rattle.ciel_task_order.specs.declared.report.End.{End}
use Rattle.ciel_task_order.specs.declared.report.Made.{Made}
use Rattle.ciel_task_order.specs.declared.report.Report.{Report}
use Rattle.ciel_log.specs.Logging.{EndTyped, EndedSo, RecordTyped, told_copies}
use Rattle.ciel_name_law.proofs.Bare.{sound_data, sound_spelled}
use Rattle.ciel_log_read.specs.Recorded as read
use Rattle.ciel_log_read.specs.Recorded.{IsEnd, IsNamed, IsRecord}
use Rattle.ciel_log_records.specs.Records.{HowEnded, end_bytes, report_record}
use Rattle.ciel_log_read.proofs.Reports.{answered_fits, end_short, made_fits, report_fits, saved_fits}
use Rattle.ciel_log_read.proofs.Sizes.{Short}

-- ---- what the types of the code tell of a record, by its parts

pub record AllTold (number : ℕ) (spawned : List (Desc (List ℕ))) (copied : List (List ℕ)) (how : HowEnded) : Type 0 where
  number_fits : number < 2 ^ 64
  spawned_told : Each DescTold spawned
  copied_told : Each IsNamed copied
  end_told : EndTyped how

each_desc : (ns : List Named) → Each (λ (n : Named). DescTold (desc_view n.desc)) ns → Each DescTold (map (λ (n : Named). desc_view n.desc) ns)
each_desc [] h = tt
each_desc (n ∷ ns) h = (h.0, each_desc ns h.1)

pub of_report : (r : Report) (how : HowEnded) → RecordTyped r how
    → AllTold r.number (map (λ (n : Named). desc_view n.desc) r.spawned.items) (told_copies r) how
of_report r how t =
    record { number_fits = t.number; spawned_told = each_desc r.spawned.items t.spawned; copied_told = t.copied; end_told = t.end }

-- ---- what is sound for a script

abbrev pub EndSound : Script → HowEnded → Type 0
EndSound sc (HowEnded.made objects) = Each (SoundObject sc) objects
EndSound sc (HowEnded.saved j stack) = Unit {0}
EndSound sc (HowEnded.answered bytes) = Unit {0}
EndSound sc (HowEnded.failed fault) = Unit {0}
EndSound sc (HowEnded.missing name loss) = Unit {0}

module _ (sc : Script) (bare : NamedUseNothing sc.funs) where
  kept_desc : (d : Desc (List ℕ)) → SoundDesc sc d → KeptDesc d
  kept_desc (call f c vs) h = (caught_kept f c h.1, h.0)
  kept_desc (out x v m i) h = h.1
  kept_desc (input k) h = tt
  kept_desc (known z) h = tt

  spawned_data : (ds : List (Desc (List ℕ))) → Each DescTold ds → Each (SoundDesc sc) ds → Each IsDescData ds
  spawned_data [] t s = tt
  spawned_data (d ∷ ds) t s = (
    record { spelled = sound_spelled sc bare d t.0.0 t.0.1 s.0; kept = kept_desc d s.0 },
    spawned_data ds t.1 s.1,
  )

  object_data : (o : Object (List ℕ)) → ObjectTold o → SoundObject sc o → IsObjectData o
  object_data (Object.bytes b) t s = tt
  object_data (Object.data_of v) t s = sound_data sc bare v t.0 t.1 s
  object_data (Object.fault f) t s = t

  objects_data : (os : List (Object (List ℕ))) → Each ObjectTold os → Each (SoundObject sc) os → Each IsObjectData os
  objects_data [] t s = tt
  objects_data (o ∷ os) t s = (object_data o t.0 s.0, objects_data os t.1 s.1)

  end_data : (how : HowEnded) → EndTyped how → EndSound sc how → Short (end_bytes how) → IsEnd how
  end_data (HowEnded.made os) t s l = made_fits os (objects_data os t s) l
  end_data (HowEnded.saved j stack) t s l = saved_fits j stack t l
  end_data (HowEnded.answered bytes) t s l = answered_fits bytes l
  end_data (HowEnded.failed fault) t s l = t
  end_data (HowEnded.missing name loss) t s l = t

  pub report_readable : (number : ℕ) (spawned : List (Desc (List ℕ))) (copied : List (List ℕ)) (how : HowEnded)
      → AllTold number spawned copied how → Each (SoundDesc sc) spawned → EndSound sc how
      → Short (report_record number spawned copied how) → IsRecord (read.reported number spawned copied how)
  report_readable number spawned copied how t ds e l =
      report_fits number spawned copied how t.number_fits (spawned_data spawned t.spawned_told ds) t.copied_told
      (end_data how t.end_told e (end_short number spawned copied how l)) l

-- ---- what lies at the places of a report is sound

object_sound : (sc : Script) (b : Block) (o : Object (List ℕ)) → HasObject sc b → block_view b ≡ shop.Block.object o → SoundObject sc o
object_sound sc (Block.Object x) o h e = let same : object_view x ≡ o = cc in subst (SoundObject sc) same h
object_sound sc (Block.Frozen s) o h e = absurd h

module _ (shelves : ShelvesSeen) (w : ℕ) (sc : Script) where
  each_sound : (ms : List Made) (os : List (Object (List ℕ))) → Each (λ (m : Made). ObjectAt shelves w sc m.place) ms
      → map (λ (m : Made). block_view m.place.at.value) ms ≡ map shop.Block.object os → Each (SoundObject sc) os
  each_sound [] [] h e = tt
  each_sound [] (o ∷ os) h e = absurd cc
  each_sound (m ∷ ms) [] h e = absurd cc
  each_sound (m ∷ ms) (o ∷ os) h e =
      let first : block_view m.place.at.value ≡ shop.Block.object o = cc in
      let rest : map (λ (m : Made). block_view m.place.at.value) ms ≡ map shop.Block.object os = cc in
      (object_sound sc m.place.at.value o h.0.object first, each_sound ms os h.1 rest)

  pub places_sound : (task : TaskId) (end : End) → EndAt shelves w sc task end → (how : HowEnded) → EndedSo end how → EndSound sc how
  places_sound task (End.Made ms) at how (os, lie, e) = subst (EndSound sc) (sym e) (each_sound ms.items os at lie)
  places_sound task (End.Saved p j refs holds mark) at how (s, lies, e) = subst (EndSound sc) (sym e) tt
  places_sound task (End.Shown (Shown.Text t)) at how e = subst (EndSound sc) (sym e) tt
  places_sound task (End.Shown (Shown.Fault f)) at how e = subst (EndSound sc) (sym e) tt
  places_sound task (End.Missing name loss seen) at how e = subst (EndSound sc) (sym e) tt
