-- What the calls keep of what holds of every table.
use Rattle.std.proofs.Common.{◌≡◌, ℕ, ◌<◌, List, [], ◌∷◌, ◌++◌, Bool, true, false, not, map, length, length-append, get_or, set, nat_eq, refl, ap}
use Rattle.std.proofs.Common.{sym, subst, arith, Some, None, Result, OnOk, OnErr}
use Rattle.std.specs.BTreeMap.{BTreeMap, Updates}
use Rattle.std.specs.List.{AllByRecursion, IsDistinct}
use Rattle.std.specs.Option.{option_map_or}
use Rattle.std.proofs.lemmas.List.{length-map}
use Rattle.sky_base.specs.NameOrder.{name_cmp}
use Rattle.sky_base.specs.Val.{same_text}
use Rattle.sky_base.specs.declared.object.Named.{Named}
use Rattle.sky_base.specs.declared.object.TaskId.{TaskId}
use Rattle.sky_base.specs.declared.text.Memory.{Memory}
use Rattle.ciel_table.specs.Named.{found, place_of, changed}
use Rattle.ciel_table.specs.Seen.{TableSeen, row_name, saves_name, find, waits_of}
use Rattle.ciel_table.specs.Learning.{new_row}
use Rattle.ciel_table.specs.Changes.{placed, row_with, saves_with, waits_with, dropped, row_without, saves_without, waits_without}
use Rattle.ciel_table.specs.Sound.{Here, IsAbove, WaitsSound}
use Rattle.ciel_table.specs.Inside.{IsIndex, Stands, seen_of}
use Rattle.ciel_table.specs.declared.row.Row.{Row}
use Rattle.ciel_table.specs.declared.wait.Wait.{Wait}
use Rattle.ciel_table.specs.declared.wait.Saves.{Saves}
use Rattle.ciel_table.proofs.Lists.{any_last, flip_nat, on_ok, on_err, either, all_push, all_map, all_filter}
use Rattle.ciel_table.proofs.ByName.{once_push, names_changed, names_mapped, all_changed, length_changed, one_changed, none_changed}
use Rattle.ciel_table.proofs.Index.{index_more, index_same}
use Rattle.ciel_table.proofs.Waits.{sound_first, sound_push, sound_filter}

-- who isn't at a dropped worker, and not at this one, isn't at one of both
here_more : (gone : List ℕ) (worker w : ℕ) → Here gone w → not (nat_eq worker w) ≡ true → Here (gone ++ worker ∷ []) w
here_more gone worker w h e =
    any_last (nat_eq w) gone worker h (flip_nat worker w (not_true (nat_eq worker w) e))
  where
    not_true : (b : Bool) → not b ≡ true → b ≡ false
    not_true true e = cc
    not_true false e = refl

module _ {P : Type 0} (at : P → ℕ) where
  abbrev RowHere : List ℕ → Row P → Type 0
  RowHere gone r = AllByRecursion (λ p. Here gone (at p)) r.places

  pub empty_stands : (limit : ℕ) (row_of saves_of : BTreeMap (List ℕ) ℕ) → IsIndex (row_name {P = P}) row_of []
      → IsIndex (saves_name {P = P}) saves_of [] → Stands at (seen_of limit [] [] [] []) row_of saves_of
  unfolding IsDistinct
  empty_stands limit row_of saves_of r s =
      record {
        sound = record {
          room = omega arith;
          once = tt;
          here = tt;
          shown = record { rising = tt; apart = tt; here = tt };
          saved = tt;
        };
        rows = r;
        saves = s;
      }

  -- a row more
  pub learned_stands : (t : TableSeen P) (row_of saves_of new : BTreeMap (List ℕ) ℕ) (digest : List ℕ → List ℕ) (d : Named) (i : ℕ)
      → Stands at t row_of saves_of → find d.name t ≡ None → length t.rows < t.limit → i ≡ length t.rows
      → Updates name_cmp row_of new d.name (Some i) → Stands at (record t { rows = t.rows ++ new_row digest d ∷ [] }) new saves_of
  learned_stands t row_of saves_of new digest d i s e l n u =
      record {
        sound = record {
          room = (let k = length-append t.rows (new_row digest d ∷ []) in omega (arith, k, l));
          once = once_push row_name t.rows (new_row digest d) s.sound.once e;
          here = all_push (RowHere t.gone) t.rows (new_row digest d) s.sound.here tt;
          shown = s.sound.shown;
          saved = s.sound.saved;
        };
        rows = index_more row_name row_of new t.rows (new_row digest d) d.name i refl n s.rows e u;
        saves = s.saves;
      }

  -- a place more
  pub placed_stands : (t : TableSeen P) (row_of saves_of : BTreeMap (List ℕ) ℕ) (n : List ℕ) (p : P) → Stands at t row_of saves_of
      → Here t.gone (at p) → Stands at (placed n p t) row_of saves_of
  placed_stands t row_of saves_of n p s h =
      let names = names_changed row_name (row_with p) (λ r. refl) n t.rows in
      record {
        sound = record {
          room = (let k = length_changed row_name (row_with p) n t.rows in let m = s.sound.room in omega (arith, k, m));
          once = subst (λ ns. IsDistinct same_text ns) (sym names) s.sound.once;
          here = all_changed row_name (RowHere t.gone) (row_with p) n t.rows
              (λ (r : Row P) g a. all_push (λ q. Here t.gone (at q)) r.places p a h) s.sound.here;
          shown = s.sound.shown;
          saved = s.sound.saved;
        };
        rows = index_same row_name row_of t.rows (changed row_name (row_with p) n t.rows) names s.rows;
        saves = s.saves;
      }

  pub placed_rows : (t : TableSeen P) (n : List ℕ) (p : P) (i : ℕ) (x : Row P) (ps : List P) → find n t ≡ Some i → x ≡ get_or t.rows i x → ps
      ≡ x.places ++ p ∷ [] → set t.rows i (record x { places = ps }) ≡ changed row_name (row_with p) n t.rows
  placed_rows t n p i x ps e s h =
      one_changed row_name (row_with p) n t.rows i x (record x { places = ps }) e s (ap (λ qs. record x { places = qs }) h)

  -- or the row as it was, by how the call went
  pub placed_maybe : (t : TableSeen P) (row_of saves_of : BTreeMap (List ℕ) ℕ) (n : List ℕ) (p : P) (i : ℕ) (x : Row P) (ps : List P)
      (r : Result (Unit {0}) Memory) → Stands at t row_of saves_of → find n t ≡ Some i → x ≡ get_or t.rows i x → Here t.gone (at p)
      → OnOk r (ps ≡ x.places ++ p ∷ []) → OnErr r (ps ≡ x.places)
      → Stands at (record t { rows = set t.rows i (record x { places = ps }) }) row_of saves_of
  placed_maybe t row_of saves_of n p i x ps r s e g h ok err =
      either (λ rs. Stands at (record t { rows = rs }) row_of saves_of) (changed row_name (row_with p) n t.rows) t.rows
      (set t.rows i (record x { places = ps })) r
      (on_ok r (placed_rows t n p i x ps e g) ok)
      (on_err r (λ k. none_changed t.rows i x (record x { places = ps }) g (ap (λ qs. record x { places = qs }) k)) err)
      (placed_stands t row_of saves_of n p s h) s

  -- a saved wait of the root task more
  pub shown_stands : (t : TableSeen P) (row_of saves_of : BTreeMap (List ℕ) ℕ) (w : Wait P) → Stands at t row_of saves_of → IsAbove w.j t.shown
      → Here t.gone (at w.place) → Stands at (record t { shown = waits_with at w t.shown }) row_of saves_of
  shown_stands t row_of saves_of w s a h =
      record {
        sound = record {
          room = s.sound.room;
          once = s.sound.once;
          here = s.sound.here;
          shown = sound_push at t.gone t.shown w s.sound.shown a h;
          saved = s.sound.saved;
        };
        rows = s.rows;
        saves = s.saves;
      }

  abbrev SavesSound : List ℕ → Saves P → Type 0
  SavesSound gone s = WaitsSound at gone s.waits

  -- of a task that had some
  pub more_saved_stands : (t : TableSeen P) (row_of saves_of : BTreeMap (List ℕ) ℕ) (n : List ℕ) (w : Wait P) → Stands at t row_of saves_of
      → IsAbove w.j (waits_of (TaskId.Of n) t) → Here t.gone (at w.place)
      → Stands at (record t { saved = changed saves_name (saves_with at w) n t.saved }) row_of saves_of
  more_saved_stands t row_of saves_of n w k a h =
      record {
        sound = record {
          room = k.sound.room;
          once = k.sound.once;
          here = k.sound.here;
          shown = k.sound.shown;
          saved = all_changed saves_name (SavesSound t.gone) (saves_with at w) n t.saved pushed k.sound.saved;
        };
        rows = k.rows;
        saves = index_same saves_name saves_of t.saved (changed saves_name (saves_with at w) n t.saved)
            (names_changed saves_name (saves_with at w) (λ x. refl) n t.saved) k.saves;
      }
    where
      above : (x : Saves P) → found saves_name n t.saved ≡ Some x → IsAbove w.j x.waits
      above x g = subst (λ o. IsAbove w.j (option_map_or (λ (y : Saves P). y.waits) o [])) g a

      pushed : (x : Saves P) → found saves_name n t.saved ≡ Some x → SavesSound t.gone x → SavesSound t.gone (saves_with at w x)
      pushed x g b = sound_push at t.gone x.waits w b (above x g) h

  -- by how the call went
  pub saved_rows : (t : TableSeen P) (n : List ℕ) (w : Wait P) (i : ℕ) (x : Saves P) (ws : List (Wait P)) → place_of saves_name n t.saved
      ≡ Some i → x ≡ get_or t.saved i x → ws ≡ waits_with at w x.waits → set t.saved i (record x { waits = ws })
      ≡ changed saves_name (saves_with at w) n t.saved
  saved_rows t n w i x ws e s h =
      one_changed saves_name (saves_with at w) n t.saved i x (record x { waits = ws }) e s (ap (λ vs. record x { waits = vs }) h)

  pub saved_maybe : (t : TableSeen P) (row_of saves_of : BTreeMap (List ℕ) ℕ) (n : List ℕ) (w : Wait P) (i : ℕ) (x : Saves P)
      (ws : List (Wait P)) (r : Result (Unit {0}) Memory) → Stands at t row_of saves_of → place_of saves_name n t.saved ≡ Some i → x
      ≡ get_or t.saved i x → IsAbove w.j (waits_of (TaskId.Of n) t) → Here t.gone (at w.place) → OnOk r (ws ≡ waits_with at w x.waits)
      → OnErr r (ws ≡ x.waits) → Stands at (record t { saved = set t.saved i (record x { waits = ws }) }) row_of saves_of
  saved_maybe t row_of saves_of n w i x ws r k e s a h ok err =
      either (λ ss. Stands at (record t { saved = ss }) row_of saves_of) (changed saves_name (saves_with at w) n t.saved) t.saved
      (set t.saved i (record x { waits = ws })) r
      (on_ok r (saved_rows t n w i x ws e s) ok)
      (on_err r (λ q. none_changed t.saved i x (record x { waits = ws }) s (ap (λ vs. record x { waits = vs }) q)) err)
      (more_saved_stands t row_of saves_of n w k a h) k

  pub shown_maybe : (t : TableSeen P) (row_of saves_of : BTreeMap (List ℕ) ℕ) (w : Wait P) (ws : List (Wait P)) (r : Result (Unit {0}) Memory)
      → Stands at t row_of saves_of → IsAbove w.j t.shown → Here t.gone (at w.place) → OnOk r (ws ≡ waits_with at w t.shown) → OnErr r (ws ≡ t.shown)
      → Stands at (record t { shown = ws }) row_of saves_of
  shown_maybe t row_of saves_of w ws r k a h ok err =
      either (λ vs. Stands at (record t { shown = vs }) row_of saves_of) (waits_with at w t.shown) t.shown ws r ok err
      (shown_stands t row_of saves_of w k a h) k

  -- of a task that had none
  pub first_saved_stands : (t : TableSeen P) (row_of saves_of new : BTreeMap (List ℕ) ℕ) (n : List ℕ) (w : Wait P) (i : ℕ)
      → Stands at t row_of saves_of → place_of saves_name n t.saved ≡ None → i ≡ length t.saved → Updates name_cmp saves_of new n (Some i)
      → Here t.gone (at w.place) → Stands at (record t { saved = t.saved ++ record { name = n; waits = w ∷ [] } ∷ [] }) row_of new
  first_saved_stands t row_of saves_of new n w i k e l u h =
      let one : Saves P = record { name = n; waits = w ∷ [] } in
      record {
        sound = record {
          room = k.sound.room;
          once = k.sound.once;
          here = k.sound.here;
          shown = k.sound.shown;
          saved = all_push (SavesSound t.gone) t.saved one k.sound.saved (sound_first at t.gone w h);
        };
        rows = k.rows;
        saves = index_more saves_name saves_of new t.saved one n i refl l k.saves e u;
      }

  -- a worker less
  pub dropped_stands : (t : TableSeen P) (row_of saves_of : BTreeMap (List ℕ) ℕ) (worker : ℕ) → Stands at t row_of saves_of
      → Stands at (dropped at worker t) row_of saves_of
  dropped_stands t row_of saves_of worker k =
      let after : List ℕ = t.gone ++ worker ∷ [] in
      let names = names_mapped row_name (row_without at worker) (λ r. refl) t.rows in
      record {
        sound = record {
          room = (let l = length-map t.rows (row_without at worker) in let m = k.sound.room in omega (arith, l, m));
          once = subst (λ ns. IsDistinct same_text ns) (sym names) k.sound.once;
          here = all_map (RowHere t.gone) (RowHere after) (row_without at worker)
              (λ r a. all_filter (λ p. Here t.gone (at p)) (λ p. Here after (at p)) (λ p. not (nat_eq worker (at p)))
              (λ p b e. here_more t.gone worker (at p) b e) r.places a) t.rows k.sound.here;
          shown = fewer t.shown k.sound.shown;
          saved = all_map (SavesSound t.gone) (SavesSound after) (saves_without at worker) (λ s a. fewer s.waits a) t.saved k.sound.saved;
        };
        rows = index_same row_name row_of t.rows (map (row_without at worker) t.rows) names k.rows;
        saves = index_same saves_name saves_of t.saved (map (saves_without at worker) t.saved)
            (names_mapped saves_name (saves_without at worker) (λ s. refl) t.saved) k.saves;
      }
    where
      fewer : (ws : List (Wait P)) → WaitsSound at t.gone ws → WaitsSound at (t.gone ++ worker ∷ []) (waits_without at worker ws)
      fewer ws s = sound_filter at t.gone (t.gone ++ worker ∷ []) (λ (w : Wait P). not (nat_eq worker (at w.place))) ws s
          (λ w b e. here_more t.gone worker (at w.place) b e)
