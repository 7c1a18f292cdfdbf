-- What an open Start makes, and where the book refuses it: at its limit, or by a name that stands for something else.
use Rattle.std.specs.Prelude.{◌≡◌, ◌≢◌, ℕ, List, [], ◌∷◌, ◌++◌, length}
use Rattle.ciel_journal.specs.Job.{Job, In, IsPrefix, after_wait, made_in}
use Rattle.ciel_journal.specs.History.{OpenStart, Standing, learned}

module _ {D : Type 0} (job : Job D) where
  -- the task of this open Start makes these from its wait on, and perhaps more
  abbrev pub Begun : OpenStart D → List D → Type 0
  Begun o ds = (n : ℕ) × IsPrefix ds (made_in (after_wait o.from (job.acts n o.task)))

  module _ (v : Standing D) where
    -- some open Start makes these and then d
    pub record MadeNext (ds : List D) (d : D) : Type 0 where
      pub order : OpenStart D
      pub is_open : In order v.orders
      pub begun : Begun order (ds ++ d ∷ [])

    -- with what an open Start makes the book has so many descriptions, and the next one isn't among them
    pub record Overflows (limit : ℕ) (d : D) : Type 0 where
      pub before : List D
      pub next : MadeNext before d
      pub full : length (learned job v.book before) ≡ limit
      pub fresh : In d (learned job v.book before) → ⊥

    -- there the next one has the name of another
    pub record Clashes (kept d : D) : Type 0 where
      pub before : List D
      pub next : MadeNext before d
      pub known : In kept (learned job v.book before)
      pub named : job.name kept ≡ job.name d
      pub other : kept ≢ d
