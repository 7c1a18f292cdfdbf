-- Where objects lie, as the code keeps it.
use Rattle.std.specs.Prelude.{ℕ, List, [], ◌∷◌, Bool, Vec, cond, map, nat_eq, Option, Some, None}
use Rattle.std.specs.List.{list_any}
use Rattle.std.specs.BTreeMap.{BTreeMap, get}
use Rattle.std.specs.declared.alloc.Global.{Global}
use Rattle.sky_base.specs.NameOrder.{name_cmp}
use Rattle.ciel_look_tasks.specs.declared.places.Place.{Place}
use Rattle.ciel_look_tasks.specs.declared.scene.Loss.{Loss}

abbrev pub place_worker : Place → ℕ
place_worker p = p.worker

abbrev pub placed_in : Option (Vec Place Global) → List Place
placed_in None = []
placed_in (Some v) = v.items

-- the places of a name
abbrev pub places_of : BTreeMap (List ℕ) (Vec Place Global) → (name : List ℕ) → List Place
places_of m n = placed_in (get name_cmp m n)

-- their workers
abbrev pub placed : BTreeMap (List ℕ) (Vec Place Global) → (name : List ℕ) → List ℕ
placed m n = map place_worker (places_of m n)

abbrev pub place_run : Place → ℕ
place_run p = p.run

-- the order of the first of these places whose worker isn't among these
abbrev pub first_run : (gone : List ℕ) → List Place → Option ℕ
first_run gone [] = None
first_run gone (p ∷ ps) = cond (list_any (λ worker. nat_eq worker p.worker) gone) (first_run gone ps) (Some (place_run p))

-- the names whose places' workers pass a test
abbrev pub names_where : (List ℕ → Bool) → List (List ℕ × Vec Place Global) → List (List ℕ)
names_where test [] = []
names_where test (e ∷ es) = cond (test (map place_worker e.1.items)) (e.0 ∷ names_where test es) (names_where test es)

-- the objects that each loss took
abbrev pub loss_objects : Loss → List (List ℕ)
loss_objects l = l.objects.items

abbrev pub objects_view : List Loss → List (List (List ℕ))
objects_view ls = map loss_objects ls
