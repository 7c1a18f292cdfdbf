-- The innermost of the code's forms, and the first of its objects.
use Rattle.std.proofs.Common.{◌≡◌, ℕ, suc, ◌-◌, List, [], ◌∷◌, map, length, slice_get, Some, sym, ap, ◌∙◌, arith}
use Rattle.sky_base.specs.Val.{Desc}
use Rattle.sky_base.specs.Tree.{Place, Script}
use Rattle.sky_base.specs.Res.{one_of}
use Rattle.sky_base.specs.Eval.{World, wait_end}
use Rattle.sky_base.specs.ObjectView.{object_view}
use Rattle.sky_base.specs.declared.object.Object.{Object}
use Rattle.sky_machine_entries.specs.Entries.{entry_of, forms}
use Rattle.sky_machine_entries.specs.declared.entry.Entry.{Entry}
use Rattle.sky_machine_waits.specs.Waits.{wait_in}

pub innermost : (sc : Script) (es : List Entry) (e : Entry) → slice_get es (length es - 1) ≡ Some e → wait_in sc (forms es)
    ≡ wait_in sc (entry_of e ∷ [])
innermost sc [] e is = cc
innermost sc (x ∷ []) e is = let p : x ≡ e = cc in ap (λ y. wait_in sc (entry_of y ∷ [])) p
innermost sc (x ∷ y ∷ es) e is =
    let n : length (x ∷ y ∷ es) - 1 ≡ suc (length (y ∷ es) - 1) = omega arith in
    innermost sc (y ∷ es) e (sym (ap (slice_get (x ∷ y ∷ es)) n) ∙ is)

-- a `*` takes the first object
pub first_object : (w : World (List ℕ)) (p : Place) (d : Desc (List ℕ)) (os : List Object) (o : Object) → slice_get os 0 ≡ Some o
    → wait_end w (one_of p d) (map object_view os) ≡ wait_end w (one_of p d) (object_view o ∷ [])
first_object w p d [] o is = cc
first_object w p d (Object.Bytes b ∷ os) o is = let q : Object.Bytes b ≡ o = cc in ap (λ x. wait_end w (one_of p d) (object_view x ∷ [])) q
first_object w p d (Object.Data v ∷ os) o is = let q : Object.Data v ≡ o = cc in ap (λ x. wait_end w (one_of p d) (object_view x ∷ [])) q
first_object w p d (Object.Fault f ∷ os) o is = let q : Object.Fault f ≡ o = cc in ap (λ x. wait_end w (one_of p d) (object_view x ∷ [])) q
