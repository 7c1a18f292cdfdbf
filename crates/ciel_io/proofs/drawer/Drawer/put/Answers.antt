-- A call that leaves what fits changes what stands at the path, and nothing else.
use Rattle.std.proofs.Common.{◌≡◌, ◌∙◌, ◌+◌, ◌<◌, ◌≤◌, ◌++◌, ◌∷◌, [], ℕ, List, Some, None, ap, arith, get_or, length, length-append, length-set, set, sym, subst}
use Rattle.std.specs.List.{zip}
use Rattle.ciel_io.specs.HeldKeep.{KeptFiles, HeldKeep, after_call, changed, put_so, taken}
use Rattle.ciel_io.specs.Rows.{has_row, space}
use Rattle.ciel_io.proofs.DrawerLaw.{asked_new, asked_old, changed_new, changed_old, place_below, put_nothing, space_at, space_push, space_set, taken_asked, taken_new, taken_old, told_so}
use Rattle.ciel_io.proofs.drawer.Drawer.put.Goals as goal

pub push-requires : goal.push-requires
push-requires c =
    let ps = c.self.inside.paths.rows in
    let cs = c.self.inside.contents.rows in
    let a = taken_asked ps cs c.self.inside.asked.rows c.as_bytes-path.result.now (put_so c.args.way c.args.piece.now)
    c.find-place.result c.self.invariant.0 (sym c.find-place.ensures) in
    omega (arith, a, c.taken_after-taken.ensures, c.if-taken-self.false, c.self.invariant.2.2)

pub put_there-requires-clause-place : goal.put_there-requires-clause-place
put_there-requires-clause-place c =
    let place = sym c.find-place.ensures ∙ c.in-Some.is in
    let below = place_below c.self.inside.paths.rows c.as_bytes-path.result.now c.in-Some.place place in
    omega (arith, below, c.self.invariant.0)

pub put_there-requires-clause-room : goal.put_there-requires-clause-room
put_there-requires-clause-room c =
    let place = sym c.find-place.ensures ∙ c.in-Some.is in
    let t = taken_old c.self.inside.paths.rows c.self.inside.contents.rows c.self.inside.asked.rows c.as_bytes-path.result.now
    (put_so c.args.way c.args.piece.now) c.in-Some.place c.self.invariant.0 place in
    omega (arith, t, c.taken_after-taken.ensures, c.if-taken-self.false, c.self.invariant.2.1)

pub invariant_of-self-in-Some : goal.invariant_of-self-in-Some
invariant_of-self-in-Some c =
    let ps = c.self.inside.paths.rows in
    let cs = c.self.inside.contents.rows in
    let ks = c.self.inside.asked.rows in
    let path = c.as_bytes-path.result.now in
    let i = c.in-Some.place in
    let place = sym c.find-place.ensures ∙ c.in-Some.is in
    let x = put_so c.args.way c.args.piece.now (get_or cs i []) in
    let here : i < length cs = omega (arith, c.self.invariant.0, place_below ps path i place) in
    let t = taken_old ps cs ks path (put_so c.args.way c.args.piece.now) i c.self.invariant.0 place in
    let rows = ap (λ r. r.rows) c.put_there.ensures in
    let room = ap (λ r. r.room) c.put_there.ensures in
    let asked = ap (λ r. r.rows) c.push.ensures in
    let asked_room = ap (λ r. r.room) c.push.ensures in (
      c.self.invariant.0 ∙ sym (length-set cs i x) ∙ sym (ap length rows),
      omega (
        arith,
        t,
        c.taken_after-taken.ensures,
        c.if-taken-self.false,
        ap space rows,
        space_set cs i x here,
        ap space asked,
        space_push ks path,
      ),
      (c.self.invariant.2.0, room ∙ c.self.invariant.2.1, asked_room ∙ c.self.invariant.2.2),
      λ q. asked_old ps ks path i place c.self.invariant.3 q ∙ ap (λ r. has_row r q) (sym asked),
    )

pub push-requires-in-None : goal.push-requires-in-None
push-requires-in-None c =
    let place = sym c.find-place.ensures ∙ c.in-None.is in
    let t = taken_new c.self.inside.paths.rows c.self.inside.contents.rows c.self.inside.asked.rows c.as_bytes-path.result.now
    (put_so c.args.way c.args.piece.now) c.self.invariant.0 place in
    omega (arith, t, c.taken_after-taken.ensures, c.if-taken-self.false, c.self.invariant.2.0)

pub push-requires-in-None-2 : goal.push-requires-in-None-2
push-requires-in-None-2 c =
    let place = sym c.find-place.ensures ∙ c.in-None.is in
    let t = taken_new c.self.inside.paths.rows c.self.inside.contents.rows c.self.inside.asked.rows c.as_bytes-path.result.now
    (put_so c.args.way c.args.piece.now) c.self.invariant.0 place in
    let piece = ap length (put_nothing c.args.way c.args.piece.now) in
    omega (arith, t, piece, c.taken_after-taken.ensures, c.if-taken-self.false, c.self.invariant.2.1)

pub invariant_of-self-in-None : goal.invariant_of-self-in-None
invariant_of-self-in-None c =
    let ps = c.self.inside.paths.rows in
    let cs = c.self.inside.contents.rows in
    let ks = c.self.inside.asked.rows in
    let path = c.as_bytes-path.result.now in
    let place = sym c.find-place.ensures ∙ c.in-None.is in
    let t = taken_new ps cs ks path (put_so c.args.way c.args.piece.now) c.self.invariant.0 place in
    let piece = ap length (put_nothing c.args.way c.args.piece.now) in
    let paths = ap (λ r. r.rows) c.push-in-None.ensures in
    let contents = ap (λ r. r.rows) c.push-in-None-2.ensures in
    let asked = ap (λ r. r.rows) c.push.ensures in (
      omega (
        arith,
        c.self.invariant.0,
        ap length paths,
        ap length contents,
        length-append ps (path ∷ []),
        length-append cs (c.args.piece.now ∷ []),
      ),
      omega (
        arith,
        t,
        piece,
        c.taken_after-taken.ensures,
        c.if-taken-self.false,
        ap space paths,
        ap space contents,
        ap space asked,
        space_push ps path,
        space_push cs c.args.piece.now,
        space_push ks path,
      ),
      (
        ap (λ r. r.room) c.push-in-None.ensures ∙ c.self.invariant.2.0,
        ap (λ r. r.room) c.push-in-None-2.ensures ∙ c.self.invariant.2.1,
        ap (λ r. r.room) c.push.ensures ∙ c.self.invariant.2.2,
      ),
      λ q. ap (λ r. has_row r q) paths ∙ asked_new ps ks path c.self.invariant.3 q ∙ ap (λ r. has_row r q) (sym asked),
    )

pub returns-in-Some : goal.returns-in-Some
returns-in-Some c =
    let ps = c.self.inside.paths.rows in
    let cs = c.self.inside.contents.rows in
    let ks = c.self.inside.asked.rows in
    let path = c.as_bytes-path.result.now in
    let i = c.in-Some.place in
    let f = put_so c.args.way c.args.piece.now in
    let place = sym c.find-place.ensures ∙ c.in-Some.is in
    let k : KeptFiles = record { files = zip ps cs; asked = ks } in
    let fits : taken (changed k path f) ≤ c.self.inside.room = omega (arith, c.taken_after-taken.ensures, c.if-taken-self.false) in
    let n : KeptFiles = record { files = zip ps c.put_there.new.contents.rows; asked = c.push.new.self.rows } in
    let same : n ≡ changed k path f =
    ap (λ (y : List (List ℕ)). record { files = zip ps y; asked = c.push.new.self.rows }) (ap (λ r. r.rows) c.put_there.ensures)
    ∙ ap (λ (y : List (List ℕ)). record { files = zip ps (set cs i (f (get_or cs i []))); asked = y }) (ap (λ r. r.rows) c.push.ensures)
    ∙ sym (changed_old ps cs ks path f i c.self.invariant.0 place) in
    told_so c.self.inside.room c.self.inside.told k n path f c.if-not-self.false fits same
    ∙ ap (λ h. after_call h path f) c.self.view_is
    ∙ ap (λ y. after_call c.args.self.now y f) (c.as_bytes-path.ensures.value ∙ c.as_str.ensures.value)

pub returns-in-None : goal.returns-in-None
returns-in-None c =
    let ps = c.self.inside.paths.rows in
    let cs = c.self.inside.contents.rows in
    let ks = c.self.inside.asked.rows in
    let path = c.as_bytes-path.result.now in
    let f = put_so c.args.way c.args.piece.now in
    let place = sym c.find-place.ensures ∙ c.in-None.is in
    let k : KeptFiles = record { files = zip ps cs; asked = ks } in
    let fits : taken (changed k path f) ≤ c.self.inside.room = omega (arith, c.taken_after-taken.ensures, c.if-taken-self.false) in
    let n : KeptFiles = record { files = zip c.push-in-None.new.self.rows c.push-in-None-2.new.self.rows; asked = c.push.new.self.rows } in
    let same : n ≡ changed k path f =
    ap (λ (y : List (List ℕ)). record { files = zip y c.push-in-None-2.new.self.rows; asked = c.push.new.self.rows }) (ap (λ r. r.rows) c.push-in-None.ensures)
    ∙ ap (λ (y : List (List ℕ)). record { files = zip (ps ++ path ∷ []) y; asked = c.push.new.self.rows }) (ap (λ r. r.rows) c.push-in-None-2.ensures)
    ∙ ap (λ (y : List (List ℕ)). record { files = zip (ps ++ path ∷ []) (cs ++ c.args.piece.now ∷ []); asked = y }) (ap (λ r. r.rows) c.push.ensures)
    ∙ ap (λ (y : List ℕ). record { files = zip (ps ++ path ∷ []) (cs ++ y ∷ []); asked = ks ++ path ∷ [] }) (sym (put_nothing c.args.way c.args.piece.now))
    ∙ sym (changed_new ps cs ks path f c.self.invariant.0 place) in
    told_so c.self.inside.room c.self.inside.told k n path f c.if-not-self.false fits same
    ∙ ap (λ h. after_call h path f) c.self.view_is
    ∙ ap (λ y. after_call c.args.self.now y f) (c.as_bytes-path.ensures.value ∙ c.as_str.ensures.value)
