use Rattle.std.proofs.Common.{◌++◌, ◌∷◌, [], List, sym, ap, ◌∙◌, subst}
use Rattle.sky_machine_entries.specs.Config.{opened, room, rest_in}
use Rattle.sky_machine_entries.specs.Entries.{forms}
use Rattle.sky_machine_entries.specs.Ready.{AllReady}
use Rattle.sky_machine_entries.specs.declared.entry.Entry.{Entry}
use Rattle.sky_machine_entries.proofs.Lists.{rest_push, room_push, opened_push, ready_push}
use Rattle.sky_machine_entries.proofs.list.push.Goals as goal

pub returns-clause-rest : goal.returns-clause-rest
returns-clause-rest c =
    let all = c.push_reserved.ensures.items ∙ ap (λ (xs : List Entry). xs ++ c.args.entry ∷ []) c.reserve.ensures.items in
    λ w r. ap (λ es. rest_in w es r) all ∙ rest_push w c.args.entries.now.items c.args.entry r

pub returns-clause-room : goal.returns-clause-room
returns-clause-room c =
    let all = c.push_reserved.ensures.items ∙ ap (λ (xs : List Entry). xs ++ c.args.entry ∷ []) c.reserve.ensures.items in
    λ w. ap (λ es. room w (forms es)) all ∙ room_push w c.args.entries.now.items c.args.entry

pub returns-clause-opened : goal.returns-clause-opened
returns-clause-opened c =
    let all = c.push_reserved.ensures.items ∙ ap (λ (xs : List Entry). xs ++ c.args.entry ∷ []) c.reserve.ensures.items in
    ap (λ es. opened (forms es)) all ∙ opened_push c.args.entries.now.items c.args.entry

pub returns-clause-ready : goal.returns-clause-ready
returns-clause-ready c =
    let all = c.push_reserved.ensures.items ∙ ap (λ (xs : List Entry). xs ++ c.args.entry ∷ []) c.reserve.ensures.items in
    λ sc h i. subst (AllReady sc) (sym all) (ready_push sc c.args.entries.now.items c.args.entry h i)
