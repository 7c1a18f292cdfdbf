-- The next of the new ones is put behind those so far, or left out.
use Rattle.std.proofs.Common.{◌≡◌, ◌∷◌, ◌++◌, [], ℕ, List, flat_map, ap, sym, ◌∙◌, subst}
use Rattle.ciel_memo_file.specs.Added.{Keyed}
use Rattle.ciel_memo_file.specs.Entries.{Entry}
use Rattle.ciel_memo_file.specs.File.{entry_bytes, file_bytes}
use Rattle.ciel_memo_file.proofs.Added.{Grown, grown_more, grown_none}
use Rattle.ciel_memo_file.proofs.memo.Memo.put_together.Goals as goal

pub loop-key-init : goal.loop-key-init
loop-key-init c =
    let memo = c.args.self.now in
    let ps = c.fresh.inside.by_key.entries in
    let text : c.put.new.out ≡ file_bytes memo = c.in_ok-put.ensures.bytes
    ∙ ap (λ (b : List ℕ). b ++ flat_map entry_bytes memo) (c.in_ok-byte-2.ensures
    ∙ ap (λ (b : List ℕ). b ++ 1 ∷ []) (c.in_ok-byte.ensures ∙ ap (λ (b : List ℕ). b ++ 77 ∷ []) c.new-out.ensures)) in
    let start = grown_none memo ps c.put.new.out c.in_ok-put.ensures.memo text c.into_iter-key-iterator.ensures.into_iter_gives.5
    c.fresh.invariant in
    subst (λ (rest : List Keyed). Grown memo c.args.fresh.now rest c.put.new.out)
    (sym c.into_iter-key-iterator.ensures.into_iter_gives.0)
    (subst (λ (all : List Entry). Grown memo all ps c.put.new.out) c.fresh.view_is start)

pub loop-key-preserved : goal.loop-key-preserved
loop-key-preserved c =
    let memo = c.args.self.now in
    let all = c.args.fresh.now in
    let p : Keyed = (c.in-Some._key.now, c.in-Some.entry.now) in
    let here : Grown memo all (p ∷ c.next.new.self) c.loop-key.out =
    subst (λ (rest : List Keyed). Grown memo all rest c.loop-key.out) c.in-Some.ensures.steps c.loop-key.invariant in
    grown_more memo all p c.next.new.self c.loop-key.out c.put_next.new.out here c.in_ok-put_next.ensures
