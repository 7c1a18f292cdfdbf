use Rattle.std.proofs.Common.{◌≡◌, ◌+◌, ◌<◌, ◌≤◌, ℕ, List, length, get_or, sym, ap, subst, ◌∙◌, arith}
use Rattle.std.proofs.lemmas.List.{get_or_default}
use Rattle.line_flow.specs.declared.entries.Entry.{Entry}
use Rattle.line_flow.specs.Entries.{seen, more_at}
use Rattle.line_flow.proofs.EntriesLaw.{length-seen, seen-set, AllWithin-set, AllWithin-at}
use Rattle.line_flow.proofs.entries.Entries.add.Goals as goal

within : (bytes : List ℕ) (es : List Entry) (self : List (List ℕ × ℕ)) (at : ℕ) → seen bytes es ≡ self → at < length self → at < length es
within bytes es self at h l =
    let same = ap (length {A = List ℕ × ℕ}) h in
    let count = length-seen bytes es in
    omega (arith, l, same, count)

pub invariant_of-self : goal.invariant_of-self
invariant_of-self c =
    let bytes = c.self.inside.bytes.items in
    let es = c.self.inside.entries.items in
    let own = c.index_mut.result.now in
    let below : c.args.at < length es = within bytes es c.args.self.now c.args.at c.self.view_is c.requires in
    let stands : (own.start ≤ own.end) × (own.end ≤ length bytes) =
    subst (λ (e : Entry). (e.start ≤ e.end) × (e.end ≤ length bytes)) (sym c.index_mut.ensures.value)
    (AllWithin-at (length bytes) es c.args.at own c.self.invariant below) in
    AllWithin-set (length bytes) es c.args.at (record { start = own.start; end = own.end; sum = c.in-Some.more }) stands.0 stands.1 c.self.invariant

pub returns-in-Some-clause-ok : goal.returns-in-Some-clause-ok
returns-in-Some-clause-ok c =
    let bytes = c.self.inside.bytes.items in
    let es = c.self.inside.entries.items in
    let at = c.args.at in
    let own = c.index_mut.result.now in
    let below : at < length es = within bytes es c.args.self.now at c.self.view_is c.requires in
    let is : own ≡ get_or es at own = c.index_mut.ensures.value in
    let read : c.index.result.now ≡ get_or es at own = c.index.ensures ∙ get_or_default es at c.index.result.now own below in
    let sum : c.index.result.now.sum ≡ (get_or es at own).sum = ap (λ (e : Entry). e.sum) read in
    let more : c.in-Some.more ≡ c.index.result.now.sum + c.from.result = c.in-Some.ensures.1 in
    let from : c.from.result ≡ c.args.number = c.from.ensures in
    seen-set bytes es at c.args.number own (record { start = own.start; end = own.end; sum = c.in-Some.more }) below
    (ap (λ (e : Entry). e.start) is) (ap (λ (e : Entry). e.end) is) (omega (arith, sum, more, from))
    ∙ ap (λ (xs : List (List ℕ × ℕ)). more_at xs at c.args.number) c.self.view_is
