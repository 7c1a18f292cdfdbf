-- The new one stands among them, at its key.
use Rattle.std.proofs.Common.{List, inl, inr, subst, sym, ◌∙◌}
use Rattle.sky_base_law.specs.Tasks.{Each, In}
use Rattle.ciel_memo_file.specs.Entries.{entry_view}
use Rattle.ciel_memo_file.specs.Added.{IsKeyed, Keyed, entries_of}
use Rattle.ciel_memo_file.proofs.Added.{added_now, among_more, keyed_more, stays_there}
use Rattle.ciel_memo_file.proofs.fresh.Fresh.add.Goals as goal

pub invariant_of-self-2 : goal.invariant_of-self-2
invariant_of-self-2 c =
    subst (λ (ps : List Keyed). Each IsKeyed ps) (sym c.in-Ok.ensures.entries)
    (keyed_more c.in_ok-key.key c.args.entry c.self.inside.by_key.entries c.in_ok-key.ensures.bytes c.self.invariant)

pub returns-clause-among : goal.returns-clause-among
returns-clause-among c =
    λ e i. elim (among_more c.in_ok-key.key c.args.entry c.self.inside.by_key.entries e
    (subst (λ (ps : List Keyed). In e (entries_of ps)) c.in-Ok.ensures.entries i)) [
      | inl h ↦ inl h
      | inr j ↦ inr (subst (In e) c.self.view_is j)
    ]

pub returns-clause-added : goal.returns-clause-added
returns-clause-added c =
    subst (λ (ps : List Keyed). In (entry_view c.args.entry.now) (entries_of ps)) (sym c.in-Ok.ensures.entries)
    (added_now c.in_ok-key.key c.args.entry c.self.inside.by_key.entries)

pub returns-clause-others : goal.returns-clause-others
returns-clause-others c =
    λ e i other. subst (λ (ps : List Keyed). In e (entries_of ps)) (sym c.in-Ok.ensures.entries)
    (stays_there c.in_ok-key.key c.args.entry c.self.inside.by_key.entries e c.self.invariant (λ h. other (h ∙ c.in_ok-key.ensures.bytes))
    (subst (In e) (sym c.self.view_is) i))
