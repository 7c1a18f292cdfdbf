use Rattle.std.proofs.Common.{ℕ, List, [], Vec, Bor, Global, map, unwrap_or, codes, ap, ◌∙◌}
use Rattle.clap.specs.Matches.{found_of}
use Rattle.clap.proofs.WalkLemmas.{first_value-rows, one_text-rows, raw_values-rows}
use Rattle.ciel_words.proofs.raw.gather.Goals as goal
use Rattle.ciel_words.proofs.raw.gather.Goals.{in-Some+in_ok-words-in-Some, in-None}

pub returns-clause-workers : goal.returns-clause-workers
returns-clause-workers c = c.get_str.ensures ∙ first_value-rows (found_of c.args.matches.now) (codes "workers")

pub returns-clause-seed : goal.returns-clause-seed
returns-clause-seed c = c.get_str-2.ensures ∙ first_value-rows (found_of c.args.matches.now) (codes "seed")

pub returns-clause-lose : goal.returns-clause-lose
returns-clause-lose c = c.get_str-3.ensures ∙ first_value-rows (found_of c.args.matches.now) (codes "lose")

pub returns-clause-names : goal.returns-clause-names
returns-clause-names c = c.get_str-4.ensures ∙ first_value-rows (found_of c.args.matches.now) (codes "names")

pub returns-clause-log : goal.returns-clause-log
returns-clause-log c = c.get_str-5.ensures ∙ first_value-rows (found_of c.args.matches.now) (codes "log")

pub returns-clause-resume : goal.returns-clause-resume
returns-clause-resume c = c.get_str-6.ensures ∙ first_value-rows (found_of c.args.matches.now) (codes "resume")

pub returns-clause-steal : goal.returns-clause-steal
returns-clause-steal c = c.get_str-7.ensures ∙ first_value-rows (found_of c.args.matches.now) (codes "steal")

pub returns-clause-memo_new : goal.returns-clause-memo_new
returns-clause-memo_new c = c.get_str-8.ensures ∙ first_value-rows (found_of c.args.matches.now) (codes "memo-new")

pub returns-clause-memo : goal.returns-clause-memo
returns-clause-memo c = c.get_str-9.ensures ∙ first_value-rows (found_of c.args.matches.now) (codes "memo")

pub returns-clause-generate : goal.returns-clause-generate
returns-clause-generate c = c.get_str-10.ensures ∙ first_value-rows (found_of c.args.matches.now) (codes "generate")

pub returns-clause-trace : goal.returns-clause-trace
returns-clause-trace c =
    let is = one_text-rows (found_of c.args.matches.now) (codes "trace") in
    (λ e. c.get_flag.ensures.value (is ∙ e), λ e. c.get_flag.ensures.other (is ∙ e))

pub returns-clause-plain : goal.returns-clause-plain
returns-clause-plain c =
    let is = one_text-rows (found_of c.args.matches.now) (codes "plain") in
    (λ e. c.get_flag-2.ensures.value (is ∙ e), λ e. c.get_flag-2.ensures.other (is ∙ e))

pub returns-clause-stream : goal.returns-clause-stream
returns-clause-stream c =
    let is = one_text-rows (found_of c.args.matches.now) (codes "stream") in
    (λ e. c.get_flag-3.ensures.value (is ∙ e), λ e. c.get_flag-3.ensures.other (is ∙ e))

pub returns-clause-words : goal.returns-clause-words
returns-clause-words c =
    let named = raw_values-rows (found_of c.args.matches.now) (codes "words") in
    elim c.match-get_strs.branch [
      | in-Some+in_ok-words-in-Some w ↦
          ap (λ (v : Vec (Bor (List ℕ)) Global). map (λ s. s.now) v.items) w.words-is
          ∙ ap (map (λ s. s.now)) w.in_ok-words-in-Some.ensures.items
          ∙ ap (λ o. unwrap_or o []) (w.in-Some.ensures ∙ named)
      | in-None w ↦
          ap (λ (v : Vec (Bor (List ℕ)) Global). map (λ s. s.now) v.items) w.words-is
          ∙ ap (map (λ s. s.now)) w.new-words.ensures.items
          ∙ ap (λ o. unwrap_or o []) (w.in-None.ensures ∙ named)
    ]
