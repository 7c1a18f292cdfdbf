-- What the values of a line say, one behind the other.
use Rattle.std.proofs.Common.{◌≡◌, ◌-◌, ◌^◌, ℕ, Bool, List, [], Option, Some, None, ap, ◌∙◌, refl}
use Rattle.std.specs.Prelude.{◌||◌, is_some}
use Rattle.ciel_words.specs.Line.{files_in, kept_in, line_said, lines_in, most_workers, steal_in, stream_in, with}
use Rattle.ciel_words.specs.Parts.{Text}
use Rattle.ciel_words.specs.Values.{losses_in, names_in, number_within, or_absent}
use Rattle.ciel_words.specs.declared.words.NameKind.{NameKind}
use Rattle.ciel_words.specs.declared.words.Words.{Words}

-- what comes of what was read
then : {A B : Type 0} (o : Option A) (a : A) (next : A → Option B) (b : Option B) → o ≡ Some a → next a ≡ b → with o next ≡ b
then o a next b e h = ap (λ x. with x next) e ∙ h

module _ (workers seed lose names log resume steal memo_new memo generate : Option Text) (trace plain stream : Bool) (texts : List Text)
    (w s : ℕ) (l : List (ℕ × ℕ)) (k : NameKind) (d r : Option Text) (m : Bool) (t : Option ℕ) (n o : Option Text) (g : Option ℕ)
    (w_is : or_absent 1 (number_within 1 most_workers) workers ≡ Some w) (s_is : or_absent 0 (number_within 0 (2 ^ 64 - 1)) seed ≡ Some s)
    (l_is : or_absent [] (losses_in w) lose ≡ Some l) (k_is : or_absent NameKind.Sha1 names_in names ≡ Some k)
    (d_is : or_absent None (kept_in plain) log ≡ Some d) (r_is : or_absent None (kept_in (plain || is_some d)) resume ≡ Some r)
    (m_is : stream_in plain stream ≡ Some m) (t_is : or_absent None (steal_in (plain || m)) steal ≡ Some t)
    (n_is : or_absent None (kept_in (plain || m)) memo_new ≡ Some n)
    (o_is : or_absent None (kept_in ((plain || m) || is_some n)) memo ≡ Some o) (g_is : or_absent None lines_in generate ≡ Some g) where
  abbrev pub line_of_files : Option Text × List (Text × Text) → Words
  line_of_files f = record {
    script = f.0;
    inputs = f.1;
    workers = w;
    seed = s;
    losses = l;
    trace = trace;
    plain = plain;
    names = k;
    log = d;
    resume = r;
    stream = m;
    steal = t;
    memo_new = n;
    memo = o;
    generate = g;
  }

  by_files : (b : Option Words) → with (files_in g texts) (λ f. Some (line_of_files f)) ≡ b
      → line_said workers seed lose names log resume steal memo_new memo generate trace plain stream texts ≡ b
  by_files b h =
      then (or_absent 1 (number_within 1 most_workers) workers) w _ b w_is
      (then (or_absent 0 (number_within 0 (2 ^ 64 - 1)) seed) s _ b s_is
      (then (or_absent [] (losses_in w) lose) l _ b l_is
      (then (or_absent NameKind.Sha1 names_in names) k _ b k_is
      (then (or_absent None (kept_in plain) log) d _ b d_is
      (then (or_absent None (kept_in (plain || is_some d)) resume) r _ b r_is
      (then (stream_in plain stream) m _ b m_is
      (then (or_absent None (steal_in (plain || m)) steal) t _ b t_is
      (then (or_absent None (kept_in (plain || m)) memo_new) n _ b n_is
      (then (or_absent None (kept_in ((plain || m) || is_some n)) memo) o _ b o_is
      (then (or_absent None lines_in generate) g _ b g_is h))))))))))

  pub says_line : (f : Option Text × List (Text × Text)) → files_in g texts ≡ Some f
      → line_said workers seed lose names log resume steal memo_new memo generate trace plain stream texts ≡ Some (line_of_files f)
  says_line f e = by_files (Some (line_of_files f)) (ap (λ x. with x (λ y. Some (line_of_files y))) e)
