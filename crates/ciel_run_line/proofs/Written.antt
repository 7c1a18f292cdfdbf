-- A log of a run of a line can be read, since what the line names is short.
use Rattle.std.proofs.Common.{◌≡◌, ◌≤◌, ◌<◌, ℕ, List, inl, inr, Option, Some, None, length, refl, ap, arith}
use Rattle.sha1.specs.Sha1.{digest_bytes, sha1}
use Rattle.sha2.proofs.Facts256.{length-sha256}
use Rattle.sky_base.specs.KitView.{Gives}
use Rattle.sky_base.specs.Name.{canon, digested}
use Rattle.sky_base.specs.See as s
use Rattle.sky_parse.specs.Source.{IsScript}
use Rattle.ciel_log_readable.specs.Readable.{BeginsWritten, IsWritable}
use Rattle.ciel_log_readable.proofs.Read.{begins}
use Rattle.ciel_log_refuses.specs.Refusals.{IsBadAt}
use Rattle.ciel_log_refuses.proofs.Cut.{cut_prefix}
use Rattle.ciel_name_law.specs.Typed.{GivesNames}
use Rattle.ciel_run_load.specs.Generated.{generator}
use Rattle.ciel_run_load.specs.Line as files
use Rattle.ciel_run_load.specs.Line.{Input, keys_of}
use Rattle.ciel_words.specs.Sound.{LineIsSound}
use Rattle.ciel_words.specs.declared.words.NameKind.{NameKind}
use Rattle.ciel_words.specs.declared.words.Words.{Words}
use Rattle.ciel_run_line.specs.Keeping.{header_of}
use Rattle.ciel_run_line.specs.Line.{FitsIn, StandsIn, files_of}
use Rattle.ciel_run_line.specs.Resuming.{IsBadRecord, IsOwnLog, IsWrittenLog}
use Rattle.ciel_run_line.specs.Runs.{digest_of, plan_of}

sha1_length : (m : List ℕ) → length (sha1 m) ≡ 20
unfolding sha1 digest_bytes
sha1_length m = refl

names_fit : (k : NameKind) → GivesNames (digested (digest_of k))
names_fit NameKind.Sha1 d = inl (sha1_length (canon d))
names_fit NameKind.Sha256 d = inr (length-sha256 (canon d))

-- a script is read within its limit, or generated
short_source : (content : List ℕ → Option (List ℕ)) (f : Option files.Line) (generate : Option ℕ) (source : List ℕ) (inputs : List Input)
    → StandsIn content f generate source inputs → FitsIn f source inputs → length source ≤ 1048576
short_source content (Some f) generate source inputs there fits = fits.0
short_source content None (Some lines) source inputs there fits =
    let e = ap length there.0 in let few : length generator ≤ 1048576 = omega arith in omega (arith, e, few)
short_source content None None source inputs there fits = absurd there

module _ (content : List ℕ → Option (List ℕ)) (w : Words) (sound : LineIsSound w) (g : Gives) (source : List ℕ) (inputs : List Input)
    (there : StandsIn content (files_of w) w.generate source inputs) (fits : FitsIn (files_of w) source inputs) (job : s.Job)
    (script : IsScript source (keys_of inputs) job.script) where
  writable : IsWritable (digest_of w.names) job (plan_of w)
  writable =
      let most : w.workers ≤ 64 = sound.most in
      let few : length w.losses ≤ 64 = sound.few in
      let workers : w.workers < 4294967296 = omega (arith, most) in
      let losses : length w.losses < 4294967296 = omega (arith, few) in
      record {
        script = (source, keys_of inputs, script, short_source content (files_of w) w.generate source inputs there fits);
        names = names_fit w.names;
        workers = workers;
        losses = losses;
      }

  -- so what begins one can be gone on from
  pub own_log : (bytes : List ℕ) → IsWrittenLog g w source inputs job bytes → IsOwnLog g w source inputs job bytes
  own_log bytes b = begins (digest_of w.names) job g (plan_of w) writable (header_of w source inputs) bytes b

  -- and a bad record is one, whether others can be read or not
  pub bad_record : (bytes : List ℕ) (at : ℕ) → IsBadAt (digest_of w.names) job g (plan_of w) (header_of w source inputs) bytes at
      → IsBadRecord g w source inputs job bytes at
  bad_record bytes at b =
      record {
        records = b.records;
        stand = b.stand;
        record_bytes = b.bytes;
        next = b.next;
        here = b.here;
        cause = λ own. b.cause (own_log _ own);
      }

-- what begins such a log has no bad record
pub none_bad : (g : Gives) (w : Words) (source : List ℕ) (inputs : List Input) (job : s.Job) (bytes : List ℕ) (at : ℕ)
    → IsBadRecord g w source inputs job bytes at → IsWrittenLog g w source inputs job bytes → ⊥
none_bad g w source inputs job bytes at bad b =
    bad.cause (record {
      journal = b.journal;
      all = b.all;
      log = b.log;
      short = b.short;
      fit = b.fit;
      long = b.long;
      prefix = cut_prefix bytes b.all bad.next b.prefix;
    })
