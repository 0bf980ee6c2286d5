use Rattle.std.proofs.Common.{◌≡◌, ap, ◌∙◌, rules}
use Rattle.rand_core.specs.Steps.{stream_of, steps_u32}
use Rattle.rand_chacha.specs.ChaCha.{ChaCha, next_word}
use Rattle.word_stream.specs.Words.{word}
use Rattle.word_stream.specs.Jobs.{job_source}
use Rattle.word_stream.proofs.WordsOf.{word-job_words}
use Rattle.word_stream.proofs.draws.job_draws.Goals as goal

pub returns-clause-stream : goal.returns-clause-stream
returns-clause-stream c =
    let made : c.new.result ≡ job_source c.args.seed c.args.job = search rules in
    ap (λ (source : ChaCha). stream_of (steps_u32 (next_word 4)) source) made

pub returns-clause-words : goal.returns-clause-words
returns-clause-words c =
    let made : c.new.result ≡ job_source c.args.seed c.args.job = search rules in
    λ k small. ap (λ (source : ChaCha). word k (stream_of (steps_u32 (next_word 4)) source)) made
    ∙ word-job_words c.args.seed c.args.job k small
