-- The bytes of what `check`, `eval` and `made kind=run` write.
use Rattle.std.specs.Prelude.{ℕ, Bool, true, false, List, ◌++◌, codes, length, count_by}
use Rattle.std.specs.Fmt.{decimal, signed_decimal}
use Rattle.std.specs.FinMap as map
use Rattle.loda_semantics.specs.Faults.{fault_text}
use Rattle.loda_semantics.specs.declared.kinds.TheConstants.{OUT_OF_STEPS}
use Rattle.seq_calls.specs.declared.outcomes.Outcome.{Outcome}
use Rattle.seq_calls.specs.declared.outcomes.Outcome.TheVariants.{Value, Fault, OutOfSteps}
use Rattle.judge.specs.declared.answer.Answer.{Answer}
use Rattle.judge.specs.declared.answer.Answer.TheVariants as answers
use Rattle.publish_desk.specs.declared.entry.Entry.{Entry}
use Rattle.evidence.specs.declared.finding.Finding.{Finding}
use Rattle.evidence.specs.declared.finding.Finding.TheVariants.{Nothing, Judged}
use Rattle.loda_mine.specs.declared.files.Contents.{Contents}

-- the end of a line with the number of steps
abbrev pub steps_text : ℕ → List ℕ
steps_text steps = codes " steps " ++ decimal steps ++ codes "\n"

-- what a run came to
unfoldable pub outcome_text : Outcome → List ℕ
outcome_text (Value value steps) = codes "value " ++ signed_decimal value ++ steps_text steps
outcome_text (Fault kind steps) = codes "fault " ++ fault_text kind ++ steps_text steps
outcome_text OutOfSteps = OUT_OF_STEPS.now ++ codes "\n"

-- a line of a word and a count
abbrev pub count_line : List ℕ → ℕ → List ℕ
count_line word count = word ++ decimal count ++ codes "\n"

-- how many rows the table has and how many were skipped, how many programs the store has, and that it is sound
unfoldable pub sound_text : Contents → List ℕ
sound_text contents =
    count_line (codes "rows ") (length contents.terms.rows) ++ count_line (codes "skipped ") contents.terms.skipped
    ++ count_line (codes "programs ") (map.len contents.store) ++ codes "sound\n"

-- whether a proposal was accepted
abbrev pub accepts : Answer → Bool
accepts (answers.Accepted checked) = true
accepts answer = false

-- whether it brought no gain
abbrev pub gains_nothing : Answer → Bool
gains_nothing answers.NoGain = true
gains_nothing answer = false

-- whether an entry has an answer like this
abbrev pub is_answered : (Answer → Bool) → Finding → Bool
is_answered like Nothing = false
is_answered like (Judged proposal answer) = like answer

-- how many entries of a journal have one
abbrev pub count_answered : (Answer → Bool) → List Entry → ℕ
count_answered like journal = count_by (λ (e : Entry). is_answered like e.finding) journal

-- six lines: how many names were made, and of publishing the rows, the entries of its journal, those that were accepted, those that
-- brought no gain, and the version
unfoldable pub summary_text : ℕ → ℕ → List Entry → ℕ → List ℕ
summary_text n rows journal version =
    count_line (codes "made ") n ++ count_line (codes "rows ") rows ++ count_line (codes "jobs ") (length journal)
    ++ count_line (codes "accepted ") (count_answered accepts journal) ++ count_line (codes "no-gain ") (count_answered gains_nothing journal)
    ++ count_line (codes "version ") version
