-- The bytes of the report of a journal.
use Rattle.std.specs.Prelude.{ℕ, List, [], ◌∷◌, ◌++◌, length, codes, ℤ}
use Rattle.std.specs.Fmt.{decimal, signed_decimal}
use Rattle.loda_syntax.specs.Canon.{canon}
use Rattle.loda_semantics.specs.declared.kinds.FaultKind.TheVariants as kind
use Rattle.loda_semantics.specs.Faults.{fault_text}
use Rattle.loda_semantics.specs.declared.kinds.TheConstants.{OUT_OF_STEPS}
use Rattle.program_store.specs.Store.{Store}
use Rattle.text_parts.specs.Names.{name_text}
use Rattle.program_store.specs.StoreText.{store_text}
use Rattle.judge.specs.declared.answer.Got.{Got}
use Rattle.judge.specs.declared.answer.Got.TheVariants as got
use Rattle.judge.specs.declared.answer.Answer.{Answer}
use Rattle.judge.specs.declared.answer.Answer.TheVariants.{Accepted, Unlisted, Cycle, WrongTerm, BrokenDependant, Costlier, NoGain}
use Rattle.evidence.specs.declared.finding.Finding.{Finding}
use Rattle.evidence.specs.declared.finding.Finding.TheVariants.{Nothing, Judged}
use Rattle.publish_desk.specs.declared.entry.Entry.{Entry}

-- a value, or the word of what came in its place
abbrev pub got_text : Got → List ℕ
got_text (got.Value v) = signed_decimal v
got_text got.Overflow = fault_text kind.Overflow
got_text got.DivideByZero = fault_text kind.DivideByZero
got_text got.BadCell = fault_text kind.BadCell
got_text got.Missing = fault_text kind.Missing
got_text got.OutOfSteps = OUT_OF_STEPS.now

-- the demanded argument that is no longer answered, the least caller, and the two outcomes
abbrev pub broken_text : ℤ → ℕ → ℕ → ℤ → Got → List ℕ
broken_text at caller index was now =
    codes "broken " ++ signed_decimal at ++ (codes " caller " ++ name_text caller) ++ (codes " index " ++ decimal index)
    ++ (codes " was " ++ signed_decimal was) ++ (codes " now " ++ got_text now)

-- the argument that takes more steps, and the two numbers of steps
abbrev pub costlier_text : ℤ → ℕ → ℕ → List ℕ
costlier_text at was now = codes "costlier " ++ signed_decimal at ++ (codes " was " ++ decimal was) ++ (codes " now " ++ decimal now)

-- the words of an answer
unfoldable pub answer_text : Answer → List ℕ
answer_text (Accepted checked) = codes "accepted " ++ decimal checked
answer_text Unlisted = codes "unlisted"
answer_text (Cycle through) = codes "cycle " ++ name_text through
answer_text (WrongTerm index got) = codes "wrong " ++ decimal index ++ (codes " got " ++ got_text got)
answer_text (BrokenDependant at caller index was now) = broken_text at caller index was now
answer_text (Costlier at was now) = costlier_text at was now
answer_text NoGain = codes "no-gain"

-- what was found: nothing, or the proposal's name, its answer, and its program
unfoldable pub finding_text : Finding → List ℕ
finding_text Nothing = codes "none\n"
finding_text (Judged proposal answer) = name_text proposal.name ++ codes " " ++ answer_text answer ++ codes "\n" ++ canon proposal.program

-- an entry's line, and the program that was proposed
unfoldable pub entry_text : Entry → List ℕ
entry_text e = codes "job " ++ decimal e.job ++ (codes " base " ++ decimal e.base) ++ codes " " ++ finding_text e.finding

-- entries, one after the other
unfoldable pub entries_text : List Entry → List ℕ
entries_text [] = []
entries_text (e ∷ es) = entry_text e ++ entries_text es

-- the last line
abbrev pub end_text : ℕ → ℕ → List ℕ
end_text jobs version = codes "end jobs " ++ decimal jobs ++ (codes " version " ++ decimal version) ++ codes "\n"

-- The report: the entries in the order in which they came, the store, and the numbers of entries and of accepted ones.
unfoldable pub report : List Entry → ℕ → Store → List ℕ
report journal version store =
    codes "journal\n" ++ entries_text journal ++ codes "store\n" ++ store_text store ++ end_text (length journal) version
