-- The words of faults.
use Rattle.std.specs.Prelude.{ℕ, List, codes}
use Rattle.loda_semantics.specs.declared.kinds.FaultKind.{FaultKind}
use Rattle.loda_semantics.specs.declared.kinds.FaultKind.TheVariants.{Overflow, DivideByZero, BadCell, Missing}

-- the word that outputs have for a fault
abbrev pub fault_text : FaultKind → List ℕ
fault_text Overflow = codes "overflow"
fault_text DivideByZero = codes "divide-by-zero"
fault_text BadCell = codes "bad-cell"
fault_text Missing = codes "missing"
