-- The words of the language.
use Rattle.std.specs.Prelude.{ℕ, List, [], ◌∷◌, map, find, codes, bytes_eq, ◌==◌, if◌then◌else◌, ◌++◌, Option, Some, None, Result, Ok, Err, Bool, false}
use Rattle.std.specs.List.{list_any}
use Rattle.loda_syntax.specs.declared.instr.Verb.{Verb}
use Rattle.loda_syntax.specs.declared.instr.Verb.TheVariants.{Mov, Add, Sub, Trn, Mul, Div, Dif, Mod, Pow, Gcd, Bin, Equ, Neq, Leq, Geq, Min, Max}
use Rattle.loda_syntax.specs.declared.word.Word.{Word}
use Rattle.loda_syntax.specs.declared.word.Word.TheVariants.{Operation, Clear, LoopStart, LoopEnd, Call}
use Rattle.loda_syntax.specs.declared.error.SyntaxKind.{SyntaxKind}
use Rattle.loda_syntax.specs.declared.error.SyntaxKind.TheVariants.{Directive, UnknownOp, Unsupported}

-- the operations, in the order of their table
abbrev pub verbs : List Verb
verbs = Mov ∷ Add ∷ Sub ∷ Trn ∷ Mul ∷ Div ∷ Dif ∷ Mod ∷ Pow ∷ Gcd ∷ Bin ∷ Equ ∷ Neq ∷ Leq ∷ Geq ∷ Min ∷ Max ∷ []

-- the word of an operation
abbrev pub verb_text : Verb → List ℕ
verb_text Mov = codes "mov"
verb_text Add = codes "add"
verb_text Sub = codes "sub"
verb_text Trn = codes "trn"
verb_text Mul = codes "mul"
verb_text Div = codes "div"
verb_text Dif = codes "dif"
verb_text Mod = codes "mod"
verb_text Pow = codes "pow"
verb_text Gcd = codes "gcd"
verb_text Bin = codes "bin"
verb_text Equ = codes "equ"
verb_text Neq = codes "neq"
verb_text Leq = codes "leq"
verb_text Geq = codes "geq"
verb_text Min = codes "min"
verb_text Max = codes "max"

-- the words that begin an instruction
abbrev pub words : List Word
words = map Operation verbs ++ Clear ∷ LoopStart ∷ LoopEnd ∷ Call ∷ []

-- the word as a text has it
abbrev pub word_text : Word → List ℕ
word_text (Operation verb) = verb_text verb
word_text Clear = codes "clr"
word_text LoopStart = codes "lpb"
word_text LoopEnd = codes "lpe"
word_text Call = codes "seq"

-- words of the LODA language that are refused by name
abbrev pub refused : List (List ℕ)
refused = codes "dir" ∷ codes "lex" ∷ codes "fac" ∷ codes "ban" ∷ codes "bor" ∷ codes "bxo" ∷ codes "rol" ∷ codes "ror" ∷ codes "fil" ∷ codes "prg" ∷ codes "cmp" ∷ codes "nrt" ∷ codes "log" ∷ codes "dgs" ∷ codes "dgr" ∷ []

-- the text begins with `#`
abbrev pub is_directive : List ℕ → Bool
is_directive [] = false
is_directive (b ∷ bs) = b == 35

-- the word that was found, or the fault of a text that is none
abbrev pub known : Option Word → List ℕ → Result Word SyntaxKind
known (Some word) text = Ok word
known None text = if list_any (λ other. bytes_eq other text) refused then Err Unsupported else Err UnknownOp

-- the word that a text is, or the first fault of tests 1 to 3: a directive, no word of any table, a word that is refused
unfoldable pub word_read : List ℕ → Result Word SyntaxKind
word_read text = if is_directive text then Err Directive else known (find (λ word. bytes_eq (word_text word) text) words) text
