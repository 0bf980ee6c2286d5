-- What is read of a line is in range.
use Rattle.std.proofs.Common.{◌≡◌, ◌<◌, ◌+◌, ◌^◌, ℕ, zero, suc, ℤ, pos, negsuc, List, [], ◌∷◌, map, Bool, true, false, cond, nat_lt, nat_le, ◌&&◌, nat_eq, refl}
use Rattle.std.specs.Prelude.{Option, Some, None, IfSome, Result, Ok, Err, IfOk, unsigned_abs}
use Rattle.std.specs.List.{filter_map}
use Rattle.std.proofs.lemmas.Bool.{ltb-true, leb-true, and_parts}
use Rattle.loda_syntax.specs.declared.instr.Operand.{Operand}
use Rattle.loda_syntax.specs.declared.instr.Operand.TheVariants.{Constant, Direct, Indirect}
use Rattle.loda_syntax.specs.declared.instr.Instr.{Instr}
use Rattle.loda_syntax.specs.declared.instr.Instr.TheVariants as instr
use Rattle.loda_syntax.specs.declared.operand.Written.{Written}
use Rattle.loda_syntax.specs.declared.operand.Written.TheVariants.{Bad, Wide, Good}
use Rattle.loda_syntax.specs.declared.word.Word.{Word}
use Rattle.loda_syntax.specs.declared.word.Word.TheVariants.{Operation, Clear, LoopStart, LoopEnd, Call}
use Rattle.loda_syntax.specs.declared.error.SyntaxKind.{SyntaxKind}
use Rattle.loda_syntax.specs.declared.error.SyntaxKind.TheVariants as kinds
use Rattle.loda_syntax.specs.WellFormed.{IsSource, IsTarget, IsInstr}
use Rattle.loda_syntax.specs.Lines.{content, word_of, operands_of}
use Rattle.loda_syntax.specs.Words.{word_read}
use Rattle.text_parts.specs.Digits.{number_spelled}
use Rattle.text_parts.specs.Results.{◌>>=◌}
use Rattle.loda_syntax.specs.Grammar.{signed_by, in_memory, cell_of, with_cell, signed_read, after_dollar, operand_read, good_operand, all_read, operands_read, loop_over, clear_of, call_of, instr_read, content_read, of_content, line_read, least_operands, most_operands}
use Rattle.loda_syntax.proofs.Results.{IfOk-bind, IfOk-cond}
use Rattle.text_parts.specs.declared.names.TheConstants.{GREATEST_NAME}
use Rattle.loda_syntax.specs.declared.instr.TheConstants.{MEMORY_CELLS}

-- each operand is in range
abbrev pub Sources : List Operand → Type 0
Sources [] = Unit {0}
Sources (o ∷ os) = IsSource o × Sources os

abbrev IsGood : Written → Type 0
IsGood (Good o) = IsSource o
IsGood other = Unit {0}

abbrev AllGood : List Written → Type 0
AllGood [] = Unit {0}
AllGood (w ∷ ws) = IsGood w × AllGood ws

good_if : (t : Bool) (x y : Written) → IsGood x → IsGood y → IsGood (cond t x y)
good_if true x y a b = a
good_if false x y a b = b

good_test : (t : Bool) (x y : Written) → (t ≡ true → IsGood x) → IsGood y → IsGood (cond t x y)
good_test true x y a b = a refl
good_test false x y a b = b

cell_test : (t : Bool) (c : ℕ) (form : ℕ → Operand) → (t ≡ true → IsSource (form c)) → IsGood (with_cell form (cond t (Some c) None))
cell_test true c form h = h refl
cell_test false c form h = tt

cell_good : (form : ℕ → Operand) → ((c : ℕ) → c < MEMORY_CELLS → IsSource (form c)) → (o : Option ℕ) → IsGood (with_cell form (in_memory o))
cell_good form h None = tt
cell_good form h (Some c) = cell_test (nat_lt c MEMORY_CELLS) c form (λ e. h c (ltb-true c MEMORY_CELLS e))

abs_signed : (minus : Bool) (n : ℕ) → unsigned_abs (signed_by minus n) ≡ n
abs_signed true zero = refl
abs_signed true (suc n) = refl
abs_signed false n = refl

range_good : (minus : Bool) (o : Option ℕ) → IsGood (signed_read minus o)
range_good minus None = tt
range_good minus (Some n) = good_test (nat_lt n (2 ^ 127)) (Good (Constant (signed_by minus n))) Wide (λ e. rw abs_signed (ltb-true n (2 ^ 127) e)) tt

dollar_good : (bs : List ℕ) → IsGood (after_dollar bs)
dollar_good [] = tt
dollar_good (b ∷ bs) =
    good_if (nat_eq b 36) (with_cell Indirect (cell_of bs)) (with_cell Direct (cell_of (b ∷ bs))) (cell_good Indirect (λ c h. h) (number_spelled bs))
    (cell_good Direct (λ c h. h) (number_spelled (b ∷ bs)))

operand_good : (text : List ℕ) → IsGood (operand_read text)
unfolding operand_read
operand_good [] = tt
operand_good (b ∷ bs) =
    good_if (nat_eq b 36) (after_dollar bs) (cond (nat_eq b 45) (signed_read true (number_spelled bs)) (signed_read false (number_spelled (b ∷ bs)))) (dollar_good bs)
    (good_if (nat_eq b 45) (signed_read true (number_spelled bs)) (signed_read false (number_spelled (b ∷ bs))) (range_good true (number_spelled bs)) (range_good false (number_spelled (b ∷ bs))))

map_good : (texts : List (List ℕ)) → AllGood (map operand_read texts)
map_good [] = tt
map_good (text ∷ texts) = (operand_good text, map_good texts)

filter_good : (ws : List Written) → AllGood ws → Sources (filter_map good_operand ws)
filter_good [] h = tt
filter_good (Bad ∷ ws) h = filter_good ws h.1
filter_good (Wide ∷ ws) h = filter_good ws h.1
filter_good (Good o ∷ ws) h = (h.0, filter_good ws h.1)

tests_good : (s t : Bool) (os : List Operand) → Sources os → IfOk (cond s (Err kinds.BadOperand) (cond t (Err kinds.WideLiteral) (Ok os))) Sources
tests_good true t os h = tt
tests_good false true os h = tt
tests_good false false os h = h

pub operands_good : (least most : ℕ) (texts : List (List ℕ)) → IfOk (operands_read least most texts) Sources
unfolding operands_read all_read
operands_good least most texts = tests_good _ _ _ (filter_good (map operand_read texts) (map_good texts))

loop_good : (c : ℕ) (n : ℤ) → IfOk (loop_over c n) IsInstr
loop_good c (pos n) =
    IfOk-cond (nat_le 1 n && nat_le n 64 && nat_le (c + n) MEMORY_CELLS) (instr.LoopStart c n) kinds.BadOperand IsInstr (λ e. let a = and_parts (nat_le 1 n && nat_le n 64) (nat_le (c + n) MEMORY_CELLS) e in
    let b = and_parts (nat_le 1 n) (nat_le n 64) a.0 in
    (leb-true 1 n b.0, leb-true n 64 b.1, leb-true (c + n) MEMORY_CELLS a.1))
loop_good c (negsuc n) = tt

clear_good : (c : ℕ) (n : ℤ) → c < MEMORY_CELLS → IfOk (clear_of c n) IsInstr
clear_good c (pos n) h =
    IfOk-cond (nat_le n 1024 && nat_le (c + n) MEMORY_CELLS) (instr.Clear c n) kinds.BadOperand IsInstr (λ e. let a = and_parts (nat_le n 1024) (nat_le (c + n) MEMORY_CELLS) e in
    (leb-true n 1024 a.0, leb-true (c + n) MEMORY_CELLS a.1, h))
clear_good c (negsuc n) h = tt

call_good : (t : Operand) (n : ℤ) → IsTarget t → IfOk (call_of t n) IsInstr
call_good t (pos n) h =
    IfOk-cond (nat_le 1 n && nat_le n GREATEST_NAME) (instr.Call t n) kinds.BadOperand IsInstr (λ e. let a = and_parts (nat_le 1 n) (nat_le n GREATEST_NAME) e in
    (h, leb-true 1 n a.0, leb-true n GREATEST_NAME a.1))
call_good t (negsuc n) h = tt

pub instr_good : (w : Word) (os : List Operand) → Sources os → IfOk (instr_read w os) IsInstr
unfolding instr_read
instr_good w [] h = tt
instr_good w (Constant v ∷ os) h = tt
instr_good LoopStart (Direct c ∷ []) h = loop_good c (pos 1)
instr_good LoopStart (Direct c ∷ Constant n ∷ os) h = loop_good c n
instr_good LoopStart (Direct c ∷ Direct n ∷ os) h = tt
instr_good LoopStart (Direct c ∷ Indirect n ∷ os) h = tt
instr_good LoopStart (Indirect c ∷ os) h = tt
instr_good Clear (Direct c ∷ []) h = tt
instr_good Clear (Direct c ∷ Constant n ∷ os) h = clear_good c n h.0
instr_good Clear (Direct c ∷ Direct n ∷ os) h = tt
instr_good Clear (Direct c ∷ Indirect n ∷ os) h = tt
instr_good Clear (Indirect c ∷ os) h = tt
instr_good Call (Direct c ∷ []) h = tt
instr_good Call (Indirect c ∷ []) h = tt
instr_good Call (Direct c ∷ Constant n ∷ os) h = call_good (Direct c) n h.0
instr_good Call (Indirect c ∷ Constant n ∷ os) h = call_good (Indirect c) n h.0
instr_good Call (Direct c ∷ Direct n ∷ os) h = tt
instr_good Call (Direct c ∷ Indirect n ∷ os) h = tt
instr_good Call (Indirect c ∷ Direct n ∷ os) h = tt
instr_good Call (Indirect c ∷ Indirect n ∷ os) h = tt
instr_good (Operation v) (Direct c ∷ []) h = tt
instr_good (Operation v) (Indirect c ∷ []) h = tt
instr_good (Operation v) (Direct c ∷ s ∷ os) h = (h.0, h.1.0)
instr_good (Operation v) (Indirect c ∷ s ∷ os) h = (h.0, h.1.0)
instr_good LoopEnd (Direct c ∷ os) h = tt
instr_good LoopEnd (Indirect c ∷ os) h = tt

pub content_good : (text : List ℕ) → IfOk (content_read text) IsInstr
unfolding content_read
content_good text =
    IfOk-bind (word_read (word_of text)) _ (λ w. Unit {0}) IsInstr (IfOk-any (word_read (word_of text)))
    (λ w h. IfOk-bind (operands_read (least_operands w) (most_operands w) (operands_of text)) _ Sources IsInstr (operands_good (least_operands w) (most_operands w) (operands_of text)) (λ os good. instr_good w os good))
  where
    IfOk-any : (r : Result Word SyntaxKind) → IfOk r (λ w. Unit {0})
    IfOk-any (Ok w) = tt
    IfOk-any (Err k) = tt

-- an instruction that a line has is in range
pub line_good : (line : List ℕ) → IfOk (line_read line) (λ o. IfSome o IsInstr)
unfolding line_read
line_good line = by_content (content line)
  where
    some_good : (r : Result Instr SyntaxKind) → IfOk r IsInstr → IfOk (r >>= λ i. Ok (Some i)) (λ o. IfSome o IsInstr)
    some_good (Ok i) h = h
    some_good (Err k) h = tt

    by_content : (text : List ℕ) → IfOk (of_content text) (λ o. IfSome o IsInstr)
    by_content [] = tt
    by_content (b ∷ bs) = some_good (content_read (b ∷ bs)) (content_good (b ∷ bs))
