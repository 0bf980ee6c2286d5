-- Which program is made of a program and of which words.
use Rattle.std.specs.Prelude.{ℕ, zero, suc, ℤ, pos, ◌+◌, ◌^◌, ◌+ℤ◌, ◌-ℤ◌, unsigned_abs, Bool, true, false, List, ◌∷◌, length, slice_index, slice_index_or, slice_set, insert, remove, nat_lt, ◌==◌, if◌then◌else◌}
use Rattle.rand_core.specs.Stream.{Stream}
use Rattle.word_stream.specs.Words.{below, rest}
use Rattle.loda_syntax.specs.declared.instr.Operand.TheVariants.{Constant, Direct}
use Rattle.loda_syntax.specs.declared.instr.Instr.{Instr}
use Rattle.loda_syntax.specs.declared.instr.Instr.TheVariants.{Arith, LoopStart, LoopEnd, Call}
use Rattle.generator.specs.Arithmetic.{verb_at, drawn_arithmetic}
use Rattle.loda_syntax.specs.declared.instr.TheConstants.{MOST_INSTRS}

-- an arithmetic instruction whose verb is drawn too, and the words that are left
abbrev pub drawn_instr : Stream → Instr × Stream
drawn_instr words = drawn_arithmetic (verb_at (below 12 words)) (rest words)

-- Each of these four changes one instruction, and gives the words that are left. An instruction of another kind stays,
-- and no word is taken for it.

-- an arithmetic instruction is drawn anew
abbrev pub redrawn : Instr → Stream → Instr × Stream
redrawn (Arith verb target source) words = drawn_instr words
redrawn instr words = (instr, words)

-- the number one higher for e = 1, one lower for e = 0; where that is out of the number range it stays
abbrev pub moved : ℕ → ℤ → ℤ
moved e value =
    let next = (if e == 1 then value +ℤ pos 1 else value -ℤ pos 1) in
    if nat_lt (unsigned_abs next) (2 ^ 127) then next else value

-- a constant source is moved by one
abbrev pub nudged : Instr → Stream → Instr × Stream
nudged (Arith verb target (Constant value)) words = (Arith verb target (Constant (moved (below 2 words) value)), rest words)
nudged instr words = (instr, words)

-- an arithmetic instruction's target becomes one of the first four cells
abbrev pub retargeted : Instr → Stream → Instr × Stream
retargeted (Arith verb target source) words = (Arith verb (Direct (below 4 words)) source, rest words)
retargeted instr words = (instr, words)

-- a call's name becomes one of the names, where there is one
abbrev pub renamed : List ℕ → Instr → Stream → Instr × Stream
renamed (n ∷ ns) (Call target name) words = (Call target (slice_index (n ∷ ns) (below (length (n ∷ ns)) words)), rest words)
renamed names instr words = (instr, words)

-- the same by the change's number m, which is neither 1 nor 2
abbrev pub changed_instr : ℕ → List ℕ → Instr → Stream → Instr × Stream
changed_instr m names instr words =
    if m == 0 then redrawn instr words
    else if m == 3 then nudged instr words
    else if m == 4 then retargeted instr words
    else renamed names instr words

-- begins or ends a loop
abbrev pub is_bracket : Instr → Bool
is_bracket (LoopStart start len) = true
is_bracket LoopEnd = true
is_bracket instr = false

-- change m of the list at a place, and the words that are left: for m = 2 the instruction is taken out, unless it
-- begins or ends a loop
abbrev pub changed_at : ℕ → List ℕ → List Instr → ℕ → Stream → List Instr × Stream
changed_at m names list place words =
    let instr = slice_index_or list place LoopEnd in
    if m == 2 then ((if is_bracket instr then list else remove list place), words)
    else
    let new = changed_instr m names instr words in
    (slice_set list place new.0, new.1)

-- an instruction is put before a place or at the end, where there is room
abbrev pub lengthened : List Instr → Stream → List Instr × Stream
lengthened list words =
    if length list == MOST_INSTRS then (list, words)
    else
    let new = drawn_instr (rest words) in
    (insert list (below (length list + 1) words) new.0, new.1)

-- one change, whose number is drawn first
abbrev pub changed : List ℕ → List Instr → Stream → List Instr × Stream
changed names list words =
    let m = below 6 words in
    let after = rest words in
    if m == 1 then lengthened list after
    else if length list == 0 then (list, after)
    else changed_at m names list (below (length list) after) (rest after)

-- this many changes
abbrev pub changes : ℕ → List ℕ → List Instr → Stream → List Instr × Stream
changes zero names list words = (list, words)
changes (suc count) names list words =
    let first = changed names list words in
    changes count names first.0 first.1

-- the instructions of the program that is made, and the words that are left
abbrev pub mutated : List ℕ → List Instr → Stream → List Instr × Stream
mutated names list words = changes (suc (below 3 words)) names list (rest words)
