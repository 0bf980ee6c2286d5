-- The canonical text of a program reads as that program.
use Rattle.std.proofs.Common.{◌≡◌, ◌<◌, ◌≤◌, ◌+◌, ◌*◌, ◌-◌, ◌^◌, ℕ, zero, suc, List, [], ◌∷◌, ◌++◌, length, map, Bool, true, false, nat_eq, refl, sym, ap, ◌∙◌, subst, arith, append_assoc, length-append, All}
use Rattle.std.specs.Prelude.{pos, negsuc, Some, None, Ok, replicate, ◌==◌}
use Rattle.std.specs.List.{slice_split, before_first}
use Rattle.std.specs.Fmt.{decimal}
use Rattle.std.proofs.lemmas.Bool.{ne_eqb, lt-ltb, le-leb, eqb-true}
use Rattle.std.proofs.lemmas.List.{append-nil}
use Rattle.std.proofs.lemmas.List.Elements.{All-head, All-tail}
use Rattle.loda_syntax.specs.declared.instr.Verb.{Verb}
use Rattle.loda_syntax.specs.declared.instr.Verb.TheVariants as verb
use Rattle.loda_syntax.specs.declared.instr.Operand.{Operand}
use Rattle.loda_syntax.specs.declared.instr.Operand.TheVariants.{Constant, Direct, Indirect}
use Rattle.loda_syntax.specs.declared.instr.Instr.{Instr}
use Rattle.loda_syntax.specs.declared.instr.Instr.TheVariants.{Arith, Clear, LoopStart, LoopEnd, Call}
use Rattle.loda_syntax.specs.declared.operand.Written.TheVariants.{Good}
use Rattle.loda_syntax.specs.declared.word.Word.{Word}
use Rattle.loda_syntax.specs.declared.word.Word.TheVariants as word
use Rattle.loda_syntax.specs.WellFormed.{IsSource, IsTarget, IsInstr, IsProgram, IsBalanced}
use Rattle.loda_syntax.specs.Programs.{Text}
use Rattle.loda_syntax.specs.Words.{word_read, word_text}
use Rattle.text_parts.specs.Blanks.{is_blank, trim, without_return}
use Rattle.loda_syntax.specs.Lines.{text_lines, content, word_of, operands_of, cut_operands}
use Rattle.text_parts.specs.Digits.{number_spelled}
use Rattle.loda_syntax.specs.Grammar.{in_memory, with_cell, signed_read, operand_read, least_operands, most_operands, all_read, operands_read, loop_over, clear_of, call_of, instr_read, content_read, of_content, line_read}
use Rattle.loda_syntax.specs.Reading.{Draft, draft_of, open_after, with_line, fault_at, with_lines, empty_draft, text_read}
use Rattle.loda_syntax.specs.Canon.{operand_text, operand_texts, instr_word, instr_operands, instr_text, depth_at, depth_after, line_text, lines_text, canon}
use Rattle.loda_syntax.proofs.Operands.{comma}
use Rattle.loda_syntax.proofs.Drafts.{with_one, some_instr, no_instr, one_line}
use Rattle.loda_syntax.proofs.Bytes.{No, No-plain, before_all, before_here, after_here, split_here, split_all, IsPlain, Plain, plain_by_test, plain_blank, IsDecimal, decimal_is, IsEdged, edged_plain, trim_edged, trim_indented, Inner, Inner-append, Inner-plain, Inner-spaces, inner_space, inner_comma, No-newline, No-semicolon, return_kept}
use Rattle.text_parts.specs.declared.names.TheConstants.{GREATEST_NAME}
use Rattle.loda_syntax.specs.declared.instr.TheConstants.{MEMORY_CELLS, MOST_INSTRS}

-- ---- operands

first_is_digit : (b k : ℕ) → 48 ≤ b → k < 48 → nat_eq b k ≡ false
first_is_digit b k le lt = ne_eqb b k (λ e. omega arith)

constant_back : (n : ℕ) (ds : List ℕ) → IsDecimal n ds → operand_read ds ≡ signed_read false (Some n)
unfolding operand_read
constant_back n ds d =
    let dollar = first_is_digit d.first 36 d.low (omega arith) in
    let dash = first_is_digit d.first 45 d.low (omega arith) in
    let value : number_spelled (d.first ∷ d.rest) ≡ Some n = ap number_spelled (sym d.cut) ∙ d.value in
    rw (d.cut, dollar, dash, value) refl

minus_back : (n : ℕ) (ds : List ℕ) → IsDecimal n ds → operand_read (45 ∷ ds) ≡ signed_read true (Some n)
unfolding operand_read
minus_back n ds d = rw d.value refl

direct_back : (c : ℕ) (ds : List ℕ) → IsDecimal c ds → operand_read (36 ∷ ds) ≡ with_cell Direct (in_memory (Some c))
unfolding operand_read
direct_back c ds d =
    let dollar = first_is_digit d.first 36 d.low (omega arith) in
    let value : number_spelled (d.first ∷ d.rest) ≡ Some c = ap number_spelled (sym d.cut) ∙ d.value in
    rw (d.cut, dollar, value) refl

indirect_back : (c : ℕ) (ds : List ℕ) → IsDecimal c ds → operand_read (36 ∷ 36 ∷ ds) ≡ with_cell Indirect (in_memory (Some c))
unfolding operand_read
indirect_back c ds d = rw d.value refl

pub operand_back : (o : Operand) → IsSource o → operand_read (operand_text o) ≡ Good o
operand_back (Constant (pos n)) h = constant_back n (decimal n) (decimal_is n (omega arith)) ∙ rw (lt-ltb n (2 ^ 127) h) refl
operand_back (Constant (negsuc n)) h = minus_back (suc n) (decimal (suc n)) (decimal_is (suc n) (omega arith)) ∙ rw (lt-ltb (suc n) (2 ^ 127) h) refl
operand_back (Direct c) h = direct_back c (decimal c) (decimal_is c (omega arith)) ∙ rw (lt-ltb c MEMORY_CELLS h) refl
operand_back (Indirect c) h = indirect_back c (decimal c) (decimal_is c (omega arith)) ∙ rw (lt-ltb c MEMORY_CELLS h) refl

plain_dollar : IsPlain 36
plain_dollar = record { high = omega arith; no_comma = λ e. omega arith; no_semicolon = λ e. omega arith }

plain_dash : IsPlain 45
plain_dash = record { high = omega arith; no_comma = λ e. omega arith; no_semicolon = λ e. omega arith }

pub operand_plain : (o : Operand) → IsSource o → Plain (operand_text o)
operand_plain (Constant (pos n)) h = (decimal_is n (omega arith)).plain
operand_plain (Constant (negsuc n)) h = (plain_dash, (decimal_is (suc n) (omega arith)).plain)
operand_plain (Direct c) h = (plain_dollar, (decimal_is c (omega arith)).plain)
operand_plain (Indirect c) h = (plain_dollar, (plain_dollar, (decimal_is c (omega arith)).plain))

decimal_there : (n : ℕ) (ds : List ℕ) → IsDecimal n ds → 0 < length ds
decimal_there n ds d = rw d.cut (omega arith)

pub operand_there : (o : Operand) → IsSource o → 0 < length (operand_text o)
operand_there (Constant (pos n)) h = decimal_there n (decimal n) (decimal_is n (omega arith))
operand_there (Constant (negsuc n)) h = omega arith
operand_there (Direct c) h = omega arith
operand_there (Indirect c) h = omega arith

-- ---- words

word_plain : (w : Word) → Plain (word_text w)
word_plain (word.Operation verb.Mov) = plain_by_test (word_text (word.Operation verb.Mov)) refl
word_plain (word.Operation verb.Add) = plain_by_test (word_text (word.Operation verb.Add)) refl
word_plain (word.Operation verb.Sub) = plain_by_test (word_text (word.Operation verb.Sub)) refl
word_plain (word.Operation verb.Trn) = plain_by_test (word_text (word.Operation verb.Trn)) refl
word_plain (word.Operation verb.Mul) = plain_by_test (word_text (word.Operation verb.Mul)) refl
word_plain (word.Operation verb.Div) = plain_by_test (word_text (word.Operation verb.Div)) refl
word_plain (word.Operation verb.Dif) = plain_by_test (word_text (word.Operation verb.Dif)) refl
word_plain (word.Operation verb.Mod) = plain_by_test (word_text (word.Operation verb.Mod)) refl
word_plain (word.Operation verb.Pow) = plain_by_test (word_text (word.Operation verb.Pow)) refl
word_plain (word.Operation verb.Gcd) = plain_by_test (word_text (word.Operation verb.Gcd)) refl
word_plain (word.Operation verb.Bin) = plain_by_test (word_text (word.Operation verb.Bin)) refl
word_plain (word.Operation verb.Equ) = plain_by_test (word_text (word.Operation verb.Equ)) refl
word_plain (word.Operation verb.Neq) = plain_by_test (word_text (word.Operation verb.Neq)) refl
word_plain (word.Operation verb.Leq) = plain_by_test (word_text (word.Operation verb.Leq)) refl
word_plain (word.Operation verb.Geq) = plain_by_test (word_text (word.Operation verb.Geq)) refl
word_plain (word.Operation verb.Min) = plain_by_test (word_text (word.Operation verb.Min)) refl
word_plain (word.Operation verb.Max) = plain_by_test (word_text (word.Operation verb.Max)) refl
word_plain word.Clear = plain_by_test (word_text word.Clear) refl
word_plain word.LoopStart = plain_by_test (word_text word.LoopStart) refl
word_plain word.LoopEnd = plain_by_test (word_text word.LoopEnd) refl
word_plain word.Call = plain_by_test (word_text word.Call) refl

word_there : (w : Word) → 0 < length (word_text w)
word_there (word.Operation verb.Mov) = omega arith
word_there (word.Operation verb.Add) = omega arith
word_there (word.Operation verb.Sub) = omega arith
word_there (word.Operation verb.Trn) = omega arith
word_there (word.Operation verb.Mul) = omega arith
word_there (word.Operation verb.Div) = omega arith
word_there (word.Operation verb.Dif) = omega arith
word_there (word.Operation verb.Mod) = omega arith
word_there (word.Operation verb.Pow) = omega arith
word_there (word.Operation verb.Gcd) = omega arith
word_there (word.Operation verb.Bin) = omega arith
word_there (word.Operation verb.Equ) = omega arith
word_there (word.Operation verb.Neq) = omega arith
word_there (word.Operation verb.Leq) = omega arith
word_there (word.Operation verb.Geq) = omega arith
word_there (word.Operation verb.Min) = omega arith
word_there (word.Operation verb.Max) = omega arith
word_there word.Clear = omega arith
word_there word.LoopStart = omega arith
word_there word.LoopEnd = omega arith
word_there word.Call = omega arith

word_back : (w : Word) → word_read (word_text w) ≡ Ok w
unfolding word_read
word_back (word.Operation verb.Mov) = refl
word_back (word.Operation verb.Add) = refl
word_back (word.Operation verb.Sub) = refl
word_back (word.Operation verb.Trn) = refl
word_back (word.Operation verb.Mul) = refl
word_back (word.Operation verb.Div) = refl
word_back (word.Operation verb.Dif) = refl
word_back (word.Operation verb.Mod) = refl
word_back (word.Operation verb.Pow) = refl
word_back (word.Operation verb.Gcd) = refl
word_back (word.Operation verb.Bin) = refl
word_back (word.Operation verb.Equ) = refl
word_back (word.Operation verb.Neq) = refl
word_back (word.Operation verb.Leq) = refl
word_back (word.Operation verb.Geq) = refl
word_back (word.Operation verb.Min) = refl
word_back (word.Operation verb.Max) = refl
word_back word.Clear = refl
word_back word.LoopStart = refl
word_back word.LoopEnd = refl
word_back word.Call = refl

-- ---- contents

-- one operand or two, as they stand behind the word
abbrev one_text : Operand → List ℕ
one_text a = operand_text a

abbrev two_text : Operand → Operand → List ℕ
two_text a b = operand_text a ++ 44 ∷ operand_text b

two_edged : (a b : Operand) → IsSource a → IsSource b → IsEdged (two_text a b)
two_edged a b h k = let sign : List ℕ = 44 ∷ [] in record {
  head = operand_text a;
  after = 44 ∷ operand_text b;
  from_head = refl;
  head_plain = operand_plain a h;
  head_there = operand_there a h;
  before = operand_text a ++ sign;
  last = operand_text b;
  to_last = sym (append_assoc (operand_text a) sign (operand_text b));
  last_plain = operand_plain b k;
  last_there = operand_there b k;
}

-- the word and the operands of a content
record IsContent (text : List ℕ) (w : Word) (os : List Operand) : Type 0 where
  edged : IsEdged text
  word_is : word_of text ≡ word_text w
  operands_are : operands_read (least_operands w) (most_operands w) (operands_of text) ≡ Ok os
  inner : Inner text

words_apart : (w : Word) → No is_blank (word_text w)
words_apart w = No-plain is_blank plain_blank (word_text w) (word_plain w)

comma_apart : (o : Operand) → IsSource o → No comma (operand_text o)
comma_apart o h = No-plain comma (λ b p. ne_eqb b 44 p.no_comma) (operand_text o) (operand_plain o h)

-- a word alone
alone : IsContent (word_text word.LoopEnd) word.LoopEnd []
unfolding operands_read all_read cut_operands trim
alone = record {
  edged = edged_plain (word_text word.LoopEnd) (word_plain word.LoopEnd) (word_there word.LoopEnd);
  word_is = before_all is_blank (word_text word.LoopEnd) (words_apart word.LoopEnd);
  operands_are = refl;
  inner = Inner-plain (word_text word.LoopEnd) (word_plain word.LoopEnd);
}

edged_after : (w : Word) (rest : List ℕ) → IsEdged rest → IsEdged (word_text w ++ 32 ∷ rest)
edged_after w rest e = let front : List ℕ = word_text w ++ 32 ∷ [] in record {
  head = word_text w;
  after = 32 ∷ rest;
  from_head = refl;
  head_plain = word_plain w;
  head_there = word_there w;
  before = front ++ e.before;
  last = e.last;
  to_last = ap (λ (t : List ℕ). word_text w ++ 32 ∷ t) e.to_last ∙ sym (append_assoc (word_text w) (32 ∷ e.before) e.last) ∙ ap (λ (t : List ℕ). t ++ e.last) (sym (append_assoc (word_text w) (32 ∷ []) e.before));
  last_plain = e.last_plain;
  last_there = e.last_there;
}

rest_of_word : (w : Word) (rest : List ℕ) → IsEdged rest → operands_of (word_text w ++ 32 ∷ rest) ≡ cut_operands rest
rest_of_word w rest e = ap (λ (t : List ℕ). cut_operands (trim t)) (after_here is_blank (word_text w) 32 rest (words_apart w) refl) ∙ ap cut_operands (trim_edged rest e)

cut_one : (a : Operand) → IsSource a → (text : List ℕ) → text ≡ operand_text a → cut_operands text ≡ operand_text a ∷ []
unfolding cut_operands
cut_one a h [] e = let lt = operand_there a h in let z : 0 < 0 = rw (← e) at lt in absurd (omega arith)
cut_one a h (b ∷ bs) e =
    let parts : slice_split comma (b ∷ bs) ≡ operand_text a ∷ [] = ap (slice_split comma) e ∙ split_all comma (operand_text a) (comma_apart a h) in
    ap (map trim) parts ∙ ap (λ (t : List ℕ). t ∷ []) (trim_edged (operand_text a) (edged_plain (operand_text a) (operand_plain a h) (operand_there a h)))

cut_two : (a b : Operand) → IsSource a → IsSource b → (text : List ℕ) → text ≡ two_text a b → cut_operands text ≡ operand_text a ∷ operand_text b ∷ []
unfolding cut_operands
cut_two a b h k [] e = let lt : 0 < length (two_text a b) = simp length-append (omega (arith, operand_there a h)) in let z : 0 < 0 = rw (← e) at lt in absurd (omega arith)
cut_two a b h k (c ∷ cs) e =
    let parts : slice_split comma (c ∷ cs) ≡ operand_text a ∷ operand_text b ∷ [] =
    ap (slice_split comma) e ∙ split_here comma (operand_text a) 44 (operand_text b) (comma_apart a h) refl ∙ ap (λ (ts : List (List ℕ)). operand_text a ∷ ts) (split_all comma (operand_text b) (comma_apart b k)) in
    let one = trim_edged (operand_text a) (edged_plain (operand_text a) (operand_plain a h) (operand_there a h)) in
    let two = trim_edged (operand_text b) (edged_plain (operand_text b) (operand_plain b k) (operand_there b k)) in
    ap (map trim) parts ∙ rw (one, two) refl

read_one : (a : Operand) → IsSource a → operands_read 1 2 (operand_text a ∷ []) ≡ Ok (a ∷ [])
unfolding operands_read all_read
read_one a h = rw (operand_back a h) refl

read_two : (a b : Operand) → IsSource a → IsSource b → operands_read 2 2 (operand_text a ∷ operand_text b ∷ []) ≡ Ok (a ∷ b ∷ [])
unfolding operands_read all_read
read_two a b h k = rw (operand_back a h, operand_back b k) refl

read_either : (a b : Operand) → IsSource a → IsSource b → operands_read 1 2 (operand_text a ∷ operand_text b ∷ []) ≡ Ok (a ∷ b ∷ [])
unfolding operands_read all_read
read_either a b h k = rw (operand_back a h, operand_back b k) refl

with_one_operand : (a : Operand) → IsSource a → IsContent (word_text word.LoopStart ++ 32 ∷ one_text a) word.LoopStart (a ∷ [])
with_one_operand a h =
    let e = edged_plain (operand_text a) (operand_plain a h) (operand_there a h) in
    record {
      edged = edged_after word.LoopStart (one_text a) e;
      word_is = before_here is_blank (word_text word.LoopStart) 32 (one_text a) (words_apart word.LoopStart) refl;
      operands_are = ap (operands_read 1 2) (rest_of_word word.LoopStart (one_text a) e ∙ cut_one a h (one_text a) refl) ∙ read_one a h;
      inner = Inner-append (word_text word.LoopStart) (32 ∷ one_text a) (Inner-plain (word_text word.LoopStart) (word_plain word.LoopStart)) (inner_space, Inner-plain (operand_text a) (operand_plain a h));
    }

with_two_operands : (w : Word) (a b : Operand) → IsSource a → IsSource b → operands_read (least_operands w) (most_operands w) (operand_text a ∷ operand_text b ∷ []) ≡ Ok (a ∷ b ∷ []) → IsContent (word_text w ++ 32 ∷ two_text a b) w (a ∷ b ∷ [])
with_two_operands w a b h k read =
    let e = two_edged a b h k in
    record {
      edged = edged_after w (two_text a b) e;
      word_is = before_here is_blank (word_text w) 32 (two_text a b) (words_apart w) refl;
      operands_are = ap (operands_read (least_operands w) (most_operands w)) (rest_of_word w (two_text a b) e ∙ cut_two a b h k (two_text a b) refl) ∙ read;
      inner = Inner-append (word_text w) (32 ∷ two_text a b) (Inner-plain (word_text w) (word_plain w)) (inner_space, Inner-append (operand_text a) (44 ∷ operand_text b) (Inner-plain (operand_text a) (operand_plain a h)) (inner_comma, Inner-plain (operand_text b) (operand_plain b k)));
    }

-- the text of an instruction as a content
record IsWritten (i : Instr) : Type 0 where
  is : IsContent (instr_text i) (instr_word i) (instr_operands i)
  back : instr_read (instr_word i) (instr_operands i) ≡ Ok i

two_texts : (w : Word) (a b : Operand) → word_text w ++ operand_texts 32 (a ∷ b ∷ []) ≡ word_text w ++ 32 ∷ two_text a b
two_texts w a b = ap (λ (t : List ℕ). word_text w ++ 32 ∷ (operand_text a ++ 44 ∷ t)) (append-nil (operand_text b))

one_texts : (w : Word) (a : Operand) → word_text w ++ operand_texts 32 (a ∷ []) ≡ word_text w ++ 32 ∷ one_text a
one_texts w a = ap (λ (t : List ℕ). word_text w ++ 32 ∷ t) (append-nil (operand_text a))

with_two : (i : Instr) (w : Word) (a b : Operand) → instr_word i ≡ w → instr_operands i ≡ a ∷ b ∷ [] → IsSource a → IsSource b → operands_read (least_operands w) (most_operands w) (operand_text a ∷ operand_text b ∷ []) ≡ Ok (a ∷ b ∷ []) → instr_read w (a ∷ b ∷ []) ≡ Ok i → IsWritten i
unfolding instr_text
with_two i w a b word_is operands_are h k read back = record {
  is = rw (word_is, operands_are) (subst (λ (t : List ℕ). IsContent t w (a ∷ b ∷ [])) (sym (two_texts w a b)) (with_two_operands w a b h k read));
  back = rw (word_is, operands_are) back;
}

arith_written : (v : Verb) (t s : Operand) → IsTarget t → IsSource s → IsWritten (Arith v t s)
unfolding instr_read
arith_written v (Constant n) s h k = absurd h
arith_written v (Direct c) s h k = with_two (Arith v (Direct c) s) (word.Operation v) (Direct c) s refl refl h k (read_two (Direct c) s h k) refl
arith_written v (Indirect c) s h k = with_two (Arith v (Indirect c) s) (word.Operation v) (Indirect c) s refl refl h k (read_two (Indirect c) s h k) refl

call_back : (t : Operand) (q : ℕ) → 1 ≤ q → q ≤ GREATEST_NAME → call_of t (pos q) ≡ Ok (Call t q)
call_back t q low high = rw (le-leb 1 q low, le-leb q GREATEST_NAME high) refl

call_written : (t : Operand) (q : ℕ) → IsTarget t → 1 ≤ q → q ≤ GREATEST_NAME → IsWritten (Call t q)
unfolding instr_read
call_written (Constant n) q h low high = absurd h
call_written (Direct c) q h low high = let s : q < 2 ^ 127 = omega arith in with_two (Call (Direct c) q) word.Call (Direct c) (Constant (pos q)) refl refl h s (read_two (Direct c) (Constant (pos q)) h s) (call_back (Direct c) q low high)
call_written (Indirect c) q h low high = let s : q < 2 ^ 127 = omega arith in with_two (Call (Indirect c) q) word.Call (Indirect c) (Constant (pos q)) refl refl h s (read_two (Indirect c) (Constant (pos q)) h s) (call_back (Indirect c) q low high)

clear_back : (c n : ℕ) → n ≤ 1024 → c + n ≤ MEMORY_CELLS → clear_of c (pos n) ≡ Ok (Clear c n)
clear_back c n most end = rw (le-leb n 1024 most, le-leb (c + n) MEMORY_CELLS end) refl

loop_back : (c n : ℕ) → 1 ≤ n → n ≤ 64 → c + n ≤ MEMORY_CELLS → loop_over c (pos n) ≡ Ok (LoopStart c n)
loop_back c n low high end = rw (le-leb 1 n low, le-leb n 64 high, le-leb (c + n) MEMORY_CELLS end) refl

clear_written : (c n : ℕ) → n ≤ 1024 → c + n ≤ MEMORY_CELLS → c < MEMORY_CELLS → IsWritten (Clear c n)
unfolding instr_read
clear_written c n most end cell = let s : n < 2 ^ 127 = omega arith in with_two (Clear c n) word.Clear (Direct c) (Constant (pos n)) refl refl cell s (read_two (Direct c) (Constant (pos n)) cell s) (clear_back c n most end)

loop_of_one : (c : ℕ) → c + 1 ≤ MEMORY_CELLS → IsWritten (LoopStart c 1)
unfolding instr_read instr_text
loop_of_one c end = let cell : c < MEMORY_CELLS = omega arith in record {
  is = subst (λ (t : List ℕ). IsContent t word.LoopStart (Direct c ∷ [])) (sym (one_texts word.LoopStart (Direct c))) (with_one_operand (Direct c) cell);
  back = loop_back c 1 (omega arith) (omega arith) end;
}

loop_of_more : (c n : ℕ) → nat_eq n 1 ≡ false → 1 ≤ n → n ≤ 64 → c + n ≤ MEMORY_CELLS → IsWritten (LoopStart c n)
unfolding instr_read
loop_of_more c n e low high end =
    let cell : c < MEMORY_CELLS = omega arith in
    let s : n < 2 ^ 127 = omega arith in
    with_two (LoopStart c n) word.LoopStart (Direct c) (Constant (pos n)) refl (rw e refl) cell s (read_either (Direct c) (Constant (pos n)) cell s) (loop_back c n low high end)

loop_by : (c n : ℕ) → (b : Bool) → nat_eq n 1 ≡ b → 1 ≤ n → n ≤ 64 → c + n ≤ MEMORY_CELLS → IsWritten (LoopStart c n)
loop_by c n true e low high end = let one : 1 ≡ n = sym (eqb-true n 1 e) in subst (λ (k : ℕ). IsWritten (LoopStart c k)) one (loop_of_one c (omega arith))
loop_by c n false e low high end = loop_of_more c n e low high end

end_written : IsWritten LoopEnd
unfolding instr_read instr_text
end_written = record { is = subst (λ (t : List ℕ). IsContent t word.LoopEnd []) (sym (append-nil (word_text word.LoopEnd))) alone; back = refl }

written : (i : Instr) → IsInstr i → IsWritten i
written (Arith v t s) h = arith_written v t s h.0 h.1
written (Clear c n) h = clear_written c n h.0 h.1 h.2
written (LoopStart c n) h = loop_by c n (nat_eq n 1) refl h.0 h.1 h.2
written LoopEnd h = end_written
written (Call t q) h = call_written t q h.0 h.1 h.2

-- ---- lines

by_parts : (text : List ℕ) (w : Word) (os : List Operand) → IsContent text w os → content_read text ≡ instr_read w os
unfolding content_read
by_parts text w os c =
    let word : word_read (word_of text) ≡ Ok w = ap word_read c.word_is ∙ word_back w in
    rw (word, c.operands_are) refl

of_written : (text : List ℕ) (i : Instr) → IsEdged text → content_read text ≡ Ok i → of_content text ≡ Ok (Some i)
of_written [] i e read = let l : 0 ≡ length (e.head ++ e.after) = ap length e.from_head in let k = length-append e.head e.after in let t = e.head_there in absurd (omega arith)
of_written (b ∷ bs) i e read = rw read refl

pub line_back : (n : ℕ) (i : Instr) → IsInstr i → line_read (replicate n 32 ++ instr_text i) ≡ Ok (Some i)
unfolding line_read content
line_back n i h =
    let w = written i h in
    let line = replicate n 32 ++ instr_text i in
    let inner : Inner line = Inner-append (replicate n 32) (instr_text i) (Inner-spaces n) w.is.inner in
    let kept : content line ≡ instr_text i = ap (λ (t : List ℕ). trim (before_first (λ b. b == 59) t)) (return_kept line inner) ∙ ap trim (before_all (λ b. b == 59) line (No-semicolon line inner)) ∙ trim_indented n (instr_text i) w.is.edged in
    ap of_content kept ∙ of_written (instr_text i) i w.is.edged (by_parts (instr_text i) (instr_word i) (instr_operands i) w.is ∙ w.back)

pub line_inner : (n : ℕ) (i : Instr) → IsInstr i → Inner (replicate n 32 ++ instr_text i)
line_inner n i h = Inner-append (replicate n 32) (instr_text i) (Inner-spaces n) (written i h).is.inner

empty_back : line_read [] ≡ Ok None
unfolding line_read content without_return trim
empty_back = refl

-- ---- the whole text

-- the loops that are open after an instruction
record Opens (line : ℕ) (i : Instr) (o : List ℕ) (is : List Instr) : Type 0 where
  next : List ℕ
  opens : open_after line i o ≡ Ok next
  depth : length next ≡ depth_after (length o) i
  balanced : IsBalanced (depth_after (length o) i) is

past_arith : (depth : ℕ) (v : Verb) (t s : Operand) (is : List Instr) → IsBalanced depth (Arith v t s ∷ is) → IsBalanced depth is
past_arith zero v t s is h = h
past_arith (suc depth) v t s is h = h

past_clear : (depth c n : ℕ) (is : List Instr) → IsBalanced depth (Clear c n ∷ is) → IsBalanced depth is
past_clear zero c n is h = h
past_clear (suc depth) c n is h = h

past_call : (depth : ℕ) (t : Operand) (q : ℕ) (is : List Instr) → IsBalanced depth (Call t q ∷ is) → IsBalanced depth is
past_call zero t q is h = h
past_call (suc depth) t q is h = h

past_start : (depth c n : ℕ) (is : List Instr) → IsBalanced depth (LoopStart c n ∷ is) → IsBalanced (depth + 1) is
past_start depth c n is h = let e : suc depth ≡ depth + 1 = omega arith in subst (λ (k : ℕ). IsBalanced k is) e h

opens : (line : ℕ) (i : Instr) (o : List ℕ) (is : List Instr) → IsBalanced (length o) (i ∷ is) → Opens line i o is
opens line (LoopStart c n) o is h = record { next = line ∷ o; opens = refl; depth = omega arith; balanced = past_start (length o) c n is h }
opens line LoopEnd [] is h = absurd h
opens line LoopEnd (m ∷ o) is h = let e : length o ≡ suc (length o) - 1 = omega arith in record { next = o; opens = refl; depth = e; balanced = subst (λ (k : ℕ). IsBalanced k is) e h }
opens line (Arith v t s) o is h = record { next = o; opens = refl; depth = refl; balanced = past_arith (length o) v t s is h }
opens line (Clear c n) o is h = record { next = o; opens = refl; depth = refl; balanced = past_clear (length o) c n is h }
opens line (Call t q) o is h = record { next = o; opens = refl; depth = refl; balanced = past_call (length o) t q is h }

no_open : (o : List ℕ) → length o ≡ 0 → o ≡ []
no_open [] e = refl
no_open (m ∷ o) e = absurd (omega arith)

last_line : (line : ℕ) (d : Draft) → length d.open_at ≡ 0 → with_lines line d ([] ∷ []) ≡ Ok (draft_of (d.list ++ []) [])
unfolding with_lines
last_line line d none =
    let same : d ≡ draft_of (d.list ++ []) [] = ap (λ (is : List Instr). draft_of is d.open_at) (sym (append-nil d.list)) ∙ ap (draft_of (d.list ++ [])) (no_open d.open_at none) in
    one_line line d d [] [] (no_instr line d [] empty_back) ∙ ap (λ (x : Draft). Ok x) same

lines_back : (is : List Instr) (line depth : ℕ) (d : Draft) → length d.open_at ≡ depth → IsBalanced depth is → All IsInstr is → length d.list + length is ≤ MOST_INSTRS → with_lines line d (text_lines (lines_text depth is)) ≡ Ok (draft_of (d.list ++ is) [])
unfolding lines_text line_text
lines_back [] line depth d e balanced all few = let zero_depth : depth ≡ 0 = balanced in last_line line d (e ∙ zero_depth)
lines_back (i ∷ is) line depth d e balanced all few =
    let good = All-head IsInstr i is all in
    let text = replicate (2 * depth_at depth i) 32 ++ instr_text i in
    let rest = lines_text (depth_after depth i) is in
    let o = opens line i d.open_at is (subst (λ (k : ℕ). IsBalanced k (i ∷ is)) (sym e) balanced) in
    let next = draft_of (d.list ++ i ∷ []) o.next in
    let cut : text_lines ((text ++ 10 ∷ []) ++ rest) ≡ text ∷ text_lines rest =
    ap text_lines (append_assoc text (10 ∷ []) rest) ∙ split_here (λ b. b == 10) text 10 rest (No-newline text (line_inner (2 * depth_at depth i) i good)) refl in
    let one : fault_at line (with_line line d text) ≡ Ok next =
    ap (fault_at line) (some_instr line d text i (line_back (2 * depth_at depth i) i good)) ∙ with_one line d i o.next (ap (fault_at line) o.opens) (omega arith) in
    let deeper : length o.next ≡ depth_after depth i = o.depth ∙ ap (λ (k : ℕ). depth_after k i) e in
    let size : length (d.list ++ i ∷ []) + length is ≤ MOST_INSTRS = simp length-append (omega arith) in
    let left = lines_back is (line + 1) (depth_after depth i) next deeper (subst (λ (k : ℕ). IsBalanced (depth_after k i) is) e o.balanced) (All-tail IsInstr i is all) size in
    ap (with_lines line d) cut ∙ one_line line d next text (text_lines rest) one ∙ left ∙ ap (λ (js : List Instr). Ok (draft_of js [])) (append_assoc d.list (i ∷ []) is)

-- the canonical text of a program reads as the program
pub reads_back : (p : Text) → IsProgram p → text_read (canon p) ≡ Ok p
unfolding text_read canon
reads_back p is = rw (lines_back p 1 0 empty_draft refl is.balanced is.each (omega (arith, is.short))) refl
