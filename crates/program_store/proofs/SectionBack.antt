-- The text of an entry is cut into the section that it was printed of.
use Rattle.std.proofs.Common.{ℕ, zero, suc, ◌≡◌, ◌+◌, ◌*◌, ◌<◌, ◌^◌, true, false, List, [], ◌∷◌, ◌++◌, refl, ap, ◌∙◌, append_assoc, All}
use Rattle.std.specs.Prelude.{◌==◌, replicate}
use Rattle.std.proofs.lemmas.List.Elements.{All-head, All-tail}
use Rattle.loda_syntax.specs.declared.instr.Verb.{Verb}
use Rattle.loda_syntax.specs.declared.instr.Verb.TheVariants as verb
use Rattle.loda_syntax.specs.declared.instr.Instr.{Instr}
use Rattle.loda_syntax.specs.declared.instr.Instr.TheVariants.{Arith, Clear, LoopStart, LoopEnd, Call}
use Rattle.loda_syntax.specs.Words.{verb_text}
use Rattle.loda_syntax.specs.WellFormed.{IsInstr, IsProgram}
use Rattle.loda_syntax.specs.Programs.{Text, instrs}
use Rattle.loda_syntax.specs.Canon.{operand_texts, instr_text, depth_at, depth_after, line_text, lines_text, canon}
use Rattle.loda_syntax.proofs.Bytes.{No, No-newline}
use Rattle.loda_syntax.proofs.Round.{line_inner}
use Rattle.program_store.specs.declared.published.Published.{Published}
use Rattle.program_store.specs.Sections.{Cut, line_with_byte, whole_lines, begins_with, is_inner, bytes_of_lines, add_line, cut_from}
use Rattle.program_store.specs.Headers.{store_header}
use Rattle.program_store.specs.StoreText.{published_text}
use Rattle.program_store.proofs.Cutting.{cut-line, at_header}
use Rattle.program_store.proofs.HeaderBack.{header-parts, header_inner}

-- ---- lines

pub lines_first : (line rest : List ℕ) → No (λ b. b == 10) line → whole_lines (line ++ 10 ∷ rest) ≡ (line ++ 10 ∷ []) ∷ whole_lines rest
unfolding whole_lines
lines_first [] rest none = refl
lines_first (b ∷ bs) rest none = rw none.0 (ap (line_with_byte b) (lines_first bs rest none.1))

verb_begins : (v : Verb) (rest : List ℕ) → begins_with 61 (verb_text v ++ rest) ≡ false
verb_begins verb.Mov rest = refl
verb_begins verb.Add rest = refl
verb_begins verb.Sub rest = refl
verb_begins verb.Trn rest = refl
verb_begins verb.Mul rest = refl
verb_begins verb.Div rest = refl
verb_begins verb.Dif rest = refl
verb_begins verb.Mod rest = refl
verb_begins verb.Pow rest = refl
verb_begins verb.Gcd rest = refl
verb_begins verb.Bin rest = refl
verb_begins verb.Equ rest = refl
verb_begins verb.Neq rest = refl
verb_begins verb.Leq rest = refl
verb_begins verb.Geq rest = refl
verb_begins verb.Min rest = refl
verb_begins verb.Max rest = refl

-- a line of a program is no header
text_begins : (n : ℕ) (i : Instr) (rest : List ℕ) → begins_with 61 ((replicate n 32 ++ instr_text i) ++ rest) ≡ false
unfolding instr_text
text_begins zero (Arith v t s) rest = ap (begins_with 61) (append_assoc (verb_text v) (operand_texts 32 (t ∷ s ∷ [])) rest) ∙ verb_begins v (operand_texts 32 (t ∷ s ∷ []) ++ rest)
text_begins zero (Clear c n) rest = refl
text_begins zero (LoopStart c n) rest = refl
text_begins zero LoopEnd rest = refl
text_begins zero (Call t q) rest = refl
text_begins (suc n) i rest = refl

-- ---- a program's text behind a header

pub record Behind (n : ℕ) (bytes rest text : List ℕ) : Type 0 where
  pub next : ℕ
  pub before : bytes_of_lines (cut_from 61 n bytes).before ≡ text
  pub sections : (cut_from 61 n bytes).sections ≡ (cut_from 61 next rest).sections

lines_behind : (is : List Instr) (depth n : ℕ) (rest : List ℕ) → All IsInstr is → is_inner 61 rest ≡ false → Behind n (lines_text depth is ++ rest) rest (lines_text depth is)
unfolding lines_text line_text
lines_behind [] depth n rest good stop = record { next = n; before = ap bytes_of_lines (at_header 61 n rest stop); sections = refl }
lines_behind (i ∷ is) depth n rest good stop =
    let spaces = 2 * depth_at depth i in
    let line = replicate spaces 32 ++ instr_text i in
    let left = lines_text (depth_after depth i) is in
    let more : Behind (n + 1) (left ++ rest) rest left = lines_behind is (depth_after depth i) (n + 1) rest (All-tail IsInstr i is good) stop in
    let bytes : ((line ++ 10 ∷ []) ++ left) ++ rest ≡ line ++ 10 ∷ (left ++ rest) = append_assoc (line ++ 10 ∷ []) left rest ∙ append_assoc line (10 ∷ []) (left ++ rest) in
    let lines = lines_first line (left ++ rest) (No-newline line (line_inner spaces i (All-head IsInstr i is good))) in
    let cut : cut_from 61 n (((line ++ 10 ∷ []) ++ left) ++ rest) ≡ add_line false (record { number = n; bytes = line ++ 10 ∷ [] }) (cut_from 61 (n + 1) (left ++ rest)) =
    ap (cut_from 61 n) bytes ∙ cut-line 61 n (line ++ 10 ∷ (left ++ rest)) (line ++ 10 ∷ []) (left ++ rest) lines
    ∙ ap (λ b. add_line b (record { number = n; bytes = line ++ 10 ∷ [] }) (cut_from 61 (n + 1) (left ++ rest))) (text_begins spaces i (10 ∷ [])) in
    record {
      next = more.next;
      before = ap (λ (c : Cut). bytes_of_lines c.before) cut ∙ ap (λ (t : List ℕ). (line ++ 10 ∷ []) ++ t) more.before;
      sections = ap (λ (c : Cut). c.sections) cut ∙ more.sections;
    }

program_behind : (p : Text) (n : ℕ) (rest : List ℕ) → IsProgram (instrs p) → is_inner 61 rest ≡ false → Behind n (canon p ++ rest) rest (canon p)
unfolding canon
program_behind p n rest formed stop = lines_behind (instrs p) 0 n rest formed.each stop

-- ---- an entry

pub record Cuts (n : ℕ) (q : ℕ) (e : Published) (rest : List ℕ) : Type 0 where
  pub next : ℕ
  pub before : (cut_from 61 n (published_text (q, e) ++ rest)).before ≡ []
  pub sections : (cut_from 61 n (published_text (q, e) ++ rest)).sections ≡ record { line = n; header = store_header q e.checked ++ 10 ∷ []; text = canon e.program } ∷ (cut_from 61 next rest).sections

header_begins : (q count : ℕ) (rest : List ℕ) → begins_with 61 (store_header q count ++ rest) ≡ true
header_begins q count rest = rw header-parts refl

pub entry_begins : (q : ℕ) (e : Published) (rest : List ℕ) → is_inner 61 (published_text (q, e) ++ rest) ≡ false
unfolding published_text
entry_begins q e rest = rw header-parts refl

pub entry_cut : (n q : ℕ) (e : Published) (rest : List ℕ) → IsProgram (instrs e.program) → e.checked < 2 ^ 64 → is_inner 61 rest ≡ false → Cuts n q e rest
unfolding published_text
entry_cut n q e rest formed small stop =
    let header = store_header q e.checked in
    let text = canon e.program in
    let behind = program_behind e.program (n + 1) rest formed stop in
    let bytes : (header ++ 10 ∷ text) ++ rest ≡ header ++ 10 ∷ (text ++ rest) = append_assoc header (10 ∷ text) rest in
    let lines = lines_first header (text ++ rest) (No-newline header (header_inner q e.checked small)) in
    let cut : cut_from 61 n ((header ++ 10 ∷ text) ++ rest) ≡ add_line true (record { number = n; bytes = header ++ 10 ∷ [] }) (cut_from 61 (n + 1) (text ++ rest)) =
    ap (cut_from 61 n) bytes ∙ cut-line 61 n (header ++ 10 ∷ (text ++ rest)) (header ++ 10 ∷ []) (text ++ rest) lines
    ∙ ap (λ b. add_line b (record { number = n; bytes = header ++ 10 ∷ [] }) (cut_from 61 (n + 1) (text ++ rest))) (header_begins q e.checked (10 ∷ [])) in
    record {
      next = behind.next;
      before = ap (λ (c : Cut). c.before) cut;
      sections = ap (λ (c : Cut). c.sections) cut ∙ (λ i. record { line = n; header = header ++ 10 ∷ []; text = behind.before i } ∷ behind.sections i);
    }
