-- A draft of a program, line by line.
use Rattle.std.proofs.Common.{◌≡◌, ◌<◌, ◌≤◌, ◌+◌, ℕ, zero, suc, List, [], ◌∷◌, ◌++◌, length, Bool, true, false, cond, nat_lt, refl, ap, ◌∙◌, arith, length-append}
use Rattle.std.specs.Prelude.{Option, Some, None, IfSome, Result, Ok, Err, IfOk}
use Rattle.std.proofs.lemmas.Bool.{ltb-true, lt-ltb, le-ltb}
use Rattle.std.proofs.lemmas.List.Elements.{All-push}
use Rattle.loda_syntax.specs.declared.instr.Instr.{Instr}
use Rattle.loda_syntax.specs.declared.instr.Instr.TheVariants.{Arith, Clear, LoopStart, LoopEnd, Call}
use Rattle.loda_syntax.specs.declared.error.SyntaxKind.{SyntaxKind}
use Rattle.loda_syntax.specs.declared.error.SyntaxKind.TheVariants as kinds
use Rattle.loda_syntax.specs.declared.error.ParseError.{ParseError}
use Rattle.loda_syntax.specs.declared.error.ParseError.TheVariants as errors
use Rattle.loda_syntax.specs.WellFormed.{IsInstr, IsProgram, IsBalanced, open_loops}
use Rattle.text_parts.specs.Results.{◌>>=◌}
use Rattle.loda_syntax.specs.Grammar.{line_read}
use Rattle.loda_syntax.specs.Reading.{Draft, IsDraft, TextFault, open_after, add_last, draft_of, with_instr, with_line, fault_at, with_lines, empty_draft}
use Rattle.loda_syntax.specs.Answers.{ParseFails}
use Rattle.loda_syntax.proofs.Results.{IfOk-bind, IfOk-cond, IfOk-at}
use Rattle.loda_syntax.proofs.Formed.{line_good}
use Rattle.loda_syntax.specs.declared.instr.TheConstants.{MOST_INSTRS}

-- ---- faults with their lines

pub at_line : {A : Type 0} (line : ℕ) (r : Result A SyntaxKind) (x : A) → fault_at line r ≡ Ok x → r ≡ Ok x
at_line line (Ok y) x e = let d : y ≡ x = cc in ap (λ z. Ok z) d
at_line line (Err k) x e = absurd cc

stays : {A B : Type 0} (line : ℕ) (r : Result A SyntaxKind) (f : A → Result B SyntaxKind) (fault : TextFault) → fault_at line r ≡ Err fault → fault_at line (r >>= f) ≡ Err fault
stays line (Ok x) f fault e = absurd cc
stays line (Err k) f fault e = let d : record { line = line; kind = k } ≡ fault = cc in ap (λ (z : TextFault). Err z) d

-- a fault of the first step is that of both
pub first_fails : {A B : Type 0} (line : ℕ) (r : Result A SyntaxKind) (f : A → Result B SyntaxKind) (e : ParseError) → ParseFails e (fault_at line r) → ParseFails e (fault_at line (r >>= f))
first_fails line r f errors.Memory h = tt
first_fails line r f (errors.Syntax at_line kind) h = stays line r f _ h

pub fails_so : {Y : Type 0} (line : ℕ) (kind : SyntaxKind) (e : ParseError) (read : Result Y TextFault) → e ≡ errors.Syntax line kind → read ≡ Err (record { line = line; kind = kind }) → ParseFails e read
fails_so line kind e read is h = rw is h

-- ---- a line

pub no_instr : (line : ℕ) (d : Draft) (text : List ℕ) → line_read text ≡ Ok None → fault_at line (with_line line d text) ≡ Ok d
unfolding with_line with_instr
no_instr line d text e = rw e refl

pub some_instr : (line : ℕ) (d : Draft) (text : List ℕ) (i : Instr) → line_read text ≡ Ok (Some i) → with_line line d text ≡ with_instr line d (Some i)
unfolding with_line
some_instr line d text i e = rw e refl

pub own_fault : (line : ℕ) (d : Draft) (text : List ℕ) (kind : SyntaxKind) → line_read text ≡ Err kind → fault_at line (with_line line d text) ≡ Err (record { line = line; kind = kind })
unfolding with_line
own_fault line d text kind e = rw e refl

-- ---- an instruction

within : {A E : Type 0} (t : Bool) (x : A) (e : E) → t ≡ true → cond t (Ok x) (Err e) ≡ Ok x
within true x e h = refl
within false x e h = absurd cc

pub past : {A E : Type 0} (t : Bool) (x : A) (e : E) → t ≡ false → cond t (Ok x) (Err e) ≡ Err e
past true x e h = absurd cc
past false x e h = refl

pub with_one : (line : ℕ) (d : Draft) (i : Instr) (o : List ℕ) → fault_at line (open_after line i d.open_at) ≡ Ok o → length d.list < MOST_INSTRS
    → fault_at line (with_instr line d (Some i)) ≡ Ok (record { list = d.list ++ i ∷ []; open_at = o })
unfolding with_instr
with_one line d i o e lt =
    let is = at_line line (open_after line i d.open_at) o e in
    let fits = within (nat_lt (length d.list) MOST_INSTRS) (draft_of (d.list ++ i ∷ []) o) kinds.TooLong (lt-ltb (length d.list) MOST_INSTRS lt) in
    rw (is, fits) refl

pub one_too_many : (line : ℕ) (d : Draft) (i : Instr) (o : List ℕ) → fault_at line (open_after line i d.open_at) ≡ Ok o → MOST_INSTRS ≤ length d.list
    → fault_at line (with_instr line d (Some i)) ≡ Err (record { line = line; kind = kinds.TooLong })
unfolding with_instr
one_too_many line d i o e le =
    let is = at_line line (open_after line i d.open_at) o e in
    let full = past (nat_lt (length d.list) MOST_INSTRS) (draft_of (d.list ++ i ∷ []) o) kinds.TooLong (le-ltb (length d.list) MOST_INSTRS le) in
    rw (is, full) refl

-- ---- what a draft keeps

pub open_more : (is : List Instr) (depth k : ℕ) (i : Instr) → open_loops depth is ≡ Some k → open_loops depth (is ++ i ∷ []) ≡ open_loops k (i ∷ [])
open_more [] depth k i e = let d : depth ≡ k = cc in rw d refl
open_more (LoopStart c n ∷ is) depth k i e = open_more is (suc depth) k i e
open_more (LoopEnd ∷ is) zero k i e = absurd cc
open_more (LoopEnd ∷ is) (suc depth) k i e = open_more is depth k i e
open_more (Arith v t s ∷ is) depth k i e = open_more is depth k i e
open_more (Clear c n ∷ is) depth k i e = open_more is depth k i e
open_more (Call t q ∷ is) depth k i e = open_more is depth k i e

pub opened : (line : ℕ) (i : Instr) (o : List ℕ) → IfOk (open_after line i o) (λ next. open_loops (length o) (i ∷ []) ≡ Some (length next))
opened line LoopEnd [] = tt
opened line LoopEnd (m ∷ o) = refl
opened line (LoopStart c n) o = refl
opened line (Arith v t s) o = refl
opened line (Clear c n) o = refl
opened line (Call t q) o = refl

one_more : (d : Draft) (i : Instr) (o : List ℕ) → IsDraft d → IsInstr i → open_loops (length d.open_at) (i ∷ []) ≡ Some (length o) → IfOk (add_last d.list i o) IsDraft
one_more d i o is good loops =
    IfOk-cond (nat_lt (length d.list) MOST_INSTRS) (draft_of (d.list ++ i ∷ []) o) kinds.TooLong IsDraft (λ e. let lt = ltb-true (length d.list) MOST_INSTRS e in
    record {
      short = simp length-append (omega arith);
      each = All-push IsInstr d.list i is.each good;
      loops = open_more d.list 0 (length d.open_at) i is.loops ∙ loops;
    })

keeps_instr : (line : ℕ) (d : Draft) (o : Option Instr) → IsDraft d → IfSome o IsInstr → IfOk (with_instr line d o) IsDraft
unfolding with_instr
keeps_instr line d None is good = is
keeps_instr line d (Some i) is good =
    IfOk-bind (open_after line i d.open_at) (add_last d.list i) (λ next. open_loops (length d.open_at) (i ∷ []) ≡ Some (length next)) IsDraft (opened line i d.open_at) (λ o loops. one_more d i o is good loops)

pub keeps_line : (line : ℕ) (d : Draft) (text : List ℕ) → IsDraft d → IfOk (with_line line d text) IsDraft
unfolding with_line
keeps_line line d text is = IfOk-bind (line_read text) (with_instr line d) (λ o. IfSome o IsInstr) IsDraft (line_good text) (λ o good. keeps_instr line d o is good)

pub next_draft : (line : ℕ) (d next : Draft) (text : List ℕ) → IsDraft d → fault_at line (with_line line d text) ≡ Ok next → IsDraft next
next_draft line d next text is e = IfOk-at (with_line line d text) next IsDraft (at_line line (with_line line d text) next e) (keeps_line line d text is)

pub blank_draft : IsDraft empty_draft
blank_draft = record { short = omega arith; each = λ k d h. absurd (omega arith); loops = refl }

pub balanced : (is : List Instr) (depth : ℕ) → open_loops depth is ≡ Some 0 → IsBalanced depth is
balanced [] depth e = let d : depth ≡ 0 = cc in d
balanced (LoopStart c n ∷ is) depth e = balanced is (suc depth) e
balanced (LoopEnd ∷ is) zero e = absurd cc
balanced (LoopEnd ∷ is) (suc depth) e = balanced is depth e
balanced (Arith v t s ∷ is) zero e = balanced is zero e
balanced (Arith v t s ∷ is) (suc depth) e = balanced is (suc depth) e
balanced (Clear c n ∷ is) zero e = balanced is zero e
balanced (Clear c n ∷ is) (suc depth) e = balanced is (suc depth) e
balanced (Call t q ∷ is) zero e = balanced is zero e
balanced (Call t q ∷ is) (suc depth) e = balanced is (suc depth) e

-- a draft without open loops is a program
pub program_of : (d : Draft) → IsDraft d → d.open_at ≡ [] → IsProgram d.list
program_of d is none = record {
  short = is.short;
  each = is.each;
  balanced = balanced d.list 0 (is.loops ∙ ap (λ (o : List ℕ). Some (length o)) none);
}

-- ---- the lines one after the other

pub one_line : (number : ℕ) (d next : Draft) (text : List ℕ) (texts : List (List ℕ)) → fault_at number (with_line number d text) ≡ Ok next → with_lines number d (text ∷ texts) ≡ with_lines (number + 1) next texts
unfolding with_lines
one_line number d next text texts e = rw e refl

pub bad_line : (number : ℕ) (d : Draft) (text : List ℕ) (texts : List (List ℕ)) (fault : TextFault) → fault_at number (with_line number d text) ≡ Err fault → with_lines number d (text ∷ texts) ≡ Err fault
unfolding with_lines
bad_line number d text texts fault e = rw e refl
