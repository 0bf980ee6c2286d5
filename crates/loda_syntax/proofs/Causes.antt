-- What is read, and what is not, in the words of the laws.
use Rattle.std.proofs.Common.{◌≡◌, ◌<◌, ◌+◌, ℕ, zero, suc, List, [], ◌∷◌, ◌++◌, length, drop, Bool, true, false, cond, nat_lt, refl, sym, ap, ◌∙◌, subst, inl, inr, arith, append_assoc}
use Rattle.std.specs.Prelude.{Option, Some, None, Result, Ok, Err, IfOk, IfErr, ◌⊎◌}
use Rattle.std.proofs.lemmas.List.{append-nil, drop_all}
use Rattle.std.proofs.lemmas.Bool.{ltb-true, ltb-false}
use Rattle.loda_syntax.specs.declared.instr.Verb.{Verb}
use Rattle.loda_syntax.specs.declared.instr.Operand.{Operand}
use Rattle.loda_syntax.specs.declared.instr.Instr.{Instr}
use Rattle.loda_syntax.specs.declared.instr.Instr.TheVariants.{Arith, Clear, LoopStart, LoopEnd, Call}
use Rattle.loda_syntax.specs.declared.error.SyntaxKind.{SyntaxKind}
use Rattle.loda_syntax.specs.declared.error.SyntaxKind.TheVariants as kinds
use Rattle.loda_syntax.specs.declared.error.ParseError.{ParseError}
use Rattle.loda_syntax.specs.declared.error.ParseError.TheVariants as errors
use Rattle.loda_syntax.specs.WellFormed.{IsProgram, IsBalanced, open_loops}
use Rattle.loda_syntax.specs.Programs.{Text}
use Rattle.loda_syntax.specs.Lines.{text_lines}
use Rattle.text_parts.specs.Results.{◌>>=◌}
use Rattle.loda_syntax.specs.Grammar.{line_read}
use Rattle.loda_syntax.specs.Reading.{Draft, IsDraft, TextFault, open_after, add_last, draft_of, with_instr, with_line, fault_at, with_lines, closed, closed_by, empty_draft, text_read}
use Rattle.loda_syntax.specs.Answers.{ParsesAs, ParseFails}
use Rattle.loda_syntax.specs.Laws.{Stand, IsTextOf, Begin, IsFirstFault, BadLine, OpenLine, BadText, IsCause}
use Rattle.loda_syntax.proofs.Drafts.{next_draft, blank_draft, open_more, opened, balanced, program_of, at_line, one_line}
use Rattle.loda_syntax.proofs.Results.{IfOk-at}
use Rattle.loda_syntax.specs.declared.instr.TheConstants.{MOST_INSTRS}

-- ---- a value that was bound

pub bound : {A B E : Type 0} (r : Result A E) (f : A → Result B E) (y : B) → (r >>= f) ≡ Ok y → (x : A) × (r ≡ Ok x) × (f x ≡ Ok y)
bound (Ok x) f y e = (x, refl, e)
bound (Err k) f y e = absurd cc

-- ---- the instructions of lines

pub stand_none : Stand [] []
stand_none = record { read = []; each = refl; list = refl }

pub stand_cons : (text : List ℕ) (texts : List (List ℕ)) (is : List Instr) → line_read text ≡ Ok None → Stand texts is → Stand (text ∷ texts) is
stand_cons text texts is e s = record { read = None ∷ s.read; each = rw (e, s.each) refl; list = s.list }

pub stand_more : (text : List ℕ) (texts : List (List ℕ)) (i : Instr) (is : List Instr) → line_read text ≡ Ok (Some i) → Stand texts is → Stand (text ∷ texts) (i ∷ is)
stand_more text texts i is e s = record { read = Some i ∷ s.read; each = rw (e, s.each) refl; list = ap (λ (js : List Instr). i ∷ js) s.list }

-- what a line's instruction does to a draft
pub record Goes (line : ℕ) (d : Draft) (i : Instr) (next : Draft) : Type 0 where
  pub few : length d.list < MOST_INSTRS
  pub opens : open_after line i d.open_at ≡ Ok next.open_at
  pub list : next.list ≡ d.list ++ i ∷ []

added : (t : Bool) (list : List Instr) (i : Instr) (o : List ℕ) (next : Draft) → cond t (Ok (draft_of (list ++ i ∷ []) o)) (Err kinds.TooLong) ≡ Ok next → (t ≡ true) × (draft_of (list ++ i ∷ []) o ≡ next)
added true list i o next e = (refl, cc)
added false list i o next e = absurd cc

pub goes : (line : ℕ) (d : Draft) (i : Instr) (next : Draft) → with_instr line d (Some i) ≡ Ok next → Goes line d i next
unfolding with_instr
goes line d i next e =
    let b = bound (open_after line i d.open_at) (add_last d.list i) next e in
    let a = added (nat_lt (length d.list) MOST_INSTRS) d.list i b.0 next b.2 in
    record {
      few = ltb-true (length d.list) MOST_INSTRS a.0;
      opens = b.1 ∙ ap (λ (n : Draft). Ok n.open_at) a.1;
      list = sym (ap (λ (n : Draft). n.list) a.1);
    }

-- ---- reading line by line, from a draft on

-- the lines after a draft are these instructions
pub record Follows (d e : Draft) (texts : List (List ℕ)) : Type 0 where
  pub list : List Instr
  pub stand : Stand texts list
  pub whole : e.list ≡ d.list ++ list

follows_none : (line : ℕ) (d next e : Draft) (text : List ℕ) (texts : List (List ℕ)) → line_read text ≡ Ok None → with_instr line d None ≡ Ok next → Follows next e texts → Follows d e (text ∷ texts)
unfolding with_instr
follows_none line d next e text texts r w f = let same : d ≡ next = cc in record { list = f.list; stand = stand_cons text texts f.list r f.stand; whole = f.whole ∙ ap (λ (n : Draft). n.list ++ f.list) (sym same) }

follows_one : (line : ℕ) (d next e : Draft) (text : List ℕ) (texts : List (List ℕ)) (i : Instr) → line_read text ≡ Ok (Some i) → with_instr line d (Some i) ≡ Ok next → Follows next e texts → Follows d e (text ∷ texts)
follows_one line d next e text texts i r w f =
    let g = goes line d i next w in record {
      list = i ∷ f.list;
      stand = stand_more text texts i f.list r f.stand;
      whole = f.whole ∙ ap (λ (is : List Instr). is ++ f.list) g.list ∙ append_assoc d.list (i ∷ []) f.list;
    }

follows_by : (line : ℕ) (d next e : Draft) (text : List ℕ) (texts : List (List ℕ)) (o : Option Instr) → line_read text ≡ Ok o → with_instr line d o ≡ Ok next → Follows next e texts → Follows d e (text ∷ texts)
follows_by line d next e text texts None r h f = follows_none line d next e text texts r h f
follows_by line d next e text texts (Some i) r h f = follows_one line d next e text texts i r h f

-- one line, and then the others
pub record First (line : ℕ) (d e : Draft) (text : List ℕ) (texts : List (List ℕ)) : Type 0 where
  pub next : Draft
  pub instr : Option Instr
  pub whole : fault_at line (with_line line d text) ≡ Ok next
  pub read : line_read text ≡ Ok instr
  pub with : with_instr line d instr ≡ Ok next
  pub rest : with_lines (line + 1) next texts ≡ Ok e

pub first : (line : ℕ) (d e : Draft) (text : List ℕ) (texts : List (List ℕ)) → with_lines line d (text ∷ texts) ≡ Ok e → First line d e text texts
unfolding with_lines with_line
first line d e text texts w =
    let b = bound (fault_at line (with_line line d text)) (λ next. with_lines (line + 1) next texts) e w in
    let o = bound (line_read text) (with_instr line d) b.0 (at_line line (with_line line d text) b.0 b.1) in
    record { next = b.0; instr = o.0; whole = b.1; read = o.1; with = o.2; rest = b.2 }

pub follows : (line : ℕ) (d e : Draft) (texts : List (List ℕ)) → with_lines line d texts ≡ Ok e → Follows d e texts
unfolding with_lines
follows line d e [] w = let same : d ≡ e = cc in record { list = []; stand = stand_none; whole = ap (λ (n : Draft). n.list) (sym same) ∙ sym (append-nil d.list) }
follows line d e (text ∷ texts) w = let f = first line d e text texts w in follows_by line d f.next e text texts f.instr f.read f.with (follows (line + 1) f.next e texts f.rest)

pub keeps_lines : (line : ℕ) (d e : Draft) (texts : List (List ℕ)) → IsDraft d → with_lines line d texts ≡ Ok e → IsDraft e
unfolding with_lines
keeps_lines line d e [] is w = let same : d ≡ e = cc in subst IsDraft same is
keeps_lines line d e (text ∷ texts) is w =
    let f = first line d e text texts w in
    keeps_lines (line + 1) f.next e texts (next_draft line d f.next text is f.whole) f.rest

-- ---- what is read

begins : (texts : List (List ℕ)) (e : Draft) → with_lines 1 empty_draft texts ≡ Ok e → Begin texts e.list
begins texts e w =
    let f = follows 1 empty_draft e texts w in
    let is = keeps_lines 1 empty_draft e texts blank_draft w in
    record { stand = subst (Stand texts) (sym f.whole) f.stand; short = is.short; ends = rw is.loops refl }

closed_none : (d : Draft) (o : List ℕ) (p : Text) → d.open_at ≡ o → closed_by d.list o ≡ Ok p → (d.open_at ≡ []) × (d.list ≡ p)
closed_none d [] p e c = (e, cc)
closed_none d (m ∷ ms) p e c = absurd cc

pub reads : (bytes : List ℕ) (p : Text) → text_read bytes ≡ Ok p → IsTextOf bytes p
unfolding text_read
reads bytes p e =
    let b = bound (with_lines 1 empty_draft (text_lines bytes)) closed p e in
    let c = closed_none b.0 b.0.open_at p refl b.2 in
    let is = keeps_lines 1 empty_draft b.0 (text_lines bytes) blank_draft b.1 in
    record { stand = subst (Stand (text_lines bytes)) c.1 (begins (text_lines bytes) b.0 b.1).stand; formed = subst IsProgram c.1 (program_of b.0 is c.0) }

-- ---- a line that is bad

-- the lines before it are good
record BadFrom (line : ℕ) (d : Draft) (texts : List (List ℕ)) (fault : TextFault) : Type 0 where
  before : List (List ℕ)
  text : List ℕ
  after : List (List ℕ)
  cut : texts ≡ before ++ text ∷ after
  number : fault.line ≡ length before + line
  draft : Draft
  good : with_lines line d before ≡ Ok draft
  bad : with_line fault.line draft text ≡ Err fault.kind

bad_from : (line : ℕ) (d : Draft) (texts : List (List ℕ)) (fault : TextFault) → with_lines line d texts ≡ Err fault → BadFrom line d texts fault
unfolding with_lines
bad_from line d [] fault e = absurd cc
bad_from line d (text ∷ texts) fault e = by_first line d text texts fault (with_line line d text) refl e (λ next. bad_from (line + 1) next texts fault)
  where
    by_first : (line : ℕ) (d : Draft) (text : List ℕ) (texts : List (List ℕ)) (fault : TextFault) (r : Result Draft SyntaxKind) → with_line line d text ≡ r → (fault_at line r >>= λ next. with_lines (line + 1) next texts) ≡ Err fault
        → ((next : Draft) → with_lines (line + 1) next texts ≡ Err fault → BadFrom (line + 1) next texts fault) → BadFrom line d (text ∷ texts) fault
    by_first line d text texts fault (Err k) is e rec =
        let same : record { line = line; kind = k } ≡ fault = cc in
        subst (λ (f : TextFault). BadFrom line d (text ∷ texts) f) same (record {
          before = [];
          text = text;
          after = texts;
          cut = refl;
          number = omega arith;
          draft = d;
          good = refl;
          bad = is;
        })
    by_first line d text texts fault (Ok next) is e rec =
        let b = rec next e in
        record {
          before = text ∷ b.before;
          text = b.text;
          after = b.after;
          cut = ap (λ (ts : List (List ℕ)). text ∷ ts) b.cut;
          number = omega (arith, b.number);
          draft = b.draft;
          good = one_line line d next text b.before (ap (fault_at line) is) ∙ b.good;
          bad = b.bad;
        }

no_room : (t : Bool) (x : Draft) (kind : SyntaxKind) → cond t (Ok x) (Err kinds.TooLong) ≡ Err kind → (t ≡ false) × (kind ≡ kinds.TooLong)
no_room true x kind e = absurd cc
no_room false x kind e = (refl, cc)

instr_fault : (line : ℕ) (d : Draft) (i : Instr) (kind : SyntaxKind) → IsDraft d → (r : Result (List ℕ) SyntaxKind) → open_after line i d.open_at ≡ r → (r >>= add_last d.list i) ≡ Err kind → IsFirstFault d.list (Ok (Some i)) kind
instr_fault line d i kind is (Ok o) opens e =
    let n = no_room (nat_lt (length d.list) MOST_INSTRS) (draft_of (d.list ++ i ∷ []) o) kind e in
    let loops : open_loops 0 (d.list ++ i ∷ []) ≡ Some (length o) = open_more d.list 0 (length d.open_at) i is.loops ∙ IfOk-at (open_after line i d.open_at) o _ opens (opened line i d.open_at) in
    inr (rw loops refl, ltb-false (length d.list) MOST_INSTRS n.0, n.1)
instr_fault line d i kind is (Err k) opens e =
    let same : k ≡ kind = cc in
    let c = closes line i d.open_at k opens in
    inl (open_more d.list 0 (length d.open_at) i is.loops ∙ c.0, sym same ∙ c.1)
  where
    closes : (line : ℕ) (i : Instr) (o : List ℕ) (k : SyntaxKind) → open_after line i o ≡ Err k → (open_loops (length o) (i ∷ []) ≡ None) × (k ≡ kinds.LoopClose)
    closes line LoopEnd [] k e = (refl, cc)
    closes line LoopEnd (m ∷ o) k e = absurd cc
    closes line (LoopStart c n) o k e = absurd cc
    closes line (Arith v t s) o k e = absurd cc
    closes line (Clear c n) o k e = absurd cc
    closes line (Call t q) o k e = absurd cc

first_fault : (line : ℕ) (d : Draft) (kind : SyntaxKind) → IsDraft d → (r : Result (Option Instr) SyntaxKind) → (r >>= with_instr line d) ≡ Err kind → IsFirstFault d.list r kind
unfolding with_instr
first_fault line d kind is (Err own) e = let same : own ≡ kind = cc in sym same
first_fault line d kind is (Ok None) e = absurd cc
first_fault line d kind is (Ok (Some i)) e = instr_fault line d i kind is (open_after line i d.open_at) refl e

bad_line_of : (bytes : List ℕ) (fault : TextFault) → with_lines 1 empty_draft (text_lines bytes) ≡ Err fault → BadLine bytes fault.line fault.kind
unfolding with_line
bad_line_of bytes fault e =
    let b = bad_from 1 empty_draft (text_lines bytes) fault e in
    record {
      before = b.before;
      text = b.text;
      after = b.after;
      cut = b.cut;
      number = b.number;
      list = b.draft.list;
      begin = begins b.before b.draft b.good;
      fault = first_fault fault.line b.draft fault.kind (keeps_lines 1 empty_draft b.draft b.before blank_draft b.good) (line_read b.text) b.bad;
    }

-- ---- a loop that isn't ended

-- the lines end this many of the loops that were open, and each that they start
record Ends (d e : Draft) (texts : List (List ℕ)) : Type 0 where
  count : ℕ
  open_is : e.open_at ≡ drop count d.open_at
  list : List Instr
  stand : Stand texts list
  loops : (outer : ℕ) → open_loops (count + outer) list ≡ Some outer

-- the innermost loop that isn't ended is started in these lines
record Starts (line : ℕ) (e : Draft) (texts : List (List ℕ)) : Type 0 where
  innermost : ℕ
  outer : List ℕ
  open_is : e.open_at ≡ innermost ∷ outer
  before : List (List ℕ)
  text : List ℕ
  after : List (List ℕ)
  cut : texts ≡ before ++ text ∷ after
  number : innermost ≡ length before + line
  start : ℕ
  len : ℕ
  starts : line_read text ≡ Ok (Some (LoopStart start len))
  inner : List Instr
  stand : Stand after inner
  ended : IsBalanced 0 inner

later : (line : ℕ) (e : Draft) (text : List ℕ) (texts : List (List ℕ)) → Starts (line + 1) e texts → Starts line e (text ∷ texts)
later line e text texts s = record {
  innermost = s.innermost;
  outer = s.outer;
  open_is = s.open_is;
  before = text ∷ s.before;
  text = s.text;
  after = s.after;
  cut = ap (λ (ts : List (List ℕ)). text ∷ ts) s.cut;
  number = omega (arith, s.number);
  start = s.start;
  len = s.len;
  starts = s.starts;
  inner = s.inner;
  stand = s.stand;
  ended = s.ended;
}

-- an instruction that neither starts nor ends a loop
flat : (line : ℕ) (d next e : Draft) (text : List ℕ) (texts : List (List ℕ)) (i : Instr) → line_read text ≡ Ok (Some i) → next.open_at ≡ d.open_at → ((depth : ℕ) (is : List Instr) → open_loops depth (i ∷ is) ≡ open_loops depth is) → Ends next e texts → Ends d e (text ∷ texts)
flat line d next e text texts i r same through n = record {
  count = n.count;
  open_is = n.open_is ∙ ap (drop n.count) same;
  list = i ∷ n.list;
  stand = stand_more text texts i n.list r n.stand;
  loops = λ outer. through (n.count + outer) n.list ∙ n.loops outer;
}

pub through_arith : (v : Verb) (t s : Operand) (depth : ℕ) (is : List Instr) → open_loops depth (Arith v t s ∷ is) ≡ open_loops depth is
through_arith v t s zero is = refl
through_arith v t s (suc depth) is = refl

pub through_clear : (c n depth : ℕ) (is : List Instr) → open_loops depth (Clear c n ∷ is) ≡ open_loops depth is
through_clear c n zero is = refl
through_clear c n (suc depth) is = refl

pub through_call : (t : Operand) (q depth : ℕ) (is : List Instr) → open_loops depth (Call t q ∷ is) ≡ open_loops depth is
through_call t q zero is = refl
through_call t q (suc depth) is = refl

started : (line : ℕ) (d next e : Draft) (text : List ℕ) (texts : List (List ℕ)) (c l : ℕ) → line_read text ≡ Ok (Some (LoopStart c l)) → next.open_at ≡ line ∷ d.open_at → (count : ℕ) → e.open_at ≡ drop count next.open_at → (list : List Instr)
    → Stand texts list → ((outer : ℕ) → open_loops (count + outer) list ≡ Some outer) → Ends d e (text ∷ texts) ⊎ Starts line e (text ∷ texts)
started line d next e text texts c l r same zero open_is list stand loops = inr (record {
  innermost = line;
  outer = d.open_at;
  open_is = open_is ∙ same;
  before = [];
  text = text;
  after = texts;
  cut = refl;
  number = omega arith;
  start = c;
  len = l;
  starts = r;
  inner = list;
  stand = stand;
  ended = balanced list 0 (loops 0);
})
started line d next e text texts c l r same (suc count) open_is list stand loops = inl (record {
  count = count;
  open_is = open_is ∙ ap (drop (suc count)) same;
  list = LoopStart c l ∷ list;
  stand = stand_more text texts (LoopStart c l) list r stand;
  loops = λ outer. let k : suc (count + outer) ≡ suc count + outer = omega arith in ap (λ (n : ℕ). open_loops n list) k ∙ loops outer;
})

ended_loop : (line : ℕ) (d next e : Draft) (text : List ℕ) (texts : List (List ℕ)) (o : List ℕ) → line_read text ≡ Ok (Some LoopEnd) → d.open_at ≡ o → open_after line LoopEnd o ≡ Ok next.open_at → Ends next e texts → Ends d e (text ∷ texts)
ended_loop line d next e text texts [] r is opens n = absurd cc
ended_loop line d next e text texts (m ∷ ms) r is opens n =
    let same : ms ≡ next.open_at = cc in
    record {
      count = suc n.count;
      open_is = n.open_is ∙ ap (drop n.count) (sym same) ∙ ap (drop (suc n.count)) (sym is);
      list = LoopEnd ∷ n.list;
      stand = stand_more text texts LoopEnd n.list r n.stand;
      loops = λ outer. let k : suc n.count + outer ≡ suc (n.count + outer) = omega arith in ap (λ (j : ℕ). open_loops j (LoopEnd ∷ n.list)) k ∙ n.loops outer;
    }

by_instr : (line : ℕ) (d next e : Draft) (text : List ℕ) (texts : List (List ℕ)) (i : Instr) → line_read text ≡ Ok (Some i) → Goes line d i next → Ends next e texts → Ends d e (text ∷ texts) ⊎ Starts line e (text ∷ texts)
by_instr line d next e text texts (LoopStart c l) r g n = let same : line ∷ d.open_at ≡ next.open_at = let o = g.opens in cc in started line d next e text texts c l r (sym same) n.count n.open_is n.list n.stand n.loops
by_instr line d next e text texts LoopEnd r g n = inl (ended_loop line d next e text texts d.open_at r refl g.opens n)
by_instr line d next e text texts (Arith v t s) r g n = let same : d.open_at ≡ next.open_at = let o = g.opens in cc in inl (flat line d next e text texts (Arith v t s) r (sym same) (through_arith v t s) n)
by_instr line d next e text texts (Clear c l) r g n = let same : d.open_at ≡ next.open_at = let o = g.opens in cc in inl (flat line d next e text texts (Clear c l) r (sym same) (through_clear c l) n)
by_instr line d next e text texts (Call t q) r g n = let same : d.open_at ≡ next.open_at = let o = g.opens in cc in inl (flat line d next e text texts (Call t q) r (sym same) (through_call t q) n)

by_option : (line : ℕ) (d next e : Draft) (text : List ℕ) (texts : List (List ℕ)) (o : Option Instr) → line_read text ≡ Ok o → with_instr line d o ≡ Ok next → Ends next e texts → Ends d e (text ∷ texts) ⊎ Starts line e (text ∷ texts)
unfolding with_instr
by_option line d next e text texts None r w n =
    let same : d ≡ next = cc in
    inl (record {
      count = n.count;
      open_is = n.open_is ∙ ap (λ (x : Draft). drop n.count x.open_at) (sym same);
      list = n.list;
      stand = stand_cons text texts n.list r n.stand;
      loops = n.loops;
    })
by_option line d next e text texts (Some i) r w n = by_instr line d next e text texts i r (goes line d i next w) n

by_rest : (line : ℕ) (d e : Draft) (text : List ℕ) (texts : List (List ℕ)) (f : First line d e text texts) → Ends f.next e texts ⊎ Starts (line + 1) e texts → Ends d e (text ∷ texts) ⊎ Starts line e (text ∷ texts)
by_rest line d e text texts f (inl n) = by_option line d f.next e text texts f.instr f.read f.with n
by_rest line d e text texts f (inr s) = inr (later line e text texts s)

ends_or_starts : (line : ℕ) (d e : Draft) (texts : List (List ℕ)) → with_lines line d texts ≡ Ok e → Ends d e texts ⊎ Starts line e texts
unfolding with_lines
ends_or_starts line d e [] w =
    let same : d ≡ e = cc in
    inl (record {
      count = 0;
      open_is = ap (λ (x : Draft). x.open_at) (sym same);
      list = [];
      stand = stand_none;
      loops = λ outer. let z : 0 + outer ≡ outer = omega arith in ap (λ (k : ℕ). Some k) z;
    })
ends_or_starts line d e (text ∷ texts) w = let f = first line d e text texts w in by_rest line d e text texts f (ends_or_starts (line + 1) f.next e texts f.rest)

open_line : (bytes : List ℕ) (e : Draft) (m : ℕ) (ms : List ℕ) → with_lines 1 empty_draft (text_lines bytes) ≡ Ok e → e.open_at ≡ m ∷ ms → Ends empty_draft e (text_lines bytes) ⊎ Starts 1 e (text_lines bytes) → OpenLine bytes m
open_line bytes e m ms w is (inl n) = let none : e.open_at ≡ [] = n.open_is ∙ drop_all n.count [] (omega arith) in absurd (let bad : m ∷ ms ≡ [] = sym is ∙ none in cc)
open_line bytes e m ms w is (inr s) =
    let all : m ∷ ms ≡ s.innermost ∷ s.outer = sym is ∙ s.open_is in
    let same : m ≡ s.innermost = cc in
    record {
      before = s.before;
      text = s.text;
      after = s.after;
      cut = s.cut;
      number = same ∙ s.number;
      list = e.list;
      begin = begins (text_lines bytes) e w;
      start = s.start;
      len = s.len;
      starts = s.starts;
      inner = s.inner;
      stand = s.stand;
      ended = s.ended;
    }

not_closed : (bytes : List ℕ) (fault : TextFault) (d : Draft) (o : List ℕ) → with_lines 1 empty_draft (text_lines bytes) ≡ Ok d → d.open_at ≡ o → closed_by d.list o ≡ Err fault → BadText bytes fault.line fault.kind
not_closed bytes fault d [] w is e = absurd cc
not_closed bytes fault d (m ∷ ms) w is e =
    let same : record { line = m; kind = kinds.LoopOpen } ≡ fault = cc in
    subst (λ (f : TextFault). BadText bytes f.line f.kind) same (inr (refl, open_line bytes d m ms w is (ends_or_starts 1 empty_draft d (text_lines bytes) w)))

by_lines : (bytes : List ℕ) (fault : TextFault) (r : Result Draft TextFault) → with_lines 1 empty_draft (text_lines bytes) ≡ r → (r >>= closed) ≡ Err fault → BadText bytes fault.line fault.kind
by_lines bytes fault (Err f) w e = let same : f ≡ fault = cc in subst (λ (g : TextFault). BadText bytes g.line g.kind) same (inl (bad_line_of bytes f w))
by_lines bytes fault (Ok d) w e = not_closed bytes fault d d.open_at w refl e

pub faults : (bytes : List ℕ) (fault : TextFault) → text_read bytes ≡ Err fault → BadText bytes fault.line fault.kind
unfolding text_read
faults bytes fault e = by_lines bytes fault (with_lines 1 empty_draft (text_lines bytes)) refl e

-- ---- the answers

pub answers_read : (bytes : List ℕ) (r : Result Text ParseError) → ParsesAs r (text_read bytes) → IfOk r (λ p. IsTextOf bytes p)
answers_read bytes (Ok p) h = reads bytes p h
answers_read bytes (Err e) h = tt

cause : (bytes : List ℕ) (e : ParseError) → ParseFails e (text_read bytes) → IsCause bytes e
cause bytes (errors.Syntax line kind) h = faults bytes (record { line = line; kind = kind }) h
cause bytes errors.Memory h = tt

pub answers_bad : (bytes : List ℕ) (r : Result Text ParseError) → ParsesAs r (text_read bytes) → IfErr r (λ e. IsCause bytes e)
answers_bad bytes (Ok p) h = tt
answers_bad bytes (Err e) h = cause bytes e h
