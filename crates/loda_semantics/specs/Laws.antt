-- The laws of runs.
use Rattle.std.specs.Prelude.{ℕ, suc, ◌+◌, ◌<◌, ◌≤◌, ◌≡◌, ◌≢◌, ℤ, Bool, IsTrue, if◌then◌else◌}
use Rattle.std.specs.declared.option.Option.{Option}
use Rattle.std.specs.declared.option.Option.TheVariants.{Some, None}
use Rattle.loda_syntax.specs.Programs.{Text, instrs}
use Rattle.loda_syntax.specs.Trees.{Tree, tree_of}
use Rattle.loda_semantics.specs.declared.kinds.FaultKind.TheVariants.{Missing}
use Rattle.loda_semantics.specs.Memory.{Memory, memory_with, is_less}
use Rattle.loda_semantics.specs.Exec.{value, fault, Calls, none, call, Ending, done, failed, spent, and_then, charge, Callee, turns_of, exec, outcome_of, Library, run_deep, run_text, run_name}

-- the steps left at the end
abbrev pub left_of : Ending → ℕ
left_of (done m n c) = n
left_of (failed k n c) = n
left_of (spent n c) = n

-- Steps are only taken: whatever the callees come to, no more are left at the end than at the start.
abbrev pub StepsNeverRise : Type 0
StepsNeverRise = (callee : Callee) (t : Tree) (m : Memory) (n : ℕ) → left_of (exec callee t m n) ≤ n

-- How deep calls may go doesn't matter, where it is more than the steps.
abbrev pub DepthIsFree : Type 0
DepthIsFree = (lib : Library) (d1 d2 : ℕ) (p : Option Text) (x : ℤ) (n : ℕ) → n < d1 → n < d2 → run_deep lib d1 p x n ≡ run_deep lib d2 p x n

-- A run of a text runs its tree in the memory with the argument, and its calls are the runs of the names.
abbrev pub TextsRunTrees : Type 0
TextsRunTrees = (lib : Library) (p : Text) (x : ℤ) (n : ℕ) → run_text lib p x n ≡ outcome_of n (exec (run_name lib) (tree_of (instrs p)) (memory_with x) n)

-- A run of a name runs the text that it has, and is at once the fault Missing where it has none.
abbrev pub NamesRunTexts : Type 0
NamesRunTexts =
    ((lib : Library) (q : ℕ) (p : Text) (x : ℤ) (n : ℕ) → lib q ≡ Some p → run_name lib q x n ≡ run_text lib p x n)
    × ((lib : Library) (q : ℕ) (x : ℤ) (n : ℕ) → lib q ≡ None → run_name lib q x n ≡ (fault Missing 0, none))

-- A turn runs the body, is charged the region's length, and goes on with another turn where the region is less; else the
-- memory is as it was when the turn began.
abbrev pub TurnsGoOn : Type 0
TurnsGoOn = (callee : Callee) (body : Tree) (c k : ℕ) (m : Memory) (n : ℕ) → turns_of (exec callee body) c k (suc n) m n
    ≡ and_then (exec callee body m n) (λ new n. charge k n λ n. if is_less k c new m then turns_of (exec callee body) c k (suc n) new n else done m n none)

-- The law of more steps: what is done with n steps is done with more, in the same memory and by the same calls, and as many
-- more are left.
abbrev pub MoreSteps : Type 0
MoreSteps = (lib : Library) (t : Tree) (m new : Memory) (n left more : ℕ) (c : Calls)
    → exec (run_name lib) t m n ≡ done new left c → exec (run_name lib) t m (n + more) ≡ done new (left + more) c

-- The same of outcomes: a value is the same with more steps.
abbrev pub ValuesStay : Type 0
ValuesStay = (lib : Library) (p : Text) (x : ℤ) (n more : ℕ) (v : ℤ) (used : ℕ) (c : Calls)
    → run_text lib p x n ≡ (value v used, c) → run_text lib p x (n + more) ≡ (value v used, c)

-- The steps that a value used suffice for it, and no fewer were there.
abbrev pub UsedStepsSuffice : Type 0
UsedStepsSuffice = (lib : Library) (p : Text) (x : ℤ) (n n' : ℕ) (v : ℤ) (used : ℕ) (c : Calls)
    → run_text lib p x n ≡ (value v used, c) → (used ≤ n) × (used ≤ n' → run_text lib p x n' ≡ (value v used, c))

-- each call, at any depth, has the property
abbrev pub AllTrace : (ℕ → ℤ → Type 0) → Calls → Type 0
AllTrace P none = Unit {0}
AllTrace P (call q x o inner rest) = P q x × AllTrace P inner × AllTrace P rest

-- where the old run of the name has a value, the new one has it too, with no more steps, whenever there are so many
abbrev pub Cheaper : Library → Library → ℕ → ℤ → Type 0
Cheaper lib1 lib2 q x =
    (n : ℕ) (v : ℤ) (u1 : ℕ) (c1 : Calls) → run_name lib1 q x n ≡ (value v u1, c1)
    → (u2 : ℕ) × (c2 : Calls) × (u2 ≤ u1) × ((m : ℕ) → u2 ≤ m → run_name lib2 q x m ≡ (value v u2, c2))

-- Where one name has another text, that is cheaper at some arguments, every run that calls the name at those arguments alone
-- keeps its value and takes no more steps.
abbrev pub ReplacementKeeps : Type 0
ReplacementKeeps = (lib1 lib2 : Library) (q : ℕ) → ((r : ℕ) → r ≢ q → lib2 r ≡ lib1 r)
    → (demanded : ℤ → Bool) → ((x : ℤ) → IsTrue (demanded x) → Cheaper lib1 lib2 q x)
    → (p : Text) (x : ℤ) (n n' : ℕ) (v : ℤ) (u1 : ℕ) (c1 : Calls)
    → n ≤ n' → run_text lib1 p x n ≡ (value v u1, c1) → AllTrace (λ r y. r ≡ q → IsTrue (demanded y)) c1
    → (u2 : ℕ) × (c2 : Calls) × (run_text lib2 p x n' ≡ (value v u2, c2)) × (u2 ≤ u1)
