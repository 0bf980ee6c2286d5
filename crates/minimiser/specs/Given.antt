-- What a program gives at each argument, with the steps that it took. Only clauses of private functions use what stands here.
use Rattle.std.specs.Prelude.{ℕ, ◌≡◌, ℤ, List, map, Bool, All, if◌then◌else◌}
use Rattle.std.specs.declared.option.Option.{Option}
use Rattle.std.specs.declared.option.Option.TheVariants.{Some, None}
use Rattle.std.specs.List.{list_all}
use Rattle.loda_syntax.specs.Programs.{Text}
use Rattle.loda_semantics.specs.Exec.{value, Library, run_text}
use Rattle.minimiser.specs.declared.trying.Given.{Given}
use Rattle.minimiser.specs.Minimum.{is_no_worse}

-- within the limit the program has this value at the argument, in just these steps
abbrev pub IsGivenRun : Library → ℕ → Text → Given → Type 0
IsGivenRun lib limit p g = (run_text lib p g.arg limit).0 ≡ value g.value g.steps

-- the arguments, in their order
abbrev pub arguments : List Given → List ℤ
arguments given = map (λ (g : Given). g.arg) given

-- these are the program's values at the arguments, in their order
pub record AreGiven (lib : Library) (args : List ℤ) (limit : ℕ) (p : Text) (given : List Given) : Type 0 where
  pub args_are : args ≡ arguments given
  pub each : All (IsGivenRun lib limit p) given

-- a program has the known value too, within as many steps
abbrev pub is_good_at : Library → Text → Given → Bool
is_good_at lib q g = is_no_worse (value g.value g.steps) (run_text lib q g.arg g.steps).0

-- so at each argument
abbrev pub is_good_for : Library → List Given → Text → Bool
is_good_for lib given q = list_all (is_good_at lib q) given

-- the program that a cut leaves, if it is one that does
abbrev pub if_good : Library → List Given → Option Text → Option Text
if_good lib given None = None
if_good lib given (Some q) = if is_good_for lib given q then Some q else None

-- the program's run at the known argument, which has the known value in no more steps
pub record IsGoodRun (lib : Library) (q : Text) (g run : Given) : Type 0 where
  pub arg : run.arg ≡ g.arg
  pub value_of : run.value ≡ g.value
  pub ran : (run_text lib q g.arg g.steps).0 ≡ value g.value run.steps

-- where the known values are those of a program within a limit, these are those of the other one within that limit
abbrev pub AreRunsOf : Library → Text → List Given → List Given → Type 0
AreRunsOf lib q given runs = (args : List ℤ) (limit : ℕ) (p : Text) → AreGiven lib args limit p given → AreGiven lib args limit q runs
