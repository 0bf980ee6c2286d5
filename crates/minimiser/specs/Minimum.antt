-- The program that is left when first good cuts are taken until there is none.
use Rattle.std.specs.Prelude.{ℕ, zero, suc, ℤ, List, length, Bool, false, ◌&&◌, nat_le}
use Rattle.std.specs.declared.option.Option.{Option}
use Rattle.std.specs.declared.option.Option.TheVariants.{Some, None}
use Rattle.std.specs.Ordering.{int_eq}
use Rattle.std.specs.List.{find, list_all}
use Rattle.loda_syntax.specs.Programs.{Text}
use Rattle.loda_semantics.specs.Exec.{Outcome, value, fault, out, Library, run_text}
use Rattle.minimiser.specs.Cuts.{cuts}

-- both are the same value, and the second took no more steps
abbrev pub is_no_worse : Outcome → Outcome → Bool
is_no_worse (value v used) (value w fewer) = int_eq w v && nat_le fewer used
is_no_worse (value v used) (fault kind n) = false
is_no_worse (value v used) (out n) = false
is_no_worse (fault kind n) other = false
is_no_worse (out n) other = false

-- at each argument both programs have values within the limit, the same one, and the second takes no more steps
abbrev pub is_good : Library → List ℤ → ℕ → Text → Text → Bool
is_good lib args limit p q = list_all (λ x. is_no_worse (run_text lib p x limit).0 (run_text lib q x limit).0) args

-- what the first good cut leaves
abbrev pub first_good : Library → List ℤ → ℕ → Text → Option Text
first_good lib args limit p = find (is_good lib args limit p) (cuts p)

-- the program where there is no other one, else what is made of that
abbrev pub minimum_of : (Text → Text) → Text → Option Text → Text
minimum_of more p None = p
minimum_of more p (Some q) = more q

-- what at most so many first good cuts leave, each taken of what the one before it left
unfoldable pub after_cuts : Library → List ℤ → ℕ → ℕ → Text → Text
after_cuts lib args limit zero p = p
after_cuts lib args limit (suc most) p = minimum_of (after_cuts lib args limit most) p (first_good lib args limit p)

-- Each cut takes out an instruction at least, so there are no more of them than instructions.
abbrev pub minimum : Library → List ℤ → ℕ → Text → Text
minimum lib args limit p = after_cuts lib args limit (length p) p
