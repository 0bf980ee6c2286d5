-- What holds of both values holds of a choice of them.
use Rattle.std.proofs.Common.{Bool, true, false, if◌then◌else◌}

pub of_either : {A : Type 0} (P : A → Type 0) (b : Bool) (x y : A) → P x → P y → P (if b then x else y)
of_either P true x y hx hy = hx
of_either P false x y hx hy = hy
