-- What holds of a value that was read, if it was.
use Rattle.std.proofs.Common.{◌≡◌, Bool, true, false, cond, refl}
use Rattle.std.specs.Prelude.{Result, Ok, Err, IfOk}
use Rattle.text_parts.specs.Results.{◌>>=◌}

pub IfOk-bind : {A B E : Type 0} (r : Result A E) (f : A → Result B E) (P : A → Type 0) (Q : B → Type 0) → IfOk r P → ((x : A) → P x → IfOk (f x) Q) → IfOk (r >>= f) Q
IfOk-bind (Ok x) f P Q h then = then x h
IfOk-bind (Err e) f P Q h then = tt

pub IfOk-cond : {A E : Type 0} (t : Bool) (x : A) (e : E) (P : A → Type 0) → (t ≡ true → P x) → IfOk (cond t (Ok x) (Err e)) P
IfOk-cond true x e P h = h refl
IfOk-cond false x e P h = tt

pub IfOk-at : {A E : Type 0} (r : Result A E) (x : A) (P : A → Type 0) → r ≡ Ok x → IfOk r P → P x
IfOk-at (Ok y) x P e h = let d : y ≡ x = cc in rw (← d) h
IfOk-at (Err k) x P e h = absurd cc
