-- What holds of all members of a list holds of the last, of those before it, and of each as something weaker.
use Rattle.std.proofs.Common.{ℕ, zero, suc, ◌<◌, ◌≡◌, ◌+◌, ◌∙◌, ap, subst, arith, List, [], ◌∷◌, ◌++◌, length, get_or, refl, All, length-append, Option, Some, None, option_to_list, IfSome}

get_or-last : {X : Type 0} (xs : List X) (x : X) → get_or (xs ++ x ∷ []) (length xs) x ≡ x
get_or-last [] x = refl
get_or-last (y ∷ xs) x = get_or-last xs x

pub all_last : {X : Type 0} (P : X → Type 0) (xs : List X) (x : X) → All P (xs ++ x ∷ []) → P x
all_last P xs x h = subst P (get_or-last xs x) (h (length xs) x (omega (arith, length-append xs (x ∷ []))))

pub all_map : {X : Type 0} (P Q : X → Type 0) (xs : List X) → ((x : X) → P x → Q x) → All P xs → All Q xs
all_map P Q xs f h = λ k d lt. f (get_or xs k d) (h k d lt)

get_or-front : {X : Type 0} (xs ys : List X) (k : ℕ) (d : X) → k < length xs → get_or (xs ++ ys) k d ≡ get_or xs k d
get_or-front [] ys k d lt = absurd (omega (arith, lt))
get_or-front (x ∷ xs) ys zero d lt = refl
get_or-front (x ∷ xs) ys (suc k) d lt = get_or-front xs ys k d (omega (arith, lt))

pub all_front : {X : Type 0} (P : X → Type 0) (xs ys zs : List X) → zs ≡ xs ++ ys → All P zs → All P xs
all_front P xs ys zs is h =
    let whole : All P (xs ++ ys) = subst (All P) is h in
    λ k d lt. subst P (get_or-front xs ys k d lt) (whole k d (omega (arith, lt, length-append xs ys)))

pub all_taken : {X : Type 0} (P : X → Type 0) (xs zs : List X) (o : Option X) → zs ≡ xs ++ option_to_list o → All P zs → IfSome o P
all_taken P xs zs (Some x) is h = all_last P xs x (subst (All P) is h)
all_taken P xs zs None is h = tt
