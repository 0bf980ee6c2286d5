-- Which tasks the two grammars give.
use Rattle.std.proofs.Common.{◌≡◌, ℕ, Bool, true, false, List, [], ◌∷◌, subst}
use Rattle.std.specs.Prelude.{Option, Some, None, IfSome, codes, bytes_eq, if◌then◌else◌}
use Rattle.command_words.specs.Words.{Request, ◌>>?◌, has_only, needed, values_of, path_of, store_path, limit_of, seed_read, jobs_read, workers_read, number_read, kind_read, arg_read, if_only, publish_of, check_of, eval_of, made_of, mine_of, request_of, mine_request_of, IsPlain, IsMine}
use Rattle.text_parts.specs.Names.{name_read}

module _ (P : Request → Type 0) where
  -- what is made of a value, if there is one
  then_is : {A : Type 0} (o : Option A) (f : A → Option Request) → ((x : A) → IfSome (f x) P) → IfSome (o >>? f) P
  then_is None f h = tt
  then_is (Some x) f h = h x

  test_is : (b : Bool) (one other : Option Request) → IfSome one P → IfSome other P → IfSome (if b then one else other) P
  test_is true one other h k = h
  test_is false one other h k = k

  only_is : (keys words : List (List ℕ)) (o : Option Request) → IfSome o P → IfSome (if_only keys words o) P
  only_is keys words o h = test_is (has_only keys words) o None h tt

abbrev Plain : Request → Type 0
Plain request = IsPlain request.task

abbrev Mined : Request → Type 0
Mined request = IsMine request.task

publish_is : (words : List (List ℕ)) → IfSome (publish_of words) Plain
unfolding publish_of
publish_is words =
    only_is Plain (codes "terms=" ∷ codes "store=" ∷ codes "cands=" ∷ codes "steps=" ∷ []) words _ (then_is Plain (path_of (codes "terms=") words) _ (λ terms. then_is Plain (store_path words) _ (λ store. then_is Plain (path_of (codes "cands=") words) _ (λ candidates. then_is Plain (limit_of words) _ (λ limit. tt)))))

check_is : (words : List (List ℕ)) → IfSome (check_of words) Plain
unfolding check_of
check_is words = only_is Plain (codes "terms=" ∷ codes "store=" ∷ codes "steps=" ∷ []) words _ (then_is Plain (path_of (codes "terms=") words) _ (λ terms. then_is Plain (store_path words) _ (λ store. then_is Plain (limit_of words) _ (λ limit. tt))))

eval_is : (words : List (List ℕ)) → IfSome (eval_of words) Plain
unfolding eval_of
eval_is words =
    only_is Plain (codes "store=" ∷ codes "name=" ∷ codes "arg=" ∷ codes "steps=" ∷ []) words _ (then_is Plain (store_path words) _ (λ store. then_is Plain (needed (values_of (codes "name=") words) >>? name_read) _ (λ name. then_is Plain (needed (values_of (codes "arg=") words) >>? arg_read) _ (λ arg. then_is Plain (limit_of words) _ (λ limit. tt)))))

made_is : (words : List (List ℕ)) → IfSome (made_of words) Plain
unfolding made_of
made_is words = only_is Plain (codes "n=" ∷ codes "kind=" ∷ []) words _ (then_is Plain (needed (values_of (codes "n=") words) >>? number_read) _ (λ n. then_is Plain (needed (values_of (codes "kind=") words) >>? kind_read) _ (λ kind. tt)))

mine_is : (words : List (List ℕ)) → IfSome (mine_of words) Mined
unfolding mine_of
mine_is words =
    only_is Mined (codes "terms=" ∷ codes "store=" ∷ codes "seed=" ∷ codes "jobs=" ∷ codes "workers=" ∷ codes "steps=" ∷ []) words _ (then_is Mined (path_of (codes "terms=") words) _ (λ terms. then_is Mined (store_path words) _ (λ store. then_is Mined (needed (values_of (codes "seed=") words) >>? seed_read) _ (λ seed.
    then_is Mined (needed (values_of (codes "jobs=") words) >>? jobs_read) _ (λ jobs. then_is Mined (needed (values_of (codes "workers=") words) >>? workers_read) _ (λ workers. then_is Mined (limit_of words) _ (λ limit. tt)))))))

request_is : (words : List (List ℕ)) → IfSome (request_of words) Plain
unfolding request_of
request_is [] = tt
request_is (command ∷ words) =
    test_is Plain (bytes_eq command (codes "publish")) _ _ (publish_is words)
    (test_is Plain (bytes_eq command (codes "check")) _ _ (check_is words)
    (test_is Plain (bytes_eq command (codes "eval")) _ _ (eval_is words)
    (test_is Plain (bytes_eq command (codes "made")) _ _ (made_is words) tt)))

mine_request_is : (words : List (List ℕ)) → IfSome (mine_request_of words) Mined
unfolding mine_request_of
mine_request_is [] = tt
mine_request_is (command ∷ words) = test_is Mined (bytes_eq command (codes "mine")) _ _ (mine_is words) tt

-- the grammar of the commands without workers gives no task for workers
pub is_plain : (words : List (List ℕ)) (request : Request) → request_of words ≡ Some request → IsPlain request.task
is_plain words request e = subst (λ (o : Option Request). IfSome o Plain) e (request_is words)

-- and that of `mine` gives no other
pub is_mine : (words : List (List ℕ)) (request : Request) → mine_request_of words ≡ Some request → IsMine request.task
is_mine words request e = subst (λ (o : Option Request). IfSome o Mined) e (mine_request_is words)
