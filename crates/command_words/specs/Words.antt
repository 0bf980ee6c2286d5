-- The words of the command line, as bytes.
use Rattle.std.specs.Prelude.{ℕ, ◌≤◌, ◌-◌, ◌^◌, List, [], ◌∷◌, length, drop, codes, bytes_eq, nat_eq, nat_le, ◌==◌, ◌&&◌, if◌then◌else◌, Bool, ⊤, ℤ, pos, neg_ℤ, Option, Some, None}
use Rattle.std.specs.List.{starts_with, filter_map, list_all, list_any}
use Rattle.std.specs.Option.{option_map}
use Rattle.text_parts.specs.Digits.{decimal_spelled}
use Rattle.text_parts.specs.Names.{IsName, name_read}
use Rattle.command_words.specs.declared.request.Kind.{Kind}
use Rattle.command_words.specs.declared.request.Kind.TheVariants as kinds
use Rattle.command_words.specs.declared.request.Task.{Task}
use Rattle.command_words.specs.declared.request.Task.TheVariants.{Publish, Check, Eval, Made, Mine}
use Rattle.loda_semantics.specs.declared.limits.TheConstants.{GREATEST_STEP_LIMIT}
use Rattle.program_store.specs.declared.candidates.TheConstants.{MOST_JOBS}

-- What is asked for: the task, the paths of its files in the order of reading, and the step limit of a run. A file
-- without a path is not read, and stands for no bytes.
pub record Request : Type 0 where
  pub task : Task
  pub terms : Option (List ℕ)
  pub store : Option (List ℕ)
  pub candidates : Option (List ℕ)
  pub limit : ℕ

-- what comes next, where there is something
infixl 10 ◌>>?◌
abbrev pub ◌>>?◌ : {A B : Type 0} → Option A → (A → Option B) → Option B
(Some x) >>? f = f x
None >>? f = None

-- ---- keys and values

-- the value of a word with this key, such as `terms=`
abbrev pub value_in : List ℕ → List ℕ → Option (List ℕ)
value_in key word = if starts_with nat_eq word key then Some (drop (length key) word) else None

-- the values of all words with this key
abbrev pub values_of : List ℕ → List (List ℕ) → List (List ℕ)
values_of key words = filter_map (value_in key) words

-- a key that may stand once: its value, if it stands
abbrev pub optional : List (List ℕ) → Option (Option (List ℕ))
optional [] = Some None
optional (v ∷ []) = Some (Some v)
optional (v ∷ w ∷ vs) = None

-- a key that has to stand once
abbrev pub needed : List (List ℕ) → Option (List ℕ)
needed [] = None
needed (v ∷ []) = Some v
needed (v ∷ w ∷ vs) = None

-- every word has one of these keys
abbrev pub has_only : List (List ℕ) → List (List ℕ) → Bool
has_only keys words = list_all (λ word. list_any (λ key. starts_with nat_eq word key) keys) words

-- ---- the forms of values

-- a path isn't empty
abbrev pub path_read : List ℕ → Option (List ℕ)
path_read text = if length text == 0 then None else Some text

-- the path of a store, or none for `-`, the empty store
abbrev pub store_path_read : List ℕ → Option (Option (List ℕ))
store_path_read text = if bytes_eq text (codes "-") then Some None else option_map (λ path. Some path) (path_read text)

-- the number, where it is from a least to a greatest one
abbrev pub between : ℕ → ℕ → ℕ → Option ℕ
between least greatest n = if nat_le least n && nat_le n greatest then Some n else None

-- a decimal number from a least to a greatest one
abbrev pub decimal_between : ℕ → ℕ → List ℕ → Option ℕ
decimal_between least greatest text = decimal_spelled text >>? between least greatest

-- a step limit is from 1 to 10,000,000
abbrev pub limit_read : List ℕ → Option ℕ
limit_read text = decimal_between 1 GREATEST_STEP_LIMIT text

-- the step limit without `steps=`
abbrev pub default_limit : ℕ
default_limit = 100000

-- the step limit of `steps=`, or the one that stands without it
abbrev pub limit_or_default : Option (List ℕ) → Option ℕ
limit_or_default None = Some default_limit
limit_or_default (Some text) = limit_read text

-- the greatest absolute value of a number
abbrev pub greatest : ℕ
greatest = 2 ^ 127 - 1

-- the negative number whose absolute value stands behind its `-`
abbrev pub negative_read : List ℕ → Option ℤ
negative_read digits = option_map (λ n. neg_ℤ (pos n)) (decimal_between 1 greatest digits)

-- a number without a sign
abbrev pub positive_read : List ℕ → Option ℤ
positive_read digits = option_map (λ n. pos n) (decimal_between 0 greatest digits)

-- a decimal number in the number range, with `-` before it where it is negative
abbrev pub arg_read : List ℕ → Option ℤ
arg_read [] = None
arg_read (b ∷ bs) = if b == 45 then negative_read bs else positive_read (b ∷ bs)

-- at most 20,000 names are made
abbrev pub number_read : List ℕ → Option ℕ
number_read text = decimal_between 1 20000 text

-- the greatest seed
abbrev pub greatest_seed : ℕ
greatest_seed = 2 ^ 64 - 1

abbrev pub seed_read : List ℕ → Option ℕ
seed_read text = decimal_between 0 greatest_seed text

-- at most 1,000,000 jobs
abbrev pub jobs_read : List ℕ → Option ℕ
jobs_read text = decimal_between 0 MOST_JOBS text

-- 1 to 64 workers
abbrev pub workers_read : List ℕ → Option ℕ
workers_read text = decimal_between 1 64 text

-- what is made, by its word
abbrev pub kind_read : List ℕ → Option Kind
kind_read text =
    if bytes_eq text (codes "terms") then Some kinds.Terms
    else (if bytes_eq text (codes "store") then Some kinds.Store
    else (if bytes_eq text (codes "cands") then Some kinds.Candidates
    else (if bytes_eq text (codes "run") then Some kinds.Run else None)))

-- ---- the commands

-- a task that runs a program has a program's name, one that makes names has a number of them in its bounds, and one that mines has
-- its jobs and its workers in theirs
abbrev pub IsInRange : Task → Type 0
IsInRange Publish = ⊤
IsInRange Check = ⊤
IsInRange (Eval name arg) = IsName name
IsInRange (Made n kind) = (1 ≤ n) × (n ≤ 20000)
IsInRange (Mine seed jobs workers) = (jobs ≤ MOST_JOBS) × (1 ≤ workers) × (workers ≤ 64)

-- a task that needs no workers
abbrev pub IsPlain : Task → Type 0
IsPlain Publish = ⊤
IsPlain Check = ⊤
IsPlain (Eval name arg) = ⊤
IsPlain (Made n kind) = ⊤
IsPlain (Mine seed jobs workers) = ⊥

-- a task for workers
abbrev pub IsMine : Task → Type 0
IsMine Publish = ⊥
IsMine Check = ⊥
IsMine (Eval name arg) = ⊥
IsMine (Made n kind) = ⊥
IsMine (Mine seed jobs workers) = ⊤

-- the path behind a key that has to stand once
abbrev pub path_of : List ℕ → List (List ℕ) → Option (List ℕ)
path_of key words = needed (values_of key words) >>? path_read

-- the path behind `store=`, or none for the empty store
abbrev pub store_path : List (List ℕ) → Option (Option (List ℕ))
store_path words = needed (values_of (codes "store=") words) >>? store_path_read

-- the step limit of the words
abbrev pub limit_of : List (List ℕ) → Option ℕ
limit_of words = optional (values_of (codes "steps=") words) >>? limit_or_default

-- the request, where every word has one of these keys
abbrev pub if_only : List (List ℕ) → List (List ℕ) → Option Request → Option Request
if_only keys words request = if has_only keys words then request else None

-- `publish terms= store= cands=`, and `steps=` if wanted
unfoldable pub publish_of : List (List ℕ) → Option Request
publish_of words =
    if_only (codes "terms=" ∷ codes "store=" ∷ codes "cands=" ∷ codes "steps=" ∷ []) words
    (path_of (codes "terms=") words >>? λ terms. store_path words >>? λ store. path_of (codes "cands=") words >>? λ candidates. limit_of words >>? λ limit.
    Some (record { task = Publish; terms = Some terms; store = store; candidates = Some candidates; limit = limit }))

-- `check terms= store=`, and `steps=` if wanted
unfoldable pub check_of : List (List ℕ) → Option Request
check_of words =
    if_only (codes "terms=" ∷ codes "store=" ∷ codes "steps=" ∷ []) words
    (path_of (codes "terms=") words >>? λ terms. store_path words >>? λ store. limit_of words >>? λ limit.
    Some (record { task = Check; terms = Some terms; store = store; candidates = None; limit = limit }))

-- `eval store= name= arg=`, and `steps=` if wanted
unfoldable pub eval_of : List (List ℕ) → Option Request
eval_of words =
    if_only (codes "store=" ∷ codes "name=" ∷ codes "arg=" ∷ codes "steps=" ∷ []) words
    (store_path words >>? λ store. (needed (values_of (codes "name=") words) >>? name_read) >>? λ name. (needed (values_of (codes "arg=") words) >>? arg_read) >>? λ arg. limit_of words >>? λ limit.
    Some (record { task = Eval name arg; terms = None; store = store; candidates = None; limit = limit }))

-- `made n= kind=`
unfoldable pub made_of : List (List ℕ) → Option Request
made_of words =
    if_only (codes "n=" ∷ codes "kind=" ∷ []) words
    ((needed (values_of (codes "n=") words) >>? number_read) >>? λ n. (needed (values_of (codes "kind=") words) >>? kind_read) >>? λ kind.
    Some (record { task = Made n kind; terms = None; store = None; candidates = None; limit = default_limit }))

-- `mine terms= store= seed= jobs= workers=`, and `steps=` if wanted
unfoldable pub mine_of : List (List ℕ) → Option Request
mine_of words =
    if_only (codes "terms=" ∷ codes "store=" ∷ codes "seed=" ∷ codes "jobs=" ∷ codes "workers=" ∷ codes "steps=" ∷ []) words
    (path_of (codes "terms=") words >>? λ terms. store_path words >>? λ store. (needed (values_of (codes "seed=") words) >>? seed_read) >>? λ seed. (needed (values_of (codes "jobs=") words) >>? jobs_read) >>? λ jobs. (needed (values_of (codes "workers=") words) >>? workers_read) >>? λ workers. limit_of words >>? λ limit.
    Some (record { task = Mine seed jobs workers; terms = Some terms; store = store; candidates = None; limit = limit }))

-- The grammar of the words of a command without workers: a command, and then words `key=value` in any order.
unfoldable pub request_of : List (List ℕ) → Option Request
request_of [] = None
request_of (command ∷ words) =
    if bytes_eq command (codes "publish") then publish_of words
    else (if bytes_eq command (codes "check") then check_of words
    else (if bytes_eq command (codes "eval") then eval_of words
    else (if bytes_eq command (codes "made") then made_of words else None)))

-- the grammar of the words of `mine`
unfoldable pub mine_request_of : List (List ℕ) → Option Request
mine_request_of [] = None
mine_request_of (command ∷ words) = if bytes_eq command (codes "mine") then mine_of words else None
