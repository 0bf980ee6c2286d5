-- The canonical text of a store.
use Rattle.std.specs.Prelude.{ℕ, ◌≤◌, ◌≡◌, List, ◌∷◌, ◌++◌, map, Ok, Some}
use Rattle.std.specs.List.{concat}
use Rattle.std.specs.FinMap.{entries}
use Rattle.loda_syntax.specs.Canon.{canon}
use Rattle.program_store.specs.declared.published.Published.{Published}
use Rattle.program_store.specs.Store.{Store, published_at}
use Rattle.program_store.specs.Headers.{store_header}
use Rattle.program_store.specs.Files.{store_read}

-- an entry: its header, LF, and its program's canonical text
unfoldable pub published_text : ℕ × Published → List ℕ
published_text entry = store_header entry.0 entry.1.checked ++ 10 ∷ canon entry.1.program

-- the entries in ascending order of their names
unfoldable pub store_text : Store → List ℕ
store_text s = concat (map published_text (entries s))

-- each count is one that a store file may have
pub record HasCounts (s : Store) : Type 0 where
  pub least : (q : ℕ) (e : Published) → published_at s q ≡ Some e → 8 ≤ e.checked
  pub greatest : (q : ℕ) (e : Published) → published_at s q ≡ Some e → e.checked ≤ 32768

-- the text of a store whose counts a file may have is read as that store
abbrev pub StoreReadsBack : Store → Type 0
StoreReadsBack s = HasCounts s → store_read (store_text s) ≡ Ok s
