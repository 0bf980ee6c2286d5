-- What tables keep of a store: the programs are those of a store, and the folders hold the table of it. Only clauses of private functions use what stands here.
use Rattle.std.specs.Prelude.{ℕ, ◌≡◌}
use Rattle.program_store.specs.Store.{Store, IsStore}
use Rattle.demand_table.specs.Loaded.{Folders, node_at, checks_of}
use Rattle.demand_table.specs.Table.{checks_in_store, IsDemandTable}

-- The folders have the checked arguments of the store, and their nodes are its table.
pub record IsTabled (s : Store) (folders : Folders) : Type 0 where
  pub kept : IsStore s
  pub checks : (name : ℕ) → checks_of folders name ≡ checks_in_store s name
  pub table : IsDemandTable s (node_at folders)
