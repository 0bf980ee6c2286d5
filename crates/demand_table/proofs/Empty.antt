-- The table without names.
use Rattle.std.proofs.Common.{ℕ, zero, suc, ◌≡◌, refl, sym, ap, ◌∙◌, []}
use Rattle.std.specs.Prelude.{IsSome}
use Rattle.std.specs.declared.option.Option.{Option}
use Rattle.std.specs.declared.option.Option.TheVariants.{Some, None}
use Rattle.std.specs.Option.{option_and_then, option_map}
use Rattle.std.specs.Ordering.{nat_cmp}
use Rattle.std.specs.FinMap as map
use Rattle.loda_semantics.specs.declared.kinds.Pair.{Pair}
use Rattle.demand_table.specs.declared.entry.Entry.{Entry}
use Rattle.demand_table.specs.declared.node.Node.{Node}
use Rattle.demand_table.specs.declared.node.Folder.{Folder}
use Rattle.demand_table.specs.declared.range.Range.{Range}
use Rattle.demand_table.specs.Counts.{IsCount}
use Rattle.demand_table.specs.Drawn.{CheckedRanges, ReachedAfter, Drawing, node_entry, IsDrawn}
use Rattle.demand_table.specs.Loaded.{Folders, node_in, node_at, checks_of}
use Rattle.demand_table.specs.Mended.{runs_of}
use Rattle.demand_table.specs.Reaching.{Index}
use Rattle.demand_table.specs.Held.{IsHeld}
use Rattle.demand_table.proofs.Counts.{nil-cases}
use Rattle.demand_table.proofs.Filing.{range_of}

module _ (D : Drawing) (C : CheckedRanges) (none : (p : Pair) → D p ≡ None) (free : (q : ℕ) → C q ≡ None) where
  no_node : (o : Option Node) (n : Node) → o ≡ None → o ≡ Some n → ⊥
  no_node o n e f = let g : None ≡ Some n = sym e ∙ f in cc

  no_some : (o : Option Node) → o ≡ None → IsSome o → ⊥
  no_some None e h = cc
  no_some (Some n) e h = cc

  no_run : (o : Option Node) (e : Entry) → o ≡ None → option_map node_entry o ≡ Some e → ⊥
  no_run None e f h = cc
  no_run (Some n) e f h = cc

  no_check : (o : Option Range) (r : Range) → o ≡ None → o ≡ Some r → ⊥
  no_check o r e f = let g : None ≡ Some r = sym e ∙ f in cc

  not_live : (n : ℕ) (p : Pair) → ReachedAfter C (runs_of D) n p → ⊥
  not_live zero p h = no_check (C p.name) h.0 (free p.name) h.1
  not_live (suc n) p h = no_run (D h.0) h.2.0 (none h.0) h.2.1

  pub nothing_drawn : IsDrawn C (runs_of D) D
  nothing_drawn = record {
    live = λ p. (λ h. absurd (no_some (D p) (none p) h), λ l. absurd (not_live l.0 p l.1));
    runs = λ p n is. absurd (no_node (D p) n (none p) is);
    totals = λ p n is. absurd (no_node (D p) n (none p) is);
    callers = λ p n is. absurd (no_node (D p) n (none p) is);
  }

  pub nothing_counted : IsCount (λ (p : Pair). IsSome (D p)) 0
  nothing_counted = record {
    things = [];
    differ = tt;
    exact = λ p. (λ h. absurd (no_some (D p) (none p) h), λ at. absurd (nil-cases p at));
    count = refl;
  }

no_folder : (o : Option Folder) (f : Folder) → o ≡ None → o ≡ Some f → ⊥
no_folder o f e g = let h : None ≡ Some f = sym e ∙ g in cc

not_some : (o : Option Node) (n : Node) → o ≡ None → o ≡ Some n → ⊥
not_some o n e f = let g : None ≡ Some n = sym e ∙ f in cc

pub empty_held : (folders : Folders) (callers : Index) → folders ≡ map.empty → IsHeld folders callers 0
empty_held folders callers is = record {
  drawn = nothing_drawn (node_at folders) (checks_of folders) no_nodes (λ q. ap (option_map range_of) (nothing q));
  ascend = λ q f e. absurd (no_folder (map.get folders q) f (nothing q) e);
  count = nothing_counted (node_at folders) (checks_of folders) no_nodes (λ q. ap (option_map range_of) (nothing q));
  covers = λ p to n e at. absurd (not_some (node_at folders p) n (no_nodes p) e);
}
  where
    nothing : (q : ℕ) → map.get folders q ≡ None
    nothing q = ap (λ (m : Folders). map.get m q) is ∙ map.get-empty nat_cmp q

    no_nodes : (p : Pair) → node_at folders p ≡ None
    no_nodes p = ap (option_and_then (λ (f : Folder). node_in f.nodes p.arg)) (nothing p.name)
