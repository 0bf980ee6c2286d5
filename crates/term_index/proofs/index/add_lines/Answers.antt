use Rattle.std.proofs.Common.{◌≡◌, true, sym, nat_le, length, arith, ap, ◌∙◌, ◌++◌, [], ◌∷◌, take}
use Rattle.std.specs.List.{filter_map}
use Rattle.oeis_terms.specs.Table.{Row}
use Rattle.term_index.specs.Matching.{linear_match}
use Rattle.term_index.proofs.Firsts.{short, found-more, found-all}
use Rattle.term_index.proofs.index.add_lines.Goals as goal

pub loop-entry-preserved : goal.loop-entry-preserved
loop-entry-preserved c =
    found-more 16 (linear_match c.args.values.now) c.args.found.now.items c.loop-entry.found.items c.add_linear_entry.new.found.items c.args.entries.now c.loop-entry.entry-index c.entry-item.result
    c.loop-entry-test.true c.loop-entry.invariant (c.in_ok-add_linear_entry.ensures ∙ ap (λ (x : Row). take 16 (c.loop-entry.found.items ++ filter_map (linear_match c.args.values.now) (x ∷ []))) c.entry-item.is)

pub returns-then-is_full : goal.returns-then-is_full
returns-then-is_full c =
    let most = short 16 c.loop-entry.found.items _ c.loop-entry.invariant in
    let test : nat_le 16 (length c.loop-entry.found.items) ≡ true = ap (λ l. nat_le 16 (length l)) (sym c.deref.ensures.value) ∙ sym c.is_full.ensures ∙ c.if-is_full.true in
    let is : length c.loop-entry.found.items ≡ 16 = grind (arith, most, test) in
    found-all 16 (linear_match c.args.values.now) c.args.found.now.items c.loop-entry.found.items c.args.entries.now c.loop-entry.entry-index c.loop-entry.invariant is
