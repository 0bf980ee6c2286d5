use Rattle.std.proofs.Common.{ℕ, ◌<◌, ◌≤◌, sym, ◌∙◌, true≢false, length, get_or, Contains, arith}
use Rattle.std.specs.Cmp.{nat_eq_equiv}
use Rattle.std.proofs.lemmas.Map.Views.{Contains-from_any, list_any-from_Contains, exact_unsigned_eq}
use Rattle.evidence.specs.declared.change.Change.{Change}
use Rattle.carry_over.proofs.Touching.{none_more, found_first, none_all}
use Rattle.carry_over.proofs.reach.first_among.Goals as goal

pub returns-then-contains-clause-some : goal.returns-then-contains-clause-some
returns-then-contains-clause-some c =
    let i : ℕ = c.loop-change.change-index in
    let lt : i < length c.args.changes.now = omega arith in
    let d : Change = record { at = 0; name = 0 } in
    found_first (Contains c.args.names.now.keys) c.args.changes.now i d lt (Contains-from_any exact_unsigned_eq (get_or c.args.changes.now i d).name c.args.names.now.keys (sym c.contains.ensures ∙ c.if-contains.true)) c.loop-change.invariant

pub loop-change-preserved : goal.loop-change-preserved
loop-change-preserved c =
    let i : ℕ = c.loop-change.change-index in
    let lt : i < length c.args.changes.now = omega arith in
    let d : Change = record { at = 0; name = 0 } in
    none_more (Contains c.args.names.now.keys) c.args.changes.now i d lt
    (λ there. true≢false (sym (list_any-from_Contains nat_eq_equiv (get_or c.args.changes.now i d).name c.args.names.now.keys there) ∙ sym c.contains.ensures ∙ c.if-contains.false)) c.loop-change.invariant

pub returns-clause-none : goal.returns-clause-none
returns-clause-none c =
    let i : ℕ = c.loop-change.change-index in
    let le : length c.args.changes.now ≤ i = omega arith in
    none_all (Contains c.args.names.now.keys) c.args.changes.now i le c.loop-change.invariant
