use Rattle.std.proofs.Common.{ℕ, ◌↔◌, sym, subst, List, Contains}
use Rattle.carry_over.specs.Stores.{IsInReach}
use Rattle.carry_over.proofs.Touching.{found_too, missed_too}
use Rattle.carry_over.proofs.reach.first_touched.Goals as goal

pub returns-clause-some : goal.returns-clause-some
returns-clause-some g c =
    let Here = IsInReach (g.V.View.store c.args.older.now) (g.W.View.store c.args.newer.now) c.args.proposal.now.name c.args.proposal.now.program in
    let listed : (r : ℕ) → Contains c.deref.result.now r ↔ Here r = λ r. subst (λ (l : List ℕ). Contains l r ↔ Here r) (sym c.deref.ensures.value) (c.in_ok-names.ensures r) in
    found_too (Contains c.in_ok-set.set.keys) Here (λ r. let s = c.in_ok-set.ensures r in let l = listed r in (λ h. l.0 (s.0 h), λ h. s.1 (l.1 h))) c.args.changes.now c.first_among.result c.first_among.ensures.some

pub returns-clause-none : goal.returns-clause-none
returns-clause-none g c =
    let Here = IsInReach (g.V.View.store c.args.older.now) (g.W.View.store c.args.newer.now) c.args.proposal.now.name c.args.proposal.now.program in
    let listed : (r : ℕ) → Contains c.deref.result.now r ↔ Here r = λ r. subst (λ (l : List ℕ). Contains l r ↔ Here r) (sym c.deref.ensures.value) (c.in_ok-names.ensures r) in
    missed_too (Contains c.in_ok-set.set.keys) Here (λ r. let s = c.in_ok-set.ensures r in let l = listed r in (λ h. l.0 (s.0 h), λ h. s.1 (l.1 h))) c.args.changes.now c.first_among.result c.first_among.ensures.none
