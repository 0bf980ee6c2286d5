use Rattle.std.proofs.Common.{ℕ, ◌≡◌, ◌++◌, ◌∷◌, [], ◌↔◌, sym, ap, subst, ◌∙◌, List, Contains}
use Rattle.loda_semantics.specs.Exec.{Library}
use Rattle.program_store.specs.Store.{programs_of}
use Rattle.program_store.specs.Graph.{CallsReach}
use Rattle.carry_over.specs.Stores.{IsInReach}
use Rattle.carry_over.proofs.Reaching.{reach_listed}
use Rattle.carry_over.proofs.reach.reach.Goals as goal

pub returns : goal.returns
returns g c r =
    let older = g.V.View.store c.args.older.now in
    let newer = g.W.View.store c.args.newer.now in
    let q : ℕ = c.args.proposal.now.name in
    let p = c.args.proposal.now.program in
    let same : g.V.Library.programs c.args.older.now ≡ programs_of older = λ i n. g.met.V.View.same_programs c.args.older.now n i in
    let proposed : List ℕ = c.in_ok-names.names.items in
    let present : List ℕ = c.in_ok-names_below.field-0.items in
    let above : List ℕ = c.in_ok-ancestors.field-0.items in
    let above2 : List ℕ = c.in_ok-ancestors-2.field-0.items in
    let one : c.push.new.self.items ≡ proposed ++ q ∷ [] = c.in_ok-push.ensures.items in
    let two : c.append.new.self.items ≡ (proposed ++ q ∷ []) ++ present = c.in_ok-append.ensures.items ∙ ap (λ (l : List ℕ). l ++ present) one in
    let three : c.append-2.new.self.items ≡ ((proposed ++ q ∷ []) ++ present) ++ above = c.in_ok-append-2.ensures.items ∙ ap (λ (l : List ℕ). l ++ above) two in
    let four : c.append-3.new.self.items ≡ (((proposed ++ q ∷ []) ++ present) ++ above) ++ above2 = c.in_ok-append-3.ensures.items ∙ ap (λ (l : List ℕ). l ++ above2) three in
    subst (λ (l : List ℕ). Contains l r ↔ IsInReach older newer q p r) (sym four)
    (reach_listed older newer q p proposed present above above2 r
    (subst (λ (lib : Library). Contains proposed r ↔ CallsReach lib p r) same (c.in_ok-names.ensures.exact r))
    (c.in_ok-names_below.ensures r)
    (c.in_ok-ancestors.ensures.exact r)
    (c.in_ok-ancestors-2.ensures.exact r))
