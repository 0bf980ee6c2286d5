use Rattle.std.proofs.Common.{◌≡◌, subst, [], ◌∷◌, rules}
use Rattle.demand_table.proofs.Filing.{Opened, IsWriting, writing_more, written_down}
use Rattle.demand_table.proofs.writing.written.Goals as goal

pub loop-name-preserved : goal.loop-name-preserved
loop-name-preserved c =
    let all = c.args.work.touched.entries in
    let e : c.loop-name.name-iterator ≡ (c.in-Some.name, c.in-Some.slots) ∷ c.next.new.self = search rules in
    writing_more c.args.folders.now c.loop-name.next c.in_ok-next-2.next all (c.in-Some.name, c.in-Some.slots) c.next.new.self
    (subst (λ (l : Opened). IsWriting c.args.folders.now c.loop-name.next all l) e c.loop-name.invariant) c.in_ok-next-2.ensures

pub returns : goal.returns
returns c =
    let e : c.loop-name.name-iterator ≡ [] = search rules in
    written_down c.args.folders.now c.loop-name.next c.args.work (subst (λ (l : Opened). IsWriting c.args.folders.now c.loop-name.next c.args.work.touched.entries l) e c.loop-name.invariant)
