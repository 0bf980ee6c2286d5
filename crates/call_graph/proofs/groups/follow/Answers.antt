use Rattle.std.proofs.Common.{ℕ, ◌≡◌, ◌⊎◌, ◌+◌, ◌≤◌, sym, ap, subst, ◌∙◌, List, Some, Contains, get_or, length, reverse, arith}
use Rattle.std.specs.Option.{option_copied}
use Rattle.loda_syntax.specs.Programs.{Text}
use Rattle.loda_semantics.specs.Exec.{Library}
use Rattle.call_graph.specs.Closure.{CallsName}
use Rattle.call_graph.specs.Groups.{IsMet, IsLeft, IsKnown, IsGrouped, IsFollowed}
use Rattle.call_graph.proofs.Sets.{read-at}
use Rattle.call_graph.proofs.Following.{call-at, other-at, called-here, followed-up_to, followed-other, followed-all, known-fewer, known-grouped, known-followed}
use Rattle.call_graph.proofs.groups.follow.Goals as goal
use Rattle.call_graph.proofs.groups.follow.Goals.{in-Call+else-is_new, in_default}

-- the text of the name at the place
text-of : (lib : Library) (stack : List ℕ) (place name : ℕ) (text read : Text) → name ≡ get_or stack place 0 → lib name ≡ Some read → text ≡ read → lib (get_or stack place 0) ≡ Some text
text-of lib stack place name text read is has same = ap lib (sym is) ∙ has ∙ ap (λ (t : Text). Some t) (sym same)

pub returns-then-is_new-clause-fewer : goal.returns-then-is_new-clause-fewer
returns-then-is_new-clause-fewer g c b there =
    c.loop-at.invariant.fewer b (subst (λ (l : List ℕ). Contains (reverse l) b) (c.is_new.ensures.starts c.if-is_new.true) there)

pub returns-then-is_new-clause-called : goal.returns-then-is_new-clause-called
returns-then-is_new-clause-called g c =
    let lib : Library = g.B.Library.programs c.args.lib.now in
    let stack : List ℕ = c.args.stack.now.keys in
    let place : ℕ = c.args.frame.now.place in
    let text : Text = c.instrs-list.result.now in
    let is : c.in_ok-name.name.now ≡ get_or stack place 0 =
    read-at stack place c.in_ok-name.name.now c.requires.within (sym c.get_index.ensures.key ∙ ap option_copied c.in_ok-name.was) in
    let has : lib (get_or stack place 0) ≡ Some text =
    text-of lib stack place c.in_ok-name.name.now text c.in_ok-program.program.now is (sym c.program.ensures ∙ ap option_copied c.in_ok-program.was) c.instrs-list.ensures.value in
    called-here lib c.args.done.now.keys stack (reverse c.loop-at.starts.items) place text has c.loop-at.at c.in-Call.name
    (call-at text c.loop-at.at _ c.in-Call.target c.in-Call.name c.loop-at-test.true c.in-Call.is)

pub returns-then-is_new-clause-some : goal.returns-then-is_new-clause-some
returns-then-is_new-clause-some g c =
    let lib : Library = g.B.Library.programs c.args.lib.now in
    let done : List ℕ = c.args.done.now.keys in
    let stack : List ℕ = c.args.stack.now.keys in
    let place : ℕ = c.args.frame.now.place in
    let at : ℕ = c.loop-at.at in
    let name : ℕ = c.in-Call.name in
    let text : Text = c.instrs-list.result.now in
    let is : c.in_ok-name.name.now ≡ get_or stack place 0 =
    read-at stack place c.in_ok-name.name.now c.requires.within (sym c.get_index.ensures.key ∙ ap option_copied c.in_ok-name.was) in
    let has : lib (get_or stack place 0) ≡ Some text =
    text-of lib stack place c.in_ok-name.name.now text c.in_ok-program.program.now is (sym c.program.ensures ∙ ap option_copied c.in_ok-program.was) c.instrs-list.ensures.value in
    subst
    (λ (l : List ℕ). (n : ℕ) → CallsName lib (get_or stack place 0) n → IsMet done stack (reverse l) place n ⊎ ((name ≡ n) ⊎ IsLeft lib (get_or stack place 0) (at + 1) n))
    (sym (c.is_new.ensures.starts c.if-is_new.true))
    (followed-up_to lib done stack (reverse c.loop-at.starts.items) place text has at name (call-at text at _ c.in-Call.target name c.loop-at-test.true c.in-Call.is) c.loop-at.invariant.followed)

pub loop-at-preserved : goal.loop-at-preserved
loop-at-preserved g c =
    let lib : Library = g.B.Library.programs c.args.lib.now in
    let done : List ℕ = c.args.done.now.keys in
    let stack : List ℕ = c.args.stack.now.keys in
    let starts : List ℕ = reverse c.loop-at.starts.items in
    let place : ℕ = c.args.frame.now.place in
    let at : ℕ = c.loop-at.at in
    let text : Text = c.instrs-list.result.now in
    let is : c.in_ok-name.name.now ≡ get_or stack place 0 =
    read-at stack place c.in_ok-name.name.now c.requires.within (sym c.get_index.ensures.key ∙ ap option_copied c.in_ok-name.was) in
    let has : lib (get_or stack place 0) ≡ Some text =
    text-of lib stack place c.in_ok-name.name.now text c.in_ok-program.program.now is (sym c.program.ensures ∙ ap option_copied c.in_ok-program.was) c.instrs-list.ensures.value in
    let last = λ (b : ℕ) (there : Contains starts b). c.requires.last b (c.loop-at.invariant.fewer b there) in
    elim c.match-list-at.branch [
      | in-Call+else-is_new w ↦
          let name : ℕ = w.in-Call.name in
          let here = call-at text at _ w.in-Call.target name c.loop-at-test.true w.in-Call.is in
          let new : List ℕ = reverse c.match-list-at.starts.items in
          let e : c.match-list-at.starts.items ≡ w.is_new.new.starts.items = cc (w.starts-is) in
          let known : IsKnown done stack starts new name = subst (λ (l : List ℕ). IsKnown done stack starts (reverse l) name) (sym e) (w.is_new.ensures.known w.if-is_new.false) in
          record {
            grouped = known-grouped lib done stack starts place text has at name here c.requires.within c.loop-at.invariant.grouped last c.loop-at.invariant.followed new known;
            fewer = λ b there.
                c.loop-at.invariant.fewer b
                (known-fewer lib done stack starts place text has at name here c.requires.within c.loop-at.invariant.grouped last c.loop-at.invariant.followed new known b there);
            followed = known-followed lib done stack starts place text has at name here c.requires.within c.loop-at.invariant.grouped last c.loop-at.invariant.followed new known;
          }
      | in_default w ↦
          let e : c.match-list-at.starts.items ≡ c.loop-at.starts.items = cc (w.starts-is) in
          let same = other-at text at _ c.loop-at-test.true w.in_default.not-Call in
          record {
            grouped = subst (λ (l : List ℕ). IsGrouped lib done stack (reverse l)) (sym e) c.loop-at.invariant.grouped;
            fewer = λ b there. c.loop-at.invariant.fewer b (subst (λ (l : List ℕ). Contains (reverse l) b) e there);
            followed = subst (λ (l : List ℕ). IsFollowed lib done stack (reverse l) place (at + 1)) (sym e)
                (followed-other lib done stack starts place text has at same c.loop-at.invariant.followed);
          }
    ]

pub returns-clause-none : goal.returns-clause-none
returns-clause-none g c =
    let lib : Library = g.B.Library.programs c.args.lib.now in
    let done : List ℕ = c.args.done.now.keys in
    let stack : List ℕ = c.args.stack.now.keys in
    let place : ℕ = c.args.frame.now.place in
    let text : Text = c.instrs-list.result.now in
    let is : c.in_ok-name.name.now ≡ get_or stack place 0 =
    read-at stack place c.in_ok-name.name.now c.requires.within (sym c.get_index.ensures.key ∙ ap option_copied c.in_ok-name.was) in
    let has : lib (get_or stack place 0) ≡ Some text =
    text-of lib stack place c.in_ok-name.name.now text c.in_ok-program.program.now is (sym c.program.ensures ∙ ap option_copied c.in_ok-program.was) c.instrs-list.ensures.value in
    let le : length text ≤ c.loop-at.at = omega arith in
    followed-all lib done stack (reverse c.loop-at.starts.items) place text has c.loop-at.at le c.loop-at.invariant.followed
