use Rattle.std.proofs.Common.{◌≡◌, ◌∙◌, refl, sym, ap, subst, arith, pos, rules}
use Rattle.std.specs.declared.option.Option.TheVariants.{Some}
use Rattle.std.specs.Option.{option_copied}
use Rattle.std.specs.FinMap as map
use Rattle.program_store.specs.Store.{Store, published_at}
use Rattle.demand_table.specs.declared.node.Folder.{Folder}
use Rattle.demand_table.specs.Loaded.{Folders}
use Rattle.demand_table.proofs.Copied.{IsCopied, copied_none, copied_more, all_copied, is_undrawn}
use Rattle.demand_table.proofs.building.copy_store.Goals as goal

pub loop-name-init : goal.loop-name-init
loop-name-init c = record { within = omega arith; copied = copied_none c.args.store.now c.in_ok-programs.programs c.in_ok-folders.folders c.in_ok-programs.ensures c.in_ok-folders.ensures }

pub loop-name-preserved-in_ok-programs-2 : goal.loop-name-preserved-in_ok-programs-2
loop-name-preserved-in_ok-programs-2 c =
    let s = c.args.store.now in
    let name = c.in-Some.name in
    let e = c.in-Some-published.published.now in
    let f : Folder = record { first = pos 0; checked = e.checked; nodes = c.of.result } in
    let there : published_at s name ≡ Some e = sym c.published.ensures.value ∙ ap option_copied c.in-Some-published.is in
    let filed : c.in_ok-folders-2.folders ≡ map.insert c.loop-name.folders name f = search rules in
    let copied : c.in_ok-programs-2.programs ≡ map.insert c.loop-name.programs name c.in_ok-copy.field-0 = search rules in
    let put : c.in_ok-programs-2.programs ≡ map.insert c.loop-name.programs name e = copied ∙ ap (map.insert c.loop-name.programs name) c.in_ok-copy.ensures in
    let more = copied_more s c.loop-name.programs c.loop-name.folders c.loop-name.last name e f c.in-Some.ensures.some.0 there c.in-Some.ensures.least refl refl (c.of.ensures ∙ c.new.ensures.items) c.loop-name.invariant.copied in
    record {
      within = c.in-Some.ensures.named.1;
      copied = subst (λ (m : Store). IsCopied s m c.in_ok-folders-2.folders name) (sym put) (subst (λ (k : Folders). IsCopied s (map.insert c.loop-name.programs name e) k name) (sym filed) more);
    }

pub returns-clause-programs : goal.returns-clause-programs
returns-clause-programs c =
    all_copied c.args.store.now c.loop-name.programs c.loop-name.folders c.loop-name.last c.next_name.ensures.kept c.in_default.ensures.none c.loop-name.invariant.copied

pub returns-clause-folders : goal.returns-clause-folders
returns-clause-folders c =
    is_undrawn c.args.store.now c.loop-name.programs c.loop-name.folders c.loop-name.last c.next_name.ensures.kept c.in_default.ensures.none c.loop-name.invariant.copied
