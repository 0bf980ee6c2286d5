use Rattle.std.proofs.Common.{ℕ, List, Bor, Global, String, nat_eq, string_bytes, rules, tests, sym, ◌∙◌}
use Rattle.std.specs.List.{starts_with, list_any}
use Rattle.std.proofs.lemmas.Iterator.{YieldsList-from_slice}
use Rattle.std.proofs.lemmas.Iterator.Search.{all_from_yields_List}
use Rattle.command_words.proofs.ReadWords.{has_only_mapped}
use Rattle.command_words.proofs.words.has_only.Goals as goal

pub returns : goal.returns
returns c =
    let has_one : String Global → _ = λ word. list_any (λ (key : Bor (List ℕ)). starts_with nat_eq (string_bytes word) key.now) c.args.keys.now in
    let each = all_from_yields_List has_one _ _ c.all.result c.all.ensures.ran (YieldsList-from_slice c.args.words.now cc) (λ x b q k. search (rules, tests)) in
    each ∙ sym (has_only_mapped (λ (key : Bor (List ℕ)). key.now) c.args.keys.now (string_bytes {Z = Global}) c.args.words.now)
