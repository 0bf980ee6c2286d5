use Rattle.std.proofs.Common.{◌≡◌, map, string_bytes, IfSome, None, sym, subst}
use Rattle.command_words.specs.Words.{request_of, mine_request_of}
use Rattle.command_words.proofs.Apart.{apart}
use Rattle.command_words.proofs.help.help_of.Goals as goal

pub returns-clause-apart : goal.returns-clause-apart
returns-clause-apart c =
    let words = map string_bytes c.args.words.now in
    subst (λ o. IfSome o (λ _. (request_of words ≡ None) × (mine_request_of words ≡ None))) (sym c.asked.ensures) (apart words)
