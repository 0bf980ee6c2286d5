-- The words that ask for help, as bytes.
use Rattle.std.specs.Prelude.{ℕ, List, [], ◌∷◌, codes, bytes_eq, if◌then◌else◌, Option, Some, None}
use Rattle.std.specs.Option.{option_map}
use Rattle.command_words.specs.declared.help.Command.{Command}
use Rattle.command_words.specs.declared.help.Command.TheVariants as commands
use Rattle.command_words.specs.declared.help.Help.{Help}
use Rattle.command_words.specs.declared.help.Help.TheVariants.{All, About, Version}

-- a command, by its word
abbrev pub command_read : List ℕ → Option Command
command_read word =
    if bytes_eq word (codes "publish") then Some commands.Publish
    else (if bytes_eq word (codes "mine") then Some commands.Mine
    else (if bytes_eq word (codes "check") then Some commands.Check
    else (if bytes_eq word (codes "eval") then Some commands.Eval
    else (if bytes_eq word (codes "made") then Some commands.Made else None))))

-- what a word asks for that stands alone
abbrev pub alone_read : List ℕ → Option Help
alone_read word =
    if bytes_eq word (codes "--help") then Some All
    else (if bytes_eq word (codes "-h") then Some All
    else (if bytes_eq word (codes "help") then Some All
    else (if bytes_eq word (codes "--version") then Some Version else None)))

-- what words ask for: such a word alone, or a command and then `--help`
abbrev pub help_read : List (List ℕ) → Option Help
help_read [] = None
help_read (word ∷ []) = alone_read word
help_read (command ∷ word ∷ []) = if bytes_eq word (codes "--help") then option_map (λ c. About c) (command_read command) else None
help_read (command ∷ word ∷ next ∷ words) = None
