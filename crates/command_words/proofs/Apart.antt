-- Words that ask for help are in no command's grammar.
use Rattle.std.proofs.Common.{◌≡◌, ℕ, Bool, true, false, List, [], ◌∷◌, refl, sym, subst}
use Rattle.std.specs.Prelude.{Option, Some, None, IfSome, codes, bytes_eq, if◌then◌else◌}
use Rattle.std.specs.Option.{option_map}
use Rattle.std.proofs.lemmas.Slice.Eq.{bytes_eq-Decides}
use Rattle.command_words.specs.declared.help.Command.{Command}
use Rattle.command_words.specs.declared.help.Help.{Help}
use Rattle.command_words.specs.declared.help.Help.TheVariants.{About}
use Rattle.command_words.specs.Words.{publish_of, check_of, eval_of, made_of, mine_of, request_of, mine_request_of}
use Rattle.command_words.specs.Help.{command_read, alone_read, help_read}

-- words that no command has
abbrev InNoGrammar : List (List ℕ) → Type 0
InNoGrammar words = (request_of words ≡ None) × (mine_request_of words ≡ None)

-- a word and the bytes that it has
same : (word text : List ℕ) → bytes_eq word text ≡ true → word ≡ text
same word text e = (bytes_eq-Decides word text).0 e

-- what holds where a test of a word decides, and where it doesn't
test_is : {A : Type 0} (b : Bool) (one other : Option A) (P : Type 0) → (b ≡ true → P) → IfSome other (λ _. P) → IfSome (if b then one else other) (λ _. P)
test_is true (Some a) other P h k = h refl
test_is true None other P h k = tt
test_is false one other P h k = k

mapped : (o : Option Command) (P : Type 0) → IfSome o (λ _. P) → IfSome (option_map (λ c. About c) o) (λ _. P)
mapped None P h = tt
mapped (Some c) P h = h

alone_apart : (word : List ℕ) → IfSome (alone_read word) (λ _. InNoGrammar (word ∷ []))
unfolding request_of mine_request_of
alone_apart word =
    test_is (bytes_eq word (codes "--help")) _ _ _ (λ e. subst (λ w. InNoGrammar (w ∷ [])) (sym (same word (codes "--help") e)) (refl, refl))
    (test_is (bytes_eq word (codes "-h")) _ _ _ (λ e. subst (λ w. InNoGrammar (w ∷ [])) (sym (same word (codes "-h") e)) (refl, refl))
    (test_is (bytes_eq word (codes "help")) _ _ _ (λ e. subst (λ w. InNoGrammar (w ∷ [])) (sym (same word (codes "help") e)) (refl, refl))
    (test_is (bytes_eq word (codes "--version")) _ _ _ (λ e. subst (λ w. InNoGrammar (w ∷ [])) (sym (same word (codes "--version") e)) (refl, refl)) tt)))

-- a command and then `--help`
abbrev Asked : List ℕ → Type 0
Asked command = InNoGrammar (command ∷ codes "--help" ∷ [])

command_apart : (command : List ℕ) → IfSome (command_read command) (λ _. Asked command)
unfolding request_of mine_request_of publish_of check_of eval_of made_of mine_of
command_apart command =
    test_is (bytes_eq command (codes "publish")) _ _ _ (λ e. subst Asked (sym (same command (codes "publish") e)) (refl, refl))
    (test_is (bytes_eq command (codes "mine")) _ _ _ (λ e. subst Asked (sym (same command (codes "mine") e)) (refl, refl))
    (test_is (bytes_eq command (codes "check")) _ _ _ (λ e. subst Asked (sym (same command (codes "check") e)) (refl, refl))
    (test_is (bytes_eq command (codes "eval")) _ _ _ (λ e. subst Asked (sym (same command (codes "eval") e)) (refl, refl))
    (test_is (bytes_eq command (codes "made")) _ _ _ (λ e. subst Asked (sym (same command (codes "made") e)) (refl, refl)) tt))))

-- the first word of two, and the second one
second_apart : (b : Bool) (o : Option Help) (P : Type 0) → (b ≡ true → IfSome o (λ _. P)) → IfSome (if b then o else None) (λ _. P)
second_apart true o P h = h refl
second_apart false o P h = tt

pub apart : (words : List (List ℕ)) → IfSome (help_read words) (λ _. InNoGrammar words)
apart [] = tt
apart (word ∷ []) = alone_apart word
apart (command ∷ word ∷ []) =
    second_apart (bytes_eq word (codes "--help")) _ _ (λ e.
    subst (λ w. IfSome (option_map (λ c. About c) (command_read command)) (λ _. InNoGrammar (command ∷ w ∷ []))) (sym (same word (codes "--help") e)) (mapped (command_read command) _ (command_apart command)))
apart (command ∷ word ∷ next ∷ words) = tt
