-- The bytes of made rows and made candidates, of the first n places.
use Rattle.std.specs.Prelude.{ℕ, zero, suc, ◌+◌, List, [], ◌++◌, codes}
use Rattle.std.specs.Fmt.{decimal}
use Rattle.loda_syntax.specs.Canon.{canon}
use Rattle.program_store.specs.declared.published.Proposal.{Proposal}
use Rattle.text_parts.specs.Names.{name_text}
use Rattle.made_input.specs.Values.{term, first, plain}

-- the first so many terms of a place, each followed by a comma
unfoldable pub term_texts : ℕ → ℕ → List ℕ
term_texts i zero = []
term_texts i (suc k) = term_texts i k ++ (decimal (term i k) ++ codes ",")

-- a line of the terms file: the name, a space, a comma, and the ten terms
unfoldable pub row_text : ℕ → List ℕ
row_text i = name_text (i + 1) ++ codes " ," ++ term_texts i 10 ++ codes "\n"

-- the terms file
unfoldable pub terms_text : ℕ → List ℕ
terms_text zero = []
terms_text (suc i) = terms_text i ++ row_text i

-- a section of a candidates file: its header, and the canonical text of the program
unfoldable pub candidate_text : Proposal → List ℕ
candidate_text p = codes "? " ++ name_text p.name ++ codes "\n" ++ canon p.program

-- the texts of the first so many candidates, one after the other
unfoldable pub each_text : (ℕ → Proposal) → ℕ → List ℕ
each_text p zero = []
each_text p (suc i) = each_text p i ++ candidate_text (p i)

-- the candidates file: all first programs, and then all plain ones
abbrev pub candidates_text : ℕ → List ℕ
candidates_text n = each_text first n ++ each_text plain n
