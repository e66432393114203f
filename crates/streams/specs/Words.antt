-- The words of a command line, behind the program's name.
-- Assumes nothing.
use Rattle.std.specs.Prelude.{ℕ, List, [], ◌∷◌, codes}
use Rattle.streams.specs.declared.words.Task.{Task}
use Rattle.streams.specs.declared.words.Task.TheVariants.{Work, Help, Version}

-- the words that ask for a task
abbrev pub words_for : Task → List (List ℕ)
words_for Work = []
words_for Help = codes "--help" ∷ []
words_for Version = codes "--version" ∷ []
