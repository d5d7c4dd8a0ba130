-- Words written over others. Assumes nothing.
use Rattle.std.specs.Prelude.{ℕ, List, ◌++◌, length, take, drop}

-- the words with those from p on overwritten by b
abbrev pub overlay : ℕ → List ℕ → List ℕ → List ℕ
overlay p b t = take p t ++ (b ++ drop (length b) (drop p t))
