-- The bound of the language that runs today that is no bound of its programs' trees.
use Rattle.std.specs.Prelude.{ℕ}

-- how deep parentheses may nest in an expression
abbrev pub max_parentheses : ℕ
max_parentheses = 64
