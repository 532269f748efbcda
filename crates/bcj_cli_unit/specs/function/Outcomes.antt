-- What the functions of the code answer, by the definitions and by the code as a function.
use Rattle.std.specs.Prelude.{◌≡◌, ℕ, List, Option, None, Some, Result, Ok, Err}
use Rattle.bcj_cli_unit.specs.declared.stop.UnitStop.{UnitStop}
use Rattle.bcj_cli_unit.specs.declared.stop.Miss.{Miss}
use Rattle.bcj_cli_unit.specs.declared.stop.Miss.TheVariants as miss
use Rattle.bcj_cli_unit.specs.Lacking.{ScopeState}
use Rattle.bcj_cli_unit.specs.Stops.{IsLack}

-- the first node that is lacking, where there is one
abbrev pub Finds : Option ℕ → Result (Unit {0}) UnitStop → Type 0
Finds o (Ok u) = o ≡ None
Finds o (Err stop) = IsLack o stop

-- the same of statements, with the locals in scope behind them
abbrev pub Walks : Option ℕ → ScopeState → Result (Unit {0}) UnitStop → ScopeState → Type 0
Walks o after (Ok u) new = (o ≡ None) × (new ≡ after)
Walks o after (Err stop) new = IsLack o stop

-- what is built of a node, where it has a form of the language
abbrev pub Builds : {A B : Type 0} → (A → B) → Option B → Result A Miss → Type 0
Builds view o (Ok x) = o ≡ Some (view x)
Builds view o (Err miss.NoForm) = o ≡ None
Builds view o (Err miss.NoMemory) = Unit {0}

-- a copy of a name
abbrev pub Copies : List ℕ → Result (List ℕ) Miss → Type 0
Copies bytes (Ok x) = x ≡ bytes
Copies bytes (Err miss.NoForm) = ⊥
Copies bytes (Err miss.NoMemory) = Unit {0}
