-- How large a program is: its numbers, and the temporaries that its expressions take.
use Rattle.std.specs.Prelude.{ℕ, ◌+◌, ◌-◌, ◌^◌, ◌<◌, ◌≤◌, max, []}
use Rattle.bcj_cli_language.specs.Tree.{Sum, number, local, binary, Test, Act, print, declare, assign, choose, repeat, Acts, nil, cons}
use Rattle.bcj_cli_language.specs.Meaning.{int_bits}
use Rattle.bcj_cli_language.specs.Scopes.{AreScoped, declared_in, blocks_in}

-- the last number of the type `int`
abbrev pub max_int : ℕ
max_int = 2 ^ (int_bits - 1) - 1

-- the most temporaries that an expression may take, locals that a program may declare, and blocks that may lie in one another
abbrev pub max_temporaries : ℕ
max_temporaries = 130

abbrev pub max_locals : ℕ
max_locals = 100

abbrev pub max_blocks : ℕ
max_blocks = 64

-- the most turns that a run may be given
abbrev pub max_turns : ℕ
max_turns = 2147483647

-- the right operand stands on a temporary for the left one
abbrev pub temporaries_of : Sum → ℕ
temporaries_of (number n) = 0
temporaries_of (local x) = 0
temporaries_of (binary op a b) = max (temporaries_of a) (1 + temporaries_of b)

abbrev pub HasSmallNumbers : Sum → Type 0
HasSmallNumbers (number n) = n < max_int + 1
HasSmallNumbers (local x) = Unit {0}
HasSmallNumbers (binary op a b) = HasSmallNumbers a × HasSmallNumbers b

abbrev pub IsSmallSum : Sum → Type 0
IsSmallSum e = HasSmallNumbers e × (temporaries_of e ≤ max_temporaries)

abbrev pub IsSmallTest : Test → Type 0
IsSmallTest t = IsSmallSum t.left × IsSmallSum t.right

abbrev mutual
  pub IsSmall : Act → Type 0
  IsSmall (print e) = IsSmallSum e
  IsSmall (declare x e) = IsSmallSum e
  IsSmall (assign x e) = IsSmallSum e
  IsSmall (choose t a b) = IsSmallTest t × AreSmall a × AreSmall b
  IsSmall (repeat t a) = IsSmallTest t × AreSmall a

  pub AreSmall : Acts → Type 0
  AreSmall nil = Unit {0}
  AreSmall (cons a rest) = IsSmall a × AreSmall rest

-- the bounds that a program of the language keeps
pub record IsBounded (p : Acts) : Type 0 where
  pub scoped : AreScoped [] p
  pub declared : declared_in p ≤ max_locals
  pub blocks : blocks_in p ≤ max_blocks
  pub small : AreSmall p
