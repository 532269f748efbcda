-- Which locals a program may name, and how many blocks may lie in one another. A local is in scope from
-- behind its declaration to the end of the block that has it (JLS 6.3), and no second local of its name
-- is declared there (JLS 6.4).
use Rattle.std.specs.Prelude.{◌≡◌, ℕ, ◌+◌, max, List, ◌∷◌, Contains, codes}
use Rattle.bcj_cli_language.specs.Tree.{Sum, number, local, binary, Test, Act, print, declare, assign, choose, repeat, Acts, nil, cons}

abbrev pub Scope : Type 0
Scope = List (List ℕ)

abbrev pub IsScopedSum : Scope → Sum → Type 0
IsScopedSum scope (number n) = Unit {0}
IsScopedSum scope (local x) = Contains scope x
IsScopedSum scope (binary op a b) = IsScopedSum scope a × IsScopedSum scope b

abbrev pub IsScopedTest : Scope → Test → Type 0
IsScopedTest scope t = IsScopedSum scope t.left × IsScopedSum scope t.right

-- the names in scope behind a statement
abbrev pub names_after : Scope → Act → Scope
names_after scope (declare x e) = x ∷ scope
names_after scope _ = scope

-- `System` names the class with the standard output, so that no local may hide it
abbrev mutual
  pub IsScoped : Scope → Act → Type 0
  IsScoped scope (print e) = IsScopedSum scope e
  IsScoped scope (declare x e) = IsScopedSum scope e × (Contains scope x → ⊥) × (x ≡ codes "System" → ⊥)
  IsScoped scope (assign x e) = Contains scope x × IsScopedSum scope e
  IsScoped scope (choose t a b) = IsScopedTest scope t × AreScoped scope a × AreScoped scope b
  IsScoped scope (repeat t a) = IsScopedTest scope t × AreScoped scope a

  pub AreScoped : Scope → Acts → Type 0
  AreScoped scope nil = Unit {0}
  AreScoped scope (cons a rest) = IsScoped scope a × AreScoped (names_after scope a) rest

-- how many locals are declared
abbrev mutual
  pub declared_by : Act → ℕ
  declared_by (print e) = 0
  declared_by (declare x e) = 1
  declared_by (assign x e) = 0
  declared_by (choose t a b) = declared_in a + declared_in b
  declared_by (repeat t a) = declared_in a

  pub declared_in : Acts → ℕ
  declared_in nil = 0
  declared_in (cons a rest) = declared_by a + declared_in rest

-- how many blocks of `if`, `else` and `while` lie in one another
abbrev mutual
  pub blocks_of : Act → ℕ
  blocks_of (print e) = 0
  blocks_of (declare x e) = 0
  blocks_of (assign x e) = 0
  blocks_of (choose t a b) = 1 + max (blocks_in a) (blocks_in b)
  blocks_of (repeat t a) = 1 + blocks_in a

  pub blocks_in : Acts → ℕ
  blocks_in nil = 0
  blocks_in (cons a rest) = max (blocks_of a) (blocks_in rest)
