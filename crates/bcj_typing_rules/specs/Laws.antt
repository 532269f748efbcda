-- What the functions promise, where the answers are those of the world.
use Rattle.std.specs.Prelude.{◌≡◌, ◌⊎◌, ℕ, true, false, List, [], Some, slice_get}
use Rattle.std.specs.List.{AllByRecursion}
use Rattle.bcj_parser_trees.specs.Trees as source
use Rattle.bcj_symbolic_trees.specs.Types.{PlainTy}
use Rattle.bcj_decl_rules.specs.World.{Named}
use Rattle.bcj_decl_rules.specs.Faults.{IsDeclared}
use Rattle.bcj_typing_rules.specs.declared.kind.Kind.{Kind}
use Rattle.bcj_typing_rules.specs.Context.{Context, superclass_at}
use Rattle.bcj_typing_rules.specs.Expressions.{Typing, Types}
use Rattle.bcj_typing_rules.specs.Statements.{Effect, HasEffect}
use Rattle.bcj_typing_rules.specs.Faults.{a_value, ExprFault, StmtFault, TypeFault, IsUntyped}
use Rattle.bcj_symbolic_trees.specs.Units.{PlainClass, PlainUnit}
use Rattle.bcj_typing_rules.specs.Members.{BecomesClass, constructor_context, constructor_members}
use Rattle.bcj_typing_rules.specs.Units.{Elaborates}
use Rattle.bcj_typing_rules.specs.function.Expressions.{Answers, AreRight, AreOnly, result, fault, type_expr}
use Rattle.bcj_typing_rules.specs.function.Statements.{run}
use Rattle.bcj_typing_rules.specs.function.Members.{TypedMember, instance_added, type_members, type_initialisers, type_class, type_unit}

-- a typing that is found is one
abbrev pub EachTypingIsRight : Type 0
EachTypingIsRight = (c : Context) (a : Answers) → AreRight c.units a → (e : source.PlainExpr) (t : Typing) → type_expr a c e ≡ result t → Types c e t

-- a fault that is found is one
abbrev pub EachExprFaultIsRight : Type 0
EachExprFaultIsRight = (c : Context) (a : Answers) → AreRight c.units a → (e : source.PlainExpr) (at : ℕ) (k : Kind) → type_expr a c e ≡ fault at k → ExprFault c (a_value e) at k

-- the same of statements
abbrev pub EachEffectIsRight : Type 0
EachEffectIsRight =
    (c : Context) (a : Answers) → AreRight c.units a → (types : List PlainTy) (s : source.PlainStmt) (e : Effect) → run a c types s ≡ result e → HasEffect c types s e

abbrev pub EachStmtFaultIsRight : Type 0
EachStmtFaultIsRight =
    (c : Context) (a : Answers) → AreRight c.units a → (types : List PlainTy) (s : source.PlainStmt) (at : ℕ) (k : Kind) → run a c types s ≡ fault at k → StmtFault c types s at k

-- each typing is found, so that at most one fits where there are such answers
abbrev pub EachTypingIsFound : Type 0
EachTypingIsFound =
    (c : Context) (a : Answers) → AreRight c.units a → AreOnly c.units a → (e : source.PlainExpr) (t : Typing) → Types c e t → type_expr a c e ≡ result t

abbrev pub OneTyping : Type 0
OneTyping = (c : Context) (a : Answers) → AreRight c.units a → AreOnly c.units a → (e : source.PlainExpr) (s t : Typing) → Types c e s → Types c e t → s ≡ t

-- the same of statements
abbrev pub EachEffectIsFound : Type 0
EachEffectIsFound =
    (c : Context) (a : Answers) → AreRight c.units a → AreOnly c.units a → (types : List PlainTy) (s : source.PlainStmt) (e : Effect) → HasEffect c types s e → run a c types s ≡ result e

abbrev pub OneEffect : Type 0
OneEffect =
    (c : Context) (a : Answers) → AreRight c.units a → AreOnly c.units a → (types : List PlainTy) (s : source.PlainStmt) (e f : Effect) → HasEffect c types s e → HasEffect c types s f → e ≡ f

-- at most one class fits a type
abbrev pub OneClass : Type 0
OneClass =
    (units : List source.PlainUnit) (a : Answers) → AreRight units a → AreOnly units a → (t : source.PlainType) (x y : PlainClass) → BecomesClass units t x → BecomesClass units t y → x ≡ y

-- at most one symbolic unit fits
abbrev pub OneElaboration : Type 0
OneElaboration =
    (units : List source.PlainUnit) (a : Answers) → AreRight units a → AreOnly units a → (own : ℕ) (u v : PlainUnit) → Elaborates units own u → Elaborates units own v → u ≡ v

-- each fault of the relations is the one that is found
abbrev pub EachExprFaultIsFound : Type 0
EachExprFaultIsFound =
    (c : Context) (a : Answers) → AreRight c.units a → AreOnly c.units a → (e : source.PlainExpr) (at : ℕ) (k : Kind) → ExprFault c (a_value e) at k → type_expr a c e ≡ fault at k

abbrev pub EachStmtFaultIsFound : Type 0
EachStmtFaultIsFound =
    (c : Context) (a : Answers) → AreRight c.units a → AreOnly c.units a → (types : List PlainTy) (s : source.PlainStmt) (at : ℕ) (k : Kind) → StmtFault c types s at k → run a c types s ≡ fault at k

-- what a type of a parsed and declared unit is: a class finds a superclass by its name, and an interface has no constructor
pub data IsWhole (units : List source.PlainUnit) (t : source.PlainType) : Type 0 where
  a_class : {superclass : Named} → t.interface ≡ false → superclass_at (constructor_context units t.name []) ≡ Some superclass → IsWhole units t
  an_interface : t.interface ≡ true → constructor_members t ≡ [] → IsWhole units t

-- where a type is whole, a class that is found is one, and a fault that is found is one
abbrev pub EachClassIsRight : Type 0
EachClassIsRight =
    (units : List source.PlainUnit) (a : Answers) → AreRight units a → (t : source.PlainType) → IsWhole units t → (x : PlainClass) → type_class a units t ≡ result x → BecomesClass units t x

abbrev pub EachTypeFaultIsRight : Type 0
EachTypeFaultIsRight =
    (units : List source.PlainUnit) (a : Answers) → AreRight units a → (t : source.PlainType) → IsWhole units t → (at : ℕ) (k : Kind) → type_class a units t ≡ fault at k → TypeFault units t at k

-- each class is found, and each fault of a type is the one that is found
abbrev pub EachClassIsFound : Type 0
EachClassIsFound =
    (units : List source.PlainUnit) (a : Answers) → AreRight units a → AreOnly units a → (t : source.PlainType) → IsWhole units t → (x : PlainClass) → BecomesClass units t x → type_class a units t ≡ result x

abbrev pub EachTypeFaultIsFound : Type 0
EachTypeFaultIsFound =
    (units : List source.PlainUnit) (a : Answers) → AreRight units a → AreOnly units a → (t : source.PlainType) (at : ℕ) (k : Kind) → TypeFault units t at k → type_class a units t ≡ fault at k

-- the unit of a number, with types that are whole
pub record IsOwn (units : List source.PlainUnit) (own : ℕ) : Type 0 where
  pub unit : source.PlainUnit
  pub is_there : slice_get units own ≡ Some unit
  pub is_whole : AllByRecursion (IsWhole units) unit

-- the same of units
abbrev pub EachUnitIsRight : Type 0
EachUnitIsRight =
    (units : List source.PlainUnit) (a : Answers) → AreRight units a → (own : ℕ) → IsOwn units own → (u : PlainUnit) → type_unit a units own ≡ result u → Elaborates units own u

abbrev pub EachUnitFaultIsRight : Type 0
EachUnitFaultIsRight =
    (units : List source.PlainUnit) (a : Answers) → AreRight units a → (own : ℕ) → IsOwn units own → (at : ℕ) (k : Kind) → type_unit a units own ≡ fault at k → IsUntyped units own at k

abbrev pub EachUnitIsFound : Type 0
EachUnitIsFound =
    (units : List source.PlainUnit) (a : Answers) → AreRight units a → AreOnly units a → (own : ℕ) → IsOwn units own → (u : PlainUnit) → Elaborates units own u → type_unit a units own ≡ result u

abbrev pub EachUnitFaultIsFound : Type 0
EachUnitFaultIsFound =
    (units : List source.PlainUnit) (a : Answers) → AreRight units a → AreOnly units a → (own : ℕ) → IsOwn units own → (at : ℕ) (k : Kind) → IsUntyped units own at k
    → type_unit a units own ≡ fault at k

-- a unit has a symbolic unit or a fault, not both, and one fault at most
abbrev pub EachUnitIsDecided : Type 0
EachUnitIsDecided =
    (units : List source.PlainUnit) (a : Answers) → AreRight units a → (own : ℕ) → IsOwn units own
    → ((u : PlainUnit) × Elaborates units own u) ⊎ ((at : ℕ) × (k : Kind) × IsUntyped units own at k)

abbrev pub FaultsExcludeUnits : Type 0
FaultsExcludeUnits =
    (units : List source.PlainUnit) (a : Answers) → AreRight units a → AreOnly units a → (own : ℕ) → IsOwn units own → (u : PlainUnit) (at : ℕ) (k : Kind) → Elaborates units own u
    → IsUntyped units own at k → ⊥

abbrev pub OneFault : Type 0
OneFault =
    (units : List source.PlainUnit) (a : Answers) → AreRight units a → AreOnly units a → (own : ℕ) → IsOwn units own → (at place : ℕ) (k l : Kind) → IsUntyped units own at k
    → IsUntyped units own place l → (at ≡ place) × (k ≡ l)

-- the initialisers of objects are typed alone as they are among the members
abbrev pub InitialisersAreTypedAlone : Type 0
InitialisersAreTypedAlone =
    (a : Answers) (units : List source.PlainUnit) (t : source.PlainType) (types : List PlainTy) (ms : List source.PlainMember) (xs : List TypedMember) → type_members a units t types ms ≡ result xs
    → type_initialisers a units t ms ≡ result (instance_added xs)

-- in declared units each class finds a superclass by its name
abbrev pub DeclaredTypesAreWhole : Type 0
DeclaredTypesAreWhole =
    (units : List source.PlainUnit) → IsDeclared units → (own : ℕ) (unit : source.PlainUnit) → slice_get units own ≡ Some unit
    → AllByRecursion (λ t. t.interface ≡ true → constructor_members t ≡ []) unit → AllByRecursion (IsWhole units) unit
