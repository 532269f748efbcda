-- Worked rows: small bodies, and what they become.
use Rattle.std.specs.Prelude.{◌≡◌, refl, ℕ, pos, true, false, List, [], ◌∷◌, None, Some, codes, Decides}
use Rattle.std.proofs.Common.{sym, ◌∙◌, ap, inl, arith, ◌++◌}
use Rattle.std.specs.List.{AllZip}
use Rattle.bcj_parser_trees.specs.declared.names.Base.TheVariants as base
use Rattle.bcj_parser_trees.specs.declared.names.TypeName.{TypeName}
use Rattle.bcj_parser_trees.specs.declared.names.Access.TheVariants as access
use Rattle.bcj_parser_trees.specs.declared.names.Mods.{Mods}
use Rattle.bcj_parser_trees.specs.declared.expression.BinOp.TheVariants as op
use Rattle.bcj_parser_trees.specs.Trees as source
use Rattle.bcj_symbolic_trees.specs.Trees as tree
use Rattle.bcj_symbolic_trees.specs.Types.{PlainTy, int_type, bool_type, void_type, class_type, given}
use Rattle.bcj_symbolic_trees.specs.declared.expression.BinaryOp.TheVariants as node_op
use Rattle.bcj_decl_rules.specs.World.{Named, Field, Method, World, world_of, initialiser_of}
use Rattle.bcj_decl_rules.specs.Members.{field_of, methods_of_type}
use Rattle.bcj_decl_rules.specs.Methods.{one, first, MostSpecific, candidates}
use Rattle.bcj_symbolic_trees.specs.declared.class_tree.MethodKind.TheVariants as method_kind
use Rattle.bcj_symbolic_trees.specs.Names.{constructor_name}
use Rattle.bcj_symbolic_trees.specs.Units.{PlainMethod}
use Rattle.bcj_parser_trees.specs.declared.names.Param.{Param}
use Rattle.bcj_decl_rules.specs.Constants.{IsConstant, IsConstantField, simple, qualified, constant_variable, int, boolean}
use Rattle.bcj_decl_rules.specs.declared.value.Value.{Value}
use Rattle.bcj_decl_rules.specs.Subtypes.{Subtype, itself, Fits, typed}
use Rattle.bcj_typing_rules.specs.declared.kind.Kind.TheVariants as kind
use Rattle.bcj_typing_rules.specs.Context.{with_local, no_finals, Context, is_new_local, Worth, a_constant, no_constant, no_constant_variable}
use Rattle.bcj_typing_rules.specs.Expressions as rule
use Rattle.bcj_typing_rules.specs.Expressions.{Typing, typing, Types, types, TypesPlace, types_place, of_field}
use Rattle.bcj_typing_rules.specs.Statements as statement
use Rattle.bcj_typing_rules.specs.Statements.{Effect, HasEffect, has_effect, RunAll, no_stmts, more_stmts}
use Rattle.bcj_typing_rules.specs.Members as member
use Rattle.bcj_typing_rules.specs.Members.{Made, pairs_of, BecomesClass, becomes_class}
use Rattle.bcj_typing_rules.specs.Faults.{a_value, Lacks, lacks_value, StmtFault, statement_itself}

abbrev pub int_name : TypeName
int_name = record { base = base.Int; dims = 0 }

abbrev pub unmodified : Mods
unmodified = record { access = access.Open; is_static = false; is_abstract = false; is_final = false }

abbrev pub hidden : Mods
hidden = record unmodified { access = access.Private }

abbrev pub fixed : Mods
fixed = record unmodified { is_static = true; is_final = true }

abbrev pub class_with : Named → List Named → List source.PlainMember → source.PlainType
class_with name extends members =
    record { at = 0; interface = false; is_abstract = false; name = name; extends = extends; implements = []; members = members }

-- class K { static final int N = 10; private int p; int x; int y; }  class M extends K { int x; }
abbrev pub units : List source.PlainUnit
units =
    (class_with (codes "K") []
    (source.field_member 0 fixed int_name (codes "N") (source.present (source.int_literal 0 10 true))
    ∷ source.field_member 0 hidden int_name (codes "p") source.absent
    ∷ source.field_member 0 unmodified int_name (codes "x") source.absent
    ∷ source.field_member 0 unmodified int_name (codes "y") source.absent
    ∷ [])
    ∷ class_with (codes "M") (codes "K" ∷ []) (source.field_member 0 unmodified int_name (codes "x") source.absent ∷ [])
    ∷ [])
    ∷ []

-- in an instance method of M with the parameters `K k, int n`
abbrev pub inside : Context
inside =
    record {
      units = units;
      class = codes "M";
      is_static = false;
      result = Some int_type;
      in_loop = false;
      finals = no_finals;
      locals = record { name = codes "k"; ty = class_type (codes "K"); number = 1 } ∷ record { name = codes "n"; ty = int_type; number = 2 } ∷ [];
    }

-- what holds is so
abbrev holds : {P : Type 0} → P → Decides true P
holds p = (λ h. p, λ q. refl)

-- ---- what is no constant

-- a simple name that is a local's
local_is_none : (c : Context) (at : ℕ) (x : Named) → is_new_local c x ≡ false → Worth c (source.simple_name at x) None
local_is_none c at x h = no_constant (λ v k. cc)

-- a final field alone is a constant variable
variable_is_none : (c : Context) (f : Field) → f.is_final ≡ false → (v : Value) → IsConstantField c.units f v → ⊥
variable_is_none c f h v (constant_variable final i e t) = cc

named_variable : (units : List source.PlainUnit) (from : Named) (at : ℕ) (x : Named) (f : Field) → field_of (world_of units) from x ≡ Some f → f.is_final ≡ false → (v : Value)
    → IsConstant units from (source.simple_name at x) v → ⊥
named_variable units from at x f found h v (simple {f = g} e (constant_variable final i k t)) =
    let same : Some f ≡ Some g = sym found ∙ e in
    let open_one : g.is_final ≡ false = sym (ap (λ o. elim o [ None ↦ false | Some y ↦ y.is_final ]) same) ∙ h in
    cc

variable_name_is_none : (c : Context) (at : ℕ) (x : Named) (f : Field) → field_of (world_of c.units) c.class x ≡ Some f → f.is_final ≡ false → Worth c (source.simple_name at x) None
variable_name_is_none c at x f found h = no_constant (λ v k. named_variable c.units c.class at x f found h v k.constant)

-- ---- expressions

-- `K.N` is 10
pub constant_row : Types inside (source.dot 0 (source.simple_name 0 (codes "K")) (codes "N")) (typing (tree.int_value (pos 10)) (given int_type) [])
unfolding world_of field_of initialiser_of
constant_row =
    types (rule.field_of_type refl) refl
    (a_constant (record { constant = qualified refl refl (constant_variable refl refl (int refl) refl); of_fields = refl }))

-- `k`
pub local_row : Types inside (source.simple_name 0 (codes "k")) (typing (tree.get_local 1) (given (class_type (codes "K"))) [])
unfolding world_of field_of
local_row = types rule.simple_name refl (local_is_none inside 0 (codes "k") refl)

-- `k.p` names a private field of another type
pub private_row : Lacks inside (a_value (source.dot 0 (source.simple_name 0 (codes "k")) (codes "p"))) kind.Access
unfolding world_of field_of
private_row =
    lacks_value (rule.field_of_value refl local_row refl (of_field (no_constant_variable (variable_is_none inside _ refl)))) refl

-- `super.x` names the field of K, and steps to K
pub super_row : Types inside (source.super_field 0 (codes "x"))
    (typing (tree.get_field (tree.get_local 0) (record { class = codes "K"; name = codes "x"; ty = int_type })) (given int_type)
    (record { from = class_type (codes "M"); to = class_type (codes "K") } ∷ []))
unfolding world_of field_of
super_row =
    types (rule.super_field refl (of_field (no_constant_variable (variable_is_none inside _ refl)))) refl (no_constant (λ v h. elim h.constant [ ]))

-- `y` of K is named by the class that holds the body
pub inherited_row : Types inside (source.simple_name 0 (codes "y"))
    (typing (tree.get_field (tree.get_local 0) (record { class = codes "M"; name = codes "y"; ty = int_type })) (given int_type) [])
unfolding world_of field_of
inherited_row = types rule.simple_name refl (variable_name_is_none inside 0 (codes "y") _ refl refl)

-- `n`
pub number_row : Types inside (source.simple_name 0 (codes "n")) (typing (tree.get_local 2) (given int_type) [])
unfolding world_of field_of
number_row = types rule.simple_name refl (local_is_none inside 0 (codes "n") refl)

-- `n += 2`
pub compound_row : Types inside (source.assign 0 (Some op.Add) (source.simple_name 0 (codes "n")) (source.int_literal 0 2 true))
    (typing (tree.update_place (tree.local_place 2) node_op.Add (tree.int_value (pos 2)) false) (given int_type) [])
unfolding world_of field_of
compound_row =
    types
    (rule.compound (types_place rule.simple_place refl) (types rule.int_literal refl (a_constant (record { constant = int refl; of_fields = refl }))))
    refl
    (no_constant (λ v h. elim h.constant [ ]))

-- ---- statements

-- `this`, `k` and `n`
abbrev pub first_three : List PlainTy
first_three = class_type (codes "M") ∷ class_type (codes "K") ∷ int_type ∷ []

-- `{ { int a; } { int b; } }`: the second local has a number of its own
pub numbers_row :
    HasEffect inside first_three
    (source.block 0
    (source.more_stmts (source.block 0 (source.more_stmts (source.local_variable 0 int_name (codes "a") source.absent) source.no_stmts))
    (source.more_stmts (source.block 0 (source.more_stmts (source.local_variable 0 int_name (codes "b") source.absent) source.no_stmts)) source.no_stmts)))
    (statement.plainly inside (class_type (codes "M") ∷ class_type (codes "K") ∷ int_type ∷ int_type ∷ int_type ∷ [])
    (tree.block
    (tree.more_stmts (tree.block (tree.more_stmts (tree.evaluate (tree.set_local 3 (tree.int_value (pos 0)))) tree.no_stmts))
    (tree.more_stmts (tree.block (tree.more_stmts (tree.evaluate (tree.set_local 4 (tree.int_value (pos 0)))) tree.no_stmts)) tree.no_stmts)))
    [])
unfolding world_of
numbers_row =
    has_effect
    (statement.block
    (more_stmts (has_effect (statement.block (more_stmts (has_effect statement.local_without refl) no_stmts)) refl)
    (more_stmts (has_effect (statement.block (more_stmts (has_effect statement.local_without refl) no_stmts)) refl) no_stmts)))
    refl

-- with `int i` in scope
abbrev pub looping : Context
looping = with_local inside (record { name = codes "i"; ty = int_type; number = 3 })

-- `for (int i = 0; i < n; i++) { }`
pub for_row :
    HasEffect inside first_three
    (source.for_loop 0 (source.more_stmts (source.local_variable 0 int_name (codes "i") (source.present (source.int_literal 0 0 true))) source.no_stmts)
    (source.present (source.binary 0 op.Lt (source.simple_name 0 (codes "i")) (source.simple_name 0 (codes "n"))))
    (source.more_exprs (source.step 0 true true (source.simple_name 0 (codes "i"))) source.no_exprs)
    (source.block 0 source.no_stmts))
    (statement.plainly inside (class_type (codes "M") ∷ class_type (codes "K") ∷ int_type ∷ int_type ∷ [])
    (tree.block
    (tree.more_stmts (tree.evaluate (tree.set_local 3 (tree.int_value (pos 0))))
    (tree.more_stmts
    (tree.loop false (tree.binary node_op.Lt (tree.get_local 3) (tree.get_local 2)) (tree.block tree.no_stmts)
    (tree.more_exprs (tree.update_place (tree.local_place 3) node_op.Add (tree.int_value (pos 1)) true) tree.no_exprs))
    tree.no_stmts)))
    (record { from = int_type; to = int_type } ∷ []))
unfolding world_of field_of
for_row =
    has_effect
    (statement.for_loop
    (more_stmts (has_effect (statement.local_with (types rule.int_literal refl (a_constant (record { constant = int refl; of_fields = refl }))) (holds (typed itself))) refl) no_stmts)
    (statement.a_condition
    (types
    (rule.binary (types rule.simple_name refl (local_is_none looping 0 (codes "i") refl)) (types rule.simple_name refl (local_is_none looping 0 (codes "n") refl))
    (holds (λ h. cc)))
    refl
    (no_constant (λ v h. cc))))
    (rule.more_arguments (types (rule.step (types_place rule.simple_place refl)) refl (no_constant (λ v h. elim h.constant [ ]))) rule.no_arguments)
    (has_effect (statement.block no_stmts) refl))
    refl

truth_is_no_number : (w : World) → Fits w (given bool_type) int_type → ⊥
truth_is_no_number w (typed p) = elim p [ ]

-- `return true;` where the result is an int: the fault is that of the statement, not of the value
pub fault_row : StmtFault inside first_three (source.return_with 20 (source.present (source.bool_literal 27 true))) 20 kind.Assign
unfolding world_of
fault_row =
    statement_itself
    (statement.return_value {fits = false} (types rule.bool_literal refl (a_constant (record { constant = boolean; of_fields = refl })))
    (λ h. let clash : false ≡ true = h in cc, λ g. absurd (truth_is_no_number (world_of units) (g int_type refl refl))))
    refl

-- ---- pairs

-- the step of the target stands before those of the arguments, each step once; reflexive ones and those to Object are left out
pub pairs_row :
    pairs_of
    (member.first_steps inside (codes "K")
    (typing tree.null_value (given (class_type (codes "B"))) (record { from = class_type (codes "C"); to = class_type (codes "D") } ∷ []) ∷ [])
    (record {
      class = codes "K";
      name = constructor_name;
      params = class_type (codes "A") ∷ [];
      result = void_type;
      kind = method_kind.Constructor;
      is_private = false;
    })
    ++ record { from = class_type (codes "B"); to = class_type (codes "A") }
    ∷ record { from = class_type (codes "B"); to = class_type (codes "Object") }
    ∷ record { from = class_type (codes "B"); to = class_type (codes "B") }
    ∷ [])
    ≡ record { from = class_type (codes "C"); to = class_type (codes "D") }
    ∷ record { from = class_type (codes "M"); to = class_type (codes "K") }
    ∷ record { from = class_type (codes "B"); to = class_type (codes "A") }
    ∷ []
pairs_row = refl

-- ---- constructors

-- a method without parameters that applies
nothing_fits_nothing : (w : World) (ps : List PlainTy) → AllZip (Fits w) [] ps → AllZip (Subtype w) [] ps
nothing_fits_nothing w [] h = tt
nothing_fits_nothing w (p ∷ ps) h = absurd h

abbrev pub int_param : Param
int_param = record { ty = int_name; name = codes "a" }

-- class C { int x = 7; C() { } C(int a) { this(); } }
abbrev pub made_type : source.PlainType
made_type =
    class_with (codes "C") []
    (source.field_member 0 unmodified int_name (codes "x") (source.present (source.int_literal 0 7 true))
    ∷ source.constructor_member 0 unmodified (codes "C") [] [] source.no_first source.no_stmts
    ∷ source.constructor_member 0 unmodified (codes "C") (int_param ∷ []) [] (source.first_call 0 false source.no_exprs) source.no_stmts
    ∷ [])

abbrev pub made_units : List source.PlainUnit
made_units = (made_type ∷ []) ∷ []

abbrev pub constructor_of : Named → List PlainTy → Method
constructor_of class params =
    record { class = class; name = constructor_name; params = params; result = void_type; kind = method_kind.Constructor; is_private = false }

-- the constructor without parameters is the one that is called without arguments
calls_object : MostSpecific (world_of made_units) (codes "C") (codes "Object") constructor_name [] (one (constructor_of (codes "Object") []))
unfolding world_of candidates methods_of_type
calls_object =
    first [] [] refl
    (record {
      applies = record { accessible = inl refl; fits = tt };
      most = λ n k h. nothing_fits_nothing (world_of made_units) n.params h.fits;
    })
    (λ k d h. omega (arith, h))

calls_own : MostSpecific (world_of made_units) (codes "C") (codes "C") constructor_name [] (one (constructor_of (codes "C") []))
unfolding world_of candidates methods_of_type
calls_own =
    first [] (constructor_of (codes "C") (int_type ∷ []) ∷ []) refl
    (record {
      applies = record { accessible = inl refl; fits = tt };
      most = λ n k h. nothing_fits_nothing (world_of made_units) n.params h.fits;
    })
    (λ k d h. omega (arith, h))

abbrev pub made_constructor : List PlainTy → tree.PlainExpr → PlainMethod
made_constructor params e =
    record {
      name = constructor_name;
      params = params;
      result = void_type;
      kind = method_kind.Constructor;
      is_private = false;
      locals = class_type (codes "C") ∷ params;
      body = tree.more_stmts (tree.evaluate e) tree.no_stmts;
    }

abbrev pub first_made : PlainMethod
first_made = made_constructor [] (tree.set_field (tree.get_local 0) (record { class = codes "C"; name = codes "x"; ty = int_type }) (tree.int_value (pos 7)))

abbrev pub second_made : PlainMethod
second_made =
    made_constructor (int_type ∷ [])
    (tree.call_special (record { class = codes "C"; name = constructor_name; params = []; result = void_type }) tree.no_exprs)

-- the steps to Object and of the field's value, and that of the class to itself, are used and not listed
abbrev pub both_made : List Made
both_made =
    record {
      method = first_made;
      steps = record { from = class_type (codes "C"); to = class_type (codes "Object") } ∷ record { from = int_type; to = int_type } ∷ [];
    }
    ∷ record { method = second_made; steps = record { from = class_type (codes "C"); to = class_type (codes "C") } ∷ [] }
    ∷ []

-- the initialiser stands in the constructor that calls Object's, which has no node, and not in the one that calls `this()`
pub constructors_row :
    BecomesClass made_units made_type
    (record {
      head = record { name = codes "C"; interface = false; is_abstract = false; superclass = Some (codes "Object"); interfaces = [] };
      fields = record { name = codes "x"; ty = int_type; is_static = false; is_final = false; is_private = false; constant = None } ∷ [];
      init = record { locals = []; body = tree.no_stmts };
      methods = first_made ∷ second_made ∷ [];
      pairs = [];
    })
unfolding world_of field_of
constructors_row =
    becomes_class both_made []
    (member.field_becomes (no_constant_variable (variable_is_none (member.initialiser_context made_units (codes "C") false) _ refl)), tt)
    (member.more_static_parts (member.no_static_part refl)
    (member.more_static_parts (member.no_static_part refl) (member.more_static_parts (member.no_static_part refl) member.no_static_parts)))
    (member.more_instance_parts
    (member.instance_field refl refl
    (member.has_initialiser
    (member.initialises (types rule.int_literal refl (a_constant (record { constant = int refl; of_fields = refl }))) (holds (typed itself)))
    refl))
    (member.more_instance_parts (member.no_instance_part refl) (member.more_instance_parts (member.no_instance_part refl) member.no_instance_parts)))
    (member.each_written refl refl (
      member.constructor_becomes (member.has_start (member.unwritten refl calls_object) refl) no_stmts,
      (member.constructor_becomes (member.has_start (member.written rule.no_arguments refl calls_own) refl) no_stmts, tt),
    ))
    tt
