-- The boot unit: the classes that stand first in every program, in the order of this file.
-- Object and String have no members; System has the output stream; PrintStream prints; the others can be thrown.
use Rattle.std.specs.Prelude.{◌≡◌, refl, length, ℕ, true, false, List, [], ◌∷◌, map, Option, None, Some, codes}
use Rattle.bcj_symbolic_trees.specs.declared.class_tree.MethodKind.TheVariants.{Instance, Constructor}
use Rattle.bcj_symbolic_trees.specs.declared.expression.PrintKind.{PrintKind}
use Rattle.bcj_symbolic_trees.specs.declared.expression.PrintKind.TheVariants as print_kind
use Rattle.bcj_symbolic_trees.specs.Names.{object_name, throwable_name, print_stream_name, constructor_name}
use Rattle.bcj_symbolic_trees.specs.Types.{PlainTy, int_type, bool_type, void_type, class_type}
use Rattle.bcj_symbolic_trees.specs.Trees.{PlainExprs, PlainStmt, PlainStmts, no_exprs, more_exprs, no_stmts, more_stmts, get_local, call_special, print, evaluate}
use Rattle.bcj_symbolic_trees.specs.Units.{PlainField, PlainMethod, PlainPair, PlainClass, PlainUnit}

-- a class that is neither abstract nor an interface, without initialisers
abbrev pub class_with : List ℕ → Option (List ℕ) → List PlainField → List PlainMethod → List PlainPair → PlainClass
class_with name superclass fields methods pairs =
    record {
      head = record { name = name; interface = false; is_abstract = false; superclass = superclass; interfaces = [] };
      fields = fields;
      init = record { locals = []; body = no_stmts };
      methods = methods;
      pairs = pairs;
    }

abbrev pub stream_type : PlainTy
stream_type = class_type print_stream_name

-- `static final PrintStream out`
abbrev pub out_field : PlainField
out_field = record { name = codes "out"; ty = stream_type; is_static = true; is_final = true; is_private = false; constant = None }

-- a method of PrintStream without result: its locals are `this` and the parameters
abbrev pub stream_method : List ℕ → List PlainTy → PlainStmts → PlainMethod
stream_method name params body =
    record { name = name; params = params; result = void_type; kind = Instance; is_private = false; locals = stream_type ∷ params; body = body }

-- what a `Print` of each kind takes: its type, and the parameter that it is given
abbrev pub printed_types : PrintKind → List PlainTy
printed_types print_kind.Int = int_type ∷ []
printed_types print_kind.Bool = bool_type ∷ []
printed_types print_kind.Line = []
printed_types print_kind.Byte = int_type ∷ []

-- `this` is local 0, and the parameter stands behind it
abbrev pub parameter_local : ℕ
parameter_local = 1

abbrev pub printed_values : PrintKind → PlainExprs
printed_values print_kind.Int = more_exprs (get_local parameter_local) no_exprs
printed_values print_kind.Bool = more_exprs (get_local parameter_local) no_exprs
printed_values print_kind.Line = no_exprs
printed_values print_kind.Byte = more_exprs (get_local parameter_local) no_exprs

abbrev pub print_of : PrintKind → PlainStmt
print_of kind = evaluate (print kind (printed_values kind))

abbrev pub line_end : PlainStmts
line_end = more_stmts (print_of print_kind.Line) no_stmts

-- a method that prints its parameter, where it has one, and then does `rest`
abbrev pub printer : List ℕ → PrintKind → PlainStmts → PlainMethod
printer name kind rest = stream_method name (printed_types kind) (more_stmts (print_of kind) rest)

abbrev pub stream_methods : List PlainMethod
stream_methods =
    printer (codes "print") print_kind.Int no_stmts
    ∷ printer (codes "print") print_kind.Bool no_stmts
    ∷ printer (codes "println") print_kind.Int line_end
    ∷ printer (codes "println") print_kind.Bool line_end
    ∷ printer (codes "println") print_kind.Line no_stmts
    ∷ printer (codes "write") print_kind.Byte no_stmts
    ∷ []

-- a constructor without parameters: its one local is `this`
abbrev pub constructor_with : List ℕ → PlainStmts → PlainMethod
constructor_with name body =
    record { name = constructor_name; params = []; result = void_type; kind = Constructor; is_private = false; locals = class_type name ∷ []; body = body }

-- the call of a superclass's constructor on `this`
abbrev pub super_call : List ℕ → PlainStmts
super_call superclass =
    more_stmts
    (evaluate
    (call_special (record { class = superclass; name = constructor_name; params = []; result = void_type }) no_exprs))
    no_stmts

-- the constructor of Throwable's superclass, Object, has no node
abbrev pub throwable_class : PlainClass
throwable_class =
    class_with throwable_name (Some object_name) [] (constructor_with throwable_name no_stmts ∷ []) []

-- a class below Throwable: its constructor calls that of its superclass, and that step is its one pair
abbrev pub thrown_class : List ℕ × List ℕ → PlainClass
thrown_class (name, superclass) =
    class_with name (Some superclass) []
    (constructor_with name (super_call superclass) ∷ [])
    (record { from = class_type name; to = class_type superclass } ∷ [])

-- the classes below Throwable, each with its superclass
abbrev pub thrown_table : List (List ℕ × List ℕ)
thrown_table =
    (codes "Exception", codes "Throwable")
    ∷ (codes "RuntimeException", codes "Exception")
    ∷ (codes "Error", codes "Throwable")
    ∷ (codes "LinkageError", codes "Error")
    ∷ (codes "ClassCircularityError", codes "LinkageError")
    ∷ (codes "NoClassDefFoundError", codes "LinkageError")
    ∷ (codes "VerifyError", codes "LinkageError")
    ∷ (codes "IncompatibleClassChangeError", codes "LinkageError")
    ∷ (codes "ExceptionInInitializerError", codes "LinkageError")
    ∷ (codes "NoSuchFieldError", codes "IncompatibleClassChangeError")
    ∷ (codes "NoSuchMethodError", codes "IncompatibleClassChangeError")
    ∷ (codes "InstantiationError", codes "IncompatibleClassChangeError")
    ∷ (codes "IllegalAccessError", codes "IncompatibleClassChangeError")
    ∷ (codes "AbstractMethodError", codes "IncompatibleClassChangeError")
    ∷ (codes "NullPointerException", codes "RuntimeException")
    ∷ (codes "ArithmeticException", codes "RuntimeException")
    ∷ (codes "ClassCastException", codes "RuntimeException")
    ∷ (codes "ArrayStoreException", codes "RuntimeException")
    ∷ (codes "NegativeArraySizeException", codes "RuntimeException")
    ∷ (codes "ArrayIndexOutOfBoundsException", codes "RuntimeException")
    ∷ []

abbrev pub boot_classes : List PlainClass
boot_classes =
    class_with object_name None [] [] []
    ∷ class_with (codes "String") (Some object_name) [] [] []
    ∷ class_with (codes "System") (Some object_name) (out_field ∷ []) [] []
    ∷ class_with print_stream_name (Some object_name) [] stream_methods []
    ∷ throwable_class
    ∷ map thrown_class thrown_table

abbrev pub boot_unit : PlainUnit
boot_unit = record { classes = boot_classes }

pub count_row : length boot_classes ≡ 25
count_row = refl
