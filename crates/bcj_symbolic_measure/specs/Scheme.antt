-- The code scheme, with all jumps long: of each node the pieces that its code is made of. A piece is words whose number
-- alone is said, or words that name a table entry, or the range of a catch. (RISC-V, with the register use of this compiler;
-- a temporary of the frame holds what a later part of a node needs.)
use Rattle.std.specs.Prelude.{◌≡◌, ℕ, ◌+◌, ◌*◌, suc, Bool, true, false, List, [], ◌∷◌, ◌++◌, Some, if◌then◌else◌, codes}
use Rattle.std.specs.Str.{bytes_eq}
use Rattle.bcj_symbolic_trees.specs.declared.expression.BinaryOp.{BinaryOp}
use Rattle.bcj_symbolic_trees.specs.declared.expression.BinaryOp.TheVariants as op
use Rattle.bcj_symbolic_trees.specs.Types.{array_type, given, PlainMethodRef}
use Rattle.bcj_symbolic_trees.specs.Trees.{PlainExpr, int_value, bool_value, null_value, get_local, set_local, get_static, set_static, get_field, set_field, get_element, set_element, array_length, update_place, unary, binary, and_also, or_else, conditional, new_object, new_array, call_static, call_virtual, call_interface, call_special, cast, widen, instance_of, first_then, print, PlainExprs, no_exprs, more_exprs, PlainPlace, local_place, static_place, field_place, element_place, PlainOption, absent, present, PlainStmt, evaluate, if_else, loop, break_loop, continue_loop, return_with, throw, try_catch, block, PlainStmts, no_stmts, more_stmts, PlainCatches, no_catches, more_catches}
use Rattle.bcj_symbolic_check.specs.Steps.{is_reference}
use Rattle.bcj_symbolic_check.specs.Judgements.{Frame, Known, sort}
use Rattle.bcj_symbolic_measure.specs.Entries.{PlainEntry, type_entry, new_entry, field_offset, method_offset, field_address, static_method, special_method, interface_method}

pub data Piece : Type 0 where
  -- so many words
  plain : ℕ → Piece
  -- the use of an entry: it is loaded, and where it isn't linked the link fails
  usage : PlainEntry → Piece
  -- the load of an entry that is linked
  fetch : PlainEntry → Piece
  -- the address of the class's own table region
  region : Piece
  -- the range of a catch, with its class; that of any class has an empty one
  handled : List ℕ → Piece

-- ---- one instruction each

-- arithmetic on registers, a constant among it
abbrev pub compute : ℕ
compute = 1

-- `lw`, above all of a temporary
abbrev pub load : ℕ
load = 1

-- `sw`
abbrev pub store : ℕ
store = 1

-- a branch to a place near by
abbrev pub branch : ℕ
branch = 1

-- `jal`
abbrev pub jump : ℕ
jump = 1

-- `jalr`, as a call and as a return
abbrev pub call : ℕ
call = 1

abbrev pub ecall : ℕ
ecall = 1

-- ---- the words of what recurs

-- a value is kept in a temporary
abbrev pub save : ℕ
save = store

-- a branch over a jump
abbrev pub far_branch : ℕ
far_branch = branch + jump

-- an address of 32 bits, and a number of 32 bits, by their halves
abbrev pub address : ℕ
address = compute + compute

-- the number of a service, and the call
abbrev pub service : ℕ
service = compute + ecall

-- the code of an exception, and the service that throws it
abbrev pub fail : ℕ
fail = compute + service

-- a branch over the service that throws
abbrev pub null_test : ℕ
null_test = branch + service

-- the service that begins an initialisation, a branch over the call of the initialiser, and the call
abbrev pub initialise : ℕ
initialise = service + branch + call

-- one of a bound is spent: a branch over the service that ends the run, with its argument, and the count
abbrev pub spend : ℕ
spend = branch + (compute + service) + compute

abbrev pub turn : ℕ
turn = spend

-- the frame, the return address, a turn and a depth
abbrev pub entry : ℕ
entry = compute + store + turn + spend

-- the return address, the frame, the depth and the return
abbrev pub exit : ℕ
exit = load + compute + compute + call

-- the null test, the length, the test of the index, and the element's address
abbrev pub element_address : ℕ
element_address = null_test + load + (branch + fail) + (compute + compute)

-- so many arguments, each loaded and stored for the callee
abbrev pub copy : ℕ → ℕ
copy n = (load + store) * n

-- a target stands before them
abbrev pub copy_with_target : ℕ → ℕ
copy_with_target n = copy (1 + n)

-- a selected method: the object's row, the method's place in it, the method, and the test that it has code
abbrev pub method_lookup : ℕ
method_lookup = load + compute + load + (branch + fail)

-- a method of an interface: the object's row, the row's list of selected methods, the list's end and the test that the selector
-- isn't behind it, then the method's place, the method and the test that the object's class implements the interface, then the test that it has code
abbrev pub interface_lookup : ℕ
interface_lookup = (load + load + load + (branch + fail)) + (compute + load + (branch + fail)) + (compute + (branch + fail))

-- whether the object of a temporary is an instance of the type of a row: the object's row and its number, and the type's first number; a
-- branch each for a type and for an object without a number, and for a number before the first; the type's last number and the
-- comparison, and a jump to the end; no, and a jump to the end; and the service for what has no number, with its arguments
abbrev pub instance_test : ℕ
instance_test =
    (load + load + load + load) + (branch + branch + branch) + (load + compute + jump) + (compute + jump) + (load + compute + service)

-- the sums of the two that an object's class is searched by
abbrev pub LookupLaw : Type 0
LookupLaw = (interface_lookup ≡ 18) × (instance_test ≡ 16)

-- the operator, of operands in two registers
abbrev pub operator : BinaryOp → ℕ
operator op.Eq = compute + compute
operator op.Ne = compute + compute
operator op.Le = compute + compute
operator op.Ge = compute + compute
operator op.Div = (branch + fail) + compute
operator op.Rem = (branch + fail) + compute
operator _ = compute

-- the right operand into its register, the left one from its temporary, and the operator
abbrev pub operation : BinaryOp → ℕ
operation o = compute + load + operator o

-- a null test where it is said
abbrev pub tested : Bool → ℕ
tested true = null_test
tested false = 0

-- with `post` the old value is loaded again
abbrev pub old_value : Bool → ℕ
old_value true = load
old_value false = 0

abbrev pub count : PlainExprs → ℕ
count no_exprs = 0
count (more_exprs e rest) = suc (count rest)

-- the elements of an array of this type are references, which a store is checked for
abbrev pub holds_references : Known → Bool
holds_references (Some (given (array_type component))) = is_reference component
holds_references _ = false

abbrev pub store_check : Known → ℕ
store_check array = if holds_references array then load + load + service else 0

-- ---- calls

-- the reference of `new`, its constructor and the number of arguments: Object is made without one
unfoldable pub is_object_class : List ℕ → Bool
is_object_class name = bytes_eq name (codes "Object")

abbrev pub new_pieces : PlainMethodRef → ℕ → List Piece → List Piece
new_pieces m n args =
    usage (new_entry m.class) ∷ plain initialise ∷ fetch (new_entry m.class) ∷ plain (compute + service)
    ∷ (if is_object_class m.class then [] else plain save ∷ (args ++ (usage (special_method m) ∷ plain (copy_with_target n) ∷ plain (call + load) ∷ [])))

-- ---- expressions and statements

module _ (frame : Frame) where
  abbrev mutual
    pub expr_pieces : PlainExpr → List Piece
    expr_pieces (int_value n) = plain address ∷ []
    expr_pieces (bool_value b) = plain compute ∷ []
    expr_pieces null_value = plain compute ∷ []
    expr_pieces (get_local i) = plain load ∷ []
    expr_pieces (set_local i v) = expr_pieces v ++ plain store ∷ []
    expr_pieces (get_static f) = usage (field_address f) ∷ plain initialise ∷ fetch (field_address f) ∷ plain load ∷ []
    expr_pieces (set_static f v) =
        expr_pieces v ++ (plain save ∷ usage (field_address f) ∷ plain initialise ∷ fetch (field_address f) ∷ plain (load + store) ∷ [])
    expr_pieces (get_field t f) = expr_pieces t ++ (plain save ∷ usage (field_offset f) ∷ plain (load + null_test + compute + load) ∷ [])
    expr_pieces (set_field t f v) =
        expr_pieces t
        ++ (plain save ∷ (expr_pieces v ++ (plain save ∷ usage (field_offset f) ∷ plain (load + null_test + compute + load + store) ∷ [])))
    expr_pieces (get_element a i) = expr_pieces a ++ (plain save ∷ (expr_pieces i ++ plain (compute + load + element_address + load) ∷ []))
    expr_pieces (set_element a i v) =
        expr_pieces a
        ++ (plain save
        ∷ (expr_pieces i
        ++ (plain save ∷ (expr_pieces v ++ (plain (save + load + load + element_address) ∷ plain (store_check (sort frame a)) ∷ plain (load + store) ∷ [])))))
    expr_pieces (array_length a) = expr_pieces a ++ plain (null_test + load) ∷ []
    expr_pieces (update_place p o v post) =
        read_pieces p ++ (plain save ∷ (expr_pieces v ++ (plain (operation o) ∷ (write_pieces p ++ plain (old_value post) ∷ []))))
    expr_pieces (unary o a) = expr_pieces a ++ plain compute ∷ []
    expr_pieces (binary o a b) = expr_pieces a ++ (plain save ∷ (expr_pieces b ++ plain (operation o) ∷ []))
    expr_pieces (and_also a b) = expr_pieces a ++ (plain far_branch ∷ expr_pieces b)
    expr_pieces (or_else a b) = expr_pieces a ++ (plain far_branch ∷ expr_pieces b)
    expr_pieces (conditional c a b) = expr_pieces c ++ (plain far_branch ∷ (expr_pieces a ++ (plain jump ∷ expr_pieces b)))
    expr_pieces (new_object m args) = new_pieces m (count args) (args_pieces args)
    expr_pieces (new_array t n) = expr_pieces n ++ (plain save ∷ usage (type_entry t) ∷ plain (load + compute + service) ∷ [])
    expr_pieces (call_static m args) =
        args_pieces args
        ++ (usage (static_method m) ∷ plain initialise ∷ plain (copy (count args)) ∷ fetch (static_method m) ∷ plain call ∷ [])
    expr_pieces (call_virtual t m args) =
        expr_pieces t
        ++ (plain save
        ∷ (args_pieces args
        ++ (usage (method_offset m) ∷ plain (load + null_test + method_lookup) ∷ plain (copy_with_target (count args)) ∷ plain call ∷ [])))
    expr_pieces (call_interface t m args) =
        expr_pieces t
        ++ (plain save
        ∷ (args_pieces args
        ++ (usage (interface_method m) ∷ plain (load + null_test + interface_lookup) ∷ plain (copy_with_target (count args)) ∷ plain call ∷ [])))
    expr_pieces (call_special m args) =
        plain (load + save) ∷ (args_pieces args ++ (usage (special_method m) ∷ plain (copy_with_target (count args)) ∷ plain call ∷ []))
    expr_pieces (cast t a) =
        expr_pieces a ++ (plain (save + far_branch) ∷ usage (type_entry t) ∷ plain (instance_test + (branch + fail) + load) ∷ [])
    expr_pieces (widen t a) = expr_pieces a
    expr_pieces (instance_of a t) =
        expr_pieces a ++ (plain (save + far_branch) ∷ usage (type_entry t) ∷ plain instance_test ∷ [])
    expr_pieces (first_then a said b) = expr_pieces a ++ (plain (tested said) ∷ expr_pieces b)
    expr_pieces (print k args) = exprs_pieces args ++ plain service ∷ []

    -- one behind the other
    pub exprs_pieces : PlainExprs → List Piece
    exprs_pieces no_exprs = []
    exprs_pieces (more_exprs e rest) = expr_pieces e ++ exprs_pieces rest

    -- arguments, each saved
    pub args_pieces : PlainExprs → List Piece
    args_pieces no_exprs = []
    args_pieces (more_exprs e rest) = expr_pieces e ++ (plain save ∷ args_pieces rest)

    -- what an update reads, up to its old value
    pub read_pieces : PlainPlace → List Piece
    read_pieces (local_place i) = plain load ∷ []
    read_pieces (static_place f) = usage (field_address f) ∷ plain initialise ∷ fetch (field_address f) ∷ plain load ∷ []
    read_pieces (field_place t f) = expr_pieces t ++ (plain save ∷ usage (field_offset f) ∷ plain (load + null_test + compute + load) ∷ [])
    read_pieces (element_place a i) =
        expr_pieces a ++ (plain save ∷ (expr_pieces i ++ plain (save + compute + load + element_address + load) ∷ []))

    -- and the store of its new value
    pub write_pieces : PlainPlace → List Piece
    write_pieces (local_place i) = plain store ∷ []
    write_pieces (static_place f) = fetch (field_address f) ∷ plain store ∷ []
    write_pieces (field_place t f) = fetch (field_offset f) ∷ plain (load + compute + store) ∷ []
    write_pieces (element_place a i) = plain (load + compute + load + compute + store) ∷ []

  abbrev pub option_pieces : PlainOption → List Piece
  option_pieces absent = []
  option_pieces (present e) = expr_pieces e

  abbrev mutual
    pub stmt_pieces : PlainStmt → List Piece
    stmt_pieces (evaluate e) = expr_pieces e
    stmt_pieces (if_else c a b) = expr_pieces c ++ (plain far_branch ∷ (stmt_pieces a ++ (plain jump ∷ stmt_pieces b)))
    stmt_pieces (loop false c body update) =
        plain turn ∷ (expr_pieces c ++ (plain far_branch ∷ (stmt_pieces body ++ (exprs_pieces update ++ plain jump ∷ []))))
    stmt_pieces (loop true c body update) = plain turn ∷ (stmt_pieces body ++ (expr_pieces c ++ plain (far_branch + jump) ∷ []))
    stmt_pieces break_loop = plain jump ∷ []
    stmt_pieces continue_loop = plain jump ∷ []
    stmt_pieces (return_with v) = option_pieces v ++ plain exit ∷ []
    stmt_pieces (throw e) = expr_pieces e ++ plain service ∷ []
    stmt_pieces (try_catch body catches) = stmts_pieces body ++ (plain jump ∷ catches_pieces catches)
    stmt_pieces (block body) = stmts_pieces body

    pub stmts_pieces : PlainStmts → List Piece
    stmts_pieces no_stmts = []
    stmts_pieces (more_stmts s rest) = stmt_pieces s ++ stmts_pieces rest

    -- each catch keeps the thrown object in its local
    pub catches_pieces : PlainCatches → List Piece
    catches_pieces no_catches = []
    catches_pieces (more_catches class i body rest) = handled class ∷ plain store ∷ (stmts_pieces body ++ (plain jump ∷ catches_pieces rest))
