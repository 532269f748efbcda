-- Frames and code of methods and class initialisers, and what the pieces of code add up to.
use Rattle.std.specs.Prelude.{ℕ, ◌+◌, ◌-◌, ◌*◌, List, [], ◌∷◌, ◌++◌, length, Option, None, Some, if◌then◌else◌}
use Rattle.bcj_symbolic_trees.specs.declared.class_tree.MethodKind.{MethodKind}
use Rattle.bcj_symbolic_trees.specs.Types.{PlainTy}
use Rattle.bcj_symbolic_trees.specs.Units.{PlainMethod, PlainClass}
use Rattle.bcj_symbolic_check.specs.Steps.{is_void}
use Rattle.bcj_symbolic_check.specs.Classes.{has_this, is_abstract, init_frame, method_frame}
use Rattle.bcj_symbolic_measure.specs.Entries.{PlainEntry, class_entry, u32_size, string_size}
use Rattle.bcj_symbolic_measure.specs.Scheme.{Piece, plain, usage, fetch, region, handled, compute, load, branch, address, service, initialise, entry, exit, is_object_class, stmts_pieces}
use Rattle.bcj_symbolic_measure.specs.Depths.{stmts_depth}
use Rattle.bcj_symbolic_measure.specs.Totals.{larger}

-- ---- frames

-- the words of the return address
abbrev pub return_address : ℕ
return_address = 1

abbrev pub frame_size : ℕ → ℕ → ℕ
frame_size locals temporaries = return_address + locals + temporaries

abbrev pub method_frame_size : PlainMethod → ℕ
method_frame_size m = if is_abstract m.kind then 0 else frame_size (length m.locals) (stmts_depth m.body)

abbrev pub methods_frame_size : List PlainMethod → ℕ
methods_frame_size [] = 0
methods_frame_size (m ∷ rest) = larger (method_frame_size m) (methods_frame_size rest)

abbrev pub init_frame_size : PlainClass → ℕ
init_frame_size c = frame_size (length c.init.locals) (stmts_depth c.init.body)

abbrev pub class_frame_size : PlainClass → ℕ
class_frame_size c = larger (init_frame_size c) (methods_frame_size c.methods)

-- ---- code

-- whether there is a `this`, as a number of locals
abbrev pub hidden_parameters : MethodKind → ℕ
hidden_parameters kind = if has_this kind then 1 else 0

-- the locals that are set to zero, by one word each: those behind `this` and the parameters
abbrev pub zeroed : PlainMethod → ℕ
zeroed m = length m.locals - length m.params - hidden_parameters m.kind

-- a method with a result that runs off its end gives zero
abbrev pub last_value : PlainTy → ℕ
last_value result = if is_void result then 0 else compute

abbrev pub method_pieces : PlainClass → PlainMethod → List Piece
method_pieces c m =
    if is_abstract m.kind
    then []
    else plain entry ∷ plain (zeroed m) ∷ (stmts_pieces (method_frame c m) m.body ++ (plain (last_value m.result) ∷ plain exit ∷ []))

-- the superclass is initialised first, unless it is Object
abbrev pub superclass_pieces : Option (List ℕ) → List Piece
superclass_pieces None = []
superclass_pieces (Some name) = if is_object_class name then [] else usage (class_entry name) ∷ plain initialise ∷ []

-- behind the initialisers the class is done; what any throw in them reaches says that it failed, and throws on
abbrev pub init_end : List Piece
init_end = region ∷ plain (service + exit) ∷ handled [] ∷ region ∷ plain (service + service) ∷ []

abbrev pub init_pieces : PlainClass → List Piece
init_pieces c =
    plain entry
    ∷ plain (length c.init.locals)
    ∷ (superclass_pieces c.head.superclass ++ (stmts_pieces (init_frame c) c.init.body ++ init_end))

-- the class initialiser stands before the methods
abbrev pub methods_pieces : PlainClass → List PlainMethod → List (List Piece)
methods_pieces c [] = []
methods_pieces c (m ∷ rest) = method_pieces c m ∷ methods_pieces c rest

abbrev pub class_bodies : PlainClass → List (List Piece)
class_bodies c = init_pieces c ∷ methods_pieces c c.methods

-- ---- what pieces add up to

-- a use has the entry's address, its load, and a branch over the service; a load has the upper half of the address, and the
-- lower half in the `lw` itself
abbrev pub piece_words : Piece → ℕ
piece_words (plain n) = n
piece_words (usage e) = address + load + branch + service
piece_words (fetch e) = compute + load
piece_words region = address
piece_words (handled class) = 0

-- the halves of an address are relocated each (R_RISCV_HI20, R_RISCV_LO12_I)
abbrev pub address_relocations : ℕ
address_relocations = 2

abbrev pub piece_relocations : Piece → ℕ
piece_relocations (plain n) = 0
piece_relocations (usage e) = address_relocations
piece_relocations (fetch e) = address_relocations
piece_relocations region = address_relocations
piece_relocations (handled class) = 0

-- the record of a range: method, start, end, target and class
abbrev pub piece_ranges : Piece → ℕ
piece_ranges (handled class) = 4 * u32_size + string_size class
piece_ranges _ = 0

abbrev pub piece_uses : Piece → List PlainEntry
piece_uses (usage e) = e ∷ []
piece_uses (fetch e) = e ∷ []
piece_uses _ = []

abbrev pub words : List Piece → ℕ
words [] = 0
words (p ∷ rest) = piece_words p + words rest

abbrev pub relocations : List Piece → ℕ
relocations [] = 0
relocations (p ∷ rest) = piece_relocations p + relocations rest

abbrev pub ranges_size : List Piece → ℕ
ranges_size [] = 0
ranges_size (p ∷ rest) = piece_ranges p + ranges_size rest

abbrev pub uses : List Piece → List PlainEntry
uses [] = []
uses (p ∷ rest) = piece_uses p ++ uses rest

-- the same of several bodies, in order
abbrev pub all_words : List (List Piece) → ℕ
all_words [] = 0
all_words (b ∷ rest) = words b + all_words rest

abbrev pub largest_words : List (List Piece) → ℕ
largest_words [] = 0
largest_words (b ∷ rest) = larger (words b) (largest_words rest)

abbrev pub all_relocations : List (List Piece) → ℕ
all_relocations [] = 0
all_relocations (b ∷ rest) = relocations b + all_relocations rest

abbrev pub all_ranges_size : List (List Piece) → ℕ
all_ranges_size [] = 0
all_ranges_size (b ∷ rest) = ranges_size b + all_ranges_size rest

abbrev pub all_uses : List (List Piece) → List PlainEntry
all_uses [] = []
all_uses (b ∷ rest) = uses b ++ all_uses rest
