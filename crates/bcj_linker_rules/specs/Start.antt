-- The start code: main and its class are linked by the entries of the start's own table region, the class is initialised, the array of arguments is made
-- where main takes one, main is called, and the run ends.
use Rattle.std.specs.Prelude.{ℕ, ◌+◌, ◌*◌, pos, negsuc, Bool, true, false, List, [], ◌∷◌, ◌++◌, map}
use Rattle.rv_isa.specs.declared.instruction.Instr.{Instr}
use Rattle.rv_isa.specs.declared.instruction.Instr.TheVariants as instr
use Rattle.rv_isa.specs.Registers.{ra, sp, t1, a0, a1}
use Rattle.rv_isa.specs.Registers as register
use Rattle.rv_isa.specs.Words.{word_of, fields_of}
use Rattle.rv_steps.specs.Arithmetic.{upper_part, lower_part}
use Rattle.rv_steps.specs.Services as services
use Rattle.bcj_lower_rules.specs.Words.{service_words}
use Rattle.bcj_layout_rules.specs.Rows.{Classes}
use Rattle.bcj_layout_rules.specs.Places.{word_size, takes_arguments, tables_at}
use Rattle.bcj_hier_rules.specs.Shapes.{Named}

-- ---- the start's region: the row of MAIN, the row of the arguments' type, and main

module _ (cs : Classes) (main : Named) where
  abbrev pub main_class_entry : ℕ
  main_class_entry = tables_at cs main

  abbrev pub arguments_entry : ℕ
  arguments_entry = tables_at cs main + word_size

  abbrev pub main_entry : ℕ
  main_entry = tables_at cs main + 2 * word_size

-- ---- words

-- a register takes an address
abbrev pub address_in : ℕ → ℕ → List Instr
address_in r a = instr.Lui r (pos (upper_part a)) ∷ instr.Addi r r (lower_part a) ∷ []

-- the use of an entry at an address
abbrev pub use_at : ℕ → List Instr
use_at a = address_in a0 a ++ instr.Lw t1 a0 (pos 0) ∷ instr.Bne t1 register.zero (pos 12) ∷ service_words services.link_failure

abbrev pub initialise : List Instr
initialise = service_words services.init_begin ++ instr.Beq a0 register.zero (pos 8) ∷ instr.Jalr ra a0 (pos 0) ∷ []

-- the load of an entry that was used
abbrev pub fetch_at : ℕ → List Instr
fetch_at a = instr.Lui t1 (pos (upper_part a)) ∷ instr.Lw t1 t1 (lower_part a) ∷ []

-- an array without elements becomes the callee's argument
abbrev pub arguments_at : ℕ → List Instr
arguments_at a =
    fetch_at a ++ instr.Addi a0 t1 (pos 0) ∷ instr.Addi a1 register.zero (pos 0) ∷ (service_words services.new_array ++ instr.Sw sp a0 (negsuc 3) ∷ [])

abbrev pub arguments_where : Bool → ℕ → List Instr
arguments_where true a = arguments_at a
arguments_where false a = []

unfoldable pub start_code : Classes → Named → List Instr
start_code cs main =
    use_at (main_class_entry cs main)
    ++ (use_at (main_entry cs main)
    ++ (address_in a0 (main_class_entry cs main)
    ++ (initialise
    ++ (arguments_where (takes_arguments cs main) (arguments_entry cs main)
    ++ (fetch_at (main_entry cs main) ++ instr.Jalr ra t1 (pos 0) ∷ service_words services.exit)))))

abbrev pub start_code_words : Classes → Named → List ℕ
start_code_words cs main = map (λ i. word_of (fields_of i)) (start_code cs main)
