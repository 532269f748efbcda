-- Worked rows: the lines of small nodes, and the code of a small class, written out by hand.
use Rattle.std.specs.Prelude.{◌≡◌, refl, ℕ, pos, negsuc, false, List, [], ◌∷◌, ◌++◌, Some, None, codes}
use Rattle.rv_isa.specs.declared.instruction.Instr.TheVariants as instr
use Rattle.rv_isa.specs.Registers.{ra, sp, t1, a0, a1, a7, s11}
use Rattle.rv_isa.specs.Registers as register
use Rattle.bcj_symbolic_trees.specs.declared.expression.BinaryOp.TheVariants as op
use Rattle.bcj_symbolic_trees.specs.Types.{int_type, void_type, PlainMethodRef}
use Rattle.bcj_symbolic_trees.specs.Trees.{int_value, get_local, set_local, binary, and_also, call_static, no_exprs, more_exprs, evaluate, if_else, loop, break_loop, try_catch, block, PlainStmts, no_stmts, more_stmts, no_catches, more_catches}
use Rattle.bcj_symbolic_trees.specs.Units.{PlainClass}
use Rattle.bcj_symbolic_measure.specs.Entries.{static_method}
use Rattle.bcj_symbolic_measure.specs.Scheme.{is_object_class}
use Rattle.bcj_lower_rules.specs.declared.half.Half.{Half}
use Rattle.bcj_lower_rules.specs.declared.half.Half.TheVariants as half
use Rattle.bcj_lower_rules.specs.Lines.{entry, word, words, with_half, place, jump, jump_if_zero}
use Rattle.bcj_lower_rules.specs.Words.{save, load, get_local_word, set_local_word, move_second, number, turn, service, operate, use_entry, initialise, fetch_entry, copy, call, enter, exit, region_first, region_second}
use Rattle.bcj_lower_rules.specs.Nodes.{Context, Around, expr_lines, stmt_lines}
use Rattle.bcj_lower_rules.specs.Ranges.{LabelRange, stmt_ranges}
use Rattle.bcj_lower_rules.specs.Classes.{PlainRelocation, PlainCode, code_of, code_of_bodies, line_words}
use Rattle.bcj_lower_rules.specs.Bodies.{init_body, init_lines}

-- two locals and one temporary: the locals at 12 and 8, the temporary at 4
abbrev pub cx : Context
cx = record {
  typing = record {
    class = codes "M";
    superclass = Some (codes "Object");
    pairs = [];
    locals = int_type ∷ int_type ∷ [];
    has_this = false;
    result = Some void_type;
  };
  frame = 4;
}

abbrev pub no_loop : Around
no_loop = record { leave = 0; again = 0 }

-- 7, -1, and 14336, whose lower half is -2048
pub number_row : expr_lines cx 0 0 (int_value (pos 7)) ≡ words (instr.Lui a0 (pos 0) ∷ instr.Addi a0 a0 (pos 7) ∷ [])
unfolding number
number_row = refl

pub negative_row : expr_lines cx 0 0 (int_value (negsuc 0)) ≡ words (instr.Lui a0 (pos 0) ∷ instr.Addi a0 a0 (negsuc 0) ∷ [])
unfolding number
negative_row = refl

pub upper_row : expr_lines cx 0 0 (int_value (pos 14336)) ≡ words (instr.Lui a0 (pos 4) ∷ instr.Addi a0 a0 (negsuc 2047) ∷ [])
unfolding number
upper_row = refl

pub local_row : expr_lines cx 0 0 (get_local 1) ≡ word (instr.Lw a0 sp (pos 8)) ∷ []
unfolding get_local_word
local_row = refl

-- the left operand waits in the temporary, and a divisor of 0 throws
pub division_row : expr_lines cx 0 0 (binary op.Div (get_local 0) (get_local 1))
    ≡ words
    (instr.Lw a0 sp (pos 12) ∷ instr.Sw sp a0 (pos 4) ∷ instr.Lw a0 sp (pos 8)
    ∷ instr.Addi a1 a0 (pos 0) ∷ instr.Lw a0 sp (pos 4)
    ∷ instr.Bne a1 register.zero (pos 16) ∷ instr.Addi a0 register.zero (pos 1) ∷ instr.Addi a7 register.zero (pos 6) ∷ instr.Ecall
    ∷ instr.Div a0 a0 a1 ∷ [])
unfolding get_local_word save move_second load operate
division_row = refl

-- static void f(int)
abbrev pub callee : PlainMethodRef
callee = record { class = codes "N"; name = codes "f"; params = int_type ∷ []; result = void_type }

-- the argument is saved, the entry used and initialised, the argument copied, the entry fetched, and the method called
pub call_row : expr_lines cx 0 0 (call_static callee (more_exprs (get_local 0) no_exprs))
    ≡ words (instr.Lw a0 sp (pos 12) ∷ instr.Sw sp a0 (pos 4) ∷ [])
    ++ with_half half.Upper (entry (static_method callee)) (instr.Lui a0 (pos 0))
    ∷ with_half half.Lower (entry (static_method callee)) (instr.Addi a0 a0 (pos 0))
    ∷ (words
    (instr.Lw t1 a0 (pos 0) ∷ instr.Bne t1 register.zero (pos 12) ∷ instr.Addi a7 register.zero (pos 10) ∷ instr.Ecall
    ∷ instr.Addi a7 register.zero (pos 1) ∷ instr.Ecall ∷ instr.Beq a0 register.zero (pos 8) ∷ instr.Jalr ra a0 (pos 0)
    ∷ instr.Lw a0 sp (pos 4) ∷ instr.Sw sp a0 (negsuc 3) ∷ [])
    ++ with_half half.Upper (entry (static_method callee)) (instr.Lui t1 (pos 0))
    ∷ with_half half.Lower (entry (static_method callee)) (instr.Lw t1 t1 (pos 0))
    ∷ word (instr.Jalr ra t1 (pos 0))
    ∷ [])
unfolding get_local_word save use_entry initialise copy fetch_entry call
call_row = refl

-- the inner `and` has label 1, behind that of the outer
pub and_row : expr_lines cx 0 0 (and_also (and_also (get_local 0) (get_local 1)) (get_local 0))
    ≡ word (instr.Lw a0 sp (pos 12))
    ∷ (jump_if_zero 1
    ++ word (instr.Lw a0 sp (pos 8))
    ∷ (place 1 ++ (jump_if_zero 0 ++ word (instr.Lw a0 sp (pos 12)) ∷ place 0)))
unfolding get_local_word
and_row = refl

-- if (x) { y = 7; }
pub if_row : stmt_lines cx no_loop 0 (if_else (get_local 0) (evaluate (set_local 1 (int_value (pos 7)))) (block no_stmts))
    ≡ word (instr.Lw a0 sp (pos 12))
    ∷ (jump_if_zero 0
    ++ (words (instr.Lui a0 (pos 0) ∷ instr.Addi a0 a0 (pos 7) ∷ instr.Sw sp a0 (pos 8) ∷ [])
    ++ (jump 1 ++ (place 0 ++ place 1))))
unfolding get_local_word number set_local_word
if_row = refl

-- while (x) { break; }
pub loop_row : stmt_lines cx no_loop 0 (loop false (get_local 0) break_loop no_exprs)
    ≡ place 0
    ++ (words
    (instr.Bne s11 register.zero (pos 16) ∷ instr.Addi a0 register.zero (pos 0) ∷ instr.Addi a7 register.zero (pos 14) ∷ instr.Ecall
    ∷ instr.Addi s11 s11 (negsuc 0) ∷ instr.Lw a0 sp (pos 12) ∷ [])
    ++ (jump_if_zero 1 ++ (jump 1 ++ (place 2 ++ (jump 0 ++ place 1)))))
unfolding turn get_local_word
loop_row = refl

-- try { } catch (E e) { }
pub try_row : stmt_lines cx no_loop 0 (try_catch no_stmts (more_catches (codes "E") 1 no_stmts no_catches))
    ≡ place 0 ++ (place 1 ++ (jump 2 ++ (place 3 ++ word (instr.Sw sp a0 (pos 8)) ∷ (jump 2 ++ place 2))))
unfolding set_local_word
try_row = refl

abbrev pub caught : (start end target : ℕ) → List ℕ → LabelRange
caught start end target class = record { start = start; end = end; target = target; class = Some class }

abbrev pub inner_try : PlainStmts
inner_try = more_stmts (try_catch no_stmts (more_catches (codes "A") 0 no_stmts no_catches)) no_stmts

-- try { try { } catch (A a) { } } catch (B b) { try { } catch (A a) { } } catch (C c) { }: the inner ones stand before
pub ranges_row : stmt_ranges 0 (try_catch inner_try (more_catches (codes "B") 1 inner_try (more_catches (codes "C") 1 no_stmts no_catches)))
    ≡ caught 5 6 8 (codes "A") ∷ caught 9 10 12 (codes "A") ∷ caught 0 1 3 (codes "B") ∷ caught 0 1 4 (codes "C") ∷ []
ranges_row = refl

-- class M { }
abbrev pub empty_class : PlainClass
empty_class = record {
  head = record { name = codes "M"; interface = false; is_abstract = false; superclass = Some (codes "Object"); interfaces = [] };
  fields = [];
  init = record { locals = []; body = no_stmts };
  methods = [];
  pairs = [];
}

abbrev pub empty_code : PlainCode
empty_code = code_of empty_class

-- its class initialiser alone: 26 words; the region's address stands at words 12 and 20, the return at word 16
pub methods_row : empty_code.methods ≡ record { entry = 0; words = 26; frame = 1 } ∷ []
unfolding is_object_class code_of_bodies init_body init_lines enter exit region_first region_second service line_words
methods_row = refl

pub handled_row : empty_code.ranges ≡ record { method = 0; start = 48; end = 64; target = 80; class = None } ∷ []
unfolding is_object_class code_of_bodies init_body init_lines enter exit region_first region_second service line_words
handled_row = refl

abbrev pub region_half : Half → ℕ → PlainRelocation
region_half h offset = record { offset = offset; half = h; addend = 0 }

pub relocations_row : empty_code.relocations
    ≡ region_half half.Upper 48 ∷ region_half half.Lower 52 ∷ region_half half.Upper 80 ∷ region_half half.Lower 84 ∷ []
unfolding is_object_class code_of_bodies init_body init_lines enter exit region_first region_second service line_words
relocations_row = refl
