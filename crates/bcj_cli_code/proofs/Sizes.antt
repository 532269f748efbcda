-- How many words the code of a program has, by its nodes.
use Rattle.std.proofs.Common.{◌≡◌, ℕ, ◌+◌, List, [], ◌∷◌, length, arith, length-append}
use Rattle.bcj_cli_language.specs.Tree.{Sum, number, local, binary, Test, Act, print, declare, assign, choose, repeat, Acts, nil, cons}
use Rattle.bcj_cli_language.specs.Scopes.{declared_in}
use Rattle.bcj_cli_code.specs.declared.scope.Local.{Local}
use Rattle.bcj_cli_code.specs.function.Slots.{Frame, slot_of, frame_after}
use Rattle.bcj_cli_code.specs.function.Code.{operation, sum_code, test_code, comparison_code, store_code, act_code, acts_code, program_code}
use Rattle.bcj_cli_code.specs.Sizes.{sum_words, test_words, act_words, acts_words, count_words}
use Rattle.bcj_cli_code.proofs.Lengths.{operands_long, print_long, choose_long, repeat_long, program_long}

pub sum_size : (slots : List Local) (d : ℕ) (e : Sum) → length (sum_code slots d e) ≡ sum_words e
sum_size slots d (number n) = omega arith
sum_size slots d (local x) = omega arith
sum_size slots d (binary o a b) = omega (arith, operands_long d (sum_code slots d a) (sum_code slots (d + 1) b) (operation o ∷ []), sum_size slots d a, sum_size slots (d + 1) b)

pub test_size : (slots : List Local) (t : Test) → length (test_code slots t) ≡ test_words t
test_size slots t = omega (arith, operands_long 0 (sum_code slots 0 t.left) (sum_code slots 1 t.right) (comparison_code t.comparison), sum_size slots 0 t.left, sum_size slots 1 t.right)

mutual
  pub act_size : (f : Frame) (a : Act) → length (act_code f a) ≡ act_words a
  act_size f (print e) = omega (arith, print_long (sum_code f.slots 0 e), sum_size f.slots 0 e)
  act_size f (declare x e) = omega (arith, length-append (sum_code f.slots 0 e) (store_code f.next), sum_size f.slots 0 e)
  act_size f (assign x e) = omega (arith, length-append (sum_code f.slots 0 e) (store_code (slot_of f.slots x)), sum_size f.slots 0 e)
  act_size f (choose t a b) =
      let f2 : Frame = record { slots = f.slots; next = f.next + declared_in a } in
      omega (arith, choose_long (test_code f.slots t) (acts_code f a) (acts_code f2 b), test_size f.slots t, acts_size f a, acts_size f2 b)
  act_size f (repeat t a) = omega (arith, repeat_long (test_code f.slots t) (acts_code f a), test_size f.slots t, acts_size f a)

  pub acts_size : (f : Frame) (p : Acts) → length (acts_code f p) ≡ acts_words p
  acts_size f nil = omega arith
  acts_size f (cons a rest) = omega (arith, length-append (act_code f a) (acts_code (frame_after f a) rest), act_size f a, acts_size (frame_after f a) rest)

pub program_size : (p : Acts) → length (program_code p) ≡ count_words p
program_size p = omega (arith, program_long p, acts_size (record { slots = []; next = 0 }) p)
