-- How many words the code of a program has.
use Rattle.std.specs.Prelude.{ℕ, ◌+◌, length}
use Rattle.bcj_cli_language.specs.Tree.{Sum, number, local, binary, Test, Act, print, declare, assign, choose, repeat, Acts, nil, cons}
use Rattle.bcj_cli_code.specs.function.Code.{comparison_code}

-- the most words that a program may have
abbrev pub max_words : ℕ
max_words = 200000

-- the words that a node has beside those of its parts
abbrev pub own_number : ℕ
own_number = 2

abbrev pub own_local : ℕ
own_local = 1

abbrev pub own_binary : ℕ
own_binary = 4

abbrev pub own_test : ℕ
own_test = 3

abbrev pub own_print : ℕ
own_print = 9

abbrev pub own_store : ℕ
own_store = 1

abbrev pub own_choose : ℕ
own_choose = 3

abbrev pub own_repeat : ℕ
own_repeat = 8

abbrev pub own_program : ℕ
own_program = 12

abbrev pub sum_words : Sum → ℕ
sum_words (number n) = own_number
sum_words (local x) = own_local
sum_words (binary op a b) = sum_words a + sum_words b + own_binary

abbrev pub test_words : Test → ℕ
test_words t = sum_words t.left + sum_words t.right + own_test + length (comparison_code t.comparison)

abbrev mutual
  pub act_words : Act → ℕ
  act_words (print e) = sum_words e + own_print
  act_words (declare x e) = sum_words e + own_store
  act_words (assign x e) = sum_words e + own_store
  act_words (choose t a b) = test_words t + acts_words a + acts_words b + own_choose
  act_words (repeat t a) = test_words t + acts_words a + own_repeat

  pub acts_words : Acts → ℕ
  acts_words nil = 0
  acts_words (cons a rest) = act_words a + acts_words rest

abbrev pub count_words : Acts → ℕ
count_words p = own_program + acts_words p
