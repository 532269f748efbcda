-- The numbers of the services that code calls by an ECALL, in a7. Which of them a run answers, and how, is said where it is run.
use Rattle.std.specs.Prelude.{ℕ}

abbrev pub init_begin : ℕ
init_begin = 1

abbrev pub init_done : ℕ
init_done = 2

abbrev pub init_failed : ℕ
init_failed = 3

abbrev pub new : ℕ
new = 4

abbrev pub new_array : ℕ
new_array = 5

abbrev pub throw : ℕ
throw = 6

abbrev pub cast : ℕ
cast = 7

abbrev pub store_check : ℕ
store_check = 8

abbrev pub link_failure : ℕ
link_failure = 10

abbrev pub print_int : ℕ
print_int = 11

abbrev pub print_boolean : ℕ
print_boolean = 12

abbrev pub print_line_end : ℕ
print_line_end = 13

abbrev pub stop : ℕ
stop = 14

abbrev pub exit : ℕ
exit = 15

abbrev pub refill : ℕ
refill = 16

abbrev pub print_byte : ℕ
print_byte = 17
