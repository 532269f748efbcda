-- The names that the language itself gives a meaning to.
use Rattle.std.specs.Prelude.{ℕ, List, codes}

-- the class above all others (JLS 4.3.2)
abbrev pub object_name : List ℕ
object_name = codes "Object"

-- the class of all that can be thrown (JLS 11.1.1)
abbrev pub throwable_name : List ℕ
throwable_name = codes "Throwable"

-- the class whose methods print
abbrev pub print_stream_name : List ℕ
print_stream_name = codes "PrintStream"

-- the name of constructors, and that of class initialisers (JVMS 2.9)
abbrev pub constructor_name : List ℕ
constructor_name = codes "<init>"

abbrev pub class_initialiser_name : List ℕ
class_initialiser_name = codes "<clinit>"
