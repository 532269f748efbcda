-- The parts of a descriptor: its brackets, and its element.
use Prim.Native.Char.{code}
use Rattle.std.specs.Prelude.{ℕ, zero, suc, ◌-◌, ◌==◌, List, [], ◌∷◌, length, take, if◌then◌else◌}
use Rattle.bcj_symbolic_trees.specs.Types.{PlainTy, int_type, bool_type, void_type, class_type, array_type}

-- the array type of so many dimensions
abbrev pub array_of : ℕ → PlainTy → PlainTy
array_of zero t = t
array_of (suc n) t = array_type (array_of n t)

-- the type of a text that begins with no bracket
abbrev pub element_of : List ℕ → PlainTy
element_of [] = void_type
element_of (b ∷ rest) =
    if b == code "L" then class_type (take (length rest - 1) rest) else if b == code "I" then int_type else if b == code "Z" then bool_type else void_type
