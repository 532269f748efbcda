-- The largest frame and the largest method of a unit in words, and the bytes of its object.
use Rattle.std.specs.Prelude.{ℕ, List, [], ◌∷◌}
use Rattle.bcj_symbolic_trees.specs.Units.{PlainMethod, PlainClass, PlainUnit}
use Rattle.bcj_symbolic_measure.specs.declared.measured.BodySize.{BodySize}
use Rattle.bcj_symbolic_measure.specs.Bodies.{class_frame_size, class_bodies, largest_words, words, init_frame_size, method_frame_size, init_pieces, method_pieces}
use Rattle.bcj_symbolic_measure.specs.Totals.{larger, narrow}

abbrev pub frames_of : List PlainClass → ℕ
frames_of [] = 0
frames_of (c ∷ rest) = larger (class_frame_size c) (frames_of rest)

abbrev pub methods_of : List PlainClass → ℕ
methods_of [] = 0
methods_of (c ∷ rest) = larger (largest_words (class_bodies c)) (methods_of rest)

abbrev pub largest_frame : PlainUnit → ℕ
largest_frame u = frames_of u.classes

abbrev pub largest_method : PlainUnit → ℕ
largest_method u = methods_of u.classes

-- ---- the frame and the code of each body, in words

abbrev pub init_size : PlainClass → BodySize
init_size c = record { frame = narrow (init_frame_size c); words = narrow (words (init_pieces c)) }

abbrev pub method_size : PlainClass → PlainMethod → BodySize
method_size c m = record { frame = narrow (method_frame_size m); words = narrow (words (method_pieces c m)) }

abbrev pub method_sizes : PlainClass → List PlainMethod → List BodySize
method_sizes c [] = []
method_sizes c (m ∷ rest) = method_size c m ∷ method_sizes c rest

-- the class initialiser stands before the methods
abbrev pub body_sizes : PlainClass → List BodySize
body_sizes c = init_size c ∷ method_sizes c c.methods
