-- Which classes link: each pair of a class holds in the mixture. What an object is an instance of (JVMS `instanceof`, `checkcast`).
use Rattle.std.specs.Prelude.{Bool, true, false, not, ◌&&◌, ◌||◌, List, [], ◌∷◌, Option, None, Some, if◌then◌else◌}
use Rattle.std.specs.Option.{option_or}
use Rattle.std.specs.Str.{bytes_eq}
use Rattle.bcj_symbolic_trees.specs.Names.{object_name}
use Rattle.bcj_symbolic_trees.specs.Types.{PlainTy, class_type, array_type}
use Rattle.bcj_symbolic_trees.specs.Same.{same_type}
use Rattle.bcj_symbolic_trees.specs.Units.{PlainPair}
use Rattle.bcj_hier_rules.specs.declared.link_error.LinkError.{LinkError}
use Rattle.bcj_hier_rules.specs.declared.link_error.LinkError.TheVariants as error
use Rattle.bcj_hier_rules.specs.Shapes.{Named, Shape, Mixture}
use Rattle.bcj_hier_rules.specs.Loading.{is_interface, is_below, implements}
use Rattle.bcj_hier_rules.specs.Resolution.{element_error}

abbrev pub is_reference : PlainTy → Bool
is_reference (class_type name) = true
is_reference (array_type component) = true
is_reference _ = false

abbrev pub is_object : PlainTy → Bool
is_object (class_type name) = bytes_eq name object_name
is_object _ = false

-- the components of arrays: equal, or references in a relation, or any reference beside Object
abbrev pub components : Bool → PlainTy → PlainTy → Bool
components related a b = same_type a b || (is_reference a && is_reference b && (related || is_object b))

module _ (m : Mixture) where
  -- to an interface from an interface or from any class but Object; to a class from itself or a class below it
  abbrev pub class_pair : Named → Named → Bool
  class_pair s t =
      if is_interface m t then is_interface m s || not (bytes_eq s object_name) else is_below m s t

  abbrev pub pair_holds : PlainTy → PlainTy → Bool
  pair_holds (class_type s) (class_type t) = class_pair s t
  pair_holds (array_type a) (array_type b) = components (pair_holds a b) a b
  pair_holds _ _ = false

  -- the element types of both load, and then it holds
  abbrev pub pair_error : PlainTy → PlainTy → Option LinkError
  pair_error s t = option_or (element_error m s) (option_or (element_error m t) (if pair_holds s t then None else Some error.Verify))

  abbrev pub pairs_error : List PlainPair → Option LinkError
  pairs_error [] = None
  pairs_error (p ∷ rest) = option_or (pair_error p.from p.to) (pairs_error rest)

  -- why a class doesn't link: the error of its first pair that fails
  abbrev pub link_error : Shape → Option LinkError
  link_error s = pairs_error s.pairs

  -- what has the first type is an instance of the second
  abbrev pub instance : PlainTy → PlainTy → Bool
  instance (class_type d) (class_type t) = is_below m d t || implements m d t
  instance (array_type a) (class_type t) = bytes_eq t object_name
  instance (array_type a) (array_type b) = components (instance a b) a b
  instance _ _ = false
