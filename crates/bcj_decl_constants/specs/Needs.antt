-- The fields of a world by number, and the fields that an expression needs.
use Rattle.std.specs.Prelude.{◌&&◌, ◌++◌, Bool, if◌then◌else◌, List, [], ◌∷◌, Option, None, cond}
use Rattle.std.specs.List.{flat_map}
use Rattle.std.specs.Option.{is_none, option_to_list}
use Rattle.std.specs.Str.{bytes_eq}
use Rattle.bcj_parser_trees.specs.Trees.{PlainExpr, simple_name, paren, dot, unary, cast, binary, conditional}
use Rattle.bcj_symbolic_trees.specs.Same.{same_type}
use Rattle.bcj_decl_rules.specs.declared.value.Value.{Value}
use Rattle.bcj_decl_rules.specs.World.{Named, Field, World}
use Rattle.bcj_decl_rules.specs.Members.{field_of}
use Rattle.bcj_decl_rules.specs.Faults.{same_truth}
use Rattle.bcj_decl_rules.specs.function.Constants.{Known}

-- the fields of all types in the world's order; a field's number is its place in this list
abbrev pub fields_in : World → List Field
fields_in w = flat_map (λ t. t.fields) w

-- the same declaration
abbrev pub same_field : Field → Field → Bool
same_field f g =
    bytes_eq f.class g.class
    && (bytes_eq f.name g.name && (same_type f.ty g.ty && (same_truth f.is_static g.is_static && (same_truth f.is_final g.is_final && same_truth f.is_private g.is_private))))

-- the values that stand at the fields' numbers
abbrev pub known_in : List Field → List (Option Value) → Known
known_in [] values f = None
known_in (g ∷ gs) [] f = None
known_in (g ∷ gs) (v ∷ values) f = cond (same_field g f) v (known_in gs values f)

-- a name before a dot, where it is that of a type
abbrev pub qualified_needs : World → Named → PlainExpr → Named → List Field
qualified_needs w from (simple_name at x) name = if is_none (field_of w from x) then option_to_list (field_of w x name) else []
qualified_needs w from _ name = []

-- the fields that an expression names where its value hangs on them, in text order
abbrev pub needs : World → Named → PlainExpr → List Field
needs w from (paren at e) = needs w from e
needs w from (unary at o e) = needs w from e
needs w from (binary at o a b) = needs w from a ++ needs w from b
needs w from (conditional at c a b) = needs w from c ++ (needs w from a ++ needs w from b)
needs w from (cast at ty e) = needs w from e
needs w from (simple_name at x) = option_to_list (field_of w from x)
needs w from (dot at e name) = qualified_needs w from e name
needs w from _ = []
