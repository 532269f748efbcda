-- What is asked of a world, and that choices by the simpler list agree there.
use Rattle.std.specs.Prelude.{◌≡◌, ◌↔◌, true, false, List, ◌∷◌, Some}
use Rattle.std.specs.List.{Contains}
use Rattle.bcj_parser_trees.specs.Trees.{PlainUnit}
use Rattle.bcj_symbolic_trees.specs.Types.{PlainTy, PlainArg}
use Rattle.bcj_decl_rules.specs.World.{Named, Method, Declared, World, world_of, type_named}
use Rattle.bcj_decl_rules.specs.Subtypes.{Subtype}
use Rattle.bcj_decl_rules.specs.Members.{is_constructor, same_signature, Passes}
use Rattle.bcj_decl_rules.specs.Methods.{Choice, Chooses, candidates}
use Rattle.bcj_decl_rules.specs.Faults.{IsDeclared}
use Rattle.bcj_decl_rules.specs.function.Above.{types_searched, HasSameFirsts}
use Rattle.bcj_decl_methods.specs.Candidates.{simple_candidates}

-- where a type declares a private method no method of its name and parameters passes to it
abbrev pub PrivateMethodsStandAlone : World → Type 0
PrivateMethodsStandAlone w =
    (name : Named) (t : Declared) → type_named w name ≡ Some t → (d m : Method) → Contains t.methods d → d.is_private ≡ true → is_constructor d ≡ false → Passes w t m → same_signature d m ≡ true
    → ⊥

abbrev pub ChoicesAgree : Type 0
ChoicesAgree =
    (w : World) → PrivateMethodsStandAlone w → (class name : Named) (t : Declared) → type_named w class ≡ Some t → (ts : List Declared) → HasSameFirsts (types_searched w t) (t ∷ ts) → (from : Named)
    (args : List PlainArg) (c : Choice) → Chooses w from args (candidates w class name) c ↔ Chooses w from args (simple_candidates name (t ∷ ts)) c

abbrev pub DeclaredPrivateMethodsStandAlone : Type 0
DeclaredPrivateMethodsStandAlone = (units : List PlainUnit) → IsDeclared units → PrivateMethodsStandAlone (world_of units)

-- subtype steps go on behind one another
abbrev pub SubtypesGoOn : World → Type 0
SubtypesGoOn w = (s u t : PlainTy) → Subtype w s u → Subtype w u t → Subtype w s t
