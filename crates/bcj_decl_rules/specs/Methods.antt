-- Which method a call takes (JLS 15.12.2 by subtyping alone).
use Rattle.std.specs.Prelude.{◌≡◌, ◌⊎◌, false, List, [], ◌∷◌, ◌++◌, filter}
use Rattle.std.specs.List.{All, AllZip, Contains}
use Rattle.std.specs.Option.{option_map_or}
use Rattle.std.specs.Str.{bytes_eq}
use Rattle.bcj_symbolic_trees.specs.Types.{PlainArg}
use Rattle.bcj_decl_rules.specs.World.{Named, Method, World, type_named}
use Rattle.bcj_decl_rules.specs.Members.{methods_of_type}
use Rattle.bcj_decl_rules.specs.Subtypes.{Subtype, Fits}

-- the methods of a name that a type has, in the order of the search; those of the name `<init>` are its constructors
abbrev pub methods_named : Named → List Method → List Method
methods_named name = filter (λ m. bytes_eq m.name name)

unfoldable pub candidates : World → Named → Named → List Method
candidates w class name = option_map_or (λ t. methods_named name (methods_of_type w t)) (type_named w class) []

-- `from` is the type that holds the call: a private method is applicable there alone (JLS 6.6.1)
pub record IsApplicable (w : World) (from : Named) (m : Method) (args : List PlainArg) : Type 0 where
  pub accessible : (m.is_private ≡ false) ⊎ (m.class ≡ from)
  pub fits : AllZip (Fits w) args m.params

-- each parameter of the one steps to that of the other (JLS 15.12.2.5)
abbrev pub IsAsSpecific : World → Method → Method → Type 0
IsAsSpecific w m n = AllZip (Subtype w) m.params n.params

pub record IsMostSpecific (w : World) (from : Named) (args : List PlainArg) (all : List Method) (m : Method) : Type 0 where
  pub applies : IsApplicable w from m args
  pub most : (n : Method) → Contains all n → IsApplicable w from n args → IsAsSpecific w m n

pub data Choice : Type 0 where
  one : Method → Choice
  none_applies : Choice
  ambiguous : Choice

-- Of several most specific methods, which then have the same parameters, the first found is taken.
pub data Chooses (w : World) (from : Named) (args : List PlainArg) (all : List Method) : Choice → Type 0 where
  none : All (λ m. IsApplicable w from m args → ⊥) all → Chooses w from args all none_applies
  first : {m : Method} (before behind : List Method) → all ≡ before ++ m ∷ behind → IsMostSpecific w from args all m → All (λ n. IsMostSpecific w from args all n → ⊥) before
      → Chooses w from args all (one m)
  several : (m : Method) → Contains all m → IsApplicable w from m args → All (λ n. IsMostSpecific w from args all n → ⊥) all → Chooses w from args all ambiguous

abbrev pub MostSpecific : World → Named → Named → Named → List PlainArg → Choice → Type 0
MostSpecific w from class name args c = Chooses w from args (candidates w class name) c
