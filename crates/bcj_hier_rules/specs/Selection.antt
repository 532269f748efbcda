-- Which method a call takes, by the class of its target (JVMS 5.4.6, `invokevirtual`, `invokeinterface`).
use Rattle.std.specs.Prelude.{ℕ, zero, suc, Bool, not, ◌&&◌, List, Option, None, Some, Result, Ok, Err, if◌then◌else◌}
use Rattle.std.specs.List.{find}
use Rattle.std.specs.Option.{option_or, option_map}
use Rattle.bcj_hier_rules.specs.declared.link_error.LinkError.{LinkError}
use Rattle.bcj_hier_rules.specs.declared.link_error.LinkError.TheVariants as error
use Rattle.bcj_hier_rules.specs.Shapes.{Named, Method, Mixture, found, is_static, is_abstract, is_method}
use Rattle.bcj_hier_rules.specs.Loading.{turns, implements}
use Rattle.bcj_hier_rules.specs.Resolution.{FoundMethod, method_there, of_option}

-- neither static nor private
abbrev pub is_open : Named → List ℕ → Method → Bool
is_open name desc m = is_method name desc m && (not (is_static m) && not m.is_private)

module _ (m : Mixture) where
  -- the first such method of the class and its superclasses
  abbrev pub open_within : ℕ → Named → List ℕ → Named → Option FoundMethod
  open_within zero name desc class = None
  open_within (suc n) name desc class = elim (found m class) [
    | None ↦ None
    | Some s ↦ option_or (option_map (method_there s) (find (is_open name desc) s.methods)) (of_option (open_within n name desc) s.head.superclass)
  ]

  -- with code
  abbrev pub with_code : Option FoundMethod → Result FoundMethod LinkError
  with_code None = Err error.AbstractMethod
  with_code (Some f) = if is_abstract f.method then Err error.AbstractMethod else Ok f

  -- the method that a call takes on an object of a class, where this one was resolved
  abbrev pub selected : Named → FoundMethod → Result FoundMethod LinkError
  selected class f = if f.method.is_private then Ok f else with_code (open_within (turns m) f.method.name f.method.desc class)

  -- by interface, which the class must implement
  abbrev pub selected_by_interface : Named → Named → FoundMethod → Result FoundMethod LinkError
  selected_by_interface interface class f = if implements m class interface then selected class f else Err error.IncompatibleClassChange
