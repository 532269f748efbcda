use Rattle.std.proofs.Common.{◌≡◌, ◌∙◌, List, ap, sym, subst, map}
use Rattle.bcj_elf.specs.Plain.{PlainObject, plain}
use Rattle.bcj_elf.specs.Rules.{IsObject}
use Rattle.bcj_symbolic_trees.specs.declared.class_tree.SymClass.{SymClass}
use Rattle.bcj_symbolic_trees.specs.Units.{class_of, plain_of}
use Rattle.bcj_object_rules.specs.Objects.{object_at, object_of, placed, current_version}
use Rattle.bcj_object.specs.declared.placing.PlacedClass.{PlacedClass}
use Rattle.bcj_object.specs.function.Views.{placed_in}
use Rattle.bcj_object.proofs.making.make.Goals as goal

pub spelled-requires : goal.spelled-requires
spelled-requires c =
    let made : plain c.in_ok-object.object ≡ object_of current_version (plain_of c.args.u.now) =
    c.in_ok-object.ensures
    ∙ ap (λ (l : List PlacedClass). object_at current_version (map placed_in l)) c.as_slice-2.ensures.value
    ∙ ap (object_at current_version) c.in_ok-placed.ensures
    ∙ ap (λ (l : List SymClass). object_at current_version (placed 0 0 0 (map class_of l))) c.as_slice.ensures in
    subst IsObject (sym made) (c.objects_are_well_formed.ensures current_version (plain_of c.args.u.now) c.requires.typed c.in_ok-within.ensures.small)
