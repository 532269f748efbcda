use Rattle.std.proofs.Common.{◌≡◌, map, drop}
use Rattle.std.specs.List.{fold}
use Rattle.bcj_hier_rules.specs.Shapes.{method_of_record, behind_first}
use Rattle.bcj_layout_rules.specs.Members.{with_method}
use Rattle.bcj_layout_members.specs.Places.{name_at}
use Rattle.bcj_layout_members.specs.Tables.{current, IsGoing}
use Rattle.bcj_layout_members.proofs.building.add_own.Given as goal

abbrev pub invariant-loop-k : goal.invariant-loop-k
invariant-loop-k l =
    let put = fold (with_method (name_at l.classes l.c.0)) in
    record {
      going : IsGoing l.classes l.rows l.parent l.start l.places.items;
      so_far :
          put (current l.classes l.parent l.start l.places.items) (map method_of_record (drop l.k l.methods))
          ≡ put (current l.classes l.parent l.start l.initial.places.items) (map method_of_record (behind_first l.methods));
    }
