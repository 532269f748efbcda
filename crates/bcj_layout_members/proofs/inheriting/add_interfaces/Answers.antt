use Rattle.std.proofs.Common.{◌≡◌, ◌+◌, sym, ◌∙◌, ap, drop, Some, length, refl}
use Rattle.std.specs.List.{fold, slice_get}
use Rattle.std.proofs.lemmas.Option.{slice_get_read}
use Rattle.bcj_hier_rules.specs.Heads.{number_of}
use Rattle.bcj_layout_members.specs.Tables.{current, IsInterface, with_slots_of}
use Rattle.bcj_layout_members.proofs.Elements.{fold_next}
use Rattle.bcj_layout_members.proofs.Interfaces.{Told, told, told_top, item_interface}
use Rattle.bcj_layout_members.proofs.inheriting.add_interfaces.Goals as goal

pub type_called-i-requires : goal.type_called-i-requires
type_called-i-requires c =
    let i : IsInterface c.args.classes.now c.args.rows.now c.name-item.result = item_interface c.args.classes.now c.args.rows.now c.args.names.now c.requires.interfaces c.loop-name.name-index c.name-item.result c.loop-name-test.true c.name-item.is in
    (i.prepared.at, ap (λ hs. number_of hs c.name-item.result) c.requires.agree ∙ i.prepared.number)

pub add_interface-requires-clause-done : goal.add_interface-requires-clause-done
add_interface-requires-clause-done c =
    (told c.args.classes.now c.args.rows.now c.args.hier.now c.name-item.result c.type_called-i.result c.requires.agree (item_interface c.args.classes.now c.args.rows.now c.args.names.now c.requires.interfaces c.loop-name.name-index c.name-item.result c.loop-name-test.true c.name-item.is).prepared c.type_called-i.ensures).done

pub add_interface-requires-clause-top : goal.add_interface-requires-clause-top
add_interface-requires-clause-top c =
    told_top c.args.classes.now c.args.rows.now c.args.hier.now c.name-item.result c.type_called-i.result c.requires.agree (item_interface c.args.classes.now c.args.rows.now c.args.names.now c.requires.interfaces c.loop-name.name-index c.name-item.result c.loop-name-test.true c.name-item.is) c.type_called-i.ensures

pub loop-name-preserved : goal.loop-name-preserved
loop-name-preserved c =
    let at : slice_get c.args.names.now c.loop-name.name-index ≡ Some c.name-item.result =
    slice_get_read c.args.names.now (length c.args.names.now) c.loop-name.name-index c.name-item.result refl c.loop-name-test.true c.name-item.is in
    let i : IsInterface c.args.classes.now c.args.rows.now c.name-item.result = c.requires.interfaces c.loop-name.name-index c.name-item.result at in
    let t : Told c.args.classes.now c.args.rows.now c.name-item.result c.type_called-i.result =
    told c.args.classes.now c.args.rows.now c.args.hier.now c.name-item.result c.type_called-i.result c.requires.agree i.prepared c.type_called-i.ensures in
    let put = with_slots_of c.args.classes.now in
    let before = current c.args.classes.now c.args.parent c.args.start c.loop-name.places.items in
    record {
      going = c.in_ok-add_interface.ensures.going;
      so_far =
          ap (λ xs. fold put xs (drop (c.loop-name.name-index + 1) c.args.names.now)) (c.in_ok-add_interface.ensures.slots_are ∙ ap (put before) t.named)
          ∙ (sym (fold_next put before c.args.names.now c.loop-name.name-index c.name-item.result at) ∙ c.loop-name.invariant.so_far);
    }
