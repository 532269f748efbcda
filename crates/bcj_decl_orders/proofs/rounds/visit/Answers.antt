use Rattle.std.proofs.Common.{rules, ◌≡◌, ◌<◌, true, [], Some, length, arith, ap, ◌∙◌, refl, sym, get_or, slice_get}
use Rattle.std.proofs.lemmas.Option.{slice_get-map, slice_get_read}
use Rattle.std.specs.Option.{option_map}
use Rattle.bcj_decl_rules.specs.World.{Declared, World}
use Rattle.bcj_decl_table.specs.declared.info.TypeInfo.{TypeInfo}
use Rattle.bcj_decl_table.specs.Views.{declared_of, world_in}
use Rattle.bcj_decl_orders.specs.Rounds.{are_done, gathered}
use Rattle.bcj_decl_orders.proofs.RoundLemmas.{visit_right}
use Rattle.bcj_decl_orders.proofs.rounds.visit.Goals as goal

pub returns-clause-right : goal.returns-clause-right
returns-clause-right c =
    let w : World = world_in c.args.listing.now.types in
    let t : Declared = declared_of c.index-as_slice-place.result in
    let inside : c.args.place < length c.args.lists.now = omega arith in
    let at_it : slice_get w c.args.place ≡ Some t =
    slice_get-map declared_of c.args.listing.now.types c.args.place
    ∙ ap (option_map declared_of)
    (slice_get_read c.args.listing.now.types (length c.args.listing.now.types) c.args.place c.index-as_slice-place.result refl c.requires.within
    (c.index-as_slice-place.is ∙ ap (λ l. get_or l c.args.place c.index-as_slice-place.result) c.as_slice.ensures)) in
    let named : c.as_slice-names.result.now ≡ t.interfaces = c.as_slice-names.ensures ∙ ap (λ (i : TypeInfo). i.head.interfaces) (sym c.index-as_slice-place.is) in
    let ready : are_done w c.args.done.now t.interfaces ≡ true = ap (are_done w c.args.done.now) (sym named) ∙ (sym c.are_names_done.ensures ∙ search rules) in
    let listed : c.in_ok-lists.field-0 ≡ gathered w c.args.lists.now [] t.interfaces = c.in_ok-lists.ensures.places ∙ ap (gathered w c.args.lists.now []) named in
    visit_right w c.requires.acyclic c.args.lists.now c.args.done.now c.requires.right c.args.place t at_it ready c.in_ok-lists.field-0 listed c.in_ok-lists.ensures.once inside
