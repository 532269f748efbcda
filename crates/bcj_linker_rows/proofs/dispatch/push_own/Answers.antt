use Rattle.std.proofs.Common.{◌≡◌, map, arith}
use Rattle.bcj_hier_rules.specs.Heads.{name_of}
use Rattle.bcj_layout_rules.specs.Rows.{selectors, highest}
use Rattle.bcj_layout_resolution.specs.Places.{heads_in}
use Rattle.bcj_layout_addresses.specs.Parts.{classes_of, main_of}
use Rattle.bcj_linker_rules.specs.Memory.{dispatch_word}
use Rattle.bcj_linker_rows.proofs.ListLemmas.{front_step}
use Rattle.bcj_linker_rows.proofs.DispatchLemmas.{own_row}
use Rattle.bcj_linker_rows.proofs.dispatch.push_own.Goals as goal

pub loop-place-preserved : goal.loop-place-preserved
loop-place-preserved c =
    let cs = classes_of c.args.parts.now in
    front_step c.push.new.self c.loop-place.words c.push-in-loop-place.new.self (map (dispatch_word cs (main_of c.args.parts.now) (name_of (heads_in cs) c.args.class)) (selectors cs)) c.loop-place.place
    c.numbered_dispatch_word.result c.loop-place.invariant c.in_ok-push-2.ensures.ok c.numbered_dispatch_word.ensures

pub returns : goal.returns
returns c =
    let cs = classes_of c.args.parts.now in
    let class = name_of (heads_in cs) c.args.class in
    let all : c.loop-place.place ≡ c.args.highest = omega (arith, c.loop-place-test.false, c.loop-place.auto.place-end) in
    own_row c.args.words.now c.push.new.self c.loop-place.words (dispatch_word cs (main_of c.args.parts.now) class) (selectors cs) c.in_ok-offset_of.field-0 c.loop-place.place c.args.highest (highest cs class)
    c.in_ok-offset_of.ensures c.requires.highest all c.in_ok-push.ensures.ok c.loop-place.invariant
