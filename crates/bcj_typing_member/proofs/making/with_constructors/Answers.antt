use Rattle.std.proofs.Common.{◌∙◌, ap, sym, map, [], ◌∷◌}
use Rattle.std.proofs.lemmas.List.{map-append}
use Rattle.bcj_typing_member.specs.Gathered as gathered
use Rattle.bcj_typing_member.specs.Typed.{added_of, constructor_of, making_of}
use Rattle.bcj_typing_member.proofs.Gathering.{constructors_turn}
use Rattle.bcj_typing_member.proofs.making.with_constructors.Goals as goal

pub loop-constructor-preserved : goal.loop-constructor-preserved
loop-constructor-preserved c = (
  constructors_turn c.args.world.now.decl.name (added_of c.args.instances) (making_of c.args.making) (making_of c.loop-constructor.making) (making_of c.in_ok-making.making) (map constructor_of c.loop-constructor.yielded)
      (constructor_of c.in-Some.constructor) c.loop-constructor.invariant.0 (c.in_ok-making.ensures.making (added_of c.args.instances) c.requires.instances)
      ∙ ap (λ l. gathered.with_mades (making_of c.args.making) (gathered.constructors_with c.args.world.now.decl.name (added_of c.args.instances) l)) (sym (map-append constructor_of c.loop-constructor.yielded (c.in-Some.constructor ∷ []))),
  c.in_ok-making.ensures.ready,
)
