use Rattle.std.proofs.Common.{◌∙◌, ap, sym, map, [], ◌∷◌}
use Rattle.std.proofs.lemmas.List.{map-append}
use Rattle.bcj_typing_member.specs.Gathered as gathered
use Rattle.bcj_typing_member.specs.Typed.{making_of, made_of}
use Rattle.bcj_typing_member.proofs.Gathering.{mades_more}
use Rattle.bcj_typing_member.proofs.making.with_methods.Goals as goal

pub loop-method-preserved : goal.loop-method-preserved
loop-method-preserved c =
    mades_more (making_of c.args.making) (making_of c.loop-method.making) (making_of c.in_ok-making.making) (map made_of c.loop-method.yielded) (made_of c.in-Some.method ∷ [])
    c.loop-method.invariant c.in_ok-making.ensures
    ∙ ap (gathered.with_mades (making_of c.args.making)) (sym (map-append made_of c.loop-method.yielded (c.in-Some.method ∷ [])))
