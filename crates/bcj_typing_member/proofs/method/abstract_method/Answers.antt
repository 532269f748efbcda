use Rattle.std.proofs.Common.{◌≡◌, ◌∙◌, ap}
use Rattle.bcj_symbolic_trees.specs.Types.{types_of}
use Rattle.bcj_symbolic_trees.specs.Trees.{stmts_from}
use Rattle.bcj_decl_rules.specs.World as decl
use Rattle.bcj_decl_rules.specs.Faults as faults
use Rattle.bcj_decl_table.specs.Views.{method_of_info}
use Rattle.bcj_typing_rules.specs.Members as spec
use Rattle.bcj_typing_node.specs.Typings.{pairs_of}
use Rattle.bcj_typing_member.specs.Typed.{trees_of}
use Rattle.bcj_typing_member.proofs.method.abstract_method.Goals as goal

pub returns : goal.returns
returns c =
    let types : types_of c.in_ok-types.types ≡ spec.first_types c.args.info.class (faults.is_static (method_of_info c.args.info)) (decl.param_types c.args.params.now) =
    c.in_ok-types.ensures ∙ ap (λ b. spec.first_types c.args.info.class b (decl.param_types c.args.params.now)) c.is_static.ensures in
    λ i. record {
      method = (c.record_of.ensures ∙ (λ j. spec.method_record (method_of_info c.args.info) (types j) (stmts_from (trees_of (c.new.ensures j))))) i;
      steps = pairs_of (c.new-2.ensures i);
    }
