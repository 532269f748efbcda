use Rattle.std.proofs.Common.{refl, sym, ◌∙◌}
use Rattle.bcj_symbolic_trees.specs.Types.{args_of}
use Rattle.bcj_decl_rules.specs.Methods as rule
use Rattle.bcj_decl_table.specs.Views.{world_in}
use Rattle.bcj_decl_methods.specs.Search.{best_of, decided}
use Rattle.bcj_decl_methods.proofs.Beyond.{chosen, none_chosen}
use Rattle.bcj_decl_methods.proofs.choice.most_specific.Goals as goal

pub returns-in_default : goal.returns-in_default
returns-in_default c =
    (rule.none_applies, refl, none_chosen (world_in c.args.listing.now.types) c.args.from.now c.args.class.now c.args.name.now (args_of c.args.args.now) (sym c.place.ensures ∙ c.in_default.is))

pub returns : goal.returns
returns c = (
  decided (best_of (world_in c.args.listing.now.types) c.consider_all-first.result).method c.consider_all-second.result.changed,
  c.decide.ensures,
  chosen (world_in c.args.listing.now.types) c.args.orders.now c.requires.orders c.requires.alone c.requires.transitive c.args.class.now c.args.name.now c.in-Some.place (sym c.place.ensures ∙ c.in-Some.is)
      c.args.from.now
      (args_of c.args.args.now)
      _ _ c.consider_all-first.ensures c.consider_all-second.ensures,
)
