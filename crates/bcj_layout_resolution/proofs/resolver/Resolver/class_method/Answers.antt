use Rattle.std.proofs.Common.{◌∙◌, sym, Option}
use Rattle.bcj_hier_rules.specs.Shapes.{is_method}
use Rattle.bcj_hier_rules.specs.Heads.{name_of}
use Rattle.bcj_hier_rules.specs.Loading.{turns}
use Rattle.bcj_hier_rules.specs.Resolution.{FoundMethod, class_method_within, inherited_within}
use Rattle.bcj_layout_rules.specs.Rows.{mixture_of}
use Rattle.bcj_layout_resolution.specs.Places.{heads_in, IsMethod}
use Rattle.bcj_layout_resolution.specs.Searches.{NamesMethod, along}
use Rattle.bcj_layout_resolution.proofs.Searching.{along_methods, names_same, first_names, then_names}
use Rattle.bcj_layout_resolution.proofs.resolver.Resolver.class_method.Goals as goal
use Rattle.bcj_layout_resolution.proofs.resolver.Resolver.class_method.Goals.{After-is_some}

abbrev in_classes : After-is_some → Option FoundMethod
in_classes c = class_method_within (mixture_of c.args.self.now) (turns (mixture_of c.args.self.now)) c.args.name.now c.args.desc.now (name_of (heads_in c.args.self.now) c.args.class)

abbrev in_interfaces : After-is_some → Option FoundMethod
in_interfaces c = inherited_within (mixture_of c.args.self.now) (turns (mixture_of c.args.self.now)) c.args.name.now c.args.desc.now (name_of (heads_in c.args.self.now) c.args.class)

names_it : (c : After-is_some) → NamesMethod c.args.self.now c.method_along-method.result (in_classes c)
names_it c =
    names_same (IsMethod c.args.self.now) c.method_along-method.result
    (along (is_method c.args.name.now c.args.desc.now) (mixture_of c.args.self.now) (turns (mixture_of c.args.self.now)) (name_of (heads_in c.args.self.now) c.args.class)) (in_classes c)
    (along_methods (mixture_of c.args.self.now) (turns (mixture_of c.args.self.now)) c.args.name.now c.args.desc.now (name_of (heads_in c.args.self.now) c.args.class))
    c.method_along-method.ensures

pub returns-then-is_some : goal.returns-then-is_some
returns-then-is_some c =
    let a : After-is_some = (goal.at.returns-then-is_some c).After-is_some in
    first_names (IsMethod c.args.self.now) c.method_along-method.result (in_classes a) (in_interfaces a) (sym c.is_some.ensures ∙ c.if-is_some.true) (names_it a)

pub returns : goal.returns
returns c =
    let a : After-is_some = (goal.at.returns c).After-is_some in
    then_names (IsMethod c.args.self.now) c.method_along-method.result c.inherited.result (in_classes a) (in_interfaces a) (sym c.is_some.ensures ∙ c.if-is_some.false) (names_it a) c.inherited.ensures
