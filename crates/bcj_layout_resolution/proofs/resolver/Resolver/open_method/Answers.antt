use Rattle.std.proofs.Common.{◌≡◌, Option, None, Some, IfSome, IfNone}
use Rattle.bcj_hier_rules.specs.Heads.{name_of}
use Rattle.bcj_hier_rules.specs.Loading.{turns}
use Rattle.bcj_hier_rules.specs.Resolution.{FoundMethod}
use Rattle.bcj_hier_rules.specs.Selection.{is_open, open_within}
use Rattle.bcj_layout_rules.specs.Rows.{Classes, mixture_of}
use Rattle.bcj_layout_resolution.specs.declared.member.MethodId.{MethodId}
use Rattle.bcj_layout_resolution.specs.Places.{heads_in, IsMethod}
use Rattle.bcj_layout_resolution.specs.Searches.{NamesMethod, along}
use Rattle.bcj_layout_resolution.proofs.Searching.{along_open, names_same}
use Rattle.bcj_layout_resolution.proofs.resolver.Resolver.open_method.Goals as goal
use Rattle.bcj_layout_resolution.proofs.resolver.Resolver.open_method.Goals.{After-method_along}

some_named : (cs : Classes) (o : Option FoundMethod) (r : Option MethodId) → NamesMethod cs r o → IfSome r (λ f. (x : FoundMethod) × (o ≡ Some x) × IsMethod cs f x)
some_named cs o None n = tt
some_named cs o (Some f) n = n

none_named : (cs : Classes) (o : Option FoundMethod) (r : Option MethodId) → NamesMethod cs r o → IfNone r (o ≡ None)
none_named cs o None n = n
none_named cs o (Some f) n = tt

abbrev opened : After-method_along → Option FoundMethod
opened c = open_within (mixture_of c.args.self.now) (turns (mixture_of c.args.self.now)) c.args.name.now c.args.desc.now (name_of (heads_in c.args.self.now) c.args.class)

names_it : (c : After-method_along) → NamesMethod c.args.self.now c.method_along.result (opened c)
names_it c =
    names_same (IsMethod c.args.self.now) c.method_along.result
    (along (is_open c.args.name.now c.args.desc.now) (mixture_of c.args.self.now) (turns (mixture_of c.args.self.now)) (name_of (heads_in c.args.self.now) c.args.class)) (opened c)
    (along_open (mixture_of c.args.self.now) (turns (mixture_of c.args.self.now)) c.args.name.now c.args.desc.now (name_of (heads_in c.args.self.now) c.args.class))
    c.method_along.ensures

pub returns-clause-some : goal.returns-clause-some
returns-clause-some c = some_named c.args.self.now (opened c) c.method_along.result (names_it c)

pub returns-clause-none : goal.returns-clause-none
returns-clause-none c = none_named c.args.self.now (opened c) c.method_along.result (names_it c)
