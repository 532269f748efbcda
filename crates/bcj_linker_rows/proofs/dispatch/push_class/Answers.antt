use Rattle.std.proofs.Common.{◌≡◌, ◌≢◌, ◌∙◌, ◌++◌, ap, sym, arith, false}
use Rattle.bcj_hier_rules.specs.Heads.{name_of}
use Rattle.bcj_hier_rules.specs.Loading.{is_interface}
use Rattle.bcj_layout_rules.specs.Rows.{mixture_of}
use Rattle.bcj_layout_resolution.specs.Places.{heads_in}
use Rattle.bcj_layout_addresses.specs.Parts.{classes_of, main_of}
use Rattle.bcj_linker_rows.proofs.DispatchLemmas.{none_of_interface, none_of_others, own_there}
use Rattle.bcj_linker_rows.proofs.dispatch.push_class.Goals as goal

pub returns-then-is_interface : goal.returns-then-is_interface
returns-then-is_interface c =
    let cs = classes_of c.args.parts.now in
    none_of_interface cs (main_of c.args.parts.now) (name_of (heads_in cs) c.args.class) c.args.words.now (sym c.is_interface.ensures ∙ c.if-is_interface.true)

pub returns-then-highest-eq0 : goal.returns-then-highest-eq0
returns-then-highest-eq0 c =
    let cs = classes_of c.args.parts.now in
    none_of_others cs (main_of c.args.parts.now) (name_of (heads_in cs) c.args.class) c.args.words.now (sym c.is_interface.ensures ∙ c.if-is_interface.false)
    (sym c.highest-highest.ensures.number ∙ c.if-highest-eq0.true)

pub returns : goal.returns
returns c =
    let cs = classes_of c.args.parts.now in
    let class = name_of (heads_in cs) c.args.class in
    let type : is_interface (mixture_of cs) class ≡ false = sym c.is_interface.ensures ∙ c.if-is_interface.false in
    let some : c.highest-highest.result ≢ 0 = λ e. omega arith in
    c.in_ok-push_own.ensures
    ∙ ap (λ ws. c.args.words.now ++ ws) (sym (own_there cs (main_of c.args.parts.now) class c.highest-highest.result type c.highest-highest.ensures.number some))
