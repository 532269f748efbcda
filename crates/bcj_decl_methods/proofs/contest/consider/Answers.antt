use Rattle.std.proofs.Common.{sym, ◌∙◌, ap}
use Rattle.std.specs.Option.{option_copied, option_map}
use Rattle.bcj_decl_table.specs.Views.{method_of_info}
use Rattle.bcj_decl_methods.proofs.Passing.{refuted, one_skips, one_keeps, one_replaces, one_starts}
use Rattle.bcj_decl_methods.proofs.contest.consider.Goals as goal

pub returns-then-not-is_applicable : goal.returns-then-not-is_applicable
returns-then-not-is_applicable c = one_skips _ _ _ _ _ (refuted c.is_applicable.result c.is_applicable.ensures c.if-not-is_applicable.true)

pub returns-then-is_as_specific : goal.returns-then-is_as_specific
returns-then-is_as_specific c =
    one_keeps _ _ _ _ _ (method_of_info c.in-Some.other.now) (sym c.best.ensures ∙ ap (λ o. option_map method_of_info (option_copied o)) c.in-Some.is) (c.is_as_specific.ensures.0 c.if-is_as_specific.true)

pub returns-else-is_as_specific : goal.returns-else-is_as_specific
returns-else-is_as_specific c =
    one_replaces _ _ _ _ _ (method_of_info c.in-Some.other.now) _ (sym c.best.ensures ∙ ap (λ o. option_map method_of_info (option_copied o)) c.in-Some.is)
    (refuted c.is_as_specific.result c.is_as_specific.ensures c.if-is_as_specific.false)
    (c.is_applicable.ensures.0 c.if-not-is_applicable.false)
    c.requires.is_it

pub returns-in_default : goal.returns-in_default
returns-in_default c =
    one_starts _ _ _ _ _ _ (sym c.best.ensures ∙ ap (λ o. option_map method_of_info (option_copied o)) c.in_default.is) (c.is_applicable.ensures.0 c.if-not-is_applicable.false) c.requires.is_it
