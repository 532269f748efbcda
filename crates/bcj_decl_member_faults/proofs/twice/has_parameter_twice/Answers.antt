use Rattle.std.proofs.Common.{◌≡◌, ◌-◌, ℕ, List, true, ◌∷◌, drop, sym, ◌∙◌, ap, arith}
use Rattle.std.proofs.lemmas.Bool.{not-true, not-false}
use Rattle.std.proofs.lemmas.Map.Text.{hash_set_updates_text}
use Rattle.std.specs.HashSet.{contains_text}
use Rattle.std.specs.String.{string_bytes}
use Rattle.bcj_parser_trees.specs.declared.names.Param.{Param}
use Rattle.bcj_decl_rules.specs.Faults.{param_names}
use Rattle.bcj_decl_member_faults.proofs.Doubles.{names_behind, seen_more, none_twice, some_twice}
use Rattle.bcj_decl_member_faults.proofs.twice.has_parameter_twice.Goals as goal

pub returns-then-not-branch : goal.returns-then-not-branch
returns-then-not-branch c =
    let name : List ℕ = string_bytes c.in_ok-from_str.field-0 in
    let parts : param_names (drop (c.loop-i.i - 1) c.args.params.now) ≡ name ∷ param_names (drop c.loop-i.i c.args.params.now) =
    names_behind c.args.params.now c.loop-i.i c.index-params-i.result name (omega arith) (omega arith) c.index-params-i.is (c.in_ok-from_str.ensures.ok ∙ (c.as_str.ensures ∙ ap (λ (p : Param). p.name) (sym c.index-params-i.is))) in
    some_twice c.args.params.now (c.loop-i.i - 1) _ name (contains_text c.loop-i.seen name) parts (c.loop-i.invariant.0 name) (not-false (contains_text c.loop-i.seen name) (sym c.in_ok-insert.ensures.added ∙ c.if-not-branch.true))

pub loop-i-preserved : goal.loop-i-preserved
loop-i-preserved c =
    let name : List ℕ = string_bytes c.in_ok-from_str.field-0 in
    let parts : param_names (drop (c.loop-i.i - 1) c.args.params.now) ≡ name ∷ param_names (drop c.loop-i.i c.args.params.now) =
    names_behind c.args.params.now c.loop-i.i c.index-params-i.result name (omega arith) (omega arith) c.index-params-i.is (c.in_ok-from_str.ensures.ok ∙ (c.as_str.ensures ∙ ap (λ (p : Param). p.name) (sym c.index-params-i.is))) in (
      seen_more _ _ name (contains_text c.loop-i.seen) (contains_text c.insert.new.self) parts c.loop-i.invariant.0 (hash_set_updates_text name c.loop-i.seen c.insert.new.self true c.in_ok-insert.ensures.updates),
      none_twice _ _ name (contains_text c.loop-i.seen name) parts (c.loop-i.invariant.0 name) (not-true (contains_text c.loop-i.seen name) (sym c.in_ok-insert.ensures.added ∙ c.if-not-branch.false)) c.loop-i.invariant.1,
    )
