use Rattle.std.proofs.Common.{◌+◌, ◌*◌, length, ap, sym, ◌∙◌, arith}
use Rattle.std.specs.Prelude.{not, ◌&&◌}
use Rattle.std.specs.HashSet.{contains_text}
use Rattle.std.proofs.lemmas.List.{length-append}
use Rattle.bcj_names.specs.Identifiers.{is_identifier}
use Rattle.bcj_tables_rules.specs.declared.records.MethodRecord.{MethodRecord}
use Rattle.bcj_tables_rules.specs.Members.{method_format, has_method, turn_of, none_named, code_behind}
use Rattle.bcj_tables.proofs.Turns.{items_turn, items_refused, items_done, reads_passed}
use Rattle.bcj_tables.proofs.MemberTurns.{method_formats, method_noted, code_more, named_more}
use Rattle.bcj_tables.proofs.reading_members.read_methods.Goals as goal

pub returns-in_err-method : goal.returns-in_err-method
returns-in_err-method c =
    let kept = c.loop-at.invariant in
    reads_passed (λ x. x) (λ xs. xs) _ _ _ _ _ c.from_residual-in_err-method.ensures.1 c.in_err-method.ensures.reads
    (λ x o. items_refused (λ before. method_format (turn_of c.args.place.now c.in_ok-count.count before) c.args.is_open (has_method before)) _ c.in_ok-count.count c.loop-at.at _ _ _ x c.loop-at-test.true kept.read
    (method_formats c.args.place.now c.in_ok-count.count c.loop-at.at c.loop-at.code c.loop-at.may_construct c.args.is_open (λ q. contains_text c.loop-at.seen q) c.loop-at.found kept.size kept.code kept.constructs kept.seen _ ∙ o))

pub loop-at-preserved : goal.loop-at-preserved
loop-at-preserved c =
    let kept = c.loop-at.invariant in
    let more = c.in_ok-push.ensures.ok in record {
      read = items_turn (λ before. method_format (turn_of c.args.place.now c.in_ok-count.count before) c.args.is_open (has_method before)) _ c.in_ok-count.count c.loop-at.at _ _ _ _ _ c.loop-at-test.true kept.read
          (method_formats c.args.place.now c.in_ok-count.count c.loop-at.at c.loop-at.code c.loop-at.may_construct c.args.is_open (λ q. contains_text c.loop-at.seen q) c.loop-at.found kept.size kept.code kept.constructs kept.seen _
          ∙ c.in_ok-method.ensures.reads) more;
      size = omega (arith, ap length more, length-append {A = MethodRecord});
      seen = λ q. method_noted (λ p. contains_text c.loop-at.seen p) (λ p. contains_text c.read_method.new.seen p) _ _ kept.seen c.in_ok-method.ensures.seen q
          ∙ ap (λ ms. has_method ms q) (sym more);
      code = ap (λ n. n + 4 * c.in_ok-method.method.words) kept.code ∙ (sym (code_more c.args.place.now.code c.loop-at.found c.in_ok-method.method) ∙ ap (code_behind c.args.place.now.code) (sym more));
      constructs = c.goes_on-may_construct.ensures
          ∙ ((λ j. kept.constructs j && not (is_identifier ((c.as_bytes.ensures.value ∙ c.as_str.ensures) j))) ∙ (sym (named_more c.loop-at.found c.in_ok-method.method) ∙ ap none_named (sym more)));
      within = c.in_ok-method.ensures.within;
    }

pub returns : goal.returns
returns c = items_done (λ before. method_format (turn_of c.args.place.now c.in_ok-count.count before) c.args.is_open (has_method before)) _ c.in_ok-count.count c.loop-at.at _ _ c.loop-at-test.false c.loop-at.invariant.read
