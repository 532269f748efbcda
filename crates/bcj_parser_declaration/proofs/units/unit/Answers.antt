use Rattle.std.proofs.Common.{◌≡◌, ℕ, Vec, Global, ◌+◌, ◌-◌, ◌≤◌, map, sym, ◌∙◌, ap, subst, arith}
use Rattle.std.proofs.lemmas.List.{map-append}
use Rattle.bcj_parser_trees.specs.declared.unit.TypeDecl.{TypeDecl}
use Rattle.bcj_parser_trees.specs.Plain.{type_of}
use Rattle.bcj_parser_rules.specs.function.Steps.{Reads}
use Rattle.bcj_parser_rules.specs.function.Declarations.{levels_above, types_from}
use Rattle.bcj_parser_cursor.proofs.Turns.{reads_passed, nothing_read}
use Rattle.bcj_parser_declaration.proofs.UnitTurns.{unit_is, semicolon_turn, unit_ends, types_full, type_turn, type_refused, max_low}
use Rattle.bcj_parser_declaration.proofs.units.unit.Goals.{in-Semicolon, in_default+else-left-eq0+in_ok-declaration-in_default+in_ok-push-in_default}
use Rattle.bcj_parser_declaration.proofs.units.unit.Goals as goal

pub returns-in-Nothing-clause-reads : goal.returns-in-Nothing-clause-reads
returns-in-Nothing-clause-reads c =
    subst (λ o. Reads (λ p. (map type_of p.0.items, p.1)) o c.unit_end.result c.unit_end.new.cursor)
    (sym (unit_is _ _ _ ∙ unit_ends _ c.args.room c.len-turn-end.result c.loop-turn._turn c.loop-turn.left _ _ _ c.loop-turn-test.true c.loop-turn.invariant.0 (sym c.unit_beginning.ensures ∙ c.in-Nothing.is)))
    c.unit_end.ensures.reads

pub returns-then-left-eq0 : goal.returns-then-left-eq0
returns-then-left-eq0 c = record {
  reads = unit_is _ _ _ ∙ types_full (record {
    turns = c.loop-turn-test.true;
    so_far = c.loop-turn.invariant.0;
    no_semicolon = λ e. c.in_default.not-Semicolon (c.unit_beginning.ensures ∙ e);
    something = λ e. c.in_default.not-Nothing (c.unit_beginning.ensures ∙ e);
  }) c.if-left-eq0.true;
  low = tt;
}

pub returns-in_err-declaration-in_default : goal.returns-in_err-declaration-in_default
returns-in_err-declaration-in_default c = record {
  reads = reads_passed {A = TypeDecl × ℕ} {C = Vec TypeDecl Global × ℕ} (λ p. (type_of p.0, p.1)) (λ p. (map type_of p.0.items, p.1)) _ _ _ _ _ c.from_residual.ensures.1 c.in_err-declaration-in_default.ensures.reads
      (λ x o. unit_is _ _ _ ∙ type_refused (c.loop-turn.left - 1) x _ (record {
        turns = c.loop-turn-test.true;
        so_far = c.loop-turn.invariant.0;
        no_semicolon = λ e. c.in_default.not-Semicolon (c.unit_beginning.ensures ∙ e);
        something = λ e. c.in_default.not-Nothing (c.unit_beginning.ensures ∙ e);
      }) (omega arith) o);
  low = nothing_read {C = Vec TypeDecl Global × ℕ} (λ y. y ≡ c.in_err-declaration-in_default.field-0.0) (λ p. p.1 ≤ c.args.room + levels_above) c.from_residual.result c.from_residual.ensures.1;
}

pub loop-turn-preserved : goal.loop-turn-preserved
loop-turn-preserved c = let m = c.match-unit_beginning in elim m.branch [
  | in-Semicolon w ↦ (
    semicolon_turn _ c.args.room c.len-turn-end.result c.loop-turn._turn c.loop-turn.left _ _ _ m.cursor c.loop-turn-test.true c.loop-turn.invariant.0 (sym c.unit_beginning.ensures ∙ w.in-Semicolon.is) (w.cursor-is ∙ w.advance.ensures)
        ∙ (λ j. types_from c.args.room (c.len-turn-end.result - (c.loop-turn._turn + 1)) (sym w.left-is j) (map type_of (sym w.found-is j).items) (sym w.high-is j) m.cursor),
    omega (arith, w.high-is, c.loop-turn.invariant.1),
  )
  | in_default+else-left-eq0+in_ok-declaration-in_default+in_ok-push-in_default w ↦ (
    type_turn m.left (map type_of m.found.items) m.high _ _ _ (record {
      turns = c.loop-turn-test.true;
      so_far = c.loop-turn.invariant.0;
      no_semicolon = λ e. w.in_default.not-Semicolon (c.unit_beginning.ensures ∙ e);
      something = λ e. w.in_default.not-Nothing (c.unit_beginning.ensures ∙ e);
    }) (omega (arith, w.left-is, w.if-left-eq0.false)) w.in_ok-declaration-in_default.ensures.reads (ap (λ v. map type_of v.items) w.found-is ∙ ap (map type_of) w.in_ok-push-in_default.ensures.items ∙ map-append _ _ _)
        (w.high-is ∙ w.max-high.ensures)
        ∙ ap (types_from c.args.room (c.len-turn-end.result - (c.loop-turn._turn + 1)) m.left (map type_of m.found.items) m.high) (sym w.cursor-is),
    max_low _ _ _ _ (w.high-is ∙ w.max-high.ensures) c.loop-turn.invariant.1 w.in_ok-declaration-in_default.ensures.low,
  )
]
