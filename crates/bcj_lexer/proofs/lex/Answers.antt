use Rattle.std.proofs.Common.{◌≡◌, ◌<◌, ◌≤◌, length, Some, None, Result, Ok, Err, true, sym, ◌∙◌, ap, arith, eqb-true}
use Rattle.std.proofs.lemmas.Bool.{eqb-false}
use Rattle.std.specs.Result.{OnOk, is_ok}
use Rattle.bcj_lexer.specs.function.Scan.{Found, scan}
use Rattle.bcj_lexer.specs.declared.piece.PieceKind.TheVariants as piece
use Rattle.bcj_lexer.proofs.Cutting.{reached_start, reached_other, reached_token, reached_count, reached_done, reached_bad, bad_none, scan_shrinks, tokens_one, tokens_order, tokens_within}
use Rattle.bcj_lexer.proofs.lex.Goals as goal

on_ok : {T E : Type 0} (r : Result T E) (P : Type 0) → is_ok r ≡ true → OnOk r P → P
on_ok (Ok x) P h p = p
on_ok (Err e) P h p = absurd (cc)

pub loop-rest-init : goal.loop-rest-init
loop-rest-init c = rw c.new-tokens.ensures (reached_start c.args.text.now)

pub overflow_sub-start : goal.overflow_sub-start
overflow_sub-start c = omega (arith, reached_count _ _ _ c.loop-rest.invariant)

pub returns-in_default-clause-stops : goal.returns-in_default-clause-stops
returns-in_default-clause-stops c =
    let e : scan c.loop-rest.rest.now ≡ None = sym c.in_default.ensures in
    let n : 0 < length c.loop-rest.rest.now = omega (arith, eqb-false _ _ (sym c.loop-rest-test.ensures)) in
    (omega arith, reached_bad _ _ _ c.loop-rest.invariant n e)

pub returns-in_default-clause-complete : goal.returns-in_default-clause-complete
returns-in_default-clause-complete c = λ ts t h.
    let e : scan c.loop-rest.rest.now ≡ None = sym c.in_default.ensures in
    let n : 0 < length c.loop-rest.rest.now = omega (arith, eqb-false _ _ (sym c.loop-rest-test.ensures)) in
    absurd (bad_none _ _ ts (reached_bad _ _ _ c.loop-rest.invariant n e) t)

pub overflow_sub-end : goal.overflow_sub-end
overflow_sub-end c = omega (arith, reached_count _ _ _ c.loop-rest.invariant, scan_shrinks _ _ _ (sym c.in-Some.ensures))

pub push-requires : goal.push-requires
push-requires c = omega (arith, reached_count _ _ _ c.loop-rest.invariant)

pub loop-rest-smaller : goal.loop-rest-smaller
loop-rest-smaller c = scan_shrinks _ _ _ (sym c.in-Some.ensures)

pub loop-rest-smaller-in_ok-map_err : goal.loop-rest-smaller-in_ok-map_err
loop-rest-smaller-in_ok-map_err c = scan_shrinks _ _ _ (sym c.in-Some.ensures)

pub loop-rest-preserved : goal.loop-rest-preserved
loop-rest-preserved c = reached_other _ _ _ _ _ c.loop-rest.invariant (sym c.in-Some.ensures) c.in_default-kind.not-Token

pub loop-rest-preserved-in_ok-map_err : goal.loop-rest-preserved-in_ok-map_err
loop-rest-preserved-in_ok-map_err c =
    let g = on_ok c.push.result _ (sym c.in_ok-map_err.ensures.variant) c.push.ensures.appended in
    let k = c.in-Token.is in
    let e : ◌≡◌ {A = Found} (scan c.loop-rest.rest.now) (Some (piece.Token c.in-Token.kind, c.in-Some.behind.now)) = sym c.in-Some.ensures ∙ ap (λ j. Some (j, c.in-Some.behind.now)) k in
    rw g (reached_token _ _ _ _ _ c.loop-rest.invariant e)

pub returns-clause-only : goal.returns-clause-only
returns-clause-only c = λ others t.
    let n : length c.loop-rest.rest.now ≤ 0 = omega (arith, eqb-true _ _ (sym c.loop-rest-test.ensures)) in
    tokens_one _ _ others (reached_done _ _ _ c.loop-rest.invariant n) t

pub returns-clause-order : goal.returns-clause-order
returns-clause-order c =
    let n : length c.loop-rest.rest.now ≤ 0 = omega (arith, eqb-true _ _ (sym c.loop-rest-test.ensures)) in
    tokens_order _ _ (reached_done _ _ _ c.loop-rest.invariant n)

pub returns-clause-within : goal.returns-clause-within
returns-clause-within c =
    let n : length c.loop-rest.rest.now ≤ 0 = omega (arith, eqb-true _ _ (sym c.loop-rest-test.ensures)) in
    tokens_within _ _ (reached_done _ _ _ c.loop-rest.invariant n)
