use Rattle.std.proofs.Common.{◌*◌, length, ap, ◌∙◌, arith}
use Rattle.std.proofs.lemmas.List.{length-append}
use Rattle.bcj_elf.specs.Plain.{plain}
use Rattle.bcj_tables_rules.specs.declared.records.ClassRecord.{ClassRecord}
use Rattle.bcj_tables_rules.specs.Records.{class_format}
use Rattle.bcj_tables.specs.Places.{place_of, class_name}
use Rattle.bcj_tables.proofs.Turns.{items_turn, items_refused, items_done, reads_passed}
use Rattle.bcj_tables.proofs.Wholes.{class_formats}
use Rattle.bcj_tables.proofs.reading.read_classes.Goals as goal

pub returns-in_err-read_numbered : goal.returns-in_err-read_numbered
returns-in_err-read_numbered c =
    let kept = c.loop-class.invariant in
    reads_passed (λ x. x) (λ xs. xs) _ _ _ _ _ c.from_residual-in_err-read_numbered.ensures.1 c.in_err-read_numbered.ensures
    (λ x o. items_refused (λ before. class_format c.args.version (place_of (plain c.args.o.now) (length before)) (class_name (plain c.args.o.now) (2 * length before))) _ c.in_ok-count.count c.loop-class.class _ _ _ x c.loop-class-test.true kept.read
    (class_formats c.args.version (place_of (plain c.args.o.now)) (λ n. class_name (plain c.args.o.now) (2 * n)) _ _ kept.size _ ∙ o))

pub loop-class-preserved : goal.loop-class-preserved
loop-class-preserved c =
    let kept = c.loop-class.invariant in
    let more = c.in_ok-push.ensures.ok in record {
      read = items_turn (λ before. class_format c.args.version (place_of (plain c.args.o.now) (length before)) (class_name (plain c.args.o.now) (2 * length before))) _ c.in_ok-count.count c.loop-class.class _ _ _ _ _ c.loop-class-test.true kept.read
          (class_formats c.args.version (place_of (plain c.args.o.now)) (λ n. class_name (plain c.args.o.now) (2 * n)) _ _ kept.size _ ∙ c.in_ok-read_numbered.ensures) more;
      size = omega (arith, ap length more, length-append {A = ClassRecord});
    }

pub returns : goal.returns
returns c = items_done (λ before. class_format c.args.version (place_of (plain c.args.o.now) (length before)) (class_name (plain c.args.o.now) (2 * length before))) _ c.in_ok-count.count c.loop-class.class _ _ c.loop-class-test.false c.loop-class.invariant.read
