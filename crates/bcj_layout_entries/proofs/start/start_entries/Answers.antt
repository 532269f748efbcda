use Rattle.bcj_layout_entries.proofs.Starting.{three-entries}
use Rattle.bcj_layout_entries.proofs.start.start_entries.Goals as goal

pub returns : goal.returns
returns c =
    three-entries c.args.parts.now.resolver.now c.args.parts.now.main.now c.new-entries.result c.push.new.self c.push-2.new.self c.push-3.new.self c.in_ok-class_entry.field-0 c.in_ok-arguments_entry.field-0
    c.main_entry.result
    c.new-entries.ensures
    c.in_ok-push.ensures.ok
    c.in_ok-push-2.ensures.ok
    c.in_ok-push-3.ensures.ok
    c.in_ok-class_entry.ensures
    c.in_ok-arguments_entry.ensures
    c.main_entry.ensures
