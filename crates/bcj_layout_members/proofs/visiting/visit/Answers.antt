use Rattle.std.proofs.Common.{◌<◌, sym, subst}
use Rattle.bcj_layout_members.proofs.Ready.{table_set, keeps_set, done_set}
use Rattle.bcj_layout_members.proofs.visiting.visit.Goals as goal

pub returns-in_ok-row-clause-table : goal.returns-in_ok-row-clause-table
returns-in_ok-row-clause-table c =
    table_set c.args.classes.now c.args.rows.now c.type_row.new.places.items c.args.c.0 c.in_ok-row.row c.in_ok-row.ensures.table (c.is_next.ensures.free c.if-is_next.true)
    (subst (λ n. c.args.c.0 < n) (sym c.requires.table.each_has_one) c.requires.there) c.in_ok-row.ensures.row

pub returns-in_ok-row-clause-keeps : goal.returns-in_ok-row-clause-keeps
returns-in_ok-row-clause-keeps c = keeps_set c.args.rows.now c.args.c.0 c.in_ok-row.row (c.is_next.ensures.free c.if-is_next.true)

pub returns-in_ok-row-clause-fills : goal.returns-in_ok-row-clause-fills
returns-in_ok-row-clause-fills c class h loads parts =
    done_set c.args.rows.now c.args.c.0 c.in_ok-row.row (subst (λ n. c.args.c.0 < n) (sym c.requires.table.each_has_one) c.requires.there) c.in_ok-row.ensures.done
