use Rattle.std.proofs.Common.{sym, subst, Option, IfSome}
use Rattle.bcj_hier_rules.specs.declared.class_id.ClassId.{ClassId}
use Rattle.bcj_hier_rules.specs.Heads.{IsIn}
use Rattle.bcj_layout_resolution.specs.Places.{heads_in}
use Rattle.bcj_layout.specs.EntryPlaces.{AreEntriesIn}
use Rattle.bcj_layout.proofs.EntryLemmas.{each-entries-in}
use Rattle.bcj_layout.proofs.layout.Layout.region_entries.Goals as goal

pub returns-in-Some : goal.returns-in-Some
returns-in-Some c =
    let cs = c.args.self.now.classes in
    let main = c.args.self.now.main in
    let es = c.entries.result.now in
    let inside : IsIn (heads_in cs) c.in-Some.c = subst (λ (o : Option ClassId). IfSome o (IsIn (heads_in cs))) c.in-Some.is c.requires in
    subst (λ (o : Option ClassId). AreEntriesIn cs main o es) (sym c.in-Some.is) (each-entries-in cs main c.in-Some.c es inside c.entries.ensures)
