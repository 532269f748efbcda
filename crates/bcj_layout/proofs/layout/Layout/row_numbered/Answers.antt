use Rattle.std.proofs.Common.{◌≡◌, ◌<◌, ◌≤◌, ◌∙◌, ◌+◌, ◌-◌, length, get_or, ap, sym, arith}
use Rattle.std.proofs.lemmas.List.{length-map}
use Rattle.bcj_hier_rules.specs.Heads.{name_of}
use Rattle.bcj_layout_rules.specs.Rows.{Classes, loaded, array_types}
use Rattle.bcj_layout_resolution.specs.Places.{heads_in}
use Rattle.bcj_layout.specs.declared.row_id.RowId.TheVariants as row
use Rattle.bcj_layout.proofs.RowLemmas.{Known, known, numbered-class, rows-count, same-row}
use Rattle.bcj_layout.proofs.layout.Layout.row_numbered.Goals as goal

pub returns-then-number-loaded-clause-number : goal.returns-then-number-loaded-clause-number
returns-then-number-loaded-clause-number c =
    let k : Known c.args.self.now.classes c.as_slice-loaded.result.now =
    known _ c.args.self.now c.self.inside.places c.hier.result.now c.as_slice-loaded.result.now c.self.view_is c.self.invariant.places c.len-facts.ensures.distinct c.hier.ensures c.as_slice-loaded.ensures in
    numbered-class c.args.self.now.classes c.as_slice-loaded.result.now c.args.number (record { 0 = 0 }) k.distinct k.names c.if-number-loaded.true

pub returns-then-number-loaded-clause-one : goal.returns-then-number-loaded-clause-one
returns-then-number-loaded-clause-one c = λ r is e.
    let k : Known c.args.self.now.classes c.as_slice-loaded.result.now =
    known _ c.args.self.now c.self.inside.places c.hier.result.now c.as_slice-loaded.result.now c.self.view_is c.self.invariant.places c.len-facts.ensures.distinct c.hier.ensures c.as_slice-loaded.ensures in
    same-row c.args.self.now.classes (row.Class (get_or c.as_slice-loaded.result.now c.args.number (record { 0 = 0 }))) r k.distinct
    (k.loading c.args.number (record { 0 = 0 }) c.if-number-loaded.true) is
    (numbered-class c.args.self.now.classes c.as_slice-loaded.result.now c.args.number (record { 0 = 0 }) k.distinct k.names c.if-number-loaded.true ∙ sym e)

pub returns-else-number-loaded-clause-one : goal.returns-else-number-loaded-clause-one
returns-else-number-loaded-clause-one c = λ r is e.
    let cs : Classes = c.args.self.now.classes in
    let k : Known cs c.as_slice-loaded.result.now =
    known _ c.args.self.now c.self.inside.places c.hier.result.now c.as_slice-loaded.result.now c.self.view_is c.self.invariant.places c.len-facts.ensures.distinct c.hier.ensures c.as_slice-loaded.ensures in
    let count : length c.as_slice-loaded.result.now ≡ length (loaded cs) = sym (length-map c.as_slice-loaded.result.now (name_of (heads_in cs))) ∙ ap length k.names in
    let behind : length c.as_slice-loaded.result.now ≤ c.args.number = c.if-number-loaded.false in
    let within : c.args.number - length c.as_slice-loaded.result.now < length (array_types cs) = omega (arith, count, behind, c.requires.within, rows-count cs) in
    let number : length (loaded cs) + (c.args.number - length c.as_slice-loaded.result.now) ≡ c.args.number = omega (arith, count, behind) in
    same-row cs (row.Array (c.args.number - length c.as_slice-loaded.result.now)) r k.distinct within is (number ∙ sym e)
