-- The slot of a method that was found, by the record of the method.
use Rattle.std.proofs.Common.{◌≡◌, ◌∙◌, sym, ap, ℕ, Option, Some, None, true, false, cond}
use Rattle.bcj_tables_rules.specs.declared.records.MethodRecord.{MethodRecord}
use Rattle.bcj_hier_rules.specs.declared.class_id.ClassId.{ClassId}
use Rattle.bcj_hier_rules.specs.Shapes.{Named, Reference, method_of_record}
use Rattle.bcj_hier_rules.specs.Heads.{name_of}
use Rattle.bcj_hier_rules.specs.Resolution.{FoundMethod}
use Rattle.bcj_layout_rules.specs.Members.{slot_number}
use Rattle.bcj_layout_rules.specs.Rows.{Classes, mixture_of}
use Rattle.bcj_layout_rules.specs.Entries.{slot_of}
use Rattle.bcj_layout_resolution.specs.Places.{heads_in}

module _ (cs ms : Classes) (main : Named) (m : MethodRecord) (c : ClassId) (n : Option ℕ) (same : ms ≡ cs) (x : FoundMethod) (r : Reference) where
  -- a private method's slot is its class's own
  pub private-slot : m.is_private ≡ true → n ≡ slot_number (mixture_of ms) (name_of (heads_in ms) c) (record { name = m.name; desc = m.desc; owner = Some (name_of (heads_in ms) c) })
      → x.method ≡ method_of_record m → x.class ≡ name_of (heads_in cs) c → n ≡ slot_of cs main r x
  private-slot it h is_it named =
      let class : Named = name_of (heads_in cs) c in
      let own : Option ℕ = slot_number (mixture_of cs) class (record { name = m.name; desc = m.desc; owner = Some class }) in
      let other : Option ℕ = slot_number (mixture_of cs) r.class (record { name = m.name; desc = m.desc; owner = None }) in
      h
      ∙ (ap (λ s. slot_number (mixture_of s) (name_of (heads_in s) c) (record { name = m.name; desc = m.desc; owner = Some (name_of (heads_in s) c) })) same
      ∙ (sym (ap (λ b. cond b own other) it) ∙ sym (λ i. slot_of cs main r (record { class = named i; method = is_it i }))))

  -- any other has that of its name in the rows of the class that is named
  pub open-slot : m.is_private ≡ false → n ≡ slot_number (mixture_of ms) (name_of (heads_in ms) c) (record { name = m.name; desc = m.desc; owner = None })
      → x.method ≡ method_of_record m → r.class ≡ name_of (heads_in cs) c → n ≡ slot_of cs main r x
  open-slot it h is_it named =
      let own : Option ℕ = slot_number (mixture_of cs) x.class (record { name = m.name; desc = m.desc; owner = Some x.class }) in
      let other : Option ℕ = slot_number (mixture_of cs) r.class (record { name = m.name; desc = m.desc; owner = None }) in
      h
      ∙ (ap (λ s. slot_number (mixture_of s) (name_of (heads_in s) c) (record { name = m.name; desc = m.desc; owner = None })) same
      ∙ (ap (λ class. slot_number (mixture_of cs) class (record { name = m.name; desc = m.desc; owner = None })) (sym named)
      ∙ (sym (ap (λ b. cond b own other) it) ∙ sym (λ i. slot_of cs main r (record { class = x.class; method = is_it i })))))
