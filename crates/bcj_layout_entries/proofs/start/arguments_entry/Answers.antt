use Rattle.std.proofs.Common.{◌≡◌, ◌∙◌, ap, refl, subst, Bool, true, false, None, Option, is_none, IfOk, if◌then◌else◌}
use Rattle.std.proofs.lemmas.Result.{IfOk-weaker}
use Rattle.bcj_symbolic_trees.specs.Types.{PlainTy, ty_of}
use Rattle.bcj_hier_rules.specs.Shapes.{Named, type_of_text}
use Rattle.bcj_hier_rules.specs.Resolution.{type_error}
use Rattle.bcj_layout_rules.specs.Rows.{mixture_of, arguments_type}
use Rattle.bcj_layout_entries.specs.Listed.{IsEntry, type_word, type_class}
use Rattle.bcj_layout_entries.proofs.start.arguments_entry.Goals as goal

-- an array type has no class
none-either-way : (b : Bool) → (let none : Option Named = None in (if b then none else none) ≡ none)
none-either-way true = refl
none-either-way false = refl

pub returns : goal.returns
returns c =
    let cs = c.args.parts.now.resolver.now in
    let main = c.args.parts.now.main.now in
    let P : PlainTy → Type 0 = λ t. IfOk c.type_entry.result (IsEntry cs (type_word cs main t false) (type_class cs t false)) in
    let is : ty_of c.in_ok-ty.ty ≡ arguments_type = c.in_ok-ty.ensures ∙ ap type_of_text c.in_ok-text.ensures in
    IfOk-weaker c.type_entry.result _ _
    (λ e h. record { is_word = h.is_word; is_class = h.is_class ∙ none-either-way (is_none (type_error (mixture_of cs) arguments_type false)); among = h.among }) (subst P is c.type_entry.ensures)
