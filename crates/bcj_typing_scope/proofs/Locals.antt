-- A local is found from the innermost out.
use Rattle.std.proofs.Common.{◌≡◌, ◌<◌, ◌+◌, List, [], ◌∷◌, map, take, length, cond, Option, Some, sym, ◌∙◌, ap, ℕ, get_or}
use Rattle.std.proofs.lemmas.List.{take_more, reverse-append}
use Rattle.std.specs.Str.{bytes_eq}
use Rattle.bcj_decl_rules.specs.World.{Named}
use Rattle.bcj_typing_node.specs.declared.form.Variable.{Variable}
use Rattle.bcj_typing_node.specs.Forms.{local_of, locals_of}
use Rattle.bcj_typing_rules.specs.Context.{Local, local_named}

-- one local more, which is the innermost
pub innermost : (vs : List Variable) (i : ℕ) (d : Variable) → i < length vs → locals_of (take (i + 1) vs) ≡ local_of (get_or vs i d) ∷ locals_of (take i vs)
innermost vs i d inside = ap locals_of (take_more vs i d inside) ∙ ap (map local_of) (reverse-append (take i vs) (get_or vs i d ∷ []))

-- what is found with it
pub nearer : (vs : List Variable) (i : ℕ) (v : Variable) (name : Named) (found : Option Local) → i < length vs → v ≡ get_or vs i v → found ≡ local_named (locals_of (take i vs)) name
    → cond (bytes_eq v.name name) (Some (local_of v)) found ≡ local_named (locals_of (take (i + 1) vs)) name
nearer vs i v name found inside it before =
    ap (λ f. cond (bytes_eq v.name name) (Some (local_of v)) f) before
    ∙ (ap (λ (u : Variable). cond (bytes_eq u.name name) (Some (local_of u)) (local_named (locals_of (take i vs)) name)) it ∙ ap (λ ls. local_named ls name) (sym (innermost vs i v inside)))
