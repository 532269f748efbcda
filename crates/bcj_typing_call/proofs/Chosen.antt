-- A call of the method that is chosen, by what that method is.
use Rattle.std.proofs.Common.{◌≡◌, ℕ, Bool, List, [], None, Result, sym, subst}
use Rattle.bcj_decl_rules.specs.World.{Named, Method}
use Rattle.bcj_decl_rules.specs.Methods.{Choice, one}
use Rattle.bcj_decl_rules.specs.Faults.{is_static, is_abstract}
use Rattle.bcj_typing_rules.specs.Expressions.{Typing, choice_needs, choice_typing, type_call_needs, type_call}
use Rattle.bcj_typing_node.specs.declared.miss.Miss.{Miss}
use Rattle.bcj_typing_node.specs.declared.typing.Typing as node
use Rattle.bcj_typing_node.specs.Outcomes.{Judges}
use Rattle.bcj_typing_call.specs.Calls.{own_needs, own_needs_by, own_typing, own_typing_by, type_needs_by, behind_typing, behind_typing_by, super_needs, super_needs_by, super_typing, super_typing_by}

-- a call by a simple name
pub own_chosen : (at : ℕ) (h : Bool) (class : Named) (ts : List Typing) (x : Choice) (m : Method) (s : Bool) (r : Result node.Typing Miss) → x ≡ one m → s ≡ is_static m
    → Judges at (own_needs_by s h) None (own_typing_by s class ts m) r → Judges at (choice_needs (own_needs h) x) None (choice_typing (own_typing class ts) x) r
own_chosen at h class ts x m s r e f j =
    let P : Choice → Type 0 = λ y. Judges at (choice_needs (own_needs h) y) None (choice_typing (own_typing class ts) y) r in
    let Q : Bool → Type 0 = λ b. Judges at (own_needs_by b h) None (own_typing_by b class ts m) r in
    subst P (sym e) (subst Q f j)

-- a call behind a type's name
pub type_chosen : (at : ℕ) (class : Named) (ts : List Typing) (x : Choice) (m : Method) (s : Bool) (r : Result node.Typing Miss) → x ≡ one m → s ≡ is_static m
    → Judges at (type_needs_by s) None (type_call class ts m) r → Judges at (choice_needs type_call_needs x) None (choice_typing (type_call class ts) x) r
type_chosen at class ts x m s r e f j =
    let P : Choice → Type 0 = λ y. Judges at (choice_needs type_call_needs y) None (choice_typing (type_call class ts) y) r in
    let Q : Bool → Type 0 = λ b. Judges at (type_needs_by b) None (type_call class ts m) r in
    subst P (sym e) (subst Q f j)

-- a call behind an expression, which needs nothing of its method
pub behind_chosen : (at : ℕ) (i : Bool) (t : Typing) (class : Named) (ts : List Typing) (x : Choice) (m : Method) (s : Bool) (r : Result node.Typing Miss) → x ≡ one m → s ≡ is_static m
    → Judges 0 [] None (behind_typing_by s i t class ts m) r → Judges at (choice_needs (λ n. []) x) None (choice_typing (behind_typing i t class ts) x) r
behind_chosen at i t class ts x m s r e f j =
    let P : Choice → Type 0 = λ y. Judges at (choice_needs (λ n. []) y) None (choice_typing (behind_typing i t class ts) y) r in
    let Q : Bool → Type 0 = λ b. Judges 0 [] None (behind_typing_by b i t class ts m) r in
    subst P (sym e) (subst Q f j)

-- a call behind `super`
pub super_chosen : (at : ℕ) (h : Bool) (own class : Named) (ts : List Typing) (x : Choice) (m : Method) (s a : Bool) (r : Result node.Typing Miss) → x ≡ one m → s ≡ is_static m → a ≡ is_abstract m
    → Judges at (super_needs_by a h) None (super_typing_by s own class ts m) r
    → Judges at (choice_needs (super_needs h) x) None (choice_typing (super_typing own class ts) x) r
super_chosen at h own class ts x m s a r e f g j =
    let P : Choice → Type 0 = λ y. Judges at (choice_needs (super_needs h) y) None (choice_typing (super_typing own class ts) y) r in
    let Q : Bool → Type 0 = λ b. Judges at (super_needs_by a h) None (super_typing_by b own class ts m) r in
    let R : Bool → Type 0 = λ b. Judges at (super_needs_by b h) None (super_typing own class ts m) r in
    subst P (sym e) (subst R g (subst Q f j))
