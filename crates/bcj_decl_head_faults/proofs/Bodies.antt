-- The tests on methods, by their parts.
use Rattle.std.proofs.Common.{◌≡◌, ◌<◌, ◌+◌, ℕ, suc, List, ◌∷◌, map, drop, length, get_or, Bool, true, false, not, cond, ◌&&◌, refl, sym, ◌∙◌, ap, Option, None, Some, add-one}
use Rattle.std.proofs.Math.Seq.{drop-cons}
use Rattle.std.specs.List.{find}
use Rattle.bcj_symbolic_trees.specs.declared.class_tree.MethodKind.{MethodKind}
use Rattle.bcj_symbolic_trees.specs.declared.class_tree.MethodKind.TheVariants as kind
use Rattle.bcj_decl_rules.specs.World.{Method, Declared, World}
use Rattle.bcj_decl_rules.specs.Members.{same_signature, declares_method, is_constructor}
use Rattle.bcj_decl_rules.specs.Faults.{is_abstract, is_static, has_same_result, can_implement, implementation, lacks_body}
use Rattle.bcj_decl_head_faults.specs.Lacks.{may_lack}

abbrev pub abstract_kind : MethodKind → Bool
abstract_kind k = elim k [ kind.Abstract ↦ true | _ ↦ false ]

abbrev pub static_kind : MethodKind → Bool
static_kind k = elim k [ kind.Static ↦ true | _ ↦ false ]

pub abstract_by : (m : Method) (k : MethodKind) → m.kind ≡ k → abstract_kind k ≡ is_abstract m
abstract_by m k e = sym (ap abstract_kind e)

pub static_by : (m : Method) (k : MethodKind) → m.kind ≡ k → static_kind k ≡ is_static m
static_by m k e = sym (ap static_kind e)

abbrev pub fits_by : Bool → Bool → Bool → Bool → Bool
fits_by a b s p = a && (b && (not s && not p))

pub can_implement_by : (m n : Method) (a b s : Bool) → same_signature m n ≡ a → has_same_result m n ≡ b → is_static n ≡ s → fits_by a b s n.is_private ≡ can_implement m n
can_implement_by m n a b s e f g =
    sym
    (ap (λ v. v && (has_same_result m n && (not (is_static n) && not n.is_private))) e
    ∙ (ap (λ v. a && (v && (not (is_static n) && not n.is_private))) f ∙ ap (λ v. a && (b && (not v && not n.is_private))) g))

abbrev pub has_concrete : Option Method → Bool
has_concrete o = elim o [ None ↦ false | Some n ↦ not (is_abstract n) ]

pub lacks_body_by : (w : World) (t : Declared) (m : Method) (a b : Bool) (o : Option Method) → is_abstract m ≡ a → declares_method m t ≡ b → implementation w t m ≡ o
    → (a && (not b && not (has_concrete o))) ≡ lacks_body w t m
lacks_body_by w t m a b o e f g =
    sym
    (ap (λ v. v && (not (declares_method m t) && not (has_concrete (implementation w t m)))) e
    ∙ (ap (λ v. a && (not v && not (has_concrete (implementation w t m)))) f ∙ ap (λ v. a && (not b && not (has_concrete v))) g))

pub not_twice : (b : Bool) → b ≡ not (not b)
not_twice true = refl
not_twice false = refl

-- one element further on
pub find_here : {A B : Type 0} (f : A → B) (p : B → Bool) (xs : List A) (i : ℕ) (x : A) → i < length xs → x ≡ get_or xs i x → p (f x) ≡ true → Some (f x) ≡ find p (map f (drop i xs))
find_here f p xs i x inside is it =
    let parts : drop i xs ≡ x ∷ drop (suc i) xs = drop-cons xs i x inside ∙ ap (λ y. y ∷ drop (suc i) xs) (sym is) in
    sym (ap (λ l. find p (map f l)) parts ∙ ap (λ b. cond b (Some (f x)) (find p (map f (drop (suc i) xs)))) it)

pub find_next : {A B : Type 0} (f : A → B) (p : B → Bool) (xs : List A) (i : ℕ) (x : A) → i < length xs → x ≡ get_or xs i x → p (f x) ≡ false
    → find p (map f (drop (i + 1) xs)) ≡ find p (map f (drop i xs))
find_next f p xs i x inside is it =
    let parts : drop i xs ≡ x ∷ drop (suc i) xs = drop-cons xs i x inside ∙ ap (λ y. y ∷ drop (suc i) xs) (sym is) in
    ap (λ n. find p (map f (drop n xs))) (add-one i) ∙ sym (ap (λ l. find p (map f l)) parts ∙ ap (λ b. cond b (Some (f x)) (find p (map f (drop (suc i) xs)))) it)

pub may_lack_by : (w : World) (t : Declared) (m : Method) (a b : Bool) → m.is_private ≡ a → is_constructor m ≡ b → (not a && (not b && lacks_body w t m)) ≡ may_lack w t m
may_lack_by w t m a b e f = sym (ap (λ v. not v && (not (is_constructor m) && lacks_body w t m)) e ∙ ap (λ v. not a && (not v && lacks_body w t m)) f)
