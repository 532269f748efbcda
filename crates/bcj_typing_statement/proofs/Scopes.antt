-- What stays of a scope, step by step.
use Rattle.std.proofs.Common.{◌≡◌, refl, ap, sym, ◌∙◌, subst, ℕ, ◌≤◌, true, List, [], ◌∷◌, ◌++◌, map, length, take, Result, Ok, Err, OnOk, arith}
use Rattle.std.proofs.lemmas.List.{take_all, take-take, take-append-le, length-take, length-map, map-append, reverse-append}
use Rattle.bcj_symbolic_trees.specs.declared.type_tree.Ty.{Ty}
use Rattle.bcj_symbolic_trees.specs.Types.{ty_of, types_of}
use Rattle.bcj_decl_rules.specs.World.{Named}
use Rattle.bcj_typing_rules.specs.Context.{Local, Context, with_local, with_locals}
use Rattle.bcj_typing_rules.specs.Statements.{next_local}
use Rattle.bcj_typing_rules.specs.function.Expressions.{Answers}
use Rattle.bcj_typing_node.specs.declared.form.Variable.{Variable}
use Rattle.bcj_typing_node.specs.Forms.{local_of, locals_of}
use Rattle.bcj_typing_scope.specs.declared.scope.Scope.{Scope}
use Rattle.bcj_typing_scope.specs.Scopes.{answers_in, context_of}
use Rattle.bcj_typing_statement.specs.Scoped.{Keeps, Stays}

-- ---- scopes that stay

-- a scope with other types alone
pub stays_by : (a b : Scope) (ts : List Ty) → b ≡ record a { types = ts } → Stays a b
stays_by a b ts h = record { rest = h ∙ ap (λ (us : List Ty). record a { types = us }) (sym (ap (λ (s : Scope). s.types) h)) }

-- a scope stays what it is
pub stays_itself : (a : Scope) → Stays a a
stays_itself a = record { rest = refl }

-- two steps in which a scope stays
pub stays_both : (a b c : Scope) → Stays a b → Stays b c → Stays a c
stays_both a b c h k = record { rest = k.rest ∙ ap (λ (s : Scope). record s { types = c.types }) h.rest }

-- behind the body of a loop
pub stays_turn : (a b : Scope) → Stays (record a { in_loop = true }) b → Stays a (record b { in_loop = a.in_loop })
stays_turn a b h = stays_by a (record b { in_loop = a.in_loop }) b.types (ap (λ (s : Scope). record s { in_loop = a.in_loop }) h.rest)

-- where the inner locals have left
pub stays_left : (a b c : Scope) (n : ℕ) → Keeps a b → n ≡ length a.locals → c ≡ record b { locals = take n b.locals } → Stays a c
stays_left a b c n h e k =
    stays_by a c b.types
    (k
    ∙ ap (λ (m : ℕ). record b { locals = take m b.locals }) e
    ∙ ap (λ (ls : List Variable). record b { locals = ls }) h.inner
    ∙ ap (λ (s : Scope). record s { locals = a.locals }) h.rest)

-- it has the same context
pub context_stays : (a b : Scope) → Stays a b → context_of b ≡ context_of a
context_stays a b h = ap context_of h.rest

-- and the same answers
pub answers_stay : (a b : Scope) → Stays a b → answers_in b ≡ answers_in a
answers_stay a b h = ap answers_in h.rest

-- ---- scopes that are kept

-- a scope keeps what it has
pub keeps_itself : (a : Scope) → Keeps a a
keeps_itself a = record { rest = refl; inner = take_all (length a.locals) a.locals (omega arith) }

-- one that stays is kept
pub keeps_stays : (a b : Scope) → Stays a b → Keeps a b
keeps_stays a b h =
    let same : b.locals ≡ a.locals = ap (λ (s : Scope). s.locals) h.rest in
    record {
      rest = h.rest ∙ ap (λ (ls : List Variable). record a { locals = ls; types = b.types }) (sym same);
      inner = ap (take (length a.locals)) same ∙ take_all (length a.locals) a.locals (omega arith);
    }

-- a front of a front
inner_both : (xs ys zs : List Variable) → take (length xs) ys ≡ xs → take (length ys) zs ≡ ys → take (length xs) zs ≡ xs
inner_both xs ys zs h k =
    let short : length xs ≤ length ys = omega (arith, length-take (length xs) ys, ap length h) in
    sym (take-take (length xs) (length ys) zs short) ∙ ap (take (length xs)) k ∙ h

-- two steps in which a scope is kept
pub keeps_both : (a b c : Scope) → Keeps a b → Keeps b c → Keeps a c
keeps_both a b c h k =
    record {
      rest = k.rest ∙ ap (λ (s : Scope). record s { locals = c.locals; types = c.types }) h.rest;
      inner = inner_both a.locals b.locals c.locals h.inner k.inner;
    }

-- the context differs by its locals alone
pub context_kept : (a b : Scope) → Keeps a b → context_of b ≡ with_locals (context_of a) (locals_of b.locals)
context_kept a b h = ap context_of h.rest

-- the answers are the same
pub answers_kept : (a b : Scope) → Keeps a b → answers_in b ≡ answers_in a
answers_kept a b h = ap answers_in h.rest

-- ---- a local that enters

-- the last local is the innermost
locals_of-push : (vs : List Variable) (v : Variable) → locals_of (vs ++ v ∷ []) ≡ local_of v ∷ locals_of vs
locals_of-push vs v = ap (map local_of) (reverse-append vs (v ∷ []))

-- the context behind it
pub context_entered : (a b : Scope) (name : Named) (ty : Ty) (n : ℕ) → n ≡ length a.types → b ≡ record a { locals = a.locals ++ (record { name = name; ty = ty; number = n }) ∷ [] }
    → context_of b ≡ with_local (context_of a) (next_local (types_of a.types) name (ty_of ty))
context_entered a b name ty n e h =
    ap context_of h
    ∙ ap (λ (ls : List Local). with_locals (context_of a) ls) (locals_of-push a.locals (record { name = name; ty = ty; number = n }))
    ∙ ap (λ (m : ℕ). with_local (context_of a) (record { name = name; ty = ty_of ty; number = m })) (e ∙ sym (length-map a.types ty_of))

-- what is said of a scope with other types, or with more locals, by the one that it began as
pub at_start : (P : Answers → Context → Type 0) (a b : Scope) → Stays a b → P (answers_in b) (context_of b) → P (answers_in a) (context_of a)
at_start P a b h p =
    subst (λ (x : Answers). P x (context_of a)) (answers_stay a b h) (subst (λ (c : Context). P (answers_in b) c) (context_stays a b h) p)

-- the same where locals may have come
pub at_kept : (P : Answers → Context → Type 0) (a b : Scope) → Keeps a b → P (answers_in b) (context_of b) → P (answers_in a) (with_locals (context_of a) (locals_of b.locals))
at_kept P a b h p =
    subst (λ (x : Answers). P x (with_locals (context_of a) (locals_of b.locals))) (answers_kept a b h)
    (subst (λ (c : Context). P (answers_in b) c) (context_kept a b h) p)

-- a scope with a local and a type more
pub keeps_entered : (a b c : Scope) (v : Variable) (t : Ty) → b ≡ record a { locals = a.locals ++ v ∷ [] } → c ≡ record b { types = b.types ++ t ∷ [] } → Keeps a c
keeps_entered a b c v t h k =
    let whole : c ≡ record a { locals = a.locals ++ v ∷ []; types = a.types ++ t ∷ [] } = k ∙ ap (λ (s : Scope). record s { types = s.types ++ t ∷ [] }) h in
    let locals : c.locals ≡ a.locals ++ v ∷ [] = ap (λ (s : Scope). s.locals) whole in
    let types : c.types ≡ a.types ++ t ∷ [] = ap (λ (s : Scope). s.types) whole in
    record {
      rest = whole ∙ (λ i. record a { locals = sym locals i; types = sym types i });
      inner =
          ap (take (length a.locals)) locals
          ∙ take-append-le (length a.locals) a.locals (v ∷ []) (omega arith)
          ∙ take_all (length a.locals) a.locals (omega arith);
    }

-- the types of all locals, with one more
pub types_entered : (a b c : Scope) (v : Variable) (t : Ty) → b ≡ record a { locals = a.locals ++ v ∷ [] } → c ≡ record b { types = b.types ++ t ∷ [] }
    → types_of c.types ≡ types_of a.types ++ ty_of t ∷ []
types_entered a b c v t h k =
    ap (λ (s : Scope). types_of s.types) k ∙ ap (λ (s : Scope). types_of (s.types ++ t ∷ [])) h ∙ map-append ty_of a.types (t ∷ [])

-- what holds, where a call is right
pub ok_then : {T E P : Type 0} (r : Result T E) → P → OnOk r P
ok_then (Ok x) p = p
ok_then (Err e) p = tt
