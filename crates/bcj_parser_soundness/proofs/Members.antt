-- What is read as a member of a class or an interface is one.
use Rattle.std.proofs.Common.{◌≡◌, ℕ, zero, suc, ◌+◌, ◌≤◌, max, Bool, true, false, not, ◌&&◌, List, [], ◌∷◌, ◌++◌, length, refl, sym, ap, subst, Some, None, Option, Err, if◌then◌else◌, arith}
use Rattle.bcj_parser_trees.specs.declared.names.Base.TheVariants as base
use Rattle.bcj_parser_trees.specs.declared.names.TypeName.{TypeName}
use Rattle.bcj_parser_trees.specs.declared.names.Mods.{Mods}
use Rattle.bcj_parser_trees.specs.declared.names.Param.{Param}
use Rattle.bcj_parser_trees.specs.Trees as tree
use Rattle.bcj_parser_trees.specs.Trees.{PlainExprs, PlainStmt, PlainStmts, PlainBody, PlainFirst, PlainMember, stmts_from}
use Rattle.bcj_parser_rules.specs.declared.kind.Mark.{Mark}
use Rattle.bcj_parser_rules.specs.declared.kind.Mark.TheVariants as mark
use Rattle.bcj_parser_rules.specs.declared.kind.TypeBeginning.{TypeBeginning}
use Rattle.bcj_parser_rules.specs.declared.kind.TypeBeginning.TheVariants as typed
use Rattle.bcj_parser_rules.specs.declared.terminal.Terminal.{Terminal}
use Rattle.bcj_parser_rules.specs.declared.terminal.Terminal.TheVariants as terminal
use Rattle.bcj_parser_rules.specs.declared.stop.Site.{Site}
use Rattle.bcj_parser_rules.specs.declared.stop.Site.TheVariants as site
use Rattle.bcj_parser_rules.specs.declared.stop.Stop.TheVariants.{Refused}
use Rattle.bcj_parser_rules.specs.Lexemes.{Lexeme, Lexemes}
use Rattle.bcj_parser_rules.specs.Grammar as g
use Rattle.bcj_parser_rules.specs.Lexemes.{first_at}
use Rattle.bcj_parser_rules.specs.Grammar.{Arguments, TypeRead, type_read, Variable, Variables, Statements, Block, no_mods, with_modifier, Modifiers, Parameters, MoreParameters, Names, NamesBehind, ResultRead, BodyRead, FirstRead, fields_of}
use Rattle.bcj_parser_rules.specs.Lexemes.{terminal_at}
use Rattle.bcj_parser_rules.specs.function.Kinds.{terminal_of_mark, type_beginning}
use Rattle.bcj_parser_rules.specs.function.Steps.{◌>>=◌, sees, skip, refuse, named}
use Rattle.bcj_parser_rules.specs.function.Expressions.{Begin, behind_this, behind_super, expression}
use Rattle.bcj_parser_rules.specs.function.Statements.{is_inside, statement}
use Rattle.bcj_parser_rules.specs.function.Declarations as parser
use Rattle.bcj_parser_rules.specs.function.Declarations.{one_name, names, names_behind, parameter, parameters, modifiers_by, modifiers, site_behind_throws, method_body, method_rest, Body, body_from, first_call, begun_body, constructor_body, constructor, field_nodes, field_or_method, typed_member, constructor_or_refused, named_member, member_by, void_method, member_behind, modified_member, static_member, member, members}
use Rattle.bcj_parser_soundness.proofs.Terminals.{IfSeen, seen_mark, TypeBeginsSo, type_begins_so}
use Rattle.bcj_parser_soundness.proofs.Outcomes.{Meets, Failed, read, refused, bind, weaken, choose, choose_by, expect_terminal, expect_name, name_behind, bind_terminal, bind_name}
use Rattle.bcj_parser_soundness.proofs.Lists.{Separated, single, further, Repeated, done, again, repeated_once, listed_sound, many_sound, separated_within, repeated_within, brackets_sound, all_pairs, TypeWithin, type_name_sound}
use Rattle.bcj_parser_soundness.proofs.Derived.{Begun, from_this, from_super}
use Rattle.bcj_parser_soundness.proofs.Operands.{arguments_sound}
use Rattle.bcj_parser_soundness.proofs.Expressions.{expression_sound}
use Rattle.bcj_parser_soundness.proofs.Statements.{variables_behind_sound, evaluated_sound, NodesWithin, node_within, statements_from_sound, block_sound, statement_sound}

-- ---- names and parameters

data NameAt : Lexemes → Lexemes → List ℕ → ℕ → Type 0 where
  a_name : {t : Lexeme} {a : Lexemes} → t.terminal ≡ terminal.Identifier → NameAt (t ∷ a) a t.word 0

abbrev NameRead : Lexemes → List ℕ × ℕ → Lexemes → Type 0
NameRead i p a = NameAt i a p.0 p.1

one_name_sound : (w : Site) (i : Lexemes) → Meets (NameRead i) Failed (one_name w i)
unfolding one_name
one_name_sound w = expect_name NameRead w _ (λ t e i. read (a_name e))

names_of : {i a : Lexemes} {ns : List (List ℕ)} {h : ℕ} → Separated NameRead i a ns h → Names i a ns
names_of (single (a_name e)) = g.last_name e
names_of (further (a_name e) c q) = g.more_names e c (names_of q)

names_sound : (i : Lexemes) → Meets (λ ns a. Names i a ns) Failed (names i)
unfolding names
names_sound i = bind (listed_sound (one_name site.Elsewhere) (one_name site.Elsewhere) i i (one_name_sound site.Elsewhere i) (one_name_sound site.Elsewhere)) (λ ns a q. read (names_of q))

pub names_behind_sound : (k : Mark) (i : Lexemes) → Meets (λ ns a. NamesBehind (terminal_of_mark k) i a ns) Failed (names_behind k i)
unfolding names_behind
names_behind_sound k = choose (λ i ns a. NamesBehind (terminal_of_mark k) i a ns) k _ _ (λ t e i. weaken (names_sound i) (λ ns a q. g.names e q)) (λ i. read g.no_names)

data ParameterRead : Lexemes → Lexemes → Param → ℕ → Type 0 where
  a_parameter : {t : Lexeme} {i a : Lexemes} {ty : TypeName} → TypeRead i (t ∷ a) ty → t.terminal ≡ terminal.Identifier → ParameterRead i a (record { ty = ty; name = t.word }) ty.dims

record ParameterWithin (n : ℕ) (i : Lexemes) (p : Param × ℕ) (a : Lexemes) : Type 0 where
  read : ParameterRead i a p.0 p.1
  low : p.1 ≤ n

parameter_sound : (n : ℕ) (i : Lexemes) → Meets (ParameterWithin n i) Failed (parameter n i)
unfolding parameter
parameter_sound n i = bind_name site.TypeName _ (type_name_sound n site.Elsewhere i) (λ ty t e a q. read (record { read = a_parameter q.read e; low = q.low }))

last_of : {t : Lexeme} {i a : Lexemes} {p : Param} {d : ℕ} → ParameterRead i (t ∷ a) p d → t.terminal ≡ terminal.RightParen → MoreParameters i a (p ∷ []) d
last_of (a_parameter d e) f = g.last_parameter d e f

more_of : {t : Lexeme} {i n a : Lexemes} {p : Param} {ps : List Param} {d h : ℕ} → ParameterRead i (t ∷ n) p d → t.terminal ≡ terminal.Comma → MoreParameters n a ps h → MoreParameters i a (p ∷ ps) (max d h)
more_of (a_parameter d e) f q = g.more_parameters d e f q

more_parameters_of : {n h : ℕ} {t : Lexeme} {i a : Lexemes} {ps : List Param} → Separated (ParameterWithin n) i (t ∷ a) ps h → t.terminal ≡ terminal.RightParen → MoreParameters i a ps h
more_parameters_of (single d) e = last_of d.read e
more_parameters_of (further d c q) e = more_of d.read c (more_parameters_of q e)

record ParametersWithin (n : ℕ) (i : Lexemes) (p : List Param × ℕ) (a : Lexemes) : Type 0 where
  read : Parameters i a p.0 p.1
  low : p.1 ≤ n

parameters_sound : (n : ℕ) (i : Lexemes) → Meets (ParametersWithin n i) Failed (parameters n i)
unfolding parameters
parameters_sound n = expect_terminal (ParametersWithin n) mark.LeftParen _ _ (λ t e. choose (λ i. ParametersWithin n (t ∷ i)) mark.RightParen _ _
    (λ u f i. read (record { read = g.no_parameters e f; low = omega arith }))
    (λ i. bind_terminal mark.RightParen (λ _. site.DeclaredName) (listed_sound (parameter n) (parameter n) i i (parameter_sound n i) (parameter_sound n))
    (λ ps u f a q. read (record { read = g.some_parameters e (more_parameters_of q f); low = separated_within n (λ i x a r. r.low) q }))))

-- ---- modifiers and bodies

modifiers_sound : (turns : ℕ) (mods : Mods) (i : Lexemes) → Meets (λ more a. Modifiers mods i a more) Failed (modifiers turns mods i)
unfolding modifiers
modifiers_sound zero mods i = read g.no_modifier
modifiers_sound (suc turns) mods [] = read g.no_modifier
modifiers_sound (suc turns) mods (t ∷ i) = by (modifiers_sound turns) (with_modifier t.terminal mods) refl where
  by : ((mods : Mods) (i : Lexemes) → Meets (λ more a. Modifiers mods i a more) Failed (modifiers turns mods i)) → (o : Option Mods) → with_modifier t.terminal mods ≡ o
      → Meets (λ more a. Modifiers mods (t ∷ i) a more) Failed (modifiers_by (modifiers turns) mods o (t ∷ i))
  by next None e = read g.no_modifier
  by next (Some more) e = weaken (next more i) (λ x a q. g.modifier e q)

record BodyWithin (r : ℕ) (interface : Bool) (i : Lexemes) (p : PlainBody × ℕ) (a : Lexemes) : Type 0 where
  read : BodyRead i a p.0 p.1
  low : p.1 ≤ suc r
  none : interface ≡ true → p.0 ≡ tree.no_body

method_body_sound : (r : ℕ) (interface : Bool) (w : Site) (i : Lexemes) → Meets (BodyWithin r interface i) Failed (method_body r interface w i)
unfolding method_body
method_body_sound r true w = choose (BodyWithin r true) mark.Semicolon _ _ (λ t e i. read (record { read = g.no_block e; low = omega arith; none = λ _. refl })) (λ i. refused)
method_body_sound r false w = choose (BodyWithin r false) mark.Semicolon _ _ (λ t e i. read (record { read = g.no_block e; low = omega arith; none = λ _. refl }))
    (λ i. bind (block_sound (suc r) (statement (suc r)) w (statement_sound (suc r)) i) (λ ss a q. read (record { read = g.a_block q.read; low = q.low; none = λ h. absurd (cc) })))

record ConstructorBody (r : ℕ) (i : Lexemes) (b : Body) (a : Lexemes) : Type 0 where
  middle : Lexemes
  call : FirstRead i middle b.first b.first_high
  call_low : b.first_high ≤ suc r
  read : Statements middle a (stmts_from b.statements) b.high
  low : b.high ≤ suc r

body_from_sound : (r : ℕ) (call : PlainFirst) (call_high : ℕ) (found : List PlainStmt) (high : ℕ) (i k j : Lexemes) → FirstRead i k call call_high → call_high ≤ suc r
    → Repeated (NodesWithin (suc r)) k j found high → Meets (ConstructorBody r i) Failed (body_from r call call_high found high j)
unfolding body_from
body_from_sound r call call_high found high i k j d low q = bind (statements_from_sound (suc r) (statement (suc r)) (statement_sound (suc r)) found high k j q)
    (λ ss a p. read (record { middle = k; call = d; call_low = low; read = p.read; low = p.low }))

abbrev Calls : Bool → Terminal → Type 0
Calls false k = k ≡ terminal.This
Calls true k = k ≡ terminal.Super

first_of : (to_super : Bool) {t u : Lexeme} {i a : Lexemes} {es : PlainExprs} {h : ℕ} → Calls to_super t.terminal → Arguments i (u ∷ a) es h → u.terminal ≡ terminal.Semicolon
    → FirstRead (t ∷ i) a (tree.first_call t.at to_super es) (suc h)
first_of false e d f = g.to_this e d f
first_of true e d f = g.to_super e d f

first_call_sound : (r : ℕ) (to_super : Bool) (t : Lexeme) → Calls to_super t.terminal → (i : Lexemes) → Meets (ConstructorBody r (t ∷ i)) Failed (first_call r t.at to_super i)
unfolding first_call
first_call_sound r to_super t e i = bind_terminal mark.Semicolon (λ _. site.Elsewhere) (arguments_sound r (expression r) (expression_sound r) i)
    (λ es u f k q. body_from_sound r (tree.first_call t.at to_super es.0) (suc es.1) [] 0 (t ∷ i) k k (first_of to_super e q.read f) (omega (arith, q.low)) done)

begun_body_sound : (r : ℕ) (to_super : Bool) (b : Begin) (t : Lexeme) → Calls to_super t.terminal → ((i : Lexemes) → Begun b (t ∷ i) i) → (i : Lexemes)
    → Meets (ConstructorBody r (t ∷ i)) Failed (begun_body r t.at to_super b i)
unfolding begun_body
begun_body_sound r to_super b t e begun = choose (λ i. ConstructorBody r (t ∷ i)) mark.LeftParen _ _ (λ u f i. first_call_sound r to_super t e (u ∷ i))
    (λ i. bind (evaluated_sound r site.Elsewhere (begun i)) (λ x a q. body_from_sound r tree.no_first 0 (x.0 ∷ []) x.1 (t ∷ i) (t ∷ i) a g.no_call (omega arith) (repeated_once (node_within q))))

constructor_body_sound : (r : ℕ) (i : Lexemes) → Meets (ConstructorBody r i) Failed (constructor_body r i)
unfolding constructor_body
constructor_body_sound r = choose (ConstructorBody r) mark.This _ _ (λ t e i. begun_body_sound r false (behind_this t.at) t e (λ i. from_this e) i)
    (choose (ConstructorBody r) mark.Super _ _ (λ t e i. begun_body_sound r true (behind_super t.at) t e (λ i. from_super e) i)
    (λ i. body_from_sound r tree.no_first 0 [] 0 i i i g.no_call (omega arith) done))

-- ---- members

data MemberRead (interface : Bool) : Lexemes → Lexemes → List PlainMember → ℕ → Type 0 where
  a_semicolon : {t : Lexeme} {a : Lexemes} → t.terminal ≡ terminal.Semicolon → MemberRead interface (t ∷ a) a [] 0
  a_static : {t : Lexeme} {i a : Lexemes} {ss : PlainStmts} {h : ℕ} → interface ≡ false → t.terminal ≡ terminal.Static → Block i a ss h → MemberRead interface (t ∷ i) a (tree.static_member t.at ss ∷ []) (suc h)
  a_field : {i n k a : Lexemes} {mods : Mods} {ty : TypeName} {vs : List Variable} {h : ℕ} → Modifiers no_mods i n mods → TypeRead n k ty → Variables k a vs h
      → MemberRead interface i a (field_nodes (first_at i) mods ty vs) (suc (max ty.dims h))
  a_method : {t : Lexeme} {i n k l o a : Lexemes} {mods : Mods} {ty : TypeName} {ps : List Param} {throws : List (List ℕ)} {body : PlainBody} {d h : ℕ}
      → Modifiers no_mods i n mods → mods.is_final ≡ false → ResultRead n (t ∷ k) ty → t.terminal ≡ terminal.Identifier → Parameters k l ps d → NamesBehind terminal.Throws l o throws → BodyRead o a body h
      → (interface ≡ true → body ≡ tree.no_body)
      → MemberRead interface i a (tree.method_member (first_at i) mods ty t.word ps throws body ∷ []) (suc (max ty.dims (max d h)))
  a_constructor : {t u v : Lexeme} {i n k l o a : Lexemes} {mods : Mods} {ps : List Param} {throws : List (List ℕ)} {first : PlainFirst} {ss : PlainStmts} {d f h : ℕ}
      → interface ≡ false → Modifiers no_mods i (t ∷ n) mods → mods.is_final ≡ false → t.terminal ≡ terminal.Identifier → Parameters n k ps d → NamesBehind terminal.Throws k (u ∷ l) throws → u.terminal ≡ terminal.LeftBrace
      → FirstRead l o first f → Statements o (v ∷ a) ss h → v.terminal ≡ terminal.RightBrace
      → MemberRead interface i a (tree.constructor_member (first_at i) mods t.word ps throws first ss ∷ []) (suc (max d (max f h)))

record MemberWithin (r : ℕ) (interface : Bool) (i : Lexemes) (p : parser.Members) (a : Lexemes) : Type 0 where
  read : MemberRead interface i a p.0 p.1
  low : p.1 ≤ r + 2

fields_onto : (at : ℕ) (mods : Mods) (ty : TypeName) (vs : List Variable) (ms : List PlainMember) → field_nodes at mods ty vs ++ ms ≡ fields_of at mods ty vs ms
fields_onto at mods ty [] ms = refl
fields_onto at mods ty (v ∷ vs) ms = ap (λ l. tree.field_member at mods ty v.name v.init ∷ l) (fields_onto at mods ty vs ms)

in_front : (interface : Bool) {i n a : Lexemes} {xs ms : List PlainMember} {f h : ℕ} → MemberRead interface i n xs f → g.Members interface n a ms h → g.Members interface i a (xs ++ ms) (max f h)
in_front interface {a = a} {ms = ms} {h = h} (a_semicolon {t = t} {a = n} e) r = let f : h ≡ max 0 h = omega arith in subst (g.Members interface (t ∷ n) a ms) f (g.semicolon e r)
in_front interface (a_static e f b) r = g.static_block e f b r
in_front interface {i = i} {a = a} {ms = ms} {h = h} (a_field {mods = mods} {ty = ty} {vs = vs} {h = k} d t v) r =
    subst (λ l. g.Members interface i a l (max (suc (max ty.dims k)) h)) (sym (fields_onto (first_at i) mods ty vs ms)) (g.fields d t v r)
in_front interface (a_method d e t f p q b o) r = g.method d e t f p q b o r
in_front interface (a_constructor c d e f p q b k ss o) r = g.constructor c d e f p q b k ss o r

members_of : {r : ℕ} (interface : Bool) {h : ℕ} {t : Lexeme} {i a : Lexemes} {ms : List PlainMember} → Repeated (MemberWithin r interface) i (t ∷ a) ms h → t.terminal ≡ terminal.RightBrace → g.Members interface i a ms h
members_of interface done e = g.no_member e
members_of interface (again d q) e = in_front interface d.read (members_of interface q e)

method_rest_sound : (r : ℕ) (interface : Bool) (j n : Lexemes) (mods : Mods) (ty : TypeName) (t : Lexeme) (i : Lexemes) → Modifiers no_mods j n mods → mods.is_final ≡ false → ResultRead n (t ∷ i) ty
    → ty.dims ≤ suc r → t.terminal ≡ terminal.Identifier → Meets (MemberWithin r interface j) Failed (method_rest r interface (first_at j) mods ty t.word i)
unfolding method_rest
method_rest_sound r interface j n mods ty t i d e q low f = bind (parameters_sound (suc r) i) (λ ps k p. bind (names_behind_sound mark.Throws k) (λ ts l o. bind (method_body_sound r interface (site_behind_throws ts) l)
    (λ b a v. read (record { read = a_method d e q f p.read o v.read v.none; low = omega (arith, p.low, v.low) }))))

constructor_sound : (r : ℕ) (j : Lexemes) (mods : Mods) (t : Lexeme) (i : Lexemes) → Modifiers no_mods j (t ∷ i) mods → mods.is_final ≡ false → t.terminal ≡ terminal.Identifier
    → Meets (MemberWithin r false j) Failed (constructor r (first_at j) mods t.word i)
unfolding constructor
constructor_sound r j mods t i d e f = bind (parameters_sound (suc r) i) (λ ps k p. bind_terminal mark.LeftBrace (λ ts. site_behind_throws ts) (names_behind_sound mark.Throws k)
    (λ ts u h l o. bind_terminal mark.RightBrace (λ _. site.Elsewhere) (constructor_body_sound r l)
    (λ b v q a c. read (record { read = a_constructor refl d e f p.read o h c.call c.read q; low = omega (arith, p.low, c.call_low, c.low) }))))

field_or_method_sound : (r : ℕ) (interface : Bool) (j n : Lexemes) (mods : Mods) (ty : TypeName) (t : Lexeme) → Modifiers no_mods j n mods → t.terminal ≡ terminal.Identifier → (i : Lexemes)
    → TypeWithin (suc r) n ty (t ∷ i) → Meets (MemberWithin r interface j) Failed (field_or_method r interface (first_at j) mods ty t.word i)
unfolding field_or_method
field_or_method_sound r interface j n mods ty t d e = choose_by (λ i. TypeWithin (suc r) n ty (t ∷ i)) mark.LeftParen _ _
    (λ u f i q. by (u ∷ i) q mods.is_final refl)
    (λ i q. bind (variables_behind_sound (suc r) (expression (suc r)) site.DeclaredName (expression_sound (suc r)) t e i)
    (λ vs a v. read (record { read = a_field d q.read v.read; low = omega (arith, q.low, v.low) }))) where
      by : (i : Lexemes) → TypeWithin (suc r) n ty (t ∷ i) → (x : Bool) → mods.is_final ≡ x
          → Meets (MemberWithin r interface j) Failed (if x then (Err (Refused site.FinalMember), i) else method_rest r interface (first_at j) mods ty t.word i)
      by i q true f = refused
      by i q false f = method_rest_sound r interface j n mods ty t i d f (g.typed_result q.read) q.low e

typed_member_sound : (r : ℕ) (interface : Bool) (j i : Lexemes) (mods : Mods) → Modifiers no_mods j i mods → Meets (MemberWithin r interface j) Failed (typed_member r interface (first_at j) mods i)
unfolding typed_member
typed_member_sound r interface j i mods d = bind_name site.TypeName _ (type_name_sound (suc r) site.Elsewhere i) (λ ty t e a q. field_or_method_sound r interface j i mods ty t d e a q)

constructor_or_refused_sound : (r : ℕ) (interface : Bool) (j : Lexemes) (mods : Mods) (t : Lexeme) (i : Lexemes) → Modifiers no_mods j (t ∷ i) mods → t.terminal ≡ terminal.Identifier
    → Meets (MemberWithin r interface j) Failed (constructor_or_refused r interface (first_at j) mods t.word i)
constructor_or_refused_sound r true j mods t i d e = refused
constructor_or_refused_sound r false j mods t i d e = by mods.is_final refl where
  by : (x : Bool) → mods.is_final ≡ x → Meets (MemberWithin r false j) Failed ((if x then refuse site.FinalMember else constructor r (first_at j) mods t.word) i)
  by true f = refused
  by false f = constructor_sound r j mods t i d f e

named_member_sound : (r : ℕ) (interface : Bool) (j : Lexemes) (mods : Mods) (t : Lexeme) → t.terminal ≡ terminal.Identifier → (i : Lexemes) → Modifiers no_mods j (t ∷ i) mods
    → Meets (MemberWithin r interface j) Failed (named_member r interface (first_at j) mods t.word i)
unfolding named_member
named_member_sound r interface j mods t e = choose_by (λ i. Modifiers no_mods j (t ∷ i) mods) mark.LeftParen _ _ (λ u f i d. constructor_or_refused_sound r interface j mods t (u ∷ i) d e)
    (λ i d. bind_name site.TypeName _ (brackets_sound site.Elsewhere (suc r) 0 i) (λ n u f a q. field_or_method_sound r interface j (t ∷ i) mods (record { base = base.Named t.word; dims = n }) u d f a
    (record { read = type_read (g.named_base e) (all_pairs q); low = omega (arith, q.low) })))

member_by_sound : (r : ℕ) (interface : Bool) (j : Lexemes) (mods : Mods) (i : Lexemes) → Modifiers no_mods j i mods
    → Meets (MemberWithin r interface j) Failed (member_by r interface (first_at j) mods (type_beginning (terminal_at i)) i)
member_by_sound r interface j mods [] d = refused
member_by_sound r interface j mods (t ∷ i) d = by (type_beginning t.terminal) (type_begins_so t.terminal) where
  by : (k : TypeBeginning) → TypeBeginsSo k t.terminal → Meets (MemberWithin r interface j) Failed (member_by r interface (first_at j) mods k (t ∷ i))
  by typed.Int e = typed_member_sound r interface j (t ∷ i) mods d
  by typed.Bool e = typed_member_sound r interface j (t ∷ i) mods d
  by typed.Name e = named_member_sound r interface j mods t e i d
  by typed.Nothing e = refused

void_method_sound : (r : ℕ) (interface : Bool) (j : Lexemes) (mods : Mods) (t : Lexeme) → t.terminal ≡ terminal.Void → (i : Lexemes) → Modifiers no_mods j (t ∷ i) mods
    → Meets (MemberWithin r interface j) Failed (void_method r interface (first_at j) mods (t ∷ i))
void_method_sound r interface j mods t e = by mods.is_final refl where
  behind : mods.is_final ≡ false → (i : Lexemes) → Modifiers no_mods j (t ∷ i) mods
      → Meets (MemberWithin r interface j) Failed ((named site.Elsewhere >>= λ x. method_rest r interface (first_at j) mods (record { base = base.Void; dims = 0 }) x) i)
  behind f = name_behind (λ i. Modifiers no_mods j (t ∷ i) mods) site.Elsewhere _
      (λ u h i d. method_rest_sound r interface j (t ∷ u ∷ i) mods (record { base = base.Void; dims = 0 }) u i d f (g.void_result e) (omega arith) h)

  by : (x : Bool) → mods.is_final ≡ x → (i : Lexemes) → Modifiers no_mods j (t ∷ i) mods → Meets (MemberWithin r interface j) Failed
      ((if x then refuse site.FinalMember else skip (named site.Elsewhere >>= λ x. method_rest r interface (first_at j) mods (record { base = base.Void; dims = 0 }) x)) (t ∷ i))
  by true f i d = refused
  by false f i d = behind f i d

member_behind_sound : (r : ℕ) (interface : Bool) (j : Lexemes) (mods : Mods) (i : Lexemes) → Modifiers no_mods j i mods → Meets (MemberWithin r interface j) Failed (member_behind r interface (first_at j) mods i)
unfolding member_behind
member_behind_sound r interface j mods = choose_by (λ i. Modifiers no_mods j i mods) mark.Void _ _ (λ t e i d. void_method_sound r interface j mods t e i d) (λ i d. member_by_sound r interface j mods i d)

modified_member_sound : (r : ℕ) (interface : Bool) (j i : Lexemes) (mods : Mods) → ((more : Mods) (a : Lexemes) → Modifiers mods i a more → Modifiers no_mods j a more)
    → Meets (MemberWithin r interface j) Failed (modified_member r interface (first_at j) mods i)
unfolding modified_member
modified_member_sound r interface j i mods f = bind (modifiers_sound (length i) mods i) (λ more a d. member_behind_sound r interface j more a (f more a d))

static_member_sound : (r : ℕ) (t : Lexeme) → t.terminal ≡ terminal.Static → (i : Lexemes) → Meets (MemberWithin r false (t ∷ i)) Failed (static_member r t.at i)
unfolding static_member
static_member_sound r t e = choose (λ i. MemberWithin r false (t ∷ i)) mark.LeftBrace _ _
    (λ u f i. bind (block_sound (suc r) (statement (suc r)) site.Elsewhere (statement_sound (suc r)) (u ∷ i)) (λ ss a q. read (record { read = a_static refl e q.read; low = omega (arith, q.low) })))
    (λ i. modified_member_sound r false (t ∷ i) i (record no_mods { is_static = true }) (λ more a d. g.modifier (ap (λ k. with_modifier k no_mods) e) d))

static_or_modified : (r : ℕ) (interface : Bool) (i : Lexemes)
    → Meets (MemberWithin r interface i) Failed (if sees mark.Static i && not interface then skip (static_member r (first_at i)) i else modified_member r interface (first_at i) no_mods i)
static_or_modified r interface [] = modified_member_sound r interface [] [] no_mods (λ more a d. d)
static_or_modified r interface (t ∷ i) = by interface (sees mark.Static (t ∷ i)) (seen_mark mark.Static t.terminal) where
  by : (interface x : Bool) → IfSeen mark.Static t.terminal x
      → Meets (MemberWithin r interface (t ∷ i)) Failed (if x && not interface then skip (static_member r t.at) (t ∷ i) else modified_member r interface t.at no_mods (t ∷ i))
  by true true e = modified_member_sound r true (t ∷ i) (t ∷ i) no_mods (λ more a d. d)
  by false true e = static_member_sound r t e i
  by interface false e = modified_member_sound r interface (t ∷ i) (t ∷ i) no_mods (λ more a d. d)

member_sound : (r : ℕ) (interface : Bool) (i : Lexemes) → Meets (MemberWithin r interface i) Failed (member r interface i)
unfolding member
member_sound r interface = choose (MemberWithin r interface) mark.Semicolon _ _ (λ t e i. read (record { read = a_semicolon e; low = omega arith })) (static_or_modified r interface)

pub record MembersWithin (r : ℕ) (interface : Bool) (i : Lexemes) (p : parser.Members) (a : Lexemes) : Type 0 where
  pub read : g.Members interface i a p.0 p.1
  pub low : p.1 ≤ r + 2

pub members_sound : (r : ℕ) (interface : Bool) (i : Lexemes) → Meets (MembersWithin r interface i) Failed (members r interface i)
unfolding members
members_sound r interface i = bind_terminal mark.RightBrace (λ _. site.Elsewhere) (many_sound is_inside (member r interface) (member_sound r interface) (length i) [] 0 i i done)
    (λ ms t e a q. read (record { read = members_of interface q e; low = repeated_within (r + 2) (λ i x a d. d.low) q }))
