-- Each member that the grammar derives is read
use Rattle.std.proofs.Common.{◌≡◌, refl, ap, sym, ◌∙◌, subst, ℕ, suc, ◌<◌, ◌≤◌, max, Bool, true, false, not, ◌&&◌, if◌then◌else◌, List, [], ◌∷◌, ◌++◌, length, Some, Ok, arith}
use Rattle.bcj_parser_trees.specs.declared.names.Base.TheVariants as base
use Rattle.bcj_parser_trees.specs.declared.names.TypeName.{TypeName}
use Rattle.bcj_parser_trees.specs.declared.names.Mods.{Mods}
use Rattle.bcj_parser_trees.specs.Trees as tree
use Rattle.bcj_parser_trees.specs.Trees.{PlainStmts, PlainBody, PlainFirst, PlainMember}
use Rattle.bcj_parser_rules.specs.declared.kind.Mark.TheVariants as mark
use Rattle.bcj_parser_rules.specs.declared.kind.TypeBeginning.{TypeBeginning}
use Rattle.bcj_parser_rules.specs.declared.kind.TypeBeginning.TheVariants as typed
use Rattle.bcj_parser_rules.specs.declared.terminal.Terminal.{Terminal}
use Rattle.bcj_parser_rules.specs.declared.terminal.Terminal.TheVariants as terminal
use Rattle.bcj_parser_rules.specs.declared.stop.Site.{Site}
use Rattle.bcj_parser_rules.specs.declared.stop.Site.TheVariants as site
use Rattle.bcj_parser_rules.specs.Lexemes.{Lexeme, Lexemes}
use Rattle.bcj_parser_rules.specs.Grammar as g
use Rattle.bcj_parser_rules.specs.Lexemes.{first_at}
use Rattle.bcj_parser_rules.specs.Grammar.{Variable, TypeRead, int_base, boolean_base, named_base, Brackets, Variables, Block, Parameters, NamesBehind, ResultRead, BodyRead, FirstRead, Statements, Modifiers, no_mods, with_modifier, fields_of}
use Rattle.bcj_parser_rules.specs.Lexemes.{terminal_at}
use Rattle.bcj_parser_rules.specs.Marks.{is_mark}
use Rattle.bcj_parser_rules.specs.function.Kinds.{type_beginning}
use Rattle.bcj_parser_rules.specs.function.Steps.{Outcome, rest, sees, named}
use Rattle.bcj_parser_rules.specs.function.Statements.{is_inside}
use Rattle.bcj_parser_rules.specs.function.Declarations.{method_rest, constructor, field_nodes, field_or_method, typed_member, named_member, member_by, member_behind, modified_member, static_member, member, members}
use Rattle.bcj_parser_completeness.proofs.Terminals.{seen, unseen, apart, true_false, mark_terminal}
use Rattle.bcj_parser_completeness.proofs.Steps.{bind, taking, passing, expect_reads, named_reads}
use Rattle.bcj_parser_completeness.proofs.Lists.{Many, done, turn, many_reads, read_as}
use Rattle.bcj_parser_completeness.proofs.Climbing.{passing_at}
use Rattle.bcj_parser_completeness.proofs.Types.{type_reads, from_none}
use Rattle.bcj_parser_completeness.proofs.Lengths.{type_takes, variables_take, statements_take, block_takes, modifiers_take, parameters_take, names_behind_take, result_takes, body_takes, first_takes}
use Rattle.bcj_parser_completeness.proofs.Variables.{VariablesParts, variables_parts, variables_behind_read}
use Rattle.bcj_parser_completeness.proofs.StatementParts.{stmts_back}
use Rattle.bcj_parser_completeness.proofs.Statements.{block_brace, block_reads}
use Rattle.bcj_parser_completeness.proofs.Headers.{parameters_open, heads, leads, modifiers_lead, not_leading, modifiers_read}
use Rattle.bcj_parser_completeness.proofs.Constructors.{method_rest_reads, constructor_reads}

abbrev Nodes : Type 0
Nodes = List PlainMember × ℕ

abbrev the_member : PlainMember → ℕ → Lexemes → Outcome Nodes
the_member x h a = (Ok (x ∷ [], h), a)

-- ---- behind the modifiers

named_at : (w : Site) {i k : Lexemes} {t : Lexeme} → i ≡ t ∷ k → t.terminal ≡ terminal.Identifier → named w i ≡ (Ok t.word, k)
named_at w {k = k} {t = t} p e = ap (named w) p ∙ named_reads w t k e

name_stands : {i k : Lexemes} {t : Lexeme} → i ≡ t ∷ k → t.terminal ≡ terminal.Identifier → terminal_at i ≡ terminal.Identifier
name_stands p e = ap terminal_at p ∙ e

brackets_unopened : {i a : Lexemes} {d : ℕ} → Brackets i a d → terminal_at a ≡ terminal.Identifier → sees mark.LeftParen i ≡ false
brackets_unopened (g.no_pair {a = a}) e = unseen mark.LeftParen a e refl
brackets_unopened (g.pair {t = t} {u = u} {m = m} f k b) e = unseen mark.LeftParen (t ∷ u ∷ m) f refl

typed_member_reads : (r : ℕ) (interface : Bool) (at : ℕ) (mods : Mods) {i n k : Lexemes} {t : Lexeme} {ty : TypeName} {o : Outcome Nodes} → TypeRead i n ty → n ≡ t ∷ k → t.terminal ≡ terminal.Identifier → ty.dims ≤ suc r
    → field_or_method r interface at mods ty t.word k ≡ o → typed_member r interface at mods i ≡ o
unfolding typed_member
typed_member_reads r interface at mods {n = n} d p e l h = bind (type_reads d (suc r) site.Elsewhere l (unseen mark.LeftBracket n (name_stands p e) refl)) _ (bind (named_at site.TypeName p e) _ h)

named_member_reads : (r : ℕ) (interface : Bool) (at : ℕ) (mods : Mods) (x : List ℕ) {i n k : Lexemes} {t : Lexeme} {d : ℕ} {o : Outcome Nodes} → Brackets i n d → n ≡ t ∷ k → t.terminal ≡ terminal.Identifier → d ≤ suc r
    → field_or_method r interface at mods (record { base = base.Named x; dims = d }) t.word k ≡ o → named_member r interface at mods x i ≡ o
unfolding named_member
named_member_reads r interface at mods x {n = n} b p e l h =
    passing (brackets_unopened b (name_stands p e)) _ (bind (from_none b site.Elsewhere (suc r) l (unseen mark.LeftBracket n (name_stands p e) refl)) _ (bind (named_at site.TypeName p e) _ h))

by_type : (r : ℕ) (interface : Bool) (at : ℕ) (mods : Mods) (i : Lexemes) {o : Outcome Nodes} (k : TypeBeginning) → sees mark.Void i ≡ false → type_beginning (terminal_at i) ≡ k → member_by r interface at mods k i ≡ o → member_behind r interface at mods i ≡ o
unfolding member_behind
by_type r interface at mods i k v e h = passing v _ (ap (λ k. member_by r interface at mods k i) e ∙ h)

typed_reads : (r : ℕ) (interface : Bool) (at : ℕ) (mods : Mods) {i n k : Lexemes} {t : Lexeme} {ty : TypeName} {o : Outcome Nodes} → TypeRead i n ty → n ≡ t ∷ k → t.terminal ≡ terminal.Identifier → ty.dims ≤ suc r
    → field_or_method r interface at mods ty t.word k ≡ o → member_behind r interface at mods i ≡ o
typed_reads r interface at mods (g.type_read {t = t} {m = m} (int_base e) b) p f l h =
    by_type r interface at mods (t ∷ m) typed.Int (unseen mark.Void (t ∷ m) e refl) (ap type_beginning e) (typed_member_reads r interface at mods (g.type_read (int_base e) b) p f l h)
typed_reads r interface at mods (g.type_read {t = t} {m = m} (boolean_base e) b) p f l h =
    by_type r interface at mods (t ∷ m) typed.Bool (unseen mark.Void (t ∷ m) e refl) (ap type_beginning e) (typed_member_reads r interface at mods (g.type_read (boolean_base e) b) p f l h)
typed_reads r interface at mods (g.type_read {t = t} {m = m} (named_base e) b) p f l h =
    by_type r interface at mods (t ∷ m) typed.Name (unseen mark.Void (t ∷ m) e refl) (ap type_beginning e) (named_member_reads r interface at mods t.word b p f l h)

fields_read : (r : ℕ) (interface : Bool) (at : ℕ) (mods : Mods) {i n a : Lexemes} {ty : TypeName} {vs : List Variable} {h : ℕ} → TypeRead i n ty → Variables n a vs h → ty.dims ≤ suc r → h ≤ suc r
    → member_behind r interface at mods i ≡ (Ok (field_nodes at mods ty vs, suc (max ty.dims h)), a)
unfolding field_or_method
fields_read r interface at mods {n = n} {a = a} {vs = vs} {h = h} d v l m = let p : VariablesParts (suc r) n a vs h = variables_parts v (suc r) m in
    typed_reads r interface at mods d p.starts p.identifier l (passing p.unopened _ (bind (variables_behind_read (suc r) site.DeclaredName p.name.word p.line) _ refl))

method_behind : (r : ℕ) (interface : Bool) (at : ℕ) (mods : Mods) (ty : TypeName) (x : List ℕ) (i : Lexemes) {o : Outcome Nodes} → mods.is_final ≡ false → sees mark.LeftParen i ≡ true → method_rest r interface at mods ty x i ≡ o
    → field_or_method r interface at mods ty x i ≡ o
unfolding field_or_method
method_behind r interface at mods ty x i f e h = taking e _ (passing f _ h)

void_reads : (r : ℕ) (interface : Bool) (at : ℕ) (mods : Mods) (v t : Lexeme) (k : Lexemes) {o : Outcome Nodes} → v.terminal ≡ terminal.Void → t.terminal ≡ terminal.Identifier → mods.is_final ≡ false
    → method_rest r interface at mods (record { base = base.Void; dims = 0 }) t.word k ≡ o → member_behind r interface at mods (v ∷ t ∷ k) ≡ o
unfolding member_behind
void_reads r interface at mods v t k e f c h = taking (seen mark.Void v (t ∷ k) e) _ (passing_at c _ _ (bind (named_reads site.Elsewhere t k f) _ h))

method_reads : (r : ℕ) (interface : Bool) (at : ℕ) (mods : Mods) {i n k : Lexemes} {t : Lexeme} {ty : TypeName} {o : Outcome Nodes} → ResultRead i n ty → n ≡ t ∷ k → t.terminal ≡ terminal.Identifier → mods.is_final ≡ false → ty.dims ≤ suc r
    → sees mark.LeftParen k ≡ true → method_rest r interface at mods ty t.word k ≡ o → member_behind r interface at mods i ≡ o
method_reads r interface at mods {k = k} {t = t} (g.void_result {t = v} {a = n} e) p f c l z h = ap (λ n. member_behind r interface at mods (v ∷ n)) p ∙ void_reads r interface at mods v t k e f c h
method_reads r interface at mods {k = k} {t = t} {ty = ty} (g.typed_result d) p f c l z h = typed_reads r interface at mods d p f l (method_behind r interface at mods ty t.word k c z h)

constructor_behind : (r : ℕ) (at : ℕ) (mods : Mods) (t : Lexeme) (k : Lexemes) {o : Outcome Nodes} → t.terminal ≡ terminal.Identifier → mods.is_final ≡ false → sees mark.LeftParen k ≡ true → constructor r at mods t.word k ≡ o
    → member_behind r false at mods (t ∷ k) ≡ o
unfolding named_member
constructor_behind r at mods t k e c z h = by_type r false at mods (t ∷ k) typed.Name (unseen mark.Void (t ∷ k) e refl) (ap type_beginning e) (taking z _ (passing_at c _ _ h))

-- ---- with the modifiers

some_same : {a b : Mods} → Some a ≡ Some b → a ≡ b
some_same e = cc

modified_reads : (r : ℕ) (interface : Bool) (at : ℕ) {before mods : Mods} {i m : Lexemes} → Modifiers before i m mods → heads (terminal_at m) ≡ true → modified_member r interface at before i ≡ member_behind r interface at mods m
unfolding modified_member
modified_reads r interface at {i = i} d e = bind (modifiers_read d e (length i) (omega arith)) _ refl

static_reads : (r at : ℕ) {mods : Mods} {i m : Lexemes} → Modifiers (record no_mods { is_static = true }) i m mods → heads (terminal_at m) ≡ true → static_member r at i ≡ member_behind r false at mods m
unfolding static_member
static_reads r at {i = i} d e = passing (not_leading i (modifiers_lead d e) mark.LeftBrace refl) _ (modified_reads r false at d e)

-- `static` in front
static_first : (r : ℕ) {before mods : Mods} {i m : Lexemes} → Modifiers before i m mods → before ≡ no_mods → heads (terminal_at m) ≡ true → sees mark.Static i ≡ true → static_member r (first_at i) (rest i) ≡ member_behind r false (first_at i) mods m
static_first r (g.no_modifier {a = i}) p e q = absurd (true_false q (apart heads mark.Static (terminal_at i) (sym (ap not e))))
static_first r (g.modifier {t = t} {m = i} {a = m} {before = before} {more = others} {mods = mods} f d) p e q =
    static_reads r t.at (subst (λ b. Modifiers b i m mods) (some_same (sym f ∙ ap (with_modifier t.terminal) p ∙ ap (λ k. with_modifier k no_mods) (mark_terminal mark.Static t.terminal q))) d) e

member_reads : (r : ℕ) (interface : Bool) {mods : Mods} {i m : Lexemes} → Modifiers no_mods i m mods → heads (terminal_at m) ≡ true → member r interface i ≡ member_behind r interface (first_at i) mods m
unfolding member
member_reads r true {i = i} d e = passing (not_leading i (modifiers_lead d e) mark.Semicolon refl) _ (passing (no_static (sees mark.Static i)) _ (modified_reads r true (first_at i) d e)) where
  no_static : (b : Bool) → (b && not true) ≡ false
  no_static true = refl
  no_static false = refl
member_reads r false {mods = mods} {i = i} {m = m} d e = passing (not_leading i (modifiers_lead d e) mark.Semicolon refl) _ (by (sees mark.Static i) refl) where
  by : (b : Bool) → sees mark.Static i ≡ b → (if b && not false then static_member r (first_at i) (rest i) else modified_member r false (first_at i) no_mods i) ≡ member_behind r false (first_at i) mods m
  by true p = static_first r d refl e p
  by false p = modified_reads r false (first_at i) d e

static_block_reads : (r : ℕ) (t : Lexeme) {m a : Lexemes} {ss : PlainStmts} {h : ℕ} → t.terminal ≡ terminal.Static → Block m a ss h → h ≤ suc r → member r false (t ∷ m) ≡ (Ok (tree.static_member t.at ss ∷ [], suc h), a)
unfolding member static_member
static_block_reads r t {m = m} {a = a} {ss = ss} {h = h} e b l =
    passing (unseen mark.Semicolon (t ∷ m) e refl) _ (taking (ap (λ b. b && not false) (seen mark.Static t m e)) _ (taking (ap (is_mark mark.LeftBrace) (block_brace b)) _ (bind (block_reads b (suc r) l site.Elsewhere) _
    (ap (λ ss. the_member (tree.static_member t.at ss) (suc h) a) (stmts_back ss)))))

semicolon_reads : (r : ℕ) (interface : Bool) (t : Lexeme) (m : Lexemes) → t.terminal ≡ terminal.Semicolon → member r interface (t ∷ m) ≡ (Ok ([], 0), m)
unfolding member
semicolon_reads r interface t m e = taking (seen mark.Semicolon t m e) _ refl

-- ---- up to the closing brace

fields_listed : (at : ℕ) (mods : Mods) (ty : TypeName) (vs : List Variable) (ms : List PlainMember) → field_nodes at mods ty vs ++ ms ≡ fields_of at mods ty vs ms
fields_listed at mods ty [] ms = refl
fields_listed at mods ty (v ∷ vs) ms = ap (λ l. tree.field_member at mods ty v.name v.init ∷ l) (fields_listed at mods ty vs ms)

record MembersParts (r : ℕ) (interface : Bool) (i a : Lexemes) (ms : List PlainMember) (h : ℕ) : Type 0 where
  last : Lexeme
  closes : last.terminal ≡ terminal.RightBrace
  many : Many is_inside (member r interface) i (last ∷ a) ms h

led_inside : (i : Lexemes) → leads (terminal_at i) ≡ true → is_inside (terminal_at i) ≡ true
led_inside i e = ap not (not_leading i e mark.RightBrace refl)

signed_inside : (i : Lexemes) {j : Terminal} → terminal_at i ≡ j → is_inside j ≡ true → is_inside (terminal_at i) ≡ true
signed_inside i e f = ap is_inside e ∙ f

type_heads : {i a : Lexemes} {ty : TypeName} → TypeRead i a ty → heads (terminal_at i) ≡ true
type_heads (g.type_read (int_base e) b) = ap heads e
type_heads (g.type_read (boolean_base e) b) = ap heads e
type_heads (g.type_read (named_base e) b) = ap heads e

result_heads : {i a : Lexemes} {ty : TypeName} → ResultRead i a ty → heads (terminal_at i) ≡ true
result_heads (g.void_result e) = ap heads e
result_heads (g.typed_result d) = type_heads d

a_member : (r : ℕ) (interface : Bool) {i k a : Lexemes} {xs ms zs : List PlainMember} {f h z : ℕ} → is_inside (terminal_at i) ≡ true → member r interface i ≡ (Ok (xs, f), k) → length k < length i → xs ++ ms ≡ zs → max f h ≡ z
    → MembersParts r interface k a ms h → MembersParts r interface i a zs z
a_member r interface e o l p q d = record { last = d.last; closes = d.closes; many = turn e o l d.many p q }

members_parts : {interface : Bool} {i a : Lexemes} {ms : List PlainMember} {h : ℕ} → g.Members interface i a ms h → (r : ℕ) → h ≤ suc (suc r) → MembersParts r interface i a ms h
members_parts (g.no_member {t = t} e) r l = record { last = t; closes = e; many = done (ap is_inside e) }
members_parts {interface} (g.semicolon {t = t} {m = m} e d) r l = a_member r interface (signed_inside (t ∷ m) e refl) (semicolon_reads r interface t m e) (omega arith) refl (omega arith) (members_parts d r l)
members_parts {interface} (g.static_block {t = t} {m = m} {n = n} {ss = ss} {g = f} c e b d) r l =
    a_member r interface (signed_inside (t ∷ m) e refl) (ap (λ c. member r c (t ∷ m)) c ∙ static_block_reads r t e b (omega arith)) (omega (arith, block_takes b)) refl refl (members_parts d r (omega arith))
members_parts {interface} (g.fields {i = i} {m = m} {n = n} {k = k} {mods = mods} {ty = ty} {vs = vs} {ms = ms} {g = f} {h = h} dm dt v d) r l =
    a_member r interface (led_inside i (modifiers_lead dm (type_heads dt))) (member_reads r interface dm (type_heads dt) ∙ fields_read r interface (first_at i) mods dt v (omega arith) (omega arith))
    (omega (arith, modifiers_take dm, type_takes dt, variables_take v)) (fields_listed (first_at i) mods ty vs ms) refl (members_parts d r (omega arith))
members_parts {interface} (g.method {t = t} {i = i} {m = m} {n = n} {k = k} {l = j} {o = o} {mods = mods} {ty = ty} {d = dp} {g = f} {h = h} dm c dr e ps ts b z d) r l =
    a_member r interface (led_inside i (modifiers_lead dm (result_heads dr)))
    (member_reads r interface dm (result_heads dr) ∙ method_reads r interface (first_at i) mods dr refl e c (omega arith) (parameters_open ps) (method_rest_reads ps ts b interface z r (omega arith) (omega arith) (first_at i) mods ty t.word))
    (omega (arith, modifiers_take dm, result_takes dr, parameters_take ps, names_behind_take ts, body_takes b)) refl refl (members_parts d r (omega arith))
members_parts {interface} (g.constructor {t = t} {u = u} {v = v} {i = i} {n = n} {k = k} {l = j} {o = o} {p = p} {mods = mods} {d = dp} {f = call_high} {g = f} {h = h} c dm y e ps ts q df ds w d) r l =
    a_member r interface (led_inside i (modifiers_lead dm (ap heads e)))
    (ap (λ c. member r c i) c ∙ member_reads r false dm (ap heads e) ∙ constructor_behind r (first_at i) mods t n e y (parameters_open ps) (constructor_reads ps ts q df ds w r (omega arith) (omega arith) (omega arith) (first_at i) mods t.word))
    (omega (arith, modifiers_take dm, parameters_take ps, names_behind_take ts, first_takes df, statements_take ds)) refl refl (members_parts d r (omega arith))

pub members_take : {interface : Bool} {i a : Lexemes} {ms : List PlainMember} {h : ℕ} → g.Members interface i a ms h → length a < length i
members_take (g.no_member e) = omega arith
members_take (g.semicolon {t = t} {m = m} {a = a} e d) = omega (arith, members_take d)
members_take (g.static_block {t = t} {m = m} {n = n} {a = a} c e b d) = omega (arith, block_takes b, members_take d)
members_take (g.fields {i = i} {m = m} {n = n} {k = k} {a = a} dm dt v d) = omega (arith, modifiers_take dm, type_takes dt, variables_take v, members_take d)
members_take (g.method {t = t} {i = i} {m = m} {n = n} {k = k} {l = l} {o = o} {a = a} dm c dr e ps ts b z d) =
    omega (arith, modifiers_take dm, result_takes dr, parameters_take ps, names_behind_take ts, body_takes b, members_take d)
members_take (g.constructor {t = t} {u = u} {v = v} {i = i} {n = n} {k = k} {l = l} {o = o} {p = p} {a = a} c dm y e ps ts q df ds w d) =
    omega (arith, modifiers_take dm, parameters_take ps, names_behind_take ts, first_takes df, statements_take ds, members_take d)

pub members_read : {interface : Bool} {i a : Lexemes} {ms : List PlainMember} {h : ℕ} → g.Members interface i a ms h → (r : ℕ) → h ≤ suc (suc r) → members r interface i ≡ (Ok (ms, h), a)
unfolding members
members_read {interface} {i = i} {a = a} {ms = ms} {h = h} d r l = let p : MembersParts r interface i a ms h = members_parts d r l in
    bind (many_reads p.many (length i) (omega arith) [] 0 ∙ read_as (p.last ∷ a) refl (omega arith)) _ (bind (expect_reads mark.RightBrace site.Elsewhere p.last a p.closes) _ refl)
