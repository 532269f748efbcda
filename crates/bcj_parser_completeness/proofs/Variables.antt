-- Declarations of variables
use Rattle.std.proofs.Common.{◌≡◌, refl, ap, sym, ◌∙◌, ℕ, zero, suc, ◌≤◌, max, true, false, not, List, ◌∷◌, Ok, arith}
use Rattle.bcj_parser_trees.specs.declared.names.Base.TheVariants as base
use Rattle.bcj_parser_trees.specs.declared.names.TypeName.{TypeName}
use Rattle.bcj_parser_trees.specs.Trees as tree
use Rattle.bcj_parser_rules.specs.declared.kind.Mark.TheVariants as mark
use Rattle.bcj_parser_rules.specs.declared.kind.TypeBeginning.{TypeBeginning}
use Rattle.bcj_parser_rules.specs.declared.kind.TypeBeginning.TheVariants as typed
use Rattle.bcj_parser_rules.specs.declared.terminal.Terminal.TheVariants as terminal
use Rattle.bcj_parser_rules.specs.declared.stop.Site.{Site}
use Rattle.bcj_parser_rules.specs.declared.stop.Site.TheVariants as site
use Rattle.bcj_parser_rules.specs.Lexemes.{Lexeme, Lexemes}
use Rattle.bcj_parser_rules.specs.Grammar as g
use Rattle.bcj_parser_rules.specs.Lexemes.{first_at}
use Rattle.bcj_parser_rules.specs.Grammar.{Variable, VariableRead, Variables, TypeRead, Brackets, no_pair, pair, int_base, boolean_base, named_base}
use Rattle.bcj_parser_rules.specs.Lexemes.{terminal_at}
use Rattle.bcj_parser_rules.specs.Marks.{is_mark}
use Rattle.bcj_parser_rules.specs.function.Kinds.{type_beginning}
use Rattle.bcj_parser_rules.specs.function.Steps.{Outcome, Parser, sees}
use Rattle.bcj_parser_rules.specs.function.Expressions.{Begin, expression}
use Rattle.bcj_parser_rules.specs.function.Statements.{Nodes, variable_behind, further_variable, site_of_variables, variables_behind, variables, local_nodes, locals_of_type, typed_locals, array_locals, named_local, local_by, local_or}
use Rattle.bcj_parser_completeness.proofs.Terminals.{seen, unseen, apart}
use Rattle.bcj_parser_completeness.proofs.Steps.{bind, taking, passing, expect_reads, named_reads}
use Rattle.bcj_parser_completeness.proofs.Lists.{Line, line_last, line_more, line_from, line_reads}
use Rattle.bcj_parser_completeness.proofs.Follows.{closes, closed_at, Stops}
use Rattle.bcj_parser_completeness.proofs.Climbing.{at_room}
use Rattle.bcj_parser_completeness.proofs.Types.{brackets_read, type_reads, number_as}
use Rattle.bcj_parser_completeness.proofs.Lengths.{variable_takes}
use Rattle.bcj_parser_completeness.proofs.Shapes.{tall}
use Rattle.bcj_parser_completeness.proofs.Expressions.{reach}
use Rattle.bcj_parser_completeness.proofs.Evaluations.{by_name}

-- a declared name and what is read behind it
pub record VariableParts (n : ℕ) (i a : Lexemes) (v : Variable) (h : ℕ) : Type 0 where
  pub name : Lexeme
  pub behind : Lexemes
  pub starts : i ≡ name ∷ behind
  pub identifier : name.terminal ≡ terminal.Identifier
  pub reads : variable_behind (expression n) name.word behind ≡ (Ok (v, h), a)
  pub unopened : sees mark.LeftParen behind ≡ false

plain_variable : (n : ℕ) (x : List ℕ) (a : Lexemes) → closes (terminal_at a) ≡ true → variable_behind (expression n) x a ≡ (Ok (record { name = x; init = tree.absent }, 0), a)
unfolding variable_behind
plain_variable n x a c = passing (apart closes mark.Assign (terminal_at a) (sym (ap not c))) _ refl

variable_parts : {i a : Lexemes} {v : Variable} {h : ℕ} → VariableRead i a v h → (n : ℕ) → h ≤ n → closes (terminal_at a) ≡ true → VariableParts n i a v h
unfolding variable_behind
variable_parts (g.no_initialiser {t = t} {a = a} e) n l c = record {
  name = t;
  behind = a;
  starts = refl;
  identifier = e;
  reads = plain_variable n t.word a c;
  unopened = apart closes mark.LeftParen (terminal_at a) (sym (ap not c));
}
variable_parts (g.initialiser {t = t} {u = u} {m = m} {a = a} {x = x} {h = h} e f d) n l c =
    let w : Stops 1 x a = closed_at 1 x a (omega arith) c in
    record {
      name = t;
      behind = u ∷ m;
      starts = refl;
      identifier = e;
      reads = taking (seen mark.Assign u m f) _ (bind (at_room n 1 (tall d) l (λ j z. reach d j 1 (omega arith) (omega arith) z w) w.low) _ refl);
      unopened = unseen mark.LeftParen (u ∷ m) f refl;
    }

further_reads : (n : ℕ) (t : Lexeme) (j : Lexemes) → t.terminal ≡ terminal.Identifier → further_variable (expression n) (t ∷ j) ≡ variable_behind (expression n) t.word j
unfolding further_variable
further_reads n t j e = bind (named_reads site.Variable t j e) _ refl

pub record VariablesParts (n : ℕ) (i a : Lexemes) (vs : List Variable) (h : ℕ) : Type 0 where
  pub name : Lexeme
  pub behind : Lexemes
  pub starts : i ≡ name ∷ behind
  pub identifier : name.terminal ≡ terminal.Identifier
  pub line : Line (variable_behind (expression n) name.word) (further_variable (expression n)) terminal.Semicolon i behind a vs h
  pub unopened : sees mark.LeftParen behind ≡ false

pub variables_parts : {i a : Lexemes} {vs : List Variable} {h : ℕ} → Variables i a vs h → (n : ℕ) → h ≤ n → VariablesParts n i a vs h
variables_parts (g.last_variable {t = t} {i = i} {a = a} {v = v} {h = h} d e) n l =
    let p : VariableParts n i (t ∷ a) v h = variable_parts d n l (ap closes e) in
    record {
      name = p.name;
      behind = p.behind;
      starts = p.starts;
      identifier = p.identifier;
      line = line_last (further_variable (expression n)) i p.behind p.reads (omega (arith, variable_takes d)) e refl;
      unopened = p.unopened;
    }
variables_parts (g.more_variables {t = t} {i = i} {m = m} {a = a} {v = v} {vs = vs} {g = f} {h = h} d e ds) n l =
    let p : VariableParts n i (t ∷ m) v f = variable_parts d n (omega arith) (ap closes e) in
    let q : VariablesParts n m a vs h = variables_parts ds n (omega arith) in
    record {
      name = p.name;
      behind = p.behind;
      starts = p.starts;
      identifier = p.identifier;
      line = line_more i p.behind p.reads (omega (arith, variable_takes d)) e
          (line_from (further_variable (expression n)) m m q.line (ap (further_variable (expression n)) q.starts ∙ further_reads n q.name q.behind q.identifier) (omega arith));
      unopened = p.unopened;
    }

pub variables_behind_read : (n : ℕ) (w : Site) (x : List ℕ) {from i a : Lexemes} {vs : List Variable} {h : ℕ} → Line (variable_behind (expression n) x) (further_variable (expression n)) terminal.Semicolon from i a vs h
    → variables_behind (expression n) w x i ≡ (Ok (vs, h), a)
unfolding variables_behind
variables_behind_read n w x {a = a} {vs = vs} r = bind (line_reads r) _ (bind (expect_reads mark.Semicolon (site_of_variables w vs) r.last a r.closes) _ refl)

variables_read : {i a : Lexemes} {vs : List Variable} {h : ℕ} → Variables i a vs h → (n : ℕ) → h ≤ n → (w : Site) → variables (expression n) w i ≡ (Ok (vs, h), a)
unfolding variables
variables_read {i = i} {a = a} {vs = vs} {h = h} d n l w = let p : VariablesParts n i a vs h = variables_parts d n l in
    ap (variables (expression n) w) p.starts ∙ bind (named_reads site.TypeName p.name p.behind p.identifier) _ (variables_behind_read n w p.name.word p.line)

-- the first token is a name
variables_begin : {i a : Lexemes} {vs : List Variable} {h : ℕ} → Variables i a vs h → terminal_at i ≡ terminal.Identifier
variables_begin (g.last_variable (g.no_initialiser e) k) = e
variables_begin (g.last_variable (g.initialiser e f d) k) = e
variables_begin (g.more_variables (g.no_initialiser e) k ds) = e
variables_begin (g.more_variables (g.initialiser e f d) k ds) = e

locals_of_type_read : (n : ℕ) (w : Site) (at : ℕ) (ty : TypeName) {i a : Lexemes} {vs : List Variable} {h : ℕ} → Variables i a vs h → h ≤ n → locals_of_type n w at ty i ≡ (Ok (local_nodes at ty vs, suc (max ty.dims h)), a)
unfolding locals_of_type
locals_of_type_read n w at ty d l = bind (variables_read d n l w) _ refl

by_type : (n : ℕ) (w : Site) (evaluation : Begin → Parser Nodes) (t : Lexeme) (m : Lexemes) {o : Outcome Nodes} (k : TypeBeginning) → type_beginning t.terminal ≡ k → local_by n w evaluation t.at k (t ∷ m) ≡ o → local_or n w evaluation (t ∷ m) ≡ o
unfolding local_or
by_type n w evaluation t m k e h = ap (λ k. local_by n w evaluation t.at k (t ∷ m)) e ∙ h

typed_locals_read : (n : ℕ) (w : Site) (at : ℕ) {i m a : Lexemes} {ty : TypeName} {vs : List Variable} {h : ℕ} → TypeRead i m ty → Variables m a vs h → ty.dims ≤ n → h ≤ n → typed_locals n w at i ≡ (Ok (local_nodes at ty vs, suc (max ty.dims h)), a)
unfolding typed_locals
typed_locals_read n w at {m = m} {ty = ty} r d p l = bind (type_reads r n site.Elsewhere p (unseen mark.LeftBracket m (variables_begin d) refl)) _ (locals_of_type_read n w at ty d l)

array_locals_read : (n : ℕ) (w : Site) (at : ℕ) (x : List ℕ) {i m a : Lexemes} {d : ℕ} {vs : List Variable} {h : ℕ} → Brackets i m d → Variables m a vs h → suc d ≤ suc n → h ≤ suc n
    → array_locals n w at x i ≡ (Ok (local_nodes at (record { base = base.Named x; dims = suc d }) vs, suc (max (suc d) h)), a)
unfolding array_locals
array_locals_read n w at x {m = m} {d = d} b v p l =
    bind (brackets_read b site.Elsewhere n 1 (omega arith) (unseen mark.LeftBracket m (variables_begin v) refl) ∙ number_as m (omega arith)) _ (locals_of_type_read (suc n) w at (record { base = base.Named x; dims = suc d }) v l)

named_locals_read : (n : ℕ) (w : Site) (evaluation : Begin → Parser Nodes) (at : ℕ) (x : List ℕ) {i m a : Lexemes} {d : ℕ} {vs : List Variable} {h : ℕ} → Brackets i m d → Variables m a vs h → d ≤ n → h ≤ n
    → named_local n w evaluation at x i ≡ (Ok (local_nodes at (record { base = base.Named x; dims = d }) vs, suc (max d h)), a)
unfolding named_local
named_locals_read n w evaluation at x (no_pair {a = i}) v p l = taking (ap (is_mark mark.Identifier) (variables_begin v)) _ (locals_of_type_read n w at (record { base = base.Named x; dims = 0 }) v l)
named_locals_read zero w evaluation at x (pair {t = t} {u = u} {m = m} e f b) v p l = absurd (omega arith)
named_locals_read (suc n) w evaluation at x (pair {t = t} {u = u} {m = m} e f b) v p l =
    passing (unseen mark.Identifier (t ∷ u ∷ m) e refl) _ (taking (seen mark.LeftBracket t (u ∷ m) e) _ (taking (seen mark.RightBracket u m f) _ (array_locals_read n w at x b v p l)))

pub locals_read : {i m a : Lexemes} {ty : TypeName} {vs : List Variable} {h : ℕ} → TypeRead i m ty → Variables m a vs h → (n : ℕ) (w : Site) (evaluation : Begin → Parser Nodes) → ty.dims ≤ n → h ≤ n
    → local_or n w evaluation i ≡ (Ok (local_nodes (first_at i) ty vs, suc (max ty.dims h)), a)
locals_read (g.type_read {t = t} {m = m} (int_base e) b) v n w evaluation p l = by_type n w evaluation t m typed.Int (ap type_beginning e) (typed_locals_read n w t.at (g.type_read (int_base e) b) v p l)
locals_read (g.type_read {t = t} {m = m} (boolean_base e) b) v n w evaluation p l = by_type n w evaluation t m typed.Bool (ap type_beginning e) (typed_locals_read n w t.at (g.type_read (boolean_base e) b) v p l)
locals_read (g.type_read {t = t} {m = m} (named_base e) b) v n w evaluation p l = by_name n w evaluation t m e (named_locals_read n w evaluation t.at t.word b v p l)
