-- What elaboration makes of a statement is well typed.
use Rattle.std.proofs.Common.{◌≡◌, refl, sym, subst, ◌∙◌, ℕ, zero, Bool, true, false, List, [], ◌∷◌, ◌++◌, length, Option, Some, None, lit<}
use Rattle.bcj_parser_trees.specs.Trees as source
use Rattle.bcj_symbolic_trees.specs.Trees as tree
use Rattle.bcj_symbolic_trees.specs.Types.{PlainTy, int_type, bool_type, void_type, class_type, array_type, PlainArg, given, null_arg}
use Rattle.bcj_symbolic_trees.specs.Units.{PlainPair}
use Rattle.bcj_symbolic_check.specs.Judgements.{Frame}
use Rattle.bcj_symbolic_check.specs.Typing as typing
use Rattle.bcj_symbolic_check.specs.Typing.{Each, each_of_none, each_of_more, HasElement, IsValue, IsThis, At, at_first, at_next, Step, same, from_null, class_reference, array_reference, HasType, EachHasType, HasRule, HaveRules, CatchesHaveRules}
use Rattle.bcj_decl_rules.specs.World.{Named, World, has_type, type_of}
use Rattle.bcj_decl_rules.specs.Subtypes.{Fits}
use Rattle.bcj_typing_rules.specs.declared.kind.Kind.TheVariants as kind
use Rattle.bcj_typing_rules.specs.Premises.{Need, need, earliest_missing}
use Rattle.bcj_typing_rules.specs.Context.{Local, Context, world_at, in_a_loop, with_local, with_locals, is_new_local, is_known}
use Rattle.bcj_typing_rules.specs.Operators.{is_bool, is_value}
use Rattle.bcj_typing_rules.specs.Casting.{uses}
use Rattle.bcj_typing_rules.specs.Expressions.{Typing, steps_in, trees_in}
use Rattle.bcj_typing_rules.specs.Statements as rule
use Rattle.bcj_typing_rules.specs.Statements.{Effect, Effects, Caught, plainly, block_of, empty_block, first_value, next_local, declares, for_tree, returns_nothing, returns_value, result_steps, throwable, Condition, no_condition, a_condition, Runs, HasEffect, has_effect, ElseHasEffect, RunAll, Catches}
use Rattle.bcj_parser_wellformed.specs.WellFormed.{IsFormedOption, IsFormedStmt, AreFormedStmts, IsFormedElse, AreFormedCatches}
use Rattle.bcj_typing_soundness.specs.World.{IsKnown, IsKnownResult, no_result, a_result, known_type, AreSoundSteps, Covers}
use Rattle.bcj_typing_soundness.specs.Frames.{IsSoundContext, IsHeld, Agrees, IsTyped, GoOn, Holds, IsPart, IsRun, AreRun, AreCaught}
use Rattle.bcj_typing_soundness.specs.Laws as law
use Rattle.bcj_typing_soundness.proofs.Steps.{none_sound, both_sound, covers_left, covers_right, value_of, fits_step, uses_sound}
use Rattle.bcj_typing_soundness.proofs.Known.{written_known}
use Rattle.bcj_typing_soundness.proofs.Variables.{met, class_known}
use Rattle.bcj_typing_soundness.proofs.Calls.{steps_sound}
use Rattle.bcj_typing_soundness.proofs.Operations.{bool_of}
use Rattle.bcj_typing_soundness.proofs.Expressions.{expr_typed, exprs_typed}

-- ---- lists of locals

at_left : {xs : List PlainTy} {i : ℕ} {t : PlainTy} (ys : List PlainTy) → At xs i t → At (xs ++ ys) i t
at_left ys at_first = at_first
at_left ys (at_next h) = at_next (at_left ys h)

at_last : (xs : List PlainTy) (t : PlainTy) → At (xs ++ t ∷ []) (length xs) t
at_last [] t = at_first
at_last (x ∷ xs) t = at_next (at_last xs t)

not_none : {xs : List PlainTy} {t : PlainTy} → At xs zero t → length xs ≡ zero → ⊥
not_none at_first h = cc

goes_nowhere : (types : List PlainTy) → GoOn types types
goes_nowhere types i t h = h

goes_further : {a b d : List PlainTy} → GoOn a b → GoOn b d → GoOn a d
goes_further f g i t h = g i t (f i t h)

each_behind : {A : Type 0} {P : A → Type 0} {xs : List A} {x : A} → Each P xs → P x → Each P (xs ++ x ∷ [])
each_behind each_of_none p = each_of_more p each_of_none
each_behind (each_of_more q rest) p = each_of_more q (each_behind rest p)

-- ---- parts of a body

module _ {w : World} where
  -- a part without locals of its own
  plain_part : {types : List PlainTy} {steps : List PlainPair} → AreSoundSteps w steps → IsPart w types types steps
  plain_part {types} s = record { goes_on = goes_nowhere types; known = λ k. k; sound = s }

  both_parts : {types middle behind : List PlainTy} {xs ys : List PlainPair} → IsPart w types middle xs → IsPart w middle behind ys → IsPart w types behind (xs ++ ys)
  both_parts x y =
      record { goes_on = goes_further x.goes_on y.goes_on; known = λ k. y.known (x.known k); sound = both_sound x.sound y.sound }

  -- a part with a new local
  new_part : {types : List PlainTy} {t : PlainTy} {steps : List PlainPair} → IsKnown w t → AreSoundSteps w steps → IsPart w types (types ++ t ∷ []) steps
  new_part {types} {t} k s = record { goes_on = λ i u h. at_left (t ∷ []) h; known = λ h. each_behind h k; sound = s }

-- ---- contexts

sound_with : {c : Context} {locals : List Local} → IsSoundContext c → Each (λ (l : Local). IsKnown (world_at c) l.ty) locals → IsSoundContext (with_locals c locals)
sound_with s k = record { world = s.world; class = s.class; locals = k; result = s.result }

sound_in_loop : {c : Context} → IsSoundContext c → IsSoundContext (in_a_loop c)
sound_in_loop s = record { world = s.world; class = s.class; locals = s.locals; result = s.result }

agrees_with : {frame : Frame} {c : Context} {locals : List Local} → Agrees frame c → Each (IsHeld frame) locals → Agrees frame (with_locals c locals)
agrees_with a k = record { class = a.class; superclass = a.superclass; this = a.this; locals = k; pairs = a.pairs }

agrees_in_loop : {frame : Frame} {c : Context} → Agrees frame c → Agrees frame (in_a_loop c)
agrees_in_loop a = record { class = a.class; superclass = a.superclass; this = a.this; locals = a.locals; pairs = a.pairs }

-- ---- frames

module _ {frame : Frame} {c : Context} where
  -- a part at the beginning
  holds_first : {types middle behind : List PlainTy} (xs ys : List PlainPair) → GoOn middle behind → Holds frame c types behind (xs ++ ys) → Holds frame c types middle xs
  holds_first xs ys g h =
      record { agrees = h.agrees; result = h.result; this_first = h.this_first; locals = goes_further g h.locals; pairs = covers_left xs ys h.pairs }

  -- a part at the end
  holds_last : {types middle behind : List PlainTy} (xs ys : List PlainPair) → GoOn types middle → Holds frame c types behind (xs ++ ys) → Holds frame c middle behind ys
  holds_last {types} {middle} xs ys g h =
      record {
        agrees = h.agrees;
        result = h.result;
        this_first = λ e. g zero (class_type frame.class) (h.this_first e);
        locals = h.locals;
        pairs = covers_right xs ys h.pairs;
      }

  holds_with : {types behind : List PlainTy} {steps : List PlainPair} {locals : List Local} → Agrees frame (with_locals c locals) → Holds frame c types behind steps → Holds frame (with_locals c locals) types behind steps
  holds_with a h = record { agrees = a; result = h.result; this_first = h.this_first; locals = h.locals; pairs = h.pairs }

  holds_in_loop : {types behind : List PlainTy} {steps : List PlainPair} → Holds frame c types behind steps → Holds frame (in_a_loop c) types behind steps
  holds_in_loop h = record { agrees = agrees_in_loop h.agrees; result = h.result; this_first = h.this_first; locals = h.locals; pairs = h.pairs }

  -- a new local has its type, and isn't `this`
  new_held : {types behind : List PlainTy} {steps : List PlainPair} (name : Named) (t : PlainTy) → GoOn (types ++ t ∷ []) behind → Holds frame c types behind steps → IsHeld frame (next_local types name t)
  new_held {types} name t g h =
      (h.locals (length types) t (g (length types) t (at_last types t)), λ e. not_none (h.this_first e.0) e.1)

  -- behind it
  holds_new : {types behind : List PlainTy} {steps : List PlainPair} (name : Named) (t : PlainTy) → GoOn (types ++ t ∷ []) behind → Holds frame c types behind steps
      → Holds frame (with_local c (next_local types name t)) (types ++ t ∷ []) behind steps
  holds_new {types} name t g h =
      record {
        agrees = agrees_with h.agrees (each_of_more (new_held name t g h) h.agrees.locals);
        result = h.result;
        this_first = λ e. at_left (t ∷ []) (h.this_first e);
        locals = h.locals;
        pairs = h.pairs;
      }

-- ---- statements by their parts

-- a statement that declares nothing
plain_run : {c : Context} {types behind : List PlainTy} {s : tree.PlainStmt} {steps : List PlainPair} → IsSoundContext c → IsPart (world_at c) types behind steps
    → ((frame : Frame) → Holds frame c types behind steps → HasRule frame c.in_loop s) → IsRun c types (plainly c behind s steps)
plain_run sound part rule = record { part = part; locals = sound.locals; agrees = λ frame h. h.agrees; rule = rule }

-- an expression with its steps
evaluate_run : {c : Context} {types : List PlainTy} (t : Typing) → IsSoundContext c → IsTyped c t → IsRun c types (plainly c types (tree.evaluate t.tree) t.steps)
evaluate_run t sound x = plain_run sound (plain_part x.steps) (λ frame h. typing.evaluate (x.has frame h.agrees h.pairs))

-- ---- locals

-- a local that is set where it is declared
declared_run : {c : Context} {types : List PlainTy} {v : tree.PlainExpr} {steps : List PlainPair} {s : PlainArg} (name : Named) (t : PlainTy) → IsSoundContext c → IsKnown (world_at c) t → AreSoundSteps (world_at c) steps
    → ((frame : Frame) → Holds frame c types (types ++ t ∷ []) steps → HasType frame v s) → ((frame : Frame) → Holds frame c types (types ++ t ∷ []) steps → Step frame.pairs s (given t))
    → IsRun c types (declares c types name t v steps)
declared_run {types = types} name t sound k s has step =
    record {
      part = new_part k s;
      locals = each_of_more k sound.locals;
      agrees = λ frame h. agrees_with h.agrees (each_of_more (new_held name t (goes_nowhere (types ++ t ∷ [])) h) h.agrees.locals);
      rule = λ frame h.
          let held = new_held name t (goes_nowhere (types ++ t ∷ [])) h in
          typing.evaluate (typing.set_local held.0 held.1 (has frame h) (step frame h));
    }

-- the type of what a local starts as
abbrev first_type : PlainTy → PlainArg
first_type int_type = given int_type
first_type bool_type = given bool_type
first_type _ = null_arg

first_has : {frame : Frame} (t : PlainTy) → HasType frame (first_value t) (first_type t)
first_has int_type = typing.int_value (record { sfits = lit< tt })
first_has bool_type = typing.bool_value
first_has void_type = typing.null_value
first_has (class_type n) = typing.null_value
first_has (array_type t) = typing.null_value

first_steps : {pairs : List PlainPair} {t : PlainTy} → HasElement t → Step pairs (first_type t) (given t)
first_steps typing.int_element = same
first_steps typing.bool_element = same
first_steps (typing.class_element n) = from_null class_reference
first_steps (typing.array_element h) = from_null array_reference

local_run : {c : Context} {types : List PlainTy} (name : Named) (t : PlainTy) (v : Typing) → IsSoundContext c → IsKnown (world_at c) t → IsTyped (with_local c (next_local types name t)) v → Fits (world_at c) v.type t
    → IsRun c types (declares c types name t v.tree (v.steps ++ uses v.type t))
local_run {types = types} name t v sound k x f =
    declared_run name t sound k (both_sound x.steps (uses_sound x.known (λ r. k) f))
    (λ frame h. x.has frame (holds_new name t (goes_nowhere (types ++ t ∷ [])) h).agrees (covers_left v.steps (uses v.type t) h.pairs))
    (λ frame h. fits_step f (covers_right v.steps (uses v.type t) h.pairs))

bare_run : {c : Context} {types : List PlainTy} (name : Named) (t : PlainTy) → IsSoundContext c → IsKnown (world_at c) t → IsRun c types (declares c types name t (first_value t) [])
bare_run name t sound k = declared_run name t sound k none_sound (λ frame h. first_has t) (λ frame h. first_steps k.value.element)

-- ---- blocks and choices

block_run : {c : Context} {types : List PlainTy} (b : Effects) → IsSoundContext c → AreRun c types b → IsRun c types (plainly c b.types (block_of b.trees) b.steps)
block_run b sound x = plain_run sound x.part (λ frame h. typing.block (x.rules frame h))

empty_run : {c : Context} {types : List PlainTy} → IsSoundContext c → IsRun c types (plainly c types empty_block [])
empty_run sound = plain_run sound (plain_part none_sound) (λ frame h. typing.block typing.no_stmts)

bool_has : {frame : Frame} {e : tree.PlainExpr} {s : PlainArg} → is_bool s ≡ true → HasType frame e s → HasType frame e (given bool_type)
bool_has {frame} {e} {s} b h = subst (λ (x : PlainArg). HasType frame e x) (bool_of s b) h

if_run : {c : Context} {types : List PlainTy} (t : Typing) (a b : Effect) → IsSoundContext c → is_bool t.type ≡ true → IsTyped c t → IsRun c types a → IsRun c a.types b
    → IsRun c types (plainly c b.types (tree.if_else t.tree a.tree b.tree) (t.steps ++ (a.steps ++ b.steps)))
if_run {types = types} t a b sound is x y z =
    plain_run sound (both_parts (plain_part x.steps) (both_parts y.part z.part))
    (λ frame h.
    let rest = holds_last t.steps (a.steps ++ b.steps) (goes_nowhere types) h in
    typing.if_else (bool_has is (x.has frame h.agrees (covers_left t.steps (a.steps ++ b.steps) h.pairs))) (y.rule frame (holds_first a.steps b.steps z.part.goes_on rest))
    (z.rule frame (holds_last a.steps b.steps y.part.goes_on rest)))

-- ---- loops

while_run : {c : Context} {types : List PlainTy} (t : Typing) (b : Effect) → IsSoundContext c → is_bool t.type ≡ true → IsTyped c t → IsRun (in_a_loop c) types b
    → IsRun c types (plainly c b.types (tree.loop false t.tree b.tree tree.no_exprs) (t.steps ++ b.steps))
while_run {types = types} t b sound is x y =
    plain_run sound (both_parts (plain_part x.steps) y.part)
    (λ frame h.
    typing.loop (bool_has is (x.has frame h.agrees (covers_left t.steps b.steps h.pairs))) (y.rule frame (holds_in_loop (holds_last t.steps b.steps (goes_nowhere types) h))) (λ e. cc) typing.none_typed)

do_run : {c : Context} {types : List PlainTy} (t : Typing) (b : Effect) → IsSoundContext c → is_bool t.type ≡ true → IsTyped c t → IsRun (in_a_loop c) types b
    → IsRun c types (plainly c b.types (tree.loop true t.tree b.tree tree.no_exprs) (b.steps ++ t.steps))
do_run t b sound is x y =
    plain_run sound (both_parts y.part (plain_part x.steps))
    (λ frame h.
    typing.loop (bool_has is (x.has frame h.agrees (covers_right b.steps t.steps h.pairs))) (y.rule frame (holds_in_loop (holds_first b.steps t.steps (goes_nowhere b.types) h))) (λ e. refl) typing.none_typed)

-- the condition of a `for`
record IsTested (c : Context) (test : tree.PlainExpr) (steps : List PlainPair) : Type 0 where
  sound : AreSoundSteps (world_at c) steps
  has : (frame : Frame) → Agrees frame c → Covers frame.pairs steps → HasType frame test (given bool_type)

tested : {c : Context} {o : source.PlainOption} {needs : List Need} {test : tree.PlainExpr} {steps : List PlainPair} → IsSoundContext c → Condition c o needs test steps → IsFormedOption o → earliest_missing needs ≡ None
    → IsTested c test steps
tested sound no_condition k h = record { sound = none_sound; has = λ frame a covers. typing.bool_value }
tested {c} sound (a_condition {t = t} x) k h =
    let y = expr_typed c sound x k in
    record { sound = y.steps; has = λ frame a covers. bool_has (met kind.Condition (is_bool t.type) [] h).0 (y.has frame a covers) }

each_has : {frame : Frame} {c : Context} → Agrees frame c → (ts : List Typing) → Each (IsTyped c) ts → Covers frame.pairs (steps_in ts) → EachHasType frame (trees_in ts)
each_has a [] k covers = typing.none_typed
each_has {frame} a (t ∷ ts) (each_of_more x rest) covers =
    typing.more_typed (x.has frame a (covers_left t.steps (steps_in ts) covers)) (each_has a ts rest (covers_right t.steps (steps_in ts) covers))

rules_then : {frame : Frame} {looped : Bool} (ss : List tree.PlainStmt) {s : tree.PlainStmt} → HaveRules frame looped (tree.stmts_from ss) → HasRule frame looped s → HaveRules frame looped (tree.stmts_from (ss ++ s ∷ []))
rules_then [] x y = typing.more_stmts y typing.no_stmts
rules_then (s ∷ ss) (typing.more_stmts x rest) y = typing.more_stmts x (rules_then ss rest y)

for_rule : {frame : Frame} {looped : Bool} (ss : List tree.PlainStmt) {turns : tree.PlainStmt} → HaveRules frame looped (tree.stmts_from ss) → HasRule frame looped turns → HasRule frame looped (for_tree ss turns)
for_rule [] x y = y
for_rule (s ∷ ss) x y = typing.block (rules_then (s ∷ ss) x y)

for_run : {c : Context} {types : List PlainTy} {test : tree.PlainExpr} {steps : List PlainPair} (i : Effects) (us : List Typing) (b : Effect) → IsSoundContext c → AreRun c types i
    → IsTested (with_locals c i.locals) test steps → Each (IsTyped (with_locals c i.locals)) us → IsRun (in_a_loop (with_locals c i.locals)) i.types b
    → IsRun c types (plainly c b.types (for_tree i.trees (tree.loop false test b.tree (trees_in us))) (i.steps ++ (steps ++ (steps_in us ++ b.steps))))
for_run {c} {steps = steps} i us b sound x q y z =
    plain_run sound
    (both_parts x.part (both_parts (plain_part q.sound) (both_parts (plain_part (steps_sound (with_locals c i.locals) (sound_with sound x.locals) us y)) z.part)))
    (λ frame h.
    let before = holds_first i.steps (steps ++ (steps_in us ++ b.steps)) z.part.goes_on h in
    let inside = holds_with (x.agrees frame before) (holds_last i.steps (steps ++ (steps_in us ++ b.steps)) x.part.goes_on h) in
    let behind = holds_last steps (steps_in us ++ b.steps) (goes_nowhere i.types) inside in
    for_rule i.trees (x.rules frame before)
    (typing.loop (q.has frame inside.agrees (covers_left steps (steps_in us ++ b.steps) inside.pairs))
    (z.rule frame (holds_in_loop (holds_last (steps_in us) b.steps (goes_nowhere i.types) behind))) (λ e. cc)
    (each_has behind.agrees us y (covers_left (steps_in us) b.steps behind.pairs))))

-- ---- results and jumps

nothing_is : (r : Option PlainTy) → returns_nothing r ≡ true → r ≡ Some void_type
nothing_is None h = cc
nothing_is (Some void_type) h = refl
nothing_is (Some int_type) h = cc
nothing_is (Some bool_type) h = cc
nothing_is (Some (class_type n)) h = cc
nothing_is (Some (array_type t)) h = cc

nothing_run : {c : Context} {types : List PlainTy} → IsSoundContext c → returns_nothing c.result ≡ true → IsRun c types (plainly c types (tree.return_with tree.absent) [])
nothing_run {c} sound is =
    plain_run sound (plain_part none_sound) (λ frame h. typing.return_nothing (h.result ∙ nothing_is c.result is))

result_value : (r : PlainTy) → returns_value (Some r) ≡ true → is_value (given r) ≡ true
result_value int_type h = refl
result_value bool_type h = refl
result_value void_type h = cc
result_value (class_type n) h = refl
result_value (array_type t) h = refl

known_value : {w : World} {t : PlainTy} → IsKnownResult w t → is_value (given t) ≡ true → IsKnown w t
known_value no_result h = cc
known_value (a_result k) h = k

value_run : {c : Context} {types : List PlainTy} (t : Typing) (r : Option PlainTy) → IsSoundContext c → c.result ≡ r → returns_value r ≡ true → IsTyped c t
    → ((u : PlainTy) → r ≡ Some u → returns_value (Some u) ≡ true → Fits (world_at c) t.type u)
    → IsRun c types (plainly c types (tree.return_with (tree.present t.tree)) (t.steps ++ result_steps t.type r))
value_run t None sound is h x f = cc
value_run t (Some u) sound is h x f =
    let fit = f u refl h in
    let v = result_value u h in
    plain_run sound (plain_part (both_sound x.steps (uses_sound x.known (λ r. known_value (sound.result u is) v) fit)))
    (λ frame k.
    typing.return_value (k.result ∙ is) (value_of (given u) v) (x.has frame k.agrees (covers_left t.steps (uses t.type u) k.pairs)) (fits_step fit (covers_right t.steps (uses t.type u) k.pairs)))

throw_run : {c : Context} {types : List PlainTy} (t : Typing) → IsSoundContext c → IsTyped c t → Fits (world_at c) t.type throwable
    → IsRun c types (plainly c types (tree.throw t.tree) (t.steps ++ uses t.type throwable))
throw_run {c} t sound x f =
    plain_run sound (plain_part (both_sound x.steps (uses_sound x.known (λ r. class_known c sound _ sound.world.throwable) f)))
    (λ frame h. typing.throw (x.has frame h.agrees (covers_left t.steps (uses t.type throwable) h.pairs)) (fits_step f (covers_right t.steps (uses t.type throwable) h.pairs)))

break_run : {c : Context} {types : List PlainTy} → IsSoundContext c → c.in_loop ≡ true → IsRun c types (plainly c types tree.break_loop [])
break_run sound is =
    plain_run sound (plain_part none_sound) (λ frame h. subst (λ (b : Bool). HasRule frame b tree.break_loop) (sym is) typing.break_loop)

continue_run : {c : Context} {types : List PlainTy} → IsSoundContext c → c.in_loop ≡ true → IsRun c types (plainly c types tree.continue_loop [])
continue_run sound is =
    plain_run sound (plain_part none_sound) (λ frame h. subst (λ (b : Bool). HasRule frame b tree.continue_loop) (sym is) typing.continue_loop)

-- ---- catches

try_run : {c : Context} {types : List PlainTy} (b : Effects) (k : Caught) → IsSoundContext c → AreRun c types b → AreCaught c b.types k
    → IsRun c types (plainly c k.types (tree.try_catch (tree.stmts_from b.trees) (tree.catches_from k.catches)) (b.steps ++ k.steps))
try_run b k sound x y =
    plain_run sound (both_parts x.part y.part)
    (λ frame h. typing.try_catch (x.rules frame (holds_first b.steps k.steps y.part.goes_on h)) (y.rules frame (holds_last b.steps k.steps x.part.goes_on h)))

no_caught : {c : Context} {types : List PlainTy} → AreCaught c types (record { types = types; catches = []; steps = []; needs = [] })
no_caught = record { part = plain_part none_sound; rules = λ frame h. typing.no_catches }

more_caught : {c : Context} {types : List PlainTy} {needs : List Need} (class name : Named) (b : Effects) (k : Caught) → IsSoundContext c → has_type (world_at c) class ≡ true → Fits (world_at c) (given (class_type class)) throwable
    → AreRun (with_local c (next_local types name (class_type class))) (types ++ class_type class ∷ []) b → AreCaught c b.types k
    → AreCaught c types (record {
      types = k.types;
      catches = record { class = class; local = length types; body = tree.stmts_from b.trees } ∷ k.catches;
      steps = uses (given (class_type class)) throwable ++ (b.steps ++ k.steps);
      needs = needs;
    })
more_caught {c} {types} class name b k sound there f x y =
    let known = class_known c sound class there in
    let steps = uses (given (class_type class)) throwable in
    record {
      part = both_parts (new_part known (uses_sound (known_type (a_result known)) (λ r. class_known c sound _ sound.world.throwable) f)) (both_parts x.part y.part);
      rules = λ frame h.
          let rest = holds_last steps (b.steps ++ k.steps) (goes_nowhere types) h in
          let body = goes_further x.part.goes_on y.part.goes_on in
          let held = new_held name (class_type class) body h in
          typing.more_catches (sound.world.named class there) (fits_step f (covers_left steps (b.steps ++ k.steps) h.pairs)) held.0 held.1 same
          (x.rules frame (holds_first b.steps k.steps y.part.goes_on (holds_new name (class_type class) body rest)))
          (y.rules frame (holds_last b.steps k.steps (goes_further (λ i t m. at_left (class_type class ∷ []) m) x.part.goes_on) rest));
    }

-- ---- several statements

none_run : {c : Context} {types : List PlainTy} → IsSoundContext c → AreRun c types (record { locals = c.locals; types = types; trees = []; steps = [] })
none_run sound =
    record { part = plain_part none_sound; locals = sound.locals; agrees = λ frame h. h.agrees; rules = λ frame h. typing.no_stmts }

more_run : {c : Context} {types : List PlainTy} (e : Effect) (r : Effects) → IsRun c types e → AreRun (with_locals c e.locals) e.types r
    → AreRun c types (record { locals = r.locals; types = r.types; trees = e.tree ∷ r.trees; steps = e.steps ++ r.steps })
more_run e r x y =
    record {
      part = both_parts x.part y.part;
      locals = y.locals;
      agrees = λ frame h. let first = holds_first e.steps r.steps y.part.goes_on h in y.agrees frame (holds_with (x.agrees frame first) (holds_last e.steps r.steps x.part.goes_on h));
      rules = λ frame h.
          let first = holds_first e.steps r.steps y.part.goes_on h in
          typing.more_stmts (x.rule frame first) (y.rules frame (holds_with (x.agrees frame first) (holds_last e.steps r.steps x.part.goes_on h)));
    }

-- ---- statements

mutual
  stmt_run : {c : Context} {types : List PlainTy} {s : source.PlainStmt} {needs : List Need} {e : Effect} → Runs c types s needs e → IsSoundContext c → IsFormedStmt s → earliest_missing needs ≡ None → IsRun c types e
  stmt_run {c} (rule.local_with {types = types} {ty = ty} {name = name} {t = t} {fits = fits} x d) sound k h =
      let m = met kind.Name (is_known c ty) (need kind.Assign fits ∷ need kind.Local (is_new_local c name) ∷ []) h in
      let n = met kind.Assign fits (need kind.Local (is_new_local c name) ∷ []) m.1 in
      let known = written_known k.0 m.0 in
      local_run name (type_of ty) t sound known (expr_typed (with_local c (next_local types name (type_of ty))) (sound_with sound (each_of_more known sound.locals)) x k.2) (d.0 n.0)
  stmt_run {c} (rule.local_without {ty = ty} {name = name}) sound k h =
      bare_run name (type_of ty) sound (written_known k.0 (met kind.Name (is_known c ty) (need kind.Local (is_new_local c name) ∷ []) h).0)
  stmt_run (rule.block {b = b} x) sound k h = block_run b sound (all_run x sound k)
  stmt_run rule.empty sound k h = empty_run sound
  stmt_run {c} (rule.evaluate {t = t} x) sound k h = evaluate_run t sound (expr_typed c sound x k)
  stmt_run {c} (rule.if_else {t = t} {a = a} {b = b} x y z) sound k h =
      if_run t a b sound (met kind.Condition (is_bool t.type) [] h).0 (expr_typed c sound x k.0) (has_run y sound k.1) (else_run z sound k.2)
  stmt_run {c} (rule.while_loop {t = t} {b = b} x y) sound k h =
      while_run t b sound (met kind.Condition (is_bool t.type) [] h).0 (expr_typed c sound x k.0) (has_run y (sound_in_loop sound) k.1)
  stmt_run {c} (rule.do_loop {t = t} {b = b} y x) sound k h =
      do_run t b sound (met kind.Condition (is_bool t.type) [] h).0 (expr_typed c sound x k.1) (has_run y (sound_in_loop sound) k.0)
  stmt_run {c} (rule.for_loop {i = i} {us = us} {b = b} x q y z) sound k h =
      let before = all_run x sound k.0 in
      let inside = sound_with sound before.locals in
      for_run i us b sound before (tested inside q k.1 h) (exprs_typed (with_locals c i.locals) inside y k.2) (has_run z (sound_in_loop inside) k.3)
  stmt_run {c} rule.return_nothing sound k h = nothing_run sound (met kind.Return (returns_nothing c.result) [] h).0
  stmt_run {c} (rule.return_value {t = t} {fits = fits} x d) sound k h =
      let m = met kind.Assign fits (need kind.Return (returns_value c.result) ∷ []) h in
      value_run t c.result sound refl (met kind.Return (returns_value c.result) [] m.1).0 (expr_typed c sound x k) (d.0 m.0)
  stmt_run {c} (rule.throw {t = t} {fits = fits} x d) sound k h = throw_run t sound (expr_typed c sound x k) (d.0 (met kind.Throwable fits [] h).0)
  stmt_run {c} rule.break_loop sound k h = break_run sound (met kind.Jump c.in_loop [] h).0
  stmt_run {c} rule.continue_loop sound k h = continue_run sound (met kind.Jump c.in_loop [] h).0
  stmt_run (rule.try_catch {b = b} {k = caught} x y) sound k h = try_run b caught sound (all_run x sound k.0) (all_caught y sound k.1 h)

  has_run : {c : Context} {types : List PlainTy} {s : source.PlainStmt} {e : Effect} → HasEffect c types s e → IsSoundContext c → IsFormedStmt s → IsRun c types e
  has_run (has_effect x h) sound k = stmt_run x sound k h

  else_run : {c : Context} {types : List PlainTy} {s : source.PlainElse} {e : Effect} → ElseHasEffect c types s e → IsSoundContext c → IsFormedElse s → IsRun c types e
  else_run rule.no_else sound k = empty_run sound
  else_run (rule.else_with x) sound k = has_run x sound k

  -- several statements
  pub all_run : {c : Context} {types : List PlainTy} {body : source.PlainStmts} {b : Effects} → RunAll c types body b → IsSoundContext c → AreFormedStmts body → AreRun c types b
  all_run rule.no_stmts sound k = none_run sound
  all_run (rule.more_stmts {e = e} {r = r} x y) sound k =
      let first = has_run x sound k.0 in more_run e r first (all_run y (sound_with sound first.locals) k.1)

  all_caught : {c : Context} {types : List PlainTy} {catches : source.PlainCatches} {k : Caught} → Catches c types catches k → IsSoundContext c → AreFormedCatches catches → earliest_missing k.needs ≡ None → AreCaught c types k
  all_caught rule.no_catches sound k h = no_caught
  all_caught {c} (rule.more_catches {types = types} {class = class} {name = name} {fits = fits} {b = b} {k = rest} d x y) sound k h =
      let m = met kind.Name (has_type (world_at c) class) (need kind.Local (is_new_local c name) ∷ need kind.Throwable fits ∷ rest.needs) h in
      let n = met kind.Local (is_new_local c name) (need kind.Throwable fits ∷ rest.needs) m.1 in
      let o = met kind.Throwable fits rest.needs n.1 in
      more_caught class name b rest sound m.0 (d.0 o.0) (all_run x (sound_with sound (each_of_more (class_known c sound class m.0) sound.locals)) k.0.2) (all_caught y sound k.1 o.1)

-- ---- laws

pub each_statement : law.StatementsTyped
each_statement c types s e sound k x = has_run x sound k

pub each_body : law.BodiesTyped
each_body c types body b sound k x = all_run x sound k
