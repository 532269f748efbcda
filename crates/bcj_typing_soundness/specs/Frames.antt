-- A frame of the symbolic typing that agrees with the context of a body, and what each part of the body then is.
use Rattle.std.specs.Prelude.{◌≡◌, ℕ, zero, true, List, Option, None, Some}
use Rattle.bcj_symbolic_trees.specs.Trees as tree
use Rattle.bcj_symbolic_trees.specs.Types.{PlainTy, class_type, PlainArg, given}
use Rattle.bcj_symbolic_trees.specs.Units.{PlainPair}
use Rattle.bcj_symbolic_check.specs.Judgements.{Frame}
use Rattle.bcj_symbolic_check.specs.Typing.{Each, IsListed, IsValue, Step, At, IsThis, HasType, HasPlaceType, HasRule, HaveRules, CatchesHaveRules}
use Rattle.bcj_decl_rules.specs.World.{World, has_type}
use Rattle.bcj_decl_rules.specs.Subtypes.{Subtype}
use Rattle.bcj_typing_rules.specs.Context.{Local, Context, world_at, has_this, superclass_at, with_locals}
use Rattle.bcj_typing_rules.specs.Expressions.{Typing, Placing, set_place}
use Rattle.bcj_typing_rules.specs.Statements.{Effect, Effects, Caught}
use Rattle.bcj_typing_soundness.specs.World.{IsKnown, IsKnownResult, IsKnownArg, WorldIsSound, AreSoundSteps, Covers}

-- the type that holds a body is there, and so are the types of its locals and its result
pub record IsSoundContext (c : Context) : Type 0 where
  pub world : WorldIsSound c.units
  pub class : has_type (world_at c) c.class ≡ true
  pub locals : Each (λ (l : Local). IsKnown (world_at c) l.ty) c.locals
  pub result : (t : PlainTy) → c.result ≡ Some t → IsKnownResult (world_at c) t

-- a local has its type by its number, and isn't `this`
abbrev pub IsHeld : Frame → Local → Type 0
IsHeld frame l = At frame.locals l.number l.ty × ¬ IsThis frame l.number

-- The frame has the context's class, its locals and `this`, and each pair of it is a step to a supertype.
pub record Agrees (frame : Frame) (c : Context) : Type 0 where
  pub class : frame.class ≡ c.class
  pub superclass : frame.superclass ≡ superclass_at c
  pub this : has_this c ≡ true → (frame.has_this ≡ true) × At frame.locals zero (class_type c.class)
  pub locals : Each (IsHeld frame) c.locals
  pub pairs : (p : PlainPair) → IsListed p frame.pairs → Subtype (world_at c) p.from p.to

-- ---- expressions

-- an expression's type is there, and in each frame that agrees and holds its steps its tree has it
pub record IsTyped (c : Context) (t : Typing) : Type 0 where
  pub known : IsKnownArg (world_at c) t.type
  pub steps : AreSoundSteps (world_at c) t.steps
  pub has : (frame : Frame) → Agrees frame c → Covers frame.pairs t.steps → HasType frame t.tree t.type

-- what is evaluated before a place
pub data IsFirst (frame : Frame) : Option tree.PlainExpr → Type 0 where
  nothing_first : IsFirst frame None
  first_typed : {e : tree.PlainExpr} {t : PlainArg} → HasType frame e t → IsFirst frame (Some e)

-- a place that may be assigned can be set and updated
pub record IsPlaced (c : Context) (p : Placing) : Type 0 where
  pub known : IsKnown (world_at c) p.type
  pub steps : AreSoundSteps (world_at c) p.steps
  pub first : (frame : Frame) → Agrees frame c → Covers frame.pairs p.steps → IsFirst frame p.first
  pub place : (frame : Frame) → Agrees frame c → Covers frame.pairs p.steps → p.assignable ≡ true → HasPlaceType frame p.place p.type
  pub sets : (frame : Frame) → Agrees frame c → Covers frame.pairs p.steps → p.assignable ≡ true → (v : tree.PlainExpr) (s : PlainArg) → HasType frame v s
      → Step frame.pairs s (given p.type) → IsValue s → HasType frame (set_place p.place v) (given p.type)

-- ---- statements

-- the types of locals go on in others
abbrev pub GoOn : List PlainTy → List PlainTy → Type 0
GoOn types locals = (i : ℕ) (t : PlainTy) → At types i t → At locals i t

-- `this` stands first where there is one
abbrev pub HasThisFirst : Frame → List PlainTy → Type 0
HasThisFirst frame types = frame.has_this ≡ true → At types zero (class_type frame.class)

-- a frame of the body with these types of locals so far, and these behind a part of it with these steps
pub record Holds (frame : Frame) (c : Context) (types behind : List PlainTy) (steps : List PlainPair) : Type 0 where
  pub agrees : Agrees frame c
  pub result : frame.result ≡ c.result
  pub this_first : HasThisFirst frame types
  pub locals : GoOn behind frame.locals
  pub pairs : Covers frame.pairs steps

-- what holds of each part of a body, whatever its tree
pub record IsPart (w : World) (types behind : List PlainTy) (steps : List PlainPair) : Type 0 where
  pub goes_on : GoOn types behind
  pub known : Each (IsKnown w) types → Each (IsKnown w) behind
  pub sound : AreSoundSteps w steps

-- a statement's tree has a rule in each frame that holds, and the frame agrees with the context behind it
pub record IsRun (c : Context) (types : List PlainTy) (e : Effect) : Type 0 where
  pub part : IsPart (world_at c) types e.types e.steps
  pub locals : Each (λ (l : Local). IsKnown (world_at c) l.ty) e.locals
  pub agrees : (frame : Frame) → Holds frame c types e.types e.steps → Agrees frame (with_locals c e.locals)
  pub rule : (frame : Frame) → Holds frame c types e.types e.steps → HasRule frame c.in_loop e.tree

-- the same of several statements
pub record AreRun (c : Context) (types : List PlainTy) (e : Effects) : Type 0 where
  pub part : IsPart (world_at c) types e.types e.steps
  pub locals : Each (λ (l : Local). IsKnown (world_at c) l.ty) e.locals
  pub agrees : (frame : Frame) → Holds frame c types e.types e.steps → Agrees frame (with_locals c e.locals)
  pub rules : (frame : Frame) → Holds frame c types e.types e.steps → HaveRules frame c.in_loop (tree.stmts_from e.trees)

-- the same of catches
pub record AreCaught (c : Context) (types : List PlainTy) (k : Caught) : Type 0 where
  pub part : IsPart (world_at c) types k.types k.steps
  pub rules : (frame : Frame) → Holds frame c types k.types k.steps → CatchesHaveRules frame c.in_loop (tree.catches_from k.catches)
