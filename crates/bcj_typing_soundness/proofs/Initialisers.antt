-- Initialisers of fields and of classes are typed.
use Rattle.std.proofs.Common.{◌≡◌, refl, sym, subst, ◌∙◌, ℕ, Bool, true, false, not, List, [], ◌∷◌, ◌++◌, Option, Some, None, if◌then◌else◌}
use Rattle.bcj_parser_trees.specs.declared.names.Mods.{Mods}
use Rattle.bcj_parser_trees.specs.declared.names.TypeName.{TypeName}
use Rattle.bcj_parser_trees.specs.Trees as source
use Rattle.bcj_parser_trees.specs.Trees.{PlainMember, PlainType, PlainUnit}
use Rattle.bcj_parser_wellformed.specs.WellFormed.{IsFormedExpr}
use Rattle.bcj_symbolic_trees.specs.Trees as tree
use Rattle.bcj_symbolic_trees.specs.Trees.{stmts_from}
use Rattle.bcj_symbolic_trees.specs.Types.{PlainTy, class_type, PlainArg, given, PlainFieldRef}
use Rattle.bcj_symbolic_check.specs.Judgements.{Frame}
use Rattle.bcj_symbolic_check.specs.Typing as typing
use Rattle.bcj_symbolic_check.specs.Typing.{Each, each_of_none, each_of_more, IsFieldRef, At, Step, same, HasType, HaveRules}
use Rattle.bcj_decl_rules.specs.declared.value.Value.{Value}
use Rattle.bcj_decl_rules.specs.World.{Named, Field, world_of, field_in, field_with}
use Rattle.bcj_typing_rules.specs.declared.kind.Kind.TheVariants as kind
use Rattle.bcj_typing_rules.specs.Context.{Context}
use Rattle.bcj_typing_rules.specs.Casting.{uses}
use Rattle.bcj_typing_rules.specs.Expressions.{this_tree}
use Rattle.bcj_typing_rules.specs.Members.{finals_in, initialiser_context, Added, nothing_added, initialises, HasInitialiser, has_initialiser, unless_constant, Part, StaticPart, static_block, static_field, no_static_part, StaticParts, no_static_parts, more_static_parts, InstancePart, instance_field, no_instance_part, InstanceParts, no_instance_parts, more_instance_parts}
use Rattle.bcj_typing_soundness.specs.World.{IsKnown, IsSoundField, WorldIsSound, AreSoundSteps, Covers}
use Rattle.bcj_typing_soundness.specs.Frames.{IsSoundContext, Agrees, IsTyped, GoOn, AreRun}
use Rattle.bcj_typing_soundness.proofs.Expressions.{each_expression}
use Rattle.bcj_typing_soundness.proofs.Statements.{each_body}
use Rattle.bcj_typing_soundness.proofs.Steps.{none_sound, both_sound, covers_left, covers_right, fits_step, uses_sound}
use Rattle.bcj_typing_soundness.proofs.Variables.{met, is_field_ref, this_typed}
use Rattle.bcj_typing_soundness.proofs.Declared.{IsMemberOf, IsDeclaredType}
use Rattle.bcj_typing_soundness.proofs.Sound.{some_is, member_field_sound}
use Rattle.bcj_typing_soundness.proofs.Contexts.{IsFrameOf, body_sound, initialiser_agrees}

-- one list of statements behind another
pub rules_both : {frame : Frame} {looped : Bool} (xs ys : List tree.PlainStmt) → HaveRules frame looped (stmts_from xs) → HaveRules frame looped (stmts_from ys) → HaveRules frame looped (stmts_from (xs ++ ys))
rules_both [] ys h k = k
rules_both (x ∷ xs) ys (typing.more_stmts r h) k = typing.more_stmts r (rules_both xs ys h k)

-- statements that are put into bodies of the type, with or without `this`
pub record IsAdded (units : List PlainUnit) (t : PlainType) (is_static : Bool) (a : Added) : Type 0 where
  pub sound : AreSoundSteps (world_of units) a.steps
  pub rules : (frame : Frame) → IsFrameOf units t is_static frame → (not is_static ≡ true → At frame.locals 0 (class_type t.name)) → Covers frame.pairs a.steps
      → HaveRules frame false (stmts_from a.trees)

-- nothing is one
pub nothing_is_added : {units : List PlainUnit} {t : PlainType} {is_static : Bool} → IsAdded units t is_static nothing_added
nothing_is_added = record { sound = none_sound; rules = λ frame f g c. typing.no_stmts }

-- one behind the other
pub both_added : {units : List PlainUnit} {t : PlainType} {is_static : Bool} {a b : Added} → IsAdded units t is_static a → IsAdded units t is_static b
    → IsAdded units t is_static (record { trees = a.trees ++ b.trees; steps = a.steps ++ b.steps })
both_added {a = a} {b = b} x y = record {
  sound = both_sound x.sound y.sound;
  rules = λ frame f g c.
      rules_both a.trees b.trees (x.rules frame f g (covers_left a.steps b.steps c)) (y.rules frame f g (covers_right a.steps b.steps c));
}

-- a part of the class initialiser
pub record IsStaticPart (units : List PlainUnit) (t : PlainType) (types : List PlainTy) (p : Part) : Type 0 where
  pub goes_on : GoOn types p.types
  pub known : Each (IsKnown (world_of units)) types → Each (IsKnown (world_of units)) p.types
  pub sound : AreSoundSteps (world_of units) p.steps
  pub rules : (frame : Frame) → IsFrameOf units t true frame → frame.result ≡ None → GoOn p.types frame.locals → Covers frame.pairs p.steps → HaveRules frame false (stmts_from p.trees)

-- an assignment to the own field
set_typed : {frame : Frame} {r : PlainFieldRef} {v : tree.PlainExpr} {s : PlainArg} (b : Bool) → IsFieldRef r → (not b ≡ true → HasType frame this_tree (given (class_type r.class))) → HasType frame v s
    → Step frame.pairs s (given r.ty) → HasType frame (if b then tree.set_static r v else tree.set_field this_tree r v) (given r.ty)
set_typed true r h v s = typing.set_static r v s
set_typed false r h v s = typing.set_field r (h refl) same v s

module _ (units : List PlainUnit) (sound : WorldIsSound units) (before : List PlainType) (t : PlainType) (declared : IsDeclaredType units before t) where
  -- the context of an initialiser is sound
  initialiser_sound : (is_static : Bool) → IsSoundContext (initialiser_context units t.name is_static)
  initialiser_sound is_static = body_sound units sound before t declared is_static None (finals_in is_static) 0 [] each_of_none (λ r e. cc)

  -- the initialiser of a field
  field_added : (mods : Mods) (ty : TypeName) (name : Named) (e : source.PlainExpr) (a : Added) → IsSoundField (world_of units) (field_with t.interface t.name mods ty name) → IsFormedExpr e
      → HasInitialiser units (field_with t.interface t.name mods ty name) e a → IsAdded units t (field_with t.interface t.name mods ty name).is_static a
  field_added mods ty name e a fs formed (has_initialiser (initialises {t = x} {fits = fits} typed d) missing) =
      let f : Field = field_with t.interface t.name mods ty name in
      let c : Context = initialiser_context units t.name f.is_static in
      let s : IsSoundContext c = initialiser_sound f.is_static in
      let k : IsTyped c x = each_expression c e x s formed typed in
      let fit = d.0 (met kind.Assign fits [] missing).0 in
      record {
        sound = both_sound k.steps (uses_sound k.known (λ r. fs.ty) fit);
        rules = λ frame g h covers.
            let agrees : Agrees frame c = initialiser_agrees units sound before t declared frame f.is_static None (finals_in f.is_static) g h in
            typing.more_stmts
            (typing.evaluate
            (set_typed f.is_static (is_field_ref c s t.name f s.class fs) (λ n. this_typed c s agrees n) (k.has frame agrees (covers_left x.steps (uses x.type f.ty) covers))
            (fits_step fit (covers_right x.steps (uses x.type f.ty) covers))))
            typing.no_stmts;
      }

  -- a field that a member declares, with its initialiser
  member_added : (is_static : Bool) (at : ℕ) (mods : Mods) (ty : TypeName) (name : Named) (e : source.PlainExpr) (a : Added) (f : Field)
      → IsMemberOf units t (source.field_member at mods ty name (source.present e)) → field_in t.interface t.name (source.field_member at mods ty name (source.present e)) ≡ Some f
      → f.is_static ≡ is_static → HasInitialiser units f e a → IsAdded units t is_static a
  member_added is_static at mods ty name e a f k is =
      let own : Field = field_with t.interface t.name mods ty name in
      some_is (λ (g : Field). g.is_static ≡ is_static → HasInitialiser units g e a → IsAdded units t is_static a) is
      (λ i h.
      subst (λ b. IsAdded units t b a) i
      (field_added mods ty name e a (member_field_sound (source.field_member at mods ty name (source.present e)) k own refl) k.is.formed.2 h))

  -- ---- initialisers of objects

  -- of one member
  instance_added : (m : PlainMember) (a : Added) → IsMemberOf units t m → InstancePart units t m a → IsAdded units t false a
  instance_added m a k (no_instance_part e) = nothing_is_added
  instance_added m a k (instance_field {at = at} {mods = mods} {ty = ty} {name = name} {e = e} {f = f} is i h) = member_added false at mods ty name e a f k is i h

  -- of all members
  pub instances_added : (ms : List PlainMember) (a : Added) → Each (IsMemberOf units t) ms → InstanceParts units t ms a → IsAdded units t false a
  instances_added [] a k no_instance_parts = nothing_is_added
  instances_added (m ∷ ms) a (each_of_more k r) (more_instance_parts {a = x} {r = y} p q) = both_added (instance_added m x k p) (instances_added ms y r q)

  -- ---- the class initialiser

  -- a constant adds nothing
  unless_added : (v : Option Value) (a : Added) → IsAdded units t true a → IsAdded units t true (unless_constant v a)
  unless_added None a k = k
  unless_added (Some v) a k = nothing_is_added

  -- what adds no locals
  added_part : (types : List PlainTy) (a : Added) → IsAdded units t true a → IsStaticPart units t types (record { types = types; trees = a.trees; steps = a.steps })
  added_part types a k = record {
    goes_on = λ i s h. h;
    known = λ h. h;
    sound = k.sound;
    rules = λ frame f r g c. k.rules frame f (λ n. cc) c;
  }

  -- of one member
  static_part : (types : List PlainTy) (m : PlainMember) (p : Part) → IsMemberOf units t m → StaticPart units t types m p → IsStaticPart units t types p
  static_part types m p k (no_static_part e) = added_part types nothing_added nothing_is_added
  static_part types m p k (static_field {at = at} {mods = mods} {ty = ty} {name = name} {e = e} {f = f} {v = v} {a = a} is i h w) =
      added_part types (unless_constant v a) (unless_added v a (member_added true at mods ty name e a f k is i h))
  static_part types m p k (static_block {at = at} {body = body} {b = b} run) =
      let c : Context = initialiser_context units t.name true in
      let r : AreRun c types b = each_body c types body b (initialiser_sound true) k.is.formed run in
      record {
        goes_on = r.part.goes_on;
        known = r.part.known;
        sound = r.part.sound;
        rules = λ frame f result g covers.
            typing.more_stmts
            (typing.block
            (r.rules frame
            (record {
              agrees = initialiser_agrees units sound before t declared frame true None (finals_in true) f (λ n. cc);
              result = result;
              this_first = λ h. let wrong : true ≡ false = sym h ∙ f.this in absurd (cc);
              locals = g;
              pairs = covers;
            })))
            typing.no_stmts;
      }

  -- of all members
  pub static_parts : (types : List PlainTy) (ms : List PlainMember) (p : Part) → Each (IsMemberOf units t) ms → StaticParts units t types ms p → IsStaticPart units t types p
  static_parts types [] p k no_static_parts = added_part types nothing_added nothing_is_added
  static_parts types (m ∷ ms) p (each_of_more k r) (more_static_parts {p = x} {r = y} h q) =
      let first = static_part types m x k h in
      let rest = static_parts x.types ms y r q in
      record {
        goes_on = λ i s a. rest.goes_on i s (first.goes_on i s a);
        known = λ a. rest.known (first.known a);
        sound = both_sound first.sound rest.sound;
        rules = λ frame f result g covers.
            rules_both x.trees y.trees
            (first.rules frame f result (λ i s a. g i s (rest.goes_on i s a)) (covers_left x.steps y.steps covers))
            (rest.rules frame f result g (covers_right x.steps y.steps covers));
      }
