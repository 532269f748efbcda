-- What a call says of the effect of statements, by the scope behind them.
use Rattle.std.specs.Prelude.{List, Result}
use Rattle.bcj_symbolic_trees.specs.Trees as tree
use Rattle.bcj_symbolic_trees.specs.Types.{PlainTy, types_of}
use Rattle.bcj_symbolic_trees.specs.Plain.{stmt_of}
use Rattle.bcj_symbolic_trees.specs.Units.{PlainPair}
use Rattle.bcj_typing_rules.specs.Statements.{Effect, Effects}
use Rattle.bcj_typing_rules.specs.function.Expressions.{Outcome, result, and_then}
use Rattle.bcj_typing_node.specs.declared.miss.Miss.{Miss}
use Rattle.bcj_typing_node.specs.Forms.{locals_of}
use Rattle.bcj_typing_node.specs.Typings.{pairs_of}
use Rattle.bcj_typing_node.specs.Outcomes.{Tells}
use Rattle.bcj_typing_scope.specs.declared.scope.Scope.{Scope}
use Rattle.bcj_typing_effect.specs.declared.act.Acted.{Acted}
use Rattle.bcj_typing_effect.specs.declared.act.Acting.{Acting}
use Rattle.bcj_typing_effect.specs.Acts.{trees_of}

-- a statement's effect, where the locals and types behind it are those of the scope
abbrev pub effect_at : Scope → Acted → Effect
effect_at s a = record { locals = locals_of s.locals; types = types_of s.types; tree = stmt_of a.tree; steps = pairs_of a.steps }

abbrev pub effects_at : Scope → Acting → Effects
effects_at s a = record { locals = locals_of s.locals; types = types_of s.types; trees = trees_of a; steps = pairs_of a.steps }

abbrev pub TellsEffect : Outcome Effect → Result Acted Miss → Scope → Type 0
TellsEffect o r s = Tells (effect_at s) o r

abbrev pub TellsEffects : Outcome Effects → Result Acting Miss → Scope → Type 0
TellsEffects o r s = Tells (effects_at s) o r

-- ---- a statement whose locals have left the scope

pub record Ending : Type 0 where
  pub types : List PlainTy
  pub tree : tree.PlainStmt
  pub steps : List PlainPair

abbrev pub ending : Effect → Ending
ending e = record { types = e.types; tree = e.tree; steps = e.steps }

abbrev pub ending_at : Scope → Acted → Ending
ending_at s a = record { types = types_of s.types; tree = stmt_of a.tree; steps = pairs_of a.steps }

abbrev pub ended : Outcome Effect → Outcome Ending
ended o = and_then o (λ e. result (ending e))

abbrev pub TellsEnd : Outcome Effect → Result Acted Miss → Scope → Type 0
TellsEnd o r s = Tells (ending_at s) (ended o) r
