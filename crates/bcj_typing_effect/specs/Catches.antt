-- The catches of a `try` in plain form (JLS 14.20), with the earliest kind of what they lack.
use Rattle.std.specs.Prelude.{List, [], ◌∷◌, ◌++◌, map, Option, None, Some}
use Rattle.bcj_symbolic_trees.specs.Trees as tree
use Rattle.bcj_symbolic_trees.specs.Plain.{catch_of}
use Rattle.bcj_symbolic_trees.specs.Units.{PlainPair}
use Rattle.bcj_typing_rules.specs.declared.kind.Kind.{Kind}
use Rattle.bcj_typing_rules.specs.Premises.{earlier_kind}
use Rattle.bcj_typing_node.specs.Typings.{pairs_of}
use Rattle.bcj_typing_effect.specs.declared.catching.Handled.{Handled}

pub record Handling : Type 0 where
  pub catches : List tree.PlainCatch
  pub steps : List PlainPair
  pub missing : Option Kind

abbrev pub handling : List tree.PlainCatch → List PlainPair → Option Kind → Handling
handling catches steps missing = record { catches = catches; steps = steps; missing = missing }

abbrev pub handling_of : Handled → Handling
handling_of h = handling (map catch_of h.catches) (pairs_of h.steps) h.missing

-- the earliest kind of two that are missing
abbrev pub earlier_of : Option Kind → Option Kind → Option Kind
earlier_of None other = other
earlier_of (Some k) other = Some (earlier_kind k other)

-- a catch behind others
abbrev pub handling_more : Handling → tree.PlainCatch → List PlainPair → Option Kind → Handling
handling_more h c steps missing = handling (h.catches ++ c ∷ []) (h.steps ++ steps) (earlier_of h.missing missing)
