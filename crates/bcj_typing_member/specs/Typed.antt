-- The plain form of typed members.
use Rattle.std.specs.Prelude.{map, List}
use Rattle.bcj_symbolic_trees.specs.declared.statement.SymStmt.{SymStmt}
use Rattle.bcj_symbolic_trees.specs.Trees as tree
use Rattle.bcj_symbolic_trees.specs.Types.{types_of}
use Rattle.bcj_symbolic_trees.specs.Plain.{stmt_of}
use Rattle.bcj_symbolic_trees.specs.Units as symbolic
use Rattle.bcj_typing_rules.specs.Statements as statements
use Rattle.bcj_typing_rules.specs.Members as rules
use Rattle.bcj_typing_rules.specs.function.Members as function
use Rattle.bcj_typing_node.specs.Forms.{locals_of}
use Rattle.bcj_typing_node.specs.Typings.{pairs_of}
use Rattle.bcj_typing_member.specs.declared.typed.Added.{Added}
use Rattle.bcj_typing_member.specs.declared.typed.Body.{Body}
use Rattle.bcj_typing_member.specs.declared.typed.Made.{Made}
use Rattle.bcj_typing_member.specs.declared.typed.Constructor.{Constructor}
use Rattle.bcj_typing_member.specs.declared.typed.Members.{Members}
use Rattle.bcj_typing_member.specs.declared.typed.Making.{Making}
use Rattle.bcj_typing_member.specs.Gathered.{PlainMembers, PlainMaking}

abbrev pub trees_of : List SymStmt → List tree.PlainStmt
trees_of = map stmt_of

abbrev pub added_of : Added → rules.Added
added_of a = record { trees = trees_of a.trees; steps = pairs_of a.steps }

abbrev pub effects_of : Body → statements.Effects
effects_of b = record { locals = locals_of b.locals; types = types_of b.types; trees = trees_of b.trees; steps = pairs_of b.steps }

abbrev pub made_of : Made → rules.Made
made_of m = record { method = symbolic.method_of m.method; steps = pairs_of m.steps }

abbrev pub method_of : Made → function.TypedMember
method_of m = function.typed_method (made_of m)

abbrev pub constructor_of : Constructor → function.TypedMember
constructor_of c = function.typed_constructor c.is_private (types_of c.params) (added_of c.first) c.to_super (effects_of c.body)

abbrev pub members_of : Members → PlainMembers
members_of m =
    record {
      fields = map symbolic.field_of m.fields;
      types = types_of m.types;
      statics = added_of m.statics;
      instances = added_of m.instances;
      constructors = map constructor_of m.constructors;
      methods = map made_of m.methods;
    }

abbrev pub making_of : Making → PlainMaking
making_of m = record { methods = map symbolic.method_of m.methods; steps = pairs_of m.steps }
