-- The words that refusals name what is missing by, and what is too large.
use Rattle.std.specs.Prelude.{ℕ, List, codes}
use Rattle.bcj_typing_rules.specs.declared.kind.Kind.{Kind}
use Rattle.bcj_typing_rules.specs.declared.kind.Kind.TheVariants as kind
use Rattle.bcj_typing.specs.declared.stop.Limited.{Limited}
use Rattle.bcj_typing.specs.declared.stop.Limited.TheVariants as limited

abbrev pub kind_name : Kind → List ℕ
kind_name kind.Name = codes "name"
kind_name kind.Method = codes "method"
kind_name kind.Ambiguous = codes "ambiguous"
kind_name kind.Operand = codes "operand"
kind_name kind.Assign = codes "assign"
kind_name kind.Final = codes "final"
kind_name kind.Static = codes "static"
kind_name kind.Abstract = codes "abstract"
kind_name kind.Cast = codes "cast"
kind_name kind.Condition = codes "condition"
kind_name kind.Return = codes "return"
kind_name kind.Local = codes "local"
kind_name kind.Jump = codes "jump"
kind_name kind.Literal = codes "literal"
kind_name kind.Throwable = codes "throwable"
kind_name kind.Access = codes "access"

abbrev pub limit_name : Limited → List ℕ
limit_name limited.Frame = codes "frame"
limit_name limited.Method = codes "method"
limit_name limited.Object = codes "object"
