-- What a node needs, each premise with its kind. A node has a rule where all that it needs is met; else it is at fault with the
-- earliest kind among those that aren't.
use Rattle.std.specs.Prelude.{ℕ, Bool, nat_lt, List, [], ◌∷◌, Option, None, Some, if◌then◌else◌}
use Rattle.bcj_typing_rules.specs.declared.kind.Kind.{Kind}
use Rattle.bcj_typing_rules.specs.declared.kind.Kind.TheVariants as kind

pub record Need : Type 0 where
  pub kind : Kind
  pub met : Bool

abbrev pub need : Kind → Bool → Need
need k met = record { kind = k; met = met }

-- the order of the kinds
abbrev pub rank : Kind → ℕ
rank kind.Name = 1
rank kind.Method = 2
rank kind.Ambiguous = 3
rank kind.Operand = 4
rank kind.Assign = 5
rank kind.Final = 6
rank kind.Static = 7
rank kind.Abstract = 8
rank kind.Cast = 9
rank kind.Condition = 10
rank kind.Return = 11
rank kind.Local = 12
rank kind.Jump = 13
rank kind.Literal = 14
rank kind.Throwable = 15
rank kind.Access = 16

abbrev pub earlier_kind : Kind → Option Kind → Kind
earlier_kind k None = k
earlier_kind k (Some l) = if nat_lt (rank l) (rank k) then l else k

-- the earliest kind of what isn't met; none where all is
abbrev pub earliest_missing : List Need → Option Kind
earliest_missing [] = None
earliest_missing (n ∷ ns) = if n.met then earliest_missing ns else Some (earlier_kind n.kind (earliest_missing ns))
