-- The numbers of locals: from 0, in the order of their declarations in the text. No number is used again.
use Rattle.std.specs.Prelude.{ℕ, ◌+◌, List, [], ◌∷◌, if◌then◌else◌}
use Rattle.std.specs.Str.{bytes_eq}
use Rattle.bcj_cli_code.specs.declared.scope.Local.{Local}
use Rattle.bcj_cli_language.specs.Tree.{Act, print, declare, assign, choose, repeat, Acts, nil, cons}
use Rattle.bcj_cli_language.specs.Scopes.{declared_by}

-- the locals in scope, the one declared last first, and the number that is given next
pub record Frame : Type 0 where
  pub slots : List Local
  pub next : ℕ

abbrev pub slot_of : List Local → List ℕ → ℕ
slot_of [] x = 0
slot_of (s ∷ rest) x = if bytes_eq x s.name then s.number else slot_of rest x

-- a local of the next number comes into scope
abbrev pub with_local : Frame → List ℕ → Frame
with_local f x = record { slots = record { name = x; number = f.next } ∷ f.slots; next = f.next + 1 }

-- behind a statement
abbrev pub frame_after : Frame → Act → Frame
frame_after f (print e) = f
frame_after f (declare x e) = with_local f x
frame_after f (assign x e) = f
frame_after f (choose t a b) = record { slots = f.slots; next = f.next + declared_by (choose t a b) }
frame_after f (repeat t a) = record { slots = f.slots; next = f.next + declared_by (repeat t a) }

-- behind the statements of a block, before its locals go
abbrev pub frame_through : Frame → Acts → Frame
frame_through f nil = f
frame_through f (cons a rest) = frame_through (frame_after f a) rest
