-- What a program prints within a number of turns (JLS 14, 15.17, 15.18, 15.20, 15.21). It knows names,
-- numbers and an environment. An `int` is its bits in two's complement, as a number from 0.
use Rattle.std.specs.Prelude.{ℕ, zero, suc, ◌+◌, ◌-◌, ◌*◌, ◌%◌, ◌^◌, Bool, not, List, [], ◌∷◌, ◌++◌, length, drop, if◌then◌else◌, int_lt, nat_eq, codes}
use Rattle.std.specs.Int.{w32, cast_signed}
use Rattle.std.specs.Fmt.{signed_decimal}
use Rattle.std.specs.Str.{bytes_eq}
use Rattle.bcj_cli_language.specs.declared.tree.Operator.{Operator}
use Rattle.bcj_cli_language.specs.declared.tree.Operator.TheVariants.{Add, Sub, Mul}
use Rattle.bcj_cli_language.specs.declared.tree.Comparison.{Comparison}
use Rattle.bcj_cli_language.specs.declared.tree.Comparison.TheVariants.{Less, LessEqual, Greater, GreaterEqual, Equal, NotEqual}
use Rattle.bcj_cli_language.specs.Tree.{Sum, number, local, binary, Test, Act, print, declare, assign, choose, repeat, Acts, nil, cons}

-- the locals with their values, the one declared last first
pub record Entry : Type 0 where
  pub name : List ℕ
  pub value : ℕ

abbrev pub Environment : Type 0
Environment = List Entry

abbrev pub value_at : Environment → List ℕ → ℕ
value_at [] x = 0
value_at (e ∷ rest) x = if bytes_eq x e.name then e.value else value_at rest x

abbrev pub assigned : Environment → List ℕ → ℕ → Environment
assigned [] x v = []
assigned (e ∷ rest) x v = if bytes_eq x e.name then (record { name = e.name; value = v }) ∷ rest else e ∷ assigned rest x v

-- the bits of an `int` (JLS 4.2.1)
abbrev pub int_bits : ℕ
int_bits = 32

-- arithmetic wraps (JLS 15.17.1, 15.18.2)
abbrev pub applied : Operator → ℕ → ℕ → ℕ
applied Add a b = (a + b) % 2 ^ int_bits
applied Sub a b = (a + (2 ^ int_bits - b)) % 2 ^ int_bits
applied Mul a b = (a * b) % 2 ^ int_bits

abbrev pub is_less : ℕ → ℕ → Bool
is_less a b = int_lt (cast_signed w32 a) (cast_signed w32 b)

abbrev pub compared : Comparison → ℕ → ℕ → Bool
compared Less a b = is_less a b
compared LessEqual a b = not (is_less b a)
compared Greater a b = is_less b a
compared GreaterEqual a b = not (is_less a b)
compared Equal a b = nat_eq a b
compared NotEqual a b = not (nat_eq a b)

abbrev pub value_of : Environment → Sum → ℕ
value_of env (number n) = n
value_of env (local x) = value_at env x
value_of env (binary op a b) = applied op (value_of env a) (value_of env b)

abbrev pub is_met : Environment → Test → Bool
is_met env t = compared t.comparison (value_of env t.left) (value_of env t.right)

abbrev pub line_end : List ℕ
line_end = codes "\n"

-- the decimal digits behind `-` where negative, and a line end
abbrev pub line_of : ℕ → List ℕ
line_of v = signed_decimal (cast_signed w32 v) ++ line_end

-- the turns that are left, and the bytes printed so far
pub record World : Type 0 where
  pub turns : ℕ
  pub out : List ℕ

-- how a statement ends: it goes on, or no turn was left
pub data End : Type 0 where
  Goes : Environment → World → End
  Stops : World → End

-- where a statement goes on, what comes then
abbrev pub continued : End → (Environment → World → End) → End
continued (Goes env w) next = next env w
continued (Stops w) next = Stops w

-- a turn is spent, where one is left
abbrev pub spend : ℕ → World → (World → End) → End
spend zero w next = Stops w
spend (suc n) w next = next (record { turns = n; out = w.out })

-- at a block's end its own locals go
abbrev pub leave : Environment → End → End
leave outer (Goes env w) = Goes (drop (length env - length outer) env) w
leave outer (Stops w) = Stops w

-- what statements do, where `again` says what a loop does behind its next turn
module _ (again : Act → Environment → World → End) where
  abbrev mutual
    pub act_end : Act → Environment → World → End
    act_end (print e) env w = spend w.turns w (λ v. Goes env (record { turns = v.turns; out = v.out ++ line_of (value_of env e) }))
    act_end (declare x e) env w = Goes (record { name = x; value = value_of env e } ∷ env) w
    act_end (assign x e) env w = Goes (assigned env x (value_of env e)) w
    act_end (choose t a b) env w = leave env (if is_met env t then acts_end a env w else acts_end b env w)
    act_end (repeat t a) env w = spend w.turns w (λ v. if is_met env t then continued (leave env (acts_end a env v)) (again (repeat t a)) else Goes env v)

    pub acts_end : Acts → Environment → World → End
    acts_end nil env w = Goes env w
    acts_end (cons a rest) env w = continued (act_end a env w) (acts_end rest)

-- the same, where a loop makes at most n + 1 turns; with no more turns than that left in the world, it
-- never comes to the last line
unfoldable pub after_turns : ℕ → Act → Environment → World → End
after_turns zero a env w = Stops w
after_turns (suc n) a env w = act_end (after_turns n) a env w

-- a run spends a turn for the class initialiser and one for `main`
unfoldable pub meaning : Acts → ℕ → End
meaning body turns = spend turns (record { turns = turns; out = [] })
    (λ v. spend v.turns v (λ w. acts_end (after_turns turns) body [] w))

abbrev pub printed : End → List ℕ
printed (Goes env w) = w.out
printed (Stops w) = w.out

abbrev pub is_finished : End → Bool
is_finished (Goes env w) = Bool.true
is_finished (Stops w) = Bool.false
