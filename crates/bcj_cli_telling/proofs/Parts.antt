-- What a sink took of a text in three parts.
use Rattle.std.proofs.Common.{ℕ, List, ◌++◌, Option}
use Rattle.bcj_edge.specs.Causes.{Appends, AppendsFront}
use Rattle.bcj_edge.specs.Pieces.{appends_twice, appends_then_front, front_of_front, front_of_whole, appends_nothing, front_of_nothing}

pub three_whole : (a b c d : Option (List ℕ)) (x y z : List ℕ) → Appends a b x → Appends b c y → Appends c d z → Appends a d (x ++ (y ++ z))
three_whole a b c d x y z p q r = appends_twice a b d x (y ++ z) p (appends_twice b c d y z q r)

pub two_and_front : (a b c d : Option (List ℕ)) (x y z : List ℕ) → Appends a b x → Appends b c y → AppendsFront c d z → AppendsFront a d (x ++ (y ++ z))
two_and_front a b c d x y z p q r = appends_then_front a b d x (y ++ z) p (appends_then_front b c d y z q r)

pub one_and_front : (a b c : Option (List ℕ)) (x y z : List ℕ) → Appends a b x → AppendsFront b c y → AppendsFront a c (x ++ (y ++ z))
one_and_front a b c x y z p q = appends_then_front a b c x (y ++ z) p (front_of_front b c y z q)

pub ruleset parts = (three_whole, two_and_front, one_and_front, front_of_front, front_of_whole, appends_nothing, front_of_nothing)
