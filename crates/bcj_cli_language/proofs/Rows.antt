-- What some programs print, worked out by hand.
use Rattle.std.proofs.Common.{◌≡◌, ◌++◌, refl, Bool, negsuc}
use Rattle.std.specs.Prelude.{codes}
use Rattle.bcj_cli_language.specs.declared.tree.Operator.TheVariants.{Add, Mul}
use Rattle.bcj_cli_language.specs.declared.tree.Comparison.TheVariants.{Less}
use Rattle.bcj_cli_language.specs.Tree.{number, local, binary, print, declare, assign, repeat, Acts, nil, cons}
use Rattle.bcj_cli_language.specs.Meaning.{meaning, after_turns, printed, is_finished, line_end, line_of}
use Rattle.bcj_cli_language.specs.Bounds.{max_int}
use Rattle.std.specs.Fmt.{signed_decimal}

-- int i = 0; while (i < 3) { System.out.println(i); i = i + 1; }
abbrev counts : Acts
counts = cons (declare (codes "i") (number 0))
    (cons (repeat (record { comparison = Less; left = local (codes "i"); right = number 3 })
    (cons (print (local (codes "i"))) (cons (assign (codes "i") (binary Add (local (codes "i")) (number 1))) nil)))
    nil)

nine_turns : printed (meaning counts 9) ≡ (line_of 0 ++ line_of 1) ++ line_of 2
unfolding meaning after_turns
nine_turns = refl

nine_finish : is_finished (meaning counts 9) ≡ Bool.true
unfolding meaning after_turns
nine_finish = refl

eight_turns : printed (meaning counts 8) ≡ (line_of 0 ++ line_of 1) ++ line_of 2
unfolding meaning after_turns
eight_turns = refl

eight_stop : is_finished (meaning counts 8) ≡ Bool.false
unfolding meaning after_turns
eight_stop = refl

seven_turns : printed (meaning counts 7) ≡ line_of 0 ++ line_of 1
unfolding meaning after_turns
seven_turns = refl

-- System.out.println(65536 * 65536 + 2147483647 + 1);
wraps : printed (meaning (cons (print (binary Add (binary Add (binary Mul (number 65536) (number 65536)) (number max_int)) (number 1))) nil) 3)
    ≡ signed_decimal (negsuc max_int) ++ line_end
unfolding meaning after_turns
wraps = refl
