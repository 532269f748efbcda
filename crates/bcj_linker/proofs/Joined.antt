-- The parts of an image, one put behind the other, are the image.
use Rattle.std.proofs.Common.{◌≡◌, ℕ, List, ◌++◌, ap, append_assoc}
use Rattle.std.specs.Prelude.{replicate}
use Rattle.bcj_hier_rules.specs.Shapes.{Named}
use Rattle.bcj_layout_rules.specs.Rows.{Classes, row_types}
use Rattle.bcj_linker_rules.specs.Start.{start_code_words}
use Rattle.bcj_linker_rules.specs.Memory.{Linked, classes_of, code_words, rows_from, dispatch_rows, tables, static_words, image_of}

-- six lists, each put behind what is there
regrouped : (first a b c d e f : List ℕ) → (((((first ++ a) ++ b) ++ c) ++ d) ++ e) ++ f ≡ first ++ (a ++ (b ++ (c ++ (d ++ (e ++ f)))))
regrouped first a b c d e f = simp append_assoc

-- what six steps put behind the first words
pub put_behind : (first a b c d e f w0 w1 w2 w3 w4 w5 w6 : List ℕ) → w0 ≡ first → w1 ≡ w0 ++ a → w2 ≡ w1 ++ b → w3 ≡ w2 ++ c → w4 ≡ w3 ++ d → w5 ≡ w4 ++ e → w6 ≡ w5 ++ f
    → w6 ≡ first ++ (a ++ (b ++ (c ++ (d ++ (e ++ f)))))
put_behind first a b c d e f w0 w1 w2 w3 w4 w5 w6 e0 e1 e2 e3 e4 e5 e6 = cc (regrouped first a b c d e f)

-- the image by the parts for the classes of its objects
pub image_by_parts : (ls : List Linked) (cs : Classes) (main : Named) → cs ≡ classes_of ls
    → replicate 4 0 ++ (start_code_words cs main ++ (code_words cs main 0 ls ++ (rows_from cs main 0 (row_types cs) ++ (dispatch_rows cs main ++ (tables cs main ++ static_words cs))))) ≡ image_of ls main
unfolding image_of
image_by_parts ls cs main whole =
    ap (λ c. replicate 4 0 ++ (start_code_words c main ++ (code_words c main 0 ls ++ (rows_from c main 0 (row_types c) ++ (dispatch_rows c main ++ (tables c main ++ static_words c)))))) whole
