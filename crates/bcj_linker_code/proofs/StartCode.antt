-- The start code, piece by piece.
use Rattle.std.proofs.Common.{◌≡◌, ℕ, ◌+◌, Bool, pos, List, ◌∷◌, ◌++◌, refl, ap, ◌∙◌, arith, append_assoc}
use Rattle.rv_isa.specs.declared.instruction.Instr.{Instr}
use Rattle.rv_isa.specs.declared.instruction.Instr.TheVariants as instr
use Rattle.rv_isa.specs.Registers.{ra, t1, a0}
use Rattle.rv_steps.specs.Services as services
use Rattle.bcj_lower_rules.specs.Words.{service_words}
use Rattle.bcj_hier_rules.specs.Shapes.{Named}
use Rattle.bcj_layout_rules.specs.Rows.{Classes}
use Rattle.bcj_layout_rules.specs.Places.{takes_arguments}
use Rattle.bcj_layout_places.specs.declared.places.Places.{Places}
use Rattle.bcj_layout_places.specs.Places.{ArePlaces}
use Rattle.bcj_linker_rules.specs.Start.{main_class_entry, arguments_entry, main_entry, use_at, address_in, initialise, arguments_where, fetch_at, start_code, start_code_words}
use Rattle.bcj_linker_code.specs.Instructions.{encoded}
use Rattle.bcj_linker_code.proofs.Encoded.{behind}

-- the method at t1 is called, and the run ends
abbrev pub run : List Instr
run = instr.Jalr ra t1 (pos 0) ∷ service_words services.exit

-- the start code for a main that takes arguments or doesn't, by its three entries
code : Bool → (class arguments method : ℕ) → List Instr
code takes class arguments method =
    use_at class ++ (use_at method ++ (address_in a0 class ++ (initialise ++ (arguments_where takes arguments ++ (fetch_at method ++ run)))))

-- it is that of the mixture
code_is : (cs : Classes) (main : Named) → code (takes_arguments cs main) (main_class_entry cs main) (arguments_entry cs main) (main_entry cs main) ≡ start_code cs main
unfolding code start_code
code_is cs main = refl

same_code : (takes other : Bool) (class arguments method c a m : ℕ) → takes ≡ other → class ≡ c → arguments ≡ a → method ≡ m → code takes class arguments method ≡ code other c a m
same_code takes other class arguments method c a m e f g h = cc

code_at : (cs : Classes) (main : Named) (p : Places) (arguments method : ℕ) → ArePlaces cs main p → arguments ≡ p.tables + 4 → method ≡ arguments + 4
    → code p.takes_arguments p.tables arguments method ≡ start_code cs main
code_at cs main p arguments method h one two =
    let second : method ≡ p.tables + 8 = omega (arith, one, two) in
    same_code _ _ _ _ _ _ _ _ h.arguments h.tables (one ∙ ap (λ t. t + 4) h.tables) (second ∙ ap (λ t. t + 8) h.tables) ∙ code_is cs main

-- one piece more
then : (before words more : List ℕ) (is js : List Instr) → words ≡ before ++ encoded is → more ≡ words ++ encoded js → more ≡ before ++ encoded (is ++ js)
then before words more is js e f = f ∙ ap (λ ws. ws ++ encoded js) e ∙ behind before is js

regroup : (a b c d e f g : List Instr) → (((((a ++ b) ++ c) ++ d) ++ e) ++ f) ++ g ≡ a ++ (b ++ (c ++ (d ++ (e ++ (f ++ g)))))
regroup a b c d e f g = simp append_assoc

-- all pieces
pieces : (w0 w1 w2 w3 w4 w5 w6 w7 : List ℕ) (takes : Bool) (class arguments method : ℕ)
    → w1 ≡ w0 ++ encoded (use_at class) → w2 ≡ w1 ++ encoded (use_at method) → w3 ≡ w2 ++ encoded (address_in a0 class) → w4 ≡ w3 ++ encoded initialise
    → w5 ≡ w4 ++ encoded (arguments_where takes arguments) → w6 ≡ w5 ++ encoded (fetch_at method) → w7 ≡ w6 ++ encoded run → w7 ≡ w0 ++ encoded (code takes class arguments method)
unfolding code
pieces w0 w1 w2 w3 w4 w5 w6 w7 takes class arguments method e1 e2 e3 e4 e5 e6 e7 =
    then w0 w6 w7 _ run
    (then w0 w5 w6 _ (fetch_at method)
    (then w0 w4 w5 _ (arguments_where takes arguments) (then w0 w3 w4 _ initialise (then w0 w2 w3 _ (address_in a0 class) (then w0 w1 w2 (use_at class) (use_at method) e1 e2) e3) e4) e5) e6) e7
    ∙ ap (λ is. w0 ++ encoded is) (regroup (use_at class) (use_at method) (address_in a0 class) initialise (arguments_where takes arguments) (fetch_at method) run)

-- the words of the start code
words_are : (cs : Classes) (main : Named) → encoded (start_code cs main) ≡ start_code_words cs main
unfolding encoded
words_are cs main = refl

-- the start code is put
pub start_put : (cs : Classes) (main : Named) (p : Places) (arguments method : ℕ) (w0 w1 w2 w3 w4 w5 w6 w7 : List ℕ) → arguments ≡ p.tables + 4 → method ≡ arguments + 4
    → w1 ≡ w0 ++ encoded (use_at p.tables) → w2 ≡ w1 ++ encoded (use_at method) → w3 ≡ w2 ++ encoded (address_in a0 p.tables) → w4 ≡ w3 ++ encoded initialise
    → w5 ≡ w4 ++ encoded (arguments_where p.takes_arguments arguments) → w6 ≡ w5 ++ encoded (fetch_at method) → w7 ≡ w6 ++ encoded run
    → ArePlaces cs main p → w7 ≡ w0 ++ start_code_words cs main
start_put cs main p arguments method w0 w1 w2 w3 w4 w5 w6 w7 one two e1 e2 e3 e4 e5 e6 e7 h =
    pieces w0 w1 w2 w3 w4 w5 w6 w7 p.takes_arguments p.tables arguments method e1 e2 e3 e4 e5 e6 e7
    ∙ ap (λ is. w0 ++ encoded is) (code_at cs main p arguments method h one two) ∙ ap (λ ws. w0 ++ ws) (words_are cs main)
