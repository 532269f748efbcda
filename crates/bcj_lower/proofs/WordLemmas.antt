-- Code that spells instructions is the list of their words.
use Rattle.std.proofs.Common.{◌≡◌, refl, ap, ◌∙◌, ℕ, List, [], ◌∷◌}
use Rattle.std.specs.List.{AllZip}
use Rattle.rv_isa.specs.declared.instruction.Instr.{Instr}
use Rattle.rv_isa.specs.Words.{Spells}
use Rattle.bcj_asm.specs.declared.item.Item.{Item}
use Rattle.bcj_asm.specs.Forms.{formed}
use Rattle.bcj_asm.specs.Assembly.{Assembles, instructions_of}
use Rattle.bcj_lower_rules.specs.Lines.{Line, items_of}
use Rattle.bcj_lower_rules.specs.Classes.{instruction_words, line_words}

-- words that spell instructions one by one are theirs
spelled : (is : List Instr) (code : List ℕ) → AllZip Spells is code → code ≡ instruction_words is
spelled [] [] h = refl
spelled [] (w ∷ ws) h = absurd h
spelled (i ∷ is) [] h = absurd h
spelled (i ∷ is) (w ∷ ws) h = λ k. h.0.word k ∷ spelled is ws h.1 k

-- what assembles the items of lines is the words of the lines
pub assembled-words : (lines : List Line) (items : List Item) (code : List ℕ) → items ≡ items_of lines → Assembles items code → code ≡ line_words lines
unfolding line_words
assembled-words lines items code e h =
    spelled (instructions_of (formed items)) code h ∙ ap (λ (is : List Item). instruction_words (instructions_of (formed is))) e
