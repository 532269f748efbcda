use Rattle.std.proofs.Common.{◌≡◌, ◌/◌, ◌%◌, ◌==◌, ℕ, length, get_or, bit_or, sym, ap, ◌∙◌, arith, inl, inr}
use Rattle.std.proofs.lemmas.Bool.{cases_lt}
use Rattle.std.proofs.lemmas.List.{get_or_past}
use Rattle.std.specs.Int.{bit_at}
use Rattle.bcj_hier.proofs.Bits.{or_bit}
use Rattle.bcj_hier.proofs.rows.Row.put_all.Goals as goal

pub returns : goal.returns
returns c =
    let count : length c.args.self.now.words ≡ 64 = omega arith in
    let others : length c.args.other.now.words ≡ 64 = omega arith in
    let word : (k : ℕ) → get_or c.loop-k.self.words k 0 ≡ bit_or (get_or c.args.self.now.words k 0) (get_or c.args.other.now.words k 0) =
    λ k. elim (cases_lt k c.loop-k.k) [
      | inl few ↦ c.loop-k.invariant.done k few
      | inr many ↦
          let is_none : get_or c.args.self.now.words k 0 ≡ 0 = get_or_past c.args.self.now.words k 0 (omega arith) in
          let other_none : get_or c.args.other.now.words k 0 ≡ 0 = get_or_past c.args.other.now.words k 0 (omega arith) in
          c.loop-k.invariant.left k many ∙ (is_none ∙ (sym (ap (λ w. bit_or w 0) is_none) ∙ sym (ap (λ w. bit_or (get_or c.args.self.now.words k 0) w) other_none)))
    ] in
    λ j. ap (λ w. bit_at w (j % 64) == 1) (word (j / 64)) ∙ or_bit (get_or c.args.self.now.words (j / 64) 0) (get_or c.args.other.now.words (j / 64) 0) (j % 64)
