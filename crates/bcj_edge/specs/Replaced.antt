-- What a list of bytes is once a slice that was lent of it is over.
use Rattle.std.specs.Prelude.{◌≡◌, ℕ, List, [], ◌++◌, length, take, drop}
use Rattle.std.specs.Borrow.{Lends, Fml, MutBor, Array, u8 as byte}
use Rattle.std.proofs.Common.{ap, ◌∙◌, arith}
use Rattle.std.proofs.lemmas.Grind.{common_steps}
use Rattle.std.proofs.lemmas.List.{length-take, length-append, length-drop}
use Rattle.std.proofs.Math.Seq.{drop-length}
use Rattle.bcj_edge.specs.contracts.byte_list.Bytes.{the_row}

-- others in the place of old, of old's length
abbrev pub replaced : List ℕ → List ℕ → List ℕ
replaced old others = take (length old) (others ++ drop (length others) old)

-- the slice r is all of the bytes s, and what it holds at its end takes their place
abbrev pub LendsAll : MutBor (List ℕ) → MutBor (List ℕ) → Fml
LendsAll s r = Lends the_row (Array byte 0) s r (replaced s.now)

-- the bytes keep their length, whatever the slice holds at its end
pub length_replaced : (old others : List ℕ) → length (replaced old others) ≡ length old
length_replaced old others =
    omega (
      arith,
      length-take (length old) (others ++ drop (length others) old),
      length-append others (drop (length others) old),
      length-drop (length others) old,
    )

-- a slice that keeps its length becomes the bytes as it stands at its end
pub replaced_same : (old others : List ℕ) → length others ≡ length old → replaced old others ≡ others
replaced_same old others same =
    let rest : drop (length others) old ≡ [] = ap (λ n. drop n old) same ∙ drop-length old in
    grind (arith, common_steps)
